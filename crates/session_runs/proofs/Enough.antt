-- How many steps of a session are enough.
use Rattle.std.proofs.Common.{◌≡◌, ℕ, zero, suc, ◌+◌, ◌*◌, ◌≤◌, List, [], ◌∷◌, ◌++◌, length, ap, sym, subst, arith, add-mul}
use Rattle.std.proofs.Math.Nat.{mul-le-mul_left}
use Rattle.std.proofs.lemmas.Grind.{common_steps}
use Rattle.session_machine.specs.Lines.{bytes_of_lines}
use Rattle.session_machine.specs.Session.{session_run}
use Rattle.session_machine.specs.Laws.{reading_steps, TakesFewSteps, SessionsTakeFewSteps}
use Rattle.session_runs.specs.Laws.{FewStepsAreEnough}

line_bytes : (line : List ℕ) (rest : List ℕ) → length (line ++ 10 ∷ rest) ≡ length line + suc (length rest)
line_bytes line rest = grind (arith, common_steps)

few_a_line : (lines : List (List ℕ)) → reading_steps lines ≤ 2 * length (bytes_of_lines lines)
few_a_line [] = omega arith
few_a_line (line ∷ lines) =
    let h : reading_steps lines ≤ 2 * length (bytes_of_lines lines) = few_a_line lines in
    let e : length (line ++ 10 ∷ bytes_of_lines lines) ≡ length line + suc (length (bytes_of_lines lines)) =
    line_bytes line (bytes_of_lines lines) in
    few_with (length line) (reading_steps lines) (length (bytes_of_lines lines)) (length (line ++ 10 ∷ bytes_of_lines lines)) h e
  where
    few_with : (l r b c : ℕ) → r ≤ 2 * b → c ≡ l + suc b → l + 2 + r ≤ 2 * c
    few_with l r b c h e = omega (arith, h, e)

few_of_part : (taken rest : List (List ℕ)) → reading_steps taken ≤ reading_steps (taken ++ rest)
few_of_part [] rest = omega arith
few_of_part (line ∷ taken) rest = let h : reading_steps taken ≤ reading_steps (taken ++ rest) = few_of_part taken rest in
    few_with (length line) (reading_steps taken) (reading_steps (taken ++ rest)) h
  where
    few_with : (l a b : ℕ) → a ≤ b → l + 2 + a ≤ l + 2 + b
    few_with l a b h = omega (arith, h)

enough_for : (n b : ℕ) → 1 ≤ n → n + 2 * b + 1 ≤ (n + 1) * (b + 4)
enough_for zero b h = absurd (omega (arith, h))
enough_for (suc m) b h =
    let p : (suc m + 1) * (b + 4) ≡ suc m * (b + 4) + 1 * (b + 4) = add-mul (suc m) 1 (b + 4) in
    let q : (m + 1) * (b + 4) ≡ m * (b + 4) + 1 * (b + 4) = add-mul m 1 (b + 4) in
    let r : m * 1 ≤ m * (b + 4) = mul-le-mul_left m (omega arith) in
    let e : suc m * (b + 4) ≡ (m + 1) * (b + 4) = ap (λ x. x * (b + 4)) (one_more m) in
    omega (arith, p, q, r, e)
  where
    one_more : (m : ℕ) → suc m ≡ m + 1
    one_more m = omega arith

pub enough : SessionsTakeFewSteps → FewStepsAreEnough
enough few lines k n running words some =
    let f : TakesFewSteps lines k = few lines k running in
    let part : reading_steps f.taken ≤ reading_steps lines = part_of lines f.taken (session_run lines k).lines f.begin in
    let all : reading_steps lines ≤ 2 * length (bytes_of_lines lines) = few_a_line lines in
    let far : n + 2 * length (bytes_of_lines lines) + 1 ≤ (n + 1) * (length (bytes_of_lines lines) + 4) =
    enough_for n (length (bytes_of_lines lines)) some in
    let steps = f.steps in
    omega (arith, part, all, far, steps, words)
  where
    part_of : (lines taken rest : List (List ℕ)) → lines ≡ taken ++ rest → reading_steps taken ≤ reading_steps lines
    part_of lines taken rest e = subst (λ xs. reading_steps taken ≤ reading_steps xs) (sym e) (few_of_part taken rest)
