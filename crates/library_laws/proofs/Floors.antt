-- /MOD / MOD */MOD */
use Rattle.std.proofs.Common.{◌≡◌, ℕ, zero, suc, ◌+◌, ◌-◌, ◌*◌, ◌/◌, ◌%◌, ◌≤◌, ◌<◌, List, [], ◌∷◌, refl, ap, arith, le-ltb, lt-ltb}
use Rattle.std.specs.Prelude.{Some, None, ℤ, pos, negsuc, neg_ℤ, ◌*ℤ◌}
use Rattle.cell_math.specs.Cell.{signed, signed_double, double_of, low_cell, high_cell}
use Rattle.cell_math.specs.Divisions.{Division, floored_division}
use Rattle.word_table.specs.declared.word.Word.{Word}
use Rattle.word_table.specs.declared.word.Word.TheVariants.{SlashMod, Slash, Mod, StarSlashMod, StarSlash, Swap, DropTop}
use Rattle.forth_program.specs.Tree.{Plain}
use Rattle.forth_program.specs.State.{Todo, World, Frame}
use Rattle.forth_program.specs.Program.{SourceProgram}
use Rattle.forth_program.specs.Step.{step, on_cells}
use Rattle.forth_program.specs.Meaning.{both, quotient_only, rest_only}
use Rattle.library_laws.proofs.BodySteps.{body_steps, body_spent, next_price}
use Rattle.library_laws.specs.Bodies.{body_of_word}
use Rattle.library_laws.specs.Library.{finished, DefinitionDoes}
use Rattle.library_laws.proofs.Comes.{Comes, by_way, by_step, last_step, last_reply, at_once, meant_by}
use Rattle.library_laws.proofs.Cells.{by_sign, signed_small, signed_large}

-- whole numbers that a signed double holds
abbrev Fits : ℤ → Type 0
Fits (pos n) = n < 2147483648
Fits (negsuc n) = n < 2147483648

double_back : (z : ℤ) → Fits z → signed_double (low_cell (double_of z)) (high_cell (double_of z)) ≡ z
double_back (pos n) h = rw (lt-ltb (n % 4294967296 / 65536 % 65536) 32768 (omega (arith, h))) (ap pos (omega (arith, h)))
double_back (negsuc n) h = rw (le-ltb ((4294967295 - n % 4294967296) / 65536 % 65536) 32768 (omega (arith, h))) (ap negsuc (omega (arith, h)))

negative_fits : (n : ℕ) → n ≤ 2147483648 → Fits (neg_ℤ (pos n))
negative_fits zero h = omega arith
negative_fits (suc n) h = omega (arith, h)

signed_fits : (x : ℕ) → x < 65536 → Fits (signed x)
signed_fits x h = by_sign x (λ k. rw (signed_small x k) (omega (arith, k))) (λ k. rw (signed_large x k) (omega (arith, k)))

below : (x y : ℕ) → x ≤ 32768 → y ≤ 32768 → x * y ≤ 1073741824
below x y h k = grind arith

product_fits : (x y : ℕ) → x < 65536 → y < 65536 → Fits (signed x *ℤ signed y)
product_fits x y hx hy = by_sign x
    (λ xs. by_sign y
    (λ ys. rw (signed_small x xs, signed_small y ys) (let b = below x y (omega (arith, xs)) (omega (arith, ys)) in omega (arith, b)))
    (λ yl. rw (signed_small x xs, signed_large y yl) (negative_fits _ (let b = below x (suc (65535 - y)) (omega (arith, xs)) (omega (arith, yl)) in omega (arith, b)))))
    (λ xl. by_sign y
    (λ ys. rw (signed_large x xl, signed_small y ys) (negative_fits _ (let b = below (suc (65535 - x)) y (omega (arith, xl)) (omega (arith, ys)) in omega (arith, b))))
    (λ yl. rw (signed_large x xl, signed_large y yl) (let b = below (suc (65535 - x)) (suc (65535 - y)) (omega (arith, xl)) (omega (arith, yl)) in omega (arith, b))))

pub slash_mod : DefinitionDoes (body_of_word SlashMod) SlashMod
unfolding step body_steps body_spent
slash_mod p callers (m ∷ n ∷ c) w need cells world = meant_by 3205 (omega arith) refl need (by_way p 3 3200 refl (omega arith)
    (last_reply p callers _ _ _ _ _ _ 3200 refl (ap (λ z. both (floored_division z (signed m)) c w) (double_back (signed n) (signed_fits n cells.1.0))) refl (omega arith)))
slash_mod p callers c w need cells world = let no : ⊥ = omega (arith, need) in absurd no

pub star_slash_mod : DefinitionDoes (body_of_word StarSlashMod) StarSlashMod
unfolding step body_steps body_spent
star_slash_mod p callers (k ∷ m ∷ n ∷ c) w need cells world = meant_by 4602 (omega arith) refl need (by_way p 3 3200 refl (omega arith)
    (last_reply p callers _ _ _ _ _ _ 3200 refl (ap (λ z. both (floored_division z (signed k)) c w) (double_back (signed n *ℤ signed m) (product_fits n m cells.1.1.0 cells.1.0))) refl (omega arith)))
star_slash_mod p callers c w need cells world = let no : ⊥ = omega (arith, need) in absurd no

-- a word that gives both parts of a division, and then the quotient alone or the remainder alone
module _ (p : SourceProgram) (callers : List Frame) (w w' : World) (c c' c'' : List ℕ) (word : Word) (price : ℕ) where
  quotient_left : (d : Division) →
      step p (record { work = Todo (Plain word) ∷ Todo (Plain Swap) ∷ Todo (Plain DropTop) ∷ []; entries = []; callers = callers; cells = c; world = w })
      ≡ on_cells (both d c' w) (record { work = Todo (Plain Swap) ∷ Todo (Plain DropTop) ∷ []; entries = []; callers = callers; cells = c; world = w }) →
      next_price (record { work = Todo (Plain word) ∷ Todo (Plain Swap) ∷ Todo (Plain DropTop) ∷ []; entries = []; callers = callers; cells = c; world = w }) ≡ Some price →
      Comes p (price + 2) (record { work = Todo (Plain word) ∷ Todo (Plain Swap) ∷ Todo (Plain DropTop) ∷ []; entries = []; callers = callers; cells = c; world = w }) (on_cells (quotient_only d c' w) (finished callers c'' w'))
  unfolding step body_steps body_spent
  quotient_left None e paid = last_step p price e paid (omega arith)
  quotient_left (Some parts) e paid = by_step p price 2 e paid (omega arith) (at_once p 2 refl (omega arith))

  rest_left : (d : Division) →
      step p (record { work = Todo (Plain word) ∷ Todo (Plain DropTop) ∷ []; entries = []; callers = callers; cells = c; world = w })
      ≡ on_cells (both d c' w) (record { work = Todo (Plain DropTop) ∷ []; entries = []; callers = callers; cells = c; world = w }) →
      next_price (record { work = Todo (Plain word) ∷ Todo (Plain DropTop) ∷ []; entries = []; callers = callers; cells = c; world = w }) ≡ Some price →
      Comes p (price + 1) (record { work = Todo (Plain word) ∷ Todo (Plain DropTop) ∷ []; entries = []; callers = callers; cells = c; world = w }) (on_cells (rest_only d c' w) (finished callers c'' w'))
  unfolding step body_steps body_spent
  rest_left None e paid = last_step p price e paid (omega arith)
  rest_left (Some parts) e paid = by_step p price 1 e paid (omega arith) (at_once p 1 refl (omega arith))

pub slash : DefinitionDoes (body_of_word Slash) Slash
unfolding step
slash p callers (m ∷ n ∷ c) w need cells world = meant_by 3602 (omega arith) refl need (quotient_left p callers w _ _ c _ SlashMod 3600 (floored_division (signed n) (signed m)) refl refl)
slash p callers c w need cells world = let no : ⊥ = omega (arith, need) in absurd no

pub modulus : DefinitionDoes (body_of_word Mod) Mod
unfolding step
modulus p callers (m ∷ n ∷ c) w need cells world = meant_by 3601 (omega arith) refl need (rest_left p callers w _ _ c _ SlashMod 3600 (floored_division (signed n) (signed m)) refl refl)
modulus p callers c w need cells world = let no : ⊥ = omega (arith, need) in absurd no

pub star_slash : DefinitionDoes (body_of_word StarSlash) StarSlash
unfolding step
star_slash p callers (k ∷ m ∷ n ∷ c) w need cells world = meant_by 5202 (omega arith) refl need (quotient_left p callers w _ _ c _ StarSlashMod 5200 (floored_division (signed n *ℤ signed m) (signed k)) refl refl)
star_slash p callers c w need cells world = let no : ⊥ = omega (arith, need) in absurd no
