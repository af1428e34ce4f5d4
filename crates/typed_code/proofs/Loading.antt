-- LOAD: a turn for each cell, and the return.
use Rattle.std.proofs.Common.{◌≡◌, ℕ, suc, ◌+◌, ◌*◌, ◌≤◌, ◌<◌, ◌==◌, ⊎_elim, false, List, [], ◌∷◌, length, Some, refl, sym, ap, ◌∙◌, arith}
use Rattle.std.specs.Prelude.{slice_index}
use Rattle.std.proofs.lemmas.Bool.Decides.{eqb_tells}
use Rattle.cell_math.specs.Cell.{flag}
use Rattle.typed_code.specs.MachineCode.{user_cells, load_more, load, load_more_code, load_code, HasMachineCode, StandUp}
use Rattle.typed_code.specs.Standing.{Surroundings, called_from, place_of, Leads}
use Rattle.typed_code.proofs.Instructions.{literal, dup, drop, summed, compared, shifted, fetch, branch_taken, branch_passed, returned}
use Rattle.typed_code.proofs.Memory.{instruction, in_data}
use Rattle.typed_code.proofs.Joins.{Laws, recount, joined, counted}

pub differ : (a b : ℕ) → a < b → flag (a == b) ≡ 0
differ a b lt = ⊎_elim (λ t. absurd (omega (arith, t.1))) (λ t. ap flag t.0) (eqb_tells a b)

equal : (a b : ℕ) → a ≡ b → flag (a == b) ≡ 0xffff
equal a b e = ⊎_elim (λ t. ap flag t.0) (λ t. absurd (t.1 e)) (eqb_tells a b)

module _ (laws : Laws) (memory : List ℕ) (high return_high n : ℕ) (has : HasMachineCode memory) (number : slice_index memory user_cells ≡ n) (small : n ≤ 31) (within : n + 3 ≤ high) where
  module _ (s : Surroundings) (deep : length s.returns ≤ return_high) where
    -- up to the comparison
    head : (c : List ℕ) (v : ℕ) → length c ≤ n → flag (length c == n) ≡ v → Leads 7 high return_high load c memory s (load + 7) (v ∷ length c ∷ c) memory s []
    head c v le e da ra =
        let k = length c in
        let at = instruction memory load_code load has.load_cells in
        joined laws 3 4 (counted laws memory s high return_high deep load c (at 0 refl) (at 1 refl) (at 2 refl) (omega arith) (omega arith) da ra) (λ da ra.
        joined laws 1 3 (dup memory s high return_high deep (load + 3) k c da ra (at 3 refl) (omega arith)) (λ da ra.
        joined laws 1 2 (literal memory s high return_high deep (load + 4) (2 * user_cells) (k ∷ k ∷ c) da ra (at 4 refl) (omega arith)) (λ da ra.
        joined laws 1 1 (fetch memory s high return_high deep (load + 5) (2 * user_cells) user_cells n (k ∷ k ∷ c) da ra (at 5 refl) (omega arith) refl number) (λ da ra.
        compared memory s high return_high deep (load + 6) n k v (k ∷ c) da ra (at 6 refl) (omega arith) e))))

    -- one cell more
    turn : (x : ℕ) (c : List ℕ) → length c < n → slice_index memory (user_cells + suc (length c)) ≡ x → Leads 13 high return_high load c memory s load (x ∷ c) memory s []
    turn x c lt e da ra =
        let k = length c in
        let at = instruction memory load_more_code load_more has.load_more_cells in
        let place : user_cells + suc k ≡ 4252 + k = omega arith in
        joined laws 7 6 (head c 0 (omega arith) (differ k n lt) da ra) (λ da ra.
        joined laws 1 5 (branch_taken memory s high return_high deep (load + 7) load_more 0 (k ∷ c) da ra (instruction memory load_code load has.load_cells 7 refl) (omega arith) refl) (λ da ra.
        joined laws 1 4 (literal memory s high return_high deep load_more 1 (k ∷ c) da ra (at 0 refl) (omega arith)) (λ da ra.
        joined laws 1 3 (shifted memory s high return_high deep (load_more + 1) 1 k (2 * k) c da ra (at 1 refl) (omega arith) (omega arith)) (λ da ra.
        joined laws 1 2 (literal memory s high return_high deep (load_more + 2) 8504 (2 * k ∷ c) da ra (at 2 refl) (omega arith)) (λ da ra.
        joined laws 1 1 (summed memory s high return_high deep (load_more + 3) 8504 (2 * k) (2 * (4252 + k)) c da ra (at 3 refl) (omega arith) (omega arith)) (λ da ra.
        fetch memory s high return_high deep (load_more + 4) (2 * (4252 + k)) (4252 + k) x c da ra (at 4 refl) (omega arith)
        (in_data false (4252 + k) (omega arith) (omega arith)) (ap (slice_index memory) (sym place) ∙ e)))))))

    turns : (c : List ℕ) → StandUp memory c → length c ≤ n → Leads (13 * length c) high return_high load [] memory s load c memory s []
    turns [] stand le da ra = record { data_above = da; return_above = ra; makes = refl; bounds = tt }
    turns (x ∷ c) stand le da ra =
        recount (13 * length c + 13) (13 * length (x ∷ c)) high return_high _ load (x ∷ c) memory s [] (omega arith)
        (joined laws (13 * length c) 13 (turns c stand.1 (omega arith) da ra) (λ da ra. turn x c (omega arith) stand.0 da ra))

  -- all of LOAD, from a call
  pub loads : (c : List ℕ) (address : ℕ) (s : Surroundings) → length s.returns + 1 ≤ return_high → StandUp memory c → length c ≡ n →
      Leads (13 * length c + 10) high return_high load [] memory (called_from address s) (place_of address) c memory s (Some address ∷ [])
  loads c address s deep stand e da ra =
      let k = length c in
      let under : length (called_from address s).returns ≤ return_high = omega arith in
      let at = instruction memory load_code load has.load_cells in
      joined laws (13 * k) 10 (turns (called_from address s) under c stand (omega arith) da ra) (λ da ra.
      joined laws 7 3 (head (called_from address s) under c 0xffff (omega arith) (equal k n e) da ra) (λ da ra.
      joined laws 1 2 (branch_passed memory (called_from address s) high return_high under (load + 7) load_more 0xffff (k ∷ c) da ra (at 7 refl) (omega arith) refl) (λ da ra.
      joined laws 1 1 (drop memory (called_from address s) high return_high under (load + 8) k c da ra (at 8 refl) (omega arith)) (λ da ra.
      returned memory s high return_high address (load + 9) c da ra deep (at 9 refl) (omega arith)))))
