-- SAVE: the number of cells, a turn for each, and the return.
use Rattle.std.proofs.Common.{◌≡◌, ℕ, suc, ◌+◌, ◌*◌, ◌≤◌, ◌<◌, ◌==◌, ⊎_elim, true, false, List, [], ◌∷◌, length, Some, refl, arith}
use Rattle.std.specs.Prelude.{slice_set}
use Rattle.std.proofs.lemmas.Bool.Decides.{eqb_tells}
use Rattle.typed_code.specs.MachineCode.{user_cells, drop_return, save, save_cells, drop_return_code, save_code, save_cells_code, HasMachineCode, with_cells, saved}
use Rattle.typed_code.specs.Standing.{Surroundings, called_from, place_of, Leads}
use Rattle.typed_code.proofs.Instructions.{literal, dup, drop, summed, shifted, store, jump, branch_taken, branch_passed, returned}
use Rattle.typed_code.proofs.Memory.{instruction, in_data, code_kept}
use Rattle.typed_code.proofs.Joins.{Laws, recount, joined, counted}

not_zero : (n : ℕ) → (suc n == 0) ≡ false
not_zero n = ⊎_elim (λ t. absurd (omega (arith, t.1))) (λ t. t.0) (eqb_tells (suc n) 0)

module _ (laws : Laws) (high return_high : ℕ) where
  module _ (memory : List ℕ) (has : HasMachineCode memory) (s : Surroundings) (deep : length s.returns ≤ return_high) where
    -- up to the branch
    head : (c : List ℕ) → length c ≤ 31 → length c + 2 ≤ high → Leads 4 high return_high save_cells c memory s (save_cells + 4) (length c ∷ length c ∷ c) memory s []
    head c small within da ra =
        let at = instruction memory save_cells_code save_cells has.save_cells_more in
        joined laws 3 1 (counted laws memory s high return_high deep save_cells c (at 0 refl) (at 1 refl) (at 2 refl) small within da ra) (λ da ra.
        dup memory s high return_high deep (save_cells + 3) (length c) c da ra (at 3 refl) (omega arith))

    -- one cell less
    turn : (x : ℕ) (c : List ℕ) → length c < 31 → length c + 3 ≤ high →
        Leads 12 high return_high save_cells (x ∷ c) memory s save_cells c (slice_set memory (user_cells + length (x ∷ c)) x) s []
    turn x c small within da ra =
        let k = length (x ∷ c) in
        let place = user_cells + k in
        let after = slice_set memory place x in
        let kept : HasMachineCode after = code_kept memory place x (omega arith) has in
        let at = instruction memory save_cells_code save_cells has.save_cells_more in
        let then = instruction after save_cells_code save_cells kept.save_cells_more in
        joined laws 4 8 (head (x ∷ c) (omega arith) (omega arith) da ra) (λ da ra.
        joined laws 1 7 (branch_passed memory s high return_high deep (save_cells + 4) drop_return k (k ∷ x ∷ c) da ra (at 4 refl) (omega arith) (not_zero (length c))) (λ da ra.
        joined laws 1 6 (literal memory s high return_high deep (save_cells + 5) 1 (k ∷ x ∷ c) da ra (at 5 refl) (omega arith)) (λ da ra.
        joined laws 1 5 (shifted memory s high return_high deep (save_cells + 6) 1 k (2 * k) (x ∷ c) da ra (at 6 refl) (omega arith) (omega arith)) (λ da ra.
        joined laws 1 4 (literal memory s high return_high deep (save_cells + 7) (2 * user_cells) (2 * k ∷ x ∷ c) da ra (at 7 refl) (omega arith)) (λ da ra.
        joined laws 1 3 (summed memory s high return_high deep (save_cells + 8) (2 * user_cells) (2 * k) (2 * place) (x ∷ c) da ra (at 8 refl) (omega arith) (omega arith)) (λ da ra.
        joined laws 1 2 (store memory s high return_high deep (save_cells + 9) (2 * place) place x c da ra (at 9 refl) (omega arith) (in_data true place (omega arith) (omega arith))) (λ da ra.
        joined laws 1 1 (drop after s high return_high deep (save_cells + 10) (2 * place) c da ra (then 10 refl) (omega arith)) (λ da ra.
        jump after s high return_high deep (save_cells + 11) save_cells c da ra (then 11 refl) (omega arith)))))))))

  -- no cell is left
  last : (memory : List ℕ) → HasMachineCode memory → (address : ℕ) (s : Surroundings) → length s.returns + 1 ≤ return_high → 2 ≤ high →
      Leads 7 high return_high save_cells [] memory (called_from address s) (place_of address) [] memory s (Some address ∷ [])
  last memory has address s deep within da ra =
      let under : length (called_from address s).returns ≤ return_high = omega arith in
      let at = instruction memory drop_return_code drop_return has.drop_return_cells in
      let branch = instruction memory save_cells_code save_cells has.save_cells_more 4 refl in
      joined laws 4 3 (head memory has (called_from address s) under [] (omega arith) (omega arith) da ra) (λ da ra.
      joined laws 1 2 (branch_taken memory (called_from address s) high return_high under (save_cells + 4) drop_return 0 (0 ∷ []) da ra branch (omega arith) refl) (λ da ra.
      joined laws 1 1 (drop memory (called_from address s) high return_high under drop_return 0 [] da ra (at 0 refl) (omega arith)) (λ da ra.
      returned memory s high return_high address (drop_return + 1) [] da ra deep (at 1 refl) (omega arith))))

  turns : (c memory : List ℕ) → HasMachineCode memory → (address : ℕ) (s : Surroundings) → length s.returns + 1 ≤ return_high → length c ≤ 31 → length c + 2 ≤ high →
      Leads (12 * length c + 7) high return_high save_cells c memory (called_from address s) (place_of address) [] (with_cells c memory) s (Some address ∷ [])
  turns [] memory has address s deep small within da ra = last memory has address s deep within da ra
  turns (x ∷ c) memory has address s deep small within da ra =
      let place = user_cells + length (x ∷ c) in
      let under : length (called_from address s).returns ≤ return_high = omega arith in
      recount (12 + (12 * length c + 7)) (12 * length (x ∷ c) + 7) high return_high _ (place_of address) [] (with_cells (x ∷ c) memory) s (Some address ∷ []) (omega arith)
      (joined laws 12 (12 * length c + 7) (turn memory has (called_from address s) under x c (omega arith) (omega arith) da ra) (λ da ra.
      turns c (slice_set memory place x) (code_kept memory place x (omega arith) has) address s deep (omega arith) (omega arith) da ra))

  -- all of SAVE
  pub saves : (memory : List ℕ) → HasMachineCode memory → (c : List ℕ) (address : ℕ) (s : Surroundings) → length s.returns + 1 ≤ return_high → length c ≤ 31 → length c + 2 ≤ high →
      Leads (12 * length c + 13) high return_high save c memory (called_from address s) (place_of address) [] (saved c memory) s (Some address ∷ [])
  saves memory has c address s deep small within da ra =
      let k = length c in
      let after = slice_set memory user_cells k in
      let kept : HasMachineCode after = code_kept memory user_cells k (omega arith) has in
      let under : length (called_from address s).returns ≤ return_high = omega arith in
      let at = instruction memory save_code save has.save_cells_first in
      recount (3 + (1 + (1 + (1 + (12 * k + 7))))) (12 * k + 13) high return_high _ (place_of address) [] (saved c memory) s (Some address ∷ []) (omega arith)
      (joined laws 3 (1 + (1 + (1 + (12 * k + 7)))) (counted laws memory (called_from address s) high return_high under save c (at 0 refl) (at 1 refl) (at 2 refl) small within da ra) (λ da ra.
      joined laws 1 (1 + (1 + (12 * k + 7))) (literal memory (called_from address s) high return_high under (save + 3) (2 * user_cells) (k ∷ c) da ra (at 3 refl) (omega arith)) (λ da ra.
      joined laws 1 (1 + (12 * k + 7)) (store memory (called_from address s) high return_high under (save + 4) (2 * user_cells) user_cells k c da ra (at 4 refl) (omega arith) refl) (λ da ra.
      joined laws 1 (12 * k + 7) (drop after (called_from address s) high return_high under (save + 5) (2 * user_cells) c da ra (instruction after save_code save kept.save_cells_first 5 refl) (omega arith)) (λ da ra.
      turns c after kept address s deep small within da ra)))))
