-- One instruction from where the machine stands.
use Rattle.std.proofs.Common.{◌≡◌, ℕ, zero, suc, ◌+◌, ◌-◌, ◌*◌, ◌%◌, ◌≤◌, List, [], ◌∷◌, ◌++◌, length, Option, Some, None, ℤ, pos, negsuc}
use Rattle.std.proofs.Common.{◌+ℤ◌, ◌^◌, true, false, ⊎_elim, cond, ◌==◌, if◌then◌else◌, refl, sym, ap, ◌∙◌, subst, arith}
use Rattle.std.specs.Prelude.{slice_index, slice_set, bit_and}
use Rattle.std.proofs.lemmas.Bool.Decides.{leb_tells}
use Rattle.cell_math.specs.Cell.{sum_of, flag}
use Rattle.console_ports.specs.Ports.{access_at}
use Rattle.console_ports.specs.declared.ports.Access.TheVariants.{Data}
use Rattle.j1_table.specs.declared.instr.Instr.{Instr}
use Rattle.j1_table.specs.declared.instr.Instr.TheVariants.{Literal, Jump, Branch, Call, Alu}
use Rattle.j1_table.specs.Instruction.{decoded}
use Rattle.j1_simulator.specs.Effect.{effect, following}
use Rattle.j1_simulator.specs.Step.{effect_at, fetched, stored, goes_on}
use Rattle.j1_simulator.specs.RoundMachine.{around}
use Rattle.j1_simulator.specs.OpenMachine.{top_cell, rest, open_storage}
use Rattle.j1_simulator.specs.Run.{with_outcome, after_effect}
use Rattle.word_laws.specs.Rings.{KnownWithin, WritesAbove, writes_return}
use Rattle.word_laws.specs.Standing.{data_places, standing, machine_at}
use Rattle.typed_code.specs.Standing.{Surroundings, world_in, stands_at, called_from, place_of, Comes}

pub height_le : (h h' : ℕ) (cells : List (Option ℕ)) → h ≤ h' → KnownWithin h cells → KnownWithin h' cells
height_le h zero [] le k = tt
height_le h (suc h') [] le k = tt
height_le zero zero (c ∷ cells) le k = k
height_le zero (suc h') (c ∷ cells) le k = height_le zero h' cells (omega arith) k.1
height_le (suc h) zero (c ∷ cells) le k = absurd (omega arith)
height_le (suc h) (suc h') (c ∷ cells) le k = height_le h h' cells (omega arith) k

height_places : (c : List ℕ) → KnownWithin (length c) (top_cell (data_places c) ∷ rest (data_places c))
height_places [] = (refl, tt)
height_places (x ∷ []) = (refl, tt)
height_places (x ∷ y ∷ c) = height_places (y ∷ c)

pub height_length : (r : List (Option ℕ)) → KnownWithin (length r) r
height_length [] = tt
height_length (x ∷ r) = height_length r

still : (n : ℕ) → pos n +ℤ pos 0 ≡ pos n
still n = ap pos (omega arith)

up_one : (n : ℕ) → pos n +ℤ pos 1 ≡ pos (suc n)
up_one n = ap pos (omega arith)

pub down_one : (n : ℕ) → pos (suc n) +ℤ negsuc 0 ≡ pos n
down_one n =
    ⊎_elim (λ t. absurd (omega (arith, t.1))) (λ t. ap (λ x. cond x (negsuc (1 - suc (suc n))) (pos (suc n - 1))) t.0 ∙ ap pos (omega arith)) (leb_tells (suc (suc n)) 1)

-- an instruction of a known effect, where it stands
one : (pc : ℕ) (i : Instr) (c memory : List ℕ) (s : Surroundings) (da ra : List (Option ℕ)) (high return_high pc' : ℕ) (c' memory' : List ℕ) (s' : Surroundings)
    (da' ra' taken : List (Option ℕ)) → decoded (slice_index memory pc) ≡ i → length c ≤ high → length s.returns ≤ return_high →
    after_effect None open_storage 0x2000 (effect pc i) (stands_at pc c memory s da ra) ≡ stands_at pc' c' memory' s' da' (taken ++ ra') →
    WritesAbove (effect pc i).data_move (effect pc i).t_to_n → WritesAbove (effect pc i).return_move (writes_return (effect pc i).return_write) →
    Comes 1 high return_high (stands_at pc c memory s da ra) pc' c' memory' s' taken
one pc i c memory s da ra high return_high pc' c' memory' s' da' ra' taken has deep return_deep e cd cb =
    let same : effect_at (stands_at pc c memory s da ra).core ≡ effect pc i = ap (effect pc) has in
    record {
      data_above = da';
      return_above = ra';
      makes = ap (λ f. after_effect None open_storage 0x2000 f (stands_at pc c memory s da ra)) same ∙ e;
      bounds = (
        record {
          depth = length c;
          return_depth = length s.returns;
          depth_is = refl;
          return_depth_is = refl;
          at_least = omega arith;
          at_most = deep;
          return_at_least = omega arith;
          return_at_most = return_deep;
          known = height_le (length c) high _ deep (height_places c);
          return_known = height_le (length s.returns) return_high _ return_deep (height_length s.returns);
          data_writes = λ n. subst (λ f. WritesAbove f.data_move f.t_to_n) (sym same) cd;
          return_writes = λ n. subst (λ f. WritesAbove f.return_move (writes_return f.return_write)) (sym same) cb;
        },
        tt,
      );
    }

-- counters under their names
named : (pc : ℕ) (c memory : List ℕ) (s : Surroundings) (da ra : List (Option ℕ)) (d b : ℤ) → d ≡ pos (length c) → b ≡ pos (length s.returns) →
    standing (machine_at [] pc s.returns da ra) c d b (world_in memory s) ≡ stands_at pc c memory s da ra
named pc c memory s da ra d b e f =
    ap (λ z. standing (machine_at [] pc s.returns da ra) c z b (world_in memory s)) e
    ∙ ap (λ z. standing (machine_at [] pc s.returns da ra) c (pos (length c)) z (world_in memory s)) f

module _ (memory : List ℕ) (s : Surroundings) (high return_high : ℕ) (return_deep : length s.returns ≤ return_high) where
  -- an instruction that leaves the return stack as it is
  plain : (pc : ℕ) (i : Instr) (c : List ℕ) (da ra : List (Option ℕ)) (pc' : ℕ) (c' memory' : List ℕ) (da' : List (Option ℕ)) (d : ℤ) →
      decoded (slice_index memory pc) ≡ i → length c ≤ high →
      after_effect None open_storage 0x2000 (effect pc i) (stands_at pc c memory s da ra) ≡ standing (machine_at [] pc' s.returns da' ra) c' d (pos (length s.returns) +ℤ pos 0) (world_in memory' s) →
      d ≡ pos (length c') → WritesAbove (effect pc i).data_move (effect pc i).t_to_n →
      WritesAbove (effect pc i).return_move (writes_return (effect pc i).return_write) → Comes 1 high return_high (stands_at pc c memory s da ra) pc' c' memory' s []
  plain pc i c da ra pc' c' memory' da' d has deep e f cd cb =
      one pc i c memory s da ra high return_high pc' c' memory' s da' ra [] has deep return_deep (e ∙ named pc' c' memory' s da' ra d _ f (still (length s.returns))) cd cb

  pub literal : (pc v : ℕ) (c : List ℕ) (da ra : List (Option ℕ)) → decoded (slice_index memory pc) ≡ Literal v → length c ≤ high →
      Comes 1 high return_high (stands_at pc c memory s da ra) (following pc) (v ∷ c) memory s []
  literal pc v [] da ra has deep = plain pc (Literal v) [] da ra (following pc) (v ∷ []) memory (rest da) _ has deep refl (up_one 0) refl tt
  literal pc v (x ∷ c) da ra has deep = plain pc (Literal v) (x ∷ c) da ra (following pc) (v ∷ x ∷ c) memory (rest da) _ has deep refl (up_one (length (x ∷ c))) refl tt

  pub depth : (pc : ℕ) (c : List ℕ) (da ra : List (Option ℕ)) → decoded (slice_index memory pc) ≡ Alu 0xE81 → length c ≤ high →
      Comes 1 high return_high (stands_at pc c memory s da ra) (following pc) ((around (pos (length s.returns)) * 256 + around (pos (length c))) ∷ c) memory s []
  depth pc [] da ra has deep = plain pc (Alu 0xE81) [] da ra (following pc) _ memory (rest da) _ has deep refl (up_one 0) refl tt
  depth pc (x ∷ c) da ra has deep = plain pc (Alu 0xE81) (x ∷ c) da ra (following pc) _ memory (rest da) _ has deep refl (up_one (length (x ∷ c))) refl tt

  pub dup : (pc x : ℕ) (c : List ℕ) (da ra : List (Option ℕ)) → decoded (slice_index memory pc) ≡ Alu 0x081 → length (x ∷ c) ≤ high →
      Comes 1 high return_high (stands_at pc (x ∷ c) memory s da ra) (following pc) (x ∷ x ∷ c) memory s []
  dup pc x c da ra has deep = plain pc (Alu 0x081) (x ∷ c) da ra (following pc) (x ∷ x ∷ c) memory (rest da) _ has deep refl (up_one (length (x ∷ c))) refl tt

  pub drop : (pc x : ℕ) (c : List ℕ) (da ra : List (Option ℕ)) → decoded (slice_index memory pc) ≡ Alu 0x103 → length (x ∷ c) ≤ high →
      Comes 1 high return_high (stands_at pc (x ∷ c) memory s da ra) (following pc) c memory s []
  drop pc x c da ra has deep = plain pc (Alu 0x103) (x ∷ c) da ra (following pc) c memory (top_cell (data_places c) ∷ da) _ has deep refl (down_one (length c)) tt tt

  -- an operation on T and N
  binary : (pc word t n v : ℕ) (c : List ℕ) (da ra : List (Option ℕ)) → decoded (slice_index memory pc) ≡ Alu word → length (t ∷ n ∷ c) ≤ high →
      after_effect None open_storage 0x2000 (effect pc (Alu word)) (stands_at pc (t ∷ n ∷ c) memory s da ra)
      ≡ standing (machine_at [] (following pc) s.returns (Some n ∷ da) ra) (v ∷ c) (pos (suc (suc (length c))) +ℤ negsuc 0) (pos (length s.returns) +ℤ pos 0) (world_in memory s) →
      WritesAbove (effect pc (Alu word)).data_move (effect pc (Alu word)).t_to_n →
      WritesAbove (effect pc (Alu word)).return_move (writes_return (effect pc (Alu word)).return_write) → (v' : ℕ) → v ≡ v' →
      Comes 1 high return_high (stands_at pc (t ∷ n ∷ c) memory s da ra) (following pc) (v' ∷ c) memory s []
  binary pc word t n v c da ra has deep e cd cb v' f =
      subst (λ x. Comes 1 high return_high (stands_at pc (t ∷ n ∷ c) memory s da ra) (following pc) (x ∷ c) memory s []) f
      (plain pc (Alu word) (t ∷ n ∷ c) da ra (following pc) (v ∷ c) memory (Some n ∷ da) _ has deep e (down_one (suc (length c))) cd cb)

  pub masked : (pc t n v : ℕ) (c : List ℕ) (da ra : List (Option ℕ)) → decoded (slice_index memory pc) ≡ Alu 0x303 → length (t ∷ n ∷ c) ≤ high → bit_and t n ≡ v →
      Comes 1 high return_high (stands_at pc (t ∷ n ∷ c) memory s da ra) (following pc) (v ∷ c) memory s []
  masked pc t n v c da ra has deep e = binary pc 0x303 t n (bit_and t n) c da ra has deep refl tt tt v e

  pub summed : (pc t n v : ℕ) (c : List ℕ) (da ra : List (Option ℕ)) → decoded (slice_index memory pc) ≡ Alu 0x203 → length (t ∷ n ∷ c) ≤ high → sum_of t n ≡ v →
      Comes 1 high return_high (stands_at pc (t ∷ n ∷ c) memory s da ra) (following pc) (v ∷ c) memory s []
  summed pc t n v c da ra has deep e = binary pc 0x203 t n (sum_of t n) c da ra has deep refl tt tt v e

  pub compared : (pc t n v : ℕ) (c : List ℕ) (da ra : List (Option ℕ)) → decoded (slice_index memory pc) ≡ Alu 0x703 → length (t ∷ n ∷ c) ≤ high → flag (n == t) ≡ v →
      Comes 1 high return_high (stands_at pc (t ∷ n ∷ c) memory s da ra) (following pc) (v ∷ c) memory s []
  compared pc t n v c da ra has deep e = binary pc 0x703 t n (flag (n == t)) c da ra has deep refl tt tt v e

  pub shifted : (pc t n v : ℕ) (c : List ℕ) (da ra : List (Option ℕ)) → decoded (slice_index memory pc) ≡ Alu 0xD03 → length (t ∷ n ∷ c) ≤ high →
      n * 2 ^ (t % 16) % 0x10000 ≡ v → Comes 1 high return_high (stands_at pc (t ∷ n ∷ c) memory s da ra) (following pc) (v ∷ c) memory s []
  shifted pc t n v c da ra has deep e = binary pc 0xD03 t n (n * 2 ^ (t % 16) % 0x10000) c da ra has deep refl tt tt v e

  pub fetch : (pc a place x : ℕ) (c : List ℕ) (da ra : List (Option ℕ)) → decoded (slice_index memory pc) ≡ Alu 0xC00 → length (a ∷ c) ≤ high →
      access_at 0x2000 false a ≡ Data place → slice_index memory place ≡ x →
      Comes 1 high return_high (stands_at pc (a ∷ c) memory s da ra) (following pc) (x ∷ c) memory s []
  fetch pc a place x c da ra has deep e f =
      let before = stands_at pc (a ∷ c) memory s da ra in
      plain pc (Alu 0xC00) (a ∷ c) da ra (following pc) (x ∷ c) memory da (pos (length (a ∷ c)) +ℤ pos 0) has deep
      (ap (λ y. with_outcome (effect pc (Alu 0xC00)) (goes_on open_storage (effect pc (Alu 0xC00)) before.core (fetched open_storage memory y)) before) e
      ∙ ap (λ v. standing (machine_at [] (following pc) s.returns da ra) (v ∷ c) (pos (length (a ∷ c)) +ℤ pos 0) (pos (length s.returns) +ℤ pos 0) (world_in memory s)) f)
      (still (length (a ∷ c))) tt tt

  pub store : (pc a place v : ℕ) (c : List ℕ) (da ra : List (Option ℕ)) → decoded (slice_index memory pc) ≡ Alu 0x023 → length (a ∷ v ∷ c) ≤ high →
      access_at 0x2000 true a ≡ Data place →
      Comes 1 high return_high (stands_at pc (a ∷ v ∷ c) memory s da ra) (following pc) (a ∷ c) (slice_set memory place v) s []
  store pc a place v c da ra has deep e =
      let before = stands_at pc (a ∷ v ∷ c) memory s da ra in
      plain pc (Alu 0x023) (a ∷ v ∷ c) da ra (following pc) (a ∷ c) (slice_set memory place v) (Some v ∷ da) _ has deep
      (ap (λ y. with_outcome (effect pc (Alu 0x023)) (goes_on open_storage (effect pc (Alu 0x023)) before.core (stored open_storage (Some a) v memory y)) before) e)
      (down_one (suc (length c))) tt tt

  pub jump : (pc target : ℕ) (c : List ℕ) (da ra : List (Option ℕ)) → decoded (slice_index memory pc) ≡ Jump target → length c ≤ high →
      Comes 1 high return_high (stands_at pc c memory s da ra) target c memory s []
  jump pc target c da ra has deep = plain pc (Jump target) c da ra target c memory da (pos (length c) +ℤ pos 0) has deep refl (still (length c)) tt tt

  pub branch_taken : (pc target v : ℕ) (c : List ℕ) (da ra : List (Option ℕ)) → decoded (slice_index memory pc) ≡ Branch target → length (v ∷ c) ≤ high → v ≡ 0 →
      Comes 1 high return_high (stands_at pc (v ∷ c) memory s da ra) target c memory s []
  branch_taken pc target v c da ra has deep e =
      subst (λ x. Comes 1 high return_high (stands_at pc (x ∷ c) memory s da ra) target c memory s []) (sym e)
      (plain pc (Branch target) (0 ∷ c) da ra target c memory (top_cell (data_places c) ∷ da) _ has deep refl (down_one (length c)) tt tt)

  pub branch_passed : (pc target v : ℕ) (c : List ℕ) (da ra : List (Option ℕ)) → decoded (slice_index memory pc) ≡ Branch target → length (v ∷ c) ≤ high → (v == 0) ≡ false →
      Comes 1 high return_high (stands_at pc (v ∷ c) memory s da ra) (following pc) c memory s []
  branch_passed pc target v c da ra has deep e =
      plain pc (Branch target) (v ∷ c) da ra (following pc) c memory (top_cell (data_places c) ∷ da) _ has deep
      (ap (λ b. standing (machine_at [] (if b then target else following pc) s.returns (top_cell (data_places c) ∷ da) ra) c (pos (suc (length c)) +ℤ negsuc 0) (pos (length s.returns) +ℤ pos 0) (world_in memory s)) e)
      (down_one (length c)) tt tt

  pub call : (pc target : ℕ) (c : List ℕ) (da ra : List (Option ℕ)) → decoded (slice_index memory pc) ≡ Call target → length c ≤ high →
      Comes 1 high return_high (stands_at pc c memory s da ra) target c memory (called_from (2 * following pc) s) []
  call pc target c da ra has deep =
      one pc (Call target) c memory s da ra high return_high target c memory (called_from (2 * following pc) s) da (rest ra) [] has deep return_deep
      (named target c memory (called_from (2 * following pc) s) da (rest ra) _ _ (still (length c)) (up_one (length s.returns))) tt refl

pub returned : (memory : List ℕ) (s : Surroundings) (high return_high address pc : ℕ) (c : List ℕ) (da ra : List (Option ℕ)) → length s.returns + 1 ≤ return_high →
    decoded (slice_index memory pc) ≡ Alu 0x100C → length c ≤ high →
    Comes 1 high return_high (stands_at pc c memory (called_from address s) da ra) (place_of address) c memory s (Some address ∷ [])
returned memory s high return_high address pc c da ra below has deep =
    one pc (Alu 0x100C) c memory (called_from address s) da ra high return_high (place_of address) c memory s da ra (Some address ∷ []) has deep (omega arith)
    (named (place_of address) c memory s da (Some address ∷ ra) _ _ (still (length c)) (down_one (length s.returns))) tt tt
