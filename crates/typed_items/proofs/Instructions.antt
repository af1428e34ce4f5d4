-- One instruction from where the machine stands.
use Rattle.std.proofs.Common.{◌≡◌, ℕ, zero, suc, ◌+◌, ◌-◌, ◌*◌, ◌<◌, ◌≤◌, nat_lt, List, [], ◌∷◌, ◌++◌, length, Option, Some, None, ℤ, pos}
use Rattle.std.proofs.Common.{negsuc}
use Rattle.std.proofs.Common.{◌+ℤ◌, true, false, ⊎_elim, cond, ◌==◌, if◌then◌else◌, refl, sym, ap, ◌∙◌, subst, arith}
use Rattle.std.specs.Prelude.{slice_index}
use Rattle.std.proofs.lemmas.Bool.{lt-ltb, le-ltb}
use Rattle.std.proofs.lemmas.Bool.Decides.{leb_tells, nat_tests}
use Rattle.j1_table.specs.declared.instr.Instr.{Instr}
use Rattle.j1_table.specs.declared.instr.Instr.TheVariants.{Literal, Jump, Branch, Call, Alu}
use Rattle.j1_table.specs.Instruction.{decoded}
use Rattle.j1_simulator.specs.Effect.{effect, following}
use Rattle.j1_simulator.specs.Step.{effect_at}
use Rattle.j1_simulator.specs.OpenMachine.{top_cell, rest, open_storage}
use Rattle.j1_simulator.specs.Run.{run, after_effect}
use Rattle.forth_program.specs.State.{World}
use Rattle.word_laws.specs.Rings.{OpenConfiguration, BeforeEach, KnownWithin, WritesAbove, writes_return}
use Rattle.word_laws.specs.Bounds.{StaysWithin, RunsJoin, BoundsJoin, BoundsWiden}
use Rattle.word_laws.specs.Standing.{data_places, standing, machine_at}
use Rattle.typed_items.specs.Listed.{place_of, stands}

-- ---- runs within bounds

pub record Laws : Type 0 where
  pub runs : RunsJoin
  pub bounds : BoundsJoin
  pub wider : BoundsWiden

pub record Runs (high return_high n : ℕ) (from to : OpenConfiguration) : Type 0 where
  pub makes : run open_storage 0x2000 n from ≡ to
  pub bounds : BeforeEach (StaysWithin 0 high 0 return_high) 0x2000 n from

pub no_run : (high return_high : ℕ) (from : OpenConfiguration) → Runs high return_high 0 from from
no_run high return_high from = record { makes = refl; bounds = tt }

module _ (laws : Laws) where
  pub runs_then : (high return_high a b : ℕ) (from middle to : OpenConfiguration) → Runs high return_high a from middle →
      Runs high return_high b middle to → Runs high return_high (a + b) from to
  runs_then high return_high a b from middle to one two = record {
    makes = laws.runs a b 0x2000 from ∙ ap (run open_storage 0x2000 b) one.makes ∙ two.makes;
    bounds = laws.bounds 0 high 0 return_high a b 0x2000 from one.bounds
        (subst (BeforeEach (StaysWithin 0 high 0 return_high) 0x2000 b) (sym one.makes) two.bounds);
  }

  pub widen : (low high return_low return_high high' return_high' n : ℕ) (from : OpenConfiguration) → high ≤ high' →
      return_high ≤ return_high' →
      BeforeEach (StaysWithin low high return_low return_high) 0x2000 n from → BeforeEach (StaysWithin 0 high' 0 return_high') 0x2000 n from
  widen low high return_low return_high high' return_high' n from h r before =
      laws.wider low high return_low return_high 0 high' 0 return_high' n 0x2000 from (omega arith) h (omega arith) r before

-- ---- instructions

height_le : (h h' : ℕ) (cells : List (Option ℕ)) → h ≤ h' → KnownWithin h cells → KnownWithin h' cells
height_le h zero [] le k = tt
height_le h (suc h') [] le k = tt
height_le zero zero (c ∷ cells) le k = k
height_le zero (suc h') (c ∷ cells) le k = height_le zero h' cells (omega arith) k.1
height_le (suc h) zero (c ∷ cells) le k = absurd (omega arith)
height_le (suc h) (suc h') (c ∷ cells) le k = height_le h h' cells (omega arith) k

height_places : (c : List ℕ) → KnownWithin (length c) (top_cell (data_places c) ∷ rest (data_places c))
height_places [] = (refl, tt)
height_places (x ∷ []) = (refl, tt)
height_places (x ∷ y ∷ c) = height_places (y ∷ c)

height_length : (r : List (Option ℕ)) → KnownWithin (length r) r
height_length [] = tt
height_length (x ∷ r) = height_length r

still : (n : ℕ) → pos n +ℤ pos 0 ≡ pos n
still n = ap pos (omega arith)

up_one : (n : ℕ) → pos n +ℤ pos 1 ≡ pos (suc n)
up_one n = ap pos (omega arith)

down_one : (n : ℕ) → pos (suc n) +ℤ negsuc 0 ≡ pos n
down_one n =
    ⊎_elim (λ t. absurd (omega (arith, t.1))) (λ t. ap (λ x. cond x (negsuc (1 - suc (suc n))) (pos (suc n - 1))) t.0
    ∙ ap pos (omega arith)) (leb_tells (suc (suc n)) 1)

pub literal_is : (value : ℕ) → decoded (0x8000 + value) ≡ Literal value
literal_is value =
    let a : nat_lt (0x8000 + value) 0x2000 ≡ false = le-ltb (0x8000 + value) 0x2000 (omega arith) in
    let b : nat_lt (0x8000 + value) 0x4000 ≡ false = le-ltb (0x8000 + value) 0x4000 (omega arith) in
    let c : nat_lt (0x8000 + value) 0x6000 ≡ false = le-ltb (0x8000 + value) 0x6000 (omega arith) in
    let d : nat_lt (0x8000 + value) 0x8000 ≡ false = le-ltb (0x8000 + value) 0x8000 (omega arith) in
    let e : (0x8000 + value) - 0x8000 ≡ value = omega arith in
    rw (a, b, c, d, e) refl

pub jump_is : (target : ℕ) → target < 0x2000 → decoded target ≡ Jump target
jump_is target below = rw (lt-ltb target 0x2000 below) refl

pub branch_is : (target : ℕ) → target < 0x2000 → decoded (0x2000 + target) ≡ Branch target
branch_is target below =
    let a : nat_lt (0x2000 + target) 0x2000 ≡ false = le-ltb (0x2000 + target) 0x2000 (omega arith) in
    let b : nat_lt (0x2000 + target) 0x4000 ≡ true = lt-ltb (0x2000 + target) 0x4000 (omega arith) in
    let d : (0x2000 + target) - 0x2000 ≡ target = omega arith in
    rw (a, b, d) refl

pub call_is : (target : ℕ) → target < 0x2000 → decoded (0x4000 + target) ≡ Call target
call_is target below =
    let a : nat_lt (0x4000 + target) 0x2000 ≡ false = le-ltb (0x4000 + target) 0x2000 (omega arith) in
    let b : nat_lt (0x4000 + target) 0x4000 ≡ false = le-ltb (0x4000 + target) 0x4000 (omega arith) in
    let c : nat_lt (0x4000 + target) 0x6000 ≡ true = lt-ltb (0x4000 + target) 0x6000 (omega arith) in
    let d : (0x4000 + target) - 0x4000 ≡ target = omega arith in
    rw (a, b, c, d) refl

module _ (code : List ℕ) (w : World) (high return_high : ℕ) where
  abbrev pub memory : List ℕ
  memory = code ++ w.space

  -- an instruction of a known effect, where it stands
  one : (pc : ℕ) (i : Instr) (c : List ℕ) (r da ra : List (Option ℕ)) (to : OpenConfiguration) → decoded (slice_index memory pc) ≡ i →
      length c ≤ high → length r ≤ return_high →
      after_effect None open_storage 0x2000 (effect pc i) (stands code pc c w r da ra) ≡ to →
      WritesAbove (effect pc i).data_move (effect pc i).t_to_n →
      WritesAbove (effect pc i).return_move (writes_return (effect pc i).return_write) →
      Runs high return_high 1 (stands code pc c w r da ra) to
  one pc i c r da ra to has deep return_deep e cd cb =
      let same : effect_at (stands code pc c w r da ra).core ≡ effect pc i = ap (effect pc) has in
      record {
        makes = ap (λ f. after_effect None open_storage 0x2000 f (stands code pc c w r da ra)) same ∙ e;
        bounds = (
          record {
            depth = length c;
            return_depth = length r;
            depth_is = refl;
            return_depth_is = refl;
            at_least = omega arith;
            at_most = deep;
            return_at_least = omega arith;
            return_at_most = return_deep;
            known = height_le (length c) high _ deep (height_places c);
            return_known = height_le (length r) return_high _ return_deep (height_length r);
            data_writes = λ n. subst (λ f. WritesAbove f.data_move f.t_to_n) (sym same) cd;
            return_writes = λ n. subst (λ f. WritesAbove f.return_move (writes_return f.return_write)) (sym same) cb;
          },
          tt,
        );
      }

  -- counters under their names
  named : (pc : ℕ) (c : List ℕ) (r da ra : List (Option ℕ)) (d b : ℤ) → d ≡ pos (length c) → b ≡ pos (length r) →
      standing (machine_at code pc r da ra) c d b w ≡ stands code pc c w r da ra
  named pc c r da ra d b e f =
      ap (λ z. standing (machine_at code pc r da ra) c z b w) e ∙ ap (λ z. standing (machine_at code pc r da ra) c (pos (length c)) z w) f

  pub literal : (pc v : ℕ) (c : List ℕ) (r da ra : List (Option ℕ)) → decoded (slice_index memory pc) ≡ Literal v → length c ≤ high →
      length r ≤ return_high →
      Runs high return_high 1 (stands code pc c w r da ra) (stands code (following pc) (v ∷ c) w r (rest da) ra)
  literal pc v [] r da ra has deep under = one pc (Literal v) [] r da ra _ has deep under
      (named (following pc) (v ∷ []) r (rest da) ra _ _ (up_one 0) (still (length r))) refl tt
  literal pc v (x ∷ c) r da ra has deep under = one pc (Literal v) (x ∷ c) r da ra _ has deep under
      (named (following pc) (v ∷ x ∷ c) r (rest da) ra _ _ (up_one (length (x ∷ c))) (still (length r))) refl tt

  pub inverted : (pc v : ℕ) (c : List ℕ) (r da ra : List (Option ℕ)) → decoded (slice_index memory pc) ≡ Alu 0x600 → length (v ∷ c) ≤ high →
      length r ≤ return_high →
      Runs high return_high 1 (stands code pc (v ∷ c) w r da ra) (stands code (following pc) ((0xffff - v) ∷ c) w r da ra)
  inverted pc v c r da ra has deep under = one pc (Alu 0x600) (v ∷ c) r da ra _ has deep under
      (named (following pc) ((0xffff - v) ∷ c) r da ra _ _ (still (length (v ∷ c))) (still (length r))) tt tt

  pub jump : (pc target : ℕ) (c : List ℕ) (r da ra : List (Option ℕ)) → decoded (slice_index memory pc) ≡ Jump target → length c ≤ high →
      length r ≤ return_high →
      Runs high return_high 1 (stands code pc c w r da ra) (stands code target c w r da ra)
  jump pc target c r da ra has deep under = one pc (Jump target) c r da ra _ has deep under
      (named target c r da ra _ _ (still (length c)) (still (length r))) tt tt

  pub branch_taken : (pc target : ℕ) (c : List ℕ) (r da ra : List (Option ℕ)) → decoded (slice_index memory pc) ≡ Branch target →
      length c + 1 ≤ high → length r ≤ return_high →
      Runs high return_high 1 (stands code pc (0 ∷ c) w r da ra) (stands code target c w r (top_cell (data_places c) ∷ da) ra)
  branch_taken pc target c r da ra has deep under =
      one pc (Branch target) (0 ∷ c) r da ra _ has (omega (arith, deep)) under
      (named target c r (top_cell (data_places c) ∷ da) ra _ _ (down_one (length c)) (still (length r))) tt tt

  pub branch_passed : (pc target n : ℕ) (c : List ℕ) (r da ra : List (Option ℕ)) → decoded (slice_index memory pc) ≡ Branch target →
      length c + 1 ≤ high → length r ≤ return_high →
      Runs high return_high 1 (stands code pc (suc n ∷ c) w r da ra) (stands code (following pc) c w r (top_cell (data_places c) ∷ da) ra)
  branch_passed pc target n c r da ra has deep under =
      let other : (suc n == 0) ≡ false = grind (arith, nat_tests) in
      one pc (Branch target) (suc n ∷ c) r da ra _ has (omega (arith, deep)) under
      (ap (λ b. standing (machine_at code (if b then target else following pc) r (top_cell (data_places c) ∷ da) ra) c
      (pos (suc (length c)) +ℤ negsuc 0) (pos (length r) +ℤ pos 0) w) other
      ∙ named (following pc) c r (top_cell (data_places c) ∷ da) ra _ _ (down_one (length c)) (still (length r))) tt tt

  pub call : (pc target : ℕ) (c : List ℕ) (r da ra : List (Option ℕ)) → decoded (slice_index memory pc) ≡ Call target → length c ≤ high →
      length r ≤ return_high →
      Runs high return_high 1 (stands code pc c w r da ra) (stands code target c w (Some (2 * following pc) ∷ r) da (rest ra))
  call pc target c r da ra has deep under = one pc (Call target) c r da ra _ has deep under
      (named target c (Some (2 * following pc) ∷ r) da (rest ra) _ _ (still (length c)) (up_one (length r))) tt refl

  pub returned : (pc address : ℕ) (c : List ℕ) (r da ra : List (Option ℕ)) → decoded (slice_index memory pc) ≡ Alu 0x100C →
      length c ≤ high → length r + 1 ≤ return_high →
      Runs high return_high 1 (stands code pc c w (Some address ∷ r) da ra) (stands code (place_of address) c w r da (Some address ∷ ra))
  returned pc address c r da ra has deep under =
      one pc (Alu 0x100C) c (Some address ∷ r) da ra _ has deep (omega (arith, under))
      (named (place_of address) c r da (Some address ∷ ra) _ _ (still (length c)) (down_one (length r))) tt tt
