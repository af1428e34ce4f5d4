-- Parts of a run, and the instructions that count the data cells.
use Rattle.std.proofs.Common.{◌≡◌, ℕ, ◌+◌, ◌*◌, ◌≤◌, List, [], ◌∷◌, ◌++◌, length, Option, sym, ap, ◌∙◌, subst, arith}
use Rattle.std.specs.Prelude.{slice_index, pos}
use Rattle.j1_table.specs.Instruction.{decoded}
use Rattle.j1_table.specs.declared.instr.Instr.TheVariants.{Literal, Alu}
use Rattle.j1_simulator.specs.Effect.{following}
use Rattle.j1_simulator.specs.RoundMachine.{around}
use Rattle.j1_simulator.specs.OpenMachine.{open_storage}
use Rattle.j1_simulator.specs.Run.{run}
use Rattle.word_laws.specs.Rings.{OpenConfiguration, BeforeEach}
use Rattle.word_laws.specs.Bounds.{StaysWithin, RunsJoin, BoundsJoin}
use Rattle.typed_code.specs.Standing.{Surroundings, stands_at, Comes, Leads}
use Rattle.typed_code.proofs.Instructions.{literal, depth, masked}
use Rattle.typed_code.proofs.Memory.{pointer}

pub recount : (a b high return_high : ℕ) (from : OpenConfiguration) (place : ℕ) (c memory : List ℕ) (s : Surroundings) (taken : List (Option ℕ)) → a ≡ b →
    Comes a high return_high from place c memory s taken → Comes b high return_high from place c memory s taken
recount a b high return_high from place c memory s taken e h = subst (λ n. Comes n high return_high from place c memory s taken) e h

-- the laws of runs in two parts
pub record Laws : Type 0 where
  pub runs : RunsJoin
  pub bounds : BoundsJoin

-- a part of a run, and what it leads to from there
pub joined : (laws : Laws) (a b : ℕ) {high return_high : ℕ} {from : OpenConfiguration} {place place' : ℕ} {c c' memory memory' : List ℕ} {s s' : Surroundings} {taken taken' : List (Option ℕ)} →
    Comes a high return_high from place c memory s taken →
    ((data_above return_above : List (Option ℕ)) → Comes b high return_high (stands_at place c memory s data_above return_above) place' c' memory' s' taken') →
    Comes (a + b) high return_high from place' c' memory' s' taken'
joined laws a b {high = high} {return_high = return_high} {from = from} {taken = taken} first then =
    let second = then first.data_above (taken ++ first.return_above) in
    record {
      data_above = second.data_above;
      return_above = second.return_above;
      makes = laws.runs a b 0x2000 from ∙ ap (run open_storage 0x2000 b) first.makes ∙ second.makes;
      bounds = laws.bounds 0 high 0 return_high a b 0x2000 from first.bounds (subst (BeforeEach (StaysWithin 0 high 0 return_high) 0x2000 b) (sym first.makes) second.bounds);
    }

-- depth 31 and
pub counted : (laws : Laws) (memory : List ℕ) (s : Surroundings) (high return_high : ℕ) → length s.returns ≤ return_high → (pc : ℕ) (c : List ℕ) →
    decoded (slice_index memory pc) ≡ Alu 0xE81 → decoded (slice_index memory (following pc)) ≡ Literal 31 →
    decoded (slice_index memory (following (following pc))) ≡ Alu 0x303 → length c ≤ 31 → length c + 2 ≤ high →
    Leads 3 high return_high pc c memory s (following (following (following pc))) (length c ∷ c) memory s []
counted laws memory s high return_high deep pc c e f g small within da ra =
    let pointers = around (pos (length s.returns)) * 256 + around (pos (length c)) in
    joined laws 1 2 (depth memory s high return_high deep pc c da ra e (omega arith)) (λ da ra.
    joined laws 1 1 (literal memory s high return_high deep (following pc) 31 (pointers ∷ c) da ra f (omega arith)) (λ da ra.
    masked memory s high return_high deep (following (following pc)) 31 pointers (length c) c da ra g (omega arith) (pointer (length s.returns) (length c) small)))
