-- Runs of the open machine within bounds, and the laws of its words on which all stands.
use Rattle.std.proofs.Common.{◌≡◌, Bool, true, false, ◌&&◌, ℕ, ◌+◌, ◌≤◌, List, [], ◌∷◌, ◌++◌, refl, sym, ap, ◌∙◌, subst, arith}
use Rattle.j1_simulator.specs.Effect.{following}
use Rattle.j1_simulator.specs.OpenMachine.{open_storage}
use Rattle.j1_simulator.specs.Run.{run}
use Rattle.j1_simulator.specs.Laws.{OnlyGrows}
use Rattle.word_laws.specs.Rings.{OpenConfiguration, BeforeEach}
use Rattle.word_laws.specs.Bounds.{StaysWithin, RunsJoin, BoundsJoin, BoundsWiden}
use Rattle.word_laws.specs.Control.{LeadsTo, JumpLeads, CallLeads, ReturnLeads, BranchLeads, BranchPasses, HaltEnds}
use Rattle.word_laws.specs.Numbers.{NumbersDoTheirMeaning, NumbersKeepTheirBounds}
use Rattle.word_laws.specs.Standing.{StandIn, CellsStand}
use Rattle.word_laws.specs.Words.{WordsDoTheirMeaning, WordsKeepTheirBounds, WordsEndWithinBounds, NeedsAreExact, WordsLeaveCells, WordsChangeDepths}

-- the laws on which this stands
pub record Laws : Type 0 where
  pub words : WordsDoTheirMeaning
  pub word_bounds : WordsKeepTheirBounds
  pub word_ends : WordsEndWithinBounds
  pub word_needs : NeedsAreExact
  pub word_cells : WordsLeaveCells
  pub word_depths : WordsChangeDepths
  pub numbers : NumbersDoTheirMeaning
  pub number_bounds : NumbersKeepTheirBounds
  pub jumps : JumpLeads
  pub calls : CallLeads
  pub returns : ReturnLeads
  pub branches : BranchLeads
  pub passes : BranchPasses
  pub halts : HaltEnds
  pub cells_stand : CellsStand
  pub runs_join : RunsJoin
  pub bounds_join : BoundsJoin
  pub bounds_widen : BoundsWiden
  pub grows : OnlyGrows open_storage

-- n instructions lead from one configuration to another, with at most so many data and return cells before each of them
pub record Runs (data_start high return_high n : ℕ) (from to : OpenConfiguration) : Type 0 where
  pub makes : run open_storage data_start n from ≡ to
  pub bounds : BeforeEach (StaysWithin 0 high 0 return_high) data_start n from

pub both : (a b : Bool) → (a && b) ≡ true → (a ≡ true) × (b ≡ true)
both true b e = (refl, e)
both false b e = absurd (cc)

-- code after code
pub stand_split : (code cells more : List ℕ) (pc next : ℕ) → StandIn code pc (cells ++ more) next → (middle : ℕ) × StandIn code pc cells middle × StandIn code middle more next
stand_split code [] more pc next stands = (pc, refl, stands)
stand_split code (cell ∷ cells) more pc next stands =
    let r = stand_split code cells more (following pc) next stands.2 in (r.0, (stands.0, stands.1, r.1), r.2)

module _ (laws : Laws) (data_start : ℕ) where
  -- one configuration within narrower bounds
  pub narrower : (low high return_low return_high high' return_high' : ℕ) (v : OpenConfiguration) → high ≤ high' → return_high ≤ return_high' → StaysWithin low high return_low return_high v → StaysWithin 0 high' 0 return_high' v
  narrower low high return_low return_high high' return_high' v h r within =
      (laws.bounds_widen low high return_low return_high 0 high' 0 return_high' 1 data_start v (omega arith) h (omega arith) r (within, tt)).0

  pub wider : (low high return_low return_high high' return_high' n : ℕ) (v : OpenConfiguration) → high ≤ high' → return_high ≤ return_high' →
      BeforeEach (StaysWithin low high return_low return_high) data_start n v → BeforeEach (StaysWithin 0 high' 0 return_high') data_start n v
  wider low high return_low return_high high' return_high' n v h r before = laws.bounds_widen low high return_low return_high 0 high' 0 return_high' n data_start v (omega arith) h (omega arith) r before

  pub runs_then : (high return_high a b : ℕ) (from middle to : OpenConfiguration) → Runs data_start high return_high a from middle → Runs data_start high return_high b middle to → Runs data_start high return_high (a + b) from to
  runs_then high return_high a b from middle to one two = record {
    makes = laws.runs_join a b data_start from ∙ ap (run open_storage data_start b) one.makes ∙ two.makes;
    bounds = laws.bounds_join 0 high 0 return_high a b data_start from one.bounds (subst (BeforeEach (StaysWithin 0 high 0 return_high) data_start b) (sym one.makes) two.bounds);
  }

  -- one instruction
  pub runs_one : (depth return_depth high return_high : ℕ) (from to : OpenConfiguration) → depth ≤ high → return_depth ≤ return_high → LeadsTo data_start depth return_depth from to → Runs data_start high return_high 1 from to
  runs_one depth return_depth high return_high from to h r leads = record { makes = leads.makes; bounds = wider depth depth return_depth return_depth high return_high 1 from h r leads.bounds }
