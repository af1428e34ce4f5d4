-- A step of GO: its code takes the address, and goes on there.
use Rattle.std.proofs.Common.{◌≡◌, ℕ, suc, ◌+◌, ◌*◌, ◌/◌, ◌%◌, ◌≤◌, inl, inr, Bool, true, false, List, [], ◌∷◌, length, Option, Some, None, refl, sym, ap, subst, arith}
use Rattle.j1_table.specs.Instruction.{decoded}
use Rattle.j1_simulator.specs.Effect.{following}
use Rattle.j1_simulator.specs.OpenMachine.{rest}
use Rattle.word_table.specs.declared.word.Word.TheVariants.{Go, Execute, ToR}
use Rattle.forth_program.specs.Tree.{Plain}
use Rattle.forth_program.specs.Tail.{ends_body}
use Rattle.forth_program.specs.State.{Entry, Cell, Work, Todo, World, State}
use Rattle.forth_program.specs.Program.{SourceProgram}
use Rattle.forth_program.specs.Form.{has_no_go}
use Rattle.forth_program.specs.Step.{IsWord, first_work}
use Rattle.forth_program.specs.Cells.{AreCells, IsWorld}
use Rattle.word_laws.specs.Rings.{OpenConfiguration}
use Rattle.word_laws.specs.Control.{HoldsInstruction}
use Rattle.word_laws.specs.Standing.{return_places, standing_at_depths, standing_as, StandIn, machine_at}
use Rattle.code_layout.specs.Layout.{Routine, Leaving}
use Rattle.code_layout.proofs.Machine.{Laws, Runs, runs_then, runs_one}
use Rattle.code_layout.proofs.Phrases.{phrase_runs}
use Rattle.code_layout.proofs.Work.{CallStands, Stands, back, opens, Meets}

-- the code of GO stands at a place
abbrev pub GoCode : List ℕ → ℕ → Type 0
GoCode code at = StandIn code at (0x6147 ∷ []) (following at) × HoldsInstruction code (following at) (decoded 0x700C)

-- its return places: a call puts the address behind it there, and a jump in tail position none
abbrev pub led_places : Bool → ℕ → List (Option ℕ) → List (Option ℕ)
led_places true pc below = below
led_places false pc below = Some (2 * following pc) ∷ below

module _ (laws : Laws) (p : SourceProgram) (code : List ℕ) (place : Routine → ℕ) (size : length code ≡ p.data_start / 2) where
  -- the machine is led to an address, with these data cells and return places
  pub record Leads (v : OpenConfiguration) (high return_high count address : ℕ) (c : List ℕ) (returns : List (Option ℕ)) (world : World) : Type 0 where
    pub above : List (Option ℕ)
    pub above' : List (Option ℕ)
    pub runs : Runs p.data_start high return_high count v (standing_at_depths (machine_at code (address / 2 % 0x2000) returns above above') c world)

  module _ (high return_high : ℕ) (world : World) (fits : IsWorld world) (starts : world.data_start ≡ p.data_start) (stub : GoCode code (place Leaving)) where
    through_stub : (a : ℕ) (c : List ℕ) (returns data_above return_above : List (Option ℕ)) → AreCells (a ∷ c) → length c + 9 ≤ high → length returns + 9 ≤ return_high →
        Leads (standing_at_depths (machine_at code (place Leaving) returns data_above return_above) (a ∷ c) world) high return_high 2 a c returns world
    through_stub a c returns data_above return_above fc room deep =
        let at = place Leaving in
        let before : State = record { work = []; entries = []; callers = []; cells = a ∷ c; world = world } in
        let then : State = record { work = []; entries = Cell a ∷ []; callers = []; cells = c; world = world } in
        let one =
        phrase_runs p high return_high returns laws code size (ToR ∷ []) before then (place Leaving) (following (place Leaving)) data_above return_above refl refl
        (omega arith, omega arith, tt) stub.0 fc tt fits starts in
        let from = standing_at_depths (machine_at code (place Leaving) returns data_above return_above) (a ∷ c) world in
        let middle = standing_at_depths (machine_at code (following (place Leaving)) (Some a ∷ returns) one.0 one.1) c world in
        let to = standing_at_depths (machine_at code (a / 2 % 0x2000) returns one.0 (Some a ∷ one.1)) c world in
        let two =
        runs_one laws p.data_start (length c) (suc (length returns)) high return_high middle to (omega arith) (omega arith)
        (laws.returns p.data_start a (machine_at code (following (place Leaving)) returns one.0 one.1) c world stub.1) in
        record { above = one.0; above' = Some a ∷ one.1; runs = runs_then laws p.data_start high return_high 1 1 from middle to one.2 two }

    -- by a call, or by a jump in tail position
    called_stub : (tail : Bool) (pc a : ℕ) (c : List ℕ) (es : List Entry) (base data_above return_above : List (Option ℕ)) (K : Type 0) → CallStands code place p tail pc (place Leaving) K →
        AreCells (a ∷ c) → length c + 9 ≤ high → length (return_places es base) + 10 ≤ return_high →
        Leads (standing_at_depths (machine_at code pc (return_places es base) data_above return_above) (a ∷ c) world) high return_high 3 a c (led_places tail pc (return_places es base)) world
    called_stub true pc a c es base data_above return_above K holds fc room deep =
        let from = standing_at_depths (machine_at code pc (return_places es base) data_above return_above) (a ∷ c) world in
        let entered = standing_at_depths (machine_at code (place Leaving) (return_places es base) data_above return_above) (a ∷ c) world in
        let one =
        runs_one laws p.data_start (suc (length c)) (length (return_places es base)) high return_high from entered (omega arith) (omega arith)
        (laws.jumps p.data_start (place Leaving) (machine_at code pc (return_places es base) data_above return_above) (a ∷ c) world holds) in
        let two = through_stub a c (return_places es base) data_above return_above fc room (omega arith) in
        record { above = two.above; above' = two.above'; runs = runs_then laws p.data_start high return_high 1 2 from entered _ one two.runs }
    called_stub false pc a c es base data_above return_above K holds fc room deep =
        let from = standing_at_depths (machine_at code pc (return_places es base) data_above return_above) (a ∷ c) world in
        let entered = standing_at_depths (machine_at code (place Leaving) (Some (2 * following pc) ∷ return_places es base) data_above (rest return_above)) (a ∷ c) world in
        let one =
        runs_one laws p.data_start (suc (length c)) (length (return_places es base)) high return_high from entered (omega arith) (omega arith)
        (laws.calls p.data_start (place Leaving) (machine_at code pc (return_places es base) data_above return_above) (a ∷ c) world holds.0) in
        let two = through_stub a c (Some (2 * following pc) ∷ return_places es base) data_above (rest return_above) fc room (omega arith) in
        record { above = two.above; above' = two.above'; runs = runs_then laws p.data_start high return_high 1 2 from entered _ one two.runs }

  -- where the first work is GO its call stands, in a program that has GO
  pub record GoCalled (out : Option ℕ) (pc : ℕ) (after : List Work) : Type 0 where
    pub used : has_no_go p ≡ false
    pub call : CallStands code place p (ends_body after) pc (place Leaving) (Stands code place p out (following pc) after)

  go_called : (out : Option ℕ) (pc : ℕ) (after : List Work) → Stands code place p out pc (Todo (Plain Go) ∷ after) → GoCalled out pc after
  go_called out pc after (inl (inl h), few) = absurd (let f : false ≡ true = h.1 in cc)
  go_called out pc after (inl (inr h), few) = absurd (let routine = h.2 in let f : None ≡ Some routine.number = routine.is_library in cc)
  go_called out pc after (inr (inl h), few) = absurd (let f : Go ≡ Execute = h.0 in cc)
  go_called out pc after (inr (inr h), few) = record { used = h.1; call = h.2 }

  pub go_meets : (out : Option ℕ) (pc : ℕ) (s : State) (base : List (Option ℕ)) (after : List Work) → Meets code place p out pc s base → first_work s.work ≡ IsWord Go after → (o : Option ℕ) × GoCalled o pc after
  go_meets out pc s base after m first =
      let o = opens code place p out pc s.work m.stands m.loops in
      (o.out, go_called o.out pc after (subst (λ f. Stands code place p o.out pc (back code place p f)) first o.stands))

  -- the machine that stands as a state, where a step of GO is next
  pub go_leads : (high return_high : ℕ) (out : Option ℕ) (pc a : ℕ) (s : State) (c : List ℕ) (base data_above return_above : List (Option ℕ)) (after : List Work) → Meets code place p out pc s base →
      first_work s.work ≡ IsWord Go after → s.cells ≡ a ∷ c → (has_no_go p ≡ false → GoCode code (place Leaving)) →
      length s.cells + 24 ≤ high → length (return_places s.entries base) + 18 ≤ return_high →
      Leads (standing_as s (machine_at code pc base data_above return_above)) high return_high 3 a c (led_places (ends_body after) pc (return_places s.entries base)) s.world
  go_leads high return_high out pc a s c base data_above return_above after m first cells stub room deep =
      let go = go_meets out pc s base after m first in
      subst (λ cs. Leads (standing_at_depths (machine_at code pc (return_places s.entries base) data_above return_above) cs s.world) high return_high 3 a c
      (led_places (ends_body after) pc (return_places s.entries base)) s.world) (sym cells)
      (called_stub high return_high s.world m.world m.starts (stub go.1.used) (ends_body after) pc a c s.entries base data_above return_above _ go.1.call
      (subst AreCells cells m.cells) (omega (arith, room, ap length cells)) (omega (arith, deep)))
