-- Runs whose GO comes back, from where a state stands, on code with another cell in place of the return that ends the code of GO.
use Rattle.std.proofs.Common.{◌≡◌, ℕ, zero, suc, ◌+◌, ◌-◌, ◌*◌, ◌/◌, ◌%◌, ◌<◌, ◌≤◌, ◌==◌, inl, inr, ⊎_elim, Bool, true, false}
use Rattle.std.proofs.Common.{List, [], ◌∷◌, ◌++◌, length, slice_index, slice_set, Option, Some, None, refl, sym, ap, ◌∙◌, subst, length-append, arith, add-mul}
use Rattle.std.specs.Prelude.{◌&&◌, if◌then◌else◌}
use Rattle.std.specs.List.{All}
use Rattle.std.proofs.lemmas.List.Elements.{All-head, All-tail}
use Rattle.std.proofs.lemmas.Bool.Decides.{nat_tests}
use Rattle.j1_table.specs.Instruction.{decoded}
use Rattle.j1_simulator.specs.Effect.{effect, following}
use Rattle.j1_simulator.specs.Step.{Stop}
use Rattle.j1_simulator.specs.OpenMachine.{top_cell, rest, open_storage}
use Rattle.j1_simulator.specs.Run.{run, advanced, after_effect}
use Rattle.word_table.specs.declared.word.Word.TheVariants.{Go, Execute, ToR}
use Rattle.forth_program.specs.Tree.{Plain}
use Rattle.forth_program.specs.Tail.{ends_body}
use Rattle.forth_program.specs.State.{Cell, Work, Todo, World, State, End, Halted, InputEnded, Outside, Underflow, Unbalanced, Left, Outcome, Goes, Ends}
use Rattle.forth_program.specs.Program.{SourceProgram}
use Rattle.forth_program.specs.Step.{IsWord, first_work, step}
use Rattle.forth_program.specs.Run.{steps, end_of, lacks, leaves}
use Rattle.forth_program.specs.RunLaws.{OnlyGoLeaves, IsGoStep}
use Rattle.forth_program.specs.Price.{first_price, step_price, spent}
use Rattle.forth_program.specs.Cells.{AreCells, IsWorld}
use Rattle.forth_program.specs.Heights.{DepthFits, StepsFit, peak_of, back_of, execute_back, return_height}
use Rattle.forth_program.specs.Returns.{Return, IsReturn, world_back, behind_go, state_back, steps_back, spent_back}
use Rattle.word_laws.specs.Rings.{OpenConfiguration}
use Rattle.word_laws.specs.Bounds.{StaysWithin}
use Rattle.word_laws.specs.Control.{HoldsInstruction}
use Rattle.word_laws.specs.Standing.{return_places, standing_at_depths, standing_as, StandIn, machine_at}
use Rattle.code_layout.specs.Layout.{Routine, Leaving}
use Rattle.code_layout.specs.Agreement.{Shows, stop_of_outcome}
use Rattle.code_layout.specs.Returning.{MachineReturn, backs_of, machine_back, goes_back, is_running, is_leaving, LeftWithin, HoldsBack}
use Rattle.code_layout.proofs.Machine.{Laws, Runs, narrower, wider, runs_then, runs_one}
use Rattle.code_layout.proofs.Phrases.{phrase_runs}
use Rattle.code_layout.proofs.Work.{ahead, unfinished, Returns, CallStands, Stands, Loops, ends_at_return, back, opens, Meets}
use Rattle.code_layout.proofs.Steps.{AllStand}
use Rattle.code_layout.proofs.Runs.{strays, strays_not, StandsAs, StandsWhere, Nearer, Reaches, reaches, height_is}
use Rattle.code_layout.proofs.GoStep.{led_places}
use Rattle.code_layout.proofs.PatchedMachine.{set_cell, after_set, Keeps}
use Rattle.code_layout.proofs.PatchedRun.{returned, run_patched, pass, mended, StaysPatched, nothing_stays, one_less_stays, leaving_stays, stays_then, stopped_within}
use Rattle.code_layout.proofs.SourceReturns.{plain, LeavesIn, split, behind}
use Rattle.code_layout.proofs.ReturningParts.{some_fit, token_no_go, known_top, known_base, led_length, led_known, down_one, world_fits}

-- the code of an image with GO, and the same code with another cell in place of the return that ends the code of GO
pub record Patches (laws : Laws) (p : SourceProgram) : Type 0 where
  pub code : List ℕ
  pub code' : List ℕ
  pub place : Routine → ℕ
  pub size : length code' ≡ p.data_start / 2
  pub all : AllStand laws p code' place size
  -- that cell is the last of GO's
  pub last : ℕ
  pub last_is : last ≡ following (place Leaving)
  pub below : last < p.data_start / 2
  pub first_cell : StandIn code' (place Leaving) (0x6147 ∷ []) (following (place Leaving))
  pub return_cell : HoldsInstruction code last (decoded 0x700C)
  pub cell' : (space : List ℕ) → slice_index (code' ++ space) last ≡ 0x6001
  pub cell : (space : List ℕ) → slice_index (code ++ space) last ≡ 0x700C
  pub codes : (space : List ℕ) → slice_set (code ++ space) last 0x6001 ≡ code' ++ space
  pub mends : (space : List ℕ) → slice_set (code' ++ space) last 0x700C ≡ code ++ space
  -- and a return stands elsewhere too
  pub returns_at : ℕ
  pub returns_there : Returns code' place p returns_at
  pub apart : (returns_at == last) ≡ false

module _ (laws : Laws) (only : OnlyGoLeaves) (p : SourceProgram) (patches : Patches laws p) where
  abbrev code : List ℕ
  code = patches.code

  abbrev code' : List ℕ
  code' = patches.code'

  abbrev place : Routine → ℕ
  place = patches.place

  abbrev size : length patches.code' ≡ p.data_start / 2
  size = patches.size

  abbrev all : AllStand laws p patches.code' patches.place patches.size
  all = patches.all

  abbrev last : ℕ
  last = patches.last

  abbrev below : patches.last < p.data_start / 2
  below = patches.below

  abbrev mends : (space : List ℕ) → slice_set (patches.code' ++ space) patches.last 0x700C ≡ patches.code ++ space
  mends = patches.mends

  abbrev patched : List MachineReturn → ℕ → OpenConfiguration → OpenConfiguration
  patched returns n w = run_patched code' last p.data_start returns n w

  pub last_inside : last < length code'
  last_inside = omega (arith, size, below)

  keeps : (q : ℕ) (returns data_above return_above : List (Option ℕ)) (c : List ℕ) (world : World) → Keeps last 0x6001 (standing_at_depths (machine_at code' q returns data_above return_above) c world)
  keeps q returns data_above return_above c world = record { cell_is = patches.cell' world.space; inside = omega (arith, last_inside, length-append code' world.space) }

  -- ---- the code of GO

  -- the return that ends it
  goes_there : (a : ℕ) (c : List ℕ) (returns up up' : List (Option ℕ)) (world : World) →
      returned last p.data_start (standing_at_depths (machine_at code' last (Some a ∷ returns) up up') c world) ≡ standing_at_depths (machine_at code' (a / 2 % 0x2000) returns up (Some a ∷ up')) c world
  goes_there a c returns up up' world =
      let x = standing_at_depths (machine_at code last (Some a ∷ returns) up up') c world in
      let y = standing_at_depths (machine_at code (a / 2 % 0x2000) returns up (Some a ∷ up')) c world in
      let leads = laws.returns p.data_start a (machine_at code last returns up up') c world patches.return_cell in
      let made : after_effect None open_storage p.data_start (effect last (decoded 0x700C)) (standing_at_depths (machine_at code last (Some a ∷ returns) up up') c world) ≡ standing_at_depths
      (machine_at code (a / 2 % 0x2000) returns up (Some a ∷ up')) c world =
      ap (λ n. after_effect None open_storage p.data_start (effect last (decoded n)) (standing_at_depths (machine_at code last (Some a ∷ returns) up up') c world)) (sym (patches.cell world.space)) ∙ leads.makes in
      ap (λ m. after_effect None open_storage p.data_start (effect last (decoded 0x700C)) (record
      (standing_at_depths (machine_at code' last (Some a ∷ returns) up up') c world) { core = record (standing_at_depths (machine_at code' last (Some a ∷ returns) up up') c world).core { memory = m } })) (sym (patches.codes world.space))
      ∙ after_set last 0x6001 p.data_start below None (effect last (decoded 0x700C)) x
      ∙ ap (set_cell last 0x6001 p.data_start below) made
      ∙ ap (λ m. record (standing_at_depths (machine_at code' (a / 2 % 0x2000) returns up (Some a ∷ up')) c world) {
        core = record
            (standing_at_depths (machine_at code' (a / 2 % 0x2000) returns up (Some a ∷ up')) c world).core { memory = m };
      }) (patches.codes world.space)

  -- in some instructions, with at most ten cells more than are left behind it
  record AtLast (v : OpenConfiguration) (count a : ℕ) (c : List ℕ) (returns : List (Option ℕ)) (world : World) : Type 0 where
    up : List (Option ℕ)
    up' : List (Option ℕ)
    runs : Runs p.data_start (length c + 10) (length returns + 10) count v (standing_at_depths (machine_at code' last (Some a ∷ returns) up up') c world)

  to_last : (a : ℕ) (c : List ℕ) (returns data_above return_above : List (Option ℕ)) (world : World) → IsWorld world → world.data_start ≡ p.data_start → AreCells (a ∷ c) →
      AtLast (standing_at_depths (machine_at code' (place Leaving) returns data_above return_above) (a ∷ c) world) 1 a c returns world
  to_last a c returns data_above return_above world fits starts fc =
      let before : State = record { work = []; entries = []; callers = []; cells = a ∷ c; world = world } in
      let taken : State = record { work = []; entries = Cell a ∷ []; callers = []; cells = c; world = world } in
      let one =
      phrase_runs p (length c + 10) (length returns + 10) returns laws code' size (ToR ∷ []) before taken (place Leaving) (following (place Leaving)) data_above return_above refl refl
      (omega arith, omega arith, tt) patches.first_cell fc tt fits starts in
      record {
        up = one.0;
        up' = one.1;
        runs = subst (λ q. Runs p.data_start (length c + 10) (length returns + 10) 1 (standing_at_depths (machine_at code' (place Leaving) returns data_above return_above) (a ∷ c) world)
            (standing_at_depths (machine_at code' q (Some a ∷ returns) one.0 one.1) c world)) (sym patches.last_is) one.2;
      }

  call_to_last : (tail : Bool) (pc a : ℕ) (c : List ℕ) (places data_above return_above : List (Option ℕ)) (K : Type 0) (world : World) → IsWorld world → world.data_start ≡ p.data_start → AreCells (a ∷ c) →
      CallStands code' place p tail pc (place Leaving) K →
      AtLast (standing_at_depths (machine_at code' pc places data_above return_above) (a ∷ c) world) 2 a c (led_places tail pc places) world
  call_to_last true pc a c places data_above return_above K world fits starts fc holds =
      let two = to_last a c places data_above return_above world fits starts fc in
      let from = standing_at_depths (machine_at code' pc places data_above return_above) (a ∷ c) world in
      let entered = standing_at_depths (machine_at code' (place Leaving) places data_above return_above) (a ∷ c) world in
      let one =
      runs_one laws p.data_start (suc (length c)) (length places) (length c + 10) (length places + 10) from entered (omega arith) (omega arith)
      (laws.jumps p.data_start (place Leaving) (machine_at code' pc places data_above return_above) (a ∷ c) world holds) in
      record { up = two.up; up' = two.up'; runs = runs_then laws p.data_start (length c + 10) (length places + 10) 1 1 from entered _ one two.runs }
  call_to_last false pc a c places data_above return_above K world fits starts fc holds =
      let two = to_last a c (Some (2 * following pc) ∷ places) data_above (rest return_above) world fits starts fc in
      let from = standing_at_depths (machine_at code' pc places data_above return_above) (a ∷ c) world in
      let entered = standing_at_depths (machine_at code' (place Leaving) (Some (2 * following pc) ∷ places) data_above (rest return_above)) (a ∷ c) world in
      let one =
      runs_one laws p.data_start (suc (length c)) (length places) (length c + 10) (length (Some (2 * following pc) ∷ places) + 10) from entered (omega arith) (omega arith)
      (laws.calls p.data_start (place Leaving) (machine_at code' pc places data_above return_above) (a ∷ c) world holds.0) in
      record { up = two.up; up' = two.up'; runs = runs_then laws p.data_start (length c + 10) (length (Some (2 * following pc) ∷ places) + 10) 1 1 from entered _ one two.runs }

  -- where a step of GO is next
  record GoHere (pc : ℕ) (s : State) (after : List Work) : Type 0 where
    out : Option ℕ
    call : CallStands code' place p (ends_body after) pc (place Leaving) (Stands code' place p out (following pc) after)
    loops : Loops code' place p out after
    few : ahead after ≤ p.source_tokens
    fewer : 1 + ahead after ≤ ahead s.work

  go_placed : (out : Option ℕ) (pc : ℕ) (s : State) (after : List Work) → Stands code' place p out pc (Todo (Plain Go) ∷ after) → Loops code' place p out after → 1 + ahead after ≤ ahead s.work → GoHere pc s after
  go_placed out pc s after (inl (inl h), few) l n = absurd (let f : false ≡ true = h.1 in cc)
  go_placed out pc s after (inl (inr h), few) l n = absurd (let routine = h.2 in let f : None ≡ Some routine.number = routine.is_library in cc)
  go_placed out pc s after (inr (inl h), few) l n = absurd (let f : Go ≡ Execute = h.0 in cc)
  go_placed out pc s after (inr (inr h), few) l n = record { out = out; call = h.2; loops = l; few = omega (arith, few); fewer = n }

  go_here : (out : Option ℕ) (pc : ℕ) (s : State) (base : List (Option ℕ)) (after : List Work) → Meets code' place p out pc s base → first_work s.work ≡ IsWord Go after → GoHere pc s after
  go_here out pc s base after m first =
      let o = opens code' place p out pc s.work m.stands m.loops in
      go_placed o.out pc s after (subst (λ f. Stands code' place p o.out pc (back code' place p f)) first o.stands) (subst (λ f. Loops code' place p o.out (back code' place p f)) first o.loops)
      (subst (λ f. ahead (back code' place p f) ≤ ahead s.work) first o.fewer)

  -- ---- what is proved

  abbrev pub DepthsBack : List MachineReturn → ℕ → State → Type 0
  DepthsBack returns k s = (j : ℕ) (t : State) → j < k → steps_back p (backs_of returns) j s ≡ Goes t → DepthFits (first_work t.work) t.cells

  -- each of k word steps takes at most so many cells
  abbrev pub StepsFitBack : List MachineReturn → ℕ → ℕ → ℕ → State → Type 0
  StepsFitBack returns high return_high k s =
      (j : ℕ) (t : State) → j < k → steps_back p (backs_of returns) j s ≡ Goes t →
      (length t.cells + peak_of t.callers (first_work t.work) ≤ high) × (return_height t + back_of (first_work t.work) ≤ return_high) × (return_height t + execute_back p (first_work t.work) t.cells ≤ return_high)

  abbrev pub Stays : ℕ → ℕ → List MachineReturn → ℕ → OpenConfiguration → Type 0
  Stays high return_high returns n v = StaysPatched code code' last p.data_start below mends last_inside high return_high returns n v

  -- so many instructions do the same as k word steps
  pub record Back (k total now : ℕ) (returns : List MachineReturn) (s : State) (v : OpenConfiguration) : Type 0 where
    pub count : ℕ
    pub cheap : count + total ≤ spent_back p (backs_of returns) total k s + 3
    pub shows : Shows code' (patched returns count v) (steps_back p (backs_of returns) k s)
    pub progress : end_of (steps_back p (backs_of returns) k s) ≡ None → k ≤ now + count * (p.source_tokens + 1)
    -- and where they have ended no more are made
    pub stays : (end : End) (n : ℕ) → end_of (steps_back p (backs_of returns) k s) ≡ Some end → patched returns (count + n) v ≡ patched returns count v
    -- both stacks keep to the limits of the word steps
    pub stacks : (high return_high : ℕ) → StepsFitBack returns high return_high k s → Stays high return_high returns count v
    pub stacks_ended : (high return_high : ℕ) (end : End) (n : ℕ) → StepsFitBack returns high return_high k s → end_of (steps_back p (backs_of returns) k s) ≡ Some end → Stays high return_high returns (count + n) v

  stopped_stays : (returns : List MachineReturn) (n : ℕ) (w : OpenConfiguration) (stop : Stop) → w.stop ≡ Some stop → patched returns n w ≡ w
  unfolding run_patched
  stopped_stays returns zero w stop e = refl
  stopped_stays returns (suc n) w stop e =
      ap
      (λ st.
      if is_running st && (w.core.pc == last) then goes_back (machine_back code') returns (returned last p.data_start w) (λ others v. run_patched code' last p.data_start others n v)
      else run_patched code' last p.data_start returns n (advanced st open_storage p.data_start w)) e
      ∙ stopped_stays returns n w stop e

  stop_of_end : (o : Outcome) (end : End) → strays o ≡ false → end_of o ≡ Some end → (stop : Stop) × (stop_of_outcome o ≡ Some stop)
  stop_of_end (Goes s) end sound e = let f : None ≡ Some end = e in cc
  stop_of_end (Ends (Halted status) world) end sound e = (_, refl)
  stop_of_end (Ends InputEnded world) end sound e = (_, refl)
  stop_of_end (Ends (Outside address) world) end sound e = (_, refl)
  stop_of_end (Ends Underflow world) end sound e = let f : true ≡ false = sound in cc
  stop_of_end (Ends Unbalanced world) end sound e = let f : true ≡ false = sound in cc
  stop_of_end (Ends (Left address) world) end sound e = let f : true ≡ false = sound in cc

  none_made : (returns : List MachineReturn) (w : OpenConfiguration) → patched returns 0 w ≡ w
  unfolding run_patched
  none_made returns w = refl

  pub moves : (returns : List MachineReturn) (n : ℕ) (u v : OpenConfiguration) → is_leaving last u ≡ false → advanced u.stop open_storage p.data_start u ≡ v → patched returns (suc n) u ≡ patched returns n v
  unfolding run_patched
  moves returns n u v elsewhere leads =
      ap
      (λ x.
      if x then goes_back (machine_back code') returns (returned last p.data_start u) (λ others v. run_patched code' last p.data_start others n v)
      else run_patched code' last p.data_start returns n (advanced u.stop open_storage p.data_start u)) elsewhere
      ∙ ap (run_patched code' last p.data_start returns n) leads

  no_more : (n : ℕ) → n + 0 ≡ n
  no_more n = omega arith

  abbrev At : ℕ → List (Option ℕ) → List (Option ℕ) → List (Option ℕ) → State → OpenConfiguration
  At pc base data_above return_above s = standing_as s (machine_at code' pc base data_above return_above)

  -- where GO does not lead out
  plain_back : (returns : List MachineReturn) (k total pc : ℕ) (out : Option ℕ) (s : State) (base data_above return_above : List (Option ℕ)) → Meets code' place p out pc s base → leaves (steps p k s) ≡ false →
      lacks (steps_back p (backs_of returns) k s) ≡ false → DepthsBack returns k s → Back k total (ahead s.work + unfinished s.callers) returns s (At pc base data_above return_above s)
  plain_back returns k total pc out s base data_above return_above m remains lack depths =
      let v = At pc base data_above return_above s in
      let same = plain p (backs_of returns) total k s remains in
      let sound = strays_not (steps p k s) (sym (ap lacks same.0) ∙ lack) remains in
      let r =
      reaches laws p code' place size all k total pc out s base data_above return_above m sound
      (λ j t lt e. depths j t lt ((plain p (backs_of returns) total j s (ap leaves e)).0 ∙ e)) in
      let fit = some_fit p k s in
      let goes_on : (n : ℕ) → patched returns (r.count + n) (At pc base data_above return_above s) ≡ patched returns n (run open_storage p.data_start r.count (At pc base data_above return_above s)) = λ n.
      (pass code code' last p.data_start below mends last_inside returns fit.0 fit.1 r.count n (At pc base data_above return_above s) (r.before fit.0 fit.1 fit.2)
      (keeps pc (return_places s.entries base) data_above return_above s.cells s.world)).0 in
      let fits : (high return_high : ℕ) → StepsFitBack returns high return_high k s → StepsFit p high return_high k s = λ high return_high fit j t lt e. fit j t lt ((plain p (backs_of returns) total j s (ap leaves e)).0 ∙ e) in
      let stay : (high return_high n : ℕ) → StepsFitBack returns high return_high k s → Stays high return_high returns n (run open_storage p.data_start r.count (At pc base data_above return_above s)) →
      Stays high return_high returns (r.count + n) (At pc base data_above return_above s) = λ high return_high n fit later.
      stays_then code code' last p.data_start below mends last_inside high return_high returns r.count n (At pc base data_above return_above s) (r.before high return_high (fits high return_high fit))
      (keeps pc (return_places s.entries base) data_above return_above s.cells s.world) later in
      let at : patched returns r.count (At pc base data_above return_above s) ≡ run open_storage p.data_start r.count (At pc base data_above return_above s) =
      ap (λ n. patched returns n (At pc base data_above return_above s)) (sym (no_more r.count)) ∙ goes_on 0 ∙ none_made returns (run open_storage p.data_start r.count (At pc base data_above return_above s)) in
      let cheap = r.cheap in
      record {
        count = r.count;
        cheap = omega (arith, cheap, same.1);
        shows = subst (Shows code' (patched returns r.count (At pc base data_above return_above s))) (sym same.0) (subst (λ u. Shows code' u (steps p k s)) (sym at) r.shows);
        progress = λ e. r.progress (sym (ap end_of same.0) ∙ e);
        stays = λ end n e.
            let stop = stop_of_end (steps p k s) end sound (sym (ap end_of same.0) ∙ e) in
            goes_on n ∙ stopped_stays returns n (run open_storage p.data_start r.count (At pc base data_above return_above s)) stop.0 (r.shows.stop_is ∙ stop.1) ∙ sym at;
        stacks = λ high return_high fit.
            subst (λ n. Stays high return_high returns n (At pc base data_above return_above s)) (no_more r.count)
            (stay high return_high 0 fit (nothing_stays code code' last p.data_start below mends last_inside high return_high returns (run open_storage p.data_start r.count (At pc base data_above return_above s))));
        stacks_ended = λ high return_high end n fit e.
            let stop = stop_of_end (steps p k s) end sound (sym (ap end_of same.0) ∙ e) in
            stay high return_high n fit
            (stopped_within code code' last p.data_start below mends last_inside high return_high returns n (run open_storage p.data_start r.count (At pc base data_above return_above s)) stop.0 (r.shows.stop_is ∙ stop.1)
            (r.at_end high return_high end (fits high return_high fit) (sym (ap end_of same.0) ∙ e)));
      }

  -- ---- behind GO

  -- the machine that comes back
  back_is : (r : MachineReturn) (q x : ℕ) (places up up' : List (Option ℕ)) (c : List ℕ) (world : World) →
      machine_back code' r (standing_at_depths (machine_at code' q (Some x ∷ places) up up') c world) ≡ standing_at_depths (machine_at code' (x / 2 % 0x2000) places r.data_above (Some x ∷ r.return_above)) c (world_back r.back world)
  back_is r q x places up up' c world =
      ap
      (λ d. record (standing_at_depths (machine_at code' (x / 2 % 0x2000) places r.data_above (Some x ∷ r.return_above)) c (world_back r.back world)) {
        core = record (standing_at_depths (machine_at code' (x / 2 % 0x2000) places r.data_above (Some x ∷ r.return_above)) c (world_back r.back world)).core {
          return_stack = record { below = places; above = Some x ∷ r.return_above; at = d };
        };
        return_depth = d;
      }) (down_one (length places))

  -- one instruction on from a return
  one_on : (returns : List MachineReturn) (i total now : ℕ) (s : State) (u v : OpenConfiguration) → is_leaving last u ≡ false → advanced u.stop open_storage p.data_start u ≡ v →
      u.stop ≡ v.stop → u.core.memory ≡ v.core.memory → u.input ≡ v.input → u.printed ≡ v.printed → Back i total now returns s u → Back i total (now + (p.source_tokens + 1)) returns s v
  one_on returns i total now s u v elsewhere leads stop memory input printed b = by b.count refl
    where
      first : (n : ℕ) → 0 + suc n ≡ suc n
      first n = omega arith

      nothing : (n : ℕ) → 0 + n ≡ n
      nothing n = omega arith

      more : (c n : ℕ) → suc (c + n) ≡ suc c + n
      more c n = omega arith

      by : (n : ℕ) → b.count ≡ n → Back i total (now + (p.source_tokens + 1)) returns s v
      by zero e =
          let cheap = b.cheap in
          let u_shows : Shows code' u (steps_back p (backs_of returns) i s) = subst (λ w. Shows code' w (steps_back p (backs_of returns) i s)) (ap (λ n. patched returns n u) e ∙ none_made returns u) b.shows in
          let seen : Shows code' v (steps_back p (backs_of returns) i s) = record {
            stop_is = sym stop ∙ u_shows.stop_is;
            memory = sym memory ∙ u_shows.memory;
            input = sym input ∙ u_shows.input;
            printed = sym printed ∙ u_shows.printed;
          } in
          let still : (end : End) (n : ℕ) → end_of (steps_back p (backs_of returns) i s) ≡ Some end → patched returns n v ≡ u = λ end n q.
          sym (moves returns n u v elsewhere leads) ∙ ap (λ n. patched returns n u) (sym (first n)) ∙ ap (λ c. patched returns (c + suc n) u) (sym e) ∙ b.stays end (suc n) q ∙ ap (λ n. patched returns n u) e ∙ none_made returns u in
          record {
            count = 0;
            cheap = omega (arith, cheap, e);
            shows = subst (λ w. Shows code' w (steps_back p (backs_of returns) i s)) (sym (none_made returns v)) seen;
            progress = λ q. let far = b.progress q in let none : b.count * (p.source_tokens + 1) ≡ 0 = ap (λ n. n * (p.source_tokens + 1)) e ∙ no_times (p.source_tokens + 1) in omega (arith, far, none);
            stays = λ end n q. ap (λ n. patched returns n v) (nothing n) ∙ still end n q ∙ sym (still end 0 q);
            stacks = λ high return_high fit. nothing_stays code code' last p.data_start below mends last_inside high return_high returns v;
            stacks_ended = λ high return_high end n fit q.
                one_less_stays code code' last p.data_start below mends last_inside high return_high returns (0 + n) u v elsewhere leads
                (subst (λ c. Stays high return_high returns c u) (let f : b.count + suc n ≡ suc (0 + n) = omega (arith, e) in f) (b.stacks_ended high return_high end (suc n) fit q));
          }
        where
          no_times : (n : ℕ) → 0 * n ≡ 0
          no_times n = omega arith
      by (suc c) e =
          let cheap = b.cheap in
          record {
            count = c;
            cheap = omega (arith, cheap, e);
            shows = subst (λ w. Shows code' w (steps_back p (backs_of returns) i s)) (ap (λ n. patched returns n u) e ∙ moves returns c u v elsewhere leads) b.shows;
            progress = λ q.
                let far = b.progress q in
                let times : b.count * (p.source_tokens + 1) ≡ suc c * (p.source_tokens + 1) = ap (λ n. n * (p.source_tokens + 1)) e in
                omega (arith, far, times, add-mul 1 c (p.source_tokens + 1), one_more c (p.source_tokens + 1));
            stays = λ end n q.
                sym (moves returns (c + n) u v elsewhere leads) ∙ ap (λ n. patched returns n u) (more c n) ∙ ap (λ m. patched returns (m + n) u) (sym e) ∙ b.stays end n q
                ∙ ap (λ n. patched returns n u) e ∙ moves returns c u v elsewhere leads;
            stacks = λ high return_high fit.
                one_less_stays code code' last p.data_start below mends last_inside high return_high returns c u v elsewhere leads
                (subst (λ n. Stays high return_high returns n u) e (b.stacks high return_high fit));
            stacks_ended = λ high return_high end n fit q.
                one_less_stays code code' last p.data_start below mends last_inside high return_high returns (c + n) u v elsewhere leads
                (subst (λ m. Stays high return_high returns m u) (let f : b.count + n ≡ suc (c + n) = omega (arith, e) in f) (b.stacks_ended high return_high end n fit q));
          }
        where
          one_more : (c n : ℕ) → suc c * n ≡ (1 + c) * n
          one_more c n = let e : suc c ≡ 1 + c = omega arith in ap (λ x. x * n) e

  abbrev Comes : List MachineReturn → Type 0
  Comes returns = All (IsReturn p) (backs_of returns)

  -- what is proved of these returns
  abbrev Claims : List MachineReturn → Type 0
  Claims returns =
      (k total pc : ℕ) (out : Option ℕ) (s : State) (base data_above return_above : List (Option ℕ)) → Meets code' place p out pc s base →
      lacks (steps_back p (backs_of returns) k s) ≡ false → DepthsBack returns k s → Back k total (ahead s.work + unfinished s.callers) returns s (At pc base data_above return_above s)

  module _ (t : State) (pc address : ℕ) (base : List (Option ℕ)) (out : Option ℕ) (m : Meets code' place p out pc t base) (g : IsGoStep t address t.world) where
    -- the state behind GO
    then_is : (b : Return) → state_back b t ≡ record { work = g.after; entries = t.entries; callers = t.callers; cells = g.cells; world = world_back b t.world }
    then_is b =
        ap (λ f. record (behind_go f t.cells t) { world = world_back b t.world }) g.first
        ∙ ap (λ cs. record (behind_go (IsWord Go g.after) cs t) { world = world_back b t.world }) g.address_is

    cells_are : AreCells (address ∷ g.cells)
    cells_are = subst AreCells g.address_is m.cells

    -- the machine that comes back, behind a call or in tail position
    resumes : (returns : List MachineReturn) (r : MachineReturn) → IsReturn p r.back → Claims returns → (i total : ℕ) (up up' : List (Option ℕ)) (tail : Bool) → ends_body g.after ≡ tail → GoHere pc t g.after →
        lacks (steps_back p (backs_of returns) i (record { work = g.after; entries = t.entries; callers = t.callers; cells = g.cells; world = world_back r.back t.world })) ≡ false →
        DepthsBack returns i (record { work = g.after; entries = t.entries; callers = t.callers; cells = g.cells; world = world_back r.back t.world }) →
        Back i total (ahead g.after + unfinished t.callers + (p.source_tokens + 1)) returns (record { work = g.after; entries = t.entries; callers = t.callers; cells = g.cells; world = world_back r.back t.world })
        (machine_back code' r (standing_at_depths (machine_at code' (address / 2 % 0x2000) (led_places tail pc (return_places t.entries base)) up up') g.cells t.world))
    resumes returns r is claims i total up up' true e here lack depths =
        let known = known_top t.entries base (known_base code' place p t.callers base m.frames) in
        let meets : Meets code' place p here.out patches.returns_at (record { work = g.after; entries = t.entries; callers = t.callers; cells = g.cells; world = world_back r.back t.world }) base = record {
          stands = ends_at_return code' place p here.out patches.returns_at g.after e here.few patches.returns_there;
          loops = here.loops;
          frames = m.frames;
          cells = cells_are.1;
          entries = m.entries;
          world = world_fits p r.back t.world is m.world m.starts;
          starts = m.starts;
        } in
        let b = claims i total patches.returns_at here.out (record { work = g.after; entries = t.entries; callers = t.callers; cells = g.cells; world = world_back r.back t.world }) base r.data_above r.return_above meets lack depths in
        let u = standing_at_depths (machine_at code' patches.returns_at (return_places t.entries base) r.data_above r.return_above) g.cells (world_back r.back t.world) in
        let leads =
        laws.returns p.data_start known.0 (machine_at code' patches.returns_at known.1 r.data_above r.return_above) g.cells (world_back r.back t.world) patches.returns_there in
        let one : advanced None open_storage p.data_start (standing_at_depths (machine_at code' patches.returns_at (return_places t.entries base) r.data_above r.return_above) g.cells (world_back r.back t.world))
        ≡ machine_back code' r (standing_at_depths (machine_at code' (address / 2 % 0x2000) (return_places t.entries base) up up') g.cells t.world) =
        ap (λ ps. advanced None open_storage p.data_start (standing_at_depths (machine_at code' patches.returns_at ps r.data_above r.return_above) g.cells (world_back r.back t.world))) known.2
        ∙ leads.makes
        ∙ sym (back_is r (address / 2 % 0x2000) known.0 known.1 up up' g.cells t.world)
        ∙ ap (λ ps. machine_back code' r (standing_at_depths (machine_at code' (address / 2 % 0x2000) ps up up') g.cells t.world)) (sym known.2) in
        one_on returns i total (ahead g.after + unfinished t.callers) (record { work = g.after; entries = t.entries; callers = t.callers; cells = g.cells; world = world_back r.back t.world }) u
        (machine_back code' r (standing_at_depths (machine_at code' (address / 2 % 0x2000) (return_places t.entries base) up up') g.cells t.world)) patches.apart one refl refl refl refl b
    resumes returns r is claims i total up up' false e here lack depths =
        let holds = subst (λ tail. CallStands code' place p tail pc (place Leaving) (Stands code' place p here.out (following pc) g.after)) e here.call in
        let meets : Meets code' place p here.out (following pc) (record { work = g.after; entries = t.entries; callers = t.callers; cells = g.cells; world = world_back r.back t.world }) base = record {
          stands = holds.1;
          loops = here.loops;
          frames = m.frames;
          cells = cells_are.1;
          entries = m.entries;
          world = world_fits p r.back t.world is m.world m.starts;
          starts = m.starts;
        } in
        let b = claims i total (following pc) here.out (record { work = g.after; entries = t.entries; callers = t.callers; cells = g.cells; world = world_back r.back t.world }) base r.data_above
        (Some (2 * following pc) ∷ r.return_above) meets lack depths in
        let back_there : 2 * following pc / 2 % 0x2000 ≡ following pc = same_place pc in
        let is_there =
        back_is r (address / 2 % 0x2000) (2 * following pc) (return_places t.entries base) up up' g.cells t.world
        ∙ ap (λ q. standing_at_depths (machine_at code' q (return_places t.entries base) r.data_above (Some (2 * following pc) ∷ r.return_above)) g.cells (world_back r.back t.world)) back_there in
        let far = b.progress in
        let cheap = b.cheap in
        subst (Back i total (ahead g.after + unfinished t.callers + (p.source_tokens + 1)) returns (record { work = g.after; entries = t.entries; callers = t.callers; cells = g.cells; world = world_back r.back t.world })) (sym is_there)
        (record { count = b.count; cheap = cheap; shows = b.shows; progress = λ q. let f = far q in omega (arith, f); stays = b.stays; stacks = b.stacks; stacks_ended = b.stacks_ended })
      where
        same_place : (pc : ℕ) → 2 * following pc / 2 % 0x2000 ≡ following pc
        same_place pc = omega arith

  same_number : (n : ℕ) → (n == n) ≡ true
  same_number n = grind (arith, nat_tests)

  -- at the end of the code of GO
  at_last : (returns : List MachineReturn) (j a : ℕ) (c : List ℕ) (places up up' : List (Option ℕ)) (world : World) →
      patched returns (suc j) (standing_at_depths (machine_at code' last (Some a ∷ places) up up') c world)
      ≡ goes_back (machine_back code') returns (standing_at_depths (machine_at code' (a / 2 % 0x2000) places up (Some a ∷ up')) c world) (λ others u. run_patched code' last p.data_start others j u)
  unfolding run_patched
  at_last returns j a c places up up' world =
      let w = standing_at_depths (machine_at code' last (Some a ∷ places) up up') c world in
      ap
      (λ x.
      if x then goes_back (machine_back code') returns (returned last p.data_start (standing_at_depths (machine_at code' last (Some a ∷ places) up up') c world)) (λ others v. run_patched code' last p.data_start others j v)
      else run_patched code' last p.data_start returns j (advanced None open_storage p.data_start (standing_at_depths (machine_at code' last (Some a ∷ places) up up') c world))) (same_number last)
      ∙ ap (λ v. goes_back (machine_back code') returns v (λ others u. run_patched code' last p.data_start others j u)) (goes_there a c places up up' world)

  last_stays : (returns : List MachineReturn) (j high return_high a : ℕ) (c : List ℕ) (places up up' : List (Option ℕ)) (world : World) → length c ≤ high → suc (length places) ≤ return_high →
      ((x : ℕ) × (below : List (Option ℕ)) × (places ≡ Some x ∷ below)) →
      HoldsBack code' returns (standing_at_depths (machine_at code' (a / 2 % 0x2000) places up (Some a ∷ up')) c world) (λ others v. Stays high return_high others j v) →
      Stays high return_high returns (suc j) (standing_at_depths (machine_at code' last (Some a ∷ places) up up') c world)
  last_stays returns j high return_high a c places up up' world few few_returns known later =
      let w = standing_at_depths (machine_at code' last (Some a ∷ places) up up') c world in
      let led = standing_at_depths (machine_at code' (a / 2 % 0x2000) places up (Some a ∷ up')) c world in
      let leads = laws.returns p.data_start a (machine_at code last places up up') c world patches.return_cell in
      let bounds = leads.bounds.0 in
      let mended_is : mended code code' last p.data_start below mends last_inside w ≡ standing_at_depths (machine_at code last (Some a ∷ places) up up') c world =
      ap (λ m. record (standing_at_depths (machine_at code last (Some a ∷ places) up up') c world) { core = record (standing_at_depths (machine_at code last (Some a ∷ places) up up') c world).core { memory = m } }) (mends world.space) in
      let left : LeftWithin high return_high led = record {
        depth = length c;
        return_depth = length places;
        address = known.0;
        depth_is = refl;
        return_depth_is = refl;
        at_most = few;
        return_at_most = omega (arith, few_returns);
        known = bounds.known;
        return_known = bounds.return_known;
        address_is = ap top_cell known.2;
      } in
      leaving_stays code code' last p.data_start below mends last_inside high return_high returns j w (same_number last)
      (subst (StaysWithin 0 high 0 return_high) (sym mended_is) (narrower laws p.data_start (length c) (length c) (suc (length places)) (suc (length places)) high return_high _ few few_returns bounds))
      (subst (LeftWithin high return_high) (sym (goes_there a c places up up' world)) left)
      (subst (λ v. HoldsBack code' returns v (λ others u. Stays high return_high others j u)) (sym (goes_there a c places up up' world)) later)

  -- a run that GO leads out
  module _ (k total pc : ℕ) (out : Option ℕ) (s : State) (base data_above return_above : List (Option ℕ)) (m : Meets code' place p out pc s base) (l : LeavesIn p k s) where
    abbrev from : OpenConfiguration
    from = At pc base data_above return_above s

    abbrev ReachesGo : Type 0
    ReachesGo = Reaches laws p code' place size all l.j total (ahead s.work + unfinished s.callers) s from

    abbrev go_step : IsGoStep l.last l.address l.world
    go_step = only p l.last l.address l.world l.ends

    abbrev StandsAtGo : ReachesGo → Type 0
    StandsAtGo r = StandsAs laws p code' place size all (run open_storage p.data_start r.count from) l.last

    stood : (r : ReachesGo) → StandsAtGo r
    stood r =
        ⊎_elim (λ stands. stands) (λ hand. absurd (token_no_go hand.0 hand.1 go_step.after hand.3 (sym (ap first_work hand.2) ∙ go_step.first)))
        (subst (StandsWhere laws p code' place size all (run open_storage p.data_start r.count from)) l.goes r.stands)

    near : (r : ReachesGo) → l.j + ahead l.last.work + unfinished l.last.callers ≤ ahead s.work + unfinished s.callers + r.count * (p.source_tokens + 1)
    near r =
        ⊎_elim (λ n. n) (λ hand. absurd (token_no_go hand.0 hand.1 go_step.after hand.3 (sym (ap first_work hand.2) ∙ go_step.first)))
        (subst (Nearer laws p code' place size all l.j (ahead s.work + unfinished s.callers) r.count) l.goes r.nearer)

    price_is : step_price l.last ≡ 3
    price_is = ap (λ f. first_price f l.last.cells l.last.world) go_step.first

    abbrev go_world : IsGoStep l.last l.address l.last.world
    go_world = record { after = go_step.after; cells = go_step.cells; first = go_step.first; address_is = go_step.address_is; world_is = refl }

    module _ (r : ReachesGo) (at : StandsAtGo r) where
      here : GoHere at.to l.last go_step.after
      here = go_here at.out at.to l.last at.base go_step.after at.meets go_step.first

      abbrev places : List (Option ℕ)
      places = led_places (ends_body go_step.after) at.to (return_places l.last.entries at.base)

      abbrev Arrives : Type 0
      Arrives = AtLast (standing_at_depths (machine_at code' at.to (return_places l.last.entries at.base) at.data_above at.return_above) (l.address ∷ go_step.cells) l.last.world) 2 l.address go_step.cells places l.last.world

      arrives : Arrives
      arrives =
          call_to_last (ends_body go_step.after) at.to l.address go_step.cells (return_places l.last.entries at.base) at.data_above at.return_above _ l.last.world at.meets.world at.meets.starts
          (subst AreCells go_step.address_is at.meets.cells) here.call

      abbrev led : Arrives → OpenConfiguration
      led two = standing_at_depths (machine_at code' (l.address / 2 % 0x2000) places two.up (Some l.address ∷ two.up')) go_step.cells l.last.world

      led_out : (two : Arrives) (returns : List MachineReturn) (j : ℕ) → patched returns (r.count + (2 + suc j)) from ≡ goes_back (machine_back code') returns (led two) (λ others u. run_patched code' last p.data_start others j u)
      led_out two returns j =
          let fit = some_fit p l.j s in
          let there = standing_at_depths (machine_at code' at.to (return_places l.last.entries at.base) at.data_above at.return_above) (l.address ∷ go_step.cells) l.last.world in
          let same : run open_storage p.data_start r.count from ≡ standing_at_depths (machine_at code' at.to (return_places l.last.entries at.base) at.data_above at.return_above) (l.address ∷ go_step.cells) l.last.world =
          at.is ∙ ap (λ cs. standing_at_depths (machine_at code' at.to (return_places l.last.entries at.base) at.data_above at.return_above) cs l.last.world) go_step.address_is in
          (pass code code' last p.data_start below mends last_inside returns fit.0 fit.1 r.count (2 + suc j) from (r.before fit.0 fit.1 fit.2) (keeps pc (return_places s.entries base) data_above return_above s.cells s.world)).0
          ∙ ap (patched returns (2 + suc j)) same
          ∙ (pass code code' last p.data_start below mends last_inside returns (length go_step.cells + 10) (length places + 10) 2 (suc j) there two.runs.bounds
          (keeps at.to (return_places l.last.entries at.base) at.data_above at.return_above (l.address ∷ go_step.cells) l.last.world)).0
          ∙ ap (patched returns (suc j)) two.runs.makes
          ∙ at_last returns j l.address go_step.cells places two.up two.up' l.last.world

      -- with the stacks of the word steps
      steps_fit : (returns : List MachineReturn) (high return_high : ℕ) → StepsFitBack returns high return_high k s → StepsFit p high return_high l.j s
      steps_fit returns high return_high fit j t lt e = fit j t (let parts = l.parts in omega (arith, parts, lt)) ((plain p (backs_of returns) total j s (ap leaves e)).0 ∙ e)

      go_fits : (returns : List MachineReturn) (high return_high : ℕ) → StepsFitBack returns high return_high k s → (length go_step.cells + 10 ≤ high) × (length places + 10 ≤ return_high)
      go_fits returns high return_high fit =
          let f = fit l.j l.last (let parts = l.parts in omega (arith, parts)) ((plain p (backs_of returns) total l.j s (ap leaves l.goes)).0 ∙ l.goes) in
          let room : length l.last.cells + 24 ≤ high = subst (λ x. length l.last.cells + peak_of l.last.callers x ≤ high) go_step.first f.0 in
          let back : return_height l.last + 18 ≤ return_high = subst (λ x. return_height l.last + back_of x ≤ return_high) go_step.first f.1 in
          let deep = height_is laws p code' place size all at.out at.to l.last at.base at.meets in
          (omega (arith, room, ap length go_step.address_is), omega (arith, back, deep, led_length (ends_body go_step.after) at.to (return_places l.last.entries at.base)))

      led_stays : (two : Arrives) (returns : List MachineReturn) (j high return_high : ℕ) → StepsFitBack returns high return_high k s →
          HoldsBack code' returns (led two) (λ others v. Stays high return_high others j v) → Stays high return_high returns (r.count + (2 + suc j)) from
      led_stays two returns j high return_high fit later =
          let there = standing_at_depths (machine_at code' at.to (return_places l.last.entries at.base) at.data_above at.return_above) (l.address ∷ go_step.cells) l.last.world in
          let same : run open_storage p.data_start r.count from ≡ standing_at_depths (machine_at code' at.to (return_places l.last.entries at.base) at.data_above at.return_above) (l.address ∷ go_step.cells) l.last.world =
          at.is ∙ ap (λ cs. standing_at_depths (machine_at code' at.to (return_places l.last.entries at.base) at.data_above at.return_above) cs l.last.world) go_step.address_is in
          let room = go_fits returns high return_high fit in
          let runs = two.runs in
          stays_then code code' last p.data_start below mends last_inside high return_high returns r.count (2 + suc j) from (r.before high return_high (steps_fit returns high return_high fit))
          (keeps pc (return_places s.entries base) data_above return_above s.cells s.world)
          (subst (Stays high return_high returns (2 + suc j)) (sym same)
          (stays_then code code' last p.data_start below mends last_inside high return_high returns 2 (suc j) there
          (wider laws p.data_start 0 (length go_step.cells + 10) 0 (length places + 10) high return_high 2 there room.0 room.1 runs.bounds)
          (keeps at.to (return_places l.last.entries at.base) at.data_above at.return_above (l.address ∷ go_step.cells) l.last.world)
          (subst (Stays high return_high returns (suc j)) (sym runs.makes)
          (last_stays returns j high return_high l.address go_step.cells places two.up two.up' l.last.world (omega (arith, room.0)) (omega (arith, room.1)) known_place later))))
        where
          known_place : (x : ℕ) × (below : List (Option ℕ)) × (places ≡ Some x ∷ below)
          known_place = led_known (ends_body go_step.after) at.to (return_places l.last.entries at.base) (known_top l.last.entries at.base (known_base code' place p l.last.callers at.base at.meets.frames))

      -- and stays there
      none_back : Arrives → Back k total (ahead s.work + unfinished s.callers) [] s from
      none_back two =
          let b = behind p [] total l.j l.i s l.last l.address l.world l.goes l.ends in
          let is : steps_back p [] k s ≡ Ends (Left l.address) l.world = ap (λ n. steps_back p [] n s) l.parts ∙ b.0 in
          let spends : spent_back p [] total k s ≡ spent p total l.j s + step_price l.last = ap (λ n. spent_back p [] total n s) l.parts ∙ b.1 in
          let paid = r.paid (ap end_of l.goes) in
          let shows : Shows code' (led two) (Ends (Left l.address) l.world) = record {
            stop_is = refl;
            memory = ap (λ w. code' ++ w.space) (sym go_step.world_is);
            input = ap (λ w. w.input) (sym go_step.world_is);
            printed = ap (λ w. w.printed) (sym go_step.world_is);
          } in
          record {
            count = r.count + (2 + 1);
            cheap = omega (arith, paid, spends, price_is);
            shows = subst (Shows code' (patched [] (r.count + (2 + 1)) from)) (sym is) (subst (λ u. Shows code' u (Ends (Left l.address) l.world)) (sym (led_out two [] 0)) shows);
            progress = λ e. let f : Some (Left l.address) ≡ None = sym (ap end_of is) ∙ e in cc;
            stays = λ end n e. ap (λ i. patched [] i from) (joined r.count n) ∙ led_out two [] n ∙ sym (led_out two [] 0);
            stacks = λ high return_high fit. led_stays two [] 0 high return_high fit tt;
            stacks_ended = λ high return_high end n fit e. subst (λ i. Stays high return_high [] i from) (sym (joined r.count n)) (led_stays two [] n high return_high fit tt);
          }
        where
          joined : (c n : ℕ) → c + (2 + 1) + n ≡ c + (2 + suc n)
          joined c n = omega arith

      -- or goes on
      one_back : Arrives → (returns : List MachineReturn) (x : MachineReturn) → IsReturn p x.back → Claims returns → lacks (steps_back p (backs_of (x ∷ returns)) k s) ≡ false → DepthsBack (x ∷ returns) k s →
          Back k total (ahead s.work + unfinished s.callers) (x ∷ returns) s from
      one_back two returns x valid claims lack depths =
          let total' = spent p total l.j s + step_price l.last in
          let behind_is = behind p (backs_of (x ∷ returns)) total l.j l.i s l.last l.address l.world l.goes l.ends in
          let then_is' = then_is l.last at.to l.address at.base at.out at.meets go_world x.back in
          let steps_are : steps_back p (backs_of (x ∷ returns)) k s ≡ steps_back p (backs_of returns) l.i
          (record { work = go_step.after; entries = l.last.entries; callers = l.last.callers; cells = go_step.cells; world = world_back x.back l.last.world }) =
          ap (λ n. steps_back p (backs_of (x ∷ returns)) n s) l.parts ∙ behind_is.0 ∙ ap (steps_back p (backs_of returns) l.i) then_is' in
          let spends : spent_back p (backs_of (x ∷ returns)) total k s
          ≡ spent_back p (backs_of returns) (spent p total l.j s + step_price l.last) l.i (record { work = go_step.after; entries = l.last.entries; callers = l.last.callers; cells = go_step.cells; world = world_back x.back l.last.world }) =
          ap (λ n. spent_back p (backs_of (x ∷ returns)) total n s) l.parts ∙ behind_is.1 ∙ ap (spent_back p (backs_of returns) (spent p total l.j s + step_price l.last) l.i) then_is' in
          let b =
          resumes l.last at.to l.address at.base at.out at.meets go_world returns x valid claims l.i (spent p total l.j s + step_price l.last) two.up (Some l.address ∷ two.up') (ends_body go_step.after) refl here
          (sym (ap lacks steps_are) ∙ lack)
          (λ j t lt e.
          depths (l.j + suc j) t (let parts = l.parts in omega (arith, parts, lt))
          ((behind p (backs_of (x ∷ returns)) total l.j j s l.last l.address l.world l.goes l.ends).0 ∙ ap (steps_back p (backs_of returns) j) then_is' ∙ e)) in
          let goes : (n : ℕ) → patched (x ∷ returns) (r.count + (2 + suc n)) from ≡ patched returns n (machine_back code' x (led two)) = λ n. led_out two (x ∷ returns) n in
          let fits : (high return_high : ℕ) → StepsFitBack (x ∷ returns) high return_high k s →
          StepsFitBack returns high return_high l.i (record { work = go_step.after; entries = l.last.entries; callers = l.last.callers; cells = go_step.cells; world = world_back x.back l.last.world }) = λ high return_high fit j t lt e.
          fit (l.j + suc j) t (let parts = l.parts in omega (arith, parts, lt))
          ((behind p (backs_of (x ∷ returns)) total l.j j s l.last l.address l.world l.goes l.ends).0 ∙ ap (steps_back p (backs_of returns) j) then_is' ∙ e) in
          let paid = r.paid (ap end_of l.goes) in
          let cheap = b.cheap in
          record {
            count = r.count + (2 + suc b.count);
            cheap = omega (arith, paid, cheap, spends, price_is);
            shows = subst (Shows code' (patched (x ∷ returns) (r.count + (2 + suc b.count)) from)) (sym steps_are)
                (subst (λ u. Shows code' u (steps_back p (backs_of returns) l.i (record { work = go_step.after; entries = l.last.entries; callers = l.last.callers; cells = go_step.cells; world = world_back x.back l.last.world })))
                (sym (goes b.count)) b.shows);
            progress = λ e.
                let far = b.progress (sym (ap end_of steps_are) ∙ e) in
                let close = near r in
                let fewer = here.fewer in
                let parts = l.parts in
                omega (arith, far, close, fewer, parts, add-mul r.count (2 + suc b.count) (p.source_tokens + 1), three_more b.count (p.source_tokens + 1));
            stays = λ end n e. ap (λ i. patched (x ∷ returns) i from) (joined r.count b.count n) ∙ goes (b.count + n) ∙ b.stays end n (sym (ap end_of steps_are) ∙ e) ∙ sym (goes b.count);
            stacks = λ high return_high fit. led_stays two (x ∷ returns) b.count high return_high fit (b.stacks high return_high (fits high return_high fit));
            stacks_ended = λ high return_high end n fit e.
                subst (λ i. Stays high return_high (x ∷ returns) i from) (sym (joined r.count b.count n))
                (led_stays two (x ∷ returns) (b.count + n) high return_high fit (b.stacks_ended high return_high end n (fits high return_high fit) (sym (ap end_of steps_are) ∙ e)));
          }
        where
          joined : (c d n : ℕ) → c + (2 + suc d) + n ≡ c + (2 + suc (d + n))
          joined c d n = omega arith

          three_more : (c n : ℕ) → (2 + suc c) * n ≡ 3 * n + c * n
          three_more c n = let e : 2 + suc c ≡ 3 + c = omega arith in ap (λ x. x * n) e ∙ add-mul 3 c n

  reaches_go : (returns : List MachineReturn) (k total pc : ℕ) (out : Option ℕ) (s : State) (base data_above return_above : List (Option ℕ)) (m : Meets code' place p out pc s base) (l : LeavesIn p k s) → DepthsBack returns k s →
      Reaches laws p code' place size all l.j total (ahead s.work + unfinished s.callers) s (At pc base data_above return_above s)
  reaches_go returns k total pc out s base data_above return_above m l depths =
      reaches laws p code' place size all l.j total pc out s base data_above return_above m (ap strays l.goes)
      (λ j t lt e. depths j t (let parts = l.parts in omega (arith, parts, lt)) ((plain p (backs_of returns) total j s (ap leaves e)).0 ∙ e))

  pub claims : (returns : List MachineReturn) → Comes returns → Claims returns
  claims [] come k total pc out s base data_above return_above m lack depths =
      ⊎_elim (λ remains. plain_back [] k total pc out s base data_above return_above m remains lack depths)
      (λ l.
      let r = reaches_go [] k total pc out s base data_above return_above m l depths in
      let at = stood k total pc out s base data_above return_above m l r in
      none_back k total pc out s base data_above return_above m l r at (arrives k total pc out s base data_above return_above m l r at))
      (split p k s)
  claims (x ∷ returns) come k total pc out s base data_above return_above m lack depths =
      ⊎_elim (λ remains. plain_back (x ∷ returns) k total pc out s base data_above return_above m remains lack depths)
      (λ l.
      let r = reaches_go (x ∷ returns) k total pc out s base data_above return_above m l depths in
      let at = stood k total pc out s base data_above return_above m l r in
      one_back k total pc out s base data_above return_above m l r at (arrives k total pc out s base data_above return_above m l r at) returns x
      (All-head (IsReturn p) x.back (backs_of returns) come) (claims returns (All-tail (IsReturn p) x.back (backs_of returns) come)) lack depths)
      (split p k s)
