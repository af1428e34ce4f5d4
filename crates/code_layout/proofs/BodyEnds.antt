-- The end of a body: a return to its caller, or the end of the run.
use Rattle.std.proofs.Common.{◌≡◌, ℕ, suc, ◌+◌, ◌*◌, ◌/◌, ◌%◌, ◌≤◌, Bool, true, false, List, [], ◌∷◌, length, Option, Some, refl, sym, ap, ◌∙◌, subst, arith}
use Rattle.j1_simulator.specs.Effect.{following}
use Rattle.j1_simulator.specs.OpenMachine.{open_storage}
use Rattle.j1_simulator.specs.Run.{run}
use Rattle.forth_program.specs.State.{Entry, Work, Frame, World, State, Halted, Ends}
use Rattle.forth_program.specs.Program.{SourceProgram}
use Rattle.forth_program.specs.Step.{unwound}
use Rattle.forth_program.specs.Tail.{ends_body}
use Rattle.word_laws.specs.Rings.{OpenConfiguration, BeforeEach}
use Rattle.word_laws.specs.Bounds.{StaysWithin}
use Rattle.forth_program.specs.Cells.{AreCells, IsWorld}
use Rattle.word_laws.specs.Standing.{return_places, standing_at_depths, HasCome, machine_at}
use Rattle.forth_program.specs.Heights.{end_peak}
use Rattle.code_layout.specs.Layout.{Routine}
use Rattle.code_layout.proofs.Work.{ahead, steps_left, unfinished, Returns, ends_at_return, Waits, Pends, Called, Frames}
use Rattle.code_layout.proofs.Machine.{Laws, Runs, narrower, wider, runs_one}
use Rattle.code_layout.proofs.Steps.{Comes, Halts, Follows, comes, stays, AllStand}

back_to : (pc : ℕ) → 2 * following pc / 2 % 0x2000 ≡ following pc
back_to pc = omega arith

module _ (laws : Laws) (p : SourceProgram) (code : List ℕ) (place : Routine → ℕ) (size : length code ≡ p.data_start / 2) (all : AllStand laws p code place size)
    (high return_high pc now : ℕ) (world : World) (fits : IsWorld world) (starts : world.data_start ≡ p.data_start)
    (data_above return_above : List (Option ℕ)) where
  abbrev at_end : List Work → List Frame → List ℕ → State
  at_end w fs c = record { work = w; entries = []; callers = fs; cells = c; world = world }

  abbrev There : List ℕ → List (Option ℕ) → OpenConfiguration
  There c base = standing_at_depths (machine_at code pc base data_above return_above) c world

  -- MAIN returns to the header, which halts
  main_ends : (c : List ℕ) → Returns code place p pc → length c + 2 ≤ high → 1 ≤ return_high → Halts laws p code place size (There c (Some 2 ∷ [])) 1 high return_high (Halted 0) world
  main_ends c returns room back =
      let v = There c (Some 2 ∷ []) in
      let v' = standing_at_depths (machine_at code 1 [] data_above (Some 2 ∷ return_above)) c world in
      let leads = laws.returns p.data_start 2 (machine_at code pc [] data_above return_above) c world returns in
      let first : Runs p.data_start high return_high 1 v v' = runs_one laws p.data_start (length c) 1 high return_high v v' (omega arith) back leads in
      let halts =
      subst (λ d. HasCome code 4 [] (run open_storage d 3 (standing_at_depths (machine_at code 1 [] data_above (Some 2 ∷ return_above)) c world)) (Ends (Halted 0) world)
      × BeforeEach (StaysWithin (length c) (length c + 2) 0 0) d 3 (standing_at_depths (machine_at code 1 [] data_above (Some 2 ∷ return_above)) c world)
      × StaysWithin (length c) (length c + 2) 0 0 (run open_storage d 3 (standing_at_depths (machine_at code 1 [] data_above (Some 2 ∷ return_above)) c world))) starts
      (laws.halts (machine_at code 1 [] data_above (Some 2 ∷ return_above)) 4 (at_end [] [] c) (size ∙ ap (λ d. d / 2) (sym starts)) all.halt) in
      let joined : run open_storage p.data_start 4 v ≡ run open_storage p.data_start 3 v' = laws.runs_join 1 3 p.data_start v ∙ ap (run open_storage p.data_start 3) first.makes in
      let come = subst (λ u. HasCome code 4 [] u (Ends (Halted 0) world)) (sym joined) halts.0 in
      record {
        count = 4;
        stop = come.0;
        stop_is = come.1;
        ended = come.2;
        bounds = laws.bounds_join 0 high 0 return_high 1 3 p.data_start v first.bounds
            (subst (BeforeEach (StaysWithin 0 high 0 return_high) p.data_start 3) (sym first.makes) (wider laws p.data_start (length c) (length c + 2) 0 0 high return_high 3 v' room (omega arith) halts.1));
        at_end = subst (StaysWithin 0 high 0 return_high) (sym joined) (narrower laws p.data_start (length c) (length c + 2) 0 0 high return_high (run open_storage p.data_start 3 v') room (omega arith) halts.2);
        cheap = omega arith;
      }

  -- a definition returns to its caller
  caller_goes_on : (f : Frame) (fs : List Frame) (c : List ℕ) (base below : List (Option ℕ)) → Waits code place p f base below → Frames code place p fs below →
      unfinished fs ≤ now → Returns code place p pc → AreCells c → length c ≤ high → length base ≤ return_high →
      Comes laws p code place size (There c base) 1 now high return_high (record { work = f.work; entries = f.entries; callers = fs; cells = c; world = world })
  caller_goes_on f fs c base below waits frames due returns fc room back =
      let address = 2 * following waits.pc in
      let back' : suc (length (return_places f.entries below)) ≤ return_high = omega (arith, ap length waits.returns) in
      let v = There c (Some (2 * following waits.pc) ∷ return_places f.entries below) in
      let after : State = record { work = f.work; entries = f.entries; callers = fs; cells = c; world = world } in
      let leads = laws.returns p.data_start (2 * following waits.pc) (machine_at code pc (return_places f.entries below) data_above return_above) c world returns in
      let goes = runs_one laws p.data_start (length c) (suc (length (return_places f.entries below))) high return_high v
      (standing_at_depths (machine_at code (2 * following waits.pc / 2 % 0x2000) (return_places f.entries below) data_above (Some (2 * following waits.pc) ∷ return_above)) c world) room back' leads in
      let goes' =
      subst
      (λ q.
      Runs p.data_start high return_high 1 (There c (Some (2 * following waits.pc) ∷ return_places f.entries below))
      (standing_at_depths (machine_at code q (return_places f.entries below) data_above (Some (2 * following waits.pc) ∷ return_above)) c world))
      (back_to waits.pc) goes in
      subst (λ b. Comes laws p code place size (There c b) 1 now high return_high (record { work = f.work; entries = f.entries; callers = fs; cells = c; world = world })) (sym waits.returns)
      (comes laws p code place size v 1 (following waits.pc) 1 now high return_high waits.out after below data_above (Some (2 * following waits.pc) ∷ return_above) (omega arith) (omega arith) due goes'
      (record { stands = waits.stands; loops = waits.loops; frames = frames; cells = fc; entries = waits.entries; world = fits; starts = starts }))

  -- to a caller that made its last call it does not return: the machine stays
  caller_ends : (f : Frame) (fs : List Frame) (c : List ℕ) (base below : List (Option ℕ)) → ends_body f.work ≡ true → Pends code place p f base below →
      Frames code place p fs below → 1 + ahead f.work + unfinished fs ≤ now → Returns code place p pc → AreCells c →
      Comes laws p code place size (There c base) 1 now high return_high (record { work = f.work; entries = f.entries; callers = fs; cells = c; world = world })
  caller_ends f fs c base below e pends frames n returns fc =
      let after : State = record { work = f.work; entries = f.entries; callers = fs; cells = c; world = world } in
      stays laws p code place size (There c base) pc 1 now high return_high pends.out after below data_above return_above n (ap (There c) pends.returns)
      (record { stands = ends_at_return code place p pends.out pc f.work e pends.few returns; loops = pends.loops; frames = frames; cells = fc; entries = pends.entries; world = fits; starts = starts })

  caller_follows : (tail : Bool) (f : Frame) (fs : List Frame) (c : List ℕ) (base below : List (Option ℕ)) → ends_body f.work ≡ tail →
      Called code place p tail f base below → Frames code place p fs below → steps_left tail f.work + unfinished fs ≤ now → Returns code place p pc →
      AreCells c →
      length c ≤ high → length base ≤ return_high → Comes laws p code place size (There c base) 1 now high return_high (record { work = f.work; entries = f.entries; callers = fs; cells = c; world = world })
  caller_follows true f fs c base below e called frames n returns fc room back = caller_ends f fs c base below e called frames n returns fc
  caller_follows false f fs c base below e called frames n returns fc room back = caller_goes_on f fs c base below called frames (omega (arith, n)) returns fc room back

  pub body_ends : (fs : List Frame) (w : List Work) (es : List Entry) (c : List ℕ) (base : List (Option ℕ)) → Frames code place p fs base →
      unfinished fs ≤ now → Returns code place p pc → AreCells c → length c + end_peak fs ≤ high → length (return_places es base) ≤ return_high →
      Follows laws p code place size (standing_at_depths (machine_at code pc (return_places es base) data_above return_above) c world) 1 now high return_high
      (unwound es fs (record { work = w; entries = es; callers = fs; cells = c; world = world }))
  body_ends fs w (entry ∷ es) c base frames due returns fc room back = tt
  body_ends [] w [] c base frames due returns fc room back =
      let back' : 1 ≤ return_high = omega (arith, ap length frames) in
      subst (λ b. Halts laws p code place size (There c b) 1 high return_high (Halted 0) world) (sym frames) (main_ends c returns room back')
  body_ends (f ∷ fs) w [] c base frames due returns fc room back = caller_follows (ends_body f.work) f fs c base frames.0 refl frames.1 frames.2 due returns fc (omega arith) back
