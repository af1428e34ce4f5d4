-- Every library word is done by its routine, the first words first.
use Rattle.std.proofs.Common.{◌≡◌, ℕ, zero, suc, ◌+◌, ◌-◌, ◌/◌, ◌<◌, ◌≤◌, inl, inr, true, false, List, [], ◌∷◌, ◌++◌, length, Option, Some, None, refl, sym, ap, ◌∙◌, subst, arith}
use Rattle.std.specs.Prelude.{slice_index_or}
use Rattle.j1_simulator.specs.Step.{Stop}
use Rattle.j1_simulator.specs.OpenMachine.{open_storage}
use Rattle.j1_simulator.specs.Run.{run}
use Rattle.word_table.specs.declared.word.Word.{Word}
use Rattle.word_table.specs.Table.{entry_of}
use Rattle.forth_program.specs.Tree.{Nodes, Empty}
use Rattle.forth_program.specs.State.{Entry, Cell, Loop, Todo, World, State, Reply, Gives, Stops, End, Halted, InputEnded, Outside, Underflow, Unbalanced, Left, Goes, Ends}
use Rattle.forth_program.specs.Program.{SourceProgram}
use Rattle.forth_program.specs.Form.{everywhere, leaves_fit}
use Rattle.forth_program.specs.Meaning.{meaning}
use Rattle.forth_program.specs.Step.{before, first_work, on_cells}
use Rattle.forth_program.specs.Run.{steps, end_of}
use Rattle.word_laws.specs.Rings.{OpenConfiguration}
use Rattle.forth_program.specs.Cells.{AreCells, AreEntries, IsWorld}
use Rattle.word_laws.specs.Standing.{return_places, standing_at_depths, machine_end, StandIn, machine_at}
use Rattle.code_layout.specs.Numbering.{library_number}
use Rattle.code_layout.specs.Layout.{Routine, Library, leaving_place, routine_place}
use Rattle.forth_program.specs.SourceTokens.{all_tokens}
use Rattle.code_layout.specs.Built.{is_laid_out, IsBuilt}
use Rattle.forth_program.specs.Heights.{entries_height, callers_height, return_height, peak_of, back_of, execute_back, StepsFit, DepthFits, DepthsFit}
use Rattle.forth_program.specs.Price.{spent}
use Rattle.code_layout.proofs.Deeper.{AllOwn, own_before, own_depth, own_execute, Busy, balanced, deeper_outcome, runs_deeper, IsDeeper, state_deeper}
use Rattle.code_layout.specs.Library.{is_own, routine_price, body_begins, body_is_done, each_uses_earlier, IsLibrary, BodyMeans, LibraryMeans}
use Rattle.code_layout.specs.Agreement.{Shows}
use Rattle.code_layout.proofs.Machine.{Laws, both}
use Rattle.code_layout.proofs.Routines.{places_below, Returned, Stopped, Answers, IsRoutine}
use Rattle.code_layout.proofs.LibraryWords.{finds_cells, library_need, FewLeft, library_few}
use Rattle.code_layout.proofs.Work.{places_height, ahead, Stands, loops_before, Meets}
use Rattle.code_layout.proofs.Steps.{AllStand}
use Rattle.code_layout.proofs.Runs.{strays, Reaches, StandsAs, StandsWhere, reaches}
use Rattle.code_layout.proofs.Image.{front, low, halt_stands, library_code, body_stands, test_of, tokens_within}

-- a body uses earlier words alone
earlier_words : (from : ℕ) (bodies : List Nodes) (d : ℕ) → each_uses_earlier from bodies ≡ true → d < length bodies → everywhere (is_laid_out false (from + d) 0) (slice_index_or bodies d Empty) ≡ true
earlier_words from [] d all lt = absurd (omega arith)
earlier_words from (body ∷ bodies) zero all lt =
    let e : from + 0 ≡ from = omega arith in subst (λ n. everywhere (is_laid_out false n 0) body ≡ true) (sym e) (both (everywhere (is_laid_out false from 0) body) (each_uses_earlier (suc from) bodies) all).0
earlier_words from (body ∷ bodies) (suc d) all lt =
    let e : suc from + d ≡ from + suc d = omega arith in
    subst (λ n. everywhere (is_laid_out false n 0) (slice_index_or bodies d Empty) ≡ true) e (earlier_words (suc from) bodies d (both (everywhere (is_laid_out false from 0) body) (each_uses_earlier (suc from) bodies) all).1 (omega arith))

heights_join : (es more : List Entry) → entries_height (es ++ more) ≡ entries_height es + entries_height more
heights_join [] more = omega arith
heights_join (Cell value ∷ es) more = omega (arith, heights_join es more)
heights_join (Loop limit index ∷ es) more = omega (arith, heights_join es more)

-- the library on its own, where data space begins at an address: no definition of a program
abbrev pub library_program : ℕ → List Nodes → SourceProgram
library_program data_start library = record { names = []; bodies = []; main_body = 0; tokens = []; data_start = data_start; first_space = []; source_tokens = all_tokens library }

module _ (laws : Laws) (library : List Nodes) (p : SourceProgram) (built : IsBuilt library p) (form : IsLibrary library) (means : LibraryMeans library)
    (code : List ℕ) (size : length code ≡ p.data_start / 2) (starts_with : StandIn code 0 (front laws library p built) (leaving_place library p)) where
  abbrev places : Routine → ℕ
  places = routine_place library p

  abbrev alone : SourceProgram
  alone = library_program p.data_start library

  none_called : AllStand laws alone code places size
  none_called = record { halt = halt_stands laws library p built code size starts_with; bodies = λ d lt. absurd (omega arith) }

  module _ (word : Word) (number : ℕ) (is : library_number word ≡ Some number) (lt : number < length library)
      (items : everywhere is_own (slice_index_or library number Empty) ≡ true)
      (stands : Stands code places alone None (routine_place library p (Library number)) (before (slice_index_or library number Empty) [])) where
    abbrev at : ℕ
    at = routine_place library p (Library number)

    abbrev body : Nodes
    body = slice_index_or library number Empty

    module _ (es : List Entry) (c : List ℕ) (data_above return_above : List (Option ℕ)) (w : World) (fe : AreEntries es) (fc : AreCells c) (fits : IsWorld w) (starts : w.data_start ≡ p.data_start) where
      abbrev done : State
      done = record { work = []; entries = es; callers = []; cells = c; world = w }

      abbrev start : State
      start = record { work = before body []; entries = es; callers = []; cells = c; world = w }

      abbrev there : OpenConfiguration
      there = standing_at_depths (machine_at code at (places_below es) data_above return_above) c w

      abbrev high : ℕ
      high = length c + (entry_of word).peak

      abbrev return_high : ℕ
      return_high = length (places_below es) + (entry_of word).back - 1

      start_meets : Meets code places alone None at start (Some 2 ∷ [])
      start_meets = record { stands = stands; loops = loops_before code places alone body None [] refl; frames = refl; cells = fc; entries = fe; world = fits; starts = starts }

      own : AllOwn (before body [])
      own = own_before body [] items tt

      busy : (m : BodyMeans word body alone c w) → Busy es alone m.count (body_begins body c w)
      busy m j t early e = (m.within_stacks j t early e).busy

      -- what the body does over these entries
      does : (o : Reply (List ℕ)) → meaning word c w ≡ o → balanced (on_cells o (body_is_done c w)) ≡ true → (m : BodyMeans word body alone c w) → steps alone m.count start ≡ deeper_outcome es (on_cells o (body_is_done c w))
      does o e sound m =
          let leads = m.does ∙ ap (λ r. on_cells r (body_is_done c w)) e in
          (runs_deeper es alone m.count 2 (body_begins body c w) own (busy m) (ap balanced leads ∙ sound)).does ∙ ap (deeper_outcome es) leads

      module _ (m : BodyMeans word body alone c w) (sound : balanced (steps alone m.count (body_begins body c w)) ≡ true) where
        state_of : (j : ℕ) (t : State) → j < m.count → steps alone j start ≡ Goes t → IsDeeper es alone j (body_begins body c w) t
        state_of j t early e = state_deeper es alone j m.count (body_begins body c w) t own (busy m) sound early e

        within : StepsFit alone high return_high m.count start
        within j t early e =
            let d = state_of j t early e in
            let f = m.within_stacks j d.state early d.reached in
            let cells = subst (λ fs. length d.state.cells + peak_of fs (first_work d.state.work) ≤ high) (sym d.callers) f.cells in
            let returns = f.returns in
            let height = ap callers_height d.callers in
            let none = own_execute alone d.state.work d.state.cells f.busy d.own in
            subst
            (λ x.
            (length x.cells + peak_of x.callers (first_work x.work) ≤ high) × (return_height x + back_of (first_work x.work) ≤ return_high)
            × (return_height x + execute_back alone (first_work x.work) x.cells ≤ return_high)) (sym d.is)
            (cells, omega (arith, returns, height, heights_join d.state.entries es, places_height es (Some 2 ∷ [])), omega (arith, returns, height, none, heights_join d.state.entries es, places_height es (Some 2 ∷ [])))

        depths : DepthsFit alone m.count start
        depths j t early e =
            let d = state_of j t early e in
            subst (λ x. DepthFits (first_work x.work) x.cells) (sym d.is) (own_depth d.state.work d.state.cells (m.within_stacks j d.state early d.reached).busy d.own)

        price : spent alone 2 m.count start ≡ spent alone 2 m.count (body_begins body c w)
        price = (runs_deeper es alone m.count 2 (body_begins body c w) own (busy m) sound).costs

      balance : (o : Reply (List ℕ)) → meaning word c w ≡ o → balanced (on_cells o (body_is_done c w)) ≡ true → (m : BodyMeans word body alone c w) → balanced (steps alone m.count (body_begins body c w)) ≡ true
      balance o e sound m = ap balanced (m.does ∙ ap (λ r. on_cells r (body_is_done c w)) e) ∙ sound

      runs : (o : Reply (List ℕ)) → meaning word c w ≡ o → balanced (on_cells o (body_is_done c w)) ≡ true →
          strays (deeper_outcome es (on_cells o (body_is_done c w))) ≡ false → (m : BodyMeans word body alone c w) →
          Reaches laws alone code places size none_called m.count 2 (ahead (before body []) + 0) start there
      runs o e balances sound m =
          reaches laws alone code places size none_called m.count 2 at None start (Some 2 ∷ []) data_above return_above start_meets (ap strays (does o e balances m) ∙ sound) (depths m (balance o e balances m))

      meant : (o : Reply (List ℕ)) → meaning word c w ≡ o → finds_cells o ≡ true → BodyMeans word body alone c w
      meant o e sound = means word number is lt alone c w (library_need word number c w is (ap finds_cells e ∙ sound)) fc fits

      -- no item of a token is left
      not_in_hand : (c' : List ℕ) (w' : World) (v : OpenConfiguration) → StandsWhere laws alone code places size none_called v (Goes (record { work = []; entries = es; callers = []; cells = c'; world = w' })) →
          StandsAs laws alone code places size none_called v (record { work = []; entries = es; callers = []; cells = c'; world = w' })
      not_in_hand c' w' v (inl stood) = stood
      not_in_hand c' w' v (inr hand) = let f : [] ≡ Todo hand.0 ∷ hand.1 = hand.2 in cc

      returned : (c' : List ℕ) (w' : World) → meaning word c w ≡ Gives c' w' → Returned p.data_start code there (routine_price word c w) high return_high es c' w'
      returned c' w' e =
          let m = meant (Gives c' w') e refl in
          let r = runs (Gives c' w') e refl refl m in
          let balances = balance (Gives c' w') e refl m in
          let leads = does (Gives c' w') e refl m in
          let same = price m balances in
          let stood = not_in_hand c' w' (run open_storage p.data_start r.count there) (subst (StandsWhere laws alone code places size none_called (run open_storage p.data_start r.count there)) leads r.stands) in
          let paid = r.paid (ap end_of leads) in
          let least = m.within_price in
          record {
            count = r.count;
            to = stood.to;
            above = stood.data_above;
            above' = stood.return_above;
            runs = record {
              makes =
                  stood.is
                  ∙ ap (λ b. standing_at_depths (machine_at code stood.to (return_places es b) stood.data_above stood.return_above) c' w')
                  stood.meets.frames;
              bounds = r.before high return_high (within m balances);
            };
            returns = stood.meets.stands;
            cheap = omega (arith, paid, least, same);
            few = subst (FewLeft high) e (library_few word number c w is);
            cells = stood.meets.cells;
            world_is = stood.meets.world;
            starts = stood.meets.starts;
          }

      stopped : (end : End) (w' : World) (stop : Stop) → machine_end end ≡ Some stop → balanced (Ends end w') ≡ true → strays (Ends end w') ≡ false →
          finds_cells (Stops end w') ≡ true → meaning word c w ≡ Stops end w' → Stopped p.data_start code there (routine_price word c w) high return_high end w'
      stopped end w' stop is_stop balances sound found e =
          let m = meant (Stops end w') e found in
          let r = runs (Stops end w') e balances sound m in
          let even = balance (Stops end w') e balances m in
          let leads = does (Stops end w') e balances m in
          let same = price m even in
          let shows = subst (Shows code (run open_storage p.data_start r.count there)) leads r.shows in
          let paid = r.cheap in
          let least = m.within_price in
          record {
            count = r.count;
            stop = stop;
            stop_is = is_stop;
            ended = record { stop_is = shows.stop_is ∙ is_stop; memory = shows.memory; input = shows.input; printed = shows.printed };
            bounds = r.before high return_high (within m even);
            at_end = r.at_end high return_high end (within m even) (ap end_of leads);
            cheap = omega (arith, paid, least, same);
          }

      answered : (o : Reply (List ℕ)) → meaning word c w ≡ o → Answers p.data_start code there (routine_price word c w) high return_high es o
      answered (Gives c' w') e = returned c' w' e
      answered (Stops Underflow w') e = tt
      answered (Stops Unbalanced w') e = tt
      answered (Stops (Left address) w') e = tt
      answered (Stops (Halted status) w') e = stopped (Halted status) w' _ refl refl refl refl e
      answered (Stops InputEnded w') e = stopped InputEnded w' _ refl refl refl refl e
      answered (Stops (Outside address) w') e = stopped (Outside address) w' _ refl refl refl refl e

    is_routine : IsRoutine p.data_start code word at
    is_routine = record {
      number = number;
      is_library = is;
      does = λ es c data_above return_above w fe fc fits starts. answered es c data_above return_above w fe fc fits starts (meaning word c w) refl;
    }

  -- by induction on their numbers
  routines_below : (n : ℕ) (word : Word) (number : ℕ) → library_number word ≡ Some number → number < n → number < length library → IsRoutine p.data_start code word (routine_place library p (Library number))
  routines_below zero word number is lt lt' = absurd (omega arith)
  routines_below (suc n) word number is lt lt' =
      let from_zero : 0 + number ≡ number = omega arith in
      is_routine word number is lt' (test_of (everywhere is_own) library number form.own_items lt')
      (body_stands code (routine_place library p) alone false number (λ word' number' is' below. routines_below n word' number' is' (omega arith) (omega arith))
      (λ e. absurd (let f : false ≡ true = e in cc)) (λ e. absurd (let f : false ≡ true = e in cc)) (low laws library p built)
      (is_laid_out false number 0) (λ node e. e) (λ e. absurd (let f : false ≡ true = e in cc)) (routine_place library p (Library number)) (slice_index_or library number Empty)
      (library_code laws library p built code size starts_with number lt')
      (subst (λ n. everywhere (is_laid_out false n 0) (slice_index_or library number Empty) ≡ true) from_zero
      (earlier_words 0 library number form.items lt')) (test_of (leaves_fit false) library number form.leaves_in_loops lt')
      (tokens_within library number lt'))

  pub routines : (word : Word) (number : ℕ) → library_number word ≡ Some number → number < length library → IsRoutine p.data_start code word (routine_place library p (Library number))
  routines word number is lt = routines_below (suc number) word number is (omega arith) lt
