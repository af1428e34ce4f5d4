-- One word step: a library word, by a call of its routine.
use Rattle.std.proofs.Common.{◌≡◌, ℕ, suc, ◌+◌, ◌-◌, ◌*◌, ◌/◌, ◌%◌, ◌<◌, ◌≤◌, nat_le, IsTrue, Bool, true, false, List, [], ◌∷◌, ◌++◌, length, Option, Some, None, refl, sym, ap, ◌∙◌, subst, arith}
use Rattle.std.proofs.lemmas.Bool.Decides.{nat_tests}
use Rattle.word_table.specs.declared.word.Word.{Word}
use Rattle.word_table.specs.declared.word.Word.TheVariants.{TypeOut}
use Rattle.word_table.specs.Table.{entry_of}
use Rattle.j1_table.specs.declared.instr.Instr.TheVariants.{Call as CallTo}
use Rattle.j1_simulator.specs.Effect.{following}
use Rattle.j1_simulator.specs.OpenMachine.{rest, open_storage}
use Rattle.j1_simulator.specs.Run.{run}
use Rattle.forth_program.specs.State.{Entry, Cell, Loop, Work, Frame, World, State, Reply, Gives, Stops, End, Halted, InputEnded, Outside, Underflow, Unbalanced, Left}
use Rattle.cell_math.specs.Cell.{difference_of}
use Rattle.forth_program.specs.Program.{SourceProgram}
use Rattle.forth_program.specs.Step.{on_cells}
use Rattle.forth_program.specs.Tail.{ends_body}
use Rattle.forth_program.specs.Meaning.{meaning}
use Rattle.forth_program.specs.Price.{word_price}
use Rattle.word_laws.specs.Rings.{OpenConfiguration, BeforeEach}
use Rattle.word_laws.specs.Bounds.{StaysWithin}
use Rattle.forth_program.specs.Cells.{AreCells, AreEntries, IsWorld}
use Rattle.word_laws.specs.Control.{HoldsInstruction}
use Rattle.word_laws.specs.Standing.{return_places, standing_at_depths, standing_as, EndedIn, machine_at}
use Rattle.code_layout.specs.Layout.{Routine}
use Rattle.code_layout.specs.Numbering.{library_number}
use Rattle.code_layout.specs.Library.{routine_price}
use Rattle.code_layout.proofs.Machine.{Laws, Runs, narrower, wider, runs_then, runs_one}
use Rattle.code_layout.proofs.Routines.{places_below, Returned, Stopped, Answers, IsRoutine}
use Rattle.code_layout.proofs.LibraryWords.{has_back, library_back}
use Rattle.code_layout.proofs.Work.{ahead, unfinished, CallStands, Stands, Loops, ends_at_return, Called, Frames}
use Rattle.code_layout.proofs.Steps.{Comes, Halts, Follows, comes}

back_to : (pc : ℕ) → 2 * following pc / 2 % 0x2000 ≡ following pc
back_to pc = omega arith

pub low_address : (pc : ℕ) → 2 * following pc < 0x10000
low_address pc = omega arith

back_some : (found : Option ℕ) (back number : ℕ) → IsTrue (has_back found back) → found ≡ Some number → 1 ≤ back
back_some None back number some is = let f : None ≡ Some number = is in cc
back_some (Some n) back number some is = let h : nat_le 1 back ≡ true = some in grind (arith, nat_tests)

-- a routine costs no more than its word
pub routine_cheap : (word : Word) (c : List ℕ) (w : World) → routine_price word c w ≤ word_price word c w
routine_cheap TypeOut [] w = omega arith
routine_cheap TypeOut (u ∷ []) w = omega arith
routine_cheap TypeOut (u ∷ a ∷ c) w = omega arith
routine_cheap word c w = omega arith

-- a routine takes a return cell for its call
pub routine_back : (word : Word) (number : ℕ) → library_number word ≡ Some number → 1 ≤ (entry_of word).back
routine_back word number is = back_some (library_number word) (entry_of word).back number (library_back word) is

-- entries over entries
pub places_join : (es more : List Entry) (base : List (Option ℕ)) → return_places (es ++ more) base ≡ return_places es (return_places more base)
places_join [] more base = refl
places_join (Cell value ∷ es) more base = ap (λ ps. Some value ∷ ps) (places_join es more base)
places_join (Loop limit index ∷ es) more base = ap (λ ps. Some (difference_of index limit) ∷ Some limit ∷ ps) (places_join es more base)

pub entries_join : (es more : List Entry) → AreEntries es → AreEntries more → AreEntries (es ++ more)
entries_join [] more f g = g
entries_join (Cell value ∷ es) more f g = (f.0, entries_join es more f.1 g)
entries_join (Loop limit index ∷ es) more f g = (f.0, f.1, entries_join es more f.2 g)

module _ (laws : Laws) (p : SourceProgram) (code : List ℕ) (place : Routine → ℕ) (size : length code ≡ p.data_start / 2) where
  -- the return places of a frame that called, over those below it, as entries
  joined : (tail : Bool) (f : Frame) (base below : List (Option ℕ)) (under : List Entry) → Called code place p tail f base below → below ≡ places_below under →
      AreEntries under → (above : List Entry) × (base ≡ places_below above) × AreEntries above
  joined true f base below under called is own = (f.entries ++ under, called.returns ∙ (ap (return_places f.entries) is ∙ sym (places_join f.entries under (Some 2 ∷ []))), entries_join f.entries under called.entries own)
  joined false f base below under called is own = (
    Cell (2 * following called.pc) ∷ (f.entries ++ under),
    called.returns ∙ ap (λ ps. Some (2 * following called.pc) ∷ ps) (ap (return_places f.entries) is ∙ sym (places_join f.entries under (Some 2 ∷ []))),
    (low_address called.pc, entries_join f.entries under called.entries own),
  )

  -- the return places below the newest frame, as entries
  pub flattened : (fs : List Frame) (base : List (Option ℕ)) → Frames code place p fs base → (below : List Entry) × (base ≡ places_below below) × AreEntries below
  flattened [] base h = ([], h, tt)
  flattened (f ∷ fs) base h = let r = flattened fs h.0 h.2 in joined (ends_body f.work) f base h.0 r.0 h.1 r.1 r.2

  module _ (high return_high pc now : ℕ) (out : Option ℕ) (fs : List Frame) (world : World) (fits : IsWorld world) (starts : world.data_start ≡ p.data_start)
      (base data_above return_above : List (Option ℕ)) (frames : Frames code place p fs base) (due : unfinished fs ≤ now) where
    -- the state of a frame over these, and the machine there
    abbrev here : List Work → List Entry → List ℕ → State
    here w es c = record { work = w; entries = es; callers = fs; cells = c; world = world }

    abbrev There : List Entry → List ℕ → OpenConfiguration
    There es c = standing_as (here [] es c) (machine_at code pc base data_above return_above)

    -- the frame over all entries below, as entries
    abbrev whole : List Entry → List Entry
    whole es = es ++ (flattened fs base frames).0

    same_whole : (es : List Entry) → places_below (whole es) ≡ return_places es base
    same_whole es = places_join es (flattened fs base frames).0 (Some 2 ∷ []) ∙ ap (return_places es) (sym (flattened fs base frames).1)

    whole_are : (es : List Entry) → AreEntries es → AreEntries (whole es)
    whole_are es fe = entries_join es (flattened fs base frames).0 fe (flattened fs base frames).2

    module _ (at price most peak back : ℕ) (w : List Work) (es : List Entry) (c : List ℕ) (s_dear : price ≤ most) (room : length c + peak ≤ high) where
      -- one instruction leads into a routine, over these entries
      module _ (under : List Entry) (above' : List (Option ℕ))
          (entered : Runs p.data_start high return_high 1 (There es c) (standing_at_depths (machine_at code at (places_below under) data_above above') c world))
          (within : length (places_below under) + back - 1 ≤ return_high) where
        abbrev inside : OpenConfiguration
        inside = standing_at_depths (machine_at code at (places_below under) data_above above') c world

        through : (c' : List ℕ) (world' : World) → (r : Returned p.data_start code inside price (length c + peak) (length (places_below under) + back - 1) under c' world') →
            Runs p.data_start high return_high (1 + r.count) (There es c) (standing_at_depths (machine_at code r.to (places_below under) r.above r.above') c' world')
        through c' world' r =
            let runs = r.runs in
            runs_then laws p.data_start high return_high 1 r.count (There es c) inside (standing_at_depths (machine_at code r.to (places_below under) r.above r.above') c' world') entered
            (record { makes = runs.makes; bounds = wider laws p.data_start 0 (length c + peak) 0 (length (places_below under) + back - 1) high return_high r.count inside room within runs.bounds })

        ends : (end : End) (world' : World) → Stopped p.data_start code inside price (length c + peak) (length (places_below under) + back - 1) end world' → Halts laws p code place size (There es c) most high return_high end world'
        ends end world' r =
            let cheap = r.cheap in
            let joined : run open_storage p.data_start (1 + r.count) (There es c) ≡ run open_storage p.data_start r.count inside =
            laws.runs_join 1 r.count p.data_start (There es c) ∙ ap (run open_storage p.data_start r.count) entered.makes in
            record {
              count = 1 + r.count;
              stop = r.stop;
              stop_is = r.stop_is;
              ended = subst (λ u. EndedIn u code r.stop world') (sym joined) r.ended;
              bounds = laws.bounds_join 0 high 0 return_high 1 r.count p.data_start (There es c) entered.bounds
                  (subst (BeforeEach (StaysWithin 0 high 0 return_high) p.data_start r.count) (sym entered.makes)
                  (wider laws p.data_start 0 (length c + peak) 0 (length (places_below under) + back - 1) high return_high r.count inside room within
                  r.bounds));
              at_end =
                  subst (StaysWithin 0 high 0 return_high) (sym joined)
                  (narrower laws p.data_start 0 (length c + peak) 0 (length (places_below under) + back - 1) high return_high
                  (run open_storage p.data_start r.count inside) room within r.at_end);
              cheap = omega arith;
            }

        replied : (o : Reply (List ℕ)) →
            ((c' : List ℕ) (world' : World) →
            Returned p.data_start code inside price (length c + peak) (length (places_below under) + back - 1) under c' world' →
            Comes laws p code place size (There es c) most now high return_high
            (record { work = w; entries = es; callers = fs; cells = c'; world = world' })) →
            Answers p.data_start code inside price (length c + peak) (length (places_below under) + back - 1) under o → Follows laws p code place size (There es c) most now high return_high (on_cells o (here w es c))
        replied (Gives c' world') then r = then c' world' r
        replied (Stops Underflow world') then r = tt
        replied (Stops Unbalanced world') then r = tt
        replied (Stops (Left address) world') then r = tt
        replied (Stops (Halted status) world') then r = ends (Halted status) world' r
        replied (Stops InputEnded world') then r = ends InputEnded world' r
        replied (Stops (Outside address) world') then r = ends (Outside address) world' r

    -- a call leads into a routine, and its return back to behind the call
    module _ (at price most peak back : ℕ) (w : List Work) (es : List Entry) (c : List ℕ) (holds : HoldsInstruction code pc (CallTo at)) (some : 1 ≤ back)
        (dear : price ≤ most) (room : length c + peak ≤ high) (returns_room : length (return_places es base) + back ≤ return_high) where
      abbrev pub under_call : List Entry
      under_call = Cell (2 * following pc) ∷ whole es

      same_call : places_below under_call ≡ Some (2 * following pc) ∷ return_places es base
      same_call = ap (λ ps. Some (2 * following pc) ∷ ps) (same_whole es)

      called : Runs p.data_start high return_high 1 (There es c) (standing_at_depths (machine_at code at (places_below under_call) data_above (rest return_above)) c world)
      called =
          subst (λ ps. Runs p.data_start high return_high 1 (There es c) (standing_at_depths (machine_at code at ps data_above (rest return_above)) c world)) (sym same_call)
          (runs_one laws p.data_start (length c) (length (return_places es base)) high return_high (There es c)
          (standing_at_depths (machine_at code at (Some (2 * following pc) ∷ return_places es base) data_above (rest return_above)) c world) (omega arith) (omega arith)
          (laws.calls p.data_start at (machine_at code pc (return_places es base) data_above return_above) c world holds))

      within : length (places_below under_call) + back - 1 ≤ return_high
      within = omega (arith, ap length same_call)

      pub back_here : (c' : List ℕ) (world' : World) →
          (r : Returned p.data_start code (standing_at_depths (machine_at code at (places_below under_call) data_above (rest return_above)) c world) price (length c + peak)
          (length (places_below under_call) + back - 1) under_call c' world') →
          Runs p.data_start high return_high (1 + r.count + 1) (There es c) (standing_at_depths (machine_at code (following pc) (return_places es base) r.above (Some (2 * following pc) ∷ r.above')) c' world')
      back_here c' world' r =
          let few = r.few in
          let middle = standing_at_depths (machine_at code r.to (Some (2 * following pc) ∷ return_places es base) r.above r.above') c' world' in
          let there = standing_at_depths (machine_at code (following pc) (return_places es base) r.above (Some (2 * following pc) ∷ r.above')) c' world' in
          let leads = laws.returns p.data_start (2 * following pc) (machine_at code r.to (return_places es base) r.above r.above') c' world' r.returns in
          let returned : Runs p.data_start high return_high 1 middle there =
          subst
          (λ q.
          Runs p.data_start high return_high 1
          (standing_at_depths (machine_at code r.to (Some (2 * following pc) ∷ return_places es base) r.above r.above') c' world')
          (standing_at_depths (machine_at code q (return_places es base) r.above (Some (2 * following pc) ∷ r.above')) c' world')) (back_to pc)
          (runs_one laws p.data_start (length c') (suc (length (return_places es base))) high return_high middle
          (standing_at_depths (machine_at code (2 * following pc / 2 % 0x2000) (return_places es base) r.above (Some (2 * following pc) ∷ r.above')) c' world')
          (omega arith) (omega arith) leads) in
          let inside' : Runs p.data_start high return_high (1 + r.count) (There es c) middle =
          subst (λ ps. Runs p.data_start high return_high (1 + r.count) (There es c) (standing_at_depths (machine_at code r.to ps r.above r.above') c' world')) same_call
          (through at price most peak back w es c dear room under_call (rest return_above) called within c' world' r) in
          runs_then laws p.data_start high return_high (1 + r.count) 1 (There es c) middle there inside' returned

      pub ends_called : (end : End) (world' : World) →
          Stopped p.data_start code (standing_at_depths (machine_at code at (places_below under_call) data_above (rest return_above)) c world) price (length c + peak)
          (length (places_below under_call) + back - 1) end world' → Halts laws p code place size (There es c) most high return_high end world'
      ends_called end world' r = ends at price most peak back w es c dear room under_call (rest return_above) called within end world' r

      comes_back : ends_body w ≡ false → Stands code place p out (following pc) w → Loops code place p out w → AreEntries es → (o : Reply (List ℕ)) →
          Answers p.data_start code (standing_at_depths (machine_at code at (places_below under_call) data_above (rest return_above)) c world) price (length c + peak)
          (length (places_below under_call) + back - 1) under_call o →
          Follows laws p code place size (There es c) most now high return_high (on_cells o (here w es c))
      comes_back e s l fe o answers =
          replied at price most peak back w es c dear room under_call (rest return_above) called within o
          (λ c' world' r.
          let cheap = r.cheap in
          comes laws p code place size (There es c) (1 + r.count + 1) (following pc) most now high return_high out
          (record { work = w; entries = es; callers = fs; cells = c'; world = world' }) base r.above (Some (2 * following pc) ∷ r.above') (omega arith)
          (omega (arith, cheap)) due
          (back_here c' world' r)
          (record { stands = s; loops = l; frames = frames; cells = r.cells; entries = fe; world = r.world_is; starts = r.starts }))
          answers

    -- what code at a place answers, over any entries
    abbrev pub Answering : ℕ → ℕ → ℕ → ℕ → List ℕ → Reply (List ℕ) → Type 0
    Answering at price peak back c o =
        (under : List Entry) (above' : List (Option ℕ)) → AreEntries under →
        Answers p.data_start code (standing_at_depths (machine_at code at (places_below under) data_above above') c world) price (length c + peak)
        (length (places_below under) + back - 1) under o

    pub answered : (tail : Bool) (at price most peak back : ℕ) (w : List Work) (es : List Entry) (c : List ℕ) (o : Reply (List ℕ)) → ends_body w ≡ tail →
        CallStands code place p tail pc at (Stands code place p out (following pc) w) → Loops code place p out w → ahead w ≤ p.source_tokens → AreEntries es →
        1 ≤ back → price ≤ most → length c + peak ≤ high → length (return_places es base) + back ≤ return_high → Answering at price peak back c o →
        Follows laws p code place size (There es c) most now high return_high (on_cells o (here w es c))
    -- in tail position the machine jumps to the routine, whose return is that of the body
    answered true at price most peak back w es c o e holds l few fe some dear room returns_room does =
        let places = same_whole es in
        let height = ap length places in
        let jumped : Runs p.data_start high return_high 1 (There es c) (standing_at_depths (machine_at code at (places_below (whole es)) data_above return_above) c world) =
        subst (λ ps. Runs p.data_start high return_high 1 (There es c) (standing_at_depths (machine_at code at ps data_above return_above) c world)) (sym places)
        (runs_one laws p.data_start (length c) (length (return_places es base)) high return_high (There es c)
        (standing_at_depths (machine_at code at (return_places es base) data_above return_above) c world) (omega arith) (omega arith)
        (laws.jumps p.data_start at (machine_at code pc (return_places es base) data_above return_above) c world holds)) in
        replied at price most peak back w es c dear room (whole es) return_above jumped (omega (arith, height)) o
        (λ c' world' r.
        let cheap = r.cheap in
        comes laws p code place size (There es c) (1 + r.count) r.to most now high return_high out (record { work = w; entries = es; callers = fs; cells = c'; world = world' }) base r.above r.above' (omega arith) (omega (arith, cheap)) due
        (subst (λ ps. Runs p.data_start high return_high (1 + r.count) (There es c) (standing_at_depths (machine_at code r.to ps r.above r.above') c' world')) places
        (through at price most peak back w es c dear room (whole es) return_above jumped (omega (arith, height)) c' world' r))
        (record { stands = ends_at_return code place p out r.to w e few r.returns; loops = l; frames = frames; cells = r.cells; entries = fe; world = r.world_is; starts = r.starts }))
        (does (whole es) return_above (whole_are es fe))
    answered false at price most peak back w es c o e holds l few fe some dear room returns_room does =
        comes_back at price most peak back w es c holds.0 some dear room returns_room e holds.1 l fe o (does (Cell (2 * following pc) ∷ whole es) (rest return_above) (low_address pc, whole_are es fe))

    -- a library word is followed
    pub library_follows : (tail : Bool) (word : Word) (at : ℕ) (w : List Work) (es : List Entry) (c : List ℕ) → ends_body w ≡ tail →
        CallStands code place p tail pc at (Stands code place p out (following pc) w) → IsRoutine p.data_start code word at → Loops code place p out w →
        1 + ahead w + unfinished fs ≤ now → ahead w ≤ p.source_tokens →
        AreEntries es → AreCells c → length c + (entry_of word).peak ≤ high → length (return_places es base) + (entry_of word).back ≤ return_high →
        Follows laws p code place size (There es c) (word_price word c world) now high return_high (on_cells (meaning word c world) (here w es c))
    library_follows tail word at w es c e holds routine l n few fe fc room back =
        answered tail at (routine_price word c world) (word_price word c world) (entry_of word).peak (entry_of word).back w es c (meaning word c world) e holds
        l few fe (routine_back word routine.number routine.is_library) (routine_cheap word c world) room back
        (λ under above' own. routine.does under c data_above above' world own fc fits starts)
