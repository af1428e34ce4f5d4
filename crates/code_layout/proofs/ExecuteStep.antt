-- One word step: EXECUTE, and then the item of its token, whose code is a routine of its own.
use Rattle.std.proofs.Common.{◌≡◌, ◌⊎◌, inl, inr, ℕ, suc, ◌+◌, ◌-◌, ◌*◌, ◌/◌, ◌<◌, ◌≤◌, nat_le, IsTrue, Bool, true, false, List, [], ◌∷◌, length, Option, Some, None, refl, sym, ap, ◌∙◌, subst, arith}
use Rattle.std.specs.Prelude.{ℤ, pos, negsuc}
use Rattle.std.proofs.lemmas.Bool.Decides.{nat_tests}
use Rattle.word_table.specs.declared.word.Word.{Word}
use Rattle.word_table.specs.declared.word.Word.TheVariants.{Dup, ToR, RFrom, RFetch, Index, OuterIndex, Unloop, Execute}
use Rattle.word_table.specs.Table.{entry_of}
use Rattle.j1_table.specs.declared.instr.Instr.TheVariants.{Jump}
use Rattle.j1_simulator.specs.Effect.{following}
use Rattle.j1_simulator.specs.OpenMachine.{rest, open_storage}
use Rattle.j1_simulator.specs.Run.{run}
use Rattle.forth_program.specs.Tree.{Node, Literal, Plain, Call, Child, Text, If, Until, While, Again, Do, QDo, Case, Leave, Exit}
use Rattle.forth_program.specs.Tail.{ends_body}
use Rattle.forth_program.specs.State.{Entry, Work, Todo, Frame, World, State, Reply, Gives, Stops, End, Halted, InputEnded, Outside, Underflow, Unbalanced, Left, Outcome, Goes, Ends}
use Rattle.forth_program.specs.Program.{SourceProgram, body_of, token_of}
use Rattle.forth_program.specs.Form.{may_be_token}
use Rattle.forth_program.specs.Meaning.{meaning}
use Rattle.forth_program.specs.Step.{First, IsWord, on_cells, with_token, word_step, called, act, first_in, first_work, step}
use Rattle.forth_program.specs.Price.{word_price, first_price, step_price}
use Rattle.word_laws.specs.Rings.{OpenConfiguration, BeforeEach}
use Rattle.word_laws.specs.Bounds.{StaysWithin}
use Rattle.forth_program.specs.Cells.{AreCells, AreEntries, IsWorld}
use Rattle.word_laws.specs.Control.{HoldsInstruction}
use Rattle.word_laws.specs.Numbers.{number_cells}
use Rattle.word_laws.specs.Standing.{return_places, standing_at_depths, standing_as, EndedIn, StandIn, machine_at}
use Rattle.word_laws.specs.Words.{stands_plain, ChangesBy, LeavesBy}
use Rattle.forth_program.specs.Heights.{address_height, peak_of, back_of, execute_back, token_back, DepthFits}
use Rattle.code_layout.specs.Layout.{Routine, Definition}
use Rattle.code_layout.specs.Agreement.{Shows}
use Rattle.code_layout.proofs.Machine.{Laws, Runs, narrower, wider, runs_then, runs_one}
use Rattle.code_layout.proofs.Routines.{places_below, Returned, Stopped, Answers, IsRoutine}
use Rattle.code_layout.proofs.LibraryWords.{FewLeft}
use Rattle.code_layout.proofs.Work.{ahead, steps_left, unfinished, callers_fit, Returns, CallStands, TokenStands, IsExecutor, Stands, Loops, loops_before, ahead_bound, Called, Frames}
use Rattle.code_layout.proofs.Steps.{Halts, Follows, comes, follows_after, AllStand, applies, number_some, number_short, number_runs, word_follows}
use Rattle.code_layout.specs.Library.{routine_price}
use Rattle.word_table.specs.Table.{cells_from}
use Rattle.code_layout.proofs.LibrarySteps.{flattened, routine_cheap, routine_back}
use Rattle.code_layout.proofs.BodyEnds.{body_ends}

-- a token's word does its meaning on the cells and the world
token_step : (p : SourceProgram) (word : Word) (c : List ℕ) (es : List Entry) (s : State) → may_be_token (Plain word) ≡ true → word_step p word c es s ≡ on_cells (meaning word c s.world) s
token_step p ToR c es s may = cc
token_step p RFrom c es s may = cc
token_step p RFetch c es s may = cc
token_step p Index c es s may = cc
token_step p OuterIndex c es s may = cc
token_step p Unloop c es s may = cc
token_step p Execute c es s may = cc
token_step p word c es s may = refl

-- what stands as a token may be one
token_may : (code : List ℕ) (place : Routine → ℕ) (p : SourceProgram) (node : Node) (at : ℕ) → TokenStands code place p node at → may_be_token node ≡ true
token_may code place p (Literal value) at h = refl
token_may code place p (Plain word) at h = h.0
token_may code place p (Call d) at h = refl
token_may code place p (Child d address) at h = refl
token_may code place p (Text kind address characters) at h = absurd h
token_may code place p (If first second) at h = absurd h
token_may code place p (Until body) at h = absurd h
token_may code place p (While test body) at h = absurd h
token_may code place p (Again body) at h = absurd h
token_may code place p (Do body plus) at h = absurd h
token_may code place p (QDo body plus) at h = absurd h
token_may code place p (Case arms rest) at h = absurd h
token_may code place p Leave at h = absurd h
token_may code place p Exit at h = absurd h

-- an exit is no higher than the peak
abbrev change_low : ℤ → ℕ → Bool
change_low (pos n) peak = nat_le n peak
change_low (negsuc n) peak = true

abbrev exit_low : Option (ℤ × ℤ) → ℕ → Bool
exit_low None peak = true
exit_low (Some exit) peak = change_low exit.0 peak

exits_low : (word : Word) → IsTrue (exit_low (entry_of word).exit (entry_of word).peak)
exits_low Dup = refl
exits_low word = refl

change_few : (change : ℤ) (peak before after : ℕ) → change_low change peak ≡ true → ChangesBy change before after → after ≤ before + peak
change_few (pos n) peak before after low changes = let h : n ≤ peak = (let e = low in grind (arith, nat_tests)) in omega arith
change_few (negsuc n) peak before after low changes = omega arith

exit_few : (exit : Option (ℤ × ℤ)) (peak before after : ℕ) → exit_low exit peak ≡ true → LeavesBy exit before after → after ≤ before + peak
exit_few None peak before after low leaves = absurd leaves
exit_few (Some exit) peak before after low leaves = change_few exit.0 peak before after low leaves.0

module _ (laws : Laws) (p : SourceProgram) (code : List ℕ) (place : Routine → ℕ) (size : length code ≡ p.data_start / 2) (all : AllStand laws p code place size) where
  -- EXECUTE has led to a token's item, whose code the machine is at; the item comes to what it does, with one instruction more for
  -- its return
  pub record Executes (v : OpenConfiguration) (price now high return_high : ℕ) (f : First) (c : List ℕ) (es : List Entry) (base : List (Option ℕ)) (o : Outcome) : Type 0 where
    pub after : State
    pub is : o ≡ Goes after
    pub node : Node
    pub is_token : may_be_token node ≡ true
    pub then_work : List Work
    pub work_is : after.work ≡ Todo node ∷ then_work
    pub count : ℕ
    pub there : OpenConfiguration
    pub runs : Runs p.data_start high return_high count v there
    pub shows : Shows code there (Goes after)
    pub some : 2 ≤ count
    pub cheap : count + 1 ≤ price
    pub back_is : execute_back p f c ≡ address_height (ends_body then_work) + back_of (first_work after.work)
    -- what is left of frames that made their last call
    pub due : unfinished (record { work = then_work; entries = es } ∷ after.callers) ≤ now
    pub item : (high' return_high' : ℕ) → length after.cells + peak_of after.callers (first_work after.work) ≤ high' →
        length (return_places es base) + address_height (ends_body then_work) + back_of (first_work after.work) ≤ return_high' →
        DepthFits (first_work after.work) after.cells →
        Follows laws p code place size there (step_price after + 1) (p.source_tokens + 1 + unfinished (record { work = then_work; entries = es } ∷ after.callers)) high' return_high' (step p after)

  module _ (high return_high : ℕ) (fs : List Frame) (world : World) (fits : IsWorld world) (starts : world.data_start ≡ p.data_start) where
    abbrev here : List Work → List Entry → List ℕ → State
    here w es c = record { work = w; entries = es; callers = fs; cells = c; world = world }

    -- the item's frame, as if it had been called
    module _ (w : List Work) (es : List Entry) (base' : List (Option ℕ)) (frames' : Frames code place p (record { work = w; entries = es } ∷ fs) base') where
      abbrev over : List Frame
      over = record { work = w; entries = es } ∷ fs

      abbrev then_now : ℕ
      then_now = p.source_tokens + 1 + unfinished over

      owed : unfinished over ≤ p.source_tokens + 1 + unfinished over
      owed = omega arith

      module _ (c : List ℕ) (above above' : List (Option ℕ)) (fc : AreCells c) where
        abbrev At : ℕ → List ℕ → OpenConfiguration
        At q c' = standing_at_depths (machine_at code q base' above above') c' world

        -- a definition stands there already
        call_in_hand : (d at : ℕ) → d < length p.bodies → at ≡ place (Definition d) → Follows laws p code place size (At at c) 2 then_now high return_high (Goes (called p d (here w es c)))
        call_in_hand d at lt is =
            let bound = ahead_bound code place p None (place (Definition d)) _ (all.bodies d lt) in
            record {
              count = 0;
              out = None;
              to = place (Definition d);
              base = base';
              data_above = above;
              return_above = above';
              runs = record { makes = ap (λ q. standing_at_depths (machine_at code q base' above above') c world) is; bounds = tt };
              meets = record { stands = all.bodies d lt; loops = loops_before code place p (body_of p d) None [] refl; frames = frames'; cells = fc; entries = tt; world = fits; starts = starts };
              cheap = omega arith;
              progress = omega (arith, bound);
            }

        -- a return to what follows EXECUTE
        back_to_work : (q : ℕ) (c' : List ℕ) (up up' : List (Option ℕ)) (base'' : List (Option ℕ)) (world' : World) (fits' : IsWorld world')
            (starts' : world'.data_start ≡ p.data_start) → Returns code place p q → Frames code place p over base'' → AreCells c' → length c' ≤ high →
            length base'' ≤ return_high →
            Follows laws p code place size (standing_at_depths (machine_at code q base'' up up') c' world') 1 then_now high return_high (Goes (record { work = w; entries = es; callers = fs; cells = c'; world = world' }))
        back_to_work q c' up up' base'' world' fits' starts' returns frames'' fc' room back =
            body_ends laws p code place size all high return_high q then_now world' fits' starts' up up' over [] [] c' base'' frames'' owed returns fc' (omega arith) back

        literal_in_hand : (value at next : ℕ) → value < 65536 → StandIn code at (number_cells value) next → Returns code place p next → length c + 1 ≤ high → length base' ≤ return_high →
            Follows laws p code place size (At at c) 3 then_now high return_high (Goes (here w es (value ∷ c)))
        literal_in_hand value at next small stands returns room back =
            let short = number_short value in
            let r = number_runs laws p code place size high return_high at then_now None over world fits starts base' above above' frames' owed value next [] c small stands room (omega arith) in
            follows_after laws p code place size (At at c) (standing_at_depths (machine_at code next base' r.0 r.1) (value ∷ c) world)
            (length (number_cells value)) 1 3 then_now high return_high (Goes (here w es (value ∷ c))) (omega arith) r.2
            (back_to_work next (value ∷ c) r.0 r.1 base' world fits starts returns frames' (small, fc) (omega arith) (omega arith))

        child_in_hand : (d address at next : ℕ) → address < 32768 → StandIn code at (number_cells address) next → d < length p.bodies → HoldsInstruction code next (Jump (place (Definition d))) →
            length c + 1 ≤ high → length base' ≤ return_high →
            Follows laws p code place size (At at c) 3 then_now high return_high (Goes (called p d (here w es (address ∷ c))))
        child_in_hand d address at next small stands lt holds room back =
            let cell : address < 65536 = omega arith in
            let short = number_short address in
            let some = number_some address in
            let r = number_runs laws p code place size high return_high at then_now None over world fits starts base' above above' frames' owed address next [] c cell stands room (omega arith) in
            let middle = standing_at_depths (machine_at code next base' r.0 r.1) (address ∷ c) world in
            comes laws p code place size (At at c) (length (number_cells address) + 1) (place (Definition d)) 3 then_now high return_high None (called p d (here w es (address ∷ c))) base' r.0 r.1 (omega arith) (omega arith) owed
            (runs_then laws p.data_start high return_high (length (number_cells address)) 1 (At at c) middle _ r.2
            (runs_one laws p.data_start (suc (length c)) (length base') high return_high middle _ (omega arith) (omega arith) (laws.jumps p.data_start (place (Definition d)) (machine_at code next base' r.0 r.1) (address ∷ c) world holds)))
            (record { stands = all.bodies d lt; loops = loops_before code place p (body_of p d) None [] refl; frames = frames'; cells = (cell, fc); entries = tt; world = fits; starts = starts })

        -- a word, and then the return
        word_returns : (word : Word) (at : ℕ) (o : Reply (List ℕ)) → meaning word c world ≡ o → FewLeft high o →
            length base' ≤ return_high → Follows laws p code place size (At at c) (word_price word c world) then_now high return_high (on_cells o (record { work = []; entries = []; callers = over; cells = c; world = world })) →
            Follows laws p code place size (At at c) (word_price word c world + 1) then_now high return_high (on_cells o (here w es c))
        word_returns word at (Gives c' world') e few back f =
            let m = f.meets in
            let cheap = f.cheap in
            let same : length f.base ≡ length base' = callers_fit code place p over f.base m.frames ∙ sym (callers_fit code place p over base' frames') in
            follows_after laws p code place size (At at c) (standing_at_depths (machine_at code f.to f.base f.data_above f.return_above) c' world') f.count 1
            (word_price word c world + 1) then_now high return_high (Goes (record { work = w; entries = es; callers = fs; cells = c'; world = world' }))
            (omega arith) f.runs
            (back_to_work f.to c' f.data_above f.return_above f.base world' m.world m.starts m.stands m.frames m.cells few (omega arith))
        word_returns word at (Stops end world') e few back f =
            follows_after laws p code place size (At at c) (At at c) 0 (word_price word c world) (word_price word c world + 1) then_now high return_high (Ends end world') (omega arith) (record { makes = refl; bounds = tt }) f

        abbrev alone : State
        alone = record { work = []; entries = []; callers = over; cells = c; world = world }

        plain_few : (word : Word) (o : Reply (List ℕ)) → meaning word c world ≡ o → stands_plain word ≡ true → may_be_token (Plain word) ≡ true → FewLeft (length c + (entry_of word).peak) o
        plain_few word (Gives c' world') e plain may =
            let low = exits_low word in
            exit_few (entry_of word).exit (entry_of word).peak (length c) (length c') low
            (laws.word_depths p word alone (record { work = []; entries = []; callers = over; cells = c'; world = world' }) plain
            (token_step p word c [] alone may ∙ ap (λ r. on_cells r (record { work = []; entries = []; callers = over; cells = c; world = world })) e))
        plain_few word (Stops end world') e plain may = tt

        few_within : (n : ℕ) (o : Reply (List ℕ)) → n ≤ high → FewLeft n o → FewLeft high o
        few_within n (Gives c' world') le few = omega arith
        few_within n (Stops end world') le few = tt

        -- the return entries of a routine here
        abbrev item_entries : List Entry
        item_entries = (flattened laws p code place size over base' frames').0

        same_item_places : places_below item_entries ≡ base'
        same_item_places = sym (flattened laws p code place size over base' frames').1

        item_entries_own : AreEntries item_entries
        item_entries_own = (flattened laws p code place size over base' frames').2

        -- the code of a library word, which the machine is at, and then its return
        module _ (at price peak back : ℕ) (some : 1 ≤ back) (room : length c + peak ≤ high) (returns_room : length base' + back ≤ return_high) where
          within_routine : length (places_below item_entries) + back - 1 ≤ return_high
          within_routine = omega (arith, ap length same_item_places)

          routine_returns : (c' : List ℕ) (world' : World) →
              Returned p.data_start code (standing_at_depths (machine_at code at (places_below item_entries) above above') c world) price (length c + peak)
              (length (places_below item_entries) + back - 1) item_entries c' world' →
              Follows laws p code place size (At at c) (price + 1) then_now high return_high (Goes (record { work = w; entries = es; callers = fs; cells = c'; world = world' }))
          routine_returns c' world' r =
              let cheap = r.cheap in
              let few = r.few in
              let runs = r.runs in
              let inside : Runs p.data_start high return_high r.count (At at c) (standing_at_depths (machine_at code r.to base' r.above r.above') c' world') =
              subst (λ ps. Runs p.data_start high return_high r.count (standing_at_depths (machine_at code at ps above above') c world) (standing_at_depths (machine_at code r.to ps r.above r.above') c' world')) same_item_places
              (record {
                makes = runs.makes;
                bounds =
                    wider laws p.data_start 0 (length c + peak) 0 (length (places_below item_entries) + back - 1) high return_high r.count
                    (standing_at_depths (machine_at code at (places_below item_entries) above above') c world) room within_routine runs.bounds;
              }) in
              follows_after laws p code place size (At at c) (standing_at_depths (machine_at code r.to base' r.above r.above') c' world') r.count 1 (price + 1) then_now high
              return_high (Goes (record { work = w; entries = es; callers = fs; cells = c'; world = world' })) (omega arith) inside
              (back_to_work r.to c' r.above r.above' base' world' r.world_is r.starts r.returns frames' r.cells (omega arith) (omega arith))

          routine_stops : (end : End) (world' : World) →
              Stopped p.data_start code (standing_at_depths (machine_at code at (places_below item_entries) above above') c world) price (length c + peak)
              (length (places_below item_entries) + back - 1) end world' →
              Halts laws p code place size (At at c) (price + 1) high return_high end world'
          routine_stops end world' r =
              let cheap = r.cheap in
              let v = standing_at_depths (machine_at code at (places_below item_entries) above above') c world in
              let same : v ≡ At at c = ap (λ ps. standing_at_depths (machine_at code at ps above above') c world) same_item_places in
              record {
                count = r.count;
                stop = r.stop;
                stop_is = r.stop_is;
                ended = subst (λ u. EndedIn (run open_storage p.data_start r.count u) code r.stop world') same r.ended;
                bounds =
                    subst (BeforeEach (StaysWithin 0 high 0 return_high) p.data_start r.count) same
                    (wider laws p.data_start 0 (length c + peak) 0 (length (places_below item_entries) + back - 1) high return_high r.count v room
                    within_routine r.bounds);
                at_end =
                    subst (λ u. StaysWithin 0 high 0 return_high (run open_storage p.data_start r.count u)) same
                    (narrower laws p.data_start 0 (length c + peak) 0 (length (places_below item_entries) + back - 1) high return_high
                    (run open_storage p.data_start r.count v) room within_routine r.at_end);
                cheap = omega arith;
              }

          routine_answers : (o : Reply (List ℕ)) →
              Answers p.data_start code (standing_at_depths (machine_at code at (places_below item_entries) above above') c world) price (length c + peak)
              (length (places_below item_entries) + back - 1) item_entries o →
              Follows laws p code place size (At at c) (price + 1) then_now high return_high (on_cells o (here w es c))
          routine_answers (Gives c' world') r = routine_returns c' world' r
          routine_answers (Stops Underflow world') r = tt
          routine_answers (Stops Unbalanced world') r = tt
          routine_answers (Stops (Left address) world') r = tt
          routine_answers (Stops (Halted status) world') r = routine_stops (Halted status) world' r
          routine_answers (Stops InputEnded world') r = routine_stops InputEnded world' r
          routine_answers (Stops (Outside address) world') r = routine_stops (Outside address) world' r

        word_in_hand : (word : Word) (at : ℕ) → may_be_token (Plain word) ≡ true →
            (((next : ℕ) × (stands_plain word ≡ true) × StandIn code at (cells_from p.data_start word) next × Returns code place p next)
            ⊎ IsRoutine p.data_start code word at) → DepthFits (IsWord word w) c →
            length c + (entry_of word).peak ≤ high → length base' + (entry_of word).back ≤ return_high →
            Follows laws p code place size (At at c) (word_price word c world + 1) then_now high return_high (on_cells (meaning word c world) (here w es c))
        word_in_hand word at may (inl h) fit room back =
            word_returns word at (meaning word c world) refl (few_within (length c + (entry_of word).peak) (meaning word c world) room (plain_few word (meaning word c world) refl h.1 may)) (omega arith)
            (subst (Follows laws p code place size (At at c) (word_price word c world) then_now high return_high) (token_step p word c [] alone may)
            (word_follows laws p code place size high return_high at then_now None over world fits starts base' above above' frames' owed word h.0 [] [] c
            (word_step p word c [] alone) refl h.1 (applies word w c fit) h.2 h.3 refl (omega arith) tt fc room (omega arith)))
        word_in_hand word at may (inr routine) fit room back =
            let dear = routine_cheap word c world in
            follows_after laws p code place size (At at c) (At at c) 0 (routine_price word c world + 1) (word_price word c world + 1) then_now high return_high
            (on_cells (meaning word c world) (here w es c)) (omega arith) (record { makes = refl; bounds = tt })
            (routine_answers at (routine_price word c world) (entry_of word).peak (entry_of word).back (routine_back word routine.number routine.is_library)
            room back (meaning word c world) (routine.does item_entries c above above' world item_entries_own fc fits starts))

        item_in_hand : (node : Node) (at : ℕ) → TokenStands code place p node at → DepthFits (first_in node w) c → length c + peak_of fs (first_in node w) ≤ high → length base' + back_of (first_in node w) ≤ return_high →
            Follows laws p code place size (At at c) (first_price (first_in node w) c world + 1) then_now high return_high (act p (first_in node w) (here (Todo node ∷ w) es c))
        item_in_hand (Literal value) at h fit room back = literal_in_hand value at h.0 h.1 h.2 h.3 room (omega arith)
        item_in_hand (Plain word) at h fit room back =
            subst (Follows laws p code place size (At at c) (word_price word c world + 1) then_now high return_high) (sym (token_step p word c es (here w es c) h.0)) (word_in_hand word at h.0 h.1 fit room back)
        item_in_hand (Call d) at h fit room back = call_in_hand d at h.0 h.1
        item_in_hand (Child d address) at h fit room back = child_in_hand d address at h.next h.small h.number h.known h.call room (omega arith)
        item_in_hand (Text kind address characters) at h fit room back = absurd h
        item_in_hand (If first second) at h fit room back = absurd h
        item_in_hand (Until body) at h fit room back = absurd h
        item_in_hand (While test body) at h fit room back = absurd h
        item_in_hand (Again body) at h fit room back = absurd h
        item_in_hand (QDo body plus) at h fit room back = absurd h
        item_in_hand (Case arms rest) at h fit room back = absurd h
        item_in_hand (Do body plus) at h fit room back = absurd h
        item_in_hand Leave at h fit room back = absurd h
        item_in_hand Exit at h fit room back = absurd h

        pub item_follows : (node : Node) (at : ℕ) → TokenStands code place p node at → DepthFits (first_in node w) c → length c + peak_of fs (first_in node w) ≤ high → length base' + back_of (first_in node w) ≤ return_high →
            Follows laws p code place size (At at c) (step_price (here (Todo node ∷ w) es c) + 1) then_now high return_high (step p (here (Todo node ∷ w) es c))
        unfolding step
        item_follows node at h fit room back = item_in_hand node at h fit room back

  module _ (high return_high pc now : ℕ) (out : Option ℕ) (fs : List Frame) (world : World) (fits : IsWorld world) (starts : world.data_start ≡ p.data_start)
      (base data_above return_above : List (Option ℕ)) (frames : Frames code place p fs base) (due : unfinished fs ≤ now) where
    abbrev state : List Work → List Entry → List ℕ → State
    state w es c = record { work = w; entries = es; callers = fs; cells = c; world = world }

    abbrev There : List Entry → List ℕ → OpenConfiguration
    There es c = standing_as (state [] es c) (machine_at code pc base data_above return_above)

    -- one instruction leads into the code of EXECUTE, over the item's frame
    module _ (at : ℕ) (w : List Work) (es : List Entry) (t : ℕ) (c : List ℕ) (executor : IsExecutor code place p at) (fc : AreCells (t ∷ c))
        (base' : List (Option ℕ)) (frames' : Frames code place p (record { work = w; entries = es } ∷ fs) base')
        (left : unfinished (record { work = w; entries = es } ∷ fs) ≤ now)
        (up' : List (Option ℕ))
        (entered : Runs p.data_start high return_high 1 (There es (t ∷ c)) (standing_at_depths (machine_at code at base' data_above up') (t ∷ c) world))
        (height : length base' ≡ length (return_places es base) + address_height (ends_body w))
        (room : length (t ∷ c) + 4 ≤ high) (back : length (return_places es base) + 3 ≤ return_high) where
      abbrev below : List Entry
      below = (flattened laws p code place size (record { work = w; entries = es } ∷ fs) base' frames').0

      same_places : places_below below ≡ base'
      same_places = sym (flattened laws p code place size (record { work = w; entries = es } ∷ fs) base' frames').1

      below_are : AreEntries below
      below_are = (flattened laws p code place size (record { work = w; entries = es } ∷ fs) base' frames').2

      abbrev in_stub : OpenConfiguration
      in_stub = standing_at_depths (machine_at code at (places_below below) data_above up') (t ∷ c) world

      called_stub : Runs p.data_start high return_high 1 (There es (t ∷ c)) in_stub
      called_stub = subst (λ ps. Runs p.data_start high return_high 1 (There es (t ∷ c)) (standing_at_depths (machine_at code at ps data_above up') (t ∷ c) world)) (sym same_places) entered

      few_kept : (tail : Bool) → address_height tail ≤ 1
      few_kept true = omega arith
      few_kept false = omega arith

      within : length (places_below below) + 1 ≤ return_high
      within = omega (arith, ap length same_places, height, few_kept (ends_body w))

      -- there is no such token
      fails_here : token_of p t ≡ None → Halts laws p code place size (There es (t ∷ c)) 30 high return_high (Halted 13) world
      fails_here none =
          let r = executor.fails t c below data_above up' world none below_are fc fits starts in
          let cheap = r.cheap in
          let joined : run open_storage p.data_start (1 + r.count) (There es (t ∷ c)) ≡ run open_storage p.data_start r.count in_stub =
          laws.runs_join 1 r.count p.data_start (There es (t ∷ c)) ∙ ap (run open_storage p.data_start r.count) called_stub.makes in
          record {
            count = 1 + r.count;
            stop = r.stop;
            stop_is = r.stop_is;
            ended = subst (λ u. EndedIn u code r.stop world) (sym joined) r.ended;
            bounds = laws.bounds_join 0 high 0 return_high 1 r.count p.data_start (There es (t ∷ c)) called_stub.bounds
                (subst (BeforeEach (StaysWithin 0 high 0 return_high) p.data_start r.count) (sym called_stub.makes)
                (wider laws p.data_start 0 (length c + 3) 0 (length (places_below below) + 1) high return_high r.count in_stub (omega arith) within
                r.bounds));
            at_end =
                subst (StaysWithin 0 high 0 return_high) (sym joined)
                (narrower laws p.data_start 0 (length c + 3) 0 (length (places_below below) + 1) high return_high
                (run open_storage p.data_start r.count in_stub) (omega arith) within r.at_end);
            cheap = omega arith;
          }

      -- there is one
      finds_here : (node : Node) → token_of p t ≡ Some node → Executes (There es (t ∷ c)) 30 now high return_high (IsWord Execute w) (t ∷ c) es base (Goes (state (Todo node ∷ w) es c))
      finds_here node some =
          let r = executor.finds t node c below data_above up' world some below_are fc fits starts in
          let cheap = r.cheap in
          let one = r.some in
          let runs = r.runs in
          let there = standing_at_depths (machine_at code r.at base' r.above r.above') c world in
          let inside : Runs p.data_start high return_high r.count in_stub there =
          subst (λ ps. Runs p.data_start high return_high r.count in_stub (standing_at_depths (machine_at code r.at ps r.above r.above') c world)) same_places
          (record { makes = runs.makes; bounds = wider laws p.data_start 0 (length c + 3) 0 (length (places_below below) + 1) high return_high r.count in_stub (omega arith) within runs.bounds }) in
          record {
            after = state (Todo node ∷ w) es c;
            is = refl;
            node = node;
            is_token = token_may code place p node r.at r.stands;
            then_work = w;
            work_is = refl;
            count = 1 + r.count;
            there = there;
            runs = runs_then laws p.data_start high return_high 1 r.count (There es (t ∷ c)) in_stub there called_stub inside;
            shows = record { stop_is = refl; memory = refl; input = refl; printed = refl };
            some = omega arith;
            cheap = omega arith;
            back_is = ap (λ o. token_back o w) some;
            due = left;
            item = λ high' return_high' room' back' fit. item_follows high' return_high' fs world fits starts w es base' frames' c r.above r.above' fc.1 node r.at r.stands fit room' (omega (arith, back', height));
          }

      -- EXECUTE with a token
      pub one_executes : (o : Option Node) → token_of p t ≡ o →
          Follows laws p code place size (There es (t ∷ c)) 30 now high return_high (with_token o (state w es c)) ⊎ Executes (There es (t ∷ c)) 30 now high return_high (IsWord Execute w) (t ∷ c) es base (with_token o (state w es c))
      one_executes None e = inl (fails_here e)
      one_executes (Some node) e = inr (finds_here node e)

    pub execute_follows : (tail : Bool) (at : ℕ) (w : List Work) (es : List Entry) (c : List ℕ) → ends_body w ≡ tail →
        CallStands code place p tail pc at (Stands code place p out (following pc) w) → IsExecutor code place p at → Loops code place p out w →
        1 + ahead w + unfinished fs ≤ now → ahead w ≤ p.source_tokens →
        AreEntries es → AreCells c → length c + 4 ≤ high → length (return_places es base) + 3 ≤ return_high →
        Follows laws p code place size (There es c) 30 now high return_high (word_step p Execute c es (state w es c)) ⊎ Executes (There es c) 30 now high return_high (IsWord Execute w) c es base (word_step p Execute c es (state w es c))
    execute_follows tail at w es [] e holds executor l n few fe fc room back = inl tt
    -- in tail position the frame keeps no address
    execute_follows true at w es (t ∷ c) e holds executor l n few fe fc room back =
        let left : steps_left (ends_body w) w ≡ 1 + ahead w = ap (λ tail. steps_left tail w) e in
        let kept : address_height (ends_body w) ≡ 0 = ap address_height e in
        one_executes at w es t c executor fc (return_places es base)
        (base, subst (λ tail. Called code place p tail (record { work = w; entries = es }) (return_places es base) base) (sym e) (record { out = out; returns = refl; loops = l; few = few; entries = fe }), frames)
        (omega (arith, left)) return_above
        (runs_one laws p.data_start (suc (length c)) (length (return_places es base)) high return_high (There es (t ∷ c)) _ (omega arith) (omega arith)
        (laws.jumps p.data_start at (machine_at code pc (return_places es base) data_above return_above) (t ∷ c) world holds))
        (omega (arith, kept)) room back (token_of p t) refl
    execute_follows false at w es (t ∷ c) e holds executor l n few fe fc room back =
        let left : steps_left (ends_body w) w ≡ 0 = ap (λ tail. steps_left tail w) e in
        let kept : address_height (ends_body w) ≡ 1 = ap address_height e in
        one_executes at w es t c executor fc (Some (2 * following pc) ∷ return_places es base) (
          base,
          subst (λ tail. Called code place p tail (record { work = w; entries = es }) (Some (2 * following pc) ∷ return_places es base) base) (sym e)
              (record { out = out; pc = pc; returns = refl; stands = holds.1; loops = l; entries = fe }),
          frames,
        )
        (omega (arith, left)) (rest return_above)
        (runs_one laws p.data_start (suc (length c)) (length (return_places es base)) high return_high (There es (t ∷ c)) _ (omega arith) (omega arith)
        (laws.calls p.data_start at (machine_at code pc (return_places es base) data_above return_above) (t ∷ c) world holds.0))
        (omega (arith, kept)) room back (token_of p t) refl
