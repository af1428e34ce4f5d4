-- Each word step, by its first work.
use Rattle.std.proofs.Common.{◌≡◌, ℕ, ◌+◌, ◌/◌, ◌≤◌, ◌⊎◌, inl, inr, List, [], ◌∷◌, length, Option, refl, sym, subst, arith}
use Rattle.j1_table.specs.declared.instr.Instr.TheVariants.{Jump}
use Rattle.j1_simulator.specs.Effect.{following}
use Rattle.word_table.specs.declared.word.Word.{Word}
use Rattle.word_table.specs.declared.word.Word.TheVariants.{Go}
use Rattle.word_laws.specs.Rings.{OpenConfiguration}
use Rattle.word_table.specs.Table.{entry_of}
use Rattle.forth_program.specs.Tree.{Nodes, Plain, Empty, Then}
use Rattle.forth_program.specs.State.{Entry, Work, TrueEnd, UntilTest, WhileTest, Repeat, BeginAgain, Frame, World, State}
use Rattle.forth_program.specs.Tail.{ends_body}
use Rattle.forth_program.specs.Program.{SourceProgram}
use Rattle.forth_program.specs.Step.{First, BodyEnd, IsLiteral, IsWord, IsCall, IsChild, IsText, IsIf, IsTrueEnd, IsUntil, IsWhile, IsRepeat, IsAgain, IsDo}
use Rattle.forth_program.specs.Step.{IsQDo, IsTurn, IsOf, IsEndOf, IsEndCase, IsLeave, IsExit, before, word_step, act, first_work, step}
use Rattle.forth_program.specs.Price.{word_price, first_price, step_price}
use Rattle.forth_program.specs.Cells.{AreCells, AreEntries, IsWorld}
use Rattle.word_laws.specs.Control.{HoldsInstruction}
use Rattle.word_laws.specs.Standing.{return_places, standing_as, machine_at}
use Rattle.forth_program.specs.Heights.{peak_of, back_of, DepthFits}
use Rattle.code_layout.specs.Layout.{Routine}
use Rattle.code_layout.proofs.Work.{ahead, unfinished, Placed, Stands, Loops, loops_before, stands_before, stands_to, back, opens, Frames, Meets}
use Rattle.code_layout.proofs.Machine.{Laws}
use Rattle.code_layout.proofs.Steps.{Follows, AllStand, applies, number_follows, word_follows, jump_follows, call_follows, true_end_follows, flag_follows}
use Rattle.code_layout.proofs.LibraryWords.{library_step}
use Rattle.code_layout.proofs.LibrarySteps.{library_follows}
use Rattle.code_layout.proofs.TextSteps.{child_follows, text_follows}
use Rattle.code_layout.proofs.ExecuteStep.{Executes, execute_follows}
use Rattle.code_layout.proofs.BodyEnds.{body_ends}
use Rattle.code_layout.proofs.LoopSteps.{do_follows, turn_follows, leave_follows}
use Rattle.code_layout.proofs.CaseSteps.{q_do_follows, of_follows, end_case_follows}

module _ (laws : Laws) (p : SourceProgram) (code : List ℕ) (place : Routine → ℕ) (size : length code ≡ p.data_start / 2) (all : AllStand laws p code place size) where
  module _ (high return_high pc now : ℕ) (out : Option ℕ) (fs : List Frame) (world : World) (fits : IsWorld world) (starts : world.data_start ≡ p.data_start)
      (base data_above return_above : List (Option ℕ)) (frames : Frames code place p fs base) (due : unfinished fs ≤ now) where
    abbrev here : List Work → List Entry → List ℕ → State
    here w es c = record { work = w; entries = es; callers = fs; cells = c; world = world }

    if_follows : (first second : Nodes) (after w : List Work) (es : List Entry) (c : List ℕ) →
        Stands code place p out pc (back code place p (IsIf first second after)) → Loops code place p out after → AreEntries es → AreCells c → length c ≤ high →
        length (return_places es base) ≤ return_high →
        Follows laws p code place size (standing_as (here [] es c) (machine_at code pc base data_above return_above)) 1 now high return_high (act p (IsIf first second after) (here w es c))
    if_follows first Empty after w es c h l fe fc room back =
        flag_follows laws p code place size high return_high pc now out fs world fits starts base data_above return_above frames due h.0.0 after (before first after) w es c h.0.1
        h.0.3 l (stands_before code place p first out (following pc) after (λ q. Stands code place p out q after) (λ q k. k) h.0.2 (omega (arith, h.1))) (loops_before code place p first out after l) fe fc room back
    if_follows first (Then node rest) after w es c h l fe fc room back =
        flag_follows laws p code place size high return_high pc now out fs world fits starts base data_above return_above frames due h.0.0 (before (Then node rest) after) (before first (TrueEnd ∷ after)) w es c h.0.1
        (stands_before code place p (Then node rest) out h.0.0 after (λ q. Stands code place p out q after) (λ q k. k) h.0.3 (omega (arith, h.1))) (loops_before code place p (Then node rest) out after l)
        (stands_before code place p first out (following pc) (TrueEnd ∷ after)
        (λ e. (next : ℕ) × HoldsInstruction code e (Jump next) × Stands code place p out next after) (λ e k. (inl (k.0, k.1, k.2), omega (arith, h.1)))
        h.0.2 (omega (arith, h.1)))
        (loops_before code place p first out (TrueEnd ∷ after) l) fe fc room back

    -- what follows a first work: the machine follows, or it has come to the code of a token
    abbrev Stepped : First → List Work → List Entry → List ℕ → Type 0
    Stepped f w es c =
        Follows laws p code place size (standing_as (here [] es c) (machine_at code pc base data_above return_above)) (first_price f c world) now high return_high (act p f (here w es c))
        ⊎ Executes laws p code place size all (standing_as (here [] es c) (machine_at code pc base data_above return_above)) (first_price f c world) now high return_high f c es base (act p f (here w es c))

    -- GO ends the run of the source
    go_follows : (after w : List Work) (es : List Entry) (c : List ℕ) →
        Follows laws p code place size (standing_as (here [] es c) (machine_at code pc base data_above return_above)) (word_price Go c world) now high return_high (act p (IsWord Go after) (here w es c))
    go_follows after w es [] = tt
    go_follows after w es (a ∷ c) = tt

    -- a word by its own cells, and a library word and EXECUTE by a call
    word_steps : (word : Word) (after w : List Work) (es : List Entry) (c : List ℕ) →
        Placed code place p out pc (ends_body after) (Plain word) (λ q. Stands code place p out q after) → Loops code place p out after →
        1 + ahead after + unfinished fs ≤ now → ahead after ≤ p.source_tokens → AreEntries es → AreCells c → DepthFits (IsWord word after) c →
        length c + (entry_of word).peak ≤ high → length (return_places es base) + (entry_of word).back ≤ return_high → Stepped (IsWord word after) w es c
    word_steps word after w es c (inl (inl h)) l n few fe fc fit room back =
        inl
        (word_follows laws p code place size high return_high pc now out fs world fits starts base data_above return_above frames due word h.0 after es c
        (word_step p word c es (here after es c)) refl h.1 (applies word after c fit) h.2 h.3 l n fe fc room back)
    word_steps word after w es c (inl (inr h)) l n few fe fc fit room back =
        let routine = h.2 in
        inl
        (subst
        (Follows laws p code place size (standing_as (here [] es c) (machine_at code pc base data_above return_above)) (word_price word c world) now high return_high)
        (sym (library_step p word routine.number c es (here after es c) routine.is_library))
        (library_follows laws p code place size high return_high pc now out fs world fits starts base data_above return_above frames due (ends_body after) word h.0 after es c refl h.1 h.2 l n few fe fc room back))
    word_steps word after w es c (inr (inr h)) l n few fe fc fit room back = subst (λ x. Stepped (IsWord x after) w es c) (sym h.0) (inl (go_follows after w es c))
    word_steps word after w es c (inr (inl h)) l n few fe fc fit room back =
        subst (λ x. length c + (entry_of x).peak ≤ high → length (return_places es base) + (entry_of x).back ≤ return_high → Stepped (IsWord x after) w es c) (sym h.0)
        (λ room back. execute_follows laws p code place size all high return_high pc now out fs world fits starts base data_above return_above frames due (ends_body after) h.1 after es c refl h.2 h.3 l n few fe fc room back) room back

    first_follows : (f : First) (w : List Work) (es : List Entry) (c : List ℕ) → Stands code place p out pc (back code place p f) →
        Loops code place p out (back code place p f) → ahead (back code place p f) + unfinished fs ≤ now → AreEntries es → AreCells c → DepthFits f c →
        length c + peak_of fs f ≤ high → length (return_places es base) + back_of f ≤ return_high →
        Stepped f w es c
    first_follows BodyEnd w es c h l n fe fc fit room back = inl (body_ends laws p code place size all high return_high pc now world fits starts data_above return_above fs w es c base frames due h fc room (omega arith))
    first_follows IsExit w es c h l n fe fc fit room back = inl (body_ends laws p code place size all high return_high pc now world fits starts data_above return_above fs w es c base frames due h.0 fc room (omega arith))
    first_follows (IsLiteral value after) w es c h l n fe fc fit room back =
        inl (number_follows laws p code place size high return_high pc now out fs world fits starts base data_above return_above frames due value h.0.0 after es c h.0.1 h.0.2 h.0.3 l fe fc room (omega arith))
    first_follows (IsWord word after) w es c h l n fe fc fit room back = word_steps word after w es c h.0 l n (omega (arith, h.1)) fe fc fit room back
    first_follows (IsCall d after) w es c h l n fe fc fit room back =
        inl
        (call_follows laws p code place size high return_high pc now out fs world fits starts base data_above return_above frames due all (ends_body after)
        d after es c refl h.0.0 h.0.1 l n (omega (arith, h.1)) fe fc (omega arith) (omega arith))
    first_follows (IsChild d address after) w es c h l n fe fc fit room back =
        inl
        (child_follows laws p code place size high return_high pc now out fs world fits starts base data_above return_above frames due all (ends_body after)
        d address h.0.next after es c refl h.0.small h.0.number h.0.known h.0.call l n (omega (arith, h.1)) fe fc room (omega arith))
    first_follows (IsText kind address characters after) w es c h l n fe fc fit room back =
        inl
        (text_follows laws p code place size high return_high pc now out fs world fits starts base data_above return_above frames due (ends_body after) kind
        address characters h.0.middle h.0.next after es c refl h.0.address_small h.0.characters_small h.0.address_stands h.0.characters_stand h.0.text l n (omega (arith, h.1)) fe fc room back)
    first_follows (IsIf first second after) w es c h l n fe fc fit room back = inl (if_follows first second after w es c h l fe fc (omega arith) (omega arith))
    first_follows (IsTrueEnd after) w es c h l n fe fc fit room back =
        inl (true_end_follows laws p code place size high return_high pc now out fs world fits starts base data_above return_above frames due after es c h l n fe fc (omega arith) (omega arith))
    first_follows (IsUntil body after) w es c h l n fe fc fit room back =
        inl (flag_follows laws p code place size high return_high pc now out fs world fits starts base data_above return_above frames due h.begin (before body (UntilTest body ∷ after)) after w es c h.branch
        (stands_to code place p body out h.begin pc (UntilTest body ∷ after) h.body_stands h (omega (arith, h.few))) (loops_before code place p body out (UntilTest body ∷ after) l) h.after l fe fc (omega arith) (omega arith))
    first_follows (IsWhile test body after) w es c h l n fe fc fit room back =
        let s = h.1 in
        inl (flag_follows laws p code place size high return_high pc now out fs world fits starts base data_above return_above frames due s.next after (before body (Repeat test body ∷ after)) w es c s.branch
        s.after l (stands_to code place p body out (following pc) h.0 (Repeat test body ∷ after) s.body_stands (pc, s) (let few = s.few in omega (arith, few)))
        (loops_before code place p body out (Repeat test body ∷ after) l) fe fc (omega arith) (omega arith))
    first_follows (IsRepeat test body after) w es c h l n fe fc fit room back =
        let s = h.1 in
        inl (jump_follows laws p code place size high return_high pc now out fs world fits starts base data_above return_above frames due s.begin out (before test (WhileTest test body ∷ after)) es c s.jump
        (stands_to code place p test out s.begin h.0 (WhileTest test body ∷ after) s.test_stands (pc, s) (let few = s.few in omega (arith, few)))
        (loops_before code place p test out (WhileTest test body ∷ after) l) fe fc (omega arith) (omega arith))
    first_follows (IsAgain body after) w es c h l n fe fc fit room back =
        inl (jump_follows laws p code place size high return_high pc now out fs world fits starts base data_above return_above frames due h.0 out (before body (BeginAgain body ∷ after)) es c h.1
        (stands_to code place p body out h.0 pc (BeginAgain body ∷ after) h.2 h (omega (arith, h.3))) (loops_before code place p body out (BeginAgain body ∷ after) l) fe fc (omega arith) (omega arith))
    first_follows (IsQDo body plus after) w es c h l n fe fc fit room back =
        inl (q_do_follows laws p code place size high return_high fs world fits starts base pc now data_above return_above frames due out body plus after w es c h.0 l h.1 fe fc room back)
    first_follows (IsOf body others rest after) w es c h l n fe fc fit room back =
        inl (of_follows laws p code place size high return_high fs world fits starts base pc now data_above return_above frames due out body others rest after w es c h l fe fc room (omega arith))
    first_follows (IsEndOf after) w es c h l n fe fc fit room back =
        inl (true_end_follows laws p code place size high return_high pc now out fs world fits starts base data_above return_above frames due after es c h l n fe fc (omega arith) (omega arith))
    first_follows (IsEndCase after) w es c h l n fe fc fit room back =
        inl (end_case_follows laws p code place size high return_high fs world fits starts base pc now data_above return_above frames due out h.0 after w es c h.1 h.2 l fe fc (omega arith) (omega arith))
    first_follows (IsDo body plus after) w es c h l n fe fc fit room back =
        inl (do_follows laws p code place size high return_high fs world fits starts base pc now data_above return_above frames due out body plus after w es c h.0 l h.1 fe fc room back)
    first_follows (IsTurn body plus after) w es c h l n fe fc fit room back =
        inl (turn_follows laws p code place size high return_high fs world fits starts base pc now data_above return_above frames due out body plus after w es c h l fe fc room (omega arith))
    first_follows (IsLeave after) w es c h l n fe fc fit room back =
        inl (leave_follows laws p code place size high return_high fs world fits starts base pc now data_above return_above frames due out h.0.0 after w es c h.0.1 h.0.2 l fe fc room (omega arith))

  -- from where a state stands the machine follows its step, or has come to the code of a token
  abbrev pub StepFollows : State → OpenConfiguration → List (Option ℕ) → Type 0
  StepFollows s v base =
      Follows laws p code place size v (step_price s) (ahead s.work + unfinished s.callers) (length s.cells + peak_of s.callers (first_work s.work)) (length (return_places s.entries base) + back_of (first_work s.work)) (step p s)
      ⊎ Executes laws p code place size all v (step_price s) (ahead s.work + unfinished s.callers) (length s.cells + peak_of s.callers (first_work s.work))
      (length (return_places s.entries base) + back_of (first_work s.work)) (first_work s.work) s.cells s.entries base (step p s)

  pub step_follows : (out : Option ℕ) (pc : ℕ) (s : State) (base data_above return_above : List (Option ℕ)) → Meets code place p out pc s base →
      DepthFits (first_work s.work) s.cells → StepFollows s (standing_as s (machine_at code pc base data_above return_above)) base
  unfolding step
  step_follows out pc s base data_above return_above m fit =
      let o = opens code place p out pc s.work m.stands m.loops in
      first_follows (length s.cells + peak_of s.callers (first_work s.work)) (length (return_places s.entries base) + back_of (first_work s.work)) pc
      (ahead s.work + unfinished s.callers) o.out s.callers s.world m.world m.starts base data_above return_above m.frames (omega arith)
      (first_work s.work) s.work s.entries s.cells o.stands o.loops (omega (arith, o.fewer)) m.entries m.cells fit (omega arith) (omega arith)
