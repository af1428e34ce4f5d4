-- Steps compose, prints grow, and prices add.
use Rattle.std.proofs.Common.{◌≡◌, ℕ, zero, suc, ◌+◌, Bool, true, false, Option, Some, None, List, [], ◌∷◌, ◌++◌, length, refl, ap, sym}
use Rattle.std.proofs.Common.{subst, ◌∙◌, append_assoc, arith}
use Rattle.std.proofs.lemmas.Grind.{common_steps}
use Rattle.forth_program.specs.State.{State, End, Goes, Ends}
use Rattle.forth_program.specs.State.{Outcome as StepOutcome}
use Rattle.forth_program.specs.Step.{step}
use Rattle.forth_program.specs.Price.{step_price}
use Rattle.forth_program.specs.Program.{SourceProgram}
use Rattle.forth_program.specs.Run.{steps, and_then, world_of}
use Rattle.forth_program.specs.RunLaws.{WorldsGrow}
use Rattle.forth_program.specs.RunLaws.{IsLater as IsLaterWorld}
use Rattle.std.specs.Prelude.{◌≤◌, ◌==◌}
use Rattle.word_table.specs.declared.word.Word.{Word}
use Rattle.word_table.specs.declared.word.Word.TheVariants.{Colon}
use Rattle.session_machine.specs.Lines.{with_word, words_behind, line_words}
use Rattle.session_machine.specs.Definitions.{Definition, program_of, Sense, Calls, Does, Structures, Number, Unknown, sense_of, Begun}
use Rattle.session_machine.specs.Definitions.{nothing_begun, Reading, GoesOn, IsWhole, DoesNotFit, word_read, DefinitionRead, Whole}
use Rattle.session_machine.specs.Definitions.{Dropped, items_read}
use Rattle.session_machine.specs.Session.{Session, Action, StepsOn, TakesLine, EndsInput, Replies, Adds, Puts, Begins, Answers, Drops}
use Rattle.session_machine.specs.Session.{definition_action, colon_action, structure_action, sense_action}
use Rattle.session_machine.specs.Session.{action_of, reading_action, is_between, stepped, done, advanced, session_step, session_steps}
use Rattle.session_machine.specs.Session.{printed_by}
use Rattle.session_machine.specs.Session.{first_session, session_run}
use Rattle.session_machine.specs.Laws.{IsLater, spent_before, word_step_of, word_steps, reading_steps, TakesFewSteps}

pub compose : (a b : ℕ) (s : Session) → session_steps (a + b) s ≡ session_steps b (session_steps a s)
unfolding session_steps
compose zero b s = ap (λ k. session_steps k s) (zero_sum b)
  where
    zero_sum : (b : ℕ) → zero + b ≡ b
    zero_sum b = omega arith
compose (suc a) b s = ap (λ k. session_steps k s) (suc_sum a b) ∙ compose a b (session_step s)
  where
    suc_sum : (a b : ℕ) → suc a + b ≡ suc (a + b)
    suc_sum a b = omega arith

ended_step : (s : Session) (end : End) → s.end ≡ Some end → session_step s ≡ s
unfolding session_step
ended_step s end e = ap (λ o. advanced o s) e

pub stay_ended : (k : ℕ) (s : Session) (end : End) → s.end ≡ Some end → session_steps k s ≡ s
unfolding session_steps
stay_ended zero s end e = refl
stay_ended (suc k) s end e = ap (session_steps k) (ended_step s end e) ∙ stay_ended k s end e

-- ---- later sessions

same : (s : Session) → IsLater s s
same s = record {
  prints = ([], grind (arith, common_steps));
  lines = ([], refl, grind (arith, common_steps));
  defines = ([], grind (arith, common_steps));
}

later_later : (a b c : Session) → IsLater a b → IsLater b c → IsLater a c
later_later a b c h k = record {
  prints = (
    h.prints.0 ++ k.prints.0,
    k.prints.1 ∙ ap (λ xs. xs ++ k.prints.0) h.prints.1
        ∙ append_assoc (printed_by a) h.prints.0 k.prints.0,
  );
  lines = (
    h.lines.0 ++ k.lines.0,
    h.lines.1 ∙ ap (λ xs. h.lines.0 ++ xs) k.lines.1
        ∙ sym (append_assoc h.lines.0 k.lines.0 c.lines),
    grind (arith, common_steps, h.lines.2, k.lines.2),
  );
  defines = (
    h.defines.0 ++ k.defines.0,
    k.defines.1 ∙ ap (λ xs. xs ++ k.defines.0) h.defines.1
        ∙ append_assoc a.definitions h.defines.0 k.defines.0,
  );
}

-- the world after one word step
one_step : (grow : WorldsGrow) (p : SourceProgram) (s : State) → IsLaterWorld s.world (world_of (step p s))
unfolding steps
one_step grow p s = one_of (step p s) (grow p 1 s)
  where
    one_of : (o : StepOutcome) → IsLaterWorld s.world (world_of (and_then o (λ t. Goes t))) → IsLaterWorld s.world (world_of o)
    one_of (Goes t) h = h
    one_of (Ends end w) h = h

printed_more : (s t : Session) → (more : List ℕ) × (printed_by t ≡ printed_by s ++ more) → t.lines ≡ s.lines → t.taken ≡ s.taken →
    t.definitions ≡ s.definitions → IsLater s t
printed_more s t m l n d = record {
  prints = m;
  lines = ([], sym l, grind (arith, common_steps, n));
  defines = ([], grind (arith, common_steps, d));
}

nothing_more : (xs : List ℕ) → xs ≡ xs ++ []
nothing_more xs = grind (arith, common_steps)

quiet : (s t : Session) → printed_by t ≡ printed_by s → t.lines ≡ s.lines → t.taken ≡ s.taken → t.definitions ≡ s.definitions → IsLater s t
quiet s t p l n d = printed_more s t ([], p ∙ nothing_more (printed_by s)) l n d

stepped_later : (o : StepOutcome) (spent : ℕ) (s : Session) → IsLaterWorld s.state.world (world_of o) → IsLater s (stepped o spent s)
stepped_later (Goes t) spent s h = printed_more s _ h.prints refl refl refl
stepped_later (Ends end w) spent s h = printed_more s _ h.prints refl refl refl

-- a line is taken only where it is the first that is left
abbrev IsFirstLine : List (List ℕ) → Action → Type 0
IsFirstLine lines (TakesLine line others) = lines ≡ line ∷ others
IsFirstLine lines action = Unit {0}

done_later : (grow : WorldsGrow) (action : Action) (s : Session) → IsFirstLine s.lines action → IsLater s (done action s)
done_later grow StepsOn s h = stepped_later (step (program_of s.definitions) s.state) (step_price s.state) s
    (one_step grow (program_of s.definitions) s.state)
done_later grow (TakesLine line lines) s h = record {
  prints = ([], nothing_more (printed_by s));
  lines = (line ∷ [], h, refl);
  defines = ([], grind (arith, common_steps));
}
done_later grow EndsInput s h = quiet s _ refl refl refl refl
done_later grow Replies s h = printed_more s _ (_, refl) refl refl refl
done_later grow (Adds definition rest) s h = record {
  prints = ([], nothing_more (printed_by s));
  lines = ([], refl, grind (arith, common_steps));
  defines = (definition ∷ [], refl);
}
done_later grow (Puts value rest) s h = quiet s _ refl refl refl refl
done_later grow (Begins node rest) s h = quiet s _ refl refl refl refl
done_later grow (Answers text) s h = printed_more s _ (_, refl) refl refl refl
done_later grow (Drops name begun text) s h = printed_more s _ (_, refl) refl refl refl

-- ---- what the action of a session says of it

abbrev Shorter : List (List ℕ) → Option (List (List ℕ)) → Type 0
Shorter rest words = (all : List (List ℕ)) × (words ≡ Some all) × (suc (length rest) ≤ length all)

abbrev HasLine : Option (List (List ℕ)) → Type 0
HasLine words = (all : List (List ℕ)) × (words ≡ Some all)

abbrev pub Fits : Option (List (List ℕ)) → List (List ℕ) → Action → Type 0
Fits words lines StepsOn = Unit {0}
Fits words lines (TakesLine line others) = (words ≡ None) × (lines ≡ line ∷ others)
Fits words lines EndsInput = Unit {0}
Fits words lines Replies = HasLine words
Fits words lines (Adds definition rest) = Shorter rest words
Fits words lines (Puts value rest) = Shorter rest words
Fits words lines (Begins node rest) = Shorter rest words
Fits words lines (Answers text) = HasLine words
Fits words lines (Drops name begun text) = HasLine words

abbrev Unread : List (List ℕ) → DefinitionRead → Type 0
Unread words (Whole body weight rest) = length rest ≤ length words
Unread words (Dropped begun text) = Unit {0}

items_unread : (definitions : List Definition) (b : Begun) (words : List (List ℕ)) → Unread words (items_read definitions b words)
items_unread definitions b [] = tt
items_unread definitions b (text ∷ words) = by_reading (λ next. items_unread definitions next words)
    (word_read (sense_of definitions text) b)
  where
    one_more : (o : DefinitionRead) → Unread words o → Unread (text ∷ words) o
    one_more (Whole body weight rest) h = grind (arith, common_steps, h)
    one_more (Dropped begun other) h = tt

    by_reading : ((next : Begun) → Unread words (items_read definitions next words)) → (r : Reading) →
        Unread (text ∷ words)
        (elim r [
          | GoesOn next ↦ items_read definitions next words
          | IsWhole body weight ↦ Whole body weight words
          | DoesNotFit ↦ Dropped b text
        ])
    by_reading each (GoesOn next) = one_more (items_read definitions next words) (each next)
    by_reading each (IsWhole body weight) = grind (arith, common_steps)
    by_reading each DoesNotFit = tt

definition_fits : (name : List ℕ) (words : List (List ℕ)) (all : List (List ℕ)) (lines : List (List ℕ)) (o : DefinitionRead) →
    Unread words o → suc (length words) ≤ length all → Fits (Some all) lines (definition_action name o)
definition_fits name words all lines (Whole body weight rest) h k = (all, refl, grind (arith, common_steps, h, k))
definition_fits name words all lines (Dropped begun text) h k = (all, refl)

colon_fits : (definitions : List Definition) (words all lines : List (List ℕ)) → suc (length words) ≤ length all →
    Fits (Some all) lines (colon_action definitions words)
colon_fits definitions [] all lines h = (all, refl)
colon_fits definitions (name ∷ words) all lines h = definition_fits name words all lines (items_read definitions nothing_begun words)
    (items_unread definitions nothing_begun words) (grind (arith, common_steps, h))

structure_fits : (w : Word) (definitions : List Definition) (text : List ℕ) (words all lines : List (List ℕ)) →
    suc (length words) ≤ length all → Fits (Some all) lines (structure_action w definitions text words)
structure_fits Colon definitions text words all lines h = colon_fits definitions words all lines h
structure_fits w definitions text words all lines h = (all, refl)

sense_fits : (sense : Sense) (definitions : List Definition) (text : List ℕ) (words all lines : List (List ℕ)) →
    suc (length words) ≤ length all → Fits (Some all) lines (sense_action sense definitions text words)
sense_fits (Calls definition) definitions text words all lines h = (all, refl, h)
sense_fits (Does w) definitions text words all lines h = (all, refl, h)
sense_fits (Number value) definitions text words all lines h = (all, refl, h)
sense_fits (Structures w) definitions text words all lines h = structure_fits w definitions text words all lines h
sense_fits Unknown definitions text words all lines h = (all, refl)

reading_fits : (words : Option (List (List ℕ))) (lines : List (List ℕ)) (definitions : List Definition) →
    Fits words lines (reading_action words lines definitions)
reading_fits None [] definitions = tt
reading_fits None (line ∷ lines) definitions = (refl, refl)
reading_fits (Some []) lines definitions = ([], refl)
reading_fits (Some (text ∷ words)) lines definitions = sense_fits (sense_of definitions text) definitions text words (text ∷ words) lines
    (grind (arith, common_steps))

between_fits : (between : Bool) (words : Option (List (List ℕ))) (lines : List (List ℕ)) (definitions : List Definition) →
    Fits words lines (elim between [ true ↦ reading_action words lines definitions | false ↦ StepsOn ])
between_fits true words lines definitions = reading_fits words lines definitions
between_fits false words lines definitions = tt

pub fits : (s : Session) → Fits s.words s.lines (action_of s)
fits s = between_fits (is_between s.state.work s.state.callers) s.words s.lines s.definitions

first_line : (words : Option (List (List ℕ))) (lines : List (List ℕ)) (action : Action) → Fits words lines action → IsFirstLine lines action
first_line words lines (TakesLine line others) h = h.1
first_line words lines action h = tt

-- ---- so each step leads to a later session

advanced_later : (grow : WorldsGrow) (end : Option End) (s : Session) → IsLater s (advanced end s)
advanced_later grow (Some end) s = same s
advanced_later grow None s = done_later grow (action_of s) s (first_line s.words s.lines (action_of s) (fits s))

step_later : (grow : WorldsGrow) (s : Session) → IsLater s (session_step s)
unfolding session_step
step_later grow s = advanced_later grow s.end s

pub steps_later : (grow : WorldsGrow) (k : ℕ) (s : Session) → IsLater s (session_steps k s)
unfolding session_steps
steps_later grow zero s = same s
steps_later grow (suc k) s = later_later s (session_step s) (session_steps k (session_step s)) (step_later grow s)
    (steps_later grow k (session_step s))

-- ---- prices add

stepped_adds : (o : StepOutcome) (spent before : ℕ) (s : Session) →
    stepped o spent (spent_before before s) ≡ spent_before before (stepped o spent s)
stepped_adds (Goes t) spent before s = ap (λ n. record s { state = t; price = n }) (sum_assoc before s.price spent)
  where
    sum_assoc : (a b c : ℕ) → (a + b) + c ≡ a + (b + c)
    sum_assoc a b c = omega arith
stepped_adds (Ends end w) spent before s = ap (λ n. record s { state = record (s.state) { world = w }; price = n; end = Some end })
    (sum_assoc before s.price spent)
  where
    sum_assoc : (a b c : ℕ) → (a + b) + c ≡ a + (b + c)
    sum_assoc a b c = omega arith

done_adds : (action : Action) (before : ℕ) (s : Session) → done action (spent_before before s) ≡ spent_before before (done action s)
done_adds StepsOn before s = stepped_adds (step (program_of s.definitions) s.state) (step_price s.state) before s
done_adds (TakesLine line lines) before s = refl
done_adds EndsInput before s = refl
done_adds Replies before s = refl
done_adds (Adds definition rest) before s = refl
done_adds (Puts value rest) before s = refl
done_adds (Begins node rest) before s = refl
done_adds (Answers text) before s = refl
done_adds (Drops name begun text) before s = refl

advanced_adds : (end : Option End) (before : ℕ) (s : Session) → advanced end (spent_before before s) ≡ spent_before before (advanced end s)
advanced_adds (Some end) before s = refl
advanced_adds None before s = done_adds (action_of s) before s

step_adds : (before : ℕ) (s : Session) → session_step (spent_before before s) ≡ spent_before before (session_step s)
unfolding session_step
step_adds before s = advanced_adds s.end before s

pub prices_add : (before k : ℕ) (s : Session) → session_steps k (spent_before before s) ≡ spent_before before (session_steps k s)
unfolding session_steps
prices_add before zero s = refl
prices_add before (suc k) s = ap (session_steps k) (step_adds before s) ∙ prices_add before k (session_step s)

-- ---- few steps

-- the steps that the line in hand still takes beside word steps
abbrev pub left_of : Option (List (List ℕ)) → ℕ
left_of None = 0
left_of (Some words) = suc (length words)

abbrev one_where_some : List ℕ → ℕ
one_where_some [] = 0
one_where_some (byte ∷ bytes) = 1

at_most_one : (word : List ℕ) → one_where_some word ≤ 1
at_most_one [] = omega arith
at_most_one (byte ∷ bytes) = omega arith

joined_word : (word : List ℕ) (words : List (List ℕ)) → length (with_word word words) ≤ one_where_some word + length words
joined_word [] words = grind (arith, common_steps)
joined_word (byte ∷ bytes) words = grind (arith, common_steps)

few_words : (word bytes : List ℕ) → length (words_behind word bytes) ≤ one_where_some word + length bytes
few_words word [] = joined_word word []
few_words word (byte ∷ bytes) = by_blank (few_words [] bytes) (few_words (word ++ byte ∷ []) bytes) (byte == 32)
  where
    by_blank : length (words_behind [] bytes) ≤ 0 + length bytes →
        length (words_behind (word ++ byte ∷ []) bytes) ≤ one_where_some (word ++ byte ∷ []) + length bytes → (blank : Bool) →
        length (elim blank as (λ b. List (List ℕ)) [
          | true ↦ with_word word (words_behind [] bytes)
          | false ↦ words_behind
              (word ++ byte ∷ []) bytes
        ]) ≤ one_where_some word + suc (length bytes)
    by_blank h k true = grind (arith, joined_word word (words_behind [] bytes), h)
    by_blank h k false = grind (arith, k, at_most_one (word ++ byte ∷ []))

-- with the steps made so far, and the lines taken
pub record FewSteps (s t : Session) (made counted : ℕ) : Type 0 where
  pub taken : List (List ℕ)
  pub lines : s.lines ≡ taken ++ t.lines
  pub count : t.taken ≡ s.taken + length taken
  pub steps : made + left_of t.words ≤ counted + left_of s.words + reading_steps taken

running : (s t : Session) (made counted : ℕ) → t.lines ≡ s.lines → t.taken ≡ s.taken → made + left_of t.words ≤ counted + left_of s.words →
    FewSteps s t made counted
running s t made counted l n h = record {
  taken = [];
  lines = sym l;
  count = grind (arith, common_steps, n);
  steps = grind (arith, common_steps, h);
}

shorter_left : (rest : List (List ℕ)) (words : Option (List (List ℕ))) → Shorter rest words → 1 + left_of (Some rest) ≤ 0 + left_of words
shorter_left rest words h = let e : left_of words ≡ suc (length h.0) = ap left_of h.1 in grind (arith, e, h.2)

line_left : (words : Option (List (List ℕ))) → HasLine words → 1 + left_of None ≤ 0 + left_of words
line_left words h = let e : left_of words ≡ suc (length h.0) = ap left_of h.1 in grind (arith, e)

stepped_few : (o : StepOutcome) (spent : ℕ) (s : Session) → FewSteps s (stepped o spent s) 1 1
stepped_few (Goes t) spent s = running s _ 1 1 refl refl (omega arith)
stepped_few (Ends end w) spent s = running s _ 1 1 refl refl (omega arith)

abbrev IsSome : Option End → Type 0
IsSome None = ⊥
IsSome (Some end) = Unit {0}

done_few : (action : Action) (s : Session) → Fits s.words s.lines action → (done action s).end ≡ None →
    FewSteps s (done action s) 1 (word_step_of None action)
done_few StepsOn s h e = stepped_few (step (program_of s.definitions) s.state) (step_price s.state) s
done_few (TakesLine line lines) s h e =
    let n : left_of s.words ≡ 0 = ap left_of h.0 in
    record {
      taken = line ∷ [];
      lines = h.1;
      count = refl;
      steps = line_taken (length (line_words line)) (length line) (left_of s.words) (few_words [] line) n;
    }
  where
    line_taken : (w l left : ℕ) → w ≤ 0 + l → left ≡ 0 → 1 + suc w ≤ 0 + left + (l + 2 + 0)
    line_taken w l left h n = omega arith
done_few EndsInput s h e = absurd (subst IsSome e tt)
done_few Replies s h e = running s (done Replies s) 1 0 refl refl (line_left s.words h)
done_few (Adds definition rest) s h e = running s (done (Adds definition rest) s) 1 0 refl refl (shorter_left rest s.words h)
done_few (Puts value rest) s h e = running s (done (Puts value rest) s) 1 0 refl refl (shorter_left rest s.words h)
done_few (Begins node rest) s h e = running s (done (Begins node rest) s) 1 0 refl refl (shorter_left rest s.words h)
done_few (Answers text) s h e = running s (done (Answers text) s) 1 0 refl refl (line_left s.words h)
done_few (Drops name begun text) s h e = running s (done (Drops name begun text) s) 1 0 refl refl (line_left s.words h)

advanced_few : (end : Option End) (s : Session) → s.end ≡ end → (advanced end s).end ≡ None →
    FewSteps s (advanced end s) 1 (word_step_of end (action_of s))
advanced_few (Some end) s h e = absurd (subst IsSome (sym h ∙ e) tt)
advanced_few None s h e = done_few (action_of s) s (fits s) e

reading_more : (xs ys : List (List ℕ)) → reading_steps (xs ++ ys) ≡ reading_steps xs + reading_steps ys
reading_more [] ys = omega arith
reading_more (x ∷ xs) ys = ap (λ n. length x + 2 + n) (reading_more xs ys) ∙ sum_assoc (length x + 2) (reading_steps xs) (reading_steps ys)
  where
    sum_assoc : (a b c : ℕ) → a + (b + c) ≡ (a + b) + c
    sum_assoc a b c = omega arith

few_few : (a b c : Session) (m n i j : ℕ) → FewSteps a b m i → FewSteps b c n j → FewSteps a c (m + n) (i + j)
few_few a b c m n i j h k = record {
  taken = h.taken ++ k.taken;
  lines = h.lines ∙ ap (λ xs. h.taken ++ xs) k.lines ∙ sym (append_assoc h.taken k.taken c.lines);
  count = grind (arith, common_steps, h.count, k.count);
  steps = grind (arith, reading_more h.taken k.taken, h.steps, k.steps);
}

none_before : (k : ℕ) (s : Session) (end : Option End) → s.end ≡ end → (session_steps k s).end ≡ None → s.end ≡ None
none_before k s None h e = h
none_before k s (Some end) h e = sym (ap (λ t. t.end) (stay_ended k s end h)) ∙ e

one_more : (s t : Session) (k n : ℕ) → FewSteps s t (1 + k) n → FewSteps s t (suc k) n
one_more s t k n h = record { taken = h.taken; lines = h.lines; count = h.count; steps = omega (arith, h.steps) }

pub few_steps : (k : ℕ) (s : Session) → (session_steps k s).end ≡ None → FewSteps s (session_steps k s) k (word_steps k s)
unfolding session_steps session_step word_steps
few_steps zero s e = running s s 0 0 refl refl (omega arith)
few_steps (suc k) s e =
    one_more s (session_steps k (session_step s)) k _
    (few_few s (session_step s) (session_steps k (session_step s)) 1 k (word_step_of s.end (action_of s)) (word_steps k (session_step s))
    (advanced_few s.end s refl (none_before k (session_step s) (session_step s).end refl e)) (few_steps k (session_step s) e))

pub takes_few_steps : (lines : List (List ℕ)) (k : ℕ) → (session_run lines k).end ≡ None → TakesFewSteps lines k
unfolding session_run
takes_few_steps lines k e =
    let h = few_steps k (first_session lines) e in
    record { taken = h.taken; begin = h.lines; count = grind (arith, h.count); steps = grind (arith, h.steps) }
