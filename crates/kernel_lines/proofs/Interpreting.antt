-- INTERPRET: the turn of a word, and its ends.
use Rattle.std.proofs.Common.{◌≡◌, inl, inr, ℕ, zero, suc, ◌+◌, ◌*◌, ◌≤◌, true, List, [], ◌∷◌, length, refl, sym, subst, arith}
use Rattle.std.specs.List.{All, slice_split}
use Rattle.std.proofs.lemmas.List.Elements.{filter_passes, All-head}
use Rattle.std.specs.Prelude.{◌==◌}
use Rattle.word_table.specs.declared.word.Word.TheVariants.{Fetch, CFetch, QDup}
use Rattle.forth_program.specs.Tree.{Plain, Call, If, Empty}
use Rattle.forth_program.specs.State.{World, State, Work, Entry, Frame, WhileTest}
use Rattle.forth_program.specs.Program.{SourceProgram, body_of}
use Rattle.forth_program.specs.Step.{before, step}
use Rattle.forth_program.specs.Run.{steps}
use Rattle.forth_program.specs.Price.{spent}
use Rattle.kernel_words.specs.Places.{length_cell, error_cell, word_buffer, next_word_place}
use Rattle.kernel_words.specs.Bodies.{items}
use Rattle.kernel_lines.specs.Bodies.{interpret_body}
use Rattle.kernel_words.specs.Memory.{data_cell, data_byte}
use Rattle.kernel_words.specs.Running.{Comes}
use Rattle.kernel_words.proofs.Runs.{by_way, by_word, by_call, there, within, followed}
use Rattle.kernel_words.proofs.Scanning.{skip}
use Rattle.kernel_words.proofs.Memory.{reads, reads_byte}
use Rattle.kernel_lines.specs.Places.{interpret_word_place, try_place, check_place, keep_places_place}
use Rattle.kernel_lines.specs.Words.{has_byte, first_kept, front}
use Rattle.kernel_lines.specs.Interpreting.{ErrorsEndLines, LinesEnd, interprets, behind_word, further_word, IsBeforeWord}
use Rattle.kernel_lines.specs.Bodies.{interpret_test, interpret_turn}
use Rattle.kernel_lines.specs.Interpreting.{word_met, WordsAreBegun, WordsAreEnded, WordsAreDone}
use Rattle.kernel_lines.specs.Laws.{WordsHaveBytes}

-- behind the first step, from its start or before a further word
abbrev behind_first_step : List Work
behind_first_step = before (skip 1 interpret_test) (WhileTest interpret_test interpret_turn ∷ [])

begins : (p : SourceProgram) (c : List ℕ) (w : World) (todo : List Work) (m d n b : ℕ) (work : List Work) (es : List Entry)
    (callers : List Frame) {t : State} → IsBeforeWord todo → 1 + m ≤ n → 2 + d ≤ b →
    Comes p m d (interprets work es callers behind_first_step (error_cell ∷ c) w) t → Comes p n b (interprets work es callers todo c w) t
unfolding step steps spent
begins p c w todo m d n b work es callers {t = t} (inl e) f g r =
    subst (λ todo. Comes p n b (interprets work es callers todo c w) t) (sym e)
    (by_way p {n = n} {b = b} {s = interprets work es callers (before interpret_body []) c w} 1 m d refl f g r)
begins p c w todo m d n b work es callers {t = t} (inr e) f g r =
    subst (λ todo. Comes p n b (interprets work es callers todo c w) t) (sym e)
    (by_way p {n = n} {b = b} {s = interprets work es callers further_word c w} 1 m d refl f g r)

pub errors_end_lines : ErrorsEndLines
unfolding step steps spent
errors_end_lines p c w error todo k h before_word e work es callers =
    begins p c w todo 6 7 7 9 work es callers before_word (omega arith) (omega arith)
    (by_word p Fetch 5 6 (reads w error_cell c h (omega arith) (omega arith)) refl (omega arith) (omega arith) (rw e
    (by_way p 5 0 0 refl (omega arith) (omega arith) (there p))))

pub lines_end : LinesEnd
unfolding step steps spent
lines_end p c w todo k h before_word e kernel next work es callers =
    begins p c w todo (409 + 400 * data_cell w length_cell) (338 + 250 * data_cell w length_cell) (410 + 400 * data_cell w length_cell)
    (340 + 250 * data_cell w length_cell) work es callers before_word (omega arith) (omega arith)
    (by_word p Fetch (408 + 400 * data_cell w length_cell) (337 + 250 * data_cell w length_cell)
    (reads w error_cell c h (omega arith) (omega arith)) refl (omega arith) (omega arith) (rw e
    (by_way p 1 (407 + 400 * data_cell w length_cell) (336 + 250 * data_cell w length_cell) refl (omega arith) (omega arith)
    (by_call p next_word_place (400 * (data_cell w length_cell + 1))
    (300 + 250 * data_cell w length_cell) 3 26 kernel.next_word next.run refl (omega arith) (omega arith)
    (by_word p CFetch 2 2 (reads_byte next.after word_buffer c next.console.space (omega arith) (omega arith)) refl (omega arith)
    (omega arith) (rw next.count
    (by_way p 2 0 0 refl (omega arith) (omega arith) (there p))))))))

-- ---- a word
some_bytes : (word : List ℕ) (words : List (List ℕ)) (n : ℕ) → has_byte word ≡ true → n ≡ length (first_kept (word ∷ words)) →
    (m : ℕ) × (n ≡ suc m)
some_bytes [] words n some e = absurd cc
some_bytes (b ∷ word) words n some e = (length (front 79 word), e)

pub words_are_begun : WordsAreBegun
unfolding step steps spent
words_are_begun p c w todo word words next most highest code found k kernel h before_word e some does work es callers =
    let many = some_bytes word words (data_byte next.after word_buffer) some next.count in
    begins p c w todo (410 + 400 * data_cell w length_cell + most) (345 + 250 * data_cell w length_cell + highest)
    (411 + 400 * data_cell w length_cell + most) (347 + 250 * data_cell w length_cell + highest)
    work es callers before_word (omega arith) (omega arith)
    (by_word p Fetch (409 + 400 * data_cell w length_cell + most) (344 + 250 * data_cell w length_cell + highest)
    (reads w error_cell c h (omega arith) (omega arith)) refl (omega arith) (omega arith) (rw e
    (by_way p 1 (408 + 400 * data_cell w length_cell + most) (343 + 250 * data_cell w length_cell + highest) refl (omega arith)
    (omega arith)
    (by_call p next_word_place (400 * (data_cell w length_cell + 1)) (300 + 250 * data_cell w length_cell) (7 + most)
    (42 + highest) kernel.next_word next.run refl (omega arith) (omega arith)
    (by_word p CFetch (6 + most) (18 + highest) (reads_byte next.after word_buffer c next.console.space (omega arith) (omega arith)) refl
    (omega arith) (omega arith) (rw many.1
    (by_way p 2 (4 + most) (15 + highest) refl (omega arith) (omega arith)
    (by_call p interpret_word_place most highest 3 14 refl does refl (omega arith) (omega arith) (ends code)))))))))
  where
    ends : (code : ℕ) → Comes p 3 14
        (interprets work es callers (before (items (Plain QDup ∷ If (items (Call try_place ∷ [])) Empty ∷ [])) behind_word)
        (code ∷ c) found) (word_met work es callers (body_of p try_place) code c found)
    ends zero = by_way p 2 0 0 refl (omega arith) (omega arith) (there p)
    ends (suc code) = by_way p 3 0 0 refl (omega arith) (omega arith) (there p)

pub words_are_ended : WordsAreEnded
unfolding step steps spent
words_are_ended p c done k check keep work es callers =
    by_call p check_place 26 40 16 28 k.interpreter.check check.run refl (omega arith) (omega arith)
    (by_call p keep_places_place 14 26 1 1 k.interpreter.keep_places keep.run refl (omega arith) (omega arith)
    (by_way p 1 0 0 refl (omega arith) (omega arith) (there p)))

pub words_are_done : WordsAreDone
words_are_done p c w todo word words next most highest done k kernel h before_word e some does check keep work es callers =
    within p (411 + 400 * data_cell w length_cell + most + 43) (347 + 250 * data_cell w length_cell + highest + 69) (omega arith)
    (omega arith)
    (followed p (words_are_begun p c w todo word words next most highest 0 done k kernel h before_word e some does work es callers)
    (words_are_ended p c done k check keep work es callers))

pub words_have_bytes : WordsHaveBytes
words_have_bytes text word words e =
    All-head (λ x. has_byte x ≡ true) word words (subst (All (λ x. has_byte x ≡ true)) e
    (filter_passes has_byte (slice_split (λ c. c == 32) text)))
