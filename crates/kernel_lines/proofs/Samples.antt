-- What the definitions of a line say of some lines: computed.
use Rattle.std.proofs.Common.{◌≡◌, [], ◌∷◌, ◌++◌, true, false, refl}
use Rattle.std.specs.Prelude.{codes}
use Rattle.kernel_words.specs.Places.{error_cell, line_buffer, length_cell}
use Rattle.kernel_lines.specs.State.{is_state_outside, are_texts_outside, cells_at}
use Rattle.kernel_lines.specs.Words.{kept_line, words_of, first_kept}
use Rattle.kernel_lines.specs.Laws.{reply_text, set_back_cells}

some_words : words_of (codes "  1 2 +   .") ≡ codes "1" ∷ codes "2" ∷ codes "+" ∷ codes "." ∷ []
some_words = refl

no_words : words_of (codes "   ") ≡ []
no_words = refl

tabs_are_blanks : kept_line 80 (codes "1" ++ 9 ∷ codes ".") ≡ codes "1 ."
tabs_are_blanks = refl

first_of_three : first_kept (words_of (codes "DUP * .")) ≡ codes "DUP"
first_of_three = refl

unknown_word : reply_text 1 (codes "XYZZY") ≡ codes "XYZZY ?" ++ 10 ∷ []
unknown_word = refl

behind_quit : reply_text 3 (codes "QUIT") ≡ []
behind_quit = refl

-- READ-LINE changes no text; it changes the state
texts_are_apart : are_texts_outside ((line_buffer, 80) ∷ cells_at (error_cell ∷ length_cell ∷ [])) ≡ true
texts_are_apart = refl

line_is_apart : is_state_outside ((line_buffer, 80) ∷ []) ≡ true
line_is_apart = refl

state_is_changed : is_state_outside ((line_buffer, 80) ∷ cells_at (error_cell ∷ [])) ≡ false
state_is_changed = refl

going_back_changes_no_text : are_texts_outside (cells_at set_back_cells) ≡ true
going_back_changes_no_text = refl
