-- What the kernel's definitions of a line do. Each law speaks of every program that has these definitions, of any cells below, and of any
-- frame that called; it says what is taken and printed, the kernel's state afterwards, which bytes may have changed, and within how many
-- word steps and for what price.
use Rattle.std.specs.Prelude.{◌≡◌, ◌⊎◌, ℕ, ◌+◌, ◌*◌, ◌≤◌, nat_lt, ◌==◌, ◌&&◌, ◌||◌, if◌then◌else◌, List, [], ◌∷◌, ◌++◌, length}
use Rattle.std.specs.Prelude.{true, codes}
use Rattle.forth_program.specs.State.{World}
use Rattle.forth_program.specs.Program.{SourceProgram}
use Rattle.forth_program.specs.Run.{steps}
use Rattle.kernel_words.specs.Places.{here_cell, length_cell, reached_cell, latest_cell, source_cell, error_cell, line_buffer, word_buffer}
use Rattle.kernel_words.specs.Bodies.{IsKernel, next_word_body}
use Rattle.kernel_words.specs.Memory.{IsDataSpace, KeepsConsole, data_cell, data_byte, data_bytes}
use Rattle.kernel_words.specs.Running.{Returns}
use Rattle.kernel_words.specs.Laws.{HasSource}
use Rattle.kernel_lines.specs.Places.{state_cell, new_cell, kept_here_cell, kept_latest_cell, user_count_cell, open_count_cell, leaves_cell}
use Rattle.kernel_lines.specs.Places.{loops_cell}
use Rattle.kernel_lines.specs.Bodies.{HasLines, check_body, keep_places_body, reset_body, reply_body, read_line_body}
use Rattle.kernel_lines.specs.State.{KernelState, kernel_state, source_left, word_read, cells_at, is_cell_outside, are_outside}
use Rattle.kernel_lines.specs.State.{is_state_outside, are_texts_outside, OnlyChanges, Does, HasTexts}
use Rattle.kernel_lines.specs.Words.{IsTyped, kept_line, has_byte, words_of, first_kept, behind_first}

-- ---- what is outside the ranges stays as it was

abbrev pub CellsStay : Type 0
CellsStay = (ranges : List (ℕ × ℕ)) (w v : World) (a : ℕ) → OnlyChanges ranges w v → is_cell_outside a ranges ≡ true →
    data_cell v a ≡ data_cell w a

abbrev pub BytesStay : Type 0
BytesStay = (ranges : List (ℕ × ℕ)) (w v : World) (n a : ℕ) → OnlyChanges ranges w v → are_outside n a ranges ≡ true →
    data_bytes v n a ≡ data_bytes w n a

abbrev pub StatesStay : Type 0
StatesStay = (ranges : List (ℕ × ℕ)) (w v : World) → OnlyChanges ranges w v → is_state_outside ranges ≡ true →
    kernel_state v ≡ kernel_state w

abbrev pub TextsStay : Type 0
TextsStay = (ranges : List (ℕ × ℕ)) (w v : World) → OnlyChanges ranges w v → are_texts_outside ranges ≡ true → HasTexts w → HasTexts v

-- what may change by one thing and then another
abbrev pub ChangesFollow : Type 0
ChangesFollow = (xs ys : List (ℕ × ℕ)) (u v w : World) → OnlyChanges xs u v → OnlyChanges ys v w → OnlyChanges (xs ++ ys) u w

-- ---- behind each word

-- data space from 16289 on is kept free, and there are at most 20 user cells
abbrev pub checked : KernelState → KernelState
checked s = record s { error = if nat_lt s.here s.first_here || nat_lt 16288 s.here then 6 else if nat_lt 20 s.users then 4 else s.error }

-- CHECK ( -- ) sets ERROR where there are too many user cells, or data space is full
abbrev pub WordsAreChecked : Type 0
WordsAreChecked =
    (p : SourceProgram) (c : List ℕ) (w : World) → HasLines p → IsDataSpace w →
    Does p check_body 26 40 c w c w.input [] (checked (kernel_state w)) (cells_at (error_cell ∷ []))

-- where no word failed and no definition is open, HERE and LATEST are the places to come back to
abbrev pub with_places_kept : KernelState → KernelState
with_places_kept s = if s.error == 0 && s.new == 0 then record s { kept_here = s.here; kept_latest = s.latest } else s

-- KEEP-PLACES ( -- ) keeps them
abbrev pub PlacesAreKept : Type 0
PlacesAreKept =
    (p : SourceProgram) (c : List ℕ) (w : World) → HasLines p → IsDataSpace w →
    Does p keep_places_body 14 26 c w c w.input [] (with_places_kept (kernel_state w)) (cells_at (kept_here_cell ∷ kept_latest_cell ∷ []))

-- ---- behind an error

-- no definition is open, no word failed, and HERE and LATEST are those that were kept
abbrev pub set_back : KernelState → KernelState
set_back s = record s { compiling = 0; new = 0; error = 0; opened = 0; leaves = 0; loops = 0; here = s.kept_here; latest = s.kept_latest }

abbrev pub set_back_cells : List ℕ
set_back_cells = state_cell ∷ new_cell ∷ error_cell ∷ open_count_cell ∷ leaves_cell ∷ loops_cell ∷ here_cell ∷ latest_cell ∷ []

-- RESET ( -- ) sets the kernel back
abbrev pub KernelIsSetBack : Type 0
KernelIsSetBack =
    (p : SourceProgram) (c : List ℕ) (w : World) → HasLines p → IsDataSpace w →
    Does p reset_body 29 54 c w c w.input [] (set_back (kernel_state w)) (cells_at set_back_cells)

-- ---- the reply

-- the line that is printed, by ERROR and the word read last: nothing behind ABORT and QUIT
abbrev pub reply_text : ℕ → List ℕ → List ℕ
reply_text error word =
    if error == 0 then codes " ok" ++ 10 ∷ []
    else if error == 1 then word ++ codes " ?" ++ 10 ∷ []
    else if error == 4 then word ++ codes " stack ?" ++ 10 ∷ []
    else if error == 5 then codes "line too long ?" ++ 10 ∷ []
    else if error == 6 then word ++ codes " full ?" ++ 10 ∷ []
    else []

-- an error other than QUIT drops the user cells; each sets the kernel back
abbrev pub replied : KernelState → KernelState
replied s = if s.error == 0 then s else set_back (if s.error == 3 then s else record s { users = 0 })

-- REPLY ( -- ) prints the reply, and goes back behind an error
abbrev pub RepliesAreGiven : Type 0
RepliesAreGiven =
    (p : SourceProgram) (c : List ℕ) (w : World) → HasLines p → IsDataSpace w → HasTexts w →
    Does p reply_body 80 (1600 + 80 * data_byte w word_buffer) c w c w.input (reply_text (data_cell w error_cell) (word_read w))
    (replied (kernel_state w))
    (cells_at (user_count_cell ∷ set_back_cells))

-- ---- a line is read

-- LENGTH is that of what is kept, and ERROR is set where the line is too long
abbrev pub with_line : List ℕ → KernelState → KernelState
with_line typed s = record s { size = length (kept_line 80 typed); error = if nat_lt 80 (length typed) then 5 else s.error }

-- READ-LINE ( -- ) takes the bytes typed and the line feed behind them, and keeps at most 80 in LINE, those below 32 as blanks
pub record LineIsRead (p : SourceProgram) (c : List ℕ) (w : World) (typed left : List ℕ) : Type 0 where
  pub does : Does p read_line_body (20 + 24 * length typed) (30 + 120 * length typed) c w c left [] (with_line typed (kernel_state w))
      ((line_buffer, 80) ∷ cells_at (error_cell ∷ length_cell ∷ []))
  pub line : data_bytes does.after (length (kept_line 80 typed)) line_buffer ≡ kept_line 80 typed

abbrev pub LinesAreRead : Type 0
LinesAreRead =
    (p : SourceProgram) (c : List ℕ) (w : World) (typed left : List ℕ) → HasLines p → IsDataSpace w → IsTyped typed →
    w.input ≡ typed ++ 10 ∷ left →
    LineIsRead p c w typed left

-- ---- the words of the source

-- the source lies apart from >IN and WORD-BUFFER
abbrev pub SourceIsApart : World → Type 0
SourceIsApart w = (data_cell w source_cell + data_cell w length_cell ≤ reached_cell) ⊎ (word_buffer + 82 ≤ data_cell w source_cell)

-- NEXT-WORD reads the first of these words, or tells by an empty one that there is none, and leaves the others
pub record NextIsRead (p : SourceProgram) (c : List ℕ) (w : World) (words : List (List ℕ)) : Type 0 where
  pub after : World
  pub run : Returns p next_word_body (400 * (data_cell w length_cell + 1)) (300 + 250 * data_cell w length_cell) c w (word_buffer ∷ c) after
  pub console : KeepsConsole w after
  pub count : data_byte after word_buffer ≡ length (first_kept words)
  pub word : word_read after ≡ first_kept words
  pub place : data_cell after reached_cell ≤ data_cell w length_cell
  pub left : words_of (source_left after) ≡ behind_first words
  pub state_is : kernel_state after ≡ record (kernel_state w) { reached = data_cell after reached_cell }
  pub others : OnlyChanges ((reached_cell, 2) ∷ (word_buffer, 82) ∷ []) w after

-- NEXT-WORD ( -- a ) reads the first word of what is left of the source
abbrev pub NextWordsAreRead : Type 0
NextWordsAreRead =
    (p : SourceProgram) (c : List ℕ) (w : World) → IsKernel p → IsDataSpace w → HasSource w (data_cell w source_cell) → SourceIsApart w →
    NextIsRead p c w (words_of (source_left w))

-- over and over it reads these words, and then tells that there is none
abbrev pub AreRead : SourceProgram → List ℕ → World → List (List ℕ) → Type 0
AreRead p c w [] = NextIsRead p c w []
AreRead p c w (word ∷ words) = (next : NextIsRead p c w (word ∷ words)) × AreRead p c next.after words

-- so it reads the words of the source, one after the other
abbrev pub WordsAreReadInTurn : Type 0
WordsAreReadInTurn =
    (p : SourceProgram) (c : List ℕ) (w : World) → IsKernel p → IsDataSpace w → HasSource w (data_cell w source_cell) → SourceIsApart w →
    AreRead p c w (words_of (source_left w))

-- each word of a text has a byte
abbrev pub WordsHaveBytes : Type 0
WordsHaveBytes = (text word : List ℕ) (words : List (List ℕ)) → words_of text ≡ word ∷ words → has_byte word ≡ true

-- the words of a text that a line can hold are kept whole
abbrev pub WordsAreWhole : Type 0
WordsAreWhole = (text word : List ℕ) (words : List (List ℕ)) → length text ≤ 80 → words_of text ≡ word ∷ words →
    first_kept (word ∷ words) ≡ word
