-- What the kernel's interpreter does. Each law speaks of every program that has these definitions, of any cells below, and of any frame
-- that called; it says what is printed and taken (nothing), which bytes change, and within how many word steps and for what price. Word
-- steps and price count the end of the definition.
use Rattle.std.specs.Prelude.{◌≡◌, ◌≢◌, ℕ, zero, suc, ◌+◌, ◌*◌, ◌/◌, ◌==◌, ◌<◌, ◌≤◌, nat_lt, if◌then◌else◌, List, [], ◌∷◌, length, Option}
use Rattle.std.specs.Prelude.{Some, None}
use Rattle.std.specs.Str.{str_eq_ignore_ascii_case}
use Rattle.cell_math.specs.Cell.{difference_of}
use Rattle.forth_reader.specs.declared.number.NumberRead.TheVariants.{Value}
use Rattle.forth_reader.specs.Number.{based_read}
use Rattle.forth_program.specs.Tree.{Nodes}
use Rattle.forth_program.specs.State.{World}
use Rattle.forth_program.specs.Program.{SourceProgram, body_of}
use Rattle.forth_program.specs.Returns.{Return, world_back}
use Rattle.kernel_words.specs.Places.{base_cell, latest_cell, error_cell}
use Rattle.kernel_words.specs.Running.{Returns}
use Rattle.kernel_words.specs.Memory.{IsDataSpace, data_cell, data_byte, data_bytes}
use Rattle.kernel_words.specs.Headers.{Header, Headers}
use Rattle.kernel_lines.specs.Places.{state_cell, user_count_cell}
use Rattle.kernel_interpreter.specs.Places.{needs, run_code, run_call, return_words, return_words_size}
use Rattle.kernel_interpreter.specs.Bodies.{IsInterpreter, Structure, structures, push_user_body, pop_user_body, need_body, try_body}
use Rattle.kernel_definitions.specs.Bodies.{interpret_word_body}
use Rattle.kernel_interpreter.specs.UserCells.{HasUserCells, OneCellChanged, CellIsPushed}
use Rattle.kernel_interpreter.specs.Running.{LeavesBy, ReturnsBack}

-- a definition that returns does so too where GOs come back, of which it has none
abbrev pub ReturnsStay : Type 0
ReturnsStay =
    (p : SourceProgram) (body : Nodes) (most highest : ℕ) (c : List ℕ) (w : World) (c' : List ℕ) (w' : World) →
    Returns p body most highest c w c' w' → ReturnsBack p [] body most highest c w c' w'

-- ---- the user's cells

-- PUSH-USER ( x -- ) puts x on the user's cells
pub record UserCellIsPushed (p : SourceProgram) (x : ℕ) (user c : List ℕ) (w : World) : Type 0 where
  pub after : World
  pub run : Returns p push_user_body 11 18 (x ∷ c) w c after
  pub change : CellIsPushed w after (length user) x
  pub cells : HasUserCells after (x ∷ user)

abbrev pub UserCellsArePushed : Type 0
UserCellsArePushed =
    (p : SourceProgram) (x : ℕ) (user c : List ℕ) (w : World) → IsDataSpace w → x < 65536 → HasUserCells w user → length user ≤ 30 →
    UserCellIsPushed p x user c w

-- POP-USER ( -- x ) takes the newest of them
pub record UserCellIsPopped (p : SourceProgram) (x : ℕ) (user c : List ℕ) (w : World) : Type 0 where
  pub after : World
  pub run : Returns p pop_user_body 14 19 c w (x ∷ c) after
  pub change : OneCellChanged w after user_count_cell (length user)
  pub cells : HasUserCells after user

abbrev pub UserCellsArePopped : Type 0
UserCellsArePopped =
    (p : SourceProgram) (x : ℕ) (user c : List ℕ) (w : World) → IsDataSpace w → HasUserCells w (x ∷ user) → length user ≤ 30 →
    UserCellIsPopped p x user c w

-- and where there is none it fails, and leaves 0
pub record NoUserCellIsPopped (p : SourceProgram) (c : List ℕ) (w : World) : Type 0 where
  pub after : World
  pub run : Returns p pop_user_body 10 14 c w (0 ∷ c) after
  pub change : OneCellChanged w after error_cell 1

abbrev pub NoUserCellsFail : Type 0
NoUserCellsFail = (p : SourceProgram) (c : List ℕ) (w : World) → IsInterpreter p → IsDataSpace w → HasUserCells w [] →
    NoUserCellIsPopped p c w

-- ---- a typed word by its code

-- the execution token whose jump is at an address
abbrev pub token_at : ℕ → ℕ
token_at code = difference_of (code / 2) 7

-- how many cells the word with this code needs: one that works on return entries more than there can be, one with a token as NEEDS says,
-- and a typed one none
abbrev pub cells_needed : World → ℕ → ℕ
cells_needed w code =
    if nat_lt (difference_of code return_words) return_words_size then 99
    else (if nat_lt (token_at code) 140 then data_byte w (needs + token_at code) else 0)

-- NEED ( xt -- n )
abbrev pub NeedsAreKnown : Type 0
NeedsAreKnown = (p : SourceProgram) (code : ℕ) (c : List ℕ) (w : World) → IsDataSpace w →
    Returns p need_body 19 54 (code ∷ c) w (cells_needed w code ∷ c) w

-- TRY ( xt -- ): where the user has too few cells the word is not run, and ERROR says so
pub record WordLacksCells (p : SourceProgram) (code : ℕ) (c : List ℕ) (w : World) : Type 0 where
  pub after : World
  pub run : Returns p try_body 33 72 (code ∷ c) w c after
  pub change : OneCellChanged w after error_cell 4

abbrev pub LackingWordsFail : Type 0
LackingWordsFail =
    (p : SourceProgram) (code : ℕ) (c : List ℕ) (w : World) → IsInterpreter p → IsDataSpace w →
    data_cell w user_count_cell < cells_needed w code → WordLacksCells p code c w

-- where it has enough, the run leaves at RUN-CODE with the call of the word in RUN-CALL, and no other byte changed, not even the user's
-- cells; and behind the way back the word is done
pub record WordIsRun (p : SourceProgram) (code : ℕ) (c : List ℕ) (w : World) : Type 0 where
  pub at : World
  pub change : OneCellChanged w at run_call (16384 + code / 2)
  pub leaves : LeavesBy p try_body 34 77 (code ∷ c) w run_code at
  pub back : (back : Return) → ReturnsBack p (back ∷ []) try_body 36 79 (code ∷ c) w c (world_back back at)

abbrev pub WordsAreRun : Type 0
WordsAreRun =
    (p : SourceProgram) (code : ℕ) (c : List ℕ) (w : World) → IsInterpreter p → IsDataSpace w → code < 65536 →
    cells_needed w code ≤ data_cell w user_count_cell → WordIsRun p code c w

-- ---- a word of a line, outside definitions

-- no definition is open, the headers are these, and the counted string at a is this name
pub record MeetsName (w : World) (headers : List Header) (a : ℕ) (name : List ℕ) : Type 0 where
  pub space : IsDataSpace w
  pub outside : data_cell w state_cell ≡ 0
  pub list : Headers w (data_cell w latest_cell) headers
  pub low : 8192 ≤ a
  pub high : a + 1 + data_byte w a ≤ 16384
  pub text : data_bytes w (data_byte w a) (a + 1) ≡ name

-- the newest header with a name, letters without case
abbrev pub newest_named : List Header → List ℕ → Option Header
newest_named [] name = None
newest_named (header ∷ older) name = if str_eq_ignore_ascii_case header.name name then Some header else newest_named older name

-- the structure with a token
abbrev pub structure_with : List Structure → ℕ → Option Structure
structure_with [] token = None
structure_with (one ∷ others) token = if token == one.token then Some one else structure_with others token

-- INTERPRET-WORD ( a -- xt / 0 ): where a header has the name, its code is left for TRY, and nothing else is done
abbrev pub WordsAreFound : Type 0
WordsAreFound =
    (p : SourceProgram) (a : ℕ) (name c : List ℕ) (w : World) (headers : List Header) (header : Header) → IsInterpreter p →
    MeetsName w headers a name →
    newest_named headers name ≡ Some header → structure_with structures (token_at header.code) ≡ None →
    Returns p interpret_word_body (4000 * (length headers + 1) + 70) (4000 * (length headers + 1) + 100) (a ∷ c) w (header.code ∷ c) w

-- but a structure is done by its definition, and 0 is left
abbrev pub StructuresAreDone : Type 0
StructuresAreDone =
    (p : SourceProgram) (a : ℕ) (name c : List ℕ) (w : World) (headers : List Header) (header : Header) (one : Structure) (most highest : ℕ)
    (c' : List ℕ) (w' : World) →
    IsInterpreter p → MeetsName w headers a name → newest_named headers name ≡ Some header →
    structure_with structures (token_at header.code) ≡ Some one →
    Returns p (body_of p one.definition) most highest c w c' w' →
    Returns p interpret_word_body (4000 * (length headers + 1) + 70 + most) (4000 * (length headers + 1) + 100 + highest) (a ∷ c) w
    (0 ∷ c') w'

-- where none has it, and it is a number in BASE, that is put on the user's cells, and 0 is left
pub record NumberIsTaken (p : SourceProgram) (a : ℕ) (c : List ℕ) (w : World) (headers : List Header) (x : ℕ) (user : List ℕ) : Type 0 where
  pub after : World
  pub run : Returns p interpret_word_body (4000 * (length headers + 1) + 1000 * (data_byte w a + 1) + 30)
      (4000 * (length headers + 1) + 1300 * (data_byte w a + 1) + 50) (a ∷ c) w (0 ∷ c) after
  pub change : CellIsPushed w after (length user) x
  pub cells : HasUserCells after (x ∷ user)

abbrev pub NumbersAreTaken : Type 0
NumbersAreTaken =
    (p : SourceProgram) (a : ℕ) (name c : List ℕ) (w : World) (headers : List Header) (x : ℕ) (user : List ℕ) → IsInterpreter p →
    MeetsName w headers a name →
    newest_named headers name ≡ None → 2 ≤ data_cell w base_cell → data_cell w base_cell ≤ 36 →
    based_read (data_cell w base_cell) name ≡ Value x →
    HasUserCells w user → length user ≤ 30 → NumberIsTaken p a c w headers x user

-- where it is none, ERROR says so, and 0 is left
pub record WordIsUnknown (p : SourceProgram) (a : ℕ) (c : List ℕ) (w : World) (headers : List Header) : Type 0 where
  pub after : World
  pub run : Returns p interpret_word_body (4000 * (length headers + 1) + 1000 * (data_byte w a + 1) + 30)
      (4000 * (length headers + 1) + 1300 * (data_byte w a + 1) + 50) (a ∷ c) w (0 ∷ c) after
  pub change : OneCellChanged w after error_cell 1

abbrev pub UnknownWordsFail : Type 0
UnknownWordsFail =
    (p : SourceProgram) (a : ℕ) (name c : List ℕ) (w : World) (headers : List Header) → IsInterpreter p → MeetsName w headers a name →
    newest_named headers name ≡ None → 2 ≤ data_cell w base_cell → data_cell w base_cell ≤ 36 →
    ((x : ℕ) → based_read (data_cell w base_cell) name ≢ Value x) → WordIsUnknown p a c w headers
