-- The kernel's state by the names of its cells, and which bytes of data space may change.
use Rattle.std.specs.Prelude.{◌≡◌, ℕ, zero, suc, ◌+◌, ◌-◌, ◌%◌, ◌==◌, ◌≤◌, nat_lt, nat_le, Bool, true, ◌&&◌, ◌||◌, List, [], ◌∷◌, ◌++◌}
use Rattle.std.specs.Prelude.{codes}
use Rattle.forth_program.specs.State.{World}
use Rattle.forth_program.specs.Tree.{Nodes}
use Rattle.forth_program.specs.Program.{SourceProgram}
use Rattle.kernel_words.specs.Places.{base_cell, here_cell, length_cell, reached_cell, latest_cell, source_cell, error_cell, word_buffer}
use Rattle.kernel_words.specs.Memory.{IsDataSpace, data_cell, data_byte, data_bytes}
use Rattle.kernel_words.specs.Running.{Returns}
use Rattle.kernel_lines.specs.Places.{state_cell, new_cell, kept_here_cell, kept_latest_cell, first_here_cell, user_count_cell}
use Rattle.kernel_lines.specs.Places.{open_count_cell, leaves_cell, loops_cell, level_cell}
use Rattle.kernel_lines.specs.Places.{unknown_text, stack_text, long_text, full_text, well_text}

-- BASE and HERE; LENGTH, that of the source, >IN, LATEST and SOURCE-START; ERROR, STATE and NEW; KEPT-HERE, KEPT-LATEST and FIRST-HERE; how
-- many user cells there are; OPEN-COUNT, LEAVES and LOOPS; and LEVEL
pub record KernelState : Type 0 where
  pub base : ℕ
  pub here : ℕ
  pub size : ℕ
  pub reached : ℕ
  pub latest : ℕ
  pub start : ℕ
  pub error : ℕ
  pub compiling : ℕ
  pub new : ℕ
  pub kept_here : ℕ
  pub kept_latest : ℕ
  pub first_here : ℕ
  pub users : ℕ
  pub opened : ℕ
  pub leaves : ℕ
  pub loops : ℕ
  pub level : ℕ

-- the state in a data space
abbrev pub kernel_state : World → KernelState
kernel_state w = record {
  base = data_cell w base_cell;
  here = data_cell w here_cell;
  size = data_cell w length_cell;
  reached = data_cell w reached_cell;
  latest = data_cell w latest_cell;
  start = data_cell w source_cell;
  error = data_cell w error_cell;
  compiling = data_cell w state_cell;
  new = data_cell w new_cell;
  kept_here = data_cell w kept_here_cell;
  kept_latest = data_cell w kept_latest_cell;
  first_here = data_cell w first_here_cell;
  users = data_cell w user_count_cell;
  opened = data_cell w open_count_cell;
  leaves = data_cell w leaves_cell;
  loops = data_cell w loops_cell;
  level = data_cell w level_cell;
}

-- the bytes of the source from >IN on, and the word in WORD-BUFFER
abbrev pub source_left : World → List ℕ
source_left w = data_bytes w (data_cell w length_cell - data_cell w reached_cell) (data_cell w source_cell + data_cell w reached_cell)

abbrev pub word_read : World → List ℕ
word_read w = data_bytes w (data_byte w word_buffer) (suc word_buffer)

-- ---- what may change: ranges of bytes, each by its first address and its size

abbrev pub is_outside : ℕ → List (ℕ × ℕ) → Bool
is_outside a [] = true
is_outside a (range ∷ ranges) = (nat_lt a range.0 || nat_le (range.0 + range.1) a) && is_outside a ranges

abbrev pub cells_at : List ℕ → List (ℕ × ℕ)
cells_at [] = []
cells_at (a ∷ cells) = (a, 2) ∷ cells_at cells

-- a cell, by its even address; so many bytes; the whole state, and that but for >IN; and the kernel's texts
abbrev pub is_cell_outside : ℕ → List (ℕ × ℕ) → Bool
is_cell_outside a ranges = nat_le 8192 a && (a % 2 == 0 && (is_outside a ranges && is_outside (suc a) ranges))

abbrev pub are_outside : ℕ → ℕ → List (ℕ × ℕ) → Bool
are_outside zero a ranges = true
are_outside (suc n) a ranges = nat_le 8192 a && (is_outside a ranges && are_outside n (suc a) ranges)

abbrev pub are_others_outside : List (ℕ × ℕ) → Bool
are_others_outside ranges =
    is_cell_outside base_cell ranges && (is_cell_outside here_cell ranges && (is_cell_outside length_cell ranges && (
    is_cell_outside latest_cell ranges && (is_cell_outside source_cell ranges && (is_cell_outside error_cell ranges && (
    is_cell_outside state_cell ranges && (is_cell_outside new_cell ranges && (is_cell_outside kept_here_cell ranges && (
    is_cell_outside kept_latest_cell ranges && (is_cell_outside first_here_cell ranges && (is_cell_outside user_count_cell ranges && (
    is_cell_outside open_count_cell ranges && (is_cell_outside leaves_cell ranges && (is_cell_outside loops_cell ranges && (
    is_cell_outside level_cell ranges)))))))))))))))

abbrev pub is_state_outside : List (ℕ × ℕ) → Bool
is_state_outside ranges = is_cell_outside reached_cell ranges && are_others_outside ranges

abbrev pub are_texts_outside : List (ℕ × ℕ) → Bool
are_texts_outside ranges =
    are_outside 2 unknown_text ranges && (are_outside 8 stack_text ranges && (are_outside 15 long_text ranges && (
    are_outside 7 full_text ranges && are_outside 3 well_text ranges)))

-- all bytes of data space outside these ranges are as before
pub record OnlyChanges (ranges : List (ℕ × ℕ)) (old new : World) : Type 0 where
  pub space : IsDataSpace new
  pub kept : (a : ℕ) → 8192 ≤ a → is_outside a ranges ≡ true → data_byte new a ≡ data_byte old a

-- ---- what a definition does: from these cells it leaves those, within so many word steps and for so high a price; it leaves this input
-- and prints this text; the kernel's state is this afterwards, and only bytes of these ranges may have changed
pub record Does (p : SourceProgram) (body : Nodes) (most highest : ℕ) (c : List ℕ) (w : World) (c' left text : List ℕ) (state : KernelState)
    (ranges : List (ℕ × ℕ)) : Type 0 where
  pub after : World
  pub run : Returns p body most highest c w c' after
  pub input : after.input ≡ left
  pub printed : after.printed ≡ w.printed ++ text
  pub state_is : kernel_state after ≡ state
  pub others : OnlyChanges ranges w after

-- ---- the kernel's texts stand at their places
pub record HasTexts (w : World) : Type 0 where
  pub unknown : data_bytes w 2 unknown_text ≡ codes " ?"
  pub stack : data_bytes w 8 stack_text ≡ codes " stack ?"
  pub long : data_bytes w 15 long_text ≡ codes "line too long ?"
  pub full : data_bytes w 7 full_text ≡ codes " full ?"
  pub well : data_bytes w 3 well_text ≡ codes " ok"
