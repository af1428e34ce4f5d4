-- The state that the kernel begins with.
use Rattle.std.specs.Prelude.{◌≡◌, ℕ, List, []}
use Rattle.forth_program.specs.State.{World}
use Rattle.forth_program.specs.Run.{first_world, first_state}
use Rattle.kernel_words.specs.Memory.{IsDataSpace}
use Rattle.kernel_words.specs.Running.{Comes}
use Rattle.kernel_lines.specs.Main.{line_begins}
use Rattle.kernel_lines.specs.State.{KernelState, kernel_state, HasTexts}
use Rattle.target_forth.specs.Kernel.{kernel_program}

-- BASE is ten; no line was read, no word has failed, no definition is open, and there are no user cells; HERE and the newest header are
-- those that the text has come to, and they are kept
abbrev pub first_kernel_state : KernelState
first_kernel_state = record {
  base = 10;
  here = 10578;
  size = 0;
  reached = 0;
  latest = 10570;
  start = 0;
  error = 0;
  compiling = 0;
  new = 0;
  kept_here = 10578;
  kept_latest = 10570;
  first_here = 10578;
  users = 0;
  opened = 0;
  leaves = 0;
  loops = 0;
  level = 0;
}

-- the kernel begins in a data space of that state, with its texts at their places
pub record BeginsSo (input : List ℕ) : Type 0 where
  pub space : IsDataSpace (first_world kernel_program input)
  pub texts : HasTexts (first_world kernel_program input)
  pub state : kernel_state (first_world kernel_program input) ≡ first_kernel_state

abbrev pub KernelBegins : Type 0
KernelBegins = (input : List ℕ) → BeginsSo input

-- and it comes to its first line in that state, with nothing taken and nothing printed
pub record FirstLine (input : List ℕ) : Type 0 where
  pub at : World
  pub way : Comes kernel_program 31 56 (first_state kernel_program input) (line_begins at)
  pub space : IsDataSpace at
  pub texts : HasTexts at
  pub state : kernel_state at ≡ first_kernel_state
  pub left : at.input ≡ input
  pub printed : at.printed ≡ []

abbrev pub FirstLinesBegin : Type 0
FirstLinesBegin = (input : List ℕ) → FirstLine input
