-- What it is that an image answers sessions: on the chip it prints what the session machine prints, both ways and within stated steps, and
-- ends alike.
use Rattle.std.specs.Prelude.{◌≡◌, ℕ, ◌+◌, ◌*◌, nat_le, Bool, ◌&&◌, IsTrue, List, ◌++◌, length, Some}
use Rattle.std.specs.List.{list_all}
use Rattle.j1_table.specs.Image.{Content}
use Rattle.j1_simulator.specs.Step.{Stop}
use Rattle.j1_simulator.specs.RoundMachine.{RingCells}
use Rattle.j1_simulator.specs.Run.{Configuration, round_run, IsPrefixOf}
use Rattle.forth_program.specs.State.{End, InputEnded}
use Rattle.word_laws.specs.Standing.{machine_end}
use Rattle.code_layout.specs.Agreement.{AreBytes}
use Rattle.session_machine.specs.Lines.{bytes_of_lines}
use Rattle.session_machine.specs.Session.{Session, session_run, printed_by}
use Rattle.session_machine.specs.Admitted.{Admitted, is_typed}

-- a last line that is not finished: at most 80 bytes
abbrev pub is_unfinished : List ℕ → Bool
is_unfinished bytes = nat_le (length bytes) 80 && list_all is_typed bytes

-- the end of the input is one on the chip too where no more than an unfinished line follows the lines, and each other end always
abbrev pub IsSharedEnd : List ℕ → End → Type 0
IsSharedEnd more InputEnded = IsTrue (is_unfinished more)
IsSharedEnd more end = Unit {0}

-- the chip after n instructions of an image, with the bytes of lines as its input, and more behind them
abbrev pub chip_run : Content → List (List ℕ) → List ℕ → ℕ → Configuration ℕ RingCells
chip_run image lines more n = round_run image (bytes_of_lines lines ++ more) n

-- 200,000,000 instructions for each line that was taken, and 8 times the price of the word steps
abbrev pub allowed : Session → ℕ
allowed s = 200000000 * s.taken + 8 * s.price

-- what a session prints in k steps is a beginning of what the chip prints in so many instructions and 200,000,000 more, whatever input
-- follows the lines; and a shared end of the session is the chip's end
pub record AnswersForward (image : Content) (lines : List (List ℕ)) (more : List ℕ) (k : ℕ) : Type 0 where
  pub prints : IsPrefixOf (printed_by (session_run lines k)) (chip_run image lines more (allowed (session_run lines k) + 200000000)).printed
  pub ends : (end : End) → (session_run lines k).end ≡ Some end → IsSharedEnd more end →
      (stop : Stop) × (machine_end end ≡ Some stop)
      × ((chip_run image lines more (allowed (session_run lines k) + 200000000)).stop ≡ Some stop)

-- so many steps of a session do at least what n instructions do
abbrev pub enough_steps : List (List ℕ) → ℕ → ℕ
enough_steps lines n = (n + 1) * (length (bytes_of_lines lines) + 4)

-- what the chip prints in n instructions is a beginning of what the session prints in those steps, and where it has ended the session has
-- ended alike
pub record AnswersBackward (image : Content) (lines : List (List ℕ)) (more : List ℕ) (n : ℕ) : Type 0 where
  pub prints : IsPrefixOf (chip_run image lines more n).printed (printed_by (session_run lines (enough_steps lines n)))
  pub ends : (stop : Stop) → (chip_run image lines more n).stop ≡ Some stop →
      (end : End) × ((session_run lines (enough_steps lines n)).end ≡ Some end) × (machine_end end ≡ Some stop)

-- so it is for all admitted lines: forward with any input behind them, and backward with an unfinished line, which may be empty
pub record AnswersSessions (image : Content) : Type 0 where
  pub forward : (lines : List (List ℕ)) (more : List ℕ) (k : ℕ) → Admitted lines → AreBytes more → AnswersForward image lines more k
  pub backward : (lines : List (List ℕ)) (more : List ℕ) (n : ℕ) → Admitted lines → IsTrue (is_unfinished more) →
      AnswersBackward image lines more n
