-- When the text of a kernel and the code that it calls follow a session: what is asked of the word steps of the text, up to each GO and
-- behind those that come back, and of the called code.
use Rattle.std.specs.Prelude.{◌≡◌, ◌⊎◌, ℕ, ◌+◌, ◌≤◌, IsTrue, List, ◌++◌, take, drop, Some}
use Rattle.j1_simulator.specs.Step.{Stop}
use Rattle.j1_simulator.specs.RoundMachine.{round_storage}
use Rattle.j1_simulator.specs.Run.{run, begun, round_start, IsPrefixOf}
use Rattle.forth_program.specs.Tree.{Nodes}
use Rattle.forth_program.specs.State.{End, Outcome}
use Rattle.forth_program.specs.Program.{SourceProgram}
use Rattle.forth_program.specs.Run.{world_of, end_of}
use Rattle.forth_program.specs.Returns.{run_back, price_back}
use Rattle.word_laws.specs.Standing.{machine_end}
use Rattle.code_layout.specs.Layout.{laid_out}
use Rattle.code_layout.specs.Agreement.{code_of}
use Rattle.code_layout.specs.Returning.{last_of_go}
use Rattle.code_layout.specs.ReturningChip.{RoundConfiguration, RoundReturn, round_back, round_backs, AgreesReturningOnChip}
use Rattle.session_machine.specs.Lines.{bytes_of_lines}
use Rattle.session_machine.specs.Session.{session_run, printed_by}
use Rattle.session_runs.specs.Answers.{is_unfinished, IsSharedEnd, allowed, enough_steps}
use Rattle.session_runs.specs.Splicing.{CalledCode, CallsComeBack, IsLedOutTo, IsInside, total_count, returns_of}

-- a kernel, a session, and the calls of its words that come back
pub record KernelSession : Type 0 where
  pub library : List Nodes
  pub p : SourceProgram
  pub lines : List (List ℕ)
  pub more : List ℕ
  pub calls : List (CalledCode RoundReturn)

abbrev pub input_of : KernelSession → List ℕ
input_of w = bytes_of_lines w.lines ++ w.more

-- the chip at its start
abbrev pub chip_start : KernelSession → RoundConfiguration
chip_start w = begun (round_start (laid_out w.library w.p)) (input_of w)

-- the text after some word steps, where the first calls have come back and the next one leaves; and the price
abbrev pub text_run : KernelSession → ℕ → ℕ → Outcome
text_run w made words = run_back w.p (round_backs (returns_of (take made w.calls))) (input_of w) words

abbrev pub text_price : KernelSession → ℕ → ℕ → ℕ
text_price w made words = price_back w.p (round_backs (returns_of (take made w.calls))) (input_of w) words

-- behind the first calls the next GO has led the chip out, to this place, within n instructions
abbrev pub LedOut : KernelSession → ℕ → ℕ → RoundConfiguration → Type 0
LedOut w made n u = IsLedOutTo round_storage (round_back (code_of w.library w.p)) (last_of_go w.library w.p) w.p.data_start
    (returns_of (take made w.calls)) n (chip_start w) u

-- the called code after m instructions
abbrev pub code_run : KernelSession → ℕ → RoundConfiguration → RoundConfiguration
code_run w m u = run round_storage w.p.data_start m u

-- forward: what the session prints in k steps the text prints, in word steps whose price, with the instructions of the calls, is allowed
pub record TextFollows (w : KernelSession) (k : ℕ) : Type 0 where
  pub made : ℕ
  pub words : ℕ
  pub prints : IsPrefixOf (printed_by (session_run w.lines k)) (world_of (text_run w made words)).printed
  pub cost : text_price w made words + total_count (take made w.calls) ≤ allowed (session_run w.lines k) + 200000000
  pub ends : (end : End) → (session_run w.lines k).end ≡ Some end → IsSharedEnd w.more end →
      (stop : Stop) × (machine_end end ≡ Some stop) × (end_of (text_run w made words) ≡ Some end)

-- or the called code does, behind a GO that has led out
pub record CodeFollows (w : KernelSession) (k : ℕ) : Type 0 where
  pub made : ℕ
  pub before : ℕ
  pub inside : ℕ
  pub led_to : RoundConfiguration
  pub leads : LedOut w made before led_to
  pub prints : IsPrefixOf (printed_by (session_run w.lines k)) (code_run w inside led_to).printed
  pub cost : before + total_count (take made w.calls) + inside ≤ allowed (session_run w.lines k) + 200000000
  pub ends : (end : End) → (session_run w.lines k).end ≡ Some end → IsSharedEnd w.more end →
      (stop : Stop) × (machine_end end ≡ Some stop) × ((code_run w inside led_to).stop ≡ Some stop)

-- backward: the text, until it calls again, prints no more than the session in as many steps as are enough for the instructions of the
-- calls that have come back, and for any greater number
pub record TextStays (w : KernelSession) (made words n : ℕ) : Type 0 where
  pub prints : IsPrefixOf (world_of (text_run w made words)).printed (printed_by (session_run w.lines (enough_steps w.lines n)))
  pub ends : (end : End) (stop : Stop) → end_of (text_run w made words) ≡ Some end → machine_end end ≡ Some stop →
      (session_run w.lines (enough_steps w.lines n)).end ≡ Some end

-- and the called code no more than in as many as are enough for its own instructions beside
pub record CodeStays (w : KernelSession) (m n : ℕ) (u : RoundConfiguration) : Type 0 where
  pub prints : IsPrefixOf (code_run w m u).printed (printed_by (session_run w.lines (enough_steps w.lines n)))
  pub ends : (stop : Stop) → (code_run w m u).stop ≡ Some stop →
      (end : End) × ((session_run w.lines (enough_steps w.lines n)).end ≡ Some end) × (machine_end end ≡ Some stop)

pub record FollowsInWords (w : KernelSession) : Type 0 where
  -- the calls come back, each in its instructions
  pub comes_back : (n : ℕ) → CallsComeBack round_storage (round_back (code_of w.library w.p))
      (last_of_go w.library w.p) w.p.data_start w.calls n (chip_start w)
  pub forward : (k : ℕ) → TextFollows w k ⊎ CodeFollows w k
  -- with an unfinished line behind the lines
  pub text_stays : (made words n : ℕ) → IsTrue (is_unfinished w.more) → 1 ≤ n → total_count (take made w.calls) ≤ n →
      TextStays w made words n
  pub code_stays : (made before m n : ℕ) (u : RoundConfiguration) → IsTrue (is_unfinished w.more) → 1 ≤ n → LedOut w made before u →
      IsInside (drop made w.calls) m →
      total_count (take made w.calls) + m ≤ n → CodeStays w m n u

-- the image agrees with the text, whichever of the first calls come back
abbrev pub AgreesAtAll : KernelSession → Type 0
AgreesAtAll w = (made : ℕ) → AgreesReturningOnChip w.library w.p (returns_of (take made w.calls)) (input_of w)
