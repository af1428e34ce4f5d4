-- When a run of the chip follows a session step by step.
use Rattle.std.specs.Prelude.{◌≡◌, ℕ, zero, suc, ◌+◌, ◌*◌, ◌≤◌, IsTrue, List, ◌++◌, length, Option, Some, None}
use Rattle.j1_table.specs.Image.{Content}
use Rattle.j1_simulator.specs.Step.{Stop}
use Rattle.j1_simulator.specs.RoundMachine.{RingCells}
use Rattle.j1_simulator.specs.Run.{Configuration, round_run}
use Rattle.forth_program.specs.State.{End}
use Rattle.word_laws.specs.Standing.{machine_end}
use Rattle.session_machine.specs.Lines.{bytes_of_lines}
use Rattle.session_machine.specs.Session.{Session, Action, EndsInput, action_of, session_run, printed_by}
use Rattle.session_runs.specs.Answers.{is_unfinished, allowed}

-- the chip has no end where the session has none, and else the same
abbrev pub EndsAlike : Option Stop → Option End → Type 0
EndsAlike stop None = stop ≡ None
EndsAlike stop (Some end) = (halt : Stop) × (machine_end end ≡ Some halt) × (stop ≡ Some halt)

-- the chip has printed what a session has, and has ended where it has
pub record ShowsSession (w : Configuration ℕ RingCells) (s : Session) : Type 0 where
  pub printed : w.printed ≡ printed_by s
  pub ends : EndsAlike w.stop s.end

-- the instructions before the k-th step, where each step takes so many of them
abbrev pub instructions_before : ℕ → (ℕ → ℕ) → ℕ → ℕ
instructions_before start count zero = start
instructions_before start count (suc k) = instructions_before start count k + count k

-- a step at which no line is left is followed only where no more than an unfinished line is left
abbrev pub IsFollowed : List ℕ → Action → Type 0
IsFollowed more EndsInput = IsTrue (is_unfinished more)
IsFollowed more action = Unit {0}

-- what is kept for the line in hand: 2,400,000 instructions for each word that is left of it, and for the reply
abbrev pub kept_for : Option (List (List ℕ)) → ℕ
kept_for None = 0
kept_for (Some words) = 2400000 * (length words + 1)

-- for the end of the input 100,000,000 instructions are allowed beside
abbrev pub beside : Action → ℕ
beside EndsInput = 100000000
beside action = 0

-- from a start on, each step of a session is followed by a count of instructions
pub record FollowsSession (image : Content) (lines : List (List ℕ)) (more : List ℕ) : Type 0 where
  pub start : ℕ
  pub count : ℕ → ℕ
  -- at the start, and behind each step that is followed, the chip shows what the session does
  pub begins : ShowsSession (round_run image (bytes_of_lines lines ++ more) start) (session_run lines 0)
  pub follows : (k : ℕ) → (session_run lines k).end ≡ None → IsFollowed more (action_of (session_run lines k)) →
      ShowsSession (round_run image (bytes_of_lines lines ++ more) (instructions_before start count (suc k))) (session_run lines (suc k))
  -- a step costs at most what it adds to what is allowed, and what it takes from what is kept for the line
  pub starts_soon : start ≤ 100000000
  pub costs : (k : ℕ) → (session_run lines k).end ≡ None → IsFollowed more (action_of (session_run lines k)) →
      count k + kept_for (session_run lines (suc k)).words + allowed (session_run lines k)
      ≤ kept_for (session_run lines k).words + allowed (session_run lines (suc k)) + beside (action_of (session_run lines k))
  -- steps without an instruction come at most so many behind one another as there are bytes, and three: a number falls at each of them
  pub waits : ℕ → ℕ
  pub waits_little : (k : ℕ) → waits k ≤ length (bytes_of_lines lines) + 3
  pub falls : (k : ℕ) → (session_run lines k).end ≡ None → count k ≡ 0 → suc (waits (suc k)) ≤ waits k
