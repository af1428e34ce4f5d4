-- Laws of runs and sessions.
use Rattle.std.specs.Prelude.{◌≡◌, ℕ, suc, ◌≤◌, IsTrue, List, None}
use Rattle.forth_program.specs.Tree.{Nodes}
use Rattle.forth_program.specs.Program.{SourceProgram}
use Rattle.code_layout.specs.Agreement.{AreBytes}
use Rattle.code_layout.specs.ReturningChip.{RoundReturn}
use Rattle.session_machine.specs.Admitted.{Admitted}
use Rattle.session_machine.specs.Session.{first_session, session_run}
use Rattle.session_machine.specs.Laws.{word_steps as session_word_steps}
use Rattle.session_runs.specs.Splicing.{CalledCode}
use Rattle.j1_table.specs.Image.{Content}
use Rattle.session_runs.specs.Answers.{is_unfinished, enough_steps, AnswersForward, AnswersBackward, AnswersSessions}
use Rattle.code_layout.specs.Layout.{laid_out}
use Rattle.session_runs.specs.Following.{FollowsSession}
use Rattle.session_runs.specs.InWords.{KernelSession, FollowsInWords, AgreesAtAll}

-- an image whose run follows a session answers it, with the stated numbers
abbrev pub FollowersAnswerForward : Type 0
FollowersAnswerForward = (image : Content) (lines : List (List ℕ)) (more : List ℕ) (k : ℕ) → FollowsSession image lines more →
    AnswersForward image lines more k

abbrev pub FollowersAnswerBackward : Type 0
FollowersAnswerBackward = (image : Content) (lines : List (List ℕ)) (more : List ℕ) (n : ℕ) → FollowsSession image lines more →
    IsTrue (is_unfinished more) → AnswersBackward image lines more n

-- an image that agrees with its text answers a session which the text and the code that it calls follow
abbrev pub TextsAnswerForward : Type 0
TextsAnswerForward = (w : KernelSession) (k : ℕ) → AgreesAtAll w → FollowsInWords w →
    AnswersForward (laid_out w.library w.p) w.lines w.more k

abbrev pub TextsAnswerBackward : Type 0
TextsAnswerBackward = (w : KernelSession) (n : ℕ) → AgreesAtAll w → FollowsInWords w → IsTrue (is_unfinished w.more) →
    AnswersBackward (laid_out w.library w.p) w.lines w.more n

-- some calls with which the text and the called code follow the session of these lines
pub record FollowsLines (library : List Nodes) (p : SourceProgram) (lines : List (List ℕ)) (more : List ℕ) : Type 0 where
  pub calls : List (CalledCode RoundReturn)
  pub agrees : AgreesAtAll (record { library = library; p = p; lines = lines; more = more; calls = calls })
  pub follows : FollowsInWords (record { library = library; p = p; lines = lines; more = more; calls = calls })

-- where there are such for all admitted lines, the image answers sessions
abbrev pub KernelsAnswerSessions : Type 0
KernelsAnswerSessions =
    (library : List Nodes) (p : SourceProgram) →
    ((lines : List (List ℕ)) (more : List ℕ) → Admitted lines → AreBytes more → FollowsLines library p lines more) →
    AnswersSessions (laid_out library p)

-- where the word steps of a session are no more than n, its steps are enough for n instructions, and one more is: the others are at most
-- two for each byte
abbrev pub FewStepsAreEnough : Type 0
FewStepsAreEnough = (lines : List (List ℕ)) (k n : ℕ) → (session_run lines k).end ≡ None → session_word_steps k (first_session lines) ≤ n →
    1 ≤ n → suc k ≤ enough_steps lines n
