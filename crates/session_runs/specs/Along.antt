-- How a text comes to follow a session, step by step: it stands at a state where the session is between two words, with all calls so far
-- come back.
use Rattle.std.specs.Prelude.{◌≡◌, ◌⊎◌, ℕ, suc, ◌+◌, ◌<◌, ◌≤◌, IsTrue, List, [], ◌∷◌, ◌++◌, length, take, drop, Some, None}
use Rattle.j1_simulator.specs.RoundMachine.{round_storage}
use Rattle.j1_simulator.specs.Step.{Stop}
use Rattle.word_laws.specs.Standing.{machine_end}
use Rattle.j1_simulator.specs.Run.{IsPrefixOf}
use Rattle.forth_program.specs.State.{World, State, End, InputEnded, Left, Goes, Ends}
use Rattle.forth_program.specs.Step.{step}
use Rattle.forth_program.specs.Run.{steps, first_state}
use Rattle.forth_program.specs.Price.{step_price, spent}
use Rattle.forth_program.specs.Returns.{Return, state_back, steps_back, spent_back}
use Rattle.code_layout.specs.Agreement.{code_of}
use Rattle.code_layout.specs.Returning.{last_of_go}
use Rattle.code_layout.specs.ReturningChip.{RoundConfiguration, RoundReturn, round_back, round_backs}
use Rattle.session_machine.specs.Session.{EndsInput, action_of, session_run, printed_by}
use Rattle.session_runs.specs.Answers.{is_unfinished, allowed, enough_steps}
use Rattle.session_runs.specs.Following.{kept_for}
use Rattle.session_runs.specs.Splicing.{CalledCode, CallsComeBack, total_count, returns_of}
use Rattle.session_runs.specs.InWords.{KernelSession, input_of, chip_start, LedOut, code_run, TextFollows, CodeFollows, TextStays}
use Rattle.session_runs.specs.InWords.{CodeStays, FollowsInWords, AgreesAtAll}
use Rattle.session_runs.specs.Splicing.{IsInside}

-- a step that is followed by the text behind some of these calls, or by the code to which it has led out
abbrev pub IsFollowedStep : KernelSession → ℕ → Type 0
IsFollowedStep w i = ((x : TextFollows w i) × (x.made ≤ length w.calls)) ⊎ ((x : CodeFollows w i) × (x.made ≤ length w.calls))

-- after k steps of the session the text stands at t, behind all calls
pub record StandsAlong (w : KernelSession) (k : ℕ) (t : State) : Type 0 where
  pub words : ℕ
  pub price : ℕ
  -- these word steps have used up what came back, and whatever else comes back later, the run goes on from t
  pub stands : (more : List Return) (b : ℕ) → steps_back w.p (round_backs (returns_of w.calls) ++ more) (words + b)
      (first_state w.p (input_of w)) ≡ steps_back w.p more b t
  pub costs : (more : List Return) (b : ℕ) → spent_back w.p (round_backs (returns_of w.calls) ++ more) 8 (words + b)
      (first_state w.p (input_of w)) ≡ spent_back w.p more price b t
  pub runs : (session_run w.lines k).end ≡ None
  pub printed : t.world.printed ≡ printed_by (session_run w.lines k)
  pub cost : price + total_count w.calls + kept_for (session_run w.lines k).words ≤ allowed (session_run w.lines k) + 100000000

-- and all before is as it is asked for
pub record GoesAlong (w : KernelSession) (k : ℕ) (t : State) : Type 0 where
  pub here : StandsAlong w k t
  pub comes_back : (n : ℕ) → CallsComeBack round_storage (round_back (code_of w.library w.p))
      (last_of_go w.library w.p) w.p.data_start w.calls n (chip_start w)
  pub forward : (i : ℕ) → i ≤ k → IsFollowedStep w i
  pub text_stays : (made words n : ℕ) → made < length w.calls → IsTrue (is_unfinished w.more) → 1 ≤ n →
      total_count (take made w.calls) ≤ n → TextStays w made words n
  pub code_stays : (made earlier m n : ℕ) (u : RoundConfiguration) → made < length w.calls → IsTrue (is_unfinished w.more) → 1 ≤ n →
      LedOut w made earlier u → IsInside (drop made w.calls) m →
      total_count (take made w.calls) + m ≤ n → CodeStays w m n u

-- it begins so before any call, at the session's start
abbrev pub TextsBegin : Type 0
TextsBegin =
    (w : KernelSession) (words : ℕ) (t : State) → w.calls ≡ [] → steps w.p words (first_state w.p (input_of w)) ≡ Goes t →
    t.world.printed ≡ [] → spent w.p 8 words (first_state w.p (input_of w)) ≤ 100000000 →
    GoesAlong w 0 t

-- a step of the session that some word steps follow, which do not lead out, for a price that is allowed
pub record IsQuietStep (w : KernelSession) (k : ℕ) (t t' : State) : Type 0 where
  pub words : ℕ
  pub goes : steps w.p words t ≡ Goes t'
  pub runs : (session_run w.lines (suc k)).end ≡ None
  pub printed : t'.world.printed ≡ printed_by (session_run w.lines (suc k))
  pub cost : spent w.p 0 words t + kept_for (session_run w.lines (suc k)).words + allowed (session_run w.lines k)
      ≤ kept_for (session_run w.lines k).words + allowed (session_run w.lines (suc k))

abbrev pub QuietStepsGoAlong : Type 0
QuietStepsGoAlong = (w : KernelSession) (k : ℕ) (t t' : State) → GoesAlong w k t → IsQuietStep w k t t' → GoesAlong w (suc k) t'

-- a word that begins: the text comes to GO, with nothing more printed, and leads out to called code
pub record IsCall (w : KernelSession) (k price : ℕ) (t : State) : Type 0 where
  pub words : ℕ
  pub going : State
  pub address : ℕ
  pub goes : steps w.p words t ≡ Goes going
  pub leaves : step w.p going ≡ Ends (Left address) going.world
  pub printed : going.world.printed ≡ printed_by (session_run w.lines k)
  pub earlier : ℕ
  pub led_to : RoundConfiguration
  pub leads : LedOut w (length w.calls) earlier led_to
  pub within_price : earlier ≤ price + (spent w.p 0 words t + step_price going)
  -- the steps so far are enough for as many instructions as the calls so far have
  pub enough : (n : ℕ) → 1 ≤ n → total_count w.calls ≤ n → k ≤ enough_steps w.lines n

-- the price of a call
abbrev pub call_price : (w : KernelSession) (k price : ℕ) (t : State) → IsCall w k price t → ℕ
call_price w k price t c = spent w.p 0 c.words t + step_price c.going

-- a step of the session inside the called code: in m instructions this has printed as much
pub record IsInCode (w : KernelSession) (k i : ℕ) (price_of_call : ℕ) (u : RoundConfiguration) : Type 0 where
  pub inside : ℕ
  pub runs : (session_run w.lines i).end ≡ None
  pub prints : IsPrefixOf (printed_by (session_run w.lines i)) (code_run w inside u).printed
  pub cost : price_of_call + inside + allowed (session_run w.lines k)
      ≤ kept_for (session_run w.lines k).words + allowed (session_run w.lines i)

-- the called code comes back after d word steps of the session
pub record ComesBackAfter (w : KernelSession) (k price : ℕ) (t : State) (c : IsCall w k price t) (call : CalledCode RoundReturn)
    (d : ℕ) : Type 0 where
  pub comes : code_run w call.count c.led_to ≡ round_back (code_of w.library w.p) call.returned c.led_to
  pub follows : (i : ℕ) → i ≤ d → IsInCode w k (suc k + i) (call_price w k price t c) c.led_to
  pub printed : c.going.world.printed ++ call.returned.back.printed ≡ printed_by (session_run w.lines (suc k + d))
  pub cost : call_price w k price t c + call.count + kept_for (session_run w.lines (suc k + d)).words + allowed (session_run w.lines k)
      ≤ kept_for (session_run w.lines k).words + allowed (session_run w.lines (suc k + d))
  pub stays : (m n : ℕ) → IsTrue (is_unfinished w.more) → 1 ≤ n → m ≤ call.count → total_count w.calls + m ≤ n → CodeStays w m n c.led_to

abbrev pub with_call : KernelSession → CalledCode RoundReturn → KernelSession
with_call w call = record w { calls = w.calls ++ call ∷ [] }

abbrev pub CallsGoAlong : Type 0
CallsGoAlong =
    (w : KernelSession) (k d : ℕ) (t : State) (call : CalledCode RoundReturn) (a : GoesAlong w k t) (c : IsCall w k a.here.price t) →
    ComesBackAfter w k a.here.price t c call d →
    GoesAlong (with_call w call) (suc k + d) (state_back call.returned.back c.going)

-- ---- how it comes to its end

-- a step of the session inside the code that is called last, which may end there
pub record IsInLastCode (w : KernelSession) (k i : ℕ) (price_of_call : ℕ) (u : RoundConfiguration) : Type 0 where
  pub inside : ℕ
  pub prints : IsPrefixOf (printed_by (session_run w.lines i)) (code_run w inside u).printed
  pub cost : price_of_call + inside + allowed (session_run w.lines k)
      ≤ kept_for (session_run w.lines k).words + allowed (session_run w.lines i)
  pub ends : (end : End) → (session_run w.lines i).end ≡ Some end →
      (stop : Stop) × (machine_end end ≡ Some stop) × ((code_run w inside u).stop ≡ Some stop)

-- the called code never comes back: it ends, or goes on for ever
pub record NeverComesBack (w : KernelSession) (k price : ℕ) (t : State) (c : IsCall w k price t) : Type 0 where
  pub follows : (i : ℕ) → k < i → IsInLastCode w k i (call_price w k price t c) c.led_to
  pub stays : (m n : ℕ) → IsTrue (is_unfinished w.more) → 1 ≤ n → total_count w.calls + m ≤ n → CodeStays w m n c.led_to

abbrev pub LastCallsFollow : Type 0
LastCallsFollow = (w : KernelSession) (k : ℕ) (t : State) (a : GoesAlong w k t) (c : IsCall w k a.here.price t) →
    NeverComesBack w k a.here.price t c → FollowsInWords w

-- no line is left: where an unfinished line follows, the text ends at the end of the input, with nothing more printed
pub record InputEndsHere (w : KernelSession) (k : ℕ) (t : State) : Type 0 where
  pub action : action_of (session_run w.lines k) ≡ EndsInput
  pub words : ℕ
  pub world : World
  pub ends : IsTrue (is_unfinished w.more) → steps w.p words t ≡ Ends InputEnded world
  pub printed : IsTrue (is_unfinished w.more) → world.printed ≡ printed_by (session_run w.lines k)
  pub cost : spent w.p 0 words t ≤ 100000000
  pub enough : (n : ℕ) → 1 ≤ n → total_count w.calls ≤ n → suc k ≤ enough_steps w.lines n

abbrev pub InputEndsFollow : Type 0
InputEndsFollow = (w : KernelSession) (k : ℕ) (t : State) → AgreesAtAll w → GoesAlong w k t → InputEndsHere w k t → FollowsInWords w
