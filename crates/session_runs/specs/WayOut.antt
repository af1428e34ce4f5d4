-- Where the text comes to GO behind calls that have come back, GO leads the chip out too.
use Rattle.std.specs.Prelude.{◌≡◌, ℕ, ◌+◌, ◌≤◌, [], ◌∷◌, ◌++◌, length}
use Rattle.forth_program.specs.State.{State, Left, Goes, Ends}
use Rattle.forth_program.specs.Step.{step}
use Rattle.forth_program.specs.Run.{steps}
use Rattle.forth_program.specs.Price.{step_price, spent}
use Rattle.code_layout.specs.ReturningChip.{RoundConfiguration, RoundReturn, AgreesReturningOnChip}
use Rattle.session_runs.specs.Splicing.{returns_of}
use Rattle.session_runs.specs.InWords.{KernelSession, input_of, LedOut}
use Rattle.session_runs.specs.Along.{StandsAlong}

-- GO leads the chip out behind all calls, to some place, within the price of the word steps
pub record IsLedOutSomewhere (w : KernelSession) (price : ℕ) : Type 0 where
  pub earlier : ℕ
  pub led_to : RoundConfiguration
  pub leads : LedOut w (length w.calls) earlier led_to
  pub within_price : earlier ≤ price

-- where the text comes to GO, and the image agrees with it also where one return more comes back, which prints a byte
abbrev pub TextsAreLedOut : Type 0
TextsAreLedOut =
    (w : KernelSession) (k words address byte : ℕ) (t going : State) (extra : RoundReturn) (a : StandsAlong w k t) →
    steps w.p words t ≡ Goes going → step w.p going ≡ Ends (Left address) going.world →
    extra.back.printed ≡ byte ∷ [] → AgreesReturningOnChip w.library w.p (returns_of w.calls) (input_of w) →
    AgreesReturningOnChip w.library w.p (returns_of w.calls ++ extra ∷ []) (input_of w) →
    IsLedOutSomewhere w (a.price + (spent w.p 0 words t + step_price going))
