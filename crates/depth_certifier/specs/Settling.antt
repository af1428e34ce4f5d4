-- What the code of the rounds answers.
use Rattle.std.specs.Prelude.{◌≡◌, ℕ, List, take, Result, Ok, Err, ℤ, slice_index_or}
use Rattle.forth_program.specs.Program.{SourceProgram}
use Rattle.depth_certifier.specs.declared.effect.Effect.{Effect}
use Rattle.depth_certifier.specs.declared.effect.CertCause.{CertCause}
use Rattle.depth_certifier.specs.declared.refused.Refused.{Refused}
use Rattle.depth_certifier.specs.declared.refused.CertError.{CertError}
use Rattle.depth_certifier.specs.declared.refused.CertError.TheVariants.{NotCertified, OutOfMemory}
use Rattle.depth_certifier.specs.Effects.{Known, idle}
use Rattle.depth_certifier.specs.Certificate.{Limits, Keeps, Cert}
use Rattle.depth_certifier.specs.Walk.{Walk, Walked, made}
use Rattle.depth_certifier.specs.Rounds.{bottom, Refusal, Bodies, RoundsRefuse, Ending}

-- of any definition
abbrev pub widest : Limits
widest = record { need = 33; peak = 33; back = 31; top = 33 }

abbrev pub AllKeep : List Effect → Type 0
AllKeep effects = (d : ℕ) → Keeps widest (slice_index_or effects d idle)

-- the effects of definitions alone
abbrev pub effects_alone : List Effect → Known
effects_alone effects = record { definitions = effects; shared = bottom }

abbrev pub refusal_of : Refused → Refusal
refusal_of refused = record { definition = refused.definition.0; reason = refused.cause }

-- what the walk over a body gives: its effect, and the number of loops so far
abbrev pub MadeOf : Result (Effect × ℕ) CertCause → List (ℤ × ℤ) → Walked → Type 0
MadeOf (Ok (effect, count)) notes r = (w : Walk) × (r ≡ Ok w) × (effect ≡ made w) × (w.heads ≡ take count notes)
MadeOf (Err cause) notes r = r ≡ Err cause

-- what a round over the bodies gives
abbrev pub BodiesOf : Result (Unit {0}) Refused → List Effect → List (ℤ × ℤ) → Result Bodies Refusal → Type 0
BodiesOf (Ok done) effects heads r = r ≡ Ok (record { effects = effects; heads = heads })
BodiesOf (Err refused) effects heads r = r ≡ Err (refusal_of refused)

-- what a round gives, with the shared effect that it joins
abbrev pub RoundOf : Result Effect Refused → List Effect → List (ℤ × ℤ) → Result Cert Refusal → Type 0
RoundOf (Ok shared) effects heads r = r ≡ Ok (record { effects = effects; shared = shared; heads = heads })
RoundOf (Err refused) effects heads r = r ≡ Err (refusal_of refused)

-- what all rounds give
abbrev pub Settles : SourceProgram → Result Effect Refused → List Effect → List (ℤ × ℤ) → Type 0
Settles p (Ok shared) effects heads = Ending p (record { effects = effects; shared = shared; heads = heads })
Settles p (Err refused) effects heads = RoundsRefuse p (refusal_of refused)

-- an error that is a refusal, of which this is said; nothing is said of want of memory
abbrev pub IsRefusal : CertError → (Refusal → Type 0) → Type 0
IsRefusal (NotCertified id cause) says = says (record { definition = id.0; reason = cause })
IsRefusal OutOfMemory says = Unit {0}
