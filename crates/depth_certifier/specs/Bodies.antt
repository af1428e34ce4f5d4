-- What a check asks of a body.
use Rattle.std.specs.Prelude.{◌≡◌, ℕ, Bool, false, ◌&&◌, Option, Some, None, Result, Ok, Err, ℤ, List, replicate}
use Rattle.depth_certifier.specs.declared.effect.Effect.{Effect}
use Rattle.depth_certifier.specs.declared.effect.CertCause.{CertCause}
use Rattle.depth_certifier.specs.declared.walker.Walker.{Walker}
use Rattle.depth_certifier.specs.Place.{Unreachable, At, entry}
use Rattle.depth_certifier.specs.Certificate.{no_interval}
use Rattle.depth_certifier.specs.Walk.{Walk, Walked, made}
use Rattle.depth_certifier.specs.Checking.{effect_in, walked_and}
use Rattle.depth_certifier.specs.Notes.{walk_in}

-- the walk before a body, after so many loops
abbrev pub walk_start : ℕ → Walk
walk_start count = record { place = At entry; leaves = Unreachable; need = 0; peak = 0; back = 0; exit = None; heads = replicate count no_interval }

-- what a whole body gives
abbrev pub BodyOf : Bool → List (ℤ × ℤ) → Result Walker CertCause → Walked → Type 0
BodyOf finding notes (Ok w) r = r ≡ Ok (walk_in finding notes w)
BodyOf finding notes (Err cause) r = r ≡ Err cause

-- one body of a check: its effect keeps the limits, and the walk gives what lies inside it; then the others, after the loops so far
abbrev pub body_and : Bool → Walked → Effect → (List (ℤ × ℤ) → Bool) → Bool
body_and keeps r e others = keeps && walked_and r (λ w. effect_in (made w) e && others w.heads)

-- a body holds, with so many loops so far, or it does not
abbrev pub BodyHolds : Option ℕ → Bool → Walked → Effect → Type 0
BodyHolds None keeps r e = (others : List (ℤ × ℤ) → Bool) → body_and keeps r e others ≡ false
BodyHolds (Some count) keeps r e = (others : List (ℤ × ℤ) → Bool) → body_and keeps r e others ≡ others (replicate count no_interval)
