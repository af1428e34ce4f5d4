-- Numbers up to the most steps of a bound: what is more counts as the most.
use Rattle.std.specs.Prelude.{ℕ, min}

abbrev pub most_steps : ℕ
most_steps = 1000000000000000000

abbrev pub capped : ℕ → ℕ
capped n = min n most_steps
