-- The step bound of a program, or why it has none.
use Rattle.std.specs.Prelude.{◌≡◌, ℕ, ◌+◌, ◌<◌, nat_lt, if◌then◌else◌, Option, Some, None, Result, Ok, Err, ⊤, length, slice_index_or}
use Rattle.forth_program.specs.Program.{SourceProgram}
use Rattle.step_certifier.specs.declared.bound.BoundCause.{BoundCause}
use Rattle.step_certifier.specs.declared.bound.BoundCause.TheVariants.{TooLarge}
use Rattle.step_certifier.specs.declared.bound.BoundError.{BoundError}
use Rattle.step_certifier.specs.declared.bound.BoundError.TheVariants as error
use Rattle.step_certifier.specs.declared.bound.StepBound.{StepBound}
use Rattle.step_certifier.specs.Capped.{most_steps}
use Rattle.step_certifier.specs.Cost.{costs}
use Rattle.step_certifier.specs.Refusal.{reaches, first_refusal}

-- the start, the items of MAIN and its end
abbrev pub bound : SourceProgram → ℕ
bound p = 8 + (slice_index_or (costs p.bodies) p.main_body 0 + 1)

-- the first refused item of the definitions that MAIN reaches, with its definition
abbrev pub refused_item : SourceProgram → Option (ℕ × BoundCause)
refused_item p = first_refusal (reaches p.main_body 0 p.bodies) 0 p.bodies

-- a bound, or a definition and a cause
pub data Answer : Type 0 where
  Bounded : (steps : ℕ) → Answer
  Refused : (definition : ℕ) (cause : BoundCause) → Answer

abbrev pub answer_of : SourceProgram → Option (ℕ × BoundCause) → Answer
answer_of p (Some found) = Refused found.0 found.1
answer_of p None = if nat_lt most_steps (bound p) then Refused p.main_body TooLarge else Bounded (bound p)

abbrev pub step_bound : SourceProgram → Answer
step_bound p = answer_of p (refused_item p)

-- so the code answers; want of memory has no other cause
abbrev pub Answers : SourceProgram → Result StepBound BoundError → Type 0
Answers p (Ok bound) = step_bound p ≡ Bounded bound.steps
Answers p (Err (error.Refused definition cause)) = step_bound p ≡ Refused definition.0 cause
Answers p (Err error.OutOfMemory) = ⊤

-- a refusal has the number of a definition
abbrev pub NamesDefinition : SourceProgram → BoundError → Type 0
NamesDefinition p (error.Refused definition cause) = definition.0 < length p.bodies
NamesDefinition p error.OutOfMemory = ⊤
