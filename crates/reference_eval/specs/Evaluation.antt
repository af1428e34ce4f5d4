-- What an evaluation answers and leaves, by the run of its program.
-- `None` in place of bytes means that an object does not tell its bytes.
use Rattle.std.specs.Prelude.{ℕ, ◌≡◌, ◌+◌, ◌≤◌, List, [], ◌++◌, length, Option, Some, None, IfSome, Result, Ok, Err, ⊤}
use Rattle.std.specs.Io.KnownBytes.{Appends, Consumes}
use Rattle.outside_io.specs.Causes.{Rose}
use Rattle.forth_program.specs.State as run
use Rattle.forth_program.specs.Program.{SourceProgram}
use Rattle.forth_program.specs.Run.{source_run, world_of, end_of as end_of_run}
use Rattle.reference_eval.specs.declared.ends.End.TheVariants as end
use Rattle.reference_eval.specs.declared.ends.EvalFinish.{EvalFinish}
use Rattle.reference_eval.specs.declared.ends.EvalFinish.TheVariants as finish
use Rattle.reference_eval.specs.declared.ends.EvalError.{EvalError}
use Rattle.reference_eval.specs.declared.ends.EvalError.TheVariants as error
use Rattle.reference_eval.specs.declared.ends.Halt.TheVariants as halt
use Rattle.reference_eval.specs.declared.ends.Stop.{Stop}
use Rattle.reference_eval.specs.declared.ends.Stop.TheVariants as stop
use Rattle.reference_eval.specs.Ends.{end_of}
use Rattle.reference_eval.specs.Outside.{Input, HoldsFront}

-- the end of a run that an evaluation finishes with; StepsUsed has none
abbrev pub end_told : EvalFinish → Option run.End
end_told (finish.Ended end) = Some (end_of end)
end_told finish.StepsUsed = None
end_told finish.Underflow = Some run.Underflow
end_told finish.Unbalanced = Some run.Unbalanced

-- the run of so many word steps on this input has this end, or none; it left this input, and out gained what it printed
pub record RanAs (p : SourceProgram) (steps : ℕ) (input rest : List ℕ) (end : Option run.End) (before now : Option (List ℕ)) : Type 0 where
  pub end_is : end_of_run (source_run p input steps) ≡ end
  pub left_is : (world_of (source_run p input steps)).input ≡ rest
  pub printed : Appends before now (world_of (source_run p input steps)).printed

-- the same run after at most so many word steps: out gained a beginning of what it printed
pub record RanPart (p : SourceProgram) (steps : ℕ) (input rest : List ℕ) (before now : Option (List ℕ)) : Type 0 where
  pub made : ℕ
  pub within : made ≤ steps
  pub left_is : (world_of (source_run p input made)).input ≡ rest
  pub front : HoldsFront before now (world_of (source_run p input made)).printed

-- what may be left of an input where a run ended so
abbrev pub MayBeLeftBy : Result EvalFinish EvalError → List ℕ → Type 0
MayBeLeftBy (Ok (finish.Ended end.InputEnded)) rest = rest ≡ []
MayBeLeftBy result rest = ⊤

-- by the answer, for an input of which these bytes were taken and these are left.
-- Where the console could not be read, or out could not be written, the run is that on the bytes taken: after a failed read it
-- ends for want of input, and all that it printed is in out
abbrev pub AnswersRun : Result EvalFinish EvalError → SourceProgram → ℕ → List ℕ → List ℕ → Option (List ℕ) → Option (List ℕ) → Type 0
AnswersRun (Ok finish) p steps took rest before now = RanAs p steps (took ++ rest) rest (end_told finish) before now
AnswersRun (Err error.Read) p steps took rest before now = RanAs p steps took [] (Some run.InputEnded) before now
AnswersRun (Err error.Write) p steps took rest before now = RanPart p steps took [] before now
AnswersRun (Err error.OutOfMemory) p steps took rest before now = RanPart p steps (took ++ rest) rest before now

-- a question to the console that no byte answered: it failed, or the input had ended
abbrev pub in_vain : Result EvalFinish EvalError → ℕ
in_vain (Ok (finish.Ended end.InputEnded)) = 1
in_vain (Err error.Read) = 1
in_vain result = 0

-- an evaluation of at most so many word steps: what the console has left and out holds before and after it, and how often a read
-- and a write failed. The console was asked at most once for each byte that it gave, and once in vain
pub record Evaluates (p : SourceProgram) (steps : ℕ) (result : Result EvalFinish EvalError)
    (input_before input_after : Input) (reads_failed_before reads_failed_after : ℕ)
    (held_before held_after : Option (List ℕ)) (writes_failed_before writes_failed_after : ℕ) : Type 0 where
  pub took : List ℕ
  pub consumes : Consumes input_before.bytes input_after.bytes took
  pub calls : input_after.calls ≤ input_before.calls + length took + in_vain result
  pub ended : result ≡ Ok (finish.Ended end.InputEnded) → IfSome input_before.bytes (λ bytes. input_after.bytes ≡ Some [])
  pub answers : (rest : List ℕ) → MayBeLeftBy result rest → AnswersRun result p steps took rest held_before held_after
  pub read_cause : result ≡ Err error.Read → Rose reads_failed_before reads_failed_after
  pub write_cause : result ≡ Err error.Write → Rose writes_failed_before writes_failed_after
  pub reads_failed : reads_failed_before ≤ reads_failed_after
  pub writes_failed : writes_failed_before ≤ writes_failed_after

-- GO has not led the run out
abbrev pub HasStayed : {U : Type 0} → Result U Stop → Type 0
HasStayed (Err (stop.Left address)) = ⊥
HasStayed came = ⊤

-- the answer of a run that came so far
abbrev pub finish_of : {U : Type 0} → Result U Stop → Result EvalFinish EvalError
finish_of (Ok done) = Ok finish.StepsUsed
finish_of (Err (stop.Halt (halt.Ended end))) = Ok (finish.Ended end)
finish_of (Err (stop.Halt halt.Read)) = Err error.Read
finish_of (Err (stop.Halt halt.Write)) = Err error.Write
finish_of (Err stop.Underflow) = Ok finish.Underflow
finish_of (Err stop.Unbalanced) = Ok finish.Unbalanced
-- memory was wanting; or GO has led the run out, which does not come up where no body has GO
finish_of (Err stop) = Err error.OutOfMemory
