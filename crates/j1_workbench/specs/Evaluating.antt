-- `eval SRC`: a source is evaluated on the console and out, certified or not.
use Rattle.std.specs.Prelude.{◌≡◌, ◌⊎◌, ℕ, List, Result, Ok, Err, ⊤}
use Rattle.forth_program.specs.Program.{SourceProgram}
use Rattle.control_flow.specs.ParseResult.{Fine}
use Rattle.control_flow.specs.SourceText.{program_of_text}
use Rattle.reference_eval.specs.declared.ends.End.TheVariants as ends
use Rattle.reference_eval.specs.declared.ends.EvalFinish.{EvalFinish}
use Rattle.reference_eval.specs.declared.ends.EvalFinish.TheVariants as finish
use Rattle.reference_eval.specs.declared.ends.EvalError.{EvalError}
use Rattle.reference_eval.specs.declared.ends.EvalError.TheVariants as error
use Rattle.reference_eval.specs.Outside.{input_of}
use Rattle.reference_eval.specs.Evaluation.{Evaluates as EvaluatesRun}
use Rattle.j1_workbench.specs.declared.status.Status.{Status}
use Rattle.j1_workbench.specs.declared.status.Status.TheVariants.{Done, NotCertified, StepsUsed, InputEnded, Outside, Halted, ReadFault, WriteFault, OutOfMemory, Underflow, Unbalanced}
use Rattle.j1_workbench.specs.Statuses.{halted_status}
use Rattle.j1_workbench.specs.Surroundings.{FolderState, Surroundings, IsOnlyRead, IsQuiet}
use Rattle.j1_workbench.specs.Files.{HoldsFile}
use Rattle.j1_workbench.specs.Sources.{IsShort, IsRefusedSource}

-- a text has this program
pub record IsReadText (text : List ℕ) (program : SourceProgram) : Type 0 where
  pub short : IsShort text
  pub program_is : program_of_text text ≡ Fine program

-- the file has a text with this program
abbrev pub IsReadSource : List ℕ → FolderState → SourceProgram → Type 0
IsReadSource source before program = (text : List ℕ) × HoldsFile before.files source text × IsReadText text program

-- a source is read without a certificate: it is not refused for the want of one
abbrev pub IsReading : Status → Type 0
IsReading (NotCertified id cause) = ⊥
IsReading status = ⊤

-- the status of an evaluation
abbrev pub status_after : Result EvalFinish EvalError → Status
status_after (Ok (finish.Ended (ends.Halted status))) = halted_status status
status_after (Ok (finish.Ended ends.InputEnded)) = InputEnded
status_after (Ok (finish.Ended (ends.Outside address))) = Outside address
status_after (Ok finish.StepsUsed) = StepsUsed
status_after (Ok finish.Underflow) = Underflow
status_after (Ok finish.Unbalanced) = Unbalanced
status_after (Err error.Read) = ReadFault
status_after (Err error.Write) = WriteFault
status_after (Err error.OutOfMemory) = OutOfMemory

-- the answers of an evaluation that no fault broke off
abbrev pub IsEvaluationAnswer : Status → Type 0
IsEvaluationAnswer Done = ⊤
IsEvaluationAnswer StepsUsed = ⊤
IsEvaluationAnswer InputEnded = ⊤
IsEvaluationAnswer (Outside address) = ⊤
IsEvaluationAnswer (Halted status) = ⊤
IsEvaluationAnswer Underflow = ⊤
IsEvaluationAnswer Unbalanced = ⊤
IsEvaluationAnswer status = ⊥

-- the program of the source was evaluated: what it printed and took is what its run means, and so is the answer
pub record EvaluatesProgram (source : List ℕ) (steps : ℕ) (before after : Surroundings) (status : Status) : Type 0 where
  pub program : SourceProgram
  pub source_is : IsReadSource source before.folder program
  pub result : Result EvalFinish EvalError
  pub status_is : status ≡ status_after result
  pub evaluates : EvaluatesRun program steps result (input_of before.console.bytes before.console.calls) (input_of after.console.bytes after.console.calls)
      before.console.faults after.console.faults before.out.bytes after.out.bytes before.out.faults after.out.faults

-- `eval`: a refused source leaves console and out alone, and every other is evaluated for at most so many word steps
unfoldable pub Evaluates : List ℕ → ℕ → Surroundings → Surroundings → Status → List ℕ → Type 0
Evaluates source steps before after status name =
    IsOnlyRead 1 before.folder after.folder
    × ((IsRefusedSource source before.folder after.folder status name × IsReading status × IsQuiet before after) ⊎ EvaluatesProgram source steps before after status)
