-- What calls answer.
use Rattle.std.specs.Prelude.{◌≡◌, ℕ, ◌+◌, ◌<◌, ◌^◌, List, length, Option, Result, Ok, Err}
use Rattle.j1_table.specs.Image.{Content}
use Rattle.console_ports.specs.DataSpace.{IsDataStart}
use Rattle.j1_assembler.specs.declared.refusal.AsmCause.{AsmCause}
use Rattle.j1_assembler.specs.declared.labels.Definition.{Definition}
use Rattle.j1_assembler.specs.Text.{lines_of}
use Rattle.j1_assembler.specs.declared.refusal.AsmError.{AsmError}
use Rattle.j1_assembler.specs.declared.refusal.AsmError.TheVariants as errors
use Rattle.j1_assembler.specs.declared.refusal.LineError.{LineError}
use Rattle.j1_assembler.specs.declared.refusal.LineError.TheVariants as faults
use Rattle.j1_assembler.specs.Assembly.{LineResult, Fine, Faulty, Assembly, Assembled, Refused, text_outcome, lines_outcome, opened}

-- an error of a line is its outcome, want of memory aside
abbrev pub LineFails : {B : Type 0} → LineError → LineResult B → Type 0
LineFails (faults.Fault cause) outcome = outcome ≡ Faulty cause
LineFails faults.OutOfMemory outcome = Unit {0}

-- an answer on a line is its outcome, want of memory aside
abbrev pub LineGives : {A B : Type 0} → (A → B) → Result A LineError → LineResult B → Type 0
LineGives view (Ok x) outcome = outcome ≡ Fine (view x)
LineGives view (Err e) outcome = LineFails e outcome

-- an error on a text is its refusal, want of memory aside
abbrev pub Fails : AsmError → Assembly → Type 0
Fails (errors.Refused line cause) assembly = assembly ≡ Refused line cause
Fails errors.OutOfMemory assembly = Unit {0}

-- an answer on a text is its image or its refusal, want of memory aside
abbrev pub Gives : {A : Type 0} → (A → Content) → Result A AsmError → Assembly → Type 0
Gives view (Ok x) assembly = assembly ≡ Assembled (view x)
Gives view (Err e) assembly = Fails e assembly

-- a cause is the outcome of a line
abbrev pub CauseGives : {A : Type 0} → Result A AsmCause → LineResult A → Type 0
CauseGives (Ok x) outcome = outcome ≡ Fine x
CauseGives (Err cause) outcome = outcome ≡ Faulty cause

-- a text goes on behind its header with these lines, whatever its labels are
pub record Opens (text : List ℕ) (start number : ℕ) (rest : List ℕ) : Type 0 where
  pub same : (find : List ℕ → Option Definition) → text_outcome find 1 (lines_of text) ≡ lines_outcome find number (opened start) (lines_of rest)
  pub room : IsDataStart start
  pub bound : number + length rest < 2 ^ 32
