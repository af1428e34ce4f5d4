-- What a trace leaves: of the console, and in out.
use Rattle.std.specs.Prelude.{ℕ, suc, ◌≡◌, ◌⊎◌, ◌+◌, ◌<◌, ◌≤◌, IsTrue, Bool, true, false, List, [], ◌++◌, length, take}
use Rattle.std.specs.Prelude.{Option, option_map, Result, Ok, Err}
use Rattle.std.specs.Io.KnownBytes.{Appends, Consumes, IsAtEnd}
use Rattle.j1_table.specs.Image.{Content}
use Rattle.j1_simulator.specs.declared.ends.Finish.{Finish}
use Rattle.j1_simulator.specs.Step.{By, step}
use Rattle.j1_simulator.specs.RoundMachine.{round_storage}
use Rattle.j1_simulator.specs.Run.{round_run}
use Rattle.j1_simulator.specs.Drive.{end_told, TakesNext}
use Rattle.instruction_trace.specs.declared.traces.TraceError.{TraceError}
use Rattle.instruction_trace.specs.declared.traces.TraceError.TheVariants.{Read, Write, OutOfMemory}
use Rattle.instruction_trace.specs.Trace.{line_at, outcome_text, traced}

-- the whole trace of a run of so many instructions: the end of that run, the input left, and its trace behind what out held
pub record TracedAll (image : Content) (input : List ℕ) (steps : ℕ) (finish : Finish) (left : List ℕ)
    (before now : Option (List ℕ)) : Type 0 where
  pub end : option_map By (end_told finish) ≡ (round_run image input steps).stop
  pub left_is : (round_run image input steps).input ≡ left
  pub written : Appends before now (traced image input steps)

-- memory was wanting for the line of the next instruction, after so many: the trace of these
pub record TracedSome (image : Content) (input : List ℕ) (steps made : ℕ) (left : List ℕ) (before now : Option (List ℕ)) : Type 0 where
  pub within : made ≤ steps
  pub left_is : (round_run image input made).input ≡ left
  pub written : Appends before now (traced image input made)

-- the console could not be read after so many: their trace and the line of the next one, which takes a byte
pub record TracedToRead (image : Content) (input : List ℕ) (steps made : ℕ) (left : List ℕ) (before now : Option (List ℕ)) : Type 0 where
  pub within : made < steps
  pub left_is : (round_run image input made).input ≡ left
  pub due : TakesNext image.data_start (round_run image input made)
  pub written : Appends before now (traced image input made ++ line_at (suc made) image.data_start (round_run image input made).core)

-- the line of the next instruction could not be written after so many: their trace, and a beginning of the line
pub record LineNotWritten (image : Content) (input : List ℕ) (steps made : ℕ) (left : List ℕ) (before now : Option (List ℕ)) : Type 0 where
  pub within : made < steps
  pub left_is : (round_run image input made).input ≡ left
  pub bytes : ℕ
  pub written : Appends before now (traced image input made
      ++ take bytes (line_at (suc made) image.data_start (round_run image input made).core))

-- the next instruction was made too, and the line of its byte could not be written: a beginning of it
pub record ByteNotWritten (image : Content) (input : List ℕ) (steps made : ℕ) (left : List ℕ) (before now : Option (List ℕ)) : Type 0 where
  pub within : made < steps
  pub left_is : (round_run image input (suc made)).input ≡ left
  pub bytes : ℕ
  pub written : Appends before now (traced image input made ++ (line_at (suc made) image.data_start (round_run image input made).core
      ++ take bytes (outcome_text (step round_storage image.data_start (round_run image input made).core)
      (round_run image input made).input)))

-- by the answer
abbrev pub TraceLeaves : Content → List ℕ → ℕ → ℕ → Result Finish TraceError → List ℕ → Option (List ℕ) → Option (List ℕ) → Type 0
TraceLeaves image input steps made (Ok finish) left before now = TracedAll image input steps finish left before now
TraceLeaves image input steps made (Err OutOfMemory) left before now = TracedSome image input steps made left before now
TraceLeaves image input steps made (Err Read) left before now = TracedToRead image input steps made left before now
TraceLeaves image input steps made (Err Write) left before now =
    LineNotWritten image input steps made left before now ⊎ ByteNotWritten image input steps made left before now

-- a question to the console that no byte answered: it failed, or none was left
abbrev pub in_vain : Bool → Result Finish TraceError → ℕ
in_vain true result = 1
in_vain false (Err Read) = 1
in_vain false (Err Write) = 0
in_vain false (Err OutOfMemory) = 0
in_vain false (Ok finish) = 0

-- a trace took these bytes off the console. It is that of a run on them, whatever bytes follow them; none follows where the console
-- was asked for one more and had none left, so that the run ended. The console was asked at most once for each byte, and once in vain
pub record IsTraceOf (image : Content) (steps : ℕ) (result : Result Finish TraceError)
    (console_before console_after out_before out_after : Option (List ℕ)) (calls_before calls_after : ℕ) : Type 0 where
  pub taken : List ℕ
  pub took : Consumes console_before console_after taken
  pub made : ℕ
  pub none_left : Bool
  pub leaves : (rest : List ℕ) → (IsTrue none_left → rest ≡ []) →
      TraceLeaves image (taken ++ rest) steps made result rest out_before out_after
  pub at_end : IsTrue none_left → IsAtEnd console_after
  pub calls : calls_after ≤ calls_before + length taken + in_vain none_left result
