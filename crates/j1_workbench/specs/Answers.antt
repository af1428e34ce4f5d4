-- What a call of the workbench does, command by command.
use Rattle.std.specs.Prelude.{◌≡◌, ◌≤◌, ◌⊎◌, ℕ, List, Option, Some, None}
use Rattle.std.specs.Io.KnownBytes.{Appends}
use Rattle.outside_io.specs.Bytes.{AppendsFront}
use Rattle.outside_io.specs.Causes.{Rose}
use Rattle.j1_workbench.specs.declared.status.Status.{Status}
use Rattle.j1_workbench.specs.declared.status.Status.TheVariants.{Done, BadWords, WriteFault}
use Rattle.j1_workbench.specs.Words.{Request, Run, Build, Execute, ListImage, Assemble, Certify, Bound, Net, Evaluate, Forth, Make, WriteMemory, WriteKernel, Trace, request_of, steps_allowed}
use Rattle.j1_workbench.specs.Notes.{note_of}
use Rattle.j1_workbench.specs.Surroundings.{Stream, Surroundings}
use Rattle.j1_workbench.specs.Running.{Runs}
use Rattle.j1_workbench.specs.Building.{Builds}
use Rattle.j1_workbench.specs.Executing.{Executes}
use Rattle.j1_workbench.specs.ListingImage.{Lists}
use Rattle.j1_workbench.specs.Assembling.{AssemblesFile}
use Rattle.j1_workbench.specs.Certifying.{Certifies}
use Rattle.j1_workbench.specs.Bounding.{Bounds}
use Rattle.j1_workbench.specs.Networking.{Nets}
use Rattle.j1_workbench.specs.Evaluating.{Evaluates}
use Rattle.j1_workbench.specs.Serving.{session_steps, Serves}
use Rattle.j1_workbench.specs.Making.{Makes}
use Rattle.j1_workbench.specs.WritingMemory.{WritesMemory}
use Rattle.j1_workbench.specs.WritingKernel.{WritesKernel}
use Rattle.j1_workbench.specs.Tracing.{trace_steps, Traces}

-- what each command does and answers, its note aside, which may name a definition or a file. Words without the form of a command leave
-- everything as it was
unfoldable pub Does : Option Request → Surroundings → Surroundings → Status → List ℕ → Type 0
Does None before after status name = (status ≡ BadWords) × (after ≡ before)
Does (Some (Run source steps)) before after status name = Runs source (steps_allowed steps) before after status name
Does (Some (Build source image)) before after status name = Builds source image before after status name
Does (Some (Execute image steps)) before after status name = Executes image (steps_allowed steps) before after status
Does (Some (ListImage image)) before after status name = Lists image before after status
Does (Some (Assemble listing image)) before after status name = AssemblesFile listing image before after status
Does (Some (Certify source)) before after status name = Certifies source before after status name
Does (Some (Bound source)) before after status name = Bounds source before after status name
Does (Some (Net file)) before after status name = Nets file before after status name
Does (Some (Evaluate source steps)) before after status name = Evaluates source (steps_allowed steps) before after status name
Does (Some (Make seed count)) before after status name = Makes seed count (steps_allowed None) before after status
Does (Some (Forth steps)) before after status name = Serves (session_steps steps) before after status
Does (Some (WriteMemory image text)) before after status name = WritesMemory image text before after status
Does (Some (WriteKernel image)) before after status name = WritesKernel image before after status
Does (Some (Trace image steps)) before after status name = Traces image (trace_steps steps) before after status

-- the notes gain this line, and the answer stands. Where they can't be written, they gain a beginning of it, and the answer is
-- WriteFault. Done has no line, and leaves the notes alone
pub record IsNoted (note : List ℕ) (before after : Stream) (status result : Status) : Type 0 where
  pub quiet : status ≡ Done → (after ≡ before) × (result ≡ Done)
  pub faults : before.faults ≤ after.faults
  pub written : ((result ≡ status) × Appends before.bytes after.bytes note) ⊎ ((result ≡ WriteFault) × AppendsFront before.bytes after.bytes note × Rose before.faults after.faults)

-- a call with these words: what its command does, the command's own answer, and its note
pub record Answers (words : List (List ℕ)) (before after : Surroundings) (notes_before notes_after : Stream) (result : Status) : Type 0 where
  pub status : Status
  pub name : List ℕ
  pub does : Does (request_of words) before after status name
  pub noted : IsNoted (note_of words status name) notes_before notes_after status result
