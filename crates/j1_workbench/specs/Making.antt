-- `make SEED COUNT`: a source is made, compiled and driven, and a summary is written.
use Rattle.std.specs.Prelude.{◌≡◌, ◌⊎◌, ℕ, List, [], Some}
use Rattle.outside_io.specs.Causes.{Rose}
use Rattle.forth_program.specs.Program.{SourceProgram}
use Rattle.depth_certifier.specs.Certificate.{Cert}
use Rattle.code_layout.specs.Agreement.{AreBytes}
use Rattle.j1_table.specs.Image.{Content}
use Rattle.j1_simulator.specs.Step.{By}
use Rattle.j1_simulator.specs.Run.{round_run}
use Rattle.j1_simulator.specs.declared.ends.End.TheVariants as ends
use Rattle.made_sources.specs.MadeSource.{made_source}
use Rattle.j1_workbench.specs.declared.status.Status.{Status}
use Rattle.j1_workbench.specs.declared.status.Status.TheVariants.{Done, OutOfMemory, WriteFault}
use Rattle.j1_workbench.specs.Surroundings.{Stream, stream, Surroundings}
use Rattle.j1_workbench.specs.Sources.{HasCertificate, IsRefusedText}
use Rattle.j1_workbench.specs.Compiling.{IsCompiled}
use Rattle.j1_workbench.specs.Driving.{Drives}
use Rattle.j1_workbench.specs.Certifying.{Writes}
use Rattle.j1_workbench.specs.Summary.{summary}

-- a console without input, which never fails, and how often it was asked
abbrev pub no_input : ℕ → Stream
no_input asked = stream (Some []) asked 0

-- a run that ended as Halted(0) is followed by a text; every other one by nothing
abbrev pub ThenWrites : Status → Stream → Stream → List ℕ → Status → Type 0
ThenWrites Done middle after text status = Writes middle after text status
ThenWrites ran middle after text status = (status ≡ ran) × (after ≡ middle)

-- the image of this text was driven without input for at most so many instructions
pub record RunsMade (text : List ℕ) (steps : ℕ) (before after : Stream) (status : Status) : Type 0 where
  pub program : SourceProgram
  pub certificate : Cert
  pub certified : HasCertificate text program certificate
  pub image : Content
  pub compiled : IsCompiled program image
  pub ran : Status
  pub asked : ℕ
  pub middle : Stream
  pub drives : Drives image steps (no_input 0) (no_input asked) before middle ran
  pub sums_up : ThenWrites ran middle after (summary program text) status

-- a text is made, and what becomes of it: folder and console are left alone
unfoldable pub DrivesMade : ℕ → ℕ → ℕ → Surroundings → Surroundings → Status → List ℕ → Type 0
DrivesMade seed count steps before after status name =
    (after.folder ≡ before.folder) × (after.console ≡ before.console)
    × ((((status ≡ OutOfMemory) ⊎ IsRefusedText (made_source seed count) status name) × (after.out ≡ before.out)) ⊎ RunsMade (made_source seed count) steps before.out after.out status)

-- the run of an image halts with 0 within so many instructions, and takes no input
pub record ImageHalts (image : Content) (steps : ℕ) (input : List ℕ) : Type 0 where
  pub halts : (round_run image input steps).stop ≡ Some (By (ends.Halted 0))
  pub takes_nothing : (round_run image input steps).input ≡ input

-- the image of this text was driven without input, and the summary was written behind its print, unless out could not be written
pub record RunsToTheEnd (text : List ℕ) (steps : ℕ) (before after : Stream) (status : Status) : Type 0 where
  pub runs : RunsMade text steps before after status
  -- so it halts on every input
  pub halts : (input : List ℕ) → AreBytes input → ImageHalts runs.image steps input
  pub answer : (status ≡ Done) ⊎ ((status ≡ WriteFault) × Rose before.faults after.faults)

-- `make`: folder and console are left alone. Memory was wanting, and out is as it was, or the made source was run to its end
unfoldable pub Makes : ℕ → ℕ → ℕ → Surroundings → Surroundings → Status → Type 0
Makes seed count steps before after status =
    (after.folder ≡ before.folder) × (after.console ≡ before.console)
    × (((status ≡ OutOfMemory) × (after.out ≡ before.out)) ⊎ RunsToTheEnd (made_source seed count) steps before.out after.out status)
