-- What is left where nothing outside fails: each source has its one answer.
use Rattle.std.specs.Prelude.{◌≡◌, ◌<◌, ◌≤◌, ◌⊎◌, ℕ, List, [], ◌∷◌, length, map, Option, None, Some}
use Rattle.outside_io.specs.Causes.{Rose}
use Rattle.outside_io.specs.Files.{Files}
use Rattle.forth_program.specs.Program.{SourceProgram}
use Rattle.control_flow.specs.ParseResult.{Fine}
use Rattle.control_flow.specs.SourceText.{program_of_text}
use Rattle.depth_certifier.specs.Certificate.{Cert}
use Rattle.j1_workbench.specs.declared.status.Status.{Status}
use Rattle.step_certifier.specs.Bound.{Bounded, Refused, step_bound}
use Rattle.j1_workbench.specs.declared.status.Status.TheVariants.{Done, OutOfMemory, TooLarge, BoundRefused, BadNet}
use Rattle.j1_workbench.specs.Surroundings.{Surroundings}
use Rattle.j1_workbench.specs.Sources.{HasCertificate, IsRefusedText}
use Rattle.j1_table.specs.Image.{Content}
use Rattle.image_file.specs.File.{IsImage, IsFile, image_bytes}
use Rattle.j1_assembler.specs.Grammar.{Assembles}
use Rattle.j1_workbench.specs.Driving.{IsRunAnswer, Drives}
use Rattle.j1_workbench.specs.Building.{Builds}
use Rattle.j1_workbench.specs.Images.{IsBadImage}
use Rattle.j1_workbench.specs.Executing.{RunsImage, Executes}
use Rattle.target_forth.specs.Kernel.{kernel}
use Rattle.j1_workbench.specs.Serving.{IsSessionAnswer, ended_status, RunsKernel, Serves}
use Rattle.j1_workbench.specs.ListingImage.{Lists}
use Rattle.j1_workbench.specs.Making.{Makes}
use Rattle.j1_workbench.specs.WritingMemory.{WritesMemory}
use Rattle.j1_workbench.specs.WritingKernel.{WritesKernel}
use Rattle.j1_workbench.specs.Tracing.{Traces}
use Rattle.j1_workbench.specs.Assembling.{IsBadListing, AssemblesFile}
use Rattle.j1_workbench.specs.Running.{Runs}
use Rattle.j1_workbench.specs.Certifying.{Certifies}
use Rattle.j1_workbench.specs.Bounding.{Bounds}
use Rattle.net_file.specs.Net.{NetPlan, IsNetText}
use Rattle.net_file.specs.FirstBad.{IsFirstBadLine}
use Rattle.j1_workbench.specs.Headline.{image_of}
use Rattle.j1_workbench.specs.Networking.{net_status, Nets}
use Rattle.j1_workbench.specs.Evaluating.{IsReadText, IsReading, IsEvaluationAnswer, Evaluates}

-- the folder tells its files, and this one has this text
abbrev pub Tells : Option Files → List ℕ → List ℕ → Type 0
Tells None name text = ⊥
Tells (Some files) name text = files name ≡ Some text

-- no read of the folder, no read of the console and no write to out failed
pub record FailsNowhere (before after : Surroundings) : Type 0 where
  pub folder : Rose before.folder.read_faults after.folder.read_faults → ⊥
  pub console : Rose before.console.faults after.console.faults → ⊥
  pub out : Rose before.out.faults after.out.faults → ⊥

-- memory was wanting; or a refused text has its refusal, and a certified one an answer of the command
pub record IsComplete (text : List ℕ) (status : Status) (IsAnswer : Status → Type 0) : Type 0 where
  pub refused : (refusal : Status) (name : List ℕ) → IsRefusedText text refusal name → (status ≡ OutOfMemory) ⊎ (status ≡ refusal)
  pub certified : (program : SourceProgram) (certificate : Cert) → HasCertificate text program certificate → (status ≡ OutOfMemory) ⊎ IsAnswer status

-- memory was wanting; or a text without a program has its refusal, and each other one an answer of the evaluation, certified or not
pub record IsEvaluated (text : List ℕ) (status : Status) : Type 0 where
  pub refused : (refusal : Status) (name : List ℕ) → IsRefusedText text refusal name → IsReading refusal → (status ≡ OutOfMemory) ⊎ (status ≡ refusal)
  pub read : (program : SourceProgram) → IsReadText text program → (status ≡ OutOfMemory) ⊎ IsEvaluationAnswer status

-- the answer of `bound`: the program has a bound, or the answer says why it has none
abbrev pub IsBoundAnswer : SourceProgram → Status → Type 0
IsBoundAnswer program Done = (steps : ℕ) × (step_bound program ≡ Bounded steps)
IsBoundAnswer program (BoundRefused definition cause) = step_bound program ≡ Refused definition.0 cause
IsBoundAnswer program status = ⊥

abbrev pub IsAnswerOfText : List ℕ → Status → Type 0
IsAnswerOfText text status = (program : SourceProgram) × (program_of_text text ≡ Fine program) × IsBoundAnswer program status

-- what is in a file is too large, refused or good: each has its one answer, want of memory aside
pub record IsCompleteFile (most : ℕ) (IsBad : List ℕ → Status → Type 0) (IsGood : List ℕ → Type 0) (content : List ℕ) (status : Status) (IsAnswer : Status → Type 0) : Type 0 where
  pub too_large : most < length content → (status ≡ OutOfMemory) ⊎ (status ≡ TooLarge)
  pub refused : (refusal : Status) → length content ≤ most → IsBad content refusal → (status ≡ OutOfMemory) ⊎ (status ≡ refusal)
  pub good : length content ≤ most → IsGood content → (status ≡ OutOfMemory) ⊎ IsAnswer status

-- the folder tells the source files of cores, each with a certificate, and these are their programs
abbrev pub AllCertified : Option Files → List (List ℕ) → List SourceProgram → Type 0
AllCertified files [] programs = programs ≡ []
AllCertified files (source ∷ sources) programs =
    (text : List ℕ) × (program : SourceProgram) × (certificate : Cert) × (others : List SourceProgram)
    × (programs ≡ program ∷ others) × Tells files source text × HasCertificate text program certificate × AllCertified files sources others

-- it tells that of one core, which is refused so, and those of the cores before it, which have certificates
abbrev pub IsFirstRefused : Option Files → List (List ℕ) → Status → Type 0
IsFirstRefused files [] refusal = ⊥
IsFirstRefused files (source ∷ sources) refusal =
    ((text : List ℕ) × (name : List ℕ) × Tells files source text × IsRefusedText text refusal name)
    ⊎ ((text : List ℕ) × (program : SourceProgram) × (certificate : Cert) × Tells files source text × HasCertificate text program certificate × IsFirstRefused files sources refusal)

-- memory was wanting; or a net file is too large or no net file, or a source of its cores is refused, or they are run
pub record IsCompleteNet (files : Option Files) (text : List ℕ) (status : Status) : Type 0 where
  pub too_large : 65536 < length text → (status ≡ OutOfMemory) ⊎ (status ≡ TooLarge)
  pub bad : (line : ℕ) → length text ≤ 65536 → IsFirstBadLine text line → (status ≡ OutOfMemory) ⊎ (status ≡ BadNet line)
  pub refused : (net : NetPlan) (refusal : Status) → length text ≤ 65536 → IsNetText text net → IsFirstRefused files net.cores refusal → (status ≡ OutOfMemory) ⊎ (status ≡ refusal)
  pub run : (net : NetPlan) (programs : List SourceProgram) → length text ≤ 65536 → IsNetText text net → AllCertified files net.cores programs →
      (status ≡ OutOfMemory) ⊎ (status ≡ net_status net (map image_of programs))

-- `net` gives the one answer of its file and of the sources of the cores
abbrev pub NetsAreComplete : Type 0
NetsAreComplete = (file text : List ℕ) (before after : Surroundings) (status : Status) (name : List ℕ) →
    Nets file before after status name → Tells before.folder.files file text → FailsNowhere before after → IsCompleteNet before.folder.files text status

-- a text is refused, or certified
abbrev pub IsJudged : List ℕ → Type 0
IsJudged text = ((refusal : Status) × (name : List ℕ) × IsRefusedText text refusal name) ⊎ ((program : SourceProgram) × (certificate : Cert) × HasCertificate text program certificate)

pub record AnswersAreComplete : Type 0 where
  pub each : (text : List ℕ) → IsJudged text
  pub run : (source text : List ℕ) (steps : ℕ) (before after : Surroundings) (status : Status) (name : List ℕ) →
      Runs source steps before after status name → Tells before.folder.files source text → FailsNowhere before after → IsComplete text status IsRunAnswer
  pub certify : (source text : List ℕ) (before after : Surroundings) (status : Status) (name : List ℕ) →
      Certifies source before after status name → Tells before.folder.files source text → FailsNowhere before after → IsComplete text status (λ s. s ≡ Done)
  pub bound : (source text : List ℕ) (before after : Surroundings) (status : Status) (name : List ℕ) →
      Bounds source before after status name → Tells before.folder.files source text → FailsNowhere before after → IsComplete text status (IsAnswerOfText text)
  pub eval : (source text : List ℕ) (steps : ℕ) (before after : Surroundings) (status : Status) (name : List ℕ) →
      Evaluates source steps before after status name → Tells before.folder.files source text → FailsNowhere before after → IsEvaluated text status
  pub net : NetsAreComplete
  -- where the write of the folder did not fail either
  pub build : (source file text : List ℕ) (before after : Surroundings) (status : Status) (name : List ℕ) →
      Builds source file before after status name → Tells before.folder.files source text → FailsNowhere before after → (Rose before.folder.write_faults after.folder.write_faults → ⊥) → IsComplete text status (λ s. s ≡ Done)
  pub execute : (file content : List ℕ) (steps : ℕ) (before after : Surroundings) (status : Status) →
      Executes file steps before after status → Tells before.folder.files file content → FailsNowhere before after → IsCompleteFile 32768 IsBadImage IsFile content status IsRunAnswer
  pub list : (file content : List ℕ) (before after : Surroundings) (status : Status) →
      Lists file before after status → Tells before.folder.files file content → FailsNowhere before after → IsCompleteFile 32768 IsBadImage IsFile content status (λ s. s ≡ Done)
  pub assemble : (listing file text : List ℕ) (before after : Surroundings) (status : Status) →
      AssemblesFile listing file before after status → Tells before.folder.files listing text → FailsNowhere before after → (Rose before.folder.write_faults after.folder.write_faults → ⊥) →
      IsCompleteFile 524288 IsBadListing (λ text. (image : Content) × Assembles text image) text status (λ s. s ≡ Done)
  pub memory_text : (name file content : List ℕ) (before after : Surroundings) (status : Status) →
      WritesMemory name file before after status → Tells before.folder.files name content → FailsNowhere before after →
      (Rose before.folder.write_faults after.folder.write_faults → ⊥) → IsCompleteFile 32768 IsBadImage IsFile content status (λ s. s ≡ Done)
  pub trace : (file content : List ℕ) (steps : ℕ) (before after : Surroundings) (status : Status) →
      Traces file steps before after status → Tells before.folder.files file content → FailsNowhere before after →
      IsCompleteFile 32768 IsBadImage IsFile content status IsRunAnswer
  pub kernel_file : (file : List ℕ) (before after : Surroundings) (status : Status) →
      WritesKernel file before after status → (Rose before.folder.write_faults after.folder.write_faults → ⊥) →
      (status ≡ OutOfMemory) ⊎ (status ≡ Done)
  pub forth : (steps : ℕ) (before after : Surroundings) (status : Status) → Serves steps before after status → FailsNowhere before after → (status ≡ OutOfMemory) ⊎ IsSessionAnswer status
  -- `make` answers Done
  pub make : (seed count steps : ℕ) (before after : Surroundings) (status : Status) → Makes seed count steps before after status → FailsNowhere before after → (status ≡ OutOfMemory) ⊎ (status ≡ Done)
  -- a file that holds the bytes of an image, as `build` writes them, is run as that image: so `exec` does what `run` does
  pub built : (file : List ℕ) (steps : ℕ) (before after : Surroundings) (status : Status) (image : Content) →
      IsImage image → Tells before.folder.files file (image_bytes image) → RunsImage file steps before after status → Drives image steps before.console after.console before.out after.out status
  -- a file that holds the bytes of the kernel's image, as `kernel` writes them, is run by `exec` as a session is, but that the end of
  -- the input is not Done
  pub kernel_runs : (file : List ℕ) (steps : ℕ) (before after : Surroundings) (status : Status) →
      Tells before.folder.files file (image_bytes kernel) → RunsImage file steps before after status →
      RunsKernel steps before after (ended_status status)
