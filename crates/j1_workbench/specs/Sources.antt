-- What becomes of a source file before a command works on its program.
use Rattle.std.specs.Prelude.{◌≡◌, ◌<◌, ◌≤◌, ℕ, List, [], length, slice_index_or, ⊤}
use Rattle.outside_io.specs.Causes.{Rose}
use Rattle.outside_io.specs.Files.{Lacks}
use Rattle.forth_program.specs.Program.{SourceProgram}
use Rattle.control_flow.specs.ParseResult.{Fine, Refused}
use Rattle.control_flow.specs.SourceText.{program_of_text}
use Rattle.depth_certifier.specs.Certificate.{Cert, IsValid}
use Rattle.depth_certifier.specs.declared.effect.CertCause.{CertCause}
use Rattle.depth_certifier.specs.Rounds.{IsLeast, RoundsRefuse}
use Rattle.j1_workbench.specs.declared.status.Status.{Status}
use Rattle.j1_workbench.specs.declared.status.Status.TheVariants.{Missing, SourceRefused, NotCertified, ReadFault, OutOfMemory, TooLarge}
use Rattle.j1_workbench.specs.Surroundings.{FolderState}
use Rattle.j1_workbench.specs.Files.{HoldsFile}

-- a source has at most 65,536 bytes
abbrev pub IsShort : List ℕ → Type 0
IsShort text = length text ≤ 65536

-- a text has a program, and the program a certificate, of which this is the least
pub record HasCertificate (text : List ℕ) (program : SourceProgram) (certificate : Cert) : Type 0 where
  pub short : IsShort text
  pub program_is : program_of_text text ≡ Fine program
  pub least : IsLeast program certificate

-- a text has a program without a certificate: the rounds refuse this definition for this reason
pub record IsUncertified (text : List ℕ) (definition : ℕ) (cause : CertCause) (name : List ℕ) : Type 0 where
  pub program : SourceProgram
  pub short : IsShort text
  pub program_is : program_of_text text ≡ Fine program
  pub refusal : RoundsRefuse program (record { definition = definition; reason = cause })
  pub none : (z : Cert) → IsValid program z → ⊥
  pub name_is : name ≡ slice_index_or program.names definition []

-- a text is refused with this answer, which may name a definition
abbrev pub IsRefusedText : List ℕ → Status → List ℕ → Type 0
IsRefusedText text TooLarge name = 65536 < length text
IsRefusedText text (SourceRefused refusal) name = IsShort text × (program_of_text text ≡ Refused refusal.token refusal.cause)
IsRefusedText text (NotCertified id cause) name = IsUncertified text id.0 cause name
IsRefusedText text status name = ⊥

-- why a command that works on this source ended before it began with its program
abbrev pub IsRefusedSource : List ℕ → FolderState → FolderState → Status → List ℕ → Type 0
IsRefusedSource source before after Missing name = Rose before.absences after.absences × Lacks before.files source
IsRefusedSource source before after ReadFault name = Rose before.read_faults after.read_faults
IsRefusedSource source before after OutOfMemory name = ⊤
IsRefusedSource source before after status name = (text : List ℕ) × HoldsFile before.files source text × IsRefusedText text status name

-- the file has a text with this program and this least certificate
abbrev pub IsCertifiedSource : List ℕ → FolderState → SourceProgram → Cert → Type 0
IsCertifiedSource source before program certificate = (text : List ℕ) × HoldsFile before.files source text × HasCertificate text program certificate
