-- `certify SRC`: the text of the least certificate is written to out.
use Rattle.std.specs.Prelude.{◌≡◌, ◌≤◌, ◌⊎◌, ℕ, List}
use Rattle.std.specs.Io.KnownBytes.{Appends}
use Rattle.outside_io.specs.Bytes.{AppendsFront}
use Rattle.outside_io.specs.Causes.{Rose}
use Rattle.forth_program.specs.Program.{SourceProgram}
use Rattle.depth_certifier.specs.Certificate.{Cert}
use Rattle.depth_certifier.specs.CertificateText.{certificate_text}
use Rattle.j1_workbench.specs.declared.status.Status.{Status}
use Rattle.j1_workbench.specs.declared.status.Status.TheVariants.{Done, WriteFault}
use Rattle.j1_workbench.specs.Surroundings.{Stream, Surroundings, IsOnlyRead}
use Rattle.j1_workbench.specs.Sources.{IsRefusedSource, IsCertifiedSource}

-- a text was written to out, or a beginning of it where the write failed
abbrev pub Writes : Stream → Stream → List ℕ → Status → Type 0
Writes before after text Done = Appends before.bytes after.bytes text × (before.faults ≤ after.faults)
Writes before after text WriteFault = AppendsFront before.bytes after.bytes text × Rose before.faults after.faults
Writes before after text status = ⊥

pub record WritesCertificate (source : List ℕ) (before after : Surroundings) (status : Status) : Type 0 where
  pub program : SourceProgram
  pub certificate : Cert
  pub source_is : IsCertifiedSource source before.folder program certificate
  pub writes : Writes before.out after.out (certificate_text program certificate) status

-- `certify`: a refused source leaves out alone; the console is never asked
unfoldable pub Certifies : List ℕ → Surroundings → Surroundings → Status → List ℕ → Type 0
Certifies source before after status name =
    IsOnlyRead 1 before.folder after.folder × (after.console ≡ before.console)
    × ((IsRefusedSource source before.folder after.folder status name × (after.out ≡ before.out)) ⊎ WritesCertificate source before after status)
