-- The image of a source file.
use Rattle.std.specs.Prelude.{◌≡◌, ℕ, List}
use Rattle.forth_program.specs.Program.{SourceProgram}
use Rattle.depth_certifier.specs.Certificate.{Cert}
use Rattle.j1_table.specs.Image.{Content}
use Rattle.decompiler.specs.Listing.{listing}
use Rattle.decompiler.specs.Laws.{AssemblesOnlyTo}
use Rattle.j1_workbench.specs.Surroundings.{FolderState}
use Rattle.j1_workbench.specs.Sources.{HasCertificate, IsCertifiedSource}
use Rattle.j1_workbench.specs.Headline.{image_of, DoesOnChip}

-- the image of a program: it does on the chip what the source means, and its listing assembles to it and to no other image
pub record IsCompiled (program : SourceProgram) (image : Content) : Type 0 where
  pub laid : image ≡ image_of program
  pub does : DoesOnChip program
  pub lists : AssemblesOnlyTo (listing image) image

-- the program and the image of a source text with a certificate
pub record CompilesText (text : List ℕ) (program : SourceProgram) (image : Content) : Type 0 where
  pub certificate : Cert
  pub certified : HasCertificate text program certificate
  pub compiled : IsCompiled program image

-- the image of a source file with a certificate
pub record CompilesSource (source : List ℕ) (before : FolderState) (image : Content) : Type 0 where
  pub program : SourceProgram
  pub certificate : Cert
  pub source_is : IsCertifiedSource source before program certificate
  pub compiled : IsCompiled program image
