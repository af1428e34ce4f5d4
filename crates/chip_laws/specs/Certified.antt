-- A built program without GO and with a certificate agrees with its source on the chip, and keeps to the stacks that the certificate says.
use Rattle.std.specs.Prelude.{◌≡◌, ℕ, true, List}
use Rattle.j1_simulator.specs.Run.{round_run}
use Rattle.forth_program.specs.Tree.{Nodes}
use Rattle.forth_program.specs.Program.{SourceProgram}
use Rattle.forth_program.specs.Form.{has_no_go}
use Rattle.depth_certifier.specs.Certificate.{Cert, IsValid, IsCertified}
use Rattle.depth_certifier.specs.Soundness.{most_cells, most_return_cells}
use Rattle.code_layout.specs.Layout.{laid_out}
use Rattle.code_layout.specs.Library.{IsLibrary, LibraryMeans}
use Rattle.code_layout.specs.Built.{IsBuilt}
use Rattle.code_layout.specs.Agreement.{AreBytes}
use Rattle.code_layout.specs.Chip.{DepthStaysWithin, AgreesOnChip}

-- the image prints what the source means, both ways and within stated steps, ends alike, and wraps no stack
abbrev pub CertifiedChipsAgree : Type 0
CertifiedChipsAgree =
    (library : List Nodes) (p : SourceProgram) (input : List ℕ) → IsLibrary library → LibraryMeans library → IsBuilt library p → AreBytes p.first_space → AreBytes input →
    has_no_go p ≡ true → IsCertified p → AgreesOnChip library p input

-- the data counter is at most the greater of MAIN's peak and, where MAIN has an exit, its high end plus 2, and the return counter at
-- most MAIN's back plus 1, before and after each instruction
pub record KeepsTight (library : List Nodes) (p : SourceProgram) (input : List ℕ) (z : Cert) : Type 0 where
  pub data_stack : (n : ℕ) → DepthStaysWithin (most_cells p z) (round_run (laid_out library p) input n).data_depth
  pub return_stack : (n : ℕ) → DepthStaysWithin (most_return_cells p z) (round_run (laid_out library p) input n).return_depth

-- for every valid certificate
abbrev pub CertifiedChipsKeepTight : Type 0
CertifiedChipsKeepTight =
    (library : List Nodes) (p : SourceProgram) (input : List ℕ) (z : Cert) → IsLibrary library → LibraryMeans library → IsBuilt library p →
    AreBytes p.first_space → AreBytes input → has_no_go p ≡ true → IsValid p z → KeepsTight library p input z
