-- A built program with GO and with a certificate does what its source means on the open machine and on the chip, also behind each GO that comes back.
use Rattle.std.specs.Prelude.{◌≡◌, ℕ, false, List}
use Rattle.std.specs.List.{All}
use Rattle.forth_program.specs.Tree.{Nodes}
use Rattle.forth_program.specs.Program.{SourceProgram}
use Rattle.forth_program.specs.Form.{has_no_go}
use Rattle.forth_program.specs.Returns.{IsReturn}
use Rattle.depth_certifier.specs.Certificate.{Cert, IsValid, IsCertified}
use Rattle.depth_certifier.specs.Soundness.{most_cells, most_return_cells}
use Rattle.code_layout.specs.Built.{IsBuilt}
use Rattle.code_layout.specs.Library.{IsLibrary, LibraryMeans}
use Rattle.code_layout.specs.Agreement.{AreBytes}
use Rattle.code_layout.specs.Chip.{DepthStaysWithin}
use Rattle.code_layout.specs.Returning.{MachineReturn, backs_of, ForwardReturning, BackwardReturning, StacksReturning}
use Rattle.code_layout.specs.ReturningChip.{RoundReturn, AreRings, round_backs, round_returning_run, AgreesReturningOnChip}

-- both ways and within stated steps, whatever the code that GO calls has made of data space and of the input
pub record AgreesReturning (library : List Nodes) (p : SourceProgram) (returns : List MachineReturn) (input : List ℕ) : Type 0 where
  pub forward : (k : ℕ) → ForwardReturning library p returns input k
  pub backward : (n : ℕ) → BackwardReturning library p returns input n
  pub stacks : (n : ℕ) → StacksReturning library p returns input n

abbrev pub CertifiedImagesReturn : Type 0
CertifiedImagesReturn =
    (library : List Nodes) (p : SourceProgram) (returns : List MachineReturn) (input : List ℕ) → IsLibrary library → LibraryMeans library → IsBuilt library p →
    has_no_go p ≡ false → AreBytes p.first_space → AreBytes input → All (IsReturn p) (backs_of returns) → IsCertified p → AgreesReturning library p returns input

-- on the chip, where what GO calls keeps the places of the live cells
abbrev pub CertifiedChipsReturn : Type 0
CertifiedChipsReturn =
    (library : List Nodes) (p : SourceProgram) (rounds : List RoundReturn) (input : List ℕ) → IsLibrary library → LibraryMeans library → IsBuilt library p →
    has_no_go p ≡ false → AreBytes p.first_space → AreBytes input → All (IsReturn p) (round_backs rounds) → All AreRings rounds → IsCertified p → AgreesReturningOnChip library p rounds input

-- the counters are within what the certificate says of MAIN, before and after each instruction
pub record KeepsTightReturning (library : List Nodes) (p : SourceProgram) (rounds : List RoundReturn) (input : List ℕ) (z : Cert) : Type 0 where
  pub data_stack : (n : ℕ) → DepthStaysWithin (most_cells p z) (round_returning_run library p rounds input n).data_depth
  pub return_stack : (n : ℕ) → DepthStaysWithin (most_return_cells p z) (round_returning_run library p rounds input n).return_depth

-- for every valid certificate
abbrev pub CertifiedChipsReturnTight : Type 0
CertifiedChipsReturnTight =
    (library : List Nodes) (p : SourceProgram) (rounds : List RoundReturn) (input : List ℕ) (z : Cert) → IsLibrary library → LibraryMeans library → IsBuilt library p →
    has_no_go p ≡ false → AreBytes p.first_space → AreBytes input → All (IsReturn p) (round_backs rounds) → All AreRings rounds → IsValid p z → KeepsTightReturning library p rounds input z
