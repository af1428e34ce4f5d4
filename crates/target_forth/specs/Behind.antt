-- What the kernel's image does on the open machine and on the chip, also behind each GO that comes back.
use Rattle.std.specs.Prelude.{ℕ, List}
use Rattle.std.specs.List.{All}
use Rattle.forth_program.specs.Returns.{IsReturn}
use Rattle.library_laws.specs.Bodies.{whole_library}
use Rattle.code_layout.specs.Agreement.{AreBytes}
use Rattle.code_layout.specs.Chip.{DepthStaysWithin}
use Rattle.code_layout.specs.Returning.{MachineReturn, backs_of}
use Rattle.code_layout.specs.ReturningChip.{RoundReturn, AreRings, round_backs, round_returning_run, AgreesReturningOnChip}
use Rattle.chip_laws.specs.Returning.{AgreesReturning}
use Rattle.target_forth.specs.Kernel.{kernel_program}

-- it does what the kernel's text says, both ways and within stated steps, on every input and whatever typed code has made of data space
abbrev pub KernelAgrees : Type 0
KernelAgrees = (returns : List MachineReturn) (input : List ℕ) → AreBytes input → All (IsReturn kernel_program) (backs_of returns) → AgreesReturning whole_library kernel_program returns input

-- on the chip too, where typed code keeps the places of the kernel's live cells
abbrev pub KernelAgreesOnChip : Type 0
KernelAgreesOnChip =
    (rounds : List RoundReturn) (input : List ℕ) → AreBytes input → All (IsReturn kernel_program) (round_backs rounds) → All AreRings rounds → AgreesReturningOnChip whole_library kernel_program rounds input

-- there the kernel has at most 25 data cells and 22 return cells, before and after each instruction
abbrev pub KernelKeepsTight : Type 0
KernelKeepsTight =
    (rounds : List RoundReturn) (input : List ℕ) (n : ℕ) → AreBytes input → All (IsReturn kernel_program) (round_backs rounds) → All AreRings rounds →
    DepthStaysWithin 25 (round_returning_run whole_library kernel_program rounds input n).data_depth × DepthStaysWithin 22 (round_returning_run whole_library kernel_program rounds input n).return_depth
