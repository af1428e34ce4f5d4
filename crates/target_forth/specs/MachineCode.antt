-- The machine code around a typed word in the kernel's data space.
use Rattle.std.specs.Prelude.{◌≡◌, ℕ, List, [], ◌++◌, length}
use Rattle.forth_program.specs.Run.{first_world}
use Rattle.typed_code.specs.MachineCode.{HasMachineCode, HasUserCells}
use Rattle.target_forth.specs.Kernel.{kernel_program}

-- behind any code, the data space that the kernel begins with has that machine code at its places, and no user's cells
abbrev pub KernelHasMachineCode : Type 0
KernelHasMachineCode =
    (code input : List ℕ) → length code ≡ 0x1000 →
    HasMachineCode (code ++ (first_world kernel_program input).space) × HasUserCells (code ++ (first_world kernel_program input).space) []
