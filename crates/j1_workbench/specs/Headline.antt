-- What a compiled program does on the chip.
use Rattle.std.specs.Prelude.{◌≡◌, ℕ, true, List}
use Rattle.library_laws.specs.Bodies.{whole_library}
use Rattle.forth_program.specs.Program.{SourceProgram}
use Rattle.control_flow.specs.ParseResult.{Fine}
use Rattle.control_flow.specs.SourceText.{program_of_text}
use Rattle.depth_certifier.specs.Certificate.{Cert, IsValid}
use Rattle.chip_laws.specs.Certified.{KeepsTight}
use Rattle.j1_table.specs.Image.{Content}
use Rattle.code_layout.specs.Layout.{laid_out}
use Rattle.code_layout.specs.Built.{IsBuilt}
use Rattle.code_layout.specs.LastCalls.{LastCalls, all_begin_well}
use Rattle.code_layout.specs.Agreement.{AreBytes}
use Rattle.code_layout.specs.Chip.{AgreesOnChip}

-- the image of a program, with the whole library
abbrev pub image_of : SourceProgram → Content
image_of program = laid_out whole_library program

-- the image of a program does on the chip what its source means, on every input
pub record DoesOnChip (program : SourceProgram) : Type 0 where
  -- it prints what the source means, both ways and within stated steps, ends alike, and wraps no stack
  pub agrees : (input : List ℕ) → AreBytes input → AgreesOnChip whole_library program input
  -- and both stacks hold at each instruction no more cells than each certificate says of MAIN
  pub tight : (certificate : Cert) (input : List ℕ) → IsValid program certificate → AreBytes input → KeepsTight whole_library program input certificate
  -- last calls are jumps, where each item begins with a cell that is no return
  pub last_calls : all_begin_well program ≡ true → LastCalls (image_of program).cells

-- so it is of the program of each text that has a certificate
abbrev pub CertifiedTextsAgree : Type 0
CertifiedTextsAgree = (text : List ℕ) (program : SourceProgram) (certificate : Cert) → program_of_text text ≡ Fine program → IsValid program certificate → DoesOnChip program

-- the program of each text can be laid out
abbrev pub TextsAreBuilt : Type 0
TextsAreBuilt = (text : List ℕ) (program : SourceProgram) → program_of_text text ≡ Fine program → IsBuilt whole_library program
