-- The kernel's program, and its image.
use Rattle.std.specs.Prelude.{[]}
use Rattle.word_table.specs.declared.word.Vocabulary.TheVariants.{Kernel}
use Rattle.forth_program.specs.Program.{SourceProgram}
use Rattle.j1_table.specs.Image.{Content}
use Rattle.library_laws.specs.Bodies.{whole_library}
use Rattle.code_layout.specs.Layout.{laid_out}
use Rattle.control_flow.specs.ParseResult.{ParseResult, Fine, Refused, Endless}
use Rattle.control_flow.specs.SourceText.{program_in, program_with, first_host}
use Rattle.target_forth.specs.declared.text.TheConstants.{KERNEL_TEXT}

-- the program that was read, or one without definitions where there is none
abbrev pub program_read : ParseResult SourceProgram → SourceProgram
program_read (Fine program) = program
program_read (Refused token cause) = program_with [] [] 0 0 first_host
program_read Endless = program_with [] [] 0 0 first_host

-- the program of the kernel's text
unfoldable pub kernel_program : SourceProgram
kernel_program = program_read (program_in Kernel KERNEL_TEXT.now)

-- its image, with the whole library
abbrev pub kernel : Content
kernel = laid_out whole_library kernel_program
