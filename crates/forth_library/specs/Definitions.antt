-- The definitions of both texts as one program.
use Rattle.std.specs.Prelude.{ℕ, ◌-◌, List, [], ◌∷◌, ◌++◌, length, take, codes}
use Rattle.forth_program.specs.Tree.{Empty}
use Rattle.forth_program.specs.Program.{SourceProgram}
use Rattle.library_laws.specs.Bodies.{arithmetic_words, pictured_words, definition_names, whole_library}
use Rattle.control_flow.specs.SourceText.{program_with, first_host}
use Rattle.arithmetic_words.specs.declared.text.TheConstants.{ARITHMETIC_TEXT}
use Rattle.pictured_output.specs.declared.text.TheConstants.{PICTURED_TEXT}

-- the first text without its line of MAIN, and the second
abbrev pub library_text : List ℕ
library_text = take (length ARITHMETIC_TEXT.now - 9) ARITHMETIC_TEXT.now ++ PICTURED_TEXT.now

-- a definition for each word of both, and an empty MAIN
abbrev pub library_definitions : SourceProgram
library_definitions = program_with (definition_names (arithmetic_words ++ pictured_words) ++ codes "MAIN" ∷ []) (whole_library ++ Empty ∷ []) 42 720 first_host
