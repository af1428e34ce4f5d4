-- The program of the text.
use Rattle.std.specs.Prelude.{[], ◌∷◌, ◌++◌, codes}
use Rattle.forth_program.specs.Tree.{Empty}
use Rattle.forth_program.specs.Program.{SourceProgram}
use Rattle.library_laws.specs.Bodies.{arithmetic_words, bodies_of, definition_names}
use Rattle.control_flow.specs.SourceText.{program_with, first_host}

-- a definition for each word, in order, and an empty MAIN
abbrev pub arithmetic_library : SourceProgram
arithmetic_library = program_with (definition_names arithmetic_words ++ codes "MAIN" ∷ []) (bodies_of arithmetic_words ++ Empty ∷ []) 28 395 first_host
