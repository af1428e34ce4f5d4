-- The program of the text.
use Rattle.std.specs.Prelude.{[], ◌∷◌, ◌++◌, codes}
use Rattle.forth_program.specs.Tree.{Empty}
use Rattle.forth_program.specs.Program.{SourceProgram}
use Rattle.library_laws.specs.Bodies.{pictured_words, bodies_of, definition_names}
use Rattle.control_flow.specs.SourceText.{program_with, first_host}

-- a definition for each word, in order, and an empty MAIN
abbrev pub pictured_library : SourceProgram
pictured_library = program_with (definition_names pictured_words ++ codes "MAIN" ∷ []) (bodies_of pictured_words ++ Empty ∷ []) 14 328 first_host
