-- The places of definitions, one after the other, and those of all routines.
use Rattle.std.specs.Prelude.{◌≡◌, ℕ, ◌+◌, ◌<◌, List, [], ◌∷◌, length, slice_index, EachIndex}
use Rattle.forth_program.specs.Tree.{Nodes}
use Rattle.forth_program.specs.Program.{SourceProgram}
use Rattle.code_layout.specs.declared.places.Places.{Places}
use Rattle.code_layout.specs.Layout.{library_place, execute_place, abort_place, first_place, tokens_place, leaving_place, Routine, Definition, Library, Executing, Aborting, Leaving, body_size}
use Rattle.std.specs.Prelude.{take}

-- where each of them begins, if the first begins at a place
abbrev pub places_from : ℕ → List Nodes → List ℕ
places_from at [] = []
places_from at (body ∷ bodies) = at ∷ places_from (at + body_size body) bodies

-- cells of memory, where routines may begin
pub record ArePlaces (places : Places) : Type 0 where
  pub words : EachIndex places.words.items (λ k. slice_index places.words.items k < 8192)
  pub definitions : EachIndex places.definitions.items (λ k. slice_index places.definitions.items k < 8192)
  pub execute : places.execute < 8192
  pub abort : places.abort < 8192
  pub leaving : places.leaving < 8192

-- where a routine begins
unfoldable pub place_by : Places → Routine → ℕ
place_by places (Definition definition) = slice_index places.definitions.items definition
place_by places (Library number) = slice_index places.words.items number
place_by places Executing = places.execute
place_by places Aborting = places.abort
place_by places Leaving = places.leaving

-- the numbers of library words and of definitions
abbrev pub word_count : Places → ℕ
word_count places = length places.words.items

abbrev pub definition_count : Places → ℕ
definition_count places = length places.definitions.items

-- the bodies of a library, as a program: all definitions before MAIN
abbrev pub library_of : SourceProgram → List Nodes
library_of program = take program.main_body program.bodies

-- the places of the routines of a program with a library
pub record PlacesOf (library : List Nodes) (p : SourceProgram) (places : Places) : Type 0 where
  pub words : places.words.items ≡ places_from (library_place p) library
  pub definitions : places.definitions.items ≡ places_from (first_place library p) p.bodies
  pub execute : places.execute ≡ execute_place library p
  pub abort : places.abort ≡ abort_place library p
  pub tokens : places.tokens ≡ tokens_place library p
  pub leaving : places.leaving ≡ leaving_place library p
