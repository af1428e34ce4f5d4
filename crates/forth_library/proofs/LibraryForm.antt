-- The form of the whole library, and where each body stands in it: computed.
use Rattle.std.proofs.Common.{◌≡◌, ℕ, Bool, true, Option, Some, None, refl}
use Rattle.std.specs.Prelude.{slice_index_or}
use Rattle.std.specs.List.{list_all}
use Rattle.word_table.specs.declared.word.Word.{Word}
use Rattle.word_table.specs.declared.word.Word.TheVariants.{QDup}
use Rattle.forth_program.specs.Tree.{Nodes, Empty}
use Rattle.forth_program.specs.Form.{everywhere}
use Rattle.library_laws.specs.Bodies.{body_of_word, has_definition, whole_library}
use Rattle.code_layout.specs.Numbering.{library_number}
use Rattle.code_layout.specs.Layout.{bodies_size}
use Rattle.code_layout.specs.Library.{IsLibrary}
use Rattle.code_layout.specs.LastCalls.{begins_well}

pub is_library : IsLibrary whole_library
is_library = record { items = refl; own_items = refl; leaves_in_loops = refl }

pub all_begin_well : list_all (everywhere begins_well) whole_library ≡ true
all_begin_well = refl

pub library_size : bodies_size whole_library ≡ 814
library_size = refl

-- the body at a number, or another where there is no number
abbrev pub body_at : Option ℕ → Nodes → Nodes
body_at None other = other
body_at (Some number) other = slice_index_or whole_library number Empty

pub stands : (word : Word) → body_at (library_number word) (body_of_word word) ≡ body_of_word word
stands QDup = refl
stands word = refl

-- a word with a number has a definition
abbrev pub defined_at : Option ℕ → Bool → Bool
defined_at None defined = true
defined_at (Some number) defined = defined

pub is_defined : (word : Word) → defined_at (library_number word) (has_definition word) ≡ true
is_defined QDup = refl
is_defined word = refl
