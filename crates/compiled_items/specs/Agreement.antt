-- The items of a typed definition as the kernel compiles them and as the laws of the machine code speak of them: both have the same cells,
-- and where the kernel has laid those of a definition it stands as these laws ask for it.
use Rattle.std.specs.Prelude.{◌≡◌, ℕ, ◌+◌, ◌*◌, ◌<◌, ◌≤◌, List, ◌++◌, length}
use Rattle.word_table.specs.declared.word.Word.{Word}
use Rattle.forth_program.specs.State.{World}
use Rattle.forth_program.specs.Program.{SourceProgram, body_of}
use Rattle.kernel_words.specs.Memory.{IsDataSpace}
use Rattle.kernel_definitions.specs.TypedItems as kernel
use Rattle.typed_items.specs.Items as typed
use Rattle.typed_items.specs.Laws.{DefinitionStands}

-- a word is called at its token's place, and a name at its definition's; an address is twice a place
abbrev mutual
  pub as_called : (Word → ℕ) → (ℕ → ℕ) → typed.TypedItem → kernel.TypedItem
  as_called token place (typed.Number value) = kernel.Number value
  as_called token place (typed.Listed word) = kernel.Called (2 * token word)
  as_called token place (typed.Name definition) = kernel.Called (2 * place definition)
  as_called token place (typed.IfThen first) = kernel.IfThen (all_called token place first)
  as_called token place (typed.IfElse first second) = kernel.IfElse (all_called token place first) (all_called token place second)
  as_called token place (typed.BeginUntil body) = kernel.BeginUntil (all_called token place body)
  as_called token place (typed.BeginWhile test body) = kernel.BeginWhile (all_called token place test) (all_called token place body)

  pub all_called : (Word → ℕ) → (ℕ → ℕ) → typed.TypedItems → kernel.TypedItems
  all_called token place typed.NoItem = kernel.NoItem
  all_called token place (typed.Item item rest) = kernel.Item (as_called token place item) (all_called token place rest)

-- from a place on, which is half an address, both have the same cells, in twice as many bytes as there are
pub record HaveSameCells (token : Word → ℕ) (place : ℕ → ℕ) (at : ℕ) (items : typed.TypedItems) : Type 0 where
  pub cells : kernel.items_cells (all_called token place items) (2 * at) ≡ typed.typed_cells token place at items
  pub size : kernel.items_size (all_called token place items) ≡ 2 * typed.items_size items
  pub definition : kernel.typed_cells (all_called token place items) (2 * at) ≡ typed.definition_cells token place at items

abbrev pub CellsAgree : Type 0
CellsAgree =
    (token : Word → ℕ) (place : ℕ → ℕ) (definitions at : ℕ) (items : typed.TypedItems) → typed.AreTyped definitions items →
    HaveSameCells token place at items

-- where these cells stand in data space from a definition's place on, it stands in memory, with any code before data space
abbrev pub DefinitionsStand : Type 0
DefinitionsStand =
    (code : List ℕ) (w : World) (token : Word → ℕ) (place : ℕ → ℕ) (p : SourceProgram) (definition : ℕ) (items : typed.TypedItems) →
    length code ≡ 0x1000 → IsDataSpace w → typed.AreTyped (length p.bodies) items → typed.nesting items ≤ 4 →
    typed.nodes_of items ≡ body_of p definition → 4284 ≤ place definition → place definition + typed.items_size items < 0x1fff →
    kernel.CellsStand w (2 * place definition) (kernel.typed_cells (all_called token place items) (2 * place definition)) →
    DefinitionStands (code ++ w.space) token place p definition
