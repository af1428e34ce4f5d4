-- The definitions of a session, what a word stands for among them, and how a definition is read from its words.
use Rattle.std.specs.Prelude.{ℕ, suc, ◌+◌, true, false, List, [], ◌∷◌, map, Option, Some, None}
use Rattle.word_table.specs.declared.word.Word.{Word}
use Rattle.word_table.specs.declared.word.Word.TheVariants.{Semicolon}
use Rattle.word_table.specs.declared.word.Word.TheVariants as word
use Rattle.word_table.specs.Table.{entry_of}
use Rattle.forth_reader.specs.declared.number.NumberRead.{NumberRead}
use Rattle.forth_reader.specs.declared.number.NumberRead.TheVariants.{Value, Range, NotNumber}
use Rattle.forth_reader.specs.Number.{signed_read}
use Rattle.forth_program.specs.Tree.{Node, Nodes, Literal, Plain, Call, If, Until, While, Empty, Then, joined}
use Rattle.forth_program.specs.Program.{SourceProgram}
use Rattle.session_machine.specs.Vocabulary.{listed_word, structure_word, same_name}

-- a definition: its name, its items, and its weight, a ceiling on the cells of its code
pub record Definition : Type 0 where
  pub name : List ℕ
  pub body : Nodes
  pub weight : ℕ

-- the program of definitions, which stand with the oldest first
abbrev pub program_of : List Definition → SourceProgram
program_of definitions = record {
  names = map (λ d. d.name) definitions;
  bodies = map (λ d. d.body) definitions;
  main_body = 0;
  tokens = [];
  data_start = 8192;
  first_space = [];
  source_tokens = 0;
}

-- the number of a definition, where a newer one has been found or not
abbrev pub or_newer : List ℕ → Definition → Option ℕ → Option ℕ
or_newer text d (Some newer) = Some (suc newer)
or_newer text d None = elim (same_name text d.name) [ true ↦ Some 0 | false ↦ None ]

-- the number of the newest definition of a name
abbrev pub newest_named : List ℕ → List Definition → Option ℕ
newest_named text [] = None
newest_named text (d ∷ definitions) = or_newer text d (newest_named text definitions)

-- ---- what a word stands for: first a name that is defined, then a listed word, then a word of structures, then a number in decimal

pub data Sense : Type 0 where
  Calls : (definition : ℕ) → Sense
  Does : (word : Word) → Sense
  Structures : (word : Word) → Sense
  Number : (value : ℕ) → Sense
  Unknown : Sense

abbrev pub number_sense : NumberRead → Sense
number_sense (Value value) = Number value
number_sense Range = Unknown
number_sense NotNumber = Unknown

abbrev pub sense_of : List Definition → List ℕ → Sense
sense_of definitions text = elim (newest_named text definitions) [
  | Some n ↦ Calls n
  | None ↦ elim (listed_word text) [
    | Some w ↦ Does w
    | None ↦ elim (structure_word text) [ Some w ↦ Structures w | None ↦ number_sense (signed_read 10 text) ]
  ]
]

-- ---- a definition that is being read

-- an open structure, with the items before it and those of its first part
pub data Open : Type 0 where
  InIf : (earlier : Nodes) → Open
  InElse : (earlier first : Nodes) → Open
  InBegin : (earlier : Nodes) → Open
  InWhile : (earlier test : Nodes) → Open

-- the items of the innermost open structure so far, the open structures, the innermost first, and the weight of the words so far
pub record Begun : Type 0 where
  pub items : Nodes
  pub structures : List Open
  pub weight : ℕ

abbrev pub nothing_begun : Begun
nothing_begun = record { items = Empty; structures = []; weight = 0 }

-- one item more at the end of items
abbrev pub followed_by : Nodes → Node → Nodes
followed_by items node = joined items (Then node Empty)

-- what a word of a definition leads to: its items go on, it has come to its end, or the word does not fit
pub data Reading : Type 0 where
  GoesOn : (begun : Begun) → Reading
  IsWhole : (body : Nodes) (weight : ℕ) → Reading
  DoesNotFit : Reading

abbrev pub item_read : Begun → Node → ℕ → Reading
item_read b node weight = GoesOn (record { items = followed_by b.items node; structures = b.structures; weight = b.weight + weight })

-- inside a structure that is opened or parted, and behind one that has ended
abbrev pub inside : Open → List Open → ℕ → Reading
inside structure outer weight = GoesOn (record { items = Empty; structures = structure ∷ outer; weight = weight })

abbrev pub behind : Nodes → Node → List Open → ℕ → Reading
behind earlier node outer weight = GoesOn (record { items = followed_by earlier node; structures = outer; weight = weight })

-- by the word, the items and the open structures, and the weight with that of the word
abbrev pub structure_read : Word → Nodes → List Open → ℕ → Reading
structure_read word.If items outer weight = inside (InIf items) outer weight
structure_read word.Else items (InIf earlier ∷ outer) weight = inside (InElse earlier items) outer weight
structure_read word.Then items (InIf earlier ∷ outer) weight = behind earlier (If items Empty) outer weight
structure_read word.Then items (InElse earlier first ∷ outer) weight = behind earlier (If first items) outer weight
structure_read word.Begin items outer weight = inside (InBegin items) outer weight
structure_read word.Until items (InBegin earlier ∷ outer) weight = behind earlier (Until items) outer weight
structure_read word.While items (InBegin earlier ∷ outer) weight = inside (InWhile earlier items) outer weight
structure_read word.Repeat items (InWhile earlier test ∷ outer) weight = behind earlier (While test items) outer weight
structure_read Semicolon items [] weight = IsWhole items weight
structure_read w items outer weight = DoesNotFit

abbrev pub word_read : Sense → Begun → Reading
word_read (Calls definition) b = item_read b (Call definition) 1
word_read (Does w) b = item_read b (Plain w) (entry_of w).weight
word_read (Number value) b = item_read b (Literal value) 2
word_read (Structures w) b = structure_read w b.items b.structures (b.weight + (entry_of w).weight)
word_read Unknown b = DoesNotFit

-- what the words behind a name lead to: a whole definition and the words behind it, or a beginning and the word at which it is dropped,
-- which is the colon where the line ends too soon
pub data DefinitionRead : Type 0 where
  Whole : (body : Nodes) (weight : ℕ) (rest : List (List ℕ)) → DefinitionRead
  Dropped : (begun : Begun) (text : List ℕ) → DefinitionRead

abbrev pub colon : List ℕ
colon = 58 ∷ []

abbrev pub items_read : List Definition → Begun → List (List ℕ) → DefinitionRead
items_read definitions b [] = Dropped b colon
items_read definitions b (text ∷ words) = elim (word_read (sense_of definitions text) b) [
  | GoesOn next ↦ items_read definitions next words
  | IsWhole body weight ↦ Whole body weight words
  | DoesNotFit ↦ Dropped b text
]
