-- What a reading keeps between pieces.
use Rattle.std.specs.Prelude.{◌≡◌, ℕ, ◌≤◌, List, length, take, Option, Some, None}
use Rattle.control_flow.specs.declared.source.ReadSource.{ReadSource}
use Rattle.control_flow.specs.declared.pieces.SourceMark.{SourceMark}
use Rattle.control_flow.specs.ParseResult.{Fine}
use Rattle.control_flow.specs.Answers.{source_of, IsReadyParser, IsCounted}
use Rattle.control_flow.specs.Pieces.{source_of_text}

-- a list begins with another one
abbrev pub BeginsWith : {A : Type 0} → List A → List A → Type 0
BeginsWith front list = take (length front) list ≡ front

-- a source is an earlier one with more
pub record Grows (old new : ReadSource) : Type 0 where
  pub names : BeginsWith old.names.items new.names.items
  pub bodies : BeginsWith old.bodies.items new.bodies.items
  pub defining : BeginsWith old.defining.items new.defining.items
  pub entries : BeginsWith old.parser.dictionary.pairs new.parser.dictionary.pairs

-- what a source was
pub record IsMark (mark : SourceMark) (source : ReadSource) : Type 0 where
  pub count : mark.count ≡ source.parser.reader.count
  pub weight : mark.weight ≡ source.parser.weight
  pub nest : mark.nest ≡ source.parser.nest
  pub entries : mark.entries.0 ≡ length source.parser.dictionary.pairs
  pub definitions : mark.definitions ≡ source.parser.definitions
  pub host : mark.host ≡ source.parser.host
  pub does : mark.does ≡ source.parser.does
  pub words : mark.words ≡ source.parser.words
  pub names : mark.names ≡ length source.names.items
  pub bodies : mark.bodies ≡ length source.bodies.items
  pub defining : mark.defining ≡ length source.defining.items
  pub before : mark.before ≡ source.before

-- a source that is read up to the end of the text, and can be read on
pub record IsReadTo (text : List ℕ) (source : ReadSource) : Type 0 where
  pub short : length text ≤ 65536
  pub read : source_of_text text ≡ Fine (source_of source)
  pub ready : IsReadyParser source.parser
  pub counted : IsCounted source

abbrev pub KeepsRead : List ℕ → Option ReadSource → Type 0
KeepsRead text None = ⊥
KeepsRead text (Some source) = IsReadTo text source
