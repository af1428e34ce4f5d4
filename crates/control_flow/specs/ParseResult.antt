-- Places of a source text, and what reading from one gives.
use Rattle.std.specs.Prelude.{ℕ, ◌+◌, ◌-◌, ◌/◌, nat_le, Bool, true, false, List}
use Rattle.word_table.specs.declared.word.Vocabulary.{Vocabulary}
use Rattle.forth_reader.specs.declared.refusal.ReadCause.{ReadCause}
use Rattle.forth_reader.specs.declared.refusal.ReadCause.TheVariants as read
use Rattle.dictionary_core.specs.Pairs.{Pair}
use Rattle.host_state.specs.declared.entry.Entry.{Entry}
use Rattle.host_state.specs.declared.refusal.HostRefusal.{HostRefusal}
use Rattle.host_state.specs.declared.refusal.HostRefusal.TheVariants as refusal
use Rattle.host_state.specs.HostCells.{Host, Reply, Gives, Refuses}
use Rattle.control_flow.specs.declared.nest.Open.{Open}
use Rattle.control_flow.specs.declared.refusal.SourceCause.{SourceCause}
use Rattle.control_flow.specs.declared.refusal.SourceCause.TheVariants as cause

-- where a source is read on, and what it has come to
pub record ParserState : Type 0 where
  -- the bytes that are left, and the number of tokens before them, comments too
  pub rest : List ℕ
  pub count : ℕ
  -- the sum of the weights so far
  pub weight : ℕ
  -- the open structures of the definition that is read, the innermost first
  pub nest : List Open
  -- the names that are defined, oldest first, each with what it stands for, and how many definitions there are
  pub entries : List (Pair Entry)
  pub definitions : ℕ
  -- what host words act on
  pub host : Host
  -- whether the part behind a DOES> is read, in which RECURSE cannot stand
  pub does : Bool
  -- the words that the text may use
  pub words : Vocabulary

-- a value, or the first refused token with its cause.
-- Endless stands for a text that is left when the fuel is spent; with more fuel than bytes it never comes.
pub data ParseResult (A : Type 0) : Type 0 where
  Fine : (value : A) → ParseResult A
  Refused : (token : ℕ) (cause : SourceCause) → ParseResult A
  Endless : ParseResult A

-- goes on with the value, where there is one
infixl 10 ◌>>=◌
abbrev pub ◌>>=◌ : {A B : Type 0} → ParseResult A → (A → ParseResult B) → ParseResult B
(Fine x) >>= f = f x
(Refused k c) >>= f = Refused k c
Endless >>= f = Endless

abbrev pub source_cause : ReadCause → SourceCause
source_cause read.NotText = cause.NotText
source_cause read.NameTooLong = cause.NameTooLong
source_cause read.OpenComment = cause.OpenComment
source_cause read.OpenString = cause.OpenString

abbrev pub host_cause : HostRefusal → SourceCause
host_cause refusal.NeedsName = cause.NeedsName
host_cause refusal.HostUnderflow = cause.HostUnderflow
host_cause refusal.BadSplit = cause.BadSplit
host_cause refusal.HostOverflow = cause.HostOverflow
host_cause refusal.DataFull = cause.DataFull

-- goes on with what a host word gives and the place with its state, or refuses the token with a number
abbrev pub hosted_as : {A B : Type 0} → ℕ → ParserState → Reply A → (A → ParserState → ParseResult B) → ParseResult B
hosted_as number at (Gives x s) next = next x (record at { host = s })
hosted_as number at (Refuses c) next = Refused number (host_cause c)

-- what all definitions weigh at most: the cells in front of data space, without 1,696 for the library and the start of the code
abbrev pub most_weight : ParserState → ℕ
most_weight at = at.host.space.data_start / 2 - 1696

-- the place with the weight more of the token with a number, within the limit
abbrev pub weighed_as : ℕ → ℕ → ParserState → ParseResult ParserState
weighed_as number weight at = elim (nat_le (at.weight + weight) (most_weight at)) [
  | true ↦ Fine (record at { weight = at.weight + weight })
  | false ↦ Refused number cause.CodeFull
]

-- the same for the last token
abbrev pub weighed : ℕ → ParserState → ParseResult ParserState
weighed weight at = weighed_as at.count weight at

-- a word that can stand only in a definition
abbrev pub only_inside : {A : Type 0} → ParserState → ParseResult A
only_inside at = Refused at.count cause.OnlyInDefinition

-- a word that cannot stand in a definition
abbrev pub forbidden : {A : Type 0} → ParserState → ParseResult A
forbidden at = Refused at.count cause.NotInDefinition

-- a word does not fit
abbrev pub unfit : {A : Type 0} → ParserState → ParseResult A
unfit at = Refused at.count cause.BadNest

-- what holds of the value, where there is one
abbrev pub Each : {A : Type 0} → (A → Type 0) → ParseResult A → Type 0
Each P (Fine x) = P x
Each P (Refused k c) = Unit {0}
Each P Endless = Unit {0}
