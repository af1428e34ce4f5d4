-- What calls answer.
use Rattle.std.specs.Prelude.{◌≡◌, ◌≤◌, map, length, true, None, Result, Ok, Err}
use Rattle.forth_program.specs.ItemTrees.{tree_of}
use Rattle.host_state.specs.HostMemory.{is_here_within}
use Rattle.control_flow.specs.declared.parser.Parser.{Parser}
use Rattle.control_flow.specs.declared.source.ReadSource.{ReadSource}
use Rattle.control_flow.specs.declared.source.DefiningWord.{DefiningWord as CodedWord}
use Rattle.control_flow.specs.HostParts.{DefiningWord}
use Rattle.control_flow.specs.declared.refusal.SourceError.{SourceError}
use Rattle.control_flow.specs.declared.refusal.SourceError.TheVariants as error
use Rattle.control_flow.specs.ParseResult.{ParserState, ParseResult, Fine, Refused}
use Rattle.control_flow.specs.SourceText.{Source}

-- the place of a parser
abbrev pub parser_state : Parser → ParserState
parser_state c = record {
  rest = c.reader.rest;
  count = c.reader.count;
  weight = c.weight;
  nest = c.nest;
  entries = c.dictionary.pairs;
  definitions = c.definitions;
  host = c.host;
  does = c.does;
  words = c.words;
}

-- a parser that can go on: its reader has refused nothing, the weights are within the limit of the last data start, and HERE is in
-- data space
pub record IsReadyParser (c : Parser) : Type 0 where
  pub sound : c.reader.failed ≡ None
  pub light : c.weight ≤ 6304
  pub settled : is_here_within c.host.space ≡ true

abbrev pub defining_word_of : CodedWord → DefiningWord
defining_word_of word = record { items = word.items.items; part = word.part }

-- what is read so far
abbrev pub source_of : ReadSource → Source
source_of s = record {
  at = parser_state s.parser;
  names = s.names.items;
  bodies = map tree_of s.bodies.items;
  defining = map defining_word_of s.defining.items;
  before = s.before;
}

-- each definition has a name and a body, and each definition and each defining word is an entry
pub record IsCounted (s : ReadSource) : Type 0 where
  pub names : length s.names.items ≡ s.parser.definitions
  pub bodies : length s.bodies.items ≡ s.parser.definitions
  pub entries : s.parser.definitions ≤ length s.parser.dictionary.pairs
  pub defining : length s.defining.items ≤ length s.parser.dictionary.pairs

-- an error is the outcome, want of memory aside
abbrev pub FailsAs : {B : Type 0} → SourceError → ParseResult B → Type 0
FailsAs (error.Refused refusal) outcome = outcome ≡ Refused refusal.token refusal.cause
FailsAs error.OutOfMemory outcome = Unit {0}

-- an answer is the outcome, want of memory aside
abbrev pub AnswersAs : {A B : Type 0} → (A → B) → Result A SourceError → ParseResult B → Type 0
AnswersAs view (Ok x) outcome = outcome ≡ Fine (view x)
AnswersAs view (Err e) outcome = FailsAs e outcome
