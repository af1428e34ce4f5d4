-- The next token of a place: by what it stands for, as a name, and with the text of a string word.
use Rattle.std.specs.Prelude.{ℕ, ◌+◌, List, [], ◌∷◌}
use Rattle.forth_reader.specs.Reading.{Reading, NoMore, Reads, Refuses, next_from, name_from, StringReading, Quoted, Unquoted, string_from}
use Rattle.host_state.specs.HostMemory.{base_of}
use Rattle.control_flow.specs.declared.refusal.SourceCause.TheVariants as cause
use Rattle.control_flow.specs.declared.host_sense.HostSense.{HostSense}
use Rattle.control_flow.specs.declared.sense.Sense.{Sense}
use Rattle.control_flow.specs.ParseResult.{ParserState, ParseResult, Fine, Refused, source_cause}
use Rattle.control_flow.specs.HostSense.{host_sense_in}
use Rattle.control_flow.specs.Sense.{sense_in}

-- the base in which numbers are read
abbrev pub base_at : ParserState → ℕ
base_at at = base_of at.host.space

-- a token that was read, by what it stands for, and where it ends
pub record ReadToken : Type 0 where
  pub sense : Sense
  pub at : ParserState

abbrev pub read_token_of : ParserState → Reading → ParseResult ReadToken
read_token_of at (NoMore tokens) = Refused (tokens + 1) cause.OpenDefinition
read_token_of at (Refuses number c) = Refused number (source_cause c)
read_token_of at (Reads token number rest) = Fine (record { sense = sense_in at.words at.entries (base_at at) token; at = record at { rest = rest; count = number } })

-- the next token of a definition
abbrev pub token_at : ParserState → ParseResult ReadToken
token_at at = read_token_of at (next_from at.count at.rest)

-- a token that was read in brackets, and where it ends
pub record HostToken : Type 0 where
  pub sense : HostSense
  pub at : ParserState

abbrev pub host_token_of : ParserState → Reading → ParseResult HostToken
host_token_of at (NoMore tokens) = Refused (tokens + 1) cause.OpenDefinition
host_token_of at (Refuses number c) = Refused number (source_cause c)
host_token_of at (Reads token number rest) = Fine (record { sense = host_sense_in at.words at.entries (base_at at) token; at = record at { rest = rest; count = number } })

-- the next token in brackets
abbrev pub host_token_at : ParserState → ParseResult HostToken
host_token_at at = host_token_of at (next_from at.count at.rest)

-- a token that was read as a name, and where it ends
pub record Named : Type 0 where
  pub name : List ℕ
  pub at : ParserState

abbrev pub spelled_of : ParserState → Reading → ParseResult Named
spelled_of at (NoMore tokens) = Refused (tokens + 1) cause.NeedsName
spelled_of at (Refuses number c) = Refused number (source_cause c)
spelled_of at (Reads token number rest) = Fine (record { name = token; at = record at { rest = rest; count = number } })

-- the next token, read as a name
abbrev pub spelled_at : ParserState → ParseResult Named
spelled_at at = spelled_of at (name_from at.count at.rest)

-- the byte with which a name begins
abbrev pub first_byte : List ℕ → ℕ
first_byte [] = 0
first_byte (byte ∷ bytes) = byte

-- the text of the string word that was read last, and where its quote ends
pub record Quotation : Type 0 where
  pub text : List ℕ
  pub at : ParserState

abbrev pub quotation_of : ParserState → StringReading → ParseResult Quotation
quotation_of at (Quoted text rest) = Fine (record { text = text; at = record at { rest = rest } })
quotation_of at (Unquoted c) = Refused at.count (source_cause c)

abbrev pub quotation_at : ParserState → ParseResult Quotation
quotation_at at = quotation_of at (string_from at.rest)
