-- Host words between `[` and `]`: numbers, constants, created addresses and plain host words.
use Rattle.std.specs.Prelude.{ℕ, zero, suc}
use Rattle.host_state.specs.declared.word.HostItem.{HostItem}
use Rattle.host_state.specs.HostMemory.{checked}
use Rattle.host_state.specs.Naming.{item_done}
use Rattle.control_flow.specs.declared.refusal.SourceCause.{SourceCause}
use Rattle.control_flow.specs.declared.refusal.SourceCause.TheVariants as cause
use Rattle.control_flow.specs.declared.host_sense.HostSense.{HostSense}
use Rattle.control_flow.specs.declared.host_sense.HostSense.TheVariants.{Acts, Closes, Ends, Does, Quoted, OutOfRange, Unknown, Forbidden}
use Rattle.control_flow.specs.ParseResult.{ParserState, ParseResult, Fine, Refused, Endless, ◌>>=◌, hosted_as, forbidden}
use Rattle.control_flow.specs.ReadTokens.{host_token_at, quotation_at}

-- a number or a host word acts at once, and HERE is then looked at
abbrev pub acted_at : HostItem → ParserState → ParseResult ParserState
acted_at item at = hosted_as at.count at (checked (item_done item at.host)) (λ _ after. Fine after)

-- a string word reads its text, and cannot stand here
abbrev pub quoted_at : {A : Type 0} → SourceCause → ParserState → ParseResult A
quoted_at c at = quotation_at at >>= λ quotation. Refused quotation.at.count c

abbrev pub bracket_by : (ParserState → ParseResult ParserState) → ParserState → HostSense → ParseResult ParserState
bracket_by go at (Acts item) = acted_at item at >>= go
bracket_by go at Closes = Fine at
bracket_by go at Ends = forbidden at
bracket_by go at Does = forbidden at
bracket_by go at Quoted = quoted_at cause.NotInDefinition at
bracket_by go at OutOfRange = Refused at.count cause.NumberRange
bracket_by go at Unknown = Refused at.count cause.UnknownWord
bracket_by go at Forbidden = forbidden at

-- from behind a `[` to behind its `]`, where fewer than n tokens are read
unfoldable pub bracket_at : ℕ → ParserState → ParseResult ParserState
bracket_at zero at = Endless
bracket_at (suc n) at = host_token_at at >>= λ seen. bracket_by (bracket_at n) seen.at seen.sense
