-- The host part of a defining word: what stands behind its CREATE, up to `DOES>` or the `;`. It is done where the word is used.
use Rattle.std.specs.Prelude.{ℕ, zero, suc, Bool, true, false, List, [], ◌∷◌, Option}
use Rattle.host_state.specs.declared.word.HostWord.{HostWord}
use Rattle.host_state.specs.declared.word.HostWord.TheVariants as host
use Rattle.host_state.specs.declared.word.HostItem.{HostItem}
use Rattle.host_state.specs.declared.word.HostItem.TheVariants as item
use Rattle.control_flow.specs.declared.refusal.SourceCause.TheVariants as cause
use Rattle.control_flow.specs.declared.host_sense.HostSense.{HostSense}
use Rattle.control_flow.specs.declared.host_sense.HostSense.TheVariants.{Acts, Closes, Ends, Does, Quoted, OutOfRange, Unknown, Forbidden}
use Rattle.control_flow.specs.ParseResult.{ParserState, ParseResult, Fine, Refused, Endless, ◌>>=◌, forbidden}
use Rattle.control_flow.specs.ReadTokens.{host_token_at}
use Rattle.control_flow.specs.Brackets.{quoted_at}

-- a defining word: its host part, and the definition behind its DOES> where it has one
pub record DefiningWord : Type 0 where
  pub items : List HostItem
  pub part : Option ℕ

-- numbers and host words, whether `DOES>` ends them, and where they end
pub record HostPart : Type 0 where
  pub items : List HostItem
  pub does : Bool
  pub at : ParserState

abbrev pub is_to_body : HostWord → Bool
is_to_body host.ToBody = true
is_to_body word = false

-- `>BODY` stands in brackets and outside definitions alone
abbrev pub may_be_part : HostItem → Bool
may_be_part (item.Number x) = true
may_be_part (item.Word word) = elim (is_to_body word) [ true ↦ false | false ↦ true ]

-- the same part with an item in front
abbrev pub with_item : HostItem → HostPart → HostPart
with_item one part = record part { items = one ∷ part.items }

abbrev pub host_part_by : (ParserState → ParseResult HostPart) → ParserState → HostSense → ParseResult HostPart
host_part_by go at (Acts one) = elim (may_be_part one) [ true ↦ go at >>= λ part. Fine (with_item one part) | false ↦ forbidden at ]
host_part_by go at Closes = forbidden at
host_part_by go at Ends = Fine (record { items = []; does = false; at = at })
host_part_by go at Does = Fine (record { items = []; does = true; at = at })
host_part_by go at Quoted = quoted_at cause.NotInDefinition at
host_part_by go at OutOfRange = Refused at.count cause.NumberRange
host_part_by go at Unknown = Refused at.count cause.UnknownWord
host_part_by go at Forbidden = forbidden at

-- from behind the CREATE on, where fewer than n tokens are read
unfoldable pub host_part_at : ℕ → ParserState → ParseResult HostPart
host_part_at zero at = Endless
host_part_at (suc n) at = host_token_at at >>= λ seen. host_part_by (host_part_at n) seen.at seen.sense
