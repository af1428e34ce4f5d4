-- What words do outside definitions that read a name, or that say where data space begins (ANS Forth Core, and CODE-CELLS).
use Rattle.std.specs.Prelude.{ℕ, ◌-◌, nat_lt, Bool, true, false, List, [], ◌∷◌, ◌++◌, length, Option, Some, None, Result, Ok, Err}
use Rattle.word_table.specs.declared.word.Word.{Word}
use Rattle.word_table.specs.declared.word.Word.TheVariants.{Colon, Semicolon, Paren, Backslash, DotQuote, SQuote, AbortQuote}
use Rattle.word_table.specs.Names.{word_named}
use Rattle.dictionary_core.specs.Pairs.{pair}
use Rattle.host_state.specs.declared.entry.Known.{Known}
use Rattle.host_state.specs.declared.entry.Known.TheVariants as known
use Rattle.host_state.specs.declared.entry.Ticked.{Ticked}
use Rattle.host_state.specs.HostCells.{Host, Reply, Gives, ◌▸◌, pop, push}
use Rattle.host_state.specs.HostMemory.{checked}
use Rattle.host_state.specs.Naming.{created, variable, defined_by, tick, code_cells}
use Rattle.control_flow.specs.declared.refusal.SourceCause.{SourceCause}
use Rattle.control_flow.specs.declared.refusal.SourceCause.TheVariants as cause
use Rattle.control_flow.specs.ParseResult.{ParserState, ParseResult, Fine, Refused, ◌>>=◌, hosted_as, weighed_as}
use Rattle.control_flow.specs.Ticks.{ticked_in, tick_weight}
use Rattle.control_flow.specs.ReadTokens.{Named, spelled_at, first_byte}
use Rattle.control_flow.specs.HostParts.{DefiningWord}

-- the words whose names cannot be defined
abbrev pub is_reserved : Word → Bool
is_reserved Colon = true
is_reserved Semicolon = true
is_reserved Paren = true
is_reserved Backslash = true
is_reserved DotQuote = true
is_reserved SQuote = true
is_reserved AbortQuote = true
is_reserved word = false

abbrev pub is_reserved_name : Option Word → Bool
is_reserved_name (Some word) = is_reserved word
is_reserved_name None = false

-- a name can be defined, and is not the 513th
abbrev pub definable : Named → ParseResult Named
definable named = elim (is_reserved_name (word_named named.name)) [
  | true ↦ Refused named.at.count cause.NeedsName
  | false ↦ elim (nat_lt (length named.at.entries) 512) [ true ↦ Fine named | false ↦ Refused named.at.count cause.TooManyWords ]
]

-- the name behind `:` or behind another word that defines it
abbrev pub name_at : ParserState → ParseResult Named
name_at at = spelled_at at >>= definable

-- a name is found from here on
abbrev pub with_name : List ℕ → Known → ParserState → ParserState
with_name name k at = record at { entries = at.entries ++ pair name (record { number = length at.entries; known = k }) ∷ [] }

-- a name that was read behind the token with a number stands for what its word then gives; HERE is then looked at
abbrev pub named_as : ℕ → Named → (ℕ → Known) → Reply ℕ → ParseResult ParserState
named_as number named kind reply = hosted_as number named.at reply (λ x after. Fine (with_name named.name (kind x) after))

-- CONSTANT takes its cell before it reads the name
abbrev pub constant_at : ParserState → ParseResult ParserState
constant_at at = hosted_as at.count at (pop at.host) (λ x after. name_at after >>= λ named. Fine (with_name named.name (known.Constant x) named.at))

-- VARIABLE and CREATE
abbrev pub variable_at : ParserState → ParseResult ParserState
variable_at at = name_at at >>= λ named. named_as at.count named (λ address. known.Address address) (checked (variable named.at.host))

abbrev pub create_at : ParserState → ParseResult ParserState
create_at at = name_at at >>= λ named. named_as at.count named (λ address. known.Address address) (checked (created named.at.host))

-- a child has the part behind DOES>, where there is one, and else is a created address
abbrev pub child_of : Option ℕ → ℕ → Known
child_of (Some part) address = known.Child part address
child_of None address = known.Address address

-- a defining word: the address of the name, and then the host part
abbrev pub child_at : DefiningWord → ParserState → ParseResult ParserState
child_at word at = name_at at >>= λ named. named_as at.count named (child_of word.part) (checked (defined_by word.items named.at.host))

-- `'` reads a name, and puts its execution token on the host stack
abbrev pub token_put : Ticked → Host → Reply (ℕ × Bool)
token_put one s = tick one s ▸ λ token s. push token.0 s ▸ λ _. Gives token

-- it weighs what the tick of a definition weighs, less the number that stands there
abbrev pub outside_ticked_as : ℕ → Named → Result Ticked SourceCause → ParseResult ParserState
outside_ticked_as number named (Err c) = Refused named.at.count c
outside_ticked_as number named (Ok one) = hosted_as number named.at (token_put one named.at.host) (λ token. weighed_as number (tick_weight one token.1 - 2))

abbrev pub outside_tick_at : ParserState → ParseResult ParserState
outside_tick_at at = spelled_at at >>= λ named. outside_ticked_as at.count named (ticked_in named.at.words named.at.entries named.name)

-- CHAR reads a name, and puts its first byte on the host stack
abbrev pub outside_char_at : ParserState → ParseResult ParserState
outside_char_at at = spelled_at at >>= λ named. hosted_as at.count named.at (push (first_byte named.name) named.at.host) (λ _ after. Fine after)

-- CODE-CELLS says how many cells stand in front of data space
abbrev pub code_cells_at : Bool → ParserState → ParseResult ParserState
code_cells_at is_due at = hosted_as at.count at (code_cells is_due at.host) (λ _ after. Fine after)
