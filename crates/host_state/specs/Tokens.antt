-- Execution tokens: 1, 2, 3 and on, in the order in which words are first ticked.
use Rattle.std.specs.Prelude.{ℕ, ◌+◌, ◌-◌, ◌==◌, Bool, true, false, List, [], ◌∷◌, Option, Some, None, slice_get}
use Rattle.std.specs.Str.{bytes_eq}
use Rattle.word_table.specs.Names.{name_of}
use Rattle.host_state.specs.declared.entry.Known.{Known}
use Rattle.host_state.specs.declared.entry.Known.TheVariants.{Definition, Constant, Address, Child, Defining}
use Rattle.host_state.specs.declared.entry.Ticked.{Ticked}
use Rattle.host_state.specs.declared.entry.Ticked.TheVariants as ticked

-- the data address of a created address or of a child
abbrev pub known_address : Known → Option ℕ
known_address (Address address) = Some address
known_address (Child part address) = Some address
known_address (Definition number) = None
known_address (Constant x) = None
known_address (Defining number) = None

abbrev pub data_address : Ticked → Option ℕ
data_address (ticked.Word word) = None
data_address (ticked.Entry entry) = known_address entry.known

abbrev pub address_of : Option Ticked → Option ℕ
address_of None = None
address_of (Some one) = data_address one

-- the data address of a token; token 1 stands first
abbrev pub body_of : List Ticked → ℕ → Option ℕ
body_of tokens token = elim (token == 0) [ true ↦ None | false ↦ address_of (slice_get tokens (token - 1)) ]

-- whether two ticks are of one word: entries by their number, words of the table by their name
abbrev pub is_same : Ticked → Ticked → Bool
is_same (ticked.Word a) (ticked.Word b) = bytes_eq (name_of a) (name_of b)
is_same (ticked.Entry a) (ticked.Entry b) = a.number == b.number
is_same (ticked.Word a) (ticked.Entry b) = false
is_same (ticked.Entry a) (ticked.Word b) = false

-- the token that a word already has, where the first of these tokens has this number
abbrev pub token_from : ℕ → Ticked → List Ticked → Option ℕ
token_from number one [] = None
token_from number one (other ∷ tokens) = elim (is_same one other) [ true ↦ Some number | false ↦ token_from (number + 1) one tokens ]

abbrev pub token_of : Ticked → List Ticked → Option ℕ
token_of one tokens = token_from 1 one tokens
