-- What a name stands for that is ticked, and what its execution token weighs.
use Rattle.std.specs.Prelude.{ℕ, ◌+◌, Bool, true, false, List, [], ◌∷◌, map, Option, Some, None, Result, Ok, Err}
use Rattle.word_table.specs.declared.word.Word.{Word}
use Rattle.word_table.specs.declared.word.Vocabulary.{Vocabulary}
use Rattle.word_table.specs.Names.{word_in}
use Rattle.forth_program.specs.Tree.{Node, Literal, Plain, Call, Child}
use Rattle.forth_program.specs.Form.{may_be_token}
use Rattle.forth_program.specs.Weight.{token_weight}
use Rattle.dictionary_core.specs.Pairs.{Pair, newest_value}
use Rattle.host_state.specs.declared.entry.Entry.{Entry}
use Rattle.host_state.specs.declared.entry.Known.{Known}
use Rattle.host_state.specs.declared.entry.Known.TheVariants as known
use Rattle.host_state.specs.declared.entry.Ticked.{Ticked}
use Rattle.host_state.specs.declared.entry.Ticked.TheVariants as ticked
use Rattle.control_flow.specs.declared.refusal.SourceCause.{SourceCause}
use Rattle.control_flow.specs.declared.refusal.SourceCause.TheVariants as cause

-- a defining word has no token
abbrev pub known_ticked : Entry → Known → Result Ticked SourceCause
known_ticked entry (known.Defining number) = Err cause.NeedsName
known_ticked entry k = Ok (ticked.Entry entry)

-- of the table, words of class inline and library have one, but EXECUTE and GO have none
abbrev pub word_ticked : Option Word → Result Ticked SourceCause
word_ticked (Some word) = elim (may_be_token (Plain word)) [ true ↦ Ok (ticked.Word word) | false ↦ Err cause.NeedsName ]
word_ticked None = Err cause.UnknownWord

abbrev pub ticked_in : Vocabulary → List (Pair Entry) → List ℕ → Result Ticked SourceCause
ticked_in words entries name = elim (newest_value entries name) [ Some entry ↦ known_ticked entry entry.known | None ↦ word_ticked (word_in words name) ]

-- what EXECUTE does with the token of a name; a defining word has none
abbrev pub known_node : Known → Node
known_node (known.Definition definition) = Call definition
known_node (known.Constant x) = Literal x
known_node (known.Address address) = Literal address
known_node (known.Child part address) = Child part address
known_node (known.Defining number) = Literal 0

abbrev pub ticked_node : Ticked → Node
ticked_node (ticked.Word word) = Plain word
ticked_node (ticked.Entry entry) = known_node entry.known

-- the first tick of a word weighs more
abbrev pub tick_weight : Ticked → Bool → ℕ
tick_weight one true = 2 + token_weight (ticked_node one)
tick_weight one false = 2

-- the items of tokens, and what their first ticks weigh
abbrev pub token_nodes : List Ticked → List Node
token_nodes tokens = map ticked_node tokens

abbrev pub tokens_weight : List Node → ℕ
tokens_weight [] = 0
tokens_weight (node ∷ nodes) = token_weight node + tokens_weight nodes
