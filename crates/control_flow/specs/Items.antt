-- The items of a definition, up to the word that ends them (the control-flow stack of ANS Forth).
use Rattle.std.specs.Prelude.{ℕ, zero, suc, true, false, List, length, Result, Ok, Err}
use Rattle.word_table.specs.declared.word.Word.{Word}
use Rattle.word_table.specs.declared.word.Word.TheVariants as word
use Rattle.word_table.specs.Table.{entry_of}
use Rattle.forth_program.specs.declared.item.TextKind.{TextKind}
use Rattle.forth_program.specs.declared.item.TextKind.TheVariants as text
use Rattle.forth_program.specs.Tree.{Node, Nodes, Arms, Literal, Plain, Call, Child, Text, If, Until, While, Again, Do, QDo, Case, Leave, Exit, Empty, Then, NoArm, Arm}
use Rattle.host_state.specs.declared.entry.Ticked.{Ticked}
use Rattle.host_state.specs.HostCells.{pop}
use Rattle.host_state.specs.HostMemory.{checked}
use Rattle.host_state.specs.Naming.{tick, string_laid}
use Rattle.control_flow.specs.declared.refusal.SourceCause.{SourceCause}
use Rattle.control_flow.specs.declared.refusal.SourceCause.TheVariants as cause
use Rattle.control_flow.specs.declared.nest.Open.{Open}
use Rattle.control_flow.specs.declared.nest.Opening.{Opening}
use Rattle.control_flow.specs.declared.nest.Opening.TheVariants as opening
use Rattle.control_flow.specs.declared.nest.Ending.{Ending}
use Rattle.control_flow.specs.declared.nest.Ending.TheVariants as ending
use Rattle.control_flow.specs.declared.sense.Sense.{Sense}
use Rattle.control_flow.specs.declared.sense.Sense.TheVariants as sense
use Rattle.control_flow.specs.Nest.{open_of, with_open, nest_ended, is_inside_do}
use Rattle.control_flow.specs.Sense.{opening_word, ending_word}
use Rattle.control_flow.specs.Ticks.{ticked_in, tick_weight}
use Rattle.control_flow.specs.ReadTokens.{token_at, Named, spelled_at, first_byte, quotation_at}
use Rattle.control_flow.specs.Brackets.{bracket_at}
use Rattle.control_flow.specs.ParseResult.{ParserState, ParseResult, Fine, Refused, Endless, ◌>>=◌, hosted_as, weighed_as, weighed, forbidden, unfit}

-- an item, and where it ends
pub record One : Type 0 where
  pub node : Node
  pub at : ParserState

-- items, the word that ends them, and where that word ends
pub record Many : Type 0 where
  pub nodes : Nodes
  pub ending : Ending
  pub at : ParserState

-- the body of an arm, and where its ENDOF ends
pub record Body : Type 0 where
  pub nodes : Nodes
  pub at : ParserState

-- the arms of a CASE, the items behind them, and where its ENDCASE ends
pub record Cases : Type 0 where
  pub arms : Arms
  pub rest : Nodes
  pub at : ParserState

-- what the nest says of a word
abbrev pub nested : ParserState → Result (List Open) SourceCause → ParseResult ParserState
nested at (Ok nest) = Fine (record at { nest = nest })
nested at (Err c) = Refused at.count c

-- a word that opens a structure, or ends a list of items, with its weight
abbrev pub opened_at : Opening → ParserState → ParseResult ParserState
opened_at o at = nested at (with_open (open_of o) at.nest) >>= weighed (entry_of (opening_word o)).weight

abbrev pub ended_at : Ending → ParserState → ParseResult ParserState
ended_at e at = nested at (nest_ended at.nest e) >>= weighed (entry_of (ending_word e)).weight

-- ---- structures, behind the word that opens them; `go` reads items up to the word that ends them

abbrev pub else_by : Nodes → Nodes → ParserState → Ending → ParseResult One
else_by first second at ending.Then = Fine (record { node = If first second; at = at })
else_by first second at e = unfit at

abbrev pub if_by : (ParserState → ParseResult Many) → Nodes → ParserState → Ending → ParseResult One
if_by go first at ending.Then = Fine (record { node = If first Empty; at = at })
if_by go first at ending.Else = go at >>= λ second. else_by first second.nodes second.at second.ending
if_by go first at e = unfit at

abbrev pub if_at : (ParserState → ParseResult Many) → ParserState → ParseResult One
if_at go at = go at >>= λ first. if_by go first.nodes first.at first.ending

abbrev pub while_by : Nodes → Nodes → ParserState → Ending → ParseResult One
while_by test body at ending.Repeat = Fine (record { node = While test body; at = at })
while_by test body at e = unfit at

abbrev pub begin_by : (ParserState → ParseResult Many) → Nodes → ParserState → Ending → ParseResult One
begin_by go first at ending.Until = Fine (record { node = Until first; at = at })
begin_by go first at ending.Again = Fine (record { node = Again first; at = at })
begin_by go first at ending.While = go at >>= λ body. while_by first body.nodes body.at body.ending
begin_by go first at e = unfit at

abbrev pub begin_at : (ParserState → ParseResult Many) → ParserState → ParseResult One
begin_at go at = go at >>= λ first. begin_by go first.nodes first.at first.ending

abbrev pub do_by : Nodes → ParserState → Ending → ParseResult One
do_by body at ending.Loop = Fine (record { node = Do body false; at = at })
do_by body at ending.PlusLoop = Fine (record { node = Do body true; at = at })
do_by body at e = unfit at

abbrev pub do_at : (ParserState → ParseResult Many) → ParserState → ParseResult One
do_at go at = go at >>= λ body. do_by body.nodes body.at body.ending

abbrev pub q_do_by : Nodes → ParserState → Ending → ParseResult One
q_do_by body at ending.Loop = Fine (record { node = QDo body false; at = at })
q_do_by body at ending.PlusLoop = Fine (record { node = QDo body true; at = at })
q_do_by body at e = unfit at

abbrev pub q_do_at : (ParserState → ParseResult Many) → ParserState → ParseResult One
q_do_at go at = go at >>= λ body. q_do_by body.nodes body.at body.ending

-- the body of an arm, behind its OF
abbrev pub body_by : Nodes → ParserState → Ending → ParseResult Body
body_by nodes at ending.EndOf = Fine (record { nodes = nodes; at = at })
body_by nodes at e = unfit at

abbrev pub body_at : (ParserState → ParseResult Many) → ParserState → ParseResult Body
body_at go at = go at >>= λ body. body_by body.nodes body.at body.ending

-- an arm in front
abbrev pub with_arm : Nodes → Nodes → Cases → Cases
with_arm tests body cases = record cases { arms = Arm tests body cases.arms }

-- an arm and the others, or the end of the case
abbrev pub arms_by : (ParserState → ParseResult Many) → (ParserState → ParseResult Cases) → Nodes → ParserState → Ending → ParseResult Cases
arms_by go others tests at ending.Of = body_at go at >>= λ body. others body.at >>= λ cases. Fine (with_arm tests body.nodes cases)
arms_by go others tests at ending.EndCase = Fine (record { arms = NoArm; rest = tests; at = at })
arms_by go others tests at e = unfit at

-- fewer than m arms
abbrev pub arms_at : (ParserState → ParseResult Many) → ℕ → ParserState → ParseResult Cases
arms_at go zero at = Endless
arms_at go (suc m) at = go at >>= λ tests. arms_by go (arms_at go m) tests.nodes tests.at tests.ending

abbrev pub case_at : (ParserState → ParseResult Many) → ℕ → ParserState → ParseResult One
case_at go m at = arms_at go m at >>= λ cases. Fine (record { node = Case cases.arms cases.rest; at = cases.at })

abbrev pub structure_at : (ParserState → ParseResult Many) → ℕ → Opening → ParserState → ParseResult One
structure_at go m opening.If at = if_at go at
structure_at go m opening.Begin at = begin_at go at
structure_at go m opening.Do at = do_at go at
structure_at go m opening.QDo at = q_do_at go at
structure_at go m opening.Case at = case_at go m at

-- ---- items

-- an item that ends here, with the weight of the token with a number
abbrev pub alone_as : ℕ → ℕ → Node → ParserState → ParseResult One
alone_as number weight node at = weighed_as number weight at >>= λ after. Fine (record { node = node; at = after })

-- the same for the last token
abbrev pub alone : ℕ → Node → ParserState → ParseResult One
alone weight node at = alone_as at.count weight node at

-- [CHAR] reads a name, and is its first byte
abbrev pub char_at : ParserState → ParseResult One
char_at at = spelled_at at >>= λ named. alone_as at.count (entry_of word.BracketChar).weight (Literal (first_byte named.name)) named.at

-- the word of a text
abbrev pub quoting_word : TextKind → Word
quoting_word text.Address = word.SQuote
quoting_word text.Print = word.DotQuote
quoting_word text.Abort = word.AbortQuote

-- a string word lays its text at HERE, which is then looked at
abbrev pub text_at : TextKind → ParserState → ParseResult One
text_at kind at = quotation_at at >>= λ quotation.
    hosted_as quotation.at.count quotation.at (checked (string_laid quotation.text quotation.at.host)) (λ address. alone (entry_of (quoting_word kind)).weight (Text kind address (length quotation.text)))

abbrev pub ticked_as : ℕ → Named → Result Ticked SourceCause → ParseResult One
ticked_as number named (Err c) = Refused named.at.count c
ticked_as number named (Ok one) = hosted_as number named.at (tick one named.at.host) (λ token. alone_as number (tick_weight one token.1) (Literal token.0))

-- ['] reads a name, and is its execution token
abbrev pub tick_at : ParserState → ParseResult One
tick_at at = spelled_at at >>= λ named. ticked_as at.count named (ticked_in named.at.words named.at.entries named.name)

-- LITERAL takes a cell from the host stack
abbrev pub literal_at : ParserState → ParseResult One
literal_at at = hosted_as at.count at (pop at.host) (λ x. alone (entry_of word.Literal).weight (Literal x))

-- the item that begins with a token of this sense, which ends at the place
abbrev pub item_at : (ParserState → ParseResult Many) → ℕ → ParserState → Sense → ParseResult One
item_at go m at (sense.Number value) = alone 2 (Literal value) at
item_at go m at (sense.Plain w) = alone (entry_of w).weight (Plain w) at
item_at go m at (sense.Calls definition) = alone 1 (Call definition) at
item_at go m at (sense.Inherits part address) = alone 2 (Child part address) at
item_at go m at sense.Recurses = elim at.does [ true ↦ forbidden at | false ↦ alone (entry_of word.Recurse).weight (Call at.definitions) at ]
item_at go m at (sense.Opens o) = opened_at o at >>= structure_at go m o
item_at go m at (sense.Ends e) = unfit at
item_at go m at sense.Leaves = elim (is_inside_do at.nest) [ true ↦ alone (entry_of word.Leave).weight Leave at | false ↦ unfit at ]
item_at go m at sense.Exits = alone (entry_of word.Exit).weight Exit at
item_at go m at sense.Spells = char_at at
item_at go m at (sense.Quotes kind) = text_at kind at
item_at go m at sense.Ticks = tick_at at
item_at go m at sense.Takes = literal_at at
item_at go m at sense.Brackets = unfit at
item_at go m at sense.Creates = forbidden at
item_at go m at sense.Forbidden = forbidden at
item_at go m at sense.Unfit = unfit at
item_at go m at sense.OutOfRange = Refused at.count cause.NumberRange
item_at go m at sense.Unknown = Refused at.count cause.UnknownWord

-- the item, and those behind it
abbrev pub then_items : (ParserState → ParseResult Many) → ParseResult One → ParseResult Many
then_items go first = first >>= λ one. go one.at >>= λ many. Fine (record many { nodes = Then one.node many.nodes })

-- the items that begin with a token of this sense; brackets are no item
abbrev pub items_by : (ParserState → ParseResult Many) → ℕ → ParserState → Sense → ParseResult Many
items_by go m at (sense.Ends e) = ended_at e at >>= λ after. Fine (record { nodes = Empty; ending = e; at = after })
items_by go m at sense.Brackets = bracket_at m at >>= go
items_by go m at (sense.Number value) = then_items go (item_at go m at (sense.Number value))
items_by go m at (sense.Plain w) = then_items go (item_at go m at (sense.Plain w))
items_by go m at (sense.Calls definition) = then_items go (item_at go m at (sense.Calls definition))
items_by go m at (sense.Inherits part address) = then_items go (item_at go m at (sense.Inherits part address))
items_by go m at sense.Recurses = then_items go (item_at go m at sense.Recurses)
items_by go m at (sense.Opens o) = then_items go (item_at go m at (sense.Opens o))
items_by go m at sense.Leaves = then_items go (item_at go m at sense.Leaves)
items_by go m at sense.Exits = then_items go (item_at go m at sense.Exits)
items_by go m at sense.Spells = then_items go (item_at go m at sense.Spells)
items_by go m at (sense.Quotes kind) = then_items go (item_at go m at (sense.Quotes kind))
items_by go m at sense.Ticks = then_items go (item_at go m at sense.Ticks)
items_by go m at sense.Takes = then_items go (item_at go m at sense.Takes)
items_by go m at sense.Creates = then_items go (item_at go m at sense.Creates)
items_by go m at sense.Forbidden = then_items go (item_at go m at sense.Forbidden)
items_by go m at sense.Unfit = then_items go (item_at go m at sense.Unfit)
items_by go m at sense.OutOfRange = then_items go (item_at go m at sense.OutOfRange)
items_by go m at sense.Unknown = then_items go (item_at go m at sense.Unknown)

-- the items from a place on, where fewer than n tokens are read
unfoldable pub items_at : ℕ → ParserState → ParseResult Many
items_at zero at = Endless
items_at (suc n) at = token_at at >>= λ seen. items_by (items_at n) n seen.at seen.sense
