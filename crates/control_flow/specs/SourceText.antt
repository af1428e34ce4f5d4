-- The program of a source text: definitions, and what is done outside them.
use Rattle.std.specs.Prelude.{ℕ, zero, suc, ◌+◌, List, [], ◌∷◌, ◌++◌, length, Bool, true, false, Option, Some, None, codes, slice_get}
use Rattle.word_table.specs.declared.word.Vocabulary.{Vocabulary}
use Rattle.word_table.specs.declared.word.Vocabulary.TheVariants as vocabulary
use Rattle.forth_program.specs.Tree.{Nodes}
use Rattle.forth_program.specs.Program.{SourceProgram}
use Rattle.forth_reader.specs.Reading.{Reading, NoMore, Reads, Refuses, next_from}
use Rattle.dictionary_core.specs.Pairs.{newest_value}
use Rattle.host_state.specs.declared.entry.Entry.{Entry}
use Rattle.host_state.specs.declared.entry.Known.{Known}
use Rattle.host_state.specs.declared.entry.Known.TheVariants as known
use Rattle.host_state.specs.declared.word.HostItem.{HostItem}
use Rattle.host_state.specs.HostCells.{Host}
use Rattle.host_state.specs.HostMemory.{first_space}
use Rattle.host_state.specs.FirstImage.{image_of}
use Rattle.control_flow.specs.declared.refusal.SourceCause.TheVariants as cause
use Rattle.control_flow.specs.declared.nest.Ending.{Ending}
use Rattle.control_flow.specs.declared.nest.Ending.TheVariants as ending
use Rattle.control_flow.specs.declared.before.Before.{Before}
use Rattle.control_flow.specs.declared.before.Before.TheVariants as before
use Rattle.control_flow.specs.declared.outside_sense.OutsideSense.{OutsideSense}
use Rattle.control_flow.specs.declared.outside_sense.OutsideSense.TheVariants.{Begins, Acts, NamesConstant, NamesVariable, NamesAddress, NamesChild, Ticks, Spells, Splits, Quoted, OutOfRange, Unknown, Forbidden}
use Rattle.control_flow.specs.ParseResult.{ParserState, ParseResult, Fine, Refused, Endless, ◌>>=◌, source_cause, unfit, only_inside}
use Rattle.control_flow.specs.Sense.{is_create}
use Rattle.control_flow.specs.Ticks.{token_nodes}
use Rattle.control_flow.specs.ReadTokens.{base_at, ReadToken, token_at, Named}
use Rattle.control_flow.specs.Brackets.{acted_at, quoted_at}
use Rattle.control_flow.specs.Items.{items_by, items_at}
use Rattle.control_flow.specs.HostParts.{DefiningWord, host_part_at}
use Rattle.control_flow.specs.OutsideSense.{is_number, outside_sense_in}
use Rattle.control_flow.specs.OutsideWords.{name_at, with_name, constant_at, variable_at, create_at, child_at, outside_tick_at, outside_char_at, code_cells_at}

-- what stands before a token outside definitions, comments aside, by whether the last is a number
abbrev pub before_by : Before → Bool → Before
before_by before.Nothing true = before.Number
before_by before.Nothing false = before.More
before_by before.Number is_number = before.More
before_by before.More is_number = before.More

abbrev pub before_next : Before → OutsideSense → Before
before_next before sense = before_by before (is_number sense)

-- CODE-CELLS is due behind one number
abbrev pub is_due : Before → Bool
is_due before.Nothing = false
is_due before.Number = true
is_due before.More = false

-- a source so far: where it is read on, the names and bodies of its definitions in their order, its defining words, and what stands before
pub record Source : Type 0 where
  pub at : ParserState
  pub names : List (List ℕ)
  pub bodies : List Nodes
  pub defining : List DefiningWord
  pub before : Before

-- ---- definitions

-- a body more, with its name
abbrev pub with_body : Source → List ℕ → Nodes → ParserState → Source
with_body source name nodes at = record source { at = record at { definitions = at.definitions + 1 }; names = source.names ++ name ∷ []; bodies = source.bodies ++ nodes ∷ [] }

-- a definition, whose name is found from here on
abbrev pub with_definition : Source → List ℕ → Nodes → ParserState → Source
with_definition source name nodes at = record (with_body source name nodes at) {
  at = with_name name (known.Definition at.definitions) (record at { definitions = at.definitions + 1 });
  before = before.More;
}

-- a definition ends with its `;`
abbrev pub ended_by : Source → List ℕ → Nodes → ParserState → Ending → ParseResult Source
ended_by source name nodes at ending.Semicolon = Fine (with_definition source name nodes at)
ended_by source name nodes at e = unfit at

-- a defining word, whose name is found from here on
abbrev pub with_defining : Source → List ℕ → List HostItem → Option ℕ → Source
with_defining source name items part = record source {
  at = record (with_name name (known.Defining (length source.defining)) source.at) { does = false };
  defining = source.defining ++ record { items = items; part = part } ∷ [];
  before = before.More;
}

-- the part behind DOES> is a body of its own, with the name of the defining word
abbrev pub part_by : Source → List ℕ → List HostItem → Nodes → ParserState → Ending → ParseResult Source
part_by source name items nodes at ending.Semicolon = Fine (with_defining (with_body source name nodes at) name items (Some at.definitions))
part_by source name items nodes at e = unfit at

-- a defining word, behind its CREATE
abbrev pub defining_at : ℕ → Source → List ℕ → ParserState → ParseResult Source
defining_at n source name at = host_part_at n at >>= λ part. elim part.does [
  | true ↦ items_at n (record part.at { does = true }) >>= λ many. part_by source name part.items many.nodes many.at many.ending
  | false ↦ Fine (with_defining (record source { at = part.at }) name part.items None)
]

-- a definition, by its first token
abbrev pub definition_by : ℕ → Source → List ℕ → ReadToken → ParseResult Source
definition_by n source name seen = elim (is_create seen.sense) [
  | true ↦ defining_at n source name seen.at
  | false ↦ items_by (items_at n) n seen.at seen.sense >>= λ many. ended_by source name many.nodes many.at many.ending
]

abbrev pub definition_named : ℕ → Source → Named → ParseResult Source
definition_named n source named = token_at named.at >>= definition_by n source named.name

-- a definition behind its `:`, where the source is read on at a place
abbrev pub definition_at : ℕ → Source → ParserState → ParseResult Source
definition_at n source at = name_at at >>= definition_named n source

-- ---- outside definitions

-- a token outside definitions, or none at the end of the text, and where it ends
pub record OutsideToken : Type 0 where
  pub sense : Option OutsideSense
  pub at : ParserState

abbrev pub outside_of : ParserState → Reading → ParseResult OutsideToken
outside_of at (NoMore tokens) = Fine (record { sense = None; at = record at { rest = []; count = tokens } })
outside_of at (Refuses number c) = Refused number (source_cause c)
outside_of at (Reads token number rest) = Fine (record { sense = Some (outside_sense_in at.words at.entries (base_at at) token); at = record at { rest = rest; count = number } })

abbrev pub outside_at : ParserState → ParseResult OutsideToken
outside_at at = outside_of at (next_from at.count at.rest)

-- the defining word with a number names a child; each defining word that is found has its number
abbrev pub child_by : Option DefiningWord → ParserState → ParseResult ParserState
child_by (Some word) at = child_at word at
child_by None at = only_inside at

-- the source behind what was done
abbrev pub resumed : Source → OutsideSense → ParserState → ParseResult Source
resumed source sense at = Fine (record source { at = at; before = before_next source.before sense })

-- what a token does at once, with the defining words that are there, and where CODE-CELLS is due
abbrev pub at_once_at : List DefiningWord → Bool → OutsideSense → ParserState → ParseResult ParserState
at_once_at defining due Begins at = only_inside at
at_once_at defining due (Acts item) at = acted_at item at
at_once_at defining due NamesConstant at = constant_at at
at_once_at defining due NamesVariable at = variable_at at
at_once_at defining due NamesAddress at = create_at at
at_once_at defining due (NamesChild number) at = child_by (slice_get defining number) at
at_once_at defining due Ticks at = outside_tick_at at
at_once_at defining due Spells at = outside_char_at at
at_once_at defining due Splits at = code_cells_at due at
at_once_at defining due Quoted at = quoted_at cause.OnlyInDefinition at
at_once_at defining due OutOfRange at = Refused at.count cause.NumberRange
at_once_at defining due Unknown at = Refused at.count cause.UnknownWord
at_once_at defining due Forbidden at = only_inside at

-- a definition, or what is done at once
abbrev pub outside_by : ℕ → Source → ParserState → OutsideSense → ParseResult Source
outside_by n source at Begins = definition_at n source at
outside_by n source at (Acts item) = acted_at item at >>= resumed source (Acts item)
outside_by n source at NamesConstant = constant_at at >>= resumed source NamesConstant
outside_by n source at NamesVariable = variable_at at >>= resumed source NamesVariable
outside_by n source at NamesAddress = create_at at >>= resumed source NamesAddress
outside_by n source at (NamesChild number) = child_by (slice_get source.defining number) at >>= resumed source (NamesChild number)
outside_by n source at Ticks = outside_tick_at at >>= resumed source Ticks
outside_by n source at Spells = outside_char_at at >>= resumed source Spells
outside_by n source at Splits = code_cells_at (is_due source.before) at >>= resumed source Splits
outside_by n source at Quoted = quoted_at cause.OnlyInDefinition at
outside_by n source at OutOfRange = Refused at.count cause.NumberRange
outside_by n source at Unknown = Refused at.count cause.UnknownWord
outside_by n source at Forbidden = only_inside at

-- the program of these definitions, whose source has so many tokens and leaves this for host words
abbrev pub program_with : List (List ℕ) → List Nodes → ℕ → ℕ → Host → SourceProgram
program_with names bodies main tokens host = record {
  names = names;
  bodies = bodies;
  main_body = main;
  tokens = token_nodes host.tokens;
  data_start = host.space.data_start;
  first_space = image_of host.space;
  source_tokens = tokens;
}

-- the definition that a name stands for
abbrev pub known_definition : Known → Option ℕ
known_definition (known.Definition definition) = Some definition
known_definition k = None

abbrev pub main_of : Option Entry → Option ℕ
main_of None = None
main_of (Some entry) = known_definition entry.known

-- at the end of the text the newest MAIN has to be a definition
abbrev pub program_of_source : Source → ParserState → ParseResult SourceProgram
program_of_source source at = elim (main_of (newest_value at.entries (codes "MAIN"))) [
  | Some main ↦ Fine (program_with source.names source.bodies main at.count at.host)
  | None ↦ Refused (at.count + 1) cause.NoMain
]

-- a definition or what is done at once, and what follows it, or the end
abbrev pub source_by : (Source → ParseResult SourceProgram) → ℕ → Source → OutsideToken → ParseResult SourceProgram
source_by go n source outside = elim outside.sense [
  | Some sense ↦ outside_by n source outside.at sense >>= go
  | None ↦ program_of_source source outside.at
]

-- the program of a source from a place outside definitions on, where fewer than n tokens are read
unfoldable pub source_at : ℕ → Source → ParseResult SourceProgram
source_at zero source = Endless
source_at (suc n) source = outside_at source.at >>= source_by (source_at n) n source

-- what host words act on at the start of a text
abbrev pub first_host : Host
first_host = record { stack = []; space = first_space 8192; tokens = [] }

-- a text at its start, which may use the words of a vocabulary
abbrev pub beginning : Vocabulary → List ℕ → ParserState
beginning words text = record { rest = text; count = 0; weight = 0; nest = []; entries = []; definitions = 0; host = first_host; does = false; words = words }

abbrev pub source_start : Vocabulary → List ℕ → Source
source_start words text = record { at = beginning words text; names = []; bodies = []; defining = []; before = before.Nothing }

-- the program of a text in a vocabulary, or its first refusal
abbrev pub program_in : Vocabulary → List ℕ → ParseResult SourceProgram
program_in words text = source_at (suc (length text)) (source_start words text)

-- the same of a source: only a kernel may use GO
abbrev pub program_of_text : List ℕ → ParseResult SourceProgram
program_of_text text = program_in vocabulary.Source text
