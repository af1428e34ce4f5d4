-- What a token stands for outside definitions: first a name that is defined, then a word of the table, then a number in the present base.
use Rattle.std.specs.Prelude.{ℕ, Bool, true, false, List, Option, Some, None}
use Rattle.word_table.specs.declared.word.Word.{Word}
use Rattle.word_table.specs.declared.word.Word.TheVariants as word
use Rattle.word_table.specs.declared.word.Vocabulary.{Vocabulary}
use Rattle.word_table.specs.Names.{word_in}
use Rattle.forth_reader.specs.declared.number.NumberRead.{NumberRead}
use Rattle.forth_reader.specs.declared.number.NumberRead.TheVariants as number
use Rattle.forth_reader.specs.Number.{number_read}
use Rattle.dictionary_core.specs.Pairs.{Pair, newest_value}
use Rattle.host_state.specs.declared.entry.Entry.{Entry}
use Rattle.host_state.specs.declared.entry.Known.{Known}
use Rattle.host_state.specs.declared.entry.Known.TheVariants as known
use Rattle.host_state.specs.declared.word.HostWord.{HostWord}
use Rattle.host_state.specs.declared.word.HostItem.TheVariants as item
use Rattle.control_flow.specs.declared.outside_sense.OutsideSense.{OutsideSense}
use Rattle.control_flow.specs.declared.outside_sense.OutsideSense.TheVariants.{Begins, Acts, NamesConstant, NamesVariable, NamesAddress, NamesChild, Ticks, Spells, Splits, Quoted, OutOfRange, Unknown, Forbidden}
use Rattle.control_flow.specs.HostSense.{host_word}

abbrev pub plain_outside_sense : Option HostWord → OutsideSense
plain_outside_sense (Some w) = Acts (item.Word w)
plain_outside_sense None = Forbidden

-- the string words read their text before they are refused
abbrev pub word_outside_sense : Word → OutsideSense
word_outside_sense word.Colon = Begins
word_outside_sense word.Constant = NamesConstant
word_outside_sense word.Variable = NamesVariable
word_outside_sense word.Create = NamesAddress
word_outside_sense word.Tick = Ticks
word_outside_sense word.Char = Spells
word_outside_sense word.CodeCells = Splits
word_outside_sense word.SQuote = Quoted
word_outside_sense word.DotQuote = Quoted
word_outside_sense word.AbortQuote = Quoted
word_outside_sense w = plain_outside_sense (host_word w)

abbrev pub number_outside_sense : NumberRead → OutsideSense
number_outside_sense (number.Value value) = Acts (item.Number value)
number_outside_sense number.Range = OutOfRange
number_outside_sense number.NotNumber = Unknown

-- constants and created addresses are numbers, and a defining word names a child
abbrev pub known_outside_sense : Known → OutsideSense
known_outside_sense (known.Constant x) = Acts (item.Number x)
known_outside_sense (known.Address address) = Acts (item.Number address)
known_outside_sense (known.Defining number) = NamesChild number
known_outside_sense k = Forbidden

abbrev pub outside_sense_by : ℕ → List ℕ → Option Word → OutsideSense
outside_sense_by base token (Some w) = word_outside_sense w
outside_sense_by base token None = number_outside_sense (number_read base token)

-- in a vocabulary; a name that is defined hides a word
abbrev pub outside_sense_in : Vocabulary → List (Pair Entry) → ℕ → List ℕ → OutsideSense
outside_sense_in words entries base token = elim (newest_value entries token) [ Some entry ↦ known_outside_sense entry.known | None ↦ outside_sense_by base token (word_in words token) ]

-- numbers, of which one may stand before CODE-CELLS
abbrev pub is_number : OutsideSense → Bool
is_number (Acts (item.Number x)) = true
is_number sense = false
