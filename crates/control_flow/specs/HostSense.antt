-- What a token stands for where host words act: first a name that is defined, then a word of the table, then a number in the present base.
use Rattle.std.specs.Prelude.{ℕ, List, Option, Some, None}
use Rattle.word_table.specs.declared.word.Word.{Word}
use Rattle.word_table.specs.declared.word.Word.TheVariants as word
use Rattle.word_table.specs.declared.word.Vocabulary.{Vocabulary}
use Rattle.word_table.specs.Names.{word_in}
use Rattle.forth_reader.specs.declared.number.NumberRead.{NumberRead}
use Rattle.forth_reader.specs.declared.number.NumberRead.TheVariants as number
use Rattle.forth_reader.specs.Number.{number_read}
use Rattle.dictionary_core.specs.Pairs.{Pair, newest_value}
use Rattle.host_state.specs.declared.entry.Entry.{Entry}
use Rattle.host_state.specs.declared.entry.Known.{Known}
use Rattle.host_state.specs.declared.entry.Known.TheVariants as known
use Rattle.host_state.specs.declared.word.HostWord.{HostWord}
use Rattle.host_state.specs.declared.word.HostWord.TheVariants as host
use Rattle.host_state.specs.declared.word.HostItem.TheVariants as item
use Rattle.control_flow.specs.declared.host_sense.HostSense.{HostSense}
use Rattle.control_flow.specs.declared.host_sense.HostSense.TheVariants.{Acts, Closes, Ends, Does, Quoted, OutOfRange, Unknown, Forbidden}

-- the plain host words of the table
abbrev pub host_word : Word → Option HostWord
host_word word.Dup = Some host.Dup
host_word word.DropTop = Some host.DropTop
host_word word.Swap = Some host.Swap
host_word word.Over = Some host.Over
host_word word.Rot = Some host.Rot
host_word word.Plus = Some host.Plus
host_word word.Minus = Some host.Minus
host_word word.Star = Some host.Star
host_word word.And = Some host.And
host_word word.Or = Some host.Or
host_word word.Xor = Some host.Xor
host_word word.LShift = Some host.LShift
host_word word.RShift = Some host.RShift
host_word word.Negate = Some host.Negate
host_word word.OnePlus = Some host.OnePlus
host_word word.OneMinus = Some host.OneMinus
host_word word.TwoStar = Some host.TwoStar
host_word word.TwoSlash = Some host.TwoSlash
host_word word.Invert = Some host.Invert
host_word word.Cells = Some host.Cells
host_word word.CellPlus = Some host.CellPlus
host_word word.Chars = Some host.Chars
host_word word.CharPlus = Some host.CharPlus
host_word word.Aligned = Some host.Aligned
host_word word.Fetch = Some host.Fetch
host_word word.Store = Some host.Store
host_word word.CFetch = Some host.CFetch
host_word word.CStore = Some host.CStore
host_word word.PlusStore = Some host.PlusStore
host_word word.Here = Some host.Here
host_word word.Comma = Some host.Comma
host_word word.CComma = Some host.CComma
host_word word.Allot = Some host.Allot
host_word word.Align = Some host.Align
host_word word.Base = Some host.Base
host_word word.Decimal = Some host.Decimal
host_word word.Hex = Some host.Hex
host_word word.Blank = Some host.Blank
host_word word.ToBody = Some host.ToBody
host_word w = None

abbrev pub plain_host_sense : Option HostWord → HostSense
plain_host_sense (Some w) = Acts (item.Word w)
plain_host_sense None = Forbidden

-- the string words read their text before they are refused
abbrev pub word_host_sense : Word → HostSense
word_host_sense word.RightBracket = Closes
word_host_sense word.Semicolon = Ends
word_host_sense word.Does = Does
word_host_sense word.SQuote = Quoted
word_host_sense word.DotQuote = Quoted
word_host_sense word.AbortQuote = Quoted
word_host_sense w = plain_host_sense (host_word w)

abbrev pub number_host_sense : NumberRead → HostSense
number_host_sense (number.Value value) = Acts (item.Number value)
number_host_sense number.Range = OutOfRange
number_host_sense number.NotNumber = Unknown

-- constants and created addresses are numbers
abbrev pub known_host_sense : Known → HostSense
known_host_sense (known.Constant x) = Acts (item.Number x)
known_host_sense (known.Address address) = Acts (item.Number address)
known_host_sense k = Forbidden

abbrev pub host_sense_by : ℕ → List ℕ → Option Word → HostSense
host_sense_by base token (Some w) = word_host_sense w
host_sense_by base token None = number_host_sense (number_read base token)

-- in a vocabulary; a name that is defined hides a word
abbrev pub host_sense_in : Vocabulary → List (Pair Entry) → ℕ → List ℕ → HostSense
host_sense_in words entries base token = elim (newest_value entries token) [ Some entry ↦ known_host_sense entry.known | None ↦ host_sense_by base token (word_in words token) ]
