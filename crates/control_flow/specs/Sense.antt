-- What a token stands for inside a definition: first a name that is defined, then a word of the table, then a number in the present base.
use Rattle.std.specs.Prelude.{ℕ, Bool, true, false, List, Option, Some, None}
use Rattle.word_table.specs.declared.word.Word.{Word}
use Rattle.word_table.specs.declared.word.Word.TheVariants as word
use Rattle.word_table.specs.declared.word.Class.{Class}
use Rattle.word_table.specs.declared.word.Class.TheVariants as class
use Rattle.word_table.specs.Table.{entry_of}
use Rattle.word_table.specs.declared.word.Vocabulary.{Vocabulary}
use Rattle.word_table.specs.Names.{word_in}
use Rattle.forth_reader.specs.declared.number.NumberRead.{NumberRead}
use Rattle.forth_reader.specs.declared.number.NumberRead.TheVariants as number
use Rattle.forth_reader.specs.Number.{number_read}
use Rattle.forth_program.specs.declared.item.TextKind.TheVariants as text
use Rattle.dictionary_core.specs.Pairs.{Pair, newest_value}
use Rattle.host_state.specs.declared.entry.Entry.{Entry}
use Rattle.host_state.specs.declared.entry.Known.{Known}
use Rattle.host_state.specs.declared.entry.Known.TheVariants as known
use Rattle.control_flow.specs.declared.nest.Opening.{Opening}
use Rattle.control_flow.specs.declared.nest.Opening.TheVariants as opening
use Rattle.control_flow.specs.declared.nest.Ending.{Ending}
use Rattle.control_flow.specs.declared.nest.Ending.TheVariants as ending
use Rattle.control_flow.specs.declared.sense.Sense.{Sense}
use Rattle.control_flow.specs.declared.sense.Sense.TheVariants.{Number, Plain, Calls, Inherits, Recurses, Opens, Ends, Leaves, Exits, Spells, Quotes, Ticks, Takes, Brackets, Creates, Forbidden, Unfit, OutOfRange, Unknown}

abbrev pub opening_word : Opening → Word
opening_word opening.If = word.If
opening_word opening.Begin = word.Begin
opening_word opening.Do = word.Do
opening_word opening.QDo = word.QDo
opening_word opening.Case = word.Case

abbrev pub ending_word : Ending → Word
ending_word ending.Else = word.Else
ending_word ending.Then = word.Then
ending_word ending.Until = word.Until
ending_word ending.While = word.While
ending_word ending.Repeat = word.Repeat
ending_word ending.Again = word.Again
ending_word ending.Loop = word.Loop
ending_word ending.PlusLoop = word.PlusLoop
ending_word ending.Of = word.Of
ending_word ending.EndOf = word.EndOf
ending_word ending.EndCase = word.EndCase
ending_word ending.Semicolon = word.Semicolon

abbrev pub number_sense : NumberRead → Sense
number_sense (number.Value value) = Number value
number_sense number.Range = OutOfRange
number_sense number.NotNumber = Unknown

-- `]` fits where a `[` is open, and comments are no tokens of a definition
abbrev pub structure_sense : Word → Sense
structure_sense word.ToR = Plain word.ToR
structure_sense word.RFrom = Plain word.RFrom
structure_sense word.RFetch = Plain word.RFetch
structure_sense word.Index = Plain word.Index
structure_sense word.OuterIndex = Plain word.OuterIndex
structure_sense word.Unloop = Plain word.Unloop
structure_sense word.If = Opens opening.If
structure_sense word.Begin = Opens opening.Begin
structure_sense word.Do = Opens opening.Do
structure_sense word.QDo = Opens opening.QDo
structure_sense word.Case = Opens opening.Case
structure_sense word.Else = Ends ending.Else
structure_sense word.Then = Ends ending.Then
structure_sense word.Until = Ends ending.Until
structure_sense word.While = Ends ending.While
structure_sense word.Repeat = Ends ending.Repeat
structure_sense word.Again = Ends ending.Again
structure_sense word.Loop = Ends ending.Loop
structure_sense word.PlusLoop = Ends ending.PlusLoop
structure_sense word.Of = Ends ending.Of
structure_sense word.EndOf = Ends ending.EndOf
structure_sense word.EndCase = Ends ending.EndCase
structure_sense word.Semicolon = Ends ending.Semicolon
structure_sense word.Leave = Leaves
structure_sense word.Exit = Exits
structure_sense word.Recurse = Recurses
structure_sense word.BracketChar = Spells
structure_sense word.SQuote = Quotes text.Address
structure_sense word.DotQuote = Quotes text.Print
structure_sense word.AbortQuote = Quotes text.Abort
structure_sense word.BracketTick = Ticks
structure_sense word.Literal = Takes
structure_sense word.LeftBracket = Brackets
structure_sense w = Unfit

-- words that act while the source is read are not for definitions, but CREATE may be the first of one
abbrev pub acting_sense : Word → Sense
acting_sense word.Create = Creates
acting_sense w = Forbidden

-- a word by its class
abbrev pub class_sense : Class → Word → Sense
class_sense class.Inline word = Plain word
class_sense class.Library word = Plain word
class_sense class.Structure word = structure_sense word
class_sense class.Host word = acting_sense word

abbrev pub word_sense : Word → Sense
word_sense word = class_sense (entry_of word).class word

-- constants and created addresses are numbers, and a defining word is used outside definitions
abbrev pub known_sense : Known → Sense
known_sense (known.Definition definition) = Calls definition
known_sense (known.Constant x) = Number x
known_sense (known.Address address) = Number address
known_sense (known.Child part address) = Inherits part address
known_sense (known.Defining number) = Forbidden

abbrev pub sense_by : ℕ → List ℕ → Option Word → Sense
sense_by base token (Some word) = word_sense word
sense_by base token None = number_sense (number_read base token)

-- in a vocabulary; a name that is defined hides a word
abbrev pub sense_in : Vocabulary → List (Pair Entry) → ℕ → List ℕ → Sense
sense_in words entries base token = elim (newest_value entries token) [ Some entry ↦ known_sense entry.known | None ↦ sense_by base token (word_in words token) ]

abbrev pub is_create : Sense → Bool
is_create Creates = true
is_create sense = false
