-- The library words, in the order in which their bodies stand in the library.
use Rattle.std.specs.Prelude.{ℕ, Option, Some, None}
use Rattle.word_table.specs.declared.word.Word.{Word}
use Rattle.word_table.specs.declared.word.Word.TheVariants.{QDup, TwoSwap, TwoOver, Abs, Max, Min, TwoSlash, CFetch, CStore, PlusStore, TwoFetch, TwoStore, Count, Comma}
use Rattle.word_table.specs.declared.word.Word.TheVariants.{CComma, Allot, Align, UMStar, MStar, Star, UMSlashMod, SMSlashRem, FMSlashMod, SlashMod, Slash, Mod, StarSlashMod, StarSlash}
use Rattle.word_table.specs.declared.word.Word.TheVariants.{LessSharp, Hold, Sign, Sharp, SharpS, SharpGreater, TypeOut, Dot, UDot, Spaces, Fill, Move, Accept, ToNumber}

-- the number of a word of output, of memory blocks or of input
abbrev pub output_number : Word → Option ℕ
output_number LessSharp = Some 28
output_number Hold = Some 29
output_number Sign = Some 30
output_number Sharp = Some 31
output_number SharpS = Some 32
output_number SharpGreater = Some 33
output_number TypeOut = Some 34
output_number Dot = Some 35
output_number UDot = Some 36
output_number Spaces = Some 37
output_number Fill = Some 38
output_number Move = Some 39
output_number Accept = Some 40
output_number ToNumber = Some 41
output_number word = None

-- the number of a library word, from 0
abbrev pub library_number : Word → Option ℕ
library_number QDup = Some 0
library_number TwoSwap = Some 1
library_number TwoOver = Some 2
library_number Abs = Some 3
library_number Max = Some 4
library_number Min = Some 5
library_number TwoSlash = Some 6
library_number CFetch = Some 7
library_number CStore = Some 8
library_number PlusStore = Some 9
library_number TwoFetch = Some 10
library_number TwoStore = Some 11
library_number Count = Some 12
library_number Comma = Some 13
library_number CComma = Some 14
library_number Allot = Some 15
library_number Align = Some 16
library_number UMStar = Some 17
library_number MStar = Some 18
library_number Star = Some 19
library_number UMSlashMod = Some 20
library_number SMSlashRem = Some 21
library_number FMSlashMod = Some 22
library_number SlashMod = Some 23
library_number Slash = Some 24
library_number Mod = Some 25
library_number StarSlashMod = Some 26
library_number StarSlash = Some 27
library_number word = output_number word
