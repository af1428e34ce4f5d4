-- The names of the words, letters without case, which ANS Forth leaves to the system.
use Rattle.std.specs.Prelude.{◌≡◌, ℕ, Bool, true, false, List, [], ◌∷◌, Option, Some, None}
use Rattle.std.specs.Str.{bytes_eq, str_to_ascii_lowercase}
use Rattle.word_table.specs.declared.word.Vocabulary.{Vocabulary}
use Rattle.word_table.specs.declared.word.Vocabulary.TheVariants.{Source, Kernel}
use Rattle.word_table.specs.declared.word.Word.{Word}
use Rattle.word_table.specs.declared.word.Word.TheVariants.{Dup, DropTop, Swap, Over, Rot, TwoDup, TwoDrop, Plus, Minus, Negate, OnePlus, OneMinus, TwoStar, And, Or, Xor, Invert, LShift, RShift}
use Rattle.word_table.specs.declared.word.Word.TheVariants.{Equal, Less, Greater, ULess, ZeroEqual, ZeroLess, SToD, Cells, CellPlus, Chars, CharPlus, Aligned, Fetch, Store, Emit, Key, Blank, Cr}
use Rattle.word_table.specs.declared.word.Word.TheVariants.{Space, Base, Here, Decimal, Depth, AbortRun, Quit, ToR, RFrom, RFetch, Index, OuterIndex, Unloop, QDup, TwoSwap, TwoOver, Abs, Max, Min}
use Rattle.word_table.specs.declared.word.Word.TheVariants.{TwoSlash, CFetch, CStore, PlusStore, TwoFetch, TwoStore, Count, Comma, CComma, Allot, Align, UMStar, MStar, Star, UMSlashMod, SMSlashRem}
use Rattle.word_table.specs.declared.word.Word.TheVariants.{FMSlashMod, SlashMod, Slash, Mod, StarSlashMod, StarSlash, LessSharp, Hold, Sign, Sharp, SharpS, SharpGreater, Dot, UDot, TypeOut, Spaces}
use Rattle.word_table.specs.declared.word.Word.TheVariants.{Fill, Move, Accept, ToNumber, Execute, Go, SQuote, DotQuote, AbortQuote, If, While, Until, Else, Repeat, Then, Begin, Do, Loop, PlusLoop, Leave}
use Rattle.word_table.specs.declared.word.Word.TheVariants.{Exit, Semicolon, Recurse, BracketTick, BracketChar, Literal, LeftBracket, RightBracket, Paren, Backslash, Colon, Tick, Char, Constant}
use Rattle.word_table.specs.declared.word.Word.TheVariants.{Variable, Create, Does, ToBody, QDo, Again, Case, Of, EndOf, EndCase, Nip, Tuck, ZeroGreater, NotEqual, Within, Hex, CodeCells}
use Rattle.word_table.specs.Table.{row}

-- the name of a word, letters in upper case
abbrev pub name_of : Word → List ℕ
name_of word = (row word).name

-- whether a text is the word's name, letters without case
abbrev pub is_named : List ℕ → Word → Bool
is_named text word = bytes_eq (str_to_ascii_lowercase text) (str_to_ascii_lowercase (name_of word))

-- every word of a source, in the order of the table: all but GO
abbrev pub all_words : List Word
all_words =
    Dup ∷ DropTop ∷ Swap ∷ Over ∷ Rot ∷ TwoDup ∷ TwoDrop ∷ Nip ∷ Tuck ∷ Plus ∷ Minus ∷ Negate ∷ OnePlus ∷ OneMinus ∷ TwoStar ∷ And ∷ Or ∷ Xor ∷
    Invert ∷ LShift ∷ RShift ∷ Equal ∷ Less ∷ Greater ∷ ULess ∷ ZeroEqual ∷ ZeroLess ∷ SToD ∷ ZeroGreater ∷ NotEqual ∷ Within ∷ Cells ∷ CellPlus ∷ Chars ∷ CharPlus ∷
    Aligned ∷ Fetch ∷ Store ∷ Emit ∷ Key ∷ Blank ∷ Cr ∷ Space ∷ Base ∷ Here ∷ Decimal ∷ Depth ∷ Hex ∷ AbortRun ∷ Quit ∷ ToR ∷ RFrom ∷ RFetch ∷
    Index ∷ OuterIndex ∷ Unloop ∷ QDup ∷ TwoSwap ∷ TwoOver ∷ Abs ∷ Max ∷ Min ∷ TwoSlash ∷ CFetch ∷ CStore ∷ PlusStore ∷ TwoFetch ∷
    TwoStore ∷ Count ∷ Comma ∷ CComma ∷ Allot ∷ Align ∷ UMStar ∷ MStar ∷ Star ∷ UMSlashMod ∷ SMSlashRem ∷ FMSlashMod ∷ SlashMod ∷
    Slash ∷ Mod ∷ StarSlashMod ∷ StarSlash ∷ LessSharp ∷ Hold ∷ Sign ∷ Sharp ∷ SharpS ∷ SharpGreater ∷ Dot ∷ UDot ∷ TypeOut ∷ Spaces ∷
    Fill ∷ Move ∷ Accept ∷ ToNumber ∷ Execute ∷ SQuote ∷ DotQuote ∷ AbortQuote ∷ If ∷ While ∷ Until ∷ Else ∷ Repeat ∷ Then ∷ Begin ∷
    Do ∷ Loop ∷ PlusLoop ∷ QDo ∷ Again ∷ Case ∷ Of ∷ EndOf ∷ EndCase ∷ Leave ∷ Exit ∷ Semicolon ∷ Recurse ∷ BracketTick ∷ BracketChar ∷ Literal ∷ LeftBracket ∷ RightBracket ∷
    Paren ∷ Backslash ∷ Colon ∷ Tick ∷ Char ∷ Constant ∷ Variable ∷ Create ∷ Does ∷ ToBody ∷ CodeCells ∷ []

-- the first of these words whose name is this text in lower case
abbrev pub first_named : List ℕ → List Word → Option Word
first_named lowered [] = None
first_named lowered (word ∷ words) = elim (bytes_eq lowered (str_to_ascii_lowercase (name_of word))) [ true ↦ Some word | false ↦ first_named lowered words ]

-- the word of a name in a source
abbrev pub word_named : List ℕ → Option Word
word_named text = first_named (str_to_ascii_lowercase text) all_words

-- the words of a vocabulary
abbrev pub words_of : Vocabulary → List Word
words_of Source = all_words
words_of Kernel = Go ∷ all_words

-- the word of a name in a vocabulary
abbrev pub word_in : Vocabulary → List ℕ → Option Word
word_in vocabulary text = first_named (str_to_ascii_lowercase text) (words_of vocabulary)

-- whether a word is GO
abbrev pub is_go : Word → Bool
is_go Go = true
is_go word = false

-- each word is found by its own name in a kernel: no two have one name
abbrev pub EachIsFound : Type 0
EachIsFound = (word : Word) → word_in Kernel (name_of word) ≡ Some word

-- no name of a source is that of GO
abbrev pub SourcesLackGo : Type 0
SourcesLackGo = (text : List ℕ) (word : Word) → word_named text ≡ Some word → is_go word ≡ false
