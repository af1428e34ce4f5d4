-- The words that a session knows, and the Core words.
use Rattle.std.specs.Prelude.{ℕ, Bool, true, false, ◌||◌, List, [], ◌∷◌, Option, Some, None, codes}
use Rattle.std.specs.List.{list_any}
use Rattle.std.specs.Str.{bytes_eq, str_to_ascii_lowercase}
use Rattle.word_table.specs.declared.word.Word.{Word}
use Rattle.word_table.specs.declared.word.Word.TheVariants.{Dup, DropTop, Swap, Over, Rot, QDup, TwoDup, TwoDrop, TwoSwap, TwoOver, Plus}
use Rattle.word_table.specs.declared.word.Word.TheVariants.{Minus, Star, Slash, Mod, SlashMod, StarSlash, StarSlashMod}
use Rattle.word_table.specs.declared.word.Word.TheVariants.{OnePlus, OneMinus, TwoStar, TwoSlash, Negate, Abs, Max, Min, And, Or, Xor}
use Rattle.word_table.specs.declared.word.Word.TheVariants.{Invert, LShift, RShift, Equal, Less, Greater, ULess, ZeroEqual, ZeroLess}
use Rattle.word_table.specs.declared.word.Word.TheVariants.{Emit, Cr, Space, Spaces, Dot, UDot, Colon, Semicolon, If, Else, Then, Begin}
use Rattle.word_table.specs.declared.word.Word.TheVariants.{Until, While, Repeat}
use Rattle.word_table.specs.declared.word.Word.TheVariants.{Nip, Tuck, ZeroGreater, NotEqual, Within, Hex, QDo, Again, Case, Of, EndOf}
use Rattle.word_table.specs.declared.word.Word.TheVariants.{EndCase, Backslash, CodeCells}
use Rattle.word_table.specs.Names.{first_named, word_named}

-- words that act on the user cells and print, with the meaning that they have in a source
abbrev pub listed_words : List Word
listed_words =
    Dup ∷ DropTop ∷ Swap ∷ Over ∷ Rot ∷ QDup ∷ TwoDup ∷ TwoDrop ∷ TwoSwap ∷ TwoOver ∷
    Plus ∷ Minus ∷ Star ∷ Slash ∷ Mod ∷ SlashMod ∷ StarSlash ∷ StarSlashMod ∷
    OnePlus ∷ OneMinus ∷ TwoStar ∷ TwoSlash ∷ Negate ∷ Abs ∷ Max ∷ Min ∷
    And ∷ Or ∷ Xor ∷ Invert ∷ LShift ∷ RShift ∷ Equal ∷ Less ∷ Greater ∷ ULess ∷ ZeroEqual ∷ ZeroLess ∷
    Emit ∷ Cr ∷ Space ∷ Spaces ∷ Dot ∷ UDot ∷ []

-- words that begin, part and end definitions and their structures
abbrev pub structure_words : List Word
structure_words = Colon ∷ Semicolon ∷ If ∷ Else ∷ Then ∷ Begin ∷ Until ∷ While ∷ Repeat ∷ []

abbrev pub listed_word : List ℕ → Option Word
listed_word text = first_named (str_to_ascii_lowercase text) listed_words

abbrev pub structure_word : List ℕ → Option Word
structure_word text = first_named (str_to_ascii_lowercase text) structure_words

-- names are the same in letters of either case
abbrev pub same_name : List ℕ → List ℕ → Bool
same_name x y = bytes_eq (str_to_ascii_lowercase x) (str_to_ascii_lowercase y)

-- whether a word of a source is one of the Core words of ANS Forth
abbrev pub is_core_word : Word → Bool
is_core_word Nip = false
is_core_word Tuck = false
is_core_word ZeroGreater = false
is_core_word NotEqual = false
is_core_word Within = false
is_core_word Hex = false
is_core_word QDo = false
is_core_word Again = false
is_core_word Case = false
is_core_word Of = false
is_core_word EndOf = false
is_core_word EndCase = false
is_core_word Backslash = false
is_core_word CodeCells = false
is_core_word word = true

abbrev pub is_core_among : Option Word → Bool
is_core_among None = false
is_core_among (Some word) = is_core_word word

-- the Core words that no source has
abbrev pub other_core_names : List (List ℕ)
other_core_names =
    codes ">IN" ∷ codes "ENVIRONMENT?" ∷ codes "EVALUATE" ∷ codes "FIND" ∷ codes "IMMEDIATE" ∷ codes "POSTPONE" ∷ codes "SOURCE" ∷
    codes "STATE" ∷ codes "WORD" ∷ []

-- whether a text is the name of a Core word
abbrev pub is_core_name : List ℕ → Bool
is_core_name text = is_core_among (word_named text) || list_any (same_name text) other_core_names
