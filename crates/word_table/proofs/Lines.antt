-- The lines of the table are its rows, in the order of the words.
use Rattle.std.proofs.Common.{◌≡◌, ℕ, zero, suc, ◌<◌, ◌≤◌, ◌∷◌, [], List, true, map, get_or, length, IsTrue, refl, ap, ◌∙◌, arith}
use Rattle.std.specs.List.{list_all}
use Rattle.std.proofs.lemmas.Bool.{and_parts}
use Rattle.word_table.specs.declared.word.Word.{Word}
use Rattle.word_table.specs.declared.word.Word.TheVariants.{Dup, DropTop, Swap, Over, Rot, TwoDup, TwoDrop, Plus, Minus, Negate, OnePlus, OneMinus, TwoStar, And, Or, Xor, Invert, LShift, RShift, Equal}
use Rattle.word_table.specs.declared.word.Word.TheVariants.{Less, Greater, ULess, ZeroEqual, ZeroLess, SToD, Cells, CellPlus, Chars, CharPlus, Aligned, Fetch, Store, Emit, Key, Blank, Cr, Space, Base}
use Rattle.word_table.specs.declared.word.Word.TheVariants.{Here, Decimal, Depth, AbortRun, Quit, ToR, RFrom, RFetch, Index, OuterIndex, Unloop, QDup, TwoSwap, TwoOver, Abs, Max, Min, TwoSlash, CFetch}
use Rattle.word_table.specs.declared.word.Word.TheVariants.{CStore, PlusStore, TwoFetch, TwoStore, Count, Comma, CComma, Allot, Align, UMStar, MStar, Star, UMSlashMod, SMSlashRem, FMSlashMod, SlashMod}
use Rattle.word_table.specs.declared.word.Word.TheVariants.{Slash, Mod, StarSlashMod, StarSlash, LessSharp, Hold, Sign, Sharp, SharpS, SharpGreater, Dot, UDot, TypeOut, Spaces, Fill, Move, Accept}
use Rattle.word_table.specs.declared.word.Word.TheVariants.{ToNumber, Execute, Go, SQuote, DotQuote, AbortQuote, If, While, Until, Else, Repeat, Then, Begin, Do, Loop, PlusLoop, Leave, Exit, Semicolon}
use Rattle.word_table.specs.declared.word.Word.TheVariants.{Recurse, BracketTick, BracketChar, Literal, LeftBracket, RightBracket, Paren, Backslash, Colon, Tick, Char, Constant, Variable, Create, Does}
use Rattle.word_table.specs.declared.word.Word.TheVariants.{ToBody, QDo, Again, Case, Of, EndOf, EndCase, Nip, Tuck, ZeroGreater, NotEqual, Within, Hex, CodeCells}
use Rattle.word_table.specs.declared.table.Line.{Line}
use Rattle.word_table.specs.Row.{Row}
use Rattle.word_table.specs.Table.{row}
use Rattle.word_table.specs.Line.{row_of_line, is_in_range, number_of, IsLineOf}

-- the rows of the words in their order
abbrev pub rows : List Row
rows =
    row Dup ∷ row DropTop ∷ row Swap ∷ row Over ∷ row Rot ∷ row TwoDup ∷ row TwoDrop ∷ row Nip ∷ row Tuck ∷ row Plus ∷ row Minus ∷
    row Negate ∷ row OnePlus ∷ row OneMinus ∷ row TwoStar ∷ row And ∷ row Or ∷ row Xor ∷ row Invert ∷ row LShift ∷ row RShift ∷
    row Equal ∷ row Less ∷ row Greater ∷ row ULess ∷ row ZeroEqual ∷ row ZeroLess ∷ row SToD ∷ row ZeroGreater ∷ row NotEqual ∷
    row Within ∷ row Cells ∷ row CellPlus ∷ row Chars ∷ row CharPlus ∷ row Aligned ∷ row Fetch ∷ row Store ∷ row Emit ∷ row Key ∷
    row Blank ∷ row Cr ∷ row Space ∷ row Base ∷ row Here ∷ row Decimal ∷ row Depth ∷ row Hex ∷ row AbortRun ∷ row Quit ∷ row ToR ∷
    row RFrom ∷ row RFetch ∷ row Index ∷ row OuterIndex ∷ row Unloop ∷ row QDup ∷ row TwoSwap ∷ row TwoOver ∷ row Abs ∷ row Max ∷
    row Min ∷ row TwoSlash ∷ row CFetch ∷ row CStore ∷ row PlusStore ∷ row TwoFetch ∷ row TwoStore ∷ row Count ∷ row Comma ∷ row CComma ∷
    row Allot ∷ row Align ∷ row UMStar ∷ row MStar ∷ row Star ∷ row UMSlashMod ∷ row SMSlashRem ∷ row FMSlashMod ∷ row SlashMod ∷
    row Slash ∷ row Mod ∷ row StarSlashMod ∷ row StarSlash ∷ row LessSharp ∷ row Hold ∷ row Sign ∷ row Sharp ∷ row SharpS ∷
    row SharpGreater ∷ row Dot ∷ row UDot ∷ row TypeOut ∷ row Spaces ∷ row Fill ∷ row Move ∷ row Accept ∷ row ToNumber ∷ row Execute ∷
    row Go ∷ row SQuote ∷ row DotQuote ∷ row AbortQuote ∷ row If ∷ row While ∷ row Until ∷ row Else ∷ row Repeat ∷ row Then ∷ row Begin ∷
    row Do ∷ row Loop ∷ row PlusLoop ∷ row QDo ∷ row Again ∷ row Case ∷ row Of ∷ row EndOf ∷ row EndCase ∷ row Leave ∷ row Exit ∷
    row Semicolon ∷ row Recurse ∷ row BracketTick ∷ row BracketChar ∷ row Literal ∷ row LeftBracket ∷ row RightBracket ∷ row Paren ∷
    row Backslash ∷ row Colon ∷ row Tick ∷ row Char ∷ row Constant ∷ row Variable ∷ row Create ∷ row Does ∷ row ToBody ∷ row CodeCells ∷ []

nth : (word : Word) (d : Row) → get_or rows (number_of word) d ≡ row word
nth Dup d = refl
nth word d = refl

at_map : {A B : Type 0} (f : A → B) (xs : List A) (k : ℕ) (d : A) → f (get_or xs k d) ≡ get_or (map f xs) k (f d)
at_map f [] k d = refl
at_map f (x ∷ xs) zero d = refl
at_map f (x ∷ xs) (suc k) d = at_map f xs k d

pub line_is : {lines : List Line} {word : Word} {line : Line} → IsLineOf lines word line → map row_of_line lines ≡ rows → row_of_line line ≡ row word
line_is {lines} {word} {line} at same =
    ap row_of_line (at.is line) ∙ at_map row_of_line lines (number_of word) line ∙ ap (λ r. get_or r (number_of word) (row_of_line line)) same ∙ nth word (row_of_line line)

all_at : (xs : List Line) (k : ℕ) (d : Line) → list_all is_in_range xs ≡ true → k < length xs → is_in_range (get_or xs k d) ≡ true
all_at [] k d h i = absurd (omega arith)
all_at (x ∷ xs) zero d h i = (and_parts (is_in_range x) (list_all is_in_range xs) h).0
all_at (x ∷ xs) (suc k) d h i = all_at xs k d (and_parts (is_in_range x) (list_all is_in_range xs) h).1 (omega arith)

pub below : (word : Word) → number_of word < 139
below Dup = omega arith
below word = omega arith

pub line_in_range : {lines : List Line} {word : Word} {line : Line} → IsLineOf lines word line → list_all is_in_range lines ≡ true → length lines ≡ 139 → IsTrue (is_in_range line)
line_in_range {lines} {word} {line} at all n = ap is_in_range (at.is line) ∙ all_at lines (number_of word) line all (omega (arith, below word))

any_default : {A : Type 0} (xs : List A) (k : ℕ) (d e : A) → k < length xs → get_or xs k d ≡ get_or xs k e
any_default [] k d e i = absurd (omega arith)
any_default (x ∷ xs) zero d e i = refl
any_default (x ∷ xs) (suc k) d e i = any_default xs k d e (omega arith)

pub line_found : (lines : List Line) (word : Word) (d : Line) → 139 ≤ length lines → IsLineOf lines word (get_or lines (number_of word) d)
line_found lines word d h = record { is = λ e. any_default lines (number_of word) d e (omega (arith, below word)) }
