-- Each word keeps to its need, its peak and its back at each of its cells, by computation.
use Rattle.std.proofs.Common.{◌≡◌, ℕ, ◌≤◌, true, false, List, length, refl}
use Rattle.word_table.specs.declared.word.Word.{Word}
use Rattle.word_table.specs.declared.word.Word.TheVariants.{Nip, Tuck, ZeroGreater, NotEqual, Within, Hex, Dup, DropTop, Swap, Over, Rot, TwoDup, TwoDrop, Plus}
use Rattle.word_table.specs.declared.word.Word.TheVariants.{Minus, Negate, OnePlus, OneMinus, TwoStar, And, Or, Xor, Invert, LShift, RShift, Equal, Less}
use Rattle.word_table.specs.declared.word.Word.TheVariants.{Greater, ULess, ZeroEqual, ZeroLess, SToD}
use Rattle.word_table.specs.declared.word.Word.TheVariants.{Cells, CellPlus, Chars, CharPlus, Aligned, Fetch, Store, Emit, Key, Blank, Cr, Space, Base, Here, Decimal, Depth, AbortRun, Quit, ToR, RFrom, RFetch, Index, OuterIndex, Unloop}
use Rattle.word_table.specs.Table.{entry_of}
use Rattle.forth_program.specs.State.{Entry, World, State, End, Ends}
use Rattle.forth_program.specs.Program.{SourceProgram}
use Rattle.forth_program.specs.Step.{word_step}
use Rattle.word_laws.specs.Words.{stands_plain}
use Rattle.word_laws.proofs.Rows.{When}
use Rattle.word_laws.proofs.Walk.{word_stays}
use Rattle.word_laws.proofs.Needs.{with_one}

pub words_stay : (data_start : ℕ) (word : Word) → When (stands_plain word) (word_stays data_start false word ≡ true)
words_stay data_start Dup = refl
words_stay data_start DropTop = refl
words_stay data_start Swap = refl
words_stay data_start Over = refl
words_stay data_start Rot = refl
words_stay data_start TwoDup = refl
words_stay data_start TwoDrop = refl
words_stay data_start Nip = refl
words_stay data_start Tuck = refl
words_stay data_start Plus = refl
words_stay data_start Minus = refl
words_stay data_start Negate = refl
words_stay data_start OnePlus = refl
words_stay data_start OneMinus = refl
words_stay data_start TwoStar = refl
words_stay data_start And = refl
words_stay data_start Or = refl
words_stay data_start Xor = refl
words_stay data_start Invert = refl
words_stay data_start LShift = refl
words_stay data_start RShift = refl
words_stay data_start Equal = refl
words_stay data_start Less = refl
words_stay data_start Greater = refl
words_stay data_start ULess = refl
words_stay data_start ZeroEqual = refl
words_stay data_start ZeroLess = refl
words_stay data_start SToD = refl
words_stay data_start ZeroGreater = refl
words_stay data_start NotEqual = refl
words_stay data_start Within = refl
words_stay data_start Cells = refl
words_stay data_start CellPlus = refl
words_stay data_start Chars = refl
words_stay data_start CharPlus = refl
words_stay data_start Aligned = refl
words_stay data_start Fetch = refl
words_stay data_start Store = refl
words_stay data_start Emit = refl
words_stay data_start Key = refl
words_stay data_start Blank = refl
words_stay data_start Cr = refl
words_stay data_start Space = refl
words_stay data_start Base = refl
words_stay data_start Here = refl
words_stay data_start Decimal = refl
words_stay data_start Hex = refl
words_stay data_start Depth = refl
words_stay data_start AbortRun = refl
words_stay data_start Quit = refl
words_stay data_start ToR = refl
words_stay data_start RFrom = refl
words_stay data_start RFetch = refl
words_stay data_start Index = refl
words_stay data_start OuterIndex = refl
words_stay data_start Unloop = refl
words_stay data_start word = tt

-- and after the last of them, for a word that ends the run: this leaves out >R alone
pub ends_stay : (data_start : ℕ) (p : SourceProgram) (s : State) (word : Word) (c : List ℕ) (es : List Entry) (end : End) (world : World) →
    (entry_of word).need ≤ length c → word_step p word c es s ≡ Ends end world → When (stands_plain word) (word_stays data_start true word ≡ true)
ends_stay data_start p s ToR c es end world n e = with_one (λ c. word_step p ToR c es s ≡ Ends end world → word_stays data_start true ToR ≡ true) (λ x c e. let no : ⊥ = cc in absurd no) c n e
ends_stay data_start p s Dup c es end world n e = refl
ends_stay data_start p s DropTop c es end world n e = refl
ends_stay data_start p s Swap c es end world n e = refl
ends_stay data_start p s Over c es end world n e = refl
ends_stay data_start p s Rot c es end world n e = refl
ends_stay data_start p s TwoDup c es end world n e = refl
ends_stay data_start p s TwoDrop c es end world n e = refl
ends_stay data_start p s Nip c es end world n e = refl
ends_stay data_start p s Tuck c es end world n e = refl
ends_stay data_start p s Plus c es end world n e = refl
ends_stay data_start p s Minus c es end world n e = refl
ends_stay data_start p s Negate c es end world n e = refl
ends_stay data_start p s OnePlus c es end world n e = refl
ends_stay data_start p s OneMinus c es end world n e = refl
ends_stay data_start p s TwoStar c es end world n e = refl
ends_stay data_start p s And c es end world n e = refl
ends_stay data_start p s Or c es end world n e = refl
ends_stay data_start p s Xor c es end world n e = refl
ends_stay data_start p s Invert c es end world n e = refl
ends_stay data_start p s LShift c es end world n e = refl
ends_stay data_start p s RShift c es end world n e = refl
ends_stay data_start p s Equal c es end world n e = refl
ends_stay data_start p s Less c es end world n e = refl
ends_stay data_start p s Greater c es end world n e = refl
ends_stay data_start p s ULess c es end world n e = refl
ends_stay data_start p s ZeroEqual c es end world n e = refl
ends_stay data_start p s ZeroLess c es end world n e = refl
ends_stay data_start p s SToD c es end world n e = refl
ends_stay data_start p s ZeroGreater c es end world n e = refl
ends_stay data_start p s NotEqual c es end world n e = refl
ends_stay data_start p s Within c es end world n e = refl
ends_stay data_start p s Cells c es end world n e = refl
ends_stay data_start p s CellPlus c es end world n e = refl
ends_stay data_start p s Chars c es end world n e = refl
ends_stay data_start p s CharPlus c es end world n e = refl
ends_stay data_start p s Aligned c es end world n e = refl
ends_stay data_start p s Fetch c es end world n e = refl
ends_stay data_start p s Store c es end world n e = refl
ends_stay data_start p s Emit c es end world n e = refl
ends_stay data_start p s Key c es end world n e = refl
ends_stay data_start p s Blank c es end world n e = refl
ends_stay data_start p s Cr c es end world n e = refl
ends_stay data_start p s Space c es end world n e = refl
ends_stay data_start p s Base c es end world n e = refl
ends_stay data_start p s Here c es end world n e = refl
ends_stay data_start p s Decimal c es end world n e = refl
ends_stay data_start p s Hex c es end world n e = refl
ends_stay data_start p s Depth c es end world n e = refl
ends_stay data_start p s AbortRun c es end world n e = refl
ends_stay data_start p s Quit c es end world n e = refl
ends_stay data_start p s RFrom c es end world n e = refl
ends_stay data_start p s RFetch c es end world n e = refl
ends_stay data_start p s Index c es end world n e = refl
ends_stay data_start p s OuterIndex c es end world n e = refl
ends_stay data_start p s Unloop c es end world n e = refl
ends_stay data_start p s word c es end world n e = tt
