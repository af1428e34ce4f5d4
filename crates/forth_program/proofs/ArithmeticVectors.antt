-- Words on numbers: rows made by an independent evaluator.
use Rattle.std.specs.Prelude.{◌≡◌, [], ◌∷◌, refl}
use Rattle.word_table.specs.declared.word.Word.TheVariants.{Abs, Aligned, And, CellPlus, Cells, CharPlus, Chars, Equal, FMSlashMod, Greater, Invert, LShift}
use Rattle.word_table.specs.declared.word.Word.TheVariants.{Less, MStar, Max, Min, Minus, Mod, Negate, OneMinus, OnePlus, Or, Plus, RShift, SMSlashRem, SToD}
use Rattle.word_table.specs.declared.word.Word.TheVariants.{Slash, SlashMod, Star, StarSlash, StarSlashMod, TwoSlash, TwoStar, ULess, UMSlashMod, UMStar, Xor}
use Rattle.word_table.specs.declared.word.Word.TheVariants.{ZeroEqual, ZeroLess}
use Rattle.forth_program.specs.Tree.{Plain}
use Rattle.forth_program.specs.State.{Halted, Underflow}
use Rattle.forth_program.specs.Step.{step}
use Rattle.forth_program.proofs.Rows.{failing, gives, stops}

sums : failing (
    gives (Plain Plus) (32768 ∷ 65535 ∷ 65 ∷ 66 ∷ []) (32767 ∷ 65 ∷ 66 ∷ []) 1 ∷
    gives (Plain Plus) (1 ∷ 32767 ∷ 65 ∷ 66 ∷ []) (32768 ∷ 65 ∷ 66 ∷ []) 1 ∷
    gives (Plain Plus) (17 ∷ 0 ∷ 65 ∷ 66 ∷ []) (17 ∷ 65 ∷ 66 ∷ []) 1 ∷
    stops (Plain Plus) (9 ∷ []) (1 ∷ 2 ∷ []) Underflow 1 ∷
    gives (Plain Minus) (32768 ∷ 2 ∷ 65 ∷ 66 ∷ []) (32770 ∷ 65 ∷ 66 ∷ []) 4 ∷
    gives (Plain Minus) (32767 ∷ 0 ∷ 65 ∷ 66 ∷ []) (32769 ∷ 65 ∷ 66 ∷ []) 4 ∷
    gives (Plain Minus) (65535 ∷ 2 ∷ 65 ∷ 66 ∷ []) (3 ∷ 65 ∷ 66 ∷ []) 4 ∷
    stops (Plain Minus) (9 ∷ []) (1 ∷ 2 ∷ []) Underflow 4 ∷
    gives (Plain Negate) (32767 ∷ 65 ∷ 66 ∷ []) (32769 ∷ 65 ∷ 66 ∷ []) 3 ∷
    gives (Plain Negate) (32768 ∷ 65 ∷ 66 ∷ []) (32768 ∷ 65 ∷ 66 ∷ []) 3 ∷
    gives (Plain Negate) (65535 ∷ 65 ∷ 66 ∷ []) (1 ∷ 65 ∷ 66 ∷ []) 3 ∷
    stops (Plain Negate) [] (1 ∷ 2 ∷ []) Underflow 3 ∷
    gives (Plain OnePlus) (0 ∷ 65 ∷ 66 ∷ []) (1 ∷ 65 ∷ 66 ∷ []) 2 ∷
    gives (Plain OnePlus) (32768 ∷ 65 ∷ 66 ∷ []) (32769 ∷ 65 ∷ 66 ∷ []) 2 ∷
    gives (Plain OnePlus) (65535 ∷ 65 ∷ 66 ∷ []) (0 ∷ 65 ∷ 66 ∷ []) 2 ∷
    stops (Plain OnePlus) [] (1 ∷ 2 ∷ []) Underflow 2 ∷
    gives (Plain OneMinus) (0 ∷ 65 ∷ 66 ∷ []) (65535 ∷ 65 ∷ 66 ∷ []) 1 ∷
    gives (Plain OneMinus) (32768 ∷ 65 ∷ 66 ∷ []) (32767 ∷ 65 ∷ 66 ∷ []) 1 ∷
    gives (Plain OneMinus) (65535 ∷ 65 ∷ 66 ∷ []) (65534 ∷ 65 ∷ 66 ∷ []) 1 ∷
    stops (Plain OneMinus) [] (1 ∷ 2 ∷ []) Underflow 1 ∷
    gives (Plain TwoStar) (1 ∷ 65 ∷ 66 ∷ []) (2 ∷ 65 ∷ 66 ∷ []) 2 ∷
    gives (Plain TwoStar) (32768 ∷ 65 ∷ 66 ∷ []) (0 ∷ 65 ∷ 66 ∷ []) 2 ∷
    gives (Plain TwoStar) (65535 ∷ 65 ∷ 66 ∷ []) (65534 ∷ 65 ∷ 66 ∷ []) 2 ∷
    stops (Plain TwoStar) [] (1 ∷ 2 ∷ []) Underflow 2 ∷
    gives (Plain TwoSlash) (32767 ∷ 65 ∷ 66 ∷ []) (16383 ∷ 65 ∷ 66 ∷ []) 24 ∷
    gives (Plain TwoSlash) (32768 ∷ 65 ∷ 66 ∷ []) (49152 ∷ 65 ∷ 66 ∷ []) 24 ∷
    gives (Plain TwoSlash) (65535 ∷ 65 ∷ 66 ∷ []) (65535 ∷ 65 ∷ 66 ∷ []) 24 ∷
    stops (Plain TwoSlash) [] (1 ∷ 2 ∷ []) Underflow 24 ∷
    gives (Plain Abs) (32768 ∷ 65 ∷ 66 ∷ []) (32768 ∷ 65 ∷ 66 ∷ []) 20 ∷
    gives (Plain Abs) (65534 ∷ 65 ∷ 66 ∷ []) (2 ∷ 65 ∷ 66 ∷ []) 20 ∷
    gives (Plain Abs) (65535 ∷ 65 ∷ 66 ∷ []) (1 ∷ 65 ∷ 66 ∷ []) 20 ∷
    stops (Plain Abs) [] (1 ∷ 2 ∷ []) Underflow 20 ∷
    gives (Plain Max) (17 ∷ 2 ∷ 65 ∷ 66 ∷ []) (17 ∷ 65 ∷ 66 ∷ []) 20 ∷
    gives (Plain Max) (32768 ∷ 65535 ∷ 65 ∷ 66 ∷ []) (65535 ∷ 65 ∷ 66 ∷ []) 20 ∷
    gives (Plain Max) (32767 ∷ 0 ∷ 65 ∷ 66 ∷ []) (32767 ∷ 65 ∷ 66 ∷ []) 20 ∷
    stops (Plain Max) (9 ∷ []) (1 ∷ 2 ∷ []) Underflow 20 ∷
    gives (Plain Min) (65535 ∷ 32768 ∷ 65 ∷ 66 ∷ []) (32768 ∷ 65 ∷ 66 ∷ []) 20 ∷
    gives (Plain Min) (0 ∷ 2 ∷ 65 ∷ 66 ∷ []) (0 ∷ 65 ∷ 66 ∷ []) 20 ∷
    gives (Plain Min) (32767 ∷ 32767 ∷ 65 ∷ 66 ∷ []) (32767 ∷ 65 ∷ 66 ∷ []) 20 ∷
    stops (Plain Min) (9 ∷ []) (1 ∷ 2 ∷ []) Underflow 20 ∷ []) ≡ []
unfolding step
sums = refl

bits : failing (
    gives (Plain And) (17 ∷ 255 ∷ 65 ∷ 66 ∷ []) (17 ∷ 65 ∷ 66 ∷ []) 1 ∷
    gives (Plain And) (0 ∷ 65535 ∷ 65 ∷ 66 ∷ []) (0 ∷ 65 ∷ 66 ∷ []) 1 ∷
    gives (Plain And) (8305 ∷ 3652 ∷ 65 ∷ 66 ∷ []) (64 ∷ 65 ∷ 66 ∷ []) 1 ∷
    stops (Plain And) (9 ∷ []) (1 ∷ 2 ∷ []) Underflow 1 ∷
    gives (Plain Or) (32768 ∷ 65535 ∷ 65 ∷ 66 ∷ []) (65535 ∷ 65 ∷ 66 ∷ []) 1 ∷
    gives (Plain Or) (0 ∷ 32767 ∷ 65 ∷ 66 ∷ []) (32767 ∷ 65 ∷ 66 ∷ []) 1 ∷
    gives (Plain Or) (2553 ∷ 47966 ∷ 65 ∷ 66 ∷ []) (48127 ∷ 65 ∷ 66 ∷ []) 1 ∷
    stops (Plain Or) (9 ∷ []) (1 ∷ 2 ∷ []) Underflow 1 ∷
    gives (Plain Xor) (65535 ∷ 32768 ∷ 65 ∷ 66 ∷ []) (32767 ∷ 65 ∷ 66 ∷ []) 1 ∷
    gives (Plain Xor) (32767 ∷ 1 ∷ 65 ∷ 66 ∷ []) (32766 ∷ 65 ∷ 66 ∷ []) 1 ∷
    gives (Plain Xor) (0 ∷ 0 ∷ 65 ∷ 66 ∷ []) (0 ∷ 65 ∷ 66 ∷ []) 1 ∷
    stops (Plain Xor) (9 ∷ []) (1 ∷ 2 ∷ []) Underflow 1 ∷
    gives (Plain Invert) (0 ∷ 65 ∷ 66 ∷ []) (65535 ∷ 65 ∷ 66 ∷ []) 1 ∷
    gives (Plain Invert) (32768 ∷ 65 ∷ 66 ∷ []) (32767 ∷ 65 ∷ 66 ∷ []) 1 ∷
    gives (Plain Invert) (65535 ∷ 65 ∷ 66 ∷ []) (0 ∷ 65 ∷ 66 ∷ []) 1 ∷
    stops (Plain Invert) [] (1 ∷ 2 ∷ []) Underflow 1 ∷
    gives (Plain LShift) (1 ∷ 32767 ∷ 65 ∷ 66 ∷ []) (65534 ∷ 65 ∷ 66 ∷ []) 1 ∷
    gives (Plain LShift) (0 ∷ 65535 ∷ 65 ∷ 66 ∷ []) (65535 ∷ 65 ∷ 66 ∷ []) 1 ∷
    gives (Plain LShift) (65535 ∷ 32768 ∷ 65 ∷ 66 ∷ []) (0 ∷ 65 ∷ 66 ∷ []) 1 ∷
    stops (Plain LShift) (9 ∷ []) (1 ∷ 2 ∷ []) Underflow 1 ∷
    gives (Plain RShift) (0 ∷ 2 ∷ 65 ∷ 66 ∷ []) (2 ∷ 65 ∷ 66 ∷ []) 1 ∷
    gives (Plain RShift) (1 ∷ 32768 ∷ 65 ∷ 66 ∷ []) (16384 ∷ 65 ∷ 66 ∷ []) 1 ∷
    gives (Plain RShift) (65535 ∷ 32767 ∷ 65 ∷ 66 ∷ []) (0 ∷ 65 ∷ 66 ∷ []) 1 ∷
    stops (Plain RShift) (9 ∷ []) (1 ∷ 2 ∷ []) Underflow 1 ∷ []) ≡ []
unfolding step
bits = refl

comparisons : failing (
    gives (Plain Equal) (17 ∷ 32768 ∷ 65 ∷ 66 ∷ []) (0 ∷ 65 ∷ 66 ∷ []) 1 ∷
    gives (Plain Equal) (0 ∷ 0 ∷ 65 ∷ 66 ∷ []) (65535 ∷ 65 ∷ 66 ∷ []) 1 ∷
    gives (Plain Equal) (65535 ∷ 32767 ∷ 65 ∷ 66 ∷ []) (0 ∷ 65 ∷ 66 ∷ []) 1 ∷
    stops (Plain Equal) (9 ∷ []) (1 ∷ 2 ∷ []) Underflow 1 ∷
    gives (Plain Less) (32768 ∷ 255 ∷ 65 ∷ 66 ∷ []) (0 ∷ 65 ∷ 66 ∷ []) 1 ∷
    gives (Plain Less) (32767 ∷ 1 ∷ 65 ∷ 66 ∷ []) (65535 ∷ 65 ∷ 66 ∷ []) 1 ∷
    gives (Plain Less) (0 ∷ 65535 ∷ 65 ∷ 66 ∷ []) (65535 ∷ 65 ∷ 66 ∷ []) 1 ∷
    stops (Plain Less) (9 ∷ []) (1 ∷ 2 ∷ []) Underflow 1 ∷
    gives (Plain Greater) (32768 ∷ 32767 ∷ 65 ∷ 66 ∷ []) (65535 ∷ 65 ∷ 66 ∷ []) 2 ∷
    gives (Plain Greater) (0 ∷ 0 ∷ 65 ∷ 66 ∷ []) (0 ∷ 65 ∷ 66 ∷ []) 2 ∷
    gives (Plain Greater) (17 ∷ 65535 ∷ 65 ∷ 66 ∷ []) (0 ∷ 65 ∷ 66 ∷ []) 2 ∷
    stops (Plain Greater) (9 ∷ []) (1 ∷ 2 ∷ []) Underflow 2 ∷
    gives (Plain ULess) (0 ∷ 32767 ∷ 65 ∷ 66 ∷ []) (0 ∷ 65 ∷ 66 ∷ []) 1 ∷
    gives (Plain ULess) (17 ∷ 32768 ∷ 65 ∷ 66 ∷ []) (0 ∷ 65 ∷ 66 ∷ []) 1 ∷
    gives (Plain ULess) (65535 ∷ 0 ∷ 65 ∷ 66 ∷ []) (65535 ∷ 65 ∷ 66 ∷ []) 1 ∷
    stops (Plain ULess) (9 ∷ []) (1 ∷ 2 ∷ []) Underflow 1 ∷
    gives (Plain ZeroEqual) (0 ∷ 65 ∷ 66 ∷ []) (65535 ∷ 65 ∷ 66 ∷ []) 2 ∷
    gives (Plain ZeroEqual) (32768 ∷ 65 ∷ 66 ∷ []) (0 ∷ 65 ∷ 66 ∷ []) 2 ∷
    gives (Plain ZeroEqual) (65535 ∷ 65 ∷ 66 ∷ []) (0 ∷ 65 ∷ 66 ∷ []) 2 ∷
    stops (Plain ZeroEqual) [] (1 ∷ 2 ∷ []) Underflow 2 ∷
    gives (Plain ZeroLess) (32767 ∷ 65 ∷ 66 ∷ []) (0 ∷ 65 ∷ 66 ∷ []) 2 ∷
    gives (Plain ZeroLess) (32768 ∷ 65 ∷ 66 ∷ []) (65535 ∷ 65 ∷ 66 ∷ []) 2 ∷
    gives (Plain ZeroLess) (65535 ∷ 65 ∷ 66 ∷ []) (65535 ∷ 65 ∷ 66 ∷ []) 2 ∷
    stops (Plain ZeroLess) [] (1 ∷ 2 ∷ []) Underflow 2 ∷ []) ≡ []
unfolding step
comparisons = refl

widths : failing (
    gives (Plain SToD) (0 ∷ 65 ∷ 66 ∷ []) (0 ∷ 0 ∷ 65 ∷ 66 ∷ []) 3 ∷
    gives (Plain SToD) (32768 ∷ 65 ∷ 66 ∷ []) (65535 ∷ 32768 ∷ 65 ∷ 66 ∷ []) 3 ∷
    gives (Plain SToD) (65535 ∷ 65 ∷ 66 ∷ []) (65535 ∷ 65535 ∷ 65 ∷ 66 ∷ []) 3 ∷
    stops (Plain SToD) [] (1 ∷ 2 ∷ []) Underflow 3 ∷
    gives (Plain Cells) (1 ∷ 65 ∷ 66 ∷ []) (2 ∷ 65 ∷ 66 ∷ []) 2 ∷
    gives (Plain Cells) (32768 ∷ 65 ∷ 66 ∷ []) (0 ∷ 65 ∷ 66 ∷ []) 2 ∷
    gives (Plain Cells) (65535 ∷ 65 ∷ 66 ∷ []) (65534 ∷ 65 ∷ 66 ∷ []) 2 ∷
    stops (Plain Cells) [] (1 ∷ 2 ∷ []) Underflow 2 ∷
    gives (Plain CellPlus) (0 ∷ 65 ∷ 66 ∷ []) (2 ∷ 65 ∷ 66 ∷ []) 2 ∷
    gives (Plain CellPlus) (32768 ∷ 65 ∷ 66 ∷ []) (32770 ∷ 65 ∷ 66 ∷ []) 2 ∷
    gives (Plain CellPlus) (65535 ∷ 65 ∷ 66 ∷ []) (1 ∷ 65 ∷ 66 ∷ []) 2 ∷
    stops (Plain CellPlus) [] (1 ∷ 2 ∷ []) Underflow 2 ∷
    gives (Plain Chars) (0 ∷ 65 ∷ 66 ∷ []) (0 ∷ 65 ∷ 66 ∷ []) 0 ∷
    gives (Plain Chars) (32768 ∷ 65 ∷ 66 ∷ []) (32768 ∷ 65 ∷ 66 ∷ []) 0 ∷
    gives (Plain Chars) (65535 ∷ 65 ∷ 66 ∷ []) (65535 ∷ 65 ∷ 66 ∷ []) 0 ∷
    stops (Plain Chars) [] (1 ∷ 2 ∷ []) Underflow 0 ∷
    gives (Plain CharPlus) (0 ∷ 65 ∷ 66 ∷ []) (1 ∷ 65 ∷ 66 ∷ []) 2 ∷
    gives (Plain CharPlus) (32768 ∷ 65 ∷ 66 ∷ []) (32769 ∷ 65 ∷ 66 ∷ []) 2 ∷
    gives (Plain CharPlus) (65535 ∷ 65 ∷ 66 ∷ []) (0 ∷ 65 ∷ 66 ∷ []) 2 ∷
    stops (Plain CharPlus) [] (1 ∷ 2 ∷ []) Underflow 2 ∷
    gives (Plain Aligned) (1 ∷ 65 ∷ 66 ∷ []) (2 ∷ 65 ∷ 66 ∷ []) 5 ∷
    gives (Plain Aligned) (32767 ∷ 65 ∷ 66 ∷ []) (32768 ∷ 65 ∷ 66 ∷ []) 5 ∷
    gives (Plain Aligned) (65535 ∷ 65 ∷ 66 ∷ []) (0 ∷ 65 ∷ 66 ∷ []) 5 ∷
    stops (Plain Aligned) [] (1 ∷ 2 ∷ []) Underflow 5 ∷ []) ≡ []
unfolding step
widths = refl

products : failing (
    gives (Plain UMStar) (65535 ∷ 1 ∷ 65 ∷ 66 ∷ []) (0 ∷ 65535 ∷ 65 ∷ 66 ∷ []) 1100 ∷
    gives (Plain UMStar) (1 ∷ 32768 ∷ 65 ∷ 66 ∷ []) (0 ∷ 32768 ∷ 65 ∷ 66 ∷ []) 1100 ∷
    gives (Plain UMStar) (2 ∷ 50000 ∷ 65 ∷ 66 ∷ []) (1 ∷ 34464 ∷ 65 ∷ 66 ∷ []) 1100 ∷
    stops (Plain UMStar) (9 ∷ []) (1 ∷ 2 ∷ []) Underflow 1100 ∷
    gives (Plain MStar) (65535 ∷ 1 ∷ 65 ∷ 66 ∷ []) (65535 ∷ 65535 ∷ 65 ∷ 66 ∷ []) 1400 ∷
    gives (Plain MStar) (32768 ∷ 32768 ∷ 65 ∷ 66 ∷ []) (16384 ∷ 0 ∷ 65 ∷ 66 ∷ []) 1400 ∷
    gives (Plain MStar) (2 ∷ 50000 ∷ 65 ∷ 66 ∷ []) (65535 ∷ 34464 ∷ 65 ∷ 66 ∷ []) 1400 ∷
    stops (Plain MStar) (9 ∷ []) (1 ∷ 2 ∷ []) Underflow 1400 ∷
    gives (Plain Star) (65535 ∷ 1 ∷ 65 ∷ 66 ∷ []) (65535 ∷ 65 ∷ 66 ∷ []) 1200 ∷
    gives (Plain Star) (32768 ∷ 32768 ∷ 65 ∷ 66 ∷ []) (0 ∷ 65 ∷ 66 ∷ []) 1200 ∷
    gives (Plain Star) (2 ∷ 50000 ∷ 65 ∷ 66 ∷ []) (34464 ∷ 65 ∷ 66 ∷ []) 1200 ∷
    stops (Plain Star) (9 ∷ []) (1 ∷ 2 ∷ []) Underflow 1200 ∷ []) ≡ []
unfolding step
products = refl

quotients : failing (
    gives (Plain UMSlashMod) (65534 ∷ 0 ∷ 7 ∷ 65 ∷ 66 ∷ []) (0 ∷ 7 ∷ 65 ∷ 66 ∷ []) 2400 ∷
    stops (Plain UMSlashMod) (1 ∷ 65535 ∷ 32768 ∷ 65 ∷ 66 ∷ []) [] (Halted 10) 2400 ∷
    gives (Plain UMSlashMod) (65535 ∷ 0 ∷ 32768 ∷ 65 ∷ 66 ∷ []) (0 ∷ 32768 ∷ 65 ∷ 66 ∷ []) 2400 ∷
    gives (Plain UMSlashMod) (3 ∷ 2 ∷ 65531 ∷ 65 ∷ 66 ∷ []) (65534 ∷ 1 ∷ 65 ∷ 66 ∷ []) 2400 ∷
    stops (Plain UMSlashMod) (9 ∷ 9 ∷ []) (1 ∷ 2 ∷ []) Underflow 2400 ∷
    gives (Plain SMSlashRem) (2 ∷ 0 ∷ 7 ∷ 65 ∷ 66 ∷ []) (3 ∷ 1 ∷ 65 ∷ 66 ∷ []) 3000 ∷
    gives (Plain SMSlashRem) (65535 ∷ 0 ∷ 32768 ∷ 65 ∷ 66 ∷ []) (32768 ∷ 0 ∷ 65 ∷ 66 ∷ []) 3000 ∷
    stops (Plain SMSlashRem) (65535 ∷ 32768 ∷ 0 ∷ 65 ∷ 66 ∷ []) [] (Halted 10) 3000 ∷
    gives (Plain SMSlashRem) (65533 ∷ 0 ∷ 6 ∷ 65 ∷ 66 ∷ []) (65534 ∷ 0 ∷ 65 ∷ 66 ∷ []) 3000 ∷
    stops (Plain SMSlashRem) (9 ∷ 9 ∷ []) (1 ∷ 2 ∷ []) Underflow 3000 ∷
    gives (Plain FMSlashMod) (2 ∷ 0 ∷ 7 ∷ 65 ∷ 66 ∷ []) (3 ∷ 1 ∷ 65 ∷ 66 ∷ []) 3200 ∷
    gives (Plain FMSlashMod) (65535 ∷ 0 ∷ 32768 ∷ 65 ∷ 66 ∷ []) (32768 ∷ 0 ∷ 65 ∷ 66 ∷ []) 3200 ∷
    stops (Plain FMSlashMod) (65535 ∷ 32768 ∷ 0 ∷ 65 ∷ 66 ∷ []) [] (Halted 10) 3200 ∷
    gives (Plain FMSlashMod) (65533 ∷ 0 ∷ 6 ∷ 65 ∷ 66 ∷ []) (65534 ∷ 0 ∷ 65 ∷ 66 ∷ []) 3200 ∷
    stops (Plain FMSlashMod) (9 ∷ 9 ∷ []) (1 ∷ 2 ∷ []) Underflow 3200 ∷
    gives (Plain SlashMod) (3 ∷ 0 ∷ 65 ∷ 66 ∷ []) (0 ∷ 0 ∷ 65 ∷ 66 ∷ []) 3600 ∷
    stops (Plain SlashMod) (65535 ∷ 32768 ∷ 65 ∷ 66 ∷ []) [] (Halted 10) 3600 ∷
    gives (Plain SlashMod) (32768 ∷ 32767 ∷ 65 ∷ 66 ∷ []) (65535 ∷ 65535 ∷ 65 ∷ 66 ∷ []) 3600 ∷
    gives (Plain SlashMod) (2 ∷ 65535 ∷ 65 ∷ 66 ∷ []) (65535 ∷ 1 ∷ 65 ∷ 66 ∷ []) 3600 ∷
    stops (Plain SlashMod) (9 ∷ []) (1 ∷ 2 ∷ []) Underflow 3600 ∷
    gives (Plain Slash) (2 ∷ 7 ∷ 65 ∷ 66 ∷ []) (3 ∷ 65 ∷ 66 ∷ []) 3700 ∷
    gives (Plain Slash) (3 ∷ 0 ∷ 65 ∷ 66 ∷ []) (0 ∷ 65 ∷ 66 ∷ []) 3700 ∷
    stops (Plain Slash) (65535 ∷ 32768 ∷ 65 ∷ 66 ∷ []) [] (Halted 10) 3700 ∷
    gives (Plain Slash) (32768 ∷ 32767 ∷ 65 ∷ 66 ∷ []) (65535 ∷ 65 ∷ 66 ∷ []) 3700 ∷
    stops (Plain Slash) (9 ∷ []) (1 ∷ 2 ∷ []) Underflow 3700 ∷
    gives (Plain Mod) (3 ∷ 0 ∷ 65 ∷ 66 ∷ []) (0 ∷ 65 ∷ 66 ∷ []) 3700 ∷
    stops (Plain Mod) (65535 ∷ 32768 ∷ 65 ∷ 66 ∷ []) [] (Halted 10) 3700 ∷
    gives (Plain Mod) (32768 ∷ 32767 ∷ 65 ∷ 66 ∷ []) (65535 ∷ 65 ∷ 66 ∷ []) 3700 ∷
    gives (Plain Mod) (2 ∷ 65535 ∷ 65 ∷ 66 ∷ []) (1 ∷ 65 ∷ 66 ∷ []) 3700 ∷
    stops (Plain Mod) (9 ∷ []) (1 ∷ 2 ∷ []) Underflow 3700 ∷
    gives (Plain StarSlashMod) (5 ∷ 4 ∷ 3 ∷ 65 ∷ 66 ∷ []) (2 ∷ 2 ∷ 65 ∷ 66 ∷ []) 5200 ∷
    gives (Plain StarSlashMod) (32768 ∷ 32768 ∷ 32768 ∷ 65 ∷ 66 ∷ []) (32768 ∷ 0 ∷ 65 ∷ 66 ∷ []) 5200 ∷
    stops (Plain StarSlashMod) (32767 ∷ 32768 ∷ 32768 ∷ 65 ∷ 66 ∷ []) [] (Halted 10) 5200 ∷
    gives (Plain StarSlashMod) (65535 ∷ 9 ∷ 0 ∷ 65 ∷ 66 ∷ []) (0 ∷ 0 ∷ 65 ∷ 66 ∷ []) 5200 ∷
    stops (Plain StarSlashMod) (9 ∷ 9 ∷ []) (1 ∷ 2 ∷ []) Underflow 5200 ∷
    gives (Plain StarSlash) (5 ∷ 4 ∷ 3 ∷ 65 ∷ 66 ∷ []) (2 ∷ 65 ∷ 66 ∷ []) 5300 ∷
    gives (Plain StarSlash) (32768 ∷ 32768 ∷ 32768 ∷ 65 ∷ 66 ∷ []) (32768 ∷ 65 ∷ 66 ∷ []) 5300 ∷
    stops (Plain StarSlash) (32767 ∷ 32768 ∷ 32768 ∷ 65 ∷ 66 ∷ []) [] (Halted 10) 5300 ∷
    gives (Plain StarSlash) (65535 ∷ 9 ∷ 0 ∷ 65 ∷ 66 ∷ []) (0 ∷ 65 ∷ 66 ∷ []) 5300 ∷
    stops (Plain StarSlash) (9 ∷ 9 ∷ []) (1 ∷ 2 ∷ []) Underflow 5300 ∷ []) ≡ []
unfolding step
quotients = refl
