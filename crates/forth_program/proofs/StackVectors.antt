-- Words on the data stack and on return entries: rows made by an independent evaluator.
use Rattle.std.specs.Prelude.{◌≡◌, [], ◌∷◌, refl, None}
use Rattle.word_table.specs.declared.word.Word.TheVariants.{Depth, DropTop, Dup, Index, OuterIndex, Over, QDup, RFetch, RFrom, Rot, Swap, ToR, TwoDrop, TwoDup, TwoOver, TwoSwap, Unloop}
use Rattle.forth_program.specs.Tree.{Plain}
use Rattle.forth_program.specs.State.{Cell, Loop, Underflow, Unbalanced}
use Rattle.forth_program.specs.Step.{step}
use Rattle.forth_program.proofs.Rows.{failing, gives, stops, moves, vector}

stack_words : failing (
    gives (Plain Dup) (0 ∷ 65 ∷ 66 ∷ []) (0 ∷ 0 ∷ 65 ∷ 66 ∷ []) 1 ∷
    gives (Plain Dup) (32768 ∷ 65 ∷ 66 ∷ []) (32768 ∷ 32768 ∷ 65 ∷ 66 ∷ []) 1 ∷
    gives (Plain Dup) (65535 ∷ 65 ∷ 66 ∷ []) (65535 ∷ 65535 ∷ 65 ∷ 66 ∷ []) 1 ∷
    stops (Plain Dup) [] (1 ∷ 2 ∷ []) Underflow 1 ∷
    gives (Plain DropTop) (0 ∷ 65 ∷ 66 ∷ []) (65 ∷ 66 ∷ []) 1 ∷
    gives (Plain DropTop) (32768 ∷ 65 ∷ 66 ∷ []) (65 ∷ 66 ∷ []) 1 ∷
    gives (Plain DropTop) (65535 ∷ 65 ∷ 66 ∷ []) (65 ∷ 66 ∷ []) 1 ∷
    stops (Plain DropTop) [] (1 ∷ 2 ∷ []) Underflow 1 ∷
    gives (Plain Swap) (17 ∷ 2 ∷ 65 ∷ 66 ∷ []) (2 ∷ 17 ∷ 65 ∷ 66 ∷ []) 1 ∷
    gives (Plain Swap) (32768 ∷ 65535 ∷ 65 ∷ 66 ∷ []) (65535 ∷ 32768 ∷ 65 ∷ 66 ∷ []) 1 ∷
    gives (Plain Swap) (0 ∷ 32767 ∷ 65 ∷ 66 ∷ []) (32767 ∷ 0 ∷ 65 ∷ 66 ∷ []) 1 ∷
    stops (Plain Swap) (9 ∷ []) (1 ∷ 2 ∷ []) Underflow 1 ∷
    gives (Plain Over) (0 ∷ 32767 ∷ 65 ∷ 66 ∷ []) (32767 ∷ 0 ∷ 32767 ∷ 65 ∷ 66 ∷ []) 1 ∷
    gives (Plain Over) (65535 ∷ 32768 ∷ 65 ∷ 66 ∷ []) (32768 ∷ 65535 ∷ 32768 ∷ 65 ∷ 66 ∷ []) 1 ∷
    gives (Plain Over) (17 ∷ 1 ∷ 65 ∷ 66 ∷ []) (1 ∷ 17 ∷ 1 ∷ 65 ∷ 66 ∷ []) 1 ∷
    stops (Plain Over) (9 ∷ []) (1 ∷ 2 ∷ []) Underflow 1 ∷
    gives (Plain Rot) (45482 ∷ 2957 ∷ 60515 ∷ 65 ∷ 66 ∷ []) (60515 ∷ 45482 ∷ 2957 ∷ 65 ∷ 66 ∷ []) 4 ∷
    gives (Plain Rot) (46591 ∷ 22026 ∷ 15347 ∷ 65 ∷ 66 ∷ []) (15347 ∷ 46591 ∷ 22026 ∷ 65 ∷ 66 ∷ []) 4 ∷
    gives (Plain Rot) (64709 ∷ 7727 ∷ 28600 ∷ 65 ∷ 66 ∷ []) (28600 ∷ 64709 ∷ 7727 ∷ 65 ∷ 66 ∷ []) 4 ∷
    stops (Plain Rot) (9 ∷ 9 ∷ []) (1 ∷ 2 ∷ []) Underflow 4 ∷
    gives (Plain TwoDup) (32767 ∷ 65535 ∷ 65 ∷ 66 ∷ []) (32767 ∷ 65535 ∷ 32767 ∷ 65535 ∷ 65 ∷ 66 ∷ []) 2 ∷
    gives (Plain TwoDup) (0 ∷ 32768 ∷ 65 ∷ 66 ∷ []) (0 ∷ 32768 ∷ 0 ∷ 32768 ∷ 65 ∷ 66 ∷ []) 2 ∷
    gives (Plain TwoDup) (1 ∷ 255 ∷ 65 ∷ 66 ∷ []) (1 ∷ 255 ∷ 1 ∷ 255 ∷ 65 ∷ 66 ∷ []) 2 ∷
    stops (Plain TwoDup) (9 ∷ []) (1 ∷ 2 ∷ []) Underflow 2 ∷
    gives (Plain TwoDrop) (65535 ∷ 32768 ∷ 65 ∷ 66 ∷ []) (65 ∷ 66 ∷ []) 2 ∷
    gives (Plain TwoDrop) (0 ∷ 32767 ∷ 65 ∷ 66 ∷ []) (65 ∷ 66 ∷ []) 2 ∷
    gives (Plain TwoDrop) (17 ∷ 255 ∷ 65 ∷ 66 ∷ []) (65 ∷ 66 ∷ []) 2 ∷
    stops (Plain TwoDrop) (9 ∷ []) (1 ∷ 2 ∷ []) Underflow 2 ∷
    gives (Plain QDup) (32767 ∷ 65 ∷ 66 ∷ []) (32767 ∷ 32767 ∷ 65 ∷ 66 ∷ []) 12 ∷
    gives (Plain QDup) (32768 ∷ 65 ∷ 66 ∷ []) (32768 ∷ 32768 ∷ 65 ∷ 66 ∷ []) 12 ∷
    gives (Plain QDup) (65535 ∷ 65 ∷ 66 ∷ []) (65535 ∷ 65535 ∷ 65 ∷ 66 ∷ []) 12 ∷
    stops (Plain QDup) [] (1 ∷ 2 ∷ []) Underflow 12 ∷
    gives (Plain TwoSwap) (22382 ∷ 61890 ∷ 54377 ∷ 45044 ∷ 65 ∷ 66 ∷ []) (54377 ∷ 45044 ∷ 22382 ∷ 61890 ∷ 65 ∷ 66 ∷ []) 24 ∷
    gives (Plain TwoSwap) (36929 ∷ 39029 ∷ 33520 ∷ 34100 ∷ 65 ∷ 66 ∷ []) (33520 ∷ 34100 ∷ 36929 ∷ 39029 ∷ 65 ∷ 66 ∷ []) 24 ∷
    gives (Plain TwoSwap) (53242 ∷ 31282 ∷ 39431 ∷ 63331 ∷ 65 ∷ 66 ∷ []) (39431 ∷ 63331 ∷ 53242 ∷ 31282 ∷ 65 ∷ 66 ∷ []) 24 ∷
    stops (Plain TwoSwap) (9 ∷ 9 ∷ 9 ∷ []) (1 ∷ 2 ∷ []) Underflow 24 ∷
    gives (Plain TwoOver) (51690 ∷ 15694 ∷ 21932 ∷ 21188 ∷ 65 ∷ 66 ∷ []) (21932 ∷ 21188 ∷ 51690 ∷ 15694 ∷ 21932 ∷ 21188 ∷ 65 ∷ 66 ∷ []) 48 ∷
    gives (Plain TwoOver) (9852 ∷ 27246 ∷ 65152 ∷ 28839 ∷ 65 ∷ 66 ∷ []) (65152 ∷ 28839 ∷ 9852 ∷ 27246 ∷ 65152 ∷ 28839 ∷ 65 ∷ 66 ∷ []) 48 ∷
    gives (Plain TwoOver) (59373 ∷ 43625 ∷ 58977 ∷ 56023 ∷ 65 ∷ 66 ∷ []) (58977 ∷ 56023 ∷ 59373 ∷ 43625 ∷ 58977 ∷ 56023 ∷ 65 ∷ 66 ∷ []) 48 ∷
    stops (Plain TwoOver) (9 ∷ 9 ∷ 9 ∷ []) (1 ∷ 2 ∷ []) Underflow 48 ∷
    gives (Plain Depth) (65 ∷ 66 ∷ []) (2 ∷ 65 ∷ 66 ∷ []) 3 ∷
    vector (Plain Depth) (65 ∷ 66 ∷ []) [] ((4, 129) ∷ (0, 16) ∷ []) [] None (2 ∷ 65 ∷ 66 ∷ []) [] [] [] [] [] 3 ∷
    vector (Plain Depth) [] [] ((4, 255) ∷ (5, 255) ∷ []) [] None (0 ∷ []) [] [] [] [] [] 3 ∷ []) ≡ []
unfolding step
stack_words = refl

return_words : failing (
    moves (Plain ToR) (8 ∷ 65 ∷ 66 ∷ []) (Cell 5 ∷ []) (65 ∷ 66 ∷ []) (Cell 8 ∷ Cell 5 ∷ []) 1 ∷
    moves (Plain ToR) (8 ∷ 65 ∷ 66 ∷ []) (Loop 10 3 ∷ []) (65 ∷ 66 ∷ []) (Cell 8 ∷ Loop 10 3 ∷ []) 1 ∷
    moves (Plain ToR) (8 ∷ 65 ∷ 66 ∷ []) (Loop 10 3 ∷ Cell 9 ∷ []) (65 ∷ 66 ∷ []) (Cell 8 ∷ Loop 10 3 ∷ Cell 9 ∷ []) 1 ∷
    stops (Plain ToR) [] (1 ∷ 2 ∷ []) Underflow 1 ∷
    stops (Plain RFrom) (65 ∷ 66 ∷ []) [] Unbalanced 1 ∷
    moves (Plain RFrom) (65 ∷ 66 ∷ []) (Cell 5 ∷ []) (5 ∷ 65 ∷ 66 ∷ []) [] 1 ∷
    moves (Plain RFrom) (65 ∷ 66 ∷ []) (Cell 9 ∷ Loop 10 3 ∷ []) (9 ∷ 65 ∷ 66 ∷ []) (Loop 10 3 ∷ []) 1 ∷
    stops (Plain RFetch) (65 ∷ 66 ∷ []) [] Unbalanced 1 ∷
    moves (Plain RFetch) (65 ∷ 66 ∷ []) (Cell 5 ∷ []) (5 ∷ 65 ∷ 66 ∷ []) (Cell 5 ∷ []) 1 ∷
    moves (Plain RFetch) (65 ∷ 66 ∷ []) (Cell 9 ∷ Loop 10 3 ∷ []) (9 ∷ 65 ∷ 66 ∷ []) (Cell 9 ∷ Loop 10 3 ∷ []) 1 ∷
    stops (Plain Index) (65 ∷ 66 ∷ []) [] Unbalanced 5 ∷
    moves (Plain Index) (65 ∷ 66 ∷ []) (Loop 10 3 ∷ []) (3 ∷ 65 ∷ 66 ∷ []) (Loop 10 3 ∷ []) 5 ∷
    moves (Plain Index) (65 ∷ 66 ∷ []) (Loop 10 3 ∷ Cell 9 ∷ []) (3 ∷ 65 ∷ 66 ∷ []) (Loop 10 3 ∷ Cell 9 ∷ []) 5 ∷
    moves (Plain Index) (65 ∷ 66 ∷ []) (Loop 1 2 ∷ Loop 3 4 ∷ Cell 5 ∷ []) (2 ∷ 65 ∷ 66 ∷ []) (Loop 1 2 ∷ Loop 3 4 ∷ Cell 5 ∷ []) 5 ∷
    stops (Plain OuterIndex) (65 ∷ 66 ∷ []) [] Unbalanced 12 ∷
    moves (Plain OuterIndex) (65 ∷ 66 ∷ []) (Loop 10 3 ∷ Loop 20 7 ∷ []) (7 ∷ 65 ∷ 66 ∷ []) (Loop 10 3 ∷ Loop 20 7 ∷ []) 12 ∷
    moves (Plain OuterIndex) (65 ∷ 66 ∷ []) (Loop 1 2 ∷ Loop 3 4 ∷ Cell 5 ∷ []) (4 ∷ 65 ∷ 66 ∷ []) (Loop 1 2 ∷ Loop 3 4 ∷ Cell 5 ∷ []) 12 ∷
    stops (Plain Unloop) (65 ∷ 66 ∷ []) [] Unbalanced 4 ∷
    moves (Plain Unloop) (65 ∷ 66 ∷ []) (Loop 10 3 ∷ []) (65 ∷ 66 ∷ []) [] 4 ∷
    moves (Plain Unloop) (65 ∷ 66 ∷ []) (Loop 10 3 ∷ Loop 20 7 ∷ []) (65 ∷ 66 ∷ []) (Loop 20 7 ∷ []) 4 ∷
    moves (Plain Unloop) (65 ∷ 66 ∷ []) (Loop 10 3 ∷ Cell 9 ∷ []) (65 ∷ 66 ∷ []) (Cell 9 ∷ []) 4 ∷ []) ≡ []
unfolding step
return_words = refl
