-- Words of the Core extension: rows made by an independent evaluator.
use Rattle.std.specs.Prelude.{◌≡◌, List, [], ◌∷◌, refl, None, Some}
use Rattle.word_table.specs.declared.word.Word.TheVariants.{Nip, Tuck, NotEqual, ZeroGreater, Within, Hex}
use Rattle.forth_program.specs.Tree.{Plain}
use Rattle.forth_program.specs.State.{Underflow, Stored}
use Rattle.forth_program.specs.Step.{step}
use Rattle.forth_program.proofs.Rows.{failing, gives, stops, vector}

at_Nip : failing (
    gives (Plain Nip) (2 ∷ 1 ∷ 65 ∷ 66 ∷ []) (2 ∷ 65 ∷ 66 ∷ []) 1 ∷
    gives (Plain Nip) (1 ∷ 2 ∷ 65 ∷ 66 ∷ []) (1 ∷ 65 ∷ 66 ∷ []) 1 ∷
    gives (Plain Nip) (0 ∷ 0 ∷ 65 ∷ 66 ∷ []) (0 ∷ 65 ∷ 66 ∷ []) 1 ∷
    gives (Plain Nip) (0 ∷ 65535 ∷ 65 ∷ 66 ∷ []) (0 ∷ 65 ∷ 66 ∷ []) 1 ∷
    stops (Plain Nip) [] [] Underflow 1 ∷
    stops (Plain Nip) (9 ∷ []) [] Underflow 1 ∷ []) ≡ []
unfolding step
at_Nip = refl

at_Tuck : failing (
    gives (Plain Tuck) (2 ∷ 1 ∷ 65 ∷ 66 ∷ []) (2 ∷ 1 ∷ 2 ∷ 65 ∷ 66 ∷ []) 2 ∷
    gives (Plain Tuck) (1 ∷ 2 ∷ 65 ∷ 66 ∷ []) (1 ∷ 2 ∷ 1 ∷ 65 ∷ 66 ∷ []) 2 ∷
    gives (Plain Tuck) (0 ∷ 0 ∷ 65 ∷ 66 ∷ []) (0 ∷ 0 ∷ 0 ∷ 65 ∷ 66 ∷ []) 2 ∷
    gives (Plain Tuck) (0 ∷ 65535 ∷ 65 ∷ 66 ∷ []) (0 ∷ 65535 ∷ 0 ∷ 65 ∷ 66 ∷ []) 2 ∷
    stops (Plain Tuck) [] [] Underflow 2 ∷
    stops (Plain Tuck) (9 ∷ []) [] Underflow 2 ∷ []) ≡ []
unfolding step
at_Tuck = refl

at_NotEqual : failing (
    gives (Plain NotEqual) (2 ∷ 1 ∷ 65 ∷ 66 ∷ []) (65535 ∷ 65 ∷ 66 ∷ []) 2 ∷
    gives (Plain NotEqual) (1 ∷ 2 ∷ 65 ∷ 66 ∷ []) (65535 ∷ 65 ∷ 66 ∷ []) 2 ∷
    gives (Plain NotEqual) (0 ∷ 0 ∷ 65 ∷ 66 ∷ []) (0 ∷ 65 ∷ 66 ∷ []) 2 ∷
    gives (Plain NotEqual) (0 ∷ 65535 ∷ 65 ∷ 66 ∷ []) (65535 ∷ 65 ∷ 66 ∷ []) 2 ∷
    gives (Plain NotEqual) (65535 ∷ 0 ∷ 65 ∷ 66 ∷ []) (65535 ∷ 65 ∷ 66 ∷ []) 2 ∷
    gives (Plain NotEqual) (32767 ∷ 32768 ∷ 65 ∷ 66 ∷ []) (65535 ∷ 65 ∷ 66 ∷ []) 2 ∷
    gives (Plain NotEqual) (7 ∷ 7 ∷ 65 ∷ 66 ∷ []) (0 ∷ 65 ∷ 66 ∷ []) 2 ∷
    stops (Plain NotEqual) [] [] Underflow 2 ∷
    stops (Plain NotEqual) (9 ∷ []) [] Underflow 2 ∷ []) ≡ []
unfolding step
at_NotEqual = refl

at_ZeroGreater : failing (
    gives (Plain ZeroGreater) (0 ∷ 65 ∷ 66 ∷ []) (0 ∷ 65 ∷ 66 ∷ []) 3 ∷
    gives (Plain ZeroGreater) (1 ∷ 65 ∷ 66 ∷ []) (65535 ∷ 65 ∷ 66 ∷ []) 3 ∷
    gives (Plain ZeroGreater) (2 ∷ 65 ∷ 66 ∷ []) (65535 ∷ 65 ∷ 66 ∷ []) 3 ∷
    gives (Plain ZeroGreater) (32767 ∷ 65 ∷ 66 ∷ []) (65535 ∷ 65 ∷ 66 ∷ []) 3 ∷
    gives (Plain ZeroGreater) (32768 ∷ 65 ∷ 66 ∷ []) (0 ∷ 65 ∷ 66 ∷ []) 3 ∷
    gives (Plain ZeroGreater) (65535 ∷ 65 ∷ 66 ∷ []) (0 ∷ 65 ∷ 66 ∷ []) 3 ∷
    gives (Plain ZeroGreater) (255 ∷ 65 ∷ 66 ∷ []) (65535 ∷ 65 ∷ 66 ∷ []) 3 ∷
    gives (Plain ZeroGreater) (40000 ∷ 65 ∷ 66 ∷ []) (0 ∷ 65 ∷ 66 ∷ []) 3 ∷
    stops (Plain ZeroGreater) [] [] Underflow 3 ∷ []) ≡ []
unfolding step
at_ZeroGreater = refl

at_Within : failing (
    gives (Plain Within) (10 ∷ 1 ∷ 5 ∷ 65 ∷ 66 ∷ []) (65535 ∷ 65 ∷ 66 ∷ []) 12 ∷
    gives (Plain Within) (10 ∷ 1 ∷ 1 ∷ 65 ∷ 66 ∷ []) (65535 ∷ 65 ∷ 66 ∷ []) 12 ∷
    gives (Plain Within) (10 ∷ 1 ∷ 10 ∷ 65 ∷ 66 ∷ []) (0 ∷ 65 ∷ 66 ∷ []) 12 ∷
    gives (Plain Within) (10 ∷ 1 ∷ 0 ∷ 65 ∷ 66 ∷ []) (0 ∷ 65 ∷ 66 ∷ []) 12 ∷
    gives (Plain Within) (1 ∷ 10 ∷ 5 ∷ 65 ∷ 66 ∷ []) (0 ∷ 65 ∷ 66 ∷ []) 12 ∷
    gives (Plain Within) (1 ∷ 10 ∷ 10 ∷ 65 ∷ 66 ∷ []) (65535 ∷ 65 ∷ 66 ∷ []) 12 ∷
    gives (Plain Within) (1 ∷ 10 ∷ 1 ∷ 65 ∷ 66 ∷ []) (0 ∷ 65 ∷ 66 ∷ []) 12 ∷
    gives (Plain Within) (1 ∷ 10 ∷ 0 ∷ 65 ∷ 66 ∷ []) (65535 ∷ 65 ∷ 66 ∷ []) 12 ∷
    gives (Plain Within) (3 ∷ 3 ∷ 3 ∷ 65 ∷ 66 ∷ []) (0 ∷ 65 ∷ 66 ∷ []) 12 ∷
    gives (Plain Within) (2 ∷ 65530 ∷ 65535 ∷ 65 ∷ 66 ∷ []) (65535 ∷ 65 ∷ 66 ∷ []) 12 ∷
    gives (Plain Within) (2 ∷ 65530 ∷ 2 ∷ 65 ∷ 66 ∷ []) (0 ∷ 65 ∷ 66 ∷ []) 12 ∷
    gives (Plain Within) (2 ∷ 65530 ∷ 0 ∷ 65 ∷ 66 ∷ []) (65535 ∷ 65 ∷ 66 ∷ []) 12 ∷
    gives (Plain Within) (32769 ∷ 32767 ∷ 32768 ∷ 65 ∷ 66 ∷ []) (65535 ∷ 65 ∷ 66 ∷ []) 12 ∷
    gives (Plain Within) (0 ∷ 32768 ∷ 65535 ∷ 65 ∷ 66 ∷ []) (65535 ∷ 65 ∷ 66 ∷ []) 12 ∷
    stops (Plain Within) [] [] Underflow 12 ∷
    stops (Plain Within) (9 ∷ []) [] Underflow 12 ∷
    stops (Plain Within) (9 ∷ 8 ∷ []) [] Underflow 12 ∷ []) ≡ []
unfolding step
at_Within = refl

at_Hex : failing (
    vector (Plain Hex) (65 ∷ 66 ∷ []) [] [] [] None (65 ∷ 66 ∷ []) [] ((0, 16) ∷ []) [] [] (Stored 8192 16 ∷ []) 4 ∷
    vector (Plain Hex) [] [] ((0, 2) ∷ (1, 1) ∷ []) [] None [] [] ((0, 16) ∷ (1, 0) ∷ []) [] [] (Stored 8192 16 ∷ []) 4 ∷ []) ≡ []
unfolding step
at_Hex = refl
