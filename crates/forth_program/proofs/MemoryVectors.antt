-- Words on data space: rows made by an independent evaluator.
use Rattle.std.specs.Prelude.{◌≡◌, [], ◌∷◌, refl, None, Some}
use Rattle.word_table.specs.declared.word.Word.TheVariants.{Align, Allot, Base, CComma, CFetch, CStore, Comma, Count, Decimal, Fetch, Fill, Here, Move, PlusStore, Store, TwoFetch, TwoStore}
use Rattle.forth_program.specs.Tree.{Plain}
use Rattle.forth_program.specs.State.{Halted, InputEnded, Outside, Underflow, Stored, Took}
use Rattle.forth_program.specs.Step.{step}
use Rattle.forth_program.proofs.Rows.{failing, gives, stops, vector}

cells_and_bytes : failing (
    vector (Plain Fetch) (8320 ∷ 65 ∷ 66 ∷ []) [] [] (200 ∷ 9 ∷ []) None (35459 ∷ 65 ∷ 66 ∷ []) [] [] (200 ∷ 9 ∷ []) [] [] 1 ∷
    vector (Plain Fetch) (8325 ∷ 65 ∷ 66 ∷ []) [] [] (200 ∷ 9 ∷ []) None (42655 ∷ 65 ∷ 66 ∷ []) [] [] (200 ∷ 9 ∷ []) [] [] 1 ∷
    stops (Plain Fetch) (65535 ∷ 65 ∷ 66 ∷ []) (200 ∷ 9 ∷ []) (Outside 65534) 1 ∷
    vector (Plain Fetch) (8192 ∷ 65 ∷ 66 ∷ []) [] [] (200 ∷ 9 ∷ []) None (10 ∷ 65 ∷ 66 ∷ []) [] [] (200 ∷ 9 ∷ []) [] [] 1 ∷
    stops (Plain Fetch) (16386 ∷ 65 ∷ 66 ∷ []) [] InputEnded 1 ∷
    stops (Plain Fetch) [] (1 ∷ 2 ∷ []) Underflow 1 ∷
    vector (Plain Store) (16384 ∷ 43981 ∷ 65 ∷ 66 ∷ []) [] [] (77 ∷ []) None (65 ∷ 66 ∷ []) [] [] (77 ∷ []) (205 ∷ []) (Stored 16384 43981 ∷ []) 2 ∷
    vector (Plain Store) (16385 ∷ 43981 ∷ 65 ∷ 66 ∷ []) [] [] (77 ∷ []) None (65 ∷ 66 ∷ []) [] [] (77 ∷ []) (205 ∷ []) (Stored 16384 43981 ∷ []) 2 ∷
    stops (Plain Store) (16388 ∷ 43981 ∷ 65 ∷ 66 ∷ []) (77 ∷ []) (Halted 205) 2 ∷
    stops (Plain Store) (65535 ∷ 43981 ∷ 65 ∷ 66 ∷ []) (77 ∷ []) (Outside 65534) 2 ∷
    vector (Plain Store) (8321 ∷ 65535 ∷ 65 ∷ 66 ∷ []) [] [] [] None (65 ∷ 66 ∷ []) [] ((128, 255) ∷ (129, 255) ∷ []) [] [] (Stored 8320 65535 ∷ []) 2 ∷
    stops (Plain Store) (9 ∷ []) (1 ∷ 2 ∷ []) Underflow 2 ∷
    vector (Plain CFetch) (8320 ∷ 65 ∷ 66 ∷ []) [] [] (200 ∷ 9 ∷ []) None (131 ∷ 65 ∷ 66 ∷ []) [] [] (200 ∷ 9 ∷ []) [] [] 24 ∷
    vector (Plain CFetch) (8321 ∷ 65 ∷ 66 ∷ []) [] [] (200 ∷ 9 ∷ []) None (138 ∷ 65 ∷ 66 ∷ []) [] [] (200 ∷ 9 ∷ []) [] [] 24 ∷
    stops (Plain CFetch) (65535 ∷ 65 ∷ 66 ∷ []) (200 ∷ 9 ∷ []) (Outside 65534) 24 ∷
    vector (Plain CFetch) (8192 ∷ 65 ∷ 66 ∷ []) [] [] (200 ∷ 9 ∷ []) None (10 ∷ 65 ∷ 66 ∷ []) [] [] (200 ∷ 9 ∷ []) [] [] 24 ∷
    stops (Plain CFetch) (16386 ∷ 65 ∷ 66 ∷ []) [] InputEnded 24 ∷
    stops (Plain CFetch) [] (1 ∷ 2 ∷ []) Underflow 24 ∷
    vector (Plain CStore) (8320 ∷ 43981 ∷ 65 ∷ 66 ∷ []) [] [] (77 ∷ []) None (65 ∷ 66 ∷ []) [] ((128, 205) ∷ []) (77 ∷ []) [] (Stored 8320 35533 ∷ []) 48 ∷
    vector (Plain CStore) (16386 ∷ 43981 ∷ 65 ∷ 66 ∷ []) [] [] (77 ∷ []) (Some (Outside 16386)) [] [] [] [] [] (Took 77 ∷ []) 48 ∷
    vector (Plain CStore) (8192 ∷ 43981 ∷ 65 ∷ 66 ∷ []) [] [] (77 ∷ []) None (65 ∷ 66 ∷ []) [] ((0, 205) ∷ []) (77 ∷ []) [] (Stored 8192 205 ∷ []) 48 ∷
    vector (Plain CStore) (8321 ∷ 65535 ∷ 65 ∷ 66 ∷ []) [] [] [] None (65 ∷ 66 ∷ []) [] ((129, 255) ∷ []) [] [] (Stored 8320 65411 ∷ []) 48 ∷
    stops (Plain CStore) (9 ∷ []) (1 ∷ 2 ∷ []) Underflow 48 ∷
    vector (Plain PlusStore) (8320 ∷ 43981 ∷ 65 ∷ 66 ∷ []) [] [] (77 ∷ []) None (65 ∷ 66 ∷ []) [] ((128, 80) ∷ (129, 54) ∷ []) (77 ∷ []) [] (Stored 8320 13904 ∷ []) 24 ∷
    vector (Plain PlusStore) (16386 ∷ 43981 ∷ 65 ∷ 66 ∷ []) [] [] (77 ∷ []) (Some (Outside 16386)) [] [] [] [] [] (Took 77 ∷ []) 24 ∷
    vector (Plain PlusStore) (8192 ∷ 43981 ∷ 65 ∷ 66 ∷ []) [] [] (77 ∷ []) None (65 ∷ 66 ∷ []) [] ((0, 215) ∷ (1, 171) ∷ []) (77 ∷ []) [] (Stored 8192 43991 ∷ []) 24 ∷
    vector (Plain PlusStore) (8321 ∷ 65535 ∷ 65 ∷ 66 ∷ []) [] [] [] None (65 ∷ 66 ∷ []) [] ((128, 130) ∷ []) [] [] (Stored 8320 35458 ∷ []) 24 ∷
    stops (Plain PlusStore) (9 ∷ []) (1 ∷ 2 ∷ []) Underflow 24 ∷
    vector (Plain TwoFetch) (8320 ∷ 65 ∷ 66 ∷ []) [] [] (1 ∷ 2 ∷ []) None (35459 ∷ 39057 ∷ 65 ∷ 66 ∷ []) [] [] (1 ∷ 2 ∷ []) [] [] 16 ∷
    vector (Plain TwoFetch) (8325 ∷ 65 ∷ 66 ∷ []) [] [] (1 ∷ 2 ∷ []) None (42655 ∷ 46253 ∷ 65 ∷ 66 ∷ []) [] [] (1 ∷ 2 ∷ []) [] [] 16 ∷
    vector (Plain TwoFetch) (16384 ∷ 65 ∷ 66 ∷ []) [] [] (1 ∷ 2 ∷ []) (Some (Outside 16384)) [] [] [] (2 ∷ []) [] (Took 1 ∷ []) 16 ∷
    vector (Plain TwoFetch) (8192 ∷ 65 ∷ 66 ∷ []) [] [] (1 ∷ 2 ∷ []) None (10 ∷ 8288 ∷ 65 ∷ 66 ∷ []) [] [] (1 ∷ 2 ∷ []) [] [] 16 ∷
    vector (Plain TwoFetch) (16384 ∷ 65 ∷ 66 ∷ []) [] [] (1 ∷ 2 ∷ []) (Some (Outside 16384)) [] [] [] (2 ∷ []) [] (Took 1 ∷ []) 16 ∷
    stops (Plain TwoFetch) [] (1 ∷ 2 ∷ []) Underflow 16 ∷
    vector (Plain TwoStore) (8320 ∷ 4660 ∷ 22136 ∷ 65 ∷ 66 ∷ []) [] [] (77 ∷ []) None (65 ∷ 66 ∷ []) [] ((128, 52) ∷ (129, 18) ∷ (130, 120) ∷ (131, 86) ∷ []) (77 ∷ []) [] (Stored 8322 22136 ∷ Stored 8320 4660 ∷ []) 20 ∷
    vector (Plain TwoStore) (8321 ∷ 4660 ∷ 22136 ∷ 65 ∷ 66 ∷ []) [] [] (77 ∷ []) None (65 ∷ 66 ∷ []) [] ((128, 52) ∷ (129, 18) ∷ (130, 120) ∷ (131, 86) ∷ []) (77 ∷ []) [] (Stored 8322 22136 ∷ Stored 8320 4660 ∷ []) 20 ∷
    vector (Plain TwoStore) (16384 ∷ 4660 ∷ 22136 ∷ 65 ∷ 66 ∷ []) [] [] (77 ∷ []) (Some (Outside 16386)) [] [] [] (77 ∷ []) (52 ∷ []) (Stored 16384 4660 ∷ []) 20 ∷
    stops (Plain TwoStore) (16388 ∷ 4660 ∷ 22136 ∷ 65 ∷ 66 ∷ []) (77 ∷ []) (Halted 52) 20 ∷
    vector (Plain TwoStore) (16382 ∷ 4660 ∷ 22136 ∷ 65 ∷ 66 ∷ []) [] [] (77 ∷ []) None (65 ∷ 66 ∷ []) [] [] (77 ∷ []) (120 ∷ []) (Stored 16384 22136 ∷ Stored 16382 4660 ∷ []) 20 ∷
    stops (Plain TwoStore) (9 ∷ 9 ∷ []) (1 ∷ 2 ∷ []) Underflow 20 ∷
    vector (Plain Count) (8320 ∷ 65 ∷ 66 ∷ []) [] [] (200 ∷ 9 ∷ []) None (131 ∷ 8321 ∷ 65 ∷ 66 ∷ []) [] [] (200 ∷ 9 ∷ []) [] [] 40 ∷
    vector (Plain Count) (8321 ∷ 65 ∷ 66 ∷ []) [] [] (200 ∷ 9 ∷ []) None (138 ∷ 8322 ∷ 65 ∷ 66 ∷ []) [] [] (200 ∷ 9 ∷ []) [] [] 40 ∷
    stops (Plain Count) (65535 ∷ 65 ∷ 66 ∷ []) (200 ∷ 9 ∷ []) (Outside 65534) 40 ∷
    vector (Plain Count) (8192 ∷ 65 ∷ 66 ∷ []) [] [] (200 ∷ 9 ∷ []) None (10 ∷ 8193 ∷ 65 ∷ 66 ∷ []) [] [] (200 ∷ 9 ∷ []) [] [] 40 ∷
    stops (Plain Count) (16386 ∷ 65 ∷ 66 ∷ []) [] InputEnded 40 ∷
    stops (Plain Count) [] (1 ∷ 2 ∷ []) Underflow 40 ∷ []) ≡ []
unfolding step
cells_and_bytes = refl

data_space : failing (
    gives (Plain Base) (65 ∷ 66 ∷ []) (8192 ∷ 65 ∷ 66 ∷ []) 1 ∷
    vector (Plain Base) (65 ∷ 66 ∷ []) [] ((4, 129) ∷ (0, 16) ∷ []) [] None (8192 ∷ 65 ∷ 66 ∷ []) [] [] [] [] [] 1 ∷
    vector (Plain Base) [] [] ((4, 255) ∷ (5, 255) ∷ []) [] None (8192 ∷ []) [] [] [] [] [] 1 ∷
    gives (Plain Here) (65 ∷ 66 ∷ []) (8320 ∷ 65 ∷ 66 ∷ []) 2 ∷
    vector (Plain Here) (65 ∷ 66 ∷ []) [] ((4, 129) ∷ (0, 16) ∷ []) [] None (8321 ∷ 65 ∷ 66 ∷ []) [] [] [] [] [] 2 ∷
    vector (Plain Here) [] [] ((4, 255) ∷ (5, 255) ∷ []) [] None (65535 ∷ []) [] [] [] [] [] 2 ∷
    vector (Plain Decimal) (65 ∷ 66 ∷ []) [] [] [] None (65 ∷ 66 ∷ []) [] [] [] [] (Stored 8192 10 ∷ []) 4 ∷
    vector (Plain Decimal) (65 ∷ 66 ∷ []) [] ((4, 129) ∷ (0, 16) ∷ []) [] None (65 ∷ 66 ∷ []) [] ((0, 10) ∷ []) [] [] (Stored 8192 10 ∷ []) 4 ∷
    vector (Plain Decimal) [] [] ((4, 255) ∷ (5, 255) ∷ []) [] None [] [] [] [] [] (Stored 8192 10 ∷ []) 4 ∷
    vector (Plain Comma) (16706 ∷ 65 ∷ 66 ∷ []) [] ((4, 255) ∷ (5, 63) ∷ []) (5 ∷ []) None (65 ∷ 66 ∷ []) [] ((4, 1) ∷ (5, 64) ∷ []) (5 ∷ []) [] (Stored 8196 16385 ∷ Stored 16382 16706 ∷ []) 48 ∷
    vector (Plain Comma) (16706 ∷ 65 ∷ 66 ∷ []) [] ((4, 0) ∷ (5, 64) ∷ []) (5 ∷ []) None (65 ∷ 66 ∷ []) [] ((4, 2) ∷ []) (5 ∷ []) (66 ∷ []) (Stored 8196 16386 ∷ Stored 16384 16706 ∷ []) 48 ∷
    vector (Plain Comma) (16706 ∷ 65 ∷ 66 ∷ []) [] ((4, 4) ∷ (5, 32) ∷ []) (5 ∷ []) None (65 ∷ 66 ∷ []) [] ((4, 68) ∷ (5, 65) ∷ []) (5 ∷ []) [] (Stored 8196 16708 ∷ Stored 8196 16706 ∷ []) 48 ∷
    vector (Plain Comma) (16706 ∷ 65 ∷ 66 ∷ []) [] ((4, 100) ∷ (5, 0) ∷ []) (5 ∷ []) (Some (Outside 100)) [] [] [] (5 ∷ []) [] [] 48 ∷
    stops (Plain Comma) [] (1 ∷ 2 ∷ []) Underflow 48 ∷
    vector (Plain CComma) (16706 ∷ 65 ∷ 66 ∷ []) [] ((4, 127) ∷ (5, 32) ∷ []) (5 ∷ []) None (65 ∷ 66 ∷ []) [] ((4, 128) ∷ (127, 66) ∷ []) (5 ∷ []) [] (Stored 8196 8320 ∷ Stored 8318 16896 ∷ []) 96 ∷
    vector (Plain CComma) (16706 ∷ 65 ∷ 66 ∷ []) [] ((4, 255) ∷ (5, 63) ∷ []) (5 ∷ []) None (65 ∷ 66 ∷ []) [] ((4, 0) ∷ (5, 64) ∷ []) (5 ∷ []) [] (Stored 8196 16384 ∷ Stored 16382 16896 ∷ []) 96 ∷
    vector (Plain CComma) (16706 ∷ 65 ∷ 66 ∷ []) [] ((4, 2) ∷ (5, 64) ∷ []) (5 ∷ []) (Some (Outside 16386)) [] [] [] [] [] (Took 5 ∷ []) 96 ∷
    vector (Plain CComma) (16706 ∷ 65 ∷ 66 ∷ []) [] ((4, 4) ∷ (5, 32) ∷ []) (5 ∷ []) None (65 ∷ 66 ∷ []) [] ((4, 67) ∷ []) (5 ∷ []) [] (Stored 8196 8259 ∷ Stored 8196 8258 ∷ []) 96 ∷
    stops (Plain CComma) [] (1 ∷ 2 ∷ []) Underflow 96 ∷
    vector (Plain Allot) (16706 ∷ 65 ∷ 66 ∷ []) [] ((4, 0) ∷ (5, 64) ∷ []) (5 ∷ []) None (65 ∷ 66 ∷ []) [] ((4, 66) ∷ (5, 129) ∷ []) (5 ∷ []) [] (Stored 8196 33090 ∷ []) 40 ∷
    vector (Plain Allot) (16706 ∷ 65 ∷ 66 ∷ []) [] ((4, 2) ∷ (5, 64) ∷ []) (5 ∷ []) None (65 ∷ 66 ∷ []) [] ((4, 68) ∷ (5, 129) ∷ []) (5 ∷ []) [] (Stored 8196 33092 ∷ []) 40 ∷
    vector (Plain Allot) (16706 ∷ 65 ∷ 66 ∷ []) [] ((4, 4) ∷ (5, 32) ∷ []) (5 ∷ []) None (65 ∷ 66 ∷ []) [] ((4, 70) ∷ (5, 97) ∷ []) (5 ∷ []) [] (Stored 8196 24902 ∷ []) 40 ∷
    stops (Plain Allot) [] (1 ∷ 2 ∷ []) Underflow 40 ∷
    vector (Plain Align) (65 ∷ 66 ∷ []) [] [] [] None (65 ∷ 66 ∷ []) [] [] [] [] (Stored 8196 8320 ∷ []) 32 ∷
    vector (Plain Align) (65 ∷ 66 ∷ []) [] ((4, 129) ∷ (0, 16) ∷ []) [] None (65 ∷ 66 ∷ []) [] ((4, 130) ∷ []) [] [] (Stored 8196 8322 ∷ []) 32 ∷
    vector (Plain Align) [] [] ((4, 255) ∷ (5, 255) ∷ []) [] None [] [] ((4, 0) ∷ (5, 0) ∷ []) [] [] (Stored 8196 0 ∷ []) 32 ∷ []) ≡ []
unfolding step
data_space = refl

blocks : failing (
    vector (Plain Fill) (1 ∷ 0 ∷ 8320 ∷ 65 ∷ 66 ∷ []) [] [] (4 ∷ 5 ∷ []) None (65 ∷ 66 ∷ []) [] [] (4 ∷ 5 ∷ []) [] [] 40 ∷
    vector (Plain Fill) (7 ∷ 1 ∷ 8320 ∷ 65 ∷ 66 ∷ []) [] [] (4 ∷ 5 ∷ []) None (65 ∷ 66 ∷ []) [] ((128, 7) ∷ []) (4 ∷ 5 ∷ []) [] (Stored 8320 35335 ∷ []) 160 ∷
    vector (Plain Fill) (65535 ∷ 6 ∷ 8321 ∷ 65 ∷ 66 ∷ []) [] [] (4 ∷ 5 ∷ []) None (65 ∷ 66 ∷ []) []
    ((129, 255) ∷ (130, 255) ∷ (131, 255) ∷ (132, 255) ∷ (133, 255) ∷ (134, 255) ∷ []) (4 ∷ 5 ∷ []) []
    (Stored 8326 46335 ∷ Stored 8324 65535 ∷ Stored 8324 42751 ∷ Stored 8322 65535 ∷ Stored 8322 39167 ∷ Stored 8320 65411 ∷ []) 760 ∷
    vector (Plain Fill) (3 ∷ 2 ∷ 16386 ∷ 65 ∷ 66 ∷ []) [] [] (4 ∷ 5 ∷ []) (Some (Outside 16386)) [] [] [] (5 ∷ []) [] (Took 4 ∷ []) 280 ∷
    stops (Plain Fill) (9 ∷ 9 ∷ []) (1 ∷ 2 ∷ []) Underflow 40 ∷
    vector (Plain Move) (0 ∷ 8330 ∷ 8320 ∷ 65 ∷ 66 ∷ []) [] [] (4 ∷ 5 ∷ []) None (65 ∷ 66 ∷ []) [] [] (4 ∷ 5 ∷ []) [] [] 80 ∷
    vector (Plain Move) (4 ∷ 8323 ∷ 8323 ∷ 65 ∷ 66 ∷ []) [] [] (4 ∷ 5 ∷ []) None (65 ∷ 66 ∷ []) [] [] (4 ∷ 5 ∷ []) [] (Stored 8326 46253 ∷ Stored 8324 42655 ∷ Stored 8324 42655 ∷ Stored 8322 39057 ∷ []) 720 ∷
    vector (Plain Move) (2 ∷ 8320 ∷ 16386 ∷ 65 ∷ 66 ∷ []) [] [] (4 ∷ 5 ∷ []) None (65 ∷ 66 ∷ []) [] ((128, 4) ∷ (129, 0) ∷ []) [] [] (Stored 8320 4 ∷ Took 5 ∷ Stored 8320 35332 ∷ Took 4 ∷ []) 400 ∷
    vector (Plain Move) (1 ∷ 16386 ∷ 8325 ∷ 65 ∷ 66 ∷ []) [] [] (4 ∷ 5 ∷ []) (Some (Outside 16386)) [] [] [] (5 ∷ []) [] (Took 4 ∷ []) 240 ∷
    stops (Plain Move) (9 ∷ 9 ∷ []) (1 ∷ 2 ∷ []) Underflow 80 ∷ []) ≡ []
unfolding step
blocks = refl
