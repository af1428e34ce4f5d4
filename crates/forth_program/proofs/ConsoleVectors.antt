-- Words that print, take bytes or end the run: rows made by an independent evaluator.
use Rattle.std.specs.Prelude.{◌≡◌, [], ◌∷◌, refl, None, Some}
use Rattle.word_table.specs.declared.word.Word.TheVariants.{AbortRun, Accept, Blank, Cr, Dot, Emit, Hold, Key, LessSharp, Quit, Sharp, SharpGreater, SharpS, Sign, Space, Spaces, ToNumber, TypeOut, UDot}
use Rattle.forth_program.specs.declared.item.TextKind.TheVariants as text
use Rattle.forth_program.specs.Tree.{Plain, Text}
use Rattle.forth_program.specs.State.{Halted, InputEnded, Outside, Underflow, Stored, Took}
use Rattle.forth_program.specs.Step.{step}
use Rattle.forth_program.proofs.Rows.{failing, gives, stops, vector}

characters : failing (
    vector (Plain Emit) (0 ∷ 65 ∷ 66 ∷ []) [] [] [] None (65 ∷ 66 ∷ []) [] [] [] (0 ∷ []) (Stored 16384 0 ∷ []) 3 ∷
    vector (Plain Emit) (65 ∷ 65 ∷ 66 ∷ []) [] [] [] None (65 ∷ 66 ∷ []) [] [] [] (65 ∷ []) (Stored 16384 65 ∷ []) 3 ∷
    vector (Plain Emit) (65535 ∷ 65 ∷ 66 ∷ []) [] [] [] None (65 ∷ 66 ∷ []) [] [] [] (255 ∷ []) (Stored 16384 65535 ∷ []) 3 ∷
    stops (Plain Emit) [] (1 ∷ 2 ∷ []) Underflow 3 ∷
    vector (Plain Key) (65 ∷ 66 ∷ []) [] [] (0 ∷ []) None (0 ∷ 65 ∷ 66 ∷ []) [] [] [] [] (Took 0 ∷ []) 2 ∷
    vector (Plain Key) (65 ∷ 66 ∷ []) [] [] (255 ∷ 1 ∷ []) None (255 ∷ 65 ∷ 66 ∷ []) [] [] (1 ∷ []) [] (Took 255 ∷ []) 2 ∷
    stops (Plain Key) (65 ∷ 66 ∷ []) [] InputEnded 2 ∷
    gives (Plain Blank) (65 ∷ 66 ∷ []) (32 ∷ 65 ∷ 66 ∷ []) 1 ∷
    vector (Plain Blank) (65 ∷ 66 ∷ []) [] ((4, 129) ∷ (0, 16) ∷ []) [] None (32 ∷ 65 ∷ 66 ∷ []) [] [] [] [] [] 1 ∷
    vector (Plain Blank) [] [] ((4, 255) ∷ (5, 255) ∷ []) [] None (32 ∷ []) [] [] [] [] [] 1 ∷
    vector (Plain Cr) (65 ∷ 66 ∷ []) [] [] [] None (65 ∷ 66 ∷ []) [] [] [] (10 ∷ []) (Stored 16384 10 ∷ []) 4 ∷
    vector (Plain Cr) (65 ∷ 66 ∷ []) [] ((4, 129) ∷ (0, 16) ∷ []) [] None (65 ∷ 66 ∷ []) [] [] [] (10 ∷ []) (Stored 16384 10 ∷ []) 4 ∷
    vector (Plain Cr) [] [] ((4, 255) ∷ (5, 255) ∷ []) [] None [] [] [] [] (10 ∷ []) (Stored 16384 10 ∷ []) 4 ∷
    vector (Plain Space) (65 ∷ 66 ∷ []) [] [] [] None (65 ∷ 66 ∷ []) [] [] [] (32 ∷ []) (Stored 16384 32 ∷ []) 4 ∷
    vector (Plain Space) (65 ∷ 66 ∷ []) [] ((4, 129) ∷ (0, 16) ∷ []) [] None (65 ∷ 66 ∷ []) [] [] [] (32 ∷ []) (Stored 16384 32 ∷ []) 4 ∷
    vector (Plain Space) [] [] ((4, 255) ∷ (5, 255) ∷ []) [] None [] [] [] [] (32 ∷ []) (Stored 16384 32 ∷ []) 4 ∷
    vector (Plain Spaces) (1 ∷ 65 ∷ 66 ∷ []) [] [] [] None (65 ∷ 66 ∷ []) [] [] [] (32 ∷ []) (Stored 16384 32 ∷ []) 80 ∷
    vector (Plain Spaces) (5 ∷ 65 ∷ 66 ∷ []) [] [] [] None (65 ∷ 66 ∷ []) [] [] [] (32 ∷ 32 ∷ 32 ∷ 32 ∷ 32 ∷ []) (Stored 16384 32 ∷ Stored 16384 32 ∷ Stored 16384 32 ∷ Stored 16384 32 ∷ Stored 16384 32 ∷ []) 240 ∷
    gives (Plain Spaces) (65535 ∷ 65 ∷ 66 ∷ []) (65 ∷ 66 ∷ []) 40 ∷
    stops (Plain Spaces) [] (1 ∷ 2 ∷ []) Underflow 40 ∷
    vector (Plain TypeOut) (1 ∷ 8320 ∷ 65 ∷ 66 ∷ []) [] [] (1 ∷ 2 ∷ []) None (65 ∷ 66 ∷ []) [] [] (1 ∷ 2 ∷ []) (131 ∷ []) (Stored 16384 131 ∷ []) 120 ∷
    vector (Plain TypeOut) (5 ∷ 8320 ∷ 65 ∷ 66 ∷ []) [] [] (1 ∷ 2 ∷ []) None (65 ∷ 66 ∷ []) [] [] (1 ∷ 2 ∷ []) (131 ∷ 138 ∷ 145 ∷ 152 ∷ 159 ∷ [])
    (Stored 16384 159 ∷ Stored 16384 152 ∷ Stored 16384 145 ∷ Stored 16384 138 ∷ Stored 16384 131 ∷ []) 440 ∷
    vector (Plain TypeOut) (4 ∷ 8321 ∷ 65 ∷ 66 ∷ []) [] [] (1 ∷ 2 ∷ []) None (65 ∷ 66 ∷ []) [] [] (1 ∷ 2 ∷ []) (138 ∷ 145 ∷ 152 ∷ 159 ∷ []) (Stored 16384 159 ∷ Stored 16384 152 ∷ Stored 16384 145 ∷ Stored 16384 138 ∷ []) 360 ∷
    vector (Plain TypeOut) (3 ∷ 16383 ∷ 65 ∷ 66 ∷ []) [] [] (1 ∷ 2 ∷ []) (Some (Outside 16384)) [] [] [] (1 ∷ 2 ∷ []) (0 ∷ []) (Stored 16384 0 ∷ []) 280 ∷
    stops (Plain TypeOut) (9 ∷ []) (1 ∷ 2 ∷ []) Underflow 40 ∷
    vector (Plain Accept) (0 ∷ 8320 ∷ 65 ∷ 66 ∷ []) [] [] (1 ∷ []) None (0 ∷ 65 ∷ 66 ∷ []) [] [] (1 ∷ []) [] [] 100 ∷
    vector (Plain Accept) (3 ∷ 8321 ∷ 65 ∷ 66 ∷ []) [] [] (65 ∷ 10 ∷ 67 ∷ []) None (1 ∷ 65 ∷ 66 ∷ []) [] ((129, 65) ∷ []) (67 ∷ []) [] (Took 10 ∷ Stored 8320 16771 ∷ Took 65 ∷ []) 340 ∷
    vector (Plain Accept) (2 ∷ 8320 ∷ 65 ∷ 66 ∷ []) [] [] (7 ∷ []) (Some InputEnded) [] [] ((128, 7) ∷ []) [] [] (Stored 8320 35335 ∷ Took 7 ∷ []) 340 ∷
    vector (Plain Accept) (2 ∷ 8191 ∷ 65 ∷ 66 ∷ []) [] [] (1 ∷ 2 ∷ []) (Some (Outside 8190)) [] [] [] (2 ∷ []) [] (Took 1 ∷ []) 220 ∷
    vector (Plain Accept) (65535 ∷ 8320 ∷ 65 ∷ 66 ∷ []) [] [] (1 ∷ 2 ∷ 3 ∷ 10 ∷ []) None (3 ∷ 65 ∷ 66 ∷ []) [] ((128, 1) ∷ (129, 2) ∷ (130, 3) ∷ []) [] []
    (Took 10 ∷ Stored 8322 38915 ∷ Took 3 ∷ Stored 8320 513 ∷ Took 2 ∷ Stored 8320 35329 ∷ Took 1 ∷ []) 580 ∷
    stops (Plain Accept) (9 ∷ []) (1 ∷ 2 ∷ []) Underflow 100 ∷ []) ≡ []
unfolding step
characters = refl

texts : failing (
    vector (Text text.Print 8320 2) (5 ∷ []) [] ((128, 72) ∷ (129, 105) ∷ []) [] None (5 ∷ []) [] [] [] (72 ∷ 105 ∷ []) (Stored 16384 105 ∷ Stored 16384 72 ∷ []) 202 ∷
    vector (Text text.Print 8320 2) [] [] ((128, 72) ∷ (129, 105) ∷ []) [] None [] [] [] [] (72 ∷ 105 ∷ []) (Stored 16384 105 ∷ Stored 16384 72 ∷ []) 202 ∷
    vector (Text text.Address 8320 2) (5 ∷ []) [] ((128, 72) ∷ (129, 105) ∷ []) [] None (2 ∷ 8320 ∷ 5 ∷ []) [] [] [] [] [] 2 ∷
    vector (Text text.Abort 8320 2) [] [] ((128, 72) ∷ (129, 105) ∷ []) [] (Some Underflow) [] [] [] [] [] [] 40 ∷
    vector (Text text.Abort 8320 2) (0 ∷ []) [] ((128, 72) ∷ (129, 105) ∷ []) [] None [] [] [] [] [] [] 40 ∷
    vector (Text text.Abort 8320 2) (65535 ∷ []) [] ((128, 72) ∷ (129, 105) ∷ []) [] (Some (Halted 2)) [] [] [] [] (72 ∷ 105 ∷ []) (Stored 16384 105 ∷ Stored 16384 72 ∷ []) 200 ∷ []) ≡ []
unfolding step
texts = refl

ends : failing (
    stops (Plain AbortRun) (65 ∷ 66 ∷ []) [] (Halted 1) 3 ∷
    stops (Plain Quit) (65 ∷ 66 ∷ []) [] (Halted 3) 3 ∷ []) ≡ []
unfolding step
ends = refl

digits : failing (
    vector (Plain LessSharp) (65 ∷ 66 ∷ []) [] [] [] None (65 ∷ 66 ∷ []) [] [] [] [] (Stored 8194 8288 ∷ []) 20 ∷
    vector (Plain LessSharp) (65 ∷ 66 ∷ []) [] ((4, 129) ∷ (0, 16) ∷ []) [] None (65 ∷ 66 ∷ []) [] [] [] [] (Stored 8194 8288 ∷ []) 20 ∷
    vector (Plain LessSharp) [] [] ((4, 255) ∷ (5, 255) ∷ []) [] None [] [] [] [] [] (Stored 8194 8288 ∷ []) 20 ∷
    vector (Plain Hold) (16705 ∷ 65 ∷ 66 ∷ []) [] ((2, 96) ∷ (3, 32) ∷ []) [] None (65 ∷ 66 ∷ []) [] ((2, 95) ∷ (95, 65) ∷ []) [] [] (Stored 8286 16640 ∷ Stored 8194 8287 ∷ []) 140 ∷
    vector (Plain Hold) (16705 ∷ 65 ∷ 66 ∷ []) [] ((2, 17) ∷ (3, 32) ∷ []) [] None (65 ∷ 66 ∷ []) [] ((2, 16) ∷ (16, 65) ∷ []) [] [] (Stored 8208 65 ∷ Stored 8194 8208 ∷ []) 140 ∷
    vector (Plain Hold) (16705 ∷ 65 ∷ 66 ∷ []) [] ((2, 0) ∷ (3, 0) ∷ []) [] (Some (Halted 12)) [] [] [] [] [] [] 140 ∷
    stops (Plain Hold) [] (1 ∷ 2 ∷ []) Underflow 140 ∷
    gives (Plain Sign) (0 ∷ 65 ∷ 66 ∷ []) (65 ∷ 66 ∷ []) 180 ∷
    vector (Plain Sign) (32768 ∷ 65 ∷ 66 ∷ []) [] [] [] None (65 ∷ 66 ∷ []) [] ((2, 95) ∷ (95, 45) ∷ []) [] [] (Stored 8286 11520 ∷ Stored 8194 8287 ∷ []) 180 ∷
    vector (Plain Sign) (65535 ∷ 65 ∷ 66 ∷ []) [] [] [] None (65 ∷ 66 ∷ []) [] ((2, 95) ∷ (95, 45) ∷ []) [] [] (Stored 8286 11520 ∷ Stored 8194 8287 ∷ []) 180 ∷
    vector (Plain Sign) (65535 ∷ 65 ∷ 66 ∷ []) [] ((2, 16) ∷ (3, 32) ∷ []) [] (Some (Halted 12)) [] [] [] [] [] [] 180 ∷
    stops (Plain Sign) [] (1 ∷ 2 ∷ []) Underflow 180 ∷
    vector (Plain Sharp) (1883 ∷ 52501 ∷ 65 ∷ 66 ∷ []) [] ((0, 10) ∷ []) [] None (188 ∷ 24910 ∷ 65 ∷ 66 ∷ []) [] ((2, 95) ∷ (95, 57) ∷ []) [] [] (Stored 8286 14592 ∷ Stored 8194 8287 ∷ []) 6000 ∷
    vector (Plain Sharp) (65535 ∷ 65535 ∷ 65 ∷ 66 ∷ []) [] ((0, 16) ∷ []) [] None (4095 ∷ 65535 ∷ 65 ∷ 66 ∷ []) [] ((2, 95) ∷ (95, 70) ∷ []) [] [] (Stored 8286 17920 ∷ Stored 8194 8287 ∷ []) 6000 ∷
    vector (Plain Sharp) (0 ∷ 5 ∷ 65 ∷ 66 ∷ []) [] ((0, 2) ∷ []) [] None (0 ∷ 2 ∷ 65 ∷ 66 ∷ []) [] ((2, 95) ∷ (95, 49) ∷ []) [] [] (Stored 8286 12544 ∷ Stored 8194 8287 ∷ []) 6000 ∷
    vector (Plain Sharp) (0 ∷ 5 ∷ 65 ∷ 66 ∷ []) [] ((0, 1) ∷ []) [] (Some (Halted 11)) [] [] [] [] [] [] 6000 ∷
    stops (Plain Sharp) (9 ∷ []) (1 ∷ 2 ∷ []) Underflow 6000 ∷
    vector (Plain SharpS) (0 ∷ 0 ∷ 65 ∷ 66 ∷ []) [] ((0, 10) ∷ []) [] None (0 ∷ 0 ∷ 65 ∷ 66 ∷ []) [] ((2, 95) ∷ (95, 48) ∷ []) [] [] (Stored 8286 12288 ∷ Stored 8194 8287 ∷ []) 200000 ∷
    vector (Plain SharpS) (0 ∷ 9 ∷ 65 ∷ 66 ∷ []) [] ((0, 10) ∷ []) [] None (0 ∷ 0 ∷ 65 ∷ 66 ∷ []) [] ((2, 95) ∷ (95, 57) ∷ []) [] [] (Stored 8286 14592 ∷ Stored 8194 8287 ∷ []) 200000 ∷
    vector (Plain SharpS) (65535 ∷ 65535 ∷ 65 ∷ 66 ∷ []) [] ((0, 36) ∷ []) [] None (0 ∷ 0 ∷ 65 ∷ 66 ∷ []) []
    ((2, 89) ∷ (89, 49) ∷ (90, 90) ∷ (91, 49) ∷ (92, 52) ∷ (93, 49) ∷ (94, 90) ∷ (95, 51) ∷ []) [] []
    (Stored 8280 12544 ∷ Stored 8194 8281 ∷ Stored 8282 12634 ∷ Stored 8194 8282 ∷ Stored 8282 12544 ∷ Stored 8194 8283 ∷ Stored 8284 12596
    ∷ Stored 8194 8284 ∷ Stored 8284 12544 ∷ Stored 8194 8285 ∷ Stored 8286 13146 ∷ Stored 8194 8286 ∷ Stored 8286 13056 ∷ Stored 8194 8287 ∷ []) 200000 ∷
    vector (Plain SharpS) (0 ∷ 7777 ∷ 65 ∷ 66 ∷ []) [] ((2, 18) ∷ (3, 32) ∷ []) [] (Some (Halted 12)) [] [] ((2, 16) ∷ (16, 55) ∷ (17, 55) ∷ []) [] []
    (Stored 8208 14135 ∷ Stored 8194 8208 ∷ Stored 8208 14080 ∷ Stored 8194 8209 ∷ []) 200000 ∷
    stops (Plain SharpS) (9 ∷ []) (1 ∷ 2 ∷ []) Underflow 200000 ∷
    gives (Plain SharpGreater) (1 ∷ 2 ∷ 65 ∷ 66 ∷ []) (0 ∷ 8288 ∷ 65 ∷ 66 ∷ []) 20 ∷
    vector (Plain SharpGreater) (1 ∷ 2 ∷ 65 ∷ 66 ∷ []) [] ((2, 92) ∷ []) [] None (4 ∷ 8284 ∷ 65 ∷ 66 ∷ []) [] [] [] [] [] 20 ∷
    vector (Plain SharpGreater) (1 ∷ 2 ∷ 65 ∷ 66 ∷ []) [] ((2, 0) ∷ (3, 255) ∷ []) [] None (8544 ∷ 65280 ∷ 65 ∷ 66 ∷ []) [] [] [] [] [] 20 ∷
    stops (Plain SharpGreater) (9 ∷ []) (1 ∷ 2 ∷ []) Underflow 20 ∷ []) ≡ []
unfolding step
digits = refl

numbers : failing (
    vector (Plain Dot) (0 ∷ 65 ∷ 66 ∷ []) [] ((0, 10) ∷ []) [] None (65 ∷ 66 ∷ []) [] ((2, 95) ∷ (95, 48) ∷ []) [] (48 ∷ 32 ∷ []) (Stored 16384 32 ∷ Stored 16384 48 ∷ Stored 8286 12288 ∷ Stored 8194 8287 ∷ Stored 8194 8288 ∷ []) 120000 ∷
    vector (Plain Dot) (65535 ∷ 65 ∷ 66 ∷ []) [] ((0, 2) ∷ []) [] None (65 ∷ 66 ∷ []) [] ((2, 94) ∷ (94, 45) ∷ (95, 49) ∷ []) [] (45 ∷ 49 ∷ 32 ∷ [])
    (Stored 16384 32 ∷ Stored 16384 49 ∷ Stored 16384 45 ∷ Stored 8286 12589 ∷ Stored 8194 8286 ∷ Stored 8286 12544 ∷ Stored 8194 8287 ∷ Stored 8194 8288
    ∷ []) 120000 ∷
    vector (Plain Dot) (5 ∷ 65 ∷ 66 ∷ []) [] ((0, 1) ∷ []) [] (Some (Halted 11)) [] [] [] [] [] (Stored 8194 8288 ∷ []) 120000 ∷
    vector (Plain Dot) (35 ∷ 65 ∷ 66 ∷ []) [] ((0, 36) ∷ []) [] None (65 ∷ 66 ∷ []) [] ((2, 95) ∷ (95, 90) ∷ []) [] (90 ∷ 32 ∷ []) (Stored 16384 32 ∷ Stored 16384 90 ∷ Stored 8286 23040 ∷ Stored 8194 8287 ∷ Stored 8194 8288 ∷ []) 120000 ∷
    stops (Plain Dot) [] (1 ∷ 2 ∷ []) Underflow 120000 ∷
    vector (Plain UDot) (0 ∷ 65 ∷ 66 ∷ []) [] ((0, 10) ∷ []) [] None (65 ∷ 66 ∷ []) [] ((2, 95) ∷ (95, 48) ∷ []) [] (48 ∷ 32 ∷ []) (Stored 16384 32 ∷ Stored 16384 48 ∷ Stored 8286 12288 ∷ Stored 8194 8287 ∷ Stored 8194 8288 ∷ []) 120000 ∷
    vector (Plain UDot) (12345 ∷ 65 ∷ 66 ∷ []) [] ((0, 16) ∷ []) [] None (65 ∷ 66 ∷ []) [] ((2, 92) ∷ (92, 51) ∷ (93, 48) ∷ (94, 51) ∷ (95, 57) ∷ []) []
    (51 ∷ 48 ∷ 51 ∷ 57 ∷ 32 ∷ [])
    (Stored 16384 32 ∷ Stored 16384 57 ∷ Stored 16384 51 ∷ Stored 16384 48 ∷ Stored 16384 51 ∷ Stored 8284 12339 ∷ Stored 8194 8284 ∷ Stored 8284 12288
    ∷ Stored 8194 8285 ∷ Stored 8286 14643 ∷ Stored 8194 8286 ∷ Stored 8286 14592 ∷ Stored 8194 8287 ∷ Stored 8194 8288 ∷ []) 120000 ∷
    vector (Plain UDot) (5 ∷ 65 ∷ 66 ∷ []) [] ((0, 1) ∷ []) [] (Some (Halted 11)) [] [] [] [] [] (Stored 8194 8288 ∷ []) 120000 ∷
    vector (Plain UDot) (35 ∷ 65 ∷ 66 ∷ []) [] ((0, 36) ∷ []) [] None (65 ∷ 66 ∷ []) [] ((2, 95) ∷ (95, 90) ∷ []) [] (90 ∷ 32 ∷ []) (Stored 16384 32 ∷ Stored 16384 90 ∷ Stored 8286 23040 ∷ Stored 8194 8287 ∷ Stored 8194 8288 ∷ []) 120000 ∷
    stops (Plain UDot) [] (1 ∷ 2 ∷ []) Underflow 120000 ∷
    vector (Plain ToNumber) (3 ∷ 8320 ∷ 0 ∷ 1 ∷ 65 ∷ 66 ∷ []) [] ((128, 122) ∷ (129, 90) ∷ (130, 57) ∷ (0, 36) ∷ (1, 0) ∷ []) [] None (0 ∷ 8323 ∷ 1 ∷ 27749 ∷ 65 ∷ 66 ∷ []) [] [] [] [] [] 9700 ∷
    vector (Plain ToNumber) (10 ∷ 8320 ∷ 61035 ∷ 10240 ∷ 65 ∷ 66 ∷ []) []
    ((128, 57) ∷ (129, 57) ∷ (130, 57) ∷ (131, 57) ∷ (132, 57) ∷ (133, 57) ∷ (134, 57) ∷ (135, 57) ∷ (136, 57) ∷ (137, 57) ∷ (0, 10) ∷ (1, 0) ∷ []) [] None
    (0 ∷ 8330 ∷ 31659 ∷ 58367 ∷ 65 ∷ 66 ∷ []) [] [] [] [] [] 32100 ∷
    vector (Plain ToNumber) (4 ∷ 8320 ∷ 0 ∷ 7 ∷ 65 ∷ 66 ∷ []) [] ((128, 49) ∷ (129, 48) ∷ (130, 49) ∷ (131, 50) ∷ (0, 2) ∷ (1, 0) ∷ []) [] None (1 ∷ 8323 ∷ 0 ∷ 61 ∷ 65 ∷ 66 ∷ []) [] [] [] [] [] 12900 ∷
    vector (Plain ToNumber) (2 ∷ 16386 ∷ 0 ∷ 0 ∷ 65 ∷ 66 ∷ []) [] [] (49 ∷ []) (Some InputEnded) [] [] [] [] [] (Took 49 ∷ []) 6500 ∷
    stops (Plain ToNumber) (2 ∷ 100 ∷ 0 ∷ 0 ∷ 65 ∷ 66 ∷ []) [] (Outside 100) 3300 ∷
    stops (Plain ToNumber) (9 ∷ 9 ∷ 9 ∷ []) (1 ∷ 2 ∷ []) Underflow 100 ∷ []) ≡ []
unfolding step
numbers = refl
