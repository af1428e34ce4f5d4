-- Moments of sessions: rows made by an independent program.
use Rattle.std.specs.Prelude.{◌≡◌, [], ◌∷◌, refl, codes, Some, None}
use Rattle.forth_program.specs.State.{Halted, InputEnded}
use Rattle.forth_program.specs.Step.{step}
use Rattle.session_machine.specs.Session.{session_step, session_steps, session_run}
use Rattle.session_machine.proofs.Rows.{failing, shows}

-- structures, loops, listed words, and halts in definitions
running_1 : failing (
    shows (codes ": MAX3 MAX MAX ; 3 9 4 MAX3 ." ∷ []) 13 (codes "9  ok\n") [] 1 120042 None ∷
    shows (codes ": MAX3 MAX MAX ; 3 9 4 MAX3 ." ∷ []) 14 (codes "9  ok\n") [] 1 120042 (Some InputEnded) ∷
    shows (codes ": MAX3 MAX MAX ; 3 9 4 MAX3 ." ∷ []) 16 (codes "9  ok\n") [] 1 120042 (Some InputEnded) ∷
    shows (codes ": T 0 BEGIN DUP 5 < WHILE DUP . 1+ REPEAT DROP ; T" ∷ []) 52 (codes "0 1 2 3 4  ok\n") [] 1 600055 None ∷
    shows (codes ": T 0 BEGIN DUP 5 < WHILE DUP . 1+ REPEAT DROP ; T" ∷ []) 53 (codes "0 1 2 3 4  ok\n") [] 1 600055 (Some InputEnded) ∷
    shows (codes ": T 0 BEGIN DUP 5 < WHILE DUP . 1+ REPEAT DROP ; T" ∷ []) 55 (codes "0 1 2 3 4  ok\n") [] 1 600055 (Some InputEnded) ∷
    shows (codes ": S IF 65 ELSE 66 THEN EMIT ; 1 S 0 S CR" ∷ []) 20 (codes "AB\n ok\n") [] 1 21 None ∷
    shows (codes ": S IF 65 ELSE 66 THEN EMIT ; 1 S 0 S CR" ∷ []) 21 (codes "AB\n ok\n") [] 1 21 (Some InputEnded) ∷
    shows (codes ": S IF 65 ELSE 66 THEN EMIT ; 1 S 0 S CR" ∷ []) 23 (codes "AB\n ok\n") [] 1 21 (Some InputEnded) ∷
    shows (codes ": E IF ELSE 67 EMIT THEN ; 0 E 1 E" ∷ []) 16 (codes "C ok\n") [] 1 12 None ∷
    shows (codes ": E IF ELSE 67 EMIT THEN ; 0 E 1 E" ∷ []) 17 (codes "C ok\n") [] 1 12 (Some InputEnded) ∷
    shows (codes ": E IF ELSE 67 EMIT THEN ; 0 E 1 E" ∷ []) 19 (codes "C ok\n") [] 1 12 (Some InputEnded) ∷
    shows (codes ": N DUP IF DUP 0< IF 45 ELSE 43 THEN EMIT ELSE 48 EMIT THEN DROP ; 5 N -5 N 0 N" ∷ []) 39
    (codes "+-0 ok\n") [] 1 41 None ∷
    shows (codes ": N DUP IF DUP 0< IF 45 ELSE 43 THEN EMIT ELSE 48 EMIT THEN DROP ; 5 N -5 N 0 N" ∷ []) 40 (codes "+-0 ok\n") [] 1 41
    (Some InputEnded) ∷
    shows (codes ": N DUP IF DUP 0< IF 45 ELSE 43 THEN EMIT ELSE 48 EMIT THEN DROP ; 5 N -5 N 0 N" ∷ []) 42 (codes "+-0 ok\n") [] 1 41
    (Some InputEnded) ∷
    shows (codes ": Q ?DUP IF . ELSE 88 EMIT THEN ; 3 Q 0 Q" ∷ []) 19 (codes "3 X ok\n") [] 1 120036 None ∷ []) ≡ []
unfolding session_run session_steps session_step step
running_1 = refl

-- structures, loops, listed words, and halts in definitions, more
running_2 : failing (
    shows (codes ": Q ?DUP IF . ELSE 88 EMIT THEN ; 3 Q 0 Q" ∷ []) 20 (codes "3 X ok\n") [] 1 120036 (Some InputEnded) ∷
    shows (codes ": Q ?DUP IF . ELSE 88 EMIT THEN ; 3 Q 0 Q" ∷ []) 22 (codes "3 X ok\n") [] 1 120036 (Some InputEnded) ∷
    shows (codes ": W BEGIN ?DUP WHILE DUP . 1- REPEAT ; 3 W" ∷ []) 27 (codes "3 2 1  ok\n") [] 1 360063 None ∷
    shows (codes ": W BEGIN ?DUP WHILE DUP . 1- REPEAT ; 3 W" ∷ []) 28 (codes "3 2 1  ok\n") [] 1 360063 (Some InputEnded) ∷
    shows (codes ": W BEGIN ?DUP WHILE DUP . 1- REPEAT ; 3 W" ∷ []) 30 (codes "3 2 1  ok\n") [] 1 360063 (Some InputEnded) ∷
    shows (codes ": FACT 1 SWAP BEGIN DUP WHILE SWAP OVER * SWAP 1- REPEAT DROP ; 5 FACT ." ∷ []) 54 (codes "120  ok\n") [] 1 126043 None ∷
    shows (codes ": FACT 1 SWAP BEGIN DUP WHILE SWAP OVER * SWAP 1- REPEAT DROP ; 5 FACT ." ∷ []) 55 (codes "120  ok\n") [] 1 126043
    (Some InputEnded) ∷
    shows (codes ": FACT 1 SWAP BEGIN DUP WHILE SWAP OVER * SWAP 1- REPEAT DROP ; 5 FACT ." ∷ []) 57 (codes "120  ok\n") [] 1 126043
    (Some InputEnded) ∷
    shows (codes ": D4 DUP IF DUP IF DUP IF DUP IF 1+ ELSE 1- THEN THEN THEN THEN ;" ∷ codes "1 D4 . 0 D4 ." ∷ []) 29
    (codes " ok\n2 0  ok\n") [] 2 240017 None ∷
    shows (codes ": D4 DUP IF DUP IF DUP IF DUP IF 1+ ELSE 1- THEN THEN THEN THEN ;" ∷ codes "1 D4 . 0 D4 ." ∷ []) 30
    (codes " ok\n2 0  ok\n") [] 2 240017 (Some InputEnded) ∷
    shows (codes ": D4 DUP IF DUP IF DUP IF DUP IF 1+ ELSE 1- THEN THEN THEN THEN ;" ∷ codes "1 D4 . 0 D4 ." ∷ []) 32
    (codes " ok\n2 0  ok\n") [] 2 240017 (Some InputEnded) ∷
    shows (codes ": A 1 ; : B A A + ; : C B B + ; C C + ." ∷ []) 53 (codes "8  ok\n") [] 1 120051 None ∷
    shows (codes ": A 1 ; : B A A + ; : C B B + ; C C + ." ∷ []) 54 (codes "8  ok\n") [] 1 120051 (Some InputEnded) ∷
    shows (codes ": A 1 ; : B A A + ; : C B B + ; C C + ." ∷ []) 56 (codes "8  ok\n") [] 1 120051 (Some InputEnded) ∷
    shows (codes "7 2 /MOD . ." ∷ codes "-7 2 / . -7 2 MOD ." ∷ codes "7 0 MOD" ∷ []) 28 (codes "3 1  ok\n-4 1  ok\n")
    (0 ∷ 7 ∷ []) 3 491000 None ∷
    shows (codes "7 2 /MOD . ." ∷ codes "-7 2 / . -7 2 MOD ." ∷ codes "7 0 MOD" ∷ []) 29 (codes "3 1  ok\n-4 1  ok\n") [] 3 494700
    (Some (Halted 10)) ∷ []) ≡ []
unfolding session_run session_steps session_step step
running_2 = refl

-- structures, loops, listed words, and halts in definitions, more
running_3 : failing (
    shows (codes "7 2 /MOD . ." ∷ codes "-7 2 / . -7 2 MOD ." ∷ codes "7 0 MOD" ∷ []) 31 (codes "3 1  ok\n-4 1  ok\n") [] 3 494700
    (Some (Halted 10)) ∷
    shows (codes "100 7 3 */ . 100 7 3 */MOD . ." ∷ codes "30000 30000 1 */" ∷ []) 23 (codes "233 233 1  ok\n")
    (1 ∷ 30000 ∷ 30000 ∷ []) 2 370500 None ∷
    shows (codes "100 7 3 */ . 100 7 3 */MOD . ." ∷ codes "30000 30000 1 */" ∷ []) 24 (codes "233 233 1  ok\n") [] 2 375800
    (Some (Halted 10)) ∷
    shows (codes "100 7 3 */ . 100 7 3 */MOD . ." ∷ codes "30000 30000 1 */" ∷ []) 26 (codes "233 233 1  ok\n") [] 2 375800
    (Some (Halted 10)) ∷
    shows (codes "1 2 3 ROT . . ." ∷ codes "1 2 2DUP . . . ." ∷ codes "1 2 3 4 2SWAP . . . ." ∷ codes "1 2 3 4 2OVER . . . . . ." ∷ []) 63
    (codes "1 3 2  ok\n2 1 2 1  ok\n2 1 4 3  ok\n2 1 4 3 2 1  ok\n") [] 4 2040078 None ∷
    shows (codes "1 2 3 ROT . . ." ∷ codes "1 2 2DUP . . . ." ∷ codes "1 2 3 4 2SWAP . . . ." ∷ codes "1 2 3 4 2OVER . . . . . ." ∷ []) 64
    (codes "1 3 2  ok\n2 1 2 1  ok\n2 1 4 3  ok\n2 1 4 3 2 1  ok\n") [] 4 2040078 (Some InputEnded) ∷
    shows (codes "1 2 3 ROT . . ." ∷ codes "1 2 2DUP . . . ." ∷ codes "1 2 3 4 2SWAP . . . ." ∷ codes "1 2 3 4 2OVER . . . . . ." ∷ []) 66
    (codes "1 3 2  ok\n2 1 2 1  ok\n2 1 4 3  ok\n2 1 4 3 2 1  ok\n") [] 4 2040078 (Some InputEnded) ∷
    shows (codes "5 SPACES 42 EMIT SPACE 43 EMIT CR" ∷ codes "-3 SPACES" ∷ []) 20 (codes "     * +\n ok\n ok\n") [] 2 294 None ∷
    shows (codes "5 SPACES 42 EMIT SPACE 43 EMIT CR" ∷ codes "-3 SPACES" ∷ []) 21 (codes "     * +\n ok\n ok\n") [] 2 294
    (Some InputEnded) ∷
    shows (codes "5 SPACES 42 EMIT SPACE 43 EMIT CR" ∷ codes "-3 SPACES" ∷ []) 23 (codes "     * +\n ok\n ok\n") [] 2 294
    (Some InputEnded) ∷
    shows (codes "6 3 LSHIFT . 48 2 RSHIFT . 12 10 AND . 12 10 OR . 12 10 XOR . 0 INVERT ." ∷ []) 37
    (codes "48 12 8 14 6 -1  ok\n") [] 1 720006 None ∷
    shows (codes "6 3 LSHIFT . 48 2 RSHIFT . 12 10 AND . 12 10 OR . 12 10 XOR . 0 INVERT ." ∷ []) 38
    (codes "48 12 8 14 6 -1  ok\n") [] 1 720006 (Some InputEnded) ∷
    shows (codes "6 3 LSHIFT . 48 2 RSHIFT . 12 10 AND . 12 10 OR . 12 10 XOR . 0 INVERT ." ∷ []) 40
    (codes "48 12 8 14 6 -1  ok\n") [] 1 720006 (Some InputEnded) ∷
    shows (codes "1 2 < . 2 1 < . 1 2 > . 1 1 = . -1 1 U< . 0 0= . -1 0< ." ∷ []) 42 (codes "-1 0 0 -1 0 -1 -1  ok\n") [] 1 840010 None ∷
    shows (codes "1 2 < . 2 1 < . 1 2 > . 1 1 = . -1 1 U< . 0 0= . -1 0< ." ∷ []) 43 (codes "-1 0 0 -1 0 -1 -1  ok\n") [] 1 840010
    (Some InputEnded) ∷
    shows (codes "1 2 < . 2 1 < . 1 2 > . 1 1 = . -1 1 U< . 0 0= . -1 0< ." ∷ []) 45 (codes "-1 0 0 -1 0 -1 -1  ok\n") [] 1 840010
    (Some InputEnded) ∷ []) ≡ []
unfolding session_run session_steps session_step step
running_3 = refl

-- structures, loops, listed words, and halts in definitions, more
running_4 : failing (
    shows (codes "5 2* . 5 2/ . -5 2/ . -5 ABS . 5 NEGATE . 3 -4 MIN ." ∷ []) 33 (codes "10 2 -3 5 -5 -4  ok\n") [] 1 720093 None ∷
    shows (codes "5 2* . 5 2/ . -5 2/ . -5 ABS . 5 NEGATE . 3 -4 MIN ." ∷ []) 34 (codes "10 2 -3 5 -5 -4  ok\n") [] 1 720093
    (Some InputEnded) ∷
    shows (codes "5 2* . 5 2/ . -5 2/ . -5 ABS . 5 NEGATE . 3 -4 MIN ." ∷ []) 36 (codes "10 2 -3 5 -5 -4  ok\n") [] 1 720093
    (Some InputEnded) ∷
    shows (codes ": U 1 0 / ; 5" ∷ codes "U" ∷ codes "6 ." ∷ []) 9 (codes " ok\n") (0 ∷ 1 ∷ 5 ∷ []) 2 5 None ∷
    shows (codes ": U 1 0 / ; 5" ∷ codes "U" ∷ codes "6 ." ∷ []) 10 (codes " ok\n") [] 2 3705 (Some (Halted 10)) ∷
    shows (codes ": U 1 0 / ; 5" ∷ codes "U" ∷ codes "6 ." ∷ []) 12 (codes " ok\n") [] 2 3705 (Some (Halted 10)) ∷
    shows (codes "9 ." ∷ []) 5 (codes "9  ok\n") [] 1 120000 None ∷
    shows (codes "9 ." ∷ []) 6 (codes "9  ok\n") [] 1 120000 (Some InputEnded) ∷
    shows (codes "9 ." ∷ []) 8 (codes "9  ok\n") [] 1 120000 (Some InputEnded) ∷
    shows (codes "1 2 3 4 5 6 7 8" ∷ codes "DROP DROP" ∷ codes ". . . . . ." ∷ []) 30
    (codes " ok\n ok\n6 5 4 3 2 1  ok\n") [] 3 720002 None ∷
    shows (codes "1 2 3 4 5 6 7 8" ∷ codes "DROP DROP" ∷ codes ". . . . . ." ∷ []) 31 (codes " ok\n ok\n6 5 4 3 2 1  ok\n") [] 3 720002
    (Some InputEnded) ∷
    shows (codes "1 2 3 4 5 6 7 8" ∷ codes "DROP DROP" ∷ codes ". . . . . ." ∷ []) 33 (codes " ok\n ok\n6 5 4 3 2 1  ok\n") [] 3 720002
    (Some InputEnded) ∷
    shows (codes ": I2 BEGIN BEGIN 1- DUP 3 MOD 0= UNTIL DUP . DUP 0= UNTIL DROP ; 7 I2" ∷ []) 65 (codes "6 3 0  ok\n") [] 1 385967 None ∷
    shows (codes ": I2 BEGIN BEGIN 1- DUP 3 MOD 0= UNTIL DUP . DUP 0= UNTIL DROP ; 7 I2" ∷ []) 66 (codes "6 3 0  ok\n") [] 1 385967
    (Some InputEnded) ∷
    shows (codes ": I2 BEGIN BEGIN 1- DUP 3 MOD 0= UNTIL DUP . DUP 0= UNTIL DROP ; 7 I2" ∷ []) 68 (codes "6 3 0  ok\n") [] 1 385967
    (Some InputEnded) ∷ []) ≡ []
unfolding session_run session_steps session_step step
running_4 = refl
