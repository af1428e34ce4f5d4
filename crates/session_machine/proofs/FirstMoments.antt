-- Moments of sessions: rows made by an independent program.
use Rattle.std.specs.Prelude.{◌≡◌, [], ◌∷◌, refl, codes, Some, None}
use Rattle.forth_program.specs.State.{Halted, InputEnded}
use Rattle.forth_program.specs.Step.{step}
use Rattle.session_machine.specs.Session.{session_step, session_steps, session_run}
use Rattle.session_machine.proofs.Rows.{failing, shows}

-- a line, at each step
sums : failing (
    shows (codes "1 2 + ." ∷ []) 0 [] [] 0 0 None ∷
    shows (codes "1 2 + ." ∷ []) 1 [] [] 1 0 None ∷
    shows (codes "1 2 + ." ∷ []) 2 [] (1 ∷ []) 1 0 None ∷
    shows (codes "1 2 + ." ∷ []) 3 [] (2 ∷ 1 ∷ []) 1 0 None ∷
    shows (codes "1 2 + ." ∷ []) 4 [] (2 ∷ 1 ∷ []) 1 0 None ∷
    shows (codes "1 2 + ." ∷ []) 5 [] (3 ∷ []) 1 1 None ∷
    shows (codes "1 2 + ." ∷ []) 6 [] (3 ∷ []) 1 1 None ∷
    shows (codes "1 2 + ." ∷ []) 7 (codes "3 ") [] 1 120001 None ∷
    shows (codes "1 2 + ." ∷ []) 8 (codes "3  ok\n") [] 1 120001 None ∷
    shows (codes "1 2 + ." ∷ []) 9 (codes "3  ok\n") [] 1 120001 (Some InputEnded) ∷ []) ≡ []
unfolding session_run session_steps session_step step
sums = refl

-- definitions, names in either case, numbers out of range, unknown words, loops, and a halt
first_1 : failing (
    shows (codes ": SQ DUP * ;" ∷ codes "7 SQ ." ∷ codes "XYZZY" ∷ []) 5 (codes " ok\n") (7 ∷ []) 2 0 None ∷
    shows (codes ": SQ DUP * ;" ∷ codes "7 SQ ." ∷ codes "XYZZY" ∷ []) 8 (codes " ok\n") (7 ∷ 7 ∷ []) 2 2 None ∷
    shows (codes ": SQ DUP * ;" ∷ codes "7 SQ ." ∷ codes "XYZZY" ∷ []) 15 (codes " ok\n49  ok\nXYZZY ?\n") [] 3 121203 None ∷
    shows (codes ": SQ DUP * ;" ∷ codes "7 SQ ." ∷ codes "XYZZY" ∷ []) 16 (codes " ok\n49  ok\nXYZZY ?\n") [] 3 121203 (Some InputEnded) ∷
    shows (codes ": SQ DUP * ;" ∷ codes "7 SQ ." ∷ codes "XYZZY" ∷ []) 18 (codes " ok\n49  ok\nXYZZY ?\n") [] 3 121203 (Some InputEnded) ∷
    shows (codes ": dup2 DUP + ;" ∷ codes "4 DUP2 ." ∷ []) 4 (codes " ok\n") [] 2 0 None ∷
    shows (codes ": dup2 DUP + ;" ∷ codes "4 DUP2 ." ∷ []) 7 (codes " ok\n") (4 ∷ []) 2 1 None ∷
    shows (codes ": dup2 DUP + ;" ∷ codes "4 DUP2 ." ∷ []) 13 (codes " ok\n8  ok\n") [] 2 120004 None ∷
    shows (codes ": dup2 DUP + ;" ∷ codes "4 DUP2 ." ∷ []) 14 (codes " ok\n8  ok\n") [] 2 120004 (Some InputEnded) ∷
    shows (codes ": dup2 DUP + ;" ∷ codes "4 DUP2 ." ∷ []) 16 (codes " ok\n8  ok\n") [] 2 120004 (Some InputEnded) ∷
    shows (codes "65535 ." ∷ []) 2 [] (65535 ∷ []) 1 0 None ∷
    shows (codes "65535 ." ∷ []) 3 [] (65535 ∷ []) 1 0 None ∷
    shows (codes "65535 ." ∷ []) 5 (codes "-1  ok\n") [] 1 120000 None ∷
    shows (codes "65535 ." ∷ []) 6 (codes "-1  ok\n") [] 1 120000 (Some InputEnded) ∷
    shows (codes "65535 ." ∷ []) 8 (codes "-1  ok\n") [] 1 120000 (Some InputEnded) ∷
    shows (codes "99999" ∷ []) 1 [] [] 1 0 None ∷ []) ≡ []
unfolding session_run session_steps session_step step
first_1 = refl

-- definitions, names in either case, numbers out of range, unknown words, loops, and a halt, more
first_2 : failing (
    shows (codes "99999" ∷ []) 2 (codes "99999 ?\n") [] 1 0 None ∷
    shows (codes "99999" ∷ []) 3 (codes "99999 ?\n") [] 1 0 (Some InputEnded) ∷
    shows (codes "99999" ∷ []) 5 (codes "99999 ?\n") [] 1 0 (Some InputEnded) ∷
    shows (codes ": ABS2 DUP 0< IF NEGATE THEN ; -5 ABS2 ." ∷ []) 4 [] (65531 ∷ []) 1 0 None ∷
    shows (codes ": ABS2 DUP 0< IF NEGATE THEN ; -5 ABS2 ." ∷ []) 7 [] (65535 ∷ 65531 ∷ []) 1 4 None ∷
    shows (codes ": ABS2 DUP 0< IF NEGATE THEN ; -5 ABS2 ." ∷ []) 13 (codes "5  ok\n") [] 1 120009 None ∷
    shows (codes ": ABS2 DUP 0< IF NEGATE THEN ; -5 ABS2 ." ∷ []) 14 (codes "5  ok\n") [] 1 120009 (Some InputEnded) ∷
    shows (codes ": ABS2 DUP 0< IF NEGATE THEN ; -5 ABS2 ." ∷ []) 16 (codes "5  ok\n") [] 1 120009 (Some InputEnded) ∷
    shows (codes ": CD BEGIN DUP . 1- DUP 0= UNTIL DROP ; 3 CD" ∷ []) 9 (codes "3 ") (2 ∷ 2 ∷ []) 1 120004 None ∷
    shows (codes ": CD BEGIN DUP . 1- DUP 0= UNTIL DROP ; 3 CD" ∷ []) 13 (codes "3 2 ") (2 ∷ []) 1 240008 None ∷
    shows (codes ": CD BEGIN DUP . 1- DUP 0= UNTIL DROP ; 3 CD" ∷ []) 26 (codes "3 2 1  ok\n") [] 1 360021 None ∷
    shows (codes ": CD BEGIN DUP . 1- DUP 0= UNTIL DROP ; 3 CD" ∷ []) 27 (codes "3 2 1  ok\n") [] 1 360021 (Some InputEnded) ∷
    shows (codes ": CD BEGIN DUP . 1- DUP 0= UNTIL DROP ; 3 CD" ∷ []) 29 (codes "3 2 1  ok\n") [] 1 360021 (Some InputEnded) ∷
    shows (codes ": BAD 1 FOO ;" ∷ codes "BAD" ∷ []) 1 [] [] 1 0 None ∷
    shows (codes ": BAD 1 FOO ;" ∷ codes "BAD" ∷ []) 2 (codes "FOO ?\n") [] 1 0 None ∷
    shows (codes ": BAD 1 FOO ;" ∷ codes "BAD" ∷ []) 4 (codes "FOO ?\nBAD ?\n") [] 2 0 None ∷ []) ≡ []
unfolding session_run session_steps session_step step
first_2 = refl

-- definitions, names in either case, numbers out of range, unknown words, loops, and a halt, more
first_3 : failing (
    shows (codes ": BAD 1 FOO ;" ∷ codes "BAD" ∷ []) 5 (codes "FOO ?\nBAD ?\n") [] 2 0 (Some InputEnded) ∷
    shows (codes ": BAD 1 FOO ;" ∷ codes "BAD" ∷ []) 7 (codes "FOO ?\nBAD ?\n") [] 2 0 (Some InputEnded) ∷
    shows (codes "1 2" ∷ codes "XYZZY" ∷ codes "3 ." ∷ []) 4 (codes " ok\n") (2 ∷ 1 ∷ []) 1 0 None ∷
    shows (codes "1 2" ∷ codes "XYZZY" ∷ codes "3 ." ∷ []) 6 (codes " ok\nXYZZY ?\n") [] 2 0 None ∷
    shows (codes "1 2" ∷ codes "XYZZY" ∷ codes "3 ." ∷ []) 11 (codes " ok\nXYZZY ?\n3  ok\n") [] 3 120000 None ∷
    shows (codes "1 2" ∷ codes "XYZZY" ∷ codes "3 ." ∷ []) 12 (codes " ok\nXYZZY ?\n3  ok\n") [] 3 120000 (Some InputEnded) ∷
    shows (codes "1 2" ∷ codes "XYZZY" ∷ codes "3 ." ∷ []) 14 (codes " ok\nXYZZY ?\n3  ok\n") [] 3 120000 (Some InputEnded) ∷
    shows (codes "1 0 /" ∷ []) 1 [] [] 1 0 None ∷
    shows (codes "1 0 /" ∷ []) 2 [] (1 ∷ []) 1 0 None ∷
    shows (codes "1 0 /" ∷ []) 4 [] (0 ∷ 1 ∷ []) 1 0 None ∷
    shows (codes "1 0 /" ∷ []) 5 [] [] 1 3700 (Some (Halted 10)) ∷
    shows (codes "1 0 /" ∷ []) 7 [] [] 1 3700 (Some (Halted 10)) ∷ []) ≡ []
unfolding session_run session_steps session_step step
first_3 = refl
