-- Moments of sessions: rows made by an independent program.
use Rattle.std.specs.Prelude.{◌≡◌, [], ◌∷◌, refl, codes, Some, None}
use Rattle.forth_program.specs.State.{InputEnded}
use Rattle.forth_program.specs.Step.{step}
use Rattle.session_machine.specs.Session.{session_step, session_steps, session_run}
use Rattle.session_machine.proofs.Rows.{failing, shows}

-- empty lines, blanks, unknown words outside and inside definitions, redefinition, and numbers
reading_1 : failing (
    shows ([]) 0 [] [] 0 0 None ∷
    shows ([]) 1 [] [] 0 0 (Some InputEnded) ∷
    shows ([]) 3 [] [] 0 0 (Some InputEnded) ∷
    shows (codes "" ∷ []) 1 [] [] 1 0 None ∷
    shows (codes "" ∷ []) 2 (codes " ok\n") [] 1 0 None ∷
    shows (codes "" ∷ []) 3 (codes " ok\n") [] 1 0 (Some InputEnded) ∷
    shows (codes "" ∷ []) 5 (codes " ok\n") [] 1 0 (Some InputEnded) ∷
    shows (codes "" ∷ codes "   " ∷ codes "1 ." ∷ []) 5 (codes " ok\n ok\n") [] 3 0 None ∷
    shows (codes "" ∷ codes "   " ∷ codes "1 ." ∷ []) 9 (codes " ok\n ok\n1  ok\n") [] 3 120000 None ∷
    shows (codes "" ∷ codes "   " ∷ codes "1 ." ∷ []) 10 (codes " ok\n ok\n1  ok\n") [] 3 120000 (Some InputEnded) ∷
    shows (codes "" ∷ codes "   " ∷ codes "1 ." ∷ []) 12 (codes " ok\n ok\n1  ok\n") [] 3 120000 (Some InputEnded) ∷
    shows (codes "  1   2  " ∷ codes ". ." ∷ []) 5 (codes " ok\n") (2 ∷ 1 ∷ []) 2 0 None ∷
    shows (codes "  1   2  " ∷ codes ". ." ∷ []) 10 (codes " ok\n2 1  ok\n") [] 2 240000 None ∷
    shows (codes "  1   2  " ∷ codes ". ." ∷ []) 11 (codes " ok\n2 1  ok\n") [] 2 240000 (Some InputEnded) ∷
    shows (codes "  1   2  " ∷ codes ". ." ∷ []) 13 (codes " ok\n2 1  ok\n") [] 2 240000 (Some InputEnded) ∷
    shows (codes "FOO" ∷ []) 1 [] [] 1 0 None ∷ []) ≡ []
unfolding session_run session_steps session_step step
reading_1 = refl

-- empty lines, blanks, unknown words outside and inside definitions, redefinition, and numbers, more
reading_2 : failing (
    shows (codes "FOO" ∷ []) 2 (codes "FOO ?\n") [] 1 0 None ∷
    shows (codes "FOO" ∷ []) 3 (codes "FOO ?\n") [] 1 0 (Some InputEnded) ∷
    shows (codes "FOO" ∷ []) 5 (codes "FOO ?\n") [] 1 0 (Some InputEnded) ∷
    shows (codes "1 2 FOO 3 4" ∷ codes "5 ." ∷ []) 5 (codes "FOO ?\n") [] 2 0 None ∷
    shows (codes "1 2 FOO 3 4" ∷ codes "5 ." ∷ []) 9 (codes "FOO ?\n5  ok\n") [] 2 120000 None ∷
    shows (codes "1 2 FOO 3 4" ∷ codes "5 ." ∷ []) 10 (codes "FOO ?\n5  ok\n") [] 2 120000 (Some InputEnded) ∷
    shows (codes "1 2 FOO 3 4" ∷ codes "5 ." ∷ []) 12 (codes "FOO ?\n5  ok\n") [] 2 120000 (Some InputEnded) ∷
    shows (codes "1 FOO . . ." ∷ codes ".S" ∷ codes "2 ." ∷ []) 5 (codes "FOO ?\n.S ?\n") [] 2 0 None ∷
    shows (codes "1 FOO . . ." ∷ codes ".S" ∷ codes "2 ." ∷ []) 10 (codes "FOO ?\n.S ?\n2  ok\n") [] 3 120000 None ∷
    shows (codes "1 FOO . . ." ∷ codes ".S" ∷ codes "2 ." ∷ []) 11 (codes "FOO ?\n.S ?\n2  ok\n") [] 3 120000 (Some InputEnded) ∷
    shows (codes "1 FOO . . ." ∷ codes ".S" ∷ codes "2 ." ∷ []) 13 (codes "FOO ?\n.S ?\n2  ok\n") [] 3 120000 (Some InputEnded) ∷
    shows (codes "1 : F 2 NOPE 3 ; 4" ∷ codes "F" ∷ codes "7 ." ∷ []) 5 (codes "NOPE ?\nF ?\n") [] 2 0 None ∷
    shows (codes "1 : F 2 NOPE 3 ; 4" ∷ codes "F" ∷ codes "7 ." ∷ []) 10 (codes "NOPE ?\nF ?\n7  ok\n") [] 3 120000 None ∷
    shows (codes "1 : F 2 NOPE 3 ; 4" ∷ codes "F" ∷ codes "7 ." ∷ []) 11 (codes "NOPE ?\nF ?\n7  ok\n") [] 3 120000 (Some InputEnded) ∷
    shows (codes "1 : F 2 NOPE 3 ; 4" ∷ codes "F" ∷ codes "7 ." ∷ []) 13 (codes "NOPE ?\nF ?\n7  ok\n") [] 3 120000 (Some InputEnded) ∷
    shows (codes ": F IF 1 ELSE NOPE THEN ;" ∷ codes "9 ." ∷ []) 4 (codes "NOPE ?\n") (9 ∷ []) 2 0 None ∷ []) ≡ []
unfolding session_run session_steps session_step step
reading_2 = refl

-- empty lines, blanks, unknown words outside and inside definitions, redefinition, and numbers, more
reading_3 : failing (
    shows (codes ": F IF 1 ELSE NOPE THEN ;" ∷ codes "9 ." ∷ []) 7 (codes "NOPE ?\n9  ok\n") [] 2 120000 None ∷
    shows (codes ": F IF 1 ELSE NOPE THEN ;" ∷ codes "9 ." ∷ []) 8 (codes "NOPE ?\n9  ok\n") [] 2 120000 (Some InputEnded) ∷
    shows (codes ": F IF 1 ELSE NOPE THEN ;" ∷ codes "9 ." ∷ []) 10 (codes "NOPE ?\n9  ok\n") [] 2 120000 (Some InputEnded) ∷
    shows (codes ": F BEGIN NOPE UNTIL ;" ∷ codes "F" ∷ []) 2 (codes "NOPE ?\n") [] 1 0 None ∷
    shows (codes ": F BEGIN NOPE UNTIL ;" ∷ codes "F" ∷ []) 4 (codes "NOPE ?\nF ?\n") [] 2 0 None ∷
    shows (codes ": F BEGIN NOPE UNTIL ;" ∷ codes "F" ∷ []) 5 (codes "NOPE ?\nF ?\n") [] 2 0 (Some InputEnded) ∷
    shows (codes ": F BEGIN NOPE UNTIL ;" ∷ codes "F" ∷ []) 7 (codes "NOPE ?\nF ?\n") [] 2 0 (Some InputEnded) ∷
    shows (codes ": F 1 ; : G F NOPE ; : H 2 ;" ∷ codes "F ." ∷ codes "G" ∷ codes "H" ∷ []) 8 (codes "NOPE ?\n") (1 ∷ []) 2 4 None ∷
    shows (codes ": F 1 ; : G F NOPE ; : H 2 ;" ∷ codes "F ." ∷ codes "G" ∷ codes "H" ∷ []) 15
    (codes "NOPE ?\n1  ok\nG ?\nH ?\n") [] 4 120004 None ∷
    shows (codes ": F 1 ; : G F NOPE ; : H 2 ;" ∷ codes "F ." ∷ codes "G" ∷ codes "H" ∷ []) 16
    (codes "NOPE ?\n1  ok\nG ?\nH ?\n") [] 4 120004 (Some InputEnded) ∷
    shows (codes ": F 1 ; : G F NOPE ; : H 2 ;" ∷ codes "F ." ∷ codes "G" ∷ codes "H" ∷ []) 18
    (codes "NOPE ?\n1  ok\nG ?\nH ?\n") [] 4 120004 (Some InputEnded) ∷
    shows (codes ": F 1 . ; F" ∷ codes ": F F 2 . ; F" ∷ codes ": G F 3 . ; G" ∷ codes ": F 9 . ; F G" ∷ []) 29
    (codes "1  ok\n1 2  ok\n1 ") [] 3 480018 None ∷
    shows (codes ": F 1 . ; F" ∷ codes ": F F 2 . ; F" ∷ codes ": G F 3 . ; G" ∷ codes ": F 9 . ; F G" ∷ []) 57
    (codes "1  ok\n1 2  ok\n1 2 3  ok\n9 1 2 3  ok\n") [] 4 1200040 None ∷
    shows (codes ": F 1 . ; F" ∷ codes ": F F 2 . ; F" ∷ codes ": G F 3 . ; G" ∷ codes ": F 9 . ; F G" ∷ []) 58
    (codes "1  ok\n1 2  ok\n1 2 3  ok\n9 1 2 3  ok\n") [] 4 1200040 (Some InputEnded) ∷
    shows (codes ": F 1 . ; F" ∷ codes ": F F 2 . ; F" ∷ codes ": G F 3 . ; G" ∷ codes ": F 9 . ; F G" ∷ []) 60
    (codes "1  ok\n1 2  ok\n1 2 3  ok\n9 1 2 3  ok\n") [] 4 1200040 (Some InputEnded) ∷
    shows (codes ": f 5 ; F f + ." ∷ []) 8 [] (5 ∷ []) 1 5 None ∷ []) ≡ []
unfolding session_run session_steps session_step step
reading_3 = refl

-- empty lines, blanks, unknown words outside and inside definitions, redefinition, and numbers, more
reading_4 : failing (
    shows (codes ": f 5 ; F f + ." ∷ []) 15 (codes "10  ok\n") [] 1 120009 None ∷
    shows (codes ": f 5 ; F f + ." ∷ []) 16 (codes "10  ok\n") [] 1 120009 (Some InputEnded) ∷
    shows (codes ": f 5 ; F f + ." ∷ []) 18 (codes "10  ok\n") [] 1 120009 (Some InputEnded) ∷
    shows (codes ": 1 2 ; 1 ." ∷ codes "1 1 + ." ∷ []) 12 (codes "2  ok\n") [] 2 120005 None ∷
    shows (codes ": 1 2 ; 1 ." ∷ codes "1 1 + ." ∷ []) 23 (codes "2  ok\n4  ok\n") [] 2 240013 None ∷
    shows (codes ": 1 2 ; 1 ." ∷ codes "1 1 + ." ∷ []) 24 (codes "2  ok\n4  ok\n") [] 2 240013 (Some InputEnded) ∷
    shows (codes ": 1 2 ; 1 ." ∷ codes "1 1 + ." ∷ []) 26 (codes "2  ok\n4  ok\n") [] 2 240013 (Some InputEnded) ∷
    shows (codes "-32768 ." ∷ codes "-32769" ∷ codes "65536" ∷ codes "65535 U." ∷ codes "-0 ." ∷ codes "--1" ∷ codes "-1 U." ∷ []) 13
    (codes "-32768  ok\n-32769 ?\n65536 ?\n65535 ") [] 4 240000 None ∷
    shows (codes "-32768 ." ∷ codes "-32769" ∷ codes "65536" ∷ codes "65535 U." ∷ codes "-0 ." ∷ codes "--1" ∷ codes "-1 U." ∷ []) 26
    (codes "-32768  ok\n-32769 ?\n65536 ?\n65535  ok\n0  ok\n--1 ?\n65535  ok\n") [] 7 480000 None ∷
    shows (codes "-32768 ." ∷ codes "-32769" ∷ codes "65536" ∷ codes "65535 U." ∷ codes "-0 ." ∷ codes "--1" ∷ codes "-1 U." ∷ []) 27
    (codes "-32768  ok\n-32769 ?\n65536 ?\n65535  ok\n0  ok\n--1 ?\n65535  ok\n") [] 7 480000 (Some InputEnded) ∷
    shows (codes "-32768 ." ∷ codes "-32769" ∷ codes "65536" ∷ codes "65535 U." ∷ codes "-0 ." ∷ codes "--1" ∷ codes "-1 U." ∷ []) 29
    (codes "-32768  ok\n-32769 ?\n65536 ?\n65535  ok\n0  ok\n--1 ?\n65535  ok\n") [] 7 480000 (Some InputEnded) ∷
    shows (codes "1-2" ∷ codes "3 1- ." ∷ []) 5 (codes "1-2 ?\n") (3 ∷ []) 2 0 None ∷
    shows (codes "1-2" ∷ codes "3 1- ." ∷ []) 9 (codes "1-2 ?\n2  ok\n") [] 2 120001 None ∷
    shows (codes "1-2" ∷ codes "3 1- ." ∷ []) 10 (codes "1-2 ?\n2  ok\n") [] 2 120001 (Some InputEnded) ∷
    shows (codes "1-2" ∷ codes "3 1- ." ∷ []) 12 (codes "1-2 ?\n2  ok\n") [] 2 120001 (Some InputEnded) ∷
    shows (codes "5 3 - ." ∷ []) 4 [] (3 ∷ 5 ∷ []) 1 0 None ∷ []) ≡ []
unfolding session_run session_steps session_step step
reading_4 = refl

-- empty lines, blanks, unknown words outside and inside definitions, redefinition, and numbers, more
reading_5 : failing (
    shows (codes "5 3 - ." ∷ []) 8 (codes "2  ok\n") [] 1 120004 None ∷
    shows (codes "5 3 - ." ∷ []) 9 (codes "2  ok\n") [] 1 120004 (Some InputEnded) ∷
    shows (codes "5 3 - ." ∷ []) 11 (codes "2  ok\n") [] 1 120004 (Some InputEnded) ∷
    shows (codes "1A" ∷ codes "$FF" ∷ codes "#10" ∷ codes "'A'" ∷ codes "%101" ∷ []) 5 (codes "1A ?\n$FF ?\n") [] 3 0 None ∷
    shows (codes "1A" ∷ codes "$FF" ∷ codes "#10" ∷ codes "'A'" ∷ codes "%101" ∷ []) 10
    (codes "1A ?\n$FF ?\n#10 ?\n'A' ?\n%101 ?\n") [] 5 0 None ∷
    shows (codes "1A" ∷ codes "$FF" ∷ codes "#10" ∷ codes "'A'" ∷ codes "%101" ∷ []) 11 (codes "1A ?\n$FF ?\n#10 ?\n'A' ?\n%101 ?\n") [] 5 0
    (Some InputEnded) ∷
    shows (codes "1A" ∷ codes "$FF" ∷ codes "#10" ∷ codes "'A'" ∷ codes "%101" ∷ []) 13 (codes "1A ?\n$FF ?\n#10 ?\n'A' ?\n%101 ?\n") [] 5 0
    (Some InputEnded) ∷
    shows (codes "1 dup . ." ∷ codes "NIP" ∷ codes "HEX" ∷ codes "?DO" ∷ codes "MAIN" ∷ codes "GO" ∷ codes "\\" ∷ []) 11
    (codes "1 1  ok\nNIP ?\n") [] 2 240001 None ∷
    shows (codes "1 dup . ." ∷ codes "NIP" ∷ codes "HEX" ∷ codes "?DO" ∷ codes "MAIN" ∷ codes "GO" ∷ codes "\\" ∷ []) 21
    (codes "1 1  ok\nNIP ?\nHEX ?\n?DO ?\nMAIN ?\nGO ?\n\\ ?\n") [] 7 240001 None ∷
    shows (codes "1 dup . ." ∷ codes "NIP" ∷ codes "HEX" ∷ codes "?DO" ∷ codes "MAIN" ∷ codes "GO" ∷ codes "\\" ∷ []) 22
    (codes "1 1  ok\nNIP ?\nHEX ?\n?DO ?\nMAIN ?\nGO ?\n\\ ?\n") [] 7 240001 (Some InputEnded) ∷
    shows (codes "1 dup . ." ∷ codes "NIP" ∷ codes "HEX" ∷ codes "?DO" ∷ codes "MAIN" ∷ codes "GO" ∷ codes "\\" ∷ []) 24
    (codes "1 1  ok\nNIP ?\nHEX ?\n?DO ?\nMAIN ?\nGO ?\n\\ ?\n") [] 7 240001 (Some InputEnded) ∷ []) ≡ []
unfolding session_run session_steps session_step step
reading_5 = refl
