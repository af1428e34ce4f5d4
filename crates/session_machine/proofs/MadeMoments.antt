-- Moments of sessions: rows made by an independent program.
use Rattle.std.specs.Prelude.{◌≡◌, [], ◌∷◌, refl, codes, Some, None}
use Rattle.forth_program.specs.State.{InputEnded}
use Rattle.forth_program.specs.Step.{step}
use Rattle.session_machine.specs.Session.{session_step, session_steps, session_run}
use Rattle.session_machine.proofs.Rows.{failing, shows}

-- a loop without end
endless : failing (
    shows (codes ": L BEGIN 46 EMIT 0 UNTIL ; L" ∷ []) 5 [] (46 ∷ []) 1 3 None ∷
    shows (codes ": L BEGIN 46 EMIT 0 UNTIL ; L" ∷ []) 6 (codes ".") [] 1 6 None ∷
    shows (codes ": L BEGIN 46 EMIT 0 UNTIL ; L" ∷ []) 7 (codes ".") (0 ∷ []) 1 8 None ∷
    shows (codes ": L BEGIN 46 EMIT 0 UNTIL ; L" ∷ []) 8 (codes ".") [] 1 9 None ∷
    shows (codes ": L BEGIN 46 EMIT 0 UNTIL ; L" ∷ []) 9 (codes ".") (46 ∷ []) 1 11 None ∷
    shows (codes ": L BEGIN 46 EMIT 0 UNTIL ; L" ∷ []) 10 (codes "..") [] 1 14 None ∷
    shows (codes ": L BEGIN 46 EMIT 0 UNTIL ; L" ∷ []) 20 (codes "....") [] 1 33 None ∷
    shows (codes ": L BEGIN 46 EMIT 0 UNTIL ; L" ∷ []) 60 (codes "..............") [] 1 113 None ∷ []) ≡ []
unfolding session_run session_steps session_step step
endless = refl

-- made sessions
made_sessions_1 : failing (
    shows (codes ":  +x  dup  if  else  7  then  0  ;" ∷ codes "-32768 -32768 2 100 100 XYZZY 65535" ∷ []) 3 (codes " ok\n") [] 1 0 None ∷
    shows (codes ":  +x  dup  if  else  7  then  0  ;" ∷ codes "-32768 -32768 2 100 100 XYZZY 65535" ∷ []) 5 (codes " ok\n")
    (32768 ∷ []) 2 0 None ∷
    shows (codes ":  +x  dup  if  else  7  then  0  ;" ∷ codes "-32768 -32768 2 100 100 XYZZY 65535" ∷ []) 11
    (codes " ok\nXYZZY ?\n") [] 2 0 (Some InputEnded) ∷
    shows (codes "100 65535 NEGATE 1 ." ∷ codes "3" ∷ []) 3 [] (65535 ∷ 100 ∷ []) 1 0 None ∷
    shows (codes "100 65535 NEGATE 1 ." ∷ codes "3" ∷ []) 6 [] (1 ∷ 1 ∷ 100 ∷ []) 1 3 None ∷
    shows (codes "100 65535 NEGATE 1 ." ∷ codes "3" ∷ []) 13 (codes "1  ok\n ok\n") [] 2 120003 (Some InputEnded) ∷
    shows (codes ": +x 0< 2 ?DUP IF . THEN 0 ABS ;" ∷ []) 0 [] [] 0 0 None ∷
    shows (codes ": +x 0< 2 ?DUP IF . THEN 0 ABS ;" ∷ []) 2 [] [] 1 0 None ∷
    shows (codes ": +x 0< 2 ?DUP IF . THEN 0 ABS ;" ∷ []) 4 (codes " ok\n") [] 1 0 (Some InputEnded) ∷
    shows (codes "65535 2 ?DUP INVERT 2DUP" ∷ codes ":  do-it  .  ?dup  if  .  then  ;  0  2swap  ." ∷ codes "do-it  min  spaces" ∷
    codes ": [x] 3 BEGIN DUP WHILE DUP . 1- REPEAT DROP */ ;" ∷ []) 3 [] (2 ∷ 65535 ∷ []) 1 0 None ∷
    shows (codes "65535 2 ?DUP INVERT 2DUP" ∷ codes ":  do-it  .  ?dup  if  .  then  ;  0  2swap  ." ∷ codes "do-it  min  spaces" ∷
    codes ": [x] 3 BEGIN DUP WHILE DUP . 1- REPEAT DROP */ ;" ∷ []) 17 (codes " ok\n2 ")
    (65533 ∷ 0 ∷ 65533 ∷ 2 ∷ 65535 ∷ []) 2 120039 None ∷
    shows (codes "65535 2 ?DUP INVERT 2DUP" ∷ codes ":  do-it  .  ?dup  if  .  then  ;  0  2swap  ." ∷ codes "do-it  min  spaces" ∷
    codes ": [x] 3 BEGIN DUP WHILE DUP . 1- REPEAT DROP */ ;" ∷ []) 34 (codes " ok\n2  ok\n-3  ok\n ok\n") [] 4 240114
    (Some InputEnded) ∷
    shows (codes ": a.b NEGATE 1+ 3 100 3 BEGIN 1- DUP 0= UNTIL DROP MOD ?DUP ;" ∷ []) 0 [] [] 0 0 None ∷
    shows (codes ": a.b NEGATE 1+ 3 100 3 BEGIN 1- DUP 0= UNTIL DROP MOD ?DUP ;" ∷ []) 2 [] [] 1 0 None ∷
    shows (codes ": a.b NEGATE 1+ 3 100 3 BEGIN 1- DUP 0= UNTIL DROP MOD ?DUP ;" ∷ []) 4 (codes " ok\n") [] 1 0 (Some InputEnded) ∷
    shows (codes ": IF? 3 BEGIN DUP WHILE DUP . 1- REPEAT DROP ;" ∷ codes "IF? IF? 0 -1 0< NEGATE IF?" ∷ codes "INVERT" ∷ codes "OVER 100" ∷
    []) 38 (codes " ok\n3 2 1 3 ") (2 ∷ []) 2 480030 None ∷ []) ≡ []
unfolding session_run session_steps session_step step
made_sessions_1 = refl

-- made sessions, more
made_sessions_2 : failing (
    shows (codes ": IF? 3 BEGIN DUP WHILE DUP . 1- REPEAT DROP ;" ∷ codes "IF? IF? 0 -1 0< NEGATE IF?" ∷ codes "INVERT" ∷ codes "OVER 100" ∷
    []) 48 (codes " ok\n3 2 1 3 2 1 ") (1 ∷ []) 2 720038 None ∷
    shows (codes ": IF? 3 BEGIN DUP WHILE DUP . 1- REPEAT DROP ;" ∷ codes "IF? IF? 0 -1 0< NEGATE IF?" ∷ codes "INVERT" ∷ codes "OVER 100" ∷
    []) 96 (codes " ok\n3 2 1 3 2 1 3 2 1  ok\n ok\n ok\n") [] 4 1080073 (Some InputEnded) ∷
    shows (codes "32767 ?DUP 32767 / 65535 7 ." ∷ []) 3 [] (32767 ∷ []) 1 0 None ∷
    shows (codes "32767 ?DUP 32767 / 65535 7 ." ∷ []) 6 [] (32767 ∷ 32767 ∷ 32767 ∷ []) 1 12 None ∷
    shows (codes "32767 ?DUP 32767 / 65535 7 ." ∷ []) 13 (codes "7  ok\n") [] 1 123712 (Some InputEnded) ∷
    shows (codes ": |m -1 32767 DUP IF /MOD . 2* ELSE EMIT THEN ;" ∷ codes "-1 |M" ∷ []) 6 (codes " ok\n") (65535 ∷ []) 2 0 None ∷
    shows (codes ": |m -1 32767 DUP IF /MOD . 2* ELSE EMIT THEN ;" ∷ codes "-1 |M" ∷ []) 9 (codes " ok\n")
    (32767 ∷ 65535 ∷ 65535 ∷ []) 2 5 None ∷
    shows (codes ": |m -1 32767 DUP IF /MOD . 2* ELSE EMIT THEN ;" ∷ codes "-1 |M" ∷ []) 18 (codes " ok\n-1  ok\n") [] 2 123611
    (Some InputEnded) ∷
    shows (codes ": W2 2OVER ?DUP IF . THEN . ;" ∷ codes ": IF? DUP IF ABS ELSE W2 THEN ;" ∷ []) 3 (codes " ok\n") [] 1 0 None ∷
    shows (codes ": W2 2OVER ?DUP IF . THEN . ;" ∷ codes ": IF? DUP IF ABS ELSE W2 THEN ;" ∷ []) 5 (codes " ok\n") [] 2 0 None ∷
    shows (codes ": W2 2OVER ?DUP IF . THEN . ;" ∷ codes ": IF? DUP IF ABS ELSE W2 THEN ;" ∷ []) 7 (codes " ok\n ok\n") [] 2 0
    (Some InputEnded) ∷
    shows (codes "1 32767 -1 65535 0 . 32767" ∷ codes "0 1" ∷ codes "2* ?DUP . 1 1+ ." ∷ []) 14 (codes "0  ok\n ok\n")
    (1 ∷ 0 ∷ 32767 ∷ 65535 ∷ 65535 ∷ 32767 ∷ 1 ∷ []) 2 120000 None ∷
    shows (codes "1 32767 -1 65535 0 . 32767" ∷ codes "0 1" ∷ codes "2* ?DUP . 1 1+ ." ∷ []) 22 (codes "0  ok\n ok\n2 ")
    (1 ∷ 2 ∷ 0 ∷ 32767 ∷ 65535 ∷ 65535 ∷ 32767 ∷ 1 ∷ []) 3 240014 None ∷
    shows (codes "1 32767 -1 65535 0 . 32767" ∷ codes "0 1" ∷ codes "2* ?DUP . 1 1+ ." ∷ []) 28 (codes "0  ok\n ok\n2 2  ok\n") [] 3 360016
    (Some InputEnded) ∷
    shows (codes "2  -1" ∷ codes "." ∷ codes "100 OR -32768 nope 1" ∷ codes ": [x] 3 BEGIN 1- DUP 0= UNTIL DROP 1 7 ;" ∷ codes "" ∷ []) 5
    (codes " ok\n") (65535 ∷ 2 ∷ []) 2 0 None ∷
    shows (codes "2  -1" ∷ codes "." ∷ codes "100 OR -32768 nope 1" ∷ codes ": [x] 3 BEGIN 1- DUP 0= UNTIL DROP 1 7 ;" ∷ codes "" ∷ []) 10
    (codes " ok\n-1  ok\n") (100 ∷ 2 ∷ []) 3 120000 None ∷ []) ≡ []
unfolding session_run session_steps session_step step
made_sessions_2 = refl

-- made sessions, more
made_sessions_3 : failing (
    shows (codes "2  -1" ∷ codes "." ∷ codes "100 OR -32768 nope 1" ∷ codes ": [x] 3 BEGIN 1- DUP 0= UNTIL DROP 1 7 ;" ∷ codes "" ∷ []) 20
    (codes " ok\n-1  ok\nnope ?\n ok\n ok\n") [] 5 120001 (Some InputEnded) ∷
    shows (codes "" ∷ codes ": IF? -32768 7 < < DUP IF ELSE RSHIFT THEN ;" ∷ codes "" ∷
    codes ":  [x]  2/  if?  /mod  3  begin  dup  while  dup  .  1-  repeat  drop  -32768  ;" ∷ codes "" ∷
    codes ": A 3 - XOR 3 3 BEGIN DUP WHILE DUP . 1- REPEAT DROP ;" ∷ []) 6 (codes " ok\n ok\n") [] 3 0 None ∷
    shows (codes "" ∷ codes ": IF? -32768 7 < < DUP IF ELSE RSHIFT THEN ;" ∷ codes "" ∷
    codes ":  [x]  2/  if?  /mod  3  begin  dup  while  dup  .  1-  repeat  drop  -32768  ;" ∷ codes "" ∷
    codes ": A 3 - XOR 3 3 BEGIN DUP WHILE DUP . 1- REPEAT DROP ;" ∷ []) 8 (codes " ok\n ok\n ok\n") [] 4 0 None ∷
    shows (codes "" ∷ codes ": IF? -32768 7 < < DUP IF ELSE RSHIFT THEN ;" ∷ codes "" ∷
    codes ":  [x]  2/  if?  /mod  3  begin  dup  while  dup  .  1-  repeat  drop  -32768  ;" ∷ codes "" ∷
    codes ": A 3 - XOR 3 3 BEGIN DUP WHILE DUP . 1- REPEAT DROP ;" ∷ []) 16 (codes " ok\n ok\n ok\n ok\n ok\n ok\n") [] 6 0
    (Some InputEnded) ∷
    shows (codes "2 65535 -32768 1-" ∷ codes ": _z MIN ;" ∷ codes "." ∷ codes "MIN" ∷ codes "7  2drop  -32768  -1" ∷
    codes ": sq 0 EMIT -32768 -32768 DUP IF 1 _Z ELSE 2 THEN ;" ∷ []) 7 (codes " ok\n") (32767 ∷ 65535 ∷ 2 ∷ []) 1 1 None ∷
    shows (codes "2 65535 -32768 1-" ∷ codes ": _z MIN ;" ∷ codes "." ∷ codes "MIN" ∷ codes "7  2drop  -32768  -1" ∷
    codes ": sq 0 EMIT -32768 -32768 DUP IF 1 _Z ELSE 2 THEN ;" ∷ []) 14 (codes " ok\n ok\n32767  ok\n")
    (65535 ∷ 2 ∷ []) 3 120001 None ∷
    shows (codes "2 65535 -32768 1-" ∷ codes ": _z MIN ;" ∷ codes "." ∷ codes "MIN" ∷ codes "7  2drop  -32768  -1" ∷
    codes ": sq 0 EMIT -32768 -32768 DUP IF 1 _Z ELSE 2 THEN ;" ∷ []) 29 (codes " ok\n ok\n32767  ok\n ok\n ok\n ok\n") [] 6 120023
    (Some InputEnded) ∷
    shows (codes "" ∷ codes "" ∷ codes ": an-end-of-the-longest-name-of31 2DROP 7 7 . ;" ∷
    codes ": x1 . 2SWAP + 3 BEGIN 1- DUP 0= UNTIL DROP AN-END-OF-THE-LONGEST-NAME-OF31 ;" ∷ codes "-1 -32768 ." ∷ []) 8
    (codes " ok\n ok\n ok\n") [] 4 0 None ∷
    shows (codes "" ∷ codes "" ∷ codes ": an-end-of-the-longest-name-of31 2DROP 7 7 . ;" ∷
    codes ": x1 . 2SWAP + 3 BEGIN 1- DUP 0= UNTIL DROP AN-END-OF-THE-LONGEST-NAME-OF31 ;" ∷ codes "-1 -32768 ." ∷ []) 16
    (codes " ok\n ok\n ok\n ok\n-32768  ok\n") (65535 ∷ []) 5 120000 None ∷
    shows (codes "" ∷ codes "" ∷ codes ": an-end-of-the-longest-name-of31 2DROP 7 7 . ;" ∷
    codes ": x1 . 2SWAP + 3 BEGIN 1- DUP 0= UNTIL DROP AN-END-OF-THE-LONGEST-NAME-OF31 ;" ∷ codes "-1 -32768 ." ∷ []) 17
    (codes " ok\n ok\n ok\n ok\n-32768  ok\n") [] 5 120000 (Some InputEnded) ∷
    shows (codes ":  |m  ?dup  if  .  then  =  100  ;  nope  and" ∷ codes ": |m /MOD * |M 3 BEGIN 1- DUP 0= UNTIL DROP 100 |M ;" ∷
    codes "3" ∷ codes ":  t-1  swap  100  2  0<  3  begin  1-  dup  0=  until  drop  .  ;" ∷
    codes ": do-it 3 BEGIN DUP WHILE DUP . 1- REPEAT DROP 100 ;" ∷ codes "99999 SPACE 2OVER -1 32767 ." ∷ []) 6
    (codes "nope ?\n ok\n") [] 2 0 None ∷
    shows (codes ":  |m  ?dup  if  .  then  =  100  ;  nope  and" ∷ codes ": |m /MOD * |M 3 BEGIN 1- DUP 0= UNTIL DROP 100 |M ;" ∷
    codes "3" ∷ codes ":  t-1  swap  100  2  0<  3  begin  1-  dup  0=  until  drop  .  ;" ∷
    codes ": do-it 3 BEGIN DUP WHILE DUP . 1- REPEAT DROP 100 ;" ∷ codes "99999 SPACE 2OVER -1 32767 ." ∷ []) 9
    (codes "nope ?\n ok\n ok\n") (3 ∷ []) 3 0 None ∷
    shows (codes ":  |m  ?dup  if  .  then  =  100  ;  nope  and" ∷ codes ": |m /MOD * |M 3 BEGIN 1- DUP 0= UNTIL DROP 100 |M ;" ∷
    codes "3" ∷ codes ":  t-1  swap  100  2  0<  3  begin  1-  dup  0=  until  drop  .  ;" ∷
    codes ": do-it 3 BEGIN DUP WHILE DUP . 1- REPEAT DROP 100 ;" ∷ codes "99999 SPACE 2OVER -1 32767 ." ∷ []) 18
    (codes "nope ?\n ok\n ok\n ok\n ok\n99999 ?\n") [] 6 0 (Some InputEnded) ∷
    shows (codes "" ∷ codes "65535 2 -32768 . DROP ." ∷ []) 7 (codes " ok\n") (32768 ∷ 2 ∷ 65535 ∷ []) 2 0 None ∷
    shows (codes "" ∷ codes "65535 2 -32768 . DROP ." ∷ []) 14 (codes " ok\n-32768 -1  ok\n") [] 2 240001 (Some InputEnded) ∷ []) ≡ []
unfolding session_run session_steps session_step step
made_sessions_3 = refl
