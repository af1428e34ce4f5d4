-- Made lines that are admitted, and made lines that are not, each by a moment at which a condition fails. An independent program says the
-- same of each.
use Rattle.std.specs.Prelude.{◌≡◌, [], ◌∷◌, refl, codes}
use Rattle.forth_program.specs.Step.{step}
use Rattle.session_machine.specs.Session.{session_step, session_steps, session_run}
use Rattle.session_machine.proofs.Rows.{failing}
use Rattle.session_machine.proofs.Admission.{admits, refuses}

admitted_1 : failing (
    admits (codes ":  %p9  >  3  begin  dup  while  dup  .  1-  repeat  drop  ;" ∷ []) 4 ∷
    admits (codes ": #n SPACE DUP IF . . XOR ELSE 99999 THEN 2DUP 3 ;" ∷ []) 3 ∷
    admits (codes "100" ∷ codes ": ?q LSHIFT DUP IF . 7 0 ELSE XYZZY THEN ;" ∷ []) 6 ∷
    admits (codes "1" ∷ codes ": FOO ?DUP IF . THEN 1 ;" ∷ codes "0  ." ∷ codes "3 32767 > 0 0= 2 NEGATE" ∷ []) 24 ∷
    admits (codes "32767 . -1 -1 ." ∷ []) 10 ∷
    admits (codes ": |m 100 . 7 0 32767 ; 2" ∷ codes "100 3 |M 1" ∷ codes "*/  2dup nope ." ∷ []) 24 ∷
    admits (codes ": dbl 0 7 . ?DUP IF . THEN ;" ∷ []) 4 ∷
    admits (codes ": T-1 DUP IF . . 1 ELSE -1 THEN . DUP XYZZY" ∷ []) 3 ∷ []) ≡ []
unfolding session_step step
admitted_1 = refl

admitted_2 : failing (
    admits (codes ": BAR 3 BEGIN 1- DUP 0= UNTIL DROP ;" ∷ codes ": do-it U< 3 BEGIN 1- DUP 0= UNTIL DROP ;" ∷
    codes "32767 32767 XOR -32768 BAR" ∷ []) 31 ∷
    admits (codes ": a.b 32767 DUP IF */MOD ABS ELSE 0 THEN ;" ∷ codes "7 65535 ." ∷ codes "" ∷ []) 12 ∷
    admits (codes ": BAR 32767 = ; 65535" ∷ codes ". -32768 BAR BAR ." ∷ []) 22 ∷
    admits (codes "7 7 RSHIFT" ∷ []) 7 ∷
    admits (codes "" ∷ []) 3 ∷
    admits (codes "1" ∷ []) 4 ∷
    admits (codes ": x1 ?DUP IF . THEN 3 . ; 3" ∷ codes "" ∷ codes ": B 0 3 BEGIN 1- DUP 0= UNTIL DROP -32768 ;" ∷ codes ": BAR MOD ;" ∷
    []) 13 ∷
    admits (codes ":  _z  =  .  ?dup  if  .  then  ;" ∷ []) 4 ∷ []) ≡ []
unfolding session_step step
admitted_2 = refl

admitted_3 : failing (
    admits (codes ": +x INVERT 65535 ?DUP IF . THEN . ABS ;" ∷ []) 4 ∷
    admits (codes "65535 2 3 ." ∷ codes "100 DROP 3 SWAP ." ∷ []) 18 ∷
    admits (codes "7" ∷ codes ": sq 2 /MOD SPACES 7 ?DUP IF . THEN 65535 U. ;" ∷ []) 7 ∷
    admits (codes ": +x * 1 SWAP DUP IF 2 1- ELSE 0 THEN > ; 0 DROP" ∷ codes ": [x] 2 2 3 BEGIN 1- DUP 0= UNTIL DROP ;" ∷
    codes ":  d2  32767  .  32767  ?dup  if  .  then  100  [x]  ;" ∷ []) 13 ∷
    admits (codes ": A . 100 . -32768 3 BEGIN 1- DUP 0= UNTIL . 0 -1 ;" ∷ codes ": D2 A -1 65535 2 -32768 ;" ∷ []) 7 ∷
    admits (codes "0 100 1 1 DUP" ∷ []) 9 ∷
    admits (codes "65535 65535 3 . -32768 SPACES" ∷ codes ": BAR NEGATE ?DUP IF . THEN 0 < ;" ∷
    codes ": _z 32767 BAR NEGATE 2SWAP ?DUP IF . THEN ;" ∷ []) 17 ∷
    admits (codes "100 ." ∷ []) 6 ∷ []) ≡ []
unfolding session_step step
admitted_3 = refl

refused_1 : failing (
    refuses (codes ":  w2  .  dup  if  over  99999  else  -32768  then  ;" ∷ codes ": dbl 1a -1 -32768 OR ?DUP IF . THEN ;" ∷ codes "IF" ∷
    []) 5 ∷
    refuses (codes "-32768 . -32768 100" ∷ codes ":  %p9  cr  0  0  3  begin  dup  while  dup  .  1-  repeat  drop  u.  7  ;" ∷ []) 8 ∷
    refuses (codes "+  0=  */  2dup  32767  100" ∷ []) 1 ∷
    refuses (codes ": D2 3 BEGIN 1- DUP 0= UNTIL DROP ;" ∷ codes "2swap nope /  dup  7  3  32767  ." ∷ []) 4 ∷
    refuses (codes "1+ ." ∷ []) 1 ∷
    refuses (codes "100 . 1 . 3 AND" ∷ []) 8 ∷
    refuses (codes "1 EXIT" ∷ []) 2 ∷
    refuses (codes "U< 0" ∷ []) 1 ∷
    refuses (codes "100  -32768  3  3  ." ∷ codes "3  /  xor  7  ." ∷ codes "/ OR 32767 . : -32768" ∷ []) 21 ∷
    refuses (codes "7 ;" ∷ []) 2 ∷ []) ≡ []
unfolding session_run session_steps session_step step
refused_1 = refl

refused_2 : failing (
    refuses (codes ": ." ∷ []) 1 ∷
    refuses (codes ": |m 7 2SWAP 3 BEGIN DUP WHILE 1 . 1- REPEAT DROP ;" ∷ []) 1 ∷
    refuses (codes "0 . 32767 ." ∷ codes "2 THEN" ∷ []) 10 ∷
    refuses (codes ": IF? 65535 IF 3 ;" ∷ []) 1 ∷
    refuses (codes ": _z 100 -1 2 65535 ;" ∷ codes "-1 _Z 0 -32768 _Z ." ∷ []) 21 ∷
    refuses (codes "100  32767  3  IF  ." ∷ []) 4 ∷
    refuses (codes ":  a.b  ." ∷ []) 1 ∷
    refuses (codes "65535 -32769 1 2" ∷ codes ": ?q XYZZY 7 7 . ?DUP IF . THEN -32768 2 ;" ∷ codes ": W2 . @ IF . THEN ;" ∷ []) 6 ∷
    refuses (codes "100 . 7 $FF 0< = 99999 ." ∷ codes ": D3 2 100 3 ?DUP IF . THEN ;" ∷ []) 7 ∷
    refuses (codes "THEN" ∷ []) 1 ∷ []) ≡ []
unfolding session_run session_steps session_step step
refused_2 = refl

refused_3 : failing (
    refuses (codes ": D3 3 BEGIN DUP WHILE DUP . 1- REPEAT DROP - -32768 ;" ∷
    codes ": [x] -32768 3 3 BEGIN DUP WHILE DUP . 1- REPEAT DROP EMIT ;" ∷ []) 4 ∷
    refuses (codes "2 1 65535 1" ∷ codes ": FOO 1 2 MIN . DUP IF . MOD . ELSE OR THEN ;" ∷ codes "@ 32767 . 65535" ∷ []) 10 ∷
    refuses (codes ": a.b ?DUP IF . THEN ;" ∷ codes ": D1 0 CR EMIT 1 3 BEGIN DUP WHILE DUP . 1- REPEAT DROP -32768 100 ;" ∷ []) 4 ∷
    refuses (codes "THEN 1 2DUP" ∷ []) 1 ∷
    refuses (codes ": dbl ?DUP 2DROP . 3 BEGIN 1- DUP 0= UNTIL DROP ; 32767" ∷ codes "-32768 1 U. THEN 7 1- */MOD" ∷ []) 9 ∷
    refuses (codes "7 0 1a 2* ." ∷ codes ": do-it -32768 0 2DUP -1 3 BEGIN DUP WHILE DUP . 1- REPEAT DROP 100 SPACE ;" ∷ []) 5 ∷
    refuses (codes ": FOO 2 CR 0 DUP IF ELSE 2 THEN 65535 ;" ∷ codes "7 7 2 ." ∷ codes ": %p9 + EMIT ?DUP IF . THEN ;" ∷ codes ";" ∷
    []) 14 ∷
    refuses (codes "2 ." ∷ codes ":  w2  */mod  0  drop  3  begin  dup  while  dup  .  1-  repeat  drop  ;" ∷ codes ": +x :" ∷ []) 9 ∷
    refuses (codes ": T-1 7 . IF + 0 ;" ∷ []) 1 ∷
    refuses (codes "EXIT . ." ∷ []) 1 ∷ []) ≡ []
unfolding session_run session_steps session_step step
refused_3 = refl

refused_4 : failing (
    refuses (codes "65535 EXIT DUP" ∷ []) 2 ∷
    refuses (codes ": out& -1 UNTIL 100 ; 7 2SWAP OR" ∷ []) 1 ∷
    refuses (codes "65535 ." ∷ codes ";" ∷ []) 6 ∷
    refuses (codes ": T-1 OVER 100 /MOD 32767 ;" ∷ codes ": x1 0< ?DUP IF . DUP 0 DUP ; T-1" ∷ []) 4 ∷
    refuses (codes "THEN" ∷ []) 1 ∷
    refuses (codes ": Loop2 3 1 3 BEGIN 1- DUP 0= UNTIL DROP 2/ 2 ;" ∷
    codes ":  out&  loop2  drop  <  3  begin  1-  dup  1  until  drop  3  +  ;" ∷ []) 4 ∷
    refuses (codes "2  EXIT  xyzzy  .  ." ∷ []) 2 ∷
    refuses (codes ":  [x]  dup  if . else  .  then  negate  ;" ∷ codes "7 CR 32767 U. 1" ∷ codes "100 [X] 7 65535 / 65535" ∷
    codes ": Loop2 ?DUP IF . UNTIL [X] ;" ∷ []) 29 ∷
    refuses (codes ": BAR -1 . RSHIFT 3 BEGIN DUP WHILE DUP . @ REPEAT DROP ;" ∷ []) 1 ∷
    refuses (codes ": [x] DROP SWAP 3 BEGIN 1- DUP 0= IF DROP 1+ 1a ; RSHIFT" ∷ []) 1 ∷ []) ≡ []
unfolding session_run session_steps session_step step
refused_4 = refl
