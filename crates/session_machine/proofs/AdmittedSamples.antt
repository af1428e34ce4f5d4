-- Lines that are admitted, and lines that are not, for each condition. An independent program says the same of each.
use Rattle.std.proofs.Common.{◌≡◌, true, false, [], ◌∷◌, refl}
use Rattle.std.specs.Prelude.{codes, replicate, ◌++◌}
use Rattle.forth_program.specs.Step.{step}
use Rattle.session_machine.specs.Session.{session_step, session_steps, session_run}
use Rattle.session_machine.specs.Admitted.{Admitted}
use Rattle.session_machine.proofs.Rows.{failing}
use Rattle.session_machine.proofs.Admission.{admits, admitted_by}

-- admitted, with the steps of each session
admitted_1 : failing (
    admits (codes ": SQ DUP * ;" ∷ codes "7 SQ ." ∷ codes "XYZZY" ∷ []) 16 ∷
    admits (codes ": ABS2 DUP 0< IF NEGATE THEN ; -5 ABS2 ." ∷ []) 14 ∷
    admits (codes ": CD BEGIN DUP . 1- DUP 0= UNTIL DROP ; 3 CD" ∷ []) 27 ∷
    admits (codes ": BAD 1 FOO ;" ∷ codes "BAD" ∷ []) 5 ∷
    admits (codes "1 2" ∷ codes "XYZZY @ !" ∷ codes "3 ." ∷ []) 12 ∷
    admits (codes "1 0 /" ∷ []) 5 ∷
    admits (codes "" ∷ []) 3 ∷ []) ≡ []
unfolding session_step step
admitted_1 = refl

-- admitted, with the steps of each session
admitted_2 : failing (
    admits ([]) 1 ∷
    admits (codes "1 2 3 4 5 6 7 8" ∷ []) 11 ∷
    admits (codes "FOO : ; @" ∷ []) 3 ∷
    admits (codes ": F IF 1 ELSE NOPE @ IF ;" ∷ []) 3 ∷
    admits (codes ": F BEGIN NOPE" ∷ codes "1 ." ∷ []) 8 ∷
    admits (codes ": D4 DUP IF DUP IF DUP IF DUP IF 1+ ELSE 1- THEN THEN THEN THEN ;" ∷ codes "1 D4 ." ∷ []) 22 ∷
    admits (codes ": F 1 1 1 1 1 1 1 1 1 1 1 1 1 1 1 1 ;" ∷ []) 4 ∷ []) ≡ []
unfolding session_step step
admitted_2 = refl

-- admitted, with the steps of each session
admitted_3 : failing (
    admits (codes ": F 1 . ;" ∷ codes ": G F ;" ∷ []) 7 ∷
    admits (codes ": W BEGIN ?DUP WHILE DUP . 1- REPEAT ; 3 W" ∷ []) 28 ∷
    admits (codes ": Q ?DUP IF . ELSE 88 EMIT THEN ; 3 Q 0 Q" ∷ []) 20 ∷
    admits (codes ": NNNNNNNNNNNNNNNNNNNNNNNNNNNNNNN ;" ∷ []) 4 ∷
    admits (codes "xxxxxxxxxxxxxxxxxxxxxxxxxxxxxxx" ∷ []) 3 ∷
    admits (codes ": NIP SWAP DROP ; 1 2 NIP ." ∷ []) 13 ∷
    admits (codes "" ∷ codes ": B 32767 3 BEGIN 1- DUP 0= UNTIL DROP 1 ; 0 . 3" ∷ codes ": sq 3 XOR 3 BEGIN 1- DUP 0= UNTIL DROP -1 ;" ∷
    codes "" ∷ []) 15 ∷ []) ≡ []
unfolding session_step step
admitted_3 = refl

-- admitted, with the steps of each session
admitted_4 : failing (
    admits (codes ": B ;" ∷ codes ": dbl $FF 3 BEGIN 1- DUP 0= UNTIL DROP ;" ∷ []) 6 ∷
    admits (codes ": D3 U< 7 3 BEGIN DUP WHILE DUP . 1- REPEAT DROP RSHIFT ;" ∷ codes "2 2 OVER ." ∷ codes ": [x] ;" ∷ []) 15 ∷
    admits (codes "65535 100" ∷ codes "0 DROP -32768 2DUP . 2DUP 0=" ∷ codes "SPACE . . 2 -32768 SPACES -32768 ." ∷ codes "7 XOR" ∷
    codes "" ∷ []) 41 ∷
    admits (codes ": W2 . U< DUP IF - nope ELSE /MOD THEN ;" ∷ codes ": ~t . 7 3 BEGIN 1- DUP 0= UNTIL DROP ; 7" ∷
    codes ": do-it . ?DUP IF . THEN 3 ; CR -1" ∷ []) 13 ∷
    admits (codes "32767  65535  .  32767  2" ∷ codes "7 2 XOR 32767 . -1 0" ∷ codes "-1  3" ∷
    codes ": A 1 AND 1- < DUP IF 3 3 . ELSE EMIT THEN . 0 ;" ∷ codes ": W2 3 BEGIN DUP WHILE DUP . 1- REPEAT DROP ;" ∷
    codes "invert  min  100" ∷ codes ": D2 2DROP 0< 3 BEGIN DUP WHILE DUP . 1- REPEAT DROP ;" ∷ []) 40 ∷
    admits (codes "" ∷ []) 3 ∷
    admits (codes ": [x] 0= ?DUP IF . THEN 1+ ;" ∷ []) 4 ∷ []) ≡ []
unfolding session_step step
admitted_4 = refl

-- so a record of all conditions is had
squares_are_admitted : Admitted (codes ": SQ DUP * ;" ∷ codes "7 SQ ." ∷ codes "XYZZY" ∷ [])
unfolding session_step step
squares_are_admitted = admitted_by (codes ": SQ DUP * ;" ∷ codes "7 SQ ." ∷ codes "XYZZY" ∷ []) 16 refl

-- a Core word is no name
refused_1 : Admitted (codes ": DUP 1 ;" ∷ []) → ⊥
unfolding session_run session_steps session_step step
refused_1 h = let g : false ≡ true = (h.moments 1 refl).name in cc

-- nor is one that is dropped
refused_2 : Admitted (codes ": state NOPE ;" ∷ []) → ⊥
unfolding session_run session_steps session_step step
refused_2 h = let g : false ≡ true = (h.moments 1 refl).name in cc

-- a Core word that is not listed
refused_3 : Admitted (codes "1 @" ∷ []) → ⊥
unfolding session_run session_steps session_step step
refused_3 h = let g : false ≡ true = (h.moments 2 refl).unknown in cc

-- a definition that does not end
refused_4 : Admitted (codes ": F 1" ∷ []) → ⊥
unfolding session_run session_steps session_step step
refused_4 h = let g : false ≡ true = (h.moments 1 refl).unknown in cc

-- a structure that does not fit
refused_5 : Admitted (codes ": F THEN ;" ∷ []) → ⊥
unfolding session_run session_steps session_step step
refused_5 h = let g : false ≡ true = (h.moments 1 refl).unknown in cc

-- a definition that ends in a structure
refused_6 : Admitted (codes ": F IF ;" ∷ []) → ⊥
unfolding session_run session_steps session_step step
refused_6 h = let g : false ≡ true = (h.moments 1 refl).unknown in cc

-- a structure outside a definition
refused_7 : Admitted (codes "1 IF" ∷ []) → ⊥
unfolding session_run session_steps session_step step
refused_7 h = let g : false ≡ true = (h.moments 2 refl).unknown in cc

-- an end without a beginning
refused_8 : Admitted (codes "; 5" ∷ []) → ⊥
unfolding session_run session_steps session_step step
refused_8 h = let g : false ≡ true = (h.moments 1 refl).unknown in cc

-- a colon without a name
refused_9 : Admitted (codes ":" ∷ []) → ⊥
unfolding session_run session_steps session_step step
refused_9 h = let g : false ≡ true = (h.moments 1 refl).unknown in cc

-- five structures
refused_10 : Admitted (codes ": F 1 IF 1 IF 1 IF 1 IF 1 IF THEN THEN THEN THEN THEN ;" ∷ []) → ⊥
unfolding session_run session_steps session_step step
refused_10 h = let g : false ≡ true = (h.moments 1 refl).nested in cc

-- five structures up to an unknown word
refused_11 : Admitted (codes ": F 1 IF 1 IF 1 IF 1 IF BEGIN NOPE" ∷ []) → ⊥
unfolding session_run session_steps session_step step
refused_11 h = let g : false ≡ true = (h.moments 1 refl).nested in cc

-- 17 cells
refused_12 : Admitted (codes ": F 1 1 1 1 1 1 1 1 1 1 1 1 1 1 1 1 1 ;" ∷ []) → ⊥
unfolding session_run session_steps session_step step
refused_12 h = let g : false ≡ true = (h.moments 1 refl).effect in cc

-- 17 cells up to an unknown word
refused_13 : Admitted (codes ": F 1 1 1 1 1 1 1 1 1 1 1 1 1 1 1 1 1 NOPE" ∷ []) → ⊥
unfolding session_run session_steps session_step step
refused_13 h = let g : false ≡ true = (h.moments 1 refl).effect in cc

-- 15 return cells
refused_14 : Admitted (codes ": F 1 . ; : G F ; : H G ; : K H ;" ∷ []) → ⊥
unfolding session_run session_steps session_step step
refused_14 h = let g : false ≡ true = (h.moments 4 refl).effect in cc

-- a loop that leaves a cell each turn
refused_15 : Admitted (codes ": F BEGIN 1 0 UNTIL ;" ∷ []) → ⊥
unfolding session_run session_steps session_step step
refused_15 h = let g : false ≡ true = (h.moments 1 refl).effect in cc

-- no cell
refused_16 : Admitted (codes "DUP" ∷ []) → ⊥
unfolding session_run session_steps session_step step
refused_16 h = let g : false ≡ true = (h.moments 1 refl).cells_before in cc

-- one cell for a definition that needs two
refused_17 : Admitted (codes ": F + ; 1 F" ∷ []) → ⊥
unfolding session_run session_steps session_step step
refused_17 h = let g : false ≡ true = (h.moments 3 refl).cells_before in cc

-- nine cells
refused_18 : Admitted (codes "1 2 3 4 5 6 7 8 9" ∷ []) → ⊥
unfolding session_run session_steps session_step step
refused_18 h = let g : false ≡ true = (h.moments 10 refl).cells_after in cc

-- nine cells by a word
refused_19 : Admitted (codes "1 2 3 4 5 6 7 8 DUP" ∷ []) → ⊥
unfolding session_run session_steps session_step step
refused_19 h = let g : false ≡ true = (h.moments 11 refl).cells_after in cc

-- 65 definitions
refused_20 : Admitted (replicate 65 (codes ": A ;")) → ⊥
unfolding session_run session_steps session_step step
refused_20 h = let g : false ≡ true = (h.moments 194 refl).few_definitions in cc

-- too many bytes
refused_21 : Admitted (replicate 38 (codes ": A 1 1 1 1 1 1 1 1 1 1 1 1 1 1 1 1 ;")) → ⊥
unfolding session_run session_steps session_step step
refused_21 h = let g : false ≡ true = (h.moments 113 refl).small_definitions in cc

-- 81 bytes
refused_22 : Admitted (replicate 81 48 ∷ []) → ⊥
refused_22 h = let g : false ≡ true = h.short_lines in cc

-- a tab
refused_23 : Admitted ((49 ∷ 9 ∷ []) ∷ []) → ⊥
refused_23 h = let g : false ≡ true = h.typed_bytes in cc

-- a word of 32 bytes
refused_24 : Admitted (replicate 32 65 ∷ []) → ⊥
refused_24 h = let g : false ≡ true = h.short_words in cc

-- behind an unknown word too
refused_25 : Admitted ((codes "NOPE" ++ 32 ∷ replicate 32 65) ∷ []) → ⊥
refused_25 h = let g : false ≡ true = h.short_words in cc
