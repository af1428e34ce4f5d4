-- The certificate of the kernel: how far each definition rises on both stacks.
use Rattle.std.specs.Prelude.{ℕ, ℤ, pos, negsuc, List, [], ◌∷◌, Some}
use Rattle.depth_certifier.specs.declared.effect.Effect.{Effect}
use Rattle.depth_certifier.specs.Certificate.{Cert}

-- a definition needs so many data cells, rises by at most so many above them, has at most so many return cells, and changes the data cells by so many
abbrev pub rises_by : ℕ → ℕ → ℕ → ℤ → Effect
rises_by need peak back change = record { need = need; peak = peak; back = back; exit = Some (change, change) }

-- in the order of the text
abbrev pub kernel_effects : List Effect
kernel_effects =
    rises_by 0 2 0 (pos 0) ∷  -- FAIL
    rises_by 0 2 0 (pos 0) ∷  -- STACK-FAIL
    rises_by 0 4 0 (pos 1) ∷  -- REACHED
    rises_by 1 4 1 (pos 1) ∷  -- REST
    rises_by 3 5 3 (pos 0) ∷  -- SKIP
    rises_by 3 5 3 (pos 0) ∷  -- SCAN
    rises_by 1 1 0 (negsuc 0) ∷  -- ADVANCE
    rises_by 3 5 5 (negsuc 0) ∷  -- TAKE
    rises_by 2 6 5 (pos 0) ∷  -- WORD-FROM
    rises_by 3 10 9 (negsuc 1) ∷  -- KEEP-WORD
    rises_by 1 12 9 (pos 0) ∷  -- K-WORD
    rises_by 0 13 9 (pos 1) ∷  -- NEXT-WORD
    rises_by 1 7 5 (pos 1) ∷  -- PARSE
    rises_by 1 2 0 (pos 0) ∷  -- UPPER
    rises_by 2 4 2 (negsuc 0) ∷  -- SAME-BYTE
    rises_by 3 5 4 (negsuc 1) ∷  -- SAME
    rises_by 2 6 4 (negsuc 0) ∷  -- NAMED
    rises_by 1 5 2 (pos 1) ∷  -- CODE-AND-FLAG
    rises_by 1 9 5 (pos 1) ∷  -- K-FIND
    rises_by 1 2 1 (pos 0) ∷  -- DIGIT
    rises_by 2 7 5 (pos 0) ∷  -- GROW
    rises_by 3 7 7 (negsuc 0) ∷  -- TAKE-DIGIT
    rises_by 2 8 10 (pos 0) ∷  -- DIGITS
    rises_by 2 3 2 (negsuc 0) ∷  -- MINUS?
    rises_by 3 1 0 (negsuc 0) ∷  -- SIGNED
    rises_by 1 10 12 (pos 1) ∷  -- K-NUMBER
    rises_by 1 5 5 (negsuc 0) ∷  -- K-CELL
    rises_by 2 11 9 (negsuc 1) ∷  -- K-HEADER
    rises_by 1 4 2 (pos 0) ∷  -- CODE-ADDRESS
    rises_by 1 5 6 (negsuc 0) ∷  -- COMPILE-LITERAL
    rises_by 1 5 5 (negsuc 0) ∷  -- COMPILE-CALL
    rises_by 0 6 5 (pos 0) ∷  -- COMPILE-RETURN
    rises_by 1 5 5 (negsuc 0) ∷  -- COMPILE-TOKEN
    rises_by 1 5 5 (negsuc 0) ∷  -- COMPILE-JUMP
    rises_by 1 5 5 (negsuc 0) ∷  -- COMPILE-BRANCH
    rises_by 1 4 3 (negsuc 0) ∷  -- PATCH
    rises_by 1 12 8 (negsuc 0) ∷  -- LAY
    rises_by 1 1 0 (pos 0) ∷  -- ENTRY
    rises_by 2 4 3 (negsuc 1) ∷  -- OPEN
    rises_by 1 5 3 (pos 0) ∷  -- CLOSE
    rises_by 0 2 0 (pos 0) ∷  -- CLOSE-ALL
    rises_by 0 6 5 (pos 0) ∷  -- K-IF
    rises_by 0 6 4 (pos 0) ∷  -- K-THEN
    rises_by 0 7 6 (pos 0) ∷  -- K-ELSE
    rises_by 0 6 3 (pos 0) ∷  -- K-BEGIN
    rises_by 0 6 5 (pos 0) ∷  -- K-UNTIL
    rises_by 0 7 6 (pos 0) ∷  -- K-WHILE
    rises_by 0 6 6 (pos 0) ∷  -- K-REPEAT
    rises_by 0 13 9 (pos 0) ∷  -- K-DO
    rises_by 1 5 4 (negsuc 0) ∷  -- PATCH-LEAVES
    rises_by 0 13 9 (pos 0) ∷  -- END-LOOP
    rises_by 0 13 9 (pos 0) ∷  -- K-LOOP
    rises_by 0 13 9 (pos 0) ∷  -- K-PLUS-LOOP
    rises_by 0 7 6 (pos 0) ∷  -- K-LEAVE
    rises_by 0 13 10 (pos 1) ∷  -- NEW-NAME
    rises_by 0 13 11 (pos 0) ∷  -- DEFINE
    rises_by 0 13 12 (pos 0) ∷  -- K-COLON
    rises_by 0 6 6 (pos 0) ∷  -- K-SEMICOLON
    rises_by 0 6 5 (pos 0) ∷  -- K-RECURSE
    rises_by 0 13 12 (pos 0) ∷  -- K-CREATE
    rises_by 0 13 13 (pos 0) ∷  -- K-VARIABLE
    rises_by 1 13 12 (negsuc 0) ∷  -- K-CONSTANT
    rises_by 0 7 4 (pos 0) ∷  -- IMMEDIATE
    rises_by 1 2 0 (negsuc 0) ∷  -- SET-DOES
    rises_by 0 6 5 (pos 0) ∷  -- K-DOES
    rises_by 0 2 0 (pos 0) ∷  -- K-LEFT-BRACKET
    rises_by 0 2 0 (pos 0) ∷  -- K-RIGHT-BRACKET
    rises_by 0 13 10 (pos 2) ∷  -- FIND-NAME
    rises_by 0 13 11 (pos 1) ∷  -- K-TICK
    rises_by 0 13 12 (pos 0) ∷  -- K-BRACKET-TICK
    rises_by 2 4 7 (negsuc 1) ∷  -- POSTPONE-NAME
    rises_by 0 13 11 (pos 0) ∷  -- POSTPONE
    rises_by 0 13 10 (pos 1) ∷  -- K-CHAR
    rises_by 0 13 11 (pos 0) ∷  -- K-BRACKET-CHAR
    rises_by 1 5 6 (negsuc 0) ∷  -- K-LITERAL
    rises_by 2 11 11 (negsuc 1) ∷  -- LAY-STRING
    record { need = 0; peak = 13; back = 11; exit = Some (pos 0, pos 2) } ∷  -- K-S-QUOTE
    rises_by 0 13 12 (pos 0) ∷  -- K-DOT-QUOTE
    rises_by 0 8 6 (pos 0) ∷  -- K-PAREN
    rises_by 1 12 10 (pos 0) ∷  -- WORD
    rises_by 0 2 0 (pos 2) ∷  -- SOURCE
    rises_by 2 0 0 (negsuc 0) ∷  -- ENVIRONMENT?
    rises_by 1 1 0 (pos 0) ∷  -- K-TO-BODY
    rises_by 1 24 18 (negsuc 0) ∷  -- K-EXECUTE
    rises_by 0 25 18 (pos 0) ∷  -- K-ABORT
    rises_by 0 25 18 (pos 0) ∷  -- K-QUIT
    rises_by 3 22 18 (negsuc 2) ∷  -- ABORT-WITH
    rises_by 0 13 12 (pos 0) ∷  -- K-ABORT-QUOTE
    rises_by 1 3 0 (negsuc 0) ∷  -- PUSH-USER
    rises_by 0 3 0 (pos 1) ∷  -- POP-USER
    rises_by 1 24 18 (negsuc 0) ∷  -- RUN
    rises_by 1 4 2 (pos 0) ∷  -- NEED
    rises_by 1 24 18 (negsuc 0) ∷  -- TRY
    rises_by 1 12 13 (pos 0) ∷  -- STRUCTURE
    rises_by 2 11 13 (negsuc 0) ∷  -- FOUND
    rises_by 1 5 6 (negsuc 0) ∷  -- PUT
    rises_by 1 12 13 (pos 0) ∷  -- INTERPRET-WORD
    rises_by 0 3 1 (pos 0) ∷  -- CHECK
    rises_by 0 2 0 (pos 0) ∷  -- KEEP-PLACES
    rises_by 0 25 19 (pos 0) ∷  -- INTERPRET
    rises_by 0 2 0 (pos 1) ∷  -- SOURCE-PLACE
    rises_by 0 6 3 (pos 0) ∷  -- SAVE-SOURCE
    rises_by 0 5 3 (pos 0) ∷  -- RESTORE-SOURCE
    rises_by 0 25 20 (pos 0) ∷  -- EVALUATE-STRING
    rises_by 2 6 4 (negsuc 0) ∷  -- KEEP-BYTE
    rises_by 0 8 5 (pos 0) ∷  -- READ-LINE
    rises_by 0 2 1 (pos 0) ∷  -- RESET
    rises_by 0 10 6 (pos 0) ∷  -- SAY-WORD
    rises_by 0 10 7 (pos 0) ∷  -- COMPLAIN
    rises_by 0 10 7 (pos 0) ∷  -- REPLY
    rises_by 0 25 20 (pos 0) ∷  -- ONE-LINE
    rises_by 0 25 21 (pos 0) ∷  -- MAIN
    []

-- the effects of all execution tokens lie within the shared one. The loops are those of SKIP, SCAN, SAME, K-FIND, DIGITS, PATCH-LEAVES, INTERPRET,
-- READ-LINE and MAIN
abbrev pub kernel_certificate : Cert
kernel_certificate = record {
  effects = kernel_effects;
  shared = record { need = 4; peak = 25; back = 20; exit = Some (negsuc 2, pos 2) };
  heads = (pos 0, pos 0) ∷ (pos 0, pos 0) ∷ (pos 0, pos 0) ∷ (pos 1, pos 1) ∷ (pos 2, pos 2) ∷ (pos 0, pos 0) ∷ (pos 0, pos 0) ∷ (pos 1, pos 1) ∷ (pos 0, pos 0) ∷ [];
}
