-- The definitions of the kernel's text, written out in their order.
use Rattle.std.specs.Prelude.{List, [], ◌∷◌}
use Rattle.word_table.specs.declared.word.Word.TheVariants.{Align, Aligned, Allot, And, Base, Blank, CComma, CFetch, CStore, CellPlus, Cells, CharPlus, Comma, Count, Cr, DropTop, Dup}
use Rattle.word_table.specs.declared.word.Word.TheVariants.{Equal, Fetch, Go, Here, Invert, Key, Max, Minus, Move, Negate, OneMinus, OnePlus, Or, Over, Plus, PlusStore, QDup, RFetch}
use Rattle.word_table.specs.declared.word.Word.TheVariants.{RFrom, RShift, Rot, Store, Swap, ToR, TwoDrop, TwoDup, TwoFetch, TwoStore, TwoSwap, TypeOut, ULess, UMStar, ZeroEqual, ZeroLess}
use Rattle.forth_program.specs.declared.item.TextKind.TheVariants as text
use Rattle.forth_program.specs.Tree.{Nodes, Literal, Plain, Call, Text, If, Until, While, Exit, Empty}
use Rattle.kernel_words.specs.Bodies.{items}

abbrev pub kernel_bodies : List Nodes
kernel_bodies =
    -- FAIL
    (items (Literal 1 ∷ Literal 8490 ∷ Plain Store ∷ [])) ∷
    -- STACK-FAIL
    (items (Literal 4 ∷ Literal 8490 ∷ Plain Store ∷ [])) ∷
    -- REACHED
    (items (Literal 8402 ∷ Plain Fetch ∷ Literal 8400 ∷ Plain Fetch ∷ Plain TwoDup ∷ Plain ULess ∷ If (items (Plain DropTop ∷ [])) (items (Plain Swap
    ∷ Plain DropTop ∷ [])) ∷ [])) ∷
    -- REST
    (items (Call 2 ∷ Plain Dup ∷ Plain ToR ∷ Plain Plus ∷ Literal 8400 ∷ Plain Fetch ∷ Plain RFrom ∷ Plain Minus ∷ [])) ∷
    -- SKIP
    (items (While (items (Plain Dup ∷ If (items (Plain ToR ∷ Plain TwoDup ∷ Plain CFetch ∷ Plain Equal ∷ Plain RFrom ∷ Plain Swap ∷ [])) (items
    (Literal 0 ∷ [])) ∷ [])) (items (Plain OneMinus ∷ Plain Swap ∷ Plain CharPlus ∷ Plain Swap ∷ [])) ∷ [])) ∷
    -- SCAN
    (items (While (items (Plain Dup ∷ If (items (Plain ToR ∷ Plain TwoDup ∷ Plain CFetch ∷ Plain Equal ∷ Plain ZeroEqual ∷ Plain RFrom ∷ Plain Swap ∷
    [])) (items (Literal 0 ∷ [])) ∷ [])) (items (Plain OneMinus ∷ Plain Swap ∷ Plain CharPlus ∷ Plain Swap ∷ [])) ∷ [])) ∷
    -- ADVANCE
    (items (Plain Dup ∷ If (items (Plain OneMinus ∷ [])) Empty ∷ Literal 8400 ∷ Plain Fetch ∷ Plain Swap ∷ Plain Minus ∷ Literal 8402 ∷ Plain Store ∷
    [])) ∷
    -- TAKE
    (items (Plain Over ∷ Plain ToR ∷ Call 5 ∷ Call 6 ∷ Plain Swap ∷ Plain DropTop ∷ Plain RFetch ∷ Plain Minus ∷ Plain RFrom ∷ Plain Swap ∷ [])) ∷
    -- WORD-FROM
    (items (Call 3 ∷ Call 4 ∷ Call 7 ∷ [])) ∷
    -- KEEP-WORD
    (items (Plain ToR ∷ Plain Dup ∷ Literal 80 ∷ Plain ULess ∷ Plain ZeroEqual ∷ If (items (Plain DropTop ∷ Literal 80 ∷ [])) Empty ∷ Plain Dup ∷
    Plain RFetch ∷ Plain CStore ∷ Plain RFetch ∷ Plain CharPlus ∷ Plain Swap ∷ Plain Move ∷ Plain RFrom ∷ [])) ∷
    -- K-WORD
    (items (Literal 8320 ∷ Call 8 ∷ Literal 8406 ∷ Call 9 ∷ [])) ∷
    -- NEXT-WORD
    (items (Plain Blank ∷ Literal 8488 ∷ Plain Fetch ∷ Call 8 ∷ Literal 8406 ∷ Call 9 ∷ [])) ∷
    -- PARSE
    (items (Literal 8488 ∷ Plain Fetch ∷ Call 3 ∷ Call 7 ∷ [])) ∷
    -- UPPER
    (items (Plain Dup ∷ Literal 97 ∷ Plain Minus ∷ Literal 26 ∷ Plain ULess ∷ If (items (Literal 32 ∷ Plain Minus ∷ [])) Empty ∷ [])) ∷
    -- SAME-BYTE
    (items (Plain CFetch ∷ Call 13 ∷ Plain Swap ∷ Plain CFetch ∷ Call 13 ∷ Plain Equal ∷ [])) ∷
    -- SAME
    (items (While (items (Plain Dup ∷ If (items (Plain ToR ∷ Plain TwoDup ∷ Call 14 ∷ Plain RFrom ∷ Plain Swap ∷ [])) (items (Literal 0 ∷ [])) ∷ []))
    (items (Plain ToR ∷ Plain CharPlus ∷ Plain Swap ∷ Plain CharPlus ∷ Plain Swap ∷ Plain RFrom ∷ Plain OneMinus ∷ [])) ∷ Plain ToR ∷ Plain TwoDrop ∷
    Plain RFrom ∷ Plain ZeroEqual ∷ [])) ∷
    -- NAMED
    (items (Literal 4 ∷ Plain Plus ∷ Plain Over ∷ Plain CFetch ∷ Plain Over ∷ Plain CFetch ∷ Plain Equal ∷ If (items (Plain CellPlus ∷ Plain Swap ∷
    Plain Count ∷ Call 15 ∷ [])) (items (Plain TwoDrop ∷ Literal 0 ∷ [])) ∷ [])) ∷
    -- CODE-AND-FLAG
    (items (Plain Dup ∷ Plain CellPlus ∷ Plain Fetch ∷ Plain Swap ∷ Literal 5 ∷ Plain Plus ∷ Plain CFetch ∷ If (items (Literal 1 ∷ [])) (items
    (Literal 65535 ∷ [])) ∷ [])) ∷
    -- K-FIND
    (items (Literal 8404 ∷ Plain Fetch ∷ While (items (Plain Dup ∷ If (items (Plain TwoDup ∷ Call 16 ∷ Plain ZeroEqual ∷ [])) (items (Literal 0 ∷
    [])) ∷ [])) (items (Plain Fetch ∷ [])) ∷ Plain Dup ∷ If (items (Plain Swap ∷ Plain DropTop ∷ Call 17 ∷ [])) Empty ∷ [])) ∷
    -- DIGIT
    (items (Plain Dup ∷ Literal 48 ∷ Plain Minus ∷ Literal 10 ∷ Plain ULess ∷ If (items (Literal 48 ∷ Plain Minus ∷ Exit ∷ [])) Empty ∷ Call 13 ∷
    Plain Dup ∷ Literal 65 ∷ Plain Minus ∷ Literal 26 ∷ Plain ULess ∷ If (items (Literal 55 ∷ Plain Minus ∷ Exit ∷ [])) Empty ∷ Plain DropTop ∷
    Literal 36 ∷ [])) ∷
    -- GROW
    (items (Plain Swap ∷ Plain Base ∷ Plain Fetch ∷ Plain UMStar ∷ Plain ToR ∷ Plain Over ∷ Plain Plus ∷ Plain Dup ∷ Plain Rot ∷ Plain ULess ∷ Plain
    RFrom ∷ Plain Or ∷ Plain ZeroEqual ∷ [])) ∷
    -- TAKE-DIGIT
    (items (Call 19 ∷ Plain Dup ∷ Plain Base ∷ Plain Fetch ∷ Plain ULess ∷ Plain ToR ∷ Call 20 ∷ Plain RFrom ∷ Plain And ∷ Plain Rot ∷ Plain And ∷
    Plain Swap ∷ [])) ∷
    -- DIGITS
    (items (Plain Dup ∷ Plain ZeroEqual ∷ Plain ZeroEqual ∷ Literal 0 ∷ Plain TwoSwap ∷ While (items (Plain Dup ∷ [])) (items (Plain ToR ∷ Plain Dup
    ∷ Plain ToR ∷ Plain CFetch ∷ Call 21 ∷ Plain RFrom ∷ Plain CharPlus ∷ Plain RFrom ∷ Plain OneMinus ∷ [])) ∷ Plain TwoDrop ∷ Plain Swap ∷ [])) ∷
    -- MINUS?
    (items (If (items (Plain CFetch ∷ Literal 45 ∷ Plain Equal ∷ [])) (items (Plain DropTop ∷ Literal 0 ∷ [])) ∷ [])) ∷
    -- SIGNED
    (items (If (items (Plain Over ∷ Literal 32769 ∷ Plain ULess ∷ Plain And ∷ Plain Swap ∷ Plain Negate ∷ Plain Swap ∷ [])) Empty ∷ [])) ∷
    -- K-NUMBER
    (items (Plain Dup ∷ Plain Count ∷ Plain TwoDup ∷ Call 23 ∷ Plain ToR ∷ Plain RFetch ∷ If (items (Plain OneMinus ∷ Plain Swap ∷ Plain CharPlus ∷
    Plain Swap ∷ [])) Empty ∷ Call 22 ∷ Plain RFrom ∷ Call 24 ∷ If (items (Plain Swap ∷ Plain DropTop ∷ Literal 65535 ∷ [])) (items (Plain DropTop ∷
    Literal 0 ∷ [])) ∷ [])) ∷
    -- K-CELL
    (items (Plain Comma ∷ [])) ∷
    -- K-HEADER
    (items (Plain Align ∷ Plain Here ∷ Plain ToR ∷ Literal 8404 ∷ Plain Fetch ∷ Call 26 ∷ Call 26 ∷ Plain Dup ∷ Plain CFetch ∷ Plain CComma ∷ Literal
    0 ∷ Plain CComma ∷ Plain Count ∷ Plain Here ∷ Plain Swap ∷ Plain Dup ∷ Plain Allot ∷ Plain Move ∷ Plain Align ∷ Plain RFrom ∷ Literal 8404 ∷
    Plain Store ∷ [])) ∷
    -- CODE-ADDRESS
    (items (Plain CFetch ∷ Plain Here ∷ Plain Aligned ∷ Plain Plus ∷ Literal 6 ∷ Plain Plus ∷ Plain Aligned ∷ [])) ∷
    -- COMPILE-LITERAL
    (items (Plain Dup ∷ Plain ZeroLess ∷ If (items (Plain Invert ∷ Literal 32768 ∷ Plain Plus ∷ Call 26 ∷ Literal 26112 ∷ [])) (items (Literal 32768
    ∷ Plain Plus ∷ [])) ∷ Call 26 ∷ [])) ∷
    -- COMPILE-CALL
    (items (Literal 1 ∷ Plain RShift ∷ Literal 16384 ∷ Plain Plus ∷ Call 26 ∷ [])) ∷
    -- COMPILE-RETURN
    (items (Literal 28684 ∷ Call 26 ∷ [])) ∷
    -- COMPILE-TOKEN
    (items (Literal 16391 ∷ Plain Plus ∷ Call 26 ∷ [])) ∷
    -- COMPILE-JUMP
    (items (Literal 1 ∷ Plain RShift ∷ Call 26 ∷ [])) ∷
    -- COMPILE-BRANCH
    (items (Literal 1 ∷ Plain RShift ∷ Literal 8192 ∷ Plain Plus ∷ Call 26 ∷ [])) ∷
    -- PATCH
    (items (Plain Here ∷ Literal 1 ∷ Plain RShift ∷ Plain Swap ∷ Plain PlusStore ∷ [])) ∷
    -- LAY
    (items (Plain Dup ∷ Plain CellPlus ∷ Plain Here ∷ Plain Rot ∷ Plain Fetch ∷ Plain Dup ∷ Plain Allot ∷ Plain Move ∷ [])) ∷
    -- ENTRY
    (items (Plain Cells ∷ Plain Cells ∷ Literal 8570 ∷ Plain Plus ∷ [])) ∷
    -- OPEN
    (items (Literal 8568 ∷ Plain Fetch ∷ Literal 16 ∷ Plain ULess ∷ Literal 8494 ∷ Plain Fetch ∷ Plain And ∷ If (items (Literal 8568 ∷ Plain Fetch ∷
    Call 37 ∷ Plain TwoStore ∷ Literal 1 ∷ Literal 8568 ∷ Plain PlusStore ∷ [])) (items (Plain TwoDrop ∷ Call 0 ∷ [])) ∷ [])) ∷
    -- CLOSE
    (items (Literal 8568 ∷ Plain Fetch ∷ If (items (Literal 8568 ∷ Plain Fetch ∷ Plain OneMinus ∷ Call 37 ∷ Plain TwoFetch ∷ Plain Rot ∷ Plain Equal
    ∷ If (items (Literal 65535 ∷ Literal 8568 ∷ Plain PlusStore ∷ Exit ∷ [])) Empty ∷ [])) Empty ∷ Plain DropTop ∷ Call 0 ∷ Literal 8634 ∷ [])) ∷
    -- CLOSE-ALL
    (items (Literal 0 ∷ Literal 8568 ∷ Plain Store ∷ Literal 0 ∷ Literal 8636 ∷ Plain Store ∷ Literal 0 ∷ Literal 8638 ∷ Plain Store ∷ [])) ∷
    -- K-IF
    (items (Plain Here ∷ Literal 1 ∷ Call 38 ∷ Literal 8192 ∷ Call 26 ∷ [])) ∷
    -- K-THEN
    (items (Literal 1 ∷ Call 39 ∷ Call 35 ∷ [])) ∷
    -- K-ELSE
    (items (Literal 1 ∷ Call 39 ∷ Plain Here ∷ Literal 1 ∷ Call 38 ∷ Literal 0 ∷ Call 26 ∷ Call 35 ∷ [])) ∷
    -- K-BEGIN
    (items (Plain Here ∷ Literal 2 ∷ Call 38 ∷ [])) ∷
    -- K-UNTIL
    (items (Literal 2 ∷ Call 39 ∷ Call 34 ∷ [])) ∷
    -- K-WHILE
    (items (Literal 2 ∷ Call 39 ∷ Call 41 ∷ Literal 2 ∷ Call 38 ∷ [])) ∷
    -- K-REPEAT
    (items (Literal 2 ∷ Call 39 ∷ Call 33 ∷ Call 42 ∷ [])) ∷
    -- K-DO
    (items (Literal 9088 ∷ Call 36 ∷ Literal 8636 ∷ Plain Fetch ∷ Literal 4 ∷ Call 38 ∷ Literal 0 ∷ Literal 8636 ∷ Plain Store ∷ Literal 1 ∷ Literal
    8638 ∷ Plain PlusStore ∷ Plain Here ∷ Literal 3 ∷ Call 38 ∷ [])) ∷
    -- PATCH-LEAVES
    (items (While (items (Plain Dup ∷ [])) (items (Plain Dup ∷ Plain Fetch ∷ Plain Swap ∷ Literal 0 ∷ Plain Over ∷ Plain Store ∷ Call 35 ∷ [])) ∷
    Plain DropTop ∷ [])) ∷
    -- END-LOOP
    (items (Literal 8636 ∷ Plain Fetch ∷ Call 49 ∷ Literal 9154 ∷ Call 36 ∷ Literal 4 ∷ Call 39 ∷ Literal 8636 ∷ Plain Store ∷ Literal 65535 ∷
    Literal 8638 ∷ Plain PlusStore ∷ [])) ∷
    -- K-LOOP
    (items (Literal 9106 ∷ Call 36 ∷ Plain Here ∷ Literal 8192 ∷ Call 26 ∷ Literal 3 ∷ Call 39 ∷ Call 33 ∷ Call 35 ∷ Call 50 ∷ [])) ∷
    -- K-PLUS-LOOP
    (items (Literal 9118 ∷ Call 36 ∷ Literal 3 ∷ Call 39 ∷ Call 34 ∷ Call 50 ∷ [])) ∷
    -- K-LEAVE
    (items (Literal 8638 ∷ Plain Fetch ∷ If (items (Plain Here ∷ Literal 8636 ∷ Plain Fetch ∷ Call 26 ∷ Literal 8636 ∷ Plain Store ∷ [])) (items
    (Call 0 ∷ [])) ∷ [])) ∷
    -- NEW-NAME
    (items (Call 11 ∷ Plain Dup ∷ Plain CFetch ∷ Plain OneMinus ∷ Literal 31 ∷ Plain ULess ∷ Plain ZeroEqual ∷ If (items (Call 0 ∷ [])) Empty ∷ []))
    ∷
    -- DEFINE
    (items (Call 54 ∷ Plain Dup ∷ Call 28 ∷ Call 27 ∷ [])) ∷
    -- K-COLON
    (items (Call 55 ∷ Literal 8404 ∷ Plain Fetch ∷ Plain Dup ∷ Literal 8494 ∷ Plain Store ∷ Plain Fetch ∷ Literal 8404 ∷ Plain Store ∷ Call 40 ∷
    Literal 65535 ∷ Literal 8492 ∷ Plain Store ∷ [])) ∷
    -- K-SEMICOLON
    (items (Literal 8494 ∷ Plain Fetch ∷ Plain ZeroEqual ∷ Literal 8568 ∷ Plain Fetch ∷ Plain Or ∷ If (items (Call 0 ∷ [])) (items (Call 31 ∷ Literal
    8494 ∷ Plain Fetch ∷ Literal 8404 ∷ Plain Store ∷ Literal 0 ∷ Literal 8494 ∷ Plain Store ∷ Literal 0 ∷ Literal 8492 ∷ Plain Store ∷ [])) ∷ [])) ∷
    -- K-RECURSE
    (items (Literal 8494 ∷ Plain Fetch ∷ If (items (Literal 8494 ∷ Plain Fetch ∷ Plain CellPlus ∷ Plain Fetch ∷ Call 30 ∷ [])) (items (Call 0 ∷ []))
    ∷ [])) ∷
    -- K-CREATE
    (items (Call 55 ∷ Plain Here ∷ Plain CellPlus ∷ Plain CellPlus ∷ Call 29 ∷ Call 31 ∷ [])) ∷
    -- K-VARIABLE
    (items (Call 59 ∷ Literal 0 ∷ Call 26 ∷ [])) ∷
    -- K-CONSTANT
    (items (Call 55 ∷ Call 29 ∷ Call 31 ∷ [])) ∷
    -- IMMEDIATE
    (items (Literal 8404 ∷ Plain Fetch ∷ Literal 8500 ∷ Plain Fetch ∷ Plain ULess ∷ If (items (Call 0 ∷ [])) (items (Literal 1 ∷ Literal 8404 ∷ Plain
    Fetch ∷ Literal 5 ∷ Plain Plus ∷ Plain CStore ∷ [])) ∷ [])) ∷
    -- SET-DOES
    (items (Literal 1 ∷ Plain RShift ∷ Literal 8404 ∷ Plain Fetch ∷ Plain CellPlus ∷ Plain Fetch ∷ Plain CellPlus ∷ Plain Store ∷ [])) ∷
    -- K-DOES
    (items (Literal 8494 ∷ Plain Fetch ∷ If (items (Literal 9164 ∷ Call 30 ∷ [])) (items (Call 0 ∷ [])) ∷ [])) ∷
    -- K-LEFT-BRACKET
    (items (Literal 0 ∷ Literal 8492 ∷ Plain Store ∷ [])) ∷
    -- K-RIGHT-BRACKET
    (items (Literal 65535 ∷ Literal 8492 ∷ Plain Store ∷ [])) ∷
    -- FIND-NAME
    (items (Call 11 ∷ Call 18 ∷ Plain Dup ∷ Plain ZeroEqual ∷ If (items (Call 0 ∷ [])) Empty ∷ [])) ∷
    -- K-TICK
    (items (Call 67 ∷ Plain ZeroEqual ∷ If (items (Plain DropTop ∷ Literal 8882 ∷ [])) Empty ∷ [])) ∷
    -- K-BRACKET-TICK
    (items (Literal 8494 ∷ Plain Fetch ∷ If (items (Call 68 ∷ Call 29 ∷ [])) (items (Call 0 ∷ [])) ∷ [])) ∷
    -- POSTPONE-NAME
    (items (Plain ZeroLess ∷ If (items (Call 29 ∷ Literal 2 ∷ Call 32 ∷ [])) (items (Call 30 ∷ [])) ∷ [])) ∷
    -- POSTPONE
    (items (Literal 8494 ∷ Plain Fetch ∷ If (items (Call 67 ∷ Call 70 ∷ [])) (items (Call 0 ∷ [])) ∷ [])) ∷
    -- K-CHAR
    (items (Call 11 ∷ Plain Count ∷ Plain ZeroEqual ∷ If (items (Call 0 ∷ [])) Empty ∷ Plain CFetch ∷ [])) ∷
    -- K-BRACKET-CHAR
    (items (Literal 8494 ∷ Plain Fetch ∷ If (items (Call 72 ∷ Call 29 ∷ [])) (items (Call 0 ∷ [])) ∷ [])) ∷
    -- K-LITERAL
    (items (Literal 8494 ∷ Plain Fetch ∷ If (items (Call 29 ∷ [])) (items (Plain DropTop ∷ Call 0 ∷ [])) ∷ [])) ∷
    -- LAY-STRING
    (items (Plain Here ∷ Plain ToR ∷ Literal 0 ∷ Call 26 ∷ Plain Here ∷ Plain ToR ∷ Plain Dup ∷ Plain ToR ∷ Plain Here ∷ Plain Swap ∷ Plain Dup ∷
    Plain Allot ∷ Plain Move ∷ Plain Align ∷ Plain RFrom ∷ Plain RFrom ∷ Plain RFrom ∷ Call 35 ∷ Call 29 ∷ Call 29 ∷ [])) ∷
    -- K-S-QUOTE
    (items (Literal 34 ∷ Call 12 ∷ Literal 8494 ∷ Plain Fetch ∷ If (items (Call 75 ∷ [])) Empty ∷ [])) ∷
    -- K-DOT-QUOTE
    (items (Literal 34 ∷ Call 12 ∷ Literal 8494 ∷ Plain Fetch ∷ If (items (Call 75 ∷ Literal 3 ∷ Call 32 ∷ [])) (items (Plain TypeOut ∷ [])) ∷ [])) ∷
    -- K-PAREN
    (items (Literal 41 ∷ Call 12 ∷ Plain TwoDrop ∷ [])) ∷
    -- WORD
    (items (Literal 8488 ∷ Plain Fetch ∷ Call 8 ∷ Literal 8658 ∷ Call 9 ∷ Plain Dup ∷ Plain Count ∷ Plain Plus ∷ Plain Blank ∷ Plain Swap ∷ Plain
    CStore ∷ [])) ∷
    -- SOURCE
    (items (Literal 8488 ∷ Plain Fetch ∷ Literal 8400 ∷ Plain Fetch ∷ [])) ∷
    -- ENVIRONMENT?
    (items (Plain TwoDrop ∷ Literal 0 ∷ [])) ∷
    -- K-TO-BODY
    (items (Literal 4 ∷ Plain Plus ∷ [])) ∷
    -- K-EXECUTE
    (items (Plain Go ∷ [])) ∷
    -- K-ABORT
    (items (Literal 2 ∷ Literal 8490 ∷ Plain Store ∷ Literal 8968 ∷ Plain Go ∷ [])) ∷
    -- K-QUIT
    (items (Literal 3 ∷ Literal 8490 ∷ Plain Store ∷ Literal 8968 ∷ Plain Go ∷ [])) ∷
    -- ABORT-WITH
    (items (Plain Rot ∷ If (items (Plain TypeOut ∷ Plain Cr ∷ Call 84 ∷ [])) (items (Plain TwoDrop ∷ [])) ∷ [])) ∷
    -- K-ABORT-QUOTE
    (items (Literal 8494 ∷ Plain Fetch ∷ If (items (Literal 34 ∷ Call 12 ∷ Call 75 ∷ Literal 4 ∷ Call 32 ∷ [])) (items (Call 0 ∷ [])) ∷ [])) ∷
    -- PUSH-USER
    (items (Literal 8502 ∷ Plain Fetch ∷ Plain OnePlus ∷ Plain Dup ∷ Literal 8502 ∷ Plain Store ∷ Plain Cells ∷ Literal 8502 ∷ Plain Plus ∷ Plain
    Store ∷ [])) ∷
    -- POP-USER
    (items (Literal 8502 ∷ Plain Fetch ∷ Plain Dup ∷ If (items (Plain Dup ∷ Plain OneMinus ∷ Literal 8502 ∷ Plain Store ∷ Plain Cells ∷ Literal 8502
    ∷ Plain Plus ∷ Plain Fetch ∷ [])) (items (Call 0 ∷ [])) ∷ [])) ∷
    -- RUN
    (items (Literal 1 ∷ Plain RShift ∷ Literal 16384 ∷ Plain Plus ∷ Literal 8960 ∷ Plain Store ∷ Literal 8950 ∷ Plain Go ∷ [])) ∷
    -- NEED
    (items (Plain Dup ∷ Literal 8988 ∷ Plain Minus ∷ Literal 100 ∷ Plain ULess ∷ If (items (Plain DropTop ∷ Literal 99 ∷ Exit ∷ [])) Empty ∷ Literal
    1 ∷ Plain RShift ∷ Literal 7 ∷ Plain Minus ∷ Plain Dup ∷ Literal 140 ∷ Plain ULess ∷ If (items (Literal 8740 ∷ Plain Plus ∷ Plain CFetch ∷ []))
    (items (Plain DropTop ∷ Literal 0 ∷ [])) ∷ [])) ∷
    -- TRY
    (items (Literal 8502 ∷ Plain Fetch ∷ Plain Over ∷ Call 91 ∷ Plain ULess ∷ If (items (Plain DropTop ∷ Call 1 ∷ [])) (items (Call 90 ∷ [])) ∷ []))
    ∷
    -- STRUCTURE
    (items (Plain Dup ∷ Literal 1 ∷ Plain RShift ∷ Literal 7 ∷ Plain Minus ∷ Plain Dup ∷ Literal 5 ∷ Plain Equal ∷ If (items (Plain TwoDrop ∷ Call 56
    ∷ Literal 0 ∷ Exit ∷ [])) Empty ∷ Plain Dup ∷ Literal 6 ∷ Plain Equal ∷ If (items (Plain TwoDrop ∷ Call 57 ∷ Literal 0 ∷ Exit ∷ [])) Empty ∷
    Plain Dup ∷ Literal 7 ∷ Plain Equal ∷ If (items (Plain TwoDrop ∷ Call 41 ∷ Literal 0 ∷ Exit ∷ [])) Empty ∷ Plain Dup ∷ Literal 8 ∷ Plain Equal ∷
    If (items (Plain TwoDrop ∷ Call 43 ∷ Literal 0 ∷ Exit ∷ [])) Empty ∷ Plain Dup ∷ Literal 9 ∷ Plain Equal ∷ If (items (Plain TwoDrop ∷ Call 42 ∷
    Literal 0 ∷ Exit ∷ [])) Empty ∷ Plain Dup ∷ Literal 10 ∷ Plain Equal ∷ If (items (Plain TwoDrop ∷ Call 44 ∷ Literal 0 ∷ Exit ∷ [])) Empty ∷ Plain
    Dup ∷ Literal 11 ∷ Plain Equal ∷ If (items (Plain TwoDrop ∷ Call 45 ∷ Literal 0 ∷ Exit ∷ [])) Empty ∷ Plain Dup ∷ Literal 12 ∷ Plain Equal ∷ If
    (items (Plain TwoDrop ∷ Call 46 ∷ Literal 0 ∷ Exit ∷ [])) Empty ∷ Plain Dup ∷ Literal 13 ∷ Plain Equal ∷ If (items (Plain TwoDrop ∷ Call 47 ∷
    Literal 0 ∷ Exit ∷ [])) Empty ∷ Plain DropTop ∷ [])) ∷
    -- FOUND
    (items (Plain ZeroLess ∷ Literal 8492 ∷ Plain Fetch ∷ Plain And ∷ If (items (Call 30 ∷ Literal 0 ∷ [])) (items (Call 93 ∷ [])) ∷ [])) ∷
    -- PUT
    (items (Literal 8492 ∷ Plain Fetch ∷ If (items (Call 29 ∷ [])) (items (Call 88 ∷ [])) ∷ [])) ∷
    -- INTERPRET-WORD
    (items (Call 18 ∷ Plain QDup ∷ If (items (Call 94 ∷ [])) (items (Call 25 ∷ If (items (Call 95 ∷ [])) (items (Plain DropTop ∷ Call 0 ∷ [])) ∷
    Literal 0 ∷ [])) ∷ [])) ∷
    -- CHECK
    (items (Literal 20 ∷ Literal 8502 ∷ Plain Fetch ∷ Plain ULess ∷ If (items (Call 1 ∷ [])) Empty ∷ Plain Here ∷ Literal 8500 ∷ Plain Fetch ∷ Plain
    ULess ∷ Literal 16288 ∷ Plain Here ∷ Plain ULess ∷ Plain Or ∷ If (items (Literal 6 ∷ Literal 8490 ∷ Plain Store ∷ [])) Empty ∷ [])) ∷
    -- KEEP-PLACES
    (items (Literal 8490 ∷ Plain Fetch ∷ If (items (Exit ∷ [])) Empty ∷ Literal 8494 ∷ Plain Fetch ∷ If (items (Exit ∷ [])) Empty ∷ Plain Here ∷
    Literal 8496 ∷ Plain Store ∷ Literal 8404 ∷ Plain Fetch ∷ Literal 8498 ∷ Plain Store ∷ [])) ∷
    -- INTERPRET
    (items (While (items (Literal 8490 ∷ Plain Fetch ∷ If (items (Literal 0 ∷ [])) (items (Call 11 ∷ Plain CFetch ∷ [])) ∷ [])) (items (Literal 8406
    ∷ Call 96 ∷ Plain QDup ∷ If (items (Call 92 ∷ [])) Empty ∷ Call 97 ∷ Call 98 ∷ [])) ∷ [])) ∷
    -- SOURCE-PLACE
    (items (Literal 8642 ∷ Literal 8640 ∷ Plain Fetch ∷ Plain Plus ∷ [])) ∷
    -- SAVE-SOURCE
    (items (Literal 8488 ∷ Plain Fetch ∷ Literal 8400 ∷ Plain Fetch ∷ Call 100 ∷ Plain TwoStore ∷ Literal 8402 ∷ Plain Fetch ∷ Literal 8566 ∷ Plain
    Fetch ∷ Call 100 ∷ Literal 4 ∷ Plain Plus ∷ Plain TwoStore ∷ Literal 8 ∷ Literal 8640 ∷ Plain PlusStore ∷ [])) ∷
    -- RESTORE-SOURCE
    (items (Literal 65528 ∷ Literal 8640 ∷ Plain PlusStore ∷ Call 100 ∷ Plain TwoFetch ∷ Literal 8400 ∷ Plain Store ∷ Literal 8488 ∷ Plain Store ∷
    Call 100 ∷ Literal 4 ∷ Plain Plus ∷ Plain TwoFetch ∷ Literal 8566 ∷ Plain Store ∷ Literal 8402 ∷ Plain Store ∷ [])) ∷
    -- EVALUATE-STRING
    (items (Call 89 ∷ Call 89 ∷ Literal 8640 ∷ Plain Fetch ∷ Literal 16 ∷ Plain ULess ∷ If (items (Call 101 ∷ Literal 8488 ∷ Plain Store ∷ Literal
    8400 ∷ Plain Store ∷ Literal 0 ∷ Literal 8402 ∷ Plain Store ∷ Call 99 ∷ Call 102 ∷ [])) (items (Plain TwoDrop ∷ Call 0 ∷ [])) ∷ [])) ∷
    -- KEEP-BYTE
    (items (Plain Over ∷ Literal 80 ∷ Plain ULess ∷ If (items (Plain Over ∷ Literal 8320 ∷ Plain Plus ∷ Plain CStore ∷ Plain OnePlus ∷ [])) (items
    (Plain DropTop ∷ Literal 5 ∷ Literal 8490 ∷ Plain Store ∷ [])) ∷ [])) ∷
    -- READ-LINE
    (items (Literal 0 ∷ While (items (Plain Key ∷ Plain Dup ∷ Literal 10 ∷ Plain Equal ∷ Plain ZeroEqual ∷ [])) (items (Plain Blank ∷ Plain Max ∷
    Call 104 ∷ [])) ∷ Plain DropTop ∷ Literal 8400 ∷ Plain Store ∷ [])) ∷
    -- RESET
    (items (Literal 0 ∷ Literal 8492 ∷ Plain Store ∷ Literal 0 ∷ Literal 8494 ∷ Plain Store ∷ Literal 0 ∷ Literal 8490 ∷ Plain Store ∷ Call 40 ∷
    Literal 8496 ∷ Plain Fetch ∷ Literal 8196 ∷ Plain Store ∷ Literal 8498 ∷ Plain Fetch ∷ Literal 8404 ∷ Plain Store ∷ [])) ∷
    -- SAY-WORD
    (items (Literal 8406 ∷ Plain Count ∷ Plain TypeOut ∷ [])) ∷
    -- COMPLAIN
    (items (Literal 8490 ∷ Plain Fetch ∷ Literal 1 ∷ Plain Equal ∷ If (items (Call 107 ∷ Text text.Print 9182 2 ∷ Plain Cr ∷ [])) Empty ∷ Literal
    8490 ∷ Plain Fetch ∷ Literal 4 ∷ Plain Equal ∷ If (items (Call 107 ∷ Text text.Print 9184 8 ∷ Plain Cr ∷ [])) Empty ∷ Literal 8490 ∷ Plain Fetch
    ∷ Literal 5 ∷ Plain Equal ∷ If (items (Text text.Print 9192 15 ∷ Plain Cr ∷ [])) Empty ∷ Literal 8490 ∷ Plain Fetch ∷ Literal 6 ∷ Plain Equal ∷
    If (items (Call 107 ∷ Text text.Print 9207 7 ∷ Plain Cr ∷ [])) Empty ∷ Literal 8490 ∷ Plain Fetch ∷ Literal 3 ∷ Plain Equal ∷ Plain ZeroEqual ∷
    If (items (Literal 0 ∷ Literal 8502 ∷ Plain Store ∷ [])) Empty ∷ Call 106 ∷ [])) ∷
    -- REPLY
    (items (Literal 8490 ∷ Plain Fetch ∷ If (items (Call 108 ∷ [])) (items (Text text.Print 9214 3 ∷ Plain Cr ∷ [])) ∷ [])) ∷
    -- ONE-LINE
    (items (Call 105 ∷ Literal 8320 ∷ Literal 8488 ∷ Plain Store ∷ Literal 0 ∷ Literal 8402 ∷ Plain Store ∷ Literal 0 ∷ Literal 8640 ∷ Plain Store ∷
    Call 99 ∷ Call 109 ∷ [])) ∷
    -- MAIN
    (items (Call 106 ∷ Until (items (Call 110 ∷ Literal 0 ∷ [])) ∷ [])) ∷
    []
