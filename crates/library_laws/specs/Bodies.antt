-- The definitions of the library, as trees.
use Rattle.std.specs.Prelude.{ℕ, Bool, List, [], ◌∷◌, ◌++◌, true, false, codes}
use Rattle.word_table.specs.declared.word.Word.{Word}
use Rattle.word_table.specs.declared.word.Word.TheVariants.{Abs, Accept, Align, Aligned, Allot, And, Base, CComma, CFetch, CStore, CellPlus, CharPlus, Comma, Count, Dot, DropTop, Dup, Emit, Equal, FMSlashMod}
use Rattle.word_table.specs.declared.word.Word.TheVariants.{Fetch, Fill, Greater, Here, Hold, Invert, Key, LShift, Less, LessSharp, MStar, Max, Min, Minus, Mod, Move, Negate, OneMinus, OnePlus, Or}
use Rattle.word_table.specs.declared.word.Word.TheVariants.{Over, Plus, PlusStore, QDup, RFetch, RFrom, RShift, Rot, SMSlashRem, SToD, Sharp, SharpGreater, SharpS, Sign, Slash, SlashMod, Space, Spaces, Star, StarSlash}
use Rattle.word_table.specs.declared.word.Word.TheVariants.{StarSlashMod, Store, Swap, ToNumber, ToR, TwoDrop, TwoDup, TwoFetch, TwoOver, TwoSlash, TwoStar, TwoStore, TwoSwap, TypeOut, UDot, ULess, UMSlashMod, UMStar, Xor, ZeroEqual}
use Rattle.word_table.specs.declared.word.Word.TheVariants.{ZeroLess}
use Rattle.word_table.specs.Names.{name_of}
use Rattle.forth_program.specs.Tree.{Node, Nodes, Literal, Plain, If, Until, While, Do, Empty, Then}

abbrev pub items : List Node → Nodes
items [] = Empty
items (node ∷ nodes) = Then node (items nodes)

-- the body of a word's definition
abbrev pub body_of_word : Word → Nodes
-- : ~?DUP DUP IF DUP THEN ;
body_of_word QDup = items (Plain Dup ∷ If (items (Plain Dup ∷ [])) Empty ∷ [])
-- : ~2SWAP ROT >R ROT R> ;
body_of_word TwoSwap = items (Plain Rot ∷ Plain ToR ∷ Plain Rot ∷ Plain RFrom ∷ [])
-- : ~2OVER >R >R 2DUP R> R> 2SWAP ;
body_of_word TwoOver = items (Plain ToR ∷ Plain ToR ∷ Plain TwoDup ∷ Plain RFrom ∷ Plain RFrom ∷ Plain TwoSwap ∷ [])
-- : ~ABS DUP 0< IF NEGATE THEN ;
body_of_word Abs = items (Plain Dup ∷ Plain ZeroLess ∷ If (items (Plain Negate ∷ [])) Empty ∷ [])
-- : ~MAX 2DUP < IF SWAP THEN DROP ;
body_of_word Max = items (Plain TwoDup ∷ Plain Less ∷ If (items (Plain Swap ∷ [])) Empty ∷ Plain DropTop ∷ [])
-- : ~MIN 2DUP > IF SWAP THEN DROP ;
body_of_word Min = items (Plain TwoDup ∷ Plain Greater ∷ If (items (Plain Swap ∷ [])) Empty ∷ Plain DropTop ∷ [])
-- : ~2/ DUP 32768 AND SWAP 1 RSHIFT + ;
body_of_word TwoSlash = items (Plain Dup ∷ Literal 32768 ∷ Plain And ∷ Plain Swap ∷ Literal 1 ∷ Plain RShift ∷ Plain Plus ∷ [])
-- : ~C@ DUP @ SWAP 1 AND IF 8 RSHIFT ELSE 255 AND THEN ;
body_of_word CFetch = items (Plain Dup ∷ Plain Fetch ∷ Plain Swap ∷ Literal 1 ∷ Plain And ∷ If (items (Literal 8 ∷ Plain RShift ∷ [])) (items (Literal 255 ∷ Plain And ∷ [])) ∷ [])
-- : ~C! DUP >R @ R@ 1 AND IF 255 AND SWAP 8 LSHIFT ELSE 65280 AND SWAP 255 AND THEN + R> ! ;
body_of_word CStore =
    items
    (Plain Dup ∷ Plain ToR ∷ Plain Fetch ∷ Plain RFetch ∷ Literal 1 ∷ Plain And
    ∷ If (items (Literal 255 ∷ Plain And ∷ Plain Swap ∷ Literal 8 ∷ Plain LShift ∷ []))
    (items (Literal 65280 ∷ Plain And ∷ Plain Swap ∷ Literal 255 ∷ Plain And ∷ [])) ∷ Plain Plus ∷ Plain RFrom ∷ Plain Store ∷ [])
-- : ~+! DUP @ ROT + SWAP ! ;
body_of_word PlusStore = items (Plain Dup ∷ Plain Fetch ∷ Plain Rot ∷ Plain Plus ∷ Plain Swap ∷ Plain Store ∷ [])
-- : ~2@ DUP CELL+ @ SWAP @ ;
body_of_word TwoFetch = items (Plain Dup ∷ Plain CellPlus ∷ Plain Fetch ∷ Plain Swap ∷ Plain Fetch ∷ [])
-- : ~2! SWAP OVER ! CELL+ ! ;
body_of_word TwoStore = items (Plain Swap ∷ Plain Over ∷ Plain Store ∷ Plain CellPlus ∷ Plain Store ∷ [])
-- : ~COUNT DUP CHAR+ SWAP C@ ;
body_of_word Count = items (Plain Dup ∷ Plain CharPlus ∷ Plain Swap ∷ Plain CFetch ∷ [])
-- : ~, HERE ! 2 BASE 4 + +! ;
body_of_word Comma = items (Plain Here ∷ Plain Store ∷ Literal 2 ∷ Plain Base ∷ Literal 4 ∷ Plain Plus ∷ Plain PlusStore ∷ [])
-- : ~C, HERE C! 1 BASE 4 + +! ;
body_of_word CComma = items (Plain Here ∷ Plain CStore ∷ Literal 1 ∷ Plain Base ∷ Literal 4 ∷ Plain Plus ∷ Plain PlusStore ∷ [])
-- : ~ALLOT BASE 4 + +! ;
body_of_word Allot = items (Plain Base ∷ Literal 4 ∷ Plain Plus ∷ Plain PlusStore ∷ [])
-- : ~ALIGN HERE ALIGNED BASE 4 + ! ;
body_of_word Align = items (Plain Here ∷ Plain Aligned ∷ Plain Base ∷ Literal 4 ∷ Plain Plus ∷ Plain Store ∷ [])
-- : ~UM* 0 SWAP 16 0 DO >R OVER 1 AND IF R@ ELSE 0 THEN OVER + DUP ROT U< 15 LSHIFT OVER 1 RSHIFT + SWAP 15 LSHIFT ROT 1 RSHIFT + SWAP R> LOOP DROP ;
body_of_word UMStar =
    items
    (Literal 0 ∷ Plain Swap ∷ Literal 16 ∷ Literal 0
    ∷ Do
    (items
    (Plain ToR ∷ Plain Over ∷ Literal 1 ∷ Plain And ∷ If (items (Plain RFetch ∷ [])) (items (Literal 0 ∷ [])) ∷ Plain Over ∷ Plain Plus ∷ Plain Dup
    ∷ Plain Rot ∷ Plain ULess ∷ Literal 15 ∷ Plain LShift ∷ Plain Over ∷ Literal 1 ∷ Plain RShift ∷ Plain Plus ∷ Plain Swap ∷ Literal 15 ∷ Plain LShift
    ∷ Plain Rot ∷ Literal 1 ∷ Plain RShift ∷ Plain Plus ∷ Plain Swap ∷ Plain RFrom ∷ [])) false ∷ Plain DropTop ∷ [])
-- : ~M* 2DUP 0< AND >R 2DUP SWAP 0< AND R> + >R UM* R> - ;
body_of_word MStar = items (Plain TwoDup ∷ Plain ZeroLess ∷ Plain And ∷ Plain ToR ∷ Plain TwoDup ∷ Plain Swap ∷ Plain ZeroLess ∷ Plain And ∷ Plain RFrom ∷ Plain Plus ∷ Plain ToR ∷ Plain UMStar ∷ Plain RFrom ∷ Plain Minus ∷ [])
-- : ~* UM* DROP ;
body_of_word Star = items (Plain UMStar ∷ Plain DropTop ∷ [])
-- : ~UM/MOD 2DUP U< 0= IF 10 16388 ! THEN 16 0 DO >R OVER 15 RSHIFT OVER + OVER R@ SWAP - 2DUP U< IF DROP + SWAP 2* ELSE - SWAP DROP SWAP 2* 1+ THEN SWAP R> LOOP DROP SWAP ;
body_of_word UMSlashMod =
    items
    (Plain TwoDup ∷ Plain ULess ∷ Plain ZeroEqual ∷ If (items (Literal 10 ∷ Literal 16388 ∷ Plain Store ∷ [])) Empty ∷ Literal 16 ∷ Literal 0
    ∷ Do
    (items
    (Plain ToR ∷ Plain Over ∷ Literal 15 ∷ Plain RShift ∷ Plain Over ∷ Plain Plus ∷ Plain Over ∷ Plain RFetch ∷ Plain Swap ∷ Plain Minus ∷ Plain TwoDup
    ∷ Plain ULess
    ∷ If (items (Plain DropTop ∷ Plain Plus ∷ Plain Swap ∷ Plain TwoStar ∷ []))
    (items (Plain Minus ∷ Plain Swap ∷ Plain DropTop ∷ Plain Swap ∷ Plain TwoStar ∷ Plain OnePlus ∷ [])) ∷ Plain Swap ∷ Plain RFrom ∷ [])) false
    ∷ Plain DropTop ∷ Plain Swap ∷ [])
-- : ~SM/REM DUP >R ROT ROT R> OVER >R ABS >R DUP 0< IF INVERT OVER 0= - SWAP NEGATE SWAP THEN R> UM/MOD SWAP R@ 0< IF NEGATE THEN SWAP ROT R> XOR 0< IF 32768 OVER U< IF 10 16388 ! THEN NEGATE ELSE 32767 OVER U< IF 10 16388 ! THEN THEN ;
body_of_word SMSlashRem =
    items
    (Plain Dup ∷ Plain ToR ∷ Plain Rot ∷ Plain Rot ∷ Plain RFrom ∷ Plain Over ∷ Plain ToR ∷ Plain Abs ∷ Plain ToR ∷ Plain Dup ∷ Plain ZeroLess
    ∷ If (items (Plain Invert ∷ Plain Over ∷ Plain ZeroEqual ∷ Plain Minus ∷ Plain Swap ∷ Plain Negate ∷ Plain Swap ∷ [])) Empty ∷ Plain RFrom
    ∷ Plain UMSlashMod ∷ Plain Swap ∷ Plain RFetch ∷ Plain ZeroLess ∷ If (items (Plain Negate ∷ [])) Empty ∷ Plain Swap ∷ Plain Rot ∷ Plain RFrom
    ∷ Plain Xor ∷ Plain ZeroLess
    ∷ If (items (Literal 32768 ∷ Plain Over ∷ Plain ULess ∷ If (items (Literal 10 ∷ Literal 16388 ∷ Plain Store ∷ [])) Empty ∷ Plain Negate ∷ []))
    (items (Literal 32767 ∷ Plain Over ∷ Plain ULess ∷ If (items (Literal 10 ∷ Literal 16388 ∷ Plain Store ∷ [])) Empty ∷ [])) ∷ [])
-- : ~FM/MOD DUP >R ROT ROT R> SM/REM ROT ROT 2DUP XOR 0< OVER AND IF + SWAP DUP 32768 = IF 10 16388 ! THEN 1- ELSE SWAP DROP SWAP THEN ;
body_of_word FMSlashMod =
    items
    (Plain Dup ∷ Plain ToR ∷ Plain Rot ∷ Plain Rot ∷ Plain RFrom ∷ Plain SMSlashRem ∷ Plain Rot ∷ Plain Rot ∷ Plain TwoDup ∷ Plain Xor ∷ Plain ZeroLess
    ∷ Plain Over ∷ Plain And
    ∷ If
    (items
    (Plain Plus ∷ Plain Swap ∷ Plain Dup ∷ Literal 32768 ∷ Plain Equal ∷ If (items (Literal 10 ∷ Literal 16388 ∷ Plain Store ∷ [])) Empty ∷ Plain OneMinus
    ∷ [])) (items (Plain Swap ∷ Plain DropTop ∷ Plain Swap ∷ [])) ∷ [])
-- : ~/MOD >R S>D R> FM/MOD ;
body_of_word SlashMod = items (Plain ToR ∷ Plain SToD ∷ Plain RFrom ∷ Plain FMSlashMod ∷ [])
-- : ~/ /MOD SWAP DROP ;
body_of_word Slash = items (Plain SlashMod ∷ Plain Swap ∷ Plain DropTop ∷ [])
-- : ~MOD /MOD DROP ;
body_of_word Mod = items (Plain SlashMod ∷ Plain DropTop ∷ [])
-- : ~*/MOD >R M* R> FM/MOD ;
body_of_word StarSlashMod = items (Plain ToR ∷ Plain MStar ∷ Plain RFrom ∷ Plain FMSlashMod ∷ [])
-- : ~*/ */MOD SWAP DROP ;
body_of_word StarSlash = items (Plain StarSlashMod ∷ Plain Swap ∷ Plain DropTop ∷ [])
-- ----
-- : ~<# BASE 96 + BASE CELL+ ! ;
body_of_word LessSharp = items (Plain Base ∷ Literal 96 ∷ Plain Plus ∷ Plain Base ∷ Plain CellPlus ∷ Plain Store ∷ [])
-- : ~HOLD BASE CELL+ @ 1- DUP BASE 16 + - 80 U< 0= IF 12 16388 ! THEN DUP BASE CELL+ ! C! ;
body_of_word Hold =
    items
    (Plain Base ∷ Plain CellPlus ∷ Plain Fetch ∷ Plain OneMinus ∷ Plain Dup ∷ Plain Base ∷ Literal 16 ∷ Plain Plus ∷ Plain Minus ∷ Literal 80 ∷ Plain ULess
    ∷ Plain ZeroEqual ∷ If (items (Literal 12 ∷ Literal 16388 ∷ Plain Store ∷ [])) Empty ∷ Plain Dup ∷ Plain Base ∷ Plain CellPlus ∷ Plain Store
    ∷ Plain CStore ∷ [])
-- : ~SIGN 0< IF 45 HOLD THEN ;
body_of_word Sign = items (Plain ZeroLess ∷ If (items (Literal 45 ∷ Plain Hold ∷ [])) Empty ∷ [])
-- : ~# BASE @ DUP 2 - 35 U< 0= IF 11 16388 ! THEN >R 0 R@ UM/MOD R> SWAP >R UM/MOD SWAP DUP 9 > IF 7 + THEN 48 + HOLD R> ;
body_of_word Sharp =
    items
    (Plain Base ∷ Plain Fetch ∷ Plain Dup ∷ Literal 2 ∷ Plain Minus ∷ Literal 35 ∷ Plain ULess ∷ Plain ZeroEqual
    ∷ If (items (Literal 11 ∷ Literal 16388 ∷ Plain Store ∷ [])) Empty ∷ Plain ToR ∷ Literal 0 ∷ Plain RFetch ∷ Plain UMSlashMod ∷ Plain RFrom ∷ Plain Swap
    ∷ Plain ToR ∷ Plain UMSlashMod ∷ Plain Swap ∷ Plain Dup ∷ Literal 9 ∷ Plain Greater ∷ If (items (Literal 7 ∷ Plain Plus ∷ [])) Empty ∷ Literal 48
    ∷ Plain Plus ∷ Plain Hold ∷ Plain RFrom ∷ [])
-- : ~#S BEGIN # 2DUP OR 0= UNTIL ;
body_of_word SharpS = items (Until (items (Plain Sharp ∷ Plain TwoDup ∷ Plain Or ∷ Plain ZeroEqual ∷ [])) ∷ [])
-- : ~#> 2DROP BASE CELL+ @ BASE 96 + OVER - ;
body_of_word SharpGreater = items (Plain TwoDrop ∷ Plain Base ∷ Plain CellPlus ∷ Plain Fetch ∷ Plain Base ∷ Literal 96 ∷ Plain Plus ∷ Plain Over ∷ Plain Minus ∷ [])
-- : ~TYPE BEGIN DUP WHILE SWAP COUNT EMIT SWAP 1- REPEAT 2DROP ;
body_of_word TypeOut = items (While (items (Plain Dup ∷ [])) (items (Plain Swap ∷ Plain Count ∷ Plain Emit ∷ Plain Swap ∷ Plain OneMinus ∷ [])) ∷ Plain TwoDrop ∷ [])
-- : ~. DUP ABS 0 <# BEGIN # 2DUP OR 0= UNTIL ROT SIGN #> TYPE SPACE ;
body_of_word Dot = items (Plain Dup ∷ Plain Abs ∷ Literal 0 ∷ Plain LessSharp ∷ Until (items (Plain Sharp ∷ Plain TwoDup ∷ Plain Or ∷ Plain ZeroEqual ∷ [])) ∷ Plain Rot ∷ Plain Sign ∷ Plain SharpGreater ∷ Plain TypeOut ∷ Plain Space ∷ [])
-- : ~U. 0 <# BEGIN # 2DUP OR 0= UNTIL #> TYPE SPACE ;
body_of_word UDot = items (Literal 0 ∷ Plain LessSharp ∷ Until (items (Plain Sharp ∷ Plain TwoDup ∷ Plain Or ∷ Plain ZeroEqual ∷ [])) ∷ Plain SharpGreater ∷ Plain TypeOut ∷ Plain Space ∷ [])
-- : ~SPACES BEGIN DUP 0 > WHILE SPACE 1- REPEAT DROP ;
body_of_word Spaces = items (While (items (Plain Dup ∷ Literal 0 ∷ Plain Greater ∷ [])) (items (Plain Space ∷ Plain OneMinus ∷ [])) ∷ Plain DropTop ∷ [])
-- : ~FILL >R BEGIN DUP WHILE SWAP R@ OVER C! CHAR+ SWAP 1- REPEAT 2DROP R> DROP ;
body_of_word Fill = items (Plain ToR ∷ While (items (Plain Dup ∷ [])) (items (Plain Swap ∷ Plain RFetch ∷ Plain Over ∷ Plain CStore ∷ Plain CharPlus ∷ Plain Swap ∷ Plain OneMinus ∷ [])) ∷ Plain TwoDrop ∷ Plain RFrom ∷ Plain DropTop ∷ [])
-- : ~MOVE >R 2DUP U< R> SWAP IF BEGIN DUP WHILE 1- >R OVER R@ + C@ OVER R@ + C! R> REPEAT ELSE BEGIN DUP WHILE >R OVER C@ OVER C! CHAR+ SWAP CHAR+ SWAP R> 1- REPEAT THEN 2DROP DROP ;
body_of_word Move =
    items
    (Plain ToR ∷ Plain TwoDup ∷ Plain ULess ∷ Plain RFrom ∷ Plain Swap
    ∷ If
    (items
    (While (items (Plain Dup ∷ []))
    (items
    (Plain OneMinus ∷ Plain ToR ∷ Plain Over ∷ Plain RFetch ∷ Plain Plus ∷ Plain CFetch ∷ Plain Over ∷ Plain RFetch ∷ Plain Plus ∷ Plain CStore
    ∷ Plain RFrom ∷ [])) ∷ []))
    (items
    (While (items (Plain Dup ∷ []))
    (items
    (Plain ToR ∷ Plain Over ∷ Plain CFetch ∷ Plain Over ∷ Plain CStore ∷ Plain CharPlus ∷ Plain Swap ∷ Plain CharPlus ∷ Plain Swap ∷ Plain RFrom
    ∷ Plain OneMinus ∷ [])) ∷ [])) ∷ Plain TwoDrop ∷ Plain DropTop ∷ [])
-- : ~ACCEPT OVER >R BEGIN DUP WHILE KEY DUP 10 = IF 2DROP 0 ELSE ROT SWAP OVER C! CHAR+ SWAP 1- THEN REPEAT DROP R> - ;
body_of_word Accept =
    items
    (Plain Over ∷ Plain ToR
    ∷ While (items (Plain Dup ∷ []))
    (items
    (Plain Key ∷ Plain Dup ∷ Literal 10 ∷ Plain Equal
    ∷ If (items (Plain TwoDrop ∷ Literal 0 ∷ []))
    (items (Plain Rot ∷ Plain Swap ∷ Plain Over ∷ Plain CStore ∷ Plain CharPlus ∷ Plain Swap ∷ Plain OneMinus ∷ [])) ∷ [])) ∷ Plain DropTop ∷ Plain RFrom
    ∷ Plain Minus ∷ [])
-- : ~>NUMBER BEGIN DUP IF OVER C@ DUP 48 - 10 U< IF 48 - ELSE DUP 65 - 26 U< IF 55 - ELSE DUP 97 - 26 U< IF 87 - ELSE DROP 65535 THEN THEN THEN DUP BASE @ U<
-- ELSE 0 0 THEN WHILE SWAP >R SWAP >R >R BASE @ * SWAP BASE @ UM* ROT + SWAP R@ + DUP R> U< ROT SWAP - R> R> SWAP CHAR+ SWAP 1- REPEAT DROP ;
body_of_word ToNumber =
    items
    (While
    (items
    (Plain Dup
    ∷ If
    (items
    (Plain Over ∷ Plain CFetch ∷ Plain Dup ∷ Literal 48 ∷ Plain Minus ∷ Literal 10 ∷ Plain ULess
    ∷ If (items (Literal 48 ∷ Plain Minus ∷ []))
    (items
    (Plain Dup ∷ Literal 65 ∷ Plain Minus ∷ Literal 26 ∷ Plain ULess
    ∷ If (items (Literal 55 ∷ Plain Minus ∷ []))
    (items
    (Plain Dup ∷ Literal 97 ∷ Plain Minus ∷ Literal 26 ∷ Plain ULess
    ∷ If (items (Literal 87 ∷ Plain Minus ∷ [])) (items (Plain DropTop ∷ Literal 65535 ∷ [])) ∷ [])) ∷ [])) ∷ Plain Dup ∷ Plain Base ∷ Plain Fetch
    ∷ Plain ULess ∷ [])) (items (Literal 0 ∷ Literal 0 ∷ [])) ∷ []))
    (items
    (Plain Swap ∷ Plain ToR ∷ Plain Swap ∷ Plain ToR ∷ Plain ToR ∷ Plain Base ∷ Plain Fetch ∷ Plain Star ∷ Plain Swap ∷ Plain Base ∷ Plain Fetch
    ∷ Plain UMStar ∷ Plain Rot ∷ Plain Plus ∷ Plain Swap ∷ Plain RFetch ∷ Plain Plus ∷ Plain Dup ∷ Plain RFrom ∷ Plain ULess ∷ Plain Rot ∷ Plain Swap
    ∷ Plain Minus ∷ Plain RFrom ∷ Plain RFrom ∷ Plain Swap ∷ Plain CharPlus ∷ Plain Swap ∷ Plain OneMinus ∷ [])) ∷ Plain DropTop ∷ [])
-- the other words have no definition
body_of_word word = Empty

abbrev pub has_items : Nodes → Bool
has_items Empty = false
has_items (Then node rest) = true

abbrev pub has_definition : Word → Bool
has_definition word = has_items (body_of_word word)

-- the words that each text of the library defines, in its order
abbrev pub arithmetic_words : List Word
arithmetic_words =
    QDup ∷ TwoSwap ∷ TwoOver ∷ Abs ∷ Max ∷ Min ∷ TwoSlash ∷ CFetch ∷ CStore ∷ PlusStore ∷ TwoFetch ∷ TwoStore ∷ Count ∷ Comma ∷ CComma ∷ Allot ∷ Align
    ∷ UMStar ∷ MStar ∷ Star ∷ UMSlashMod ∷ SMSlashRem ∷ FMSlashMod ∷ SlashMod ∷ Slash ∷ Mod ∷ StarSlashMod ∷ StarSlash ∷ []

abbrev pub pictured_words : List Word
pictured_words = LessSharp ∷ Hold ∷ Sign ∷ Sharp ∷ SharpS ∷ SharpGreater ∷ TypeOut ∷ Dot ∷ UDot ∷ Spaces ∷ Fill ∷ Move ∷ Accept ∷ ToNumber ∷ []

-- their bodies
abbrev pub bodies_of : List Word → List Nodes
bodies_of [] = []
bodies_of (word ∷ words) = body_of_word word ∷ bodies_of words

-- the names of their definitions: each has `~` before the word's, so that no body finds one of them
abbrev pub definition_names : List Word → List (List ℕ)
definition_names [] = []
definition_names (word ∷ words) = (codes "~" ++ name_of word) ∷ definition_names words

-- the bodies of the whole library, the first text before the second
abbrev pub whole_library : List Nodes
whole_library = bodies_of (arithmetic_words ++ pictured_words)
