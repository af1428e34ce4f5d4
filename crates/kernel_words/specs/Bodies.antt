-- The definitions of the kernel that read the source, look for names and lay headers, as trees; above each stands its line of the kernel's text.
use Rattle.std.specs.Prelude.{◌≡◌, List, [], ◌∷◌}
use Rattle.word_table.specs.declared.word.Word.TheVariants.{Align, Allot, And, Base, Blank, CComma, CFetch, CStore, CellPlus, CharPlus, Comma, Count}
use Rattle.word_table.specs.declared.word.Word.TheVariants.{DropTop, Dup, Equal, Fetch, Here, Minus, Move, Negate, OneMinus, Or, Over, Plus}
use Rattle.word_table.specs.declared.word.Word.TheVariants.{RFetch, RFrom, Rot, Store, Swap, ToR, TwoDrop, TwoDup, TwoSwap, ULess, UMStar, ZeroEqual}
use Rattle.forth_program.specs.Tree.{Node, Nodes, Literal, Plain, Call, Exit, If, While, Empty, Then}
use Rattle.forth_program.specs.Program.{SourceProgram, body_of}
use Rattle.kernel_words.specs.Places.{latest_cell, length_cell, line_buffer, reached_cell, source_cell, word_buffer}
use Rattle.kernel_words.specs.Places.{reached_place, rest_place, skip_place, scan_place, advance_place, take_place, word_from_place, keep_word_place, kernel_word_place, next_word_place, parse_place, upper_place}
use Rattle.kernel_words.specs.Places.{same_byte_place, same_place, named_place, code_and_flag_place, kernel_find_place, digit_place, grow_place, take_digit_place, digits_place, minus_sign_place, signed_place, kernel_number_place}
use Rattle.kernel_words.specs.Places.{kernel_cell_place, kernel_header_place}

abbrev pub items : List Node → Nodes
items [] = Empty
items (node ∷ nodes) = Then node (items nodes)

-- : REACHED ( -- n ) >IN @ LENGTH @ 2DUP U< IF DROP ELSE SWAP DROP THEN ;
abbrev pub reached_body : Nodes
reached_body = items (Literal reached_cell ∷ Plain Fetch ∷ Literal length_cell ∷ Plain Fetch ∷ Plain TwoDup ∷ Plain ULess ∷
    If (items (Plain DropTop ∷ [])) (items (Plain Swap ∷ Plain DropTop ∷ [])) ∷ [])

-- : REST ( base -- a u ) REACHED DUP >R + LENGTH @ R> - ;
abbrev pub rest_body : Nodes
rest_body = items (Call reached_place ∷ Plain Dup ∷ Plain ToR ∷ Plain Plus ∷ Literal length_cell ∷ Plain Fetch ∷ Plain RFrom ∷ Plain Minus ∷ [])

-- : SKIP ( c a u -- c a u ) BEGIN DUP IF >R 2DUP C@ = R> SWAP ELSE 0 THEN WHILE 1- SWAP CHAR+ SWAP REPEAT ;
abbrev pub skip_body : Nodes
skip_body = items (While (items (Plain Dup ∷ If (items (Plain ToR ∷ Plain TwoDup ∷ Plain CFetch ∷ Plain Equal ∷ Plain RFrom ∷
    Plain Swap ∷ [])) (items (Literal 0 ∷ [])) ∷ [])) (items (Plain OneMinus ∷ Plain Swap ∷ Plain CharPlus ∷ Plain Swap ∷ [])) ∷ [])

-- : SCAN ( c a u -- c a u ) BEGIN DUP IF >R 2DUP C@ = 0= R> SWAP ELSE 0 THEN WHILE 1- SWAP CHAR+ SWAP REPEAT ;
abbrev pub scan_body : Nodes
scan_body = items (While (items (Plain Dup ∷ If (items (Plain ToR ∷ Plain TwoDup ∷ Plain CFetch ∷ Plain Equal ∷ Plain ZeroEqual ∷ Plain RFrom ∷
    Plain Swap ∷ [])) (items (Literal 0 ∷ [])) ∷ [])) (items (Plain OneMinus ∷ Plain Swap ∷ Plain CharPlus ∷ Plain Swap ∷ [])) ∷ [])

-- : ADVANCE ( u -- ) DUP IF 1- THEN LENGTH @ SWAP - >IN ! ;
abbrev pub advance_body : Nodes
advance_body = items (Plain Dup ∷ If (items (Plain OneMinus ∷ [])) Empty ∷ Literal length_cell ∷ Plain Fetch ∷ Plain Swap ∷ Plain Minus ∷
    Literal reached_cell ∷ Plain Store ∷ [])

-- : TAKE ( c a u -- a u ) OVER >R SCAN ADVANCE SWAP DROP R@ - R> SWAP ;
abbrev pub take_body : Nodes
take_body = items (Plain Over ∷ Plain ToR ∷ Call scan_place ∷ Call advance_place ∷ Plain Swap ∷ Plain DropTop ∷ Plain RFetch ∷ Plain Minus ∷
    Plain RFrom ∷ Plain Swap ∷ [])

-- : WORD-FROM ( c base -- a u ) REST SKIP TAKE ;
abbrev pub word_from_body : Nodes
word_from_body = items (Call rest_place ∷ Call skip_place ∷ Call take_place ∷ [])

-- : KEEP-WORD ( a u buffer -- buffer ) >R DUP 80 U< 0= IF DROP 80 THEN DUP R@ C! R@ CHAR+ SWAP MOVE R> ;
abbrev pub keep_word_body : Nodes
keep_word_body = items (Plain ToR ∷ Plain Dup ∷ Literal 80 ∷ Plain ULess ∷ Plain ZeroEqual ∷ If (items (Plain DropTop ∷ Literal 80 ∷ [])) Empty ∷
    Plain Dup ∷ Plain RFetch ∷ Plain CStore ∷ Plain RFetch ∷ Plain CharPlus ∷ Plain Swap ∷ Plain Move ∷ Plain RFrom ∷ [])

-- : K-WORD ( c -- a ) LINE WORD-FROM WORD-BUFFER KEEP-WORD ;
abbrev pub kernel_word_body : Nodes
kernel_word_body = items (Literal line_buffer ∷ Call word_from_place ∷ Literal word_buffer ∷ Call keep_word_place ∷ [])

-- : NEXT-WORD ( -- a ) BL SOURCE-START @ WORD-FROM WORD-BUFFER KEEP-WORD ;
abbrev pub next_word_body : Nodes
next_word_body = items (Plain Blank ∷ Literal source_cell ∷ Plain Fetch ∷ Call word_from_place ∷ Literal word_buffer ∷ Call keep_word_place ∷ [])

-- : PARSE ( c -- a u ) SOURCE-START @ REST TAKE ;
abbrev pub parse_body : Nodes
parse_body = items (Literal source_cell ∷ Plain Fetch ∷ Call rest_place ∷ Call take_place ∷ [])

-- : UPPER ( c -- c ) DUP 97 - 26 U< IF 32 - THEN ;
abbrev pub upper_body : Nodes
upper_body = items (Plain Dup ∷ Literal 97 ∷ Plain Minus ∷ Literal 26 ∷ Plain ULess ∷ If (items (Literal 32 ∷ Plain Minus ∷ [])) Empty ∷ [])

-- : SAME-BYTE ( a b -- flag ) C@ UPPER SWAP C@ UPPER = ;
abbrev pub same_byte_body : Nodes
same_byte_body = items (Plain CFetch ∷ Call upper_place ∷ Plain Swap ∷ Plain CFetch ∷ Call upper_place ∷ Plain Equal ∷ [])

-- : SAME ( a b u -- flag ) BEGIN DUP IF >R 2DUP SAME-BYTE R> SWAP ELSE 0 THEN WHILE >R CHAR+ SWAP CHAR+ SWAP R> 1- REPEAT >R 2DROP R> 0= ;
abbrev pub same_body : Nodes
same_body = items (While (items (Plain Dup ∷ If (items (Plain ToR ∷ Plain TwoDup ∷ Call same_byte_place ∷ Plain RFrom ∷
    Plain Swap ∷ [])) (items (Literal 0 ∷ [])) ∷ [])) (items (Plain ToR ∷ Plain CharPlus ∷ Plain Swap ∷ Plain CharPlus ∷ Plain Swap ∷ Plain RFrom ∷
    Plain OneMinus ∷ [])) ∷ Plain ToR ∷ Plain TwoDrop ∷ Plain RFrom ∷ Plain ZeroEqual ∷ [])

-- : NAMED ( a h -- flag ) 4 + OVER C@ OVER C@ = IF CELL+ SWAP COUNT SAME ELSE 2DROP 0 THEN ;
abbrev pub named_body : Nodes
named_body = items (Literal 4 ∷ Plain Plus ∷ Plain Over ∷ Plain CFetch ∷ Plain Over ∷ Plain CFetch ∷ Plain Equal ∷ If (items (Plain CellPlus ∷
    Plain Swap ∷ Plain Count ∷ Call same_place ∷ [])) (items (Plain TwoDrop ∷ Literal 0 ∷ [])) ∷ [])

-- : CODE-AND-FLAG ( h -- xt flag ) DUP CELL+ @ SWAP 5 + C@ IF 1 ELSE -1 THEN ;
abbrev pub code_and_flag_body : Nodes
code_and_flag_body = items (Plain Dup ∷ Plain CellPlus ∷ Plain Fetch ∷ Plain Swap ∷ Literal 5 ∷ Plain Plus ∷ Plain CFetch ∷
    If (items (Literal 1 ∷ [])) (items (Literal 65535 ∷ [])) ∷ [])

-- : K-FIND ( a -- a 0 / xt flag ) LATEST @ BEGIN DUP IF 2DUP NAMED 0= ELSE 0 THEN WHILE @ REPEAT DUP IF SWAP DROP CODE-AND-FLAG THEN ;
abbrev pub kernel_find_body : Nodes
kernel_find_body = items (Literal latest_cell ∷ Plain Fetch ∷ While (items (Plain Dup ∷ If (items (Plain TwoDup ∷ Call named_place ∷
    Plain ZeroEqual ∷ [])) (items (Literal 0 ∷ [])) ∷ [])) (items (Plain Fetch ∷ [])) ∷ Plain Dup ∷ If (items (Plain Swap ∷ Plain DropTop ∷
    Call code_and_flag_place ∷ [])) Empty ∷ [])

-- : DIGIT ( c -- n ) DUP 48 - 10 U< IF 48 - EXIT THEN UPPER DUP 65 - 26 U< IF 55 - EXIT THEN DROP 36 ;
abbrev pub digit_body : Nodes
digit_body = items (Plain Dup ∷ Literal 48 ∷ Plain Minus ∷ Literal 10 ∷ Plain ULess ∷ If (items (Literal 48 ∷ Plain Minus ∷ Exit ∷ [])) Empty ∷
    Call upper_place ∷ Plain Dup ∷ Literal 65 ∷ Plain Minus ∷ Literal 26 ∷ Plain ULess ∷ If (items (Literal 55 ∷ Plain Minus ∷ Exit ∷ [])) Empty ∷
    Plain DropTop ∷ Literal 36 ∷ [])

-- : GROW ( v n -- v flag ) SWAP BASE @ UM* >R OVER + DUP ROT U< R> OR 0= ;
abbrev pub grow_body : Nodes
grow_body = items (Plain Swap ∷ Plain Base ∷ Plain Fetch ∷ Plain UMStar ∷ Plain ToR ∷ Plain Over ∷ Plain Plus ∷ Plain Dup ∷ Plain Rot ∷ Plain ULess ∷
    Plain RFrom ∷ Plain Or ∷ Plain ZeroEqual ∷ [])

-- : TAKE-DIGIT ( flag v c -- flag v ) DIGIT DUP BASE @ U< >R GROW R> AND ROT AND SWAP ;
abbrev pub take_digit_body : Nodes
take_digit_body = items (Call digit_place ∷ Plain Dup ∷ Plain Base ∷ Plain Fetch ∷ Plain ULess ∷ Plain ToR ∷ Call grow_place ∷ Plain RFrom ∷
    Plain And ∷ Plain Rot ∷ Plain And ∷ Plain Swap ∷ [])

-- : DIGITS ( a u -- v flag ) DUP 0= 0= 0 2SWAP BEGIN DUP WHILE >R DUP >R C@ TAKE-DIGIT R> CHAR+ R> 1- REPEAT 2DROP SWAP ;
abbrev pub digits_body : Nodes
digits_body = items (Plain Dup ∷ Plain ZeroEqual ∷ Plain ZeroEqual ∷ Literal 0 ∷ Plain TwoSwap ∷ While (items (Plain Dup ∷ [])) (items (Plain ToR ∷
    Plain Dup ∷ Plain ToR ∷ Plain CFetch ∷ Call take_digit_place ∷ Plain RFrom ∷ Plain CharPlus ∷ Plain RFrom ∷ Plain OneMinus ∷ [])) ∷
    Plain TwoDrop ∷ Plain Swap ∷ [])

-- : MINUS? ( a u -- flag ) IF C@ 45 = ELSE DROP 0 THEN ;
abbrev pub minus_sign_body : Nodes
minus_sign_body = items (If (items (Plain CFetch ∷ Literal 45 ∷ Plain Equal ∷ [])) (items (Plain DropTop ∷ Literal 0 ∷ [])) ∷ [])

-- : SIGNED ( v flag minus -- n flag ) IF OVER 32769 U< AND SWAP NEGATE SWAP THEN ;
abbrev pub signed_body : Nodes
signed_body = items (If (items (Plain Over ∷ Literal 32769 ∷ Plain ULess ∷ Plain And ∷ Plain Swap ∷ Plain Negate ∷ Plain Swap ∷ [])) Empty ∷ [])

-- : K-NUMBER ( a -- n -1 / a 0 ) DUP COUNT 2DUP MINUS? >R R@ IF 1- SWAP CHAR+ SWAP THEN DIGITS R> SIGNED IF SWAP DROP -1 ELSE DROP 0 THEN ;
abbrev pub kernel_number_body : Nodes
kernel_number_body = items (Plain Dup ∷ Plain Count ∷ Plain TwoDup ∷ Call minus_sign_place ∷ Plain ToR ∷ Plain RFetch ∷ If (items (Plain OneMinus ∷
    Plain Swap ∷ Plain CharPlus ∷ Plain Swap ∷ [])) Empty ∷ Call digits_place ∷ Plain RFrom ∷ Call signed_place ∷ If (items (Plain Swap ∷
    Plain DropTop ∷ Literal 65535 ∷ [])) (items (Plain DropTop ∷ Literal 0 ∷ [])) ∷ [])

-- : K-CELL ( x -- ) , ;
abbrev pub kernel_cell_body : Nodes
kernel_cell_body = items (Plain Comma ∷ [])

-- : K-HEADER ( a x -- ) ALIGN HERE >R LATEST @ K-CELL K-CELL DUP C@ C, 0 C, COUNT HERE SWAP DUP ALLOT MOVE ALIGN R> LATEST ! ;
abbrev pub kernel_header_body : Nodes
kernel_header_body = items (Plain Align ∷ Plain Here ∷ Plain ToR ∷ Literal latest_cell ∷ Plain Fetch ∷ Call kernel_cell_place ∷
    Call kernel_cell_place ∷ Plain Dup ∷ Plain CFetch ∷ Plain CComma ∷ Literal 0 ∷ Plain CComma ∷ Plain Count ∷ Plain Here ∷ Plain Swap ∷ Plain Dup ∷
    Plain Allot ∷ Plain Move ∷ Plain Align ∷ Plain RFrom ∷ Literal latest_cell ∷ Plain Store ∷ [])

-- a program that has these definitions at their places
pub record IsKernel (p : SourceProgram) : Type 0 where
  pub reached : body_of p reached_place ≡ reached_body
  pub rest : body_of p rest_place ≡ rest_body
  pub skip : body_of p skip_place ≡ skip_body
  pub scan : body_of p scan_place ≡ scan_body
  pub advance : body_of p advance_place ≡ advance_body
  pub take : body_of p take_place ≡ take_body
  pub word_from : body_of p word_from_place ≡ word_from_body
  pub keep_word : body_of p keep_word_place ≡ keep_word_body
  pub kernel_word : body_of p kernel_word_place ≡ kernel_word_body
  pub next_word : body_of p next_word_place ≡ next_word_body
  pub parse : body_of p parse_place ≡ parse_body
  pub upper : body_of p upper_place ≡ upper_body
  pub same_byte : body_of p same_byte_place ≡ same_byte_body
  pub same : body_of p same_place ≡ same_body
  pub named : body_of p named_place ≡ named_body
  pub code_and_flag : body_of p code_and_flag_place ≡ code_and_flag_body
  pub kernel_find : body_of p kernel_find_place ≡ kernel_find_body
  pub digit : body_of p digit_place ≡ digit_body
  pub grow : body_of p grow_place ≡ grow_body
  pub take_digit : body_of p take_digit_place ≡ take_digit_body
  pub digits : body_of p digits_place ≡ digits_body
  pub minus_sign : body_of p minus_sign_place ≡ minus_sign_body
  pub signed : body_of p signed_place ≡ signed_body
  pub kernel_number : body_of p kernel_number_place ≡ kernel_number_body
  pub kernel_cell : body_of p kernel_cell_place ≡ kernel_cell_body
  pub kernel_header : body_of p kernel_header_place ≡ kernel_header_body
