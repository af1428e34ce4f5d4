-- Small programs: rows made by an independent evaluator.
use Rattle.std.specs.Prelude.{◌≡◌, [], ◌∷◌, refl, None, Some, true, false, codes}
use Rattle.word_table.specs.declared.word.Word.TheVariants.{Accept, Align, Allot, CComma, CStore, Cells, Comma, Cr, Dot, DropTop, Dup, Emit, Equal, Execute}
use Rattle.word_table.specs.declared.word.Word.TheVariants.{Fetch, Fill, Here, Hold, Index, Key, LessSharp, Move, OneMinus, OnePlus, OuterIndex, Plus, QDup}
use Rattle.word_table.specs.declared.word.Word.TheVariants.{RFetch, RFrom, Rot, SMSlashRem, SToD, Sharp, SharpGreater, SharpS, SlashMod, Store, Swap, ToNumber}
use Rattle.word_table.specs.declared.word.Word.TheVariants.{ToR, TypeOut, UDot, Unloop}
use Rattle.forth_program.specs.declared.item.TextKind.TheVariants as text
use Rattle.forth_program.specs.Tree.{Literal, Plain, Call, Child, Text, If, Until, While, Do, Leave, Exit, Empty}
use Rattle.forth_program.specs.State.{Halted, InputEnded, Outside, Underflow, Unbalanced}
use Rattle.forth_program.specs.Program.{SourceProgram}
use Rattle.forth_program.specs.Step.{step}
use Rattle.forth_program.specs.Run.{steps, source_run}
use Rattle.forth_program.specs.Price.{spent, price}
use Rattle.forth_program.proofs.Rows.{failing, body, program, main, with_data, ran}

-- : MAIN 72 EMIT 105 EMIT ;
abbrev greeting : SourceProgram
greeting = main (Literal 72 ∷ Plain Emit ∷ Literal 105 ∷ Plain Emit ∷ [])

-- : MAIN 2 0 DO 2 0 DO J 48 + EMIT I 48 + EMIT LOOP LOOP ;
abbrev nested_do : SourceProgram
nested_do = main (Literal 2 ∷ Literal 0 ∷ Do (body (Literal 2 ∷ Literal 0 ∷ Do (body (Plain OuterIndex ∷ Literal 48 ∷ Plain Plus ∷ Plain Emit ∷ Plain Index ∷ Literal 48 ∷ Plain Plus ∷ Plain Emit ∷ [])) false ∷ [])) false ∷ [])

-- : MAIN 0 10 DO I . -5 +LOOP ;
abbrev down_by : SourceProgram
down_by = main (Literal 0 ∷ Literal 10 ∷ Do (body (Plain Index ∷ Plain Dot ∷ Literal 65531 ∷ [])) true ∷ [])

-- : MAIN 10 0 DO I DUP 3 = IF DROP LEAVE THEN . LOOP 99 . ;
abbrev leave : SourceProgram
leave = main (Literal 10 ∷ Literal 0 ∷ Do (body (Plain Index ∷ Plain Dup ∷ Literal 3 ∷ Plain Equal ∷ If (body (Plain DropTop ∷ Leave ∷ [])) Empty ∷ Plain Dot ∷ [])) false ∷ Literal 99 ∷ Plain Dot ∷ [])

-- : MAIN 5 0 DO BEGIN I 2 = IF LEAVE THEN 1 UNTIL I . LOOP ;
abbrev leave_deep : SourceProgram
leave_deep = main (Literal 5 ∷ Literal 0 ∷ Do (body (Until (body (Plain Index ∷ Literal 2 ∷ Plain Equal ∷ If (body (Leave ∷ [])) Empty ∷ Literal 1 ∷ [])) ∷ Plain Index ∷ Plain Dot ∷ [])) false ∷ [])

-- : F 10 0 DO I 4 = IF UNLOOP EXIT THEN I . LOOP 77 . ; : MAIN F 8 . ;
abbrev unloop_exit : SourceProgram
unloop_exit =
    program
    ((body
    (Literal 10 ∷ Literal 0
    ∷ Do (body (Plain Index ∷ Literal 4 ∷ Plain Equal ∷ If (body (Plain Unloop ∷ Exit ∷ [])) Empty ∷ Plain Index ∷ Plain Dot ∷ [])) false ∷ Literal 77
    ∷ Plain Dot ∷ [])) ∷ (body (Call 0 ∷ Literal 8 ∷ Plain Dot ∷ [])) ∷ []) 1 [] (with_data 128 [])

-- : MAIN 3 BEGIN ?DUP WHILE DUP . 1- REPEAT ;
abbrev while : SourceProgram
while = main (Literal 3 ∷ While (body (Plain QDup ∷ [])) (body (Plain Dup ∷ Plain Dot ∷ Plain OneMinus ∷ [])) ∷ [])

-- : MAIN BEGIN BEGIN KEY DUP EMIT UNTIL 1 UNTIL ;
abbrev until_nested : SourceProgram
until_nested = main (Until (body (Until (body (Plain Key ∷ Plain Dup ∷ Plain Emit ∷ [])) ∷ Literal 1 ∷ [])) ∷ [])

-- : T IF 65 EMIT ELSE 66 EMIT THEN 67 EMIT ; : MAIN 1 T 0 T -1 T ;
abbrev if_else : SourceProgram
if_else =
    program
    ((body (If (body (Literal 65 ∷ Plain Emit ∷ [])) (body (Literal 66 ∷ Plain Emit ∷ [])) ∷ Literal 67 ∷ Plain Emit ∷ []))
    ∷ (body (Literal 1 ∷ Call 0 ∷ Literal 0 ∷ Call 0 ∷ Literal 65535 ∷ Call 0 ∷ [])) ∷ []) 1 [] (with_data 128 [])

-- : F DUP IF DUP . 1- RECURSE THEN ; : MAIN 3 F DROP ;
abbrev recurse : SourceProgram
recurse = program ((body (Plain Dup ∷ If (body (Plain Dup ∷ Plain Dot ∷ Plain OneMinus ∷ Call 0 ∷ [])) Empty ∷ [])) ∷ (body (Literal 3 ∷ Call 0 ∷ Plain DropTop ∷ [])) ∷ []) 1 [] (with_data 128 [])

-- : MAIN 65 EMIT 1 0 ! 66 EMIT ;
abbrev outside : SourceProgram
outside = main (Literal 65 ∷ Plain Emit ∷ Literal 1 ∷ Literal 0 ∷ Plain Store ∷ Literal 66 ∷ Plain Emit ∷ [])

-- : MAIN KEY EMIT KEY EMIT ;
abbrev key_end : SourceProgram
key_end = main (Plain Key ∷ Plain Emit ∷ Plain Key ∷ Plain Emit ∷ [])

-- : MAIN S" ab" TYPE ." cd" CR ;
abbrev two_texts : SourceProgram
two_texts = program ((body (Text text.Address 8320 2 ∷ Plain TypeOut ∷ Text text.Print 8322 2 ∷ Plain Cr ∷ [])) ∷ []) 0 [] (with_data 132 (codes "abcd"))

-- : F ABORT" no" ; : MAIN 0 F 65 EMIT 7 F 66 EMIT ;
abbrev abort_quote : SourceProgram
abort_quote = program ((body (Text text.Abort 8320 2 ∷ [])) ∷ (body (Literal 0 ∷ Call 0 ∷ Literal 65 ∷ Plain Emit ∷ Literal 7 ∷ Call 0 ∷ Literal 66 ∷ Plain Emit ∷ [])) ∷ []) 1 [] (with_data 130 (codes "no"))

-- : A 65 EMIT ; ' A CONSTANT TA : MAIN TA EXECUTE 0 EXECUTE ;
abbrev execute : SourceProgram
execute = program ((body (Literal 65 ∷ Plain Emit ∷ [])) ∷ (body (Literal 1 ∷ Plain Execute ∷ Literal 0 ∷ Plain Execute ∷ [])) ∷ []) 1 (Call 0 ∷ []) (with_data 128 [])

-- ' DUP CONSTANT T ' + CONSTANT U : MAIN 4 T EXECUTE U EXECUTE . ['] HERE EXECUTE U. ;
abbrev execute_table : SourceProgram
execute_table = program ((body (Literal 4 ∷ Literal 1 ∷ Plain Execute ∷ Literal 2 ∷ Plain Execute ∷ Plain Dot ∷ Literal 3 ∷ Plain Execute ∷ Plain UDot ∷ [])) ∷ []) 0 (Plain Dup ∷ Plain Plus ∷ Plain Here ∷ []) (with_data 128 [])

-- 5 CONSTANT K ' K CONSTANT T CREATE B ' B CONSTANT V : MAIN T EXECUTE . V EXECUTE U. ;
abbrev execute_value : SourceProgram
execute_value = program ((body (Literal 1 ∷ Plain Execute ∷ Plain Dot ∷ Literal 2 ∷ Plain Execute ∷ Plain UDot ∷ [])) ∷ []) 0 (Literal 5 ∷ Literal 8320 ∷ []) (with_data 128 [])

-- : ARR CREATE 2* ALLOT DOES> SWAP CELLS + ; 4 ARR X : MAIN 7 2 X ! 2 X @ . 1 X @ . ;
abbrev child : SourceProgram
child =
    program
    ((body (Plain Swap ∷ Plain Cells ∷ Plain Plus ∷ []))
    ∷ (body
    (Literal 7 ∷ Literal 2 ∷ Child 0 8320 ∷ Plain Store ∷ Literal 2 ∷ Child 0 8320 ∷ Plain Fetch ∷ Plain Dot ∷ Literal 1 ∷ Child 0 8320 ∷ Plain Fetch
    ∷ Plain Dot ∷ [])) ∷ []) 1 [] (with_data 136 [])

-- : K CREATE , DOES> @ ; 9 K NINE ' NINE CONSTANT T : MAIN T EXECUTE . NINE . ;
abbrev child_token : SourceProgram
child_token = program ((body (Plain Fetch ∷ [])) ∷ (body (Literal 1 ∷ Plain Execute ∷ Plain Dot ∷ Child 0 8320 ∷ Plain Dot ∷ [])) ∷ []) 1 (Child 0 8320 ∷ []) (with_data 130 (9 ∷ 0 ∷ []))

-- : MAIN 12345 0 <# # # [CHAR] . HOLD #S #> TYPE ;
abbrev pictured : SourceProgram
pictured = main (Literal 12345 ∷ Literal 0 ∷ Plain LessSharp ∷ Plain Sharp ∷ Plain Sharp ∷ Literal 46 ∷ Plain Hold ∷ Plain SharpS ∷ Plain SharpGreater ∷ Plain TypeOut ∷ [])

-- : MAIN -7 2 /MOD . . -7 S>D 2 SM/REM . . ;
abbrev quotients : SourceProgram
quotients = main (Literal 65529 ∷ Literal 2 ∷ Plain SlashMod ∷ Plain Dot ∷ Plain Dot ∷ Literal 65529 ∷ Plain SToD ∷ Literal 2 ∷ Plain SMSlashRem ∷ Plain Dot ∷ Plain Dot ∷ [])

-- VARIABLE B 20 ALLOT : MAIN B 4 ACCEPT B SWAP TYPE ;
abbrev echoes_line : SourceProgram
echoes_line = program ((body (Literal 8320 ∷ Literal 4 ∷ Plain Accept ∷ Literal 8320 ∷ Plain Swap ∷ Plain TypeOut ∷ [])) ∷ []) 0 [] (with_data 150 [])

-- VARIABLE B 20 ALLOT : MAIN B 4 ACCEPT 0 0 ROT B SWAP >NUMBER . . . . ;
abbrev reads_number : SourceProgram
reads_number = program ((body (Literal 8320 ∷ Literal 4 ∷ Plain Accept ∷ Literal 0 ∷ Literal 0 ∷ Plain Rot ∷ Literal 8320 ∷ Plain Swap ∷ Plain ToNumber ∷ Plain Dot ∷ Plain Dot ∷ Plain Dot ∷ Plain Dot ∷ [])) ∷ []) 0 [] (with_data 150 [])

-- VARIABLE B 20 ALLOT : MAIN B 6 65 FILL 66 B C! B B 1+ 4 MOVE B 6 TYPE B 1+ B 3 MOVE B 6 TYPE ;
abbrev fill_move : SourceProgram
fill_move =
    program
    ((body
    (Literal 8320 ∷ Literal 6 ∷ Literal 65 ∷ Plain Fill ∷ Literal 66 ∷ Literal 8320 ∷ Plain CStore ∷ Literal 8320 ∷ Literal 8320 ∷ Plain OnePlus ∷ Literal 4
    ∷ Plain Move ∷ Literal 8320 ∷ Literal 6 ∷ Plain TypeOut ∷ Literal 8320 ∷ Plain OnePlus ∷ Literal 8320 ∷ Literal 3 ∷ Plain Move ∷ Literal 8320
    ∷ Literal 6 ∷ Plain TypeOut ∷ [])) ∷ []) 0 [] (with_data 150 [])

-- : MAIN 5 >R R@ . R> . 6 >R 3 0 DO I . LOOP R> . ;
abbrev returns : SourceProgram
returns = main (Literal 5 ∷ Plain ToR ∷ Plain RFetch ∷ Plain Dot ∷ Plain RFrom ∷ Plain Dot ∷ Literal 6 ∷ Plain ToR ∷ Literal 3 ∷ Literal 0 ∷ Do (body (Plain Index ∷ Plain Dot ∷ [])) false ∷ Plain RFrom ∷ Plain Dot ∷ [])

-- : F 1 >R ; : MAIN F ;
abbrev unbalanced_end : SourceProgram
unbalanced_end = program ((body (Literal 1 ∷ Plain ToR ∷ [])) ∷ (body (Call 0 ∷ [])) ∷ []) 1 [] (with_data 128 [])

-- : F 3 0 DO EXIT LOOP ; : MAIN F ;
abbrev unbalanced_exit : SourceProgram
unbalanced_exit = program ((body (Literal 3 ∷ Literal 0 ∷ Do (body (Exit ∷ [])) false ∷ [])) ∷ (body (Call 0 ∷ [])) ∷ []) 1 [] (with_data 128 [])

-- : F I ; : MAIN 3 0 DO F LOOP ;
abbrev unbalanced_i : SourceProgram
unbalanced_i = program ((body (Plain Index ∷ [])) ∷ (body (Literal 3 ∷ Literal 0 ∷ Do (body (Call 0 ∷ [])) false ∷ [])) ∷ []) 1 [] (with_data 128 [])

-- : MAIN 3 0 DO 1 >R LEAVE LOOP ;
abbrev unbalanced_leave : SourceProgram
unbalanced_leave = main (Literal 3 ∷ Literal 0 ∷ Do (body (Literal 1 ∷ Plain ToR ∷ Leave ∷ [])) false ∷ [])

-- : MAIN 3 0 DO 1 >R LOOP ;
abbrev unbalanced_loop : SourceProgram
unbalanced_loop = main (Literal 3 ∷ Literal 0 ∷ Do (body (Literal 1 ∷ Plain ToR ∷ [])) false ∷ [])

-- : MAIN 3 0 DO +LOOP ;
abbrev plus_loop_underflow : SourceProgram
plus_loop_underflow = main (Literal 3 ∷ Literal 0 ∷ Do Empty true ∷ [])

-- : MAIN 3 65534 DO I . LOOP ;
abbrev loop_wrap : SourceProgram
loop_wrap = main (Literal 3 ∷ Literal 65534 ∷ Do (body (Plain Index ∷ Plain Dot ∷ [])) false ∷ [])

-- : MAIN -3 3 DO I . -2 +LOOP ;
abbrev plus_loop_neg : SourceProgram
plus_loop_neg = main (Literal 65533 ∷ Literal 3 ∷ Do (body (Plain Index ∷ Plain Dot ∷ Literal 65534 ∷ [])) true ∷ [])

-- : MAIN HERE U. 5 , 6 C, HERE U. ALIGN HERE U. -4 ALLOT HERE U. ;
abbrev here_words : SourceProgram
here_words = main (Plain Here ∷ Plain UDot ∷ Literal 5 ∷ Plain Comma ∷ Literal 6 ∷ Plain CComma ∷ Plain Here ∷ Plain UDot ∷ Plain Align ∷ Plain Here ∷ Plain UDot ∷ Literal 65532 ∷ Plain Allot ∷ Plain Here ∷ Plain UDot ∷ [])

-- : A 65 EMIT ; : F IF A EXIT THEN 66 EMIT A ; : MAIN 1 F 0 F ;
abbrev exit_tail : SourceProgram
exit_tail = program ((body (Literal 65 ∷ Plain Emit ∷ [])) ∷ (body (If (body (Call 0 ∷ Exit ∷ [])) Empty ∷ Literal 66 ∷ Plain Emit ∷ Call 0 ∷ [])) ∷ (body (Literal 1 ∷ Call 1 ∷ Literal 0 ∷ Call 1 ∷ [])) ∷ []) 2 [] (with_data 128 [])

-- : LOOPY 65 EMIT RECURSE ; : MAIN LOOPY ;
abbrev steps_used : SourceProgram
steps_used = program ((body (Literal 65 ∷ Plain Emit ∷ Call 0 ∷ [])) ∷ (body (Call 0 ∷ [])) ∷ []) 1 [] (with_data 128 [])

-- : MAIN 0 40 0 DO I + LOOP . ;
abbrev sum_loop : SourceProgram
sum_loop = main (Literal 0 ∷ Literal 40 ∷ Literal 0 ∷ Do (body (Plain Index ∷ Plain Plus ∷ [])) false ∷ Plain Dot ∷ [])

runs : failing (
    ran greeting [] 4 None (codes "Hi") [] [] 18 ∷
    ran greeting [] 5 (Some (Halted 0)) (codes "Hi") [] [] 19 ∷
    ran nested_do [] 24 None (codes "0001") [] [] 114 ∷
    ran nested_do [] 48 (Some (Halted 0)) (codes "00011011") [] [] 233 ∷
    ran down_by [] 15 None (codes "10 5 0 ") [] ((2, 95) ∷ (94, 49) ∷ (95, 48) ∷ []) 360113 ∷
    ran down_by [] 16 (Some (Halted 0)) (codes "10 5 0 ") [] ((2, 95) ∷ (94, 49) ∷ (95, 48) ∷ []) 360114 ∷
    ran leave [] 17 None (codes "0 1 ") [] ((2, 95) ∷ (95, 49) ∷ []) 240064 ∷
    ran leave [] 34 (Some (Halted 0)) (codes "0 1 2 99 ") [] ((2, 94) ∷ (94, 57) ∷ (95, 57) ∷ []) 480105 ∷
    ran leave_deep [] 13 None (codes "0 ") [] ((2, 95) ∷ (95, 48) ∷ []) 120054 ∷
    ran leave_deep [] 27 (Some (Halted 0)) (codes "0 1 ") [] ((2, 95) ∷ (95, 49) ∷ []) 240093 ∷
    ran unloop_exit [] 20 None (codes "0 1 ") [] ((2, 95) ∷ (95, 49) ∷ []) 240080 ∷
    ran unloop_exit [] 41 (Some (Halted 0)) (codes "0 1 2 3 8 ") [] ((2, 95) ∷ (95, 56) ∷ []) 600142 ∷
    ran while [] 11 None (codes "3 2 ") [] ((2, 95) ∷ (95, 50) ∷ []) 240040 ∷
    ran while [] 22 (Some (Halted 0)) (codes "3 2 1 ") [] ((2, 95) ∷ (95, 49) ∷ []) 360072 ∷
    ran until_nested (0 ∷ 7 ∷ []) 10 None (0 ∷ 7 ∷ []) [] [] 25 ∷
    ran until_nested (0 ∷ 7 ∷ []) 11 (Some (Halted 0)) (0 ∷ 7 ∷ []) [] [] 26 ∷
    ran if_else [] 13 None (codes "AC") [] [] 30 ∷
    ran if_else [] 27 (Some (Halted 0)) (codes "ACBCAC") [] [] 56 ∷
    ran recurse [] 14 None (codes "3 2 ") [] ((2, 95) ∷ (95, 50) ∷ []) 240021 ∷
    ran recurse [] 28 (Some (Halted 0)) (codes "3 2 1 ") [] ((2, 95) ∷ (95, 49) ∷ []) 360034 ∷
    ran outside [] 4 None (codes "A") [] [] 17 ∷
    ran outside [] 5 (Some (Outside 0)) (codes "A") [] [] 19 ∷
    ran key_end (codes "x") 2 None (codes "x") [] [] 13 ∷
    ran key_end (codes "x") 3 (Some InputEnded) (codes "x") [] [] 15 ∷
    ran two_texts [] 4 None (97 ∷ 98 ∷ 99 ∷ 100 ∷ 10 ∷ []) [] [] 416 ∷
    ran two_texts [] 5 (Some (Halted 0)) (97 ∷ 98 ∷ 99 ∷ 100 ∷ 10 ∷ []) [] [] 417 ∷
    ran abort_quote [] 8 None (codes "A") [] [] 60 ∷
    ran abort_quote [] 9 (Some (Halted 2)) (codes "Ano") [] [] 260 ∷
    ran execute [] 7 None (codes "A") [] [] 49 ∷
    ran execute [] 8 (Some (Halted 13)) (codes "A") [] [] 79 ∷
    ran execute_table [] 12 None (codes "8 8320 ") [] ((2, 92) ∷ (92, 56) ∷ (93, 51) ∷ (94, 50) ∷ (95, 48) ∷ []) 240110 ∷
    ran execute_table [] 13 (Some (Halted 0)) (codes "8 8320 ") [] ((2, 92) ∷ (92, 56) ∷ (93, 51) ∷ (94, 50) ∷ (95, 48) ∷ []) 240111 ∷
    ran execute_value [] 8 None (codes "5 8320 ") [] ((2, 92) ∷ (92, 56) ∷ (93, 51) ∷ (94, 50) ∷ (95, 48) ∷ []) 240076 ∷
    ran execute_value [] 9 (Some (Halted 0)) (codes "5 8320 ") [] ((2, 92) ∷ (92, 56) ∷ (93, 51) ∷ (94, 50) ∷ (95, 48) ∷ []) 240077 ∷
    ran child [] 12 None [] [] ((132, 7) ∷ []) 28 ∷
    ran child [] 25 (Some (Halted 0)) (codes "7 0 ") [] ((2, 95) ∷ (95, 48) ∷ (132, 7) ∷ []) 240042 ∷
    ran child_token [] 10 None (codes "9 9 ") [] ((2, 95) ∷ (95, 57) ∷ []) 240048 ∷
    ran child_token [] 11 (Some (Halted 0)) (codes "9 9 ") [] ((2, 95) ∷ (95, 57) ∷ []) 240049 ∷
    ran pictured [] 10 None (codes "123.45") [] ((2, 90) ∷ (90, 49) ∷ (91, 50) ∷ (92, 51) ∷ (93, 46) ∷ (94, 52) ∷ (95, 53) ∷ []) 212714 ∷
    ran pictured [] 11 (Some (Halted 0)) (codes "123.45") [] ((2, 90) ∷ (90, 49) ∷ (91, 50) ∷ (92, 51) ∷ (93, 46) ∷ (94, 52) ∷ (95, 53) ∷ []) 212715 ∷
    ran quotients [] 11 None (codes "-4 1 -3 -1 ") [] ((2, 94) ∷ (94, 45) ∷ (95, 49) ∷ []) 486619 ∷
    ran quotients [] 12 (Some (Halted 0)) (codes "-4 1 -3 -1 ") [] ((2, 94) ∷ (94, 45) ∷ (95, 49) ∷ []) 486620 ∷
    ran echoes_line (codes "abcde") 6 None (codes "abcd") (codes "e") ((128, 97) ∷ (129, 98) ∷ (130, 99) ∷ (131, 100) ∷ []) 955 ∷
    ran echoes_line (codes "abcde") 7 (Some (Halted 0)) (codes "abcd") (codes "e") ((128, 97) ∷ (129, 98) ∷ (130, 99) ∷ (131, 100) ∷ []) 956 ∷
    ran reads_number (codes "12x4") 13 None (codes "2 8322 0 12 ") [] ((2, 94) ∷ (92, 56) ∷ (93, 51) ∷ (94, 49) ∷ (95, 50) ∷ (128, 49) ∷ (129, 50) ∷ (130, 120) ∷ (131, 52) ∷ []) 490303 ∷
    ran reads_number (codes "12x4") 14 (Some (Halted 0)) (codes "2 8322 0 12 ") [] ((2, 94) ∷ (92, 56) ∷ (93, 51) ∷ (94, 49) ∷ (95, 50) ∷ (128, 49) ∷ (129, 50) ∷ (130, 120) ∷ (131, 52) ∷ []) 490304 ∷
    ran fill_move [] 12 None [] [] ((128, 66) ∷ (129, 66) ∷ (130, 65) ∷ (131, 65) ∷ (132, 65) ∷ (133, 65) ∷ []) 1554 ∷
    ran fill_move [] 24 (Some (Halted 0)) (codes "BBAAAABAAAAA") [] ((128, 66) ∷ (129, 65) ∷ (130, 65) ∷ (131, 65) ∷ (132, 65) ∷ (133, 65) ∷ []) 3171 ∷
    ran returns [] 11 None (codes "5 5 ") [] ((2, 95) ∷ (95, 53) ∷ []) 240028 ∷
    ran returns [] 23 (Some (Halted 0)) (codes "5 5 0 1 2 6 ") [] ((2, 95) ∷ (95, 54) ∷ []) 720081 ∷
    ran unbalanced_end [] 3 None [] [] [] 12 ∷
    ran unbalanced_end [] 4 (Some Unbalanced) [] [] [] 13 ∷
    ran unbalanced_exit [] 4 None [] [] [] 21 ∷
    ran unbalanced_exit [] 5 (Some Unbalanced) [] [] [] 22 ∷
    ran unbalanced_i [] 4 None [] [] [] 21 ∷
    ran unbalanced_i [] 5 (Some Unbalanced) [] [] [] 26 ∷
    ran unbalanced_leave [] 5 None [] [] [] 23 ∷
    ran unbalanced_leave [] 6 (Some Unbalanced) [] [] [] 28 ∷
    ran unbalanced_loop [] 5 None [] [] [] 23 ∷
    ran unbalanced_loop [] 6 (Some Unbalanced) [] [] [] 35 ∷
    ran plus_loop_underflow [] 3 None [] [] [] 20 ∷
    ran plus_loop_underflow [] 4 (Some Underflow) [] [] [] 44 ∷
    ran loop_wrap [] 18 None (codes "-2 -1 0 1 2 ") [] ((2, 95) ∷ (94, 45) ∷ (95, 50) ∷ []) 600105 ∷
    ran loop_wrap [] 19 (Some (Halted 0)) (codes "-2 -1 0 1 2 ") [] ((2, 95) ∷ (94, 45) ∷ (95, 50) ∷ []) 600106 ∷
    ran plus_loop_neg [] 19 None (codes "3 1 -1 -3 ") [] ((2, 94) ∷ (94, 45) ∷ (95, 51) ∷ []) 480144 ∷
    ran plus_loop_neg [] 20 (Some (Halted 0)) (codes "3 1 -1 -3 ") [] ((2, 94) ∷ (94, 45) ∷ (95, 51) ∷ []) 480145 ∷
    ran here_words [] 15 None (codes "8320 8323 8324 8320 ") [] ((2, 92) ∷ (92, 56) ∷ (93, 51) ∷ (94, 50) ∷ (95, 48) ∷ (128, 5) ∷ (130, 6) ∷ []) 480238 ∷
    ran here_words [] 16 (Some (Halted 0)) (codes "8320 8323 8324 8320 ") [] ((2, 92) ∷ (92, 56) ∷ (93, 51) ∷ (94, 50) ∷ (95, 48) ∷ (128, 5) ∷ (130, 6) ∷ []) 480239 ∷
    ran exit_tail [] 18 None (codes "ABA") [] [] 37 ∷
    ran exit_tail [] 19 (Some (Halted 0)) (codes "ABA") [] [] 38 ∷
    ran steps_used [] 60 None (codes "AAAAAAAAAAAAAAAAAAAA") [] [] 128 ∷
    ran sum_loop [] 63 None [] [] [] 370 ∷
    ran sum_loop [] 126 (Some (Halted 0)) (codes "780 ") [] ((2, 93) ∷ (93, 55) ∷ (94, 56) ∷ (95, 48) ∷ []) 120743 ∷ []) ≡ []
unfolding source_run price spent steps step
runs = refl
