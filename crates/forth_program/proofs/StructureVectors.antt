-- `?DO`, `AGAIN` and `CASE`: rows worked out by hand from the Core extension of ANS Forth and the table of prices.
use Rattle.std.specs.Prelude.{◌≡◌, [], ◌∷◌, refl, None, Some, true, false, codes}
use Rattle.word_table.specs.declared.word.Word.TheVariants.{Dup, DropTop, Emit, Equal, Index, OuterIndex, Key, Plus, Swap, AbortRun, Quit}
use Rattle.forth_program.specs.declared.item.TextKind.TheVariants as text
use Rattle.forth_program.specs.Tree.{Literal, Plain, Call, Text, If, Again, Do, QDo, Case, Leave, Exit, Empty, NoArm, Arm}
use Rattle.forth_program.specs.State.{Halted, InputEnded, Underflow}
use Rattle.forth_program.specs.Program.{SourceProgram}
use Rattle.forth_program.specs.Step.{step}
use Rattle.forth_program.specs.Run.{steps, source_run}
use Rattle.forth_program.specs.Price.{spent, price}
use Rattle.forth_program.proofs.Rows.{failing, gives, stops, body, program, main, with_data, ran}

-- : MAIN 0 0 ?DO 65 EMIT LOOP 3 0 ?DO 66 EMIT LOOP ;
abbrev none_and_three : SourceProgram
none_and_three = main (Literal 0 ∷ Literal 0 ∷ QDo (body (Literal 65 ∷ Plain Emit ∷ [])) false ∷ Literal 3 ∷ Literal 0 ∷ QDo (body (Literal 66 ∷ Plain Emit ∷ [])) false ∷ [])

-- : MAIN 5 0 ?DO I 48 + EMIT 2 +LOOP ;
abbrev by_twos : SourceProgram
by_twos = main (Literal 5 ∷ Literal 0 ∷ QDo (body (Plain Index ∷ Literal 48 ∷ Plain Plus ∷ Plain Emit ∷ Literal 2 ∷ [])) true ∷ [])

-- : MAIN 7 7 ?DO 65 EMIT 1 +LOOP 66 EMIT ;
abbrev none_by_ones : SourceProgram
none_by_ones = main (Literal 7 ∷ Literal 7 ∷ QDo (body (Literal 65 ∷ Plain Emit ∷ Literal 1 ∷ [])) true ∷ Literal 66 ∷ Plain Emit ∷ [])

-- : MAIN 9 0 ?DO I 2 = IF LEAVE THEN 65 EMIT LOOP ;
abbrev leaves : SourceProgram
leaves = main (Literal 9 ∷ Literal 0 ∷ QDo (body (Plain Index ∷ Literal 2 ∷ Plain Equal ∷ If (body (Leave ∷ [])) Empty ∷ Literal 65 ∷ Plain Emit ∷ [])) false ∷ [])

-- : MAIN 2 0 DO 1 0 ?DO J 48 + EMIT LOOP LOOP ;
abbrev inner : SourceProgram
inner = main (Literal 2 ∷ Literal 0 ∷ Do (body (Literal 1 ∷ Literal 0 ∷ QDo (body (Plain OuterIndex ∷ Literal 48 ∷ Plain Plus ∷ Plain Emit ∷ [])) false ∷ [])) false ∷ [])

-- : MAIN 1 ?DO LOOP ;
abbrev no_limit : SourceProgram
no_limit = main (Literal 1 ∷ QDo Empty false ∷ [])

-- : MAIN BEGIN KEY EMIT AGAIN ;
abbrev echoes : SourceProgram
echoes = main (Again (body (Plain Key ∷ Plain Emit ∷ [])) ∷ [])

-- : F BEGIN KEY DUP 48 = IF DROP EXIT THEN EMIT AGAIN ; : MAIN F 33 EMIT ;
abbrev echoes_up_to_0 : SourceProgram
echoes_up_to_0 =
    program
    (body (Again (body (Plain Key ∷ Plain Dup ∷ Literal 48 ∷ Plain Equal ∷ If (body (Plain DropTop ∷ Exit ∷ [])) Empty ∷ Plain Emit ∷ [])) ∷ [])
    ∷ body (Call 0 ∷ Literal 33 ∷ Plain Emit ∷ []) ∷ []) 1 [] (with_data 128 [])

-- : MAIN BEGIN AGAIN ;
abbrev for_ever : SourceProgram
for_ever = main (Again Empty ∷ [])

-- : K CASE 1 OF 65 ENDOF 2 OF 66 ENDOF 67 SWAP ENDCASE EMIT ; : MAIN 1 K 2 K 9 K ;
abbrev letters : SourceProgram
letters =
    program
    (body
    (Case (Arm (body (Literal 1 ∷ [])) (body (Literal 65 ∷ [])) (Arm (body (Literal 2 ∷ [])) (body (Literal 66 ∷ [])) NoArm))
    (body (Literal 67 ∷ Plain Swap ∷ [])) ∷ Plain Emit ∷ []) ∷ body (Literal 1 ∷ Call 0 ∷ Literal 2 ∷ Call 0 ∷ Literal 9 ∷ Call 0 ∷ []) ∷ []) 1 []
    (with_data 128 [])

-- : MAIN 5 CASE DUP OF 65 EMIT ENDOF ENDCASE 66 EMIT ;
abbrev equals_itself : SourceProgram
equals_itself = main (Literal 5 ∷ Case (Arm (body (Plain Dup ∷ [])) (body (Literal 65 ∷ Plain Emit ∷ [])) NoArm) Empty ∷ Literal 66 ∷ Plain Emit ∷ [])

-- : MAIN CASE 1 OF ENDOF ENDCASE ;
abbrev nothing_to_compare : SourceProgram
nothing_to_compare = main (Case (Arm (body (Literal 1 ∷ [])) Empty NoArm) Empty ∷ [])

-- : MAIN CASE ENDCASE ;
abbrev nothing_to_drop : SourceProgram
nothing_to_drop = main (Case NoArm Empty ∷ [])

runs : failing (
    ran none_and_three [] 3 None [] [] [] 24 ∷
    ran none_and_three [] 8 None (codes "B") [] [] 45 ∷
    ran none_and_three [] 15 None (codes "BBB") [] [] 91 ∷
    ran none_and_three [] 16 (Some (Halted 0)) (codes "BBB") [] [] 92 ∷
    ran by_twos [] 21 None (codes "024") [] [] 135 ∷
    ran by_twos [] 22 (Some (Halted 0)) (codes "024") [] [] 136 ∷
    ran none_by_ones [] 6 (Some (Halted 0)) (codes "B") [] [] 30 ∷
    ran leaves [] 22 None (codes "AA") [] [] 90 ∷
    ran leaves [] 23 (Some (Halted 0)) (codes "AA") [] [] 91 ∷
    ran inner [] 20 None (codes "01") [] [] 124 ∷
    ran inner [] 22 (Some (Halted 0)) (codes "01") [] [] 137 ∷
    ran no_limit [] 2 (Some Underflow) [] [] [] 22 ∷
    ran echoes (codes "ab") 5 None (codes "ab") [] [] 19 ∷
    ran echoes (codes "ab") 7 (Some InputEnded) (codes "ab") [] [] 22 ∷
    ran echoes_up_to_0 (codes "xy0z") 25 (Some (Halted 0)) (codes "xy!") (codes "z") [] 46 ∷
    ran for_ever [] 100 None [] [] [] 108 ∷
    ran letters [] 8 None (codes "A") [] [] 24 ∷
    ran letters [] 29 None (codes "ABC") [] [] 69 ∷
    ran letters [] 30 (Some (Halted 0)) (codes "ABC") [] [] 70 ∷
    ran equals_itself [] 9 (Some (Halted 0)) (codes "AB") [] [] 27 ∷
    ran nothing_to_compare [] 2 (Some Underflow) [] [] [] 14 ∷
    ran nothing_to_drop [] 1 (Some Underflow) [] [] [] 9 ∷ []) ≡ []
unfolding source_run price spent steps step
runs = refl

-- an empty text, and the two words that end a run, whatever the stack has
single_steps : failing (
    gives (Text text.Address 8192 0) [] (0 ∷ 8192 ∷ []) 2 ∷
    stops (Plain AbortRun) [] (7 ∷ []) (Halted 1) 3 ∷
    stops (Plain Quit) [] (7 ∷ []) (Halted 3) 3 ∷ []) ≡ []
unfolding step
single_steps = refl
