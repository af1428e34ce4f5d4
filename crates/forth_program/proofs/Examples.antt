-- Small programs whose runs and prices the checker computes from the definitions.
use Rattle.std.proofs.Common.{◌≡◌, ℕ, ◌+◌, ◌*◌, List, [], ◌∷◌, Option, Some, None, refl, true, false}
use Rattle.std.specs.Prelude.{codes}
use Rattle.word_table.specs.declared.word.Word.TheVariants.{Within, NotEqual, ZeroGreater, Nip, Tuck, Emit, SlashMod, Slash, Dot, Index, OuterIndex, Plus}
use Rattle.word_table.specs.declared.word.Word.TheVariants.{Store, Key, Base, QDup, Dup, OneMinus, ToR, DropTop, LessSharp, Sharp, SharpS, SharpGreater, Hold}
use Rattle.word_table.specs.declared.word.Word.TheVariants.{TypeOut, Execute, Equal, Unloop, Here, CComma, CFetch, Accept, CStore, Fetch, Move, Loop, PlusLoop}
use Rattle.word_table.specs.declared.word.Word.TheVariants.{SQuote, DotQuote, AbortQuote}
use Rattle.forth_program.specs.declared.item.TextKind.TheVariants as text
use Rattle.forth_program.specs.Tree.{Node, Nodes, Literal, Plain, Call, Text, If, While, Do, Leave, Exit, Empty, Then}
use Rattle.forth_program.specs.State.{End, Halted, InputEnded, Outside, Underflow, Unbalanced, Outcome}
use Rattle.forth_program.specs.Program.{SourceProgram, uses_depth}
use Rattle.forth_program.specs.Step.{step}
use Rattle.forth_program.specs.Run.{steps, source_run, end_of, world_of}
use Rattle.word_table.specs.Table.{entry_of}
use Rattle.forth_program.specs.Price.{spent, price, text_price, turn_price}

abbrev items : List Node → Nodes
items [] = Empty
items (node ∷ nodes) = Then node (items nodes)

-- definitions, the last of which is MAIN, with BASE 10, an empty hold buffer and HERE at 8320
abbrev program : List Nodes → ℕ → List Node → SourceProgram
program bodies main tokens = record {
  names = [];
  bodies = bodies;
  main_body = main;
  tokens = tokens;
  data_start = 8192;
  first_space = 10 ∷ 0 ∷ 96 ∷ 32 ∷ 128 ∷ 32 ∷ [];
  source_tokens = 0;
}

abbrev main : List Node → SourceProgram
main nodes = program (items nodes ∷ []) 0 []

-- the end and the prints of a run
abbrev seen : Outcome → Option End × List ℕ
seen o = (end_of o, (world_of o).printed)

-- : MAIN 72 EMIT 105 EMIT ;
abbrev greeting : SourceProgram
greeting = main (Literal 72 ∷ Plain Emit ∷ Literal 105 ∷ Plain Emit ∷ [])

greets : seen (source_run greeting [] 5) ≡ (Some (Halted 0), codes "Hi")
unfolding source_run steps step
greets = refl

greets_for : price greeting [] 5 ≡ 8 + 2 + 3 + 2 + 3 + 1
unfolding price spent step
greets_for = refl

-- one step less brings no end
greets_not_yet : seen (source_run greeting [] 4) ≡ (None, codes "Hi")
unfolding source_run steps step
greets_not_yet = refl

-- -7 2 /MOD . .
floored_parts : seen (source_run (main (Literal 65529 ∷ Literal 2 ∷ Plain SlashMod ∷ Plain Dot ∷ Plain Dot ∷ [])) [] 6) ≡ (Some (Halted 0), codes "-4 1 ")
unfolding source_run steps step
floored_parts = refl

-- 1 0 / .
by_zero : seen (source_run (main (Literal 1 ∷ Literal 0 ∷ Plain Slash ∷ Plain Dot ∷ [])) [] 3) ≡ (Some (Halted 10), [])
unfolding source_run steps step
by_zero = refl

-- 0 10 DO I . -5 +LOOP
counts_down : seen (source_run (main (Literal 0 ∷ Literal 10 ∷ Do (items (Plain Index ∷ Plain Dot ∷ Literal 65531 ∷ [])) true ∷ [])) [] 16) ≡ (Some (Halted 0), codes "10 5 0 ")
unfolding source_run steps step
counts_down = refl

-- 65 EMIT 1 0 ! 66 EMIT
stores_outside : seen (source_run (main (Literal 65 ∷ Plain Emit ∷ Literal 1 ∷ Literal 0 ∷ Plain Store ∷ Literal 66 ∷ Plain Emit ∷ [])) [] 9) ≡ (Some (Outside 0), codes "A")
unfolding source_run steps step
stores_outside = refl

-- KEY EMIT KEY EMIT, on one byte of input
runs_out : seen (source_run (main (Plain Key ∷ Plain Emit ∷ Plain Key ∷ Plain Emit ∷ [])) (codes "x") 9) ≡ (Some InputEnded, codes "x")
unfolding source_run steps step
runs_out = refl

-- 2 BASE ! -32768 . 1 BASE ! 5 .
bad_base : seen (source_run (main (Literal 2 ∷ Plain Base ∷ Plain Store ∷ Literal 32768 ∷ Plain Dot ∷ Literal 1 ∷ Plain Base ∷ Plain Store ∷ Literal 5 ∷ Plain Dot ∷ [])) [] 20) ≡ (Some (Halted 11), codes "-1000000000000000 ")
unfolding source_run steps step
bad_base = refl

-- 3 BEGIN ?DUP WHILE DUP . 1- REPEAT
three_turns : seen (source_run (main (Literal 3 ∷ While (items (Plain QDup ∷ [])) (items (Plain Dup ∷ Plain Dot ∷ Plain OneMinus ∷ [])) ∷ [])) [] 30) ≡ (Some (Halted 0), codes "3 2 1 ")
unfolding source_run steps step
three_turns = refl

-- 2 0 DO 2 0 DO J 48 + EMIT I 48 + EMIT LOOP LOOP
abbrev digit : Node → List Node → List Node
digit word rest = word ∷ Literal 48 ∷ Plain Plus ∷ Plain Emit ∷ rest

two_loops : seen (source_run (main (Literal 2 ∷ Literal 0 ∷ Do (items (Literal 2 ∷ Literal 0 ∷ Do (items (digit (Plain OuterIndex) (digit (Plain Index) []))) false ∷ [])) false ∷ [])) [] 60) ≡ (Some (Halted 0), codes "00011011")
unfolding source_run steps step
two_loops = refl

-- 1 >R
entry_left : seen (source_run (main (Literal 1 ∷ Plain ToR ∷ [])) [] 9) ≡ (Some Unbalanced, [])
unfolding source_run steps step
entry_left = refl

-- DROP
no_cell : seen (source_run (main (Plain DropTop ∷ [])) [] 9) ≡ (Some Underflow, [])
unfolding source_run steps step
no_cell = refl

-- 12345 0 <# # # [CHAR] . HOLD #S #> TYPE
with_point : seen (source_run (main (Literal 12345 ∷ Literal 0 ∷ Plain LessSharp ∷ Plain Sharp ∷ Plain Sharp ∷ Literal 46 ∷ Plain Hold ∷ Plain SharpS ∷ Plain SharpGreater ∷ Plain TypeOut ∷ [])) [] 11) ≡ (Some (Halted 0), codes "123.45")
unfolding source_run steps step
with_point = refl

-- 2 EXECUTE 1 EXECUTE 3 EXECUTE, where token 1 is that of EMIT, token 2 that of the cell 65, and there is no third
by_token : seen (source_run (program (items (Literal 2 ∷ Plain Execute ∷ Literal 1 ∷ Plain Execute ∷ Literal 3 ∷ Plain Execute ∷ []) ∷ []) 0 (Plain Emit ∷ Literal 65 ∷ [])) [] 20) ≡ (Some (Halted 13), codes "A")
unfolding source_run steps step
by_token = refl

-- : F 10 0 DO I 2 = IF UNLOOP EXIT THEN I . LOOP ; : MAIN F 7 . ;
leaves_early : seen
    (source_run
    (program
    (items
    (Literal 10 ∷ Literal 0
    ∷ Do (items (Plain Index ∷ Literal 2 ∷ Plain Equal ∷ If (items (Plain Unloop ∷ Exit ∷ [])) Empty ∷ Plain Index ∷ Plain Dot ∷ [])) false ∷ [])
    ∷ items (Call 0 ∷ Literal 7 ∷ Plain Dot ∷ []) ∷ []) 1 []) [] 40) ≡ (Some (Halted 0), codes "0 1 7 ")
unfolding source_run steps step
leaves_early = refl

-- 10 0 DO LEAVE LOOP 87 C, 88 C, HERE 1- C@ EMIT
last_byte : seen
    (source_run
    (main
    (Literal 10 ∷ Literal 0 ∷ Do (items (Leave ∷ [])) false ∷ Literal 87 ∷ Plain CComma ∷ Literal 88 ∷ Plain CComma ∷ Plain Here ∷ Plain OneMinus ∷ Plain CFetch
    ∷ Plain Emit ∷ [])) [] 20) ≡ (Some (Halted 0), codes "X")
unfolding source_run steps step
last_byte = refl

-- HERE 9 ACCEPT, and then ABORT" with the three bytes that were taken
stops_with_text : seen (source_run (main (Plain Here ∷ Literal 9 ∷ Plain Accept ∷ Text text.Abort 8320 3 ∷ [])) (codes "Bye\n.") 20) ≡ (Some (Halted 2), codes "Bye")
unfolding source_run steps step
stops_with_text = refl

-- 5 1 10 WITHIN . 5 5 <> . 3 0> . 1 2 NIP . 1 2 TUCK . . .
core_extension : seen
    (source_run
    (main
    (Literal 5 ∷ Literal 1 ∷ Literal 10 ∷ Plain Within ∷ Plain Dot ∷ Literal 5 ∷ Literal 5 ∷ Plain NotEqual ∷ Plain Dot ∷ Literal 3 ∷ Plain ZeroGreater
    ∷ Plain Dot ∷ Literal 1 ∷ Literal 2 ∷ Plain Nip ∷ Plain Dot ∷ Literal 1 ∷ Literal 2 ∷ Plain Tuck ∷ Plain Dot ∷ Plain Dot ∷ Plain Dot ∷ [])) [] 23)
    ≡ (Some (Halted 0), codes "-1 0 -1 2 2 1 2 ")
unfolding source_run steps step
core_extension = refl

looks_for_depth : uses_depth greeting ≡ false
looks_for_depth = refl

-- the prices of steps that are no words are those of the table
prices_of_the_table : (turn_price false ≡ (entry_of Loop).base) × (turn_price true ≡ (entry_of PlusLoop).base)
    × (text_price text.Address 9 [] ≡ (entry_of SQuote).base) × (text_price text.Print 9 [] ≡ (entry_of DotQuote).base + 9 * (entry_of DotQuote).per)
    × (text_price text.Abort 9 (1 ∷ []) ≡ (entry_of AbortQuote).base + 9 * (entry_of AbortQuote).per)
prices_of_the_table = (refl, refl, refl, refl, refl)

-- 513 8200 ! 8201 @ . 8201 C@ . 7 8201 C! 8200 @ .
bytes_of_a_cell : seen
    (source_run
    (main
    (Literal 513 ∷ Literal 8200 ∷ Plain Store ∷ Literal 8201 ∷ Plain Fetch ∷ Plain Dot ∷ Literal 8201 ∷ Plain CFetch ∷ Plain Dot ∷ Literal 7 ∷ Literal 8201
    ∷ Plain CStore ∷ Literal 8200 ∷ Plain Fetch ∷ Plain Dot ∷ [])) [] 40) ≡ (Some (Halted 0), codes "513 2 1793 ")
unfolding source_run steps step
bytes_of_a_cell = refl

-- 65 16383 C! 16383 C@ EMIT 8191 @
ends_of_data_space : seen (source_run (main (Literal 65 ∷ Literal 16383 ∷ Plain CStore ∷ Literal 16383 ∷ Plain CFetch ∷ Plain Emit ∷ Literal 8191 ∷ Plain Fetch ∷ [])) [] 40) ≡ (Some (Outside 8190), codes "A")
unfolding source_run steps step
ends_of_data_space = refl

-- 65 C, 66 C, 67 C, 8320 8321 3 MOVE 8320 4 TYPE 8321 8320 3 MOVE 8320 4 TYPE 65 16384 C!
moves_both_ways : seen
    (source_run
    (main
    (Literal 65 ∷ Plain CComma ∷ Literal 66 ∷ Plain CComma ∷ Literal 67 ∷ Plain CComma ∷ Literal 8320 ∷ Literal 8321 ∷ Literal 3 ∷ Plain Move ∷ Literal 8320
    ∷ Literal 4 ∷ Plain TypeOut ∷ Literal 8321 ∷ Literal 8320 ∷ Literal 3 ∷ Plain Move ∷ Literal 8320 ∷ Literal 4 ∷ Plain TypeOut ∷ Literal 65 ∷ Literal 16384
    ∷ Plain CStore ∷ [])) [] 60) ≡ (Some (Outside 16384), codes "AABCABCC")
unfolding source_run steps step
moves_both_ways = refl

-- 65 16384 ! 16386 @ EMIT 16386 C@ EMIT 258 16388 !, on two bytes of input
by_ports : seen
    (source_run
    (main
    (Literal 65 ∷ Literal 16384 ∷ Plain Store ∷ Literal 16386 ∷ Plain Fetch ∷ Plain Emit ∷ Literal 16386 ∷ Plain CFetch ∷ Plain Emit ∷ Literal 258
    ∷ Literal 16388 ∷ Plain Store ∷ [])) (codes "xyz") 60) ≡ (Some (Halted 2), codes "Axy")
unfolding source_run steps step
by_ports = refl
