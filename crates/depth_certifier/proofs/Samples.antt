-- Small programs whose certificates and refusals the checker computes from the rounds.
use Rattle.std.proofs.Common.{◌≡◌, ℕ, true, false, List, [], ◌∷◌, ◌++◌, Option, Some, None, Result, Ok, Err, refl}
use Rattle.std.specs.Prelude.{pos, negsuc, ℤ, replicate}
use Rattle.word_table.specs.declared.word.Word.TheVariants.{Emit, Key, Dup, Swap, Star, Dot, DropTop, Depth, OneMinus, ToR, QDup, Execute, Index}
use Rattle.forth_program.specs.Tree.{Node, Nodes, Arms, Literal, Plain, Call, If, Until, While, Again, Do, QDo, Case, Leave, Empty, Then, NoArm, Arm}
use Rattle.forth_program.specs.Program.{SourceProgram}
use Rattle.depth_certifier.specs.declared.effect.Effect.{Effect}
use Rattle.depth_certifier.specs.declared.effect.CertCause.{CertCause}
use Rattle.depth_certifier.specs.declared.effect.CertCause.TheVariants as cause
use Rattle.depth_certifier.specs.Certificate.{Cert}
use Rattle.depth_certifier.specs.Rounds.{bottom, Refusal, after_rounds}
use Rattle.depth_certifier.specs.Checking.{is_valid}

abbrev items : List Node → Nodes
items [] = Empty
items (node ∷ nodes) = Then node (items nodes)

-- the arms of a case: the tests and the body of each
abbrev arms : List (List Node × List Node) → Arms
arms [] = NoArm
arms (arm ∷ others) = Arm (items arm.0) (items arm.1) (arms others)

abbrev trees : List (List Node) → List Nodes
trees [] = []
trees (body ∷ bodies) = items body ∷ trees bodies

abbrev program : List (List Node) → ℕ → List Node → SourceProgram
program bodies main tokens = record { names = []; bodies = trees bodies; main_body = main; tokens = tokens; data_start = 8192; first_space = []; source_tokens = 0 }

abbrev effect : ℕ → ℕ → ℕ → Option (ℤ × ℤ) → Effect
effect need peak back exit = record { need = need; peak = peak; back = back; exit = exit }

abbrev certificate : List Effect → Effect → List (ℤ × ℤ) → Result Cert Refusal
certificate effects shared heads = Ok (record { effects = effects; shared = shared; heads = heads })

abbrev refused : ℕ → CertCause → Result Cert Refusal
refused definition reason = Err (record { definition = definition; reason = reason })

abbrev even : Option (ℤ × ℤ)
even = Some (pos 0, pos 0)

-- : MAIN 1 EMIT ;
prints : after_rounds (program ((Literal 1 ∷ Plain Emit ∷ []) ∷ []) 0 []) 2 ≡ certificate (effect 0 2 0 even ∷ []) bottom []
prints = refl

-- : SQ DUP * ; : MAIN 3 SQ . ;
abbrev square : SourceProgram
square = program ((Plain Dup ∷ Plain Star ∷ []) ∷ (Literal 3 ∷ Call 0 ∷ Plain Dot ∷ []) ∷ []) 1 []

squares : after_rounds square 3 ≡ certificate (effect 1 9 6 even ∷ effect 0 15 12 even ∷ []) bottom []
squares = refl

-- one round more changes nothing
squares_stay : after_rounds square 4 ≡ after_rounds square 3
squares_stay = refl

-- its certificate is valid, and it is not with a smaller number of return cells for MAIN or with a head more
squares_checked : is_valid square (record { effects = effect 1 9 6 even ∷ effect 0 15 12 even ∷ []; shared = bottom; heads = [] }) ≡ true
squares_checked = refl

squares_with_too_few_return_cells : is_valid square (record { effects = effect 1 9 6 even ∷ effect 0 15 11 even ∷ []; shared = bottom; heads = [] }) ≡ false
squares_with_too_few_return_cells = refl

squares_with_a_head : is_valid square (record { effects = effect 1 9 6 even ∷ effect 0 15 12 even ∷ []; shared = bottom; heads = (pos 0, pos 0) ∷ [] }) ≡ false
squares_with_a_head = refl

-- n numbers and n DROP
abbrev tower : ℕ → List Node
tower n = replicate n (Literal 7) ++ replicate n (Plain DropTop)

tower_of_33 : after_rounds (program (tower 33 ∷ []) 0 []) 2 ≡ certificate (effect 0 33 0 even ∷ []) bottom []
tower_of_33 = refl

tower_of_34 : after_rounds (program (tower 34 ∷ []) 0 []) 1 ≡ refused 0 cause.Data
tower_of_34 = refl

-- with DEPTH there is room for one fewer
depth_and_32 : after_rounds (program ((Plain Depth ∷ Plain DropTop ∷ tower 32) ∷ []) 0 []) 2 ≡ certificate (effect 0 32 0 even ∷ []) bottom []
depth_and_32 = refl

depth_and_33 : after_rounds (program ((Plain Depth ∷ Plain DropTop ∷ tower 33) ∷ []) 0 []) 1 ≡ refused 0 cause.Data
depth_and_33 = refl

-- : DOWN DUP IF 1- RECURSE ELSE DROP THEN ; : MAIN 1000 DOWN 75 EMIT ;
abbrev down : SourceProgram
down = program ((Plain Dup ∷ If (items (Plain OneMinus ∷ Call 0 ∷ [])) (items (Plain DropTop ∷ [])) ∷ []) ∷ (Literal 1000 ∷ Call 0 ∷ Literal 75 ∷ Plain Emit ∷ []) ∷ []) 1 []

-- its recursion is a last call
down_certified : after_rounds down 4 ≡ certificate (effect 1 1 0 (Some (negsuc 0, negsuc 0)) ∷ effect 0 2 1 even ∷ []) bottom []
down_certified = refl

-- : MAIN 1 >R ;
unbalanced : after_rounds (program ((Literal 1 ∷ Plain ToR ∷ []) ∷ []) 0 []) 1 ≡ refused 0 cause.Shape
unbalanced = refl

-- : MAIN DROP ;
underflow : after_rounds (program ((Plain DropTop ∷ []) ∷ []) 0 []) 1 ≡ refused 0 cause.Data
underflow = refl

-- : LOOPY 65 EMIT RECURSE ; : MAIN LOOPY ;
loops_for_ever : after_rounds (program ((Literal 65 ∷ Plain Emit ∷ Call 0 ∷ []) ∷ (Call 0 ∷ []) ∷ []) 1 []) 3 ≡ certificate (effect 0 2 0 None ∷ effect 0 2 0 None ∷ []) bottom []
loops_for_ever = refl

-- : G ; : F 1 >R G ; : MAIN F ;
entry_left_at_a_last_call : after_rounds (program ([] ∷ (Literal 1 ∷ Plain ToR ∷ Call 0 ∷ []) ∷ (Call 1 ∷ []) ∷ []) 2 []) 3 ≡ refused 1 cause.Shape
entry_left_at_a_last_call = refl

-- : MAIN 3 BEGIN ?DUP WHILE DUP . 1- REPEAT ;
counts_down : after_rounds (program ((Literal 3 ∷ While (items (Plain QDup ∷ [])) (items (Plain Dup ∷ Plain Dot ∷ Plain OneMinus ∷ [])) ∷ []) ∷ []) 0 []) 2 ≡ certificate (effect 0 16 12 even ∷ []) bottom ((pos 1, pos 1) ∷ [])
counts_down = refl

-- : MAIN 10 0 DO I . LOOP ;
counts_up : after_rounds (program ((Literal 10 ∷ Literal 0 ∷ Do (items (Plain Index ∷ Plain Dot ∷ [])) false ∷ []) ∷ []) 0 []) 2 ≡ certificate (effect 0 15 14 even ∷ []) bottom ((pos 0, pos 0) ∷ [])
counts_up = refl

-- : A 65 EMIT ; ' A CONSTANT TA : MAIN TA EXECUTE 0 EXECUTE ;
executes : after_rounds (program ((Literal 65 ∷ Plain Emit ∷ []) ∷ (Literal 1 ∷ Plain Execute ∷ Literal 0 ∷ Plain Execute ∷ []) ∷ []) 1 (Call 0 ∷ [])) 3 ≡ certificate (effect 0 2 0 even ∷ effect 0 5 3 even ∷ []) (effect 0 2 0 even) []
executes = refl

-- 5 CONSTANT K ' K CONSTANT T : A T EXECUTE >R ; : MAIN DROP ; in the first round the shared effect does not know K yet
first_round : after_rounds (program ((Literal 1 ∷ Plain Execute ∷ Plain ToR ∷ []) ∷ (Plain DropTop ∷ []) ∷ []) 1 (Literal 5 ∷ [])) 1 ≡ refused 1 cause.Data
first_round = refl

-- : MAIN 0 BEGIN DUP 1 >R 0 UNTIL ; the shape of the back edge comes before its interval
shape_comes_first : after_rounds (program ((Literal 0 ∷ Until (items (Plain Dup ∷ Literal 1 ∷ Plain ToR ∷ Literal 0 ∷ [])) ∷ []) ∷ []) 0 []) 1 ≡ refused 0 cause.Shape
shape_comes_first = refl

-- : MAIN 0 0 ?DO 65 EMIT LOOP 3 0 ?DO 66 EMIT LOOP ;
leaves_out : after_rounds (program ((Literal 0 ∷ Literal 0 ∷ QDo (items (Literal 65 ∷ Plain Emit ∷ [])) false ∷ Literal 3 ∷ Literal 0 ∷ QDo (items (Literal 66 ∷ Plain Emit ∷ [])) false ∷ []) ∷ []) 0 []) 2
    ≡ certificate (effect 0 4 2 even ∷ []) bottom ((pos 0, pos 0) ∷ (pos 0, pos 0) ∷ [])
leaves_out = refl

-- : MAIN 5 0 ?DO 1 LEAVE LOOP ; the way around the loop joins that of LEAVE
leaves_out_or_leaves : after_rounds (program ((Literal 5 ∷ Literal 0 ∷ QDo (items (Literal 1 ∷ Leave ∷ [])) false ∷ []) ∷ []) 0 []) 2 ≡ certificate (effect 0 4 2 (Some (pos 0, pos 1)) ∷ []) bottom ((pos 0, pos 0) ∷ [])
leaves_out_or_leaves = refl

-- : MAIN 5 0 DO 1 LEAVE LOOP ;
leaves : after_rounds (program ((Literal 5 ∷ Literal 0 ∷ Do (items (Literal 1 ∷ Leave ∷ [])) false ∷ []) ∷ []) 0 []) 2 ≡ certificate (effect 0 3 2 (Some (pos 1, pos 1)) ∷ []) bottom ((pos 0, pos 0) ∷ [])
leaves = refl

-- : MAIN BEGIN KEY EMIT AGAIN ;
echoes : after_rounds (program ((Again (items (Plain Key ∷ Plain Emit ∷ [])) ∷ []) ∷ []) 0 []) 2 ≡ certificate (effect 0 2 0 None ∷ []) bottom ((pos 0, pos 0) ∷ [])
echoes = refl

-- : MAIN BEGIN 1 AGAIN ;
grows : after_rounds (program ((Again (items (Literal 1 ∷ [])) ∷ []) ∷ []) 0 []) 1 ≡ refused 0 cause.Data
grows = refl

-- : K CASE 1 OF 65 ENDOF 2 OF 66 ENDOF 67 SWAP ENDCASE EMIT ; : MAIN 1 K 2 K 9 K ;
chooses : after_rounds
    (program
    ((Case (arms ((Literal 1 ∷ [], Literal 65 ∷ []) ∷ (Literal 2 ∷ [], Literal 66 ∷ []) ∷ [])) (items (Literal 67 ∷ Plain Swap ∷ [])) ∷ Plain Emit ∷ [])
    ∷ (Literal 1 ∷ Call 0 ∷ Literal 2 ∷ Call 0 ∷ Literal 9 ∷ Call 0 ∷ []) ∷ []) 1 []) 3
    ≡ certificate (effect 1 2 0 (Some (negsuc 0, negsuc 0)) ∷ effect 0 3 1 even ∷ []) bottom []
chooses = refl

-- : F CASE 0 OF 1 ENDOF ENDCASE ; : MAIN ; the ends of the arms and of the case join
ends_join : after_rounds (program ((Case (arms ((Literal 0 ∷ [], Literal 1 ∷ []) ∷ [])) Empty ∷ []) ∷ [] ∷ []) 1 []) 2 ≡ certificate (effect 1 2 0 (Some (negsuc 0, pos 0)) ∷ effect 0 0 0 even ∷ []) bottom []
ends_join = refl

-- : D CASE 0 OF 9 RECURSE ENDOF ENDCASE ; : MAIN ; the end of an arm is in tail position
last_of_an_arm : after_rounds (program ((Case (arms ((Literal 0 ∷ [], Literal 9 ∷ Call 0 ∷ []) ∷ [])) Empty ∷ []) ∷ [] ∷ []) 1 []) 3 ≡ certificate (effect 1 2 0 (Some (negsuc 0, negsuc 0)) ∷ effect 0 0 0 even ∷ []) bottom []
last_of_an_arm = refl

-- : MAIN 1 CASE 1 OF 5 >R ENDOF ENDCASE ;
arm_leaves_an_entry : after_rounds (program ((Literal 1 ∷ Case (arms ((Literal 1 ∷ [], Literal 5 ∷ Plain ToR ∷ []) ∷ [])) Empty ∷ []) ∷ []) 0 []) 1 ≡ refused 0 cause.Shape
arm_leaves_an_entry = refl

-- : MAIN 1 CASE 1 OF 5 >R ENDOF DROP DROP ENDCASE ; the ends join after ENDCASE
ends_join_last : after_rounds (program ((Literal 1 ∷ Case (arms ((Literal 1 ∷ [], Literal 5 ∷ Plain ToR ∷ []) ∷ [])) (items (Plain DropTop ∷ Plain DropTop ∷ [])) ∷ []) ∷ []) 0 []) 1 ≡ refused 0 cause.Data
ends_join_last = refl
