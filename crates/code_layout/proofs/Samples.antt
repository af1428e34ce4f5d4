-- Images of small programs, and what they print.
use Rattle.std.proofs.Common.{◌≡◌, ℕ, zero, suc, ◌+◌, ◌<◌, subst, rules, false, true, ◌&&◌, None, Some, List, [], ◌∷◌, ◌++◌, length, refl, ap, ◌∙◌, arith}
use Rattle.word_table.specs.declared.word.Word.TheVariants.{Base, Swap, Key, Emit, Fetch, Execute, OnePlus, Plus, Dup, QDup, DropTop, OneMinus, ZeroEqual, Index}
use Rattle.word_table.specs.declared.word.Word.{Word}
use Rattle.word_table.specs.Table.{cells_of, cells_from}
use Rattle.forth_program.specs.Tree.{Node, Nodes, Literal, Plain, Call, Child, Text, If, Until, While, Again, Do, QDo, Case, Leave, Exit, Empty, Then, NoArm, Arm}
use Rattle.forth_program.specs.Tail.{is_tail}
use Rattle.forth_program.specs.State.{World, State, Halted, Stored, Outcome, Goes, Ends}
use Rattle.forth_program.specs.Program.{SourceProgram}
use Rattle.forth_program.specs.Step.{first_work, step}
use Rattle.forth_program.specs.Price.{spent}
use Rattle.forth_program.specs.Form.{everywhere, is_not_go}
use Rattle.std.specs.Prelude.{◌≢◌, slice_index_or, ◌≤◌}
use Rattle.forth_program.specs.Run.{and_then, steps, first_world, first_state, source_run, leaves}
use Rattle.j1_simulator.specs.declared.ends.End.TheVariants as chip
use Rattle.j1_simulator.specs.Step.{By}
use Rattle.j1_simulator.specs.Run.{open_run}
use Rattle.forth_program.specs.declared.item.TextKind.TheVariants as text
use Rattle.word_laws.specs.Numbers.{number_cells}
use Rattle.code_layout.specs.Layout.{Routine, routine_of, word_falls_through, word_size, word_cells, reaches_end, cell_if, nodes_cells, execute_cells, abort_cells, leaving_cells, routine_place, header, laid_out}
use Rattle.code_layout.specs.Built.{IsBuilt}
use Rattle.forth_program.specs.Heights.{entries_height, peak_of, back_of, DepthFits, IsSafe}
use Rattle.code_layout.specs.Library.{IsLibrary, BodyTakesNoMore, BodyMeans}
use Rattle.code_layout.specs.Agreement.{ForwardSimulation, ImagesAgree}

-- a program with these definitions, of which the last is MAIN
abbrev program : List Nodes → ℕ → ℕ → SourceProgram
program bodies main tokens = record { names = []; bodies = bodies; main_body = main; tokens = []; data_start = 8192; first_space = []; source_tokens = tokens }

-- ---- one definition without structures: the cells of its numbers and words, one after the other

abbrev item_cells : Node → List ℕ
item_cells (Literal value) = number_cells value
item_cells (Plain word) = cells_of word
item_cells node = []

abbrev line_cells : Nodes → List ℕ
line_cells Empty = []
line_cells (Then node rest) = item_cells node ++ line_cells rest

abbrev IsLine : Nodes → Type 0
IsLine Empty = Unit {0}
IsLine (Then (Literal value) rest) = IsLine rest
IsLine (Then (Plain word) rest) = (routine_of word ≡ None) × IsLine rest
IsLine (Then node rest) = ⊥

-- the table has the cells for 0x2000
table_cells : (word : Word) → cells_from 0x2000 word ≡ cells_of word
table_cells Base = refl
table_cells word = refl

line_is_laid : (nodes : Nodes) (place : Routine → ℕ) (out_at at : ℕ) → IsLine nodes → nodes_cells 0x2000 place out_at at true true nodes ≡ line_cells nodes
line_is_laid Empty place out_at at line = refl
line_is_laid (Then (Literal value) rest) place out_at at line = ap (λ cells. number_cells value ++ cells) (line_is_laid rest place out_at (at + length (number_cells value)) line)
line_is_laid (Then (Plain word) rest) place out_at at line =
    ap (λ n. word_cells 0x2000 place (is_tail rest true) n word ++ nodes_cells 0x2000 place out_at (at + word_size n word) true (word_falls_through n (is_tail rest true)) rest) line.0
    ∙ ap (λ cells. cells ++ nodes_cells 0x2000 place out_at (at + length (cells_of word)) true true rest) (table_cells word)
    ∙ ap (λ cells. cells_of word ++ cells) (line_is_laid rest place out_at (at + length (cells_of word)) line.1)
line_is_laid (Then node rest) place out_at at line = absurd line

line_falls_through : (nodes : Nodes) → IsLine nodes → reaches_end true true nodes ≡ true
line_falls_through Empty line = refl
line_falls_through (Then (Literal value) rest) line = line_falls_through rest line
line_falls_through (Then (Plain word) rest) line = ap (λ n. reaches_end true (word_falls_through n (is_tail rest true)) rest) line.0 ∙ line_falls_through rest line.1
line_falls_through (Then node rest) line = absurd line

-- the code of EXECUTE and of ABORT" where there are neither tokens nor a library, before other cells
abbrev behind : List ℕ → List ℕ
behind cells = execute_cells 8 0 ++ (abort_cells 23 0 ++ cells)

one_line : (body : Nodes) (count : ℕ) → IsLine body → (laid_out [] (program (body ∷ []) 0 count)).cells ≡ 0x4026 ∷ 0x8000 ∷ 0xC004 ∷ 0x6023 ∷ 0 ∷ 0 ∷ 0 ∷ 0 ∷ behind
    (((line_cells body ++ 0x700C ∷ []) ++ []) ++ leaving_cells (everywhere is_not_go body && true))
one_line body count line =
    ap (λ cells. header 38 ++ behind (((cells ++ cell_if (reaches_end true true body) 0x700C) ++ []) ++ leaving_cells (everywhere is_not_go body && true))) (line_is_laid body (routine_place [] (program (body ∷ []) 0 count)) 0 38 line)
    ∙ ap (λ reached. header 38 ++ behind (((line_cells body ++ cell_if reached 0x700C) ++ []) ++ leaving_cells (everywhere is_not_go body && true))) (line_falls_through body line)

-- ---- some programs

-- : MAIN 66 EMIT ;
line : SourceProgram
line = program (Then (Literal 66) (Then (Plain Emit) Empty) ∷ []) 0 5

line_is : (laid_out [] line).cells ≡ 0x4026 ∷ 0x8000 ∷ 0xC004 ∷ 0x6023 ∷ 0 ∷ 0 ∷ 0 ∷ 0 ∷ behind (0x8042 ∷ 0xC000 ∷ 0x6023 ∷ 0x6103 ∷ 0x700C ∷ [])
unfolding line
line_is = refl

-- : TWICE DUP + ; : MAIN 33 TWICE IF 65 ELSE 66 THEN EMIT ;
two : SourceProgram
two = program (Then (Plain Dup) (Then (Plain Plus) Empty) ∷ Then (Literal 33) (Then (Call 0) (Then (If (Then (Literal 65) Empty) (Then (Literal 66) Empty)) (Then (Plain Emit) Empty))) ∷ []) 1 16

two_cells : (laid_out [] two).cells ≡ 0x4029 ∷ 0x8000 ∷ 0xC004 ∷ 0x6023 ∷ 0 ∷ 0 ∷ 0 ∷ 0 ∷ behind (0x6081 ∷ 0x6203 ∷ 0x700C ∷ 0x8021 ∷ 0x4026 ∷ 0x202E ∷ 0x8041 ∷ 0x002F ∷ 0x8042 ∷ 0xC000 ∷ 0x6023 ∷ 0x6103 ∷ 0x700C ∷ [])
unfolding two
two_cells = refl

two_is_built : IsBuilt [] two
unfolding two
two_is_built = record {
  has_main = omega arith;
  items = refl;
  token_items = refl;
  leaves_in_loops = refl;
  code_fits = omega arith;
  data_start = record { is_even = refl; at_least = omega arith; at_most = omega arith };
  tokens_counted = omega arith;
}

two_prints : (open_run (laid_out [] two) [] 18).printed ≡ 65 ∷ []
unfolding two
two_prints = refl

-- : MAIN 2 0 DO I 65 + EMIT LOOP ;
loop : SourceProgram
loop = program (Then (Literal 2) (Then (Literal 0) (Then (Do (Then (Plain Index) (Then (Literal 65) (Then (Plain Plus) (Then (Plain Emit) Empty)))) false) Empty)) ∷ []) 0 11

loop_cells : (laid_out [] loop).cells ≡ 0x4026 ∷ 0x8000 ∷ 0xC004 ∷ 0x6023 ∷ 0 ∷ 0 ∷ 0 ∷ 0 ∷ behind (0x8002 ∷ 0x8000
    ∷ 0x6180 ∷ 0x6081 ∷ 0x6147 ∷ 0x6600 ∷ 0x6203 ∷ 0x8001 ∷ 0x6203 ∷ 0x6147 ∷ 0x6B8D ∷ 0x6B81 ∷ 0x6181 ∷ 0x6147 ∷ 0x6203 ∷ 0x8041 ∷ 0x6203 ∷ 0xC000 ∷ 0x6023 ∷ 0x6103
    ∷ 0x6B8D ∷ 0x8001 ∷ 0x6203 ∷ 0x6081 ∷ 0x6147 ∷ 0x2041 ∷ 0x0030 ∷ 0x6B8D ∷ 0x6103 ∷ 0x6B8D ∷ 0x6103 ∷ 0x700C ∷ [])
unfolding loop
loop_cells = refl

loop_prints : (open_run (laid_out [] loop) [] 60).printed ≡ 65 ∷ 66 ∷ []
unfolding loop
loop_prints = refl

-- : MAIN 0 5 DO I EMIT -2 +LOOP ;
down : SourceProgram
down = program (Then (Literal 0) (Then (Literal 5) (Then (Do (Then (Plain Index) (Then (Plain Emit) (Then (Literal 65534) Empty))) true) Empty)) ∷ []) 0 11

down_prints : (open_run (laid_out [] down) [] 120).printed ≡ 5 ∷ 3 ∷ 1 ∷ []
unfolding down
down_prints = refl

-- : MAIN 3 BEGIN DUP WHILE 1- DUP EMIT REPEAT DROP 2 BEGIN 1- DUP EMIT DUP 0= UNTIL ;
turns : SourceProgram
turns =
    program (Then (Literal 3) (Then (While (Then (Plain Dup) Empty) (Then (Plain OneMinus) (Then (Plain Dup) (Then (Plain Emit) Empty))))
    (Then (Plain DropTop) (Then (Literal 2) (Then (Until (Then (Plain OneMinus) (Then (Plain Dup) (Then (Plain Emit) (Then (Plain Dup) (Then (Plain ZeroEqual) Empty)))))) Empty)))) ∷ []) 0 20

turns_print : (open_run (laid_out [] turns) [] 120).printed ≡ 2 ∷ 1 ∷ 0 ∷ 1 ∷ 0 ∷ []
unfolding turns
turns_print = refl

-- : MAIN 9 0 DO I EMIT I IF LEAVE THEN LOOP 7 EMIT EXIT 8 EMIT ;
leaving : SourceProgram
leaving =
    program (Then (Literal 9) (Then (Literal 0) (Then (Do (Then (Plain Index) (Then (Plain Emit) (Then (Plain Index) (Then (If (Then Leave Empty) Empty) Empty)))) false)
    (Then (Literal 7) (Then (Plain Emit) (Then Exit (Then (Literal 8) (Then (Plain Emit) Empty))))))) ∷ []) 0 20

leaving_is_built : IsBuilt [] leaving
unfolding leaving
leaving_is_built = record {
  has_main = omega arith;
  items = refl;
  token_items = refl;
  leaves_in_loops = refl;
  code_fits = omega arith;
  data_start = record { is_even = refl; at_least = omega arith; at_most = omega arith };
  tokens_counted = omega arith;
}

leaving_prints : (open_run (laid_out [] leaving) [] 120).printed ≡ 0 ∷ 1 ∷ 7 ∷ []
unfolding leaving
leaving_prints = refl

-- the library of one word: : ~?DUP DUP IF DUP THEN ;
library : List Nodes
library = Then (Plain Dup) (Then (If (Then (Plain Dup) Empty) Empty) Empty) ∷ []

-- : MAIN 65 ?DUP EMIT EMIT 0 ?DUP EMIT ;
doubled : SourceProgram
doubled = program (Then (Literal 65) (Then (Plain QDup) (Then (Plain Emit) (Then (Plain Emit) (Then (Literal 0) (Then (Plain QDup) (Then (Plain Emit) Empty)))))) ∷ []) 0 10

doubled_cells : (laid_out library doubled).cells ≡ 0x402A ∷ 0x8000 ∷ 0xC004 ∷ 0x6023 ∷ 0 ∷ 0 ∷ 0 ∷ 0 ∷ 0x6081 ∷ 0x200B ∷ 0x6081 ∷ 0x700C
    ∷ (execute_cells 12 0 ++ (abort_cells 27 0 ++ (0x8041 ∷ 0x4008 ∷ 0xC000 ∷ 0x6023 ∷ 0x6103 ∷ 0xC000 ∷ 0x6023 ∷ 0x6103 ∷ 0x8000 ∷ 0x4008 ∷ 0xC000 ∷ 0x6023 ∷ 0x6103 ∷ 0x700C ∷ [])))
unfolding library doubled
doubled_cells = refl

doubled_is_built : IsBuilt library doubled
unfolding library doubled
doubled_is_built = record {
  has_main = omega arith;
  items = refl;
  token_items = refl;
  leaves_in_loops = refl;
  code_fits = omega arith;
  data_start = record { is_even = refl; at_least = omega arith; at_most = omega arith };
  tokens_counted = omega arith;
}

-- ' ?DUP CONSTANT TQ : MAIN 65 TQ EXECUTE EMIT EMIT ;
executed : SourceProgram
executed = record {
  names = [];
  bodies = Then (Literal 65) (Then (Literal 1) (Then (Plain Execute) (Then (Plain Emit) (Then (Plain Emit) Empty)))) ∷ [];
  main_body = 0;
  tokens = Plain QDup ∷ [];
  data_start = 8192;
  first_space = [];
  source_tokens = 12;
}

executed_is_built : IsBuilt library executed
unfolding library executed
executed_is_built = record {
  has_main = omega arith;
  items = refl;
  token_items = refl;
  leaves_in_loops = refl;
  code_fits = omega arith;
  data_start = record { is_even = refl; at_least = omega arith; at_most = omega arith };
  tokens_counted = omega arith;
}

executed_prints : (open_run (laid_out library executed) [] 60).printed ≡ 65 ∷ 65 ∷ []
unfolding library executed
executed_prints = refl

library_is : IsLibrary library
unfolding library
library_is = record { items = refl; own_items = refl; leaves_in_loops = refl }

doubled_prints : (open_run (laid_out library doubled) [] 40).printed ≡ 65 ∷ 65 ∷ 0 ∷ []
unfolding library doubled
doubled_prints = refl

-- : A 65 EMIT ; ' A CONSTANT TA ' 1+ CONSTANT TP : MAIN TA EXECUTE 65 TP EXECUTE EMIT 0 EXECUTE ;
tokens : SourceProgram
tokens = record {
  names = [];
  bodies = Then (Literal 65) (Then (Plain Emit) Empty) ∷ Then (Literal 1) (Then (Plain Execute) (Then (Literal 65) (Then (Literal 2) (Then (Plain Execute) (Then (Plain Emit) (Then (Literal 0) (Then (Plain Execute) Empty))))))) ∷ [];
  main_body = 1;
  tokens = Call 0 ∷ Plain OnePlus ∷ [];
  data_start = 8192;
  first_space = [];
  source_tokens = 22;
}

tokens_are_built : IsBuilt [] tokens
unfolding tokens
tokens_are_built = record {
  has_main = omega arith;
  items = refl;
  token_items = refl;
  leaves_in_loops = refl;
  code_fits = omega arith;
  data_start = record { is_even = refl; at_least = omega arith; at_most = omega arith };
  tokens_counted = omega arith;
}

tokens_print : (open_run (laid_out [] tokens) [] 80).printed ≡ 65 ∷ 66 ∷ []
unfolding tokens
tokens_print = refl

tokens_halt : (open_run (laid_out [] tokens) [] 80).stop ≡ Some (By (chip.Halted 13))
unfolding tokens
tokens_halt = refl

-- a child of `DOES> @ EMIT`, called and executed, and a text of two bytes at the same address: S" .." DROP @ EMIT
children : SourceProgram
children = record {
  names = [];
  bodies = Then (Plain Fetch) (Then (Plain Emit) Empty) ∷ Then (Child 0 8192) (Then (Literal 1) (Then (Plain Execute) (Then (Text text.Address 8192 2) (Then (Plain DropTop) (Then (Plain Fetch) (Then (Plain Emit) Empty)))))) ∷ [];
  main_body = 1;
  tokens = Child 0 8192 ∷ [];
  data_start = 8192;
  first_space = 10 ∷ 0 ∷ [];
  source_tokens = 20;
}

children_are_built : IsBuilt [] children
unfolding children
children_are_built = record {
  has_main = omega arith;
  items = refl;
  token_items = refl;
  leaves_in_loops = refl;
  code_fits = omega arith;
  data_start = record { is_even = refl; at_least = omega arith; at_most = omega arith };
  tokens_counted = omega arith;
}

children_print : (open_run (laid_out [] children) [] 80).printed ≡ 10 ∷ 10 ∷ 10 ∷ []
unfolding children
children_print = refl

-- : SAY EMIT ; : SIGN IF 43 SAY ELSE 45 SAY THEN ; : MAIN 1 SIGN 0 SIGN EXIT ;
tails : SourceProgram
tails =
    program (Then (Plain Emit) Empty ∷ Then (If (Then (Literal 43) (Then (Call 0) Empty)) (Then (Literal 45) (Then (Call 0) Empty))) Empty
    ∷ Then (Literal 1) (Then (Call 1) (Then (Literal 0) (Then (Call 1) (Then Exit Empty)))) ∷ []) 2 24

-- SIGN has two jumps to SAY and no return, and MAIN ends by a jump too
tails_cells : (laid_out [] tails).cells ≡ 0x402F ∷ 0x8000 ∷ 0xC004 ∷ 0x6023 ∷ 0 ∷ 0 ∷ 0 ∷ 0 ∷ behind (0xC000 ∷ 0x6023 ∷ 0x6103 ∷ 0x700C
    ∷ 0x202D ∷ 0x802B ∷ 0x0026 ∷ 0x802D ∷ 0x0026 ∷ 0x8001 ∷ 0x402A ∷ 0x8000 ∷ 0x002A ∷ [])
unfolding tails
tails_cells = refl

tails_print : (open_run (laid_out [] tails) [] 40).printed ≡ 43 ∷ 45 ∷ []
unfolding tails
tails_print = refl

-- : K CASE 1 OF 65 ENDOF 2 OF 66 ENDOF 67 SWAP ENDCASE EMIT ; : MAIN 1 K 2 K 9 K ;
cases : SourceProgram
cases =
    program (Then (Case (Arm (Then (Literal 1) Empty) (Then (Literal 65) Empty) (Arm (Then (Literal 2) Empty) (Then (Literal 66) Empty) NoArm)) (Then (Literal 67) (Then (Plain Swap) Empty))) (Then (Plain Emit) Empty)
    ∷ Then (Literal 1) (Then (Call 0) (Then (Literal 2) (Then (Call 0) (Then (Literal 9) (Then (Call 0) Empty))))) ∷ []) 1 27

cases_print : (open_run (laid_out [] cases) [] 80).printed ≡ 65 ∷ 66 ∷ 67 ∷ []
unfolding cases
cases_print = refl

-- : MAIN 0 0 ?DO 65 EMIT LOOP 3 0 ?DO 66 EMIT LOOP BEGIN KEY EMIT AGAIN ;
skipping : SourceProgram
skipping =
    program (Then (Literal 0) (Then (Literal 0) (Then (QDo (Then (Literal 65) (Then (Plain Emit) Empty)) false)
    (Then (Literal 3) (Then (Literal 0) (Then (QDo (Then (Literal 66) (Then (Plain Emit) Empty)) false) (Then (Again (Then (Plain Key) (Then (Plain Emit) Empty))) Empty)))))) ∷ []) 0 20

skipping_prints : (open_run (laid_out [] skipping) (97 ∷ []) 100).printed ≡ 66 ∷ 66 ∷ 66 ∷ 97 ∷ []
unfolding skipping
skipping_prints = refl

-- where data space begins at 6000: : MAIN BASE @ EMIT ;
split : SourceProgram
split = record (program (Then (Plain Base) (Then (Plain Fetch) (Then (Plain Emit) Empty)) ∷ []) 0 6) { data_start = 6000; first_space = 65 ∷ [] }

split_prints : (open_run (laid_out [] split) [] 10).printed ≡ 65 ∷ []
unfolding split
split_prints = refl

-- : W 66 ?DUP ; : B 67 EMIT ; ' B CONSTANT TB : MAIN W EMIT EMIT TB EXECUTE ; with last calls of a library word and of EXECUTE
last_words : SourceProgram
last_words = record {
  names = [];
  bodies = Then (Literal 66) (Then (Plain QDup) Empty) ∷ Then (Literal 67) (Then (Plain Emit) Empty) ∷ Then (Call 0) (Then (Plain Emit) (Then (Plain Emit) (Then (Literal 1) (Then (Plain Execute) Empty)))) ∷ [];
  main_body = 2;
  tokens = Call 1 ∷ [];
  data_start = 8192;
  first_space = [];
  source_tokens = 24;
}

last_words_print : (open_run (laid_out library last_words) [] 80).printed ≡ 66 ∷ 66 ∷ 67 ∷ []
unfolding library last_words
last_words_print = refl

last_words_halt : (open_run (laid_out library last_words) [] 80).stop ≡ Some (By (chip.Halted 0))
unfolding library last_words
last_words_halt = refl

-- ---- what is meant, and that the law applies

two_means : source_run two [] 10 ≡ Ends (Halted 0) (record (first_world two []) { printed = 65 ∷ []; made = Stored 0x4000 65 ∷ [] })
unfolding two source_run steps step
two_means = refl

abbrev on_state : Outcome → (State → Type 0) → Type 0
on_state (Goes s) holds = holds s
on_state (Ends end world) holds = Unit {0}

-- a property of each of k states, one after the other
abbrev Each : (State → Type 0) → SourceProgram → ℕ → State → Type 0
Each P p zero s = Unit {0}
Each P p (suc k) s = P s × on_state (step p s) (Each P p k)

each_is : (P : State → Type 0) (p : SourceProgram) (k : ℕ) (s : State) → Each P p k s → (j : ℕ) (t : State) → j < k → steps p j s ≡ Goes t → P t
unfolding steps
each_is P p zero s fits j t lt e = absurd (omega arith)
each_is P p (suc k) s fits zero t lt e = let same : s ≡ t = cc in subst P same fits.0
each_is P p (suc k) s fits (suc j) t lt e = later (step p s) fits.1 e (λ m fits e. each_is P p k m fits j t (omega arith) e)
  where
    later : (o : Outcome) → on_state o (Each P p k) → and_then o (steps p j) ≡ Goes t → ((m : State) → Each P p k m → steps p j m ≡ Goes t → P t) → P t
    later (Goes m) fits e onward = onward m fits e
    later (Ends end world) fits e onward = absurd (cc)

abbrev DepthIsFit : State → Type 0
DepthIsFit s = DepthFits (first_work s.work) s.cells

two_goes_well : IsSafe two [] 10
unfolding two source_run steps step
two_goes_well = record { lacks_nothing = refl; depth_fits = each_is DepthIsFit two 10 (first_state two []) (search rules) }

two_does_as_much : ImagesAgree → ForwardSimulation [] two [] 10
unfolding two
two_does_as_much agree = agree.forward [] two [] 10 (record { items = refl; own_items = refl; leaves_in_loops = refl }) (λ word number is lt. absurd (omega arith)) two_is_built (search rules)
    (search rules) two_goes_well (ap leaves two_means)

-- ---- a library that means its words

unfoldable AtMost : ℕ → State → Type 0
AtMost n s = BodyTakesNoMore QDup n s

at_most : (n : ℕ) (s : State) → s.work ≢ [] → length s.cells + peak_of [] (first_work s.work) ≤ n + 2 → 1 + entries_height s.entries + back_of (first_work s.work) ≤ 2 → AtMost n s
unfolding AtMost
at_most n s busy cells returns = record { busy = busy; cells = cells; returns = returns }

doubling : (p : SourceProgram) (c : List ℕ) (x : ℕ) (world : World) → BodyMeans QDup (slice_index_or library 0 Empty) p (x ∷ c) world
unfolding library steps step spent AtMost
doubling p c zero world = record {
  count = 2;
  does = refl;
  within_price = omega arith;
  within_stacks = each_is (AtMost (suc (length c))) p 2 _ (at_most _ _ (λ e. cc) (omega arith) (omega arith), (at_most _ _ (λ e. cc) (omega arith) (omega arith), tt));
}
doubling p c (suc x) world = record {
  count = 3;
  does = refl;
  within_price = omega arith;
  within_stacks = each_is (AtMost (suc (length c))) p 3 _ (at_most _ _ (λ e. cc) (omega arith) (omega arith), (at_most _ _ (λ e. cc) (omega arith) (omega arith), (at_most _ _ (λ e. cc) (omega arith) (omega arith), tt)));
}
