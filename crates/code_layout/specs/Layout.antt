-- The image of a program: a header of eight cells, a jump for each execution token, the code of each library word, that of
-- EXECUTE and ABORT", that of each definition, that of the tokens that have none, and that of GO, if it is used. A call in tail position
-- is a jump, and no return follows it.
use Rattle.std.specs.Prelude.{ℕ, zero, suc, ◌+◌, Bool, true, false, not, ◌||◌, List, [], ◌∷◌, ◌++◌, length, Option, Some, None}
use Rattle.word_table.specs.declared.word.Word.{Word}
use Rattle.word_table.specs.declared.word.Word.TheVariants.{And, DropTop, Dup, Equal, Execute, Go, Invert, OnePlus, Over, Plus, RFrom, Swap, ToR, Xor, ZeroLess}
use Rattle.word_table.specs.Table.{cells_from, cells_of}
use Rattle.forth_program.specs.declared.item.TextKind.{TextKind}
use Rattle.forth_program.specs.declared.item.TextKind.TheVariants as text
use Rattle.forth_program.specs.Tree.{Node, Nodes, Arms, Literal, Plain, Call, Child, Text, If, Until, While, Again, Do, QDo, Case, Leave, Exit, Empty, Then, NoArm, Arm}
use Rattle.forth_program.specs.Tail.{is_tail}
use Rattle.forth_program.specs.Program.{SourceProgram}
use Rattle.forth_program.specs.Form.{has_no_go}
use Rattle.j1_table.specs.Image.{Content}
use Rattle.word_laws.specs.Control.{halt_cells}
use Rattle.word_laws.specs.Numbers.{number_cells}
use Rattle.code_layout.specs.Numbering.{library_number}

-- ---- single cells

abbrev pub jump_to : ℕ → ℕ
jump_to target = target

-- jumps where T is 0
abbrev pub branch_to : ℕ → ℕ
branch_to target = 0x2000 + target

abbrev pub call_to : ℕ → ℕ
call_to target = 0x4000 + target

abbrev pub return_cell : ℕ
return_cell = 0x700C

-- the cells of words, one behind the other
abbrev pub phrase : List Word → List ℕ
phrase [] = []
phrase (word ∷ words) = cells_of word ++ phrase words

-- ---- loops, which keep two return cells: the limit, and above it index minus limit

-- DO takes the limit and the start
abbrev pub do_cells : List ℕ
do_cells = phrase (Swap ∷ Dup ∷ ToR ∷ Invert ∷ Plus ∷ OnePlus ∷ ToR ∷ [])

-- LOOP adds 1, and leaves 0 where the limit is met
abbrev pub loop_cells : List ℕ
loop_cells = phrase (RFrom ∷ OnePlus ∷ Dup ∷ ToR ∷ [])

-- +LOOP adds the step, and leaves 0 where the boundary at the limit is not crossed
abbrev pub plus_loop_cells : List ℕ
plus_loop_cells = phrase (RFrom ∷ Over ∷ Over ∷ Xor ∷ ToR ∷ Swap ∷ Over ∷ Plus ∷ Swap ∷ Over ∷ Xor ∷ RFrom ∷ And ∷ ZeroLess ∷ Swap ∷ ToR ∷ [])

-- where the loop is over its two cells are dropped
abbrev pub out_cells : List ℕ
out_cells = phrase (RFrom ∷ DropTop ∷ RFrom ∷ DropTop ∷ [])

-- the end of a turn, by LOOP or by +LOOP, with the places of the body and of what drops the loop
abbrev pub turn_cells : Bool → ℕ → ℕ → List ℕ
turn_cells false body_at out_at = loop_cells ++ branch_to out_at ∷ jump_to body_at ∷ []
turn_cells true body_at out_at = plus_loop_cells ++ branch_to body_at ∷ []

abbrev pub turn_size : Bool → ℕ
turn_size false = 7
turn_size true = 18

-- ?DO leaves the loop out where limit and start are equal, by a jump over it
abbrev pub q_do_cells : ℕ → ℕ → List ℕ
q_do_cells loop_at end_at = phrase (Over ∷ Over ∷ Equal ∷ []) ++ branch_to loop_at ∷ (phrase (DropTop ∷ DropTop ∷ []) ++ jump_to end_at ∷ [])

-- ---- the arms of a CASE

-- OF goes on to the other arms where its cell is not that of the case, and else drops that
abbrev pub of_cells : ℕ → List ℕ
of_cells other_at = phrase (Over ∷ Equal ∷ []) ++ branch_to other_at ∷ phrase (DropTop ∷ [])

-- ENDCASE: DROP
abbrev pub end_case_cells : List ℕ
end_case_cells = phrase (DropTop ∷ [])

-- ---- what code calls: definitions of the program, library words by their numbers, and the code of EXECUTE, of ABORT" and of GO

pub data Routine : Type 0 where
  Definition : (definition : ℕ) → Routine
  Library : (number : ℕ) → Routine
  Executing : Routine
  Aborting : Routine
  Leaving : Routine

-- the routine of a library word
abbrev pub numbered : Option ℕ → Option Routine
numbered None = None
numbered (Some number) = Some (Library number)

-- that of a word, where its cells do not stand in the code that uses it
abbrev pub routine_of : Word → Option Routine
routine_of Execute = Some Executing
routine_of Go = Some Leaving
routine_of word = numbered (library_number word)

-- TYPE
abbrev pub type_routine : Routine
type_routine = Library 34

-- ---- which code is reached

-- whether what stands behind a word is reached from it: not behind the last call of a routine
abbrev pub word_falls_through : Option Routine → Bool → Bool
word_falls_through None tail = true
word_falls_through (Some routine) tail = not tail

abbrev pub text_falls_through : TextKind → Bool → Bool
text_falls_through text.Address tail = true
text_falls_through kind tail = not tail

-- whether what stands behind an item is reached from it, in tail position or not: not behind a last call, EXIT and AGAIN
abbrev mutual
  pub falls_through : Bool → Node → Bool
  falls_through tail (Plain word) = word_falls_through (routine_of word) tail
  falls_through tail (Call definition) = not tail
  falls_through tail (Child definition address) = not tail
  falls_through tail (Text kind address characters) = text_falls_through kind tail
  falls_through tail (If first second) = reaches_end tail true first || reaches_end tail true second
  falls_through tail (Again body) = false
  falls_through tail Exit = false
  falls_through tail node = true

  -- whether the end of items is reached, which is in tail position or not, where their beginning is reached or not
  pub reaches_end : Bool → Bool → Nodes → Bool
  reaches_end tail reached Empty = reached
  reaches_end tail reached (Then node rest) = reaches_end tail (falls_through (is_tail rest tail) node) rest

-- a cell that stands only where it is reached
abbrev pub cell_if : Bool → ℕ → List ℕ
cell_if true cell = cell ∷ []
cell_if false cell = []

abbrev pub size_if : Bool → ℕ
size_if true = 1
size_if false = 0

-- ---- sizes in cells, by the tree alone

-- a library word is a call
abbrev pub word_size : Option Routine → Word → ℕ
word_size None word = length (cells_of word)
word_size (Some routine) word = 1

-- what follows the address and the length of a text
abbrev pub text_size : TextKind → ℕ
text_size text.Address = 0
text_size kind = 1

-- the jump over a false branch, where it has items
abbrev pub else_size : Bool → Nodes → Nodes → ℕ
else_size tail first Empty = 0
else_size tail first (Then node rest) = size_if (reaches_end tail true first)

-- of an item in tail position or not, which is reached or not
abbrev mutual
  pub node_size : Bool → Bool → Node → ℕ
  node_size tail reached (Literal value) = length (number_cells value)
  node_size tail reached (Plain word) = word_size (routine_of word) word
  node_size tail reached (Call definition) = 1
  node_size tail reached (Child definition address) = length (number_cells address) + 1
  node_size tail reached (Text kind address characters) = length (number_cells address) + length (number_cells characters) + text_size kind
  node_size tail reached (If first second) = 1 + size tail true first + else_size tail first second + size tail true second
  node_size tail reached (Until body) = size false true body + 1
  node_size tail reached (While test body) = size false true test + 1 + size false true body + 1
  node_size tail reached (Again body) = size false true body + 1
  node_size tail reached (Do body plus) = 8 + size false true body + turn_size plus + 4
  node_size tail reached (QDo body plus) = 7 + (8 + size false true body + turn_size plus + 4)
  node_size tail reached (Case arms rest) = arms_size tail arms + size false true rest + 1
  node_size tail reached Leave = 1
  node_size tail reached Exit = size_if reached

  pub size : Bool → Bool → Nodes → ℕ
  size tail reached Empty = 0
  size tail reached (Then node rest) = node_size (is_tail rest tail) reached node + size tail (falls_through (is_tail rest tail) node) rest

  pub arms_size : Bool → Arms → ℕ
  arms_size tail NoArm = 0
  arms_size tail (Arm tests body others) = size false true tests + 4 + size tail true body + size_if (reaches_end tail true body) + arms_size tail others

-- with a definition's own return, where it is reached
abbrev pub body_size : Nodes → ℕ
body_size body = size true true body + size_if (reaches_end true true body)

-- ---- places

-- where the false branch of an IF begins
abbrev pub else_place : ℕ → Bool → Nodes → Nodes → ℕ
else_place at tail first second = at + 1 + size tail true first + else_size tail first second

-- where what stands between WHILE and REPEAT begins
abbrev pub while_place : ℕ → Nodes → ℕ
while_place at test = at + size false true test + 1

-- where the cells of a loop are dropped
abbrev pub out_place : ℕ → Nodes → Bool → ℕ
out_place at body plus = at + 8 + size false true body + turn_size plus

-- where the body of an arm begins, and where the other arms begin
abbrev pub arm_place : ℕ → Nodes → ℕ
arm_place at tests = at + size false true tests + 4

abbrev pub others_place : ℕ → Bool → Nodes → Nodes → ℕ
others_place at tail tests body = arm_place at tests + size tail true body + size_if (reaches_end tail true body)

-- ---- code, where data space begins at a byte address: `place` gives where each routine begins, and `out_at` where the
-- innermost loop is dropped

-- a call in tail position is a jump
abbrev pub call_cell : Bool → ℕ → ℕ
call_cell true target = jump_to target
call_cell false target = call_to target

-- a word's own cells, or the call of a library word
abbrev pub word_cells : ℕ → (Routine → ℕ) → Bool → Option Routine → Word → List ℕ
word_cells data_start place tail None word = cells_from data_start word
word_cells data_start place tail (Some routine) word = call_cell tail (place routine) ∷ []

-- what follows the address and the length of a text: nothing for S", TYPE for .", and the code of ABORT"
abbrev pub text_cells : (Routine → ℕ) → Bool → TextKind → List ℕ
text_cells place tail text.Address = []
text_cells place tail text.Print = call_cell tail (place type_routine) ∷ []
text_cells place tail text.Abort = call_cell tail (place Aborting) ∷ []

-- the jump over a false branch
abbrev pub else_cells : Bool → Nodes → Nodes → ℕ → List ℕ
else_cells tail first Empty target = []
else_cells tail first (Then node rest) target = cell_if (reaches_end tail true first) (jump_to target)

-- a loop around the cells of its body
abbrev pub loop_code : ℕ → Nodes → Bool → List ℕ → List ℕ
loop_code at body plus inner = do_cells ++ (inner ++ (turn_cells plus (at + 8) (out_place at body plus) ++ out_cells))

-- an arm around the cells of its tests and of its body
abbrev pub arm_code : ℕ → Bool → ℕ → Nodes → Nodes → List ℕ → List ℕ → List ℕ
arm_code at tail end_at tests body tests_cells body_cells =
    tests_cells ++ (of_cells (others_place at tail tests body) ++ (body_cells ++ cell_if (reaches_end tail true body) (jump_to end_at)))

abbrev mutual
  -- the cells of an item at a place
  pub node_cells : ℕ → (Routine → ℕ) → ℕ → ℕ → Bool → Bool → Node → List ℕ
  node_cells data_start place out_at at tail reached (Literal value) = number_cells value
  node_cells data_start place out_at at tail reached (Plain word) = word_cells data_start place tail (routine_of word) word
  node_cells data_start place out_at at tail reached (Call definition) = call_cell tail (place (Definition definition)) ∷ []
  node_cells data_start place out_at at tail reached (Child definition address) = number_cells address ++ call_cell tail (place (Definition definition)) ∷ []
  node_cells data_start place out_at at tail reached (Text kind address characters) = number_cells address ++ (number_cells characters ++ text_cells place tail kind)
  node_cells data_start place out_at at tail reached (If first second) =
      branch_to (else_place at tail first second) ∷ (nodes_cells data_start place out_at (at + 1) tail true first
      ++ (else_cells tail first second (else_place at tail first second + size tail true second) ++ nodes_cells data_start place out_at (else_place at tail first second) tail true second))
  node_cells data_start place out_at at tail reached (Until body) = nodes_cells data_start place out_at at false true body ++ branch_to at ∷ []
  node_cells data_start place out_at at tail reached (While test body) =
      nodes_cells data_start place out_at at false true test ++ branch_to (while_place at test + size false true body + 1) ∷ (nodes_cells data_start place out_at (while_place at test) false true body ++ jump_to at ∷ [])
  node_cells data_start place out_at at tail reached (Again body) = nodes_cells data_start place out_at at false true body ++ jump_to at ∷ []
  node_cells data_start place out_at at tail reached (Do body plus) = loop_code at body plus (nodes_cells data_start place (out_place at body plus) (at + 8) false true body)
  node_cells data_start place out_at at tail reached (QDo body plus) =
      q_do_cells (at + 7) (out_place (at + 7) body plus + 4) ++ loop_code (at + 7) body plus (nodes_cells data_start place (out_place (at + 7) body plus) (at + 7 + 8) false true body)
  node_cells data_start place out_at at tail reached (Case arms rest) =
      arms_cells data_start place out_at at tail (at + arms_size tail arms + size false true rest + 1) arms ++ (nodes_cells data_start place out_at (at + arms_size tail arms) false true rest ++ end_case_cells)
  node_cells data_start place out_at at tail reached Leave = jump_to out_at ∷ []
  node_cells data_start place out_at at tail reached Exit = cell_if reached return_cell

  -- the cells of items, one after the other
  pub nodes_cells : ℕ → (Routine → ℕ) → ℕ → ℕ → Bool → Bool → Nodes → List ℕ
  nodes_cells data_start place out_at at tail reached Empty = []
  nodes_cells data_start place out_at at tail reached (Then node rest) =
      node_cells data_start place out_at at (is_tail rest tail) reached node
      ++ nodes_cells data_start place out_at (at + node_size (is_tail rest tail) reached node) tail (falls_through (is_tail rest tail) node) rest

  -- the cells of arms, whose bodies lead to the end of their case
  pub arms_cells : ℕ → (Routine → ℕ) → ℕ → ℕ → Bool → ℕ → Arms → List ℕ
  arms_cells data_start place out_at at tail end_at NoArm = []
  arms_cells data_start place out_at at tail end_at (Arm tests body others) =
      arm_code at tail end_at tests body (nodes_cells data_start place out_at at false true tests) (nodes_cells data_start place out_at (arm_place at tests) tail true body)
      ++ arms_cells data_start place out_at (others_place at tail tests body) tail end_at others

-- the cells of one arm
abbrev pub arm_cells : ℕ → (Routine → ℕ) → ℕ → ℕ → Bool → ℕ → Nodes → Nodes → List ℕ
arm_cells data_start place out_at at tail end_at tests body =
    arm_code at tail end_at tests body (nodes_cells data_start place out_at at false true tests) (nodes_cells data_start place out_at (arm_place at tests) tail true body)

-- the code of a definition
abbrev pub body_cells : ℕ → (Routine → ℕ) → ℕ → Nodes → List ℕ
body_cells data_start place at body = nodes_cells data_start place 0 at true true body ++ cell_if (reaches_end true true body) return_cell

-- of definitions, one after the other
abbrev pub bodies_cells : ℕ → (Routine → ℕ) → ℕ → List Nodes → List ℕ
bodies_cells data_start place at [] = []
bodies_cells data_start place at (body ∷ bodies) = body_cells data_start place at body ++ bodies_cells data_start place (at + body_size body) bodies

-- where a definition begins, if the first of them begins at a place
abbrev pub begins_at : ℕ → List Nodes → ℕ → ℕ
begins_at at [] definition = 0
begins_at at (body ∷ bodies) zero = at
begins_at at (body ∷ bodies) (suc definition) = begins_at (at + body_size body) bodies definition

-- the cells of definitions
abbrev pub bodies_size : List Nodes → ℕ
bodies_size [] = 0
bodies_size (body ∷ bodies) = body_size body + bodies_size bodies

-- ---- EXECUTE, ABORT", GO and execution tokens

-- EXECUTE goes on at the cell of its token, which is 7 more, or halts with 13 where there is none of this number:
-- DUP 1- count U< branch 7 + 2* >R return, 13 to the halt port
abbrev pub execute_cells : ℕ → ℕ → List ℕ
execute_cells at count =
    0x6081 ∷ 0x6A00 ∷ (0x8000 + count) ∷ 0x6F03 ∷ branch_to (at + 11) ∷ 0x8007 ∷ 0x6203 ∷ 0x8001 ∷ 0x6D03 ∷ 0x6147 ∷ return_cell ∷ 0x800D ∷ 0xC004 ∷ 0x6023 ∷ 0x6103 ∷ []

-- ABORT" takes a flag, an address and a length: >R >R branch R> R> TYPE, 2 to the halt port, R> DROP R> DROP return
abbrev pub abort_cells : ℕ → ℕ → List ℕ
abort_cells at type_at =
    0x6147 ∷ 0x6147 ∷ branch_to (at + 10) ∷ 0x6B8D ∷ 0x6B8D ∷ call_to type_at ∷ 0x8002 ∷ 0xC004 ∷ 0x6023 ∷ 0x6103 ∷ 0x6B8D ∷ 0x6103 ∷ 0x6B8D ∷ 0x6103 ∷ return_cell ∷ []

-- GO takes an address, and goes on there: >R return
abbrev pub go_cells : List ℕ
go_cells = 0x6147 ∷ return_cell ∷ []

-- they stand in an image only where some body has GO
abbrev pub leaving_cells : Bool → List ℕ
leaving_cells true = []
leaving_cells false = go_cells

abbrev pub leaving_size : Bool → ℕ
leaving_size true = 0
leaving_size false = 2

-- of a token that is a word: that of a library word stands already, and others return
abbrev pub word_token_cells : ℕ → Option ℕ → Word → List ℕ
word_token_cells data_start None word = cells_from data_start word ++ return_cell ∷ []
word_token_cells data_start (Some number) word = []

abbrev pub word_token_size : Option ℕ → Word → ℕ
word_token_size None word = length (cells_of word) + 1
word_token_size (Some number) word = 0

abbrev pub word_token_place : (Routine → ℕ) → ℕ → Option ℕ → ℕ
word_token_place place at None = at
word_token_place place at (Some number) = place (Library number)

-- the code of a token: that of a definition or a library word stands already, a child goes on at its definition, and numbers and other words return
abbrev pub token_cells : ℕ → (Routine → ℕ) → Node → List ℕ
token_cells data_start place (Literal value) = number_cells value ++ return_cell ∷ []
token_cells data_start place (Plain word) = word_token_cells data_start (library_number word) word
token_cells data_start place (Child definition address) = number_cells address ++ jump_to (place (Definition definition)) ∷ []
token_cells data_start place node = []

abbrev pub token_size : Node → ℕ
token_size (Literal value) = length (number_cells value) + 1
token_size (Plain word) = word_token_size (library_number word) word
token_size (Child definition address) = length (number_cells address) + 1
token_size node = 0

abbrev pub tokens_cells : ℕ → (Routine → ℕ) → List Node → List ℕ
tokens_cells data_start place [] = []
tokens_cells data_start place (node ∷ tokens) = token_cells data_start place node ++ tokens_cells data_start place tokens

-- the cells of the code of tokens
abbrev pub tokens_size : List Node → ℕ
tokens_size [] = 0
tokens_size (node ∷ tokens) = token_size node + tokens_size tokens

-- where the code of a token begins, if that of its own would begin at a place
abbrev pub token_place : (Routine → ℕ) → ℕ → Node → ℕ
token_place place at (Call definition) = place (Definition definition)
token_place place at (Plain word) = word_token_place place at (library_number word)
token_place place at node = at

-- a jump to each of them, where the first begins at a place
abbrev pub token_jumps : (Routine → ℕ) → ℕ → List Node → List ℕ
token_jumps place at [] = []
token_jumps place at (node ∷ tokens) = jump_to (token_place place at node) ∷ token_jumps place (at + token_size node) tokens

-- ---- the image

-- where the library begins: after the header and the jumps of the tokens
abbrev pub library_place : SourceProgram → ℕ
library_place p = 8 + length p.tokens

-- EXECUTE, and ABORT"
abbrev pub execute_place : List Nodes → SourceProgram → ℕ
execute_place library p = library_place p + bodies_size library

abbrev pub abort_place : List Nodes → SourceProgram → ℕ
abort_place library p = execute_place library p + 15

-- the first definition, and the code of the tokens
abbrev pub first_place : List Nodes → SourceProgram → ℕ
first_place library p = abort_place library p + 15

abbrev pub tokens_place : List Nodes → SourceProgram → ℕ
tokens_place library p = first_place library p + bodies_size p.bodies

-- GO, at the end
abbrev pub leaving_place : List Nodes → SourceProgram → ℕ
leaving_place library p = tokens_place library p + tokens_size p.tokens

abbrev pub routine_place : List Nodes → SourceProgram → Routine → ℕ
routine_place library p (Definition definition) = begins_at (first_place library p) p.bodies definition
routine_place library p (Library number) = begins_at (library_place p) library number
routine_place library p Executing = execute_place library p
routine_place library p Aborting = abort_place library p
routine_place library p Leaving = leaving_place library p

-- cells 0 to 7: MAIN is called, and then 0 is stored at the halt port
abbrev pub header : ℕ → List ℕ
header main_at = call_to main_at ∷ halt_cells ++ 0 ∷ 0 ∷ 0 ∷ 0 ∷ []

-- the image of a program with a library
abbrev pub laid_out : List Nodes → SourceProgram → Content
laid_out library p =
    let place = routine_place library p in
    record {
      cells = header (place (Definition p.main_body)) ++ (token_jumps place (tokens_place library p) p.tokens
          ++ (bodies_cells p.data_start place (library_place p) library
          ++ (execute_cells (execute_place library p) (length p.tokens)
          ++ (abort_cells (abort_place library p) (place type_routine)
          ++ (bodies_cells p.data_start place (first_place library p) p.bodies
          ++ (tokens_cells p.data_start place p.tokens ++ leaving_cells (has_no_go p)))))));
      bytes = p.first_space;
      data_start = p.data_start;
    }
