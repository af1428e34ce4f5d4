-- The definitions of the kernel that do the words of a line outside definitions, as trees; above each stands its line of the kernel's text.
use Rattle.std.specs.Prelude.{◌≡◌, ℕ, List, [], ◌∷◌}
use Rattle.word_table.specs.declared.word.Word.TheVariants.{And, CFetch, Cells, DropTop, Dup, Equal, Fetch, Go, Minus, OneMinus, OnePlus}
use Rattle.word_table.specs.declared.word.Word.TheVariants.{Over, Plus, QDup, RShift, Store, TwoDrop, ULess, ZeroLess}
use Rattle.forth_program.specs.Tree.{Node, Nodes, Literal, Plain, Call, Exit, If, While, Empty}
use Rattle.forth_program.specs.Program.{SourceProgram, body_of}
use Rattle.kernel_words.specs.Places.{error_cell, word_buffer, next_word_place, kernel_find_place, kernel_number_place}
use Rattle.kernel_words.specs.Bodies.{IsKernel, items}
use Rattle.kernel_lines.specs.Bodies.{HasInterpreter}
use Rattle.kernel_definitions.specs.Bodies.{fail_body, structure_body, found_body, put_body, interpret_word_body}
use Rattle.kernel_lines.specs.Places.{state_cell, user_count_cell}
use Rattle.kernel_interpreter.specs.Places.{needs, run_code, run_call, return_words, return_words_size}
use Rattle.kernel_definitions.specs.Places.{fail_place, compile_literal_place, compile_call_place, push_user_place}
use Rattle.kernel_lines.specs.Places.{stack_fail_place}
use Rattle.kernel_interpreter.specs.Places.{pop_user_place, run_place, need_place}
use Rattle.kernel_lines.specs.Places.{try_place, interpret_word_place, check_place, keep_places_place, interpret_place}
use Rattle.kernel_definitions.specs.Places.{structure_place, found_place, put_place}
use Rattle.kernel_definitions.specs.Places.{kernel_colon_place, kernel_semicolon_place, kernel_if_place, kernel_else_place, kernel_then_place}
use Rattle.kernel_definitions.specs.Places.{kernel_begin_place, kernel_until_place, kernel_while_place, kernel_repeat_place}

-- : PUSH-USER ( x -- ) USER-CELLS @ 1+ DUP USER-CELLS ! CELLS USER-CELLS + ! ;
abbrev pub push_user_body : Nodes
push_user_body = items (Literal user_count_cell ∷ Plain Fetch ∷ Plain OnePlus ∷ Plain Dup ∷ Literal user_count_cell ∷ Plain Store ∷
    Plain Cells ∷ Literal user_count_cell ∷ Plain Plus ∷ Plain Store ∷ [])

-- : POP-USER ( -- x ) USER-CELLS @ DUP IF DUP 1- USER-CELLS ! CELLS USER-CELLS + @ ELSE FAIL THEN ;
abbrev pub pop_user_body : Nodes
pop_user_body = items (Literal user_count_cell ∷ Plain Fetch ∷ Plain Dup ∷
    If (items (Plain Dup ∷ Plain OneMinus ∷ Literal user_count_cell ∷ Plain Store ∷ Plain Cells ∷ Literal user_count_cell ∷ Plain Plus ∷
    Plain Fetch ∷ [])) (items (Call fail_place ∷ [])) ∷ [])

-- : RUN ( xt -- ) 1 RSHIFT 16384 + RUN-CALL ! RUN-CODE GO ;
abbrev pub run_body : Nodes
run_body = items (Literal 1 ∷ Plain RShift ∷ Literal 16384 ∷ Plain Plus ∷ Literal run_call ∷ Plain Store ∷ Literal run_code ∷ Plain Go ∷ [])

-- : NEED ( xt -- n ) DUP TO-R - [ RETURN-WORDS-END TO-R - ] LITERAL U< IF DROP 99 EXIT THEN
--   1 RSHIFT 7 - DUP 140 U< IF NEEDS + C@ ELSE DROP 0 THEN ;
abbrev pub need_body : Nodes
need_body = items (Plain Dup ∷ Literal return_words ∷ Plain Minus ∷ Literal return_words_size ∷ Plain ULess ∷ If (items (Plain DropTop ∷
    Literal 99 ∷ Exit ∷ [])) Empty ∷ Literal 1 ∷ Plain RShift ∷ Literal 7 ∷ Plain Minus ∷ Plain Dup ∷ Literal 140 ∷ Plain ULess ∷
    If (items (Literal needs ∷ Plain Plus ∷ Plain CFetch ∷ [])) (items (Plain DropTop ∷ Literal 0 ∷ [])) ∷ [])

-- : TRY ( xt -- ) USER-CELLS @ OVER NEED U< IF DROP STACK-FAIL ELSE RUN THEN ;
abbrev pub try_body : Nodes
try_body = items (Literal user_count_cell ∷ Plain Fetch ∷ Plain Over ∷ Call need_place ∷ Plain ULess ∷ If (items (Plain DropTop ∷
    Call stack_fail_place ∷ [])) (items (Call run_place ∷ [])) ∷ [])

-- ---- a word of no stack effect that STRUCTURE does itself: its execution token, and its definition
pub record Structure : Type 0 where
  pub token : ℕ
  pub definition : ℕ

-- `: ; IF ELSE THEN BEGIN UNTIL WHILE REPEAT`
abbrev pub structures : List Structure
structures =
    record { token = 5; definition = kernel_colon_place } ∷ record { token = 6; definition = kernel_semicolon_place } ∷
    record { token = 7; definition = kernel_if_place } ∷ record { token = 8; definition = kernel_else_place } ∷
    record { token = 9; definition = kernel_then_place } ∷ record { token = 10; definition = kernel_begin_place } ∷
    record { token = 11; definition = kernel_until_place } ∷ record { token = 12; definition = kernel_while_place } ∷
    record { token = 13; definition = kernel_repeat_place } ∷ []

-- a program that has these definitions at their places, and those that it calls
pub record IsInterpreter (p : SourceProgram) : Type 0 where
  pub words : IsKernel p
  pub interpreter : HasInterpreter p
  pub fail : body_of p fail_place ≡ fail_body
  pub push_user : body_of p push_user_place ≡ push_user_body
  pub pop_user : body_of p pop_user_place ≡ pop_user_body
  pub run : body_of p run_place ≡ run_body
  pub need : body_of p need_place ≡ need_body
  pub try : body_of p try_place ≡ try_body
  pub structure : body_of p structure_place ≡ structure_body
  pub found : body_of p found_place ≡ found_body
  pub put : body_of p put_place ≡ put_body
  pub interpret_word : body_of p interpret_word_place ≡ interpret_word_body
