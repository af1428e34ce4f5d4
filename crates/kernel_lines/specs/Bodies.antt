-- The definitions of the kernel that read a line, go over its words and reply, as trees; above each stands its line of the kernel's text.
use Rattle.std.specs.Prelude.{◌≡◌, [], ◌∷◌}
use Rattle.word_table.specs.declared.word.Word.TheVariants.{Blank, CFetch, CStore, Count, Cr, DropTop, Dup, Equal, Fetch, Here, Key, Max}
use Rattle.word_table.specs.declared.word.Word.TheVariants.{OnePlus, Or, Over, Plus}
use Rattle.word_table.specs.declared.word.Word.TheVariants.{QDup, Store, TypeOut, ULess, ZeroEqual}
use Rattle.forth_program.specs.declared.item.TextKind.TheVariants as text
use Rattle.forth_program.specs.Tree.{Nodes, Literal, Plain, Call, Text, If, Until, While, Exit, Empty}
use Rattle.forth_program.specs.Program.{SourceProgram, body_of}
use Rattle.kernel_words.specs.Places.{error_cell, here_cell, latest_cell, length_cell, line_buffer, next_word_place, reached_cell}
use Rattle.kernel_words.specs.Places.{source_cell, word_buffer}
use Rattle.kernel_words.specs.Bodies.{items}
use Rattle.kernel_lines.specs.Places.{state_cell, new_cell, kept_here_cell, kept_latest_cell, first_here_cell, user_count_cell}
use Rattle.kernel_lines.specs.Places.{open_count_cell, leaves_cell, loops_cell, level_cell}
use Rattle.kernel_lines.specs.Places.{unknown_text, stack_text, long_text, full_text, well_text}
use Rattle.kernel_lines.specs.Places.{stack_fail_place, close_all_place, try_place, interpret_word_place, check_place, keep_places_place}
use Rattle.kernel_lines.specs.Places.{interpret_place, keep_byte_place}
use Rattle.kernel_lines.specs.Places.{read_line_place, reset_place, say_word_place, complain_place, reply_place, one_line_place, main_place}

-- : STACK-FAIL ( -- ) 4 ERROR ! ;
abbrev pub stack_fail_body : Nodes
stack_fail_body = items (Literal 4 ∷ Literal error_cell ∷ Plain Store ∷ [])

-- : CLOSE-ALL ( -- ) 0 OPEN-COUNT ! 0 LEAVES ! 0 LOOPS ! ;
abbrev pub close_all_body : Nodes
close_all_body = items (Literal 0 ∷ Literal open_count_cell ∷ Plain Store ∷ Literal 0 ∷ Literal leaves_cell ∷ Plain Store ∷ Literal 0 ∷
    Literal loops_cell ∷ Plain Store ∷ [])

-- : CHECK ( -- ) 20 USER-CELLS @ U< IF STACK-FAIL THEN HERE FIRST-HERE @ U< 16288 HERE U< OR IF 6 ERROR ! THEN ;
abbrev pub check_body : Nodes
check_body = items (Literal 20 ∷ Literal user_count_cell ∷ Plain Fetch ∷ Plain ULess ∷ If
    (items (Call stack_fail_place ∷ [])) Empty ∷ Plain Here ∷
    Literal first_here_cell ∷ Plain Fetch ∷ Plain ULess ∷ Literal 16288 ∷ Plain Here ∷ Plain ULess ∷ Plain Or ∷
    If (items (Literal 6 ∷ Literal error_cell ∷ Plain Store ∷ [])) Empty ∷ [])

-- : KEEP-PLACES ( -- ) ERROR @ IF EXIT THEN NEW @ IF EXIT THEN HERE KEPT-HERE ! LATEST @ KEPT-LATEST ! ;
abbrev pub keep_places_body : Nodes
keep_places_body = items (Literal error_cell ∷ Plain Fetch ∷ If (items (Exit ∷ [])) Empty ∷ Literal new_cell ∷ Plain Fetch ∷ If
    (items (Exit ∷ [])) Empty ∷
    Plain Here ∷ Literal kept_here_cell ∷ Plain Store ∷ Literal latest_cell ∷ Plain Fetch ∷ Literal kept_latest_cell ∷ Plain Store ∷ [])

-- : INTERPRET ( -- ) BEGIN ERROR @ IF 0 ELSE NEXT-WORD C@ THEN
--   WHILE WORD-BUFFER INTERPRET-WORD ?DUP IF TRY THEN CHECK KEEP-PLACES REPEAT ;
abbrev pub interpret_test : Nodes
interpret_test = items (Literal error_cell ∷ Plain Fetch ∷ If (items (Literal 0 ∷ []))
    (items (Call next_word_place ∷ Plain CFetch ∷ [])) ∷ [])

abbrev pub interpret_turn : Nodes
interpret_turn = items (Literal word_buffer ∷ Call interpret_word_place ∷ Plain QDup ∷ If (items (Call try_place ∷ [])) Empty ∷
    Call check_place ∷ Call keep_places_place ∷ [])

abbrev pub interpret_body : Nodes
interpret_body = items (While interpret_test interpret_turn ∷ [])

-- : KEEP-BYTE ( n c -- n ) OVER 80 U< IF OVER LINE + C! 1+ ELSE DROP 5 ERROR ! THEN ;
abbrev pub keep_byte_body : Nodes
keep_byte_body = items (Plain Over ∷ Literal 80 ∷ Plain ULess ∷ If
    (items (Plain Over ∷ Literal line_buffer ∷ Plain Plus ∷ Plain CStore ∷ Plain OnePlus ∷ []))
    (items (Plain DropTop ∷ Literal 5 ∷ Literal error_cell ∷ Plain Store ∷ [])) ∷ [])

-- : READ-LINE ( -- ) 0 BEGIN KEY DUP 10 = 0= WHILE BL MAX KEEP-BYTE REPEAT DROP LENGTH ! ;
abbrev pub read_line_body : Nodes
read_line_body = items (Literal 0 ∷ While (items (Plain Key ∷ Plain Dup ∷ Literal 10 ∷ Plain Equal ∷ Plain ZeroEqual ∷ []))
    (items (Plain Blank ∷ Plain Max ∷ Call keep_byte_place ∷ [])) ∷ Plain DropTop ∷ Literal length_cell ∷ Plain Store ∷ [])

-- : RESET ( -- ) 0 STATE ! 0 NEW ! 0 ERROR ! CLOSE-ALL KEPT-HERE @ HERE-CELL ! KEPT-LATEST @ LATEST ! ;
abbrev pub reset_body : Nodes
reset_body = items (Literal 0 ∷ Literal state_cell ∷ Plain Store ∷ Literal 0 ∷ Literal new_cell ∷ Plain Store ∷ Literal 0 ∷
    Literal error_cell ∷ Plain Store ∷
    Call close_all_place ∷ Literal kept_here_cell ∷ Plain Fetch ∷ Literal here_cell ∷ Plain Store ∷ Literal kept_latest_cell ∷ Plain Fetch ∷
    Literal latest_cell ∷ Plain Store ∷ [])

-- : SAY-WORD ( -- ) WORD-BUFFER COUNT TYPE ;
abbrev pub say_word_body : Nodes
say_word_body = items (Literal word_buffer ∷ Plain Count ∷ Plain TypeOut ∷ [])

-- : COMPLAIN ( -- ) ERROR @ 1 = IF SAY-WORD ." ?" CR THEN ERROR @ 4 = IF SAY-WORD ." stack ?" CR THEN ERROR @ 5 = IF ." line too long ?" CR
-- THEN ERROR @ 6 = IF SAY-WORD ." full ?" CR THEN ERROR @ 3 = 0= IF 0 USER-CELLS ! THEN RESET ;
abbrev pub complain_body : Nodes
complain_body = items (
    Literal error_cell ∷ Plain Fetch ∷ Literal 1 ∷ Plain Equal ∷ If
    (items (Call say_word_place ∷ Text text.Print unknown_text 2 ∷ Plain Cr ∷ [])) Empty ∷
    Literal error_cell ∷ Plain Fetch ∷ Literal 4 ∷ Plain Equal ∷ If
    (items (Call say_word_place ∷ Text text.Print stack_text 8 ∷ Plain Cr ∷ [])) Empty ∷
    Literal error_cell ∷ Plain Fetch ∷ Literal 5 ∷ Plain Equal ∷ If (items (Text text.Print long_text 15 ∷ Plain Cr ∷ [])) Empty ∷
    Literal error_cell ∷ Plain Fetch ∷ Literal 6 ∷ Plain Equal ∷ If
    (items (Call say_word_place ∷ Text text.Print full_text 7 ∷ Plain Cr ∷ [])) Empty ∷
    Literal error_cell ∷ Plain Fetch ∷ Literal 3 ∷ Plain Equal ∷ Plain ZeroEqual ∷ If
    (items (Literal 0 ∷ Literal user_count_cell ∷ Plain Store ∷ [])) Empty ∷
    Call reset_place ∷ [])

-- : REPLY ( -- ) ERROR @ IF COMPLAIN ELSE ."  ok" CR THEN ;
abbrev pub reply_body : Nodes
reply_body = items (Literal error_cell ∷ Plain Fetch ∷ If (items (Call complain_place ∷ []))
    (items (Text text.Print well_text 3 ∷ Plain Cr ∷ [])) ∷ [])

-- : ONE-LINE ( -- ) READ-LINE LINE SOURCE-START ! 0 >IN ! 0 LEVEL ! INTERPRET REPLY ;
abbrev pub one_line_body : Nodes
one_line_body = items (Call read_line_place ∷ Literal line_buffer ∷ Literal source_cell ∷ Plain Store ∷ Literal 0 ∷ Literal reached_cell ∷
    Plain Store ∷ Literal 0 ∷ Literal level_cell ∷ Plain Store ∷ Call interpret_place ∷ Call reply_place ∷ [])

-- : MAIN ( -- ) RESET BEGIN ONE-LINE 0 UNTIL ;
abbrev pub main_body : Nodes
main_body = items (Call reset_place ∷ Until (items (Call one_line_place ∷ Literal 0 ∷ [])) ∷ [])

-- a program that has at their places the definitions that go over the words of a line
pub record HasInterpreter (p : SourceProgram) : Type 0 where
  pub stack_fail : body_of p stack_fail_place ≡ stack_fail_body
  pub close_all : body_of p close_all_place ≡ close_all_body
  pub check : body_of p check_place ≡ check_body
  pub keep_places : body_of p keep_places_place ≡ keep_places_body
  pub interpret : body_of p interpret_place ≡ interpret_body

-- and those that read a line and reply
pub record HasLines (p : SourceProgram) : Type 0 where
  pub interpreter : HasInterpreter p
  pub keep_byte : body_of p keep_byte_place ≡ keep_byte_body
  pub read_line : body_of p read_line_place ≡ read_line_body
  pub reset : body_of p reset_place ≡ reset_body
  pub say_word : body_of p say_word_place ≡ say_word_body
  pub complain : body_of p complain_place ≡ complain_body
  pub reply : body_of p reply_place ≡ reply_body
  pub one_line : body_of p one_line_place ≡ one_line_body
  pub main : body_of p main_place ≡ main_body
