-- The definitions of the kernel that compile a typed definition, as trees; above each stands its line of the kernel's text.
use Rattle.std.specs.Prelude.{◌≡◌, [], ◌∷◌}
use Rattle.word_table.specs.declared.word.Word.TheVariants.{Aligned, And, CFetch, Cells, DropTop, Dup, Equal, Fetch, Here, Invert, Minus}
use Rattle.word_table.specs.declared.word.Word.TheVariants.{OneMinus, Or, Plus, PlusStore, QDup}
use Rattle.word_table.specs.declared.word.Word.TheVariants.{Rot, RShift, Store, Swap, TwoDrop, TwoFetch, TwoStore, ULess, ZeroEqual}
use Rattle.word_table.specs.declared.word.Word.TheVariants.{ZeroLess}
use Rattle.forth_program.specs.Tree.{Nodes, Literal, Plain, Call, Exit, If, Empty}
use Rattle.forth_program.specs.Program.{SourceProgram, body_of}
use Rattle.kernel_words.specs.Places.{error_cell, latest_cell, next_word_place, kernel_find_place, kernel_number_place}
use Rattle.kernel_words.specs.Places.{kernel_cell_place, kernel_header_place}
use Rattle.kernel_words.specs.Bodies.{items, IsKernel}
use Rattle.kernel_lines.specs.Bodies.{HasInterpreter}
use Rattle.kernel_lines.specs.Places.{state_cell, new_cell, open_count_cell}
use Rattle.kernel_definitions.specs.Places.{structures, nowhere}
use Rattle.kernel_definitions.specs.Places.{fail_place, code_address_place, compile_literal_place, compile_call_place, compile_return_place}
use Rattle.kernel_definitions.specs.Places.{compile_jump_place, compile_branch_place, patch_place}
use Rattle.kernel_lines.specs.Places.{close_all_place}
use Rattle.kernel_definitions.specs.Places.{entry_place, open_place, close_place, kernel_if_place, kernel_then_place, kernel_else_place}
use Rattle.kernel_definitions.specs.Places.{kernel_begin_place, kernel_until_place}
use Rattle.kernel_definitions.specs.Places.{kernel_while_place, kernel_repeat_place, new_name_place, define_place, kernel_colon_place}
use Rattle.kernel_definitions.specs.Places.{kernel_semicolon_place, push_user_place, structure_place}
use Rattle.kernel_lines.specs.Places.{interpret_word_place}
use Rattle.kernel_definitions.specs.Places.{found_place, put_place}

-- : FAIL ( -- ) 1 ERROR ! ;
abbrev pub fail_body : Nodes
fail_body = items (Literal 1 ∷ Literal error_cell ∷ Plain Store ∷ [])

-- : CODE-ADDRESS ( a -- x ) C@ HERE ALIGNED + 6 + ALIGNED ;
abbrev pub code_address_body : Nodes
code_address_body = items (Plain CFetch ∷ Plain Here ∷ Plain Aligned ∷ Plain Plus ∷ Literal 6 ∷ Plain Plus ∷ Plain Aligned ∷ [])

-- : COMPILE-LITERAL ( x -- ) DUP 0< IF INVERT 32768 + K-CELL 26112 ELSE 32768 + THEN K-CELL ;
abbrev pub compile_literal_body : Nodes
compile_literal_body = items (Plain Dup ∷ Plain ZeroLess ∷ If (items (Plain Invert ∷ Literal 32768 ∷ Plain Plus ∷ Call kernel_cell_place ∷
    Literal 26112 ∷ [])) (items (Literal 32768 ∷ Plain Plus ∷ [])) ∷ Call kernel_cell_place ∷ [])

-- : COMPILE-CALL ( xt -- ) 1 RSHIFT 16384 + K-CELL ;
abbrev pub compile_call_body : Nodes
compile_call_body = items (Literal 1 ∷ Plain RShift ∷ Literal 16384 ∷ Plain Plus ∷ Call kernel_cell_place ∷ [])

-- : COMPILE-RETURN ( -- ) 28684 K-CELL ;
abbrev pub compile_return_body : Nodes
compile_return_body = items (Literal 28684 ∷ Call kernel_cell_place ∷ [])

-- : COMPILE-JUMP ( a -- ) 1 RSHIFT K-CELL ;
abbrev pub compile_jump_body : Nodes
compile_jump_body = items (Literal 1 ∷ Plain RShift ∷ Call kernel_cell_place ∷ [])

-- : COMPILE-BRANCH ( a -- ) 1 RSHIFT 8192 + K-CELL ;
abbrev pub compile_branch_body : Nodes
compile_branch_body = items (Literal 1 ∷ Plain RShift ∷ Literal 8192 ∷ Plain Plus ∷ Call kernel_cell_place ∷ [])

-- : PATCH ( place -- ) HERE 1 RSHIFT SWAP +! ;
abbrev pub patch_body : Nodes
patch_body = items (Plain Here ∷ Literal 1 ∷ Plain RShift ∷ Plain Swap ∷ Plain PlusStore ∷ [])

-- : ENTRY ( n -- a ) CELLS CELLS STRUCTURES + ;
abbrev pub entry_body : Nodes
entry_body = items (Plain Cells ∷ Plain Cells ∷ Literal structures ∷ Plain Plus ∷ [])

-- : OPEN ( place kind -- ) OPEN-COUNT @ 16 U< NEW @ AND IF OPEN-COUNT @ ENTRY 2! 1 OPEN-COUNT +! ELSE 2DROP FAIL THEN ;
abbrev pub open_body : Nodes
open_body = items (Literal open_count_cell ∷ Plain Fetch ∷ Literal 16 ∷ Plain ULess ∷ Literal new_cell ∷ Plain Fetch ∷ Plain And ∷
    If (items (Literal open_count_cell ∷ Plain Fetch ∷ Call entry_place ∷ Plain TwoStore ∷ Literal 1 ∷ Literal open_count_cell ∷
    Plain PlusStore ∷ [])) (items (Plain TwoDrop ∷ Call fail_place ∷ [])) ∷ [])

-- : CLOSE ( kind -- place )
--   OPEN-COUNT @ IF OPEN-COUNT @ 1- ENTRY 2@ ROT = IF -1 OPEN-COUNT +! EXIT THEN THEN DROP FAIL NOWHERE ;
abbrev pub close_body : Nodes
close_body = items (Literal open_count_cell ∷ Plain Fetch ∷ If
    (items (Literal open_count_cell ∷ Plain Fetch ∷ Plain OneMinus ∷ Call entry_place ∷
    Plain TwoFetch ∷ Plain Rot ∷ Plain Equal ∷ If (items (Literal 65535 ∷ Literal open_count_cell ∷ Plain PlusStore ∷ Exit ∷ [])) Empty ∷
    [])) Empty ∷ Plain DropTop ∷ Call fail_place ∷ Literal nowhere ∷ [])

-- : K-IF ( -- ) HERE 1 OPEN 8192 K-CELL ;
abbrev pub kernel_if_body : Nodes
kernel_if_body = items (Plain Here ∷ Literal 1 ∷ Call open_place ∷ Literal 8192 ∷ Call kernel_cell_place ∷ [])

-- : K-THEN ( -- ) 1 CLOSE PATCH ;
abbrev pub kernel_then_body : Nodes
kernel_then_body = items (Literal 1 ∷ Call close_place ∷ Call patch_place ∷ [])

-- : K-ELSE ( -- ) 1 CLOSE HERE 1 OPEN 0 K-CELL PATCH ;
abbrev pub kernel_else_body : Nodes
kernel_else_body = items (Literal 1 ∷ Call close_place ∷ Plain Here ∷ Literal 1 ∷ Call open_place ∷ Literal 0 ∷ Call kernel_cell_place ∷
    Call patch_place ∷ [])

-- : K-BEGIN ( -- ) HERE 2 OPEN ;
abbrev pub kernel_begin_body : Nodes
kernel_begin_body = items (Plain Here ∷ Literal 2 ∷ Call open_place ∷ [])

-- : K-UNTIL ( -- ) 2 CLOSE COMPILE-BRANCH ;
abbrev pub kernel_until_body : Nodes
kernel_until_body = items (Literal 2 ∷ Call close_place ∷ Call compile_branch_place ∷ [])

-- : K-WHILE ( -- ) 2 CLOSE K-IF 2 OPEN ;
abbrev pub kernel_while_body : Nodes
kernel_while_body = items (Literal 2 ∷ Call close_place ∷ Call kernel_if_place ∷ Literal 2 ∷ Call open_place ∷ [])

-- : K-REPEAT ( -- ) 2 CLOSE COMPILE-JUMP K-THEN ;
abbrev pub kernel_repeat_body : Nodes
kernel_repeat_body = items (Literal 2 ∷ Call close_place ∷ Call compile_jump_place ∷ Call kernel_then_place ∷ [])

-- : NEW-NAME ( -- a ) NEXT-WORD DUP C@ 1- 31 U< 0= IF FAIL THEN ;
abbrev pub new_name_body : Nodes
new_name_body = items (Call next_word_place ∷ Plain Dup ∷ Plain CFetch ∷ Plain OneMinus ∷ Literal 31 ∷ Plain ULess ∷ Plain ZeroEqual ∷
    If (items (Call fail_place ∷ [])) Empty ∷ [])

-- : DEFINE ( -- ) NEW-NAME DUP CODE-ADDRESS K-HEADER ;
abbrev pub define_body : Nodes
define_body = items (Call new_name_place ∷ Plain Dup ∷ Call code_address_place ∷ Call kernel_header_place ∷ [])

-- : K-COLON ( -- ) DEFINE LATEST @ DUP NEW ! @ LATEST ! CLOSE-ALL -1 STATE ! ;
abbrev pub kernel_colon_body : Nodes
kernel_colon_body = items (Call define_place ∷ Literal latest_cell ∷ Plain Fetch ∷ Plain Dup ∷ Literal new_cell ∷ Plain Store ∷
    Plain Fetch ∷ Literal latest_cell ∷ Plain Store ∷ Call close_all_place ∷ Literal 65535 ∷ Literal state_cell ∷ Plain Store ∷ [])

-- : K-SEMICOLON ( -- ) NEW @ 0= OPEN-COUNT @ OR IF FAIL ELSE COMPILE-RETURN NEW @ LATEST ! 0 NEW ! 0 STATE ! THEN ;
abbrev pub kernel_semicolon_body : Nodes
kernel_semicolon_body = items (Literal new_cell ∷ Plain Fetch ∷ Plain ZeroEqual ∷ Literal open_count_cell ∷ Plain Fetch ∷ Plain Or ∷
    If (items (Call fail_place ∷ [])) (items (Call compile_return_place ∷ Literal new_cell ∷ Plain Fetch ∷ Literal latest_cell ∷
    Plain Store ∷ Literal 0 ∷ Literal new_cell ∷ Plain Store ∷ Literal 0 ∷ Literal state_cell ∷ Plain Store ∷ [])) ∷ [])

-- : STRUCTURE ( xt -- xt / 0 ) DUP 1 RSHIFT 7 -
--   DUP ['] K-COLON = IF 2DROP K-COLON 0 EXIT THEN .. DUP ['] K-REPEAT = IF 2DROP K-REPEAT 0 EXIT THEN DROP ;
abbrev pub structure_body : Nodes
structure_body = items (Plain Dup ∷ Literal 1 ∷ Plain RShift ∷ Literal 7 ∷ Plain Minus ∷
    Plain Dup ∷ Literal 5 ∷ Plain Equal ∷ If (items (Plain TwoDrop ∷ Call kernel_colon_place ∷ Literal 0 ∷ Exit ∷ [])) Empty ∷
    Plain Dup ∷ Literal 6 ∷ Plain Equal ∷ If (items (Plain TwoDrop ∷ Call kernel_semicolon_place ∷ Literal 0 ∷ Exit ∷ [])) Empty ∷
    Plain Dup ∷ Literal 7 ∷ Plain Equal ∷ If (items (Plain TwoDrop ∷ Call kernel_if_place ∷ Literal 0 ∷ Exit ∷ [])) Empty ∷
    Plain Dup ∷ Literal 8 ∷ Plain Equal ∷ If (items (Plain TwoDrop ∷ Call kernel_else_place ∷ Literal 0 ∷ Exit ∷ [])) Empty ∷
    Plain Dup ∷ Literal 9 ∷ Plain Equal ∷ If (items (Plain TwoDrop ∷ Call kernel_then_place ∷ Literal 0 ∷ Exit ∷ [])) Empty ∷
    Plain Dup ∷ Literal 10 ∷ Plain Equal ∷ If (items (Plain TwoDrop ∷ Call kernel_begin_place ∷ Literal 0 ∷ Exit ∷ [])) Empty ∷
    Plain Dup ∷ Literal 11 ∷ Plain Equal ∷ If (items (Plain TwoDrop ∷ Call kernel_until_place ∷ Literal 0 ∷ Exit ∷ [])) Empty ∷
    Plain Dup ∷ Literal 12 ∷ Plain Equal ∷ If (items (Plain TwoDrop ∷ Call kernel_while_place ∷ Literal 0 ∷ Exit ∷ [])) Empty ∷
    Plain Dup ∷ Literal 13 ∷ Plain Equal ∷ If (items (Plain TwoDrop ∷ Call kernel_repeat_place ∷ Literal 0 ∷ Exit ∷ [])) Empty ∷
    Plain DropTop ∷ [])

-- : FOUND ( xt flag -- xt / 0 ) 0< STATE @ AND IF COMPILE-CALL 0 ELSE STRUCTURE THEN ;
abbrev pub found_body : Nodes
found_body = items (Plain ZeroLess ∷ Literal state_cell ∷ Plain Fetch ∷ Plain And ∷ If (items (Call compile_call_place ∷ Literal 0 ∷ []))
    (items (Call structure_place ∷ [])) ∷ [])

-- : PUT ( x -- ) STATE @ IF COMPILE-LITERAL ELSE PUSH-USER THEN ;
abbrev pub put_body : Nodes
put_body = items (Literal state_cell ∷ Plain Fetch ∷ If (items (Call compile_literal_place ∷ [])) (items (Call push_user_place ∷ [])) ∷ [])

-- : INTERPRET-WORD ( a -- xt / 0 ) K-FIND ?DUP IF FOUND ELSE K-NUMBER IF PUT ELSE DROP FAIL THEN 0 THEN ;
abbrev pub interpret_word_body : Nodes
interpret_word_body = items (Call kernel_find_place ∷ Plain QDup ∷ If (items (Call found_place ∷ [])) (items (Call kernel_number_place ∷
    If (items (Call put_place ∷ [])) (items (Plain DropTop ∷ Call fail_place ∷ [])) ∷ Literal 0 ∷ [])) ∷ [])

-- a program that has these definitions at their places, with those that read the source, look for names and numbers, and lay headers, and
-- those that go over the words of a line
pub record HasDefiningWords (p : SourceProgram) : Type 0 where
  pub kernel : IsKernel p
  pub fail : body_of p fail_place ≡ fail_body
  pub code_address : body_of p code_address_place ≡ code_address_body
  pub compile_literal : body_of p compile_literal_place ≡ compile_literal_body
  pub compile_call : body_of p compile_call_place ≡ compile_call_body
  pub compile_return : body_of p compile_return_place ≡ compile_return_body
  pub compile_jump : body_of p compile_jump_place ≡ compile_jump_body
  pub compile_branch : body_of p compile_branch_place ≡ compile_branch_body
  pub patch : body_of p patch_place ≡ patch_body
  pub entry : body_of p entry_place ≡ entry_body
  pub opens : body_of p open_place ≡ open_body
  pub closes : body_of p close_place ≡ close_body
  pub kernel_if : body_of p kernel_if_place ≡ kernel_if_body
  pub kernel_then : body_of p kernel_then_place ≡ kernel_then_body
  pub kernel_else : body_of p kernel_else_place ≡ kernel_else_body
  pub kernel_begin : body_of p kernel_begin_place ≡ kernel_begin_body
  pub kernel_until : body_of p kernel_until_place ≡ kernel_until_body
  pub kernel_while : body_of p kernel_while_place ≡ kernel_while_body
  pub kernel_repeat : body_of p kernel_repeat_place ≡ kernel_repeat_body
  pub new_name : body_of p new_name_place ≡ new_name_body
  pub define : body_of p define_place ≡ define_body
  pub kernel_colon : body_of p kernel_colon_place ≡ kernel_colon_body
  pub kernel_semicolon : body_of p kernel_semicolon_place ≡ kernel_semicolon_body
  pub structure : body_of p structure_place ≡ structure_body
  pub found : body_of p found_place ≡ found_body
  pub put : body_of p put_place ≡ put_body
  pub interpret_word : body_of p interpret_word_place ≡ interpret_word_body
  pub interpreter : HasInterpreter p
