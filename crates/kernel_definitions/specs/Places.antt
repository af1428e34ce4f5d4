-- Where the kernel keeps the open structures, as byte addresses, and which definition each of the words that compile is.
use Rattle.std.specs.Prelude.{ℕ, ◌+◌, ◌*◌}

-- ---- STRUCTURES, four bytes for each entry of the open structures: its kind, and behind it its place; NOWHERE, a cell that may be patched
abbrev pub structures : ℕ
structures = 8570

abbrev pub nowhere : ℕ
nowhere = 8634

-- ---- the place of each definition among the bodies of the kernel, from 0
abbrev pub fail_place : ℕ
fail_place = 0

abbrev pub code_address_place : ℕ
code_address_place = 28

abbrev pub compile_literal_place : ℕ
compile_literal_place = 29

abbrev pub compile_call_place : ℕ
compile_call_place = 30

abbrev pub compile_return_place : ℕ
compile_return_place = 31

abbrev pub compile_jump_place : ℕ
compile_jump_place = 33

abbrev pub compile_branch_place : ℕ
compile_branch_place = 34

abbrev pub patch_place : ℕ
patch_place = 35

abbrev pub entry_place : ℕ
entry_place = 37

abbrev pub open_place : ℕ
open_place = 38

abbrev pub close_place : ℕ
close_place = 39

abbrev pub kernel_if_place : ℕ
kernel_if_place = 41

abbrev pub kernel_then_place : ℕ
kernel_then_place = 42

abbrev pub kernel_else_place : ℕ
kernel_else_place = 43

abbrev pub kernel_begin_place : ℕ
kernel_begin_place = 44

abbrev pub kernel_until_place : ℕ
kernel_until_place = 45

abbrev pub kernel_while_place : ℕ
kernel_while_place = 46

abbrev pub kernel_repeat_place : ℕ
kernel_repeat_place = 47

abbrev pub new_name_place : ℕ
new_name_place = 54

abbrev pub define_place : ℕ
define_place = 55

abbrev pub kernel_colon_place : ℕ
kernel_colon_place = 56

abbrev pub kernel_semicolon_place : ℕ
kernel_semicolon_place = 57

abbrev pub push_user_place : ℕ
push_user_place = 88

abbrev pub structure_place : ℕ
structure_place = 93

abbrev pub found_place : ℕ
found_place = 94

abbrev pub put_place : ℕ
put_place = 95

-- ---- the code of each structure word: the jump of its execution token, of which COLON has the fifth
abbrev pub code_of_token : ℕ → ℕ
code_of_token token = 2 * (7 + token)
