-- Where the kernel keeps what it needs from line to line, as byte addresses, and which definition each word of a line is.
use Rattle.std.specs.Prelude.{ℕ}

-- ---- STATE, and NEW, the header of the open definition or 0; HERE and LATEST to come back to; the first HERE
abbrev pub state_cell : ℕ
state_cell = 8492

abbrev pub new_cell : ℕ
new_cell = 8494

abbrev pub kept_here_cell : ℕ
kept_here_cell = 8496

abbrev pub kept_latest_cell : ℕ
kept_latest_cell = 8498

abbrev pub first_here_cell : ℕ
first_here_cell = 8500

-- USER-CELLS, how many there are; behind it the cells from the oldest on
abbrev pub user_count_cell : ℕ
user_count_cell = 8502

-- OPEN-COUNT, LEAVES and LOOPS, of the open structures
abbrev pub open_count_cell : ℕ
open_count_cell = 8568

abbrev pub leaves_cell : ℕ
leaves_cell = 8636

abbrev pub loops_cell : ℕ
loops_cell = 8638

-- LEVEL, eight for each source around the string of EVALUATE
abbrev pub level_cell : ℕ
level_cell = 8640

-- ---- the texts of the replies
abbrev pub unknown_text : ℕ
unknown_text = 9182

abbrev pub stack_text : ℕ
stack_text = 9184

abbrev pub long_text : ℕ
long_text = 9192

abbrev pub full_text : ℕ
full_text = 9207

abbrev pub well_text : ℕ
well_text = 9214

-- ---- the place of each definition among the bodies of the kernel, from 0
abbrev pub stack_fail_place : ℕ
stack_fail_place = 1

abbrev pub close_all_place : ℕ
close_all_place = 40

abbrev pub try_place : ℕ
try_place = 92

abbrev pub interpret_word_place : ℕ
interpret_word_place = 96

abbrev pub check_place : ℕ
check_place = 97

abbrev pub keep_places_place : ℕ
keep_places_place = 98

abbrev pub interpret_place : ℕ
interpret_place = 99

abbrev pub keep_byte_place : ℕ
keep_byte_place = 104

abbrev pub read_line_place : ℕ
read_line_place = 105

abbrev pub reset_place : ℕ
reset_place = 106

abbrev pub say_word_place : ℕ
say_word_place = 107

abbrev pub complain_place : ℕ
complain_place = 108

abbrev pub reply_place : ℕ
reply_place = 109

abbrev pub one_line_place : ℕ
one_line_place = 110

abbrev pub main_place : ℕ
main_place = 111
