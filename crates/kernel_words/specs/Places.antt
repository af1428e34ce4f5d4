-- Where the kernel keeps what it works on, as byte addresses, and which definition each of its words is.
use Rattle.std.specs.Prelude.{ℕ}

-- ---- the fixed cells BASE and HERE of data space
abbrev pub base_cell : ℕ
base_cell = 8192

abbrev pub here_cell : ℕ
here_cell = 8196

-- ---- LINE, 80 bytes; LENGTH, that of the source; >IN, the place reached in it; LATEST, the newest header; WORD-BUFFER, 82 bytes;
-- and SOURCE-START, where the source begins: the line, or a string of EVALUATE
abbrev pub line_buffer : ℕ
line_buffer = 8320

abbrev pub length_cell : ℕ
length_cell = 8400

abbrev pub reached_cell : ℕ
reached_cell = 8402

abbrev pub latest_cell : ℕ
latest_cell = 8404

abbrev pub word_buffer : ℕ
word_buffer = 8406

abbrev pub source_cell : ℕ
source_cell = 8488

-- ERROR, why the rest of the line is dropped, or 0
abbrev pub error_cell : ℕ
error_cell = 8490

-- ---- the place of each definition among the bodies of the kernel, from 0; two stand before these
abbrev pub reached_place : ℕ
reached_place = 2

abbrev pub rest_place : ℕ
rest_place = 3

abbrev pub skip_place : ℕ
skip_place = 4

abbrev pub scan_place : ℕ
scan_place = 5

abbrev pub advance_place : ℕ
advance_place = 6

abbrev pub take_place : ℕ
take_place = 7

abbrev pub word_from_place : ℕ
word_from_place = 8

abbrev pub keep_word_place : ℕ
keep_word_place = 9

abbrev pub kernel_word_place : ℕ
kernel_word_place = 10

abbrev pub next_word_place : ℕ
next_word_place = 11

abbrev pub parse_place : ℕ
parse_place = 12

abbrev pub upper_place : ℕ
upper_place = 13

abbrev pub same_byte_place : ℕ
same_byte_place = 14

abbrev pub same_place : ℕ
same_place = 15

abbrev pub named_place : ℕ
named_place = 16

abbrev pub code_and_flag_place : ℕ
code_and_flag_place = 17

abbrev pub kernel_find_place : ℕ
kernel_find_place = 18

abbrev pub digit_place : ℕ
digit_place = 19

abbrev pub grow_place : ℕ
grow_place = 20

abbrev pub take_digit_place : ℕ
take_digit_place = 21

abbrev pub digits_place : ℕ
digits_place = 22

abbrev pub minus_sign_place : ℕ
minus_sign_place = 23

abbrev pub signed_place : ℕ
signed_place = 24

abbrev pub kernel_number_place : ℕ
kernel_number_place = 25

abbrev pub kernel_cell_place : ℕ
kernel_cell_place = 26

abbrev pub kernel_header_place : ℕ
kernel_header_place = 27
