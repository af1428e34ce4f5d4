-- Small texts and tokens, as the checker reads them by the definitions.
use Rattle.std.proofs.Common.{◌≡◌, [], ◌∷◌, ◌++◌, refl}
use Rattle.std.specs.Prelude.{codes}
use Rattle.forth_reader.specs.declared.refusal.ReadCause.TheVariants as cause
use Rattle.forth_reader.specs.declared.number.NumberRead.TheVariants.{Value, Range, NotNumber}
use Rattle.forth_reader.specs.Reading.{NoMore, Reads, Refuses, Quoted, Unquoted, next_from, name_from, string_from}
use Rattle.forth_reader.specs.Number.{number_read}

nothing_left : next_from 0 [] ≡ NoMore 0
nothing_left = refl

blanks_left : next_from 7 (32 ∷ 9 ∷ 10 ∷ 13 ∷ []) ≡ NoMore 7
blanks_left = refl

first_of_two : next_from 0 (codes " DUP *") ≡ Reads (codes "DUP") 1 (codes " *")
first_of_two = refl

-- a comment ends at its `)`, and the next token may stand directly behind it
comment_then_token : next_from 0 (codes "( a)B C") ≡ Reads (codes "B") 2 (codes " C")
comment_then_token = refl

two_comments : next_from 0 (codes "( a)( b)C") ≡ Reads (codes "C") 3 []
two_comments = refl

-- a parenthesis that is not alone begins no comment
no_comment : next_from 0 (codes "(a)B") ≡ Reads (codes "(a)B") 1 []
no_comment = refl

comment_behind_token : next_from 0 (codes "A( b)") ≡ Reads (codes "A(") 1 (codes " b)")
comment_behind_token = refl

-- parentheses do not nest
nested : next_from 0 (codes "( a ( b ) c )") ≡ Reads (codes "c") 2 (codes " )")
nested = refl

open_comment : next_from 4 (codes "(") ≡ Refuses 5 cause.OpenComment
open_comment = refl

open_comment_text : next_from 4 (codes "( a ") ≡ Refuses 5 cause.OpenComment
open_comment_text = refl

-- a lone backslash at the end, a line without its line feed, and a line with it
backslash_last : next_from 0 (92 ∷ []) ≡ NoMore 1
backslash_last = refl

line_last : next_from 0 (92 ∷ codes " a ( b") ≡ NoMore 1
line_last = refl

line_feed_directly : next_from 0 (92 ∷ 10 ∷ codes "B") ≡ Reads (codes "B") 2 []
line_feed_directly = refl

line_then_token : next_from 0 (92 ∷ (codes " a" ++ 10 ∷ codes "B")) ≡ Reads (codes "B") 2 []
line_then_token = refl

backslash_and_more : next_from 0 (92 ∷ codes "a b") ≡ Reads (92 ∷ codes "a") 1 (codes " b")
backslash_and_more = refl

-- bytes outside a source: in the space, directly behind a token, a `(` and a `\`, in comments
zero_in_space : next_from 2 (32 ∷ 0 ∷ codes " A") ≡ Refuses 3 cause.NotText
zero_in_space = refl

behind_token_127 : next_from 0 (65 ∷ 127 ∷ []) ≡ Refuses 1 cause.NotText
behind_token_127 = refl

behind_token_128 : next_from 0 (65 ∷ 128 ∷ []) ≡ Refuses 1 cause.NotText
behind_token_128 = refl

behind_parenthesis_255 : next_from 0 (40 ∷ 255 ∷ codes " )") ≡ Refuses 1 cause.NotText
behind_parenthesis_255 = refl

behind_backslash_0 : next_from 0 (92 ∷ 0 ∷ []) ≡ Refuses 1 cause.NotText
behind_backslash_0 = refl

in_parenthesis_128 : next_from 0 (codes "( a" ++ 128 ∷ []) ≡ Refuses 1 cause.NotText
in_parenthesis_128 = refl

in_line_127 : next_from 0 (92 ∷ 32 ∷ 127 ∷ 10 ∷ []) ≡ Refuses 1 cause.NotText
in_line_127 = refl

behind_comment_0 : next_from 0 (codes "( a)" ++ 0 ∷ []) ≡ Refuses 2 cause.NotText
behind_comment_0 = refl

-- 31 bytes, 32 bytes, and 32 bytes with a bad byte behind them
longest : next_from 0 (codes "ABCDEFGHIJKLMNOPQRSTUVWXYZABCDE ") ≡ Reads (codes "ABCDEFGHIJKLMNOPQRSTUVWXYZABCDE") 1 (codes " ")
longest = refl

too_long : next_from 0 (codes "ABCDEFGHIJKLMNOPQRSTUVWXYZABCDEF") ≡ Refuses 1 cause.NameTooLong
too_long = refl

too_long_name : name_from 8 (codes "ABCDEFGHIJKLMNOPQRSTUVWXYZABCDEF ;") ≡ Refuses 9 cause.NameTooLong
too_long_name = refl

bad_byte_first : next_from 0 (codes "ABCDEFGHIJKLMNOPQRSTUVWXYZABCDEF" ++ 127 ∷ []) ≡ Refuses 1 cause.NotText
bad_byte_first = refl

-- names
parenthesis_as_name : name_from 0 (codes " ( a)") ≡ Reads (codes "(") 1 (codes " a)")
parenthesis_as_name = refl

backslash_as_name : name_from 0 (92 ∷ codes " a") ≡ Reads (92 ∷ []) 1 (codes " a")
backslash_as_name = refl

no_name : name_from 3 (codes "  ") ≡ NoMore 3
no_name = refl

-- strings: empty, with a tab and a carriage return, with a graphic separator, and open ones
empty_string : string_from (32 ∷ 34 ∷ codes "A") ≡ Quoted [] (codes "A")
empty_string = refl

string_text : string_from (codes "  Hi" ++ 34 ∷ codes " X") ≡ Quoted (codes " Hi") (codes " X")
string_text = refl

string_blanks : string_from (9 ∷ 9 ∷ 13 ∷ 34 ∷ []) ≡ Quoted (9 ∷ 13 ∷ []) []
string_blanks = refl

no_separator_left : string_from [] ≡ Unquoted cause.OpenString
no_separator_left = refl

line_feed_separator : string_from (10 ∷ 65 ∷ 34 ∷ []) ≡ Unquoted cause.OpenString
line_feed_separator = refl

string_over_lines : string_from (32 ∷ 65 ∷ 10 ∷ 34 ∷ []) ≡ Unquoted cause.OpenString
string_over_lines = refl

string_at_end : string_from (codes " A") ≡ Unquoted cause.OpenString
string_at_end = refl

string_255 : string_from (32 ∷ 65 ∷ 255 ∷ 34 ∷ []) ≡ Unquoted cause.NotText
string_255 = refl

-- numbers
decimal : number_read 10 (codes "0072") ≡ Value 72
decimal = refl

largest : number_read 10 (codes "65535") ≡ Value 65535
largest = refl

past_largest : number_read 10 (codes "65536") ≡ Range
past_largest = refl

least : number_read 10 (codes "-32768") ≡ Value 32768
least = refl

past_least : number_read 10 (codes "-32769") ≡ Range
past_least = refl

minus_one : number_read 16 (codes "-1") ≡ Value 0xffff
minus_one = refl

minus_zero : number_read 10 (codes "-0") ≡ Value 0
minus_zero = refl

minus_alone : number_read 10 (codes "-") ≡ NotNumber
minus_alone = refl

two_minuses : number_read 10 (codes "--1") ≡ NotNumber
two_minuses = refl

plus : number_read 10 (codes "+1") ≡ NotNumber
plus = refl

binary : number_read 2 (codes "1111111111111111") ≡ Value 65535
binary = refl

no_binary : number_read 2 (codes "12") ≡ NotNumber
no_binary = refl

hexadecimal : number_read 16 (codes "fFfF") ≡ Value 65535
hexadecimal = refl

no_hexadecimal : number_read 16 (codes "G") ≡ NotNumber
no_hexadecimal = refl

base_36 : number_read 36 (codes "1z") ≡ Value 71
base_36 = refl

past_base_36 : number_read 36 (codes "zzzzzzzz") ≡ Range
past_base_36 = refl

base_1 : number_read 1 (codes "0") ≡ NotNumber
base_1 = refl

base_37 : number_read 37 (codes "0") ≡ NotNumber
base_37 = refl
