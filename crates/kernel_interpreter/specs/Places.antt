-- Where the kernel keeps what its interpreter works on outside definitions, as byte addresses, and which definition each of its words is.
use Rattle.std.specs.Prelude.{ℕ}

-- NEEDS, a byte for each execution token: how many cells its word needs
abbrev pub needs : ℕ
needs = 8740

-- ---- machine code: RUN-CODE is around a typed word, which the cell RUN-CALL in it calls
abbrev pub run_code : ℕ
run_code = 8950

abbrev pub run_call : ℕ
run_call = 8960

-- that of the words on return entries, TO-R the first, and how many bytes it has
abbrev pub return_words : ℕ
return_words = 8988

abbrev pub return_words_size : ℕ
return_words_size = 100

-- ---- the place of each definition among the bodies of the kernel, from 0
abbrev pub pop_user_place : ℕ
pop_user_place = 89

abbrev pub run_place : ℕ
run_place = 90

abbrev pub need_place : ℕ
need_place = 91
