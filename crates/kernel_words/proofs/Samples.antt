-- Runs of these definitions that the checker computes, in a program that has them and no more.
use Rattle.std.proofs.Common.{◌≡◌, ℕ, List, [], ◌∷◌, ◌++◌, refl}
use Rattle.cell_math.specs.Bytes.{filled}
use Rattle.word_table.specs.declared.word.Word.TheVariants.{Emit}
use Rattle.forth_program.specs.Tree.{Nodes, Empty, Plain}
use Rattle.forth_program.specs.State.{State, Work, Todo}
use Rattle.forth_program.specs.Program.{SourceProgram}
use Rattle.forth_program.specs.Step.{before, step}
use Rattle.forth_program.specs.Run.{steps, world_of, first_world}
use Rattle.forth_reader.specs.declared.number.NumberRead.TheVariants.{Value}
use Rattle.forth_reader.specs.Number.{based_read}
use Rattle.kernel_words.specs.Bodies.{IsKernel, reached_body, rest_body, skip_body, scan_body, advance_body, take_body, word_from_body}
use Rattle.kernel_words.specs.Bodies.{keep_word_body, kernel_word_body}
use Rattle.kernel_words.specs.Bodies.{next_word_body, parse_body, upper_body, same_byte_body, same_body, named_body, code_and_flag_body}
use Rattle.kernel_words.specs.Bodies.{kernel_find_body, digit_body}
use Rattle.kernel_words.specs.Bodies.{grow_body, take_digit_body, digits_body, minus_sign_body, signed_body, kernel_number_body}
use Rattle.kernel_words.specs.Bodies.{kernel_cell_body, kernel_header_body}
use Rattle.kernel_words.specs.Memory.{data_cell, data_byte, data_bytes}

-- two definitions stand before these, and an empty MAIN behind them; HERE is 8728, the line is a space and -12 and a space, its length is
-- 5, and at 8508 stands the counted string -12
abbrev kernel : SourceProgram
kernel = record {
  names = [];
  bodies = Empty ∷ Empty ∷ reached_body ∷ rest_body ∷ skip_body ∷ scan_body ∷ advance_body ∷ take_body ∷ word_from_body ∷ keep_word_body ∷
      kernel_word_body ∷ next_word_body ∷ parse_body ∷ upper_body ∷ same_byte_body ∷ same_body ∷ named_body ∷ code_and_flag_body ∷
      kernel_find_body ∷
      digit_body ∷ grow_body ∷ take_digit_body ∷ digits_body ∷ minus_sign_body ∷ signed_body ∷ kernel_number_body ∷ kernel_cell_body ∷
      kernel_header_body ∷ Empty ∷ [];
  main_body = 28;
  tokens = [];
  data_start = 8192;
  first_space = filled 128 (10 ∷ 0 ∷ 96 ∷ 32 ∷ 24 ∷ 34 ∷ []) ++ filled 80 (32 ∷ 45 ∷ 49 ∷ 50 ∷ 32 ∷ []) ++ filled 108 (5 ∷ [])
      ++ 3 ∷ 45 ∷ 49 ∷ 50 ∷ [];
  source_tokens = 450;
}

-- so the laws speak of it
is_kernel : IsKernel kernel
is_kernel = record {
  reached = refl;
  rest = refl;
  skip = refl;
  scan = refl;
  advance = refl;
  take = refl;
  word_from = refl;
  keep_word = refl;
  kernel_word = refl;
  next_word = refl;
  parse = refl;
  upper = refl;
  same_byte = refl;
  same = refl;
  named = refl;
  code_and_flag = refl;
  kernel_find = refl;
  digit = refl;
  grow = refl;
  take_digit = refl;
  digits = refl;
  minus_sign = refl;
  signed = refl;
  kernel_number = refl;
  kernel_cell = refl;
  kernel_header = refl;
}

-- the definition is run, and then the caller, which prints the low bytes of two cells
abbrev begins : Nodes → List Work → List ℕ → State
begins body after c = record {
  work = before body [];
  entries = [];
  callers = record { work = after; entries = [] } ∷ [];
  cells = c;
  world = first_world kernel [];
}

abbrev prints : List Work
prints = Todo (Plain Emit) ∷ Todo (Plain Emit) ∷ []

-- K-NUMBER of -12 is -1 and -12
number : (world_of (steps kernel 1000 (begins kernel_number_body prints (8508 ∷ [])))).printed ≡ 255 ∷ 244 ∷ []
unfolding steps step
number = refl

number_says : based_read 10 (data_bytes (first_world kernel []) 3 8509) ≡ Value 65524
unfolding data_cell data_byte
number_says = refl

-- the word -12 of the line, read as a number
word : (world_of (steps kernel 1000 (begins kernel_word_body (before kernel_number_body prints) (32 ∷ [])))).printed ≡ 255 ∷ 244 ∷ []
unfolding steps step
word = refl

-- a header of that string, found again: code 321, whose low byte is 65, and -1
header : (world_of (steps kernel 1000 (begins kernel_header_body (before kernel_find_body prints) (321 ∷ 8508 ∷ 8508 ∷ [])))).printed
    ≡ 255 ∷ 65 ∷ []
unfolding steps step
header = refl
