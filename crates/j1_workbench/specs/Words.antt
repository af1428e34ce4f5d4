-- What the words of a command line ask for.
use Rattle.std.specs.Prelude.{ℕ, List, [], ◌∷◌, ◌&&◌, nat_lt, if◌then◌else◌, Option, Some, None, option_map, map, codes, String}
use Rattle.std.specs.Str.{bytes_eq}
use Rattle.std.specs.String.{string_bytes}
use Rattle.net_file.specs.Numbers.{number_in}
use Rattle.net_file.specs.Net.{is_file_name}

-- a command, with the names of its files and its numbers; None are steps that are not given
pub data Request : Type 0 where
  Run : (source : List ℕ) (steps : Option ℕ) → Request
  Build : (source image : List ℕ) → Request
  Execute : (image : List ℕ) (steps : Option ℕ) → Request
  ListImage : (image : List ℕ) → Request
  Assemble : (listing image : List ℕ) → Request
  Certify : (source : List ℕ) → Request
  Evaluate : (source : List ℕ) (steps : Option ℕ) → Request
  Forth : (steps : Option ℕ) → Request
  Make : (seed count : ℕ) → Request
  Bound : (source : List ℕ) → Request
  Net : (file : List ℕ) → Request
  WriteMemory : (image text : List ℕ) → Request
  WriteKernel : (image : List ℕ) → Request
  Trace : (image : List ℕ) (steps : Option ℕ) → Request

-- no more words, or `--steps` and a number of at most most
abbrev pub steps_of : ℕ → List (List ℕ) → Option (Option ℕ)
steps_of most [] = Some None
steps_of most (option ∷ number ∷ []) =
    if bytes_eq option (codes "--steps") then option_map (λ n. Some n) (number_in 10 most number) else None
steps_of most words = None

-- a name, and then perhaps steps
abbrev pub name_and_steps : ℕ → (List ℕ → Option ℕ → Request) → List (List ℕ) → Option Request
name_and_steps most form [] = None
name_and_steps most form (name ∷ words) = if is_file_name name then option_map (λ steps. form name steps) (steps_of most words) else None

abbrev pub one_name : (List ℕ → Request) → List (List ℕ) → Option Request
one_name form (name ∷ []) = if is_file_name name then Some (form name) else None
one_name form words = None

abbrev pub two_names : (List ℕ → List ℕ → Request) → List (List ℕ) → Option Request
two_names form (first ∷ second ∷ []) = if is_file_name first && is_file_name second then Some (form first second) else None
two_names form words = None

-- a seed below 65536, and a count of 1 to 200
abbrev pub seed_and_count : Option ℕ → Option ℕ → Option Request
seed_and_count (Some seed) (Some count) = if nat_lt 0 count then Some (Make seed count) else None
seed_and_count seed None = None
seed_and_count None (Some count) = None

abbrev pub make_of : List (List ℕ) → Option Request
make_of (seed ∷ count ∷ []) = seed_and_count (number_in 10 65535 seed) (number_in 10 200 count)
make_of words = None

-- the request of a command and the words behind it
abbrev pub request_for : List ℕ → List (List ℕ) → Option Request
request_for command words =
    if bytes_eq command (codes "run") then name_and_steps 1000000000 Run words
    else if bytes_eq command (codes "build") then two_names Build words
    else if bytes_eq command (codes "exec") then name_and_steps 1000000000 Execute words
    else if bytes_eq command (codes "list") then one_name ListImage words
    else if bytes_eq command (codes "asm") then two_names Assemble words
    else if bytes_eq command (codes "certify") then one_name Certify words
    else if bytes_eq command (codes "eval") then name_and_steps 20000000 Evaluate words
    else if bytes_eq command (codes "forth") then option_map (λ steps. Forth steps) (steps_of 1000000000 words)
    else if bytes_eq command (codes "make") then make_of words
    else if bytes_eq command (codes "bound") then one_name Bound words
    else if bytes_eq command (codes "net") then one_name Net words
    else if bytes_eq command (codes "hex") then two_names WriteMemory words
    else if bytes_eq command (codes "kernel") then one_name WriteKernel words
    else if bytes_eq command (codes "trace") then name_and_steps 1000000 Trace words
    else None

-- what these words ask for, where they have the form of a command
abbrev pub request_of : List (List ℕ) → Option Request
request_of [] = None
request_of (command ∷ words) = request_for command words

-- the same of words as the program has them
abbrev pub asked : {Z : Type 0} → List (String Z) → Option Request
asked words = request_of (map string_bytes words)

-- how many instructions a run and how many word steps an evaluation may make, where the words give a number and where they give none
unfoldable pub steps_allowed : Option ℕ → ℕ
steps_allowed None = 10000000
steps_allowed (Some steps) = steps
