-- The words of a command line ask for at most 200 definitions.
use Rattle.std.proofs.Common.{◌≡◌, ℕ, ◌≤◌, Bool, true, false, ◌&&◌, nat_le, nat_lt, if◌then◌else◌, List, [], ◌∷◌, Option, Some, None, refl, subst, leb-true}
use Rattle.std.specs.Prelude.{codes, option_map}
use Rattle.std.specs.Str.{bytes_eq}
use Rattle.net_file.specs.Numbers.{is_number, value_from, number_in}
use Rattle.net_file.specs.Net.{is_file_name}
use Rattle.j1_workbench.specs.Words.{Request, Run, Build, Execute, ListImage, Assemble, Certify, Evaluate, Forth, Make, Bound, Net, WriteMemory, WriteKernel, Trace, steps_of, name_and_steps, one_name, two_names, seed_and_count, make_of, request_of}

-- a request to make has at most 200 definitions
abbrev CountFits : Option Request → Type 0
CountFits (Some (Make seed count)) = count ≤ 200
CountFits request = Unit {0}

either : (test : Bool) (first second : Option Request) → CountFits first → CountFits second → CountFits (if test then first else second)
either true first second f s = f
either false first second f s = s

stepped : (form : Option ℕ → Request) → ((steps : Option ℕ) → CountFits (Some (form steps))) → (found : Option (Option ℕ)) → CountFits (option_map (λ steps. form steps) found)
stepped form fits None = tt
stepped form fits (Some steps) = fits steps

named_and_stepped : (most : ℕ) (form : List ℕ → Option ℕ → Request) → ((name : List ℕ) (steps : Option ℕ) → CountFits (Some (form name steps))) → (words : List (List ℕ)) → CountFits (name_and_steps most form words)
named_and_stepped most form fits [] = tt
named_and_stepped most form fits (name ∷ words) = either (is_file_name name) (option_map (λ steps. form name steps) (steps_of most words)) None (stepped (form name) (fits name) (steps_of most words)) tt

named_once : (form : List ℕ → Request) → ((name : List ℕ) → CountFits (Some (form name))) → (words : List (List ℕ)) → CountFits (one_name form words)
named_once form fits [] = tt
named_once form fits (name ∷ []) = either (is_file_name name) (Some (form name)) None (fits name) tt
named_once form fits (name ∷ word ∷ words) = tt

named_twice : (form : List ℕ → List ℕ → Request) → ((first second : List ℕ) → CountFits (Some (form first second))) → (words : List (List ℕ)) → CountFits (two_names form words)
named_twice form fits [] = tt
named_twice form fits (first ∷ []) = tt
named_twice form fits (first ∷ second ∷ []) = either (is_file_name first && is_file_name second) (Some (form first second)) None (fits first second) tt
named_twice form fits (first ∷ second ∷ word ∷ words) = tt

-- a number is at most the greatest that is allowed
abbrev AtMost : ℕ → Option ℕ → Type 0
AtMost most None = Unit {0}
AtMost most (Some n) = n ≤ most

number_at_most : (most_digits most : ℕ) (text : List ℕ) → AtMost most (number_in most_digits most text)
number_at_most most_digits most text = by_tests (is_number most_digits text) (nat_le (value_from 0 text) most) (λ small. leb-true (value_from 0 text) most small)
  where
    by_tests : (form small : Bool) → (small ≡ true → value_from 0 text ≤ most) → AtMost most (if form && small then Some (value_from 0 text) else None)
    by_tests true true h = h refl
    by_tests true false h = tt
    by_tests false small h = tt

made : (seed count : Option ℕ) → AtMost 200 count → CountFits (seed_and_count seed count)
made (Some seed) (Some count) small = either (nat_lt 0 count) (Some (Make seed count)) None small tt
made (Some seed) None small = tt
made None None small = tt
made None (Some count) small = tt

made_of : (words : List (List ℕ)) → CountFits (make_of words)
made_of [] = tt
made_of (seed ∷ []) = tt
made_of (seed ∷ count ∷ []) = made (number_in 10 65535 seed) (number_in 10 200 count) (number_at_most 10 200 count)
made_of (seed ∷ count ∷ word ∷ words) = tt

all_fit : (words : List (List ℕ)) → CountFits (request_of words)
all_fit [] = tt
all_fit (command ∷ words) =
    either (bytes_eq command (codes "run")) _ _ (named_and_stepped 1000000000 Run (λ name steps. tt) words)
    (either (bytes_eq command (codes "build")) _ _ (named_twice Build (λ first second. tt) words)
    (either (bytes_eq command (codes "exec")) _ _ (named_and_stepped 1000000000 Execute (λ name steps. tt) words)
    (either (bytes_eq command (codes "list")) _ _ (named_once ListImage (λ name. tt) words)
    (either (bytes_eq command (codes "asm")) _ _ (named_twice Assemble (λ first second. tt) words)
    (either (bytes_eq command (codes "certify")) _ _ (named_once Certify (λ name. tt) words)
    (either (bytes_eq command (codes "eval")) _ _ (named_and_stepped 20000000 Evaluate (λ name steps. tt) words)
    (either (bytes_eq command (codes "forth")) _ _ (stepped Forth (λ steps. tt) (steps_of 1000000000 words))
    (either (bytes_eq command (codes "make")) _ _ (made_of words)
    (either (bytes_eq command (codes "bound")) _ _ (named_once Bound (λ name. tt) words)
    (either (bytes_eq command (codes "net")) _ _ (named_once Net (λ name. tt) words)
    (either (bytes_eq command (codes "hex")) _ _ (named_twice WriteMemory (λ image text. tt) words)
    (either (bytes_eq command (codes "kernel")) _ _ (named_once WriteKernel (λ image. tt) words)
    (either (bytes_eq command (codes "trace")) _ _ (named_and_stepped 1000000 Trace (λ image steps. tt) words) tt)))))))))))))

pub count_fits : (words : List (List ℕ)) (seed count : ℕ) → request_of words ≡ Some (Make seed count) → count ≤ 200
count_fits words seed count asked = subst CountFits asked (all_fit words)
