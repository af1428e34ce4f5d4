-- The source that `make` writes itself, of a seed and a count.
use Rattle.std.specs.Prelude.{ℕ, zero, suc, ◌+◌, ◌*◌, ◌%◌, ◌++◌, ◌∷◌, [], List, codes, decimal}
use Rattle.std.specs.List.{flat_map}

abbrev pub joined : List (List ℕ) → List ℕ
joined parts = flat_map (λ part. part) parts

-- the number that follows another
abbrev pub next_number : ℕ → ℕ
next_number number = (25173 * number + 13849) % 65536

-- the operation of a number, by its remainder modulo 4
abbrev pub operation : ℕ → List ℕ
operation zero = codes "+"
operation (suc zero) = codes "XOR"
operation (suc (suc zero)) = codes "-"
operation remainder = codes "*"

-- `: Wi V OP ;`, with i the place and V the number
abbrev pub definition : ℕ → ℕ → List ℕ
definition place number = joined (codes ": W" ∷ decimal place ∷ codes " " ∷ decimal number ∷ codes " " ∷ operation (number % 4) ∷ codes " ;\n" ∷ [])

-- so many definitions from a place on, behind a number
abbrev pub definitions : ℕ → ℕ → ℕ → List ℕ
definitions zero place number = []
definitions (suc count) place number = definition place (next_number number) ++ definitions count (place + 1) (next_number number)

-- ` Wi` for so many places
abbrev pub calls : ℕ → ℕ → List ℕ
calls zero place = []
calls (suc count) place = joined (codes " W" ∷ decimal place ∷ []) ++ calls count (place + 1)

-- so many definitions, and MAIN, which calls each on 1 and prints what is left
unfoldable pub made_source : ℕ → ℕ → List ℕ
made_source seed count = definitions count 1 seed ++ (codes ": MAIN 1" ++ (calls count 1 ++ codes " U. ;\n"))
