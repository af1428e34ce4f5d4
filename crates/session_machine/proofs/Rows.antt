-- Rows of moments by computation: each row is a Bool, and of a list of rows the numbers of those that fail are told, from 0.
use Rattle.std.specs.Prelude.{ℕ, ◌+◌, ◌==◌, ◌&&◌, Bool, true, false, List, [], ◌∷◌, Option, Some, None}
use Rattle.std.specs.Str.{bytes_eq}
use Rattle.forth_program.specs.State.{End, Halted, InputEnded, Outside, Underflow, Unbalanced, Left}
use Rattle.session_machine.specs.Session.{Session, session_run, printed_by}

abbrev pub failing_from : ℕ → List Bool → List ℕ
failing_from n [] = []
failing_from n (true ∷ rest) = failing_from (n + 1) rest
failing_from n (false ∷ rest) = n ∷ failing_from (n + 1) rest

abbrev pub failing : List Bool → List ℕ
failing rows = failing_from 0 rows

abbrev end_code : Option End → List ℕ
end_code None = []
end_code (Some (Halted status)) = 1 ∷ status ∷ []
end_code (Some InputEnded) = 2 ∷ []
end_code (Some (Outside address)) = 3 ∷ address ∷ []
end_code (Some Underflow) = 4 ∷ []
end_code (Some Unbalanced) = 5 ∷ []
end_code (Some (Left address)) = 6 ∷ address ∷ []

-- an end leaves no cells to look at
abbrev cells_seen : Session → List ℕ
cells_seen s = elim s.end [ None ↦ s.state.cells | Some end ↦ [] ]

-- after k steps of a session: the bytes printed, the user cells (the top first), the lines taken, the price of the word steps, and the end,
-- if there is one
abbrev pub is_at : Session → List ℕ → List ℕ → ℕ → ℕ → Option End → Bool
is_at s printed cells taken price end =
    bytes_eq (printed_by s) printed && bytes_eq (cells_seen s) cells && s.taken == taken && s.price == price &&
    bytes_eq (end_code s.end) (end_code end)

abbrev pub shows : List (List ℕ) → ℕ → List ℕ → List ℕ → ℕ → ℕ → Option End → Bool
shows lines k printed cells taken price end = is_at (session_run lines k) printed cells taken price end
