-- Tail position: what stands there is the last that its definition does.
use Rattle.std.specs.Prelude.{Bool, true, false, List, [], ◌∷◌}
use Rattle.forth_program.specs.Tree.{Nodes, Exit, Empty, Then}
use Rattle.forth_program.specs.State.{Work, Todo, TrueEnd, EndOf}

-- whether an item before these stands in tail position: directly before EXIT, or last where their end is in tail position
abbrev pub is_tail : Nodes → Bool → Bool
is_tail Empty at_end = at_end
is_tail (Then Exit rest) at_end = true
is_tail (Then node rest) at_end = false

-- whether this work does no more than end its body: what was done before it stood in tail position
abbrev pub ends_body : List Work → Bool
ends_body [] = true
ends_body (Todo Exit ∷ w) = true
ends_body (TrueEnd ∷ w) = ends_body w
ends_body (EndOf ∷ w) = ends_body w
ends_body w = false
