use Rattle.std.proofs.Common.{◌≡◌, drop}
use Rattle.forth_program.specs.ItemTrees.{nodes_of}
use Rattle.step_certifier.specs.Cost.{Other, last_of as last_in}
use Rattle.step_certifier.specs.Views.{last_of}
use Rattle.step_certifier.proofs.refusals.last_literal.Given as goal

abbrev pub invariant-loop-item : goal.invariant-loop-item
invariant-loop-item l = last_in (last_of l.last) (nodes_of (drop l.item-index l.items)) ≡ last_in Other (nodes_of l.items)
