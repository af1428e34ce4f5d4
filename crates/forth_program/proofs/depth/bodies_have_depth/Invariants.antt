use Rattle.std.proofs.Common.{◌≡◌, map, drop}
use Rattle.std.specs.List.{list_any}
use Rattle.forth_program.specs.ItemTrees.{tree_of}
use Rattle.forth_program.specs.Program.{depth_within}
use Rattle.forth_program.proofs.depth.bodies_have_depth.Given as goal

abbrev pub invariant-loop-body : goal.invariant-loop-body
invariant-loop-body l = list_any depth_within (map tree_of (drop l.body-index l.bodies)) ≡ list_any depth_within (map tree_of l.bodies)
