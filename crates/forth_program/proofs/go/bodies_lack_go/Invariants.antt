use Rattle.std.proofs.Common.{◌≡◌, map, drop}
use Rattle.std.specs.List.{list_all}
use Rattle.forth_program.specs.ItemTrees.{tree_of}
use Rattle.forth_program.specs.Form.{everywhere, is_not_go}
use Rattle.forth_program.proofs.go.bodies_lack_go.Given as goal

abbrev pub invariant-loop-body : goal.invariant-loop-body
invariant-loop-body l = list_all (everywhere is_not_go) (map tree_of (drop l.body-index l.bodies)) ≡ list_all (everywhere is_not_go) (map tree_of l.bodies)
