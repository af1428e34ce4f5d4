use Rattle.std.proofs.Common.{◌≡◌, map, drop}
use Rattle.std.specs.List.{list_any}
use Rattle.forth_program.specs.Parts.{token_node}
use Rattle.forth_program.specs.Program.{depth_in}
use Rattle.forth_program.proofs.depth.tokens_have_depth.Given as goal

abbrev pub invariant-loop-token : goal.invariant-loop-token
invariant-loop-token l = list_any depth_in (map token_node (drop l.token-index l.tokens)) ≡ list_any depth_in (map token_node l.tokens)
