use Rattle.std.proofs.Common.{◌≡◌, ◌++◌, length, map}
use Rattle.forth_program.specs.Parts.{token_node}
use Rattle.control_flow.specs.Ticks.{token_nodes}
use Rattle.control_flow.proofs.ticks.program_tokens.Given as goal

abbrev pub invariant-loop-one : goal.invariant-loop-one
invariant-loop-one l = map token_node l.tokens.items ++ token_nodes l.rest ≡ token_nodes l.fn.ticked

abbrev pub decreases-loop-one : goal.decreases-loop-one
decreases-loop-one l = length l.rest
