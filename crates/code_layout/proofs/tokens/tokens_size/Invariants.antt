use Rattle.std.proofs.Common.{◌≡◌, ◌+◌, ◌≤◌, drop, map}
use Rattle.forth_program.specs.Parts.{token_node}
use Rattle.code_layout.specs.Layout.{tokens_size}
use Rattle.code_layout.proofs.tokens.tokens_size.Given as goal

abbrev pub invariant-loop-token : goal.invariant-loop-token
invariant-loop-token l = (l.total + tokens_size (map token_node (drop l.token-index l.tokens)) ≡ tokens_size (map token_node l.tokens)) × (tokens_size (map token_node l.tokens) ≤ 8000)
