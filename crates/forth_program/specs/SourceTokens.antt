-- How many tokens of a source text items stand for. The whole text has as many or more: comments, names of definitions and what
-- the host does are not counted.
use Rattle.std.specs.Prelude.{ℕ, ◌+◌, List, [], ◌∷◌}
use Rattle.forth_program.specs.Tree.{Node, Nodes, Arms, If, Until, While, Again, Do, QDo, Case, Empty, Then, NoArm, Arm}

abbrev mutual
  pub node_tokens : Node → ℕ
  node_tokens (If first second) = tokens_of first + tokens_of second + 2
  node_tokens (Until body) = tokens_of body + 2
  node_tokens (While test body) = tokens_of test + tokens_of body + 3
  node_tokens (Again body) = tokens_of body + 2
  node_tokens (Do body plus) = tokens_of body + 2
  node_tokens (QDo body plus) = tokens_of body + 2
  node_tokens (Case arms rest) = arms_tokens arms + tokens_of rest + 2
  node_tokens node = 1

  pub tokens_of : Nodes → ℕ
  tokens_of Empty = 0
  tokens_of (Then node rest) = node_tokens node + tokens_of rest

  pub arms_tokens : Arms → ℕ
  arms_tokens NoArm = 0
  arms_tokens (Arm tests body others) = tokens_of tests + tokens_of body + 2 + arms_tokens others

-- those of definitions, each with `:`, its name and `;`
abbrev pub all_tokens : List Nodes → ℕ
all_tokens [] = 0
all_tokens (body ∷ bodies) = tokens_of body + 3 + all_tokens bodies
