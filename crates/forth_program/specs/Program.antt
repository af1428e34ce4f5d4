-- A program as contracts see it: its definitions, its execution tokens and its first data space.
use Rattle.std.specs.Prelude.{ℕ, zero, suc, List, Option, None, slice_get, slice_index_or, Bool, true, false, ◌||◌}
use Rattle.std.specs.List.{list_any}
use Rattle.word_table.specs.declared.word.Word.{Word}
use Rattle.word_table.specs.declared.word.Word.TheVariants.{Depth}
use Rattle.forth_program.specs.Tree.{Node, Nodes, Arms, Plain, If, Until, While, Again, Do, QDo, Case, Empty, Then, NoArm, Arm}

-- the names and the bodies in the order of the definitions; which body is that of MAIN; what each execution token stands
-- for, token 1 first; the byte address of data space and its first bytes; and how many tokens the source had
pub record SourceProgram : Type 0 where
  pub names : List (List ℕ)
  pub bodies : List Nodes
  pub main_body : ℕ
  pub tokens : List Node
  pub data_start : ℕ
  pub first_space : List ℕ
  pub source_tokens : ℕ

-- the items of a definition
abbrev pub body_of : SourceProgram → ℕ → Nodes
body_of p definition = slice_index_or p.bodies definition Empty

-- the item that an execution token stands for; 0 is no token
abbrev pub token_of : SourceProgram → ℕ → Option Node
token_of p zero = None
token_of p (suc token) = slice_get p.tokens token

-- whether a word is DEPTH
abbrev pub is_depth_word : Word → Bool
is_depth_word Depth = true
is_depth_word word = false

-- whether the word DEPTH stands in an item, and in a list of items
abbrev mutual
  pub depth_in : Node → Bool
  depth_in (Plain word) = is_depth_word word
  depth_in (If first second) = depth_within first || depth_within second
  depth_in (Until body) = depth_within body
  depth_in (While test body) = depth_within test || depth_within body
  depth_in (Again body) = depth_within body
  depth_in (Do body plus) = depth_within body
  depth_in (QDo body plus) = depth_within body
  depth_in (Case arms rest) = depth_in_arms arms || depth_within rest
  depth_in node = false

  pub depth_within : Nodes → Bool
  depth_within Empty = false
  depth_within (Then node rest) = depth_in node || depth_within rest

  pub depth_in_arms : Arms → Bool
  depth_in_arms NoArm = false
  depth_in_arms (Arm tests body others) = depth_within tests || depth_within body || depth_in_arms others

-- whether it stands in a body or among the tokens
abbrev pub uses_depth : SourceProgram → Bool
uses_depth p = list_any depth_within p.bodies || list_any depth_in p.tokens
