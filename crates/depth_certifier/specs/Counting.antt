-- How many loops a program has, and whether it has EXECUTE.
use Rattle.std.specs.Prelude.{◌≡◌, ℕ, ◌+◌, ◌≤◌, ◌^◌, Bool, true, false, ◌||◌, List, [], ◌∷◌, Option, Some, None}
use Rattle.std.specs.List.{list_any}
use Rattle.word_table.specs.declared.word.Word.{Word}
use Rattle.word_table.specs.declared.word.Word.TheVariants.{Execute}
use Rattle.forth_program.specs.Tree.{Node, Nodes, Arms, Plain, If, Until, While, Again, Do, QDo, Case, Empty, Then, NoArm, Arm}
use Rattle.forth_program.specs.Program.{SourceProgram}
use Rattle.depth_certifier.specs.Certificate.{loops}

-- the loops of all these bodies
abbrev pub all_loops : List Nodes → ℕ
all_loops [] = 0
all_loops (body ∷ bodies) = loops body + all_loops bodies

-- a count is so many, or these are more than one holds
abbrev pub CountIs : Option ℕ → ℕ → Type 0
CountIs (Some count) total = count ≡ total
CountIs None total = 2 ^ 64 ≤ total

abbrev pub is_execute_word : Word → Bool
is_execute_word Execute = true
is_execute_word word = false

-- whether EXECUTE stands in an item, and in a list of items
abbrev mutual
  pub execute_in : Node → Bool
  execute_in (Plain word) = is_execute_word word
  execute_in (If first second) = execute_within first || execute_within second
  execute_in (Until body) = execute_within body
  execute_in (While test body) = execute_within test || execute_within body
  execute_in (Again body) = execute_within body
  execute_in (Do body plus) = execute_within body
  execute_in (QDo body plus) = execute_within body
  execute_in (Case arms rest) = execute_in_arms arms || execute_within rest
  execute_in node = false

  pub execute_within : Nodes → Bool
  execute_within Empty = false
  execute_within (Then node rest) = execute_in node || execute_within rest

  pub execute_in_arms : Arms → Bool
  execute_in_arms NoArm = false
  execute_in_arms (Arm tests body others) = execute_within tests || execute_within body || execute_in_arms others

-- whether it stands in a body
abbrev pub uses_execute : SourceProgram → Bool
uses_execute p = list_any execute_within p.bodies
