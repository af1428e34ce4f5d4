-- The work of a source run that tasks stand for.
use Rattle.std.specs.Prelude.{List, [], ◌∷◌, Bool, true, false}
use Rattle.forth_program.specs.Tree.{Node, Plain, Text, Case, Until, While, Again}
use Rattle.forth_program.specs.State as run
use Rattle.forth_program.specs.Step as step
use Rattle.forth_program.specs.ItemTrees.{arms_tree, node_of, nodes_of}
use Rattle.forth_program.specs.Parts.{token_node}
use Rattle.reference_eval.specs.declared.work.Task.{Task}
use Rattle.reference_eval.specs.declared.work.Task.TheVariants as task
use Rattle.reference_eval.specs.declared.work.First.{First}
use Rattle.reference_eval.specs.declared.work.First.TheVariants as first

-- a task before other work
abbrev pub work_on : Task → List run.Work → List run.Work
work_on (task.List items) after = step.before (nodes_of items.now) after
work_on (task.Token token) after = run.Todo (token_node token) ∷ after
work_on (task.Case arms rest) after = run.Todo (Case (arms_tree arms.now) (nodes_of rest.now)) ∷ after
work_on task.TrueEnd after = run.TrueEnd ∷ after
work_on (task.UntilTest body) after = run.UntilTest (nodes_of body.now) ∷ after
work_on (task.WhileTest test body) after = run.WhileTest (nodes_of test.now) (nodes_of body.now) ∷ after
work_on (task.Repeat test body) after = run.Repeat (nodes_of test.now) (nodes_of body.now) ∷ after
work_on (task.BeginAgain body) after = run.BeginAgain (nodes_of body.now) ∷ after
work_on (task.Turn body plus) after = run.Turn (nodes_of body.now) plus ∷ after
work_on (task.OfTest body others rest) after = run.OfTest (nodes_of body.now) (arms_tree others.now) (nodes_of rest.now) ∷ after
work_on task.EndOf after = run.EndOf ∷ after
work_on task.EndCase after = run.EndCase ∷ after

abbrev pub works : List Task → List run.Work
works [] = []
works (t ∷ tasks) = work_on t (works tasks)

-- what is first, with the work after it
abbrev pub first_of : First → List run.Work → step.First
first_of first.BodyEnd after = step.BodyEnd
first_of (first.Item item) after = step.first_in (node_of item.now) after
first_of (first.Token token) after = step.first_in (token_node token) after
first_of first.TrueEnd after = step.IsTrueEnd after
first_of (first.UntilTest body) after = step.IsUntil (nodes_of body.now) after
first_of (first.WhileTest test body) after = step.IsWhile (nodes_of test.now) (nodes_of body.now) after
first_of (first.Repeat test body) after = step.IsRepeat (nodes_of test.now) (nodes_of body.now) after
first_of (first.BeginAgain body) after = step.IsAgain (nodes_of body.now) after
first_of (first.Turn body plus) after = step.IsTurn (nodes_of body.now) plus after
first_of (first.OfTest body others rest) after = step.IsOf (nodes_of body.now) (arms_tree others.now) (nodes_of rest.now) after
first_of first.EndOf after = step.IsEndOf after
first_of first.EndCase after = step.IsEndCase after

-- an item that is no BEGIN and no CASE
abbrev pub is_open_node : Node → Bool
is_open_node (Until body) = false
is_open_node (While test body) = false
is_open_node (Again body) = false
is_open_node (Case arms rest) = false
is_open_node node = true

abbrev pub is_open : First → Bool
is_open (first.Item item) = is_open_node (node_of item.now)
is_open other = true

-- a mark, or the end of a body
abbrev pub is_mark : First → Bool
is_mark (first.Item item) = false
is_mark (first.Token token) = false
is_mark other = true

-- an item that is no word, no text and none of those
abbrev pub is_structure : Node → Bool
is_structure (Until body) = false
is_structure (While test body) = false
is_structure (Again body) = false
is_structure (Case arms rest) = false
is_structure (Plain word) = false
is_structure (Text kind address size) = false
is_structure node = true
