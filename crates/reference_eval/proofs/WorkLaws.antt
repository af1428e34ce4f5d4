-- What BEGIN and CASE begin with, at the lists that they hold.
use Rattle.std.proofs.Common.{◌≡◌, List, [], ◌∷◌, ap, refl, Bor, Bool, length, sym, ◌∙◌, arith}
use Rattle.forth_program.specs.Tree.{Nodes, Empty, Then}
use Rattle.reference_eval.specs.declared.work.Task.{Task}
use Rattle.reference_eval.specs.declared.work.Task.TheVariants as task
use Rattle.reference_eval.specs.Work.{works}
use Rattle.forth_program.specs.declared.item.Item.{Item, Until, While, Again, Case}
use Rattle.forth_program.specs.declared.item.Items.{Items}
use Rattle.forth_program.specs.declared.item.Arms.{Arms}
use Rattle.forth_program.specs.ItemTrees.{node_of, nodes_of, arms_of, arms_tree}
use Rattle.forth_program.specs.State.{Work}
use Rattle.forth_program.specs.State as run
use Rattle.forth_program.specs.Step.{first_in, first_among, first_of_case, after_loop, before, IsUntil, IsWhile, IsAgain, IsEndCase, IsOf}
use Rattle.forth_program.proofs.Views.{view_Until, view_While, view_Again, view_Case}

pub first_until : (item : Item) (a : Items) (after : List Work) → item ≡ Until a → first_in (node_of item) after ≡ first_among (nodes_of (a.list.items)) (IsUntil (nodes_of (a.list.items)) after)
    (run.UntilTest (nodes_of (a.list.items)) ∷ after)
first_until item a after e = ap (λ n. first_in n after) (view_Until item a e)

pub first_while : (item : Item) (a b : Items) (after : List Work) → item ≡ While a b → first_in (node_of item) after ≡ first_among (nodes_of (a.list.items)) (IsWhile (nodes_of (a.list.items))
    (nodes_of (b.list.items)) after) (run.WhileTest (nodes_of (a.list.items)) (nodes_of (b.list.items)) ∷ after)
first_while item a b after e = ap (λ n. first_in n after) (view_While item a b e)

pub first_again : (item : Item) (a : Items) (after : List Work) → item ≡ Again a → first_in (node_of item) after ≡ first_among (nodes_of (a.list.items)) (IsAgain (nodes_of (a.list.items)) after)
    (run.BeginAgain (nodes_of (a.list.items)) ∷ after)
first_again item a after e = ap (λ n. first_in n after) (view_Again item a e)

pub first_case : (item : Item) (arms : Arms) (a : Items) (after : List Work) → item ≡ Case arms a → first_in (node_of item) after ≡ first_of_case (arms_tree (arms_of arms)) (nodes_of (a.list.items))
    (first_among (nodes_of (a.list.items)) (IsEndCase after) (run.EndCase ∷ after)) after
first_case item arms a after e = ap (λ n. first_in n after) (view_Case item arms a e)

pub case_empty : (item : Item) (arms : Arms) (a : Items) (xs : List (Items × Items)) (ys : List Item) (after : List Work) → item ≡ Case arms a → xs ≡ arms_of arms → length xs ≡ 0 → ys ≡ a.list.items →
    first_in (node_of item) after ≡ first_among (nodes_of ys) (IsEndCase after) (run.EndCase ∷ after)
case_empty item arms a [] ys after e f n g = first_case item arms a after e ∙ ap (λ arms. first_of_case (arms_tree arms) (nodes_of (a.list.items)) (first_among (nodes_of (a.list.items))
    (IsEndCase after) (run.EndCase ∷ after)) after) (sym f) ∙ ap (λ ys. first_among (nodes_of ys) (IsEndCase after) (run.EndCase ∷ after)) (sym g)
case_empty item arms a (x ∷ xs) ys after e f n g = absurd (omega arith)

pub case_more : (item : Item) (arms : Arms) (a : Items) (xs : List (Items × Items)) (arm : Items × Items) (others : List (Items × Items)) (tests body ys : List Item) (after : List Work) →
    item ≡ Case arms a → xs ≡ arms_of arms → xs ≡ arm ∷ others → tests ≡ arm.0.list.items → body ≡ arm.1.list.items → ys ≡ a.list.items →
    first_in (node_of item) after ≡ first_among (nodes_of tests) (IsOf (nodes_of body) (arms_tree others) (nodes_of ys) after) (run.OfTest (nodes_of body) (arms_tree others) (nodes_of ys) ∷ after)
case_more item arms a xs arm others tests body ys after e f h t b g =
    first_case item arms a after e ∙ ap (λ arms. first_of_case (arms_tree arms) (nodes_of (a.list.items)) (first_among (nodes_of (a.list.items)) (IsEndCase after) (run.EndCase ∷ after)) after) (sym f ∙ h)
    ∙ ap (λ ys. first_among (nodes_of (arm.0.list.items)) (IsOf (nodes_of (arm.1.list.items)) (arms_tree others) (nodes_of ys) after) (run.OfTest (nodes_of (arm.1.list.items)) (arms_tree others) (nodes_of ys) ∷ after)) (sym g)
    ∙ ap (λ body. first_among (nodes_of (arm.0.list.items)) (IsOf (nodes_of body) (arms_tree others) (nodes_of ys) after) (run.OfTest (nodes_of body) (arms_tree others) (nodes_of ys) ∷ after)) (sym b)
    ∙ ap (λ tests. first_among (nodes_of tests) (IsOf (nodes_of body) (arms_tree others) (nodes_of ys) after) (run.OfTest (nodes_of body) (arms_tree others) (nodes_of ys) ∷ after)) (sym t)

-- items before other work are dropped with it
pub past_items : (nodes : Nodes) (rest : List Work) → after_loop (before nodes rest) ≡ after_loop rest
past_items Empty rest = refl
past_items (Then node nodes) rest = past_items nodes rest

pub past_task : (t : Task) (rest : List Task) → ((body : Bor (List Item)) (plus : Bool) → t ≡ task.Turn body plus → ⊥) → after_loop (works (t ∷ rest)) ≡ after_loop (works rest)
past_task (task.List items) rest no_turn = past_items (nodes_of items.now) (works rest)
past_task (task.Turn body plus) rest no_turn = absurd (no_turn body plus refl)
past_task t rest no_turn = refl
