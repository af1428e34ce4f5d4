-- What structures do, at the lists that they hold.
use Rattle.std.proofs.Common.{◌≡◌, List, Bool, ap, sym, ◌∙◌}
use Rattle.forth_program.specs.declared.item.Item.{Item, If, Do, QDo}
use Rattle.forth_program.specs.declared.item.Items.{Items}
use Rattle.forth_program.specs.ItemTrees.{node_of, nodes_of}
use Rattle.forth_program.specs.Program.{SourceProgram}
use Rattle.forth_program.specs.State.{Work, State}
use Rattle.forth_program.specs.Step.{act, first_in, on_flag, before, closed_by, loop_begins, loop_may_begin, IsIf, IsDo, IsQDo}
use Rattle.forth_program.proofs.Views.{view_If, view_Do, view_QDo}

pub act_if : (p : SourceProgram) (item : Item) (a b : Items) (after : List Work) (s : State) → item ≡ If a b → act p (first_in (node_of item) after) s ≡ act p (IsIf (nodes_of (a.list.items)) (nodes_of (b.list.items)) after) s
act_if p item a b after s e = ap (λ n. act p (first_in n after) s) (view_If item a b e)

pub act_do : (p : SourceProgram) (item : Item) (a : Items) (plus : Bool) (after : List Work) (s : State) → item ≡ Do a plus → act p (first_in (node_of item) after) s ≡ act p (IsDo (nodes_of (a.list.items)) plus after) s
act_do p item a plus after s e = ap (λ n. act p (first_in n after) s) (view_Do item a plus e)

pub act_q_do : (p : SourceProgram) (item : Item) (a : Items) (plus : Bool) (after : List Work) (s : State) → item ≡ QDo a plus → act p (first_in (node_of item) after) s ≡ act p (IsQDo (nodes_of (a.list.items)) plus after) s
act_q_do p item a plus after s e = ap (λ n. act p (first_in n after) s) (view_QDo item a plus e)

pub chooses : (p : SourceProgram) (item : Item) (a b : Items) (xs ys : List Item) (after : List Work) (s : State) → item ≡ If a b → xs ≡ a.list.items → ys ≡ b.list.items →
    on_flag s.cells (before (nodes_of ys) after) (before (nodes_of xs) (closed_by (nodes_of ys) after)) s ≡ act p (first_in (node_of item) after) s
chooses p item a b xs ys after s e f g =
    ap (λ xs. on_flag s.cells (before (nodes_of ys) after) (before (nodes_of xs) (closed_by (nodes_of ys) after)) s) f
    ∙ ap (λ ys. on_flag s.cells (before (nodes_of ys) after) (before (nodes_of (a.list.items)) (closed_by (nodes_of ys) after)) s) g
    ∙ sym (act_if p item a b after s e)

pub begins_loop : (p : SourceProgram) (item : Item) (a : Items) (plus : Bool) (xs : List Item) (after : List Work) (s : State) → item ≡ Do a plus → xs ≡ a.list.items →
    loop_begins (nodes_of xs) plus after s.cells s ≡ act p (first_in (node_of item) after) s
begins_loop p item a plus xs after s e f = ap (λ xs. loop_begins (nodes_of xs) plus after s.cells s) f ∙ sym (act_do p item a plus after s e)

pub may_begin_loop : (p : SourceProgram) (item : Item) (a : Items) (plus : Bool) (xs : List Item) (after : List Work) (s : State) → item ≡ QDo a plus → xs ≡ a.list.items →
    loop_may_begin (nodes_of xs) plus after s.cells s ≡ act p (first_in (node_of item) after) s
may_begin_loop p item a plus xs after s e f = ap (λ xs. loop_may_begin (nodes_of xs) plus after s.cells s) f ∙ sym (act_q_do p item a plus after s e)
