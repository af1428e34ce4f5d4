use Rattle.std.proofs.Common.{◌≡◌, ◌+◌, ◌≤◌, true, false, ◌++◌, length, OnOk, refl, sym, ap, subst, arith, rules}
use Rattle.std.proofs.lemmas.Result.{on_ok_weaker}
use Rattle.forth_program.specs.Tree.{While, Again, QDo, Case}
use Rattle.forth_program.specs.Form.{everywhere, inside, in_arms}
use Rattle.forth_program.specs.ItemTrees.{node_of, tree_of, arms_of, arms_tree}
use Rattle.forth_program.specs.SourceTokens.{node_tokens, tokens_of, arms_tokens}
use Rattle.code_layout.specs.Built.{is_laid_out}
use Rattle.code_layout.specs.Places.{place_by, word_count, definition_count}
use Rattle.code_layout.specs.Layout.{q_do_cells, node_size, size, arms_size, out_place, node_cells, arms_cells}
use Rattle.code_layout.proofs.AddedCells.{cell_more, cells_more, of_more, arms_more, items_more, else_more, if_added, while_added, arm_added, case_added, q_do_added, one_added, item_fits, one_arm_added, arm_fits}
use Rattle.code_layout.proofs.Machine.{both}
use Rattle.code_layout.proofs.emission.+emission.Goals as goal

pub add_if-add_items-requires-2 : goal.add_if-add_items-requires-2
add_if-add_items-requires-2 t c =
    let place = place_by c.args.places.now in
    let first = tree_of c.args.first.now in
    let second = tree_of c.args.second.now in
    let one = cell_more _ _ _ c.in_ok-add_branch.ensures in
    let two = items_more c.args.data_start place c.args.out_at (length c.add_branch.new.code.items) c.args.tail first c.add_branch.new.code.items c.add_items.new.code.items c.in_ok-add_items.ensures in
    let three = else_more c.args.tail first second _ _ _ c.in_ok-add_else.ensures in
    let fits = c.requires.room in
    let room : length c.add_else.new.code.items + size c.args.tail true second ≤ 8000 = omega (arith, one, two, three, fits) in
    search rules

pub add_if-returns : goal.add_if-returns
add_if-returns t c =
    let place = place_by c.args.places.now in
    let first = tree_of c.args.first.now in
    let second = tree_of c.args.second.now in
    let one = cell_more _ _ _ c.in_ok-add_branch.ensures in
    let two = items_more c.args.data_start place c.args.out_at (length c.add_branch.new.code.items) c.args.tail first c.add_branch.new.code.items c.add_items.new.code.items c.in_ok-add_items.ensures in
    let three = else_more c.args.tail first second _ _ _ c.in_ok-add_else.ensures in
    grind (arith, if_added)

pub add_while-add_items-requires-2 : goal.add_while-add_items-requires-2
add_while-add_items-requires-2 t c =
    let place = place_by c.args.places.now in
    let body = tree_of c.args.body.now in
    let one = items_more c.args.data_start place c.args.out_at (length c.args.code.now.items) false (tree_of c.args.test.now) c.args.code.now.items c.add_items.new.code.items c.in_ok-add_items.ensures in
    let two = cell_more _ _ _ c.in_ok-add_branch.ensures in
    let fits = c.requires.room in
    let room : length c.add_branch.new.code.items + size false true body ≤ 8000 = omega (arith, one, two, fits) in
    search rules

pub add_while-returns : goal.add_while-returns
add_while-returns t c =
    let place = place_by c.args.places.now in
    let one = items_more c.args.data_start place c.args.out_at (length c.args.code.now.items) false (tree_of c.args.test.now) c.args.code.now.items c.add_items.new.code.items c.in_ok-add_items.ensures in
    let two = cell_more _ _ _ c.in_ok-add_branch.ensures in
    grind (arith, while_added)

pub add_item-returns-in-Do : goal.add_item-returns-in-Do
add_item-returns-in-Do t c =
    subst
    (λ node.
    OnOk c.add_do_loop.result
    (c.add_do_loop.new.code.items
    ≡ c.args.code.now.items
    ++ node_cells c.args.data_start (place_by c.args.places.now) c.args.out_at (length c.args.code.now.items) c.args.tail c.args.reached node))
    (sym c.do_has_parts.ensures) (c.add_do_loop.ensures c.args.out_at)

pub add_items-loop-i-preserved : goal.add_items-loop-i-preserved
add_items-loop-i-preserved t c =
    let l = c.loop-i in
    one_added c.args.data_start (place_by c.args.places.now) c.args.out_at c.args.tail (word_count c.args.places.now) (definition_count c.args.places.now) _ _
    l.code.items c.add_item.new.code.items l.reached c.is_before_end-here.result c.item_falls_through-reached.result c.list-list.result.now l.i
    c.index-list-i.result (omega arith)
    c.index-list-i.is c.is_before_end-here.ensures c.item_falls_through-reached.ensures c.in_ok-add_item.ensures l.invariant

pub add_item-add_while-requires : goal.add_item-add_while-requires
add_item-add_while-requires t c =
    let room : length c.args.code.now.items + node_size c.args.tail c.args.reached (While (tree_of c.in-While.test) (tree_of c.in-While.body)) ≤ 8000 =
    subst (λ node. length c.args.code.now.items + node_size c.args.tail c.args.reached node ≤ 8000) c.while_has_parts.ensures c.requires.room in
    let fewer : node_tokens (node_of c.args.item.now) ≡ tokens_of (tree_of c.in-While.test) + tokens_of (tree_of c.in-While.body) + 3 = ap node_tokens c.while_has_parts.ensures in
    let parts =
    both (everywhere (is_laid_out true (word_count c.args.places.now) (definition_count c.args.places.now)) (tree_of c.in-While.test))
    (everywhere (is_laid_out true (word_count c.args.places.now) (definition_count c.args.places.now)) (tree_of c.in-While.body))
    (subst (λ node. inside (is_laid_out true (word_count c.args.places.now) (definition_count c.args.places.now)) node ≡ true) c.while_has_parts.ensures c.requires.parts) in
    let test = parts.0 in
    let body = parts.1 in
    search rules

pub add_item-add_again-requires : goal.add_item-add_again-requires
add_item-add_again-requires t c =
    let room : length c.args.code.now.items + node_size c.args.tail c.args.reached (Again (tree_of c.in-Again.body)) ≤ 8000 =
    subst (λ node. length c.args.code.now.items + node_size c.args.tail c.args.reached node ≤ 8000) c.again_has_parts.ensures c.requires.room in
    let fewer : node_tokens (node_of c.args.item.now) ≡ tokens_of (tree_of c.in-Again.body) + 2 = ap node_tokens c.again_has_parts.ensures in
    let body = subst (λ node. inside (is_laid_out true (word_count c.args.places.now) (definition_count c.args.places.now)) node ≡ true) c.again_has_parts.ensures c.requires.parts in
    search rules

pub add_item-add_q_do-requires : goal.add_item-add_q_do-requires
add_item-add_q_do-requires t c =
    let room : length c.args.code.now.items + node_size c.args.tail c.args.reached (QDo (tree_of c.in-QDo.body) c.in-QDo.plus) ≤ 8000 =
    subst (λ node. length c.args.code.now.items + node_size c.args.tail c.args.reached node ≤ 8000) c.q_do_has_parts.ensures c.requires.room in
    let fewer : node_tokens (node_of c.args.item.now) ≡ tokens_of (tree_of c.in-QDo.body) + 2 = ap node_tokens c.q_do_has_parts.ensures in
    let body = subst (λ node. inside (is_laid_out true (word_count c.args.places.now) (definition_count c.args.places.now)) node ≡ true) c.q_do_has_parts.ensures c.requires.parts in
    search rules

pub add_item-add_case-requires : goal.add_item-add_case-requires
add_item-add_case-requires t c =
    let arms = arms_tree (arms_of c.in-Case.arms) in
    let room : length c.args.code.now.items + node_size c.args.tail c.args.reached (Case (arms_tree (arms_of c.in-Case.arms)) (tree_of c.in-Case.rest)) ≤ 8000 =
    subst (λ node. length c.args.code.now.items + node_size c.args.tail c.args.reached node ≤ 8000) c.case_has_parts.ensures c.requires.room in
    let fewer : node_tokens (node_of c.args.item.now) ≡ arms_tokens (arms_tree (arms_of c.in-Case.arms)) + tokens_of (tree_of c.in-Case.rest) + 2 = ap node_tokens c.case_has_parts.ensures in
    let parts =
    both (in_arms (is_laid_out true (word_count c.args.places.now) (definition_count c.args.places.now)) (arms_tree (arms_of c.in-Case.arms)))
    (everywhere (is_laid_out true (word_count c.args.places.now) (definition_count c.args.places.now)) (tree_of c.in-Case.rest))
    (subst (λ node. inside (is_laid_out true (word_count c.args.places.now) (definition_count c.args.places.now)) node ≡ true) c.case_has_parts.ensures c.requires.parts) in
    let first = parts.0 in
    let last = parts.1 in
    search rules

pub add_item-returns-in-QDo : goal.add_item-returns-in-QDo
add_item-returns-in-QDo t c =
    subst
    (λ node.
    OnOk c.add_q_do.result
    (c.add_q_do.new.code.items
    ≡ c.args.code.now.items
    ++ node_cells c.args.data_start (place_by c.args.places.now) c.args.out_at (length c.args.code.now.items) c.args.tail c.args.reached node))
    (sym c.q_do_has_parts.ensures) (c.add_q_do.ensures c.args.out_at)

pub add_items-add_item-requires : goal.add_items-add_item-requires
add_items-add_item-requires t c =
    let l = c.loop-i in
    let f =
    item_fits c.args.data_start (place_by c.args.places.now) c.args.out_at c.args.tail (word_count c.args.places.now)
    (definition_count c.args.places.now) _ _ l.code.items l.reached c.is_before_end-here.result c.list-list.result.now l.i c.index-list-i.result
    (omega arith) c.index-list-i.is c.is_before_end-here.ensures
    l.invariant in
    let laid = f.0 in
    let parts = f.1 in
    let room = f.2 in
    let few = f.3 in
    search rules

pub add_arms-add_arm-requires : goal.add_arms-add_arm-requires
add_arms-add_arm-requires t c =
    let l = c.loop-arm in
    let f =
    arm_fits c.args.data_start (place_by c.args.places.now) c.args.out_at c.args.tail c.args.end_at (word_count c.args.places.now)
    (definition_count c.args.places.now) _ _ l.code.items c.args.arms.now l.arm-index c.arm-item.result (omega arith) c.arm-item.is l.invariant in
    let tests = f.0 in
    let body = f.1 in
    let room = f.2 in
    let few = f.3 in
    search rules

pub add_arms-loop-arm-preserved : goal.add_arms-loop-arm-preserved
add_arms-loop-arm-preserved t c =
    let l = c.loop-arm in
    one_arm_added c.args.data_start (place_by c.args.places.now) c.args.out_at c.args.tail c.args.end_at (word_count c.args.places.now)
    (definition_count c.args.places.now) _ _ l.code.items c.add_arm.new.code.items c.args.arms.now l.arm-index c.arm-item.result (omega arith) c.arm-item.is
    c.in_ok-add_arm.ensures l.invariant

pub add_arm-add_items-requires-2 : goal.add_arm-add_items-requires-2
add_arm-add_items-requires-2 t c =
    let place = place_by c.args.places.now in
    let body = tree_of c.args.body.now in
    let one = items_more c.args.data_start place c.args.out_at (length c.args.code.now.items) false (tree_of c.args.tests.now) c.args.code.now.items c.add_items.new.code.items c.in_ok-add_items.ensures in
    let two = of_more _ _ _ c.in_ok-add_of.ensures in
    let fits = c.requires.room in
    let room : length c.add_of.new.code.items + size c.args.tail true body ≤ 8000 = omega (arith, one, two, fits) in
    search rules

pub add_arm-returns : goal.add_arm-returns
add_arm-returns t c =
    let place = place_by c.args.places.now in
    let tests = tree_of c.args.tests.now in
    let body = tree_of c.args.body.now in
    let one = items_more c.args.data_start place c.args.out_at (length c.args.code.now.items) false (tree_of c.args.tests.now) c.args.code.now.items c.add_items.new.code.items c.in_ok-add_items.ensures in
    let two = of_more _ _ _ c.in_ok-add_of.ensures in
    grind (arith, arm_added)

pub add_case-add_items-requires : goal.add_case-add_items-requires
add_case-add_items-requires t c =
    let place = place_by c.args.places.now in
    let one = arms_more c.args.data_start place c.args.out_at (length c.args.code.now.items) c.args.tail _ (arms_tree c.list-list.result.now) c.args.code.now.items c.add_arms.new.code.items c.in_ok-add_arms.ensures in
    let same = ap (λ arms. arms_size c.args.tail (arms_tree arms)) c.list-list.ensures in
    let fits = c.requires.room in
    let room : length c.add_arms.new.code.items + size false true (tree_of c.args.rest.now) ≤ 8000 = omega (arith, one, same, fits) in
    search rules

pub add_case-returns : goal.add_case-returns
add_case-returns t c =
    let place = place_by c.args.places.now in
    let code = c.args.code.now.items in
    let arms = arms_tree (arms_of c.args.arms.now) in
    let rest = tree_of c.args.rest.now in
    let one = arms_more c.args.data_start place c.args.out_at (length c.args.code.now.items) c.args.tail _ (arms_tree c.list-list.result.now) c.args.code.now.items c.add_arms.new.code.items c.in_ok-add_arms.ensures in
    let same = ap (λ arms. arms_size c.args.tail (arms_tree arms)) c.list-list.ensures in
    let trees = ap arms_tree c.list-list.ensures in
    let added : c.add_arms.new.code.items ≡ code ++ arms_cells c.args.data_start place c.args.out_at (length code) c.args.tail (length code + arms_size c.args.tail arms + size false true rest + 1) arms = grind arith in
    on_ok_weaker c.add_drop.result
    (case_added c.args.data_start place c.args.out_at (length code) c.args.tail arms rest code c.add_arms.new.code.items c.add_items.new.code.items
    c.add_drop.new.code.items refl (omega (arith, one, same)) added c.in_ok-add_items.ensures) c.add_drop.ensures

pub add_q_do-returns : goal.add_q_do-returns
add_q_do-returns t c = λ out_at.
    let place = place_by c.args.places.now in
    let code = c.args.code.now.items in
    let body = tree_of c.args.body.now in
    let one : length c.add_skip.new.code.items ≡ length code + 7 = cells_more _ _ _ c.in_ok-add_skip.ensures in
    let added : c.add_skip.new.code.items ≡ code ++ q_do_cells (length code + 7) (out_place (length code + 7) body c.args.plus + 4) = grind arith in
    on_ok_weaker c.add_do_loop.result (q_do_added c.args.data_start place out_at (length code) body c.args.plus code c.add_skip.new.code.items c.add_do_loop.new.code.items one added) (c.add_do_loop.ensures out_at)
