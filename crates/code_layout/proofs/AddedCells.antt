-- Cells added to code.
use Rattle.std.proofs.Common.{◌≡◌, ℕ, zero, suc, ◌+◌, ◌<◌, ◌≤◌, Bool, true, false, ◌&&◌, List, [], ◌∷◌, ◌++◌, length, drop, get_or, refl, sym, ap, ◌∙◌, subst, append_assoc, length-append, arith}
use Rattle.std.proofs.lemmas.List.{drop_more}
use Rattle.forth_program.specs.declared.item.Item.{Item}
use Rattle.forth_program.specs.declared.item.Items.{Items}
use Rattle.forth_program.specs.Tree.{Node, Nodes, Arms, If, While, QDo, Case, Exit, Empty, Then, NoArm, Arm}
use Rattle.forth_program.specs.Tail.{is_tail}
use Rattle.forth_program.specs.Form.{everywhere, inside, in_arms}
use Rattle.forth_program.specs.ItemTrees.{node_of, nodes_of, tree_of, arms_tree}
use Rattle.forth_program.specs.SourceTokens.{node_tokens, tokens_of, arms_tokens}
use Rattle.code_layout.specs.Built.{is_laid_out}
use Rattle.code_layout.specs.Layout.{Routine, branch_to, jump_to, q_do_cells, of_cells, end_case_cells, falls_through, reaches_end, cell_if, size_if, else_size}
use Rattle.code_layout.specs.Layout.{else_cells, size, arms_size, else_place, while_place, out_place, arm_place, others_place, node_size, loop_code, node_cells}
use Rattle.code_layout.specs.Layout.{nodes_cells, arm_cells, arms_cells}
use Rattle.code_layout.proofs.LaidCode.{else_size_is, node_size_is, size_is, arm_size_is, arms_size_is}
use Rattle.code_layout.proofs.Machine.{both}

-- ---- tail position, and where code leads, at a place of a list

-- behind the last item
pub none_behind : (items : List Item) (i : ℕ) (tail : Bool) → length items ≤ i → is_tail (nodes_of (drop i items)) tail ≡ tail
none_behind [] zero tail h = refl
none_behind [] (suc i) tail h = refl
none_behind (item ∷ items) zero tail h = absurd (omega arith)
none_behind (item ∷ items) (suc i) tail h = none_behind items i tail (omega arith)

exit_before : (node : Node) (rest rest' : Nodes) (tail tail' : Bool) → is_tail (Then node rest) tail ≡ is_tail (Then node rest') tail'
exit_before Exit rest rest' tail tail' = refl
exit_before node rest rest' tail tail' = refl

-- before an item
pub one_behind : (items : List Item) (i : ℕ) (item : Item) (tail : Bool) → i < length items → item ≡ get_or items i item → is_tail (nodes_of (drop i items)) tail ≡ is_tail (Then (node_of item) Empty) false
one_behind items i item tail lt is =
    ap (λ xs. is_tail (nodes_of xs) tail) (drop_more items i item lt) ∙ exit_before (node_of (get_or items i item)) (nodes_of (drop (i + 1) items)) Empty tail false ∙ ap (λ x. is_tail (Then (node_of x) Empty) false) (sym is)

-- an item, and those behind it
pub next_item : (items : List Item) (i : ℕ) (item : Item) → i < length items → item ≡ get_or items i item → nodes_of (drop i items) ≡ Then (node_of item) (nodes_of (drop (i + 1) items))
next_item items i item lt is = ap nodes_of (drop_more items i item lt ∙ ap (λ x. x ∷ drop (i + 1) items) (sym is))

pub reached_behind : (items : List Item) (i : ℕ) (item : Item) (tail reached here : Bool) → i < length items → item ≡ get_or items i item → here ≡ is_tail (nodes_of (drop (i + 1) items)) tail →
    reaches_end tail reached (nodes_of (drop i items)) ≡ reaches_end tail (falls_through here (node_of item)) (nodes_of (drop (i + 1) items))
reached_behind items i item tail reached here lt is e =
    ap (reaches_end tail reached) (next_item items i item lt is) ∙ ap (λ b. reaches_end tail (falls_through b (node_of item)) (nodes_of (drop (i + 1) items))) (sym e)

pub size_behind : (items : List Item) (i : ℕ) (item : Item) (tail reached here : Bool) → i < length items → item ≡ get_or items i item → here ≡ is_tail (nodes_of (drop (i + 1) items)) tail →
    size tail reached (nodes_of (drop i items)) ≡ node_size here reached (node_of item) + size tail (falls_through here (node_of item)) (nodes_of (drop (i + 1) items))
size_behind items i item tail reached here lt is e =
    ap (size tail reached) (next_item items i item lt is) ∙ ap (λ b. node_size b reached (node_of item) + size tail (falls_through b (node_of item)) (nodes_of (drop (i + 1) items))) (sym e)

-- ---- cells added

pub some_else_size : (tail : Bool) (first : Nodes) (items : List Item) → 1 ≤ length items → size_if (reaches_end tail true first) ≡ else_size tail first (nodes_of items)
some_else_size tail first [] some = absurd (omega arith)
some_else_size tail first (item ∷ items) some = refl

pub some_else_cells : (tail : Bool) (first : Nodes) (items : List Item) (target : ℕ) → 1 ≤ length items → else_cells tail first (nodes_of items) target ≡ cell_if (reaches_end tail true first) (jump_to target)
some_else_cells tail first [] target some = absurd (omega arith)
some_else_cells tail first (item ∷ items) target some = refl

pub cell_more : (before after : List ℕ) (cell : ℕ) → after ≡ before ++ cell ∷ [] → length after ≡ length before + 1
cell_more before after cell e = ap length e ∙ length-append before (cell ∷ [])

pub cells_more : (before after more : List ℕ) → after ≡ before ++ more → length after ≡ length before + length more
cells_more before after more e = ap length e ∙ length-append before more

pub items_more : (data_start : ℕ) (place : Routine → ℕ) (out_at at : ℕ) (tail : Bool) (nodes : Nodes) (before after : List ℕ) →
    after ≡ before ++ nodes_cells data_start place out_at at tail true nodes → length after ≡ length before + size tail true nodes
items_more data_start place out_at at tail nodes before after e = omega (arith, cells_more before after (nodes_cells data_start place out_at at tail true nodes) e, size_is nodes data_start place out_at at tail true)

pub else_more : (tail : Bool) (first second : Nodes) (target : ℕ) (before after : List ℕ) → after ≡ before ++ else_cells tail first second target → length after ≡ length before + else_size tail first second
else_more tail first second target before after e = cells_more before after (else_cells tail first second target) e ∙ ap (λ n. length before + n) (else_size_is tail first second target)

pub of_more : (before after : List ℕ) (other_at : ℕ) → after ≡ before ++ of_cells other_at → length after ≡ length before + 4
of_more before after other_at e = cells_more before after (of_cells other_at) e

pub arms_more : (data_start : ℕ) (place : Routine → ℕ) (out_at at : ℕ) (tail : Bool) (end_at : ℕ) (arms : Arms) (before after : List ℕ) →
    after ≡ before ++ arms_cells data_start place out_at at tail end_at arms → length after ≡ length before + arms_size tail arms
arms_more data_start place out_at at tail end_at arms before after e =
    cells_more before after (arms_cells data_start place out_at at tail end_at arms) e ∙ ap (λ n. length before + n) (arms_size_is arms data_start place out_at at tail end_at)

-- four parts one after the other
four_parts : (a b c d e : List ℕ) (w x y z : List ℕ) → b ≡ a ++ w → c ≡ b ++ x → d ≡ c ++ y → e ≡ d ++ z → e ≡ a ++ (w ++ (x ++ (y ++ z)))
four_parts a b c d e w x y z first second third fourth = simp (fourth, third, second, first, append_assoc) refl

module _ (data_start : ℕ) (place : Routine → ℕ) (out_at at : ℕ) where
  pub if_added : (tail : Bool) (first second : Nodes) (a b c d e : List ℕ) → length b ≡ at + 1 → length d ≡ else_place at tail first second →
      b ≡ a ++ branch_to (else_place at tail first second) ∷ [] → c ≡ b ++ nodes_cells data_start place out_at (length b) tail true first →
      d ≡ c ++ else_cells tail first second (else_place at tail first second + size tail true second) →
      e ≡ d ++ nodes_cells data_start place out_at (length d) tail true second → e ≡ a ++ node_cells data_start place out_at at tail true (If first second)
  if_added tail first second a b c d e at_first at_second one two three four =
      four_parts a b c d e (branch_to (else_place at tail first second) ∷ []) (nodes_cells data_start place out_at (at + 1) tail true first)
      (else_cells tail first second (else_place at tail first second + size tail true second))
      (nodes_cells data_start place out_at (else_place at tail first second) tail true second)
      one (two ∙ ap (λ q. b ++ nodes_cells data_start place out_at q tail true first) at_first) three (four ∙ ap (λ q. d ++ nodes_cells data_start place out_at q tail true second) at_second)

  pub while_added : (test body : Nodes) (a b c d e : List ℕ) → length a ≡ at → length c ≡ while_place at test →
      b ≡ a ++ nodes_cells data_start place out_at (length a) false true test → c ≡ b ++ branch_to (while_place at test + size false true body + 1) ∷ [] →
      d ≡ c ++ nodes_cells data_start place out_at (length c) false true body → e ≡ d ++ jump_to at ∷ [] → e ≡ a ++ node_cells data_start place out_at at false true (While test body)
  while_added test body a b c d e at_test at_body one two three four =
      four_parts a b c d e (nodes_cells data_start place out_at at false true test) (branch_to (while_place at test + size false true body + 1) ∷ [])
      (nodes_cells data_start place out_at (while_place at test) false true body) (jump_to at ∷ [])
      (one ∙ ap (λ q. a ++ nodes_cells data_start place out_at q false true test) at_test) two (three ∙ ap (λ q. c ++ nodes_cells data_start place out_at q false true body) at_body) four

  -- the parts of an arm, of a case and of a ?DO loop
  pub arm_added : (tail : Bool) (end_at : ℕ) (tests body : Nodes) (a b c d e : List ℕ) → length a ≡ at → length c ≡ arm_place at tests →
      b ≡ a ++ nodes_cells data_start place out_at (length a) false true tests → c ≡ b ++ of_cells (others_place at tail tests body) →
      d ≡ c ++ nodes_cells data_start place out_at (length c) tail true body → e ≡ d ++ cell_if (reaches_end tail true body) (jump_to end_at) → e ≡ a ++ arm_cells data_start place out_at at tail end_at tests body
  arm_added tail end_at tests body a b c d e at_tests at_body one two three four =
      four_parts a b c d e (nodes_cells data_start place out_at at false true tests) (of_cells (others_place at tail tests body))
      (nodes_cells data_start place out_at (arm_place at tests) tail true body) (cell_if (reaches_end tail true body) (jump_to end_at))
      (one ∙ ap (λ q. a ++ nodes_cells data_start place out_at q false true tests) at_tests) two (three ∙ ap (λ q. c ++ nodes_cells data_start place out_at q tail true body) at_body) four

  pub case_added : (tail : Bool) (arms : Arms) (rest : Nodes) (a b c d : List ℕ) → length a ≡ at → length b ≡ at + arms_size tail arms →
      b ≡ a ++ arms_cells data_start place out_at (length a) tail (at + arms_size tail arms + size false true rest + 1) arms →
      c ≡ b ++ nodes_cells data_start place out_at (length b) false true rest → d ≡ c ++ end_case_cells → d ≡ a ++ node_cells data_start place out_at at tail true (Case arms rest)
  case_added tail arms rest a b c d at_arms at_rest one two three =
      let end_at = at + arms_size tail arms + size false true rest + 1 in
      let one' = one ∙ ap (λ q. a ++ arms_cells data_start place out_at q tail end_at arms) at_arms in
      let two' = two ∙ ap (λ q. b ++ nodes_cells data_start place out_at q false true rest) at_rest in
      simp (three, two', one', append_assoc) refl

  pub q_do_added : (body : Nodes) (plus : Bool) (a b c : List ℕ) → length b ≡ at + 7 → b ≡ a ++ q_do_cells (at + 7) (out_place (at + 7) body plus + 4) →
      c ≡ b ++ loop_code (length b) body plus (nodes_cells data_start place (out_place (length b) body plus) (length b + 8) false true body) →
      c ≡ a ++ node_cells data_start place out_at at false true (QDo body plus)
  q_do_added body plus a b c at_loop one two =
      let two' = two ∙ ap (λ q. b ++ loop_code q body plus (nodes_cells data_start place (out_place q body plus) (q + 8) false true body)) at_loop in
      simp (two', one, append_assoc) refl

module _ (data_start : ℕ) (place : Routine → ℕ) (out_at : ℕ) (tail : Bool) where
  -- where items were added, and these are to follow, to which code leads or not: they give the whole, fit and have so many tokens
  abbrev pub Before : ℕ → ℕ → ℕ → List ℕ → List ℕ → Bool → List Item → Type 0
  Before words count most whole code reached items =
      (code ++ nodes_cells data_start place out_at (length code) tail reached (nodes_of items) ≡ whole) × (everywhere (is_laid_out true words count) (nodes_of items) ≡ true)
      × (length code + size tail reached (nodes_of items) ≤ 8000) × (tokens_of (nodes_of items) ≤ most)

  -- one of them is added
  pub one_added : (words count most : ℕ) (whole code after : List ℕ) (reached here after_reached : Bool) (items : List Item) (i : ℕ) (item : Item) →
      i < length items → item ≡ get_or items i item → here ≡ is_tail (nodes_of (drop (i + 1) items)) tail → after_reached ≡ falls_through here (node_of item) →
      after ≡ code ++ node_cells data_start place out_at (length code) here reached (node_of item) → Before words count most whole code reached (drop i items) → Before words count most whole after after_reached (drop (i + 1) items)
  one_added words count most whole code after reached here after_reached items i item lt is tail_is reached_is added before =
      let node = node_of item in
      let rest = nodes_of (drop (i + 1) items) in
      let there : drop i items ≡ item ∷ drop (i + 1) items = drop_more items i item lt ∙ ap (λ x. x ∷ drop (i + 1) items) (sym is) in
      let now : Before words count most whole code reached (item ∷ drop (i + 1) items) = subst (Before words count most whole code reached) there before in
      let sizes = size_behind items i item tail reached here lt is tail_is in
      let longer : length after ≡ length code + node_size here reached node =
      cells_more code after (node_cells data_start place out_at (length code) here reached node) added
      ∙ ap (λ n. length code + n) (node_size_is node data_start place out_at (length code) here reached) in
      let whole_is : code ++ (node_cells data_start place out_at (length code) here reached node ++ nodes_cells data_start place out_at (length code + node_size here reached node) tail (falls_through here node) rest) ≡ whole =
      ap (λ b. code ++ (node_cells data_start place out_at (length code) b reached node ++ nodes_cells data_start place out_at (length code + node_size b reached node) tail (falls_through b node) rest)) tail_is ∙ now.0 in
      let fit = both (is_laid_out true words count node && inside (is_laid_out true words count) node) (everywhere (is_laid_out true words count) rest) now.1 in
      let room = before.2 in
      let few = now.3 in
      subst (λ b. Before words count most whole after b (drop (i + 1) items)) (sym reached_is) (
        ap (λ cells. cells ++ nodes_cells data_start place out_at (length after) tail (falls_through here node) rest) added
            ∙ append_assoc code (node_cells data_start place out_at (length code) here reached node)
            (nodes_cells data_start place out_at (length after) tail (falls_through here node) rest)
            ∙ ap (λ q. code ++ (node_cells data_start place out_at (length code) here reached node ++ nodes_cells data_start place out_at q tail (falls_through here node) rest)) longer ∙ whole_is,
        fit.1,
        omega (arith, longer, room, sizes),
        omega (arith, few),
      )

  -- the next of them fits
  pub item_fits : (words count most : ℕ) (whole code : List ℕ) (reached here : Bool) (items : List Item) (i : ℕ) (item : Item) → i < length items →
      item ≡ get_or items i item → here ≡ is_tail (nodes_of (drop (i + 1) items)) tail → Before words count most whole code reached (drop i items) →
      (is_laid_out true words count (node_of item) ≡ true) × (inside (is_laid_out true words count) (node_of item) ≡ true) × (length code + node_size here reached (node_of item) ≤ 8000) × (node_tokens (node_of item) ≤ most)
  item_fits words count most whole code reached here items i item lt is tail_is before =
      let there = next_item items i item lt is in
      let laid =
      both (is_laid_out true words count (node_of item) && inside (is_laid_out true words count) (node_of item))
      (everywhere (is_laid_out true words count) (nodes_of (drop (i + 1) items)))
      (ap (everywhere (is_laid_out true words count)) (sym there) ∙ before.1) in
      let own = both (is_laid_out true words count (node_of item)) (inside (is_laid_out true words count) (node_of item)) laid.0 in
      let room = before.2 in
      let few = before.3 in
      (own.0, own.1, omega (arith, room, size_behind items i item tail reached here lt is tail_is), omega (arith, few, ap tokens_of there))

  -- the same for the arms of a case that ends at a place
  abbrev pub ArmsBefore : ℕ → ℕ → ℕ → ℕ → List ℕ → List ℕ → List (Items × Items) → Type 0
  ArmsBefore end_at words count most whole code arms =
      (code ++ arms_cells data_start place out_at (length code) tail end_at (arms_tree arms) ≡ whole) × (in_arms (is_laid_out true words count) (arms_tree arms) ≡ true)
      × (length code + arms_size tail (arms_tree arms) ≤ 8000) × (arms_tokens (arms_tree arms) ≤ most)

  pub next_arm : (arms : List (Items × Items)) (i : ℕ) (arm : Items × Items) → i < length arms → arm ≡ get_or arms i arm → drop i arms ≡ arm ∷ drop (i + 1) arms
  next_arm arms i arm lt is = drop_more arms i arm lt ∙ ap (λ x. x ∷ drop (i + 1) arms) (sym is)

  pub one_arm_added : (end_at words count most : ℕ) (whole code after : List ℕ) (arms : List (Items × Items)) (i : ℕ) (arm : Items × Items) → i < length arms → arm ≡ get_or arms i arm →
      after ≡ code ++ arm_cells data_start place out_at (length code) tail end_at (tree_of arm.0) (tree_of arm.1) →
      ArmsBefore end_at words count most whole code (drop i arms) → ArmsBefore end_at words count most whole after (drop (i + 1) arms)
  one_arm_added end_at words count most whole code after arms i arm lt is added before =
      let tests = tree_of arm.0 in
      let body = tree_of arm.1 in
      let others = arms_tree (drop (i + 1) arms) in
      let now : ArmsBefore end_at words count most whole code (arm ∷ drop (i + 1) arms) = subst (ArmsBefore end_at words count most whole code) (next_arm arms i arm lt is) before in
      let own = arm_cells data_start place out_at (length code) tail end_at tests body in
      let longer : length after ≡ others_place (length code) tail tests body =
      omega (
        arith,
        cells_more code after own added,
        arm_size_is (length code) tail end_at tests body (nodes_cells data_start place out_at (length code) false true tests) (nodes_cells data_start place out_at (arm_place (length code) tests) tail true body)
            (size_is tests data_start place out_at (length code) false true) (size_is body data_start place out_at (arm_place (length code) tests) tail true),
      ) in
      let fit = both (everywhere (is_laid_out true words count) tests && everywhere (is_laid_out true words count) body) (in_arms (is_laid_out true words count) others) now.1 in
      let room = now.2 in
      let few = now.3 in (
        ap (λ cells. cells ++ arms_cells data_start place out_at (length after) tail end_at others) added ∙ append_assoc code own (arms_cells data_start place out_at (length after) tail end_at others)
            ∙ ap (λ q. code ++ (own ++ arms_cells data_start place out_at q tail end_at others)) longer ∙ now.0,
        fit.1,
        omega (arith, longer, room),
        omega (arith, few),
      )

  pub arm_fits : (end_at words count most : ℕ) (whole code : List ℕ) (arms : List (Items × Items)) (i : ℕ) (arm : Items × Items) → i < length arms → arm ≡ get_or arms i arm → ArmsBefore end_at words count most whole code (drop i arms) →
      (everywhere (is_laid_out true words count) (tree_of arm.0) ≡ true) × (everywhere (is_laid_out true words count) (tree_of arm.1) ≡ true)
      × (length code + arms_size tail (Arm (tree_of arm.0) (tree_of arm.1) NoArm) ≤ 8000)
      × (tokens_of (tree_of arm.0) + tokens_of (tree_of arm.1) + 2 ≤ most)
  arm_fits end_at words count most whole code arms i arm lt is before =
      let now : ArmsBefore end_at words count most whole code (arm ∷ drop (i + 1) arms) = subst (ArmsBefore end_at words count most whole code) (next_arm arms i arm lt is) before in
      let all = both (everywhere (is_laid_out true words count) (tree_of arm.0) && everywhere (is_laid_out true words count) (tree_of arm.1)) (in_arms (is_laid_out true words count) (arms_tree (drop (i + 1) arms))) now.1 in
      let own = both (everywhere (is_laid_out true words count) (tree_of arm.0)) (everywhere (is_laid_out true words count) (tree_of arm.1)) all.0 in
      let room = now.2 in
      let few = now.3 in
      (own.0, own.1, omega (arith, room), omega (arith, few))
