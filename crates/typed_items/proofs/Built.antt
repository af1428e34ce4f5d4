-- Where cells stand as the kernel lays them, the code of items stands.
use Rattle.std.proofs.Common.{◌≡◌, ℕ, suc, ◌+◌, ◌<◌, ◌≤◌, inl, inr, true, List, [], ◌∷◌, ◌++◌, length, refl, sym, ap, ◌∙◌, subst, arith}
use Rattle.std.proofs.Common.{length-append}
use Rattle.word_table.specs.declared.word.Word.{Word}
use Rattle.j1_table.specs.declared.instr.Instr.TheVariants.{Jump}
use Rattle.j1_table.specs.Instruction.{decoded}
use Rattle.j1_simulator.specs.Effect.{following}
use Rattle.word_laws.specs.Numbers.{number_cells}
use Rattle.word_laws.specs.Standing.{StandIn}
use Rattle.typed_items.specs.Items.{is_listed, TypedItem, TypedItems, Number, Listed, Name, IfThen, IfElse, BeginUntil, BeginWhile, NoItem}
use Rattle.typed_items.specs.Items.{Item, node_of, nodes_of, IsTyped, AreTyped, item_nesting, nesting, item_size, items_size, item_cells}
use Rattle.typed_items.specs.Items.{typed_cells}
use Rattle.typed_items.proofs.Instructions.{jump_is, branch_is, call_is}
use Rattle.typed_items.proofs.Placed.{Holds, HaveCells, Led, led_here, led_wider, Placed, Ahead, Closed}

module _ (memory : List ℕ) where
  -- code after code
  pub stand_split : (cells more : List ℕ) (at next : ℕ) → StandIn memory at (cells ++ more) next →
      (middle : ℕ) × StandIn memory at cells middle × StandIn memory middle more next
  stand_split [] more at next h = (at, refl, h)
  stand_split (cell ∷ cells) more at next h = let r = stand_split cells more (following at) next h.2 in (r.0, (h.0, h.1, r.1), r.2)

  -- so many cells lead so much further
  stand_size : (cells : List ℕ) (at next : ℕ) → at + length cells < 0x2000 → StandIn memory at cells next → next ≡ at + length cells
  stand_size [] at next below h = omega (arith, h)
  stand_size (cell ∷ cells) at next below h = let one : following at ≡ at + 1 = omega (arith, below) in
      omega (arith, one, stand_size cells (following at) next (omega (arith, one, below)) h.2)

  have_cells : (cells : List ℕ) (at next : ℕ) → 4160 ≤ at → at + length cells < 0x2000 → StandIn memory at cells next →
      HaveCells memory at cells next
  have_cells [] at next low below h = h
  have_cells (cell ∷ cells) at next low below h =
      let one : following at ≡ at + 1 = omega (arith, below) in
      (h.0, low, have_cells cells (following at) next (omega (arith, one, low)) (omega (arith, one, below)) h.2)

  module _ (token : Word → ℕ) (place : ℕ → ℕ) where
    -- the sizes are those of the cells
    mutual
      item_size_is : (item : TypedItem) (at : ℕ) → length (item_cells token place at item) ≡ item_size item
      item_size_is (Number value) at = refl
      item_size_is (Listed word) at = refl
      item_size_is (Name d) at = refl
      item_size_is (IfThen first) at = omega (arith, items_size_is first (at + 1))
      item_size_is (IfElse first second) at =
          let other = at + 1 + items_size first + 1 in
          omega (
            arith,
            length-append (typed_cells token place (at + 1) first)
                ((other + items_size second) ∷ typed_cells token place other second),
            items_size_is first
                (at + 1),
            items_size_is second other,
          )
      item_size_is (BeginUntil body) at = omega (
        arith,
        length-append (typed_cells token place at body)
            ((0x2000 + at) ∷ []),
        items_size_is body at,
      )
      item_size_is (BeginWhile test body) at =
          let body_at = at + items_size test + 1 in
          omega (
            arith,
            length-append (typed_cells token place at test)
                ((0x2000 + (body_at + items_size body + 1)) ∷ (typed_cells token place body_at body ++ at ∷ [])),
            length-append (typed_cells token place body_at body) (at ∷ []),
            items_size_is test at,
            items_size_is body body_at,
          )

      pub items_size_is : (items : TypedItems) (at : ℕ) → length (typed_cells token place at items) ≡ items_size items
      items_size_is NoItem at = refl
      items_size_is (Item item rest) at =
          omega (
            arith,
            length-append (item_cells token place at item)
                (typed_cells token place (at + item_size item) rest),
            item_size_is item at,
            items_size_is rest (at + item_size item),
          )

    item_end : (item : TypedItem) (at next : ℕ) → at + item_size item < 0x1fff → StandIn memory at (item_cells token place at item) next →
        next ≡ at + item_size item
    item_end item at next below h = let size = item_size_is item at in
        omega (arith, size, stand_size (item_cells token place at item) at next (omega (arith, size, below)) h)

    items_end : (items : TypedItems) (at next : ℕ) → at + items_size items < 0x1fff →
        StandIn memory at (typed_cells token place at items) next → next ≡ at + items_size items
    items_end items at next below h = let size = items_size_is items at in
        omega (arith, size, stand_size (typed_cells token place at items) at next (omega (arith, size, below)) h)

    module _ (count : ℕ) (low_token : (word : Word) → is_listed word ≡ true → token word < 0x2000)
        (low_place : (d : ℕ) → d < count → place d < 0x2000) where
      abbrev Is_placed : ℕ → TypedItem → (ℕ → Type 0) → Type 0
      Is_placed at item K = Placed memory token place count at (node_of item) K

      abbrev Are_ahead : ℕ → TypedItems → (ℕ → Type 0) → Type 0
      Are_ahead at items K = Ahead memory token place count at (nodes_of items) K

      -- the jump of an ELSE
      closes : (second : TypedItems) (at next n : ℕ) (K : ℕ → Type 0) → n ≤ 4 → Holds memory at (Jump next) → Led memory n K next →
          Led memory (suc n) (λ q. Closed memory token place count (nodes_of second) K q) at
      closes NoItem at next n K few holds l = inr (next, holds, l)
      closes (Item item rest) at next n K few holds l = inl (next, holds, led_wider memory n 4 K next few l)

      mutual
        build_item : (item : TypedItem) (at next n : ℕ) (K : ℕ → Type 0) → IsTyped count item → item_nesting item + n ≤ 4 → 4160 ≤ at →
            at + item_size item < 0x1fff → StandIn memory at (item_cells token place at item) next → Led memory n K next →
            Is_placed at item K
        build_item (Number value) at next n K typed nest low below h l = (
          next,
          typed,
          have_cells (number_cells value) at next low (omega (arith, below)) h,
          led_wider memory n 4 K next
              (omega (arith, nest)) l,
        )
        build_item (Listed word) at next n K typed nest low below h l = (
          typed,
          (ap decoded h.0 ∙ call_is (token word) (low_token word typed), low),
          subst (λ q. Led memory 4 K q) (sym h.2)
              (led_wider memory n 4 K next (omega (arith, nest)) l),
        )
        build_item (Name d) at next n K typed nest low below h l = (
          typed,
          (ap decoded h.0 ∙ call_is (place d) (low_place d typed), low),
          subst (λ q. Led memory 4 K q) (sym h.2)
              (led_wider memory n 4 K next (omega (arith, nest)) l),
        )
        build_item (IfThen first) at next n K typed nest low below h l =
            let other = at + 1 + items_size first in
            let one : following at ≡ at + 1 = omega (arith, below) in
            let inside = subst (λ q. StandIn memory q (typed_cells token place (at + 1) first) next) one h.2 in
            let to : next ≡ other = items_end first (at + 1) next (omega (arith, below)) inside in
            let body = build_items first (at + 1) next n K typed (omega (arith, nest)) (omega (arith, low))
            (omega (arith, below)) inside l in (
              other,
              (ap decoded h.0 ∙ branch_is other (omega (arith, below)), low),
              subst (λ q. Led memory 4 (λ q. Are_ahead q first K) q) (sym one)
                  (led_wider memory n 4 (λ q. Are_ahead q first K) (at + 1) (omega (arith, nest)) body),
              subst (λ q. Led memory 4 K q) to (led_wider memory n 4 K next (omega (arith, nest)) l),
            )
        build_item (IfElse first second) at next n K typed nest low below h l =
            let other = at + 1 + items_size first + 1 in
            let end = other + items_size second in
            let one : following at ≡ at + 1 = omega (arith, below) in
            let parts = stand_split (typed_cells token place (at + 1) first) (end ∷ typed_cells token place other second)
            (following at) next h.2 in
            let inside = subst (λ q. StandIn memory q (typed_cells token place (at + 1) first) parts.0) one parts.1 in
            let middle : parts.0 ≡ at + 1 + items_size first = items_end first (at + 1) parts.0 (omega (arith, below)) inside in
            let two : following parts.0 ≡ other = omega (arith, middle, below) in
            let last = subst (λ q. StandIn memory q (typed_cells token place other second) next) two parts.2.2 in
            let to : next ≡ end = items_end second other next (omega (arith, below)) last in
            let jumps : Holds memory parts.0 (Jump next) =
            (ap decoded (parts.2.0 ∙ sym to) ∙ jump_is next (omega (arith, to, below)), omega (arith, middle, low)) in
            let body = build_items first (at + 1) parts.0 (suc n) (λ q. Closed memory token place count (nodes_of second) K q) typed.0
            (omega (arith, nest)) (omega (arith, low)) (omega (arith, below)) inside
            (closes second parts.0 next n K (omega (arith, nest)) jumps l) in
            let others = build_items second other next n K typed.1 (omega (arith, nest)) (omega (arith, low))
            (omega (arith, below)) last l in (
              other,
              (ap decoded h.0 ∙ branch_is other (omega (arith, below)), low),
              subst (λ q. Led memory 4 (λ q. Are_ahead q first (λ r. Closed memory token place count (nodes_of second) K r)) q) (sym one)
                  (led_wider memory (suc n) 4 (λ q. Are_ahead q first (λ r. Closed memory token place count (nodes_of second) K r)) (at + 1)
                  (omega (arith, nest)) body),
              led_wider memory n 4 (λ q. Are_ahead q second K) other (omega (arith, nest)) others,
            )
        build_item (BeginUntil body) at next n K typed nest low below h l =
            let parts = stand_split (typed_cells token place at body) ((0x2000 + at) ∷ []) at next h in
            let middle : parts.0 ≡ at + items_size body = items_end body at parts.0 (omega (arith, below)) parts.1 in
            let inside = build_items body at parts.0 0 (λ e. e ≡ parts.0) typed (omega (arith, nest)) low
            (omega (arith, below)) parts.1 refl in (
              parts.0,
              inside,
              (ap decoded parts.2.0 ∙ branch_is at (omega (arith, below)), omega (arith, middle, low)),
              subst (λ q. Led memory 4 K q) (sym parts.2.2) (led_wider memory n 4 K next (omega (arith, nest)) l),
            )
        build_item (BeginWhile test body) at next n K typed nest low below h l =
            let body_at = at + items_size test + 1 in
            let end = body_at + items_size body + 1 in
            let parts = stand_split (typed_cells token place at test)
            ((0x2000 + end) ∷ (typed_cells token place body_at body ++ at ∷ [])) at next h in
            let middle : parts.0 ≡ at + items_size test = items_end test at parts.0 (omega (arith, below)) parts.1 in
            let two : following parts.0 ≡ body_at = omega (arith, middle, below) in
            let more = stand_split (typed_cells token place body_at body) (at ∷ []) (following parts.0) next parts.2.2 in
            let within = subst (λ q. StandIn memory q (typed_cells token place body_at body) more.0) two more.1 in
            let middle' : more.0 ≡ body_at + items_size body = items_end body body_at more.0 (omega (arith, below)) within in
            let to : next ≡ end = let last = more.2.2 in omega (arith, middle', last, below) in
            let tests = build_items test at parts.0 0 (λ e. e ≡ parts.0) typed.0 (omega (arith, nest)) low
            (omega (arith, below)) parts.1 refl in
            let inside = build_items body body_at more.0 0 (λ e. e ≡ more.0) typed.1 (omega (arith, nest)) (omega (arith, low))
            (omega (arith, below)) within refl in (
              parts.0,
              more.0,
              next,
              tests,
              (
                ap decoded (parts.2.0 ∙ ap (λ q. 0x2000 + q) (sym to))
                    ∙ branch_is next (omega (arith, to, below)),
                omega (arith, middle, low),
              ),
              subst (λ q. Ahead memory token place count q (nodes_of body) (λ e. e ≡ more.0)) (sym two) inside,
              (ap decoded more.2.0 ∙ jump_is at (omega (arith, below)), omega (arith, middle', low)),
              led_wider memory n 4 K next (omega (arith, nest)) l,
            )

        pub build_items : (items : TypedItems) (at next n : ℕ) (K : ℕ → Type 0) → AreTyped count items → nesting items + n ≤ 4 → 4160 ≤ at →
            at + items_size items < 0x1fff → StandIn memory at (typed_cells token place at items) next → Led memory n K next →
            Led memory n (λ q. Are_ahead q items K) at
        build_items NoItem at next n K typed nest low below h l = subst (λ q. Led memory n K q) (sym h) l
        build_items (Item item rest) at next n K typed nest low below h l =
            let parts = stand_split (item_cells token place at item) (typed_cells token place (at + item_size item) rest) at next h in
            let middle : parts.0 ≡ at + item_size item = item_end item at parts.0 (omega (arith, below)) parts.1 in
            let onward = subst (λ q. StandIn memory q (typed_cells token place (at + item_size item) rest) next) middle parts.2 in
            let others = build_items rest (at + item_size item) next n K typed.1 (omega (arith, nest)) (omega (arith, low))
            (omega (arith, below)) onward l in
            led_here memory n (λ q. Are_ahead q (Item item rest) K) at
            (build_item item at parts.0 n (λ q. Are_ahead q rest K) typed.0 (omega (arith, nest)) low (omega (arith, below)) parts.1
            (subst (λ q. Led memory n (λ q. Are_ahead q rest K) q) (sym middle) others))
