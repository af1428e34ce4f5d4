-- The two kinds of items have the same cells.
use Rattle.std.proofs.Common.{◌≡◌, ℕ, ◌+◌, ◌-◌, ◌*◌, ◌/◌, ◌≤◌, ◌<◌, [], ◌∷◌, ◌++◌, length, refl, ap, ap₂, arith, le-ltb}
use Rattle.std.proofs.Common.{lt-ltb}
use Rattle.word_table.specs.declared.word.Word.{Word}
use Rattle.kernel_words.proofs.Cases.{by_less}
use Rattle.kernel_definitions.specs.TypedItems as kernel
use Rattle.word_laws.specs.Numbers.{number_cells}
use Rattle.typed_items.specs.Items as typed
use Rattle.compiled_items.specs.Agreement.{as_called, all_called, CellsAgree}

module _ (token : Word → ℕ) (place : ℕ → ℕ) where
  number_sizes : (x : ℕ) → kernel.number_size x ≡ 2 * length (number_cells x)
  number_sizes x = by_less x 32768 (λ less. rw (lt-ltb x 32768 less) refl) (λ all. rw (le-ltb x 32768 all) refl)

  mutual
    item_sizes : (item : typed.TypedItem) → kernel.item_size (as_called token place item) ≡ 2 * typed.item_size item
    item_sizes (typed.Number x) = number_sizes x
    item_sizes (typed.Listed word) = refl
    item_sizes (typed.Name definition) = refl
    item_sizes (typed.IfThen first) = let e = items_sizes first in omega (arith, e)
    item_sizes (typed.IfElse first second) = let e = items_sizes first in let f = items_sizes second in omega (arith, e, f)
    item_sizes (typed.BeginUntil body) = let e = items_sizes body in omega (arith, e)
    item_sizes (typed.BeginWhile test body) = let e = items_sizes test in let f = items_sizes body in omega (arith, e, f)

    items_sizes : (items : typed.TypedItems) → kernel.items_size (all_called token place items) ≡ 2 * typed.items_size items
    items_sizes typed.NoItem = refl
    items_sizes (typed.Item item rest) = let e = item_sizes item in let f = items_sizes rest in omega (arith, e, f)

  number_agrees : (x : ℕ) → x < 65536 → kernel.number_cells x ≡ number_cells x
  number_agrees x h = by_less x 32768 (λ less. rw (lt-ltb x 32768 less) refl)
      (λ all. rw (le-ltb x 32768 all) (ap (λ y. y ∷ 26112 ∷ []) (inverted x all h)))
    where
      inverted : (x : ℕ) → 32768 ≤ x → x < 65536 → 98303 - x ≡ 32768 + (65535 - x)
      inverted x f g = omega (arith, f, g)

  half : (n : ℕ) → 16384 + 2 * n / 2 ≡ 16384 + n
  half n = omega arith

  mutual
    item_agrees : (definitions : ℕ) (item : typed.TypedItem) (a at : ℕ) → a ≡ 2 * at → typed.IsTyped definitions item →
        kernel.item_cells (as_called token place item) a ≡ typed.item_cells token place at item
    item_agrees n (typed.Number x) a at e t = number_agrees x t
    item_agrees n (typed.Listed word) a at e t = ap (λ y. y ∷ []) (half (token word))
    item_agrees n (typed.Name definition) a at e t = ap (λ y. y ∷ []) (half (place definition))
    item_agrees n (typed.IfThen first) a at e t =
        let f = items_sizes first in
        ap₂ (λ x xs. x ∷ xs) (omega (arith, e, f)) (items_agree n first (a + 2) (at + 1) (omega (arith, e)) t)
    item_agrees n (typed.IfElse first second) a at e t =
        let f = items_sizes first in
        let g = items_sizes second in
        ap₂ (λ x xs. x ∷ xs) (omega (arith, e, f)) (ap₂ (λ xs ys. xs ++ ys) (items_agree n first (a + 2) (at + 1) (omega (arith, e)) t.0)
        (ap₂ (λ x xs. x ∷ xs) (omega (arith, e, f, g)) (items_agree n second (a + 2 + kernel.items_size (all_called token place first) + 2)
        (at + 1 + typed.items_size first + 1) (omega (arith, e, f)) t.1)))
    item_agrees n (typed.BeginUntil body) a at e t = ap₂ (λ xs ys. xs ++ ys) (items_agree n body a at e t)
        (ap (λ y. y ∷ []) (omega (arith, e)))
    item_agrees n (typed.BeginWhile test body) a at e t =
        let f = items_sizes test in
        let g = items_sizes body in
        ap₂ (λ xs ys. xs ++ ys) (items_agree n test a at e t.0) (ap₂ (λ x xs. x ∷ xs) (omega (arith, e, f, g))
        (ap₂ (λ xs ys. xs ++ ys) (items_agree n body (a + kernel.items_size (all_called token place test) + 2)
        (at + typed.items_size test + 1) (omega (arith, e, f)) t.1) (ap (λ y. y ∷ []) (omega (arith, e)))))

    items_agree : (definitions : ℕ) (items : typed.TypedItems) (a at : ℕ) → a ≡ 2 * at → typed.AreTyped definitions items →
        kernel.items_cells (all_called token place items) a ≡ typed.typed_cells token place at items
    items_agree n typed.NoItem a at e t = refl
    items_agree n (typed.Item item rest) a at e t =
        let f = item_sizes item in
        ap₂ (λ xs ys. xs ++ ys) (item_agrees n item a at e t.0)
        (items_agree n rest (a + kernel.item_size (as_called token place item)) (at + typed.item_size item) (omega (arith, e, f)) t.1)

pub cells_agree : CellsAgree
cells_agree token place definitions at items t =
    let e = items_agree token place definitions items (2 * at) at refl t in
    record { cells = e; size = items_sizes token place items; definition = ap (λ cells. cells ++ 28684 ∷ []) e }
