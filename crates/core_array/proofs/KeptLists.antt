-- Lists that are kept with their room.
use Rattle.std.proofs.Common.{◌≡◌, ◌≢◌, ◌⊎◌, ℕ, ◌+◌, ◌<◌, ◌≤◌, List, ◌++◌, length, get_or, set, map, sym, ap, ◌∙◌, subst, inl, inr, arith}
use Rattle.std.proofs.lemmas.List.{map-set, get_or-set_same, get_or-set_other, get_or_default}
use Rattle.std.proofs.Math.ListN.{get_or-map}
use Rattle.std.proofs.Math.Seq.{map-set_same}
use Rattle.core_array.specs.Network.{list_at}
use Rattle.core_array.specs.ArrayState.{Kept, kept_items, none_kept, HaveRoom, OneLess}
use Rattle.core_array.proofs.Diamond.{same_or_not}

-- one list grows
pub kept_set : (lists : List Kept) (k : ℕ) (x : Kept) (more : List ℕ) → x.items ≡ (get_or lists k none_kept).items ++ more → map kept_items (set lists k x) ≡ set (map kept_items lists) k (list_at (map kept_items lists) k ++ more)
kept_set lists k x more e = map-set kept_items lists k x ∙ ap (set (map kept_items lists) k) (e ∙ sym (ap (λ l. l ++ more) (get_or-map kept_items lists k none_kept)))

-- one list stays, with more room
pub kept_same : (lists : List Kept) (k : ℕ) (x : Kept) → x.items ≡ (get_or lists k none_kept).items → map kept_items (set lists k x) ≡ map kept_items lists
kept_same lists k x e = map-set_same kept_items lists k x none_kept e

less_by : (lists : List Kept) (k j : ℕ) (x : Kept) → (j ≡ k) ⊎ (j ≢ k) → (get_or lists k none_kept).room ≤ x.room + 1 → j < length lists → (get_or lists j none_kept).room ≤ (get_or (set lists k x) j none_kept).room + 1
less_by lists k j x (inl e) h lt =
    let within : k < length lists = subst (λ n. n < length lists) e lt in
    let s : get_or (set lists k x) k none_kept ≡ x = get_or-set_same lists k x none_kept within in
    let at : (get_or lists k none_kept).room ≤ (get_or (set lists k x) k none_kept).room + 1 = subst (λ y. (get_or lists k none_kept).room ≤ y.room + 1) (sym s) h in
    subst (λ n. (get_or lists n none_kept).room ≤ (get_or (set lists k x) n none_kept).room + 1) (sym e) at
less_by lists k j x (inr n) h lt =
    let s : get_or (set lists k x) j none_kept ≡ get_or lists j none_kept = get_or-set_other lists k j x none_kept n in
    let r : (get_or (set lists k x) j none_kept).room ≡ (get_or lists j none_kept).room = ap (λ y. y.room) s in
    omega arith

pub less_set : (lists : List Kept) (k : ℕ) (x : Kept) → (get_or lists k none_kept).room ≤ x.room + 1 → OneLess lists (set lists k x)
less_set lists k x h = λ j lt. less_by lists k j x (same_or_not j k) h lt

pub less_refl : (lists : List Kept) → OneLess lists lists
less_refl lists = λ j lt. omega arith

-- room below a place
abbrev pub RoomBelow : ℕ → ℕ → List Kept → Type 0
RoomBelow i n lists = (k : ℕ) → k < i → n ≤ (get_or lists k none_kept).room

below_by : (lists : List Kept) (i n j : ℕ) (x : Kept) → (j ≡ i) ⊎ (j ≢ i) → i < length lists → RoomBelow i n lists → n ≤ x.room → j < i + 1 → n ≤ (get_or (set lists i x) j none_kept).room
below_by lists i n j x (inl e) lt h r b = subst (λ m. n ≤ (get_or (set lists i x) m none_kept).room) (sym e) (subst (λ y. n ≤ y.room) (sym (get_or-set_same lists i x none_kept lt)) r)
below_by lists i n j x (inr d) lt h r b = subst (λ y. n ≤ y.room) (sym (get_or-set_other lists i j x none_kept d)) (h j (let lt' : j < i = omega arith in lt'))

pub below_set : (lists : List Kept) (i n : ℕ) (x : Kept) → i < length lists → RoomBelow i n lists → n ≤ x.room → RoomBelow (i + 1) n (set lists i x)
below_set lists i n x lt h r = λ j b. below_by lists i n j x (same_or_not j i) lt h r b

pub room_less : (n : ℕ) (before after : List Kept) → length after ≡ length before → HaveRoom (n + 1) before → OneLess before after → HaveRoom n after
room_less n before after e h o = λ k lt. let lt' : k < length before = subst (λ m. k < m) e lt in let a : n + 1 ≤ (get_or before k none_kept).room = h k lt' in let b :
    (get_or before k none_kept).room ≤ (get_or after k none_kept).room + 1 = o k lt' in omega arith

pub kept_push : (lists : List Kept) (k : ℕ) (old x : Kept) (more : List ℕ) → k < length lists → old ≡ get_or lists k old → x.items ≡ old.items ++ more →
    map kept_items (set lists k x) ≡ set (map kept_items lists) k (list_at (map kept_items lists) k ++ more)
kept_push lists k old x more lt o e = kept_set lists k x more (e ∙ ap (λ y. y.items ++ more) (o ∙ get_or_default lists k old none_kept lt))

pub kept_reserved : (lists : List Kept) (k : ℕ) (old x : Kept) → k < length lists → old ≡ get_or lists k old → x.items ≡ old.items → map kept_items (set lists k x) ≡ map kept_items lists
kept_reserved lists k old x lt o e = kept_same lists k x (e ∙ ap (λ y. y.items) (o ∙ get_or_default lists k old none_kept lt))

-- a list of those that are kept
pub listed : (lists : List Kept) (k : ℕ) → list_at (map kept_items lists) k ≡ (get_or lists k none_kept).items
listed lists k = get_or-map kept_items lists k none_kept

pub listed_here : (lists : List Kept) (k : ℕ) (old : Kept) → k < length lists → old ≡ get_or lists k old → old.items ≡ list_at (map kept_items lists) k
listed_here lists k old lt o = ap (λ y. y.items) (o ∙ get_or_default lists k old none_kept lt) ∙ sym (listed lists k)
