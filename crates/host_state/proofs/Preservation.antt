-- What each host word keeps.
use Rattle.std.proofs.Common.{◌≡◌, ℕ, zero, suc, ◌+◌, ◌-◌, ◌*◌, ◌/◌, ◌%◌, ◌<◌, ◌≤◌, nat_le, nat_lt, Bool, true, false, ◌&&◌, List, [], ◌∷◌, length, Option, Some, None, refl, sym, ap, ◌∙◌, subst, arith, leb-true, ltb-true}
use Rattle.std.proofs.lemmas.Bool.{and_parts, and_from, le-leb}
use Rattle.console_ports.specs.Ports.{even}
use Rattle.forth_program.specs.Access.{byte_of, with_byte}
use Rattle.cell_math.specs.Cell.{sum_of}
use Rattle.host_state.specs.declared.entry.Ticked.{Ticked}
use Rattle.host_state.specs.declared.word.HostWord.{HostWord}
use Rattle.host_state.specs.declared.word.HostWord.TheVariants.{Dup, DropTop, Swap, Over, Rot, Plus, Minus, Star, Negate, OnePlus, OneMinus, TwoStar, TwoSlash, And, Or, Xor, Invert, LShift, RShift}
use Rattle.host_state.specs.declared.word.HostWord.TheVariants.{Cells, CellPlus, Chars, CharPlus, Aligned, Align, Here, Comma, CComma, Allot, Fetch, Store, CFetch, CStore, PlusStore, Base, Decimal, Hex, Blank, ToBody}
use Rattle.host_state.specs.declared.word.HostItem.{HostItem}
use Rattle.host_state.specs.declared.word.HostItem.TheVariants as item
use Rattle.host_state.specs.declared.refusal.HostRefusal.{HostRefusal}
use Rattle.host_state.specs.declared.refusal.HostRefusal.TheVariants as refusal
use Rattle.host_state.specs.Tokens.{body_of}
use Rattle.host_state.specs.HostCells.{Space, Host, Reply, Gives, Refuses, ◌▸◌, cell_at, with_cell, pop_from, pop, push, found_or}
use Rattle.host_state.specs.HostMemory.{is_inside, place_of, cell_in, with_cell_in, fetch, store, fetch_byte, store_byte, here_of, here, set_here, grow_here, align, comma, comma_byte, is_here_within, check_here, checked}
use Rattle.host_state.specs.HostWords.{half, on_one, on_two, word_done}
use Rattle.host_state.specs.Naming.{created, variable, item_done, host_part, defined_by, bytes_laid, string_laid}
use Rattle.host_state.specs.Kept.{AreCells, IsHost, IsSettled, After, HostKeeps, HostWordsKeep}

pub after_then : {A B : Type 0} (P : A → Host → Type 0) (Q : B → Host → Type 0) (r : Reply A) (f : A → Host → Reply B) → After P r → ((x : A) (s : Host) → P x s → After Q (f x s)) → After Q (r ▸ f)
after_then P Q (Gives x s) f p h = h x s p
after_then P Q (Refuses c) f p h = tt

-- ---- cells by their places

longer : (cells : List ℕ) (place x n : ℕ) → length cells ≤ n → place < n → length (with_cell cells place x) ≤ n
longer [] zero x n h k = omega (arith, k)
longer [] (suc place) x zero h k = absurd (omega (arith, k))
longer [] (suc place) x (suc n) h k = omega (arith, longer [] place x n (omega arith) (omega (arith, k)))
longer (cell ∷ cells) zero x n h k = h
longer (cell ∷ cells) (suc place) x zero h k = absurd (omega (arith, k))
longer (cell ∷ cells) (suc place) x (suc n) h k = omega (arith, longer cells place x n (omega (arith, h)) (omega (arith, k)))

same_place : (cells : List ℕ) (place x : ℕ) → cell_at (with_cell cells place x) place ≡ x
same_place [] zero x = refl
same_place [] (suc place) x = same_place [] place x
same_place (cell ∷ cells) zero x = refl
same_place (cell ∷ cells) (suc place) x = same_place cells place x

-- a store at a higher place leaves a cell as it is
lower_place : (cells : List ℕ) (place lower x : ℕ) → lower < place → cell_at (with_cell cells place x) lower ≡ cell_at cells lower
lower_place [] zero lower x h = absurd (omega (arith, h))
lower_place [] (suc place) zero x h = refl
lower_place [] (suc place) (suc lower) x h = lower_place [] place lower x (omega (arith, h))
lower_place (cell ∷ cells) zero lower x h = absurd (omega (arith, h))
lower_place (cell ∷ cells) (suc place) zero x h = refl
lower_place (cell ∷ cells) (suc place) (suc lower) x h = lower_place cells place lower x (omega (arith, h))

place_within : (d address : ℕ) → d % 2 ≡ 0 → d ≤ 16000 → address < 16384 → (address - d) / 2 + d / 2 < 8192
place_within d address e l h = omega (arith, e, l, h)

module _ (d : ℕ) (tokens : List Ticked) (e : d % 2 ≡ 0) (l : d ≤ 16000) where
  abbrev Keeps : {A : Type 0} → Reply A → Type 0
  Keeps r = After (λ _ s. IsHost d tokens s) r

  -- one thing and then the next
  then_keeps : {A B : Type 0} (r : Reply A) (f : A → Host → Reply B) → Keeps r → ((x : A) (s : Host) → IsHost d tokens s → Keeps (f x s)) → Keeps (r ▸ f)
  then_keeps r f p h = after_then (λ _ s. IsHost d tokens s) (λ _ s. IsHost d tokens s) r f p h

  given : {A : Type 0} (x : A) (s : Host) → IsHost d tokens s → Keeps (Gives x s)
  given x s h = h

  -- ---- the stack

  pop_on : (stack : List ℕ) (s : Host) → AreCells stack → IsHost d tokens s → After (λ x s. IsHost d tokens s × (x < 65536)) (pop_from stack s)
  pop_on [] s c h = tt
  pop_on (x ∷ stack) s c h = (record { stack = c.1; fits = h.fits; start = h.start; ticked = h.ticked }, c.0)

  pop_value : (s : Host) → IsHost d tokens s → After (λ x s. IsHost d tokens s × (x < 65536)) (pop s)
  pop_value s h = pop_on s.stack s h.stack h

  weaker : {A : Type 0} (P Q : A → Host → Type 0) → ((x : A) (s : Host) → P x s → Q x s) → (r : Reply A) → After P r → After Q r
  weaker P Q k (Gives x s) p = k x s p
  weaker P Q k (Refuses c) p = tt

  pop_keeps : (s : Host) → IsHost d tokens s → Keeps (pop s)
  pop_keeps s h = weaker (λ x s. IsHost d tokens s × (x < 65536)) (λ _ s. IsHost d tokens s) (λ x s p. p.0) (pop s) (pop_value s h)

  push_on : (x : ℕ) (s : Host) (t : Bool) → IsHost d tokens s → Keeps (elim t as (λ t. Reply (Unit {0})) [ true ↦ Gives tt (record s { stack = (x % 65536) ∷ s.stack }) | false ↦ Refuses refusal.HostOverflow ])
  push_on x s true h = record { stack = (omega arith, h.stack); fits = h.fits; start = h.start; ticked = h.ticked }
  push_on x s false h = tt

  push_keeps : (x : ℕ) (s : Host) → IsHost d tokens s → Keeps (push x s)
  push_keeps x s h = push_on x s (nat_lt (length s.stack) 32) h

  -- ---- data space

  fetch_on : (x : ℕ) (s : Host) (t : Bool) → IsHost d tokens s → Keeps (elim t as (λ t. Reply ℕ) [ true ↦ Gives x s | false ↦ Refuses refusal.DataFull ])
  fetch_on x s true h = h
  fetch_on x s false h = tt

  fetch_keeps : (address : ℕ) (s : Host) → IsHost d tokens s → Keeps (fetch address s)
  fetch_keeps address s h = fetch_on (cell_in s.space address) s (is_inside s.space.data_start address) h

  stored : (address x : ℕ) (s : Host) → IsHost d tokens s → address < 16384 → IsHost d tokens (record s { space = with_cell_in s.space address x })
  stored address x s h k =
      let place : (address - s.space.data_start) / 2 < 8192 - d / 2 = omega (arith, h.start, place_within d address e l k) in
      record {
        stack = h.stack;
        fits = omega (arith, l, longer s.space.cells ((address - s.space.data_start) / 2) x (8192 - d / 2) (omega (arith, l, h.fits)) place);
        start = h.start;
        ticked = h.ticked;
      }

  inside_below : (data_start address : ℕ) → is_inside data_start address ≡ true → address < 16384
  inside_below data_start address t = ltb-true address 16384 (and_parts (nat_le data_start (even address)) (nat_lt address 16384) t).1

  store_on : (address x : ℕ) (s : Host) (t : Bool) → is_inside s.space.data_start address ≡ t → IsHost d tokens s →
      Keeps (elim t as (λ t. Reply (Unit {0})) [ true ↦ Gives tt (record s { space = with_cell_in s.space address x }) | false ↦ Refuses refusal.DataFull ])
  store_on address x s true t h = stored address x s h (inside_below s.space.data_start address t)
  store_on address x s false t h = tt

  store_keeps : (address x : ℕ) (s : Host) → IsHost d tokens s → Keeps (store address x s)
  store_keeps address x s h = store_on address x s (is_inside s.space.data_start address) refl h

  fetch_byte_keeps : (address : ℕ) (s : Host) → IsHost d tokens s → Keeps (fetch_byte address s)
  fetch_byte_keeps address s h = then_keeps (fetch address s) _ (fetch_keeps address s h) (λ cell s h. h)

  store_byte_keeps : (address c : ℕ) (s : Host) → IsHost d tokens s → Keeps (store_byte address c s)
  store_byte_keeps address c s h = then_keeps (fetch address s) _ (fetch_keeps address s h) (λ cell s h. store_keeps address (with_byte address cell c) s h)

  here_keeps : (s : Host) → IsHost d tokens s → Keeps (here s)
  here_keeps s h = fetch_keeps (s.space.data_start + 4) s h

  set_here_keeps : (address : ℕ) (s : Host) → IsHost d tokens s → Keeps (set_here address s)
  set_here_keeps address s h = store_keeps (s.space.data_start + 4) address s h

  grow_keeps : (n : ℕ) (s : Host) → IsHost d tokens s → Keeps (grow_here n s)
  grow_keeps n s h = then_keeps (here s) _ (here_keeps s h) (λ address s h. set_here_keeps (sum_of address n) s h)

  align_keeps : (s : Host) → IsHost d tokens s → Keeps (align s)
  align_keeps s h = then_keeps (here s) _ (here_keeps s h) (λ address s h. set_here_keeps (even (sum_of address 1)) s h)

  comma_keeps : (x : ℕ) (s : Host) → IsHost d tokens s → Keeps (comma x s)
  comma_keeps x s h = then_keeps (here s) _ (here_keeps s h) (λ address s h. then_keeps (store address x s) _ (store_keeps address x s h) (λ _ s h. grow_keeps 2 s h))

  comma_byte_keeps : (c : ℕ) (s : Host) → IsHost d tokens s → Keeps (comma_byte c s)
  comma_byte_keeps c s h = then_keeps (here s) _ (here_keeps s h) (λ address s h. then_keeps (store_byte address c s) _ (store_byte_keeps address c s h) (λ _ s h. grow_keeps 1 s h))

  -- ---- words

  one_keeps : (f : ℕ → ℕ) (s : Host) → IsHost d tokens s → Keeps (on_one f s)
  one_keeps f s h = then_keeps (pop s) _ (pop_keeps s h) (λ x s h. push_keeps (f x) s h)

  two_keeps : (f : ℕ → ℕ → ℕ) (s : Host) → IsHost d tokens s → Keeps (on_two f s)
  two_keeps f s h = then_keeps (pop s) _ (pop_keeps s h) (λ y s h. then_keeps (pop s) _ (pop_keeps s h) (λ x s h. push_keeps (f x y) s h))

  found_keeps : (o : Option ℕ) (s : Host) → IsHost d tokens s → Keeps (found_or refusal.NeedsName o s)
  found_keeps None s h = tt
  found_keeps (Some x) s h = h

  word_keeps : (word : HostWord) (s : Host) → IsHost d tokens s → Keeps (word_done word s)
  word_keeps Dup s h = then_keeps (pop s) _ (pop_keeps s h) (λ x s h. then_keeps (push x s) _ (push_keeps x s h) (λ _ s h. push_keeps x s h))
  word_keeps DropTop s h = then_keeps (pop s) _ (pop_keeps s h) (λ x s h. h)
  word_keeps Swap s h = then_keeps (pop s) _ (pop_keeps s h) (λ y s h. then_keeps (pop s) _ (pop_keeps s h) (λ x s h. then_keeps (push y s) _ (push_keeps y s h) (λ _ s h. push_keeps x s h)))
  word_keeps Over s h = then_keeps (pop s) _ (pop_keeps s h) (λ y s h. then_keeps (pop s) _ (pop_keeps s h)
      (λ x s h. then_keeps (push x s) _ (push_keeps x s h) (λ _ s h. then_keeps (push y s) _ (push_keeps y s h) (λ _ s h. push_keeps x s h))))
  word_keeps Rot s h = then_keeps (pop s) _ (pop_keeps s h) (λ z s h. then_keeps (pop s) _ (pop_keeps s h) (λ y s h. then_keeps (pop s) _ (pop_keeps s h)
      (λ x s h. then_keeps (push y s) _ (push_keeps y s h) (λ _ s h. then_keeps (push z s) _ (push_keeps z s h) (λ _ s h. push_keeps x s h)))))
  word_keeps Plus s h = two_keeps _ s h
  word_keeps Minus s h = two_keeps _ s h
  word_keeps Star s h = two_keeps _ s h
  word_keeps And s h = two_keeps _ s h
  word_keeps Or s h = two_keeps _ s h
  word_keeps Xor s h = two_keeps _ s h
  word_keeps LShift s h = two_keeps _ s h
  word_keeps RShift s h = two_keeps _ s h
  word_keeps Negate s h = one_keeps _ s h
  word_keeps OnePlus s h = one_keeps _ s h
  word_keeps OneMinus s h = one_keeps _ s h
  word_keeps TwoStar s h = one_keeps _ s h
  word_keeps TwoSlash s h = one_keeps _ s h
  word_keeps Invert s h = one_keeps _ s h
  word_keeps Cells s h = one_keeps _ s h
  word_keeps CellPlus s h = one_keeps _ s h
  word_keeps Chars s h = one_keeps _ s h
  word_keeps CharPlus s h = one_keeps _ s h
  word_keeps Aligned s h = one_keeps _ s h
  word_keeps Fetch s h = then_keeps (pop s) _ (pop_keeps s h) (λ a s h. then_keeps (fetch a s) _ (fetch_keeps a s h) (λ x s h. push_keeps x s h))
  word_keeps Store s h = then_keeps (pop s) _ (pop_keeps s h) (λ a s h. then_keeps (pop s) _ (pop_keeps s h) (λ x s h. store_keeps a x s h))
  word_keeps CFetch s h = then_keeps (pop s) _ (pop_keeps s h) (λ a s h. then_keeps (fetch_byte a s) _ (fetch_byte_keeps a s h) (λ x s h. push_keeps x s h))
  word_keeps CStore s h = then_keeps (pop s) _ (pop_keeps s h) (λ a s h. then_keeps (pop s) _ (pop_keeps s h) (λ x s h. store_byte_keeps a x s h))
  word_keeps PlusStore s h = then_keeps (pop s) _ (pop_keeps s h) (λ a s h. then_keeps (pop s) _ (pop_keeps s h)
      (λ n s h. then_keeps (fetch a s) _ (fetch_keeps a s h) (λ x s h. store_keeps a (sum_of x n) s h)))
  word_keeps Here s h = then_keeps (here s) _ (here_keeps s h) (λ x s h. push_keeps x s h)
  word_keeps Comma s h = then_keeps (pop s) _ (pop_keeps s h) (λ x s h. comma_keeps x s h)
  word_keeps CComma s h = then_keeps (pop s) _ (pop_keeps s h) (λ c s h. comma_byte_keeps c s h)
  word_keeps Allot s h = then_keeps (pop s) _ (pop_keeps s h) (λ n s h. grow_keeps n s h)
  word_keeps Align s h = align_keeps s h
  word_keeps Base s h = push_keeps s.space.data_start s h
  word_keeps Decimal s h = store_keeps s.space.data_start 10 s h
  word_keeps Hex s h = store_keeps s.space.data_start 16 s h
  word_keeps Blank s h = push_keeps 32 s h
  word_keeps ToBody s h = then_keeps (pop s) _ (pop_keeps s h) (λ token s h. then_keeps (found_or refusal.NeedsName (body_of s.tokens token) s) _ (found_keeps (body_of s.tokens token) s h) (λ x s h. push_keeps x s h))

  item_keeps : (i : HostItem) (s : Host) → IsHost d tokens s → Keeps (item_done i s)
  item_keeps (item.Number x) s h = push_keeps x s h
  item_keeps (item.Word word) s h = word_keeps word s h

  part_keeps : (items : List HostItem) (s : Host) → IsHost d tokens s → Keeps (host_part items s)
  part_keeps [] s h = h
  part_keeps (i ∷ items) s h = then_keeps (item_done i s) _ (item_keeps i s h) (λ _ s h. part_keeps items s h)

  bytes_keep : (text : List ℕ) (s : Host) → IsHost d tokens s → Keeps (bytes_laid text s)
  bytes_keep [] s h = h
  bytes_keep (c ∷ text) s h = then_keeps (comma_byte c s) _ (comma_byte_keeps c s h) (λ _ s h. bytes_keep text s h)

  text_keeps : (text : List ℕ) (s : Host) → IsHost d tokens s → Keeps (string_laid text s)
  text_keeps text s h = then_keeps (here s) _ (here_keeps s h) (λ address s h. then_keeps (bytes_laid text s) _ (bytes_keep text s h) (λ _ s h. h))

  created_keeps : (s : Host) → IsHost d tokens s → Keeps (created s)
  created_keeps s h = then_keeps (align s) _ (align_keeps s h) (λ _ s h. here_keeps s h)

  variable_keeps : (s : Host) → IsHost d tokens s → Keeps (variable s)
  variable_keeps s h = then_keeps (created s) _ (created_keeps s h) (λ x s h. then_keeps (store x 0 s) _ (store_keeps x 0 s h) (λ _ s h. then_keeps (grow_here 2 s) _ (grow_keeps 2 s h) (λ _ s h. h)))

  child_keeps : (items : List HostItem) (s : Host) → IsHost d tokens s → Keeps (defined_by items s)
  child_keeps items s h = then_keeps (created s) _ (created_keeps s h) (λ x s h. then_keeps (host_part items s) _ (part_keeps items s h) (λ _ s h. h))

  -- ---- HERE is looked at

  check_on : {A : Type 0} (P : A → Host → Type 0) (x : A) (s : Host) (t : Bool) → is_here_within s.space ≡ t → (is_here_within s.space ≡ true → P x s) →
      After P (elim t as (λ t. Reply (Unit {0})) [ true ↦ Gives tt s | false ↦ Refuses refusal.DataFull ] ▸ λ _. Gives x)
  check_on P x s true t h = h t
  check_on P x s false t h = tt

  checked_after : {A : Type 0} (P Q : A → Host → Type 0) (r : Reply A) → After P r → ((x : A) (s : Host) → P x s → is_here_within s.space ≡ true → Q x s) → After Q (checked r)
  checked_after P Q (Gives x s) p h = check_on Q x s (is_here_within s.space) refl (h x s p)
  checked_after P Q (Refuses c) p h = tt

  settled_after : {A : Type 0} (r : Reply A) → Keeps r → After (λ _ s. IsSettled d tokens s) (checked r)
  settled_after r k = checked_after (λ _ s. IsHost d tokens s) (λ _ s. IsSettled d tokens s) r k (λ x s h t. record { host = h; here = t })

-- ---- addresses, and where texts end

fetch_after : (P : ℕ → Host → Type 0) (address : ℕ) (s : Host) → P (cell_in s.space address) s → After P (fetch address s)
fetch_after P address s p = on (is_inside s.space.data_start address)
  where
    on : (t : Bool) → After P (elim t as (λ t. Reply ℕ) [ true ↦ Gives (cell_in s.space address) s | false ↦ Refuses refusal.DataFull ])
    on true = p
    on false = tt

below_end : (data_start address : ℕ) → is_inside data_start address ≡ true → address < 16384
below_end data_start address t = ltb-true address 16384 (and_parts (nat_le data_start (even address)) (nat_lt address 16384) t).1

store_after : (P : Unit {0} → Host → Type 0) (address x : ℕ) (s : Host) → (address < 16384 → P tt (record s { space = with_cell_in s.space address x })) → After P (store address x s)
store_after P address x s p = on (is_inside s.space.data_start address) refl
  where
    on : (t : Bool) → is_inside s.space.data_start address ≡ t → After P (elim t as (λ t. Reply (Unit {0})) [ true ↦ Gives tt (record s { space = with_cell_in s.space address x }) | false ↦ Refuses refusal.DataFull ])
    on true t = p (below_end s.space.data_start address t)
    on false t = tt

after_weaker : {A : Type 0} (P Q : A → Host → Type 0) → ((x : A) (s : Host) → P x s → Q x s) → (r : Reply A) → After P r → After Q r
after_weaker P Q k (Gives x s) p = k x s p
after_weaker P Q k (Refuses c) p = tt

after_both : {A : Type 0} (P Q R : A → Host → Type 0) → ((x : A) (s : Host) → P x s → Q x s → R x s) → (r : Reply A) → After P r → After Q r → After R r
after_both P Q R k (Gives x s) p q = k x s p q
after_both P Q R k (Refuses c) p q = tt

module _ (d : ℕ) where
  -- a state with this HERE
  record Stands (h : ℕ) (s : Host) : Type 0 where
    start : s.space.data_start ≡ d
    here : here_of s.space ≡ h

  here_value : (h : ℕ) (s : Host) → Stands h s → After (λ x s. Stands h s × (x ≡ h)) (here s)
  here_value h s k = fetch_after (λ x s. Stands h s × (x ≡ h)) (s.space.data_start + 4) s (k, k.here)

  here_set : (h x : ℕ) (s : Host) → Stands h s → After (λ _ s. Stands x s) (set_here x s)
  here_set h x s k =
      store_after (λ _ s. Stands x s) (s.space.data_start + 4) x s
      (λ below. record { start = k.start; here = same_place s.space.cells ((s.space.data_start + 4 - s.space.data_start) / 2) x })

  here_grown : (n h : ℕ) (s : Host) → Stands h s → After (λ _ s. Stands (sum_of h n) s) (grow_here n s)
  here_grown n h s k = after_then (λ x s. Stands h s × (x ≡ h)) (λ _ s. Stands (sum_of h n) s) (here s) _ (here_value h s k)
      (λ x s p. subst (λ y. After (λ _ s. Stands (sum_of h n) s) (set_here (sum_of y n) s)) (sym p.1) (here_set h (sum_of h n) s p.0))

  aligned_small : (h : ℕ) → h ≤ 16384 → even (sum_of h 1) ≤ 16384
  aligned_small h l = omega (arith, l)

  created_value : (h : ℕ) (s : Host) → Stands h s → h ≤ 16384 → After (λ x s. x ≤ 16384) (created s)
  created_value h s k l =
      after_then (λ _ s. Stands (even (sum_of h 1)) s) (λ x s. x ≤ 16384) (align s) _
      (after_then (λ x s. Stands h s × (x ≡ h)) (λ _ s. Stands (even (sum_of h 1)) s) (here s) _ (here_value h s k)
      (λ x s p. subst (λ y. After (λ _ s. Stands (even (sum_of h 1)) s) (set_here (even (sum_of y 1)) s)) (sym p.1) (here_set h (even (sum_of h 1)) s p.0)))
      (λ _ s p. after_weaker (λ x s. Stands (even (sum_of h 1)) s × (x ≡ even (sum_of h 1))) (λ x s. x ≤ 16384) (λ x s q. subst (λ y. y ≤ 16384) (sym q.1) (aligned_small h l)) (here s) (here_value (even (sum_of h 1)) s p))

  -- what stands behind a created address keeps it
  value_stays : {B : Type 0} (r : Reply B) (x : ℕ) → x ≤ 16384 → After (λ y s. y ≤ 16384) (r ▸ λ _. Gives x)
  value_stays (Gives b s) x l = l
  value_stays (Refuses c) x l = tt

  variable_value : (h : ℕ) (s : Host) → Stands h s → h ≤ 16384 → After (λ x s. x ≤ 16384) (variable s)
  variable_value h s k l = after_then (λ x s. x ≤ 16384) (λ x s. x ≤ 16384) (created s) _ (created_value h s k l)
      (λ x s p. after_then (λ _ s. Unit {0}) (λ x s. x ≤ 16384) (store x 0 s) _ (store_after (λ _ s. Unit {0}) x 0 s (λ below. tt)) (λ _ s q. value_stays (grow_here 2 s) x p))

  child_value : (items : List HostItem) (h : ℕ) (s : Host) → Stands h s → h ≤ 16384 → After (λ x s. x ≤ 16384) (defined_by items s)
  child_value items h s k l = after_then (λ x s. x ≤ 16384) (λ x s. x ≤ 16384) (created s) _ (created_value h s k l) (λ x s p. value_stays (host_part items s) x p)

  -- a byte is laid down, and HERE stands behind it
  byte_laid : (c h : ℕ) (s : Host) → Stands h s → d + 128 ≤ h → After (λ _ s. Stands (h + 1) s × (h < 16384)) (comma_byte c s)
  byte_laid c h s k first = after_then (λ x s. Stands h s × (x ≡ h)) (λ _ s. Stands (h + 1) s × (h < 16384)) (here s) _ (here_value h s k)
      (λ x s p. subst (λ y. After (λ _ s. Stands (h + 1) s × (h < 16384)) (store_byte y c s ▸ λ _. grow_here 1)) (sym p.1)
      (after_then (λ _ s. Stands h s × (h < 16384)) (λ _ s. Stands (h + 1) s × (h < 16384)) (store_byte h c s) _
      (after_then (λ _ s. Stands h s) (λ _ s. Stands h s × (h < 16384)) (fetch h s) _ (fetch_after (λ _ s. Stands h s) h s p.0)
      (λ cell s q. store_after (λ _ s. Stands h s × (h < 16384)) h (with_byte h cell c) s
      (λ below. (
        record {
          start = q.start;
          here = lower_place s.space.cells ((h - s.space.data_start) / 2) ((s.space.data_start + 4 - s.space.data_start) / 2) (with_byte h cell c) (omega (arith, q.start, first)) ∙ q.here;
        },
        below,
      ))))
      (λ _ s q. after_weaker (λ _ s. Stands (sum_of h 1) s) (λ _ s. Stands (h + 1) s × (h < 16384)) (λ _ s r. (record { start = r.start; here = r.here ∙ omega (arith, q.1) }, q.1)) (grow_here 1 s) (here_grown 1 h s q.0))))

  bytes_value : (text : List ℕ) (h : ℕ) (s : Host) → Stands h s → d + 128 ≤ h → h ≤ 16384 → After (λ _ s. h + length text ≤ 16384) (bytes_laid text s)
  bytes_value [] h s k first l = omega (arith, l)
  bytes_value (c ∷ text) h s k first l = after_then (λ _ s. Stands (h + 1) s × (h < 16384)) (λ _ s. h + length (c ∷ text) ≤ 16384) (comma_byte c s) _ (byte_laid c h s k first)
      (λ _ s p. after_weaker (λ _ s. h + 1 + length text ≤ 16384) (λ _ s. h + length (c ∷ text) ≤ 16384) (λ _ s q. omega (arith, q)) (bytes_laid text s)
      (bytes_value text (h + 1) s p.0 (omega (arith, first)) (omega (arith, p.1))))

  text_value : (text : List ℕ) (h : ℕ) (s : Host) → Stands h s → d + 128 ≤ h → h ≤ 16384 → After (λ x s. x + length text ≤ 16384) (string_laid text s)
  text_value text h s k first l = after_then (λ x s. Stands h s × (x ≡ h)) (λ x s. x + length text ≤ 16384) (here s) _ (here_value h s k)
      (λ x s p. after_then (λ _ s. h + length text ≤ 16384) (λ x s. x + length text ≤ 16384) (bytes_laid text s) _ (bytes_value text h s p.0 first l)
      (λ _ s q. omega (arith, q, p.1)))

here_end : (space : Space) → is_here_within space ≡ true → here_of space ≤ 16384
here_end space t = leb-true (here_of space) 16384 (and_parts (nat_le (space.data_start + 128) (here_of space)) (nat_le (here_of space) 16384) t).1

here_first : (space : Space) → is_here_within space ≡ true → space.data_start + 128 ≤ here_of space
here_first space t = leb-true (space.data_start + 128) (here_of space) (and_parts (nat_le (space.data_start + 128) (here_of space)) (nat_le (here_of space) 16384) t).0

stands : (s : Host) → Stands s.space.data_start (here_of s.space) s
stands s = record { start = refl; here = refl }

-- a text ends within data space
pub laid_room : (text : List ℕ) (s : Host) → is_here_within s.space ≡ true → (x : ℕ) (new : Host) → string_laid text s ≡ Gives x new → x + length text ≤ 16384
laid_room text s k x new e = subst (After (λ x s. x + length text ≤ 16384)) e (text_value s.space.data_start text (here_of s.space) s (stands s) (here_first s.space k) (here_end s.space k))

-- ---- from a settled state on

module _ (d : ℕ) (tokens : List Ticked) (e : d % 2 ≡ 0) (l : d ≤ 16000) where
  with_bound : {A : Type 0} (B : A → Type 0) (r : Reply A) → After (λ x s. B x) r → After (λ _ s. IsHost d tokens s) r → After (λ x s. IsSettled d tokens s × B x) (checked r)
  with_bound B r p k =
      checked_after d tokens e l (λ x s. IsHost d tokens s × B x) (λ x s. IsSettled d tokens s × B x) r
      (after_both (λ _ s. IsHost d tokens s) (λ x s. B x) (λ x s. IsHost d tokens s × B x) (λ x s p q. (p, q)) r k p) (λ x s q t. (record { host = q.0; here = t }, q.1))

  taken_on : (stack : List ℕ) (s : Host) → AreCells stack → IsSettled d tokens s → After (λ x s. IsSettled d tokens s × (x < 65536)) (pop_from stack s)
  taken_on [] s c k = tt
  taken_on (x ∷ stack) s c k = (record { host = record { stack = c.1; fits = k.host.fits; start = k.host.start; ticked = k.host.ticked }; here = k.here }, c.0)

  put_on : (x : ℕ) (s : Host) (t : Bool) → IsSettled d tokens s →
      After (λ _ s. IsSettled d tokens s)
      (elim t as (λ t. Reply (Unit {0})) [ true ↦ Gives tt (record s { stack = (x % 65536) ∷ s.stack }) | false ↦ Refuses refusal.HostOverflow ])
  put_on x s true k = record { host = record { stack = (omega arith, k.host.stack); fits = k.host.fits; start = k.host.start; ticked = k.host.ticked }; here = k.here }
  put_on x s false k = tt

  pub host_keeps : (s : Host) → IsSettled d tokens s → HostKeeps d tokens s
  host_keeps s k =
      let first : s.space.data_start + 128 ≤ here_of s.space = here_first s.space k.here in
      let last : here_of s.space ≤ 16384 = here_end s.space k.here in
      record {
        taken = taken_on s.stack s k.host.stack k;
        put = λ x. put_on x s (nat_lt (length s.stack) 32) k;
        items = λ i. settled_after d tokens e l (item_done i s) (item_keeps d tokens e l i s k.host);
        texts = λ text. with_bound (λ x. x + length text ≤ 16384) (string_laid text s) (text_value s.space.data_start text (here_of s.space) s (stands s) first last) (text_keeps d tokens e l text s k.host);
        addresses = with_bound (λ x. x ≤ 16384) (created s) (created_value s.space.data_start (here_of s.space) s (stands s) last) (created_keeps d tokens e l s k.host);
        variables = with_bound (λ x. x ≤ 16384) (variable s) (variable_value s.space.data_start (here_of s.space) s (stands s) last) (variable_keeps d tokens e l s k.host);
        children = λ items. with_bound (λ x. x ≤ 16384) (defined_by items s) (child_value s.space.data_start items (here_of s.space) s (stands s) last) (child_keeps d tokens e l items s k.host);
      }

pub words_keep : HostWordsKeep
words_keep d tokens s e l k = host_keeps d tokens e l s k
