-- The list of headers after K-HEADER.
use Rattle.std.proofs.Common.{◌≡◌, ◌≢◌, inl, ℕ, zero, suc, ◌+◌, ◌/◌, ◌%◌, ◌≤◌, ◌<◌, List, [], ◌∷◌, refl, ap, ap₂, sym, ◌∙◌, subst, arith}
use Rattle.forth_program.specs.State.{World}
use Rattle.kernel_words.specs.Places.{here_cell, latest_cell, line_buffer}
use Rattle.kernel_words.specs.Memory.{data_cell, data_byte, data_bytes}
use Rattle.kernel_words.specs.Headers.{Header, Headers}
use Rattle.kernel_words.specs.Laws.{AreBelow, ListIsLonger}
use Rattle.kernel_words.proofs.Memory.{cell_alike}

bytes_alike : (v w : World) (n a b : ℕ) → ((i : ℕ) → i < n → data_byte v (a + i) ≡ data_byte w (b + i)) → data_bytes v n a ≡ data_bytes w n b
bytes_alike v w zero a b f = refl
bytes_alike v w (suc n) a b f = ap₂ (λ x xs. x ∷ xs) (ap (data_byte v) (none a) ∙ f 0 (omega arith) ∙ ap (data_byte w) (sym (none b)))
    (bytes_alike v w n (suc a) (suc b) (λ i g. ap (data_byte v) (next a i) ∙ f (suc i) (omega (arith, g)) ∙ ap (data_byte w) (sym (next b i))))
  where
    none : (a : ℕ) → a ≡ a + 0
    none a = omega arith

    next : (a i : ℕ) → suc a + i ≡ a + suc i
    next a i = omega arith

module _ (w v : World) (end : ℕ) (same : (b : ℕ) → line_buffer ≤ b → b < end → b / 2 ≢ latest_cell / 2 → data_byte v b ≡ data_byte w b) where
  -- a header's bytes
  at : (h j size : ℕ) → line_buffer ≤ h → h + 6 + size ≤ end → ((j : ℕ) → j < 6 + size → (h + j) / 2 ≢ latest_cell / 2) → j < 6 + size → data_byte v (h + j) ≡ data_byte w (h + j)
  at h j size low high away f = same (h + j) (omega (arith, low)) (omega (arith, high, f)) (away j f)

  cell_at : (h : ℕ) → h % 2 ≡ 0 → data_byte v (h + 0) ≡ data_byte w (h + 0) → data_byte v (h + 1) ≡ data_byte w (h + 1) → data_cell v h ≡ data_cell w h
  cell_at h e f g = cell_alike v w h e (ap (data_byte v) (none h) ∙ f ∙ ap (data_byte w) (sym (none h))) (ap (data_byte v) (next h) ∙ g ∙ ap (data_byte w) (sym (next h)))
    where
      none : (a : ℕ) → a ≡ a + 0
      none a = omega arith

      next : (a : ℕ) → suc a ≡ a + 1
      next a = omega arith

  kept_list : (headers : List Header) (h : ℕ) → Headers w h headers → AreBelow w end h headers → Headers v h headers
  kept_list [] h e below = e
  kept_list (header ∷ older) h d below =
      let low = d.0.low in
      let ev = d.0.even in
      let room = below.0 in
      let size = at h 4 (data_byte w (h + 4)) low room below.1 (omega arith) in
      let link = cell_at h ev (at h 0 (data_byte w (h + 4)) low room below.1 (omega arith)) (at h 1 (data_byte w (h + 4)) low room below.1 (omega arith)) in
      let high = d.0.high in
      let some = d.0.some in
      let few = d.0.few in
      let older_one = d.0.older in (
        record {
          even = ev;
          low = low;
          high = omega (arith, high, size);
          older = omega (arith, older_one, link);
          code = cell_alike v w (h + 2) (omega (arith, ev)) (at h 2 (data_byte w (h + 4)) low room below.1 (omega arith))
              (ap (data_byte v) (next h) ∙ at h 3 (data_byte w (h + 4)) low room below.1 (omega arith) ∙ ap (data_byte w) (sym (next h))) ∙ d.0.code;
          some = omega (arith, some, size);
          few = omega (arith, few, size);
          immediate = at h 5 (data_byte w (h + 4)) low room below.1 (omega arith) ∙ d.0.immediate;
          name = ap (λ n. data_bytes v n (h + 6)) size ∙ bytes_alike v w (data_byte w (h + 4)) (h + 6) (h + 6)
              (λ i f. ap (data_byte v) (assoc h i) ∙ at h (6 + i) (data_byte w (h + 4)) low room below.1 (omega (arith, f)) ∙ ap (data_byte w) (sym (assoc h i))) ∙ d.0.name;
        },
        subst (λ o. Headers v o older) (sym link) (kept_list older (data_cell w h) d.1 below.2),
      )
    where
      next : (a : ℕ) → suc (a + 2) ≡ a + 3
      next a = omega arith

      assoc : (h i : ℕ) → h + 6 + i ≡ h + (6 + i)
      assoc h i = omega arith

pub list_is_longer : ListIsLonger
list_is_longer p x a n h c w headers s positive d below m =
    let place = s.place in
    let old = s.old in
    let room = s.room in
    let few = s.few in
    let size = m.size in
    let link = m.link in
    let older : data_cell w latest_cell < h = under headers (data_cell w latest_cell) d below (omega (arith, place, old)) (omega (arith, place)) in (
      record {
        even = omega (arith, place);
        low = omega (arith, place, old);
        high = omega (arith, room, size);
        older = omega (arith, link, older);
        code = m.code;
        some = omega (arith, positive, size);
        few = omega (arith, few, size);
        immediate = m.immediate;
        name = ap (λ k. data_bytes m.after k (h + 6)) size ∙ bytes_alike m.after w n (h + 6) (a + 1) m.name;
      },
      subst (λ o. Headers m.after o headers) (sym link)
          (kept_list w m.after (data_cell w here_cell) (λ b low under away. m.rest b (omega (arith, low)) (λ e. omega (arith, e, low)) away (inl (omega (arith, under, place)))) headers (data_cell w latest_cell) d below),
    )
  where
    -- the newest lies below the new one
    under : (headers : List Header) (o : ℕ) → Headers w o headers → AreBelow w (data_cell w here_cell) o headers → 0 < h → data_cell w here_cell ≤ h → o < h
    under [] o e below f g = omega (arith, e, f)
    under (header ∷ older) o d below f g = let room = below.0 in omega (arith, room, g)
