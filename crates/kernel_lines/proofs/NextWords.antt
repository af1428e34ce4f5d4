-- NEXT-WORD by the words of the source.
use Rattle.std.proofs.Common.{◌≡◌, ◌⊎◌, inl, inr, ℕ, zero, suc, ◌+◌, ◌-◌, ◌*◌, ◌≤◌, ◌<◌, true, false, ◌==◌, List, [], ◌∷◌, length, refl, ap}
use Rattle.std.proofs.Common.{ap₂, sym, ◌∙◌, subst, arith, lt-ltb, le-ltb, eqb-true, eq-eqb}
use Rattle.forth_program.specs.State.{World}
use Rattle.forth_program.specs.Program.{SourceProgram}
use Rattle.kernel_words.specs.Places.{length_cell, reached_cell, source_cell, word_buffer}
use Rattle.kernel_words.specs.Bodies.{IsKernel, next_word_body}
use Rattle.kernel_words.specs.Memory.{IsDataSpace, data_cell, data_byte, data_bytes, leading_bytes, bytes_before}
use Rattle.kernel_words.specs.Laws.{HasSource, IsNextWord, kept_size, WordIsKept, NextWordsAreKept}
use Rattle.kernel_words.proofs.Cases.{by_cases, by_less, if_true, if_false}
use Rattle.kernel_lines.specs.State.{source_left, word_read, OnlyChanges}
use Rattle.kernel_lines.specs.Words.{words_of}
use Rattle.kernel_lines.specs.Laws.{SourceIsApart, NextIsRead, NextWordsAreRead, AreRead, WordsAreReadInTurn}
use Rattle.kernel_lines.proofs.States.{out_of, bytes_alike, cell_outside, state_but_reached}
use Rattle.kernel_lines.proofs.Splitting.{leading_skipped, leading_ends, words_are_cut, cut_words, first_of_cut, behind_cut}

kept_few : (s : ℕ) → kept_size s ≤ 80
kept_few s = by_less s 80 (λ less. rw (lt-ltb s 80 less) (omega (arith, less))) (λ all. rw (le-ltb s 80 all) (omega arith))

leading_few : (w : World) (n a : ℕ) → leading_bytes w 32 n a ≤ n
leading_few w zero a = omega arith
leading_few w (suc n) a = by_cases (32 == data_byte w a) (λ e. rw e (let m = leading_few w n (suc a) in omega (arith, m)))
    (λ e. rw e (omega arith))

before_few : (w : World) (n a : ℕ) → bytes_before w 32 n a ≤ n
before_few w zero a = omega arith
before_few w (suc n) a = by_cases (32 == data_byte w a) (λ e. rw e (omega arith))
    (λ e. rw e (let m = before_few w n (suc a) in omega (arith, m)))

length_is : (w : World) (n a : ℕ) → length (data_bytes w n a) ≡ n
length_is w zero a = refl
length_is w (suc n) a = ap suc (length_is w n (suc a))

-- bytes that were copied
moved_bytes : (w v : World) (n a b : ℕ) → ((i : ℕ) → i < n → data_byte v (b + i) ≡ data_byte w (a + i)) →
    data_bytes v n b ≡ data_bytes w n a
moved_bytes w v zero a b f = refl
moved_bytes w v (suc n) a b f = ap₂ (λ x xs. x ∷ xs) (ap (data_byte v) (plain b) ∙ f 0 (omega arith) ∙ ap (data_byte w) (sym (plain a)))
    (moved_bytes w v n (suc a) (suc b) (λ i less. ap (data_byte v) (next b i) ∙ f (suc i) (omega (arith, less))
    ∙ ap (data_byte w) (sym (next a i))))
  where
    plain : (a : ℕ) → a ≡ a + 0
    plain a = omega arith

    next : (a i : ℕ) → suc a + i ≡ a + suc i
    next a i = omega arith

module _ (p : SourceProgram) (c : List ℕ) (w : World) (first size : ℕ) (s : HasSource w (data_cell w source_cell)) (apart : SourceIsApart w)
    (n : IsNextWord w 32 (data_cell w source_cell) first size)
    (k : WordIsKept p next_word_body (400 * (data_cell w length_cell + 1)) (300 + 250 * data_cell w length_cell) c c w
    (data_cell w source_cell) first size (kept_size size)) where
  abbrev ranges : List (ℕ × ℕ)
  ranges = (reached_cell, 2) ∷ (word_buffer, 82) ∷ []

  changes : OnlyChanges ranges w k.after
  changes = record {
    space = k.console.space;
    kept = λ a low out.
        let one = out_of a reached_cell 2 ((word_buffer, 82) ∷ []) out in
        let two = out_of a word_buffer 82 [] one.rest in
        let few = kept_few size in
        k.rest a low
        (λ e. let less = one.here (λ more. omega (arith, more, e)) in omega (arith, less, e))
        (λ i f e. let less = two.here (λ more. omega (arith, more, e, f, few)) in omega (arith, less, e, f));
  }

  -- the source is as before
  source_byte : (b : ℕ) → data_cell w source_cell ≤ b → b < data_cell w source_cell + data_cell w length_cell →
      data_byte k.after b ≡ data_byte w b
  source_byte b from to =
      let low = s.low in
      let few = kept_few size in
      k.rest b (omega (arith, low, from))
      (λ e. elim apart as (λ _. ⊥) [ inl under ↦ omega (arith, under, to, e) | inr over ↦ omega (arith, over, from, e) ])
      (λ i f e. elim apart as (λ _. ⊥) [ inl under ↦ omega (arith, under, to, e) | inr over ↦ omega (arith, over, from, e, f, few) ])

  abbrev from : ℕ
  from = data_cell w source_cell + data_cell w reached_cell

  abbrev rest : ℕ
  rest = data_cell w source_cell + data_cell w length_cell - first

  rest_is : rest ≡ data_cell w length_cell - data_cell w reached_cell - leading_bytes w 32
      (data_cell w length_cell - data_cell w reached_cell) from
  rest_is = let b = n.begins in let g = s.place in omega (arith, b, g)

  inside : (first ≤ data_cell w source_cell + data_cell w length_cell) × (data_cell w source_cell ≤ first) × (size ≤ rest)
  inside =
      let b = n.begins in
      let g = s.place in
      let l = leading_few w (data_cell w length_cell - data_cell w reached_cell) from in
      (omega (arith, b, g, l), omega (arith, b), subst (λ x. x ≤ rest) (sym n.ends) (before_few w rest first))

  -- the words of what was left
  words_are : words_of (source_left w) ≡ cut_words w size first (rest - suc size)
  words_are =
      leading_skipped w (data_cell w length_cell - data_cell w reached_cell) from
      ∙ ap₂ (λ m a. words_of (data_bytes w m a)) (sym rest_is) (sym n.begins)
      ∙ words_are_cut w rest first stops
      ∙ ap (λ x. cut_words w x first (rest - suc x)) (sym n.ends)
    where
      stops : (rest ≡ 0) ⊎ ((32 == data_byte w first) ≡ false)
      stops = elim (leading_ends w (data_cell w length_cell - data_cell w reached_cell) from) as
          (λ _. (rest ≡ 0) ⊎ ((32 == data_byte w first) ≡ false))
          [ inl none ↦ inl (rest_is ∙ none) | inr other ↦ inr (ap (λ a. 32 == data_byte w a) n.begins ∙ other) ]

  -- without a word nothing is left
  none_left : size ≡ 0 → rest - suc size ≡ 0
  none_left e = elim (leading_ends w (data_cell w length_cell - data_cell w reached_cell) from) as (λ _. rest - suc size ≡ 0) [
    | inl none ↦ (let r = rest_is in omega (arith, r, none))
    | inr other ↦ some rest size n.ends
        (ap (λ a. 32 == data_byte w a) n.begins ∙ other) e
  ]
    where
      some : (m x : ℕ) → x ≡ bytes_before w 32 m first → (32 == data_byte w first) ≡ false → x ≡ 0 → m - suc x ≡ 0
      some zero x q o z = omega arith
      some (suc m) x q o z = let big : bytes_before w 32 (suc m) first ≡ suc (bytes_before w 32 m (suc first)) = rw o refl in
          absurd (omega (arith, q, z, big))

  size_same : data_cell k.after length_cell ≡ data_cell w length_cell
  size_same = cell_outside ranges w k.after length_cell changes refl

  start_same : data_cell k.after source_cell ≡ data_cell w source_cell
  start_same = cell_outside ranges w k.after source_cell changes refl

  -- what is left now
  left_is : (source_left k.after ≡ data_bytes w (rest - suc size) (suc (first + size))) ×
      (data_cell k.after reached_cell ≤ data_cell w length_cell)
  left_is = by_cases (first + size == data_cell w source_cell + data_cell w length_cell)
      (λ e.
      let f : first + size ≡ data_cell w source_cell + data_cell w length_cell = eqb-true _ _ e in
      let at : data_cell k.after reached_cell ≡ data_cell w length_cell = k.place ∙ if_true _ (data_cell w length_cell) _ e in
      let none : data_cell k.after length_cell - data_cell k.after reached_cell ≡ 0 = (let l = size_same in omega (arith, l, at)) in
      let also : rest - suc size ≡ 0 = omega (arith, f) in (
        ap (λ m. data_bytes k.after m (data_cell k.after source_cell + data_cell k.after reached_cell)) none
            ∙ ap (λ m. data_bytes w m (suc (first + size))) (sym also),
        omega (arith, at),
      ))
      (λ e.
      let b = inside in
      let b0 = b.0 in
      let b1 = b.1 in
      let b2 = b.2 in
      let at : data_cell k.after reached_cell ≡ first + size + 1 - data_cell w source_cell =
      k.place ∙ if_false _ (data_cell w length_cell) _ e in
      let less : first + size < data_cell w source_cell + data_cell w length_cell =
      below (first + size) (data_cell w source_cell + data_cell w length_cell) (omega (arith, b0, b2)) e in
      let l = size_same in
      let t = start_same in
      let many : data_cell k.after length_cell - data_cell k.after reached_cell ≡ rest - suc size = omega (arith, l, at, b1, less) in
      let place : data_cell k.after source_cell + data_cell k.after reached_cell ≡ suc (first + size) = omega (arith, t, at, b1) in (
        ap₂ (λ m a. data_bytes k.after m a) many place ∙ bytes_alike w k.after (rest - suc size) (suc (first + size))
            (λ x low high. source_byte x (omega (arith, low, b1)) (omega (arith, high, less, b0))),
        omega (arith, at, less),
      ))
    where
      below : (x y : ℕ) → x ≤ y → (x == y) ≡ false → x < y
      below x y f e = by_less x y (λ less. less) (λ all. let t : (x == y) ≡ true = eq-eqb x y (omega (arith, f, all)) in
          let no : ⊥ = cc in absurd no)

  word_is : word_read k.after ≡ data_bytes w (kept_size size) first
  word_is = ap (λ m. data_bytes k.after m (suc word_buffer)) k.count
      ∙ moved_bytes w k.after (kept_size size) first (suc word_buffer) k.bytes

  next_is_read : NextIsRead p c w (cut_words w size first (rest - suc size))
  next_is_read = record {
    after = k.after;
    run = k.run;
    console = k.console;
    count = k.count ∙ sym (length_is w (kept_size size) first) ∙ ap length (sym (first_of_cut w size first (rest - suc size)));
    word = word_is ∙ sym (first_of_cut w size first (rest - suc size));
    place = left_is.1;
    left = ap words_of left_is.0 ∙ sym (behind_cut w size first (rest - suc size) none_left);
    state_is = state_but_reached ((word_buffer, 82) ∷ []) w k.after (data_cell k.after reached_cell) changes refl refl;
    others = changes;
  }

pub next_words_are_read : NextWordsAreKept → NextWordsAreRead
next_words_are_read law p c w k h s apart =
    let first = data_cell w source_cell + data_cell w reached_cell
    + leading_bytes w 32 (data_cell w length_cell - data_cell w reached_cell) (data_cell w source_cell + data_cell w reached_cell) in
    let size = bytes_before w 32 (data_cell w source_cell + data_cell w length_cell - first) first in
    let n : IsNextWord w 32 (data_cell w source_cell) first size = record { begins = refl; ends = refl } in
    let kept = law p c w first size k h s apart n in
    subst (NextIsRead p c w) (sym (words_are p c w first size s apart n kept)) (next_is_read p c w first size s apart n kept)

-- ---- over and over
turns : NextWordsAreKept → (words : List (List ℕ)) (p : SourceProgram) (c : List ℕ) (w : World) → IsKernel p → IsDataSpace w →
    HasSource w (data_cell w source_cell) → SourceIsApart w →
    words_of (source_left w) ≡ words → AreRead p c w words
turns law [] p c w k h s apart e = subst (NextIsRead p c w) e (next_words_are_read law p c w k h s apart)
turns law (word ∷ words) p c w k h s apart e =
    let next : NextIsRead p c w (word ∷ words) = subst (NextIsRead p c w) e (next_words_are_read law p c w k h s apart) in
    let size : data_cell next.after length_cell ≡ data_cell w length_cell = ap (λ t. t.size) next.state_is in
    let start : data_cell next.after source_cell ≡ data_cell w source_cell = ap (λ t. t.start) next.state_is in
    let low = s.low in
    let high = s.high in
    let place = next.place in (
      next,
      turns law words p c next.after k next.console.space
          (record { low = omega (arith, start, low); high = omega (arith, start, size, high); place = omega (arith, size, place) })
          (elim apart as (λ _. SourceIsApart next.after) [
            | inl under ↦ inl (omega (arith, under, start, size))
            | inr over ↦ inr
                (omega (arith, over, start))
          ])
          next.left,
    )

pub words_are_read_in_turn : NextWordsAreKept → WordsAreReadInTurn
words_are_read_in_turn law p c w k h s apart = turns law (words_of (source_left w)) p c w k h s apart refl
