-- WORD-FROM, PARSE, KEEP-WORD, K-WORD and NEXT-WORD.
use Rattle.std.proofs.Common.{◌≡◌, ◌≢◌, ◌⊎◌, inl, inr, ℕ, zero, suc, ◌+◌, ◌-◌, ◌*◌, ◌/◌, ◌%◌, ◌≤◌, ◌<◌, ◌==◌, List, [], ◌∷◌, refl, ap, sym, ◌∙◌, subst, arith, le-ltb, lt-ltb, eq-eqb}
use Rattle.std.specs.Prelude.{if◌then◌else◌}
use Rattle.word_table.specs.declared.word.Word.TheVariants.{Fetch, CStore, Move}
use Rattle.cell_math.specs.Cell.{sum_of}
use Rattle.forth_program.specs.Tree.{Nodes}
use Rattle.forth_program.specs.State.{World, Work, Entry, Cell, Frame, Gives, ◌▸◌}
use Rattle.forth_program.specs.Program.{SourceProgram}
use Rattle.forth_program.specs.ByteWords.{move}
use Rattle.forth_program.specs.Step.{before, step}
use Rattle.forth_program.specs.Run.{steps}
use Rattle.forth_program.specs.Price.{spent}
use Rattle.kernel_words.specs.Places.{length_cell, reached_cell, line_buffer, word_buffer, source_cell, rest_place, skip_place, take_place, word_from_place, keep_word_place}
use Rattle.kernel_words.specs.Bodies.{IsKernel, rest_body, skip_body, word_from_body, keep_word_body, parse_body}
use Rattle.kernel_words.specs.Running.{Comes, Returns}
use Rattle.kernel_words.specs.Memory.{IsDataSpace, KeepsConsole, data_cell, data_byte, with_data_cell, with_data_byte, leading_bytes, bytes_before}
use Rattle.kernel_words.specs.Laws.{HasSource, IsNextWord, place_past, TextIsTaken, WordsAreTaken, TextsAreParsed, kept_size, TextIsKept, TextsAreKept, WordIsKept, WordsAreKept, NextWordsAreKept}
use Rattle.kernel_words.proofs.Cases.{by_cases, by_less, unequal}
use Rattle.kernel_words.proofs.Runs.{by_way, by_word, by_call, there, within}
use Rattle.kernel_words.proofs.Memory.{after_store, after_byte_store, console_then, cell_fits, cell_stored, cell_alike, byte_kept, byte_stored, byte_beside, reads, writes_byte}
use Rattle.kernel_words.proofs.Moves.{Moved, moved}
use Rattle.kernel_words.proofs.Scanning.{skip_returns, skip}
use Rattle.kernel_words.proofs.Source.{rest_returns, take_returns, taken_from, place_after}

leading_fits : (w : World) (c n a : ℕ) → leading_bytes w c n a ≤ n
leading_fits w c zero a = omega arith
leading_fits w c (suc n) a = by_cases (c == data_byte w a) (λ e. rw e (let m = leading_fits w c n (suc a) in omega (arith, m))) (λ e. rw e (omega arith))

before_fits : (w : World) (c n a : ℕ) → bytes_before w c n a ≤ n
before_fits w c zero a = omega arith
before_fits w c (suc n) a = by_cases (c == data_byte w a) (λ e. rw e (omega arith)) (λ e. rw e (let m = before_fits w c n (suc a) in omega (arith, m)))

-- a word of the source lies in it
record Lies (w : World) (start first size : ℕ) : Type 0 where
  low : start ≤ first
  high : first + size ≤ start + data_cell w length_cell

next_word_lies : (w : World) (c start first size : ℕ) → HasSource w start → IsNextWord w c start first size → Lies w start first size
next_word_lies w c start first size s n =
    let place = s.place in
    let begins = n.begins in
    let ends = n.ends in
    let few = leading_fits w c (data_cell w length_cell - data_cell w reached_cell) (start + data_cell w reached_cell) in
    let fits = before_fits w c (start + data_cell w length_cell - first) first in
    record { low = omega (arith, begins); high = omega (arith, begins, few, ends, fits, place) }

module _ (p : SourceProgram) (w : World) (h : IsDataSpace w) (start : ℕ) (r : List ℕ) where
  -- where m bytes are left behind the text
  place_is : (first n m : ℕ) → start ≤ first → first + n + m ≡ start + data_cell w length_cell → place_after w m ≡ place_past w start first n
  place_is first n zero low e = rw (eq-eqb (first + n) (start + data_cell w length_cell) (omega (arith, e))) refl
  place_is first n (suc m) low e = rw (unequal (first + n) (start + data_cell w length_cell) (λ f. omega (arith, e, f))) (omega (arith, e, low))

  place_fits : (m : ℕ) → place_after w m < 65536
  place_fits zero = cell_fits w length_cell h
  place_fits (suc m) = let f = cell_fits w length_cell h in omega (arith, f)

  text_taken : (body : Nodes) (most highest : ℕ) (c : List ℕ) (first n m : ℕ) → start ≤ first → first + n + m ≡ start + data_cell w length_cell →
      Returns p body most highest c w (n ∷ first ∷ r) (with_data_cell reached_cell (place_after w m) w) → TextIsTaken p body most highest c r w start first n
  text_taken body most highest c first n m low e run = record {
    after = with_data_cell reached_cell (place_after w m) w;
    run = run;
    console = after_store w reached_cell (place_after w m) h (place_fits m);
    place = cell_stored w reached_cell reached_cell (place_after w m) h (omega arith) (omega arith) refl ∙ place_is first n m low e;
    rest = λ a g away. byte_kept w reached_cell a (place_after w m) (omega arith) g away;
  }

module _ (p : SourceProgram) (k : IsKernel p) (w : World) (h : IsDataSpace w) (start : ℕ) (s : HasSource w start) (c : ℕ) (r : List ℕ) where
  abbrev left : ℕ
  left = data_cell w length_cell - data_cell w reached_cell

  abbrev from : ℕ
  from = start + data_cell w reached_cell

  word_from_returns : (first n : ℕ) → first ≡ from + leading_bytes w c left from → n ≡ left - leading_bytes w c left from →
      Returns p word_from_body (57 + 31 * data_cell w length_cell) (100 + 82 * data_cell w length_cell) (start ∷ c ∷ r) w (bytes_before w c n first ∷ first ∷ r) (taken_from n (bytes_before w c n first) w)
  unfolding step steps spent
  word_from_returns first n e f work es callers =
      let low = s.low in
      let high = s.high in
      let place = s.place in
      let fits = leading_fits w c left from in
      by_call p rest_place 19 40 (37 + 31 * data_cell w length_cell) (59 + 82 * data_cell w length_cell) k.rest (rest_returns p w h place (c ∷ r) k start high) refl (omega arith) (omega arith)
      (by_call p skip_place (5 + 15 * data_cell w length_cell) (6 + 40 * data_cell w length_cell) (31 + 16 * data_cell w length_cell) (52 + 42 * data_cell w length_cell) k.skip
      (subst (λ x. Returns p skip_body (5 + 15 * data_cell w length_cell) (6 + 40 * data_cell w length_cell) (left ∷ from ∷ c ∷ r) w (n ∷ x ∷ c ∷ r) w) (sym e)
      (subst (λ x. Returns p skip_body (5 + 15 * data_cell w length_cell) (6 + 40 * data_cell w length_cell) (left ∷ from ∷ c ∷ r) w (x ∷ (from + leading_bytes w c left from) ∷ c ∷ r) w) (sym f)
      (λ work es callers. within p (5 + 15 * left) (6 + 40 * left) (omega arith) (omega arith) (skip_returns p c left from r w h (omega (arith, low)) (omega (arith, high, place)) work es callers))))
      refl (omega arith) (omega arith)
      (by_call p take_place (29 + 16 * data_cell w length_cell) (50 + 42 * data_cell w length_cell) 1 1 k.take
      (λ work es callers. within p (29 + 16 * n) (50 + 42 * n) (omega (arith, f)) (omega (arith, f))
      (take_returns p k w h place r c n first (omega (arith, f)) (omega (arith, e, low)) (omega (arith, e, f, high, place, fits)) work es callers))
      refl (omega arith) (omega arith)
      (by_way p 1 0 0 refl (omega arith) (omega arith) (there p))))

  parse_from : (first : ℕ) → first ≡ from →
      (work : List Work) (es : List Entry) (callers : List Frame) → Comes p (58 + 16 * data_cell w length_cell) (107 + 42 * data_cell w length_cell)
      (record { work = before (skip 2 parse_body) []; entries = []; callers = record { work = work; entries = es } ∷ callers; cells = start ∷ c ∷ r; world = w })
      (record { work = work; entries = es; callers = callers; cells = bytes_before w c left first ∷ first ∷ r; world = taken_from left (bytes_before w c left first) w })
  unfolding step steps spent
  parse_from first e work es callers =
      let low = s.low in
      let high = s.high in
      let place = s.place in
      by_call p rest_place 19 40 (38 + 16 * data_cell w length_cell) (66 + 42 * data_cell w length_cell) k.rest
      (subst (λ x. Returns p rest_body 19 40 (start ∷ c ∷ r) w (left ∷ x ∷ c ∷ r) w) (sym e) (rest_returns p w h place (c ∷ r) k start high)) refl (omega arith) (omega arith)
      (by_call p take_place (29 + 16 * left) (50 + 42 * left) 1 1 k.take (take_returns p k w h place r c left first (omega arith) (omega (arith, e, low)) (omega (arith, e, high, place))) refl (omega arith) (omega arith)
      (by_way p 1 0 0 refl (omega arith) (omega arith) (there p)))

pub words_are_taken : WordsAreTaken
words_are_taken p c start below w first size k h s n =
    let begins = n.begins in
    let place = s.place in
    let ends = n.ends in
    let lies = next_word_lies w c start first size s n in
    let low = lies.low in
    let high = lies.high in
    text_taken p w h start below word_from_body (57 + 31 * data_cell w length_cell) (100 + 82 * data_cell w length_cell) (start ∷ c ∷ below) first size
    (start + data_cell w length_cell - first - size) low (omega (arith, low, high))
    (subst (λ x. Returns p word_from_body (57 + 31 * data_cell w length_cell) (100 + 82 * data_cell w length_cell) (start ∷ c ∷ below) w (x ∷ first ∷ below) (taken_from (start + data_cell w length_cell - first) x w)) (sym ends)
    (word_from_returns p k w h start s c below first (start + data_cell w length_cell - first) begins (omega (arith, begins, place))))

pub texts_are_parsed : TextsAreParsed
unfolding step steps spent
texts_are_parsed p c below w first size k h s e f =
    let place = s.place in
    let fits = before_fits w c (data_cell w length_cell - data_cell w reached_cell) first in
    text_taken p w h (data_cell w source_cell) below parse_body (60 + 16 * data_cell w length_cell) (110 + 42 * data_cell w length_cell) (c ∷ below) first size
    (data_cell w length_cell - data_cell w reached_cell - size) (omega (arith, e)) (omega (arith, e, f, fits, place))
    (subst (λ x. Returns p parse_body (60 + 16 * data_cell w length_cell) (110 + 42 * data_cell w length_cell) (c ∷ below) w (x ∷ first ∷ below) (taken_from (data_cell w length_cell - data_cell w reached_cell) x w)) (sym f)
    (λ work es callers.
    by_way p 1 (59 + 16 * data_cell w length_cell) (108 + 42 * data_cell w length_cell) refl (omega arith) (omega arith)
    (by_word p Fetch (58 + 16 * data_cell w length_cell) (107 + 42 * data_cell w length_cell) (reads w source_cell (c ∷ below) h (omega arith) (omega arith)) refl (omega arith) (omega arith)
    (parse_from p k w h (data_cell w source_cell) s c below first e work es callers))))

-- ---- a text of v bytes goes to a buffer
kept_fits : (u : ℕ) → (kept_size u ≤ 80) × (kept_size u ≤ u)
kept_fits u = by_less u 80 (λ less. rw (lt-ltb u 80 less) (omega (arith, less), omega arith)) (λ all. rw (le-ltb u 80 all) (omega arith, all))

module _ (p : SourceProgram) (w : World) (h : IsDataSpace w) (r : List ℕ) (v a b : ℕ) (few : v ≤ 80) (low : 8192 ≤ a) (high : a + v ≤ 16384) (low' : 8192 ≤ b) (high' : b + 82 ≤ 16384)
    (apart : (a + v ≤ b) ⊎ (b + 82 ≤ a)) where
  abbrev counted : World
  counted = with_data_byte b v w

  abbrev at_start : KeepsConsole w counted
  at_start = after_byte_store w b v h

  away : (i j : ℕ) → i < v → j ≤ v → a + i ≢ b + j
  away i j f g e = elim apart as (λ _. ⊥) [ inl under ↦ omega (arith, f, e, under) | inr over ↦ omega (arith, g, few, e, over) ]

  abbrev copy : Moved v a (b + 1) counted (move v a (b + 1) counted)
  copy = moved v a (b + 1) counted at_start.space low high (omega (arith, low')) (omega (arith, high', few)) (λ i j f g e. away i (suc j) f (omega (arith, g)) (omega (arith, e)))

  keeps : (work : List Work) (es : List Entry) (callers : List Frame) →
      Comes p 9 (136 + 160 * v)
      (record { work = before (skip 6 keep_word_body) []; entries = Cell b ∷ []; callers = record { work = work; entries = es } ∷ callers; cells = v ∷ a ∷ r; world = w })
      (record { work = work; entries = es; callers = callers; cells = b ∷ r; world = copy.after })
  unfolding step steps spent
  keeps work es callers =
      by_way p 2 7 (134 + 160 * v) refl (omega arith) (omega arith)
      (by_word p CStore 6 (86 + 160 * v) (writes_byte w b v (v ∷ a ∷ r) h low' (omega (arith, high'))) refl (omega arith) (omega arith)
      (by_way p 3 3 (82 + 160 * v) refl (omega arith) (omega arith)
      (by_word p Move 2 2 (ap (λ d. move v a d counted ▸ λ _. Gives r) (next b (omega (arith, high'))) ∙ ap (λ x. x ▸ λ _. Gives r) copy.moves) refl (omega arith) (omega arith)
      (by_way p 2 0 0 refl (omega arith) (omega arith) (there p)))))
    where
      next : (b : ℕ) → b < 65535 → sum_of b 1 ≡ b + 1
      next b h = omega (arith, h)

  keep_word_returns : (u : ℕ) → v ≡ kept_size u → Returns p keep_word_body 18 (150 + 160 * v) (b ∷ u ∷ a ∷ r) w (b ∷ r) copy.after
  unfolding step steps spent
  keep_word_returns u e work es callers = by_way p 5 12 (140 + 160 * v) refl (omega arith) (omega arith) (by_less u 80
      (λ less. rw (lt-ltb u 80 less) (by_way p 1 9 (136 + 160 * v) refl (omega arith) (omega arith) (of u (e ∙ ap (λ t. if t then u else 80) (lt-ltb u 80 less)))))
      (λ all. rw (le-ltb u 80 all) (by_way p 3 9 (136 + 160 * v) refl (omega arith) (omega arith) (of 80 (e ∙ ap (λ t. if t then u else 80) (le-ltb u 80 all))))))
    where
      of : (x : ℕ) → v ≡ x → Comes p 9 (136 + 160 * v)
          (record { work = before (skip 6 keep_word_body) []; entries = Cell b ∷ []; callers = record { work = work; entries = es } ∷ callers; cells = x ∷ a ∷ r; world = w })
          (record { work = work; entries = es; callers = callers; cells = b ∷ r; world = copy.after })
      of x same = subst (λ x. Comes p 9 (136 + 160 * v) (record { work = before (skip 6 keep_word_body) []; entries = Cell b ∷ []; callers = record { work = work; entries = es } ∷ callers; cells = x ∷ a ∷ r; world = w })
          (record { work = work; entries = es; callers = callers; cells = b ∷ r; world = copy.after })) same (keeps work es callers)

  count_is : data_byte copy.after b ≡ v
  count_is = copy.rest b low' (λ i g e. omega (arith, e)) ∙ byte_stored w b v h low' (omega (arith, high')) ∙ small v few
    where
      small : (n : ℕ) → n ≤ 80 → n % 256 ≡ n
      small n h = omega (arith, h)

  bytes_are : (i : ℕ) → i < v → data_byte copy.after (b + 1 + i) ≡ data_byte w (a + i)
  bytes_are i g = copy.copy i g ∙ byte_beside w b (a + i) v h low' (omega (arith, high')) (omega (arith, low)) (λ e. away i 0 g (omega arith) (omega (arith, e)))

  rest_is : (x : ℕ) → 8192 ≤ x → ((i : ℕ) → i ≤ v → x ≢ b + i) → data_byte copy.after x ≡ data_byte w x
  rest_is x g out = copy.rest x g (λ i s e. out (suc i) (omega (arith, s)) (omega (arith, e))) ∙ byte_beside w b x v h low' (omega (arith, high')) g (λ e. out 0 (omega arith) (omega (arith, e)))

pub texts_are_kept : TextsAreKept
texts_are_kept p a u b r w h low high low' high' apart =
    let few = (kept_fits u).0 in
    record {
      after = (copy p w h r (kept_size u) a b few low high low' high' apart).after;
      run = keep_word_returns p w h r (kept_size u) a b few low high low' high' apart u refl;
      console = console_then w (with_data_byte b (kept_size u) w) (copy p w h r (kept_size u) a b few low high low' high' apart).after (after_byte_store w b (kept_size u) h)
          (copy p w h r (kept_size u) a b few low high low' high' apart).console;
      count = count_is p w h r (kept_size u) a b few low high low' high' apart;
      bytes = bytes_are p w h r (kept_size u) a b few low high low' high' apart;
      rest = rest_is p w h r (kept_size u) a b few low high low' high' apart;
    }

-- ---- a word is taken and kept
module _ (p : SourceProgram) (w : World) (start first n : ℕ) (c below : List ℕ) (most highest : ℕ) (t : TextIsTaken p word_from_body most highest c below w start first n)
    (low : 8192 ≤ first) (source : (first + n ≤ reached_cell) ⊎ (word_buffer + 82 ≤ first)) (high : first + n ≤ 16384) where
  kept_apart : (first + kept_size n ≤ word_buffer) ⊎ (word_buffer + 82 ≤ first)
  kept_apart = let few = (kept_fits n).1 in elim source as (λ _. (first + kept_size n ≤ word_buffer) ⊎ (word_buffer + 82 ≤ first)) [ inl under ↦ inl (omega (arith, under, few)) | inr over ↦ inr over ]

  kept : TextIsKept p first n word_buffer below t.after
  kept = let few = (kept_fits n).1 in texts_are_kept p first n word_buffer below t.after t.console.space low (omega (arith, few, high)) (omega arith) (omega arith) kept_apart

  word_kept : (body : Nodes) (most' highest' : ℕ) (c' : List ℕ) (size : ℕ) → size ≡ kept_size n → Returns p body most' highest' c' w (word_buffer ∷ below) kept.after → WordIsKept p body most' highest' c' below w start first n size
  word_kept body most' highest' c' size e run = record {
    after = kept.after;
    run = run;
    console = console_then w t.after kept.after t.console kept.console;
    count = kept.count ∙ sym e;
    bytes = λ i f. let g : i < kept_size n = subst (λ x. i < x) e f in kept.bytes i g ∙ t.rest (first + i) (omega (arith, low)) (out i g);
    place = cell_alike kept.after t.after reached_cell refl (kept.rest reached_cell (omega arith) (λ i f e. omega (arith, e))) (kept.rest (suc reached_cell) (omega arith) (λ i f e. omega (arith, e))) ∙ t.place;
    rest = λ a g far away. kept.rest a g (λ i f. away i (subst (λ x. i ≤ x) (sym e) f)) ∙ t.rest a g far;
  }
    where
      out : (i : ℕ) → i < kept_size n → (first + i) / 2 ≢ reached_cell / 2
      out i g e = let few = (kept_fits n).1 in elim source as (λ _. ⊥) [ inl under ↦ omega (arith, under, few, g, e) | inr over ↦ omega (arith, over, e) ]

pub words_are_kept : WordsAreKept
unfolding step steps spent
words_are_kept p c below w first size k h small place n =
    let s : HasSource w line_buffer = record { low = omega arith; high = omega (arith, small); place = place } in
    let lies = next_word_lies w c line_buffer first size s n in
    let low = lies.low in
    let high = lies.high in
    let few = (kept_fits size).1 in
    let t = words_are_taken p c line_buffer below w first size k h s n in
    let fits : first + size ≤ reached_cell = omega (arith, high, small) in
    word_kept p w line_buffer first size (line_buffer ∷ c ∷ below) below (57 + 31 * data_cell w length_cell) (100 + 82 * data_cell w length_cell) t (omega (arith, low)) (inl fits)
    (omega (arith, fits)) _ _ _ _ size (whole size (omega (arith, low, high, small)))
    (λ work es callers.
    by_way p 1 (79 + 31 * data_cell w length_cell) (258 + 242 * data_cell w length_cell) refl (omega arith) (omega (arith, small))
    (by_call p word_from_place (57 + 31 * data_cell w length_cell) (100 + 82 * data_cell w length_cell) 21 (157 + 160 * data_cell w length_cell) k.word_from t.run refl (omega arith) (omega arith)
    (by_way p 1 20 (155 + 160 * data_cell w length_cell) refl (omega arith) (omega arith)
    (by_call p keep_word_place 18 (150 + 160 * kept_size size) 1 1 k.keep_word (kept p w line_buffer first size (line_buffer ∷ c ∷ below) below (57 + 31 * data_cell w length_cell)
    (100 + 82 * data_cell w length_cell) t (omega (arith, low)) (inl fits) (omega (arith, fits))).run refl (omega arith) (omega (arith, few, low, high))
    (by_way p 1 0 0 refl (omega arith) (omega arith) (there p))))))
  where
    whole : (n : ℕ) → n ≤ 80 → n ≡ kept_size n
    whole n f = by_less n 80 (λ less. rw (lt-ltb n 80 less) refl) (λ all. rw (le-ltb n 80 all) (omega (arith, all, f)))

pub next_words_are_kept : NextWordsAreKept
unfolding step steps spent
next_words_are_kept p below w first size k h s source n =
    let lies = next_word_lies w 32 (data_cell w source_cell) first size s n in
    let low = lies.low in
    let high = lies.high in
    let inside = s.high in
    let above = s.low in
    let few = (kept_fits size).1 in
    let t = words_are_taken p 32 (data_cell w source_cell) below w first size k h s n in
    let apart = clear (data_cell w source_cell) (data_cell w length_cell) first size source low high in
    word_kept p w (data_cell w source_cell) first size (data_cell w source_cell ∷ 32 ∷ below) below (57 + 31 * data_cell w length_cell) (100 + 82 * data_cell w length_cell) t
    (omega (arith, low, above)) apart (omega (arith, high, inside)) _ _ _ _ (kept_size size) refl
    (λ work es callers.
    by_way p 2 (80 + 31 * data_cell w length_cell) (260 + 242 * data_cell w length_cell) refl (omega arith) (omega arith)
    (by_word p Fetch (79 + 31 * data_cell w length_cell) (258 + 242 * data_cell w length_cell) (reads w source_cell (32 ∷ below) h (omega arith) (omega arith)) refl (omega arith) (omega arith)
    (by_call p word_from_place (57 + 31 * data_cell w length_cell) (100 + 82 * data_cell w length_cell) 21 (157 + 160 * data_cell w length_cell) k.word_from t.run refl (omega arith) (omega arith)
    (by_way p 1 20 (155 + 160 * data_cell w length_cell) refl (omega arith) (omega arith)
    (by_call p keep_word_place 18 (150 + 160 * kept_size size) 1 1 k.keep_word (kept p w (data_cell w source_cell) first size (data_cell w source_cell ∷ 32 ∷ below) below
    (57 + 31 * data_cell w length_cell) (100 + 82 * data_cell w length_cell) t (omega (arith, low, above)) apart (omega (arith, high, inside))).run refl (omega arith) (omega (arith, few, low, high))
    (by_way p 1 0 0 refl (omega arith) (omega arith) (there p)))))))
  where
    clear : (start size' first n : ℕ) → (start + size' ≤ reached_cell) ⊎ (word_buffer + 82 ≤ start) → start ≤ first → first + n ≤ start + size' → (first + n ≤ reached_cell) ⊎ (word_buffer + 82 ≤ first)
    clear start size' first n (inl under) low high = inl (omega (arith, under, high))
    clear start size' first n (inr over) low high = inr (omega (arith, over, low))
