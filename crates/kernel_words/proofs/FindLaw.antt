-- K-FIND and the words below it: SAME-BYTE, SAME, NAMED and CODE-AND-FLAG.
use Rattle.std.proofs.Common.{◌≡◌, ◌≢◌, ℕ, zero, suc, ◌+◌, ◌*◌, ◌≤◌, ◌<◌, Bool, true, false, ◌&&◌, ◌==◌, List, [], ◌∷◌, length, refl, ap, sym, ◌∙◌, subst, arith, eqb-true, eq-eqb}
use Rattle.std.specs.Prelude.{if◌then◌else◌}
use Rattle.cell_math.specs.Cell.{sum_of, flag}
use Rattle.word_table.specs.declared.word.Word.TheVariants.{CFetch, Fetch, Count}
use Rattle.forth_program.specs.State.{World, State, Work, Entry, Frame, Gives, ◌▸◌}
use Rattle.forth_program.specs.Program.{SourceProgram}
use Rattle.forth_program.specs.Access.{fetch_byte}
use Rattle.forth_program.specs.Step.{before, step}
use Rattle.forth_program.specs.Run.{steps}
use Rattle.forth_program.specs.Price.{spent}
use Rattle.kernel_words.specs.Places.{code_and_flag_place, latest_cell, named_place, same_byte_place, same_place, upper_place}
use Rattle.kernel_words.specs.Bodies.{IsKernel, same_byte_body, same_body, named_body, code_and_flag_body, kernel_find_body}
use Rattle.kernel_words.specs.Running.{Comes, Returns}
use Rattle.std.specs.Char.{to_ascii_lowercase}
use Rattle.std.specs.Str.{str_eq_ignore_ascii_case}
use Rattle.kernel_words.specs.Memory.{IsDataSpace, data_cell, data_byte, data_bytes}
use Rattle.kernel_words.specs.Headers.{Header, IsHeader, Headers, find_answer}
use Rattle.kernel_words.specs.Laws.{NamesAreFound}
use Rattle.kernel_words.proofs.Cases.{by_cases, unequal}
use Rattle.kernel_words.proofs.Runs.{by_way, by_word, by_call, there, renamed}
use Rattle.kernel_words.proofs.Memory.{reads, reads_byte, byte_fetched, byte_fits}
use Rattle.kernel_words.proofs.Scanning.{less_one, one_more, skip, in_test}
use Rattle.kernel_words.proofs.Digits.{upper, upper_is, upper_returns}

-- bytes, and texts, that are the same without case
abbrev is_same_byte : ℕ → ℕ → Bool
is_same_byte x y = to_ascii_lowercase y == to_ascii_lowercase x

abbrev is_same_text : List ℕ → List ℕ → Bool
is_same_text xs ys = str_eq_ignore_ascii_case ys xs

module _ (p : SourceProgram) (w : World) (h : IsDataSpace w) (k : IsKernel p) where
  same_byte_returns : (x y : ℕ) (c : List ℕ) → 8192 ≤ x → x < 16384 → 8192 ≤ y → y < 16384 →
      Returns p same_byte_body 26 100 (x ∷ y ∷ c) w (flag (is_same_byte (data_byte w x) (data_byte w y)) ∷ c) w
  unfolding step steps spent
  same_byte_returns x y c low high low' high' work es callers =
      by_word p CFetch 25 70 (reads_byte w x (y ∷ c) h low high) refl (omega arith) (omega arith)
      (by_call p upper_place 9 20 14 48 k.upper (upper_returns p w (data_byte w x) (y ∷ c)) refl (omega arith) (omega arith)
      (by_way p 1 13 47 refl (omega arith) (omega arith)
      (by_word p CFetch 12 23 (reads_byte w y (upper (data_byte w x) ∷ c) h low' high') refl (omega arith) (omega arith)
      (by_call p upper_place 9 20 2 2 k.upper (upper_returns p w (data_byte w y) (upper (data_byte w x) ∷ c)) refl (omega arith) (omega arith)
      (by_way p 2 0 0 refl (omega arith) (omega arith)
      (renamed p (ap (λ t. record { work = work; entries = es; callers = callers; cells = flag t ∷ c; world = w }) (upper_is (data_byte w x) (data_byte w y) (byte_fits w x h) (byte_fits w y h))) (there p)))))))

  module _ (work : List Work) (es : List Entry) (callers : List Frame) (c : List ℕ) where
    abbrev compares : ℕ → ℕ → ℕ → State
    compares n x y = record { work = in_test 1 same_body; entries = []; callers = record { work = work; entries = es } ∷ callers; cells = n ∷ n ∷ x ∷ y ∷ c; world = w }

    abbrev tells : Bool → State
    tells t = record { work = work; entries = es; callers = callers; cells = flag t ∷ c; world = w }

    compared : (n x y : ℕ) → 8192 ≤ x → x + n ≤ 16384 → 8192 ≤ y → y + n ≤ 16384 →
        Comes p (8 + 45 * n) (12 + 122 * n) (compares n x y) (tells (is_same_text (data_bytes w n x) (data_bytes w n y)))
    unfolding step steps spent
    compared zero x y low high low' high' = by_way p 8 0 0 refl (omega arith) (omega arith) (there p)
    compared (suc n) x y low high low' high' =
        by_way p 3 (50 + 45 * n) (130 + 122 * n) refl (omega arith) (omega arith)
        (by_call p same_byte_place 26 100 (23 + 45 * n) (29 + 122 * n) k.same_byte (same_byte_returns x y (x ∷ y ∷ c) low (omega (arith, high)) low' (omega (arith, high'))) refl (omega arith) (omega arith)
        (by_way p 3 (20 + 45 * n) (26 + 122 * n) refl (omega arith) (omega arith) (by_cases (is_same_byte (data_byte w x) (data_byte w y))
        (λ e. subst (λ t. Comes p (20 + 45 * n) (26 + 122 * n) (decided t) (tells (t && is_same_text (data_bytes w n (suc x)) (data_bytes w n (suc y))))) (sym e)
        (by_way p 10 (8 + 45 * n) (12 + 122 * n) refl (omega arith) (omega arith) (rw (less_one n (omega (arith, low, high)), one_more x (omega (arith, high)), one_more y (omega (arith, high')))
        (compared n (suc x) (suc y) (omega (arith, low)) (omega (arith, high)) (omega (arith, low')) (omega (arith, high'))))))
        (λ e. subst (λ t. Comes p (20 + 45 * n) (26 + 122 * n) (decided t) (tells (t && is_same_text (data_bytes w n (suc x)) (data_bytes w n (suc y))))) (sym e)
        (by_way p 6 0 0 refl (omega arith) (omega arith) (renamed p (ap tells (unequal (suc n) 0 (λ e. omega (arith, e)))) (there p)))))))
      where
        decided : Bool → State
        decided t = record { work = in_test 2 same_body; entries = []; callers = record { work = work; entries = es } ∷ callers; cells = flag t ∷ suc n ∷ x ∷ y ∷ c; world = w }

  same_returns : (n x y : ℕ) (c : List ℕ) → 8192 ≤ x → x + n ≤ 16384 → 8192 ≤ y → y + n ≤ 16384 →
      Returns p same_body (9 + 45 * n) (13 + 122 * n) (n ∷ x ∷ y ∷ c) w (flag (is_same_text (data_bytes w n x) (data_bytes w n y)) ∷ c) w
  unfolding step steps spent
  same_returns n x y c low high low' high' work es callers = by_way p 1 (8 + 45 * n) (12 + 122 * n) refl (omega arith) (omega arith) (compared work es callers c n x y low high low' high')

  -- names of other lengths differ
  differ : (n s x y : ℕ) → n ≢ s → is_same_text (data_bytes w n x) (data_bytes w s y) ≡ false
  differ zero zero x y f = absurd (f refl)
  differ zero (suc s) x y f = refl
  differ (suc n) zero x y f = refl
  differ (suc n) (suc s) x y f = also (is_same_byte (data_byte w x) (data_byte w y)) (is_same_text (data_bytes w n (suc x)) (data_bytes w s (suc y))) (differ n s (suc x) (suc y) (λ e. f (ap suc e)))
    where
      also : (u v : Bool) → v ≡ false → (u && v) ≡ false
      also true v e = e
      also false v e = refl

  counted : (a : ℕ) (c : List ℕ) → 8192 ≤ a → a < 16384 → (fetch_byte a w ▸ λ x. Gives (x ∷ sum_of a 1 ∷ c)) ≡ Gives (data_byte w a ∷ (a + 1) ∷ c) w
  counted a c low high = ap (λ r. r ▸ λ x. Gives (x ∷ sum_of a 1 ∷ c)) (byte_fetched w a h low high) ∙ ap (λ b. Gives (data_byte w a ∷ b ∷ c) w) (next a (omega (arith, high)))
    where
      next : (a : ℕ) → a < 65535 → sum_of a 1 ≡ a + 1
      next a h = omega (arith, h)

  named_returns : (a b : ℕ) (c : List ℕ) → 8192 ≤ a → a + 1 + data_byte w a ≤ 16384 → 8192 ≤ b → b + 6 + data_byte w (b + 4) ≤ 16384 →
      Returns p named_body (24 + 45 * data_byte w (b + 4)) (114 + 122 * data_byte w (b + 4)) (b ∷ a ∷ c) w (flag (is_same_text (data_bytes w (data_byte w a) (a + 1)) (data_bytes w (data_byte w (b + 4)) (b + 6))) ∷ c) w
  unfolding step steps spent
  named_returns a b c low high low' high' work es callers =
      by_way p 2 (22 + 45 * data_byte w (b + 4)) (111 + 122 * data_byte w (b + 4)) refl (omega arith) (omega arith) (rw (plus_four b (omega (arith, high')))
      (by_way p 1 (21 + 45 * data_byte w (b + 4)) (110 + 122 * data_byte w (b + 4)) refl (omega arith) (omega arith)
      (by_word p CFetch (20 + 45 * data_byte w (b + 4)) (86 + 122 * data_byte w (b + 4)) (reads_byte w a ((b + 4) ∷ a ∷ c) h low (omega (arith, high))) refl (omega arith) (omega arith)
      (by_way p 1 (19 + 45 * data_byte w (b + 4)) (85 + 122 * data_byte w (b + 4)) refl (omega arith) (omega arith)
      (by_word p CFetch (18 + 45 * data_byte w (b + 4)) (61 + 122 * data_byte w (b + 4)) (reads_byte w (b + 4) (data_byte w a ∷ (b + 4) ∷ a ∷ c) h (omega (arith, low')) (omega (arith, high'))) refl (omega arith) (omega arith)
      (by_way p 1 (17 + 45 * data_byte w (b + 4)) (60 + 122 * data_byte w (b + 4)) refl (omega arith) (omega arith) (by_cases (data_byte w a == data_byte w (b + 4))
      (λ e. let same : data_byte w a ≡ data_byte w (b + 4) = eqb-true _ _ e in
      rw e (by_way p 3 (14 + 45 * data_byte w (b + 4)) (56 + 122 * data_byte w (b + 4)) refl (omega arith) (omega arith) (rw (plus_two b (omega (arith, high')))
      (by_word p Count (13 + 45 * data_byte w (b + 4)) (16 + 122 * data_byte w (b + 4)) (counted a ((b + 6) ∷ c) low (omega (arith, high))) refl (omega arith) (omega arith)
      (by_call p same_place (9 + 45 * data_byte w a) (13 + 122 * data_byte w a) 2 2 k.same (same_returns (data_byte w a) (a + 1) (b + 6) c (omega (arith, low)) high (omega (arith, low'))
      (omega (arith, high', same))) refl (omega (arith, same)) (omega (arith, same))
      (by_way p 2 0 0 refl (omega arith) (omega arith)
      (renamed p (ap (λ s. told (is_same_text (data_bytes w (data_byte w a) (a + 1)) (data_bytes w s (b + 6)))) same) (there p))))))))
      (λ e. rw e (by_way p 4 0 0 refl (omega arith) (omega arith)
      (renamed p (ap told (sym (differ (data_byte w a) (data_byte w (b + 4)) (a + 1) (b + 6) (λ f. let t : (data_byte w a == data_byte w (b + 4)) ≡ true = eq-eqb _ _ f in let no : ⊥ = cc in absurd no)))) (there p)))))))))))
    where
      told : Bool → State
      told t = record { work = work; entries = es; callers = callers; cells = flag t ∷ c; world = w }

      plus_four : (b : ℕ) → b + 6 ≤ 16384 → sum_of b 4 ≡ b + 4
      plus_four b h = omega (arith, h)

      plus_two : (b : ℕ) → b + 6 ≤ 16384 → sum_of (b + 4) 2 ≡ b + 6
      plus_two b h = omega (arith, h)

  abbrev flag_of : Bool → ℕ
  flag_of immediate = if immediate then 1 else 65535

  code_and_flag_returns : (b : ℕ) (header : Header) (c : List ℕ) → IsHeader w b header → Returns p code_and_flag_body 14 45 (b ∷ c) w (flag_of header.immediate ∷ header.code ∷ c) w
  unfolding step steps spent
  code_and_flag_returns b header c d work es callers =
      let low = d.low in
      let high = d.high in
      by_way p 2 12 42 refl (omega arith) (omega arith) (rw (plus b 2 (omega (arith, high)))
      (by_word p Fetch 11 41 (reads w (b + 2) (b ∷ c) h (omega (arith, low)) (omega (arith, high))) refl (omega arith) (omega arith)
      (by_way p 3 8 37 refl (omega arith) (omega arith) (rw (plus b 5 (omega (arith, high)))
      (by_word p CFetch 7 13 (reads_byte w (b + 5) (data_cell w (b + 2) ∷ c) h (omega (arith, low)) (omega (arith, high))) refl (omega arith) (omega arith)
      (subst (λ x. Comes p 7 13 (record {
        work = before (skip 7 code_and_flag_body) [];
        entries = [];
        callers = record { work = work; entries = es } ∷ callers;
        cells = x ∷ data_cell w
            (b + 2) ∷ c;
        world = w;
      }) ends) (sym d.immediate)
      (subst (λ x. Comes p 7 13 (record {
        work = before (skip 7 code_and_flag_body) [];
        entries = [];
        callers = record { work = work; entries = es } ∷ callers;
        cells =
            (if header.immediate then 1 else 0) ∷ x ∷ c;
        world = w;
      }) ends) (sym d.code)
      (by header.immediate))))))))
    where
      ends : State
      ends = record { work = work; entries = es; callers = callers; cells = flag_of header.immediate ∷ header.code ∷ c; world = w }

      plus : (b n : ℕ) → b + n < 65536 → sum_of b n ≡ b + n
      plus b n h = omega (arith, h)

      by : (i : Bool) → Comes p 7 13 (record { work = before (skip 7 code_and_flag_body) []; entries = []; callers = record { work = work; entries = es } ∷ callers; cells = (if i then 1 else 0) ∷ header.code ∷ c; world = w })
          (record { work = work; entries = es; callers = callers; cells = flag_of i ∷ header.code ∷ c; world = w })
      by true = by_way p 4 0 0 refl (omega arith) (omega arith) (there p)
      by false = by_way p 3 0 0 refl (omega arith) (omega arith) (there p)

  module _ (work : List Work) (es : List Entry) (callers : List Frame) (a : ℕ) (c : List ℕ) (low : 8192 ≤ a) (high : a + 1 + data_byte w a ≤ 16384) where
    abbrev text : List ℕ
    text = data_bytes w (data_byte w a) (a + 1)

    abbrev searches : ℕ → State
    searches b = record { work = in_test 1 kernel_find_body; entries = []; callers = record { work = work; entries = es } ∷ callers; cells = b ∷ b ∷ a ∷ c; world = w }

    abbrev found : List ℕ → State
    found cells = record { work = work; entries = es; callers = callers; cells = cells; world = w }

    abbrev decided : Bool → ℕ → State
    decided t b = record { work = in_test 2 kernel_find_body; entries = []; callers = record { work = work; entries = es } ∷ callers; cells = flag (flag t == 0) ∷ b ∷ a ∷ c; world = w }

    searched : (headers : List Header) (b : ℕ) → Headers w b headers → Comes p (30 + 1450 * length headers) (60 + 3950 * length headers) (searches b) (found (find_answer headers text a c))
    unfolding step steps spent
    searched [] b e = subst (λ x. Comes p 30 60 (searches x) (found (0 ∷ a ∷ c))) (sym e) (by_way p 6 0 0 refl (omega arith) (omega arith) (there p))
    searched (header ∷ older) zero d = let l = d.0.low in absurd (omega (arith, l))
    searched (header ∷ older) (suc b) d =
        let s = d.0.few in
        let l = d.0.low in
        let u = d.0.high in
        by_way p 2 (1478 + 1450 * length older) (4007 + 3950 * length older) refl (omega arith) (omega arith)
        (by_call p named_place (24 + 45 * data_byte w (suc b + 4)) (114 + 122 * data_byte w (suc b + 4)) (58 + 1450 * length older) (110 + 3950 * length older) k.named
        (subst (λ name. Returns p named_body (24 + 45 * data_byte w (suc b + 4)) (114 + 122 * data_byte w (suc b + 4)) (suc b ∷ a ∷ suc b ∷ a ∷ c) w (flag (is_same_text text name) ∷ suc b ∷ a ∷ c) w) d.0.name
        (named_returns a (suc b) (suc b ∷ a ∷ c) low high (omega (arith, l)) u)) refl (omega (arith, s)) (omega (arith, s))
        (by_way p 2 (56 + 1450 * length older) (107 + 3950 * length older) refl (omega arith) (omega arith) (by_cases (is_same_text text header.name)
        (λ e. subst (λ t. Comes p (56 + 1450 * length older) (107 + 3950 * length older) (decided t (suc b)) (found (if t then (flag_of header.immediate ∷ header.code ∷ c) else find_answer older text a c))) (sym e)
        (by_way p 5 16 47 refl (omega arith) (omega arith)
        (by_call p code_and_flag_place 14 45 1 1 k.code_and_flag (code_and_flag_returns (suc b) header c d.0) refl (omega arith) (omega arith)
        (by_way p 1 0 0 refl (omega arith) (omega arith) (there p)))))
        (λ e. subst (λ t. Comes p (56 + 1450 * length older) (107 + 3950 * length older) (decided t (suc b)) (found (if t then (flag_of header.immediate ∷ header.code ∷ c) else find_answer older text a c))) (sym e)
        (by_way p 1 (33 + 1450 * length older) (63 + 3950 * length older) refl (omega arith) (omega arith)
        (by_word p Fetch (32 + 1450 * length older) (62 + 3950 * length older) (reads w (suc b) (a ∷ c) h (omega (arith, l)) (omega (arith, u))) refl (omega arith) (omega arith)
        (by_way p 2 (30 + 1450 * length older) (60 + 3950 * length older) refl (omega arith) (omega arith) (searched older (data_cell w (suc b)) d.1))))))))

pub names_are_found : NamesAreFound
unfolding step steps spent
names_are_found p a c w headers k h d low high work es callers =
    by_way p 1 (3999 + 4000 * length headers) (3998 + 4000 * length headers) refl (omega arith) (omega arith)
    (by_word p Fetch (3998 + 4000 * length headers) (3997 + 4000 * length headers) (reads w latest_cell (a ∷ c) h (omega arith) (omega arith)) refl (omega arith) (omega arith)
    (by_way p 1 (30 + 1450 * length headers) (60 + 3950 * length headers) refl (omega arith) (omega arith)
    (searched p w h k work es callers a c low high headers (data_cell w latest_cell) d)))
