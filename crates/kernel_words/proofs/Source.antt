-- The words that look at the source: REACHED, REST, ADVANCE and TAKE.
use Rattle.std.proofs.Common.{◌≡◌, ℕ, zero, suc, ◌+◌, ◌-◌, ◌*◌, ◌≤◌, ◌<◌, ◌==◌, List, ◌∷◌, refl, ap, ap₂, arith, le-ltb, lt-ltb}
use Rattle.cell_math.specs.Cell.{sum_of, difference_of}
use Rattle.word_table.specs.declared.word.Word.TheVariants.{Fetch, Store}
use Rattle.forth_program.specs.State.{World}
use Rattle.forth_program.specs.Program.{SourceProgram}
use Rattle.forth_program.specs.Step.{step}
use Rattle.forth_program.specs.Run.{steps}
use Rattle.forth_program.specs.Price.{spent}
use Rattle.kernel_words.specs.Places.{length_cell, reached_cell, reached_place, scan_place, advance_place}
use Rattle.kernel_words.specs.Bodies.{IsKernel, reached_body, rest_body, advance_body, take_body}
use Rattle.kernel_words.specs.Running.{Returns}
use Rattle.kernel_words.specs.Memory.{IsDataSpace, data_cell, data_byte, with_data_cell, bytes_before}
use Rattle.kernel_words.proofs.Cases.{by_cases, by_less}
use Rattle.kernel_words.proofs.Runs.{by_way, by_word, by_call, there, renamed}
use Rattle.kernel_words.proofs.Memory.{cell_fits, reads, writes}
use Rattle.kernel_words.proofs.Scanning.{scan_returns, less_one}

-- the place where so many bytes are left, and past one more where there is one
abbrev pub place_after : World → ℕ → ℕ
place_after w zero = data_cell w length_cell
place_after w (suc n) = data_cell w length_cell - n

module _ (p : SourceProgram) (w : World) (h : IsDataSpace w) (g : data_cell w reached_cell ≤ data_cell w length_cell) (c : List ℕ) where
  reached_returns : Returns p reached_body 10 15 c w (data_cell w reached_cell ∷ c) w
  unfolding step steps spent
  reached_returns work es callers = by_way p 1 9 13 refl (omega arith) (omega arith)
      (by_word p Fetch 8 12 (reads w reached_cell c h (omega arith) (omega arith)) refl (omega arith) (omega arith)
      (by_way p 1 7 10 refl (omega arith) (omega arith)
      (by_word p Fetch 6 9 (reads w length_cell (data_cell w reached_cell ∷ c) h (omega arith) (omega arith)) refl (omega arith) (omega arith)
      (by_way p 2 4 6 refl (omega arith) (omega arith) (by_less (data_cell w reached_cell) (data_cell w length_cell)
      (λ less. rw (lt-ltb (data_cell w reached_cell) (data_cell w length_cell) less) (by_way p 4 0 0 refl (omega arith) (omega arith) (there p)))
      (λ all. let same : data_cell w length_cell ≡ data_cell w reached_cell = omega (arith, all, g) in
      rw (le-ltb (data_cell w reached_cell) (data_cell w length_cell) all) (by_way p 4 0 0 refl (omega arith) (omega arith)
      (renamed p (ap (λ x. record { work = work; entries = es; callers = callers; cells = x ∷ c; world = w }) same) (there p)))))))))

left : (l t : ℕ) → l < 65536 → t ≤ l → difference_of l t ≡ l - t
left l t f g = omega (arith, f, g)

module _ (p : SourceProgram) (w : World) (h : IsDataSpace w) (g : data_cell w reached_cell ≤ data_cell w length_cell) (c : List ℕ) where
  pub rest_returns : IsKernel p → (a : ℕ) → a + data_cell w length_cell ≤ 16384 → Returns p rest_body 19 40 (a ∷ c) w ((data_cell w length_cell - data_cell w reached_cell) ∷ (a + data_cell w reached_cell) ∷ c) w
  unfolding step steps spent
  rest_returns k a high work es callers =
      by_call p reached_place 10 15 8 24 k.reached (reached_returns p w h g (a ∷ c)) refl (omega arith) (omega arith)
      (by_way p 4 4 17 refl (omega arith) (omega arith)
      (by_word p Fetch 3 16 (reads w length_cell (sum_of a (data_cell w reached_cell) ∷ c) h (omega arith) (omega arith)) refl (omega arith) (omega arith)
      (by_way p 3 0 0 refl (omega arith) (omega arith)
      (renamed p (ap₂ (λ x y. record { work = work; entries = es; callers = callers; cells = x ∷ y ∷ c; world = w })
      (left (data_cell w length_cell) (data_cell w reached_cell) (omega (arith, high)) g) (over a (data_cell w reached_cell) (omega (arith, high, g)))) (there p)))))
    where
      over : (a t : ℕ) → a + t < 65536 → sum_of a t ≡ a + t
      over a t f = omega (arith, f)

  pub advance_returns : (n : ℕ) → n ≤ data_cell w length_cell → Returns p advance_body 11 20 (n ∷ c) w c (with_data_cell reached_cell (place_after w n) w)
  unfolding step steps spent
  advance_returns zero f work es callers =
      by_way p 3 7 16 refl (omega arith) (omega arith)
      (by_word p Fetch 6 14 (reads w length_cell (0 ∷ c) h (omega arith) (omega arith)) refl (omega arith) (omega arith)
      (by_way p 3 3 6 refl (omega arith) (omega arith) (rw (all (data_cell w length_cell) (cell_fits w length_cell h))
      (by_word p Store 1 1 (writes w reached_cell (data_cell w length_cell) c h (omega arith) (omega arith)) refl (omega arith) (omega arith)
      (by_way p 1 0 0 refl (omega arith) (omega arith) (there p))))))
    where
      all : (l : ℕ) → l < 65536 → difference_of l 0 ≡ l
      all l h = omega (arith, h)
  advance_returns (suc n) f work es callers =
      let small = cell_fits w length_cell h in
      by_way p 4 7 15 refl (omega arith) (omega arith) (rw (less_one n (omega (arith, f, small)))
      (by_word p Fetch 6 14 (reads w length_cell (n ∷ c) h (omega arith) (omega arith)) refl (omega arith) (omega arith)
      (by_way p 3 3 6 refl (omega arith) (omega arith) (rw (left (data_cell w length_cell) n small (omega (arith, f)))
      (by_word p Store 1 1 (writes w reached_cell (data_cell w length_cell - n) c h (omega arith) (omega arith)) refl (omega arith) (omega arith)
      (by_way p 1 0 0 refl (omega arith) (omega arith) (there p)))))))

-- the world after TAKE of n bytes of which s come before the next c
abbrev pub taken_from : ℕ → ℕ → World → World
taken_from n s w = with_data_cell reached_cell (place_after w (n - s)) w

module _ (p : SourceProgram) (k : IsKernel p) (w : World) (h : IsDataSpace w) (g : data_cell w reached_cell ≤ data_cell w length_cell) (r : List ℕ) where
  -- the bytes up to the next c, among n from a on
  pub take_returns : (c n a : ℕ) → n ≤ data_cell w length_cell → 8192 ≤ a → a + n ≤ 16384 →
      Returns p take_body (29 + 16 * n) (50 + 42 * n) (n ∷ a ∷ c ∷ r) w (bytes_before w c n a ∷ a ∷ r) (taken_from n (bytes_before w c n a) w)
  unfolding step steps spent
  take_returns c n a f low high work es callers =
      by_way p 2 (27 + 16 * n) (48 + 42 * n) refl (omega arith) (omega arith)
      (by_call p scan_place (5 + 16 * n) (6 + 42 * n) 21 41 k.scan (scan_returns p c n a r w h low high) refl (omega arith) (omega arith)
      (by_call p advance_place 11 20 8 20 k.advance (advance_returns p w h g ((a + bytes_before w c n a) ∷ c ∷ r) (n - bytes_before w c n a) (omega (arith, f))) refl (omega arith) (omega arith)
      (by_way p 7 0 0 refl (omega arith) (omega arith)
      (renamed p (ap (λ x. record { work = work; entries = es; callers = callers; cells = x ∷ a ∷ r; world = taken_from n (bytes_before w c n a) w }) (back a (bytes_before w c n a) n (few n a) low high)) (there p)))))
    where
      few : (n a : ℕ) → bytes_before w c n a ≤ n
      few zero a = omega arith
      few (suc n) a = by_cases (c == data_byte w a) (λ e. rw e (omega arith)) (λ e. rw e (let m = few n (suc a) in omega (arith, m)))

      back : (a s n : ℕ) → s ≤ n → 8192 ≤ a → a + n ≤ 16384 → difference_of (a + s) a ≡ s
      back a s n f g h = omega (arith, f, g, h)
