-- The runs of NEW-NAME, CODE-ADDRESS, DEFINE, CLOSE-ALL and `:`, from what their words give.
use Rattle.std.proofs.Common.{◌≡◌, ℕ, ◌+◌, ◌*◌, ◌≤◌, ◌<◌, true, List, [], ◌∷◌, refl, ap, sym, ◌∙◌, arith, lt-ltb}
use Rattle.std.specs.Prelude.{nat_lt}
use Rattle.cell_math.specs.Cell.{sum_of, difference_of, flag}
use Rattle.console_ports.specs.Ports.{even}
use Rattle.word_table.specs.declared.word.Word.TheVariants.{Aligned, CFetch, Fetch, Here, Plus, Store, ULess}
use Rattle.forth_program.specs.State.{World, Gives}
use Rattle.forth_program.specs.Program.{SourceProgram}
use Rattle.forth_program.specs.Step.{step}
use Rattle.forth_program.specs.Run.{steps}
use Rattle.forth_program.specs.Price.{spent}
use Rattle.kernel_words.specs.Places.{here_cell, latest_cell, word_buffer, next_word_place, kernel_header_place}
use Rattle.kernel_words.specs.Bodies.{next_word_body, kernel_header_body}
use Rattle.kernel_words.specs.Running.{Returns}
use Rattle.kernel_words.specs.Memory.{IsDataSpace, data_cell, data_byte, with_data_cell}
use Rattle.kernel_words.proofs.Runs.{by_way, by_word, by_call, there}
use Rattle.kernel_words.proofs.Memory.{reads, writes, reads_byte}
use Rattle.kernel_words.proofs.Laying.{reads_here}
use Rattle.kernel_lines.specs.Places.{state_cell, new_cell, open_count_cell, leaves_cell, loops_cell, close_all_place}
use Rattle.kernel_definitions.specs.Places.{new_name_place, code_address_place, define_place}
use Rattle.kernel_lines.specs.Bodies.{close_all_body}
use Rattle.kernel_definitions.specs.Bodies.{HasDefiningWords, new_name_body, code_address_body, define_body, kernel_colon_body}
use Rattle.kernel_definitions.specs.Stores.{stored}
use Rattle.kernel_definitions.proofs.Stores.{stored_keep}

module _ (p : SourceProgram) (d : HasDefiningWords p) where
  code_address_returns : (b n h a : ℕ) (c : List ℕ) (w : World) → IsDataSpace w → 8192 ≤ b → b < 16384 → data_byte w b ≡ n → n ≤ 31 →
      data_cell w here_cell ≤ 16384 → h ≡ even (data_cell w here_cell + 1) →
      a ≡ even (h + 6 + n + 1) → Returns p code_address_body 8 41 (b ∷ c) w (a ∷ c) w
  unfolding step steps spent
  code_address_returns b n h a c w s low high size few here place code work es callers =
      by_word p CFetch 7 17 (reads_byte w b c s low high ∙ ap (λ y. Gives (y ∷ c) w) size) refl (omega arith) (omega arith)
      (by_word p Here 6 15 (reads_here (n ∷ c) w s) refl (omega arith) (omega arith)
      (by_word p Aligned 5 10 (ap (λ y. Gives (y ∷ n ∷ c) w) (aligned (data_cell w here_cell) here ∙ sym place)) refl (omega arith)
      (omega arith)
      (by_word p Plus 4 9 (ap (λ y. Gives (y ∷ c) w) (sum n h few (fits h (data_cell w here_cell) place here))) refl (omega arith)
      (omega arith)
      (by_way p 1 3 7 refl (omega arith) (omega arith)
      (by_word p Plus 2 6 (ap (λ y. Gives (y ∷ c) w) (more n h few (fits h (data_cell w here_cell) place here))) refl (omega arith)
      (omega arith)
      (by_word p Aligned 1 1 (ap (λ y. Gives (y ∷ c) w) (last n h few (fits h (data_cell w here_cell) place here) ∙ sym code)) refl
      (omega arith) (omega arith)
      (by_way p 1 0 0 refl (omega arith) (omega arith) (there p))))))))
    where
      aligned : (x : ℕ) → x ≤ 16384 → even (sum_of x 1) ≡ even (x + 1)
      aligned x h = ap even (one x h)
        where
          one : (x : ℕ) → x ≤ 16384 → sum_of x 1 ≡ x + 1
          one x h = omega (arith, h)

      fits : (h x : ℕ) → h ≡ even (x + 1) → x ≤ 16384 → h ≤ 16385
      fits h x e f = omega (arith, e, f)

      sum : (n h : ℕ) → n ≤ 31 → h ≤ 16385 → sum_of n h ≡ n + h
      sum n h f g = omega (arith, f, g)

      more : (n h : ℕ) → n ≤ 31 → h ≤ 16385 → sum_of (n + h) 6 ≡ h + 6 + n
      more n h f g = omega (arith, f, g)

      last : (n h : ℕ) → n ≤ 31 → h ≤ 16385 → even (sum_of (h + 6 + n) 1) ≡ even (h + 6 + n + 1)
      last n h f g = omega (arith, f, g)

  new_name_returns : (i j n : ℕ) (c : List ℕ) (w v : World) → IsDataSpace v → Returns p next_word_body i j c w (word_buffer ∷ c) v →
      data_byte v word_buffer ≡ n → 1 ≤ n → n ≤ 31 →
      Returns p new_name_body (9 + i) (34 + j) c w (word_buffer ∷ c) v
  unfolding step steps spent
  new_name_returns i j n c w v s next size some few work es callers =
      by_call p next_word_place i j 8 33 d.kernel.next_word next refl (omega arith) (omega arith)
      (by_way p 1 7 32 refl (omega arith) (omega arith)
      (by_word p CFetch 6 8 (reads_byte v word_buffer (word_buffer ∷ c) s (omega arith) (omega arith)
      ∙ ap (λ y. Gives (y ∷ word_buffer ∷ c) v) size) refl (omega arith) (omega arith)
      (by_way p 2 4 5 refl (omega arith) (omega arith)
      (by_word p ULess 3 4 (ap (λ t. Gives (flag t ∷ word_buffer ∷ c) v) (less n some few)) refl (omega arith) (omega arith)
      (by_way p 3 0 0 refl (omega arith) (omega arith) (there p))))))
    where
      less : (n : ℕ) → 1 ≤ n → n ≤ 31 → nat_lt (difference_of n 1) 31 ≡ true
      less n f g = lt-ltb (difference_of n 1) 31 (omega (arith, f, g))

  pub define_returns : (i j n h a : ℕ) (c : List ℕ) (w v u : World) → IsDataSpace v → Returns p next_word_body i j c w (word_buffer ∷ c) v →
      data_byte v word_buffer ≡ n → 1 ≤ n → n ≤ 31 →
      data_cell v here_cell ≤ 16384 → h ≡ even (data_cell v here_cell + 1) → a ≡ even (h + 6 + n + 1) →
      Returns p kernel_header_body 30 (570 + 160 * n) (a ∷ word_buffer ∷ c) v c u →
      Returns p define_body (52 + i) (650 + j + 160 * n) c w c u
  unfolding step steps spent
  define_returns i j n h a c w v u s next size some few here place code header work es callers =
      by_call p new_name_place (9 + i) (34 + j) 42 (615 + 160 * n) d.new_name (new_name_returns i j n c w v s next size some few) refl
      (omega arith) (omega arith)
      (by_way p 1 41 (614 + 160 * n) refl (omega arith) (omega arith)
      (by_call p code_address_place 8 41 32 (572 + 160 * n) d.code_address
      (code_address_returns word_buffer n h a (word_buffer ∷ c) v s (omega arith) (omega arith) size few here place code) refl
      (omega arith) (omega arith)
      (by_call p kernel_header_place 30 (570 + 160 * n) 1 1 d.kernel.kernel_header header refl (omega arith) (omega arith)
      (by_way p 1 0 0 refl (omega arith) (omega arith) (there p)))))

  close_all_returns : (c : List ℕ) (w : World) → IsDataSpace w →
      Returns p close_all_body 10 19 c w c (stored ((loops_cell, 0) ∷ (leaves_cell, 0) ∷ (open_count_cell, 0) ∷ []) w)
  unfolding step steps spent
  close_all_returns c w s work es callers =
      let w1 = stored ((open_count_cell, 0) ∷ []) w in
      let s1 = (stored_keep ((open_count_cell, 0) ∷ []) w s (omega arith, tt)).space in
      let w2 = stored ((leaves_cell, 0) ∷ (open_count_cell, 0) ∷ []) w in
      let s2 = (stored_keep ((leaves_cell, 0) ∷ (open_count_cell, 0) ∷ []) w s (omega arith, (omega arith, tt))).space in
      by_way p 2 8 15 refl (omega arith) (omega arith)
      (by_word p Store 7 13 (writes w open_count_cell 0 c s (omega arith) (omega arith)) refl (omega arith) (omega arith)
      (by_way p 2 5 9 refl (omega arith) (omega arith)
      (by_word p Store 4 7 (writes w1 leaves_cell 0 c s1 (omega arith) (omega arith)) refl (omega arith) (omega arith)
      (by_way p 2 2 3 refl (omega arith) (omega arith)
      (by_word p Store 1 1 (writes w2 loops_cell 0 c s2 (omega arith) (omega arith)) refl (omega arith) (omega arith)
      (by_way p 1 0 0 refl (omega arith) (omega arith) (there p)))))))

  -- `:`, where DEFINE leads to a world whose newest header is at h, linked to the older one
  pub colon_returns : (i j h older : ℕ) (c : List ℕ) (w u : World) → IsDataSpace u → Returns p define_body i j c w c u →
      data_cell u latest_cell ≡ h → h < 16384 → 8640 ≤ h →
      data_cell (with_data_cell new_cell h u) h ≡ older → older < 65536 →
      Returns p kernel_colon_body (24 + i) (41 + j) c w c
      (stored ((state_cell, 65535) ∷ (loops_cell, 0) ∷ (leaves_cell, 0) ∷ (open_count_cell, 0) ∷ (latest_cell, older) ∷
      (new_cell, h) ∷ []) u)
  unfolding step steps spent
  colon_returns i j h older c w u s define latest high low link fits work es callers =
      let u1 = stored ((new_cell, h) ∷ []) u in
      let s1 = (stored_keep ((new_cell, h) ∷ []) u s (omega (arith, high), tt)).space in
      let u2 = stored ((latest_cell, older) ∷ (new_cell, h) ∷ []) u in
      let s2 = (stored_keep ((latest_cell, older) ∷ (new_cell, h) ∷ []) u s (fits, (omega (arith, high), tt))).space in
      let u3 = stored ((loops_cell, 0) ∷ (leaves_cell, 0) ∷ (open_count_cell, 0) ∷ []) u2 in
      let s3 = (stored_keep ((loops_cell, 0) ∷ (leaves_cell, 0) ∷ (open_count_cell, 0) ∷ []) u2 s2
      (omega arith, (omega arith, (omega arith, tt)))).space in
      by_call p define_place i j 23 40 d.define define refl (omega arith) (omega arith)
      (by_way p 1 22 38 refl (omega arith) (omega arith)
      (by_word p Fetch 21 37 (reads u latest_cell c s (omega arith) (omega arith) ∙ ap (λ y. Gives (y ∷ c) u) latest) refl (omega arith)
      (omega arith)
      (by_way p 2 19 34 refl (omega arith) (omega arith)
      (by_word p Store 18 32 (writes u new_cell h (h ∷ c) s (omega arith) (omega arith)) refl (omega arith) (omega arith)
      (by_word p Fetch 17 31 (reads u1 h c s1 (omega (arith, low)) high ∙ ap (λ y. Gives (y ∷ c) u1) link) refl (omega arith) (omega arith)
      (by_way p 1 16 29 refl (omega arith) (omega arith)
      (by_word p Store 15 27 (writes u1 latest_cell older c s1 (omega arith) (omega arith)) refl (omega arith) (omega arith)
      (by_call p close_all_place 10 19 4 7 d.interpreter.close_all (close_all_returns c u2 s2) refl (omega arith) (omega arith)
      (by_way p 2 2 3 refl (omega arith) (omega arith)
      (by_word p Store 1 1 (writes u3 state_cell 65535 c s3 (omega arith) (omega arith)) refl (omega arith) (omega arith)
      (by_way p 1 0 0 refl (omega arith) (omega arith) (there p))))))))))))
