-- ENTRY, OPEN and CLOSE, PATCH, and the words that lay one cell.
use Rattle.std.proofs.Common.{◌≡◌, ℕ, suc, ◌+◌, ◌-◌, ◌*◌, ◌/◌, ◌%◌, ◌≤◌, ◌<◌, true, false, List, [], ◌∷◌, ◌++◌, refl, ap, sym, ◌∙◌, subst}
use Rattle.std.proofs.Common.{arith, le-ltb, lt-ltb, eq-eqb}
use Rattle.std.specs.Prelude.{bit_and, pos, int_lt}
use Rattle.std.proofs.lemmas.Nat.{and_comm, and_mask}
use Rattle.cell_math.specs.Cell.{sum_of, difference_of, flag, signed}
use Rattle.word_table.specs.declared.word.Word.TheVariants.{And, Equal, Fetch, Here, OneMinus, PlusStore, TwoFetch, TwoStore, ULess}
use Rattle.word_table.specs.declared.word.Word.TheVariants.{ZeroLess}
use Rattle.forth_program.specs.State.{World, Gives, ◌▸◌}
use Rattle.forth_program.specs.Program.{SourceProgram}
use Rattle.forth_program.specs.Access.{fetch, store}
use Rattle.forth_program.specs.Meaning.{meaning}
use Rattle.forth_program.specs.Step.{step}
use Rattle.forth_program.specs.Run.{steps}
use Rattle.forth_program.specs.Price.{spent}
use Rattle.kernel_words.specs.Places.{here_cell, kernel_cell_place}
use Rattle.kernel_words.specs.Bodies.{kernel_cell_body}
use Rattle.kernel_words.specs.Running.{Returns}
use Rattle.kernel_words.specs.Memory.{IsDataSpace, data_cell, with_data_cell}
use Rattle.kernel_words.proofs.Runs.{by_way, by_word, by_call, there, renamed}
use Rattle.kernel_words.proofs.Memory.{fetched, reads, writes, storing, cell_fits, after_store, cell_kept}
use Rattle.kernel_words.proofs.CellLaw.{cell_returns}
use Rattle.kernel_words.proofs.Laying.{reads_here}
use Rattle.kernel_lines.specs.Places.{new_cell, open_count_cell}
use Rattle.kernel_definitions.specs.Places.{structures, entry_place}
use Rattle.kernel_definitions.specs.Bodies.{HasDefiningWords, compile_literal_body, compile_call_body, compile_return_body}
use Rattle.kernel_definitions.specs.Bodies.{compile_jump_body, compile_branch_body, patch_body, entry_body, open_body, close_body}
use Rattle.kernel_definitions.specs.Stores.{stored, laid, entry, opened, closed, HasRoom, MayOpen, IsNewest}
use Rattle.kernel_definitions.proofs.Stores.{laid_cells, stored_keep, hit}

-- ---- words of data space

-- `+!`
pub plus_store : (w : World) (a n x : ℕ) (c : List ℕ) → IsDataSpace w → 8192 ≤ a → a < 16384 → data_cell w a ≡ x →
    meaning PlusStore (a ∷ n ∷ c) w ≡ Gives c (with_data_cell a (sum_of x n) w)
plus_store w a n x c h low high e =
    ap (λ r. r ▸ λ y w. store a (sum_of y n) w ▸ λ _. Gives c) (fetched w a h low high)
    ∙ ap (λ y. store a (sum_of y n) w ▸ λ _. Gives c) e
    ∙ writes w a (sum_of x n) c h low high

two_fetch : (w : World) (a x y : ℕ) (c : List ℕ) → IsDataSpace w → 8192 ≤ a → a + 2 < 16384 → data_cell w (a + 2) ≡ x → data_cell w a ≡ y →
    meaning TwoFetch (a ∷ c) w ≡ Gives (y ∷ x ∷ c) w
two_fetch w a x y c h low high e f =
    ap (λ b. fetch b w ▸ λ x w. fetch a w ▸ λ y. Gives (y ∷ x ∷ c)) (next a high)
    ∙ ap (λ r. r ▸ λ x w. fetch a w ▸ λ y. Gives (y ∷ x ∷ c)) (fetched w (a + 2) h (omega (arith, low)) high)
    ∙ ap (λ r. r ▸ λ y. Gives (y ∷ data_cell w (a + 2) ∷ c)) (fetched w a h low (omega (arith, high)))
    ∙ ap (λ y. Gives (y ∷ data_cell w (a + 2) ∷ c) w) f
    ∙ ap (λ x. Gives (y ∷ x ∷ c) w) e
  where
    next : (a : ℕ) → a + 2 < 16384 → sum_of a 2 ≡ a + 2
    next a h = omega (arith, h)

two_store : (w : World) (a x y : ℕ) (c : List ℕ) → IsDataSpace w → x < 65536 → y < 65536 → 8192 ≤ a → a + 2 < 16384 →
    meaning TwoStore (a ∷ y ∷ x ∷ c) w ≡ Gives c (stored ((a + 2, x) ∷ (a, y) ∷ []) w)
two_store w a x y c h fx fy low high =
    let v = with_data_cell a y w in
    let hv = (after_store w a y h fy).space in
    ap (λ r. r ▸ λ _ w. store (sum_of a 2) x w ▸ λ _. Gives c) (storing w a y h low (omega (arith, high)))
    ∙ ap (λ b. store b x v ▸ λ _. Gives c) (next a high)
    ∙ writes v (a + 2) x c hv (omega (arith, low)) high
  where
    next : (a : ℕ) → a + 2 < 16384 → sum_of a 2 ≡ a + 2
    next a h = omega (arith, h)

entry_is : (n : ℕ) → n < 17 → sum_of (2 * (2 * n % 65536) % 65536) structures ≡ entry n
entry_is n h = omega (arith, h)

-- -1 AND a cell
all_ones : (x : ℕ) → x < 65536 → bit_and 65535 x ≡ x
all_ones x h = and_comm 65535 x ∙ and_mask x 16 ∙ small x h
  where
    small : (x : ℕ) → x < 65536 → x % 65536 ≡ x
    small x h = omega (arith, h)

module _ (p : SourceProgram) (d : HasDefiningWords p) where
  entry_returns : (n : ℕ) (c : List ℕ) (w : World) → n < 17 → Returns p entry_body 5 8 (n ∷ c) w (entry n ∷ c) w
  unfolding step steps spent
  entry_returns n c w f work es callers =
      (by_way p 5 0 0 refl (omega arith) (omega arith)
      (renamed p (ap (λ x. record { work = work; entries = es; callers = callers; cells = x ∷ c; world = w }) (entry_is n f)) (there p)))

  -- a cell is laid
  pub lay_returns : (x h : ℕ) (c : List ℕ) (w : World) → HasRoom w h 2 → x < 65536 →
      Returns p kernel_cell_body 2 49 (x ∷ c) w c (stored (laid h x) w)
  lay_returns x h c w r f =
      let here = r.here in
      let low = r.low in
      let high = r.high in
      subst (λ y. Returns p kernel_cell_body 2 49 (x ∷ c) w c (with_data_cell here_cell (y + 2) (with_data_cell y x w))) here
      (cell_returns p x c w r.space f (omega (arith, here, low)) (omega (arith, here, high)))

  pub compile_call_returns : (a h : ℕ) (c : List ℕ) (w : World) → HasRoom w h 2 → a < 65536 →
      Returns p compile_call_body 8 57 (a ∷ c) w c (stored (laid h (16384 + a / 2)) w)
  unfolding step steps spent
  compile_call_returns a h c w r f work es callers =
      (by_way p 4 4 51 refl (omega arith) (omega arith)
      (by_call p kernel_cell_place 2 49 1 1 d.kernel.kernel_cell
      (subst (λ x. Returns p kernel_cell_body 2 49 (x ∷ c) w c (stored (laid h (16384 + a / 2)) w)) (sym (call_is a f))
      (lay_returns (16384 + a / 2) h c w r (omega (arith, f)))) refl (omega arith) (omega arith)
      (by_way p 1 0 0 refl (omega arith) (omega arith)
      (there p))))
    where
      call_is : (a : ℕ) → a < 65536 → sum_of (a / 2) 16384 ≡ 16384 + a / 2
      call_is a h = omega (arith, h)

  pub compile_return_returns : (h : ℕ) (c : List ℕ) (w : World) → HasRoom w h 2 →
      Returns p compile_return_body 5 53 c w c (stored (laid h 28684) w)
  unfolding step steps spent
  compile_return_returns h c w r work es callers =
      (by_way p 1 4 51 refl (omega arith) (omega arith)
      (by_call p kernel_cell_place 2 49 1 1 d.kernel.kernel_cell (lay_returns 28684 h c w r (omega arith)) refl (omega arith) (omega arith)
      (by_way p 1 0 0 refl (omega arith) (omega arith)
      (there p))))

  pub compile_jump_returns : (a h : ℕ) (c : List ℕ) (w : World) → HasRoom w h 2 → a < 65536 →
      Returns p compile_jump_body 6 54 (a ∷ c) w c (stored (laid h (a / 2)) w)
  unfolding step steps spent
  compile_jump_returns a h c w r f work es callers =
      (by_way p 2 4 51 refl (omega arith) (omega arith)
      (by_call p kernel_cell_place 2 49 1 1 d.kernel.kernel_cell (lay_returns (a / 2) h c w r (omega (arith, f))) refl (omega arith)
      (omega arith)
      (by_way p 1 0 0 refl (omega arith) (omega arith)
      (there p))))

  pub compile_branch_returns : (a h : ℕ) (c : List ℕ) (w : World) → HasRoom w h 2 → a < 65536 →
      Returns p compile_branch_body 8 57 (a ∷ c) w c (stored (laid h (8192 + a / 2)) w)
  unfolding step steps spent
  compile_branch_returns a h c w r f work es callers =
      (by_way p 4 4 51 refl (omega arith) (omega arith)
      (by_call p kernel_cell_place 2 49 1 1 d.kernel.kernel_cell
      (subst (λ x. Returns p kernel_cell_body 2 49 (x ∷ c) w c (stored (laid h (8192 + a / 2)) w)) (sym (branch_is a f))
      (lay_returns (8192 + a / 2) h c w r (omega (arith, f)))) refl (omega arith) (omega arith)
      (by_way p 1 0 0 refl (omega arith) (omega arith)
      (there p))))
    where
      branch_is : (a : ℕ) → a < 65536 → sum_of (a / 2) 8192 ≡ 8192 + a / 2
      branch_is a h = omega (arith, h)

  not_negative : (x : ℕ) → x < 32768 → int_lt (signed x) (pos 0) ≡ false
  not_negative x h = rw (lt-ltb x 32768 h) (below x)
    where
      below : (x : ℕ) → int_lt (pos x) (pos 0) ≡ false
      below x = le-ltb x 0 (omega arith)

  negative : (x : ℕ) → 32768 ≤ x → int_lt (signed x) (pos 0) ≡ true
  negative x h = rw (le-ltb x 32768 h) refl

  pub compile_small_returns : (x h : ℕ) (c : List ℕ) (w : World) → HasRoom w h 2 → x < 32768 →
      Returns p compile_literal_body 9 58 (x ∷ c) w c (stored (laid h (32768 + x)) w)
  unfolding step steps spent
  compile_small_returns x h c w r f work es callers =
      (by_way p 1 8 57 refl (omega arith) (omega arith)
      (by_word p ZeroLess 7 55 (ap (λ t. Gives (flag t ∷ x ∷ c) w) (not_negative x f)) refl (omega arith) (omega arith)
      (by_way p 3 4 51 refl (omega arith) (omega arith)
      (by_call p kernel_cell_place 2 49 1 1 d.kernel.kernel_cell
      (subst (λ y. Returns p kernel_cell_body 2 49 (y ∷ c) w c (stored (laid h (32768 + x)) w)) (sym (literal_is x f))
      (lay_returns (32768 + x) h c w r (omega (arith, f)))) refl (omega arith) (omega arith)
      (by_way p 1 0 0 refl (omega arith) (omega arith)
      (there p))))))
    where
      literal_is : (x : ℕ) → x < 32768 → sum_of x 32768 ≡ 32768 + x
      literal_is x h = omega (arith, h)

  -- behind a cell there is room for the next
  pub room_on : {n : ℕ} (x h : ℕ) (w : World) → HasRoom w h (n + 2) → x < 65536 → HasRoom (stored (laid h x) w) (h + 2) n
  room_on {n = n} x h w r f =
      let high = r.high in
      let low = r.low in
      let even = r.even in
      record {
        space = (stored_keep (laid h x) w r.space (laid_cells h x (omega (arith, high)) f)).space;
        here = hit ((h, x) ∷ []) w here_cell (h + 2) here_cell r.space (f, tt) (omega arith) (omega arith) refl;
        even = omega (arith, even);
        low = omega (arith, low);
        high = omega (arith, high);
      }

  pub compile_large_returns : (x h : ℕ) (c : List ℕ) (w : World) → HasRoom w h 4 → 32768 ≤ x → x < 65536 →
      Returns p compile_literal_body 15 112 (x ∷ c) w c (stored (laid (h + 2) 26112 ++ laid h (98303 - x)) w)
  unfolding step steps spent
  compile_large_returns x h c w r low f work es callers =
      (by_way p 1 14 111 refl (omega arith) (omega arith)
      (by_word p ZeroLess 13 109 (ap (λ t. Gives (flag t ∷ x ∷ c) w) (negative x low)) refl (omega arith) (omega arith)
      (by_way p 4 9 104 refl (omega arith) (omega arith)
      (by_call p kernel_cell_place 2 49 6 54 d.kernel.kernel_cell
      (subst (λ y. Returns p kernel_cell_body 2 49 (y ∷ c) w c (stored (laid h (98303 - x)) w)) (sym (inverted x low f))
      (lay_returns (98303 - x) h c w (record {
        space = r.space;
        here = r.here;
        even = r.even;
        low = r.low;
        high = (let k = r.high in omega (arith, k));
      }) (omega (arith, low, f)))) refl (omega arith) (omega arith)
      (by_way p 2 4 51 refl (omega arith) (omega arith)
      (by_call p kernel_cell_place 2 49 1 1 d.kernel.kernel_cell
      (lay_returns 26112 (h + 2) c (stored (laid h (98303 - x)) w) (room_on (98303 - x) h w r (omega (arith, low, f)))
      (omega arith)) refl (omega arith) (omega arith)
      (by_way p 1 0 0 refl (omega arith) (omega arith)
      (there p))))))))
    where
      inverted : (x : ℕ) → 32768 ≤ x → x < 65536 → sum_of (65535 - x) 32768 ≡ 98303 - x
      inverted x g h = omega (arith, g, h)

  pub patch_returns : (place x h : ℕ) (c : List ℕ) (w : World) → IsDataSpace w → data_cell w here_cell ≡ h → 8192 ≤ place → place < 16384 →
      data_cell w place ≡ x → x + h / 2 < 65536 → Returns p patch_body 6 31 (place ∷ c) w c (stored ((place, x + h / 2) ∷ []) w)
  unfolding step steps spent
  patch_returns place x h c w s e low high old fits work es callers =
      (by_word p Here 5 29 (reads_here (place ∷ c) w s ∙ ap (λ y. Gives (y ∷ place ∷ c) w) e) refl (omega arith) (omega arith)
      (by_way p 3 2 25 refl (omega arith) (omega arith)
      (by_word p PlusStore 1 1 (plus_store w place (h / 2) x c s low high old
      ∙ ap (λ y. Gives c (with_data_cell place y w)) (sum x (h / 2) fits)) refl (omega arith) (omega arith)
      (by_way p 1 0 0 refl (omega arith) (omega arith)
      (there p)))))
    where
      sum : (x y : ℕ) → x + y < 65536 → sum_of x y ≡ x + y
      sum x y h = omega (arith, h)

  pub open_returns : (n kind place header : ℕ) (c : List ℕ) (w : World) → IsDataSpace w → MayOpen w n → data_cell w new_cell ≡ suc header →
      kind < 65536 → place < 65536 → Returns p open_body 22 73 (kind ∷ place ∷ c) w c (stored (opened n kind place) w)
  unfolding step steps spent
  open_returns n kind place header c w s m new fk fp work es callers =
      let few = m.few in
      let v = stored ((entry n + 2, place) ∷ (entry n, kind) ∷ []) w in
      let hv : IsDataSpace v = (stored_keep ((entry n + 2, place) ∷ (entry n, kind) ∷ []) w s (fp, (fk, tt))).space in
      let kept : data_cell v open_count_cell ≡ data_cell w open_count_cell =
      cell_kept (with_data_cell (entry n) kind w) (entry n + 2) open_count_cell place (omega arith) (omega arith) (λ e. omega (arith, e))
      ∙ cell_kept w (entry n) open_count_cell kind (omega arith) (omega arith) (λ e. omega (arith, e)) in
      (by_way p 1 21 71 refl (omega arith) (omega arith)
      (by_word p Fetch 20 70 (reads w open_count_cell (kind ∷ place ∷ c) s (omega arith) (omega arith)
      ∙ ap (λ y. Gives (y ∷ kind ∷ place ∷ c) w) m.count) refl (omega arith) (omega arith)
      (by_way p 1 19 68 refl (omega arith) (omega arith)
      (by_word p ULess 18 67 (ap (λ t. Gives (flag t ∷ kind ∷ place ∷ c) w) (lt-ltb n 16 few)) refl (omega arith) (omega arith)
      (by_way p 1 17 65 refl (omega arith) (omega arith)
      (by_word p Fetch 16 64 (reads w new_cell (65535 ∷ kind ∷ place ∷ c) s (omega arith) (omega arith)
      ∙ ap (λ y. Gives (y ∷ 65535 ∷ kind ∷ place ∷ c) w) new) refl (omega arith) (omega arith)
      (by_word p And 15 63 (ap (λ y. Gives (y ∷ kind ∷ place ∷ c) w)
      (all_ones (suc header) (let f = cell_fits w new_cell s in omega (arith, f, new)))) refl (omega arith) (omega arith)
      (by_way p 2 13 60 refl (omega arith) (omega arith)
      (by_word p Fetch 12 59 (reads w open_count_cell (kind ∷ place ∷ c) s (omega arith) (omega arith)
      ∙ ap (λ y. Gives (y ∷ kind ∷ place ∷ c) w) m.count) refl (omega arith) (omega arith)
      (by_call p entry_place 5 8 6 50 d.entry (entry_returns n (kind ∷ place ∷ c) w (omega (arith, few))) refl (omega arith) (omega arith)
      (by_word p TwoStore 5 30 (two_store w (entry n) place kind c s fp fk (omega arith) (omega (arith, few))) refl (omega arith)
      (omega arith)
      (by_way p 2 3 26 refl (omega arith) (omega arith)
      (by_word p PlusStore 2 2 (plus_store v open_count_cell 1 n c hv (omega arith) (omega arith) (kept ∙ m.count)
      ∙ ap (λ y. Gives c (with_data_cell open_count_cell y v)) (sum n few)) refl (omega arith) (omega arith)
      (by_way p 2 0 0 refl (omega arith) (omega arith)
      (there p)))))))))))))))
    where
      sum : (n : ℕ) → n < 16 → sum_of n 1 ≡ n + 1
      sum n h = omega (arith, h)

  pub close_returns : (n kind place : ℕ) (c : List ℕ) (w : World) → IsDataSpace w → IsNewest w n kind place →
      Returns p close_body 20 68 (kind ∷ c) w (place ∷ c) (stored (closed n) w)
  unfolding step steps spent
  close_returns n kind place c w s m work es callers =
      let few = m.few in
      let count : data_cell w open_count_cell ≡ suc n = m.count ∙ one n in
      (by_way p 1 19 66 refl (omega arith) (omega arith)
      (by_word p Fetch 18 65 (reads w open_count_cell (kind ∷ c) s (omega arith) (omega arith)
      ∙ ap (λ y. Gives (y ∷ kind ∷ c) w) count) refl (omega arith) (omega arith)
      (by_way p 2 16 62 refl (omega arith) (omega arith)
      (by_word p Fetch 15 61 (reads w open_count_cell (kind ∷ c) s (omega arith) (omega arith)
      ∙ ap (λ y. Gives (y ∷ kind ∷ c) w) count) refl (omega arith) (omega arith)
      (by_word p OneMinus 14 60 (ap (λ y. Gives (y ∷ kind ∷ c) w) (less n few)) refl (omega arith) (omega arith)
      (by_call p entry_place 5 8 8 51 d.entry (entry_returns n (kind ∷ c) w (omega (arith, few))) refl (omega arith) (omega arith)
      (by_word p TwoFetch 7 35 (two_fetch w (entry n) place kind (kind ∷ c) s (omega arith) (omega (arith, few)) m.place_is m.kind_is) refl
      (omega arith) (omega arith)
      (by_way p 1 6 31 refl (omega arith) (omega arith)
      (by_word p Equal 5 30 (ap (λ t. Gives (flag t ∷ place ∷ c) w) (eq-eqb kind kind refl)) refl (omega arith) (omega arith)
      (by_way p 3 2 25 refl (omega arith) (omega arith)
      (by_word p PlusStore 1 1 (plus_store w open_count_cell 65535 (n + 1) (place ∷ c) s (omega arith) (omega arith) m.count
      ∙ ap (λ y. Gives (place ∷ c) (with_data_cell open_count_cell y w)) (sum n few)) refl (omega arith) (omega arith)
      (by_way p 1 0 0 refl (omega arith) (omega arith)
      (there p)))))))))))))
    where
      one : (n : ℕ) → n + 1 ≡ suc n
      one n = omega arith

      less : (n : ℕ) → n < 16 → difference_of (suc n) 1 ≡ n
      less n h = omega (arith, h)

      sum : (n : ℕ) → n < 16 → sum_of (n + 1) 65535 ≡ n
      sum n h = omega (arith, h)
