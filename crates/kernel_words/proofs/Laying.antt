-- What `, C, ALLOT ALIGN HERE` do at HERE.
use Rattle.std.proofs.Common.{◌≡◌, ◌≢◌, ℕ, ◌+◌, ◌/◌, ◌%◌, ◌≤◌, ◌<◌, List, ◌∷◌, refl, ap, ◌∙◌, arith}
use Rattle.cell_math.specs.Cell.{sum_of}
use Rattle.console_ports.specs.Ports.{even}
use Rattle.word_table.specs.declared.word.Word.TheVariants.{Comma, CComma, Allot, Align, Here}
use Rattle.forth_program.specs.State.{World, Reply, Gives, ◌▸◌}
use Rattle.forth_program.specs.Access.{store, store_byte, grow_here}
use Rattle.forth_program.specs.Meaning.{meaning}
use Rattle.kernel_words.specs.Places.{here_cell}
use Rattle.kernel_words.specs.Memory.{IsDataSpace, KeepsConsole, data_cell, data_byte, with_data_cell, with_data_byte}
use Rattle.kernel_words.proofs.Memory.{here_is, here_grows, storing, byte_storing, after_store, after_byte_store, console_then, cell_stored, cell_kept, byte_kept, byte_stored, byte_beside, cell_alike}
use Rattle.kernel_words.proofs.CellLaw.{with_cell, comma_is}

-- k bytes are laid at HERE, which goes up by k, and nothing else changes
pub record Laid (k : ℕ) (v : World) (c : List ℕ) (r : Reply (List ℕ)) : Type 0 where
  pub after : World
  pub gives : r ≡ Gives c after
  pub console : KeepsConsole v after
  pub here : data_cell after here_cell ≡ data_cell v here_cell + k
  pub below : (b : ℕ) → 8192 ≤ b → b / 2 ≢ here_cell / 2 → b < data_cell v here_cell → data_byte after b ≡ data_byte v b
  pub above : (b : ℕ) → 8192 ≤ b → b / 2 ≢ here_cell / 2 → data_cell v here_cell + k ≤ b → data_byte after b ≡ data_byte v b

-- a cell
pub laid_cell : (x : ℕ) (c : List ℕ) (v : World) → IsDataSpace v → x < 65536 → data_cell v here_cell % 2 ≡ 0 → 8198 ≤ data_cell v here_cell → data_cell v here_cell + 2 ≤ 16384 →
    (l : Laid 2 v c (meaning Comma (x ∷ c) v)) × (data_cell l.after (data_cell v here_cell) ≡ x)
laid_cell x c v h f aligned low high =
    let u = with_data_cell (data_cell v here_cell) x v in
    let hu : KeepsConsole v u = after_store v (data_cell v here_cell) x h f in (
      record {
        after = with_cell x v;
        gives = comma_is x c v h f low (omega (arith, high));
        console = console_then v u (with_cell x v) hu (after_store u here_cell (data_cell v here_cell + 2) hu.space (omega (arith, high)));
        here = cell_stored u here_cell here_cell (data_cell v here_cell + 2) hu.space (omega arith) (omega arith) refl;
        below = λ b g away under. byte_kept u here_cell b (data_cell v here_cell + 2) (omega arith) g away ∙ byte_kept v (data_cell v here_cell) b x (omega (arith, low)) g (λ e. omega (arith, e, under, aligned));
        above = λ b g away over. byte_kept u here_cell b (data_cell v here_cell + 2) (omega arith) g away ∙ byte_kept v (data_cell v here_cell) b x (omega (arith, low)) g (λ e. omega (arith, e, over, aligned));
      },
      cell_kept u here_cell (data_cell v here_cell) (data_cell v here_cell + 2) (omega arith) (omega (arith, low)) (λ e. omega (arith, e, low)) ∙ cell_stored v (data_cell v here_cell)
          (data_cell v here_cell) x h (omega (arith, low)) (omega (arith, high)) refl,
    )

-- a byte
pub laid_byte : (x : ℕ) (c : List ℕ) (v : World) → IsDataSpace v → 8198 ≤ data_cell v here_cell → data_cell v here_cell + 1 ≤ 16384 → (l : Laid 1 v c (meaning CComma (x ∷ c) v)) ×
    (data_byte l.after (data_cell v here_cell) ≡ x % 256)
laid_byte x c v h low high =
    let u = with_data_byte (data_cell v here_cell) x v in
    let hu : KeepsConsole v u = after_byte_store v (data_cell v here_cell) x h in
    let same : data_cell u here_cell ≡ data_cell v here_cell = cell_alike u v here_cell refl
    (byte_beside v (data_cell v here_cell) here_cell x h (omega (arith, low)) (omega (arith, high)) (omega arith) (λ e. omega (arith, e, low)))
    (byte_beside v (data_cell v here_cell) 8197 x h (omega (arith, low)) (omega (arith, high)) (omega arith) (λ e. omega (arith, e, low))) in
    let s = with_data_cell here_cell (data_cell v here_cell + 1) u in (
      record {
        after = s;
        gives = ap (λ r. r ▸ λ h w. store_byte h x w ▸ λ _ w. grow_here 1 w ▸ λ _. Gives c) (here_is v h)
            ∙ ap (λ r. r ▸ λ _ w. grow_here 1 w ▸ λ _. Gives c) (byte_storing v (data_cell v here_cell) x h (omega (arith, low)) (omega (arith, high)))
            ∙ ap (λ r. r ▸ λ _. Gives c) (here_grows u 1 hu.space)
            ∙ ap (λ n. Gives c (with_data_cell here_cell n u)) (ap (λ n. sum_of n 1) same ∙ sum (data_cell v here_cell) high);
        console = console_then v u s hu (after_store u here_cell (data_cell v here_cell + 1) hu.space (omega (arith, high)));
        here = cell_stored u here_cell here_cell (data_cell v here_cell + 1) hu.space (omega arith) (omega arith) refl;
        below = λ b g away under. byte_kept u here_cell b (data_cell v here_cell + 1) (omega arith) g away ∙ byte_beside v (data_cell v here_cell) b x h (omega (arith, low)) (omega (arith, high)) g (λ e. omega (arith, e, under));
        above = λ b g away over. byte_kept u here_cell b (data_cell v here_cell + 1) (omega arith) g away ∙ byte_beside v (data_cell v here_cell) b x h (omega (arith, low)) (omega (arith, high)) g (λ e. omega (arith, e, over));
      },
      byte_kept u here_cell (data_cell v here_cell) (data_cell v here_cell + 1) (omega arith) (omega (arith, low)) (λ e. omega (arith, e, low)) ∙ byte_stored v (data_cell v here_cell) x h
          (omega (arith, low)) (omega (arith, high)),
    )
  where
    sum : (n : ℕ) → n + 1 ≤ 16384 → sum_of n 1 ≡ n + 1
    sum n h = omega (arith, h)

-- HERE goes up by n
pub allotted : (n : ℕ) (c : List ℕ) (v : World) → IsDataSpace v → data_cell v here_cell + n ≤ 16384 → meaning Allot (n ∷ c) v ≡ Gives c (with_data_cell here_cell (data_cell v here_cell + n) v)
allotted n c v h high = ap (λ r. r ▸ λ _. Gives c) (here_grows v n h) ∙ ap (λ m. Gives c (with_data_cell here_cell m v)) (sum (data_cell v here_cell) n high)
  where
    sum : (m n : ℕ) → m + n ≤ 16384 → sum_of m n ≡ m + n
    sum m n h = omega (arith, h)

-- HERE goes to an even address
pub aligned_here : (c : List ℕ) (v : World) → IsDataSpace v → data_cell v here_cell ≤ 16384 → meaning Align c v ≡ Gives c (with_data_cell here_cell (even (data_cell v here_cell + 1)) v)
aligned_here c v h high =
    ap (λ r. r ▸ λ h w. store (w.data_start + 4) (even (sum_of h 1)) w ▸ λ _. Gives c) (here_is v h)
    ∙ ap (λ d. store (d + 4) (even (sum_of (data_cell v here_cell) 1)) v ▸ λ _. Gives c) h.start
    ∙ ap (λ r. r ▸ λ _. Gives c) (storing v here_cell (even (sum_of (data_cell v here_cell) 1)) h (omega arith) (omega arith))
    ∙ ap (λ m. Gives c (with_data_cell here_cell (even m) v)) (sum (data_cell v here_cell) high)
  where
    sum : (m : ℕ) → m ≤ 16384 → sum_of m 1 ≡ m + 1
    sum m h = omega (arith, h)

pub reads_here : (c : List ℕ) (v : World) → IsDataSpace v → meaning Here c v ≡ Gives (data_cell v here_cell ∷ c) v
reads_here c v h = ap (λ r. r ▸ λ x. Gives (x ∷ c)) (here_is v h)
