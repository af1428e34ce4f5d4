-- What stands in data space behind stores.
use Rattle.std.proofs.Common.{◌≡◌, ◌≢◌, ◌⊎◌, inl, inr, ℕ, ◌+◌, ◌/◌, ◌≤◌, ◌<◌, List, [], ◌∷◌, refl, ◌∙◌, arith}
use Rattle.forth_program.specs.State.{World}
use Rattle.kernel_words.specs.Places.{here_cell}
use Rattle.kernel_words.specs.Memory.{IsDataSpace, KeepsConsole, data_cell, with_data_cell}
use Rattle.kernel_words.proofs.Memory.{after_store, cell_stored, cell_kept, console_then, same_console}
use Rattle.kernel_definitions.specs.Stores.{stored, laid, opened, closed, HasRoom}

-- cells are stored
abbrev pub AreCells : List (ℕ × ℕ) → Type 0
AreCells [] = Unit {0}
AreCells (store ∷ earlier) = (store.1 < 65536) × AreCells earlier

-- none of them into the cell at an address
abbrev pub Miss : List (ℕ × ℕ) → ℕ → Type 0
Miss [] b = Unit {0}
Miss (store ∷ earlier) b = (8192 ≤ store.0) × (b / 2 ≢ store.0 / 2) × Miss earlier b

pub stored_keep : (stores : List (ℕ × ℕ)) (w : World) → IsDataSpace w → AreCells stores → KeepsConsole w (stored stores w)
stored_keep [] w h f = same_console w h
stored_keep (store ∷ earlier) w h f =
    let k = stored_keep earlier w h f.1 in
    console_then w (stored earlier w) (with_data_cell store.0 store.1 (stored earlier w)) k
    (after_store (stored earlier w) store.0 store.1 k.space f.0)

pub missed : (stores : List (ℕ × ℕ)) (w : World) (b : ℕ) → 8192 ≤ b → Miss stores b → data_cell (stored stores w) b ≡ data_cell w b
missed [] w b low m = refl
missed (store ∷ earlier) w b low m = cell_kept (stored earlier w) store.0 b store.1 m.0 low m.1 ∙ missed earlier w b low m.2

-- the newest store
pub hit : (stores : List (ℕ × ℕ)) (w : World) (a x b : ℕ) → IsDataSpace w → AreCells stores → 8192 ≤ a → a < 16384 → b / 2 ≡ a / 2 →
    data_cell (with_data_cell a x (stored stores w)) b ≡ x
hit stores w a x b h f low high e = cell_stored (stored stores w) a b x (stored_keep stores w h f).space low high e

-- room stays where HERE does
pub room_stays : (stores : List (ℕ × ℕ)) (w : World) (h n : ℕ) → HasRoom w h n → AreCells stores → Miss stores here_cell →
    HasRoom (stored stores w) h n
room_stays stores w h n r f m = record {
  space = (stored_keep stores w r.space f).space;
  here = missed stores w here_cell (omega arith) m ∙ r.here;
  even = r.even;
  low = r.low;
  high = r.high;
}

-- ---- the stores of opening and closing
pub opened_cells : (n kind place : ℕ) → n < 16 → kind < 65536 → place < 65536 → AreCells (opened n kind place)
opened_cells n kind place f g h = (omega (arith, f), (h, (g, tt)))

pub closed_cells : (n : ℕ) → n < 16 → AreCells (closed n)
closed_cells n f = (omega (arith, f), tt)

pub laid_cells : (h x : ℕ) → h + 2 ≤ 16384 → x < 65536 → AreCells (laid h x)
laid_cells h x f g = (omega (arith, f), (g, tt))

-- they are apart from what is before OPEN-COUNT and behind STRUCTURES
pub opened_miss : (n kind place b : ℕ) → n < 16 → (b < 8568) ⊎ (8634 ≤ b) → Miss (opened n kind place) b
opened_miss n kind place b f (inl under) = (
  omega arith,
  (λ e. omega (arith, e, under)),
  (omega (arith, f), (λ e. omega (arith, e, under)), (omega (arith, f), (λ e. omega (arith, e, under)), tt)),
)
opened_miss n kind place b f (inr over) = (
  omega arith,
  (λ e. omega (arith, e, over)),
  (omega (arith, f), (λ e. omega (arith, e, over, f)), (omega (arith, f), (λ e. omega (arith, e, over, f)), tt)),
)

pub closed_miss : (n b : ℕ) → (b < 8568) ⊎ (8570 ≤ b) → Miss (closed n) b
closed_miss n b (inl under) = (omega arith, (λ e. omega (arith, e, under)), tt)
closed_miss n b (inr over) = (omega arith, (λ e. omega (arith, e, over)), tt)

-- a cell that is laid is apart from all but HERE and its own place
pub laid_miss : (h x b : ℕ) → 8640 ≤ h → b / 2 ≢ 4098 → b / 2 ≢ h / 2 → Miss (laid h x) b
laid_miss h x b low away away' = (omega arith, away, (omega (arith, low), away', tt))
