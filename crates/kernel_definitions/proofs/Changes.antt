-- What each of the kernel's stores changes and what it keeps.
use Rattle.std.proofs.Common.{◌≡◌, ◌≢◌, ◌⊎◌, inl, inr, ℕ, ◌+◌, ◌/◌, ◌%◌, ◌≤◌, ◌<◌, [], ◌∷◌, refl, ◌∙◌, arith}
use Rattle.forth_program.specs.State.{World}
use Rattle.kernel_words.specs.Places.{here_cell}
use Rattle.kernel_words.specs.Memory.{IsDataSpace, KeepsConsole, data_cell, with_data_cell}
use Rattle.kernel_words.proofs.Memory.{cell_kept}
use Rattle.kernel_lines.specs.Places.{open_count_cell}
use Rattle.kernel_definitions.specs.Stores.{stored, laid, entry, opened, closed}
use Rattle.kernel_definitions.specs.OpenDefinition.{IsEntry}
use Rattle.kernel_definitions.proofs.Stores.{stored_keep, missed, hit, opened_cells, closed_cells, laid_cells, opened_miss, closed_miss}
use Rattle.kernel_definitions.proofs.Stores.{laid_miss}
use Rattle.kernel_definitions.proofs.Standing.{Alike}

-- a cell is laid at HERE
pub record LaidAt (w v : World) (e x : ℕ) : Type 0 where
  pub console : KeepsConsole w v
  pub below : Alike v w 8400 e
  pub cell : data_cell v e ≡ x
  pub here : data_cell v here_cell ≡ e + 2
  pub outside : (b : ℕ) → 8192 ≤ b → b / 2 ≢ 4098 → b / 2 ≢ e / 2 → data_cell v b ≡ data_cell w b

pub by_laid : (w : World) (e x : ℕ) → IsDataSpace w → 8640 ≤ e → e % 2 ≡ 0 → e + 2 ≤ 16384 → x < 65536 → LaidAt w (stored (laid e x) w) e x
by_laid w e x s low even high f = record {
  console = stored_keep (laid e x) w s (laid_cells e x high f);
  below = λ b g k. missed (laid e x) w b (omega (arith, g))
      (laid_miss e x b low (λ z. omega (arith, z, g)) (λ z. omega (arith, z, k, even)));
  cell = cell_kept (with_data_cell e x w) here_cell e (e + 2) (omega arith) (omega (arith, low)) (λ z. omega (arith, z, low))
      ∙ hit [] w e x e s tt (omega (arith, low)) (omega (arith, high)) refl;
  here = hit ((e, x) ∷ []) w here_cell (e + 2) here_cell s (f, tt) (omega arith) (omega arith) refl;
  outside = λ b g away away'. missed (laid e x) w b g (laid_miss e x b low away away');
}

-- an entry is opened
pub record OpenedAt (w v : World) (n kind place : ℕ) : Type 0 where
  pub console : KeepsConsole w v
  pub low : Alike v w 8400 8568
  pub under : Alike v w 8570 (entry n)
  pub above : (b : ℕ) → 8634 ≤ b → data_cell v b ≡ data_cell w b
  pub entry_is : IsEntry v n kind place
  pub count : data_cell v open_count_cell ≡ n + 1
  pub here : data_cell v here_cell ≡ data_cell w here_cell
  pub outside : (b : ℕ) → 8192 ≤ b → (b < 8568) ⊎ (8634 ≤ b) → data_cell v b ≡ data_cell w b

pub by_opened : (w : World) (n kind place : ℕ) → IsDataSpace w → n < 16 → kind < 65536 → place < 65536 →
    OpenedAt w (stored (opened n kind place) w) n kind place
by_opened w n kind place s few fk fp = record {
  console = stored_keep (opened n kind place) w s (opened_cells n kind place few fk fp);
  low = λ b g k. missed (opened n kind place) w b (omega (arith, g)) (opened_miss n kind place b few (inl k));
  under = λ b g k. missed (opened n kind place) w b (omega (arith, g)) (
    omega arith,
    (λ z. omega (arith, z, g)),
    (omega arith, (λ z. omega (arith, z, k)), (omega arith, (λ z. omega (arith, z, k)), tt)),
  );
  above = λ b g. missed (opened n kind place) w b (omega (arith, g)) (opened_miss n kind place b few (inr g));
  entry_is = (
    cell_kept (stored ((entry n + 2, place) ∷ (entry n, kind) ∷ []) w) open_count_cell (entry n) (n + 1) (omega arith) (omega arith)
        (λ z. omega (arith, z))
        ∙ cell_kept (with_data_cell (entry n) kind w) (entry n + 2) (entry n) place (omega arith) (omega arith) (λ z. omega (arith, z))
        ∙ hit [] w (entry n) kind (entry n) s tt (omega arith) (omega (arith, few)) refl,
    cell_kept (stored ((entry n + 2, place) ∷ (entry n, kind) ∷ []) w) open_count_cell (entry n + 2) (n + 1) (omega arith) (omega arith)
        (λ z. omega (arith, z))
        ∙ hit ((entry n, kind) ∷ []) w (entry n + 2) place (entry n + 2) s (fk, tt) (omega arith) (omega (arith, few)) refl,
  );
  count = hit ((entry n + 2, place) ∷ (entry n, kind) ∷ []) w open_count_cell (n + 1) open_count_cell s (fp, (fk, tt)) (omega arith)
      (omega arith) refl;
  here = missed (opened n kind place) w here_cell (omega arith) (opened_miss n kind place here_cell few (inl (omega arith)));
  outside = λ b g k. missed (opened n kind place) w b g (opened_miss n kind place b few k);
}

-- an entry is closed
pub record ClosedAt (w v : World) (n : ℕ) : Type 0 where
  pub console : KeepsConsole w v
  pub low : Alike v w 8400 8568
  pub above : (b : ℕ) → 8570 ≤ b → data_cell v b ≡ data_cell w b
  pub count : data_cell v open_count_cell ≡ n
  pub here : data_cell v here_cell ≡ data_cell w here_cell
  pub outside : (b : ℕ) → 8192 ≤ b → (b < 8568) ⊎ (8634 ≤ b) → data_cell v b ≡ data_cell w b

pub by_closed : (w : World) (n : ℕ) → IsDataSpace w → n < 16 → ClosedAt w (stored (closed n) w) n
by_closed w n s few = record {
  console = stored_keep (closed n) w s (closed_cells n few);
  low = λ b g k. missed (closed n) w b (omega (arith, g)) (closed_miss n b (inl k));
  above = λ b g. missed (closed n) w b (omega (arith, g)) (closed_miss n b (inr g));
  count = hit [] w open_count_cell n open_count_cell s tt (omega arith) (omega arith) refl;
  here = missed (closed n) w here_cell (omega arith) (closed_miss n here_cell (inl (omega arith)));
  outside = λ b g k. missed (closed n) w b g (closed_miss n b
      (elim k as (λ _. (b < 8568) ⊎ (8570 ≤ b)) [ inl under ↦ inl under | inr over ↦ inr (omega (arith, over)) ]));
}

-- a cell of the code is led to an end
pub record PatchedAt (w v : World) (place x : ℕ) : Type 0 where
  pub console : KeepsConsole w v
  pub below : Alike v w 8196 place
  pub above : (b : ℕ) → place + 2 ≤ b → data_cell v b ≡ data_cell w b
  pub cell : data_cell v place ≡ x
  pub outside : (b : ℕ) → 8192 ≤ b → b / 2 ≢ place / 2 → data_cell v b ≡ data_cell w b

pub by_patched : (w : World) (place x : ℕ) → IsDataSpace w → 8640 ≤ place → place % 2 ≡ 0 → place < 16384 → x < 65536 →
    PatchedAt w (stored ((place, x) ∷ []) w) place x
by_patched w place x s low even high f = record {
  console = stored_keep ((place, x) ∷ []) w s (f, tt);
  below = λ b g k. cell_kept w place b x (omega (arith, low)) (omega (arith, g)) (λ z. omega (arith, z, k, even));
  above = λ b g. cell_kept w place b x (omega (arith, low)) (omega (arith, g, low)) (λ z. omega (arith, z, g, even));
  cell = hit [] w place x place s tt (omega (arith, low)) high refl;
  outside = λ b g away. cell_kept w place b x (omega (arith, low)) g away;
}
