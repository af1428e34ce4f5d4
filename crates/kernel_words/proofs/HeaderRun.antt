-- The run of K-HEADER, from what its words give.
use Rattle.std.proofs.Common.{◌≡◌, ℕ, ◌+◌, ◌*◌, ◌≤◌, ◌<◌, List, ◌∷◌, refl, ap, ap₂, ◌∙◌, arith}
use Rattle.cell_math.specs.Cell.{sum_of}
use Rattle.word_table.specs.declared.word.Word.TheVariants.{Comma, CComma, CFetch, Count, Fetch, Store, Allot, Align, Here, Move}
use Rattle.forth_program.specs.State.{World, Gives, ◌▸◌}
use Rattle.forth_program.specs.Program.{SourceProgram}
use Rattle.forth_program.specs.ByteWords.{move}
use Rattle.forth_program.specs.Meaning.{meaning}
use Rattle.forth_program.specs.Step.{step}
use Rattle.forth_program.specs.Run.{steps}
use Rattle.forth_program.specs.Price.{spent}
use Rattle.kernel_words.specs.Places.{here_cell, kernel_cell_place, latest_cell}
use Rattle.kernel_words.specs.Bodies.{IsKernel, kernel_cell_body, kernel_header_body}
use Rattle.kernel_words.specs.Running.{Returns}
use Rattle.kernel_words.specs.Memory.{IsDataSpace, data_cell, data_byte, with_data_cell}
use Rattle.kernel_words.proofs.Runs.{by_way, by_word, by_call, there}
use Rattle.kernel_words.proofs.Memory.{reads, writes, reads_byte, byte_fetched}
use Rattle.kernel_words.proofs.Laying.{reads_here}

cell_by : (p : SourceProgram) (x : ℕ) (c : List ℕ) (w v : World) → meaning Comma (x ∷ c) w ≡ Gives c v → Returns p kernel_cell_body 2 49 (x ∷ c) w c v
unfolding step steps spent
cell_by p x c w v e work es callers = by_word p Comma 1 1 e refl (omega arith) (omega arith) (by_way p 1 0 0 refl (omega arith) (omega arith) (there p))

-- the worlds between its words
pub record Worlds (x a n latest h : ℕ) (c : List ℕ) (w v2 v3 v4 v5 v6 v7 v8 v9 : World) : Type 0 where
  pub aligns : meaning Align (x ∷ a ∷ c) w ≡ Gives (x ∷ a ∷ c) v2
  pub space2 : IsDataSpace v2
  pub here2 : data_cell v2 here_cell ≡ h
  pub latest2 : data_cell v2 latest_cell ≡ latest
  pub links : meaning Comma (latest ∷ x ∷ a ∷ c) v2 ≡ Gives (x ∷ a ∷ c) v3
  pub codes : meaning Comma (x ∷ a ∷ c) v3 ≡ Gives (a ∷ c) v4
  pub space4 : IsDataSpace v4
  pub size4 : data_byte v4 a ≡ n
  pub sizes : meaning CComma (n ∷ a ∷ c) v4 ≡ Gives (a ∷ c) v5
  pub flags : meaning CComma (0 ∷ a ∷ c) v5 ≡ Gives (a ∷ c) v6
  pub space6 : IsDataSpace v6
  pub size6 : data_byte v6 a ≡ n
  pub here6 : data_cell v6 here_cell ≡ h + 6
  pub allots : meaning Allot (n ∷ n ∷ (h + 6) ∷ (a + 1) ∷ c) v6 ≡ Gives (n ∷ (h + 6) ∷ (a + 1) ∷ c) v7
  pub moves : move n (a + 1) (h + 6) v7 ≡ Gives tt v8
  pub aligns_again : meaning Align c v8 ≡ Gives c v9
  pub space9 : IsDataSpace v9

pub header_returns : (p : SourceProgram) (k : IsKernel p) (x a n latest h : ℕ) (c : List ℕ) (w v2 v3 v4 v5 v6 v7 v8 v9 : World) → Worlds x a n latest h c w v2 v3 v4 v5 v6 v7 v8 v9 → 8192 ≤ a → a < 16384 →
    Returns p kernel_header_body 30 (570 + 160 * n) (x ∷ a ∷ c) w c (with_data_cell latest_cell h v9)
unfolding step steps spent
header_returns p k x a n latest h c w v2 v3 v4 v5 v6 v7 v8 v9 s low high work es callers =
    by_word p Align 29 (538 + 160 * n) s.aligns refl (omega arith) (omega arith)
    (by_word p Here 28 (536 + 160 * n) (reads_here (x ∷ a ∷ c) v2 s.space2 ∙ ap (λ y. Gives (y ∷ x ∷ a ∷ c) v2) s.here2) refl (omega arith) (omega arith)
    (by_way p 2 26 (533 + 160 * n) refl (omega arith) (omega arith)
    (by_word p Fetch 25 (532 + 160 * n) (reads v2 latest_cell (x ∷ a ∷ c) s.space2 (omega arith) (omega arith) ∙ ap (λ y. Gives (y ∷ x ∷ a ∷ c) v2) s.latest2) refl (omega arith) (omega arith)
    (by_call p kernel_cell_place 2 49 22 (482 + 160 * n) k.kernel_cell (cell_by p latest (x ∷ a ∷ c) v2 v3 s.links) refl (omega arith) (omega arith)
    (by_call p kernel_cell_place 2 49 19 (432 + 160 * n) k.kernel_cell (cell_by p x (a ∷ c) v3 v4 s.codes) refl (omega arith) (omega arith)
    (by_way p 1 18 (431 + 160 * n) refl (omega arith) (omega arith)
    (by_word p CFetch 17 (407 + 160 * n) (reads_byte v4 a (a ∷ c) s.space4 low high ∙ ap (λ y. Gives (y ∷ a ∷ c) v4) s.size4) refl (omega arith) (omega arith)
    (by_word p CComma 16 (311 + 160 * n) s.sizes refl (omega arith) (omega arith)
    (by_way p 1 15 (309 + 160 * n) refl (omega arith) (omega arith)
    (by_word p CComma 14 (213 + 160 * n) s.flags refl (omega arith) (omega arith)
    (by_word p Count 13 (173 + 160 * n) (ap (λ r. r ▸ λ y. Gives (y ∷ sum_of a 1 ∷ c)) (byte_fetched v6 a s.space6 low high) ∙ ap₂ (λ y z. Gives (y ∷ z ∷ c) v6) s.size6 (next a high)) refl (omega arith) (omega arith)
    (by_word p Here 12 (171 + 160 * n) (reads_here (n ∷ (a + 1) ∷ c) v6 s.space6 ∙ ap (λ y. Gives (y ∷ n ∷ (a + 1) ∷ c) v6) s.here6) refl (omega arith) (omega arith)
    (by_way p 2 10 (169 + 160 * n) refl (omega arith) (omega arith)
    (by_word p Allot 9 (129 + 160 * n) s.allots refl (omega arith) (omega arith)
    (by_word p Move 8 49 (ap (λ r. r ▸ λ _. Gives c) s.moves) refl (omega arith) (omega arith)
    (by_word p Align 7 17 s.aligns_again refl (omega arith) (omega arith)
    (by_way p 2 5 14 refl (omega arith) (omega arith)
    (by_word p Store 4 12 (writes v9 latest_cell h c s.space9 (omega arith) (omega arith)) refl (omega arith) (omega arith)
    (by_way p 1 0 0 refl (omega arith) (omega arith) (there p))))))))))))))))))))
  where
    next : (a : ℕ) → a < 16384 → sum_of a 1 ≡ a + 1
    next a h = omega (arith, h)
