-- K-CELL, which stores a cell at HERE.
use Rattle.std.proofs.Common.{◌≡◌, ℕ, ◌+◌, ◌≤◌, ◌<◌, List, ◌∷◌, refl, ap, ◌∙◌, arith}
use Rattle.cell_math.specs.Cell.{sum_of}
use Rattle.word_table.specs.declared.word.Word.TheVariants.{Comma}
use Rattle.forth_program.specs.State.{World, Gives, ◌▸◌}
use Rattle.forth_program.specs.Program.{SourceProgram}
use Rattle.forth_program.specs.Access.{store, grow_here}
use Rattle.forth_program.specs.Meaning.{meaning}
use Rattle.forth_program.specs.Step.{step}
use Rattle.forth_program.specs.Run.{steps}
use Rattle.forth_program.specs.Price.{spent}
use Rattle.kernel_words.specs.Places.{here_cell}
use Rattle.kernel_words.specs.Bodies.{kernel_cell_body}
use Rattle.kernel_words.specs.Running.{Returns}
use Rattle.kernel_words.specs.Memory.{IsDataSpace, KeepsConsole, data_cell, with_data_cell}
use Rattle.kernel_words.specs.Laws.{CellsAreLaid}
use Rattle.kernel_words.proofs.Runs.{by_way, by_word, there, within}
use Rattle.kernel_words.proofs.Memory.{here_is, here_grows, storing, after_store, console_then, cell_stored, cell_kept, byte_kept}

-- the world after `,` with HERE in data space
abbrev pub with_cell : ℕ → World → World
with_cell x w = with_data_cell here_cell (data_cell w here_cell + 2) (with_data_cell (data_cell w here_cell) x w)

pub comma_is : (x : ℕ) (c : List ℕ) (w : World) → IsDataSpace w → x < 65536 → 8198 ≤ data_cell w here_cell → data_cell w here_cell < 16384 → meaning Comma (x ∷ c) w ≡ Gives c (with_cell x w)
comma_is x c w h f low high =
    let v = with_data_cell (data_cell w here_cell) x w in
    let hv : KeepsConsole w v = after_store w (data_cell w here_cell) x h f in
    let same : data_cell v here_cell ≡ data_cell w here_cell = cell_kept w (data_cell w here_cell) here_cell x (omega (arith, low)) (omega arith) (λ e. omega (arith, e, low)) in
    ap (λ r. r ▸ λ h w. store h x w ▸ λ _ w. grow_here 2 w ▸ λ _. Gives c) (here_is w h)
    ∙ ap (λ r. r ▸ λ _ w. grow_here 2 w ▸ λ _. Gives c) (storing w (data_cell w here_cell) x h (omega (arith, low)) high)
    ∙ ap (λ r. r ▸ λ _. Gives c) (here_grows v 2 hv.space)
    ∙ ap (λ n. Gives c (with_data_cell here_cell n v)) (ap (λ n. sum_of n 2) same ∙ sum (data_cell w here_cell) high)
  where
    sum : (n : ℕ) → n < 16384 → sum_of n 2 ≡ n + 2
    sum n h = omega (arith, h)

pub cell_returns : (p : SourceProgram) (x : ℕ) (c : List ℕ) (w : World) → IsDataSpace w → x < 65536 → 8198 ≤ data_cell w here_cell → data_cell w here_cell < 16384 → Returns p kernel_cell_body 2 49 (x ∷ c) w c (with_cell x w)
unfolding step steps spent
cell_returns p x c w h f low high work es callers =
    by_word p Comma 1 1 (comma_is x c w h f low high) refl (omega arith) (omega arith)
    (by_way p 1 0 0 refl (omega arith) (omega arith) (there p))

pub cells_are_laid : CellsAreLaid
cells_are_laid p x c w k h f aligned low high =
    let here : ℕ = data_cell w here_cell in
    let v = with_data_cell (data_cell w here_cell) x w in
    let hv : KeepsConsole w v = after_store w (data_cell w here_cell) x h f in
    record {
      after = with_cell x w;
      run = λ work es callers. within p 2 49 (omega arith) (omega arith) (cell_returns p x c w h f (omega (arith, low)) (omega (arith, high)) work es callers);
      console = console_then w v (with_cell x w) hv (after_store v here_cell (data_cell w here_cell + 2) hv.space (omega (arith, high)));
      cell = cell_kept v here_cell (data_cell w here_cell) (data_cell w here_cell + 2) (omega arith) (omega (arith, low)) (λ e. omega (arith, e, low)) ∙ cell_stored w (data_cell w here_cell)
          (data_cell w here_cell) x h (omega (arith, low)) (omega (arith, high)) refl;
      here = cell_stored v here_cell here_cell (data_cell w here_cell + 2) hv.space (omega arith) (omega arith) refl;
      rest = λ a at_least below away away'. byte_kept v here_cell a (data_cell w here_cell + 2) (omega arith) at_least (λ e. away (omega (arith, e))) ∙ byte_kept w (data_cell w here_cell) a x (omega (arith, low)) at_least away';
    }
