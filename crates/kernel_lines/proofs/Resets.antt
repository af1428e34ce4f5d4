-- CLOSE-ALL and RESET.
use Rattle.std.proofs.Common.{ℕ, ◌<◌, List, [], ◌∷◌, refl, ap, arith}
use Rattle.word_table.specs.declared.word.Word.TheVariants.{Fetch, Store}
use Rattle.forth_program.specs.State.{World}
use Rattle.forth_program.specs.Program.{SourceProgram}
use Rattle.forth_program.specs.Step.{step}
use Rattle.forth_program.specs.Run.{steps}
use Rattle.forth_program.specs.Price.{spent}
use Rattle.kernel_words.specs.Places.{here_cell, latest_cell, error_cell}
use Rattle.kernel_words.specs.Memory.{IsDataSpace, data_cell, with_data_cell}
use Rattle.kernel_words.specs.Running.{Returns}
use Rattle.kernel_words.proofs.Runs.{by_way, by_word, by_call, there}
use Rattle.kernel_words.proofs.Memory.{reads, writes, cell_fits}
use Rattle.kernel_lines.specs.Places.{state_cell, new_cell, kept_here_cell, kept_latest_cell, open_count_cell, leaves_cell, loops_cell}
use Rattle.kernel_lines.specs.Places.{close_all_place}
use Rattle.kernel_lines.specs.Bodies.{close_all_body, reset_body}
use Rattle.kernel_lines.specs.Laws.{KernelIsSetBack}
use Rattle.kernel_lines.proofs.Stores.{stored, behind, does_by}

abbrev closing : List (ℕ × ℕ)
closing = (open_count_cell, 0) ∷ (leaves_cell, 0) ∷ (loops_cell, 0) ∷ []

zero_fits : 0 < 65536
zero_fits = omega arith

module _ (p : SourceProgram) (w : World) (h : IsDataSpace w) (c : List ℕ) where
  w1 : World
  w1 = with_data_cell open_count_cell 0 w

  close_all_returns : Returns p close_all_body 10 19 c w c (stored closing w)
  unfolding step steps spent
  close_all_returns work es callers =
      let b1 = behind ((open_count_cell, 0) ∷ []) w h (refl, zero_fits, tt) in
      let b2 = behind ((open_count_cell, 0) ∷ (leaves_cell, 0) ∷ []) w h (refl, zero_fits, (refl, zero_fits, tt)) in
      by_way p 2 8 15 refl (omega arith) (omega arith)
      (by_word p Store 7 13 (writes w open_count_cell 0 c h (omega arith) (omega arith)) refl (omega arith) (omega arith)
      (by_way p 2 5 9 refl (omega arith) (omega arith)
      (by_word p Store 4 7 (writes (stored ((open_count_cell, 0) ∷ []) w) leaves_cell 0 c b1.console.space (omega arith) (omega arith)) refl
      (omega arith) (omega arith)
      (by_way p 2 2 3 refl (omega arith) (omega arith)
      (by_word p Store 1 1 (writes (stored ((open_count_cell, 0) ∷ (leaves_cell, 0) ∷ []) w) loops_cell 0 c b2.console.space (omega arith)
      (omega arith)) refl (omega arith) (omega arith)
      (by_way p 1 0 0 refl (omega arith) (omega arith) (there p)))))))

-- the stores of RESET before CLOSE-ALL and with it, and all of them
abbrev first_stores : List (ℕ × ℕ)
first_stores = (state_cell, 0) ∷ (new_cell, 0) ∷ (error_cell, 0) ∷ []

abbrev closed_stores : List (ℕ × ℕ)
closed_stores = (state_cell, 0) ∷ (new_cell, 0) ∷ (error_cell, 0) ∷ closing

abbrev here_stores : ℕ → List (ℕ × ℕ)
here_stores x = (state_cell, 0) ∷ (new_cell, 0) ∷ (error_cell, 0) ∷ (open_count_cell, 0) ∷ (leaves_cell, 0) ∷ (loops_cell, 0) ∷
    (here_cell, x) ∷ []

abbrev all_stores : ℕ → ℕ → List (ℕ × ℕ)
all_stores x y = (state_cell, 0) ∷ (new_cell, 0) ∷ (error_cell, 0) ∷ (open_count_cell, 0) ∷ (leaves_cell, 0) ∷ (loops_cell, 0) ∷
    (here_cell, x) ∷ (latest_cell, y) ∷ []

pub kernel_is_set_back : KernelIsSetBack
unfolding step steps spent
kernel_is_set_back p c w k h =
    let x = data_cell w kept_here_cell in
    let y = data_cell w kept_latest_cell in
    let fx = cell_fits w kept_here_cell h in
    let fy = cell_fits w kept_latest_cell h in
    let z = zero_fits in
    let b1 = behind ((state_cell, 0) ∷ []) w h (refl, z, tt) in
    let b2 = behind ((state_cell, 0) ∷ (new_cell, 0) ∷ []) w h (refl, z, (refl, z, tt)) in
    let b3 = behind first_stores w h (refl, z, (refl, z, (refl, z, tt))) in
    let b6 = behind closed_stores w h (refl, z, (refl, z, (refl, z, (refl, z, (refl, z, (refl, z, tt)))))) in
    let b7 = behind (here_stores (data_cell w kept_here_cell)) w h
    (refl, z, (refl, z, (refl, z, (refl, z, (refl, z, (refl, z, (refl, fx, tt))))))) in
    does_by p reset_body 29 54 c c (all_stores (data_cell w kept_here_cell) (data_cell w kept_latest_cell)) w h
    (refl, z, (refl, z, (refl, z, (refl, z, (refl, z, (refl, z, (refl, fx, (refl, fy, tt))))))))
    (λ work es callers.
    by_way p 2 27 50 refl (omega arith) (omega arith)
    (by_word p Store 26 48 (writes w state_cell 0 c h (omega arith) (omega arith)) refl (omega arith) (omega arith)
    (by_way p 2 24 44 refl (omega arith) (omega arith)
    (by_word p Store 23 42 (writes (stored ((state_cell, 0) ∷ []) w) new_cell 0 c b1.console.space (omega arith) (omega arith)) refl
    (omega arith) (omega arith)
    (by_way p 2 21 38 refl (omega arith) (omega arith)
    (by_word p Store 20 36 (writes (stored ((state_cell, 0) ∷ (new_cell, 0) ∷ []) w) error_cell 0 c b2.console.space (omega arith)
    (omega arith)) refl (omega arith) (omega arith)
    (by_call p close_all_place 10 19 9 15 k.interpreter.close_all (close_all_returns p (stored first_stores w) b3.console.space c) refl
    (omega arith) (omega arith)
    (by_way p 1 8 13 refl (omega arith) (omega arith)
    (by_word p Fetch 7 12 (reads (stored closed_stores w) kept_here_cell c b6.console.space (omega arith) (omega arith)) refl (omega arith)
    (omega arith)
    (rw (ap (λ s. s.kept_here) b6.state)
    (by_way p 1 6 10 refl (omega arith) (omega arith)
    (by_word p Store 5 8 (writes (stored closed_stores w) here_cell (data_cell w kept_here_cell) c b6.console.space (omega arith)
    (omega arith)) refl (omega arith) (omega arith)
    (by_way p 1 4 6 refl (omega arith) (omega arith)
    (by_word p Fetch 3 5 (reads (stored (here_stores (data_cell w kept_here_cell)) w) kept_latest_cell c b7.console.space (omega arith)
    (omega arith)) refl (omega arith) (omega arith)
    (rw (ap (λ s. s.kept_latest) b7.state)
    (by_way p 1 2 3 refl (omega arith) (omega arith)
    (by_word p Store 1 1 (writes (stored (here_stores (data_cell w kept_here_cell)) w) latest_cell
    (data_cell w kept_latest_cell) c b7.console.space (omega arith) (omega arith)) refl (omega arith) (omega arith)
    (by_way p 1 0 0 refl (omega arith) (omega arith) (there p)))))))))))))))))))
