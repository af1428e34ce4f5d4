-- Changes of single cells, and the words that set ERROR.
use Rattle.std.proofs.Common.{◌≡◌, ◌≢◌, ℕ, zero, suc, ◌+◌, ◌*◌, ◌/◌, ◌≤◌, ◌<◌, List, [], ◌∷◌, length, refl, ap, ◌∙◌, arith}
use Rattle.word_table.specs.declared.word.Word.TheVariants.{Store}
use Rattle.forth_program.specs.Tree.{Nodes, Literal, Plain}
use Rattle.forth_program.specs.State.{World}
use Rattle.forth_program.specs.Program.{SourceProgram}
use Rattle.forth_program.specs.Step.{step}
use Rattle.forth_program.specs.Run.{steps}
use Rattle.forth_program.specs.Price.{spent}
use Rattle.kernel_words.specs.Places.{error_cell}
use Rattle.kernel_words.specs.Bodies.{items}
use Rattle.kernel_words.specs.Running.{Returns}
use Rattle.kernel_words.specs.Memory.{IsDataSpace, KeepsConsole, data_cell, with_data_cell}
use Rattle.kernel_words.proofs.Runs.{by_way, by_word, there}
use Rattle.kernel_words.proofs.Memory.{writes, after_store, console_then, cell_stored, cell_kept, byte_kept}
use Rattle.kernel_lines.specs.Places.{user_count_cell}
use Rattle.kernel_interpreter.specs.UserCells.{StandUp, HasUserCells, OneCellChanged, CellIsPushed}

pub changed : (w : World) (a x : ℕ) → IsDataSpace w → x < 65536 → 8192 ≤ a → a < 16384 → OneCellChanged w (with_data_cell a x w) a x
changed w a x h f low high = record {
  console = after_store w a x h f;
  cell = cell_stored w a a x h low high refl;
  rest = λ b g away. byte_kept w a b x low g away;
}

-- the body of FAIL with 1, and of STACK-FAIL with 4
abbrev pub fails_by : ℕ → Nodes
fails_by cause = items (Literal cause ∷ Literal error_cell ∷ Plain Store ∷ [])

pub fails : (p : SourceProgram) (cause : ℕ) (c : List ℕ) (w : World) → IsDataSpace w →
    Returns p (fails_by cause) 4 7 c w c (with_data_cell error_cell cause w)
unfolding step steps spent
fails p cause c w h work es callers =
    by_way p 2 2 3 refl (omega arith) (omega arith)
    (by_word p Store 1 1 (writes w error_cell cause c h (omega arith) (omega arith)) refl (omega arith) (omega arith)
    (by_way p 1 0 0 refl (omega arith) (omega arith) (there p)))

-- cells that stand lower stay
pub stand_kept : (v w : World) (cells : List ℕ) → ((i : ℕ) → 1 ≤ i → i ≤ length cells →
    data_cell v (user_count_cell + 2 * i) ≡ data_cell w (user_count_cell + 2 * i)) → StandUp w cells → StandUp v cells
stand_kept v w [] same stand = tt
stand_kept v w (x ∷ cells) same stand = (
  same (length (x ∷ cells)) (omega arith) (omega arith) ∙ stand.0,
  stand_kept v w cells (λ i low high. same i low (omega (arith, high))) stand.1,
)

-- the number of cells and then the newest are stored
module _ (w : World) (h : IsDataSpace w) (n x : ℕ) (few : n ≤ 30) (f : x < 65536) where
  abbrev pub counted : World
  counted = with_data_cell user_count_cell (n + 1) w

  abbrev pub pushed : World
  pushed = with_data_cell (user_count_cell + 2 * (n + 1)) x counted

  pub counted_console : KeepsConsole w counted
  counted_console = after_store w user_count_cell (n + 1) h (omega (arith, few))

  pub is_pushed : CellIsPushed w pushed n x
  is_pushed = record {
    console = console_then w counted pushed counted_console (after_store counted (user_count_cell + 2 * (n + 1)) x counted_console.space f);
    count = cell_kept counted (user_count_cell + 2 * (n + 1)) user_count_cell x (omega arith) (omega arith) (λ e. omega (arith, e))
        ∙ cell_stored w user_count_cell user_count_cell (n + 1) h (omega arith) (omega arith) refl;
    cell = cell_stored counted (user_count_cell + 2 * (n + 1)) (user_count_cell + 2 * (n + 1)) x counted_console.space (omega arith)
        (omega (arith, few)) refl;
    rest = λ b g away away'. byte_kept counted (user_count_cell + 2 * (n + 1)) b x (omega arith) g away'
        ∙ byte_kept w user_count_cell b (n + 1) (omega arith) g away;
  }

  pub below_kept : (i : ℕ) → 1 ≤ i → i ≤ n → data_cell pushed (user_count_cell + 2 * i) ≡ data_cell w (user_count_cell + 2 * i)
  below_kept i low high =
      cell_kept counted (user_count_cell + 2 * (n + 1)) (user_count_cell + 2 * i) x (omega arith) (omega arith)
      (λ e. omega (arith, e, high))
      ∙ cell_kept w user_count_cell (user_count_cell + 2 * i) (n + 1) (omega arith) (omega arith) (λ e. omega (arith, e, low))
