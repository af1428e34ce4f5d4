-- Words that meet the premises of the laws, and what their cells then do.
use Rattle.std.proofs.Common.{◌≡◌, ℕ, List, [], ◌∷◌, Option, Some, refl, arith}
use Rattle.word_table.specs.declared.word.Word.TheVariants.{Emit, Within}
use Rattle.word_table.specs.Table.{cells_of}
use Rattle.forth_program.specs.State.{State}
use Rattle.j1_simulator.specs.OpenMachine.{open_storage}
use Rattle.j1_simulator.specs.Run.{run}
use Rattle.word_laws.specs.Standing.{standing_as, machine_at}
use Rattle.word_laws.specs.Words.{IsReady}

-- EMIT at cell 1 with 321 on the data cells, where data space begins after four cells of code
emitting : List ℕ
emitting = 0x8041 ∷ 0xC000 ∷ 0x6023 ∷ 0x6103 ∷ []

source : State
source = record { work = []; entries = []; callers = []; cells = 321 ∷ 9 ∷ []; world = record { data_start = 8; space = []; input = []; printed = 64 ∷ []; made = [] } }

is_ready : IsReady Emit emitting 1 4 source
unfolding emitting source
is_ready =
    record { plain = refl; code_size = refl; in_code = (refl, omega arith, (refl, omega arith, (refl, omega arith, refl))); need = omega arith; finds = refl; cells = (omega arith, (omega arith, tt)); entries = tt; applies = tt }

prints : (run open_storage 8 3 (standing_as source (machine_at emitting 1 [] [] []))).printed ≡ 64 ∷ 65 ∷ []
unfolding emitting source
prints = refl

leaves_9 : (run open_storage 8 3 (standing_as source (machine_at emitting 1 [] [] []))).core.t ≡ Some 9
unfolding emitting source
leaves_9 = refl

-- WITHIN between no code, over u, a and b
within_cells : List ℕ
within_cells = cells_of Within

testing : ℕ → ℕ → ℕ → State
testing u a b = record { work = []; entries = []; callers = []; cells = b ∷ a ∷ u ∷ 9 ∷ []; world = record { data_start = 24; space = []; input = []; printed = []; made = [] } }

abbrev tops : List (ℕ × ℕ × ℕ) → List (Option ℕ)
tops [] = []
tops (t ∷ ts) = (run open_storage 24 12 (standing_as (testing t.0 t.1 t.2) (machine_at within_cells 0 [] [] []))).core.t ∷ tops ts

tells_within : tops ((5, 1, 10) ∷ (10, 1, 10) ∷ (0, 10, 1) ∷ (5, 10, 1) ∷ (3, 3, 3) ∷ (65535, 65530, 2) ∷ (2, 65530, 2) ∷ []) ≡ Some 65535 ∷ Some 0 ∷ Some 65535 ∷ Some 0 ∷ Some 0 ∷ Some 65535 ∷ Some 0 ∷ []
unfolding within_cells testing
tells_within = refl
