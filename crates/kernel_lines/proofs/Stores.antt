-- Stores of cells, one after the other.
use Rattle.std.proofs.Common.{◌≡◌, ℕ, ◌<◌, ◌++◌, true, List, [], ◌∷◌, refl, ap, ◌∙◌}
use Rattle.forth_program.specs.Tree.{Nodes}
use Rattle.forth_program.specs.State.{World}
use Rattle.forth_program.specs.Program.{SourceProgram}
use Rattle.kernel_words.specs.Memory.{IsDataSpace, KeepsConsole, with_data_cell}
use Rattle.kernel_words.specs.Running.{Returns}
use Rattle.kernel_words.proofs.Memory.{after_store, same_console, console_then}
use Rattle.kernel_lines.specs.State.{KernelState, kernel_state, cells_at, OnlyChanges, Does}
use Rattle.kernel_lines.proofs.States.{is_place, stored_state, state_stored, unchanged, changes_then, cell_changes}

-- the oldest first, each an address and a cell
abbrev pub stored : List (ℕ × ℕ) → World → World
stored [] w = w
stored (store ∷ later) w = stored later (with_data_cell store.0 store.1 w)

abbrev pub states : List (ℕ × ℕ) → KernelState → KernelState
states [] s = s
states (store ∷ later) s = states later (stored_state store.0 store.1 s)

abbrev pub addresses : List (ℕ × ℕ) → List ℕ
addresses [] = []
addresses (store ∷ later) = store.0 ∷ addresses later

abbrev pub AreStores : List (ℕ × ℕ) → Type 0
AreStores [] = Unit {0}
AreStores (store ∷ later) = (is_place store.0 ≡ true) × (store.1 < 65536) × AreStores later

pub record Behind (stores : List (ℕ × ℕ)) (w v : World) : Type 0 where
  pub console : KeepsConsole w v
  pub state : kernel_state v ≡ states stores (kernel_state w)
  pub others : OnlyChanges (cells_at (addresses stores)) w v

pub behind : (stores : List (ℕ × ℕ)) (w : World) → IsDataSpace w → AreStores stores → Behind stores w (stored stores w)
behind [] w h s = record { console = same_console w h; state = refl; others = unchanged [] w h }
behind (store ∷ later) w h s =
    let v = with_data_cell store.0 store.1 w in
    let hv : KeepsConsole w v = after_store w store.0 store.1 h s.1 in
    let b = behind later v hv.space s.2 in
    record {
      console = console_then w v (stored later v) hv b.console;
      state = b.state ∙ ap (states later) (state_stored w store.0 store.1 h s.0);
      others = changes_then ((store.0, 2) ∷ []) (cells_at (addresses later)) w v (stored later v)
          (cell_changes w store.0 store.1 h s.1 s.0) b.others;
    }

pub nothing_more : (text : List ℕ) → text ≡ text ++ []
nothing_more [] = refl
nothing_more (c ∷ text) = ap (λ t. c ∷ t) (nothing_more text)

-- a definition that makes these stores
pub does_by : (p : SourceProgram) (body : Nodes) (most highest : ℕ) (c c' : List ℕ) (stores : List (ℕ × ℕ)) (w : World) → IsDataSpace w →
    AreStores stores →
    Returns p body most highest c w c' (stored stores w) →
    Does p body most highest c w c' w.input [] (states stores (kernel_state w)) (cells_at (addresses stores))
does_by p body most highest c c' stores w h s run =
    let b = behind stores w h s in
    record {
      after = stored stores w;
      run = run;
      input = b.console.input;
      printed = b.console.printed ∙ nothing_more w.printed;
      state_is = b.state;
      others = b.others;
    }
