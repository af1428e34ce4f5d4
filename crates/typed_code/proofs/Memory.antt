-- The cells of memory that the machine code reads and writes.
use Rattle.std.proofs.Common.{◌≡◌, ℕ, zero, suc, ◌+◌, ◌*◌, ◌/◌, ◌%◌, ◌<◌, ◌≤◌, ◌⊎◌, inl, inr, ⊎_elim, nat_lt, nat_le, ◌&&◌, ◌==◌, not, Bool, true, if◌then◌else◌}
use Rattle.std.proofs.Common.{List, [], ◌∷◌, length, get_or, refl, ap, ◌∙◌, arith, length-set}
use Rattle.std.specs.Prelude.{slice_index, slice_set, bit_and, pos}
use Rattle.std.proofs.lemmas.List.{get_or-set_same, get_or-set_other}
use Rattle.std.proofs.lemmas.Bool.{lt-ltb, le-leb, ltb-true}
use Rattle.std.proofs.lemmas.Nat.{and_mask, and_comm}
use Rattle.console_ports.specs.Ports.{access_at, even}
use Rattle.console_ports.specs.declared.ports.Access.{Access}
use Rattle.console_ports.specs.declared.ports.Access.TheVariants.{Data, Print, Key, Halt, Outside}
use Rattle.j1_table.specs.Instruction.{decoded}
use Rattle.j1_simulator.specs.RoundMachine.{around}
use Rattle.typed_code.specs.MachineCode.{user_cells, return_base, drop_return, save, save_cells, load_more, load, run_code, run_call, drop_return_code, save_code, save_cells_code, load_more_code, load_code}
use Rattle.typed_code.specs.MachineCode.{run_code_code, HasCells, HasMachineCode, StandUp, HasUserCells, with_cells}
use Rattle.typed_code.specs.Laws.{Keeps}

-- an instruction of a routine
pub instruction : (memory cells : List ℕ) (place : ℕ) → HasCells memory place cells → (i : ℕ) → nat_lt i (length cells) ≡ true → decoded (slice_index memory (place + i)) ≡ decoded (get_or cells i 0)
instruction memory cells place h i inside = ap decoded (cell_at cells place i h (ltb-true i (length cells) inside))
  where
    cell_at : (cells : List ℕ) (place i : ℕ) → HasCells memory place cells → i < length cells → slice_index memory (place + i) ≡ get_or cells i 0
    cell_at [] place i h lt = absurd (omega arith)
    cell_at (cell ∷ cells) place zero h lt = ap (slice_index memory) (omega arith) ∙ h.0
    cell_at (cell ∷ cells) place (suc i) h lt = ap (slice_index memory) (omega arith) ∙ cell_at cells (place + 1) i h.1 (omega arith)

-- the lowest five bits of the pointers
pub pointer : (r n : ℕ) → n ≤ 31 → bit_and 31 (around (pos r) * 256 + around (pos n)) ≡ n
pointer r n small =
    let e : around (pos n) ≡ n % 32 = refl in
    and_comm 31 (around (pos r) * 256 + around (pos n)) ∙ and_mask (around (pos r) * 256 + around (pos n)) 5 ∙ omega (arith, e, small)

-- what is not in data space
abbrev no_cell : Bool → ℕ → Access
no_cell is_store address =
    if even address == 0x4000 && is_store then Print
    else if even address == 0x4002 && not is_store then Key
    else if even address == 0x4004 && is_store then Halt
    else Outside (even address)

-- the cell at a place of data space
pub in_data : (is_store : Bool) (place : ℕ) → 0x1000 ≤ place → place < 0x2000 → access_at 0x2000 is_store (2 * place) ≡ Data place
in_data is_store place low high =
    let half : 2 * place / 2 ≡ place = omega arith in
    let a : nat_lt (2 * place) 0x4000 ≡ true = lt-ltb (2 * place) 0x4000 (omega arith) in
    let b : nat_le 0x2000 (even (2 * place)) ≡ true = le-leb 0x2000 (even (2 * place)) (omega arith) in
    ap (λ x. if x && nat_le 0x2000 (even (2 * place)) then Data (2 * place / 2) else no_cell is_store (2 * place)) a
    ∙ ap (λ x. if x then Data (2 * place / 2) else no_cell is_store (2 * place)) b ∙ ap Data half

-- a store below a routine keeps it
cells_kept : (memory cells : List ℕ) (place v at : ℕ) → place < at → HasCells memory at cells → HasCells (slice_set memory place v) at cells
cells_kept memory [] place v at below h = tt
cells_kept memory (cell ∷ cells) place v at below h =
    (get_or-set_other memory place at v 0 (λ e. omega (arith, e)) ∙ h.0, cells_kept memory cells place v (at + 1) (omega arith) h.1)

pub code_kept : (memory : List ℕ) (place v : ℕ) → place < drop_return → HasMachineCode memory → HasMachineCode (slice_set memory place v)
code_kept memory place v below h = record {
  size = length-set memory place v ∙ h.size;
  drop_return_cells = cells_kept memory drop_return_code place v drop_return (omega arith) h.drop_return_cells;
  save_cells_first = cells_kept memory save_code place v save (omega arith) h.save_cells_first;
  save_cells_more = cells_kept memory save_cells_code place v save_cells (omega arith) h.save_cells_more;
  load_more_cells = cells_kept memory load_more_code place v load_more (omega arith) h.load_more_cells;
  load_cells = cells_kept memory load_code place v load (omega arith) h.load_cells;
  run_code_cells = cells_kept memory run_code_code place v run_code (omega arith) h.run_code_cells;
  behind_call = cells_kept memory (save ∷ []) place v (run_call + 1) (omega arith) h.behind_call;
}

-- a store above the cells keeps them
stand_up_kept : (memory c : List ℕ) (place v : ℕ) → user_cells + length c < place → StandUp memory c → StandUp (slice_set memory place v) c
stand_up_kept memory [] place v above h = tt
stand_up_kept memory (x ∷ c) place v above h =
    (get_or-set_other memory place (user_cells + length (x ∷ c)) v 0 (λ e. omega (arith, e)) ∙ h.0, stand_up_kept memory c place v (omega arith) h.1)

pub base_kept : (memory c : List ℕ) (v : ℕ) → length c ≤ 31 → HasUserCells memory c → HasUserCells (slice_set memory return_base v) c
base_kept memory c v small h = record {
  number = get_or-set_other memory return_base user_cells v 0 (λ e. omega (arith, e)) ∙ h.number;
  cells = stand_up_kept memory c return_base v (omega arith) h.cells;
}

pub with_code : (c memory : List ℕ) → length c ≤ 31 → HasMachineCode memory → HasMachineCode (with_cells c memory)
with_code [] memory small h = h
with_code (x ∷ c) memory small h = with_code c (slice_set memory (user_cells + length (x ∷ c)) x) (omega arith) (code_kept memory (user_cells + length (x ∷ c)) x (omega arith) h)

-- what is stored there stays
with_others : (c memory : List ℕ) (place : ℕ) → (place ≤ user_cells) ⊎ (user_cells + length c < place) → slice_index (with_cells c memory) place ≡ slice_index memory place
with_others [] memory place out = refl
with_others (x ∷ c) memory place out =
    with_others c (slice_set memory (user_cells + length (x ∷ c)) x) place (⊎_elim (λ low. inl low) (λ high. inr (omega (arith, high))) out)
    ∙ get_or-set_other memory (user_cells + length (x ∷ c)) place x 0 (⊎_elim (λ low. λ e. omega (arith, low, e)) (λ high. λ e. omega (arith, high, e)) out)

with_stand : (c memory : List ℕ) → length c ≤ 31 → length memory ≡ 0x2000 → StandUp (with_cells c memory) c
with_stand [] memory small size = tt
with_stand (x ∷ c) memory small size =
    let now = slice_set memory (user_cells + length (x ∷ c)) x in (
      with_others c now (user_cells + length (x ∷ c)) (inr (omega arith)) ∙ get_or-set_same memory (user_cells + length (x ∷ c)) x 0 (omega (arith, size)),
      with_stand c now (omega arith) (length-set memory (user_cells + length (x ∷ c)) x ∙ size),
    )

pub saved_keeps : (memory c : List ℕ) → HasMachineCode memory → length c ≤ 31 → Keeps memory c
saved_keeps memory c h small =
    let now = slice_set memory user_cells (length c) in
    let code : HasMachineCode now = code_kept memory user_cells (length c) (omega arith) h in
    record {
      code = with_code c now small code;
      cells = record {
        number = with_others c now user_cells (inl (omega arith)) ∙ get_or-set_same memory user_cells (length c) 0 (omega (arith, h.size));
        cells = with_stand c now small code.size;
      };
      others = λ place out.
          with_others c now place (⊎_elim (λ low. inl (omega (arith, low))) (λ high. inr high) out)
          ∙ get_or-set_other memory user_cells place (length c) 0 (⊎_elim (λ low. λ e. omega (arith, low, e)) (λ high. λ e. omega (arith, high, e)) out);
    }
