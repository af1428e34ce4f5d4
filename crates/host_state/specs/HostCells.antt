-- The state on which host words act while a source is read: a stack of at most 32 cells, data space, and execution tokens.
use Rattle.std.specs.Prelude.{ℕ, zero, suc, ◌%◌, nat_lt, true, false, List, [], ◌∷◌, length, Option, Some, None}
use Rattle.host_state.specs.declared.entry.Ticked.{Ticked}
use Rattle.host_state.specs.declared.refusal.HostRefusal.{HostRefusal}
use Rattle.host_state.specs.declared.refusal.HostRefusal.TheVariants as refusal

-- data space while a source is read: where it begins, and its cells up to the highest that was ever written; all others are 0
pub record Space : Type 0 where
  pub data_start : ℕ
  pub cells : List ℕ

-- the cell at a place
abbrev pub cell_at : List ℕ → ℕ → ℕ
cell_at [] place = 0
cell_at (cell ∷ cells) zero = cell
cell_at (cell ∷ cells) (suc place) = cell_at cells place

-- the cells with another one at a place
abbrev pub with_cell : List ℕ → ℕ → ℕ → List ℕ
with_cell [] zero x = x ∷ []
with_cell [] (suc place) x = 0 ∷ with_cell [] place x
with_cell (cell ∷ cells) zero x = x ∷ cells
with_cell (cell ∷ cells) (suc place) x = cell ∷ with_cell cells place x

-- what host words act on: the stack with its top first, data space, and what the execution tokens stand for, token 1 first
pub record Host : Type 0 where
  pub stack : List ℕ
  pub space : Space
  pub tokens : List Ticked

-- what a host word answers: a value and the state after it, or why it is refused
pub data Reply (A : Type 0) : Type 0 where
  Gives : (value : A) (state : Host) → Reply A
  Refuses : (cause : HostRefusal) → Reply A

-- one thing and then the next, where the first is not refused
infixr 1 ◌▸◌
abbrev pub ◌▸◌ : {A B : Type 0} → Reply A → (A → Host → Reply B) → Reply B
Gives value state ▸ next = next value state
Refuses cause ▸ next = Refuses cause

-- takes the top of a stack
abbrev pub pop_from : List ℕ → Host → Reply ℕ
pop_from [] s = Refuses refusal.HostUnderflow
pop_from (x ∷ stack) s = Gives x (record s { stack = stack })

abbrev pub pop : Host → Reply ℕ
pop s = pop_from s.stack s

-- puts a number on the stack as a cell, modulo 65536; the stack has at most 32
abbrev pub push : ℕ → Host → Reply (Unit {0})
push x s = elim (nat_lt (length s.stack) 32) [
  | true ↦ Gives tt (record s { stack = (x % 65536) ∷ s.stack })
  | false ↦ Refuses refusal.HostOverflow
]

-- a value that is there, or a refusal
abbrev pub found_or : {A : Type 0} → HostRefusal → Option A → Host → Reply A
found_or cause None s = Refuses cause
found_or cause (Some x) s = Gives x s
