-- The round machine, which the simulator is: cells are numbers, and stacks are rings of 32 places.
use Rattle.std.specs.Prelude.{ℕ, ℤ, pos, ◌+ℤ◌, unsigned_abs, List, Some, slice_index, slice_set, replicate}
use Rattle.std.specs.Int.{int_rem_euclid}
use Rattle.j1_simulator.specs.Step.{Storage}

-- the cells of a ring, and its pointer, which is below 32
pub record RingCells : Type 0 where
  pub cells : List ℕ
  pub at : ℕ

-- a whole number modulo 32
abbrev pub around : ℤ → ℕ
around place = unsigned_abs (int_rem_euclid place (pos 32))

abbrev pub ring_moved : ℤ → RingCells → RingCells
ring_moved move ring = record { cells = ring.cells; at = around (pos ring.at +ℤ move) }

abbrev pub ring_put : ℕ → RingCells → RingCells
ring_put cell ring = record { cells = slice_set ring.cells ring.at cell; at = ring.at }

abbrev pub ring_top : RingCells → ℕ
ring_top ring = slice_index ring.cells ring.at

abbrev pub round_storage : Storage ℕ RingCells
round_storage = record { number = λ n. n; on_one = λ f t. f t; on_two = λ f t n. f t n; known = λ n. Some n; top = ring_top; moved = ring_moved; put = ring_put; place = λ ring. ring.at }

abbrev pub empty_ring : RingCells
empty_ring = record { cells = replicate 32 0; at = 0 }
