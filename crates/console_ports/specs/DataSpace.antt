-- Where data space may begin.
use Rattle.std.specs.Prelude.{◌≡◌, ℕ, ◌%◌, ◌≤◌}

-- a byte address that splits memory into code and data space
pub record IsDataStart (data_start : ℕ) : Type 0 where
  pub is_even : data_start % 2 ≡ 0
  pub at_least : 4096 ≤ data_start
  pub at_most : data_start ≤ 16000
