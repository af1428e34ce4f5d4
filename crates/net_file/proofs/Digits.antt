-- Values of digits.
use Rattle.std.proofs.Common.{◌≡◌, ℕ, ◌+◌, ◌-◌, ◌*◌, ◌≤◌, ◌<◌, List, [], ◌∷◌, length, drop, arith}
use Rattle.std.proofs.lemmas.List.{at_drop_more}
use Rattle.std.specs.Prelude.{slice_index}
use Rattle.net_file.specs.Numbers.{value_from}

-- more digits never make a value smaller
pub value_from_rises : (digits : List ℕ) (value : ℕ) → value ≤ value_from value digits
value_from_rises [] value = omega arith
value_from_rises (digit ∷ digits) value = let h = value_from_rises digits (10 * value + (digit - 48)) in omega arith

-- a value that is too great after some digits is too great after all
pub value_from_passes : (digits : List ℕ) (i value most : ℕ) → value_from value (drop i digits) ≡ value_from 0 digits → i < length digits → most < 10 * value + (slice_index digits i - 48) → most < value_from 0 digits
value_from_passes digits i value most same inside over =
    let step = at_drop_more (value_from value) digits i 0 inside in
    let rises = value_from_rises (drop (i + 1) digits) (10 * value + (slice_index digits i - 48)) in
    omega arith
