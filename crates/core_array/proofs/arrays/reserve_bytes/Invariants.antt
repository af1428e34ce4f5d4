use Rattle.std.proofs.Common.{◌≡◌, length, map}
use Rattle.core_array.specs.ArrayState.{kept_items}
use Rattle.core_array.proofs.KeptLists.{RoomBelow}
use Rattle.core_array.proofs.arrays.reserve_bytes.Given as goal

abbrev pub invariant-loop-i : goal.invariant-loop-i
invariant-loop-i l = (map kept_items l.lists.items ≡ map kept_items l.initial.lists.items) × (length l.lists.items ≡ length l.initial.lists.items) × (RoomBelow l.i l.n l.lists.items)
