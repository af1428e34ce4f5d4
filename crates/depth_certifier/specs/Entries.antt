-- The return entries of the code, which has the oldest first.
use Rattle.std.specs.Prelude.{List, [], ◌∷◌, reverse, take, Option, Some, None}
use Rattle.depth_certifier.specs.declared.shape.Slot.{Slot}
use Rattle.depth_certifier.specs.declared.shape.Entries.{Entries}

abbrev pub entries_of : Entries → List Slot
entries_of entries = reverse (take entries.count entries.slots)

abbrev pub newest_of : List Slot → Option Slot
newest_of [] = None
newest_of (slot ∷ slots) = Some slot

abbrev pub older_of : List Slot → List Slot
older_of [] = []
older_of (slot ∷ slots) = slots
