-- The heads of loops that a walk of the code has noted.
use Rattle.std.specs.Prelude.{ℕ, ◌+◌, ◌≤◌, Bool, true, false, List, length, ℤ, replicate, take}
use Rattle.depth_certifier.specs.declared.walker.Walker.{Walker}
use Rattle.depth_certifier.specs.Certificate.{no_interval}
use Rattle.depth_certifier.specs.Walk.{Walk}
use Rattle.depth_certifier.specs.Walks.{walk_of}

-- a walk that finds heads has written them, and one with given heads counts its loops alone
abbrev pub heads_of : Bool → List (ℤ × ℤ) → ℕ → List (ℤ × ℤ)
heads_of true notes count = take count notes
heads_of false notes count = replicate count no_interval

abbrev pub walk_in : Bool → List (ℤ × ℤ) → Walker → Walk
walk_in finding notes w = record (walk_of w) { heads = heads_of finding notes w.count }

-- there is room for the heads of so many loops more
abbrev pub RoomFor : Bool → ℕ → ℕ → List (ℤ × ℤ) → Type 0
RoomFor true count loops notes = count + loops ≤ length notes
RoomFor false count loops notes = Unit {0}
