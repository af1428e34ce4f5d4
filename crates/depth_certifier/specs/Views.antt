-- What the values of the walk stand for.
use Rattle.std.specs.Prelude.{◌≡◌, ℕ, ◌+◌, max, Option, Some, None, ℤ, pos, negsuc, ◌≤ℤ◌}
use Rattle.depth_certifier.specs.declared.effect.Effect.{Effect}
use Rattle.depth_certifier.specs.declared.shape.Entries.{Entries}
use Rattle.depth_certifier.specs.declared.place.Change.{Change}
use Rattle.depth_certifier.specs.declared.place.Demand.{Demand}
use Rattle.depth_certifier.specs.declared.place.Spot.{Spot}
use Rattle.depth_certifier.specs.declared.place.Reach.{Reach}
use Rattle.depth_certifier.specs.declared.place.Reach.TheVariants as reach
use Rattle.depth_certifier.specs.declared.place.EntryChange.{EntryChange}
use Rattle.depth_certifier.specs.declared.place.EntryChange.TheVariants as entries
use Rattle.depth_certifier.specs.declared.place.Bounds.{Bounds}
use Rattle.depth_certifier.specs.Place.{Shape, size, Stand, Place, Unreachable, At, Doubled}
use Rattle.depth_certifier.specs.Entries.{entries_of}
use Rattle.depth_certifier.specs.Certificate.{Limits}
use Rattle.depth_certifier.specs.Effects.{keep, push_loop, shape_after}

abbrev pub exit_of : Option Change → Option (ℤ × ℤ)
exit_of None = None
exit_of (Some x) = Some (x.low, x.high)

abbrev pub effect_of_demand : Demand → Effect
effect_of_demand x = record { need = x.need; peak = x.peak; back = x.back; exit = exit_of x.exit }

abbrev pub stand_of : Spot → Stand
stand_of spot = record { low = spot.low; high = spot.high; shape = entries_of spot.entries }

abbrev pub place_of_reach : Reach → Place
place_of_reach reach.Unreachable = Unreachable
place_of_reach (reach.At spot) = At (stand_of spot)
place_of_reach (reach.Doubled query) = Doubled (stand_of query.spot)

abbrev pub change_of : EntryChange → Shape → Option Shape
change_of entries.Keep shape = keep shape
change_of entries.PushLoop shape = push_loop shape
change_of (entries.ByWord word) shape = shape_after word shape

-- the entries are these, or there are none
abbrev pub EntriesAre : Option Entries → Option Shape → Type 0
EntriesAre None shape = shape ≡ None
EntriesAre (Some entries) shape = shape ≡ Some (entries_of entries)

abbrev pub limits_of : Bounds → Limits
limits_of bounds = record { need = bounds.need; peak = bounds.peak; back = bounds.back; top = bounds.top }

-- the cells of entries, where there are any
abbrev pub sizes_of : Option Entries → Option ℕ
sizes_of None = None
sizes_of (Some entries) = Some (size (entries_of entries))

abbrev pub back_with : ℕ → ℕ → Option ℕ → ℕ
back_with before back None = before + back
back_with before back (Some after) = max (before + back) after

abbrev pub shapes_of : Option Entries → Option Shape
shapes_of None = None
shapes_of (Some entries) = Some (entries_of entries)

-- the exit of a byte at either end
abbrev pub SmallExit : Option Change → Type 0
SmallExit None = Unit {0}
SmallExit (Some x) = (negsuc 127 ≤ℤ x.low) × (x.high ≤ℤ pos 127)

-- a head within the limits
abbrev pub HeadKeeps : ℤ × ℤ → Type 0
HeadKeeps head = (negsuc 32 ≤ℤ head.0) × (head.0 ≤ℤ head.1) × (head.1 ≤ℤ pos 33)
