-- What is known at a place in a body: how the number of data cells has changed since the entry, and which entries the body has put on
-- the return stack.
use Rattle.std.specs.Prelude.{◌≡◌, ℕ, ◌+◌, List, [], ◌∷◌, ℤ, pos, negsuc, ◌+ℤ◌, ◌≤ℤ◌}
pub use Rattle.depth_certifier.specs.declared.shape.Slot.{Slot}
pub use Rattle.depth_certifier.specs.declared.shape.Slot.TheVariants.{OfCell, OfLoop}

-- return entries, the newest first, each of one cell or a loop, which has two
abbrev pub Shape : Type 0
Shape = List Slot

-- their cells
abbrev pub size : Shape → ℕ
size [] = 0
size (OfCell ∷ shape) = 1 + size shape
size (OfLoop ∷ shape) = 2 + size shape

-- the least and the greatest change of the data cells since the entry, and the return entries
pub record Stand : Type 0 where
  pub low : ℤ
  pub high : ℤ
  pub shape : Shape

pub data Place : Type 0 where
  Unreachable : Place
  At : (stand : Stand) → Place
  -- after a ?DUP directly before IF or WHILE: so it stands there where the cell was not zero, less its copy; where it was zero, with it
  Doubled : (stand : Stand) → Place

-- with another change
abbrev pub moved : Stand → ℤ → ℤ → Stand
moved p low high = record { low = p.low +ℤ low; high = p.high +ℤ high; shape = p.shape }

abbrev pub entry : Stand
entry = record { low = pos 0; high = pos 0; shape = [] }

-- the one lies inside the other by at least a below and b above, and has the same entries
pub record InsideBy (a b : ℕ) (p q : Stand) : Type 0 where
  pub low : (q.low +ℤ pos a) ≤ℤ p.low
  pub high : (p.high +ℤ pos b) ≤ℤ q.high
  pub same : p.shape ≡ q.shape

abbrev pub BelowBy : ℕ → ℕ → Place → Place → Type 0
BelowBy a b Unreachable t = Unit {0}
BelowBy a b (At p) (At q) = InsideBy a b p q
BelowBy a b (Doubled p) (Doubled q) = InsideBy a b p q
BelowBy a b s t = ⊥

-- what is known at the one place holds at the other too
abbrev pub Below : Place → Place → Type 0
Below s t = BelowBy 0 0 s t

-- all intervals lie within -33 to 33
abbrev pub StandsInLimits : Stand → Type 0
StandsInLimits p = (negsuc 32 ≤ℤ p.low) × (p.high ≤ℤ pos 33)

abbrev pub InLimits : Place → Type 0
InLimits Unreachable = Unit {0}
InLimits (At p) = StandsInLimits p
-- the way of zero has one cell less
InLimits (Doubled p) = (negsuc 31 ≤ℤ p.low) × (p.high ≤ℤ pos 33)

-- a number, or 0 where it is negative
abbrev pub from_zero : ℤ → ℕ
from_zero (pos n) = n
from_zero (negsuc n) = 0
