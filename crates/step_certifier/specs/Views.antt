-- What the code keeps of the item before, as the definitions have it.
use Rattle.step_certifier.specs.declared.last.Last as declared
use Rattle.step_certifier.specs.declared.last.Last.TheVariants as variant
use Rattle.step_certifier.specs.Cost.{Last, Other, One, Two, TextSize}

abbrev pub last_of : declared.Last → Last
last_of variant.Other = Other
last_of (variant.One value) = One value
last_of (variant.Two value next) = Two value next
last_of (variant.TextSize size) = TextSize size
