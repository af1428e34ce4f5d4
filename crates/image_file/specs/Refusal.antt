-- What it means that bytes are refused.
use Rattle.std.specs.Prelude.{ℕ, List}
use Rattle.image_file.specs.declared.read.ImageError.{ImageError}
use Rattle.image_file.specs.declared.read.ImageError.TheVariants.{Refused, OutOfMemory}
use Rattle.image_file.specs.File.{FirstBad}

-- a refusal tells the first bad offset; want of memory tells nothing
abbrev pub IsRefusal : List ℕ → ImageError → Type 0
IsRefusal bytes (Refused offset) = FirstBad bytes offset
IsRefusal bytes OutOfMemory = Unit {0}
