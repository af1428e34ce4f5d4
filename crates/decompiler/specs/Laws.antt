-- What a listing is good for.
use Rattle.std.specs.Prelude.{◌≡◌, ℕ, List}
use Rattle.j1_table.specs.Image.{Content}
use Rattle.j1_assembler.specs.Grammar.{Assembles}

-- a text assembles to this image, and to no other
pub record AssemblesOnlyTo (text : List ℕ) (image : Content) : Type 0 where
  pub assembles : Assembles text image
  pub alone : (other : Content) → Assembles text other → other ≡ image
