-- What is computed of a text is what it is.
use Rattle.std.specs.Prelude.{ℕ, ◌≡◌, ◌↔◌, List}
use Rattle.net_file.specs.Net.{NetPlan, IsNetText}
use Rattle.net_file.specs.FirstBad.{IsFirstBadLine}
use Rattle.net_file.specs.Reading.{ToldNet, BadAt, net_told}

-- a text is the file of the net that is read, and of no other
abbrev pub TellsNet : Type 0
TellsNet = (text : List ℕ) (net : NetPlan) → (net_told text ≡ ToldNet net) ↔ IsNetText text net

-- every other text is refused at its first bad line
abbrev pub RefusesFirstBadLine : Type 0
RefusesFirstBadLine = (text : List ℕ) (number : ℕ) → (net_told text ≡ BadAt number) ↔ IsFirstBadLine text number
