-- The first bad line of a text that is no net file.
use Rattle.std.specs.Prelude.{ℕ, ◌≡◌, ◌<◌, ◌+◌, ◌⊎◌, ⊤, List, ◌++◌, length, take}
use Rattle.j1_assembler.specs.Text.{lines_of}
use Rattle.net_file.specs.Net.{NetPlan, AreNetLines, IsNetText}
use Rattle.net_file.specs.declared.error.NetError.{NetError}
use Rattle.net_file.specs.declared.error.NetError.TheVariants as errors

-- a net file can begin with these lines
pub record BeginNet (lines : List (List ℕ)) : Type 0 where
  pub more : List (List ℕ)
  pub net : NetPlan
  pub lines_are : AreNetLines (lines ++ more) net

-- net files begin with the lines before this one; none goes on with it, or the text ends before it and is no net file
pub record IsFirstBadLine (text : List ℕ) (number : ℕ) : Type 0 where
  pub before : ℕ
  pub counted : number ≡ before + 1
  pub begins : BeginNet (take before (lines_of text))
  pub fault :
      ((before < length (lines_of text)) × (BeginNet (take number (lines_of text)) → ⊥))
      ⊎ ((before ≡ length (lines_of text)) × ((net : NetPlan) → IsNetText text net → ⊥))

-- an error tells the first bad line; want of memory tells nothing
abbrev pub IsNetRefusal : List ℕ → NetError → Type 0
IsNetRefusal text (errors.BadLine number) = IsFirstBadLine text number
IsNetRefusal text errors.OutOfMemory = ⊤
