-- The first bad line of a text.
use Rattle.std.specs.Prelude.{ℕ, ◌+◌, ◌≡◌, ◌<◌, ◌⊎◌, ◌↔◌, Bool, true, false, List, [], ◌∷◌, length, take, slice_index_or, Option, Some, None, option_map}
use Rattle.j1_assembler.specs.declared.refusal.AsmCause.{AsmCause}
use Rattle.j1_assembler.specs.declared.refusal.AsmCause.TheVariants as causes
use Rattle.j1_assembler.specs.declared.refusal.AsmError.{AsmError}
use Rattle.j1_assembler.specs.declared.refusal.AsmError.TheVariants as errors
use Rattle.j1_assembler.specs.declared.assembler.Section.{Section}
use Rattle.j1_assembler.specs.declared.assembler.Section.TheVariants as sections
use Rattle.j1_assembler.specs.declared.labels.Definition.{Definition}
use Rattle.j1_assembler.specs.Text.{lines_of, fields_of}
use Rattle.j1_assembler.specs.Labels.{labels_from, defined}
use Rattle.j1_assembler.specs.Assembly.{LineResult, Fine, Faulty, ◌>>=◌, Part, header_outcome, line_outcome, opened, Refused, assembled}

-- what a line gives where these lines stand before it, or its fault; None stands before the header
abbrev pub step : (List ℕ → Option Definition) → ℕ → Option Part → List ℕ → LineResult (Option Part)
step find number None line = header_outcome line (fields_of line) >>= λ start. Fine (option_map opened start)
step find number (Some part) line = line_outcome find number part line >>= λ part. Fine (Some part)

-- what lines give from this number on, or the first fault among them
abbrev pub steps : (List ℕ → Option Definition) → ℕ → Option Part → List (List ℕ) → LineResult (Option Part)
steps find number part [] = Fine part
steps find number part (line ∷ lines) = step find number part line >>= λ part. steps find (number + 1) part lines

abbrev pub is_end : Section → Bool
is_end sections.End = true
is_end section = false

-- the line `END` is among the lines
abbrev pub is_whole : Option Part → Bool
is_whole None = false
is_whole (Some part) = is_end part.section

-- these lines stand before a line of the text, and none of them has a fault; the line has this one, or the text ends before it
-- without `END`
pub record IsFirstBad (text : List ℕ) (number : ℕ) (cause : AsmCause) : Type 0 where
  pub before : ℕ
  pub part : Option Part
  pub counted : number ≡ before + 1
  pub fine : steps (defined (labels_from 1 (lines_of text))) 1 None (take before (lines_of text)) ≡ Fine part
  pub fault :
      ((before < length (lines_of text)) × (step (defined (labels_from 1 (lines_of text))) number part (slice_index_or (lines_of text) before []) ≡ Faulty cause))
      ⊎ ((before ≡ length (lines_of text)) × (is_whole part ≡ false) × (cause ≡ causes.NoEnd))

-- a text is refused at its first bad line
abbrev pub RefusesFirstBad : Type 0
RefusesFirstBad = (text : List ℕ) (number : ℕ) (cause : AsmCause) → (assembled text ≡ Refused number cause) ↔ IsFirstBad text number cause

-- an error tells the first bad line; want of memory tells nothing
abbrev pub IsRefusal : List ℕ → AsmError → Type 0
IsRefusal text (errors.Refused number cause) = IsFirstBad text number cause
IsRefusal text errors.OutOfMemory = Unit {0}
