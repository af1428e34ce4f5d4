-- A source text that comes in pieces: what a text has come to at its end, and which texts can be read on.
use Rattle.std.specs.Prelude.{◌≡◌, ℕ, zero, suc, Bool, true, false, List, ◌∷◌, ◌++◌, length, Some, None, ⊤}
use Rattle.word_table.specs.declared.word.Vocabulary.{Vocabulary}
use Rattle.word_table.specs.declared.word.Vocabulary.TheVariants as vocabulary
use Rattle.forth_program.specs.Program.{SourceProgram}
use Rattle.control_flow.specs.declared.refusal.SourceCause.{SourceCause}
use Rattle.control_flow.specs.declared.refusal.SourceCause.TheVariants as cause
use Rattle.control_flow.specs.declared.refusal.SourceError.{SourceError}
use Rattle.control_flow.specs.declared.refusal.SourceError.TheVariants as error
use Rattle.control_flow.specs.ParseResult.{ParseResult, Fine, Refused, Endless, ◌>>=◌}
use Rattle.control_flow.specs.SourceText.{Source, OutsideToken, outside_at, outside_by, source_start, program_of_text}

-- a definition or what is done at once, and what follows it, or the end of the text
abbrev pub read_by : (Source → ParseResult Source) → ℕ → Source → OutsideToken → ParseResult Source
read_by go n source outside = elim outside.sense [
  | Some sense ↦ outside_by n source outside.at sense >>= go
  | None ↦ Fine (record source { at = outside.at })
]

-- what a source has come to at the end of the text, from a place outside definitions on, where fewer than n tokens are read
unfoldable pub read_at : ℕ → Source → ParseResult Source
read_at zero source = Endless
read_at (suc n) source = outside_at source.at >>= read_by (read_at n) n source

-- what a text in a vocabulary has come to at its end, or its first refusal that is not for want of MAIN
abbrev pub source_in : Vocabulary → List ℕ → ParseResult Source
source_in words text = read_at (suc (length text)) (source_start words text)

abbrev pub source_of_text : List ℕ → ParseResult Source
source_of_text text = source_in vocabulary.Source text

abbrev pub is_no_main : SourceCause → Bool
is_no_main cause.NoMain = true
is_no_main c = false

-- nothing but MAIN is missing
abbrev pub LacksOnlyMain : ParseResult SourceProgram → Type 0
LacksOnlyMain (Fine program) = ⊤
LacksOnlyMain (Refused token c) = is_no_main c ≡ true
LacksOnlyMain Endless = ⊥

-- a text that can be read on
abbrev pub IsReadable : List ℕ → Type 0
IsReadable text = LacksOnlyMain (program_of_text text)

-- a text with a piece more, on a line of its own
abbrev pub with_piece : List ℕ → List ℕ → List ℕ
with_piece text piece = text ++ 10 ∷ piece

-- an error is the refusal of a text for another cause than that MAIN is missing, want of memory aside
abbrev pub CannotBeRead : SourceError → ParseResult SourceProgram → Type 0
CannotBeRead (error.Refused refusal) outcome = (outcome ≡ Refused refusal.token refusal.cause) × (is_no_main refusal.cause ≡ false)
CannotBeRead error.OutOfMemory outcome = Unit {0}

-- an error is that MAIN is missing, or want of memory
abbrev pub LacksMain : SourceError → Type 0
LacksMain (error.Refused refusal) = is_no_main refusal.cause ≡ true
LacksMain error.OutOfMemory = Unit {0}
