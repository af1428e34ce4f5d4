-- What `make` writes behind the print of its source.
use Rattle.std.specs.Prelude.{ℕ, ◌∷◌, [], List, length, codes, decimal}
use Rattle.forth_program.specs.Program.{SourceProgram}
use Rattle.made_sources.specs.MadeSource.{joined}

-- the numbers of source tokens and of source bytes
unfoldable pub summary : SourceProgram → List ℕ → List ℕ
summary program text = joined (codes "\ntokens " ∷ decimal program.source_tokens ∷ codes " bytes " ∷ decimal (length text) ∷ codes "\n" ∷ [])
