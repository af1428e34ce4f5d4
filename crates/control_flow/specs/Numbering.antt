-- Tokens of a piece of a text, numbered on from those before it.
use Rattle.std.specs.Prelude.{ℕ, ◌+◌, Option, Some, None}
use Rattle.forth_reader.specs.declared.refusal.ReadRefusal.{ReadRefusal}
use Rattle.forth_reader.specs.ReaderState.{ReaderState}

-- a refusal, where so many tokens stand before the piece
abbrev pub numbered_on : ℕ → Option ReadRefusal → Option ReadRefusal
numbered_on before None = None
numbered_on before (Some refusal) = Some (record { token = before + refusal.token; cause = refusal.cause })

-- a reader of the piece
abbrev pub with_tokens_before : ℕ → ReaderState → ReaderState
with_tokens_before before state = record state { count = before + state.count; failed = numbered_on before state.failed }
