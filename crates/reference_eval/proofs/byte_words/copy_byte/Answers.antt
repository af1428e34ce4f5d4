use Rattle.std.proofs.Common.{rules, ◌≡◌, Err}
use Rattle.reference_eval.proofs.AccessSequences as does
use Rattle.reference_eval.proofs.byte_words.copy_byte.Goals as goal

pub returns-in_err-byte : goal.returns-in_err-byte
returns-in_err-byte g c = let e : c.from_residual.result ≡ Err c.in_err-byte.field-0.0 = search rules in rw e (does.breaks _ _ _ _ _ c.in_err-byte.ensures)

pub returns : goal.returns
returns g c = does.follows _ _ _ _ _ _ _ c.in_ok-byte.ensures (c.store_byte.ensures)
