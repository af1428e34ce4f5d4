use Rattle.std.proofs.Common.{rules, ◌≡◌, sym, Err}
use Rattle.reference_eval.proofs.AccessSequences as does
use Rattle.reference_eval.proofs.pictures.radix.Goals as goal

pub returns-in_err-radix-clause-does : goal.returns-in_err-radix-clause-does
returns-in_err-radix-clause-does g c = let e : c.from_residual.result ≡ Err c.in_err-radix.field-0.0 = search rules in rw e (does.breaks _ _ _ _ _ c.in_err-radix.ensures)

pub returns-then-not-is_radix-clause-does : goal.returns-then-not-is_radix-clause-does
returns-then-not-is_radix-clause-does g c = does.follows _ _ _ _ _ _ _ c.in_ok-radix.ensures (does.picks_false _ _ _ _ _ _ (sym c.if-not-is_radix.ensures) (does.halts 11 _))

pub returns-clause-does : goal.returns-clause-does
returns-clause-does g c = does.follows _ _ _ _ _ _ _ c.in_ok-radix.ensures (does.picks_true _ _ _ _ _ _ (sym c.if-not-is_radix.ensures) (does.gives_as _ _ _ (sym c.from.ensures)))
