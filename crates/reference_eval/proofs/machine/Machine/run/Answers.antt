use Rattle.std.proofs.Common.{rules, ◌≡◌, ◌+◌, ◌-◌, refl, sym, ◌∙◌, arith, true}
use Rattle.reference_eval.proofs.RunMade.{made_none, made_more, broken_off, write_failed, all_made}
use Rattle.reference_eval.proofs.machine.Machine.run.Goals as goal

pub loop-left-init : goal.loop-left-init
loop-left-init g c = (omega arith, made_none _ _ _ _ (omega arith))

pub loop-left-preserved : goal.loop-left-preserved
loop-left-preserved g c = (omega arith, made_more _ (c.args.k - c.loop-left.left) _ _ _ _ _ _ _ _ c.runs_compose.ensures.composed (omega arith) c.loop-left.invariant.1 c.in_ok-step.ensures)

pub returns-in_err-step : goal.returns-in_err-step
returns-in_err-step g c = broken_off _ (c.args.k - c.loop-left.left) c.args.k _ _ _ _ _ c.in_err-step.field-0.0 _ _ _ c.runs_compose.ensures.composed c.runs_compose.ensures.ended (omega arith) refl
    (search rules) c.loop-left.invariant.1 c.in_err-step.ensures

pub returns-then-has_failed : goal.returns-then-has_failed
returns-then-has_failed g c =
    let failed : c.step.new.memory.failed ≡ true = sym c.has_failed.ensures ∙ c.if-has_failed.true in
    write_failed _ ((c.args.k - c.loop-left.left) + 1) c.args.k _ _ _ _ (omega arith) failed (made_more _ (c.args.k - c.loop-left.left) _ _ _ _ _ _ _ _ c.runs_compose.ensures.composed refl c.loop-left.invariant.1 c.in_ok-step.ensures)

pub returns : goal.returns
returns g c = all_made _ (c.args.k - c.loop-left.left) c.args.k _ _ _ _ (omega arith) c.loop-left.invariant.1
