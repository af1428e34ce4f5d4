use Rattle.std.proofs.Common.{◌≡◌, ◌+◌, suc, Err, arith, rules, sym, ◌∙◌, subst}
use Rattle.instruction_trace.specs.Turn.{TurnEnds}
use Rattle.instruction_trace.specs.Leaves.{IsTraceOf}
use Rattle.instruction_trace.proofs.Tracing.{IsTraced, begins, goes_on, ends, breaks, used_up, without_machine}
use Rattle.instruction_trace.proofs.traces.trace.Goals as goal

pub returns-in-Err-clause-trace : goal.returns-in-Err-clause-trace
returns-in-Err-clause-trace g c = without_machine c.args.image.now c.args.n (g.C.Source.left c.args.console.now) (g.O.Sink.held c.args.out.now) (g.C.Source.calls c.args.console.now)

pub loop-made-init : goal.loop-made-init
loop-made-init g c = record {
  traced = begins c.args.image.now c.in-Ok.machine (g.C.Source.left c.args.console.now) (g.O.Sink.held c.args.out.now) (g.C.Source.calls c.args.console.now) c.in-Ok.ensures;
  console_faults = omega arith;
  out_faults = omega arith;
}

pub loop-made-preserved : goal.loop-made-preserved
loop-made-preserved g c =
    let same : suc c.loop-made.made ≡ c.loop-made.made + 1 = omega arith in
    let next : c.loop-made.made + 1 ≡ suc c.loop-made.made = omega arith in
    record {
      traced =
          subst (λ k. IsTraced c.args.image.now k c.turn.new.machine (g.C.Source.left c.args.console.now) (g.C.Source.left c.turn.new.console) (g.O.Sink.held c.args.out.now) (g.O.Sink.held c.turn.new.out)
          (g.C.Source.calls c.args.console.now) (g.C.Source.calls c.turn.new.console)) same
          (goes_on c.args.image.now c.loop-made.made (c.loop-made.made + 1) c.loop-made.machine c.turn.new.machine _ _ _ _ _ _ _ _ _ c.loop-made.invariant.traced next
          c.in_ok-end.ensures.ends.0 (sym c.in_ok-end.ensures.ends.1 ∙ c.in_default.is));
      console_faults = omega (arith, c.turn.ensures.console_faults);
      out_faults = omega (arith, c.turn.ensures.out_faults);
    }

pub returns-in-Some-clause-trace : goal.returns-in-Some-clause-trace
returns-in-Some-clause-trace g c =
    let next : c.loop-made.made + 1 ≡ suc c.loop-made.made = omega arith in
    ends c.args.image.now c.loop-made.made (c.loop-made.made + 1) c.loop-made.machine c.turn.new.machine _ _ _ _ _ _ _ _ _ c.loop-made.invariant.traced next
    c.runs_only_grow.ensures.round c.args.n c.in-Some.end (omega arith) c.in_ok-end.ensures.ends.0 (sym c.in-Some.is ∙ c.in_ok-end.ensures.ends.1)

pub returns-in_err-end-clause-trace : goal.returns-in_err-end-clause-trace
returns-in_err-end-clause-trace g c =
    let next : c.loop-made.made + 1 ≡ suc c.loop-made.made = omega arith in
    let same : c.from_residual.result ≡ Err c.in_err-end.field-0.0 = search rules in
    subst (λ r. IsTraceOf c.args.image.now c.args.n r (g.C.Source.left c.args.console.now) (g.C.Source.left c.turn.new.console) (g.O.Sink.held c.args.out.now) (g.O.Sink.held c.turn.new.out)
    (g.C.Source.calls c.args.console.now) (g.C.Source.calls c.turn.new.console)) (sym same)
    (breaks c.args.image.now c.loop-made.made (c.loop-made.made + 1) c.loop-made.machine c.turn.new.machine _ _ _ _ _ _ _ _ _ c.loop-made.invariant.traced next
    c.args.n c.in_err-end.field-0.0 (omega arith)
    (subst (λ r. TurnEnds (c.loop-made.made + 1) r c.loop-made.machine c.turn.new.machine (g.C.Source.left c.loop-made.console) (g.C.Source.left c.turn.new.console) (g.O.Sink.held c.loop-made.out)
    (g.O.Sink.held c.turn.new.out) (g.C.Source.calls c.loop-made.console) (g.C.Source.calls c.turn.new.console)) c.in_err-end.was c.turn.ensures.ends))

pub returns-clause-trace : goal.returns-clause-trace
returns-clause-trace g c =
    let all : c.loop-made.made ≡ c.args.n = omega arith in
    used_up c.args.image.now c.args.n c.loop-made.machine _ _ _ _ _ _
    (subst (λ k. IsTraced c.args.image.now k c.loop-made.machine (g.C.Source.left c.args.console.now) (g.C.Source.left c.loop-made.console) (g.O.Sink.held c.args.out.now) (g.O.Sink.held c.loop-made.out)
    (g.C.Source.calls c.args.console.now) (g.C.Source.calls c.loop-made.console)) all c.loop-made.invariant.traced)
