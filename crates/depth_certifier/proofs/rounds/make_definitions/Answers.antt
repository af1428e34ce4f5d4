use Rattle.std.proofs.Common.{arith, ◌∙◌}
use Rattle.depth_certifier.proofs.Made.{one_refused, one_made, all_made}
use Rattle.depth_certifier.proofs.rounds.make_definitions.Goals as goal

pub returns-in-Err-clause-bodies : goal.returns-in-Err-clause-bodies
returns-in-Err-clause-bodies c =
    one_refused c.args.program.now (record { definitions = c.args.effects.now; shared = c.args.shared }) c.loop-d.d c.loop-d.count c.loop-d.next c.loop-d.notes c.make_definition.new.notes c.in-Err.cause
    (omega (arith, c.loop-d-test.true, c.def_count-d-end.ensures.value)) c.in-Err.ensures.made c.loop-d.invariant.0

pub loop-d-preserved : goal.loop-d-preserved
loop-d-preserved c = (
  one_made c.args.program.now (record { definitions = c.args.effects.now; shared = c.args.shared })
      (record { definitions = c.requires.effects; shared = c.requires.shared }) c.loop-d.d c.loop-d.count c.loop-d.next c.loop-d.notes
      c.make_definition.new.notes c.in-Ok.effect c.in-Ok.more
      (omega (arith, c.loop-d-test.true, c.def_count-d-end.ensures.value))
      (omega (arith, c.loop-d-test.true, c.def_count-d-end.ensures.value, c.loop-d.auto.next, c.requires.next)) c.in-Ok.ensures.count c.in-Ok.ensures.made
      c.loop-d.invariant.0,
  c.make_definition.ensures.length ∙ c.loop-d.invariant.1,
)

pub returns-clause-bodies : goal.returns-clause-bodies
returns-clause-bodies c =
    all_made c.args.program.now (record { definitions = c.args.effects.now; shared = c.args.shared }) c.loop-d.d c.loop-d.count c.loop-d.next c.loop-d.notes
    (omega (arith, c.loop-d-test.false, c.loop-d.auto.d-end, c.def_count-d-end.ensures.value)) (c.loop-d.auto.next ∙ c.requires.next) (c.loop-d.invariant.1 ∙ c.requires.notes) c.loop-d.invariant.0
