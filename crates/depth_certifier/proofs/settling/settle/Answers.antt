use Rattle.std.proofs.Common.{◌<◌, ◌∙◌, sym, subst}
use Rattle.depth_certifier.specs.Settling.{refusal_of}
use Rattle.depth_certifier.proofs.Settled.{Stands, left, stands_intervals, round_refuses, round_ends, round_stands, round_lessens, false_not}
use Rattle.depth_certifier.proofs.settling.settle.Goals as goal

pub round-requires-clause-effects : goal.round-requires-clause-effects
round-requires-clause-effects c = (stands_intervals c.args.program.now c.rounds.effects c.rounds.shared c.rounds.invariant.0).definitions

pub round-requires-clause-shared : goal.round-requires-clause-shared
round-requires-clause-shared c = (stands_intervals c.args.program.now c.rounds.effects c.rounds.shared c.rounds.invariant.0).shared

pub returns-in-Err : goal.returns-in-Err
returns-in-Err c = round_refuses c.args.program.now c.rounds.effects c.rounds.shared c.rounds.invariant.0 (refusal_of c.in-Err.refused) c.in-Err.ensures.round

pub returns-then-is_settled : goal.returns-then-is_settled
returns-then-is_settled c =
    let same = c.is_settled.ensures.0 c.if-is_settled.true in
    round_ends c.args.program.now c.rounds.effects c.rounds.shared c.rounds.invariant.0 c.round.new.next c.in-Ok.joined c.round.new.notes c.in-Ok.ensures.round same.0 same.1

pub rounds-smaller : goal.rounds-smaller
rounds-smaller c =
    subst (λ es. left c.args.program.now es c.in-Ok.joined < left c.args.program.now c.rounds.effects c.rounds.shared) (sym c.copy_from_slice.ensures.after)
    (round_lessens c.args.program.now c.rounds.effects c.rounds.shared c.rounds.invariant.0 c.round.new.next c.in-Ok.joined c.round.new.notes c.in-Ok.ensures.round
    (λ same. false_not c.is_settled.result c.if-is_settled.false (c.is_settled.ensures.1 same)))

pub rounds-preserved : goal.rounds-preserved
rounds-preserved c = (
  subst (λ es. Stands c.args.program.now es c.in-Ok.joined) (sym c.copy_from_slice.ensures.after)
      (round_stands c.args.program.now c.rounds.effects c.rounds.shared c.rounds.invariant.0 c.round.new.next c.in-Ok.joined c.round.new.notes c.in-Ok.ensures.round),
  c.copy_from_slice.ensures.len ∙ c.rounds.invariant.1,
  c.round.ensures.next ∙ c.rounds.invariant.2,
  c.round.ensures.notes ∙ c.rounds.invariant.3,
)
