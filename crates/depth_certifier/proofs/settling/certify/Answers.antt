use Rattle.depth_certifier.specs.Settling.{refusal_of}
use Rattle.depth_certifier.proofs.RefusedBodies.{refused_body}
use Rattle.depth_certifier.proofs.settling.certify.Goals as goal

pub returns-in-Err-clause-none : goal.returns-in-Err-clause-none
returns-in-Err-clause-none c = λ z valid. c.rounds_judge.ensures.none c.args.program.now (refusal_of c.in-Err.refused) z c.in-Err.ensures valid

pub returns-in-Err-clause-named : goal.returns-in-Err-clause-named
returns-in-Err-clause-named c = refused_body (refusal_of c.in-Err.refused) c.args.program.now c.in-Err.ensures.0 c.in-Err.ensures.1
