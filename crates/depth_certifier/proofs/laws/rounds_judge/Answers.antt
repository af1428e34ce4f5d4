use Rattle.depth_certifier.proofs.RoundLaws.{rounds_end, rounds_find_the_least, refused_have_none, one_refusal, one_least}
use Rattle.depth_certifier.proofs.laws.rounds_judge.Goals as goal

pub returns-clause-end : goal.returns-clause-end
returns-clause-end c = rounds_end

pub returns-clause-least : goal.returns-clause-least
returns-clause-least c = rounds_find_the_least

pub returns-clause-none : goal.returns-clause-none
returns-clause-none c = refused_have_none

pub returns-clause-one_refusal : goal.returns-clause-one_refusal
returns-clause-one_refusal c = one_refusal

pub returns-clause-one_least : goal.returns-clause-one_least
returns-clause-one_least c = one_least
