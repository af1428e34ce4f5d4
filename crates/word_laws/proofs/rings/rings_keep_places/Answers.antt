use Rattle.word_laws.proofs.Stacks.{down_agrees, others_agree}
use Rattle.word_laws.proofs.rings.rings_keep_places.Goals as goal

pub returns-clause-down : goal.returns-clause-down
returns-clause-down c = λ tape ring. down_agrees tape ring

pub returns-clause-others : goal.returns-clause-others
returns-clause-others c = λ kept tape ring above others. others_agree kept tape ring above others
