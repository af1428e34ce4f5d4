use Rattle.forth_program.specs.Access as access
use Rattle.reference_eval.proofs.AccessSequences as does
use Rattle.reference_eval.proofs.accesses.set_base.Goals as goal

pub returns : goal.returns
returns g c = λ left reads. does.at_start (λ start. access.store start c.args.radix) c.data_start-start.result _ _ _ c.data_start-start.ensures.value (c.store.ensures left reads)
