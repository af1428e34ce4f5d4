use Rattle.std.proofs.Common.{rules, ◌∙◌}
use Rattle.core_array.specs.contracts.arrays.Array.{the_view}
use Rattle.core_array.proofs.SingleSteps.{step_follows, whole}
use Rattle.core_array.proofs.arrays.Array.step.Goals as goal

pub returns-clause-event : goal.returns-clause-event
returns-clause-event c =
    (step_follows (the_view c.self.inside) c.args.self.now c.args.core c.from.result c.deref.result.now c.index_mut-machine.result.now c.make.new.machine
    c.deref_mut.result.now c.make.new.mailboxes c.make.result c.self.view_is (search rules) c.deref.ensures.value c.deref_mut.ensures.value
    c.requires (search rules) c.make.ensures.does).event

pub returns-clause-cores : goal.returns-clause-cores
returns-clause-cores c =
    (step_follows (the_view c.self.inside) c.args.self.now c.args.core c.from.result c.deref.result.now c.index_mut-machine.result.now c.make.new.machine
    c.deref_mut.result.now c.make.new.mailboxes c.make.result c.self.view_is (search rules) c.deref.ensures.value c.deref_mut.ensures.value
    c.requires (search rules) c.make.ensures.does).cores

pub returns-clause-mailboxes : goal.returns-clause-mailboxes
returns-clause-mailboxes c =
    whole _ _ _ (search rules) ∙ (step_follows (the_view c.self.inside) c.args.self.now c.args.core c.from.result c.deref.result.now c.index_mut-machine.result.now c.make.new.machine
    c.deref_mut.result.now c.make.new.mailboxes c.make.result c.self.view_is (search rules) c.deref.ensures.value c.deref_mut.ensures.value
    c.requires (search rules) c.make.ensures.does).mailboxes
