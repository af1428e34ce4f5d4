use Rattle.std.proofs.Common.{sym, ap, ◌∙◌}
use Rattle.core_array.specs.Network.{Alone}
use Rattle.core_array.proofs.OwnSteps.{told_event, stepped_alone}
use Rattle.core_array.proofs.turns.step_alone.Goals as goal

pub returns-in-Went : goal.returns-in-Went
returns-in-Went c =
    sym (ap (λ e. Alone c.step_apart.new.self (told_event e)) c.in-Went.is) ∙ stepped_alone c.args.machine.now.ended c.step_apart.result c.args.machine.now c.step_apart.new.self c.step_apart.ensures.step (λ e. let is = c.in-Went.is in cc)

pub returns-in-Printed : goal.returns-in-Printed
returns-in-Printed c =
    sym (ap (λ e. Alone c.step_apart.new.self (told_event e)) c.in-Printed.is) ∙ stepped_alone c.args.machine.now.ended c.step_apart.result c.args.machine.now c.step_apart.new.self c.step_apart.ensures.step (λ e. let is = c.in-Printed.is in cc)

pub returns-in-Ended : goal.returns-in-Ended
returns-in-Ended c =
    sym (ap (λ e. Alone c.step_apart.new.self (told_event e)) c.in-Ended.is) ∙ stepped_alone c.args.machine.now.ended c.step_apart.result c.args.machine.now c.step_apart.new.self c.step_apart.ensures.step (λ e. let is = c.in-Ended.is in cc)
