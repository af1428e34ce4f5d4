use Rattle.std.proofs.Common.{rules, ap, ◌∙◌}
use Rattle.reference_eval.proofs.StepLaws as law
use Rattle.reference_eval.proofs.machine.Machine.step.Goals as goal
use Rattle.reference_eval.specs.declared.work.First.TheVariants as founds
use Rattle.reference_eval.specs.Work.{works, first_of}

pub returns-in_err-first : goal.returns-in_err-first
returns-in_err-first g c = law.nothing_makes _ _ _ _ _ (search rules)

pub returns-in-Item : goal.returns-in-Item
returns-in-Item g c = law.first_makes c.args.program.now c.args.self.now c.take_first.new.tasks _ (founds.Item c.in-Item.item) _ _ _ (c.in_ok-first.ensures.first ∙ ap (λ f. first_of f
    (works c.take_first.new.tasks)) c.in-Item.is) (c.item.ensures)

pub returns-in-Token : goal.returns-in-Token
returns-in-Token g c = law.first_makes c.args.program.now c.args.self.now c.take_first.new.tasks _ (founds.Token c.in-Token.token) _ _ _ (c.in_ok-first.ensures.first ∙ ap (λ f. first_of f
    (works c.take_first.new.tasks)) c.in-Token.is) (c.token.ensures)

pub returns-in_default : goal.returns-in_default
returns-in_default g c = law.first_makes c.args.program.now c.args.self.now c.take_first.new.tasks _ (c.in_ok-first.first) _ _ _ (c.in_ok-first.ensures.first) (law.acts_make _ _ _ _ _ c.mark.ensures)

pub mark-requires : goal.mark-requires
mark-requires g c = law.is_mark_first c.in_ok-first.first c.in_default.not-Item c.in_default.not-Token

pub item-requires : goal.item-requires
item-requires g c = law.is_open_item c.in_ok-first.first c.in-Item.item c.in-Item.is c.in_ok-first.ensures.open
