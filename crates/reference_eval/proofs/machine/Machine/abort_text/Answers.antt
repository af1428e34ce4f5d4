use Rattle.std.proofs.Common.{ap, ◌∙◌, ◌∷◌}
use Rattle.forth_program.specs.Step as step
use Rattle.forth_program.specs.ByteWords.{type_out}
use Rattle.forth_program.specs.declared.item.TextKind.TheVariants as kinds
use Rattle.reference_eval.specs.Machine.{state_of}
use Rattle.reference_eval.proofs.StepLaws as law
use Rattle.reference_eval.proofs.machine.Machine.abort_text.Goals as goal

pub returns-in_default : goal.returns-in_default
returns-in_default g c = law.acts_make _ _ c.args.self.now _ _ (λ w. ap (λ cs. step.text_step kinds.Abort c.args.address c.args.size cs (state_of c.args.self.now w)) c.in_default.ensures.0)

pub returns-then-flag-eq0 : goal.returns-then-flag-eq0
returns-then-flag-eq0 g c = law.acts_make _ _ c.args.self.now _ _ (λ w. ap (λ cs. step.text_step kinds.Abort c.args.address c.args.size cs (state_of c.args.self.now w)) (c.in-Some.ensures ∙ ap (λ f. f ∷ c.pop.new.self) c.if-flag-eq0.true))

pub returns : goal.returns
returns g c = law.aborts c.args.address c.args.size c.in-Some.flag _ c.args.self.now c.pop.new.self _ _ c.in-Some.ensures c.if-flag-eq0.false (c.aborted.ensures (type_out c.args.size c.args.address) c.pop.new.self _ _ c.type_out.ensures)
