use Rattle.std.proofs.Common.{sym, ap, refl}
use Rattle.forth_program.specs.Step as step
use Rattle.forth_program.specs.declared.item.TextKind.TheVariants as kinds
use Rattle.reference_eval.specs.Machine.{state_of}
use Rattle.reference_eval.proofs.WordSteps.{leaves_acts}
use Rattle.reference_eval.proofs.StepLaws as law
use Rattle.reference_eval.proofs.machine.Machine.text.Goals as goal

pub returns-in-Address : goal.returns-in-Address
returns-in-Address g c = law.makes_as (λ s. step.text_step kinds.Address c.args.address c.args.size s.cells s) _ _ c.args.self.now c.args.self.now _ _ _ (λ w. ap
    (λ k. step.text_step k c.args.address c.args.size c.args.self.now.cells (state_of c.args.self.now w)) (sym c.in-Address.is)) (law.acts_make _ _ c.args.self.now _ _ (λ w. leaves_acts _ _ _ (state_of c.args.self.now w) (c.put.ensures w)))

pub returns-in-Print : goal.returns-in-Print
returns-in-Print g c = law.makes_as (λ s. step.text_step kinds.Print c.args.address c.args.size s.cells s) _ _ c.args.self.now c.args.self.now _ _ _ (λ w. ap
    (λ k. step.text_step k c.args.address c.args.size c.args.self.now.cells (state_of c.args.self.now w)) (sym c.in-Print.is))
    (law.prints_text c.args.address c.args.size _ c.args.self.now c.args.self.now.cells _ _ refl (c.done.ensures _ c.args.self.now.cells _ _ c.type_out.ensures))

pub returns-in-Abort : goal.returns-in-Abort
returns-in-Abort g c = law.makes_as (λ s. step.text_step kinds.Abort c.args.address c.args.size s.cells s) _ _ c.args.self.now c.args.self.now _ _ _ (λ w. ap
    (λ k. step.text_step k c.args.address c.args.size c.args.self.now.cells (state_of c.args.self.now w)) (sym c.in-Abort.is)) c.abort_text.ensures
