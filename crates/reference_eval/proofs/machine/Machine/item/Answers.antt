use Rattle.std.proofs.Common.{sym, ap}
use Rattle.forth_program.specs.Step as step
use Rattle.forth_program.specs.ItemTrees.{node_of}
use Rattle.reference_eval.specs.Machine.{state_of}
use Rattle.reference_eval.proofs.StepLaws as law
use Rattle.reference_eval.proofs.machine.Machine.item.Goals as goal
use Rattle.forth_program.specs.declared.item.Item as items

pub returns-in-Word : goal.returns-in-Word
returns-in-Word g c = law.makes_as (λ s. step.act c.args.program.now (step.first_in (node_of (items.Word c.in-Word.word)) s.work) s) _ _ c.args.self.now c.args.self.now _ _ _ (λ w. ap
    (λ t. step.act c.args.program.now (step.first_in (node_of t) (state_of c.args.self.now w).work) (state_of c.args.self.now w)) (sym c.in-Word.is)) (c.word.ensures)

pub returns-in-Text : goal.returns-in-Text
returns-in-Text g c = law.makes_as (λ s. step.act c.args.program.now (step.first_in (node_of
    (items.Text c.in-Text.kind c.in-Text.address c.in-Text.size)) s.work) s) _ _ c.args.self.now c.args.self.now _ _ _ (λ w. ap (λ t. step.act c.args.program.now (step.first_in (node_of t)
    (state_of c.args.self.now w).work) (state_of c.args.self.now w)) (sym c.in-Text.is)) (c.text.ensures)

pub returns-in_default : goal.returns-in_default
returns-in_default g c = law.acts_make _ _ c.args.self.now _ _ c.structure.ensures

pub structure-requires : goal.structure-requires
structure-requires g c = law.is_other c.args.item.now c.requires c.in_default.not-Word c.in_default.not-Text
