use Rattle.std.proofs.Common.{◌≡◌, sym, ◌∙◌}
use Rattle.reference_eval.specs.declared.shapes.Shape.TheVariants as shapes
use Rattle.reference_eval.specs.Machine.{state_of}
use Rattle.reference_eval.proofs.WordSteps.{word_acts}
use Rattle.reference_eval.proofs.StepLaws as law
use Rattle.reference_eval.proofs.machine.Machine.word.Goals as goal

pub returns-in-Frame : goal.returns-in-Frame
returns-in-Frame g c = law.acts_make _ _ _ _ _ c.frame_word.ensures

pub returns-in-TakesNone : goal.returns-in-TakesNone
returns-in-TakesNone g c = law.word_makes c.args.program.now c.args.word _ _ c.args.self.now _ _
    (λ e. let a : c.shape_of_word.result ≡ shapes.TakesNone = c.in-TakesNone.is in let b = c.shape_of_word.ensures in let q : shapes.TakesNone ≡ shapes.Frame = sym a ∙ b ∙ e in absurd cc) c.no_cell_word.ensures

pub returns-in-TakesOne : goal.returns-in-TakesOne
returns-in-TakesOne g c = law.word_makes c.args.program.now c.args.word _ _ c.args.self.now _ _
    (λ e. let a : c.shape_of_word.result ≡ shapes.TakesOne = c.in-TakesOne.is in let b = c.shape_of_word.ensures in let q : shapes.TakesOne ≡ shapes.Frame = sym a ∙ b ∙ e in absurd cc) c.one_cell_word.ensures

pub returns-in-TakesTwo : goal.returns-in-TakesTwo
returns-in-TakesTwo g c = law.word_makes c.args.program.now c.args.word _ _ c.args.self.now _ _
    (λ e. let a : c.shape_of_word.result ≡ shapes.TakesTwo = c.in-TakesTwo.is in let b = c.shape_of_word.ensures in let q : shapes.TakesTwo ≡ shapes.Frame = sym a ∙ b ∙ e in absurd cc) c.two_cell_word.ensures

pub returns-in-TakesThree : goal.returns-in-TakesThree
returns-in-TakesThree g c = law.word_makes c.args.program.now c.args.word _ _ c.args.self.now _ _
    (λ e. let a : c.shape_of_word.result ≡ shapes.TakesThree = c.in-TakesThree.is in let b = c.shape_of_word.ensures in let q : shapes.TakesThree ≡ shapes.Frame = sym a ∙ b ∙ e in absurd cc) c.three_cell_word.ensures

pub returns-in-TakesFour : goal.returns-in-TakesFour
returns-in-TakesFour g c = law.word_makes c.args.program.now c.args.word _ _ c.args.self.now _ _
    (λ e. let a : c.shape_of_word.result ≡ shapes.TakesFour = c.in-TakesFour.is in let b = c.shape_of_word.ensures in let q : shapes.TakesFour ≡ shapes.Frame = sym a ∙ b ∙ e in absurd cc) c.four_cell_word.ensures

pub returns-in_default : goal.returns-in_default
returns-in_default g c = law.acts_make_at _ _ c.args.self.now _ _ c.data_start.result c.data_start.ensures.value (λ w h. word_acts c.args.program.now c.args.word _ _ (state_of c.args.self.now w)
    (λ e. c.in_default.not-Frame (c.shape_of_word.ensures ∙ e)) (c.quiet_word.ensures w h))

pub quiet_word-requires : goal.quiet_word-requires
quiet_word-requires g c = law.is_quiet_shape _ (λ e. c.in_default.not-Frame (c.shape_of_word.ensures ∙ e)) (λ e. c.in_default.not-TakesNone (c.shape_of_word.ensures ∙ e))
    (λ e. c.in_default.not-TakesOne (c.shape_of_word.ensures ∙ e)) (λ e. c.in_default.not-TakesTwo (c.shape_of_word.ensures ∙ e)) (λ e. c.in_default.not-TakesThree (c.shape_of_word.ensures ∙ e))
    (λ e. c.in_default.not-TakesFour (c.shape_of_word.ensures ∙ e))
