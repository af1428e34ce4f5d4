use Rattle.std.proofs.Common.{ap, ◌∙◌, refl}
use Rattle.forth_program.specs.Access as access
use Rattle.cell_math.specs.Cell.{sum_of}
use Rattle.forth_program.specs.State.{Gives}
use Rattle.reference_eval.proofs.AccessSequences as does
use Rattle.reference_eval.proofs.access_words.three_cell_word.Goals as goal
use Rattle.std.proofs.Common.{◌∷◌, []}
use Rattle.word_table.specs.declared.word.Word.TheVariants as table
use Rattle.reference_eval.proofs.Short as short

pub returns-in_default : goal.returns-in_default
returns-in_default g c = does.underflows c.args.word _ ([]) _ (c.in_default.ensures.0) (short.without_one c.args.word (ap short.takes_one c.requires))

pub returns-in_default-pop : goal.returns-in_default-pop
returns-in_default-pop g c = does.underflows c.args.word _ (c.in-Some.z ∷ []) _ (c.in-Some.ensures ∙ ap (λ t. c.in-Some.z ∷ t) c.in_default-pop.ensures.0) (short.without_two c.args.word c.in-Some.z (ap short.takes_two c.requires))

pub returns-in_default-pop-2 : goal.returns-in_default-pop-2
returns-in_default-pop-2 g c = does.underflows c.args.word _ (c.in-Some.z ∷ c.in-Some-pop.y ∷ []) _ (c.in-Some.ensures ∙ ap (λ t. c.in-Some.z ∷ t) c.in-Some-pop.ensures ∙ ap
    (λ t. c.in-Some.z ∷ c.in-Some-pop.y ∷ t) c.in_default-pop-2.ensures.0) (short.without_three c.args.word c.in-Some.z c.in-Some-pop.y (ap short.takes_three c.requires))

pub returns-in-TwoStore : goal.returns-in-TwoStore
returns-in-TwoStore g c = does.means c.args.word table.TwoStore _ (c.in-Some.z ∷ c.in-Some-pop.y ∷ c.in-Some-pop-2.x ∷ c.pop-3.new.self) _ _ _ _ c.in-TwoStore.is (c.in-Some.ensures ∙ ap
    (λ t. c.in-Some.z ∷ t) c.in-Some-pop.ensures ∙ ap (λ t. c.in-Some.z ∷ c.in-Some-pop.y ∷ t) c.in-Some-pop-2.ensures) (λ w. does.nested (access.store c.in-Some.z c.in-Some-pop.y w)
    (λ _ w. access.store (sum_of c.in-Some.z 2) c.in-Some-pop-2.x w) (λ _. Gives c.pop-3.new.self)) (c.done.ensures _ (c.pop-3.new.self) _ _ (c.store_pair.ensures _ _))

pub returns-in-Fill : goal.returns-in-Fill
returns-in-Fill g c = does.means c.args.word table.Fill _ (c.in-Some.z ∷ c.in-Some-pop.y ∷ c.in-Some-pop-2.x ∷ c.pop-3.new.self) _ _ _ _ c.in-Fill.is (c.in-Some.ensures ∙ ap
    (λ t. c.in-Some.z ∷ t) c.in-Some-pop.ensures ∙ ap (λ t. c.in-Some.z ∷ c.in-Some-pop.y ∷ t) c.in-Some-pop-2.ensures) (λ w. refl) (c.done-in-Fill.ensures _ (c.pop-3.new.self) _ _ c.fill.ensures)

pub returns-in-Move : goal.returns-in-Move
returns-in-Move g c = does.means c.args.word table.Move _ (c.in-Some.z ∷ c.in-Some-pop.y ∷ c.in-Some-pop-2.x ∷ c.pop-3.new.self) _ _ _ _ c.in-Move.is (c.in-Some.ensures ∙ ap
    (λ t. c.in-Some.z ∷ t) c.in-Some-pop.ensures ∙ ap (λ t. c.in-Some.z ∷ c.in-Some-pop.y ∷ t) c.in-Some-pop-2.ensures) (λ w. refl) (c.done-in-Move.ensures _ (c.pop-3.new.self) _ _ c.move_bytes.ensures)
