use Rattle.std.proofs.Common.{ap, ◌∙◌, refl}
use Rattle.forth_program.specs.Access as access
use Rattle.cell_math.specs.Cell.{sum_of}
use Rattle.forth_program.specs.State.{Gives}
use Rattle.forth_program.specs.PicturedOutput as picture
use Rattle.reference_eval.proofs.AccessSequences as does
use Rattle.reference_eval.proofs.access_words.two_cell_word.Goals as goal
use Rattle.std.proofs.Common.{◌∷◌, []}
use Rattle.cell_math.specs.Cell.{double}
use Rattle.word_table.specs.declared.word.Word.TheVariants as table
use Rattle.reference_eval.proofs.Short as short

pub returns-in_default : goal.returns-in_default
returns-in_default g c = does.underflows c.args.word _ ([]) _ (c.in_default.ensures.0) (short.without_one c.args.word (ap short.takes_one c.requires))

pub returns-in_default-pop : goal.returns-in_default-pop
returns-in_default-pop g c = does.underflows c.args.word _ (c.in-Some.y ∷ []) _ (c.in-Some.ensures ∙ ap (λ t. c.in-Some.y ∷ t) c.in_default-pop.ensures.0) (short.without_two c.args.word c.in-Some.y (ap short.takes_two c.requires))

pub returns-in-Store : goal.returns-in-Store
returns-in-Store g c = does.means c.args.word table.Store _ (c.in-Some.y ∷ c.in-Some-pop.x ∷ c.pop-2.new.self) _ _ _ _ c.in-Store.is (c.in-Some.ensures ∙ ap
    (λ t. c.in-Some.y ∷ t) c.in-Some-pop.ensures) (λ w. refl) (c.done.ensures _ (c.pop-2.new.self) _ _ (c.store.ensures _ _))

pub returns-in-CStore : goal.returns-in-CStore
returns-in-CStore g c = does.means c.args.word table.CStore _ (c.in-Some.y ∷ c.in-Some-pop.x ∷ c.pop-2.new.self) _ _ _ _ c.in-CStore.is (c.in-Some.ensures ∙ ap
    (λ t. c.in-Some.y ∷ t) c.in-Some-pop.ensures) (λ w. refl) (c.done-in-CStore.ensures _ (c.pop-2.new.self) _ _ c.store_byte.ensures)

pub returns-in-PlusStore : goal.returns-in-PlusStore
returns-in-PlusStore g c = does.means c.args.word table.PlusStore _ (c.in-Some.y ∷ c.in-Some-pop.x ∷ c.pop-2.new.self) _ _ _ _ c.in-PlusStore.is (c.in-Some.ensures ∙ ap
    (λ t. c.in-Some.y ∷ t) c.in-Some-pop.ensures) (λ w. does.nested (access.fetch c.in-Some.y w) (λ y w. access.store c.in-Some.y (sum_of y c.in-Some-pop.x) w) (λ _. Gives c.pop-2.new.self))
    (c.done-in-PlusStore.ensures _ (c.pop-2.new.self) _ _ c.add_at.ensures)

pub returns-in-TypeOut : goal.returns-in-TypeOut
returns-in-TypeOut g c = does.means c.args.word table.TypeOut _ (c.in-Some.y ∷ c.in-Some-pop.x ∷ c.pop-2.new.self) _ _ _ _ c.in-TypeOut.is (c.in-Some.ensures ∙ ap
    (λ t. c.in-Some.y ∷ t) c.in-Some-pop.ensures) (λ w. refl) (c.done-in-TypeOut.ensures _ (c.pop-2.new.self) _ _ c.type_out.ensures)

pub returns-in-Accept : goal.returns-in-Accept
returns-in-Accept g c = does.means c.args.word table.Accept _ (c.in-Some.y ∷ c.in-Some-pop.x ∷ c.pop-2.new.self) _ _ _ _ c.in-Accept.is (c.in-Some.ensures ∙ ap
    (λ t. c.in-Some.y ∷ t) c.in-Some-pop.ensures) (λ w. refl) (c.put_cell.ensures _ _ _ c.accept.ensures)

pub returns-in-Sharp : goal.returns-in-Sharp
returns-in-Sharp g c = does.means c.args.word table.Sharp _ (c.in-Some.y ∷ c.in-Some-pop.x ∷ c.pop-2.new.self) _ _ _ _ c.in-Sharp.is (c.in-Some.ensures ∙ ap
    (λ t. c.in-Some.y ∷ t) c.in-Some-pop.ensures) (λ w. refl) (c.put_double.ensures _ _ _ (does.does_as _ (picture.hold_digit (double c.in-Some-pop.x c.in-Some.y)) _ _ _ (λ b w h. ap
    (λ n. picture.hold_digit n w) c.double.ensures) c.hold_digit.ensures))

pub returns-in-SharpS : goal.returns-in-SharpS
returns-in-SharpS g c = does.means c.args.word table.SharpS _ (c.in-Some.y ∷ c.in-Some-pop.x ∷ c.pop-2.new.self) _ _ _ _ c.in-SharpS.is (c.in-Some.ensures ∙ ap
    (λ t. c.in-Some.y ∷ t) c.in-Some-pop.ensures) (λ w. refl) (c.put_double-in-SharpS.ensures _ _ _ (does.does_as _ (picture.hold_all (double c.in-Some-pop.x c.in-Some.y)) _ _ _ (λ b w h. ap
    (λ n. picture.hold_all n w) c.double-in-SharpS.ensures) c.hold_all.ensures))

pub returns-in-SharpGreater : goal.returns-in-SharpGreater
returns-in-SharpGreater g c = does.means c.args.word table.SharpGreater _ (c.in-Some.y ∷ c.in-Some-pop.x ∷ c.pop-2.new.self) _ _ _ _ c.in-SharpGreater.is (c.in-Some.ensures ∙ ap
    (λ t. c.in-Some.y ∷ t) c.in-Some-pop.ensures) (λ w. refl) (c.put_pair.ensures _ _ _ c.held.ensures)
