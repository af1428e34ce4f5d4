use Rattle.std.proofs.Common.{ap, ◌∙◌}
use Rattle.forth_program.specs.Access as access
use Rattle.forth_program.specs.State.{Gives}
use Rattle.forth_program.specs.ByteWords as bytes
use Rattle.reference_eval.proofs.AccessSequences as does
use Rattle.reference_eval.proofs.access_words.four_cell_word.Goals as goal
use Rattle.std.proofs.Common.{◌∷◌, []}
use Rattle.cell_math.specs.Cell.{double, high_cell, low_cell}
use Rattle.word_table.specs.declared.word.Word.TheVariants as table
use Rattle.reference_eval.proofs.Short as short
use Rattle.forth_program.specs.State.{◌▸◌}

pub returns-in_default : goal.returns-in_default
returns-in_default g c = does.underflows c.args.word _ ([]) _ (c.in_default.ensures.0) (short.without_one c.args.word (ap short.takes_one c.requires))

pub returns-in_default-pop : goal.returns-in_default-pop
returns-in_default-pop g c = does.underflows c.args.word _ (c.in-Some.top ∷ []) _ (c.in-Some.ensures ∙ ap (λ t. c.in-Some.top ∷ t) c.in_default-pop.ensures.0) (short.without_two c.args.word c.in-Some.top (ap short.takes_two c.requires))

pub returns-in_default-pop-2 : goal.returns-in_default-pop-2
returns-in_default-pop-2 g c = does.underflows c.args.word _ (c.in-Some.top ∷ c.in-Some-pop.third ∷ []) _ (c.in-Some.ensures ∙ ap (λ t. c.in-Some.top ∷ t) c.in-Some-pop.ensures ∙ ap
    (λ t. c.in-Some.top ∷ c.in-Some-pop.third ∷ t) c.in_default-pop-2.ensures.0) (short.without_three c.args.word c.in-Some.top c.in-Some-pop.third (ap short.takes_three c.requires))

pub returns-in_default-pop-3 : goal.returns-in_default-pop-3
returns-in_default-pop-3 g c = does.underflows c.args.word _ (c.in-Some.top ∷ c.in-Some-pop.third ∷ c.in-Some-pop-2.second ∷ []) _ (c.in-Some.ensures ∙ ap
    (λ t. c.in-Some.top ∷ t) c.in-Some-pop.ensures ∙ ap (λ t. c.in-Some.top ∷ c.in-Some-pop.third ∷ t) c.in-Some-pop-2.ensures ∙ ap
    (λ t. c.in-Some.top ∷ c.in-Some-pop.third ∷ c.in-Some-pop-2.second ∷ t) c.in_default-pop-3.ensures.0) (short.without_four c.args.word c.in-Some.top c.in-Some-pop.third c.in-Some-pop-2.second (ap short.takes_four c.requires))

pub returns : goal.returns
returns g c = does.means c.args.word table.ToNumber _ (c.in-Some.top ∷ c.in-Some-pop.third ∷ c.in-Some-pop-2.second ∷ c.in-Some-pop-3.first ∷ c.pop-4.new.self) _ _ _ _ c.in-ToNumber.is
    (c.in-Some.ensures ∙ ap (λ t. c.in-Some.top ∷ t) c.in-Some-pop.ensures ∙ ap (λ t. c.in-Some.top ∷ c.in-Some-pop.third ∷ t) c.in-Some-pop-2.ensures ∙ ap
    (λ t. c.in-Some.top ∷ c.in-Some-pop.third ∷ c.in-Some-pop-2.second ∷ t) c.in-Some-pop-3.ensures) (λ w. does.nested (access.base w) (λ b w. bytes.number_from b c.in-Some.top c.in-Some-pop.third
    (double c.in-Some-pop-3.first c.in-Some-pop-2.second) w) (λ r. Gives (r.2 ∷ r.1 ∷ high_cell r.0 ∷ low_cell r.0 ∷ c.pop-4.new.self))) (c.put_rest.ensures _ _ _ (does.does_as _
    (λ w. access.base w ▸ λ b w. bytes.number_from b c.in-Some.top c.in-Some-pop.third (double c.in-Some-pop-3.first c.in-Some-pop-2.second) w) _ _ _ (λ b w h. ap (λ n.
    (access.base w ▸ λ b w. bytes.number_from b c.in-Some.top c.in-Some-pop.third n w)) c.double.ensures) c.number_from.ensures))
