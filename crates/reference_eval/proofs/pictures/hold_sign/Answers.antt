use Rattle.std.proofs.Common.{rules, ◌≡◌, ap}
use Rattle.forth_program.specs.PicturedOutput as picture
use Rattle.reference_eval.proofs.AccessSequences as does
use Rattle.reference_eval.proofs.pictures.hold_sign.Goals as goal
use Rattle.std.proofs.Common.{true, false}

pub returns-then-negative : goal.returns-then-negative
returns-then-negative g c = let e : true ≡ c.args.negative = search rules in does.does_as _ _ _ _ _ (λ b w h. ap (λ n. picture.hold_sign n w) e) c.hold.ensures

pub returns-else-negative : goal.returns-else-negative
returns-else-negative g c = let e : false ≡ c.args.negative = search rules in does.does_as _ _ _ _ _ (λ b w h. ap (λ n. picture.hold_sign n w) e) (does.gives tt _)
