use Rattle.std.proofs.Common.{rules, ◌≡◌, ap, Err, ◌%◌}
use Rattle.forth_program.specs.State.{Gives}
use Rattle.forth_program.specs.PicturedOutput as picture
use Rattle.reference_eval.proofs.AccessSequences as does
use Rattle.reference_eval.proofs.pictures.hold_digit.Goals as goal
use Rattle.std.proofs.Common.{◌/◌}

pub returns-in_err-by : goal.returns-in_err-by
returns-in_err-by g c = let e : c.from_residual.result ≡ Err c.in_err-by.field-0.0 = search rules in rw e (does.breaks _ _ _ _ _ c.in_err-by.ensures.does)

pub returns-in_err-hold : goal.returns-in_err-hold
returns-in_err-hold g c = let e : c.from_residual-in_err-hold.result ≡ Err c.in_err-hold.field-0.0 = search rules in rw e (does.follows _ _ _ _ _ _ _ c.in_ok-by.ensures.does (does.breaks _
    (λ _. Gives (c.args.number / c.in_ok-by.by)) _ _ _ (does.does_as _ (picture.hold (picture.digit_char (c.args.number % c.in_ok-by.by))) _ _ _ (λ b w h. ap (λ x. picture.hold x w) c.digit_char-digit.ensures) c.in_err-hold.ensures)))

pub returns : goal.returns
returns g c = does.follows _ _ _ _ _ _ _ c.in_ok-by.ensures.does (does.follows _ (λ _. Gives (c.args.number / c.in_ok-by.by)) _ _ _ _ _ (does.does_as _ (picture.hold (picture.digit_char
    (c.args.number % c.in_ok-by.by))) _ _ _ (λ b w h. ap (λ x. picture.hold x w) c.digit_char-digit.ensures) c.in_ok-hold.ensures) (does.gives _ _))
