use Rattle.std.proofs.Common.{rules, ◌≡◌, ap, Err}
use Rattle.forth_program.specs.Access as access
use Rattle.forth_program.specs.PicturedOutput as picture
use Rattle.reference_eval.proofs.AccessSequences as does
use Rattle.reference_eval.proofs.pictures.print_number.Goals as goal
use Rattle.reference_eval.proofs.Held as held

pub returns-in_err-open_picture : goal.returns-in_err-open_picture
returns-in_err-open_picture g c = let e : c.from_residual.result ≡ Err c.in_err-open_picture.field-0.0 = search rules in rw e (does.breaks _ (λ _. held.prints_digits c.args.size c.args.negative) _ _ _ (c.in_err-open_picture.ensures _ _))

pub returns-in_err-hold_all : goal.returns-in_err-hold_all
returns-in_err-hold_all g c = let e : c.from_residual-in_err-hold_all.result ≡ Err c.in_err-hold_all.field-0.0 = search rules in rw e (does.follows _
    (λ _. held.prints_digits c.args.size c.args.negative) _ _ _ _ _ (c.in_ok-open_picture.ensures _ _) (does.breaks _ (λ _. held.prints_signed c.args.negative) _ _ _ (does.does_as _
    (picture.hold_all c.args.size) _ _ _ (λ b w h. ap (λ n. picture.hold_all n w) c.from.ensures) c.in_err-hold_all.ensures)))

pub returns-in_err-hold_sign : goal.returns-in_err-hold_sign
returns-in_err-hold_sign g c = let e : c.from_residual-in_err-hold_sign.result ≡ Err c.in_err-hold_sign.field-0.0 = search rules in rw e (does.follows _
    (λ _. held.prints_digits c.args.size c.args.negative) _ _ _ _ _ (c.in_ok-open_picture.ensures _ _) (does.follows _ (λ _. held.prints_signed c.args.negative) _ _ _ _ _ (does.does_as _
    (picture.hold_all c.args.size) _ _ _ (λ b w h. ap (λ n. picture.hold_all n w) c.from.ensures) c.in_ok-hold_all.ensures) (does.breaks _ (λ _. held.prints_held) _ _ _ c.in_err-hold_sign.ensures)))

pub returns-in_err-picture : goal.returns-in_err-picture
returns-in_err-picture g c = let e : c.from_residual-in_err-picture.result ≡ Err c.in_err-picture.field-0.0 = search rules in rw e (does.follows _
    (λ _. held.prints_digits c.args.size c.args.negative) _ _ _ _ _ (c.in_ok-open_picture.ensures _ _) (does.follows _ (λ _. held.prints_signed c.args.negative) _ _ _ _ _ (does.does_as _
    (picture.hold_all c.args.size) _ _ _ (λ b w h. ap (λ n. picture.hold_all n w) c.from.ensures) c.in_ok-hold_all.ensures) (does.follows _ (λ _. held.prints_held) _ _ _ _ _ c.in_ok-hold_sign.ensures
    (does.breaks _ held.prints_picture _ _ _ c.in_err-picture.ensures))))

pub returns-in_err-type_out : goal.returns-in_err-type_out
returns-in_err-type_out g c = let e : c.from_residual-in_err-type_out.result ≡ Err c.in_err-type_out.field-0.0 = search rules in rw e (does.follows _
    (λ _. held.prints_digits c.args.size c.args.negative) _ _ _ _ _ (c.in_ok-open_picture.ensures _ _) (does.follows _ (λ _. held.prints_signed c.args.negative) _ _ _ _ _ (does.does_as _
    (picture.hold_all c.args.size) _ _ _ (λ b w h. ap (λ n. picture.hold_all n w) c.from.ensures) c.in_ok-hold_all.ensures) (does.follows _ (λ _. held.prints_held) _ _ _ _ _ c.in_ok-hold_sign.ensures
    (does.follows _ held.prints_picture _ _ _ _ _ c.in_ok-picture.ensures (does.breaks _ (λ _. access.emit 32) _ _ _ c.in_err-type_out.ensures)))))

pub returns : goal.returns
returns g c = does.follows _ (λ _. held.prints_digits c.args.size c.args.negative) _ _ _ _ _ (c.in_ok-open_picture.ensures _ _) (does.follows _ (λ _. held.prints_signed c.args.negative) _ _ _ _ _
    (does.does_as _ (picture.hold_all c.args.size) _ _ _ (λ b w h. ap (λ n. picture.hold_all n w) c.from.ensures) c.in_ok-hold_all.ensures) (does.follows _
    (λ _. held.prints_held) _ _ _ _ _ c.in_ok-hold_sign.ensures (does.follows _ held.prints_picture _ _ _ _ _ c.in_ok-picture.ensures (does.follows _ (λ _. access.emit 32) _ _ _ _ _ c.in_ok-type_out.ensures (c.store.ensures _ _)))))
