use Rattle.std.proofs.Common.{rules, ◌≡◌, sym, ap, Err}
use Rattle.forth_program.specs.Access as access
use Rattle.reference_eval.proofs.AccessSequences as does
use Rattle.reference_eval.proofs.pictures.hold.Goals as goal
use Rattle.reference_eval.proofs.Held as held

pub returns-in_err-old : goal.returns-in_err-old
returns-in_err-old g c = let e : c.from_residual.result ≡ Err c.in_err-old.field-0.0 = search rules in rw e (does.breaks _ _ _ _ _ c.in_err-old.ensures)

pub returns-then-not-is_in_buffer : goal.returns-then-not-is_in_buffer
returns-then-not-is_in_buffer g c = does.follows _ _ _ _ _ _ _ c.in_ok-old.ensures (does.does_as (held.may_hold c.less-pointer.result c.args.byte) _ _ _ _ (λ b w h. ap
    (λ p. held.may_hold p c.args.byte w) c.less-pointer.ensures) (held.has_no_room c.less-pointer.result c.args.byte _ (sym c.if-not-is_in_buffer.ensures)))

pub returns-in_err-set_hold_pointer : goal.returns-in_err-set_hold_pointer
returns-in_err-set_hold_pointer g c = let e : c.from_residual-in_err-set_hold_pointer.result ≡ Err c.in_err-set_hold_pointer.field-0.0 = search rules in rw e
    (does.follows _ _ _ _ _ _ _ c.in_ok-old.ensures (does.does_as (held.may_hold c.less-pointer.result c.args.byte) _ _ _ _ (λ b w h. ap (λ p. held.may_hold p c.args.byte w) c.less-pointer.ensures)
    (held.has_room c.less-pointer.result c.args.byte _ _ _ (sym c.if-not-is_in_buffer.ensures) (does.breaks _ (λ _. access.store_byte c.less-pointer.result c.args.byte) _ _ _ (c.in_err-set_hold_pointer.ensures _ _)))))

pub returns : goal.returns
returns g c = does.follows _ _ _ _ _ _ _ c.in_ok-old.ensures (does.does_as (held.may_hold c.less-pointer.result c.args.byte) _ _ _ _ (λ b w h. ap
    (λ p. held.may_hold p c.args.byte w) c.less-pointer.ensures) (held.has_room c.less-pointer.result c.args.byte _ _ _ (sym c.if-not-is_in_buffer.ensures) (does.follows _
    (λ _. access.store_byte c.less-pointer.result c.args.byte) _ _ _ _ _ (c.in_ok-set_hold_pointer.ensures _ _) c.store_byte.ensures)))
