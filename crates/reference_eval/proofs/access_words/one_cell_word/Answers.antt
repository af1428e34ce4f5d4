use Rattle.std.proofs.Common.{ap, ◌∙◌, refl}
use Rattle.forth_program.specs.Access as access
use Rattle.cell_math.specs.Cell.{sum_of, signed}
use Rattle.forth_program.specs.State.{Gives}
use Rattle.forth_program.specs.PicturedOutput as picture
use Rattle.reference_eval.proofs.AccessSequences as does
use Rattle.reference_eval.proofs.access_words.one_cell_word.Goals as goal
use Rattle.std.proofs.Common.{◌∷◌, []}
use Rattle.std.specs.Prelude.{pos, int_lt, unsigned_abs}
use Rattle.word_table.specs.declared.word.Word.TheVariants as table
use Rattle.reference_eval.proofs.Short as short

pub returns-in_default : goal.returns-in_default
returns-in_default g c = does.underflows c.args.word _ ([]) _ (c.in_default.ensures.0) (short.without_one c.args.word (ap short.takes_one c.requires))

pub returns-in-Fetch : goal.returns-in-Fetch
returns-in-Fetch g c = does.means c.args.word table.Fetch _ (c.in-Some.x ∷ c.pop.new.self) _ _ _ _ c.in-Fetch.is (c.in-Some.ensures) (λ w. refl) (c.put_cell.ensures _ _ _ c.fetch.ensures)

pub returns-in-CFetch : goal.returns-in-CFetch
returns-in-CFetch g c = does.means c.args.word table.CFetch _ (c.in-Some.x ∷ c.pop.new.self) _ _ _ _ c.in-CFetch.is (c.in-Some.ensures) (λ w. refl) (c.put_cell-in-CFetch.ensures _ _ _ c.fetch_byte.ensures)

pub returns-in-TwoFetch : goal.returns-in-TwoFetch
returns-in-TwoFetch g c = does.means c.args.word table.TwoFetch _ (c.in-Some.x ∷ c.pop.new.self) _ _ _ _ c.in-TwoFetch.is (c.in-Some.ensures) (λ w. does.nested_twice (access.fetch
    (sum_of c.in-Some.x 2) w) (λ x w. access.fetch c.in-Some.x w) (λ x y. Gives (x, y)) (λ pair. Gives (pair.1 ∷ pair.0 ∷ c.pop.new.self))) (c.put_pair.ensures _ _ _ c.fetch_pair.ensures)

pub returns-in-Count : goal.returns-in-Count
returns-in-Count g c = does.means c.args.word table.Count _ (c.in-Some.x ∷ c.pop.new.self) _ _ _ _ c.in-Count.is (c.in-Some.ensures) (λ w. does.nested (access.fetch_byte c.in-Some.x w) (λ x. Gives
    (sum_of c.in-Some.x 1, x)) (λ pair. Gives (pair.1 ∷ pair.0 ∷ c.pop.new.self))) (c.put_pair-in-Count.ensures _ _ _ c.count.ensures)

pub returns-in-Comma : goal.returns-in-Comma
returns-in-Comma g c = does.means c.args.word table.Comma _ (c.in-Some.x ∷ c.pop.new.self) _ _ _ _ c.in-Comma.is (c.in-Some.ensures) (λ w. does.nested_twice (access.here w)
    (λ h w. access.store h c.in-Some.x w) (λ h _ w. access.grow_here 2 w) (λ _. Gives c.pop.new.self)) (c.done.ensures _ (c.pop.new.self) _ _ c.comma.ensures)

pub returns-in-CComma : goal.returns-in-CComma
returns-in-CComma g c = does.means c.args.word table.CComma _ (c.in-Some.x ∷ c.pop.new.self) _ _ _ _ c.in-CComma.is (c.in-Some.ensures) (λ w. does.nested_twice (access.here w)
    (λ h w. access.store_byte h c.in-Some.x w) (λ h _ w. access.grow_here 1 w) (λ _. Gives c.pop.new.self)) (c.done-in-CComma.ensures _ (c.pop.new.self) _ _ c.comma_byte.ensures)

pub returns-in-Allot : goal.returns-in-Allot
returns-in-Allot g c = does.means c.args.word table.Allot _ (c.in-Some.x ∷ c.pop.new.self) _ _ _ _ c.in-Allot.is (c.in-Some.ensures) (λ w. refl) (c.done-in-Allot.ensures _ (c.pop.new.self) _ _ c.grow_here.ensures)

pub returns-in-Emit : goal.returns-in-Emit
returns-in-Emit g c = does.means c.args.word table.Emit _ (c.in-Some.x ∷ c.pop.new.self) _ _ _ _ c.in-Emit.is (c.in-Some.ensures) (λ w. refl) (c.done-in-Emit.ensures _ (c.pop.new.self) _ _ (c.store.ensures _ _))

pub returns-in-Spaces : goal.returns-in-Spaces
returns-in-Spaces g c = does.means c.args.word table.Spaces _ (c.in-Some.x ∷ c.pop.new.self) _ _ _ _ c.in-Spaces.is (c.in-Some.ensures) (λ w. refl) (c.done-in-Spaces.ensures _ (c.pop.new.self) _ _ (c.emit_spaces.ensures _ _))

pub returns-in-Hold : goal.returns-in-Hold
returns-in-Hold g c = does.means c.args.word table.Hold _ (c.in-Some.x ∷ c.pop.new.self) _ _ _ _ c.in-Hold.is (c.in-Some.ensures) (λ w. refl) (c.done-in-Hold.ensures _ (c.pop.new.self) _ _ c.hold.ensures)

pub returns-in-Sign : goal.returns-in-Sign
returns-in-Sign g c = does.means c.args.word table.Sign _ (c.in-Some.x ∷ c.pop.new.self) _ _ _ _ c.in-Sign.is (c.in-Some.ensures) (λ w. refl) (c.done-in-Sign.ensures _ (c.pop.new.self) _ _
    (does.does_as _ (picture.hold_sign (int_lt (signed c.in-Some.x) (pos 0))) _ _ _ (λ b w h. ap (λ n. picture.hold_sign n w) c.is_negative.ensures) c.hold_sign.ensures))

pub returns-in-Dot : goal.returns-in-Dot
returns-in-Dot g c = does.means c.args.word table.Dot _ (c.in-Some.x ∷ c.pop.new.self) _ _ _ _ c.in-Dot.is (c.in-Some.ensures) (λ w. refl) (c.done-in-Dot.ensures _ (c.pop.new.self) _ _
    (does.does_as _ (picture.print_number (unsigned_abs (signed c.in-Some.x)) (int_lt (signed c.in-Some.x) (pos 0))) _ _ _ (λ b w h. ap
    (λ n. picture.print_number c.magnitude.result n w) c.is_negative-in-Dot.ensures ∙ ap (λ z. picture.print_number z (int_lt (signed c.in-Some.x) (pos 0)) w) c.magnitude.ensures) c.print_number.ensures))

pub returns-in-UDot : goal.returns-in-UDot
returns-in-UDot g c = does.means c.args.word table.UDot _ (c.in-Some.x ∷ c.pop.new.self) _ _ _ _ c.in-UDot.is (c.in-Some.ensures) (λ w. refl) (c.done-in-UDot.ensures _ (c.pop.new.self) _ _ c.print_number-in-UDot.ensures)
