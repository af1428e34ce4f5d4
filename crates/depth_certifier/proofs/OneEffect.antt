-- One effect at a place, as the code takes it.
use Rattle.std.proofs.Common.{◌≡◌, Option, Err, Bool, true, false, ◌&&◌, ap, ◌∙◌}
use Rattle.std.specs.Prelude.{nat_le}
use Rattle.depth_certifier.specs.declared.effect.Effect.{Effect}
use Rattle.depth_certifier.specs.declared.effect.CertCause.TheVariants as cause
use Rattle.depth_certifier.specs.Place.{Shape, Stand}
use Rattle.depth_certifier.specs.Certificate.{after, Limits}
use Rattle.depth_certifier.specs.Walk.{Walk, checked, in_limits, need_at, peak_at, back_at, demanding, shaped, take_with}

module _ (lim : Limits) (x : Effect) (p : Stand) (w : Walk) where
  abbrev pub keeps : Bool
  keeps = nat_le (need_at x p) lim.need && (nat_le (peak_at x p) lim.peak && in_limits (after x.exit p p.shape))

  pub data_refused : (shape : Option Shape) → keeps ≡ false → take_with lim x p shape w ≡ Err cause.Data
  data_refused shape h = ap (λ t. checked t cause.Data (checked (nat_le (back_at x p shape) lim.back) cause.Return (shaped shape (λ s. demanding (need_at x p) (peak_at x p) (back_at x p shape) (after x.exit p s) w)))) h

  pub return_refused : (shape : Option Shape) → keeps ≡ true → nat_le (back_at x p shape) lim.back ≡ false → take_with lim x p shape w ≡ Err cause.Return
  return_refused shape h i =
      ap (λ t. checked t cause.Data (checked (nat_le (back_at x p shape) lim.back) cause.Return (shaped shape (λ s. demanding (need_at x p) (peak_at x p) (back_at x p shape) (after x.exit p s) w)))) h
      ∙ ap (λ t. checked t cause.Return (shaped shape (λ s. demanding (need_at x p) (peak_at x p) (back_at x p shape) (after x.exit p s) w))) i

  pub goes_on : (shape : Option Shape) → keeps ≡ true → nat_le (back_at x p shape) lim.back ≡ true → take_with lim x p shape w ≡ shaped shape (λ s. demanding (need_at x p) (peak_at x p) (back_at x p shape) (after x.exit p s) w)
  goes_on shape h i =
      ap (λ t. checked t cause.Data (checked (nat_le (back_at x p shape) lim.back) cause.Return (shaped shape (λ s. demanding (need_at x p) (peak_at x p) (back_at x p shape) (after x.exit p s) w)))) h
      ∙ ap (λ t. checked t cause.Return (shaped shape (λ s. demanding (need_at x p) (peak_at x p) (back_at x p shape) (after x.exit p s) w))) i
