-- Where a walk refuses nothing, the items fit every effect above its own, with its heads.
use Rattle.std.proofs.Common.{◌≡◌, ℕ, ◌+◌, max, List, [], ◌∷◌, ◌++◌, length, Option, Some, None, Ok, Err, true, ◌&&◌, refl, sym, ap, ◌∙◌, subst, arith, append_assoc, length-append}
use Rattle.std.specs.Prelude.{nat_le, nat_lt, int_le, pos, negsuc, ℤ, ◌+ℤ◌, ◌-ℤ◌, ◌≤ℤ◌, slice_index_or}
use Rattle.std.proofs.lemmas.Int.{ints}
use Rattle.std.proofs.lemmas.Bool.{and_parts}
use Rattle.word_table.specs.declared.word.Word.TheVariants as table
use Rattle.word_table.specs.declared.word.Word.TheVariants.{QDup}
use Rattle.depth_certifier.specs.declared.effect.Effect.{Effect}
use Rattle.depth_certifier.specs.declared.effect.CertCause.TheVariants as cause
use Rattle.depth_certifier.specs.Place.{Shape, size, Stand, Place, Unreachable, At, Doubled, InsideBy, Below, InLimits}
use Rattle.depth_certifier.specs.Effects.{table_effect, keep}
use Rattle.depth_certifier.specs.Certificate.{after, Allows, Leads, Doubles, Decides, no_interval, Head, ExitHas, EndsBody, ExitIn, EffectIn, Limits}
use Rattle.depth_certifier.specs.Walk.{Walk, checked, in_limits, same_shape, need_at, peak_at, back_at, demanding, take_with, take_at, takes, double_at}
use Rattle.depth_certifier.specs.Walk.{decide_at, decides, with_exit, end_at, ends, zero_way, hull, join_at, joins, leave_at, leaving, noting, enter_given}
use Rattle.depth_certifier.specs.Walk.{enters, back_to, returns_to, made}
use Rattle.depth_certifier.proofs.SourcePlaces.{below_same, below_then}
use Rattle.depth_certifier.proofs.Tests.{le_from_zero, int_le_true, same_shape_true, checked_ok, min_left, min_right, max_left, max_right, exit_in_same, effect_in_same, effect_in_then}

-- what stays and what grows over n loops
pub record Grows (w m : Walk) (n : ℕ) : Type 0 where
  pub effect : EffectIn (made w) (made m)
  pub leaves : Below w.leaves m.leaves
  pub more : List (ℤ × ℤ)
  pub heads : m.heads ≡ w.heads ++ more
  pub count : length more ≡ n

pub append_nil : {A : Type 0} (xs : List A) → xs ≡ xs ++ []
append_nil [] = refl
append_nil (x ∷ xs) = ap (λ z. x ∷ z) (append_nil xs)

pub grows_then : (w m o : Walk) (j k : ℕ) → Grows w m j → Grows m o k → Grows w o (j + k)
grows_then w m o j k g h = record {
  effect = effect_in_then (made w) (made m) (made o) g.effect h.effect;
  leaves = below_then 0 0 w.leaves m.leaves o.leaves g.leaves h.leaves;
  more = g.more ++ h.more;
  heads = h.heads ∙ ap (λ z. z ++ h.more) g.heads ∙ append_assoc w.heads g.more h.more;
  count = length-append g.more h.more ∙ ap (λ z. z + length h.more) g.count ∙ ap (λ z. j + z) h.count;
}

pub grows_same : (w m : Walk) → EffectIn (made w) (made m) → Below w.leaves m.leaves → m.heads ≡ w.heads → Grows w m 0
grows_same w m e l h = record { effect = e; leaves = l; more = []; heads = h ∙ append_nil w.heads; count = refl }

pub grows_as : (w m : Walk) (j k : ℕ) → j ≡ k → Grows w m j → Grows w m k
grows_as w m j k e g = subst (λ z. Grows w m z) e g

-- with other places and leaves
pub grows_set : (w m : Walk) (n : ℕ) (s s' l l' : Place) → Grows w m n → Below l l' → Grows (record w { place = s; leaves = l }) (record m { place = s'; leaves = l' }) n
grows_set w m n s s' l l' g b = record { effect = g.effect; leaves = b; more = g.more; heads = g.heads; count = g.count }

pub grows_length : (w m : Walk) (n : ℕ) → Grows w m n → length m.heads ≡ length w.heads + n
grows_length w m n g = ap length g.heads ∙ length-append w.heads g.more ∙ ap (λ z. length w.heads + z) g.count

limits_true : (x : Option (ℤ × ℤ)) (p : Stand) (shape : Shape) → in_limits (after x p p.shape) ≡ true → InLimits (after x p shape)
limits_true None p shape h = tt
limits_true (Some x) p shape h =
    let t = and_parts (int_le (negsuc 32) (p.low +ℤ x.0)) (int_le (p.high +ℤ x.1) (pos 33)) h in
    (int_le_true (negsuc 32) (p.low +ℤ x.0) t.0, int_le_true (p.high +ℤ x.1) (pos 33) t.1)

-- one step that keeps leaves and heads
pub record Steps (w m : Walk) : Type 0 where
  pub effect : EffectIn (made w) (made m)
  pub leaves : m.leaves ≡ w.leaves
  pub heads : m.heads ≡ w.heads

pub steps_grow : (w m : Walk) → Steps w m → Grows w m 0
steps_grow w m t = grows_same w m t.effect (subst (λ z. Below w.leaves z) (sym t.leaves) (below_same w.leaves)) t.heads

pub record Took (x : Effect) (change : Shape → Option Shape) (w m : Walk) : Type 0 where
  pub leads : (e : Effect) → EffectIn (made m) e → Leads e x change w.place m.place
  pub steps : Steps w m

module _ (lim : Limits) where
  allows_of : (x : Effect) (p : Stand) (shape : Shape) (need peak back : ℕ) (w : Walk) (e : Effect) →
      EffectIn (made (demanding (need_at x p) (peak_at x p) (max (size p.shape + x.back) (size shape)) (after x.exit p shape) w)) e → Allows e x p shape
  allows_of x p shape need peak back w e g = record {
    need = (let i = g.need in let c : (pos x.need -ℤ p.low) ≤ℤ pos e.need = le_from_zero (pos x.need -ℤ p.low) e.need (omega (arith, i)) in omega (arith, ints, c));
    peak = (let i = g.peak in le_from_zero (p.high +ℤ pos x.peak) e.peak (omega (arith, i)));
    back = (let i = g.back in omega (arith, i));
    room = (let i = g.back in omega (arith, i));
  }

  took_with : (x : Effect) (change : Shape → Option Shape) (p : Stand) (o : Option Shape) (w m : Walk) → change p.shape ≡ o → take_with lim x p o (record w { place = At p }) ≡ Ok m → Took x change (record w { place = At p }) m
  took_with x change p None w m is h =
      let a = checked_ok (nat_le (need_at x p) lim.need && (nat_le (peak_at x p) lim.peak && in_limits (after x.exit p p.shape))) cause.Data (checked (nat_le (back_at x p None) lim.back) cause.Return (Err cause.Shape)) m h in
      let b = checked_ok (nat_le (back_at x p None) lim.back) cause.Return (Err cause.Shape) m a.1 in
      cc (b.1)
  took_with x change p (Some s) w m is h =
      let r = demanding (need_at x p) (peak_at x p) (max (size p.shape + x.back) (size s)) (after x.exit p s) (record w { place = At p }) in
      let a = checked_ok (nat_le (need_at x p) lim.need && (nat_le (peak_at x p) lim.peak && in_limits (after x.exit p p.shape))) cause.Data (checked (nat_le (back_at x p (Some s)) lim.back) cause.Return (Ok r)) m h in
      let b = checked_ok (nat_le (back_at x p (Some s)) lim.back) cause.Return (Ok r) m a.1 in
      let t = and_parts (nat_le (need_at x p) lim.need) (nat_le (peak_at x p) lim.peak && in_limits (after x.exit p p.shape)) a.0 in
      let t1 = and_parts (nat_le (peak_at x p) lim.peak) (in_limits (after x.exit p p.shape)) t.1 in
      let il = limits_true x.exit p s t1.1 in
      let same : r ≡ m = cc (b.1) in
      subst (λ z. Took x change (record w { place = At p }) z) same (record {
        leads = λ e g. record { shape = s; changes = is; allows = allows_of x p s 0 0 0 (record w { place = At p }) e g; place = refl; limits = il };
        steps = record { effect = record { need = omega arith; peak = omega arith; back = omega arith; exit = exit_in_same w.exit }; leaves = refl; heads = refl };
      })

  took_at : (x : Effect) (change : Shape → Option Shape) (q : Place) (w m : Walk) → take_at lim x change q (record w { place = q }) ≡ Ok m → Took x change (record w { place = q }) m
  took_at x change Unreachable w m h =
      let same : record w { place = Unreachable } ≡ m = cc (h) in
      subst (λ z. Took x change (record w { place = Unreachable }) z) same (record { leads = λ e g. refl; steps = record { effect = effect_in_same (made w); leaves = refl; heads = refl } })
  took_at x change (At p) w m h = took_with x change p (change p.shape) w m refl h
  took_at x change (Doubled p) w m h = cc (h)

  pub took : (x : Effect) (change : Shape → Option Shape) (w m : Walk) → takes lim x change w ≡ Ok m → Took x change w m
  took x change w m h = took_at x change w.place w m h

  pub record TookDouble (w m : Walk) : Type 0 where
    pub leads : (e : Effect) → EffectIn (made m) e → Doubles e w.place m.place
    pub steps : Steps w m

  pub doubled_at : (q : Place) (w m : Walk) → double_at lim q (record w { place = q }) ≡ Ok m → TookDouble (record w { place = q }) m
  doubled_at Unreachable w m h =
      let same : record w { place = Unreachable } ≡ m = cc (h) in
      subst (λ z. TookDouble (record w { place = Unreachable }) z) same (record { leads = λ e g. refl; steps = record { effect = effect_in_same (made w); leaves = refl; heads = refl } })
  doubled_at (Doubled p) w m h = cc (h)
  doubled_at (At p) w m h =
      let x = table_effect QDup in
      let r = demanding (need_at x p) (peak_at x p) (back_at x p (Some p.shape)) (Doubled p) (record w { place = At p }) in
      let a = checked_ok (nat_le (need_at x p) lim.need && (nat_le (peak_at x p) lim.peak && in_limits (Doubled p))) cause.Data (checked (nat_le (back_at x p (Some p.shape)) lim.back) cause.Return (Ok r)) m h in
      let b = checked_ok (nat_le (back_at x p (Some p.shape)) lim.back) cause.Return (Ok r) m a.1 in
      let t = and_parts (nat_le (need_at x p) lim.need) (nat_le (peak_at x p) lim.peak && in_limits (Doubled p)) a.0 in
      let t1 = and_parts (nat_le (peak_at x p) lim.peak) (in_limits (Doubled p)) t.1 in
      let t2 = and_parts (int_le (negsuc 31) p.low) (int_le p.high (pos 33)) t1.1 in
      let same : r ≡ m = cc (b.1) in
      subst (λ z. TookDouble (record w { place = At p }) z) same (record {
        leads = λ e g. (allows_of x p p.shape 0 0 0 (record w { place = At p }) e (record { need = g.need; peak = g.peak; back = g.back; exit = g.exit }), refl, (int_le_true (negsuc 31) p.low t2.0, int_le_true p.high (pos 33) t2.1));
        steps = record { effect = record { need = omega arith; peak = omega arith; back = omega arith; exit = exit_in_same w.exit }; leaves = refl; heads = refl };
      })

  pub record Decided (w m : Walk) : Type 0 where
    pub leads : (e : Effect) → EffectIn (made m) e → Decides e w.place m.place (zero_way w.place m.place)
    pub steps : Steps w m

  decided_at : (q : Place) (w m : Walk) → decide_at lim q (record w { place = q }) ≡ Ok m → Decided (record w { place = q }) m
  decided_at Unreachable w m h =
      let same : record w { place = Unreachable } ≡ m = cc (h) in
      subst (λ z. Decided (record w { place = Unreachable }) z) same (record { leads = λ e g. (refl, refl); steps = record { effect = effect_in_same (made w); leaves = refl; heads = refl } })
  decided_at (At p) w m h = let t = took_at (table_effect table.If) keep (At p) w m h in record { leads = λ e g. (t.leads e g, refl); steps = t.steps }
  decided_at (Doubled p) w m h =
      let same : record w { place = At p } ≡ m = cc (h) in
      subst (λ z. Decided (record w { place = Doubled p }) z) same (record { leads = λ e g. (refl, refl); steps = record { effect = effect_in_same (made w); leaves = refl; heads = refl } })

  pub decided : (w m : Walk) → decides lim w ≡ Ok m → Decided w m
  decided w m h = decided_at w.place w m h

-- ---- joins

abbrev pub ShapeIs : Shape → Place → Type 0
ShapeIs q Unreachable = Unit {0}
ShapeIs q (At p) = q ≡ p.shape
ShapeIs q (Doubled p) = q ≡ p.shape

-- a step that changes the place alone
pub record Joined (s : Place) (w m : Walk) : Type 0 where
  pub left : Below s m.place
  pub right : Below w.place m.place
  pub rest : m ≡ record w { place = m.place }
  pub shape : (q : Shape) → ShapeIs q w.place → ShapeIs q s → ShapeIs q m.place

hull_left : (p q : Stand) → p.shape ≡ q.shape → InsideBy 0 0 p (hull p q)
hull_left p q e = record { low = omega (arith, ints, min_left p.low q.low); high = omega (arith, ints, max_left p.high q.high); same = e }

hull_right : (p q : Stand) → InsideBy 0 0 q (hull p q)
hull_right p q = record { low = omega (arith, ints, min_right p.low q.low); high = omega (arith, ints, max_right p.high q.high); same = refl }

joined_at : (s q : Place) (w m : Walk) → join_at s q (record w { place = q }) ≡ Ok m → Joined s (record w { place = q }) m
joined_at Unreachable q w m h =
    let same : record w { place = q } ≡ m = cc (h) in
    subst (λ z. Joined Unreachable (record w { place = q }) z) same (record { left = tt; right = below_same q; rest = refl; shape = λ l u v. u })
joined_at (At p) Unreachable w m h =
    let same : record w { place = At p } ≡ m = cc (h) in
    subst (λ z. Joined (At p) (record w { place = Unreachable }) z) same (record { left = below_same (At p); right = tt; rest = refl; shape = λ l u v. v })
joined_at (Doubled p) Unreachable w m h =
    let same : record w { place = Doubled p } ≡ m = cc (h) in
    subst (λ z. Joined (Doubled p) (record w { place = Unreachable }) z) same (record { left = below_same (Doubled p); right = tt; rest = refl; shape = λ l u v. v })
joined_at (At p) (At q) w m h =
    let a = checked_ok (same_shape p.shape q.shape) cause.Shape (Ok (record w { place = At (hull p q) })) m h in
    let e = same_shape_true p.shape q.shape a.0 in
    let same : record w { place = At (hull p q) } ≡ m = cc (a.1) in
    subst (λ z. Joined (At p) (record w { place = At q }) z) same (record { left = hull_left p q e; right = hull_right p q; rest = refl; shape = λ l u v. u })
joined_at (Doubled p) (Doubled q) w m h =
    let a = checked_ok (same_shape p.shape q.shape) cause.Shape (Ok (record w { place = Doubled (hull p q) })) m h in
    let e = same_shape_true p.shape q.shape a.0 in
    let same : record w { place = Doubled (hull p q) } ≡ m = cc (a.1) in
    subst (λ z. Joined (Doubled p) (record w { place = Doubled q }) z) same (record { left = hull_left p q e; right = hull_right p q; rest = refl; shape = λ l u v. u })
joined_at (At p) (Doubled q) w m h = cc (h)
joined_at (Doubled p) (At q) w m h = cc (h)

pub joined_by : (s : Place) (w m : Walk) → joins s w ≡ Ok m → Joined s w m
joined_by s w m h = joined_at s w.place w m h

pub record Returned (h : Place) (w m : Walk) : Type 0 where
  pub is : m ≡ w
  pub below : Below w.place h

returned_at : (h q : Place) (w m : Walk) → back_to h q (record w { place = q }) ≡ Ok m → Returned h (record w { place = q }) m
returned_at h Unreachable w m e = record { is = cc (e); below = tt }
returned_at Unreachable (At p) w m e = cc (e)
returned_at (Doubled q) (At p) w m e = cc (e)
returned_at (At q) (At p) w m e =
    let a = checked_ok (same_shape p.shape q.shape) cause.Shape (checked (int_le q.low p.low && int_le p.high q.high) cause.Data (Ok (record w { place = At p }))) m e in
    let b = checked_ok (int_le q.low p.low && int_le p.high q.high) cause.Data (Ok (record w { place = At p })) m a.1 in
    let t = and_parts (int_le q.low p.low) (int_le p.high q.high) b.0 in
    record { is = cc (b.1); below = record { low = omega (arith, ints, int_le_true q.low p.low t.0); high = omega (arith, ints, int_le_true p.high q.high t.1); same = same_shape_true p.shape q.shape a.0 } }
returned_at Unreachable (Doubled p) w m e = cc (e)
returned_at (At q) (Doubled p) w m e = cc (e)
returned_at (Doubled q) (Doubled p) w m e = cc (e)

pub returned : (h : Place) (w m : Walk) → returns_to h w ≡ Ok m → Returned h w m
returned h w m e = returned_at h w.place w m e

-- the leaves have the shape of the loop's head
abbrev pub Topped : Option Shape → Place → Type 0
Topped top Unreachable = Unit {0}
Topped top (At q) = top ≡ Some q.shape
Topped top (Doubled q) = ⊥

pub record Left (top : Option Shape) (w m : Walk) : Type 0 where
  pub gone : m.place ≡ Unreachable
  pub here : Below w.place m.leaves
  pub earlier : Below w.leaves m.leaves
  pub topped : Topped top m.leaves
  pub effect : made w ≡ made m
  pub heads : m.heads ≡ w.heads

left_at : (top : Option Shape) (p l : Place) (w m : Walk) → Topped top l → leave_at top p l (record w { place = p; leaves = l }) ≡ Ok m → Left top (record w { place = p; leaves = l }) m
left_at top Unreachable l w m tp h =
    let same : record w { place = Unreachable; leaves = l } ≡ m = cc (h) in
    subst (λ z. Left top (record w { place = Unreachable; leaves = l }) z) same (record { gone = refl; here = tt; earlier = below_same l; topped = tp; effect = refl; heads = refl })
left_at None (At p) l w m tp h = cc (h)
left_at (Some t) (At p) Unreachable w m tp h =
    let a = checked_ok (same_shape p.shape t) cause.Shape (Ok (record w { place = Unreachable; leaves = At p })) m h in
    let e = same_shape_true p.shape t a.0 in
    let same : record w { place = Unreachable; leaves = At p } ≡ m = cc (a.1) in
    subst (λ z. Left (Some t) (record w { place = At p; leaves = Unreachable }) z) same (record { gone = refl; here = below_same (At p); earlier = tt; topped = ap Some (sym e); effect = refl; heads = refl })
left_at (Some t) (At p) (At q) w m tp h =
    let a = checked_ok (same_shape p.shape t) cause.Shape (Ok (record w { place = Unreachable; leaves = At (hull p q) })) m h in
    let e = same_shape_true p.shape t a.0 in
    let e1 : p.shape ≡ q.shape = cc (e, tp) in
    let same : record w { place = Unreachable; leaves = At (hull p q) } ≡ m = cc (a.1) in
    subst (λ z. Left (Some t) (record w { place = At p; leaves = At q }) z) same (record { gone = refl; here = hull_left p q e1; earlier = hull_right p q; topped = tp; effect = refl; heads = refl })
left_at (Some t) (At p) (Doubled q) w m tp h = absurd tp
left_at None (Doubled p) l w m tp h = cc (h)
left_at (Some t) (Doubled p) l w m tp h = cc (h)

pub left : (top : Option Shape) (w m : Walk) → Topped top w.leaves → leaving top w ≡ Ok m → Left top w m
left top w m tp h = left_at top w.place w.leaves w m tp h

pub record Ended (w m : Walk) : Type 0 where
  pub gone : m.place ≡ Unreachable
  pub ends : (e : Effect) → EffectIn (made m) e → EndsBody e w.place
  pub effect : EffectIn (made w) (made m)
  pub leaves : m.leaves ≡ w.leaves
  pub heads : m.heads ≡ w.heads

exit_with_in : (lim : Limits) (x : Option (ℤ × ℤ)) (p : Stand) → ExitIn x (with_exit x p)
exit_with_in lim None p = tt
exit_with_in lim (Some x) p = (min_left x.0 p.low, max_left x.1 p.high)

exit_with_has : (lim : Limits) (x y : Option (ℤ × ℤ)) (p : Stand) → ExitIn (with_exit x p) y → ExitHas y p
exit_with_has lim None None p h = h
exit_with_has lim None (Some y) p h = h
exit_with_has lim (Some x) None p h = h
exit_with_has lim (Some x) (Some y) p h = (omega (arith, ints, min_right x.0 p.low, h.0), omega (arith, ints, max_right x.1 p.high, h.1))

ended_at : (lim : Limits) (q : Place) (w m : Walk) → end_at lim q (record w { place = q }) ≡ Ok m → Ended (record w { place = q }) m
ended_at lim Unreachable w m h =
    let same : record w { place = Unreachable } ≡ m = cc (h) in
    subst (λ z. Ended (record w { place = Unreachable }) z) same (record { gone = refl; ends = λ e g. tt; effect = effect_in_same (made w); leaves = refl; heads = refl })
ended_at lim (Doubled p) w m h = cc (h)
ended_at lim (At p) w m h =
    let r = record w { place = Unreachable; exit = with_exit w.exit p } in
    let a = checked_ok (int_le (negsuc 32) p.low && int_le p.high (pos lim.top)) cause.Data (checked (same_shape p.shape []) cause.Shape (Ok r)) m h in
    let b = checked_ok (same_shape p.shape []) cause.Shape (Ok r) m a.1 in
    let same : r ≡ m = cc (b.1) in
    subst (λ z. Ended (record w { place = At p }) z) same (record {
      gone = refl;
      ends = λ e g. (same_shape_true p.shape [] b.0, exit_with_has lim w.exit e.exit p g.exit);
      effect = record { need = omega arith; peak = omega arith; back = omega arith; exit = exit_with_in lim w.exit p };
      leaves = refl;
      heads = refl;
    })

pub ended : (lim : Limits) (w m : Walk) → ends lim w ≡ Ok m → Ended w m
ended lim w m h = ended_at lim w.place w m h

-- ---- heads

abbrev pub Prefix : List (ℤ × ℤ) → List (ℤ × ℤ) → Type 0
Prefix xs hs = (ys : List (ℤ × ℤ)) × (hs ≡ xs ++ ys)

-- the heads are those that were given, or begin with those that were noted
abbrev pub Noted : Option (List (ℤ × ℤ)) → List (ℤ × ℤ) → List (ℤ × ℤ) → Type 0
Noted None noted hs = Prefix noted hs
Noted (Some given) noted hs = given ≡ hs

pub noted_earlier : (given : Option (List (ℤ × ℤ))) (w m : Walk) (n : ℕ) (hs : List (ℤ × ℤ)) → Grows w m n → Noted given m.heads hs → Noted given w.heads hs
noted_earlier None w m n hs g p = (g.more ++ p.0, p.1 ∙ ap (λ z. z ++ p.0) g.heads ∙ append_assoc w.heads g.more p.0)
noted_earlier (Some given) w m n hs g p = p

at_seam : (xs ys : List (ℤ × ℤ)) (x : ℤ × ℤ) → slice_index_or (xs ++ x ∷ ys) (length xs) no_interval ≡ x
at_seam [] ys x = refl
at_seam (z ∷ xs) ys x = at_seam xs ys x

at_head : (xs : List (ℤ × ℤ)) (x : ℤ × ℤ) (hs : List (ℤ × ℤ)) → Prefix (xs ++ x ∷ []) hs → slice_index_or hs (length xs) no_interval ≡ x
at_head xs x hs p = ap (λ z. slice_index_or z (length xs) no_interval) (p.1 ∙ append_assoc xs (x ∷ []) p.0) ∙ at_seam xs p.0 x

pub record Entered (given : Option (List (ℤ × ℤ))) (w h : Walk) : Type 0 where
  pub head : (hs : List (ℤ × ℤ)) → Noted given h.heads hs → Head hs (length w.heads) w.place h.place
  pub grows : Grows w h 1
  pub leaves : h.leaves ≡ w.leaves

noting_grows : (w : Walk) (x : ℤ × ℤ) (s : Place) → Grows w (noting x s w) 1
noting_grows w x s = record { effect = effect_in_same (made w); leaves = below_same w.leaves; more = x ∷ []; heads = refl; count = refl }

entered_at : (given : Option (List (ℤ × ℤ))) (q : Place) (w h : Walk) → enters given (record w { place = q }) ≡ Ok h → Entered given (record w { place = q }) h
entered_at None Unreachable w h e =
    let same : noting no_interval Unreachable w ≡ h = cc (e) in
    subst (λ z. Entered None (record w { place = Unreachable }) z) same (record { head = λ hs p. refl; grows = noting_grows (record w { place = Unreachable }) no_interval Unreachable; leaves = refl })
entered_at None (At p) w h e =
    let x : ℤ × ℤ = (p.low, p.high) in
    let same : noting x (At p) w ≡ h = cc (e) in
    subst (λ z. Entered None (record w { place = At p }) z) same (record {
      head = λ hs n. (let i = at_head w.heads x hs n in
          record { stand = p; place = refl; inside = below_same (At p); low = ap (λ y. y.0) (sym i); high = ap (λ y. y.1) (sym i) });
      grows = noting_grows (record w { place = At p }) x (At p);
      leaves = refl;
    })
entered_at None (Doubled p) w h e = cc (e)
entered_at (Some gs) Unreachable w h e =
    let a = checked_ok (nat_lt (length w.heads) (length gs)) cause.Data (Ok (noting no_interval Unreachable (record w { place = Unreachable }))) h e in
    let same : noting no_interval Unreachable w ≡ h = (let i = a.1 in cc (i)) in
    subst (λ z. Entered (Some gs) (record w { place = Unreachable }) z) same (record { head = λ hs p. refl; grows = noting_grows (record w { place = Unreachable }) no_interval Unreachable; leaves = refl })
entered_at (Some gs) (Doubled p) w h e =
    let a = checked_ok (nat_lt (length w.heads) (length gs)) cause.Data (Err cause.Shape) h e in
    (let i = a.1 in cc (i))
entered_at (Some gs) (At p) w h e =
    let x = slice_index_or gs (length w.heads) no_interval in
    let q : Stand = record { low = x.0; high = x.1; shape = p.shape } in
    let b = checked_ok (nat_lt (length w.heads) (length gs)) cause.Data (enter_given x (At p) (record w { place = At p })) h e in
    let a = checked_ok (int_le x.0 p.low && int_le p.high x.1) cause.Data (Ok (noting no_interval (At q) (record w { place = At p }))) h b.1 in
    let t = and_parts (int_le x.0 p.low) (int_le p.high x.1) a.0 in
    let same : noting no_interval (At q) w ≡ h = (let i = a.1 in cc (i)) in
    subst (λ z. Entered (Some gs) (record w { place = At p }) z) same (record {
      head = λ hs n. record {
        stand = q;
        place = refl;
        inside = record { low = omega (arith, ints, int_le_true x.0 p.low t.0); high = omega (arith, ints, int_le_true p.high x.1 t.1); same = refl };
        low = ap (λ y. (slice_index_or y (length w.heads) no_interval).0) n;
        high = ap (λ y. (slice_index_or y (length w.heads) no_interval).1) n;
      };
      grows = noting_grows (record w { place = At p }) no_interval (At q);
      leaves = refl;
    })

pub entered : (given : Option (List (ℤ × ℤ))) (w h : Walk) → enters given w ≡ Ok h → Entered given w h
entered given w h e = entered_at given w.place w h e
