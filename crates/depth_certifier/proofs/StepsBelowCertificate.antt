-- Where a certificate is valid a step of the walk of a round refuses nothing, and stays below it.
use Rattle.std.proofs.Common.{◌≡◌, ℕ, ◌+◌, ◌≤◌, max, List, [], length, Option, Some, None, Ok, Bool, true, ◌&&◌, refl, sym, ap, ◌∙◌, subst, arith}
use Rattle.std.specs.Prelude.{nat_le, int_le, pos, negsuc, ℤ, ◌+ℤ◌, ◌≤ℤ◌}
use Rattle.std.proofs.lemmas.Int.{ints, clamps}
use Rattle.std.proofs.lemmas.Bool.{and_from, le-leb}
use Rattle.word_table.specs.declared.word.Word.{Word}
use Rattle.word_table.specs.declared.word.Word.TheVariants as table
use Rattle.word_table.specs.declared.word.Word.TheVariants.{QDup, Execute}
use Rattle.depth_certifier.specs.declared.effect.Effect.{Effect}
use Rattle.depth_certifier.specs.declared.effect.CertCause.{CertCause}
use Rattle.depth_certifier.specs.Place.{Shape, size, Stand, Place, Unreachable, At, Doubled, moved, InsideBy, BelowBy, Below, InLimits}
use Rattle.depth_certifier.specs.Effects.{table_effect, moved_by, Known, effect_of, Next, called_effect, word_effect, keep}
use Rattle.depth_certifier.specs.Certificate.{after, Leads, Doubles, Decides, without_loop, dropped, ExitHas, EndsBody, ExitIn, EffectIn, ExitKeeps, Limits, Keeps}
use Rattle.depth_certifier.specs.Walk.{Walk, Walked, then_do, checked, in_limits, same_shape, need_at, peak_at, demanding, take_with, take_at, takes, double_at}
use Rattle.depth_certifier.specs.Walk.{decide_at, decides, with_exit, end_at, ends, zero_way, hull, join_at, joins, leave_at, back_to, returns_to, made}
use Rattle.depth_certifier.proofs.SourcePlaces.{below_then}
use Rattle.depth_certifier.proofs.Tests.{int_true_le, true_same_shape, need_within, peak_within, min_from, max_from, effect_in_same, HeadsIn}

-- the effects of one are within those of another
pub record KnownIn (zs ys : Known) : Type 0 where
  pub definitions : (d : ℕ) → EffectIn (effect_of zs d) (effect_of ys d)
  pub shared : EffectIn zs.shared ys.shared

pub moved_in : (n : ℤ) (x y : Option (ℤ × ℤ)) → ExitIn x y → ExitIn (moved_by n x) (moved_by n y)
moved_in n None y h = tt
moved_in n (Some x) None h = absurd h
moved_in n (Some x) (Some y) h = (omega (arith, ints, h.0), omega (arith, ints, h.1))

pub word_in : (x y : Effect) (word : Word) → EffectIn x y → EffectIn (word_effect x word) (word_effect y word)
word_in x y Execute h = record { need = omega (arith, h.need); peak = omega (arith, h.peak); back = omega (arith, h.back); exit = moved_in (negsuc 0) x.exit y.exit h.exit }
word_in x y word h = effect_in_same (table_effect word)

pub called_in : (next : Next) (x y : Effect) → EffectIn x y → EffectIn (called_effect next x) (called_effect next y)
called_in next x y h = record { need = h.need; peak = h.peak; back = omega (arith, h.back); exit = h.exit }

-- the heads that are given leave no room
abbrev pub Tight : Option (List (ℤ × ℤ)) → ℕ → ℕ → Type 0
Tight None a b = Unit {0}
Tight (Some heads) a b = (a ≡ 0) × (b ≡ 0)

-- the shape of the loop around is that of its LEAVEs
abbrev pub TopIs : Option Shape → Place → Type 0
TopIs top Unreachable = Unit {0}
TopIs top (At q) = top ≡ Some q.shape
TopIs top (Doubled q) = Unit {0}

after_below : (a b : ℕ) (x y : Option (ℤ × ℤ)) (p q : Stand) (shape : Shape) → ExitIn x y → InsideBy a b p q → BelowBy a b (after x p shape) (after y q shape)
after_below a b None y p q shape h i = tt
after_below a b (Some x) None p q shape h i = absurd h
after_below a b (Some x) (Some y) p q shape h i = record { low = omega (arith, ints, h.0, i.low); high = omega (arith, ints, h.1, i.high); same = refl }

limits_below : (a b : ℕ) (x y : Option (ℤ × ℤ)) (p q : Stand) (shape : Shape) → ExitIn x y → InsideBy a b p q → InLimits (after y q shape) → in_limits (after x p p.shape) ≡ true
limits_below a b None y p q shape h i l = refl
limits_below a b (Some x) None p q shape h i l = absurd h
limits_below a b (Some x) (Some y) p q shape h i l =
    and_from (int_le (negsuc 32) (p.low +ℤ x.0)) (int_le (p.high +ℤ x.1) (pos 33))
    (int_true_le (negsuc 32) (p.low +ℤ x.0) (omega (arith, ints, h.0, i.low, l.0)))
    (int_true_le (p.high +ℤ x.1) (pos 33) (omega (arith, ints, h.1, i.high, l.1)))

pub dropped_below : (a b : ℕ) (s t : Place) → BelowBy a b s t → BelowBy a b (dropped s) (dropped t)
dropped_below a b Unreachable t h = tt
dropped_below a b (At p) (At q) h = record { low = h.low; high = h.high; same = ap without_loop h.same }
dropped_below a b (At p) Unreachable h = absurd h
dropped_below a b (At p) (Doubled q) h = absurd h
dropped_below a b (Doubled p) t h = tt

pub none_any : (a b a' b' : ℕ) (s : Place) → BelowBy a b s Unreachable → BelowBy a' b' s Unreachable
none_any a b a' b' Unreachable h = tt
none_any a b a' b' (At p) h = h
none_any a b a' b' (Doubled p) h = h

module _ (lim : Limits) (e : Effect) (room : Keeps lim e) (hs : List (ℤ × ℤ)) where
  -- the walk stays below the places: its place by a and b, and its leaves by c and d
  pub record Rel (a b c d k : ℕ) (w : Walk) (s l : Place) : Type 0 where
    pub place : BelowBy a b w.place s
    pub leaves : BelowBy c d w.leaves l
    pub effect : EffectIn (made w) e
    pub count : length w.heads ≡ k
    pub heads : HeadsIn w.heads hs

  pub record Found (a b c d k : ℕ) (r : Walked) (s l : Place) : Type 0 where
    pub walk : Walk
    pub is : r ≡ Ok walk
    pub rel : Rel a b c d k walk s l

  pub found_from : (a b c d k : ℕ) (s l : Place) (a' b' c' d' k' : ℕ) (t l' : Place) (r : Walked) (go : Walk → Walked) → Found a b c d k r s l →
      ((v : Walk) → Rel a b c d k v s l → Found a' b' c' d' k' (go v) t l') → Found a' b' c' d' k' (then_do r go) t l'
  found_from a b c d k s l a' b' c' d' k' t l' r go f each =
      let g = each f.walk f.rel in
      record { walk = g.walk; is = ap (λ x. then_do x go) f.is ∙ g.is; rel = g.rel }

  found_checked : (a b c d k : ℕ) (s l : Place) (t : Bool) (u : CertCause) (r : Walked) → t ≡ true → Found a b c d k r s l → Found a b c d k (checked t u r) s l
  found_checked a b c d k s l t u r h f = record { walk = f.walk; is = ap (λ x. checked x u r) h ∙ f.is; rel = f.rel }

  pub found_as : (a b c d k k' : ℕ) (r : Walked) (s l : Place) → k ≡ k' → Found a b c d k r s l → Found a b c d k' r s l
  found_as a b c d k k' r s l h f = subst (λ n. Found a b c d n r s l) h f

  module _ (a b c d k : ℕ) where
    take_found : (x y : Effect) (change : Shape → Option Shape) (p : Stand) (s m l : Place) (w : Walk) → EffectIn x y → Leads e y change s m →
        BelowBy a b (At p) s → BelowBy c d w.leaves l → EffectIn (made w) e → length w.heads ≡ k → HeadsIn w.heads hs →
        Found a b c d k (take_with lim x p (change p.shape) w) m l
    take_found x y change p Unreachable m l w h g i j u n o = absurd i
    take_found x y change p (Doubled q) m l w h g i j u n o = absurd g
    take_found x y change p (At q) m l w h g i j u n o =
        let sh = g.shape in
        let is : change p.shape ≡ Some sh = ap change i.same ∙ g.changes in
        let allows = g.allows in
        let sums = ap size i.same in
        let nx : BelowBy a b (after x.exit p sh) m = subst (λ z. BelowBy a b (after x.exit p sh) z) (sym g.place) (after_below a b x.exit y.exit p q sh h.exit i) in
        let ml : InLimits (after y.exit q sh) = subst InLimits g.place g.limits in
        let n1 : need_at x p ≤ e.need = need_within x.need e.need a p.low q.low (let v = allows.need in omega (arith, ints, h.need, v)) i.low in
        let n2 : peak_at x p ≤ e.peak = peak_within x.peak e.peak b p.high q.high (let v = allows.peak in omega (arith, ints, h.peak, v)) i.high in
        let n3 : max (size p.shape + x.back) (size sh) ≤ e.back = (let v = allows.back in let v' = allows.room in omega (arith, h.back, v, v', sums)) in
        let t1 =
        and_from (nat_le (need_at x p) lim.need) (nat_le (peak_at x p) lim.peak && in_limits (after x.exit p p.shape))
        (le-leb (need_at x p) lim.need (omega (arith, room.need)))
        (and_from (nat_le (peak_at x p) lim.peak) (in_limits (after x.exit p p.shape)) (le-leb (peak_at x p) lim.peak (omega (arith, room.peak)))
        (limits_below a b x.exit y.exit p q sh h.exit i ml)) in
        let t2 = le-leb (max (size p.shape + x.back) (size sh)) lim.back (omega (arith, room.back)) in
        let eff : EffectIn (record { need = max w.need (need_at x p); peak = max w.peak (peak_at x p); back = max w.back (max (size p.shape + x.back) (size sh)); exit = w.exit }) e =
        record { need = omega (arith, u.need); peak = omega (arith, u.peak); back = omega (arith, u.back); exit = u.exit } in
        subst (λ z. Found a b c d k (take_with lim x p z w) m l) (sym is)
        (found_checked a b c d k m l _ _ _ t1 (found_checked a b c d k m l _ _ _ t2 (record {
          walk = demanding (need_at x p) (peak_at x p) (max (size p.shape + x.back) (size sh)) (after x.exit p sh) w;
          is = refl;
          rel = record { place = nx; leaves = j; effect = eff; count = n; heads = o };
        })))

    takes_at_found : (x y : Effect) (change : Shape → Option Shape) (q s m l : Place) (w : Walk) → EffectIn x y → Leads e y change s m → BelowBy a b q s →
        BelowBy c d w.leaves l → EffectIn (made w) e → length w.heads ≡ k → HeadsIn w.heads hs →
        Found a b c d k (take_at lim x change q (record w { place = q })) m l
    takes_at_found x y change Unreachable s m l w h g i j u n o = record { walk = record w { place = Unreachable }; is = refl; rel = record { place = tt; leaves = j; effect = u; count = n; heads = o } }
    takes_at_found x y change (At p) s m l w h g i j u n o = take_found x y change p s m l (record w { place = At p }) h g i j u n o
    takes_at_found x y change (Doubled p) Unreachable m l w h g i j u n o = absurd i
    takes_at_found x y change (Doubled p) (At q) m l w h g i j u n o = absurd i
    takes_at_found x y change (Doubled p) (Doubled q) m l w h g i j u n o = absurd g

    pub takes_found : (x y : Effect) (change : Shape → Option Shape) (s m l : Place) (w : Walk) → EffectIn x y → Leads e y change s m → Rel a b c d k w s l → Found a b c d k (takes lim x change w) m l
    takes_found x y change s m l w h g r = takes_at_found x y change w.place s m l w h g r.place r.leaves r.effect r.count r.heads

    -- ?DUP before a flag
    double_found : (p q : Stand) (m l : Place) (w : Walk) → Doubles e (At q) m → InsideBy a b p q → BelowBy c d w.leaves l → EffectIn (made w) e → length w.heads ≡ k → HeadsIn w.heads hs → Found a b c d k (double_at lim (At p) w) m l
    double_found p q m l w g i j u n o =
        let x = table_effect QDup in
        let allows = g.0 in
        let sums = ap size i.same in
        let il : InLimits (Doubled q) = subst InLimits g.1 g.2 in
        let n1 : need_at x p ≤ e.need = need_within x.need e.need a p.low q.low allows.need i.low in
        let n2 : peak_at x p ≤ e.peak = peak_within x.peak e.peak b p.high q.high allows.peak i.high in
        let n3 : max (size p.shape + x.back) (size p.shape) ≤ e.back = (let v = allows.back in let v' = allows.room in omega (arith, v, v', sums)) in
        let t0 = and_from (int_le (negsuc 31) p.low) (int_le p.high (pos 33)) (int_true_le (negsuc 31) p.low (omega (arith, ints, i.low, il.0))) (int_true_le p.high (pos 33) (omega (arith, ints, i.high, il.1))) in
        let t1 =
        and_from (nat_le (need_at x p) lim.need) (nat_le (peak_at x p) lim.peak && in_limits (Doubled p))
        (le-leb (need_at x p) lim.need (omega (arith, room.need)))
        (and_from (nat_le (peak_at x p) lim.peak) (in_limits (Doubled p)) (le-leb (peak_at x p) lim.peak (omega (arith, room.peak))) t0) in
        let t2 = le-leb (max (size p.shape + x.back) (size p.shape)) lim.back (omega (arith, room.back)) in
        let eff : EffectIn (record { need = max w.need (need_at x p); peak = max w.peak (peak_at x p); back = max w.back (max (size p.shape + x.back) (size p.shape)); exit = w.exit }) e =
        record { need = omega (arith, u.need); peak = omega (arith, u.peak); back = omega (arith, u.back); exit = u.exit } in
        found_checked a b c d k m l _ _ _ t1 (found_checked a b c d k m l _ _ _ t2 (record {
          walk = demanding (need_at x p) (peak_at x p) (max (size p.shape + x.back) (size p.shape)) (Doubled p) w;
          is = refl;
          rel = record { place = subst (λ z. BelowBy a b (Doubled p) z) (sym g.1) i; leaves = j; effect = eff; count = n; heads = o };
        }))

    pub double_at_found : (q s m l : Place) (w : Walk) → Doubles e s m → BelowBy a b q s → BelowBy c d w.leaves l → EffectIn (made w) e → length w.heads ≡ k →
        HeadsIn w.heads hs → Found a b c d k (double_at lim q (record w { place = q })) m l
    double_at_found Unreachable s m l w g i j u n o = record { walk = record w { place = Unreachable }; is = refl; rel = record { place = tt; leaves = j; effect = u; count = n; heads = o } }
    double_at_found (At p) Unreachable m l w g i j u n o = absurd i
    double_at_found (At p) (Doubled q) m l w g i j u n o = absurd i
    double_at_found (At p) (At q) m l w g i j u n o = double_found p q m l (record w { place = At p }) g i j u n o
    double_at_found (Doubled p) Unreachable m l w g i j u n o = absurd i
    double_at_found (Doubled p) (At q) m l w g i j u n o = absurd i
    double_at_found (Doubled p) (Doubled q) m l w g i j u n o = absurd g

    -- a flag, and its other way
    pub record Split (r : Walked) (from on_true on_false l : Place) : Type 0 where
      pub found : Found a b c d k r on_true l
      pub zero : BelowBy a b (zero_way from found.walk.place) on_false

    decide_found : (q s on_true on_false l : Place) (w : Walk) → Decides e s on_true on_false → BelowBy a b q s → BelowBy c d w.leaves l → EffectIn (made w) e →
        length w.heads ≡ k → HeadsIn w.heads hs → Split (decide_at lim q (record w { place = q })) q on_true on_false l
    decide_found Unreachable s on_true on_false l w g i j u n o = record { found = record { walk = record w { place = Unreachable }; is = refl; rel = record { place = tt; leaves = j; effect = u; count = n; heads = o } }; zero = tt }
    decide_found (At p) Unreachable on_true on_false l w g i j u n o = absurd i
    decide_found (At p) (Doubled q) on_true on_false l w g i j u n o = absurd i
    decide_found (At p) (At q) on_true on_false l w g i j u n o =
        let f = take_found (table_effect table.If) (table_effect table.If) keep p (At q) on_true l (record w { place = At p }) (effect_in_same (table_effect table.If)) g.0 i j u n o in
        record { found = f; zero = subst (λ z. BelowBy a b f.walk.place z) (sym g.1) f.rel.place }
    decide_found (Doubled p) Unreachable on_true on_false l w g i j u n o = absurd i
    decide_found (Doubled p) (At q) on_true on_false l w g i j u n o = absurd i
    decide_found (Doubled p) (Doubled q) on_true on_false l w g i j u n o =
        record {
          found = record { walk = record w { place = At p }; is = refl; rel = record { place = subst (λ z. BelowBy a b (At p) z) (sym g.0) i; leaves = j; effect = u; count = n; heads = o } };
          zero = subst (λ z. BelowBy a b (At (moved p (negsuc 0) (negsuc 0))) z) (sym g.1) (record { low = omega (arith, ints, i.low); high = omega (arith, ints, i.high); same = i.same });
        }

    pub decides_found : (s on_true on_false l : Place) (w : Walk) → Decides e s on_true on_false → Rel a b c d k w s l → Split (decides lim w) w.place on_true on_false l
    decides_found s on_true on_false l w g r = decide_found w.place s on_true on_false l w g r.place r.leaves r.effect r.count r.heads

    -- joins
    hull_inside : (p q r : Stand) → InsideBy a b p r → InsideBy a b q r → InsideBy a b (hull p q) r
    hull_inside p q r h i = record { low = min_from a p.low q.low r.low h.low i.low; high = max_from b p.high q.high r.high h.high i.high; same = i.same }

    hull_test : (p q r : Stand) → InsideBy a b p r → InsideBy a b q r → same_shape p.shape q.shape ≡ true
    hull_test p q r h i = subst (λ z. same_shape p.shape z ≡ true) (h.same ∙ sym i.same) (true_same_shape p.shape)

    joins_at_found : (p q t l : Place) (w : Walk) → BelowBy a b p t → BelowBy a b q t → BelowBy c d w.leaves l → EffectIn (made w) e → length w.heads ≡ k → HeadsIn w.heads hs → Found a b c d k (join_at p q (record w { place = q })) t l
    joins_at_found Unreachable q t l w h i j u n o = record { walk = record w { place = q }; is = refl; rel = record { place = i; leaves = j; effect = u; count = n; heads = o } }
    joins_at_found (At p) Unreachable t l w h i j u n o = record { walk = record w { place = At p }; is = refl; rel = record { place = h; leaves = j; effect = u; count = n; heads = o } }
    joins_at_found (Doubled p) Unreachable t l w h i j u n o = record { walk = record w { place = Doubled p }; is = refl; rel = record { place = h; leaves = j; effect = u; count = n; heads = o } }
    joins_at_found (At p) (At q) Unreachable l w h i j u n o = absurd h
    joins_at_found (At p) (At q) (Doubled r) l w h i j u n o = absurd h
    joins_at_found (At p) (At q) (At r) l w h i j u n o =
        found_checked a b c d k (At r) l _ _ _ (hull_test p q r h i) (record { walk = record w { place = At (hull p q) }; is = refl; rel = record { place = hull_inside p q r h i; leaves = j; effect = u; count = n; heads = o } })
    joins_at_found (At p) (Doubled q) Unreachable l w h i j u n o = absurd h
    joins_at_found (At p) (Doubled q) (At r) l w h i j u n o = absurd i
    joins_at_found (At p) (Doubled q) (Doubled r) l w h i j u n o = absurd h
    joins_at_found (Doubled p) (At q) Unreachable l w h i j u n o = absurd h
    joins_at_found (Doubled p) (At q) (At r) l w h i j u n o = absurd h
    joins_at_found (Doubled p) (At q) (Doubled r) l w h i j u n o = absurd i
    joins_at_found (Doubled p) (Doubled q) Unreachable l w h i j u n o = absurd h
    joins_at_found (Doubled p) (Doubled q) (At r) l w h i j u n o = absurd h
    joins_at_found (Doubled p) (Doubled q) (Doubled r) l w h i j u n o =
        found_checked a b c d k (Doubled r) l _ _ _ (hull_test p q r h i) (record { walk = record w { place = Doubled (hull p q) }; is = refl; rel = record { place = hull_inside p q r h i; leaves = j; effect = u; count = n; heads = o } })

    pub joins_found : (s t l : Place) (w : Walk) → BelowBy a b s t → Rel a b c d k w t l → Found a b c d k (joins s w) t l
    joins_found s t l w h r = joins_at_found s w.place t l w h r.place r.leaves r.effect r.count r.heads

    -- the back edge lies inside the walk's own head: it keeps the head's distance to that of the certificate
    back_at_found : (q h : Stand) (n m l : Place) (w : Walk) → q.low ≡ (h.low +ℤ pos a) → (q.high +ℤ pos b) ≡ h.high → q.shape ≡ h.shape →
        BelowBy a b n (At h) → BelowBy a b n m → BelowBy c d w.leaves l → EffectIn (made w) e → length w.heads ≡ k → HeadsIn w.heads hs →
        Found a b c d k (back_to (At q) n (record w { place = n })) m l
    back_at_found q h Unreachable m l w u v x i i' j y n o = record { walk = record w { place = Unreachable }; is = refl; rel = record { place = i'; leaves = j; effect = y; count = n; heads = o } }
    back_at_found q h (Doubled r) m l w u v x i i' j y n o = absurd i
    back_at_found q h (At r) m l w u v x i i' j y n o =
        let t : same_shape r.shape q.shape ≡ true = subst (λ z. same_shape r.shape z ≡ true) (i.same ∙ sym x) (true_same_shape r.shape) in
        let t1 : int_le q.low r.low ≡ true = int_true_le q.low r.low (subst (λ z. z ≤ℤ r.low) (sym u) i.low) in
        let g : r.high ≤ℤ q.high = (let low2 : (r.high +ℤ pos b) ≤ℤ (q.high +ℤ pos b) = subst (λ z. (r.high +ℤ pos b) ≤ℤ z) (sym v) i.high in omega (arith, ints, low2)) in
        found_checked a b c d k m l _ _ _ t (found_checked a b c d k m l _ _ _ (and_from _ _ t1 (int_true_le r.high q.high g)) (record {
          walk = record w { place = At r };
          is = refl;
          rel = record { place = i'; leaves = j; effect = y; count = n; heads = o };
        }))

    pub returns_found : (q h : Stand) (m l : Place) (w : Walk) → q.low ≡ (h.low +ℤ pos a) → (q.high +ℤ pos b) ≡ h.high → q.shape ≡ h.shape → Below m (At h) → Rel a b c d k w m l → Found a b c d k (returns_to (At q) w) m l
    returns_found q h m l w u v x i r = back_at_found q h w.place m l w u v x (below_then a b w.place m (At h) r.place i) r.place r.leaves r.effect r.count r.heads

  -- LEAVE
  leave_here : (c d k : ℕ) (top : Option Shape) (p q : Stand) (r : Place) (w : Walk) → top ≡ Some q.shape → InsideBy c d p q → BelowBy c d r (At q) → EffectIn (made w) e → length w.heads ≡ k → HeadsIn w.heads hs →
      Found 0 0 c d k (leave_at top (At p) r w) Unreachable (At q)
  leave_here c d k top p q Unreachable w h i j u n o =
      subst (λ z. Found 0 0 c d k (leave_at z (At p) Unreachable w) Unreachable (At q)) (sym h)
      (let t : same_shape p.shape q.shape ≡ true = subst (λ z. same_shape p.shape z ≡ true) i.same (true_same_shape p.shape) in
      found_checked 0 0 c d k Unreachable (At q) _ _ _ t (record { walk = record w { place = Unreachable; leaves = At p }; is = refl; rel = record { place = tt; leaves = i; effect = u; count = n; heads = o } }))
  leave_here c d k top p q (Doubled r) w h i j u n o = absurd j
  leave_here c d k top p q (At r) w h i j u n o =
      subst (λ z. Found 0 0 c d k (leave_at z (At p) (At r) w) Unreachable (At q)) (sym h)
      (let t : same_shape p.shape q.shape ≡ true = subst (λ z. same_shape p.shape z ≡ true) i.same (true_same_shape p.shape) in
      found_checked 0 0 c d k Unreachable (At q) _ _ _ t (record {
        walk = record w { place = Unreachable; leaves = At (hull p r) };
        is = refl;
        rel = record { place = tt; leaves = record { low = min_from c p.low r.low q.low i.low j.low; high = max_from d p.high r.high q.high i.high j.high; same = j.same }; effect = u; count = n; heads = o };
      }))

  pub leave_at_found : (c d k : ℕ) (top : Option Shape) (p r l : Place) (w : Walk) → TopIs top l → (m : Place) → BelowBy c d p m → Below m l →
      ((q : Stand) → m ≡ Doubled q → ⊥) → BelowBy c d r l → EffectIn (made w) e → length w.heads ≡ k → HeadsIn w.heads hs →
      Found 0 0 c d k (leave_at top p r (record w { place = p; leaves = r })) Unreachable l
  leave_at_found c d k top Unreachable r l w h m i i' never j u n o = record { walk = record w { place = Unreachable; leaves = r }; is = refl; rel = record { place = tt; leaves = j; effect = u; count = n; heads = o } }
  leave_at_found c d k top (At p) r l w h Unreachable i i' never j u n o = absurd i
  leave_at_found c d k top (At p) r l w h (Doubled q) i i' never j u n o = absurd i
  leave_at_found c d k top (At p) r Unreachable w h (At m) i i' never j u n o = absurd i'
  leave_at_found c d k top (At p) r (Doubled q) w h (At m) i i' never j u n o = absurd i'
  leave_at_found c d k top (At p) r (At q) w h (At m) i i' never j u n o =
      leave_here c d k top p q r (record w { place = At p; leaves = r }) h (record { low = omega (arith, ints, i.low, i'.low); high = omega (arith, ints, i.high, i'.high); same = i.same ∙ i'.same }) j u n o
  leave_at_found c d k top (Doubled p) r l w h Unreachable i i' never j u n o = absurd i
  leave_at_found c d k top (Doubled p) r l w h (At m) i i' never j u n o = absurd i
  leave_at_found c d k top (Doubled p) r l w h (Doubled m) i i' never j u n o = absurd (never m refl)

  -- the end of a body
  exit_within : (x : Option (ℤ × ℤ)) (p : Stand) (y : Option (ℤ × ℤ)) → ExitIn x y → ExitHas y p → ExitIn (with_exit x p) y
  exit_within None p None h i = absurd i
  exit_within None p (Some y) h i = i
  exit_within (Some x) p None h i = absurd h
  exit_within (Some x) p (Some y) h i = (grind (arith, ints, clamps, h, i), grind (arith, ints, clamps, h, i))

  exit_kept : (y : Option (ℤ × ℤ)) (p : Stand) (n : ℕ) → ExitKeeps n y → ExitHas y p → (negsuc 32 ≤ℤ p.low) × (p.high ≤ℤ pos n)
  exit_kept None p n h i = absurd i
  exit_kept (Some y) p n h i = (omega (arith, ints, h.0, i.0), omega (arith, ints, h.2, i.1))

  end_at_found : (a b c d k : ℕ) (p s l : Place) (w : Walk) → EndsBody e s → BelowBy a b p s → BelowBy c d w.leaves l → EffectIn (made w) e → length w.heads ≡ k → HeadsIn w.heads hs →
      Found 0 0 c d k (end_at lim p (record w { place = p })) Unreachable l
  end_at_found a b c d k Unreachable s l w h i j u n o = record { walk = record w { place = Unreachable }; is = refl; rel = record { place = tt; leaves = j; effect = u; count = n; heads = o } }
  end_at_found a b c d k (At p) Unreachable l w h i j u n o = absurd i
  end_at_found a b c d k (At p) (Doubled q) l w h i j u n o = absurd i
  end_at_found a b c d k (Doubled p) Unreachable l w h i j u n o = absurd i
  end_at_found a b c d k (Doubled p) (At q) l w h i j u n o = absurd i
  end_at_found a b c d k (Doubled p) (Doubled q) l w h i j u n o = absurd h
  end_at_found a b c d k (At p) (At q) l w h i j u n o =
      let hp = has e.exit h.1 in
      let kept = exit_kept e.exit p lim.top room.exit hp in
      let t1 = and_from (int_le (negsuc 32) p.low) (int_le p.high (pos lim.top)) (int_true_le (negsuc 32) p.low kept.0) (int_true_le p.high (pos lim.top) kept.1) in
      let t2 : same_shape p.shape [] ≡ true = subst (λ z. same_shape z [] ≡ true) (sym (i.same ∙ h.0)) refl in
      found_checked 0 0 c d k Unreachable l _ _ _ t1 (found_checked 0 0 c d k Unreachable l _ _ _ t2 (record {
        walk = record w { place = Unreachable; exit = with_exit w.exit p };
        is = refl;
        rel = record { place = tt; leaves = j; effect = record { need = u.need; peak = u.peak; back = u.back; exit = exit_within w.exit p e.exit u.exit hp }; count = n; heads = o };
      }))
    where
      has : (x : Option (ℤ × ℤ)) → ExitHas x q → ExitHas x p
      has None u = u
      has (Some y) u = (omega (arith, ints, i.low, u.0), omega (arith, ints, i.high, u.1))

  pub ends_found : (a b c d k : ℕ) (s l : Place) (w : Walk) → EndsBody e s → Rel a b c d k w s l → Found 0 0 c d k (ends lim w) Unreachable l
  ends_found a b c d k s l w h r = end_at_found a b c d k w.place s l w h r.place r.leaves r.effect r.count r.heads
