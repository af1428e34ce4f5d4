-- The items of a body, where a certificate is valid: the walk of a round refuses nothing, and stays below it.
use Rattle.std.proofs.Common.{◌≡◌, ℕ, ◌+◌, ◌≤◌, List, [], ◌∷◌, ◌++◌, length, Option, Some, None, Ok, Bool, true, false, refl, sym, ap, ◌∙◌, subst, arith, inl, inr, length-append}
use Rattle.std.specs.Prelude.{int_le, pos, negsuc, ℤ, ◌+ℤ◌, ◌-ℤ◌, slice_index_or}
use Rattle.std.proofs.lemmas.Int.{ints}
use Rattle.std.proofs.lemmas.Bool.{and_from, lt-ltb}
use Rattle.word_table.specs.declared.word.Word.{Word}
use Rattle.word_table.specs.declared.word.Word.TheVariants as table
use Rattle.word_table.specs.declared.word.Word.TheVariants.{QDup, Execute}
use Rattle.forth_program.specs.Tree.{Node, Nodes, Arms, Literal, Plain, Call, Child, Text, If, Until, While, Again, Do, QDo, Case, Leave, Exit, Empty, Then, NoArm, Arm}
use Rattle.depth_certifier.specs.declared.effect.Effect.{Effect}
use Rattle.depth_certifier.specs.declared.effect.CertCause.TheVariants as cause
use Rattle.depth_certifier.specs.Place.{Shape, Stand, Place, Unreachable, At, Doubled, InsideBy, BelowBy, Below, from_zero}
use Rattle.depth_certifier.specs.Effects.{table_effect, Known, effect_of, Next, Flag, More, next_of, branch_next, called_effect, word_effect, shape_after, keep, push_loop, text_word, turn_word, of_effect}
use Rattle.depth_certifier.specs.Certificate.{loops_in, loops, loops_in_arms, after, Leads, Decides, no_interval, Head, SameShape, dropped, doubles, WordLeads, ItemFits, Fits, ArmsFit, ExitIn, EffectIn, Limits, Keeps}
use Rattle.depth_certifier.specs.Walk.{Walk, Walked, then_do, checked, takes, decides, zero_way, joins, leaving, noting, enter_given, enters, returns_to, shape_at, word_walk, item_walk, walk, arms_walk, made}
use Rattle.depth_certifier.proofs.SourcePlaces.{below_then}
use Rattle.depth_certifier.proofs.Work.{LastItems}
use Rattle.depth_certifier.proofs.Tests.{from_zero_up, int_true_le, weaker, effect_in_same, HeadsIn, noted}
use Rattle.depth_certifier.proofs.UnreachablePlaces.{GivenAre, Enough, enough_less, Passes, enters_none, item_none, walk_none}
use Rattle.depth_certifier.proofs.StepsBelowCertificate.{KnownIn, word_in, called_in, Tight, TopIs, dropped_below, none_any, Rel, Found, found_from, found_as}
use Rattle.depth_certifier.proofs.StepsBelowCertificate.{takes_found, double_at_found, decides_found, joins_found, returns_found, leave_at_found, ends_found}

after_plain : (x : Option (ℤ × ℤ)) (p : Stand) (shape : Shape) (q : Stand) → after x p shape ≡ Doubled q → ⊥
after_plain None p shape q h = cc (h)
after_plain (Some x) p shape q h = cc (h)

leads_plain : (e x : Effect) (change : Shape → Option Shape) (s m : Place) → Leads e x change s m → (q : Stand) → m ≡ Doubled q → ⊥
leads_plain e x change Unreachable m h q is = cc (h, is)
leads_plain e x change (At p) m h q is = after_plain x.exit p h.shape q (sym h.place ∙ is)
leads_plain e x change (Doubled p) m h q is = h

-- how much room a head leaves
record Slack (p q : Stand) (a b : ℕ) : Type 0 where
  below : ℕ
  above : ℕ
  low : p.low ≡ (q.low +ℤ pos below)
  high : (p.high +ℤ pos above) ≡ q.high
  a_in : a ≤ below
  b_in : b ≤ above

slack_of : (p q r : Stand) (a b : ℕ) → InsideBy a b p r → InsideBy 0 0 r q → Slack p q a b
slack_of p q r a b h i =
    let up = from_zero_up (p.low -ℤ q.low) (omega (arith, ints, h.low, i.low)) in
    let down = from_zero_up (q.high -ℤ p.high) (omega (arith, ints, h.high, i.high)) in
    record {
      below = from_zero (p.low -ℤ q.low);
      above = from_zero (q.high -ℤ p.high);
      low = omega (arith, ints, up);
      high = omega (arith, ints, down);
      a_in = omega (arith, ints, up, h.low, i.low);
      b_in = omega (arith, ints, down, h.high, i.high);
    }

-- the head of a loop that is come to at p, inside the head h of the certificate
record HeadFound (hs : List (ℤ × ℤ)) (given : Option (List (ℤ × ℤ))) (a b k : ℕ) (p : Stand) (w : Walk) (h : Stand) : Type 0 where
  below : ℕ
  above : ℕ
  a_in : a ≤ below
  b_in : b ≤ above
  tight : Tight given below above
  head : Stand
  head_interval : ℤ × ℤ
  is : enters given (record w { place = At p }) ≡ Ok (noting head_interval (At head) w)
  low : head.low ≡ (h.low +ℤ pos below)
  high : (head.high +ℤ pos above) ≡ h.high
  same : head.shape ≡ h.shape
  heads : HeadsIn (w.heads ++ head_interval ∷ []) hs

head_found : (hs : List (ℤ × ℤ)) (given : Option (List (ℤ × ℤ))) (a b k : ℕ) (p p0 q : Stand) (w : Walk) → GivenAre given hs → Enough given (k + 1) → Tight given a b → InsideBy a b p p0 → InsideBy 0 0 p0 q →
    q.low ≡ (slice_index_or hs k no_interval).0 → q.high ≡ (slice_index_or hs k no_interval).1 → length w.heads ≡ k → HeadsIn w.heads hs → HeadFound hs given a b k p w q
head_found hs None a b k p p0 q w are enough tight i j lo hi count heads =
    let sl = slack_of p q p0 a b i j in
    let inside : ExitIn (Some (p.low, p.high)) (Some (slice_index_or hs k no_interval)) = (omega (arith, ints, lo, i.low, j.low), omega (arith, ints, hi, i.high, j.high)) in
    record {
      below = sl.below;
      above = sl.above;
      a_in = sl.a_in;
      b_in = sl.b_in;
      tight = tt;
      head = p;
      head_interval = (p.low, p.high);
      is = refl;
      low = sl.low;
      high = sl.high;
      same = i.same ∙ j.same;
      heads = noted w.heads hs (p.low, p.high) heads (inr (subst (λ n. ExitIn (Some (p.low, p.high)) (Some (slice_index_or hs n no_interval))) (sym count) inside));
    }
head_found hs (Some gs) a b k p p0 q w are enough tight i j lo hi count heads =
    let x = slice_index_or gs (length w.heads) no_interval in
    let lo' : q.low ≡ x.0 = lo ∙ ap (λ n. (slice_index_or hs n no_interval).0) (sym count) ∙ ap (λ ys. (slice_index_or ys (length w.heads) no_interval).0) (sym are) in
    let hi' : q.high ≡ x.1 = hi ∙ ap (λ n. (slice_index_or hs n no_interval).1) (sym count) ∙ ap (λ ys. (slice_index_or ys (length w.heads) no_interval).1) (sym are) in
    let t0 = lt-ltb (length w.heads) (length gs) (omega (arith, enough, count)) in
    let t1 = int_true_le x.0 p.low (omega (arith, ints, lo', i.low, j.low)) in
    let t2 = int_true_le p.high x.1 (omega (arith, ints, hi', i.high, j.high)) in
    record {
      below = 0;
      above = 0;
      a_in = omega (arith, tight.0);
      b_in = omega (arith, tight.1);
      tight = (refl, refl);
      head = record { low = x.0; high = x.1; shape = p.shape };
      head_interval = no_interval;
      is =
          ap (λ t. checked t cause.Data (enter_given x (At p) (record w { place = At p }))) t0
          ∙ ap (λ t. checked t cause.Data (Ok (noting no_interval (At (record { low = x.0; high = x.1; shape = p.shape })) (record w { place = At p }))))
          (and_from (int_le x.0 p.low) (int_le p.high x.1) t1 t2);
      low = omega (arith, ints, lo');
      high = omega (arith, ints, hi');
      same = i.same ∙ j.same;
      heads = noted w.heads hs no_interval heads (inl refl);
    }

module _ (lim : Limits) (e : Effect) (room : Keeps lim e) (zs ys : Known) (hs : List (ℤ × ℤ)) (less : KnownIn zs ys) (given : Option (List (ℤ × ℤ))) (are : GivenAre given hs) where
  abbrev pub WalkFound : ℕ → ℕ → ℕ → ℕ → ℕ → Walked → Place → Place → Type 0
  WalkFound a b c d k r s l = Found lim e room hs a b c d k r s l

  abbrev pub WalkRel : ℕ → ℕ → ℕ → ℕ → ℕ → Walk → Place → Place → Type 0
  WalkRel a b c d k w s l = Rel lim e room hs a b c d k w s l

  abbrev pub going : Option Shape → Next → Nodes → Walk → Walked
  going top next nodes w = walk lim zs given top next nodes w

  -- from within s the items lead to within t
  abbrev pub Follows : Next → Nodes → ℕ → Place → Place → Place → Type 0
  Follows next nodes k s l t =
      (top : Option Shape) → TopIs top l → (a b c d : ℕ) → c ≤ a → d ≤ b → Tight given a b → Enough given (k + loops nodes) → (w : Walk) →
      WalkRel a b c d k w s l → WalkFound a b c d (k + loops nodes) (going top next nodes w) t l

  passed_found : (a b c d k n : ℕ) (r : Walked) (s l : Place) (w : Walk) → Passes hs r n w → BelowBy c d w.leaves l → EffectIn (made w) e → length w.heads ≡ k → HeadsIn w.heads hs → WalkFound a b c d (k + n) r s l
  passed_found a b c d k n r s l w f j u count heads =
      record { walk = record w { place = Unreachable; heads = f.heads }; is = f.is; rel = record { place = tt; leaves = j; effect = u; count = omega (arith, f.count, count); heads = f.within heads } }

  enough_at : (n m : ℕ) → m ≤ n → Enough given n → Enough given m
  enough_at n m h e = enough_less given n m h e

  one_noted : (xs : List (ℤ × ℤ)) (x : ℤ × ℤ) (k : ℕ) → length xs ≡ k → length (xs ++ x ∷ []) ≡ k + 1
  one_noted xs x k h = length-append xs (x ∷ []) ∙ ap (λ n. n + 1) h

  -- BEGIN body UNTIL
  until_found : (body : Nodes) (k : ℕ) (s l h m t : Place) (top : Option Shape) (a b c d : ℕ) → TopIs top l → c ≤ a → d ≤ b → Tight given a b →
      Enough given (k + (1 + loops body)) → (place : Place) (w : Walk) → Head hs k s h → BelowBy a b place s → BelowBy c d w.leaves l → EffectIn (made w) e →
      length w.heads ≡ k → HeadsIn w.heads hs →
      Follows More body (k + 1) h l m → Leads e (table_effect table.Until) keep m t → Below t h →
      WalkFound a b c d (k + (1 + loops body)) (item_walk lim zs given top More (Until body) (record w { place = place })) t l
  until_found body k s l h m t top a b c d tl ca db tight enough Unreachable w hd i j u n o follows leads back =
      passed_found a b c d k (1 + loops body) _ t l w (item_none hs lim zs given (Until body) top More w (enough_at (k + (1 + loops body)) (length w.heads + (1 + loops body)) (omega (arith, n)) enough)) j u n o
  until_found body k Unreachable l h m t top a b c d tl ca db tight enough (At p) w hd i j u n o follows leads back = absurd i
  until_found body k (Doubled p0) l h m t top a b c d tl ca db tight enough (At p) w hd i j u n o follows leads back = absurd i
  until_found body k (At p0) l h m t top a b c d tl ca db tight enough (At p) w hd i j u n o follows leads back =
      let q = hd.stand in
      let f = head_found hs given a b k p p0 q w are (enough_at (k + (1 + loops body)) (k + 1) (omega arith) enough) tight i hd.inside hd.low hd.high n o in
      let A = f.below in
      let B = f.above in
      let w1 = noting f.head_interval (At f.head) w in
      let r1 : WalkRel A B c d (k + 1) w1 h l = record {
        place = subst (λ z. BelowBy A B (At f.head) z) (sym hd.place) (record { low = omega (arith, ints, f.low); high = omega (arith, ints, f.high); same = f.same });
        leaves = j;
        effect = u;
        count = one_noted w.heads f.head_interval k n;
        heads = f.heads;
      } in
      let back' : Below t (At q) = subst (λ z. Below t z) hd.place back in
      let g = found_from lim e room hs A B c d (k + 1 + loops body) m l a b c d (k + (1 + loops body)) t l (going top More body w1) (λ m. then_do (takes lim (table_effect table.Until) keep m) (λ n. returns_to (At f.head) n))
      (follows top tl A B c d (omega (arith, f.a_in)) (omega (arith, f.b_in)) f.tight (enough_at (k + (1 + loops body)) (k + 1 + loops body) (omega arith) enough) w1 r1) (λ v r.
      found_from lim e room hs A B c d (k + 1 + loops body) t l a b c d (k + (1 + loops body)) t l _ (λ n. returns_to (At f.head) n)
      (takes_found lim e room hs A B c d (k + 1 + loops body) (table_effect table.Until) (table_effect table.Until) keep m t l v
      (effect_in_same (table_effect table.Until)) leads r) (λ v' r'.
      let x = returns_found lim e room hs A B c d (k + 1 + loops body) f.head q t l v' f.low f.high f.same back' r' in
      record {
        walk = x.walk;
        is = x.is;
        rel = record {
          place = weaker A B a b x.walk.place t f.a_in f.b_in x.rel.place;
          leaves = x.rel.leaves;
          effect = x.rel.effect;
          count = (let y = x.rel.count in omega (arith, y));
          heads = x.rel.heads;
        };
      })) in
      record { walk = g.walk; is = ap (λ r. then_do r (λ h. then_do (going top More body h) (λ m. then_do (takes lim (table_effect table.Until) keep m) (λ n. returns_to h.place n)))) f.is ∙ g.is; rel = g.rel }
  until_found body k Unreachable l h m t top a b c d tl ca db tight enough (Doubled p) w hd i j u n o follows leads back = absurd i
  until_found body k (At p0) l h m t top a b c d tl ca db tight enough (Doubled p) w hd i j u n o follows leads back = absurd i
  until_found body k (Doubled p0) l h m t top a b c d tl ca db tight enough (Doubled p) w hd i j u n o follows leads back = absurd hd

  -- BEGIN test WHILE body REPEAT
  while_found : (test body : Nodes) (k : ℕ) (s l h m on_true n t : Place) (top : Option Shape) (a b c d : ℕ) → TopIs top l → c ≤ a → d ≤ b → Tight given a b →
      Enough given (k + (1 + loops test + loops body)) → (place : Place) (w : Walk) → Head hs k s h → BelowBy a b place s → BelowBy c d w.leaves l →
      EffectIn (made w) e → length w.heads ≡ k → HeadsIn w.heads hs →
      Follows Flag test (k + 1) h l m → Decides e m on_true t → Follows More body (k + 1 + loops test) on_true l n → Below n h →
      WalkFound a b c d (k + (1 + loops test + loops body)) (item_walk lim zs given top More (While test body) (record w { place = place })) t l
  while_found test body k s l h m on_true n t top a b c d tl ca db tight enough Unreachable w hd i j u count o testing dec going_on back =
      passed_found a b c d k (1 + loops test + loops body) _ t l w
      (item_none hs lim zs given (While test body) top More w
      (enough_at (k + (1 + loops test + loops body)) (length w.heads + (1 + loops test + loops body)) (omega (arith, count)) enough)) j u count o
  while_found test body k Unreachable l h m on_true n t top a b c d tl ca db tight enough (At p) w hd i j u count o testing dec going_on back = absurd i
  while_found test body k (Doubled p0) l h m on_true n t top a b c d tl ca db tight enough (At p) w hd i j u count o testing dec going_on back = absurd i
  while_found test body k (At p0) l h m on_true n t top a b c d tl ca db tight enough (At p) w hd i j u count o testing dec going_on back =
      let q = hd.stand in
      let f = head_found hs given a b k p p0 q w are (enough_at (k + (1 + loops test + loops body)) (k + 1) (omega arith) enough) tight i hd.inside hd.low hd.high count o in
      let A = f.below in
      let B = f.above in
      let k1 = k + 1 + loops test in
      let w1 = noting f.head_interval (At f.head) w in
      let r1 : WalkRel A B c d (k + 1) w1 h l = record {
        place = subst (λ z. BelowBy A B (At f.head) z) (sym hd.place) (record { low = omega (arith, ints, f.low); high = omega (arith, ints, f.high); same = f.same });
        leaves = j;
        effect = u;
        count = one_noted w.heads f.head_interval k count;
        heads = f.heads;
      } in
      let back' : Below n (At q) = subst (λ z. Below n z) hd.place back in
      let ca' : c ≤ A = omega (arith, f.a_in) in
      let db' : d ≤ B = omega (arith, f.b_in) in
      let g =
      found_from lim e room hs A B c d k1 m l a b c d (k + (1 + loops test + loops body)) t l (going top Flag test w1)
      (λ m.
      then_do (decides lim m)
      (λ y. then_do (going top More body y) (λ n. then_do (returns_to (At f.head) n) (λ o. Ok (record o { place = zero_way m.place y.place })))))
      (testing top tl A B c d ca' db' f.tight (enough_at (k + (1 + loops test + loops body)) (k + 1 + loops test) (omega arith) enough) w1 r1) (λ v r.
      let sp = decides_found lim e room hs A B c d k1 m on_true t l v dec r in
      let y = sp.found.walk in
      let rest =
      found_from lim e room hs A B c d (k1 + loops body) n l a b c d (k + (1 + loops test + loops body)) t l (going top More body y)
      (λ n. then_do (returns_to (At f.head) n) (λ o. Ok (record o { place = zero_way v.place y.place })))
      (going_on top tl A B c d ca' db' f.tight (enough_at (k + (1 + loops test + loops body)) (k + 1 + loops test + loops body) (omega arith) enough) y sp.found.rel) (λ v2 r2.
      let x = returns_found lim e room hs A B c d (k1 + loops body) f.head q n l v2 f.low f.high f.same back' r2 in
      record {
        walk = record x.walk { place = zero_way v.place y.place };
        is = ap (λ r. then_do r (λ o. Ok (record o { place = zero_way v.place y.place }))) x.is;
        rel = record { place = weaker A B a b (zero_way v.place y.place) t f.a_in f.b_in sp.zero; leaves = x.rel.leaves; effect = x.rel.effect; count = (let z = x.rel.count in omega (arith, z)); heads = x.rel.heads };
      }) in
      record { walk = rest.walk; is = ap (λ r. then_do r (λ y. then_do (going top More body y) (λ n. then_do (returns_to (At f.head) n) (λ o. Ok (record o { place = zero_way v.place y.place }))))) sp.found.is ∙ rest.is; rel = rest.rel }) in
      record {
        walk = g.walk;
        is =
            ap
            (λ r.
            then_do r
            (λ h.
            then_do (going top Flag test h)
            (λ m.
            then_do (decides lim m)
            (λ y.
            then_do (going top More body y)
            (λ n. then_do (returns_to h.place n) (λ o. Ok (record o { place = zero_way m.place y.place }))))))) f.is ∙ g.is;
        rel = g.rel;
      }
  while_found test body k Unreachable l h m on_true n t top a b c d tl ca db tight enough (Doubled p) w hd i j u count o testing dec going_on back = absurd i
  while_found test body k (At p0) l h m on_true n t top a b c d tl ca db tight enough (Doubled p) w hd i j u count o testing dec going_on back = absurd i
  while_found test body k (Doubled p0) l h m on_true n t top a b c d tl ca db tight enough (Doubled p) w hd i j u count o testing dec going_on back = absurd hd

  -- BEGIN body AGAIN
  again_found : (body : Nodes) (k : ℕ) (s l h m : Place) (top : Option Shape) (a b c d : ℕ) → TopIs top l → c ≤ a → d ≤ b → Tight given a b →
      Enough given (k + (1 + loops body)) → (place : Place) (w : Walk) → Head hs k s h → BelowBy a b place s → BelowBy c d w.leaves l → EffectIn (made w) e →
      length w.heads ≡ k → HeadsIn w.heads hs →
      Follows More body (k + 1) h l m → Below m h →
      WalkFound a b c d (k + (1 + loops body)) (item_walk lim zs given top More (Again body) (record w { place = place })) Unreachable l
  again_found body k s l h m top a b c d tl ca db tight enough Unreachable w hd i j u n o follows back =
      passed_found a b c d k (1 + loops body) _ Unreachable l w (item_none hs lim zs given (Again body) top More w (enough_at (k + (1 + loops body)) (length w.heads + (1 + loops body)) (omega (arith, n)) enough)) j u n o
  again_found body k Unreachable l h m top a b c d tl ca db tight enough (At p) w hd i j u n o follows back = absurd i
  again_found body k (Doubled p0) l h m top a b c d tl ca db tight enough (At p) w hd i j u n o follows back = absurd i
  again_found body k (At p0) l h m top a b c d tl ca db tight enough (At p) w hd i j u n o follows back =
      let q = hd.stand in
      let f = head_found hs given a b k p p0 q w are (enough_at (k + (1 + loops body)) (k + 1) (omega arith) enough) tight i hd.inside hd.low hd.high n o in
      let A = f.below in
      let B = f.above in
      let w1 = noting f.head_interval (At f.head) w in
      let r1 : WalkRel A B c d (k + 1) w1 h l = record {
        place = subst (λ z. BelowBy A B (At f.head) z) (sym hd.place) (record { low = omega (arith, ints, f.low); high = omega (arith, ints, f.high); same = f.same });
        leaves = j;
        effect = u;
        count = one_noted w.heads f.head_interval k n;
        heads = f.heads;
      } in
      let back' : Below m (At q) = subst (λ z. Below m z) hd.place back in
      let g = found_from lim e room hs A B c d (k + 1 + loops body) m l a b c d (k + (1 + loops body)) Unreachable l (going top More body w1) (λ m. then_do (returns_to (At f.head) m) (λ n. Ok (record n { place = Unreachable })))
      (follows top tl A B c d (omega (arith, f.a_in)) (omega (arith, f.b_in)) f.tight (enough_at (k + (1 + loops body)) (k + 1 + loops body) (omega arith) enough) w1 r1) (λ v r.
      let x = returns_found lim e room hs A B c d (k + 1 + loops body) f.head q m l v f.low f.high f.same back' r in
      record {
        walk = record x.walk { place = Unreachable };
        is = ap (λ r. then_do r (λ n. Ok (record n { place = Unreachable }))) x.is;
        rel = record { place = tt; leaves = x.rel.leaves; effect = x.rel.effect; count = (let y = x.rel.count in omega (arith, y)); heads = x.rel.heads };
      }) in
      record { walk = g.walk; is = ap (λ r. then_do r (λ h. then_do (going top More body h) (λ m. then_do (returns_to h.place m) (λ n. Ok (record n { place = Unreachable }))))) f.is ∙ g.is; rel = g.rel }
  again_found body k Unreachable l h m top a b c d tl ca db tight enough (Doubled p) w hd i j u n o follows back = absurd i
  again_found body k (At p0) l h m top a b c d tl ca db tight enough (Doubled p) w hd i j u n o follows back = absurd i
  again_found body k (Doubled p0) l h m top a b c d tl ca db tight enough (Doubled p) w hd i j u n o follows back = absurd hd

  -- DO body LOOP, after the effect of DO
  abbrev turning : Nodes → Bool → Place → Walk → Walked
  turning body plus out w =
      then_do (enters given w) (λ h.
      then_do (going (shape_at h.place) More body h) (λ m.
      then_do (takes lim (table_effect (turn_word plus)) keep m) (λ n.
      then_do (returns_to h.place n) (λ o.
      then_do (joins o.leaves o) (λ j.
      Ok (record j { place = dropped j.place; leaves = out }))))))

  inner_top : (head q : Stand) (x : Place) → head.shape ≡ q.shape → SameShape (At q) x → TopIs (Some head.shape) x
  inner_top head q Unreachable h s = tt
  inner_top head q (At r) h s = ap Some (h ∙ s)
  inner_top head q (Doubled r) h s = tt

  do_found : (body : Nodes) (plus : Bool) (k : ℕ) (s l h x m n : Place) (a b c d : ℕ) → c ≤ a → d ≤ b → Tight given a b → Enough given (k + (1 + loops body)) →
      (place : Place) (w : Walk) (out : Place) → Head hs k s h → BelowBy a b place s → BelowBy c d out l → EffectIn (made w) e → length w.heads ≡ k →
      HeadsIn w.heads hs →
      SameShape h x → Follows More body (k + 1) h x m → Leads e (table_effect (turn_word plus)) keep m n → Below n h → Below n x →
      WalkFound a b c d (k + (1 + loops body)) (turning body plus out (record w { place = place; leaves = Unreachable })) (dropped x) l
  do_found body plus k s l h x m n a b c d ca db tight enough Unreachable w out hd i j u count o shape follows leads back inx =
      let w' = record w { leaves = Unreachable } in
      let f = enters_none hs lim zs given w' (enough_at (k + (1 + loops body)) (length w.heads + 1) (omega (arith, count)) enough) in
      let g = walk_none hs lim zs given body None More (record w' { heads = f.heads }) (enough_at (k + (1 + loops body)) (length f.heads + loops body) (let y = f.count in omega (arith, y, count)) enough) in
      record {
        walk = record w { place = Unreachable; leaves = out; heads = g.heads };
        is =
            ap
            (λ r.
            then_do r
            (λ h.
            then_do (going (shape_at h.place) More body h)
            (λ m.
            then_do (takes lim (table_effect (turn_word plus)) keep m)
            (λ n.
            then_do (returns_to h.place n)
            (λ o. then_do (joins o.leaves o) (λ j. Ok (record j { place = dropped j.place; leaves = out }))))))) f.is
            ∙ ap
            (λ r.
            then_do r
            (λ m.
            then_do (takes lim (table_effect (turn_word plus)) keep m)
            (λ n.
            then_do (returns_to Unreachable n)
            (λ o. then_do (joins o.leaves o) (λ j. Ok (record j { place = dropped j.place; leaves = out })))))) g.is;
        rel = record { place = tt; leaves = j; effect = u; count = omega (arith, g.count, f.count, count); heads = g.within (f.within o) };
      }
  do_found body plus k Unreachable l h x m n a b c d ca db tight enough (At p) w out hd i j u count o shape follows leads back inx = absurd i
  do_found body plus k (Doubled p0) l h x m n a b c d ca db tight enough (At p) w out hd i j u count o shape follows leads back inx = absurd i
  do_found body plus k (At p0) l h x m n a b c d ca db tight enough (At p) w out hd i j u count o shape follows leads back inx =
      let q = hd.stand in
      let w0 = record w { leaves = Unreachable } in
      let f = head_found hs given a b k p p0 q w0 are (enough_at (k + (1 + loops body)) (k + 1) (omega arith) enough) tight i hd.inside hd.low hd.high count o in
      let A = f.below in
      let B = f.above in
      let k1 = k + 1 + loops body in
      let w1 = noting f.head_interval (At f.head) w0 in
      let r1 : WalkRel A B A B (k + 1) w1 h x = record {
        place = subst (λ z. BelowBy A B (At f.head) z) (sym hd.place) (record { low = omega (arith, ints, f.low); high = omega (arith, ints, f.high); same = f.same });
        leaves = tt;
        effect = u;
        count = one_noted w.heads f.head_interval k count;
        heads = f.heads;
      } in
      let back' : Below n (At q) = subst (λ z. Below n z) hd.place back in
      let top = inner_top f.head q x f.same (subst (λ z. SameShape z x) hd.place shape) in
      let effect = table_effect (turn_word plus) in
      let last = λ (o : Walk). then_do (joins o.leaves o) (λ j. Ok (record j { place = dropped j.place; leaves = out })) in
      let g = found_from lim e room hs A B A B k1 m x a b c d (k + (1 + loops body)) (dropped x) l (going (Some f.head.shape) More body w1) (λ m. then_do (takes lim effect keep m) (λ n. then_do (returns_to (At f.head) n) last))
      (follows (Some f.head.shape) top A B A B (omega arith) (omega arith) f.tight (enough_at (k + (1 + loops body)) (k + 1 + loops body) (omega arith) enough) w1 r1) (λ v r.
      found_from lim e room hs A B A B k1 n x a b c d (k + (1 + loops body)) (dropped x) l (takes lim effect keep v)
      (λ n. then_do (returns_to (At f.head) n) last) (takes_found lim e room hs A B A B k1 effect effect keep m n x v (effect_in_same effect) leads r)
      (λ v1 s1.
      found_from lim e room hs A B A B k1 n x a b c d (k + (1 + loops body)) (dropped x) l (returns_to (At f.head) v1) last (returns_found lim e room hs A B A B k1 f.head q n x v1 f.low f.high f.same back' s1) (λ v2 s2.
      let y = joins_found lim e room hs A B A B k1 v2.leaves x x v2 s2.leaves (record { place = below_then A B v2.place n x s2.place inx; leaves = s2.leaves; effect = s2.effect; count = s2.count; heads = s2.heads }) in
      record {
        walk = record y.walk { place = dropped y.walk.place; leaves = out };
        is = ap (λ r. then_do r (λ j. Ok (record j { place = dropped j.place; leaves = out }))) y.is;
        rel = record {
          place = weaker A B a b (dropped y.walk.place) (dropped x) f.a_in f.b_in (dropped_below A B y.walk.place x y.rel.place);
          leaves = j;
          effect = y.rel.effect;
          count = (let z = y.rel.count in omega (arith, z));
          heads = y.rel.heads;
        };
      }))) in
      record { walk = g.walk; is = ap (λ r. then_do r (λ h. then_do (going (shape_at h.place) More body h) (λ m. then_do (takes lim effect keep m) (λ n. then_do (returns_to h.place n) last)))) f.is ∙ g.is; rel = g.rel }
  do_found body plus k Unreachable l h x m n a b c d ca db tight enough (Doubled p) w out hd i j u count o shape follows leads back inx = absurd i
  do_found body plus k (At p0) l h x m n a b c d ca db tight enough (Doubled p) w out hd i j u count o shape follows leads back inx = absurd i
  do_found body plus k (Doubled p0) l h x m n a b c d ca db tight enough (Doubled p) w out hd i j u count o shape follows leads back inx = absurd hd

  -- ?DO body LOOP, after the effect of ?DO: the place where it leaves the loop out joins the end
  abbrev query_turning : Nodes → Bool → Place → Place → Walk → Walked
  query_turning body plus began out w =
      then_do (enters given w) (λ h.
      then_do (going (shape_at h.place) More body h) (λ m.
      then_do (takes lim (table_effect (turn_word plus)) keep m) (λ n.
      then_do (returns_to h.place n) (λ o.
      then_do (joins began o) (λ q.
      then_do (joins q.leaves q) (λ j.
      Ok (record j { place = dropped j.place; leaves = out })))))))

  query_do_found : (body : Nodes) (plus : Bool) (k : ℕ) (s l h x m n : Place) (a b c d : ℕ) → c ≤ a → d ≤ b → Tight given a b →
      Enough given (k + (1 + loops body)) → (place : Place) (w : Walk) (out : Place) → Head hs k s h → BelowBy a b place s → BelowBy c d out l →
      EffectIn (made w) e → length w.heads ≡ k → HeadsIn w.heads hs →
      SameShape h x → Follows More body (k + 1) h x m → Leads e (table_effect (turn_word plus)) keep m n → Below n h → Below n x → Below s x →
      WalkFound a b c d (k + (1 + loops body)) (query_turning body plus place out (record w { place = place; leaves = Unreachable })) (dropped x) l
  query_do_found body plus k s l h x m n a b c d ca db tight enough Unreachable w out hd i j u count o shape follows leads back inx skips =
      let w' = record w { leaves = Unreachable } in
      let f = enters_none hs lim zs given w' (enough_at (k + (1 + loops body)) (length w.heads + 1) (omega (arith, count)) enough) in
      let g = walk_none hs lim zs given body None More (record w' { heads = f.heads }) (enough_at (k + (1 + loops body)) (length f.heads + loops body) (let y = f.count in omega (arith, y, count)) enough) in
      record {
        walk = record w { place = Unreachable; leaves = out; heads = g.heads };
        is =
            ap
            (λ r.
            then_do r
            (λ h.
            then_do (going (shape_at h.place) More body h)
            (λ m.
            then_do (takes lim (table_effect (turn_word plus)) keep m)
            (λ n.
            then_do (returns_to h.place n)
            (λ o.
            then_do (joins Unreachable o)
            (λ q. then_do (joins q.leaves q) (λ j. Ok (record j { place = dropped j.place; leaves = out })))))))) f.is
            ∙ ap
            (λ r.
            then_do r
            (λ m.
            then_do (takes lim (table_effect (turn_word plus)) keep m)
            (λ n.
            then_do (returns_to Unreachable n)
            (λ o.
            then_do (joins Unreachable o)
            (λ q. then_do (joins q.leaves q) (λ j. Ok (record j { place = dropped j.place; leaves = out }))))))) g.is;
        rel = record { place = tt; leaves = j; effect = u; count = omega (arith, g.count, f.count, count); heads = g.within (f.within o) };
      }
  query_do_found body plus k Unreachable l h x m n a b c d ca db tight enough (At p) w out hd i j u count o shape follows leads back inx skips = absurd i
  query_do_found body plus k (Doubled p0) l h x m n a b c d ca db tight enough (At p) w out hd i j u count o shape follows leads back inx skips = absurd i
  query_do_found body plus k (At p0) l h x m n a b c d ca db tight enough (At p) w out hd i j u count o shape follows leads back inx skips =
      let q = hd.stand in
      let w0 = record w { leaves = Unreachable } in
      let f = head_found hs given a b k p p0 q w0 are (enough_at (k + (1 + loops body)) (k + 1) (omega arith) enough) tight i hd.inside hd.low hd.high count o in
      let A = f.below in
      let B = f.above in
      let k1 = k + 1 + loops body in
      let w1 = noting f.head_interval (At f.head) w0 in
      let r1 : WalkRel A B A B (k + 1) w1 h x = record {
        place = subst (λ z. BelowBy A B (At f.head) z) (sym hd.place) (record { low = omega (arith, ints, f.low); high = omega (arith, ints, f.high); same = f.same });
        leaves = tt;
        effect = u;
        count = one_noted w.heads f.head_interval k count;
        heads = f.heads;
      } in
      let back' : Below n (At q) = subst (λ z. Below n z) hd.place back in
      let top = inner_top f.head q x f.same (subst (λ z. SameShape z x) hd.place shape) in
      let effect = table_effect (turn_word plus) in
      let began : BelowBy a b (At p) x = below_then a b (At p) (At p0) x i skips in
      let drops = λ (q : Walk). then_do (joins q.leaves q) (λ j. Ok (record j { place = dropped j.place; leaves = out })) in
      let last = λ (o : Walk). then_do (joins (At p) o) drops in
      let g = found_from lim e room hs A B A B k1 m x a b c d (k + (1 + loops body)) (dropped x) l (going (Some f.head.shape) More body w1) (λ m. then_do (takes lim effect keep m) (λ n. then_do (returns_to (At f.head) n) last))
      (follows (Some f.head.shape) top A B A B (omega arith) (omega arith) f.tight (enough_at (k + (1 + loops body)) (k + 1 + loops body) (omega arith) enough) w1 r1) (λ v r.
      found_from lim e room hs A B A B k1 n x a b c d (k + (1 + loops body)) (dropped x) l (takes lim effect keep v)
      (λ n. then_do (returns_to (At f.head) n) last) (takes_found lim e room hs A B A B k1 effect effect keep m n x v (effect_in_same effect) leads r)
      (λ v1 s1.
      found_from lim e room hs A B A B k1 n x a b c d (k + (1 + loops body)) (dropped x) l (returns_to (At f.head) v1) last (returns_found lim e room hs A B A B k1 f.head q n x v1 f.low f.high f.same back' s1) (λ v2 s2.
      let at_end : WalkRel a b a b k1 v2 x x = record {
        place = weaker A B a b v2.place x f.a_in f.b_in (below_then A B v2.place n x s2.place inx);
        leaves = weaker A B a b v2.leaves x f.a_in f.b_in s2.leaves;
        effect = s2.effect;
        count = s2.count;
        heads = s2.heads;
      } in
      found_from lim e room hs a b a b k1 x x a b c d (k + (1 + loops body)) (dropped x) l (joins (At p) v2) drops (joins_found lim e room hs a b a b k1 (At p) x x v2 began at_end) (λ v3 s3.
      let y = joins_found lim e room hs a b a b k1 v3.leaves x x v3 s3.leaves s3 in
      record {
        walk = record y.walk { place = dropped y.walk.place; leaves = out };
        is = ap (λ r. then_do r (λ j. Ok (record j { place = dropped j.place; leaves = out }))) y.is;
        rel = record { place = dropped_below a b y.walk.place x y.rel.place; leaves = j; effect = y.rel.effect; count = (let z = y.rel.count in omega (arith, z)); heads = y.rel.heads };
      })))) in
      record { walk = g.walk; is = ap (λ r. then_do r (λ h. then_do (going (shape_at h.place) More body h) (λ m. then_do (takes lim effect keep m) (λ n. then_do (returns_to h.place n) last)))) f.is ∙ g.is; rel = g.rel }
  query_do_found body plus k Unreachable l h x m n a b c d ca db tight enough (Doubled p) w out hd i j u count o shape follows leads back inx skips = absurd i
  query_do_found body plus k (At p0) l h x m n a b c d ca db tight enough (Doubled p) w out hd i j u count o shape follows leads back inx skips = absurd i
  query_do_found body plus k (Doubled p0) l h x m n a b c d ca db tight enough (Doubled p) w out hd i j u count o shape follows leads back inx skips = absurd hd

  -- ---- every item

  abbrev pub ItemFollows : Next → Node → ℕ → Place → Place → Place → Type 0
  ItemFollows next node k s l t =
      (top : Option Shape) → TopIs top l → (a b c d : ℕ) → c ≤ a → d ≤ b → Tight given a b → Enough given (k + loops_in node) → (w : Walk) →
      WalkRel a b c d k w s l → WalkFound a b c d (k + loops_in node) (item_walk lim zs given top next node w) t l

  word_found : (double : Bool) (word : Word) (k : ℕ) (s l t : Place) (a b c d : ℕ) (w : Walk) → WordLeads ys hs e double word s t → WalkRel a b c d k w s l → WalkFound a b c d (k + 0) (word_walk lim zs given double word w) t l
  word_found true word k s l t a b c d w f r = found_as lim e room hs a b c d k (k + 0) _ t l (omega arith) (double_at_found lim e room hs a b c d k w.place s t l w f r.place r.leaves r.effect r.count r.heads)
  word_found false word k s l t a b c d w f r =
      found_as lim e room hs a b c d k (k + 0) _ t l (omega arith)
      (takes_found lim e room hs a b c d k (word_effect zs.shared word) (word_effect ys.shared word) (shape_after word) s t l w
      (word_in zs.shared ys.shared word less.shared) f r)

  simple_found : (x y : Effect) (k : ℕ) (s l t : Place) (a b c d : ℕ) (w : Walk) → EffectIn x y → Leads e y keep s t → WalkRel a b c d k w s l → WalkFound a b c d (k + 0) (takes lim x keep w) t l
  simple_found x y k s l t a b c d w i f r = found_as lim e room hs a b c d k (k + 0) _ t l (omega arith) (takes_found lim e room hs a b c d k x y keep s t l w i f r)

  mutual
    pub item_found : (node : Node) (next : Next) (k : ℕ) (s l t : Place) → ItemFits ys hs e next node k s l t → ItemFollows next node k s l t
    item_found (Literal v) next k s l t f top tl a b c d ca db tight enough w r = simple_found (table_effect table.Literal) (table_effect table.Literal) k s l t a b c d w (effect_in_same (table_effect table.Literal)) f r
    item_found (Plain word) next k s l t f top tl a b c d ca db tight enough w r = word_found (doubles next word) word k s l t a b c d w f r
    item_found (Call x) next k s l t f top tl a b c d ca db tight enough w r =
        simple_found (called_effect next (effect_of zs x)) (called_effect next (effect_of ys x)) k s l t a b c d w
        (called_in next (effect_of zs x) (effect_of ys x) (less.definitions x)) f r
    item_found (Child x y) next k s l t f top tl a b c d ca db tight enough w r =
        found_from lim e room hs a b c d k f.0 l a b c d (k + 0) t l _ _
        (takes_found lim e room hs a b c d k (table_effect table.Literal) (table_effect table.Literal) keep s f.0 l w
        (effect_in_same (table_effect table.Literal)) f.1 r) (λ v q.
        simple_found (called_effect next (effect_of zs x)) (called_effect next (effect_of ys x)) k f.0 l t a b c d v (called_in next (effect_of zs x) (effect_of ys x) (less.definitions x)) f.2 q)
    item_found (Text kind x n) next k s l t f top tl a b c d ca db tight enough w r = simple_found (table_effect (text_word kind)) (table_effect (text_word kind)) k s l t a b c d w (effect_in_same (table_effect (text_word kind))) f r
    item_found (If first second) next k s l t f top tl a b c d ca db tight enough w r =
        let sp = decides_found lim e room hs a b c d k s f.on_true f.on_false l w f.decides r in
        let m = sp.found.walk in
        let k2 = k + (loops first + loops second) in
        let rest =
        found_from lim e room hs a b c d (k + loops first) t l a b c d k2 t l (going top (branch_next next) first m)
        (λ i. then_do (going top (branch_next next) second (record i { place = zero_way w.place m.place })) (λ j. joins i.place j))
        (walk_found first (branch_next next) k f.on_true l t f.first top tl a b c d ca db tight (enough_at k2 (k + loops first) (omega arith) enough) m sp.found.rel) (λ v1 q1.
        found_from lim e room hs a b c d (k + loops first + loops second) t l a b c d k2 t l (going top (branch_next next) second (record v1 { place = zero_way w.place m.place })) (λ j. joins v1.place j)
        (walk_found second (branch_next next) (k + loops first) f.on_false l t f.second top tl a b c d ca db tight
        (enough_at k2 (k + loops first + loops second) (omega arith) enough) (record v1 { place = zero_way w.place m.place })
        (record { place = sp.zero; leaves = q1.leaves; effect = q1.effect; count = q1.count; heads = q1.heads })) (λ v2 q2.
        found_as lim e room hs a b c d (k + loops first + loops second) k2 (joins v1.place v2) t l (omega arith) (joins_found lim e room hs a b c d (k + loops first + loops second) v1.place t l v2 q1.place q2))) in
        record {
          walk = rest.walk;
          is =
              ap
              (λ r.
              then_do r
              (λ m.
              then_do (going top (branch_next next) first m)
              (λ i. then_do (going top (branch_next next) second (record i { place = zero_way w.place m.place })) (λ j. joins i.place j))))
              sp.found.is ∙ rest.is;
          rel = rest.rel;
        }
    item_found (Until body) next k s l t f top tl a b c d ca db tight enough w r =
        until_found body k s l f.head f.test t top a b c d tl ca db tight enough w.place w f.enters r.place r.leaves r.effect r.count r.heads (walk_found body More (k + 1) f.head l f.test f.items) f.flag f.again
    item_found (While test body) next k s l t f top tl a b c d ca db tight enough w r =
        while_found test body k s l f.head f.test f.on_true f.turn t top a b c d tl ca db tight enough w.place w f.enters r.place r.leaves r.effect r.count r.heads
        (walk_found test Flag (k + 1) f.head l f.test f.test_items) f.decides (walk_found body More (k + 1 + loops test) f.on_true l f.turn f.items) f.again
    item_found (Do body plus) next k s l t f top tl a b c d ca db tight enough w r =
        subst (λ z. WalkFound a b c d (k + (1 + loops body)) (item_walk lim zs given top next (Do body plus) w) z l) (sym f.after_loop)
        (found_from lim e room hs a b c d k f.start l a b c d (k + (1 + loops body)) (dropped f.out) l (takes lim (table_effect table.Do) push_loop w) (λ i. turning body plus w.leaves (record i { leaves = Unreachable }))
        (takes_found lim e room hs a b c d k (table_effect table.Do) (table_effect table.Do) push_loop s f.start l w (effect_in_same (table_effect table.Do)) f.begins r) (λ v q.
        do_found body plus k f.start l f.head f.out f.turn f.next a b c d ca db tight enough v.place v w.leaves f.enters q.place r.leaves q.effect q.count q.heads f.same
        (walk_found body More (k + 1) f.head f.out f.turn f.items) f.turns f.again f.leaves))
    item_found (Again body) next k s l t f top tl a b c d ca db tight enough w r =
        subst (λ z. WalkFound a b c d (k + (1 + loops body)) (item_walk lim zs given top next (Again body) w) z l) (sym f.none_after)
        (again_found body k s l f.head f.turn top a b c d tl ca db tight enough w.place w f.enters r.place r.leaves r.effect r.count r.heads (walk_found body More (k + 1) f.head l f.turn f.items) f.again)
    item_found (QDo body plus) next k s l t f top tl a b c d ca db tight enough w r =
        let g = f.0 in
        subst (λ z. WalkFound a b c d (k + (1 + loops body)) (item_walk lim zs given top next (QDo body plus) w) z l) (sym g.after_loop)
        (found_from lim e room hs a b c d k g.start l a b c d (k + (1 + loops body)) (dropped g.out) l (takes lim (table_effect table.QDo) push_loop w) (λ i. query_turning body plus i.place w.leaves (record i { leaves = Unreachable }))
        (takes_found lim e room hs a b c d k (table_effect table.QDo) (table_effect table.QDo) push_loop s g.start l w (effect_in_same (table_effect table.QDo)) g.begins r) (λ v q.
        query_do_found body plus k g.start l g.head g.out g.turn g.next a b c d ca db tight enough v.place v w.leaves g.enters q.place r.leaves q.effect q.count q.heads g.same
        (walk_found body More (k + 1) g.head g.out g.turn g.items) g.turns g.again g.leaves f.1))
    item_found (Case arms rest) next k s l t f top tl a b c d ca db tight enough w r =
        arms_found arms (branch_next next) rest (λ m. then_do (going top More rest m) (takes lim (table_effect table.EndCase) keep)) (loops rest) k s l t f top tl a b c d ca db tight enough
        (λ k' s' v g enough' q.
        found_from lim e room hs a b c d (k' + loops rest) g.last l a b c d (k' + loops rest) t l (going top More rest v)
        (takes lim (table_effect table.EndCase) keep) (walk_found rest More k' s' l g.last g.items top tl a b c d ca db tight enough' v q) (λ v1 q1.
        let x = takes_found lim e room hs a b c d (k' + loops rest) (table_effect table.EndCase) (table_effect table.EndCase) keep g.last g.end l v1 (effect_in_same (table_effect table.EndCase)) g.drops q1 in
        record { walk = x.walk; is = x.is; rel = record { place = below_then a b x.walk.place g.end t x.rel.place g.below; leaves = x.rel.leaves; effect = x.rel.effect; count = x.rel.count; heads = x.rel.heads } }))
        w r
    item_found Leave next k s l t f top tl a b c d ca db tight enough w r =
        found_from lim e room hs a b c d k f.0 l a b c d (k + 0) t l (takes lim (table_effect table.Leave) keep w) (leaving top)
        (takes_found lim e room hs a b c d k (table_effect table.Leave) (table_effect table.Leave) keep s f.0 l w
        (effect_in_same (table_effect table.Leave)) f.1 r) (λ v q.
        let x = leave_at_found lim e room hs c d k top v.place v.leaves l v tl f.0 (weaker a b c d v.place f.0 ca db q.place) f.2 (leads_plain e (table_effect table.Leave) keep s f.0 f.1) q.leaves q.effect q.count q.heads in
        record {
          walk = x.walk;
          is = x.is;
          rel = record {
            place = subst (λ z. BelowBy a b x.walk.place z) (sym f.3) (none_any 0 0 a b x.walk.place x.rel.place);
            leaves = x.rel.leaves;
            effect = x.rel.effect;
            count = (let z = x.rel.count in omega (arith, z));
            heads = x.rel.heads;
          };
        })
    item_found Exit next k s l t f top tl a b c d ca db tight enough w r =
        let x = ends_found lim e room hs a b c d k s l w f.0 r in
        record {
          walk = x.walk;
          is = x.is;
          rel = record {
            place = subst (λ z. BelowBy a b x.walk.place z) (sym f.1) (none_any 0 0 a b x.walk.place x.rel.place);
            leaves = x.rel.leaves;
            effect = x.rel.effect;
            count = (let z = x.rel.count in omega (arith, z));
            heads = x.rel.heads;
          };
        }

    pub walk_found : (nodes : Nodes) (next : Next) (k : ℕ) (s l t : Place) → Fits ys hs e next nodes k s l t → Follows next nodes k s l t
    walk_found Empty next k s l t f top tl a b c d ca db tight enough w r = record {
      walk = w;
      is = refl;
      rel = record {
        place = below_then a b w.place s t r.place f;
        leaves = r.leaves;
        effect = r.effect;
        count = (let z = r.count in omega (arith, z));
        heads = r.heads;
      };
    }
    walk_found (Then node rest) next k s l t f top tl a b c d ca db tight enough w r =
        found_from lim e room hs a b c d (k + loops_in node) f.0 l a b c d (k + (loops_in node + loops rest)) t l (item_walk lim zs given top (next_of next rest) node w) (going top next rest)
        (item_found node (next_of next rest) k s l f.0 f.1 top tl a b c d ca db tight (enough_at (k + (loops_in node + loops rest)) (k + loops_in node) (omega arith) enough) w r) (λ v q.
        found_as lim e room hs a b c d (k + loops_in node + loops rest) (k + (loops_in node + loops rest)) (going top next rest v) t l (omega arith)
        (walk_found rest next (k + loops_in node) f.0 l t f.2 top tl a b c d ca db tight
        (enough_at (k + (loops_in node + loops rest)) (k + loops_in node + loops rest) (omega arith) enough) v q))

    -- arms of a case, where what is last walks over n loops to within t
    arms_found : (arms : Arms) (next : Next) (rest : Nodes) (go : Walk → Walked) (n k : ℕ) (s l t : Place) →
        ArmsFit ys hs e next arms (LastItems ys hs e rest l t) k s l t → (top : Option Shape) → TopIs top l → (a b c d : ℕ) → c ≤ a → d ≤ b → Tight given a b →
        Enough given (k + (loops_in_arms arms + n)) →
        ((k' : ℕ) (s' : Place) (v : Walk) → LastItems ys hs e rest l t k' s' → Enough given (k' + n) → WalkRel a b c d k' v s' l →
        WalkFound a b c d (k' + n) (go v) t l) → (w : Walk) → WalkRel a b c d k w s l →
        WalkFound a b c d (k + (loops_in_arms arms + n)) (arms_walk lim zs given top next arms go w) t l
    arms_found NoArm next rest go n k s l t f top tl a b c d ca db tight enough each w r =
        found_as lim e room hs a b c d (k + n) (k + (0 + n)) (go w) t l (omega arith) (each k s w f (enough_at (k + (0 + n)) (k + n) (omega arith) enough) r)
    arms_found (Arm tests body others) next rest go n k s l t f top tl a b c d ca db tight enough each w r =
        let all = k + (loops tests + loops body + loops_in_arms others + n) in
        let k1 = k + loops tests in
        let k2 = k + loops tests + loops body in
        let k3 = k2 + (loops_in_arms others + n) in
        let on_end = λ (i b : Walk). then_do (arms_walk lim zs given top next others go (record b { place = i.place })) (λ u. joins b.place u) in
        found_from lim e room hs a b c d k1 f.test l a b c d all t l (going top More tests w)
        (λ m.
        then_do (takes lim (of_effect (negsuc 0)) keep m)
        (λ i. then_do (takes lim (of_effect (negsuc 1)) keep (record i { place = m.place })) (λ j. then_do (going top next body j) (on_end i))))
        (walk_found tests More k s l f.test f.tests top tl a b c d ca db tight (enough_at all k1 (omega arith) enough) w r) (λ v q.
        found_from lim e room hs a b c d k1 f.on_other l a b c d all t l (takes lim (of_effect (negsuc 0)) keep v)
        (λ i. then_do (takes lim (of_effect (negsuc 1)) keep (record i { place = v.place })) (λ j. then_do (going top next body j) (on_end i)))
        (takes_found lim e room hs a b c d k1 (of_effect (negsuc 0)) (of_effect (negsuc 0)) keep f.test f.on_other l v (effect_in_same (of_effect (negsuc 0))) f.to_other q) (λ i qi.
        found_from lim e room hs a b c d k1 f.on_equal l a b c d all t l (takes lim (of_effect (negsuc 1)) keep (record i { place = v.place })) (λ j. then_do (going top next body j) (on_end i))
        (takes_found lim e room hs a b c d k1 (of_effect (negsuc 1)) (of_effect (negsuc 1)) keep f.test f.on_equal l (record i { place = v.place })
        (effect_in_same (of_effect (negsuc 1))) f.to_equal
        (record { place = q.place; leaves = qi.leaves; effect = qi.effect; count = qi.count; heads = qi.heads })) (λ j qj.
        found_from lim e room hs a b c d k2 t l a b c d all t l (going top next body j) (on_end i)
        (walk_found body next k1 f.on_equal l t f.items top tl a b c d ca db tight (enough_at all k2 (omega arith) enough) j qj) (λ v2 q2.
        found_from lim e room hs a b c d k3 t l a b c d all t l (arms_walk lim zs given top next others go (record v2 { place = i.place })) (λ u. joins v2.place u)
        (arms_found others next rest go n k2 f.on_other l t f.others top tl a b c d ca db tight (enough_at all k3 (omega arith) enough) each (record v2 { place = i.place })
        (record { place = qi.place; leaves = q2.leaves; effect = q2.effect; count = q2.count; heads = q2.heads })) (λ u qu.
        found_as lim e room hs a b c d k3 all (joins v2.place u) t l (omega arith) (joins_found lim e room hs a b c d k3 v2.place t l u q2.place qu))))))
