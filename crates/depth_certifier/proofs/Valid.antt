-- A walk that refuses nothing is valid.
use Rattle.std.proofs.Common.{◌≡◌, ℕ, ◌+◌, List, [], ◌++◌, length, Option, Some, None, Ok, Bool, true, false, refl, sym, ap, ◌∙◌, subst, arith}
use Rattle.std.specs.Prelude.{ℤ, negsuc}
use Rattle.word_table.specs.declared.word.Word.{Word}
use Rattle.word_table.specs.declared.word.Word.TheVariants as table
use Rattle.forth_program.specs.Tree.{Node, Nodes, Arms, Literal, Plain, Call, Child, Text, If, Until, While, Again, Do, QDo, Case, Leave, Exit, Empty, Then, NoArm, Arm}
use Rattle.depth_certifier.specs.declared.effect.Effect.{Effect}
use Rattle.depth_certifier.specs.Place.{Shape, Stand, Place, Unreachable, At, Doubled, Below}
use Rattle.depth_certifier.specs.Effects.{table_effect, Known, effect_of, Next, Flag, More, next_of, branch_next, called_effect, word_effect, shape_after, keep, push_loop, text_word, turn_word, of_effect}
use Rattle.depth_certifier.specs.Certificate.{loops_in, loops, loops_in_arms, Head, SameShape, dropped, doubles, WordLeads, ItemFits, Fits, ArmsFit, EffectIn, Limits}
use Rattle.depth_certifier.specs.Walk.{Walk, Walked, then_do, takes, decides, zero_way, joins, leaving, enters, returns_to, shape_at, word_walk, item_walk, walk, arms_walk, made}
use Rattle.depth_certifier.proofs.SourcePlaces.{below_same, below_then}
use Rattle.depth_certifier.proofs.Work.{LastItems, head_above}
use Rattle.depth_certifier.proofs.Tests.{then_ok, effect_in_same, effect_in_then}
use Rattle.depth_certifier.proofs.WalkFits.{Grows, grows_then, grows_same, grows_as, grows_length, append_nil, steps_grow, Took, took, doubled_at, Decided}
use Rattle.depth_certifier.proofs.WalkFits.{decided, ShapeIs, Joined, joined_by, Returned, returned, Topped, left, ended, Noted, noted_earlier, Entered}
use Rattle.depth_certifier.proofs.WalkFits.{entered}

-- places do not matter to what grows
from_place : (w m : Walk) (s : Place) (n : ℕ) → Grows (record w { place = s }) m n → Grows w m n
from_place w m s n g = record { effect = g.effect; leaves = g.leaves; more = g.more; heads = g.heads; count = g.count }

moved_grows : (w m : Walk) → m ≡ record w { place = m.place } → Grows w m 0
moved_grows w m e = subst (λ z. Grows w z 0) (sym e) (record { effect = effect_in_same (made w); leaves = below_same w.leaves; more = []; heads = append_nil w.heads; count = refl })

abbrev done : Walk → Walked
done x = Ok x

ok_same : (x o : Walk) → done x ≡ Ok o → x ≡ o
ok_same x o h = cc (h)

module _ (lim : Limits) (zs : Known) (given : Option (List (ℤ × ℤ))) where
  pub record ItemStands (top : Option Shape) (next : Next) (node : Node) (w o : Walk) : Type 0 where
    pub grows : Grows w o (loops_in node)
    pub topped : Topped top o.leaves
    pub fits : (e : Effect) → EffectIn (made o) e → (hs : List (ℤ × ℤ)) → Noted given o.heads hs → (l : Place) → Below o.leaves l → ItemFits zs hs e next node (length w.heads) w.place l o.place

  pub record WalkStands (top : Option Shape) (next : Next) (nodes : Nodes) (w o : Walk) : Type 0 where
    pub grows : Grows w o (loops nodes)
    pub topped : Topped top o.leaves
    pub fits : (e : Effect) → EffectIn (made o) e → (hs : List (ℤ × ℤ)) → Noted given o.heads hs → (l t : Place) → Below o.leaves l → Below o.place t → Fits zs hs e next nodes (length w.heads) w.place l t

  abbrev going : Option Shape → Next → Nodes → Walk → Walked
  going top next nodes w = walk lim zs given top next nodes w

  took_topped : (top : Option Shape) (w m : Walk) → Topped top w.leaves → m.leaves ≡ w.leaves → Topped top m.leaves
  took_topped top w m tp e = subst (Topped top) (sym e) tp

  word_stands : (b : Bool) (top : Option Shape) (next : Next) (word : Word) (w o : Walk) → doubles next word ≡ b → Topped top w.leaves → word_walk lim zs given b word w ≡ Ok o → ItemStands top next (Plain word) w o
  word_stands true top next word w o is tp h =
      let t = doubled_at lim w.place w o h in
      record { grows = steps_grow w o t.steps; topped = took_topped top w o tp t.steps.leaves; fits = λ e g hs n l b. subst (λ d. WordLeads zs hs e d word w.place o.place) (sym is) (t.leads e g) }
  word_stands false top next word w o is tp h =
      let t = took lim (word_effect zs.shared word) (shape_after word) w o h in
      record { grows = steps_grow w o t.steps; topped = took_topped top w o tp t.steps.leaves; fits = λ e g hs n l b. subst (λ d. WordLeads zs hs e d word w.place o.place) (sym is) (t.leads e g) }

  if_stands : (first second : Nodes) (top : Option Shape) (next : Next) (w m i j o : Walk) → Decided lim w m → WalkStands top (branch_next next) first m i →
      WalkStands top (branch_next next) second (record i { place = zero_way w.place m.place }) j → Joined i.place j o →
      ItemStands top next (If first second) w o
  if_stands first second top next w m i j o dm sa sb jn =
      let g0 = steps_grow w m dm.steps in
      let g1 = sa.grows in
      let g2 = from_place i j (zero_way w.place m.place) (loops second) sb.grows in
      let g3 = moved_grows j o jn.rest in
      let gio = grows_then i j o (loops second) 0 g2 g3 in
      let gmo = grows_then m i o (loops first) (loops second + 0) g1 gio in
      let k1 : length m.heads ≡ length w.heads = ap length dm.steps.heads in
      let k2 : length i.heads ≡ length w.heads + loops first = omega (arith, k1, grows_length m i (loops first) g1) in
      record {
        grows = grows_as w o (0 + (loops first + (loops second + 0))) (loops first + loops second) (omega arith) (grows_then w m o 0 (loops first + (loops second + 0)) g0 gmo);
        topped = subst (λ z. Topped top z.leaves) (sym jn.rest) sb.topped;
        fits = λ e g hs n l b. record {
          on_true = m.place;
          on_false = zero_way w.place m.place;
          decides = dm.leads e (effect_in_then (made m) (made o) e gmo.effect g);
          first = subst (λ z. Fits zs hs e (branch_next next) first z m.place l o.place) k1
              (sa.fits e (effect_in_then (made i) (made o) e gio.effect g) hs (noted_earlier given i o (loops second + 0) hs gio n) l o.place
              (below_then 0 0 i.leaves o.leaves l gio.leaves b) jn.left);
          second = subst (λ z. Fits zs hs e (branch_next next) second z (zero_way w.place m.place) l o.place) k2
              (sb.fits e (effect_in_then (made j) (made o) e g3.effect g) hs (noted_earlier given j o 0 hs g3 n) l o.place
              (below_then 0 0 j.leaves o.leaves l g3.leaves b) jn.right);
        };
      }

  until_stands : (body : Nodes) (top : Option Shape) (next : Next) (w h m n : Walk) → Entered given w h → WalkStands top More body h m →
      Took (table_effect table.Until) keep m n → Below n.place h.place → Topped top n.leaves → ItemStands top next (Until body) w n
  until_stands body top next w h m n en st tk back tp =
      let g2 = steps_grow m n tk.steps in
      let ghn = grows_then h m n (loops body) 0 st.grows g2 in
      let k1 : length h.heads ≡ length w.heads + 1 = grows_length w h 1 en.grows in
      record {
        grows = grows_as w n (1 + (loops body + 0)) (1 + loops body) (omega arith) (grows_then w h n 1 (loops body + 0) en.grows ghn);
        topped = tp;
        fits = λ e g hs no l b. record {
          head = h.place;
          enters = en.head hs (noted_earlier given h n (loops body + 0) hs ghn no);
          test = m.place;
          items = subst (λ z. Fits zs hs e More body z h.place l m.place) k1
              (st.fits e (effect_in_then (made m) (made n) e g2.effect g) hs (noted_earlier given m n 0 hs g2 no) l m.place
              (below_then 0 0 m.leaves n.leaves l g2.leaves b) (below_same m.place));
          flag = tk.leads e g;
          again = back;
        };
      }

  while_stands : (test body : Nodes) (top : Option Shape) (next : Next) (w h m y n : Walk) → Entered given w h → WalkStands top Flag test h m →
      Decided lim m y → WalkStands top More body y n → Below n.place h.place →
      ItemStands top next (While test body) w (record n { place = zero_way m.place y.place })
  while_stands test body top next w h m y n en st dm sb back =
      let g1 = st.grows in
      let g2 = steps_grow m y dm.steps in
      let g3 = sb.grows in
      let gmn = grows_then m y n 0 (loops body) g2 g3 in
      let ghn = grows_then h m n (loops test) (0 + loops body) g1 gmn in
      let gwn = grows_then w h n 1 (loops test + (0 + loops body)) en.grows ghn in
      let k1 : length h.heads ≡ length w.heads + 1 = grows_length w h 1 en.grows in
      let k2 : length m.heads ≡ length h.heads + loops test = grows_length h m (loops test) g1 in
      let k3 : length y.heads ≡ length w.heads + 1 + loops test = omega (arith, k1, k2, ap length dm.steps.heads) in
      let all = grows_as w n (1 + (loops test + (0 + loops body))) (1 + loops test + loops body) (omega arith) gwn in
      record {
        grows = record { effect = all.effect; leaves = all.leaves; more = all.more; heads = all.heads; count = all.count };
        topped = sb.topped;
        fits = λ e g hs no l b. record {
          head = h.place;
          enters = en.head hs (noted_earlier given h n (loops test + (0 + loops body)) hs ghn no);
          test = m.place;
          test_items = subst (λ z. Fits zs hs e Flag test z h.place l m.place) k1
              (st.fits e (effect_in_then (made m) (made n) e gmn.effect g) hs (noted_earlier given m n (0 + loops body) hs gmn no) l m.place
              (below_then 0 0 m.leaves n.leaves l gmn.leaves b) (below_same m.place));
          on_true = y.place;
          decides = dm.leads e (effect_in_then (made y) (made n) e g3.effect g);
          turn = n.place;
          items = subst (λ z. Fits zs hs e More body z y.place l n.place) k3 (sb.fits e g hs no l n.place b (below_same n.place));
          again = back;
        };
      }

  while_closes : (test body : Nodes) (top : Option Shape) (next : Next) (w h m y n v o : Walk) → Entered given w h → WalkStands top Flag test h m →
      Decided lim m y → WalkStands top More body y n → Returned h.place n v → done (record v { place = zero_way m.place y.place }) ≡ Ok o →
      ItemStands top next (While test body) w o
  while_closes test body top next w h m y n v o en st dm sb rt last =
      subst (λ z. ItemStands top next (While test body) w z)
      (ok_same (record n { place = zero_way m.place y.place }) o (subst (λ u. done (record u { place = zero_way m.place y.place }) ≡ Ok o) rt.is last))
      (while_stands test body top next w h m y n en st dm sb rt.below)

  topped_is : (s t : Place) → Topped (shape_at s) t → (p : Stand) → s ≡ At p → ShapeIs p.shape t
  topped_is s t h p is = of t (subst (λ z. Topped (shape_at z) t) is h)
    where
      of : (t : Place) → Topped (Some p.shape) t → ShapeIs p.shape t
      of Unreachable h = tt
      of (At q) h = cc (h)
      of (Doubled q) h = absurd h

  below_is : (n : Place) (p : Stand) → Below n (At p) → ShapeIs p.shape n
  below_is Unreachable p b = tt
  below_is (At q) p b = sym b.same
  below_is (Doubled q) p b = absurd b

  same_of : (s j : Place) → ((p : Stand) → s ≡ At p → ShapeIs p.shape j) → SameShape s j
  same_of Unreachable j f = tt
  same_of (Doubled p) j f = tt
  same_of (At p) Unreachable f = tt
  same_of (At p) (Doubled r) f = tt
  same_of (At p) (At r) f = f p refl

  -- BEGIN body AGAIN
  again_stands : (body : Nodes) (top : Option Shape) (next : Next) (w h m : Walk) → Entered given w h → WalkStands top More body h m → Below m.place h.place → ItemStands top next (Again body) w (record m { place = Unreachable })
  again_stands body top next w h m en st back =
      let all = grows_then w h m 1 (loops body) en.grows st.grows in
      let k1 : length h.heads ≡ length w.heads + 1 = grows_length w h 1 en.grows in
      record {
        grows = record { effect = all.effect; leaves = all.leaves; more = all.more; heads = all.heads; count = all.count };
        topped = st.topped;
        fits = λ e g hs no l b. record {
          head = h.place;
          enters = en.head hs (noted_earlier given h m (loops body) hs st.grows no);
          turn = m.place;
          items = subst (λ z. Fits zs hs e More body z h.place l m.place) k1 (st.fits e g hs no l m.place b (below_same m.place));
          again = back;
          none_after = refl;
        };
      }

  again_closes : (body : Nodes) (top : Option Shape) (next : Next) (w h m v o : Walk) → Entered given w h → WalkStands top More body h m →
      Returned h.place m v → done (record v { place = Unreachable }) ≡ Ok o → ItemStands top next (Again body) w o
  again_closes body top next w h m v o en st rt last =
      subst (λ z. ItemStands top next (Again body) w z) (ok_same (record m { place = Unreachable }) o (subst (λ u. done (record u { place = Unreachable }) ≡ Ok o) rt.is last)) (again_stands body top next w h m en st rt.below)

  -- the end of a DO: its LEAVEs join, and the loop is taken off
  abbrev do_last : Place → Walk → Walked
  do_last out v = then_do (joins v.leaves v) (λ j. Ok (record j { place = dropped j.place; leaves = out }))

  do_stands : (body : Nodes) (plus : Bool) (top : Option Shape) (next : Next) (w i h m n j : Walk) → Topped top w.leaves →
      Took (table_effect table.Do) push_loop w i → Entered given (record i { leaves = Unreachable }) h → WalkStands (shape_at h.place) More body h m →
      Took (table_effect (turn_word plus)) keep m n →
      Below n.place h.place → Joined n.leaves n j → ItemStands top next (Do body plus) w (record j { place = dropped j.place; leaves = w.leaves })
  do_stands body plus top next w i h m n j tp ti en st tn back jn =
      let i' = record i { leaves = Unreachable } in
      let g3 = steps_grow m n tn.steps in
      let g4 = moved_grows n j jn.rest in
      let gmj = grows_then m n j 0 0 g3 g4 in
      let ghj = grows_then h m j (loops body) (0 + 0) st.grows gmj in
      let gij = grows_then i' h j 1 (loops body + (0 + 0)) en.grows ghj in
      let k0 : length i.heads ≡ length w.heads = ap length ti.steps.heads in
      let k1 : length h.heads ≡ length w.heads + 1 = omega (arith, k0, grows_length i' h 1 en.grows) in
      let shape = same_of h.place j.place (λ p is. jn.shape p.shape (below_is n.place p (subst (Below n.place) is back)) (topped_is h.place n.leaves (subst (Topped (shape_at h.place)) (sym tn.steps.leaves) st.topped) p is)) in
      record {
        grows = record {
          effect = effect_in_then (made w) (made i) (made j) ti.steps.effect gij.effect;
          leaves = below_same w.leaves;
          more = gij.more;
          heads = gij.heads ∙ ap (λ z. z ++ gij.more) ti.steps.heads;
          count = (let c = gij.count in omega (arith, c));
        };
        topped = tp;
        fits = λ e g hs no l b. record {
          start = i.place;
          begins = ti.leads e (effect_in_then (made i) (made j) e gij.effect g);
          head = h.place;
          enters = subst (λ z. Head hs z i.place h.place) k0 (en.head hs (noted_earlier given h j (loops body + (0 + 0)) hs ghj no));
          out = j.place;
          same = shape;
          turn = m.place;
          items = subst (λ z. Fits zs hs e More body z h.place j.place m.place) k1
              (st.fits e (effect_in_then (made m) (made j) e gmj.effect g) hs (noted_earlier given m j (0 + 0) hs gmj no) j.place m.place
              (subst (λ z. Below z j.place) tn.steps.leaves jn.left) (below_same m.place));
          next = n.place;
          turns = tn.leads e (effect_in_then (made n) (made j) e g4.effect g);
          again = back;
          leaves = jn.right;
          after_loop = refl;
        };
      }

  do_closes : (body : Nodes) (plus : Bool) (top : Option Shape) (next : Next) (w i h m n v o : Walk) → Topped top w.leaves →
      Took (table_effect table.Do) push_loop w i → Entered given (record i { leaves = Unreachable }) h → WalkStands (shape_at h.place) More body h m →
      Took (table_effect (turn_word plus)) keep m n →
      Returned h.place n v → do_last w.leaves v ≡ Ok o → ItemStands top next (Do body plus) w o
  do_closes body plus top next w i h m n v o tp ti en st tn rt last =
      let again : do_last w.leaves n ≡ Ok o = subst (λ z. do_last w.leaves z ≡ Ok o) rt.is last in
      let r6 = then_ok (joins n.leaves n) (λ j. Ok (record j { place = dropped j.place; leaves = w.leaves })) o again in
      let jn = joined_by n.leaves n r6.0 r6.1 in
      subst (λ z. ItemStands top next (Do body plus) w z) (ok_same (record r6.0 { place = dropped r6.0.place; leaves = w.leaves }) o r6.2) (do_stands body plus top next w i h m n r6.0 tp ti en st tn rt.below jn)

  -- a loop is entered from below its head
  some_noted : (g : Option (List (ℤ × ℤ))) (xs : List (ℤ × ℤ)) → (hs : List (ℤ × ℤ)) × Noted g xs hs
  some_noted None xs = (xs, ([], append_nil xs))
  some_noted (Some heads) xs = (heads, refl)

  entered_below : (w h : Walk) → Entered given w h → Below w.place h.place
  entered_below w h en = let n = some_noted given h.heads in head_above zs n.0 (made w) (length w.heads) w.place h.place (en.head n.0 n.1)

  -- a loop that ?DO may leave out: the place where it does so, and the LEAVEs, join the end
  query_do_stands : (body : Nodes) (plus : Bool) (top : Option Shape) (next : Next) (w i h m n q j : Walk) → Topped top w.leaves →
      Took (table_effect table.QDo) push_loop w i → Entered given (record i { leaves = Unreachable }) h → WalkStands (shape_at h.place) More body h m →
      Took (table_effect (turn_word plus)) keep m n →
      Below n.place h.place → Joined i.place n q → Joined q.leaves q j → ItemStands top next (QDo body plus) w (record j { place = dropped j.place; leaves = w.leaves })
  query_do_stands body plus top next w i h m n q j tp ti en st tn back jq jn =
      let i' = record i { leaves = Unreachable } in
      let g3 = steps_grow m n tn.steps in
      let g4 = grows_then n q j 0 0 (moved_grows n q jq.rest) (moved_grows q j jn.rest) in
      let gmj = grows_then m n j 0 (0 + 0) g3 g4 in
      let ghj = grows_then h m j (loops body) (0 + (0 + 0)) st.grows gmj in
      let gij = grows_then i' h j 1 (loops body + (0 + (0 + 0))) en.grows ghj in
      let k0 : length i.heads ≡ length w.heads = ap length ti.steps.heads in
      let k1 : length h.heads ≡ length w.heads + 1 = omega (arith, k0, grows_length i' h 1 en.grows) in
      let began = entered_below i' h en in
      let kept_leaves : q.leaves ≡ m.leaves = ap (λ v. v.leaves) jq.rest ∙ tn.steps.leaves in
      let shape = same_of h.place j.place (λ p is. jn.shape p.shape
      (jq.shape p.shape (below_is n.place p (subst (Below n.place) is back)) (below_is i.place p (subst (Below i.place) is began)))
      (topped_is h.place q.leaves (subst (Topped (shape_at h.place)) (sym kept_leaves) st.topped) p is)) in
      record {
        grows = record {
          effect = effect_in_then (made w) (made i) (made j) ti.steps.effect gij.effect;
          leaves = below_same w.leaves;
          more = gij.more;
          heads = gij.heads ∙ ap (λ z. z ++ gij.more) ti.steps.heads;
          count = (let c = gij.count in omega (arith, c));
        };
        topped = tp;
        fits = λ e g hs no l b. (
          record {
            start = i.place;
            begins = ti.leads e (effect_in_then (made i) (made j) e gij.effect g);
            head = h.place;
            enters = subst (λ z. Head hs z i.place h.place) k0 (en.head hs (noted_earlier given h j (loops body + (0 + (0 + 0))) hs ghj no));
            out = j.place;
            same = shape;
            turn = m.place;
            items = subst (λ z. Fits zs hs e More body z h.place j.place m.place) k1
                (st.fits e (effect_in_then (made m) (made j) e gmj.effect g) hs (noted_earlier given m j (0 + (0 + 0)) hs gmj no) j.place m.place
                (subst (λ z. Below z j.place) kept_leaves jn.left) (below_same m.place));
            next = n.place;
            turns = tn.leads e (effect_in_then (made n) (made j) e g4.effect g);
            again = back;
            leaves = below_then 0 0 n.place q.place j.place jq.right jn.right;
            after_loop = refl;
          },
          below_then 0 0 i.place q.place j.place jq.left jn.right,
        );
      }

  query_do_closes : (body : Nodes) (plus : Bool) (top : Option Shape) (next : Next) (w i h m n v o : Walk) → Topped top w.leaves →
      Took (table_effect table.QDo) push_loop w i → Entered given (record i { leaves = Unreachable }) h → WalkStands (shape_at h.place) More body h m →
      Took (table_effect (turn_word plus)) keep m n →
      Returned h.place n v → then_do (joins i.place v) (do_last w.leaves) ≡ Ok o → ItemStands top next (QDo body plus) w o
  query_do_closes body plus top next w i h m n v o tp ti en st tn rt last =
      let again : then_do (joins i.place n) (do_last w.leaves) ≡ Ok o = subst (λ z. then_do (joins i.place z) (do_last w.leaves) ≡ Ok o) rt.is last in
      let r5 = then_ok (joins i.place n) (do_last w.leaves) o again in
      let q = r5.0 in
      let r6 = then_ok (joins q.leaves q) (λ j. Ok (record j { place = dropped j.place; leaves = w.leaves })) o r5.2 in
      subst (λ z. ItemStands top next (QDo body plus) w z) (ok_same (record r6.0 { place = dropped r6.0.place; leaves = w.leaves }) o r6.2)
      (query_do_stands body plus top next w i h m n q r6.0 tp ti en st tn rt.below (joined_by i.place n q r5.1) (joined_by q.leaves q r6.0 r6.1))

  -- arms of a case, of which the last items are these
  pub record ArmsStand (top : Option Shape) (next : Next) (arms : Arms) (rest : Nodes) (w o : Walk) : Type 0 where
    pub grows : Grows w o (loops_in_arms arms + loops rest)
    pub topped : Topped top o.leaves
    pub fits : (e : Effect) → EffectIn (made o) e → (hs : List (ℤ × ℤ)) → Noted given o.heads hs → (l t : Place) → Below o.leaves l → Below o.place t → ArmsFit zs hs e next arms (LastItems zs hs e rest l t) (length w.heads) w.place l t

  abbrev case_last : Option Shape → Nodes → Walk → Walked
  case_last top rest m = then_do (going top More rest m) (takes lim (table_effect table.EndCase) keep)

  end_case_stands : (rest : Nodes) (top : Option Shape) (next : Next) (w m o : Walk) → WalkStands top More rest w m → Took (table_effect table.EndCase) keep m o → ArmsStand top next NoArm rest w o
  end_case_stands rest top next w m o st tk =
      let g2 = steps_grow m o tk.steps in
      record {
        grows = grows_as w o (loops rest + 0) (0 + loops rest) (omega arith) (grows_then w m o (loops rest) 0 st.grows g2);
        topped = took_topped top m o st.topped tk.steps.leaves;
        fits = λ e g hs no l t bl bt. record {
          last = m.place;
          items = st.fits e (effect_in_then (made m) (made o) e g2.effect g) hs (noted_earlier given m o 0 hs g2 no) l m.place (below_then 0 0 m.leaves o.leaves l g2.leaves bl) (below_same m.place);
          end = o.place;
          drops = tk.leads e g;
          below = bt;
        };
      }

  arm_stands : (tests body : Nodes) (others : Arms) (rest : Nodes) (top : Option Shape) (next : Next) (w m i j b u o : Walk) → WalkStands top More tests w m →
      Took (of_effect (negsuc 0)) keep m i → Took (of_effect (negsuc 1)) keep (record i { place = m.place }) j → WalkStands top next body j b →
      ArmsStand top next others rest (record b { place = i.place }) u → Joined b.place u o → ArmsStand top next (Arm tests body others) rest w o
  arm_stands tests body others rest top next w m i j b u o st ti tj sb su jn =
      let more = loops_in_arms others + loops rest in
      let g1 = st.grows in
      let g2 = steps_grow m i ti.steps in
      let g3 = from_place i j m.place 0 (steps_grow (record i { place = m.place }) j tj.steps) in
      let g4 = sb.grows in
      let g5 = from_place b u i.place more su.grows in
      let g6 = moved_grows u o jn.rest in
      let gbo = grows_then b u o more 0 g5 g6 in
      let gjo = grows_then j b o (loops body) (more + 0) g4 gbo in
      let gio = grows_then i j o 0 (loops body + (more + 0)) g3 gjo in
      let gmo = grows_then m i o 0 (0 + (loops body + (more + 0))) g2 gio in
      let k1 : length j.heads ≡ length w.heads + loops tests = omega (arith, grows_length w m (loops tests) g1, ap length ti.steps.heads, ap length tj.steps.heads) in
      let k2 : length b.heads ≡ length w.heads + loops tests + loops body = omega (arith, k1, grows_length j b (loops body) g4) in
      record {
        grows = grows_as w o (loops tests + (0 + (0 + (loops body + (more + 0))))) (loops tests + loops body + loops_in_arms others + loops rest) (omega arith) (grows_then w m o (loops tests) (0 + (0 + (loops body + (more + 0)))) g1 gmo);
        topped = subst (λ z. Topped top z.leaves) (sym jn.rest) su.topped;
        fits = λ e g hs no l t bl bt. record {
          test = m.place;
          tests = st.fits e (effect_in_then (made m) (made o) e gmo.effect g) hs (noted_earlier given m o (0 + (0 + (loops body + (more + 0)))) hs gmo no) l m.place (below_then 0 0 m.leaves o.leaves l gmo.leaves bl) (below_same m.place);
          on_other = i.place;
          to_other = ti.leads e (effect_in_then (made i) (made o) e gio.effect g);
          on_equal = j.place;
          to_equal = tj.leads e (effect_in_then (made j) (made o) e gjo.effect g);
          items = subst (λ z. Fits zs hs e next body z j.place l t) k1
              (sb.fits e (effect_in_then (made b) (made o) e gbo.effect g) hs (noted_earlier given b o (more + 0) hs gbo no) l t
              (below_then 0 0 b.leaves o.leaves l gbo.leaves bl) (below_then 0 0 b.place o.place t jn.left bt));
          others = subst (λ z. ArmsFit zs hs e next others (LastItems zs hs e rest l t) z i.place l t) k2
              (su.fits e (effect_in_then (made u) (made o) e g6.effect g) hs (noted_earlier given u o 0 hs g6 no) l t
              (below_then 0 0 u.leaves o.leaves l g6.leaves bl) (below_then 0 0 u.place o.place t jn.right bt));
        };
      }

  mutual
    pub item_stands : (node : Node) (top : Option Shape) (next : Next) (w o : Walk) → Topped top w.leaves → item_walk lim zs given top next node w ≡ Ok o → ItemStands top next node w o
    item_stands (Literal v) top next w o tp h =
        let t = took lim (table_effect table.Literal) keep w o h in
        record { grows = steps_grow w o t.steps; topped = took_topped top w o tp t.steps.leaves; fits = λ e g hs n l b. t.leads e g }
    item_stands (Plain word) top next w o tp h = word_stands (doubles next word) top next word w o refl tp h
    item_stands (Call d) top next w o tp h =
        let t = took lim (called_effect next (effect_of zs d)) keep w o h in
        record { grows = steps_grow w o t.steps; topped = took_topped top w o tp t.steps.leaves; fits = λ e g hs n l b. t.leads e g }
    item_stands (Child d a) top next w o tp h =
        let r = then_ok (takes lim (table_effect table.Literal) keep w) (takes lim (called_effect next (effect_of zs d)) keep) o h in
        let m = r.0 in
        let t1 = took lim (table_effect table.Literal) keep w m r.1 in
        let t2 = took lim (called_effect next (effect_of zs d)) keep m o r.2 in
        record {
          grows = grows_then w m o 0 0 (steps_grow w m t1.steps) (steps_grow m o t2.steps);
          topped = took_topped top m o (took_topped top w m tp t1.steps.leaves) t2.steps.leaves;
          fits = λ e g hs n l b. (m.place, t1.leads e (effect_in_then (made m) (made o) e t2.steps.effect g), t2.leads e g);
        }
    item_stands (Text kind a n) top next w o tp h =
        let t = took lim (table_effect (text_word kind)) keep w o h in
        record { grows = steps_grow w o t.steps; topped = took_topped top w o tp t.steps.leaves; fits = λ e g hs n l b. t.leads e g }
    item_stands (If first second) top next w o tp h =
        let r1 = then_ok (decides lim w) (λ m. then_do (going top (branch_next next) first m) (λ i. then_do (going top (branch_next next) second (record i { place = zero_way w.place m.place })) (λ j. joins i.place j))) o h in
        let m = r1.0 in
        let dm = decided lim w m r1.1 in
        let r2 = then_ok (going top (branch_next next) first m) (λ i. then_do (going top (branch_next next) second (record i { place = zero_way w.place m.place })) (λ j. joins i.place j)) o r1.2 in
        let i = r2.0 in
        let i' = record i { place = zero_way w.place m.place } in
        let r3 = then_ok (going top (branch_next next) second i') (λ j. joins i.place j) o r2.2 in
        let sa = walk_stands first top (branch_next next) m i (took_topped top w m tp dm.steps.leaves) r2.1 in
        let sb = walk_stands second top (branch_next next) i' r3.0 sa.topped r3.1 in
        if_stands first second top next w m i r3.0 o dm sa sb (joined_by i.place r3.0 o r3.2)
    item_stands (Until body) top next w o tp h =
        let r1 = then_ok (enters given w) (λ h. then_do (going top More body h) (λ m. then_do (takes lim (table_effect table.Until) keep m) (λ n. returns_to h.place n))) o h in
        let x = r1.0 in
        let en = entered given w x r1.1 in
        let r2 = then_ok (going top More body x) (λ m. then_do (takes lim (table_effect table.Until) keep m) (λ n. returns_to x.place n)) o r1.2 in
        let st = walk_stands body top More x r2.0 (took_topped top w x tp en.leaves) r2.1 in
        let r3 = then_ok (takes lim (table_effect table.Until) keep r2.0) (λ n. returns_to x.place n) o r2.2 in
        let tk = took lim (table_effect table.Until) keep r2.0 r3.0 r3.1 in
        let rt = returned x.place r3.0 o r3.2 in
        subst (λ z. ItemStands top next (Until body) w z) (sym rt.is) (until_stands body top next w x r2.0 r3.0 en st tk rt.below (took_topped top r2.0 r3.0 st.topped tk.steps.leaves))
    item_stands (While test body) top next w o tp h =
        let r1 =
        then_ok (enters given w)
        (λ h.
        then_do (going top Flag test h)
        (λ m.
        then_do (decides lim m)
        (λ y. then_do (going top More body y) (λ n. then_do (returns_to h.place n) (λ o. Ok (record o { place = zero_way m.place y.place }))))))
        o h in
        let x = r1.0 in
        let en = entered given w x r1.1 in
        let r2 = then_ok (going top Flag test x) (λ m. then_do (decides lim m) (λ y. then_do (going top More body y) (λ n. then_do (returns_to x.place n) (λ o. Ok (record o { place = zero_way m.place y.place }))))) o r1.2 in
        let m = r2.0 in
        let st = walk_stands test top Flag x m (took_topped top w x tp en.leaves) r2.1 in
        let r3 = then_ok (decides lim m) (λ y. then_do (going top More body y) (λ n. then_do (returns_to x.place n) (λ o. Ok (record o { place = zero_way m.place y.place })))) o r2.2 in
        let y = r3.0 in
        let dm = decided lim m y r3.1 in
        let r4 = then_ok (going top More body y) (λ n. then_do (returns_to x.place n) (λ o. Ok (record o { place = zero_way m.place y.place }))) o r3.2 in
        let n = r4.0 in
        let sb = walk_stands body top More y n (took_topped top m y st.topped dm.steps.leaves) r4.1 in
        let r5 = then_ok (returns_to x.place n) (λ o. Ok (record o { place = zero_way m.place y.place })) o r4.2 in
        let rt = returned x.place n r5.0 r5.1 in
        while_closes test body top next w x m y n r5.0 o en st dm sb rt r5.2
    item_stands (Do body plus) top next w o tp h =
        let effect = table_effect (turn_word plus) in
        let r1 =
        then_ok (takes lim (table_effect table.Do) push_loop w)
        (λ i.
        then_do (enters given (record i { leaves = Unreachable }))
        (λ h.
        then_do (going (shape_at h.place) More body h)
        (λ m. then_do (takes lim effect keep m) (λ n. then_do (returns_to h.place n) (do_last w.leaves))))) o h in
        let i = r1.0 in
        let i' = record i { leaves = Unreachable } in
        let ti = took lim (table_effect table.Do) push_loop w i r1.1 in
        let r2 = then_ok (enters given i') (λ h. then_do (going (shape_at h.place) More body h) (λ m. then_do (takes lim effect keep m) (λ n. then_do (returns_to h.place n) (do_last w.leaves)))) o r1.2 in
        let x = r2.0 in
        let en = entered given i' x r2.1 in
        let r3 = then_ok (going (shape_at x.place) More body x) (λ m. then_do (takes lim effect keep m) (λ n. then_do (returns_to x.place n) (do_last w.leaves))) o r2.2 in
        let m = r3.0 in
        let st = walk_stands body (shape_at x.place) More x m (subst (Topped (shape_at x.place)) (sym en.leaves) tt) r3.1 in
        let r4 = then_ok (takes lim effect keep m) (λ n. then_do (returns_to x.place n) (do_last w.leaves)) o r3.2 in
        let n = r4.0 in
        let tn = took lim effect keep m n r4.1 in
        let r5 = then_ok (returns_to x.place n) (do_last w.leaves) o r4.2 in
        let rt = returned x.place n r5.0 r5.1 in
        do_closes body plus top next w i x m n r5.0 o tp ti en st tn rt r5.2
    item_stands (Again body) top next w o tp h =
        let r1 = then_ok (enters given w) (λ h. then_do (going top More body h) (λ m. then_do (returns_to h.place m) (λ n. Ok (record n { place = Unreachable })))) o h in
        let x = r1.0 in
        let en = entered given w x r1.1 in
        let r2 = then_ok (going top More body x) (λ m. then_do (returns_to x.place m) (λ n. Ok (record n { place = Unreachable }))) o r1.2 in
        let st = walk_stands body top More x r2.0 (took_topped top w x tp en.leaves) r2.1 in
        let r3 = then_ok (returns_to x.place r2.0) (λ n. Ok (record n { place = Unreachable })) o r2.2 in
        again_closes body top next w x r2.0 r3.0 o en st (returned x.place r2.0 r3.0 r3.1) r3.2
    item_stands (QDo body plus) top next w o tp h =
        let effect = table_effect (turn_word plus) in
        let r1 =
        then_ok (takes lim (table_effect table.QDo) push_loop w)
        (λ i.
        then_do (enters given (record i { leaves = Unreachable }))
        (λ h.
        then_do (going (shape_at h.place) More body h)
        (λ m. then_do (takes lim effect keep m) (λ n. then_do (returns_to h.place n) (λ v. then_do (joins i.place v) (do_last w.leaves)))))) o
        h in
        let i = r1.0 in
        let i' = record i { leaves = Unreachable } in
        let ti = took lim (table_effect table.QDo) push_loop w i r1.1 in
        let r2 = then_ok (enters given i') (λ h. then_do (going (shape_at h.place) More body h) (λ m. then_do (takes lim effect keep m) (λ n. then_do (returns_to h.place n) (λ v. then_do (joins i.place v) (do_last w.leaves))))) o r1.2 in
        let x = r2.0 in
        let en = entered given i' x r2.1 in
        let r3 = then_ok (going (shape_at x.place) More body x) (λ m. then_do (takes lim effect keep m) (λ n. then_do (returns_to x.place n) (λ v. then_do (joins i.place v) (do_last w.leaves)))) o r2.2 in
        let m = r3.0 in
        let st = walk_stands body (shape_at x.place) More x m (subst (Topped (shape_at x.place)) (sym en.leaves) tt) r3.1 in
        let r4 = then_ok (takes lim effect keep m) (λ n. then_do (returns_to x.place n) (λ v. then_do (joins i.place v) (do_last w.leaves))) o r3.2 in
        let n = r4.0 in
        let tn = took lim effect keep m n r4.1 in
        let r5 = then_ok (returns_to x.place n) (λ v. then_do (joins i.place v) (do_last w.leaves)) o r4.2 in
        query_do_closes body plus top next w i x m n r5.0 o tp ti en st tn (returned x.place n r5.0 r5.1) r5.2
    item_stands (Case arms rest) top next w o tp h =
        let s = arms_stand arms rest top (branch_next next) w o (λ v u tv is.
        let r = then_ok (going top More rest v) (takes lim (table_effect table.EndCase) keep) u is in
        end_case_stands rest top (branch_next next) v r.0 u (walk_stands rest top More v r.0 tv r.1) (took lim (table_effect table.EndCase) keep r.0 u r.2)) tp h
        in
        record { grows = s.grows; topped = s.topped; fits = λ e g hs no l b. s.fits e g hs no l o.place b (below_same o.place) }
    item_stands Leave top next w o tp h =
        let r = then_ok (takes lim (table_effect table.Leave) keep w) (leaving top) o h in
        let m = r.0 in
        let tk = took lim (table_effect table.Leave) keep w m r.1 in
        let lf = left top m o (took_topped top w m tp tk.steps.leaves) r.2 in
        let g1 = grows_same m o (subst (λ z. EffectIn (made m) z) lf.effect (effect_in_same (made m))) lf.earlier lf.heads in
        record {
          grows = grows_then w m o 0 0 (steps_grow w m tk.steps) g1;
          topped = lf.topped;
          fits = λ e g hs n l b. (m.place, tk.leads e (effect_in_then (made m) (made o) e g1.effect g), below_then 0 0 m.place o.leaves l lf.here b, lf.gone);
        }
    item_stands Exit top next w o tp h =
        let en = ended lim w o h in
        record {
          grows = grows_same w o en.effect (subst (λ z. Below w.leaves z) (sym en.leaves) (below_same w.leaves)) en.heads;
          topped = took_topped top w o tp en.leaves;
          fits = λ e g hs n l b. (en.ends e g, en.gone);
        }

    pub walk_stands : (nodes : Nodes) (top : Option Shape) (next : Next) (w o : Walk) → Topped top w.leaves → going top next nodes w ≡ Ok o → WalkStands top next nodes w o
    walk_stands Empty top next w o tp h =
        let same : w ≡ o = cc (h) in
        subst (λ z. WalkStands top next Empty w z) same (record { grows = grows_same w w (effect_in_same (made w)) (below_same w.leaves) refl; topped = tp; fits = λ e g hs n l t bl bt. bt })
    walk_stands (Then node rest) top next w o tp h =
        let r = then_ok (item_walk lim zs given top (next_of next rest) node w) (going top next rest) o h in
        let m = r.0 in
        let s1 = item_stands node top (next_of next rest) w m tp r.1 in
        let s2 = walk_stands rest top next m o s1.topped r.2 in
        let k1 : length m.heads ≡ length w.heads + loops_in node = grows_length w m (loops_in node) s1.grows in
        record {
          grows = grows_then w m o (loops_in node) (loops rest) s1.grows s2.grows;
          topped = s2.topped;
          fits = λ e g hs n l t bl bt. (
            m.place,
            s1.fits e (effect_in_then (made m) (made o) e s2.grows.effect g) hs (noted_earlier given m o (loops rest) hs s2.grows n) l (below_then 0 0 m.leaves o.leaves l s2.grows.leaves bl),
            subst (λ z. Fits zs hs e next rest z m.place l t) k1 (s2.fits e g hs n l t bl bt),
          );
        }

    pub arms_stand : (arms : Arms) (rest : Nodes) (top : Option Shape) (next : Next) (w o : Walk) → ((v u : Walk) → Topped top v.leaves → case_last top rest v ≡ Ok u → ArmsStand top next NoArm rest v u) → Topped top w.leaves →
        arms_walk lim zs given top next arms (case_last top rest) w ≡ Ok o → ArmsStand top next arms rest w o
    arms_stand NoArm rest top next w o last tp h = last w o tp h
    arms_stand (Arm tests body others) rest top next w o last tp h =
        let on_end = λ (i b : Walk). then_do (arms_walk lim zs given top next others (case_last top rest) (record b { place = i.place })) (λ u. joins b.place u) in
        let r1 =
        then_ok (going top More tests w)
        (λ m.
        then_do (takes lim (of_effect (negsuc 0)) keep m)
        (λ i. then_do (takes lim (of_effect (negsuc 1)) keep (record i { place = m.place })) (λ j. then_do (going top next body j) (on_end i)))) o
        h in
        let m = r1.0 in
        let st = walk_stands tests top More w m tp r1.1 in
        let r2 = then_ok (takes lim (of_effect (negsuc 0)) keep m) (λ i. then_do (takes lim (of_effect (negsuc 1)) keep (record i { place = m.place })) (λ j. then_do (going top next body j) (on_end i))) o r1.2 in
        let i = r2.0 in
        let ti = took lim (of_effect (negsuc 0)) keep m i r2.1 in
        let i' = record i { place = m.place } in
        let r3 = then_ok (takes lim (of_effect (negsuc 1)) keep i') (λ j. then_do (going top next body j) (on_end i)) o r2.2 in
        let j = r3.0 in
        let tj = took lim (of_effect (negsuc 1)) keep i' j r3.1 in
        let r4 = then_ok (going top next body j) (on_end i) o r3.2 in
        let b = r4.0 in
        let sb = walk_stands body top next j b (took_topped top i' j (took_topped top m i st.topped ti.steps.leaves) tj.steps.leaves) r4.1 in
        let b' = record b { place = i.place } in
        let r5 = then_ok (arms_walk lim zs given top next others (case_last top rest) b') (λ u. joins b.place u) o r4.2 in
        arm_stands tests body others rest top next w m i j b r5.0 o st ti tj sb (arms_stand others rest top next b' r5.0 last sb.topped r5.1) (joined_by b.place r5.0 o r5.2)
