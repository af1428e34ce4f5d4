-- Rounds stay below every certificate; where nothing changes the certificate is found, and where one refuses there is none.
use Rattle.std.proofs.Common.{◌≡◌, ℕ, zero, suc, ◌+◌, ◌<◌, List, [], ◌∷◌, ◌++◌, length, map, Option, Some, None, Result, Ok, Err, refl, sym, ap, ◌∙◌, subst, arith, inl, append_assoc, length-append}
use Rattle.std.specs.Prelude.{ℤ, pos, ◌≤ℤ◌, slice_index_or}
use Rattle.std.specs.Int.{int_max, int_min}
use Rattle.std.specs.List.{All}
use Rattle.std.proofs.lemmas.Int.{ints, clamps}
use Rattle.word_table.specs.declared.word.Word.TheVariants as table
use Rattle.forth_program.specs.Tree.{Node, Nodes, Literal, Plain, Call, Child, Text, If, Until, While, Again, Do, QDo, Case, Leave, Exit}
use Rattle.forth_program.specs.Program.{SourceProgram}
use Rattle.depth_certifier.specs.declared.effect.Effect.{Effect}
use Rattle.depth_certifier.specs.Place.{Place, Unreachable, At, Doubled, entry, Below}
use Rattle.depth_certifier.specs.Effects.{Known, idle, effect_of, Return, child_effect}
use Rattle.depth_certifier.specs.Certificate.{loops, BodyFits, no_interval, ExitIn, EffectIn, TokenIn, Limits, definition_limits, ExitKeeps, Keeps, Cert, known_of, BodiesFit, SharedInterval, IsValid}
use Rattle.depth_certifier.specs.Walk.{Walk, Walked, walk, ends, start, body_walk, made}
use Rattle.depth_certifier.specs.Rounds.{bottom, token_effect, joined_exit, joined_effect, shared_of, ProperToken, Refusal, Bodies, on_body, with_effect}
use Rattle.depth_certifier.specs.Rounds.{bodies_round, with_shared, round, next_round, bottoms, after_rounds, RoundsRefuse, EachIn, HeadIn, IsLeast}
use Rattle.depth_certifier.proofs.SourcePlaces.{below_same}
use Rattle.depth_certifier.proofs.Tests.{then_ok, min_left, min_right, max_left, max_right, exit_in_same, effect_in_same, effect_in_then, HeadsIn}
use Rattle.depth_certifier.proofs.StepsBelowCertificate.{KnownIn, moved_in, Rel, found_from, ends_found}
use Rattle.depth_certifier.proofs.ItemsBelowCertificate.{walk_found}
use Rattle.depth_certifier.proofs.WalkFits.{append_nil, Prefix, ended, Topped}
use Rattle.depth_certifier.proofs.Valid.{walk_stands}
use Rattle.depth_certifier.proofs.WalkLimits.{HeadsFine, all_fine, Intervals, table_interval, moved_interval, Kept, ends_kept, walk_kept}

-- ---- lists of effects

pub index_in : (xs ys : List Effect) → EachIn xs ys → (d : ℕ) → EffectIn (slice_index_or xs d idle) (slice_index_or ys d idle)
index_in [] ys h d = subst (λ z. EffectIn idle (slice_index_or z d idle)) (sym h) (effect_in_same idle)
index_in (x ∷ xs) [] h d = absurd h
index_in (x ∷ xs) (y ∷ ys) h zero = h.0
index_in (x ∷ xs) (y ∷ ys) h (suc d) = index_in xs ys h.1 d

pub bottom_in : (e : Effect) → EffectIn bottom e
bottom_in e = record { need = omega arith; peak = omega arith; back = omega arith; exit = tt }

-- ---- the shared effect

joined_exit_left : (x y : Option (ℤ × ℤ)) → ExitIn x (joined_exit x y)
joined_exit_left None y = tt
joined_exit_left (Some x) None = exit_in_same (Some x)
joined_exit_left (Some x) (Some y) = (min_left x.0 y.0, max_left x.1 y.1)

joined_exit_right : (x y : Option (ℤ × ℤ)) → ExitIn y (joined_exit x y)
joined_exit_right None y = exit_in_same y
joined_exit_right (Some x) None = tt
joined_exit_right (Some x) (Some y) = (min_right x.0 y.0, max_right x.1 y.1)

int_min_from : (x y z : ℤ) → z ≤ℤ x → z ≤ℤ y → z ≤ℤ int_min x y
int_min_from x y z h i = grind (arith, ints, clamps)

int_max_from : (x y z : ℤ) → x ≤ℤ z → y ≤ℤ z → int_max x y ≤ℤ z
int_max_from x y z h i = grind (arith, ints, clamps)

joined_exit_within : (x y z : Option (ℤ × ℤ)) → ExitIn x z → ExitIn y z → ExitIn (joined_exit x y) z
joined_exit_within None y z h i = i
joined_exit_within (Some x) None z h i = h
joined_exit_within (Some x) (Some y) None h i = absurd h
joined_exit_within (Some x) (Some y) (Some z) h i = (int_min_from x.0 y.0 z.0 h.0 i.0, int_max_from x.1 y.1 z.1 h.1 i.1)

pub joined_left : (x y : Effect) → EffectIn x (joined_effect x y)
joined_left x y = record { need = omega arith; peak = omega arith; back = omega arith; exit = joined_exit_left x.exit y.exit }

pub joined_right : (x y : Effect) → EffectIn y (joined_effect x y)
joined_right x y = record { need = omega arith; peak = omega arith; back = omega arith; exit = joined_exit_right x.exit y.exit }

pub joined_within : (x y z : Effect) → EffectIn x z → EffectIn y z → EffectIn (joined_effect x y) z
joined_within x y z h i = record { need = omega (arith, h.need, i.need); peak = omega (arith, h.peak, i.peak); back = omega (arith, h.back, i.back); exit = joined_exit_within x.exit y.exit z.exit h.exit i.exit }

pub child_in : (x y : Effect) → EffectIn x y → EffectIn (child_effect x) (child_effect y)
child_in x y h = record { need = omega (arith, h.need); peak = omega (arith, h.peak); back = omega (arith, h.back); exit = moved_in (pos 1) x.exit y.exit h.exit }

-- of a token below a certificate
pub token_within : (x y : Known) (node : Node) → ((d : ℕ) → EffectIn (effect_of x d) (effect_of y d)) → TokenIn y node → EffectIn (token_effect x node) y.shared
token_within x y (Literal v) less h = h
token_within x y (Plain word) less h = h.1
token_within x y (Call d) less h = effect_in_then (effect_of x d) (effect_of y d) y.shared (less d) h
token_within x y (Child d a) less h = effect_in_then (child_effect (effect_of x d)) (child_effect (effect_of y d)) y.shared (child_in (effect_of x d) (effect_of y d) (less d)) h
token_within x y (Text kind a n) less h = absurd h
token_within x y (If one other) less h = absurd h
token_within x y (Until body) less h = absurd h
token_within x y (While test body) less h = absurd h
token_within x y (Again body) less h = absurd h
token_within x y (Do body plus) less h = absurd h
token_within x y (QDo body plus) less h = absurd h
token_within x y (Case arms rest) less h = absurd h
token_within x y Leave less h = absurd h
token_within x y Exit less h = absurd h

shared_within : (x y : Known) (nodes : List Node) → ((d : ℕ) → EffectIn (effect_of x d) (effect_of y d)) → All (TokenIn y) nodes → EffectIn (shared_of x nodes) y.shared
shared_within x y [] less h = bottom_in y.shared
shared_within x y (node ∷ nodes) less h = joined_within (token_effect x node) (shared_of x nodes) y.shared (token_within x y node less (h 0 node (omega arith))) (shared_within x y nodes less (λ k d i. h (suc k) d (omega (arith, i))))

-- of each token in the join
pub token_in_join : (x : Known) (node : Node) → ProperToken node → EffectIn (token_effect x node) x.shared → TokenIn x node
token_in_join x (Literal v) p h = h
token_in_join x (Plain word) p h = (p, h)
token_in_join x (Call d) p h = h
token_in_join x (Child d a) p h = h
token_in_join x (Text kind a n) p h = absurd p
token_in_join x (If one other) p h = absurd p
token_in_join x (Until body) p h = absurd p
token_in_join x (While test body) p h = absurd p
token_in_join x (Again body) p h = absurd p
token_in_join x (Do body plus) p h = absurd p
token_in_join x (QDo body plus) p h = absurd p
token_in_join x (Case arms rest) p h = absurd p
token_in_join x Leave p h = absurd p
token_in_join x Exit p h = absurd p

each_joined : (x : Known) (nodes : List Node) (k : ℕ) (d : Node) → k < length nodes → EffectIn (token_effect x (slice_index_or nodes k d)) (shared_of x nodes)
each_joined x [] k d i = absurd (omega arith)
each_joined x (node ∷ nodes) zero d i = joined_left (token_effect x node) (shared_of x nodes)
each_joined x (node ∷ nodes) (suc k) d i =
    effect_in_then (token_effect x (slice_index_or nodes k d)) (shared_of x nodes) (joined_effect (token_effect x node) (shared_of x nodes))
    (each_joined x nodes k d (omega (arith, i))) (joined_right (token_effect x node) (shared_of x nodes))

-- its exit is an interval
interval_between : (a b c d : ℤ) → a ≤ℤ b → int_min a c ≤ℤ int_max b d
interval_between a b c d h = grind (arith, ints, clamps)

joined_interval : (x y : Option (ℤ × ℤ)) → SharedInterval x → SharedInterval y → SharedInterval (joined_exit x y)
joined_interval None y h i = i
joined_interval (Some x) None h i = h
joined_interval (Some x) (Some y) h i = interval_between x.0 x.1 y.0 y.1 h

token_interval : (x : Known) (node : Node) → ((d : ℕ) → SharedInterval (effect_of x d).exit) → SharedInterval (token_effect x node).exit
token_interval x (Plain word) h = table_interval word
token_interval x (Call d) h = h d
token_interval x (Child d a) h = moved_interval (pos 1) (effect_of x d).exit (h d)
token_interval x node h = table_interval table.Literal

shared_interval : (x : Known) (nodes : List Node) → ((d : ℕ) → SharedInterval (effect_of x d).exit) → SharedInterval (shared_of x nodes).exit
shared_interval x [] h = tt
shared_interval x (node ∷ nodes) h = joined_interval (token_effect x node).exit (shared_of x nodes).exit (token_interval x node h) (shared_interval x nodes h)

-- ---- one body

start_keeps : (lim : Limits) → Keeps lim bottom
start_keeps lim = record { need = omega arith; peak = omega arith; back = omega arith; exit = tt }

module _ (lim : Limits) where
  -- the walk of a body refuses nothing, and stays below its effect
  record BodyFound (zs : Known) (hs : List (ℤ × ℤ)) (e : Effect) (body : Nodes) (k : ℕ) (heads : List (ℤ × ℤ)) : Type 0 where
    walked : Walk
    is : body_walk lim zs None body heads ≡ Ok walked
    effect : EffectIn (made walked) e
    count : length walked.heads ≡ k + loops body
    within : HeadsIn walked.heads hs

  body_found : (zs ys : Known) (hs : List (ℤ × ℤ)) → KnownIn zs ys → (e : Effect) → Keeps lim e → (body : Nodes) (k : ℕ) → BodyFits ys hs e body k → (heads : List (ℤ × ℤ)) → length heads ≡ k → HeadsIn heads hs →
      BodyFound zs hs e body k heads
  body_found zs ys hs less e room body k f heads count within =
      let begin : Rel lim e room hs 0 0 0 0 k (start lim zs None heads) (At entry) Unreachable = record { place = below_same (At entry); leaves = tt; effect = bottom_in e; count = count; heads = within } in
      let r = found_from lim e room hs 0 0 0 0 (k + loops body) f.0 Unreachable 0 0 0 0 (k + loops body) Unreachable Unreachable (walk lim zs None None Return body (start lim zs None heads)) (ends lim)
      (walk_found lim e room zs ys hs less None tt body Return k (At entry) Unreachable f.0 f.1 None tt 0 0 0 0 (omega arith) (omega arith) tt tt (start lim zs None heads) begin)
      (λ v q. ends_found lim e room hs 0 0 0 0 (k + loops body) f.0 Unreachable v f.2 q) in
      record { walked = r.walk; is = r.is; effect = r.rel.effect; count = r.rel.count; within = r.rel.heads }

  record BodyHolds (zs : Known) (body : Nodes) (heads : List (ℤ × ℤ)) (w : Walk) : Type 0 where
    more : List (ℤ × ℤ)
    heads_is : w.heads ≡ heads ++ more
    count : length more ≡ loops body
    fits : (hs : List (ℤ × ℤ)) → Prefix w.heads hs → BodyFits zs hs (made w) body (length heads)
    keeps : Keeps lim (made w)
    fine : HeadsFine w.heads

  pub no_leaves : (s : Place) → Topped None s → Below s Unreachable
  no_leaves Unreachable h = tt
  no_leaves (At q) h = cc (h)
  no_leaves (Doubled q) h = absurd h

  body_holds : (zs : Known) → Intervals zs → (body : Nodes) (heads : List (ℤ × ℤ)) (w : Walk) → HeadsFine heads → body_walk lim zs None body heads ≡ Ok w → BodyHolds zs body heads w
  body_holds zs intervals body heads w fine h =
      let s = start lim zs None heads in
      let r = then_ok (walk lim zs None None Return body s) (ends lim) w h in
      let m = r.0 in
      let st = walk_stands lim zs None body None Return s m tt r.1 in
      let en = ended lim m w r.2 in
      let begin : Kept lim s = record { keeps = start_keeps lim; place = (omega (arith, ints), omega (arith, ints), omega (arith, ints)); leaves = tt; heads = fine } in
      let kept = ends_kept lim m w (walk_kept lim zs intervals body None Return s m begin r.1) r.2 in
      record {
        more = st.grows.more;
        heads_is = en.heads ∙ st.grows.heads;
        count = st.grows.count;
        fits = λ hs p. (m.place, st.fits (made w) en.effect hs (p.0, p.1 ∙ ap (λ z. z ++ p.0) en.heads) Unreachable m.place (no_leaves m.leaves st.topped) (below_same m.place), en.ends (made w) (effect_in_same (made w)));
        keeps = kept.keeps;
        fine = kept.heads;
      }

-- ---- a round

module _ (p : SourceProgram) where
  pub bodies_found : (zs ys : Known) (hs : List (ℤ × ℤ)) → KnownIn zs ys → (bodies : List Nodes) (es : List Effect) (d k : ℕ) → BodiesFit p ys hs bodies es d k → (heads : List (ℤ × ℤ)) → length heads ≡ k → HeadsIn heads hs →
      (t : Bodies) × (bodies_round (definition_limits p) zs bodies d heads ≡ Ok t) × EachIn t.effects es × HeadsIn t.heads hs
  bodies_found zs ys hs less [] [] d k v heads count within = (record { effects = []; heads = heads }, refl, refl, within)
  bodies_found zs ys hs less [] (e ∷ es) d k v heads count within = absurd v
  bodies_found zs ys hs less (body ∷ bodies) [] d k v heads count within = absurd v
  bodies_found zs ys hs less (body ∷ bodies) (e ∷ es) d k v heads count within =
      let b = body_found (definition_limits p d) zs ys hs less e v.1 body k v.0 heads count within in
      let r = bodies_found zs ys hs less bodies es (suc d) (k + loops body) v.2 b.walked.heads b.count b.within in (
        record { effects = made b.walked ∷ r.0.effects; heads = r.0.heads },
        ap (λ s. on_body d s (λ w. with_effect (made w) (bodies_round (definition_limits p) zs bodies (suc d) w.heads))) b.is ∙ ap (λ s. with_effect (made b.walked) s) r.1,
        (b.effect, r.2),
        r.3,
      )

  on_body_ok : (d : ℕ) (s : Walked) (go : Walk → Result Bodies Refusal) (t : Bodies) → on_body d s go ≡ Ok t → (w : Walk) × (s ≡ Ok w) × (go w ≡ Ok t)
  on_body_ok d (Ok w) go t h = (w, refl, h)
  on_body_ok d (Err c) go t h = cc (h)

  with_effect_ok : (e : Effect) (s : Result Bodies Refusal) (t : Bodies) → with_effect e s ≡ Ok t → (u : Bodies) × (s ≡ Ok u) × (record { effects = e ∷ u.effects; heads = u.heads } ≡ t)
  with_effect_ok e (Ok u) t h = (u, refl, cc (h))
  with_effect_ok e (Err r) t h = cc (h)

  -- what a round gives is valid over the effects that it began with
  pub record Follows (zs : Known) (bodies : List Nodes) (d : ℕ) (heads : List (ℤ × ℤ)) (t : Bodies) : Type 0 where
    pub more : List (ℤ × ℤ)
    pub heads_is : t.heads ≡ heads ++ more
    pub valid : BodiesFit p zs t.heads bodies t.effects d (length heads)
    pub fine : HeadsFine t.heads
    pub intervals : (n : ℕ) → SharedInterval (slice_index_or t.effects n idle).exit

  interval_of_keeps : (top : ℕ) (x : Option (ℤ × ℤ)) → ExitKeeps top x → SharedInterval x
  interval_of_keeps top None h = tt
  interval_of_keeps top (Some x) h = h.1

  idle_interval : SharedInterval idle.exit
  idle_interval = omega (arith, ints)

  pub bodies_follow : (zs : Known) → Intervals zs → (bodies : List Nodes) (d : ℕ) (heads : List (ℤ × ℤ)) (t : Bodies) → HeadsFine heads → bodies_round (definition_limits p) zs bodies d heads ≡ Ok t → Follows zs bodies d heads t
  bodies_follow zs intervals [] d heads t fine h =
      subst (Follows zs [] d heads) (let e : record { effects = []; heads = heads } ≡ t = cc (h) in e) (record { more = []; heads_is = append_nil heads; valid = refl; fine = fine; intervals = λ n. idle_interval })
  bodies_follow zs intervals (body ∷ bodies) d heads t fine h =
      let r = on_body_ok d (body_walk (definition_limits p d) zs None body heads) (λ w. with_effect (made w) (bodies_round (definition_limits p) zs bodies (suc d) w.heads)) t h in
      let w = r.0 in
      let s = with_effect_ok (made w) (bodies_round (definition_limits p) zs bodies (suc d) w.heads) t r.2 in
      let u = s.0 in
      let b = body_holds (definition_limits p d) zs intervals body heads w fine r.1 in
      let f = bodies_follow zs intervals bodies (suc d) w.heads u b.fine s.1 in
      let len : length w.heads ≡ length heads + loops body = ap length b.heads_is ∙ length-append heads b.more ∙ ap (λ z. length heads + z) b.count in
      subst (Follows zs (body ∷ bodies) d heads) s.2 (record {
        more = b.more ++ f.more;
        heads_is = f.heads_is ∙ ap (λ z. z ++ f.more) b.heads_is ∙ append_assoc heads b.more f.more;
        valid = (b.fits u.heads (f.more, f.heads_is), b.keeps, subst (λ z. BodiesFit p zs u.heads bodies u.effects (suc d) z) len f.valid);
        fine = f.fine;
        intervals = both (made w) u.effects (interval_of_keeps (definition_limits p d).top (made w).exit b.keeps.exit) f.intervals;
      })
    where
      both : (e : Effect) (es : List Effect) → SharedInterval e.exit → ((n : ℕ) → SharedInterval (slice_index_or es n idle).exit) → (n : ℕ) → SharedInterval (slice_index_or (e ∷ es) n idle).exit
      both e es a f zero = a
      both e es a f (suc n) = f n

  -- ---- all rounds

  head_none : (x : ℤ × ℤ) → HeadIn no_interval x
  head_none x = inl refl

  pub heads_none : (hs : List (ℤ × ℤ)) → HeadsIn [] hs
  heads_none hs j = inl refl

  -- a certificate's parts below those of another
  pub record CertIn (z y : Cert) : Type 0 where
    pub effects : EachIn z.effects y.effects
    pub shared : EffectIn z.shared y.shared
    pub heads : HeadsIn z.heads y.heads

  known_in : (z y : Cert) → EachIn z.effects y.effects → EffectIn z.shared y.shared → KnownIn (known_of z) (known_of y)
  known_in z y h s = record { definitions = index_in z.effects y.effects h; shared = s }

  pub with_shared_ok : (shared : Effect) (s : Result Bodies Refusal) (z : Cert) → with_shared p shared s ≡ Ok z →
      (t : Bodies) × (s ≡ Ok t)
      × (record { effects = t.effects; shared = shared_of (record { definitions = t.effects; shared = shared }) p.tokens; heads = t.heads } ≡ z)
  with_shared_ok shared (Ok t) z h = (t, refl, cc (h))
  with_shared_ok shared (Err r) z h = cc (h)

  -- below a valid certificate a round refuses nothing, and stays below it
  pub round_found : (z y : Cert) → EachIn z.effects y.effects → EffectIn z.shared y.shared → IsValid p y → (u : Cert) × (round p (known_of z) ≡ Ok u) × CertIn u y
  round_found z y h s v =
      let r = bodies_found (known_of z) (known_of y) y.heads (known_in z y h s) p.bodies y.effects 0 0 v.bodies [] refl (heads_none y.heads) in
      let t = r.0 in
      let known : Known = record { definitions = t.effects; shared = z.shared } in (
        record { effects = t.effects; shared = shared_of known p.tokens; heads = t.heads },
        ap (with_shared p z.shared) r.1,
        record { effects = r.2; shared = shared_within known (known_of y) p.tokens (index_in t.effects y.effects r.2) v.tokens; heads = r.3 },
      )

  bottoms_in : (ys : Known) (hs : List (ℤ × ℤ)) (bodies : List Nodes) (es : List Effect) (d k : ℕ) → BodiesFit p ys hs bodies es d k → EachIn (map (λ _. bottom) bodies) es
  bottoms_in ys hs [] [] d k v = refl
  bottoms_in ys hs [] (e ∷ es) d k v = absurd v
  bottoms_in ys hs (body ∷ bodies) [] d k v = absurd v
  bottoms_in ys hs (body ∷ bodies) (e ∷ es) d k v = (bottom_in e, bottoms_in ys hs bodies es (suc d) (k + loops body) v.2)

  -- every round stays below every certificate
  pub rounds_below : (y : Cert) → IsValid p y → (n : ℕ) → (t : Cert) × (after_rounds p n ≡ Ok t) × CertIn t y
  rounds_below y v zero = (record { effects = bottoms p; shared = bottom; heads = [] }, refl, record { effects = bottoms_in (known_of y) y.heads p.bodies y.effects 0 0 v.bodies; shared = bottom_in y.shared; heads = heads_none y.heads })
  rounds_below y v (suc n) =
      let r = rounds_below y v n in
      let s = round_found r.0 y r.2.effects r.2.shared v in
      (s.0, ap (next_round p) r.1 ∙ s.1, s.2)

  pub same_result : (x y : Cert) (r : Result Cert Refusal) → r ≡ Ok x → r ≡ Ok y → x ≡ y
  same_result x y r h i = cc (h, i)

  ok_err : (x : Cert) (e : Refusal) (r : Result Cert Refusal) → r ≡ Ok x → r ≡ Err e → ⊥
  ok_err x e r h i = cc (h, i)

  -- where the rounds refuse there is no certificate
  pub refused : (r : Refusal) → RoundsRefuse p r → (y : Cert) → IsValid p y → ⊥
  refused r h y v = let b = rounds_below y v h.0 in ok_err b.0 r (after_rounds p h.0) b.1 h.1

  -- effects after rounds have intervals
  bottom_intervals : (bodies : List Nodes) (n : ℕ) → SharedInterval (slice_index_or (map (λ _. bottom) bodies) n idle).exit
  bottom_intervals [] n = idle_interval
  bottom_intervals (body ∷ bodies) zero = tt
  bottom_intervals (body ∷ bodies) (suc n) = bottom_intervals bodies n

  pub no_heads_fine : HeadsFine []
  no_heads_fine j = (omega (arith, ints), omega (arith, ints), omega (arith, ints))

  -- a round gives u, by what it makes of the bodies
  pub record RoundFollows (z u : Cert) : Type 0 where
    pub made_bodies : Bodies
    pub follows : Follows (known_of z) p.bodies 0 [] made_bodies
    pub effects : u.effects ≡ made_bodies.effects
    pub heads : u.heads ≡ made_bodies.heads
    pub shared : u.shared ≡ shared_of (record { definitions = made_bodies.effects; shared = z.shared }) p.tokens

  pub round_follows : (z u : Cert) → Intervals (known_of z) → round p (known_of z) ≡ Ok u → RoundFollows z u
  round_follows z u intervals h =
      let s = with_shared_ok z.shared (bodies_round (definition_limits p) (known_of z) p.bodies 0 []) u h in
      record {
        made_bodies = s.0;
        follows = bodies_follow (known_of z) intervals p.bodies 0 [] s.0 no_heads_fine s.1;
        effects = ap (λ c. c.effects) (sym s.2);
        heads = ap (λ c. c.heads) (sym s.2);
        shared = ap (λ c. c.shared) (sym s.2);
      }

  pub rounds_intervals : (n : ℕ) (z : Cert) → after_rounds p n ≡ Ok z → Intervals (known_of z)
  rounds_intervals zero z h =
      let same : record { effects = bottoms p; shared = bottom; heads = [] } ≡ z = cc (h) in
      subst (λ c. Intervals (known_of c)) same (record { definitions = bottom_intervals p.bodies; shared = tt })
  rounds_intervals (suc n) z h = of (after_rounds p n) (λ y is. rounds_intervals n y is) h
    where
      of : (r : Result Cert Refusal) → ((y : Cert) → r ≡ Ok y → Intervals (known_of y)) → next_round p r ≡ Ok z → Intervals (known_of z)
      of (Err e) earlier i = cc (i)
      of (Ok y) earlier i =
          let f = round_follows y z (earlier y refl) i in
          let each : (d : ℕ) → SharedInterval (slice_index_or z.effects d idle).exit = λ d. subst (λ es. SharedInterval (slice_index_or es d idle).exit) (sym f.effects) (f.follows.intervals d) in
          record { definitions = each; shared = subst (λ e. SharedInterval e.exit) (sym f.shared) (shared_interval (record { definitions = f.made_bodies.effects; shared = y.shared }) p.tokens f.follows.intervals) }

  -- where a round changes no effect, its answer is the least certificate
  pub settled : All ProperToken p.tokens → (n : ℕ) (t u : Cert) → after_rounds p n ≡ Ok t → round p (known_of t) ≡ Ok u → u.effects ≡ t.effects → u.shared ≡ t.shared → IsLeast p u
  settled proper n t u h i same_effects same_shared =
      record { valid = valid; effects = λ y v. (below y v).effects; shared = λ y v. (below y v).shared; heads = λ y v k. (below y v).heads k }
    where
      intervals : Intervals (known_of t)
      intervals = rounds_intervals n t h

      f : RoundFollows t u
      f = round_follows t u intervals i

      known_same : known_of t ≡ known_of u
      known_same = λ j. record { definitions = sym same_effects j; shared = sym same_shared j }

      shared_is : u.shared ≡ shared_of (known_of u) p.tokens
      shared_is = f.shared ∙ ap (λ k. shared_of k p.tokens) (λ j. record { definitions = sym f.effects j; shared = sym same_shared j })

      valid : IsValid p u
      valid = record {
        bodies = subst (λ k. BodiesFit p k u.heads p.bodies u.effects 0 0) known_same
            (subst (λ es. BodiesFit p (known_of t) u.heads p.bodies es 0 0) (sym f.effects) (subst (λ hs. BodiesFit p (known_of t) hs p.bodies f.made_bodies.effects 0 0) (sym f.heads) f.follows.valid));
        tokens = λ k d less.
            token_in_join (known_of u) (slice_index_or p.tokens k d) (proper k d less)
            (subst (EffectIn (token_effect (known_of u) (slice_index_or p.tokens k d))) (sym shared_is) (each_joined (known_of u) p.tokens k d less));
        shared = subst (λ e. SharedInterval e.exit) (sym same_shared) intervals.shared;
        heads = all_fine u.heads (subst HeadsFine (sym f.heads) f.follows.fine);
      }

      below : (y : Cert) → IsValid p y → CertIn u y
      below y v =
          let b = rounds_below y v (suc n) in
          let is : after_rounds p (suc n) ≡ Ok u = ap (next_round p) h ∙ i in
          subst (λ c. CertIn c y) (same_result b.0 u (after_rounds p (suc n)) b.1 is) b.2
