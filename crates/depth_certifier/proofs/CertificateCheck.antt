-- The check of a certificate is exact.
use Rattle.std.proofs.Common.{◌≡◌, ℕ, zero, suc, ◌+◌, ◌<◌, ◌≤◌, List, [], ◌∷◌, length, Option, Some, None, Ok, Err, Bool, true, ◌&&◌, refl, sym, ap, ◌∙◌, subst, arith, inl}
use Rattle.std.specs.Prelude.{nat_le, int_le, pos, negsuc, ℤ, ◌≤ℤ◌, slice_index_or}
use Rattle.std.specs.List.{list_all}
use Rattle.std.proofs.lemmas.Bool.{and_parts, and_from, leb-true, le-leb, eqb-true, eq-eqb}
use Rattle.forth_program.specs.Tree.{Nodes}
use Rattle.forth_program.specs.Program.{SourceProgram}
use Rattle.depth_certifier.specs.declared.effect.Effect.{Effect}
use Rattle.depth_certifier.specs.Place.{Unreachable, At, entry}
use Rattle.depth_certifier.specs.Effects.{Known, Return}
use Rattle.depth_certifier.specs.Certificate.{loops, BodyFits, ExitIn, EffectIn, Limits, definition_limits, IsInterval, ExitKeeps, Keeps, known_of, BodiesFit, SharedInterval, IsValid}
use Rattle.depth_certifier.specs.Walk.{Walk, Walked, walk, ends, start, body_walk, made}
use Rattle.depth_certifier.specs.Rounds.{token_effect}
use Rattle.depth_certifier.specs.Checking.{exit_in, effect_in, interval_keeps, exit_keeps, effect_keeps, is_ordered, walked_and, bodies_check, is_valid, ChecksAreExact}
use Rattle.depth_certifier.proofs.SourcePlaces.{below_same}
use Rattle.depth_certifier.proofs.Tests.{int_le_true, int_true_le, then_ok, effect_in_same, effect_in_then, HeadsIn}
use Rattle.depth_certifier.proofs.StepsBelowCertificate.{Rel, found_from, ends_found, KnownIn}
use Rattle.depth_certifier.proofs.ItemsBelowCertificate.{walk_found}
use Rattle.depth_certifier.proofs.WalkFits.{grows_length, ended}
use Rattle.depth_certifier.proofs.Valid.{walk_stands}
use Rattle.depth_certifier.proofs.RoundBounds.{bottom_in, no_leaves, token_in_join, token_within}

-- ---- tests

exit_in_true : (x y : Option (ℤ × ℤ)) → exit_in x y ≡ true → ExitIn x y
exit_in_true None y h = tt
exit_in_true (Some x) None h = cc (h)
exit_in_true (Some x) (Some y) h = (let a = and_parts (int_le y.0 x.0) (int_le x.1 y.1) h in (int_le_true y.0 x.0 a.0, int_le_true x.1 y.1 a.1))

true_exit_in : (x y : Option (ℤ × ℤ)) → ExitIn x y → exit_in x y ≡ true
true_exit_in None y h = refl
true_exit_in (Some x) None h = absurd h
true_exit_in (Some x) (Some y) h = and_from (int_le y.0 x.0) (int_le x.1 y.1) (int_true_le y.0 x.0 h.0) (int_true_le x.1 y.1 h.1)

effect_in_true : (x y : Effect) → effect_in x y ≡ true → EffectIn x y
effect_in_true x y h =
    let a = and_parts (nat_le x.need y.need) (nat_le x.peak y.peak && (nat_le x.back y.back && exit_in x.exit y.exit)) h in
    let b = and_parts (nat_le x.peak y.peak) (nat_le x.back y.back && exit_in x.exit y.exit) a.1 in
    let c = and_parts (nat_le x.back y.back) (exit_in x.exit y.exit) b.1 in
    record { need = leb-true x.need y.need a.0; peak = leb-true x.peak y.peak b.0; back = leb-true x.back y.back c.0; exit = exit_in_true x.exit y.exit c.1 }

true_effect_in : (x y : Effect) → EffectIn x y → effect_in x y ≡ true
true_effect_in x y h =
    and_from (nat_le x.need y.need) (nat_le x.peak y.peak && (nat_le x.back y.back && exit_in x.exit y.exit)) (le-leb x.need y.need h.need)
    (and_from (nat_le x.peak y.peak) (nat_le x.back y.back && exit_in x.exit y.exit) (le-leb x.peak y.peak h.peak)
    (and_from (nat_le x.back y.back) (exit_in x.exit y.exit) (le-leb x.back y.back h.back) (true_exit_in x.exit y.exit h.exit)))

abbrev IntervalKeeps : ℕ → ℤ × ℤ → Type 0
IntervalKeeps top x = (negsuc 32 ≤ℤ x.0) × IsInterval x × (x.1 ≤ℤ pos top)

interval_true : (top : ℕ) (x : ℤ × ℤ) → interval_keeps top x ≡ true → IntervalKeeps top x
interval_true top x h =
    let a = and_parts (int_le (negsuc 32) x.0) (int_le x.0 x.1 && int_le x.1 (pos top)) h in
    let b = and_parts (int_le x.0 x.1) (int_le x.1 (pos top)) a.1 in
    (int_le_true (negsuc 32) x.0 a.0, int_le_true x.0 x.1 b.0, int_le_true x.1 (pos top) b.1)

true_interval : (top : ℕ) (x : ℤ × ℤ) → IntervalKeeps top x → interval_keeps top x ≡ true
true_interval top x h =
    and_from (int_le (negsuc 32) x.0) (int_le x.0 x.1 && int_le x.1 (pos top)) (int_true_le (negsuc 32) x.0 h.0)
    (and_from (int_le x.0 x.1) (int_le x.1 (pos top)) (int_true_le x.0 x.1 h.1) (int_true_le x.1 (pos top) h.2))

exit_true : (top : ℕ) (x : Option (ℤ × ℤ)) → exit_keeps top x ≡ true → ExitKeeps top x
exit_true top None h = tt
exit_true top (Some x) h = interval_true top x h

true_exit : (top : ℕ) (x : Option (ℤ × ℤ)) → ExitKeeps top x → exit_keeps top x ≡ true
true_exit top None h = refl
true_exit top (Some x) h = true_interval top x h

pub keeps_true : (lim : Limits) (e : Effect) → effect_keeps lim e ≡ true → Keeps lim e
keeps_true lim e h =
    let a = and_parts (nat_le e.need lim.need) (nat_le e.peak lim.peak && (nat_le e.back lim.back && exit_keeps lim.top e.exit)) h in
    let b = and_parts (nat_le e.peak lim.peak) (nat_le e.back lim.back && exit_keeps lim.top e.exit) a.1 in
    let c = and_parts (nat_le e.back lim.back) (exit_keeps lim.top e.exit) b.1 in
    record { need = leb-true e.need lim.need a.0; peak = leb-true e.peak lim.peak b.0; back = leb-true e.back lim.back c.0; exit = exit_true lim.top e.exit c.1 }

true_keeps : (lim : Limits) (e : Effect) → Keeps lim e → effect_keeps lim e ≡ true
true_keeps lim e h =
    and_from (nat_le e.need lim.need) (nat_le e.peak lim.peak && (nat_le e.back lim.back && exit_keeps lim.top e.exit)) (le-leb e.need lim.need h.need)
    (and_from (nat_le e.peak lim.peak) (nat_le e.back lim.back && exit_keeps lim.top e.exit) (le-leb e.peak lim.peak h.peak)
    (and_from (nat_le e.back lim.back) (exit_keeps lim.top e.exit) (le-leb e.back lim.back h.back) (true_exit lim.top e.exit h.exit)))

ordered_true : (x : Option (ℤ × ℤ)) → is_ordered x ≡ true → SharedInterval x
ordered_true None h = tt
ordered_true (Some x) h = int_le_true x.0 x.1 h

pub true_ordered : (x : Option (ℤ × ℤ)) → SharedInterval x → is_ordered x ≡ true
true_ordered None h = refl
true_ordered (Some x) h = int_true_le x.0 x.1 h

all_true : {A : Type 0} (test : A → Bool) (xs : List A) → list_all test xs ≡ true → (k : ℕ) (d : A) → k < length xs → test (slice_index_or xs k d) ≡ true
all_true test [] h k d less = absurd (omega arith)
all_true test (x ∷ xs) h zero d less = (and_parts (test x) (list_all test xs) h).0
all_true test (x ∷ xs) h (suc k) d less = all_true test xs (and_parts (test x) (list_all test xs) h).1 k d (omega arith)

true_all : {A : Type 0} (test : A → Bool) (xs : List A) → ((k : ℕ) (d : A) → k < length xs → test (slice_index_or xs k d) ≡ true) → list_all test xs ≡ true
true_all test [] h = refl
true_all test (x ∷ xs) h = and_from (test x) (list_all test xs) (h 0 x (omega arith)) (true_all test xs (λ k d less. h (suc k) d (omega (arith, less))))

pub walked_ok : (r : Walked) (test : Walk → Bool) → walked_and r test ≡ true → (w : Walk) × (r ≡ Ok w) × (test w ≡ true)
walked_ok (Ok w) test h = (w, refl, h)
walked_ok (Err reason) test h = cc (h)

-- ---- bodies

module _ (p : SourceProgram) (known : Known) (hs : List (ℤ × ℤ)) where
  known_same : KnownIn known known
  known_same = record { definitions = λ d. effect_in_same _; shared = effect_in_same _ }

  bodies_valid : (bodies : List Nodes) (es : List Effect) (d k : ℕ) (noted : List (ℤ × ℤ)) → length noted ≡ k → bodies_check p known hs bodies es d noted ≡ true → BodiesFit p known hs bodies es d k
  bodies_valid [] [] d k noted count h = sym count ∙ eqb-true (length noted) (length hs) h
  bodies_valid [] (e ∷ es) d k noted count h = cc (h)
  bodies_valid (body ∷ bodies) [] d k noted count h = cc (h)
  bodies_valid (body ∷ bodies) (e ∷ es) d k noted count h =
      let lim = definition_limits p d in
      let a = and_parts (effect_keeps lim e) (walked_and (body_walk lim known (Some hs) body noted) (λ w. effect_in (made w) e && bodies_check p known hs bodies es (suc d) w.heads)) h in
      let b = walked_ok (body_walk lim known (Some hs) body noted) (λ w. effect_in (made w) e && bodies_check p known hs bodies es (suc d) w.heads) a.1 in
      let w = b.0 in
      let c = and_parts (effect_in (made w) e) (bodies_check p known hs bodies es (suc d) w.heads) b.2 in
      let g = effect_in_true (made w) e c.0 in
      let s = start lim known (Some hs) noted in
      let r = then_ok (walk lim known (Some hs) None Return body s) (ends lim) w b.1 in
      let m = r.0 in
      let st = walk_stands lim known (Some hs) body None Return s m tt r.1 in
      let en = ended lim m w r.2 in
      let fits : BodyFits known hs e body (length noted) =
      (m.place, st.fits e (effect_in_then (made m) (made w) e en.effect g) hs refl Unreachable m.place (no_leaves lim m.leaves st.topped) (below_same m.place), en.ends e g) in
      let len : length w.heads ≡ k + loops body = ap length en.heads ∙ grows_length s m (loops body) st.grows ∙ ap (λ n. n + loops body) count in
      (subst (BodyFits known hs e body) count fits, keeps_true lim e a.0, bodies_valid bodies es (suc d) (k + loops body) w.heads len c.1)

  -- as many heads as loops
  few_loops : (bodies : List Nodes) (es : List Effect) (d k : ℕ) → BodiesFit p known hs bodies es d k → k ≤ length hs
  few_loops [] [] d k v = omega (arith, v)
  few_loops [] (e ∷ es) d k v = absurd v
  few_loops (body ∷ bodies) [] d k v = absurd v
  few_loops (body ∷ bodies) (e ∷ es) d k v = omega (arith, few_loops bodies es (suc d) (k + loops body) v.2)

  valid_bodies : (bodies : List Nodes) (es : List Effect) (d k : ℕ) (noted : List (ℤ × ℤ)) → length noted ≡ k → HeadsIn noted hs → BodiesFit p known hs bodies es d k → bodies_check p known hs bodies es d noted ≡ true
  valid_bodies [] [] d k noted count within v = eq-eqb (length noted) (length hs) (count ∙ v)
  valid_bodies [] (e ∷ es) d k noted count within v = absurd v
  valid_bodies (body ∷ bodies) [] d k noted count within v = absurd v
  valid_bodies (body ∷ bodies) (e ∷ es) d k noted count within v =
      let lim = definition_limits p d in
      let f = v.0 in
      let keeps = v.1 in
      let s = start lim known (Some hs) noted in
      let begin : Rel lim e keeps hs 0 0 0 0 k s (At entry) Unreachable = record { place = below_same (At entry); leaves = tt; effect = bottom_in e; count = count; heads = within } in
      let r = found_from lim e keeps hs 0 0 0 0 (k + loops body) f.0 Unreachable 0 0 0 0 (k + loops body) Unreachable Unreachable (walk lim known (Some hs) None Return body s) (ends lim)
      (walk_found lim e keeps known known hs known_same (Some hs) refl body Return k (At entry) Unreachable f.0 f.1 None tt 0 0 0 0 (omega arith) (omega arith) (refl, refl) (few_loops bodies es (suc d) (k + loops body) v.2) s begin)
      (λ u q. ends_found lim e keeps hs 0 0 0 0 (k + loops body) f.0 Unreachable u f.2 q) in
      let w = r.walk in
      let t = and_from (effect_in (made w) e) (bodies_check p known hs bodies es (suc d) w.heads) (true_effect_in (made w) e r.rel.effect) (valid_bodies bodies es (suc d) (k + loops body) w.heads r.rel.count r.rel.heads v.2) in
      and_from (effect_keeps lim e) (walked_and (body_walk lim known (Some hs) body noted) (λ w. effect_in (made w) e && bodies_check p known hs bodies es (suc d) w.heads)) (true_keeps lim e keeps)
      (ap (λ x. walked_and x (λ w. effect_in (made w) e && bodies_check p known hs bodies es (suc d) w.heads)) r.is ∙ t)

pub checks_are_exact : ChecksAreExact
checks_are_exact p z proper = (to, from)
  where
    to : is_valid p z ≡ true → IsValid p z
    to h =
        let a =
        and_parts (bodies_check p (known_of z) z.heads p.bodies z.effects 0 [])
        (list_all (λ node. effect_in (token_effect (known_of z) node) z.shared) p.tokens
        && (is_ordered z.shared.exit && list_all (interval_keeps 33) z.heads)) h in
        let b = and_parts (list_all (λ node. effect_in (token_effect (known_of z) node) z.shared) p.tokens) (is_ordered z.shared.exit && list_all (interval_keeps 33) z.heads) a.1 in
        let c = and_parts (is_ordered z.shared.exit) (list_all (interval_keeps 33) z.heads) b.1 in
        record {
          bodies = bodies_valid p (known_of z) z.heads p.bodies z.effects 0 0 [] refl a.0;
          tokens = λ k d less.
              token_in_join (known_of z) (slice_index_or p.tokens k d) (proper k d less)
              (effect_in_true (token_effect (known_of z) (slice_index_or p.tokens k d)) z.shared
              (all_true (λ node. effect_in (token_effect (known_of z) node) z.shared) p.tokens b.0 k d less));
          shared = ordered_true z.shared.exit c.0;
          heads = λ k d less. interval_true 33 (slice_index_or z.heads k d) (all_true (interval_keeps 33) z.heads c.1 k d less);
        }

    from : IsValid p z → is_valid p z ≡ true
    from v =
        and_from (bodies_check p (known_of z) z.heads p.bodies z.effects 0 []) (list_all (λ node. effect_in (token_effect (known_of z) node) z.shared) p.tokens && (is_ordered z.shared.exit && list_all (interval_keeps 33) z.heads))
        (valid_bodies p (known_of z) z.heads p.bodies z.effects 0 0 [] refl (λ j. inl refl) v.bodies)
        (and_from (list_all (λ node. effect_in (token_effect (known_of z) node) z.shared) p.tokens) (is_ordered z.shared.exit && list_all (interval_keeps 33) z.heads)
        (true_all (λ node. effect_in (token_effect (known_of z) node) z.shared) p.tokens
        (λ k d less.
        true_effect_in (token_effect (known_of z) (slice_index_or p.tokens k d)) z.shared
        (token_within (known_of z) (known_of z) (slice_index_or p.tokens k d) (λ n. effect_in_same _) (v.tokens k d less))))
        (and_from (is_ordered z.shared.exit) (list_all (interval_keeps 33) z.heads) (true_ordered z.shared.exit v.shared)
        (true_all (interval_keeps 33) z.heads (λ k d less. true_interval 33 (slice_index_or z.heads k d) (v.heads k d less)))))
