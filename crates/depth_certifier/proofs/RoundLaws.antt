-- The laws of rounds.
use Rattle.std.proofs.Common.{◌≡◌, ℕ, zero, suc, ◌+◌, ◌<◌, List, [], ◌∷◌, length, Option, Some, None, Result, Err, refl, sym, ap, ◌∙◌, subst, arith, inl, inr}
use Rattle.std.specs.Prelude.{pos, ℤ, slice_index_or}
use Rattle.std.proofs.lemmas.Int.{ints}
use Rattle.forth_program.specs.Tree.{Nodes}
use Rattle.forth_program.specs.Program.{SourceProgram}
use Rattle.depth_certifier.specs.declared.effect.Effect.{Effect}
use Rattle.depth_certifier.specs.Effects.{Known}
use Rattle.depth_certifier.specs.Certificate.{loops, ExitIn, EffectIn, no_interval, IsInterval, Cert, known_of, BodiesFit}
use Rattle.depth_certifier.specs.Rounds.{Refusal, next_round, after_rounds, EachIn, HeadIn, RoundsEnd, RoundsFindTheLeast, RefusedHaveNone, OneRefusal, OneLeast}
use Rattle.depth_certifier.proofs.RoundBounds.{refused, settled}
use Rattle.depth_certifier.proofs.RoundTermination.{judged}

pub rounds_end : RoundsEnd
rounds_end p = judged p

pub rounds_find_the_least : RoundsFindTheLeast
rounds_find_the_least p z proper e = settled p proper e.n e.before z e.reached e.again e.effects e.shared

pub refused_have_none : RefusedHaveNone
refused_have_none p r z h v = refused p r h z v

-- ---- one refusal

stays : (p : SourceProgram) (n m : ℕ) (r : Refusal) → after_rounds p n ≡ Err r → after_rounds p (m + n) ≡ Err r
stays p n zero r h = (let same : 0 + n ≡ n = omega arith in subst (λ k. after_rounds p k ≡ Err r) (sym same) h)
stays p n (suc m) r h = (let same : suc (m + n) ≡ suc m + n = omega arith in subst (λ k. after_rounds p k ≡ Err r) same (ap (next_round p) (stays p n m r h)))

err_same : (r s : Refusal) (x : Result Cert Refusal) → x ≡ Err r → x ≡ Err s → r ≡ s
err_same r s x h i = cc (h, i)

pub one_refusal : OneRefusal
one_refusal p r s h i =
    let same : h.0 + i.0 ≡ i.0 + h.0 = omega arith in
    err_same r s (after_rounds p (i.0 + h.0)) (stays p h.0 i.0 r h.1) (subst (λ k. after_rounds p k ≡ Err s) same (stays p i.0 h.0 s i.1))

-- ---- one least certificate

pair_same : (x y : ℤ × ℤ) → x.0 ≡ y.0 → x.1 ≡ y.1 → x ≡ y
pair_same x y h i = λ j. (h j, i j)

exit_same : (x y : Option (ℤ × ℤ)) → ExitIn x y → ExitIn y x → x ≡ y
exit_same None None h i = refl
exit_same None (Some y) h i = absurd i
exit_same (Some x) None h i = absurd h
exit_same (Some x) (Some y) h i = (let a : x.0 ≡ y.0 = omega (arith, ints, h.0, i.0) in let b : x.1 ≡ y.1 = omega (arith, ints, h.1, i.1) in ap Some (pair_same x y a b))

effect_same : (x y : Effect) → EffectIn x y → EffectIn y x → x ≡ y
effect_same x y h i =
    let n : x.need ≡ y.need = omega (arith, h.need, i.need) in
    let q : x.peak ≡ y.peak = omega (arith, h.peak, i.peak) in
    let b : x.back ≡ y.back = omega (arith, h.back, i.back) in
    let e = exit_same x.exit y.exit h.exit i.exit in
    λ j. record { need = n j; peak = q j; back = b j; exit = e j }

each_same : (xs ys : List Effect) → EachIn xs ys → EachIn ys xs → xs ≡ ys
each_same [] ys h i = sym h
each_same (x ∷ xs) [] h i = absurd h
each_same (x ∷ xs) (y ∷ ys) h i = (let a = effect_same x y h.0 i.0 in let b = each_same xs ys h.1 i.1 in cc (a, b))

zero_same : (x y : ℤ × ℤ) → x ≡ no_interval → IsInterval y → ExitIn (Some y) (Some x) → x ≡ y
zero_same x y is interval h =
    let a : x.0 ≡ pos 0 = ap (λ z. z.0) is in
    let b : x.1 ≡ pos 0 = ap (λ z. z.1) is in
    pair_same x y (omega (arith, ints, a, b, interval, h.0, h.1)) (omega (arith, ints, a, b, interval, h.0, h.1))

head_same : (x y : ℤ × ℤ) → IsInterval x → IsInterval y → HeadIn x y → HeadIn y x → x ≡ y
head_same x y ix iy (inl h) (inl i) = h ∙ sym i
head_same x y ix iy (inl h) (inr i) = zero_same x y h iy i
head_same x y ix iy (inr h) (inl i) = sym (zero_same y x i ix h)
head_same x y ix iy (inr h) (inr i) = pair_same x y (omega (arith, ints, h.0, i.0)) (omega (arith, ints, h.1, i.1))

heads_same : (xs ys : List (ℤ × ℤ)) → length xs ≡ length ys → ((k : ℕ) → k < length xs → slice_index_or xs k no_interval ≡ slice_index_or ys k no_interval) → xs ≡ ys
heads_same [] [] e h = refl
heads_same [] (y ∷ ys) e h = absurd (omega (arith, e))
heads_same (x ∷ xs) [] e h = absurd (omega (arith, e))
heads_same (x ∷ xs) (y ∷ ys) e h =
    let a = h 0 (omega arith) in
    let b = heads_same xs ys (omega (arith, e)) (λ k i. h (suc k) (omega (arith, i))) in
    cc (a, b)

all_loops : List Nodes → ℕ
all_loops [] = 0
all_loops (body ∷ bodies) = loops body + all_loops bodies

count : (p : SourceProgram) (known : Known) (hs : List (ℤ × ℤ)) (bodies : List Nodes) (es : List Effect) (d k : ℕ) → BodiesFit p known hs bodies es d k → length hs ≡ k + all_loops bodies
unfolding all_loops
count p known hs [] [] d k v = omega (arith, v)
count p known hs [] (e ∷ es) d k v = absurd v
count p known hs (body ∷ bodies) [] d k v = absurd v
count p known hs (body ∷ bodies) (e ∷ es) d k v = omega (arith, count p known hs bodies es (suc d) (k + loops body) v.2)

cert_same : (y z : Cert) → y.effects ≡ z.effects → y.shared ≡ z.shared → y.heads ≡ z.heads → y ≡ z
cert_same y z a b c = λ j. record { effects = a j; shared = b j; heads = c j }

pub one_least : OneLeast
one_least p y z h i =
    let ly = count p (known_of y) y.heads p.bodies y.effects 0 0 h.valid.bodies in
    let lz = count p (known_of z) z.heads p.bodies z.effects 0 0 i.valid.bodies in
    let len : length y.heads ≡ length z.heads = omega (arith, ly, lz) in
    cert_same y z (each_same y.effects z.effects (h.effects z i.valid) (i.effects y h.valid)) (effect_same y.shared z.shared (h.shared z i.valid) (i.shared y h.valid))
    (heads_same y.heads z.heads len
    (λ k less.
    head_same (slice_index_or y.heads k no_interval) (slice_index_or z.heads k no_interval) (h.valid.heads k no_interval less).1
    (i.valid.heads k no_interval (omega (arith, less, len))).1 (h.heads z i.valid k) (i.heads y h.valid k)))
