-- Rounds only rise, and each round that changes an effect leaves less room: so they come to an end.
use Rattle.std.proofs.Common.{◌≡◌, ℕ, zero, suc, ◌+◌, ◌-◌, ◌≤◌, ◌<◌, ◌⊎◌, ◌&&◌, if◌then◌else◌, List, [], ◌∷◌, map, Option, Some, None, Result, Ok, Err, Bool, true, false, refl, sym, ap, ◌∙◌, subst, arith, inl, inr}
use Rattle.std.specs.Prelude.{pos, negsuc, ℤ, ◌+ℤ◌, ◌-ℤ◌, ◌≤ℤ◌, slice_index_or, nat_eq, nat_le, int_le}
use Rattle.std.specs.Int.{int_max, int_min}
use Rattle.std.proofs.lemmas.Int.{ints, clamps}
use Rattle.std.proofs.lemmas.Bool.{cases_lt, and_parts, leb-true}
use Rattle.word_table.specs.declared.word.Word.{Word}
use Rattle.word_table.specs.declared.word.Word.TheVariants as table
use Rattle.forth_program.specs.Tree.{Node, Nodes, Plain, Call, Child}
use Rattle.forth_program.specs.Program.{SourceProgram, uses_depth}
use Rattle.depth_certifier.specs.declared.effect.Effect.{Effect}
use Rattle.depth_certifier.specs.Place.{from_zero}
use Rattle.depth_certifier.specs.Effects.{table_effect, moved_by, Known, idle, effect_of, child_effect}
use Rattle.depth_certifier.specs.Certificate.{loops, ExitIn, EffectIn, Keeps, ExitKeeps, Limits, definition_limits, Cert, known_of, BodiesFit}
use Rattle.depth_certifier.specs.Rounds.{bottom, token_effect, joined_exit, joined_effect, shared_of, Refusal, Bodies, bodies_round, round, next_round, bottoms, after_rounds, EachIn, Judged}
use Rattle.depth_certifier.proofs.Tests.{from_zero_up, int_le_true, effect_in_same, effect_in_then}
use Rattle.depth_certifier.proofs.StepsBelowCertificate.{KnownIn}
use Rattle.depth_certifier.proofs.WalkLimits.{Intervals}
use Rattle.depth_certifier.proofs.RoundBounds.{index_in, bottom_in, child_in, joined_within, joined_left, joined_right, bodies_found, round_follows, rounds_intervals, with_shared_ok, heads_none}

-- ---- effects within wide bounds

abbrev FineExit : Option (ℤ × ℤ) → Type 0
FineExit None = Unit {0}
FineExit (Some x) = (negsuc 99 ≤ℤ x.0) × (x.0 ≤ℤ pos 100) × (negsuc 99 ≤ℤ x.1) × (x.1 ≤ℤ pos 100)

pub record Fine (e : Effect) : Type 0 where
  pub need : e.need ≤ 100
  pub peak : e.peak ≤ 100
  pub back : e.back ≤ 100
  pub exit : FineExit e.exit

abbrev pub left_exit : Option (ℤ × ℤ) → ℕ
left_exit None = 500
left_exit (Some x) = from_zero (x.0 +ℤ pos 100) + from_zero (pos 100 -ℤ x.1)

-- the room that an effect leaves
abbrev pub left : Effect → ℕ
left e = (100 - e.need) + (100 - e.peak) + (100 - e.back) + left_exit e.exit

pair_same : (x y : ℤ × ℤ) → x.0 ≡ y.0 → x.1 ≡ y.1 → x ≡ y
pair_same x y h i = λ j. (h j, i j)

exit_falls : (x y : Option (ℤ × ℤ)) → FineExit x → FineExit y → ExitIn x y → (left_exit y < left_exit x) ⊎ (x ≡ y)
exit_falls None None f g h = inr refl
exit_falls None (Some y) f g h =
    let a = from_zero_up (y.0 +ℤ pos 100) (omega (arith, ints, g.0)) in
    let b = from_zero_up (pos 100 -ℤ y.1) (omega (arith, ints, g.3)) in
    let a1 : from_zero (y.0 +ℤ pos 100) ≤ 200 = omega (arith, ints, a, g.1) in
    let b1 : from_zero (pos 100 -ℤ y.1) ≤ 200 = omega (arith, ints, b, g.2) in
    inl (omega (arith, a1, b1))
exit_falls (Some x) None f g h = absurd h
exit_falls (Some x) (Some y) f g h =
    let a = from_zero_up (y.0 +ℤ pos 100) (omega (arith, ints, g.0)) in
    let b = from_zero_up (pos 100 -ℤ y.1) (omega (arith, ints, g.3)) in
    let a' = from_zero_up (x.0 +ℤ pos 100) (omega (arith, ints, f.0)) in
    let b' = from_zero_up (pos 100 -ℤ x.1) (omega (arith, ints, f.3)) in
    let a1 : from_zero (y.0 +ℤ pos 100) ≤ from_zero (x.0 +ℤ pos 100) = omega (arith, ints, a, a', h.0) in
    let b1 : from_zero (pos 100 -ℤ y.1) ≤ from_zero (pos 100 -ℤ x.1) = omega (arith, ints, b, b', h.1) in
    elim (cases_lt (left_exit (Some y)) (left_exit (Some x))) [
      | inl lt ↦ inl lt
      | inr le ↦
          (let q : from_zero (y.0 +ℤ pos 100) ≡ from_zero (x.0 +ℤ pos 100) = omega (arith, a1, b1, le) in
          let r : from_zero (pos 100 -ℤ y.1) ≡ from_zero (pos 100 -ℤ x.1) = omega (arith, a1, b1, le) in
          let u : x.0 ≡ y.0 = omega (arith, ints, a, a', q) in
          let v : x.1 ≡ y.1 = omega (arith, ints, b, b', r) in
          inr (ap Some (pair_same x y u v)))
    ]

pub effect_falls : (x y : Effect) → Fine x → Fine y → EffectIn x y → (left y < left x) ⊎ (x ≡ y)
effect_falls x y f g h =
    elim (exit_falls x.exit y.exit f.exit g.exit h.exit) [
      | inl lt ↦ inl (omega (arith, lt, h.need, h.peak, h.back))
      | inr e ↦
          (let same = ap left_exit e in
          elim (cases_lt (left y) (left x)) [
            | inl lt ↦ inl lt
            | inr le ↦
                (let n : x.need ≡ y.need = omega (arith, le, same, h.need, h.peak, h.back, f.need, g.need, f.peak, g.peak, f.back, g.back) in
                let q : x.peak ≡ y.peak = omega (arith, le, same, h.need, h.peak, h.back, f.need, g.need, f.peak, g.peak, f.back, g.back) in
                let b : x.back ≡ y.back = omega (arith, le, same, h.need, h.peak, h.back, f.need, g.need, f.peak, g.peak, f.back, g.back) in
                inr (λ j. record { need = n j; peak = q j; back = b j; exit = e j }))
          ])
    ]

abbrev pub AllFine : List Effect → Type 0
AllFine [] = Unit {0}
AllFine (e ∷ es) = Fine e × AllFine es

abbrev pub left_all : List Effect → ℕ
left_all [] = 0
left_all (e ∷ es) = left e + left_all es

pub effects_fall : (xs ys : List Effect) → AllFine xs → AllFine ys → EachIn xs ys → (left_all ys < left_all xs) ⊎ (xs ≡ ys)
effects_fall [] ys f g h = inr (sym h)
effects_fall (x ∷ xs) [] f g h = absurd h
effects_fall (x ∷ xs) (y ∷ ys) f g h =
    elim (effect_falls x y f.0 g.0 h.0) [
      | inl lt ↦ elim (effects_fall xs ys f.1 g.1 h.1) [ inl l ↦ inl (omega (arith, lt, l)) | inr e ↦ (let s = ap left_all e in inl (omega (arith, lt, s))) ]
      | inr e ↦ (let s = ap left e in elim (effects_fall xs ys f.1 g.1 h.1) [ inl l ↦ inl (omega (arith, s, l)) | inr e' ↦ inr (cc (e, e')) ])
    ]

abbrev pub room : Cert → ℕ
room z = left_all z.effects + left z.shared

abbrev pub CertFine : Cert → Type 0
CertFine z = AllFine z.effects × Fine z.shared

-- the measure of the rounds
pub rounds_fall : (z u : Cert) → CertFine z → CertFine u → EachIn z.effects u.effects → EffectIn z.shared u.shared → (room u < room z) ⊎ ((u.effects ≡ z.effects) × (u.shared ≡ z.shared))
rounds_fall z u f g h i =
    elim (effects_fall z.effects u.effects f.0 g.0 h) [
      | inl lt ↦ elim (effect_falls z.shared u.shared f.1 g.1 i) [ inl l ↦ inl (omega (arith, lt, l)) | inr e ↦ (let s = ap left e in inl (omega (arith, lt, s))) ]
      | inr e ↦ (let s = ap left_all e in elim (effect_falls z.shared u.shared f.1 g.1 i) [ inl l ↦ inl (omega (arith, s, l)) | inr e' ↦ inr (sym e, sym e') ])
    ]

-- ---- what rounds give is within these bounds

keeps_exit : (top : ℕ) (x : Option (ℤ × ℤ)) → top ≤ 33 → ExitKeeps top x → (n : ℤ) → pos 0 ≤ℤ n → n ≤ℤ pos 1 → FineExit (moved_by n x)
keeps_exit top None t h n a b = tt
keeps_exit top (Some x) t h n a b = (omega (arith, ints, h.0, a), omega (arith, ints, h.1, h.2, t, b), omega (arith, ints, h.0, h.1, a), omega (arith, ints, h.2, t, b))

abbrev any : Limits
any = record { need = 33; peak = 33; back = 31; top = 33 }

abbrev of_main : SourceProgram → Limits
of_main p = record { need = 0; peak = if uses_depth p then 32 else 33; back = 31; top = 31 }

exit_more : (top : ℕ) (x : Option (ℤ × ℤ)) → top ≤ 33 → ExitKeeps top x → ExitKeeps 33 x
exit_more top None t h = tt
exit_more top (Some x) t h = (h.0, h.1, omega (arith, ints, h.2, t))

keeps_any : (p : SourceProgram) (d : ℕ) (e : Effect) → Keeps (definition_limits p d) e → Keeps any e
keeps_any p d e k = of (nat_eq d p.main_body) k
  where
    depth_most : (b : Bool) → (if b then 32 else 33) ≤ 33
    depth_most true = omega arith
    depth_most false = omega arith

    of : (b : Bool) → Keeps (if b then of_main p else any) e → Keeps any e
    of true k = record { need = omega (arith, k.need); peak = omega (arith, k.peak, depth_most (uses_depth p)); back = k.back; exit = exit_more 31 e.exit (omega arith) k.exit }
    of false k = k

fine_exit : (x : Option (ℤ × ℤ)) → ExitKeeps 33 x → FineExit x
fine_exit None h = tt
fine_exit (Some x) h = (omega (arith, ints, h.0), omega (arith, ints, h.1, h.2), omega (arith, ints, h.0, h.1), omega (arith, ints, h.2))

fine_of : (e : Effect) → Keeps any e → Fine e
fine_of e k = record { need = omega (arith, k.need); peak = omega (arith, k.peak); back = omega (arith, k.back); exit = fine_exit e.exit k.exit }

child_fine : (e : Effect) → Keeps any e → Fine (child_effect e)
child_fine e k = record { need = omega (arith, k.need); peak = omega (arith, k.peak); back = omega (arith, k.back); exit = keeps_exit 33 e.exit (omega arith) k.exit (pos 1) (omega (arith, ints)) (omega (arith, ints)) }

idle_keeps : Keeps any idle
idle_keeps = record { need = omega arith; peak = omega arith; back = omega arith; exit = (omega (arith, ints), omega (arith, ints), omega (arith, ints)) }

-- the table's numbers are small
abbrev small_exit : Option (ℤ × ℤ) → Bool
small_exit None = true
small_exit (Some x) = int_le (negsuc 99) x.0 && (int_le x.0 (pos 100) && (int_le (negsuc 99) x.1 && int_le x.1 (pos 100)))

small_words : (word : Word) → nat_le (table_effect word).need 100 && (nat_le (table_effect word).peak 100 && (nat_le (table_effect word).back 100 && small_exit (table_effect word).exit)) ≡ true
small_words table.Dup = refl
small_words word = refl

small_exit_fine : (x : Option (ℤ × ℤ)) → small_exit x ≡ true → FineExit x
small_exit_fine None h = tt
small_exit_fine (Some x) h =
    let a = and_parts (int_le (negsuc 99) x.0) (int_le x.0 (pos 100) && (int_le (negsuc 99) x.1 && int_le x.1 (pos 100))) h in
    let b = and_parts (int_le x.0 (pos 100)) (int_le (negsuc 99) x.1 && int_le x.1 (pos 100)) a.1 in
    let c = and_parts (int_le (negsuc 99) x.1) (int_le x.1 (pos 100)) b.1 in
    (int_le_true (negsuc 99) x.0 a.0, int_le_true x.0 (pos 100) b.0, int_le_true (negsuc 99) x.1 c.0, int_le_true x.1 (pos 100) c.1)

table_fine : (word : Word) → Fine (table_effect word)
table_fine word =
    let e = table_effect word in
    let a = and_parts (nat_le e.need 100) (nat_le e.peak 100 && (nat_le e.back 100 && small_exit e.exit)) (small_words word) in
    let b = and_parts (nat_le e.peak 100) (nat_le e.back 100 && small_exit e.exit) a.1 in
    let c = and_parts (nat_le e.back 100) (small_exit e.exit) b.1 in
    record { need = leb-true e.need 100 a.0; peak = leb-true e.peak 100 b.0; back = leb-true e.back 100 c.0; exit = small_exit_fine e.exit c.1 }

bottom_fine : Fine bottom
bottom_fine = record { need = omega arith; peak = omega arith; back = omega arith; exit = tt }

token_fine : (x : Known) (node : Node) → ((d : ℕ) → Keeps any (effect_of x d)) → Fine (token_effect x node)
token_fine x (Plain word) h = table_fine word
token_fine x (Call d) h = fine_of (effect_of x d) (h d)
token_fine x (Child d a) h = child_fine (effect_of x d) (h d)
token_fine x node h = table_fine table.Literal

min_least : (x y z : ℤ) → z ≤ℤ x → z ≤ℤ y → z ≤ℤ int_min x y
min_least x y z h i = grind (arith, ints, clamps)

min_most : (x y z : ℤ) → x ≤ℤ z → int_min x y ≤ℤ z
min_most x y z h = grind (arith, ints, clamps)

max_most : (x y z : ℤ) → x ≤ℤ z → y ≤ℤ z → int_max x y ≤ℤ z
max_most x y z h i = grind (arith, ints, clamps)

max_least : (x y z : ℤ) → z ≤ℤ x → z ≤ℤ int_max x y
max_least x y z h = grind (arith, ints, clamps)

joined_fine_exit : (x y : Option (ℤ × ℤ)) → FineExit x → FineExit y → FineExit (joined_exit x y)
joined_fine_exit None y f g = g
joined_fine_exit (Some x) None f g = f
joined_fine_exit (Some x) (Some y) f g = (min_least x.0 y.0 (negsuc 99) f.0 g.0, min_most x.0 y.0 (pos 100) f.1, max_least x.1 y.1 (negsuc 99) f.2, max_most x.1 y.1 (pos 100) f.3 g.3)

joined_fine : (x y : Effect) → Fine x → Fine y → Fine (joined_effect x y)
joined_fine x y f g = record { need = omega (arith, f.need, g.need); peak = omega (arith, f.peak, g.peak); back = omega (arith, f.back, g.back); exit = joined_fine_exit x.exit y.exit f.exit g.exit }

shared_fine : (x : Known) (nodes : List Node) → ((d : ℕ) → Keeps any (effect_of x d)) → Fine (shared_of x nodes)
shared_fine x [] h = bottom_fine
shared_fine x (node ∷ nodes) h = joined_fine (token_effect x node) (shared_of x nodes) (token_fine x node h) (shared_fine x nodes h)

module _ (p : SourceProgram) where
  all_keep : (known : Known) (hs : List (ℤ × ℤ)) (bodies : List Nodes) (es : List Effect) (d k : ℕ) → BodiesFit p known hs bodies es d k → (n : ℕ) → Keeps any (slice_index_or es n idle)
  all_keep known hs [] [] d k v n = idle_keeps
  all_keep known hs [] (e ∷ es) d k v n = absurd v
  all_keep known hs (body ∷ bodies) [] d k v n = absurd v
  all_keep known hs (body ∷ bodies) (e ∷ es) d k v zero = keeps_any p d e v.1
  all_keep known hs (body ∷ bodies) (e ∷ es) d k v (suc n) = all_keep known hs bodies es (suc d) (k + loops body) v.2 n

  each_fine : (known : Known) (hs : List (ℤ × ℤ)) (bodies : List Nodes) (es : List Effect) (d k : ℕ) → BodiesFit p known hs bodies es d k → AllFine es
  each_fine known hs [] [] d k v = tt
  each_fine known hs [] (e ∷ es) d k v = absurd v
  each_fine known hs (body ∷ bodies) [] d k v = absurd v
  each_fine known hs (body ∷ bodies) (e ∷ es) d k v = (fine_of e (keeps_any p d e v.1), each_fine known hs bodies es (suc d) (k + loops body) v.2)

  bottoms_fine : (bodies : List Nodes) → AllFine (map (λ _. bottom) bodies)
  bottoms_fine [] = tt
  bottoms_fine (body ∷ bodies) = (bottom_fine, bottoms_fine bodies)

  round_fine : (z u : Cert) → Intervals (known_of z) → round p (known_of z) ≡ Ok u → CertFine u
  round_fine z u intervals h =
      let f = round_follows p z u intervals h in (
        subst AllFine (sym f.effects) (each_fine (known_of z) f.made_bodies.heads p.bodies f.made_bodies.effects 0 0 f.follows.valid),
        subst Fine (sym f.shared) (shared_fine (record { definitions = f.made_bodies.effects; shared = z.shared }) p.tokens (all_keep (known_of z) f.made_bodies.heads p.bodies f.made_bodies.effects 0 0 f.follows.valid)),
      )

  pub rounds_fine : (n : ℕ) (z : Cert) → after_rounds p n ≡ Ok z → CertFine z
  rounds_fine zero z h =
      let same : record { effects = bottoms p; shared = bottom; heads = [] } ≡ z = cc (h) in
      subst CertFine same (bottoms_fine p.bodies, bottom_fine)
  rounds_fine (suc n) z h = of (after_rounds p n) (λ y is. rounds_intervals p n y is) h
    where
      of : (r : Result Cert Refusal) → ((y : Cert) → r ≡ Ok y → Intervals (known_of y)) → next_round p r ≡ Ok z → CertFine z
      of (Err e) earlier i = cc (i)
      of (Ok y) earlier i = round_fine y z (earlier y refl) i

  -- ---- rounds rise

  shared_rises : (x y : Known) (nodes : List Node) → ((d : ℕ) → EffectIn (effect_of x d) (effect_of y d)) → EffectIn (shared_of x nodes) (shared_of y nodes)
  shared_rises x y [] less = bottom_in bottom
  shared_rises x y (node ∷ nodes) less =
      joined_within (token_effect x node) (shared_of x nodes) (joined_effect (token_effect y node) (shared_of y nodes))
      (effect_in_then (token_effect x node) (token_effect y node) (joined_effect (token_effect y node) (shared_of y nodes)) (token_rises node) (joined_left (token_effect y node) (shared_of y nodes)))
      (effect_in_then (shared_of x nodes) (shared_of y nodes) (joined_effect (token_effect y node) (shared_of y nodes)) (shared_rises x y nodes less) (joined_right (token_effect y node) (shared_of y nodes)))
    where
      token_rises : (node : Node) → EffectIn (token_effect x node) (token_effect y node)
      token_rises (Plain word) = effect_in_same (table_effect word)
      token_rises (Call d) = less d
      token_rises (Child d a) = child_in (effect_of x d) (effect_of y d) (less d)
      token_rises node = effect_in_same (table_effect table.Literal)

  pub record Rises (z u : Cert) : Type 0 where
    pub effects : EachIn z.effects u.effects
    pub shared : EffectIn z.shared u.shared

  round_rises : (x y z u : Cert) → EachIn x.effects y.effects → EffectIn x.shared y.shared → Intervals (known_of y) → round p (known_of x) ≡ Ok z → round p (known_of y) ≡ Ok u → Rises z u
  round_rises x y z u h s intervals i j =
      let f = round_follows p y u intervals j in
      let t = f.made_bodies in
      let less : KnownIn (known_of x) (known_of y) = record { definitions = index_in x.effects y.effects h; shared = s } in
      let b = bodies_found p (known_of x) (known_of y) t.heads less p.bodies t.effects 0 0 f.follows.valid [] refl (heads_none p t.heads) in
      let o = with_shared_ok p x.shared (bodies_round (definition_limits p) (known_of x) p.bodies 0 []) z i in
      let same : b.0 ≡ o.0 = bodies_same b.0 o.0 (bodies_round (definition_limits p) (known_of x) p.bodies 0 []) b.1 o.1 in
      let within : EachIn o.0.effects t.effects = subst (λ v. EachIn v.effects t.effects) same b.2 in
      let z_effects : z.effects ≡ o.0.effects = ap (λ c. c.effects) (sym o.2) in
      let z_shared : z.shared ≡ shared_of (record { definitions = o.0.effects; shared = x.shared }) p.tokens = ap (λ c. c.shared) (sym o.2) in
      record {
        effects = subst (λ es. EachIn es u.effects) (sym z_effects) (subst (EachIn o.0.effects) (sym f.effects) within);
        shared = subst (λ e. EffectIn e u.shared) (sym z_shared) (subst (EffectIn (shared_of (record { definitions = o.0.effects; shared = x.shared }) p.tokens)) (sym f.shared)
            (shared_rises (record { definitions = o.0.effects; shared = x.shared }) (record { definitions = t.effects; shared = y.shared }) p.tokens (index_in o.0.effects t.effects within)));
      }
    where
      bodies_same : (a b : Bodies) (r : Result Bodies Refusal) → r ≡ Ok a → r ≡ Ok b → a ≡ b
      bodies_same a b r h i = cc (h, i)

  -- each round keeps as many effects as there are bodies
  bottoms_rise : (known : Known) (hs : List (ℤ × ℤ)) (bodies : List Nodes) (es : List Effect) (d k : ℕ) → BodiesFit p known hs bodies es d k → EachIn (map (λ _. bottom) bodies) es
  bottoms_rise known hs [] [] d k v = refl
  bottoms_rise known hs [] (e ∷ es) d k v = absurd v
  bottoms_rise known hs (body ∷ bodies) [] d k v = absurd v
  bottoms_rise known hs (body ∷ bodies) (e ∷ es) d k v = (bottom_in e, bottoms_rise known hs bodies es (suc d) (k + loops body) v.2)

  pub rounds_rise : (n : ℕ) (z u : Cert) → after_rounds p n ≡ Ok z → round p (known_of z) ≡ Ok u → Rises z u
  rounds_rise zero z u h i =
      let same : record { effects = bottoms p; shared = bottom; heads = [] } ≡ z = cc (h) in
      let f = round_follows p z u (rounds_intervals p zero z h) i in
      subst (λ c. Rises c u) same (record { effects = subst (EachIn (bottoms p)) (sym f.effects) (bottoms_rise (known_of z) f.made_bodies.heads p.bodies f.made_bodies.effects 0 0 f.follows.valid); shared = bottom_in u.shared })
  rounds_rise (suc n) z u h i = of (after_rounds p n) refl (λ y is j. rounds_rise n y z is j) h
    where
      of : (r : Result Cert Refusal) → after_rounds p n ≡ r → ((y : Cert) → after_rounds p n ≡ Ok y → round p (known_of y) ≡ Ok z → Rises y z) → next_round p r ≡ Ok z → Rises z u
      of (Err e) is earlier j = cc (j)
      of (Ok y) is earlier j =
          let r = earlier y is j in
          round_rises y z z u r.effects r.shared (rounds_intervals p (suc n) z h) j i

  -- ---- the end

  ends_step : (n : ℕ) (z : Cert) → after_rounds p n ≡ Ok z → (r : Result Cert Refusal) → round p (known_of z) ≡ r → ((u : Cert) → round p (known_of z) ≡ Ok u → room u < room z → Judged p) → Judged p
  ends_step n z h (Err e) is deeper = inr (e, (suc n, ap (next_round p) h ∙ is))
  ends_step n z h (Ok u) is deeper =
      let r = rounds_rise n z u h is in
      elim (rounds_fall z u (rounds_fine n z h) (rounds_fine (suc n) u (ap (next_round p) h ∙ is)) r.effects r.shared) [
        | inl lt ↦ deeper u is lt
        | inr same ↦ inl (u, record { n = n; before = z; reached = h; again = is; effects = same.0; shared = same.1 })
      ]

  ends_by : (fuel n : ℕ) (z : Cert) → after_rounds p n ≡ Ok z → room z ≤ fuel → Judged p
  ends_by zero n z h less = ends_step n z h (round p (known_of z)) refl (λ u is lt. absurd (omega (arith, lt, less)))
  ends_by (suc fuel) n z h less = ends_step n z h (round p (known_of z)) refl (λ u is lt. ends_by fuel (suc n) u (ap (next_round p) h ∙ is) (omega (arith, lt, less)))

  -- every program is judged: the rounds settle, or refuse
  pub judged : Judged p
  judged =
      let z : Cert = record { effects = bottoms p; shared = bottom; heads = [] } in
      ends_by (room z) 0 z refl (omega arith)
