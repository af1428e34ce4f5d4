-- The bodies of a check, one after the other.
use Rattle.std.proofs.Common.{◌≡◌, ℕ, zero, suc, ◌+◌, ◌<◌, Bool, true, false, ◌&&◌, List, [], ◌∷◌, length, drop, replicate, Option, Some, None, Ok, Err, refl, sym, ap, ◌∙◌, subst, arith}
use Rattle.std.specs.Prelude.{ℤ, slice_index_or, map}
use Rattle.std.specs.List.{All, list_all}
use Rattle.std.proofs.lemmas.Bool.{and_parts, and_from}
use Rattle.std.proofs.lemmas.List.{drop_more}
use Rattle.forth_program.specs.declared.program.Token.{Token}
use Rattle.forth_program.specs.declared.program.Token.TheVariants as token
use Rattle.forth_program.specs.Parts.{token_node}
use Rattle.forth_program.specs.Form.{may_be_token}
use Rattle.forth_program.specs.Tree.{Nodes, Empty}
use Rattle.forth_program.specs.Program.{SourceProgram, body_of}
use Rattle.depth_certifier.specs.declared.facts.Facts.{Facts}
use Rattle.depth_certifier.specs.declared.effect.Effect.{Effect}
use Rattle.depth_certifier.specs.declared.effect.CertCause.{CertCause}
use Rattle.depth_certifier.specs.Effects.{Known, Return, idle}
use Rattle.depth_certifier.specs.Certificate.{no_interval, Limits, definition_limits, ExitKeeps, SharedInterval, Cert, known_of}
use Rattle.depth_certifier.specs.Views.{limits_of as limits_of_bounds}
use Rattle.depth_certifier.specs.Walk.{Walk, Walked, then_do, ends, body_walk, made}
use Rattle.depth_certifier.specs.Walks.{walk_of, known_by, given_by, items_step}
use Rattle.depth_certifier.specs.Notes.{heads_of, walk_in}
use Rattle.depth_certifier.specs.declared.walker.Walker.{Walker}
use Rattle.depth_certifier.specs.Rounds.{token_effect, ProperToken}
use Rattle.depth_certifier.specs.Checking.{effect_in, effect_keeps, interval_keeps, is_ordered, walked_and, bodies_check, is_valid}
use Rattle.depth_certifier.specs.Bodies.{walk_start, body_and, BodyHolds}
use Rattle.depth_certifier.proofs.CertificateCheck.{keeps_true, true_ordered, walked_ok}

and_false : (b : Bool) → (b && false) ≡ false
and_false true = refl
and_false false = refl

pub passes_limits : (keeps : Bool) (r : Walked) (e : Effect) → keeps ≡ false → BodyHolds None keeps r e
passes_limits keeps r e h others = ap (λ b. b && walked_and r (λ w. effect_in (made w) e && others w.heads)) h

pub walk_refuses : (keeps : Bool) (r : Walked) (e : Effect) (cause : CertCause) → r ≡ Err cause → BodyHolds None keeps r e
walk_refuses keeps r e cause h others = ap (λ x. keeps && walked_and x (λ w. effect_in (made w) e && others w.heads)) h ∙ and_false keeps

pub made_more : (keeps : Bool) (r : Walked) (e : Effect) (w : Walk) → r ≡ Ok w → effect_in (made w) e ≡ false → BodyHolds None keeps r e
made_more keeps r e w h out others =
    ap (λ x. keeps && walked_and x (λ w. effect_in (made w) e && others w.heads)) h ∙ ap (λ b. keeps && (b && others w.heads)) out ∙ and_false keeps

pub body_passes : (keeps : Bool) (r : Walked) (e : Effect) (w : Walk) (count : ℕ) → keeps ≡ true → r ≡ Ok w → effect_in (made w) e ≡ true → w.heads ≡ replicate count no_interval → BodyHolds (Some count) keeps r e
body_passes keeps r e w count kept h within heads others =
    ap (λ b. b && walked_and r (λ w. effect_in (made w) e && others w.heads)) kept ∙ ap (λ x. walked_and x (λ w. effect_in (made w) e && others w.heads)) h ∙ ap (λ b. b && others w.heads) within ∙ ap others heads

exit_interval : (top : ℕ) (x : Option (ℤ × ℤ)) → ExitKeeps top x → SharedInterval x
exit_interval top None h = tt
exit_interval top (Some x) h = h.1

walked_false : (r : Walked) (test : Walk → Bool) → ((w : Walk) → test w ≡ false) → walked_and r test ≡ false
walked_false (Ok w) test h = h w
walked_false (Err cause) test h = refl

module _ (p : SourceProgram) (known : Known) (heads : List (ℤ × ℤ)) where
  -- not as many effects as bodies
  pub uneven : (bodies : List Nodes) (es : List Effect) (d : ℕ) (noted : List (ℤ × ℤ)) → (length es ≡ length bodies → ⊥) → bodies_check p known heads bodies es d noted ≡ false
  uneven [] [] d noted other = absurd (other refl)
  uneven [] (e ∷ es) d noted other = refl
  uneven (body ∷ bodies) [] d noted other = refl
  uneven (body ∷ bodies) (e ∷ es) d noted other =
      ap (λ b. effect_keeps (definition_limits p d) e && b) (walked_false (body_walk (definition_limits p d) known (Some heads) body noted) (λ w. effect_in (made w) e && bodies_check p known heads bodies es (suc d) w.heads)
      (λ w. ap (λ b. effect_in (made w) e && b) (uneven bodies es (suc d) w.heads (λ same. other (ap suc same))) ∙ and_false (effect_in (made w) e))) ∙ and_false (effect_keeps (definition_limits p d) e)

  -- the check of the rest gives the whole
  abbrev pub Left : List Nodes → List Effect → Bool → ℕ → ℕ → Type 0
  Left bodies es whole d count = bodies_check p known heads (drop d bodies) (drop d es) d (replicate count no_interval) ≡ whole

  one_left : (bodies : List Nodes) (es : List Effect) (whole : Bool) (d count : ℕ) → d < length bodies → d < length es → Left bodies es whole d count →
      body_and (effect_keeps (definition_limits p d) (slice_index_or es d idle)) (body_walk (definition_limits p d) known (Some heads) (slice_index_or bodies d Empty) (replicate count no_interval)) (slice_index_or es d idle)
      (λ noted. bodies_check p known heads (drop (d + 1) bodies) (drop (d + 1) es) (suc d) noted) ≡ whole
  one_left bodies es whole d count less few before =
      sym (ap (λ bs. bodies_check p known heads bs (drop d es) d (replicate count no_interval)) (drop_more bodies d Empty less)
      ∙ ap (λ xs. bodies_check p known heads (slice_index_or bodies d Empty ∷ drop (d + 1) bodies) xs d (replicate count no_interval)) (drop_more es d idle few)) ∙ before

  body_left : (bodies : List Nodes) (es : List Effect) (whole : Bool) (d count more : ℕ) → d < length bodies → d < length es →
      BodyHolds (Some more) (effect_keeps (definition_limits p d) (slice_index_or es d idle)) (body_walk (definition_limits p d) known (Some heads) (slice_index_or bodies d Empty) (replicate count no_interval)) (slice_index_or es d idle) →
      Left bodies es whole d count → Left bodies es whole (d + 1) more
  body_left bodies es whole d count more less few holds before =
      let next : d + 1 ≡ suc d = omega arith in
      ap (λ k. bodies_check p known heads (drop (d + 1) bodies) (drop (d + 1) es) k (replicate more no_interval)) next
      ∙ sym (holds (λ noted. bodies_check p known heads (drop (d + 1) bodies) (drop (d + 1) es) (suc d) noted)) ∙ one_left bodies es whole d count less few before

  body_fails : (bodies : List Nodes) (es : List Effect) (whole : Bool) (d count : ℕ) → d < length bodies → d < length es →
      BodyHolds None (effect_keeps (definition_limits p d) (slice_index_or es d idle)) (body_walk (definition_limits p d) known (Some heads) (slice_index_or bodies d Empty) (replicate count no_interval)) (slice_index_or es d idle) →
      Left bodies es whole d count → false ≡ whole
  body_fails bodies es whole d count less few holds before =
      sym (holds (λ noted. bodies_check p known heads (drop (d + 1) bodies) (drop (d + 1) es) (suc d) noted)) ∙ one_left bodies es whole d count less few before

  -- where the check passes, all exits are intervals
  ordered_bodies : (bodies : List Nodes) (es : List Effect) (d : ℕ) (noted : List (ℤ × ℤ)) → bodies_check p known heads bodies es d noted ≡ true → list_all (λ e. is_ordered e.exit) es ≡ true
  ordered_bodies [] [] d noted h = refl
  ordered_bodies [] (e ∷ es) d noted h = cc (h)
  ordered_bodies (body ∷ bodies) [] d noted h = refl
  ordered_bodies (body ∷ bodies) (e ∷ es) d noted h =
      let lim = definition_limits p d in
      let a = and_parts (effect_keeps lim e) (walked_and (body_walk lim known (Some heads) body noted) (λ w. effect_in (made w) e && bodies_check p known heads bodies es (suc d) w.heads)) h in
      let b = walked_ok (body_walk lim known (Some heads) body noted) (λ w. effect_in (made w) e && bodies_check p known heads bodies es (suc d) w.heads) a.1 in
      let c = and_parts (effect_in (made b.0) e) (bodies_check p known heads bodies es (suc d) b.0.heads) b.2 in
      and_from (is_ordered e.exit) (list_all (λ e. is_ordered e.exit) es) (true_ordered e.exit (exit_interval lim.top e.exit (keeps_true lim e a.0).exit)) (ordered_bodies bodies es (suc d) b.0.heads c.1)

-- ---- of the code's program and certificate

module _ (p : SourceProgram) (z : Cert) where
  abbrev pub Whole : ℕ → ℕ → Type 0
  Whole d count = Left p (known_of z) z.heads p.bodies z.effects (bodies_check p (known_of z) z.heads p.bodies z.effects 0 []) d count

  -- as the code has it
  as_is : (n : Option ℕ) (d count : ℕ) (lim : Limits) (ds : List Effect) (shared : Effect) (hs : List (ℤ × ℤ)) (body : Nodes) (e : Effect) →
      lim ≡ definition_limits p d → ds ≡ z.effects → shared ≡ z.shared → hs ≡ z.heads → body ≡ body_of p d → e ≡ slice_index_or ds d idle →
      BodyHolds n (effect_keeps lim e) (body_walk lim (record { definitions = ds; shared = shared }) (Some hs) body (replicate count no_interval)) e →
      BodyHolds n (effect_keeps (definition_limits p d) (slice_index_or z.effects d idle)) (body_walk (definition_limits p d) (known_of z) (Some z.heads) (body_of p d) (replicate count no_interval)) (slice_index_or z.effects d idle)
  as_is n d count lim ds shared hs body e is_lim is_ds is_shared is_hs is_body is_e holds =
      subst (λ x. BodyHolds n (effect_keeps x (slice_index_or z.effects d idle)) (body_walk x (known_of z) (Some z.heads) (body_of p d) (replicate count no_interval)) (slice_index_or z.effects d idle)) is_lim
      (subst
      (λ x.
      BodyHolds n (effect_keeps lim (slice_index_or z.effects d idle))
      (body_walk lim (record { definitions = x; shared = z.shared }) (Some z.heads) (body_of p d) (replicate count no_interval))
      (slice_index_or z.effects d idle)) is_ds
      (subst
      (λ x.
      BodyHolds n (effect_keeps lim (slice_index_or z.effects d idle))
      (body_walk lim (record { definitions = ds; shared = x }) (Some z.heads) (body_of p d) (replicate count no_interval))
      (slice_index_or z.effects d idle)) is_shared
      (subst (λ x. BodyHolds n (effect_keeps lim (slice_index_or z.effects d idle)) (body_walk lim (record { definitions = ds; shared = shared }) (Some x) (body_of p d) (replicate count no_interval)) (slice_index_or z.effects d idle)) is_hs
      (subst (λ x. BodyHolds n (effect_keeps lim (slice_index_or z.effects d idle)) (body_walk lim (record { definitions = ds; shared = shared }) (Some hs) x (replicate count no_interval)) (slice_index_or z.effects d idle)) is_body
      (subst (λ x. BodyHolds n (effect_keeps lim x) (body_walk lim (record { definitions = ds; shared = shared }) (Some hs) body (replicate count no_interval)) x) (is_e ∙ ap (λ xs. slice_index_or xs d idle) is_ds) holds)))))

  module _ (d count : ℕ) (lim : Limits) (ds : List Effect) (shared : Effect) (hs : List (ℤ × ℤ)) (body : Nodes) (e : Effect)
      (is_lim : lim ≡ definition_limits p d) (is_ds : ds ≡ z.effects) (is_shared : shared ≡ z.shared) (is_hs : hs ≡ z.heads)
      (is_body : body ≡ body_of p d) (is_e : e ≡ slice_index_or ds d idle) (less : d < length p.bodies) (few : d < length ds) (before : Whole d count) where
    pub one_holds : (more : ℕ) → BodyHolds (Some more) (effect_keeps lim e) (body_walk lim (record { definitions = ds; shared = shared }) (Some hs) body (replicate count no_interval)) e → Whole (d + 1) more
    one_holds more holds =
        body_left p (known_of z) z.heads p.bodies z.effects (bodies_check p (known_of z) z.heads p.bodies z.effects 0 []) d count more less (subst (λ xs. d < length xs) is_ds few)
        (as_is (Some more) d count lim ds shared hs body e is_lim is_ds is_shared is_hs is_body is_e holds) before

    pub one_fails : BodyHolds None (effect_keeps lim e) (body_walk lim (record { definitions = ds; shared = shared }) (Some hs) body (replicate count no_interval)) e → false ≡ bodies_check p (known_of z) z.heads p.bodies z.effects 0 []
    one_fails holds =
        body_fails p (known_of z) z.heads p.bodies z.effects (bodies_check p (known_of z) z.heads p.bodies z.effects 0 []) d count less (subst (λ xs. d < length xs) is_ds few)
        (as_is None d count lim ds shared hs body e is_lim is_ds is_shared is_hs is_body is_e holds) before

  pub other_count : (ds : List Effect) → ds ≡ z.effects → (length ds ≡ length p.bodies → ⊥) → false ≡ bodies_check p (known_of z) z.heads p.bodies z.effects 0 []
  other_count ds is_ds other = sym (uneven p (known_of z) z.heads p.bodies z.effects 0 [] (λ same. other (ap length is_ds ∙ same)))

  contra : (b c : Bool) → (b ≡ true → c ≡ true) → c ≡ false → false ≡ b
  contra false c h e = refl
  contra true c h e = let t = h refl in cc (t, e)

  pub unordered : list_all (λ e. is_ordered e.exit) z.effects ≡ false → false ≡ is_valid p z
  unordered h =
      contra (is_valid p z) (list_all (λ e. is_ordered e.exit) z.effects) (λ valid. ordered_bodies p (known_of z) z.heads p.bodies z.effects 0 []
      (and_parts (bodies_check p (known_of z) z.heads p.bodies z.effects 0 [])
      (list_all (λ node. effect_in (token_effect (known_of z) node) z.shared) p.tokens
      && (is_ordered z.shared.exit && list_all (interval_keeps 33) z.heads)) valid).0) h

-- ---- a body

module _ (facts : Facts) (effects : List Effect) (heads notes : List (ℤ × ℤ)) (body : Nodes) (count : ℕ) where
  starts : (w : Walker) → walk_of w ≡ walk_start count → w.count ≡ count → walk_in facts.finding notes w ≡ record (walk_start count) { heads = heads_of facts.finding notes count }
  starts w begins same = ap {A = Walk} (λ x. record x { heads = heads_of facts.finding notes w.count }) begins ∙ ap (λ n. record (walk_start count) { heads = heads_of facts.finding notes n }) same

  pub walked : (w : Walker) (m : Walk) (r : Walked) → walk_of w ≡ walk_start count → w.count ≡ count → items_step facts effects heads None Return body (walk_in facts.finding notes w) ≡ Ok m → ends (limits_of_bounds facts.bounds) m ≡ r →
      body_walk (limits_of_bounds facts.bounds) (known_by facts effects) (given_by facts.finding heads) body (heads_of facts.finding notes count) ≡ r
  walked w m r begins same step last =
      ap (λ r. then_do r (ends (limits_of_bounds facts.bounds))) (ap (items_step facts effects heads None Return body) (sym (starts w begins same)) ∙ step) ∙ last

  pub refused : (w : Walker) (reason : CertCause) → walk_of w ≡ walk_start count → w.count ≡ count → items_step facts effects heads None Return body (walk_in facts.finding notes w) ≡ Err reason →
      body_walk (limits_of_bounds facts.bounds) (known_by facts effects) (given_by facts.finding heads) body (heads_of facts.finding notes count) ≡ Err reason
  refused w reason begins same step =
      ap (λ r. then_do r (ends (limits_of_bounds facts.bounds))) (ap (items_step facts effects heads None Return body) (sym (starts w begins same)) ∙ step)

-- ---- tokens

proper_token : (token : Token) → may_be_token (token_node token) ≡ true → ProperToken (token_node token)
proper_token (token.Def id) h = tt
proper_token (token.Table word) h = h
proper_token (token.Value value) h = tt
proper_token (token.Child id address) h = tt

pub proper_tokens : (tokens : List Token) → list_all may_be_token (map token_node tokens) ≡ true → All ProperToken (map token_node tokens)
proper_tokens [] h k d less = absurd (omega arith)
proper_tokens (token ∷ tokens) h zero d less = proper_token token (and_parts (may_be_token (token_node token)) (list_all may_be_token (map token_node tokens)) h).0
proper_tokens (token ∷ tokens) h (suc k) d less = proper_tokens tokens (and_parts (may_be_token (token_node token)) (list_all may_be_token (map token_node tokens)) h).1 k d (omega (arith, less))
