-- What a round makes of the definitions, one after the other.
use Rattle.std.proofs.Common.{◌≡◌, ℕ, zero, suc, ◌+◌, ◌-◌, ◌<◌, ◌≤◌, Bool, true, false, if◌then◌else◌, List, [], ◌∷◌, ◌++◌, length, drop, take, map, Option, Some, None, Result, Ok, Err, refl, sym, ap, ◌∙◌, subst, arith}
use Rattle.std.specs.Prelude.{ℤ, slice_index_or, slice_set, nat_eq}
use Rattle.std.proofs.lemmas.Int.{ints}
use Rattle.std.proofs.lemmas.List.{drop_more, take_more_set}
use Rattle.std.proofs.Math.Seq.{drop-length, take-length}
use Rattle.forth_program.specs.declared.program.Token.{Token}
use Rattle.forth_program.specs.Parts.{token_node}
use Rattle.forth_program.specs.Tree.{Nodes, Empty}
use Rattle.forth_program.specs.Program.{SourceProgram, body_of, uses_depth}
use Rattle.depth_certifier.specs.declared.effect.Effect.{Effect}
use Rattle.depth_certifier.specs.declared.effect.CertCause.{CertCause}
use Rattle.depth_certifier.specs.declared.walker.Walker.{Walker}
use Rattle.depth_certifier.specs.Effects.{Known, Return}
use Rattle.depth_certifier.specs.Certificate.{loops, Limits, definition_limits, ExitKeeps, Keeps, BodiesFit}
use Rattle.depth_certifier.specs.Walk.{Walk, walk, start, ends, body_walk, made}
use Rattle.depth_certifier.specs.Rounds.{token_effect, joined_effect, shared_of, Refusal, Bodies, on_body, with_effect, bodies_round}
use Rattle.depth_certifier.specs.Walks.{walk_of, HeadsKeep}
use Rattle.depth_certifier.specs.Notes.{walk_in}
use Rattle.depth_certifier.specs.Counting.{all_loops}
use Rattle.depth_certifier.specs.Settling.{widest, AllKeep, MadeOf}
use Rattle.depth_certifier.proofs.Tests.{then_ok}
use Rattle.depth_certifier.proofs.WalkLimits.{Intervals, Kept, ends_kept, walk_kept}
use Rattle.depth_certifier.proofs.RoundBounds.{bodies_follow, no_heads_fine}

-- ---- the shared effect, from the last token on

pub one_joined : (known : Known) (tokens : List Token) (done : ℕ) (d : Token) (e acc both : Effect) → done < length tokens → e ≡ token_effect known (token_node (slice_index_or tokens (length tokens - 1 - done) d)) →
    both ≡ joined_effect e acc → acc ≡ shared_of known (map token_node (drop (length tokens - done) tokens)) → both ≡ shared_of known (map token_node (drop (length tokens - (done + 1)) tokens))
one_joined known tokens done d e acc both less is_token is_joined before =
    let at = length tokens - 1 - done in
    let here : length tokens - (done + 1) ≡ at = omega (arith, less) in
    let next : length tokens - done ≡ at + 1 = omega (arith, less) in
    let more : drop (length tokens - (done + 1)) tokens ≡ slice_index_or tokens at d ∷ drop (length tokens - done) tokens =
    ap (λ k. drop k tokens) here ∙ drop_more tokens at d (omega (arith, less)) ∙ ap (λ k. slice_index_or tokens at d ∷ drop k tokens) (sym next) in
    is_joined ∙ ap (λ x. joined_effect x acc) is_token ∙ ap (joined_effect (token_effect known (token_node (slice_index_or tokens at d)))) before ∙ ap (λ ts. shared_of known (map token_node ts)) (sym more)

-- ---- what a walk over a body keeps

module _ (lim : Limits) where
  start_kept : (known : Known) (heads : List (ℤ × ℤ)) → HeadsKeep heads → Kept lim (start lim known None heads)
  start_kept known heads fine = record {
    keeps = record { need = omega arith; peak = omega arith; back = omega arith; exit = tt };
    place = (omega (arith, ints), omega (arith, ints), omega (arith, ints));
    leaves = tt;
    heads = fine;
  }

  pub body_kept : (known : Known) → Intervals known → (body : Nodes) (heads : List (ℤ × ℤ)) (w : Walk) → HeadsKeep heads → body_walk lim known None body heads ≡ Ok w → Kept lim w
  body_kept known intervals body heads w fine h =
      let s = start lim known None heads in
      let r = then_ok (walk lim known None None Return body s) (ends lim) w h in
      ends_kept lim r.0 w (walk_kept lim known intervals body None Return s r.0 (start_kept known heads fine) r.1) r.2

abbrev wide : Limits
wide = record { need = 33; peak = 33; back = 33; top = 33 }

exit_more : (top : ℕ) (x : Option (ℤ × ℤ)) → top ≤ 33 → ExitKeeps top x → ExitKeeps 33 x
exit_more top None t h = tt
exit_more top (Some x) t h = (h.0, h.1, omega (arith, ints, h.2, t))

pub keep_widest : (p : SourceProgram) (d : ℕ) (e : Effect) → Keeps (definition_limits p d) e → Keeps widest e
keep_widest p d e k = of (nat_eq d p.main_body) (uses_depth p) k
  where
    of : (main depth : Bool) → Keeps (if main then record { need = 0; peak = if depth then 32 else 33; back = 31; top = 31 } else widest) e → Keeps widest e
    of true true k = record { need = omega (arith, k.need); peak = omega (arith, k.peak); back = k.back; exit = exit_more 31 e.exit (omega arith) k.exit }
    of true false k = record { need = omega (arith, k.need); peak = omega (arith, k.peak); back = k.back; exit = exit_more 31 e.exit (omega arith) k.exit }
    of false depth k = k

keep_wide : (e : Effect) → Keeps widest e → Keeps wide e
keep_wide e k = record { need = k.need; peak = k.peak; back = omega (arith, k.back); exit = k.exit }

pub all_keep : (p : SourceProgram) (known : Known) (hs : List (ℤ × ℤ)) (bodies : List Nodes) (es : List Effect) (d k : ℕ) → BodiesFit p known hs bodies es d k → AllKeep es
all_keep p known hs [] [] d k v n = record { need = omega arith; peak = omega arith; back = omega arith; exit = (omega (arith, ints), omega (arith, ints), omega (arith, ints)) }
all_keep p known hs [] (e ∷ es) d k v n = absurd v
all_keep p known hs (body ∷ bodies) [] d k v n = absurd v
all_keep p known hs (body ∷ bodies) (e ∷ es) d k v zero = keep_widest p d e v.1
all_keep p known hs (body ∷ bodies) (e ∷ es) d k v (suc n) = all_keep p known hs bodies es (suc d) (k + loops body) v.2 n

-- ---- one definition

module _ (p : SourceProgram) (known : Known) (intervals : Intervals known) where
  -- what the walk of the code has made keeps the limits
  pub walked_keeps : (lim : Limits) (d : ℕ) (body : Nodes) (heads notes : List (ℤ × ℤ)) (w : Walker) → lim ≡ definition_limits p d → HeadsKeep heads →
      body_walk lim known None body heads ≡ Ok (walk_in true notes w) → Keeps wide (made (walk_of w))
  walked_keeps lim d body heads notes w is_lim fine is =
      let k = body_kept lim known intervals body heads (walk_in true notes w) fine is in
      keep_wide (made (walk_of w)) (keep_widest p d (made (walk_of w)) (subst (λ l. Keeps l (made (walk_of w))) is_lim k.keeps))

-- ---- the definitions so far

abbrev pub prepend : List Effect → Result Bodies Refusal → Result Bodies Refusal
prepend [] r = r
prepend (e ∷ es) r = with_effect e (prepend es r)

prepend_more : (es : List Effect) (e : Effect) (r : Result Bodies Refusal) → prepend (es ++ e ∷ []) r ≡ prepend es (with_effect e r)
prepend_more [] e r = refl
prepend_more (x ∷ es) e r = ap (with_effect x) (prepend_more es e r)

prepend_ok : (es : List Effect) (heads : List (ℤ × ℤ)) → prepend es (Ok (record { effects = []; heads = heads })) ≡ Ok (record { effects = es; heads = heads })
prepend_ok [] heads = refl
prepend_ok (e ∷ es) heads = ap (with_effect e) (prepend_ok es heads)

prepend_err : (es : List Effect) (r : Refusal) → prepend es (Err r) ≡ Err r
prepend_err [] r = refl
prepend_err (e ∷ es) r = ap (with_effect e) (prepend_err es r)

module _ (p : SourceProgram) (known : Known) where
  abbrev pub rest : List Nodes → ℕ → List (ℤ × ℤ) → Result Bodies Refusal
  rest bodies d heads = bodies_round (definition_limits p) known bodies d heads

  -- the round over the definitions from d on, behind what is made, is the whole round
  pub record Made (d count : ℕ) (next : List Effect) (notes : List (ℤ × ℤ)) : Type 0 where
    pub made : prepend (take d next) (rest (drop d p.bodies) d (take count notes)) ≡ rest p.bodies 0 []
    pub room : count + all_loops (drop d p.bodies) ≡ all_loops p.bodies
    pub heads : HeadsKeep (take count notes)

  pub none_made : (next : List Effect) (notes : List (ℤ × ℤ)) → Made 0 0 next notes
  none_made next notes = record { made = refl; room = (let all : 0 + all_loops p.bodies ≡ all_loops p.bodies = omega arith in all); heads = no_heads_fine p }

  here : (d count : ℕ) (next : List Effect) (notes : List (ℤ × ℤ)) → d < length p.bodies → Made d count next notes →
      prepend (take d next) (on_body d (body_walk (definition_limits p d) known None (body_of p d) (take count notes)) (λ w. with_effect (made w) (rest (drop (d + 1) p.bodies) (suc d) w.heads))) ≡ rest p.bodies 0 []
  here d count next notes less m = ap (λ bs. prepend (take d next) (rest bs d (take count notes))) (sym (drop_more p.bodies d Empty less)) ∙ m.made

  pub has_room : (d count : ℕ) (next : List Effect) (notes : List (ℤ × ℤ)) → d < length p.bodies → Made d count next notes → count + loops (body_of p d) + all_loops (drop (d + 1) p.bodies) ≡ all_loops p.bodies
  has_room d count next notes less m = let more = ap all_loops (drop_more p.bodies d Empty less) in omega (arith, more, m.room)

  pub one_refused : (d count : ℕ) (next : List Effect) (notes noted : List (ℤ × ℤ)) (cause : CertCause) → d < length p.bodies →
      MadeOf (Err cause) noted (body_walk (definition_limits p d) known None (body_of p d) (take count notes)) → Made d count next notes →
      rest p.bodies 0 [] ≡ Err (record { definition = d; reason = cause })
  one_refused d count next notes noted cause less is m =
      sym (here d count next notes less m) ∙ ap (λ r. prepend (take d next) (on_body d r (λ w. with_effect (made w) (rest (drop (d + 1) p.bodies) (suc d) w.heads)))) is ∙ prepend_err (take d next) (record { definition = d; reason = cause })

  pub one_made : Intervals known → (d count : ℕ) (next : List Effect) (notes noted : List (ℤ × ℤ)) (e : Effect) (more : ℕ) → d < length p.bodies → d < length next → more ≡ count + loops (body_of p d) →
      MadeOf (Ok (e, more)) noted (body_walk (definition_limits p d) known None (body_of p d) (take count notes)) → Made d count next notes → Made (d + 1) more (slice_set next d e) noted
  one_made intervals d count next notes noted e more less few counted is m =
      let w = is.0 in
      let step : d + 1 ≡ suc d = omega arith in
      let kept = body_kept (definition_limits p d) known intervals (body_of p d) (take count notes) w m.heads is.1 in
      let effects : take (d + 1) (slice_set next d e) ≡ take d next ++ made w ∷ [] = take_more_set next d e few ∙ ap (λ x. take d next ++ x ∷ []) is.2 in
      let later = rest (drop (d + 1) p.bodies) (suc d) w.heads in
      record {
        made =
            ap (λ es. prepend es (rest (drop (d + 1) p.bodies) (d + 1) (take more noted))) effects
            ∙ ap (λ hs. prepend (take d next ++ made w ∷ []) (rest (drop (d + 1) p.bodies) (d + 1) hs)) (sym is.3)
            ∙ ap (λ k. prepend (take d next ++ made w ∷ []) (rest (drop (d + 1) p.bodies) k w.heads)) step
            ∙ prepend_more (take d next) (made w) later
            ∙ ap (λ r. prepend (take d next) (on_body d r (λ w. with_effect (made w) (rest (drop (d + 1) p.bodies) (suc d) w.heads)))) (sym is.1)
            ∙ here d count next notes less m;
        room = let r = has_room d count next notes less m in omega (arith, r, counted);
        heads = subst HeadsKeep is.3 kept.heads;
      }

  pub all_made : (d count : ℕ) (next : List Effect) (notes : List (ℤ × ℤ)) → d ≡ length p.bodies → length next ≡ length p.bodies → length notes ≡ all_loops p.bodies → Made d count next notes →
      rest p.bodies 0 [] ≡ Ok (record { effects = next; heads = notes })
  all_made d count next notes all as_many as_many_loops m =
      let left : drop d p.bodies ≡ [] = ap (λ k. drop k p.bodies) all ∙ drop-length p.bodies in
      let loops_left = ap all_loops left in
      let room = m.room in
      let counted : count ≡ length notes = omega (arith, loops_left, room, as_many_loops) in
      sym m.made
      ∙ ap (λ bs. prepend (take d next) (rest bs d (take count notes))) left
      ∙ prepend_ok (take d next) (take count notes)
      ∙ ap (λ es. Ok (record { effects = es; heads = take count notes })) (ap (λ k. take k next) (all ∙ sym as_many) ∙ take-length next)
      ∙ ap (λ hs. Ok (record { effects = next; heads = hs })) (ap (λ k. take k notes) counted ∙ take-length notes)

  -- what a round has made keeps the limits
  pub round_keeps : Intervals known → (next : List Effect) (notes : List (ℤ × ℤ)) → rest p.bodies 0 [] ≡ Ok (record { effects = next; heads = notes }) → AllKeep next
  round_keeps intervals next notes is =
      let f = bodies_follow p known intervals p.bodies 0 [] (record { effects = next; heads = notes }) (no_heads_fine p) is in
      all_keep p known notes p.bodies next 0 0 f.valid
