-- At an unreachable place a walk only notes heads.
use Rattle.std.proofs.Common.{◌≡◌, ℕ, ◌+◌, ◌≤◌, List, [], ◌∷◌, ◌++◌, length, Option, Some, None, Ok, Bool, true, false, refl, ap, ◌∙◌, subst, arith, inl, length-append}
use Rattle.std.specs.Prelude.{ℤ, negsuc}
use Rattle.word_table.specs.declared.word.Word.{Word}
use Rattle.word_table.specs.declared.word.Word.TheVariants as table
use Rattle.forth_program.specs.Tree.{Node, Nodes, Arms, Literal, Plain, Call, Child, Text, If, Until, While, Again, Do, QDo, Case, Leave, Exit, Empty, Then, NoArm, Arm}
use Rattle.std.proofs.lemmas.Bool.{lt-ltb}
use Rattle.depth_certifier.specs.declared.effect.CertCause.TheVariants as cause
use Rattle.depth_certifier.specs.Place.{Shape, Unreachable}
use Rattle.depth_certifier.specs.Effects.{table_effect, Known, Next, Flag, More, next_of, branch_next, keep, turn_word, of_effect}
use Rattle.depth_certifier.specs.Certificate.{loops_in, loops, loops_in_arms, no_interval, dropped, doubles, Limits}
use Rattle.depth_certifier.specs.Walk.{Walk, Walked, then_do, checked, noting, takes, decides, zero_way, joins, returns_to, shape_at, enters, word_walk, item_walk, walk, arms_walk}
use Rattle.depth_certifier.proofs.Tests.{HeadsIn, noted}

-- given heads are those of the certificate
abbrev pub GivenAre : Option (List (ℤ × ℤ)) → List (ℤ × ℤ) → Type 0
GivenAre None hs = Unit {0}
GivenAre (Some heads) hs = heads ≡ hs

-- there are so many of them at least
abbrev pub Enough : Option (List (ℤ × ℤ)) → ℕ → Type 0
Enough None n = Unit {0}
Enough (Some heads) n = n ≤ length heads

pub enough_less : (given : Option (List (ℤ × ℤ))) (n m : ℕ) → m ≤ n → Enough given n → Enough given m
enough_less None n m h e = tt
enough_less (Some heads) n m h e = omega (arith, h, e)

abbrev pub unreached : Walk → Walk
unreached w = record w { place = Unreachable }

module _ (hs : List (ℤ × ℤ)) where
  pub record Passes (r : Walked) (n : ℕ) (w : Walk) : Type 0 where
    pub heads : List (ℤ × ℤ)
    pub is : r ≡ Ok (record w { place = Unreachable; heads = heads })
    pub count : length heads ≡ length w.heads + n
    pub within : HeadsIn w.heads hs → HeadsIn heads hs

  passes_on : (w : Walk) (n m : ℕ) (r : Walked) (go : Walk → Walked) (f : Passes r n w) → Passes (go (record w { place = Unreachable; heads = f.heads })) m (record w { heads = f.heads }) → Passes (then_do r go) (n + m) w
  passes_on w n m r go f g = record { heads = g.heads; is = ap (λ x. then_do x go) f.is ∙ g.is; count = omega (arith, f.count, g.count); within = λ h. g.within (f.within h) }

  passes_as : (w : Walk) (n m : ℕ) (r : Walked) → n ≡ m → Passes r n w → Passes r m w
  passes_as w n m r e f = subst (λ k. Passes r k w) e f

  stays : (w : Walk) → Passes (Ok (unreached w)) 0 w
  stays w = record { heads = w.heads; is = refl; count = omega arith; within = λ h. h }

  module _ (limits : Limits) (known : Known) (given : Option (List (ℤ × ℤ))) where
    pub enters_none : (w : Walk) → Enough given (length w.heads + 1) → Passes (enters given (unreached w)) 1 w
    enters_none w = of given
      where
        of : (given : Option (List (ℤ × ℤ))) → Enough given (length w.heads + 1) → Passes (enters given (unreached w)) 1 w
        of None e = record { heads = w.heads ++ no_interval ∷ []; is = refl; count = length-append w.heads (no_interval ∷ []); within = λ h. noted w.heads hs no_interval h (inl refl) }
        of (Some heads) e =
            record {
              heads = w.heads ++ no_interval ∷ [];
              is = ap (λ t. checked t cause.Data (Ok (noting no_interval Unreachable w))) (lt-ltb (length w.heads) (length heads) (omega (arith, e)));
              count = length-append w.heads (no_interval ∷ []);
              within = λ h. noted w.heads hs no_interval h (inl refl);
            }

    word_none : (b : Bool) (word : Word) (w : Walk) → Passes (word_walk limits known given b word (unreached w)) 0 w
    word_none true word w = stays w
    word_none false word w = stays w

    less : (n m : ℕ) → m ≤ n → Enough given n → Enough given m
    less n m h e = enough_less given n m h e

    mutual
      pub item_none : (node : Node) (top : Option Shape) (next : Next) (w : Walk) → Enough given (length w.heads + loops_in node) → Passes (item_walk limits known given top next node (unreached w)) (loops_in node) w
      item_none (Literal v) top next w e = stays w
      item_none (Plain word) top next w e = word_none (doubles next word) word w
      item_none (Call d) top next w e = stays w
      item_none (Child d a) top next w e = stays w
      item_none (Text kind a n) top next w e = stays w
      item_none (If first second) top next w e =
          let f = walk_none first top (branch_next next) w (less (length w.heads + (loops first + loops second)) (length w.heads + loops first) (omega arith) e) in
          let g = walk_none second top (branch_next next) (record w { heads = f.heads }) (less (length w.heads + (loops first + loops second)) (length f.heads + loops second) (let c = f.count in omega (arith, c)) e) in
          passes_on w (loops first) (loops second) (walk limits known given top (branch_next next) first (unreached w))
          (λ i. then_do (walk limits known given top (branch_next next) second (record i { place = Unreachable })) (λ j. joins i.place j)) f
          (record { heads = g.heads; is = ap (λ r. then_do r (λ j. joins Unreachable j)) g.is; count = g.count; within = g.within })
      item_none (Until body) top next w e =
          let h = enters_none w (less (length w.heads + (1 + loops body)) (length w.heads + 1) (omega arith) e) in
          let f = walk_none body top More (record w { heads = h.heads }) (less (length w.heads + (1 + loops body)) (length h.heads + loops body) (let c = h.count in omega (arith, c)) e) in
          passes_on w 1 (loops body) (enters given (unreached w)) (λ h. then_do (walk limits known given top More body h) (λ m. then_do (takes limits (table_effect table.Until) keep m) (λ n. returns_to h.place n))) h
          (record { heads = f.heads; is = ap (λ r. then_do r (λ m. then_do (takes limits (table_effect table.Until) keep m) (λ n. returns_to Unreachable n))) f.is; count = f.count; within = f.within })
      item_none (While test body) top next w e =
          let all = length w.heads + (1 + loops test + loops body) in
          let h = enters_none w (less all (length w.heads + 1) (omega arith) e) in
          let f = walk_none test top Flag (record w { heads = h.heads }) (less all (length h.heads + loops test) (let c = h.count in omega (arith, c)) e) in
          let g = walk_none body top More (record w { heads = f.heads }) (less all (length f.heads + loops body) (let c = h.count in let c' = f.count in omega (arith, c, c')) e) in
          passes_as w (1 + (loops test + loops body)) (1 + loops test + loops body) _ (omega arith)
          (passes_on w 1 (loops test + loops body) (enters given (unreached w))
          (λ h.
          then_do (walk limits known given top Flag test h)
          (λ m.
          then_do (decides limits m)
          (λ y.
          then_do (walk limits known given top More body y)
          (λ n. then_do (returns_to h.place n) (λ o. Ok (record o { place = zero_way m.place y.place })))))) h
          (passes_on (record w { heads = h.heads }) (loops test) (loops body) (walk limits known given top Flag test (unreached (record w { heads = h.heads })))
          (λ m.
          then_do (decides limits m)
          (λ y.
          then_do (walk limits known given top More body y)
          (λ n. then_do (returns_to Unreachable n) (λ o. Ok (record o { place = zero_way m.place y.place }))))) f
          (record { heads = g.heads; is = ap (λ r. then_do r (λ n. then_do (returns_to Unreachable n) (λ o. Ok (record o { place = Unreachable })))) g.is; count = g.count; within = g.within })))
      item_none (Again body) top next w e =
          let h = enters_none w (less (length w.heads + (1 + loops body)) (length w.heads + 1) (omega arith) e) in
          let f = walk_none body top More (record w { heads = h.heads }) (less (length w.heads + (1 + loops body)) (length h.heads + loops body) (let c = h.count in omega (arith, c)) e) in
          passes_on w 1 (loops body) (enters given (unreached w)) (λ h. then_do (walk limits known given top More body h) (λ m. then_do (returns_to h.place m) (λ n. Ok (record n { place = Unreachable })))) h
          (record { heads = f.heads; is = ap (λ r. then_do r (λ m. then_do (returns_to Unreachable m) (λ n. Ok (record n { place = Unreachable })))) f.is; count = f.count; within = f.within })
      item_none (QDo body plus) top next w e =
          let w' = record w { leaves = Unreachable } in
          let h = enters_none w' (less (length w.heads + (1 + loops body)) (length w.heads + 1) (omega arith) e) in
          let f = walk_none body None More (record w' { heads = h.heads }) (less (length w.heads + (1 + loops body)) (length h.heads + loops body) (let c = h.count in omega (arith, c)) e) in
          let r : Passes (enters given (unreached w')) 1 w' = h in
          record {
            heads = f.heads;
            is =
                ap
                (λ x.
                then_do x
                (λ h.
                then_do (walk limits known given (shape_at h.place) More body h)
                (λ m.
                then_do (takes limits (table_effect (turn_word plus)) keep m)
                (λ n.
                then_do (returns_to h.place n)
                (λ o.
                then_do (joins Unreachable o)
                (λ q. then_do (joins q.leaves q) (λ j. Ok (record j { place = dropped j.place; leaves = w.leaves })))))))) h.is
                ∙ ap
                (λ x.
                then_do x
                (λ m.
                then_do (takes limits (table_effect (turn_word plus)) keep m)
                (λ n.
                then_do (returns_to Unreachable n)
                (λ o.
                then_do (joins Unreachable o)
                (λ q. then_do (joins q.leaves q) (λ j. Ok (record j { place = dropped j.place; leaves = w.leaves }))))))) f.is;
            count = omega (arith, f.count, h.count);
            within = λ x. f.within (h.within x);
          }
      item_none (Case arms rest) top next w e =
          arms_none arms (λ m. then_do (walk limits known given top More rest m) (takes limits (table_effect table.EndCase) keep)) (loops rest) top (branch_next next) w e (λ v enough.
          let f = walk_none rest top More v enough in
          record { heads = f.heads; is = ap (λ r. then_do r (takes limits (table_effect table.EndCase) keep)) f.is; count = f.count; within = f.within })
      item_none (Do body plus) top next w e =
          let w' = record w { leaves = Unreachable } in
          let h = enters_none w' (less (length w.heads + (1 + loops body)) (length w.heads + 1) (omega arith) e) in
          let f = walk_none body None More (record w' { heads = h.heads }) (less (length w.heads + (1 + loops body)) (length h.heads + loops body) (let c = h.count in omega (arith, c)) e) in
          let r : Passes (enters given (unreached w')) 1 w' = h in
          record {
            heads = f.heads;
            is =
                ap
                (λ x.
                then_do x
                (λ h.
                then_do (walk limits known given (shape_at h.place) More body h)
                (λ m.
                then_do (takes limits (table_effect (turn_word plus)) keep m)
                (λ n.
                then_do (returns_to h.place n)
                (λ o. then_do (joins o.leaves o) (λ j. Ok (record j { place = dropped j.place; leaves = w.leaves }))))))) h.is
                ∙ ap
                (λ x.
                then_do x
                (λ m.
                then_do (takes limits (table_effect (turn_word plus)) keep m)
                (λ n.
                then_do (returns_to Unreachable n)
                (λ o. then_do (joins o.leaves o) (λ j. Ok (record j { place = dropped j.place; leaves = w.leaves })))))) f.is;
            count = omega (arith, f.count, h.count);
            within = λ x. f.within (h.within x);
          }
      item_none Leave top next w e = stays w
      item_none Exit top next w e = stays w

      pub walk_none : (nodes : Nodes) (top : Option Shape) (next : Next) (w : Walk) → Enough given (length w.heads + loops nodes) → Passes (walk limits known given top next nodes (unreached w)) (loops nodes) w
      walk_none Empty top next w e = stays w
      walk_none (Then node rest) top next w e =
          let f = item_none node top (next_of next rest) w (less (length w.heads + (loops_in node + loops rest)) (length w.heads + loops_in node) (omega arith) e) in
          passes_on w (loops_in node) (loops rest) (item_walk limits known given top (next_of next rest) node (unreached w))
          (walk limits known given top next rest) f
          (walk_none rest top next (record w { heads = f.heads })
          (less (length w.heads + (loops_in node + loops rest)) (length f.heads + loops rest) (let c = f.count in omega (arith, c)) e))

      -- arms, where what is last passes n loops
      arms_none : (arms : Arms) (last : Walk → Walked) (n : ℕ) (top : Option Shape) (next : Next) (w : Walk) →
          Enough given (length w.heads + (loops_in_arms arms + n)) → ((v : Walk) → Enough given (length v.heads + n) → Passes (last (unreached v)) n v) →
          Passes (arms_walk limits known given top next arms last (unreached w)) (loops_in_arms arms + n) w
      arms_none NoArm last n top next w e each = passes_as w n (0 + n) (last (unreached w)) (omega arith) (each w (less (length w.heads + (0 + n)) (length w.heads + n) (omega arith) e))
      arms_none (Arm tests body others) last n top next w e each =
          let all = length w.heads + (loops tests + loops body + loops_in_arms others + n) in
          let f = walk_none tests top More w (less all (length w.heads + loops tests) (omega arith) e) in
          let g = walk_none body top next (record w { heads = f.heads }) (less all (length f.heads + loops body) (let c = f.count in omega (arith, c)) e) in
          let o = arms_none others last n top next (record w { heads = g.heads }) (less all (length g.heads + (loops_in_arms others + n)) (let c = f.count in let c' = g.count in omega (arith, c, c')) e) each in
          record {
            heads = o.heads;
            is =
                ap
                (λ r.
                then_do r
                (λ m.
                then_do (takes limits (of_effect (negsuc 0)) keep m)
                (λ i.
                then_do (takes limits (of_effect (negsuc 1)) keep (record i { place = m.place }))
                (λ j.
                then_do (walk limits known given top next body j)
                (λ e. then_do (arms_walk limits known given top next others last (record e { place = i.place })) (λ o. joins e.place o))))))
                f.is
                ∙ ap (λ r. then_do r (λ e. then_do (arms_walk limits known given top next others last (record e { place = Unreachable })) (λ o. joins e.place o))) g.is
                ∙ ap (λ r. then_do r (λ o. joins Unreachable o)) o.is;
            count = omega (arith, f.count, g.count, o.count);
            within = λ x. o.within (g.within (f.within x));
          }
