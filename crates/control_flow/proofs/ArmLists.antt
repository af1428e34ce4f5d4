-- One arm more of a CASE.
use Rattle.std.proofs.Common.{◌≡◌, ℕ, zero, suc, ◌-◌, ◌<◌, List, [], ◌∷◌, ◌++◌, length, refl, ap, sym, ◌∙◌, arith}
use Rattle.forth_program.specs.declared.item.Items.{Items}
use Rattle.forth_program.specs.Tree.{Nodes, Arms, Case, NoArm, Arm}
use Rattle.forth_program.specs.ItemTrees.{tree_of, arms_tree}
use Rattle.control_flow.specs.declared.refusal.SourceError.{SourceError}
use Rattle.control_flow.specs.declared.refusal.SourceCause.TheVariants as cause
use Rattle.control_flow.specs.declared.nest.Ending.{Ending}
use Rattle.control_flow.specs.declared.nest.Ending.TheVariants as ending
use Rattle.control_flow.specs.ParseResult.{ParserState, ParseResult, Fine, Refused, Endless, ◌>>=◌}
use Rattle.control_flow.specs.Items.{One, Many, Cases, body_at, with_arm, arms_by, arms_at}
use Rattle.control_flow.specs.Answers.{FailsAs}
use Rattle.control_flow.proofs.ItemLists.{fails_then, fails_as, longer}

abbrev pub arms_joined : Arms → Arms → Arms
arms_joined NoArm more = more
arms_joined (Arm tests body others) more = Arm tests body (arms_joined others more)

-- with the arms that are done in front
abbrev pub with_arms : List (Items × Items) → Cases → Cases
with_arms done cases = record cases { arms = arms_joined (arms_tree done) cases.arms }

abbrev pub behind_arms : List (Items × Items) → ParseResult Cases → ParseResult Cases
behind_arms done outcome = outcome >>= λ cases. Fine (with_arms done cases)

joined_none : (done : List (Items × Items)) → arms_joined (arms_tree done) NoArm ≡ arms_tree done
joined_none [] = refl
joined_none (arm ∷ arms) = ap (Arm (tree_of arm.0) (tree_of arm.1)) (joined_none arms)

joined_arm : (done : List (Items × Items)) (tests body : Items) (more : Arms) → arms_joined (arms_tree done) (Arm (tree_of tests) (tree_of body) more) ≡ arms_joined (arms_tree (done ++ (tests, body) ∷ [])) more
joined_arm [] tests body more = refl
joined_arm (arm ∷ arms) tests body more = ap (Arm (tree_of arm.0) (tree_of arm.1)) (joined_arm arms tests body more)

abbrev by_many : (ParserState → ParseResult Many) → ℕ → Many → ParseResult Cases
by_many go m tests = arms_by go (arms_at go m) tests.nodes tests.at tests.ending

arms_step : (go : ParserState → ParseResult Many) (m : ℕ) (at : ParserState) → 0 < m → arms_at go m at ≡ (go at >>= by_many go (m - 1))
arms_step go zero at h = absurd (omega arith)
arms_step go (suc m) at h = ap (λ k. go at >>= by_many go k) (omega arith)

unfit_by : (go : ParserState → ParseResult Many) (others : ParserState → ParseResult Cases) (tests : Nodes) (at : ParserState) (e : Ending) →
    (e ≡ ending.Of → ⊥) → (e ≡ ending.EndCase → ⊥) → arms_by go others tests at e ≡ Refused at.count cause.BadNest
unfit_by go others tests at ending.Of h k = absurd (h refl)
unfit_by go others tests at ending.EndCase h k = absurd (k refl)
unfit_by go others tests at e h k = refl

-- the case of arms
abbrev pub as_case : Cases → One
as_case cases = record { node = Case cases.arms cases.rest; at = cases.at }

module _ (whole : ParseResult Cases) (done : List (Items × Items)) (go : ParserState → ParseResult Many) (m : ℕ) (at : ParserState) (so_far : whole ≡ behind_arms done (arms_at go m at)) (more : 0 < m) where
  next_tests : whole ≡ behind_arms done (go at >>= by_many go (m - 1))
  next_tests = so_far ∙ ap (behind_arms done) (arms_step go m at more)

  -- the tests are refused
  pub refused_tests : (e : SourceError) → FailsAs e (go at) → FailsAs e (whole >>= λ cases. Fine (as_case cases))
  refused_tests e f = fails_then e whole _ (fails_as e _ whole next_tests (fails_then e (go at >>= by_many go (m - 1)) _ (fails_then e (go at) (by_many go (m - 1)) f)))

  module _ (tests : Items) (e : Ending) (seen : ParserState) (read : go at ≡ Fine (record { nodes = tree_of tests; ending = e; at = seen })) where
    with_tests : whole ≡ behind_arms done (arms_by go (arms_at go (m - 1)) (tree_of tests) seen e)
    with_tests = next_tests ∙ ap (λ t. behind_arms done (t >>= by_many go (m - 1))) read

    -- ENDCASE ends the case
    pub ends_case : e ≡ ending.EndCase → (whole >>= λ cases. Fine (as_case cases)) ≡ Fine (record { node = Case (arms_tree done) (tree_of tests); at = seen })
    ends_case is =
        ap (λ o. o >>= λ cases. Fine (as_case cases)) (with_tests ∙ ap (λ e. behind_arms done (arms_by go (arms_at go (m - 1)) (tree_of tests) seen e)) is)
        ∙ ap (λ arms. Fine (record { node = Case arms (tree_of tests); at = seen })) (joined_none done)

    -- another word does not fit
    pub unfit_case : (e ≡ ending.Of → ⊥) → (e ≡ ending.EndCase → ⊥) → (whole >>= λ cases. Fine (as_case cases)) ≡ Refused seen.count cause.BadNest
    unfit_case h k = ap (λ o. o >>= λ cases. Fine (as_case cases)) (with_tests ∙ ap (behind_arms done) (unfit_by go (arms_at go (m - 1)) (tree_of tests) seen e h k))

    module _ (is : e ≡ ending.Of) where
      with_of : whole ≡ behind_arms done (body_at go seen >>= λ body. arms_at go (m - 1) body.at >>= λ cases. Fine (with_arm (tree_of tests) body.nodes cases))
      with_of = with_tests ∙ ap (λ e. behind_arms done (arms_by go (arms_at go (m - 1)) (tree_of tests) seen e)) is

      -- the body is refused
      pub refused_body : (err : SourceError) → FailsAs err (body_at go seen) → FailsAs err (whole >>= λ cases. Fine (as_case cases))
      refused_body err f = fails_then err whole _ (fails_as err _ whole with_of (fails_then err _ _ (fails_then err (body_at go seen) _ f)))

      -- an arm more
      pub next_arm : (body : Items) (after : ParserState) → body_at go seen ≡ Fine (record { nodes = tree_of body; at = after }) → whole ≡ behind_arms (done ++ (tests, body) ∷ []) (arms_at go (m - 1) after)
      next_arm body after f =
          with_of ∙ ap (λ b. behind_arms done (b >>= λ body. arms_at go (m - 1) body.at >>= λ cases. Fine (with_arm (tree_of tests) body.nodes cases))) f ∙ pushed (arms_at go (m - 1) after)
        where
          pushed : (o : ParseResult Cases) → behind_arms done (o >>= λ cases. Fine (with_arm (tree_of tests) (tree_of body) cases)) ≡ behind_arms (done ++ (tests, body) ∷ []) o
          pushed (Fine cases) = ap (λ arms. Fine (record cases { arms = arms })) (joined_arm done tests body cases.arms)
          pushed (Refused k c) = refl
          pushed Endless = refl

pub one_arm_more : (old new : List (Items × Items)) (arm : Items × Items) (go : ParserState → ParseResult Many) (m : ℕ) (at : ParserState) → new ≡ old ++ arm ∷ [] →
    behind_arms (old ++ arm ∷ []) (arms_at go (m - length old - 1) at) ≡ behind_arms new (arms_at go (m - length new) at)
one_arm_more old new arm go m at e =
    let k : m - length old - 1 ≡ m - length new = omega (arith, longer old new arm e) in
    ap (λ k. behind_arms (old ++ arm ∷ []) (arms_at go k at)) k ∙ ap (λ l. behind_arms l (arms_at go (m - length new) at)) (sym e)
