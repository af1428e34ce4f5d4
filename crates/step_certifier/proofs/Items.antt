-- Items end within their cost, each way on from them taken.
use Rattle.std.proofs.Common.{◌≡◌, ℕ, zero, suc, ◌+◌, ◌*◌, ◌<◌, ◌≤◌, Bool, true, ◌||◌, List, [], ◌∷◌, None, refl, ◌∙◌, subst, arith}
use Rattle.std.specs.Prelude.{max, ◌==◌, slice_index_or}
use Rattle.std.proofs.lemmas.Bool.{eq-eqb}
use Rattle.forth_program.specs.declared.item.TextKind.{TextKind}
use Rattle.forth_program.specs.declared.item.TextKind.TheVariants as text
use Rattle.forth_program.specs.Tree.{Node, Nodes, Arms, Literal, Plain, Call, Child, Text, If, Until, While, Again, Do, QDo, Case, Leave, Exit, Empty, Then, NoArm, Arm}
use Rattle.forth_program.specs.State.{Entry, Work, Todo, OfTest, EndOf, EndCase, World}
use Rattle.forth_program.specs.Program.{SourceProgram, body_of}
use Rattle.forth_program.specs.Step.{before, first_work, first_among, closed_by, after_loop, case_ends}
use Rattle.forth_program.specs.Price.{step_price, text_price, turn_price}
use Rattle.step_certifier.specs.Cost.{Last, Other, last_after, last_of, loop_turns, entered_turns, or_none, true_end, text_cost, node_cost, cost, tests_cost, greatest_end}
use Rattle.step_certifier.specs.Refusal.{or_else, closed, node_refusal, refusal, arms_refusal, node_calls, calls, arms_call}
use Rattle.step_certifier.proofs.Entries.{Height, CallLevel, NodeLevel, Level, ArmsLevel}
use Rattle.step_certifier.proofs.RunEnds.{at, Within, more, Onward, same_first}
use Rattle.step_certifier.proofs.Levels.{At, same_at, Over, knows_literal, or_first, or_next, call_earlier, word_most, after_items}
use Rattle.step_certifier.proofs.Ways.{Around, Through, Leaves, Exits, through_more, forget, leaves_more, exits_more, acts, end_onward, word_onward}
use Rattle.step_certifier.proofs.Ways.{flag_onward, of_onward, text_onward, leave_onward, closed_through, closed_leads, or_left, or_right}
use Rattle.step_certifier.proofs.LoopCosts.{CallEnds, Earlier, ItemsEnd, do_onward, q_do_onward}

module _ (p : SourceProgram) (comes_back : ℕ → Bool) (known : List ℕ) (own : ℕ) where
  abbrev Calls : ℕ → Type 0
  Calls d = CallEnds p comes_back known own d

  abbrev NodeEnds : Node → Type 0
  NodeEnds node =
      (a : Around) (last : Last) (h m : Height) (after : List Work) (most : ℕ) → node_refusal own last node ≡ None → ((d : ℕ) → node_calls d node ≡ true → d < own → Calls d) → NodeLevel comes_back own a.out node h m →
      after_loop after ≡ a.loop_work →
      Through p a after (last_after last node) m most → Leaves p a most → (comes_back own ≡ true → Exits p a.callers most) → Through p a (Todo node ∷ after) last h (node_cost known last node + most)

  abbrev ArmsEnd : Arms → Nodes → Type 0
  ArmsEnd arms rest =
      (a : Around) (h m : Height) (after : List Work) (most : ℕ) → arms_refusal own arms ≡ None → refusal own Other rest ≡ None → ((d : ℕ) → arms_call d arms ≡ true → d < own → Calls d) → Earlier p comes_back known own rest →
      ArmsLevel comes_back own a.out arms (λ height. Level comes_back own a.out rest height m) h m → after_loop after ≡ a.loop_work → Through p a after Other m most → Leaves p a most → (comes_back own ≡ true → Exits p a.callers most) →
      Through p a (Todo (Case arms rest) ∷ after) Other h (tests_cost known arms + (1 + greatest_end known arms (cost known Other rest)) + most)

  same_among : (items : Nodes) (mark : Work) (after : List Work) → first_among items (first_work (mark ∷ after)) (mark ∷ after) ≡ first_work (before items (mark ∷ after))
  same_among Empty mark after = refl
  same_among (Then node rest) mark after = refl

  same_number : (d : ℕ) → (d == d) ≡ true
  same_number d = eq-eqb d d refl

  call_ends : (a : Around) (h m : Height) (after : List Work) (most d : ℕ) → CallLevel (comes_back d) h m → Through p a after Other m most → Calls d → (es : List Entry) (c : List ℕ) (w : World) → At h es → Over a.base es →
      Within p (at (before (body_of p d) []) [] (record { work = after; entries = es } ∷ a.callers) c w) (slice_index_or known d 0 + 1 + most)
  call_ends a h m after most d same t ends es c w i o = ends (record { work = after; entries = es }) a.callers c w most (λ c' w' back. t es c' w' tt (same_at h m es (subst (λ b. CallLevel b h m) back same) i) o)

  case_step : (a : Around) (h : Height) (after : List Work) (most : ℕ) → Through p a after Other h most → Through p a (EndCase ∷ after) Other h (1 + most)
  case_step a h after most t = λ es c w k i o. acts p (at (EndCase ∷ after) es a.callers c w) most (of es c w i o c)
    where
      of : (es : List Entry) (c : List ℕ) (w : World) → At h es → Over a.base es → (d : List ℕ) → Onward p (case_ends after d (at (EndCase ∷ after) es a.callers c w)) most
      of es c w i o [] = tt
      of es c w i o (x ∷ d) = t es d w tt i o

  end_of_step : (a : Around) (h : Height) (after : List Work) (most : ℕ) → Through p a after Other h most → Through p a (EndOf ∷ after) Other h (1 + most)
  end_of_step a h after most t = λ es c w k i o. acts p (at (EndOf ∷ after) es a.callers c w) most (t es c w tt i o)

  le_one : (most : ℕ) → most ≤ 1 + most
  le_one most = omega arith

  le_sum : (n most : ℕ) → most ≤ n + most
  le_sum n most = omega arith

  text_most : (kind : TextKind) (size : ℕ) (c : List ℕ) (most : ℕ) → text_price kind size c + most ≤ text_cost kind size + most
  text_most text.Address size c most = omega arith
  text_most text.Print size c most = omega arith
  text_most text.Abort size [] most = omega arith
  text_most text.Abort size (zero ∷ c) most = omega arith
  text_most text.Abort size (suc n ∷ c) most = omega arith

  text_last : (kind : TextKind) (address size : ℕ) (last : Last) (a : Around) (after : List Work) (m : Height) (most : ℕ) → Through p a after (last_after last (Text kind address size)) m most →
      Through p a after (last_after Other (Text kind address size)) m most
  text_last text.Address address size last a after m most t = t
  text_last text.Print address size last a after m most t = t
  text_last text.Abort address size last a after m most t = t

  mutual
    pub node_ends : (node : Node) → NodeEnds node
    node_ends (Literal value) a last h m after most r e lev al t l x =
        λ es c w k i o. acts p (at (Todo (Literal value) ∷ after) es a.callers c w) most (t es (value ∷ c) w (knows_literal last value c k) (same_at h m es lev i) o)
    node_ends (Plain word) a last h m after most r e lev al t l x =
        λ es c w k i o.
        more p (at (Todo (Plain word) ∷ after) es a.callers c w) (step_price (at (Todo (Plain word) ∷ after) es a.callers c w) + most) (node_cost known last (Plain word) + most)
        (acts p (at (Todo (Plain word) ∷ after) es a.callers c w) most (word_onward p a h m after most word last es c w r lev i o t))
        (let le = word_most word last c w k r in omega (arith, le))
    node_ends (Call d) a last h m after most r e lev al t l x =
        λ es c w k i o.
        more p (at (Todo (Call d) ∷ after) es a.callers c w) (1 + (slice_index_or known d 0 + 1 + most)) (node_cost known last (Call d) + most)
        (acts p (at (Todo (Call d) ∷ after) es a.callers c w) (slice_index_or known d 0 + 1 + most) (call_ends a h m after most d lev t (e d (same_number d) (call_earlier own d r)) es c w i o))
        (omega arith)
    node_ends (Child d address) a last h m after most r e lev al t l x =
        λ es c w k i o.
        more p (at (Todo (Child d address) ∷ after) es a.callers c w) (2 + (slice_index_or known d 0 + 1 + most)) (node_cost known last (Child d address) + most)
        (acts p (at (Todo (Child d address) ∷ after) es a.callers c w) (slice_index_or known d 0 + 1 + most) (call_ends a h m after most d lev t (e d (same_number d) (call_earlier own d r)) es (address ∷ c) w i o))
        (omega arith)
    node_ends (Text kind address size) a last h m after most r e lev al t l x =
        λ es c w k i o.
        more p (at (Todo (Text kind address size) ∷ after) es a.callers c w) (step_price (at (Todo (Text kind address size) ∷ after) es a.callers c w) + most) (node_cost known last (Text kind address size) + most)
        (acts p (at (Todo (Text kind address size) ∷ after) es a.callers c w) most (text_onward p a h m after most kind address size es c w lev i o (text_last kind address size last a after m most t)))
        (text_most kind size c most)
    node_ends (If one other) a last h m after most r e lev al t l x =
        λ es c w k i o.
        more p (at (Todo (If one other) ∷ after) es a.callers c w) (1 + (max (cost known Other one + true_end other) (cost known Other other) + most)) (node_cost known last (If one other) + most)
        (acts p (at (Todo (If one other) ∷ after) es a.callers c w) (max (cost known Other one + true_end other) (cost known Other other) + most)
        (flag_onward p a h m after (max (cost known Other one + true_end other) (cost known Other other) + most) (Todo (If one other) ∷ after) (before other after) (before one (closed_by other after)) c es c w i o
        (through_more p a (before other after) Other h (cost known Other other + most) (max (cost known Other one + true_end other) (cost known Other other) + most)
        (items_end other a Other h m after most (or_next (refusal own Other one) (refusal own Other other) r) (λ d is lt. e d (or_right (calls d one) (calls d other) is) lt) lev.1 al (forget p a after (last_of Other other) m most t) l x)
        (omega arith))
        (through_more p a (before one (closed_by other after)) Other h (cost known Other one + (true_end other + most)) (max (cost known Other one + true_end other) (cost known Other other) + most)
        (items_end one a Other h m (closed_by other after) (true_end other + most) (or_first (refusal own Other one) (refusal own Other other) r) (λ d is lt. e d (or_left (calls d one) (calls d other) is) lt) lev.0
        (closed_leads p a h m after most other ∙ al)
        (forget p a (closed_by other after) (last_of Other one) m (true_end other + most) (closed_through p a m m after most other t)) (leaves_more p a most (true_end other + most) l (le_sum (true_end other) most))
        (λ back. exits_more p a.callers most (true_end other + most) (x back) (le_sum (true_end other) most)))
        (omega arith))))
        (omega arith)
    node_ends (Until body) a last h m after most r e lev al t l x = cc (r)
    node_ends (While test body) a last h m after most r e lev al t l x = cc (r)
    node_ends (Again body) a last h m after most r e lev al t l x = cc (r)
    node_ends (Do body plus) a last h m after most r e lev al t l x =
        λ es c w k i o.
        more p (at (Todo (Do body plus) ∷ after) es a.callers c w) (8 + (or_none (loop_turns last body plus) * (turn_price plus + cost known Other body) + most)) (node_cost known last (Do body plus) + most)
        (acts p (at (Todo (Do body plus) ∷ after) es a.callers c w) (or_none (loop_turns last body plus) * (turn_price plus + cost known Other body) + most)
        (do_onward p comes_back known own body (items_end body) (or_next (closed (loop_turns last body plus)) (refusal own Other body) r) e a h m after most lev.0 lev.1 lev.2 t x plus last (Todo (Do body plus) ∷ after) es c w
        (or_first (closed (loop_turns last body plus)) (refusal own Other body) r) k i o))
        (omega arith)
    node_ends (QDo body plus) a last h m after most r e lev al t l x =
        λ es c w k i o.
        more p (at (Todo (QDo body plus) ∷ after) es a.callers c w) (12 + (entered_turns last (or_none (loop_turns last body plus)) * (turn_price plus + cost known Other body) + most)) (node_cost known last (QDo body plus) + most)
        (acts p (at (Todo (QDo body plus) ∷ after) es a.callers c w) (entered_turns last (or_none (loop_turns last body plus)) * (turn_price plus + cost known Other body) + most)
        (q_do_onward p comes_back known own body (items_end body) (or_next (closed (loop_turns last body plus)) (refusal own Other body) r) e a h m after most lev.0 lev.1 lev.2 t x plus lev.3 last (Todo (QDo body plus) ∷ after) es c w
        (or_first (closed (loop_turns last body plus)) (refusal own Other body) r) k i o))
        (omega arith)
    node_ends (Case arms rest) a last h m after most r e lev al t l x =
        forget p a (Todo (Case arms rest) ∷ after) last h (node_cost known last (Case arms rest) + most)
        (arms_end arms rest (items_end rest) a h m after most (or_first (arms_refusal own arms) (refusal own Other rest) r) (or_next (arms_refusal own arms) (refusal own Other rest) r)
        (λ d is lt. e d (or_left (arms_call d arms) (calls d rest) is) lt) (λ d is lt. e d (or_right (arms_call d arms) (calls d rest) is) lt) lev al t l x)
    node_ends Leave a last h m after most r e lev al t l x =
        λ es c w k i o. acts p (at (Todo Leave ∷ after) es a.callers c w) most (leave_onward p a h m after most es c w (Todo Leave ∷ after) es al lev i o l)
    node_ends Exit a last h m after most r e lev al t l x =
        λ es c w k i o. acts p (at (Todo Exit ∷ after) es a.callers c w) most (end_onward p (comes_back own) h (Todo Exit ∷ after) es a.callers c w most lev i x)

    pub items_end : (items : Nodes) → ItemsEnd p comes_back known own items
    items_end Empty a last h m after most r e lev al t l x =
        λ es c w k i o. more p (at after es a.callers c w) most (0 + most) (t es c w k (same_at h m es lev i) o) (omega arith)
    items_end (Then node rest) a last h m after most r e lev al t l x =
        through_more p a (Todo node ∷ before rest after) last h (node_cost known last node + (cost known (last_after last node) rest + most)) (cost known last (Then node rest) + most)
        (node_ends node a last h lev.0 (before rest after) (cost known (last_after last node) rest + most) (or_first (node_refusal own last node) (refusal own (last_after last node) rest) r)
        (λ d is lt. e d (or_left (node_calls d node) (calls d rest) is) lt) lev.1 (after_items rest after ∙ al)
        (items_end rest a (last_after last node) lev.0 m after most (or_next (node_refusal own last node) (refusal own (last_after last node) rest) r) (λ d is lt. e d (or_right (node_calls d node) (calls d rest) is) lt) lev.2 al t l x)
        (leaves_more p a most (cost known (last_after last node) rest + most) l (le_sum (cost known (last_after last node) rest) most))
        (λ back. exits_more p a.callers most (cost known (last_after last node) rest + most) (x back) (le_sum (cost known (last_after last node) rest) most)))
        (omega arith)

    pub arms_end : (arms : Arms) (rest : Nodes) → ItemsEnd p comes_back known own rest → ArmsEnd arms rest
    arms_end NoArm rest ends a h m after most r s e f lev al t l x =
        λ es c w k i o.
        same_first p (Todo (Case NoArm rest) ∷ after) (before rest (EndCase ∷ after)) es a.callers c w (tests_cost known NoArm + (1 + greatest_end known NoArm (cost known Other rest)) + most) (same_among rest EndCase after)
        (more p (at (before rest (EndCase ∷ after)) es a.callers c w) (cost known Other rest + (1 + most)) (tests_cost known NoArm + (1 + greatest_end known NoArm (cost known Other rest)) + most)
        (ends a Other h m (EndCase ∷ after) (1 + most) s f lev al (forget p a (EndCase ∷ after) (last_of Other rest) m (1 + most) (case_step a m after most t)) (leaves_more p a most (1 + most) l (le_one most))
        (λ back. exits_more p a.callers most (1 + most) (x back) (le_one most))
        es c w tt i o)
        (omega arith))
    arms_end (Arm tests body others) rest ends a h m after most r s e f lev al t l x =
        λ es c w k i o.
        same_first p (Todo (Case (Arm tests body others) rest) ∷ after) (before tests (OfTest body others rest ∷ after)) es a.callers c w
        (tests_cost known (Arm tests body others) + (1 + greatest_end known (Arm tests body others) (cost known Other rest)) + most) (same_among tests (OfTest body others rest) after)
        (more p (at (before tests (OfTest body others rest ∷ after)) es a.callers c w)
        (cost known Other tests + (4 + (tests_cost known others + (1 + max (cost known Other body) (greatest_end known others (cost known Other rest))) + most)))
        (tests_cost known (Arm tests body others) + (1 + greatest_end known (Arm tests body others) (cost known Other rest)) + most)
        (items_end tests a Other h lev.0 (OfTest body others rest ∷ after) (4 + (tests_cost known others + (1 + max (cost known Other body) (greatest_end known others (cost known Other rest))) + most))
        (or_first (refusal own Other tests) (or_else (refusal own Other body) (arms_refusal own others)) r)
        (λ d is lt. e d (or_left (calls d tests) (calls d body || arms_call d others) is) lt) lev.1 al
        (λ es' c' w' k' i' o'. acts p (at (OfTest body others rest ∷ after) es' a.callers c' w') (tests_cost known others + (1 + max (cost known Other body) (greatest_end known others (cost known Other rest))) + most)
        (of_onward p a lev.0 m after (tests_cost known others + (1 + max (cost known Other body) (greatest_end known others (cost known Other rest))) + most) body others rest (OfTest body others rest ∷ after) c' es' c' w' i' o'
        (through_more p a (before body (EndOf ∷ after)) Other lev.0 (cost known Other body + (1 + most)) (tests_cost known others + (1 + max (cost known Other body) (greatest_end known others (cost known Other rest))) + most)
        (items_end body a Other lev.0 m (EndOf ∷ after) (1 + most) (or_first (refusal own Other body) (arms_refusal own others) (or_next (refusal own Other tests) (or_else (refusal own Other body) (arms_refusal own others)) r))
        (λ d is lt. e d (or_right (calls d tests) (calls d body || arms_call d others) (or_left (calls d body) (arms_call d others) is)) lt) lev.2 al
        (forget p a (EndOf ∷ after) (last_of Other body) m (1 + most) (end_of_step a m after most t)) (leaves_more p a most (1 + most) l (le_one most)) (λ back. exits_more p a.callers most (1 + most) (x back) (le_one most)))
        (omega arith))
        (through_more p a (Todo (Case others rest) ∷ after) Other lev.0 (tests_cost known others + (1 + greatest_end known others (cost known Other rest)) + most)
        (tests_cost known others + (1 + max (cost known Other body) (greatest_end known others (cost known Other rest))) + most)
        (arms_end others rest ends a lev.0 m after most (or_next (refusal own Other body) (arms_refusal own others) (or_next (refusal own Other tests) (or_else (refusal own Other body) (arms_refusal own others)) r)) s
        (λ d is lt. e d (or_right (calls d tests) (calls d body || arms_call d others) (or_right (calls d body) (arms_call d others) is)) lt) f lev.3 al t l x)
        (omega arith))))
        (leaves_more p a most (4 + (tests_cost known others + (1 + max (cost known Other body) (greatest_end known others (cost known Other rest))) + most)) l (omega arith))
        (λ back. exits_more p a.callers most (4 + (tests_cost known others + (1 + max (cost known Other body) (greatest_end known others (cost known Other rest))) + most)) (x back) (omega arith))
        es c w tt i o)
        (omega arith))
