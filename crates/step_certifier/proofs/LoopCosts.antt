-- A loop with a known number of turns ends within its cost, where its content does.
use Rattle.std.proofs.Common.{◌≡◌, ℕ, zero, suc, ◌+◌, ◌*◌, ◌<◌, ◌≤◌, inl, Bool, true, false, if◌then◌else◌, List, [], ◌∷◌, length, Option, Some, None, refl, sym, ap, ◌∙◌, subst, arith}
use Rattle.std.specs.Prelude.{◌==◌, slice_index_or}
use Rattle.std.proofs.Math.Nat.{suc-mul}
use Rattle.cell_math.specs.Cell.{sum_of, difference_of, signed}
use Rattle.forth_program.specs.Tree.{Nodes}
use Rattle.forth_program.specs.State.{Entry, Cell, Loop, Work, Turn, Frame, World, Goes}
use Rattle.forth_program.specs.Program.{SourceProgram, body_of}
use Rattle.forth_program.specs.Step.{before, after_loop, crosses, step, unwound, loop_begins, loop_may_begin, turned, turn}
use Rattle.forth_program.specs.Price.{turn_price}
use Rattle.step_certifier.specs.Turns.{distance_up, turns}
use Rattle.step_certifier.specs.Cost.{Last, Other, One, Two, TextSize, last_of, literal_of, loop_turns, turns_by, entered_turns, or_none, cost}
use Rattle.step_certifier.specs.Refusal.{closed, refusal, calls}
use Rattle.step_certifier.proofs.Entries.{Height, Same, raised, TurnLevel, Level}
use Rattle.step_certifier.proofs.RunEnds.{at, Within, more, Onward}
use Rattle.step_certifier.proofs.Levels.{At, same_at, raised_at, Over, found, Inside, Knows, knows_value}
use Rattle.step_certifier.proofs.TurnsLeft.{Left, turns_left, one_less, loop_left, plus_left}
use Rattle.step_certifier.proofs.Ways.{Around, Through, Leaves, Exits, exits_more, acts}

module _ (p : SourceProgram) (comes_back : ℕ → Bool) (known : List ℕ) (own : ℕ) where
  -- a definition that is called comes back within its cost
  abbrev pub CallEnds : ℕ → Type 0
  CallEnds d = (f : Frame) (fs : List Frame) (c : List ℕ) (w : World) (most : ℕ) → ((c' : List ℕ) (w' : World) → comes_back d ≡ true → Within p (at f.work f.entries fs c' w') most) →
      Within p (at (before (body_of p d) []) [] (f ∷ fs) c w) (slice_index_or known d 0 + 1 + most)

  abbrev pub Earlier : Nodes → Type 0
  Earlier items = (d : ℕ) → calls d items ≡ true → d < own → CallEnds d

  abbrev pub ItemsEnd : Nodes → Type 0
  ItemsEnd items =
      (a : Around) (last : Last) (h m : Height) (after : List Work) (most : ℕ) → refusal own last items ≡ None → Earlier items → Level comes_back own a.out items h m → after_loop after ≡ a.loop_work →
      Through p a after (last_of last items) m most → Leaves p a most → (comes_back own ≡ true → Exits p a.callers most) → Through p a (before items after) last h (cost known last items + most)

  module _ (body : Nodes) (body_ends : ItemsEnd body) where
    -- the step of a turn
    abbrev pub EndsWith : Bool → ℕ → Type 0
    EndsWith false step = step ≡ 1
    EndsWith true step = literal_of (last_of Other body) ≡ Some step

    -- the number of turns of a loop from a start to a limit, and their step
    record KnownTurns (plus : Bool) (limit start : ℕ) : Type 0 where
      count : ℕ
      step : ℕ
      counted : loop_turns (Two limit start) body plus ≡ Some count
      ends : EndsWith plus step
      left : Left limit step count start

    known_turns : (plus : Bool) (limit start : ℕ) → closed (loop_turns (Two limit start) body plus) ≡ None → KnownTurns plus limit start
    known_turns false limit start r = record { count = distance_up limit start; step = 1; counted = refl; ends = refl; left = loop_left limit start }
    known_turns true limit start r = of (literal_of (last_of Other body)) refl r
      where
        numbers : (step : ℕ) (o : Option ℕ) → turns limit start step ≡ o → closed o ≡ None → (n : ℕ) × (turns limit start step ≡ Some n)
        numbers step None is r = cc (r)
        numbers step (Some n) is r = (n, is)

        of : (o : Option ℕ) → literal_of (last_of Other body) ≡ o → closed (turns_by limit start o) ≡ None → KnownTurns true limit start
        of None is r = cc (r)
        of (Some step) is r =
            let n = numbers step (turns limit start step) refl r in
            record { count = n.0; step = step; counted = ap (turns_by limit start) is ∙ n.1; ends = is; left = plus_left limit start step n.0 n.1 }

    module _ (r : refusal own Other body ≡ None) (earlier : Earlier body) (a : Around) (h m : Height) (after : List Work) (most : ℕ) (end : Height) (lev : Level comes_back own m body (raised h) end) (turns_at : TurnLevel h end m)
        (t : Through p a after Other m most) (x : comes_back own ≡ true → Exits p a.callers most) (limit step : ℕ) (es : List Entry) (i : At h es) (o : Over a.base es) where
      inside : (index : ℕ) → Inside m (Loop limit index ∷ es)
      inside index n e = of h end m i turns_at e
        where
          of : (h end m : Height) → At h es → TurnLevel h end m → m ≡ Some n → length (Loop limit index ∷ es) ≡ suc n
          of None end m i k e = absurd i
          of (Some z) (Some y) m i k e = (let j : At (Some n) es = subst (λ q. At q es) e (same_at (Some z) m es k.1 i) in omega (arith, j))
          of (Some z) None None i k e = cc (e)
          of (Some z) None (Some y) i k e = (let j : y ≡ n = cc (e) in omega (arith, i, k, j))

      abbrev around : ℕ → Around
      around index = record { out = m; loop_work = after; base = Loop limit index ∷ es; callers = a.callers; inside = inside index }

      level : (h end : Height) (entry entry' : Entry) (es es' : List Entry) → TurnLevel h end m → At h es → At end (entry' ∷ es') → length (entry ∷ es) ≡ suc (length es')
      level None end entry entry' es es' k i j = absurd i
      level (Some n) None entry entry' es es' k i j = absurd j
      level (Some n) (Some z) entry entry' es es' k i j = (let e : suc n ≡ z = cc (k.0) in omega (arith, i, j, e))

      goes_on : (end : Height) (entries : List Entry) → TurnLevel h end m → At end entries → At m es
      goes_on None entries k j = absurd j
      goes_on (Some z) entries k j = same_at h m es k.1 i

      -- the end of a turn
      turned_onward : (plus : Bool) (index rest : ℕ) → most ≤ rest →
          ((c : List ℕ) (w : World) → crosses (signed (difference_of index limit)) (signed step) ≡ false → Within p (at (before body (Turn body plus ∷ after)) (Loop limit (sum_of index step) ∷ es) a.callers c w) rest) →
          (work : List Work) (fs es' : List Entry) (c : List ℕ) (w : World) → At end es' → Over (Loop limit index ∷ es) es' → Onward p (turned step body plus after es' (at work fs a.callers c w)) rest
      turned_onward plus index rest le again work fs [] c w j k = tt
      turned_onward plus index rest le again work fs (Cell v ∷ es') c w j k = tt
      turned_onward plus index rest le again work fs (Loop l v ∷ es') c w j k =
          let e = found (Loop limit index ∷ es) l v es' k (level h end (Loop limit index) (Loop l v) es es' turns_at i j) in
          subst (λ q. Onward p (turned step body plus after q (at work fs a.callers c w)) rest) (sym e) (of (crosses (signed (difference_of index limit)) (signed step)) refl)
        where
          of : (b : Bool) → crosses (signed (difference_of index limit)) (signed step) ≡ b →
              Onward p (if b then Goes (at after es a.callers c w) else Goes (at (before body (Turn body plus ∷ after)) (Loop limit (sum_of index step) ∷ es) a.callers c w)) rest
          of true e = more p (at after es a.callers c w) most rest (t es c w tt (goes_on end (Loop l v ∷ es') turns_at j) o) le
          of false e = again c w e

      turn_onward : (plus : Bool) (index rest : ℕ) → EndsWith plus step → most ≤ rest →
          ((c : List ℕ) (w : World) → crosses (signed (difference_of index limit)) (signed step) ≡ false → Within p (at (before body (Turn body plus ∷ after)) (Loop limit (sum_of index step) ∷ es) a.callers c w) rest) →
          (work : List Work) (es' : List Entry) (c : List ℕ) (w : World) → Knows (last_of Other body) c → At end es' → Over (Loop limit index ∷ es) es' → Onward p (turn body plus after c (at work es' a.callers c w)) rest
      turn_onward false index rest ends le again work es' c w k j l =
          subst (λ s. Onward p (turned s body false after es' (at work es' a.callers c w)) rest) ends (turned_onward false index rest le again work es' es' c w j l)
      turn_onward true index rest ends le again work es' c w k j l =
          let v = knows_value (last_of Other body) step c k ends in
          subst (λ d. Onward p (turn body true after d (at work es' a.callers c w)) rest) (sym v.1) (turned_onward true index rest le again work es' es' v.0 w j l)

      sums : (b q n s most : ℕ) → s ≡ n + (q + b) → b + (q + (n + most)) ≤ s + most
      sums b q n s most e = omega (arith, e)

      weaker : (q n most : ℕ) → most ≤ q + (n + most)
      weaker q n most = omega arith

      second : (n most : ℕ) → most ≤ n + most
      second n most = omega arith

      tails : (x y : Entry) (es' : List Entry) → x ∷ es' ≡ y ∷ es → es' ≡ es
      tails x y es' e = cc

      pub turning : (plus : Bool) → EndsWith plus step → (n index : ℕ) → Left limit step n index → (c : List ℕ) (w : World) →
          Within p (at (before body (Turn body plus ∷ after)) (Loop limit index ∷ es) a.callers c w) (n * (turn_price plus + cost known Other body) + most)
      turning plus ends zero index left c w = absurd (turns_left limit step index left)
      turning plus ends (suc n) index left c w =
          let each = turn_price plus + cost known Other body in
          let rest = n * each + most in
          let again = turning plus ends n (sum_of index step) in
          more p (at (before body (Turn body plus ∷ after)) (Loop limit index ∷ es) a.callers c w) (cost known Other body + (turn_price plus + rest)) (suc n * each + most)
          (body_ends (around index) Other (raised h) end (Turn body plus ∷ after) (turn_price plus + rest) r earlier lev refl
          (λ es' c' w' k j l. acts p (at (Turn body plus ∷ after) es' a.callers c' w') rest
          (turn_onward plus index rest ends (second (n * each) most) (λ c'' w'' crossed. again (one_less limit step n index left crossed) c'' w'') (Turn body plus ∷ after) es' c' w' k j l))
          (λ l v es' c' w' e j. more p (at after es' a.callers c' w') most (turn_price plus + rest)
          (subst (λ q. Within p (at after q a.callers c' w') most) (sym (tails (Loop l v) (Loop limit index) es' e)) (t es c' w' tt (subst (λ q. At m q) (tails (Loop l v) (Loop limit index) es' e) j) o))
          (weaker (turn_price plus) (n * each) most))
          (λ back. exits_more p a.callers most (turn_price plus + rest) (x back) (weaker (turn_price plus) (n * each) most))
          (Loop limit index ∷ es) c w tt (raised_at h (Loop limit index) es i) (inl refl))
          (sums (cost known Other body) (turn_price plus) (n * each) (suc n * each) most (suc-mul n each))

    module _ (r : refusal own Other body ≡ None) (earlier : Earlier body) (a : Around) (h m : Height) (after : List Work) (most : ℕ) (end : Height) (lev : Level comes_back own m body (raised h) end) (turns_at : TurnLevel h end m)
        (t : Through p a after Other m most) (x : comes_back own ≡ true → Exits p a.callers most) (plus : Bool) where
      abbrev each : ℕ
      each = turn_price plus + cost known Other body

      -- the loop that begins
      begun : (limit start : ℕ) (es : List Entry) (c : List ℕ) (w : World) → closed (loop_turns (Two limit start) body plus) ≡ None → At h es → Over a.base es →
          Within p (at (before body (Turn body plus ∷ after)) (Loop limit start ∷ es) a.callers c w) (or_none (loop_turns (Two limit start) body plus) * each + most)
      begun limit start es c w are_known i o =
          let n = known_turns plus limit start are_known in
          subst (λ k. Within p (at (before body (Turn body plus ∷ after)) (Loop limit start ∷ es) a.callers c w) (or_none k * each + most)) (sym n.counted)
          (turning r earlier a h m after most end lev turns_at t x limit n.step es i o plus n.ends n.count start n.left c w)

      pub do_onward : (last : Last) (work : List Work) (es : List Entry) (c : List ℕ) (w : World) → closed (loop_turns last body plus) ≡ None → Knows last c → At h es → Over a.base es →
          Onward p (loop_begins body plus after c (at work es a.callers c w)) (or_none (loop_turns last body plus) * each + most)
      do_onward Other work es c w known_turns k i o = cc (known_turns)
      do_onward (One v) work es c w known_turns k i o = cc (known_turns)
      do_onward (TextSize v) work es c w known_turns k i o = cc (known_turns)
      do_onward (Two limit start) work es c w known_turns k i o =
          subst (λ d. Onward p (loop_begins body plus after d (at work es a.callers c w)) (or_none (loop_turns (Two limit start) body plus) * each + most)) (sym k.1) (begun limit start es k.0 w known_turns i o)

      pub q_do_onward : Same h m → (last : Last) (work : List Work) (es : List Entry) (c : List ℕ) (w : World) → closed (loop_turns last body plus) ≡ None → Knows last c → At h es → Over a.base es →
          Onward p (loop_may_begin body plus after c (at work es a.callers c w)) (entered_turns last (or_none (loop_turns last body plus)) * each + most)
      q_do_onward same Other work es c w known_turns k i o = cc (known_turns)
      q_do_onward same (One v) work es c w known_turns k i o = cc (known_turns)
      q_do_onward same (TextSize v) work es c w known_turns k i o = cc (known_turns)
      q_do_onward same (Two limit start) work es c w known_turns k i o =
          subst (λ d. Onward p (loop_may_begin body plus after d (at work es a.callers c w)) ((if limit == start then 0 else or_none (loop_turns (Two limit start) body plus)) * each + most)) (sym k.1) (of (limit == start))
        where
          none : (z most : ℕ) → most ≤ 0 * z + most
          none z most = omega arith

          of : (b : Bool) → Onward p (if b then Goes (at after es a.callers k.0 w) else loop_begins body plus after (start ∷ limit ∷ k.0) (at work es a.callers c w))
              ((if b then 0 else or_none (loop_turns (Two limit start) body plus)) * each + most)
          of true = more p (at after es a.callers k.0 w) most (0 * each + most) (t es k.0 w tt (same_at h m es same i) o) (none each most)
          of false = begun limit start es k.0 w known_turns i o
