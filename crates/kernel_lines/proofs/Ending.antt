-- The end of the input, in READ-LINE.
use Rattle.std.proofs.Common.{◌≡◌, ◌≢◌, ℕ, zero, suc, ◌+◌, ◌*◌, ◌≤◌, ◌<◌, List, [], ◌∷◌, length, refl, ap, ap₂, sym, ◌∙◌, subst, arith}
use Rattle.word_table.specs.declared.word.Word.TheVariants.{Key, Max}
use Rattle.forth_program.specs.Tree.{Nodes}
use Rattle.forth_program.specs.State.{World, State, Work, Entry, Frame, Outcome, Goes, Ends, Gives, End, InputEnded}
use Rattle.forth_program.specs.Program.{SourceProgram, body_of}
use Rattle.forth_program.specs.Step.{before, called, step}
use Rattle.forth_program.specs.Run.{steps, and_then}
use Rattle.forth_program.specs.Price.{spent, spent_after, step_price}
use Rattle.kernel_words.specs.Places.{error_cell, line_buffer}
use Rattle.kernel_words.specs.Memory.{IsDataSpace, with_data_cell, with_data_byte}
use Rattle.kernel_words.specs.Running.{Comes, Returns}
use Rattle.kernel_words.proofs.Cases.{unequal}
use Rattle.kernel_words.proofs.Runs.{by_way, by_word, by_call, there}
use Rattle.kernel_words.proofs.Memory.{after_store, after_byte_store}
use Rattle.kernel_words.proofs.Scanning.{in_test}
use Rattle.kernel_lines.specs.Places.{keep_byte_place, read_line_place, one_line_place}
use Rattle.kernel_lines.specs.Bodies.{HasLines, keep_byte_body, read_line_body}
use Rattle.kernel_lines.specs.Words.{IsTyped, blanked}
use Rattle.kernel_lines.specs.Main.{ComesToEnd, InputEnds}
use Rattle.kernel_lines.proofs.Reading.{key_world, key_taken, key_space, stands, blanks, byte_is_kept, byte_is_dropped}

module _ (p : SourceProgram) where
  -- ---- a run and then an end
  same_then : (o : Outcome) (f g h : State → Outcome) → ((s : State) → f s ≡ and_then (g s) h) → and_then o f ≡ and_then (and_then o g) h
  same_then (Goes s) f g h same = same s
  same_then (Ends end w) f g h same = refl

  steps_more : (a b : ℕ) (s : State) → steps p (a + b) s ≡ and_then (steps p a s) (steps p b)
  unfolding steps
  steps_more zero b s = ap (λ k. steps p k s) (omega arith)
  steps_more (suc a) b s = ap (λ k. steps p k s) (plus a b)
      ∙ same_then (step p s) (steps p (a + b)) (steps p a) (steps p b) (λ s'. steps_more a b s')
    where
      plus : (a b : ℕ) → suc a + b ≡ suc (a + b)
      plus a b = omega arith

  spent_from : (t u k : ℕ) (s : State) → spent p (t + u) k s ≡ t + spent p u k s
  unfolding spent
  spent_from t u zero s = refl
  spent_from t u (suc k) s = ap (λ n. spent_after n (step p s) (spent p n k)) (plus t u (step_price s))
      ∙ after (step p s) (spent p (t + (u + step_price s)) k) (spent p (u + step_price s) k)
      (u + step_price s) (λ s'. spent_from t (u + step_price s) k s')
    where
      plus : (a b c : ℕ) → (a + b) + c ≡ a + (b + c)
      plus a b c = omega arith

      after : (o : Outcome) (f g : State → ℕ) (u : ℕ) → ((s : State) → f s ≡ t + g s) → spent_after (t + u) o f ≡ t + spent_after u o g
      after (Goes s) f g u same = same s
      after (Ends end w) f g u same = refl

  through : (k m t : ℕ) (u : State) (o : Outcome) → ((s : State) → steps p k s ≡ Goes u →
      spent p t (k + m) s ≡ spent p (spent p t k s) m u) →
      and_then o (steps p k) ≡ Goes u → spent_after t o (spent p t (k + m)) ≡ spent p (spent_after t o (spent p t k)) m u
  through k m t u (Goes s) more e = more s e
  through k m t u (Ends end w) more e = let no : ⊥ = cc in absurd no

  spent_more : (k m t : ℕ) (s u : State) → steps p k s ≡ Goes u → spent p t (k + m) s ≡ spent p (spent p t k s) m u
  unfolding steps spent
  spent_more zero m t s u e = ap (λ n. spent p t n s) (plus m) ∙ ap (λ o. spent_after 0 o (spent p t m)) e
    where
      plus : (m : ℕ) → 0 + m ≡ m
      plus m = omega arith
  spent_more (suc k) m t s u e =
      ap (λ n. spent p t n s) (plus k m) ∙ through k m (t + step_price s) u (step p s) (λ s'. spent_more k m (t + step_price s) s' u) e
    where
      plus : (k m : ℕ) → suc k + m ≡ suc (k + m)
      plus k m = omega arith

  ends_then : {n b m d a e : ℕ} {s t : State} {end : End} {told : List ℕ} → Comes p n b s t → ComesToEnd p m d t end told → n + m ≤ a →
      b + d ≤ e → ComesToEnd p a e s end told
  ends_then {s = s} {t = t} r q f g = record {
    count = r.count + q.count;
    world = q.world;
    run = steps_more r.count q.count s ∙ ap (λ o. and_then o (steps p q.count)) r.run ∙ q.run;
    few = omega (arith, r.few, q.few, f);
    paid = let both : spent p 0 (r.count + q.count) s ≡ spent p 0 r.count s + spent p 0 q.count t =
        spent_more r.count q.count 0 s t r.run ∙ apart (spent p 0 r.count s) q.count t in omega (arith, both, r.paid, q.paid, g);
    printed_is = q.printed_is;
  }
    where
      apart : (x m : ℕ) (t : State) → spent p x m t ≡ x + spent p 0 m t
      apart x m t = ap (λ y. spent p y m t) (plus_zero x) ∙ spent_from x 0 m t
        where
          plus_zero : (x : ℕ) → x ≡ x + 0
          plus_zero x = omega arith

  -- from a state that does the same first step
  same_end : {m d : ℕ} {s s' : State} {end : End} {told : List ℕ} → step p s ≡ step p s' → step_price s ≡ step_price s' →
      ComesToEnd p m d s end told → ComesToEnd p m d s' end told
  unfolding steps spent
  same_end {m = m} {d = d} {s = s} {s' = s'} {end = end} {told = told} e f q = by q.count q.run q.few q.paid
    where
      by : (k : ℕ) → steps p k s ≡ Ends end q.world → k ≤ m → spent p 0 k s ≤ d → ComesToEnd p m d s' end told
      by zero run few paid = let no : ⊥ = cc in absurd no
      by (suc k) run few paid = record {
        count = suc k;
        world = q.world;
        run = ap (λ o. and_then o (steps p k)) (sym e) ∙ run;
        few = few;
        paid = subst (λ x. x ≤ d) (ap₂ (λ o x. spent_after (0 + x) o (spent p (0 + x) k)) e f) paid;
        printed_is = q.printed_is;
      }

  -- in a definition that is called
  called_ends : {m d a e : ℕ} {s : State} {after : List Work} {body : Nodes} {end : End} {told : List ℕ} (definition : ℕ) →
      body_of p definition ≡ body →
      step p s ≡ Goes (called p definition (record s { work = after })) →
      ComesToEnd p m d (record s {
        work = before body [];
        entries = [];
        callers = record { work = after; entries = s.entries } ∷ s.callers;
      }) end told →
      1 + m ≤ a → step_price s + d ≤ e → ComesToEnd p a e s end told
  unfolding steps spent
  called_ends {s = s} {after = after} definition same e q f g = ends_then
      (record {
        count = 1;
        run = ap (λ o. and_then o (steps p 0))
            (e ∙ ap (λ z. Goes (record s {
              work = before z [];
              entries = [];
              callers = record { work = after; entries = s.entries } ∷ s.callers;
            })) same);
        few = omega arith;
        paid = rw e (omega arith);
      })
      q f g

module _ (p : SourceProgram) (k : HasLines p) (c : List ℕ) (work : List Work) (es : List Entry) (callers : List Frame) where
  -- a byte of the line, up to the place before the next key
  turn : (b n m : ℕ) (v u : World) → b < 256 → b ≢ 10 → Returns p keep_byte_body 11 61 (blanked b ∷ n ∷ c) v (m ∷ c) u →
      Comes p 20 91 (stands p k c [] work es callers (in_test 1 read_line_body) (b ∷ n ∷ c) v)
      (stands p k c [] work es callers (in_test 0 read_line_body) (m ∷ c) u)
  unfolding step steps spent
  turn b n m v u small other keeps =
      by_way p 3 17 87 refl (omega arith) (omega arith) (rw (unequal b 10 other)
      (by_way p 3 14 83 refl (omega arith) (omega arith)
      (by_word p Max 13 63 (ap (λ x. Gives (x ∷ n ∷ c) v) (blanks b small)) refl (omega arith) (omega arith)
      (by_call p keep_byte_place 11 61 1 1 k.keep_byte keeps refl (omega arith) (omega arith)
      (by_way p 1 0 0 refl (omega arith) (omega arith) (there p))))))

  runs_out : (typed : List ℕ) (room n : ℕ) (w : World) (told : List ℕ) → n + room ≡ 80 → IsDataSpace w → IsTyped typed → w.input ≡ typed →
      w.printed ≡ told →
      ComesToEnd p (1 + 21 * length typed) (2 + 93 * length typed)
      (stands p k c [] work es callers (in_test 0 read_line_body) (n ∷ c) w) InputEnded told
  unfolding step steps spent
  runs_out [] room n w told e h t i q = record {
    count = 1;
    world = w;
    run = rw i refl;
    few = omega arith;
    paid = rw i (omega arith);
    printed_is = q;
  }
  runs_out (b ∷ typed) zero n w told e h t i q =
      let v = key_world b typed w in
      let hv = key_space w b typed h in
      let s = after_store v error_cell 5 hv (omega arith) in
      ends_then p {n = 21} {b = 93} (by_word p Key 20 91 (key_taken w b typed (n ∷ c) i) refl (omega arith) (omega arith)
      (turn b n n v (with_data_cell error_cell 5 v) t.0 t.1 (byte_is_dropped p v hv (blanked b) n c (omega (arith, e)))))
      (runs_out typed zero n (with_data_cell error_cell 5 v) told e s.space t.2 s.input (s.printed ∙ q)) (omega arith) (omega arith)
  runs_out (b ∷ typed) (suc room) n w told e h t i q =
      let v = key_world b typed w in
      let hv = key_space w b typed h in
      let s = after_byte_store v (line_buffer + n) (blanked b) hv in
      ends_then p {n = 21} {b = 93} (by_word p Key 20 91 (key_taken w b typed (n ∷ c) i) refl (omega arith) (omega arith)
      (turn b n (suc n) v (with_data_byte (line_buffer + n) (blanked b) v) t.0 t.1
      (byte_is_kept p v hv (blanked b) n c (omega (arith, e)))))
      (runs_out typed room (suc n) (with_data_byte (line_buffer + n) (blanked b) v) told (omega (arith, e)) s.space t.2 s.input
      (s.printed ∙ q)) (omega arith) (omega arith)

pub input_ends : InputEnds
unfolding step steps spent
input_ends p w k h t =
    called_ends p {m = 3 + 21 * length w.input} {d = 5 + 93 * length w.input} one_line_place k.one_line refl
    (called_ends p {m = 2 + 21 * length w.input} {d = 4 + 93 * length w.input} read_line_place k.read_line refl
    (ends_then p {n = 1} {b = 2} (by_way p 1 0 0 refl (omega arith) (omega arith) (there p))
    (same_end p refl refl (runs_out p k [] _ _ _ w.input 80 0 w w.printed refl h t refl refl)) (omega arith) (omega arith))
    (omega arith) (omega arith)) (omega arith) (omega arith)
