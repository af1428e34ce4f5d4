-- KEEP-BYTE and READ-LINE.
use Rattle.std.proofs.Common.{◌≡◌, ◌≢◌, ℕ, zero, suc, ◌+◌, ◌*◌, ◌%◌, ◌≤◌, ◌<◌, Bool, true, false, List, [], ◌∷◌, ◌++◌, length, refl, ap}
use Rattle.std.proofs.Common.{ap₂, sym, ◌∙◌, subst, arith, lt-ltb, le-ltb}
use Rattle.std.specs.Prelude.{if◌then◌else◌, nat_lt}
use Rattle.cell_math.specs.Cell.{sum_of}
use Rattle.word_table.specs.declared.word.Word.TheVariants.{Key, Max, CStore, Store}
use Rattle.forth_program.specs.State.{World, State, Work, Entry, Frame, Gives, ◌▸◌, Took}
use Rattle.forth_program.specs.Access.{taken}
use Rattle.forth_program.specs.Program.{SourceProgram}
use Rattle.forth_program.specs.Meaning.{meaning, greater}
use Rattle.forth_program.specs.Step.{before, step}
use Rattle.forth_program.specs.Run.{steps}
use Rattle.forth_program.specs.Price.{spent}
use Rattle.kernel_words.specs.Places.{error_cell, length_cell, line_buffer}
use Rattle.kernel_words.specs.Memory.{IsDataSpace, data_cell, data_byte, data_bytes, with_data_cell, with_data_byte}
use Rattle.kernel_words.specs.Running.{Comes, Returns}
use Rattle.kernel_words.proofs.Cases.{by_less, unequal}
use Rattle.kernel_words.proofs.Runs.{by_way, by_word, by_call, there, within, followed, renamed}
use Rattle.kernel_words.proofs.Memory.{writes, writes_byte, after_store, after_byte_store, byte_stored, byte_beside, byte_kept}
use Rattle.kernel_words.proofs.Scanning.{in_test, past_of, one_more}
use Rattle.kernel_lines.specs.Places.{keep_byte_place}
use Rattle.kernel_lines.specs.Bodies.{HasLines, keep_byte_body, read_line_body}
use Rattle.kernel_lines.specs.State.{KernelState, kernel_state, cells_at, OnlyChanges}
use Rattle.kernel_lines.specs.Words.{IsTyped, blanked, kept_line}
use Rattle.kernel_lines.specs.Laws.{LinesAreRead}
use Rattle.kernel_lines.proofs.States.{out_of, state_stored, stored_state, state_outside, cell_changes, changes_then, changes_before}
use Rattle.kernel_lines.proofs.States.{changes_behind, changes_more, bytes_alike}
use Rattle.kernel_lines.proofs.Stores.{nothing_more}

-- ---- a key
abbrev pub key_world : ℕ → List ℕ → World → World
key_world b input w = record w { input = input; made = Took b ∷ w.made }

pub key_taken : (w : World) (b : ℕ) (input c : List ℕ) → w.input ≡ b ∷ input → meaning Key c w ≡ Gives (b ∷ c) (key_world b input w)
key_taken w b input c e = ap (λ i. taken i w ▸ λ x. Gives (x ∷ c)) e

pub key_space : (w : World) (b : ℕ) (input : List ℕ) → IsDataSpace w → IsDataSpace (key_world b input w)
key_space w b input h = record { start = h.start; room = h.room; cells = h.cells }

pub key_state : (w : World) (b : ℕ) (input : List ℕ) → kernel_state (key_world b input w) ≡ kernel_state w
unfolding data_cell
key_state w b input = refl

pub key_byte : (w : World) (b : ℕ) (input : List ℕ) (a : ℕ) → data_byte (key_world b input w) a ≡ data_byte w a
unfolding data_byte data_cell
key_byte w b input a = refl

pub blanks : (x : ℕ) → x < 256 → greater x 32 ≡ blanked x
blanks x h = rw (lt-ltb x 32768 (omega (arith, h))) refl

-- ---- KEEP-BYTE
module _ (p : SourceProgram) (w : World) (h : IsDataSpace w) (b n : ℕ) (c : List ℕ) where
  pub byte_is_kept : n < 80 → Returns p keep_byte_body 11 61 (b ∷ n ∷ c) w (suc n ∷ c) (with_data_byte (line_buffer + n) b w)
  unfolding step steps spent
  byte_is_kept few work es callers =
      by_way p 3 8 57 refl (omega arith) (omega arith) (rw (lt-ltb n 80 few)
      (by_way p 4 4 52 refl (omega arith) (omega arith) (rw (place n few)
      (by_word p CStore 3 4 (writes_byte w (line_buffer + n) b (n ∷ c) h (omega arith) (omega (arith, few))) refl (omega arith)
      (omega arith)
      (by_way p 3 0 0 refl (omega arith) (omega arith) (renamed p
      (ap (λ x. record { work = work; entries = es; callers = callers; cells = x ∷ c; world = with_data_byte (line_buffer + n) b w })
      (one_more n (omega (arith, few)))) (there p)))))))
    where
      place : (n : ℕ) → n < 80 → sum_of n line_buffer ≡ line_buffer + n
      place n few = omega (arith, few)

  pub byte_is_dropped : 80 ≤ n → Returns p keep_byte_body 11 61 (b ∷ n ∷ c) w (n ∷ c) (with_data_cell error_cell 5 w)
  unfolding step steps spent
  byte_is_dropped all work es callers =
      by_way p 3 7 56 refl (omega arith) (omega arith) (rw (le-ltb n 80 all)
      (by_way p 4 2 3 refl (omega arith) (omega arith)
      (by_word p Store 1 1 (writes w error_cell 5 (n ∷ c) h (omega arith) (omega arith)) refl (omega arith) (omega arith)
      (by_way p 1 0 0 refl (omega arith) (omega arith) (there p)))))

-- ---- what a byte of the line changes
line_ranges : List (ℕ × ℕ)
line_ranges = (line_buffer, 80) ∷ cells_at (error_cell ∷ [])

record Kept (w v : World) : Type 0 where
  space : IsDataSpace v
  state : kernel_state v ≡ kernel_state w
  others : OnlyChanges ((line_buffer, 80) ∷ []) w v

line_byte : (w : World) (b n : ℕ) → IsDataSpace w → n < 80 → Kept w (with_data_byte (line_buffer + n) b w)
line_byte w b n h few =
    let q = after_byte_store w (line_buffer + n) b h in
    let o : OnlyChanges ((line_buffer, 80) ∷ []) w (with_data_byte (line_buffer + n) b w) = record {
      space = q.space;
      kept = λ a low out.
          let f = out_of a line_buffer 80 [] out in
          byte_beside w (line_buffer + n) a b h (omega arith) (omega (arith, few)) low
          (λ e. let less = f.here (λ more. omega (arith, more, e, few)) in omega (arith, less, e));
    } in
    record { space = q.space; state = state_outside ((line_buffer, 80) ∷ []) w (with_data_byte (line_buffer + n) b w) o refl; others = o }

-- ---- the loop of READ-LINE
abbrev overrun : Bool → KernelState → KernelState
overrun long s = record s { error = if long then 5 else s.error }

abbrev head_of : List ℕ → ℕ
head_of [] = 10
head_of (b ∷ typed) = b

abbrev tail_of : List ℕ → List ℕ → List ℕ
tail_of [] left = left
tail_of (b ∷ typed) left = typed ++ 10 ∷ left

module _ (p : SourceProgram) (k : HasLines p) (c : List ℕ) (left : List ℕ) where
  abbrev pub stands : List Work → List Entry → List Frame → List Work → List ℕ → World → State
  stands work es callers todo cells w = record {
    work = todo;
    entries = [];
    callers = record { work = work; entries = es } ∷ callers;
    cells = cells;
    world = w;
  }

  -- where the first byte was taken from the input, n bytes stand in LINE, and there is room for more
  record Reads (room n : ℕ) (typed : List ℕ) (w : World) : Type 0 where
    after : World
    way : (work : List Work) (es : List Entry) (callers : List Frame) →
        Comes p (5 + 21 * length typed) (7 + 93 * length typed)
        (stands work es callers (in_test 1 read_line_body) (head_of typed ∷ n ∷ c) (key_world (head_of typed) (tail_of typed left) w))
        (stands work es callers (before (past_of read_line_body) []) (10 ∷ (n + length (kept_line room typed)) ∷ c) after)
    input : after.input ≡ left
    printed : after.printed ≡ w.printed
    state_is : kernel_state after ≡ record (kernel_state w) { error = if nat_lt room (length typed) then 5 else data_cell w error_cell }
    others : OnlyChanges line_ranges w after
    old : (a : ℕ) → line_buffer ≤ a → a < line_buffer + n → data_byte after a ≡ data_byte w a
    line : data_bytes after (length (kept_line room typed)) (line_buffer + n) ≡ kept_line room typed

  ends : (room n : ℕ) (w : World) → IsDataSpace w → kept_line room [] ≡ [] → Reads room n [] w
  unfolding step steps spent line_ranges
  ends room n w h none =
      let v = key_world 10 left w in
      record {
        after = v;
        way = λ work es callers. by_way p 5 0 0 refl (omega arith) (omega arith)
            (renamed p (ap (λ x. stands work es callers (before (past_of read_line_body) []) (10 ∷ x ∷ c) v)
            (plus n ∙ ap (λ t. n + length t) (sym none))) (there p));
        input = refl;
        printed = refl;
        state_is = key_state w 10 left ∙ ap (λ b. record (kernel_state w) { error = if b then 5 else data_cell w error_cell })
            (sym (le-ltb room 0 (omega arith)));
        others = record { space = key_space w 10 left h; kept = λ a low out. key_byte w 10 left a };
        old = λ a low high. key_byte w 10 left a;
        line = subst (λ t. data_bytes v (length t) (line_buffer + n) ≡ t) (sym none) refl;
      }
    where
      plus : (n : ℕ) → n ≡ n + 0
      plus n = omega arith

  -- a byte of the line, up to the next key
  turn : (b n m b' : ℕ) (input : List ℕ) (v u : World) → b < 256 → b ≢ 10 → Returns p keep_byte_body 11 61 (blanked b ∷ n ∷ c) v (m ∷ c) u →
      u.input ≡ b' ∷ input →
      (work : List Work) (es : List Entry) (callers : List Frame) →
      Comes p 21 93 (stands work es callers (in_test 1 read_line_body) (b ∷ n ∷ c) v)
      (stands work es callers (in_test 1 read_line_body) (b' ∷ m ∷ c) (key_world b' input u))
  unfolding step steps spent
  turn b n m b' input v u small other keeps e work es callers =
      by_way p 3 18 89 refl (omega arith) (omega arith) (rw (unequal b 10 other)
      (by_way p 3 15 85 refl (omega arith) (omega arith)
      (by_word p Max 14 65 (ap (λ x. Gives (x ∷ n ∷ c) v) (blanks b small)) refl (omega arith) (omega arith)
      (by_call p keep_byte_place 11 61 2 3 k.keep_byte keeps refl (omega arith) (omega arith)
      (by_way p 1 1 2 refl (omega arith) (omega arith)
      (by_word p Key 0 0 (key_taken u b' input (m ∷ c) e) refl (omega arith) (omega arith) (there p)))))))

  blanked_fits : (b : ℕ) → b < 256 → blanked b < 256
  blanked_fits b h = by_less b 32 (λ less. rw (lt-ltb b 32 less) (omega arith)) (λ all. rw (le-ltb b 32 all) h)

  input_is : (typed : List ℕ) → typed ++ 10 ∷ left ≡ head_of typed ∷ tail_of typed left
  input_is [] = refl
  input_is (b ∷ typed) = refl

  next_less : (room n : ℕ) → nat_lt room n ≡ nat_lt (suc room) (suc n)
  next_less room n = by_less room n (λ less. lt-ltb room n less ∙ sym (lt-ltb (suc room) (suc n) (omega (arith, less))))
      (λ all. le-ltb room n all ∙ sym (le-ltb (suc room) (suc n) (omega (arith, all))))

  either : (b : Bool) (x : ℕ) → (if b then x else x) ≡ x
  either true x = refl
  either false x = refl

  reads : (typed : List ℕ) (room n : ℕ) (w : World) → n + room ≡ 80 → IsDataSpace w → IsTyped typed → Reads room n typed w
  unfolding line_ranges
  reads [] zero n w e h t = ends zero n w h refl
  reads [] (suc room) n w e h t = ends (suc room) n w h refl
  reads (b ∷ typed) zero n w e h t =
      let v = key_world b (typed ++ 10 ∷ left) w in
      let hv = key_space w b (typed ++ 10 ∷ left) h in
      let u = with_data_cell error_cell 5 v in
      let q = after_store v error_cell 5 hv (omega arith) in
      let r = reads typed zero n u e q.space t.2 in
      let su : kernel_state u ≡ record (kernel_state w) { error = 5 } =
      state_stored v error_cell 5 hv refl ∙ ap (stored_state error_cell 5) (key_state w b (typed ++ 10 ∷ left)) in
      let o = changes_behind ((line_buffer, 80) ∷ []) (cells_at (error_cell ∷ [])) v u
      (cell_changes v error_cell 5 hv (omega arith) refl) in
      record {
        after = r.after;
        way = λ work es callers. within p (21 + (5 + 21 * length typed)) (93 + (7 + 93 * length typed)) (omega arith) (omega arith)
            (followed p (turn b n n (head_of typed) (tail_of typed left) v u t.0 t.1
            (byte_is_dropped p v hv (blanked b) n c (omega (arith, e))) (q.input ∙ input_is typed) work es callers)
            (r.way work es callers));
        input = r.input;
        printed = r.printed ∙ q.printed;
        state_is = r.state_is ∙ ap (overrun (nat_lt 0 (length typed))) su
            ∙ ap (λ x. record (kernel_state w) { error = x })
            (either (nat_lt 0 (length typed)) 5 ∙ ap (λ y. if y then 5 else data_cell w error_cell)
            (sym (lt-ltb 0 (suc (length typed)) (omega arith))));
        others = changes_more line_ranges w u r.after (record {
          space = q.space;
          kept = λ a low out. o.kept a low out ∙ key_byte w b (typed ++ 10 ∷ left) a;
        }) r.others;
        old = λ a low high. r.old a low high ∙ byte_kept v error_cell a 5 (omega arith) (omega (arith, low))
            (λ f. omega (arith, f, high, e)) ∙ key_byte w b (typed ++ 10 ∷ left) a;
        line = refl;
      }
  reads (b ∷ typed) (suc room) n w e h t =
      let v = key_world b (typed ++ 10 ∷ left) w in
      let hv = key_space w b (typed ++ 10 ∷ left) h in
      let few : n < 80 = omega (arith, e) in
      let u = with_data_byte (line_buffer + n) (blanked b) v in
      let q = line_byte v (blanked b) n hv few in
      let r = reads typed room (suc n) u (omega (arith, e)) q.space t.2 in
      let o = changes_before ((line_buffer, 80) ∷ []) (cells_at (error_cell ∷ [])) v u q.others in
      record {
        after = r.after;
        way = λ work es callers. within p (21 + (5 + 21 * length typed)) (93 + (7 + 93 * length typed)) (omega arith) (omega arith)
            (followed p (turn b n (suc n) (head_of typed) (tail_of typed left) v u t.0 t.1 (byte_is_kept p v hv (blanked b) n c few)
            (console_of (blanked b) n v hv ∙ input_is typed) work es callers)
            (renamed p (ap (λ x. stands work es callers (before (past_of read_line_body) []) (10 ∷ x ∷ c) r.after)
            (plus n (length (kept_line room typed)))) (r.way work es callers)));
        input = r.input;
        printed = r.printed ∙ printed_of (blanked b) n v hv;
        state_is = r.state_is ∙ ap (overrun (nat_lt room (length typed))) (q.state ∙ key_state w b (typed ++ 10 ∷ left))
            ∙ ap (λ y. record (kernel_state w) { error = if y then 5 else data_cell w error_cell }) (next_less room (length typed));
        others = changes_more line_ranges w u r.after (record {
          space = q.space;
          kept = λ a low out. o.kept a low out ∙ key_byte w b (typed ++ 10 ∷ left) a;
        }) r.others;
        old = λ a low high. r.old a low (omega (arith, high))
            ∙ byte_beside v (line_buffer + n) a (blanked b) hv (omega arith) (omega (arith, few)) (omega (arith, low))
            (λ f. omega (arith, f, high))
            ∙ key_byte w b (typed ++ 10 ∷ left) a;
        line = ap₂ (λ x xs. x ∷ xs)
            (r.old (line_buffer + n) (omega arith) (omega arith)
            ∙ byte_stored v (line_buffer + n) (blanked b) hv (omega arith) (omega (arith, few))
            ∙ small (blanked b) (blanked_fits b t.0))
            (ap (λ a. data_bytes r.after (length (kept_line room typed)) a) (next n) ∙ r.line);
      }
    where
      plus : (n l : ℕ) → suc n + l ≡ n + suc l
      plus n l = omega arith

      next : (n : ℕ) → suc (line_buffer + n) ≡ line_buffer + suc n
      next n = omega arith

      small : (x : ℕ) → x < 256 → x % 256 ≡ x
      small x f = omega (arith, f)

      console_of : (b n : ℕ) (v : World) → IsDataSpace v → (with_data_byte (line_buffer + n) b v).input ≡ v.input
      console_of b n v hv = (after_byte_store v (line_buffer + n) b hv).input

      printed_of : (b n : ℕ) (v : World) → IsDataSpace v → (with_data_byte (line_buffer + n) b v).printed ≡ v.printed
      printed_of b n v hv = (after_byte_store v (line_buffer + n) b hv).printed

pub kept_few : (room : ℕ) (typed : List ℕ) → length (kept_line room typed) ≤ room
kept_few zero typed = omega arith
kept_few (suc room) [] = omega arith
kept_few (suc room) (b ∷ typed) = let f = kept_few room typed in omega (arith, f)

pub lines_are_read : LinesAreRead
unfolding step steps spent line_ranges
lines_are_read p c w typed left k h t e =
    let r = reads p k c left typed 80 0 w refl h t in
    let size = length (kept_line 80 typed) in
    let few = kept_few 80 typed in
    let q = after_store r.after length_cell (length (kept_line 80 typed)) r.others.space (omega (arith, few)) in
    record {
      does = record {
        after = with_data_cell length_cell (length (kept_line 80 typed)) r.after;
        run = λ work es callers.
            by_way p 1 (19 + 24 * length typed) (28 + 120 * length typed) refl (omega arith) (omega arith)
            (by_word p Key (9 + 21 * length typed) (20 + 93 * length typed)
            (key_taken w (head_of typed) (tail_of typed left) (0 ∷ c) (e ∙ input_is p k c left typed)) refl (omega arith) (omega arith)
            (within p (5 + 21 * length typed + 4) (7 + 93 * length typed + 7) (omega arith) (omega arith)
            (followed p (r.way work es callers)
            (rw (none (length (kept_line 80 typed)))
            (by_way p 2 2 4 refl (omega arith) (omega arith)
            (by_word p Store 1 1 (writes r.after length_cell (length (kept_line 80 typed)) c r.others.space (omega arith)
            (omega arith)) refl (omega arith) (omega arith)
            (by_way p 1 0 0 refl (omega arith) (omega arith) (there p))))))));
        input = q.input ∙ r.input;
        printed = q.printed ∙ r.printed ∙ nothing_more w.printed;
        state_is = state_stored r.after length_cell (length (kept_line 80 typed)) r.others.space refl
            ∙ ap (stored_state length_cell (length (kept_line 80 typed))) r.state_is;
        others = changes_then ((line_buffer, 80) ∷ cells_at (error_cell ∷ [])) (cells_at (length_cell ∷ [])) w r.after _ r.others
            (cell_changes r.after length_cell (length (kept_line 80 typed)) r.others.space (omega (arith, few)) refl);
      };
      line = bytes_alike r.after (with_data_cell length_cell (length (kept_line 80 typed)) r.after)
          (length (kept_line 80 typed)) line_buffer
          (λ a low high. byte_kept r.after length_cell a (length (kept_line 80 typed)) (omega arith) (omega (arith, low))
          (λ f. omega (arith, f, high, few))) ∙ r.line;
    }
  where
    none : (n : ℕ) → 0 + n ≡ n
    none n = omega arith
