-- SAY-WORD, COMPLAIN and REPLY.
use Rattle.std.proofs.Common.{◌≡◌, ℕ, suc, ◌+◌, ◌*◌, ◌≤◌, true, false, ◌==◌, List, [], ◌∷◌, ◌++◌, refl, ap, ap₂, sym, ◌∙◌, subst, arith}
use Rattle.std.proofs.Common.{eqb-true}
use Rattle.std.specs.Prelude.{if◌then◌else◌, codes}
use Rattle.word_table.specs.declared.word.Word.TheVariants.{Fetch, Store, Count, TypeOut, Cr, Equal}
use Rattle.forth_program.specs.declared.item.TextKind.TheVariants as text
use Rattle.forth_program.specs.Tree.{Nodes, Literal, Plain, Call, Text, If, Empty, Then}
use Rattle.forth_program.specs.State.{World, State, Work, Entry, Frame, Gives, ◌▸◌}
use Rattle.forth_program.specs.ByteWords.{type_out}
use Rattle.forth_program.specs.Program.{SourceProgram}
use Rattle.forth_program.specs.Step.{before, step}
use Rattle.forth_program.specs.Run.{steps}
use Rattle.forth_program.specs.Price.{spent}
use Rattle.kernel_words.specs.Places.{error_cell, word_buffer}
use Rattle.kernel_words.specs.Bodies.{items}
use Rattle.kernel_words.specs.Memory.{IsDataSpace, data_cell, data_byte, data_bytes, with_data_cell}
use Rattle.kernel_words.specs.Running.{Comes, Returns}
use Rattle.kernel_words.proofs.Cases.{by_cases}
use Rattle.kernel_words.proofs.Runs.{by_way, by_word, by_call, there, within, followed}
use Rattle.kernel_words.proofs.Memory.{byte_fetched, byte_fits, reads, writes, after_store}
use Rattle.kernel_words.proofs.Scanning.{skip}
use Rattle.kernel_lines.specs.Places.{user_count_cell, unknown_text, stack_text, long_text, full_text, well_text, say_word_place}
use Rattle.kernel_lines.specs.Places.{reset_place, complain_place}
use Rattle.kernel_lines.specs.Bodies.{HasLines, say_word_body, complain_body, reply_body}
use Rattle.kernel_lines.specs.State.{KernelState, kernel_state, word_read, cells_at, OnlyChanges, Does, HasTexts}
use Rattle.kernel_lines.specs.Laws.{set_back, set_back_cells, reply_text, replied, RepliesAreGiven}
use Rattle.kernel_lines.proofs.States.{state_stored, cell_changes, unchanged, changes_then, changes_before}
use Rattle.kernel_lines.proofs.Stores.{nothing_more}
use Rattle.kernel_lines.proofs.Prints.{Prints, Printed, prints_then, space_kept, cell_same, bytes_same, nothing_changes, state_same}
use Rattle.kernel_lines.proofs.Prints.{line_feed, text_printed, by_text}
use Rattle.kernel_lines.proofs.Checks.{by_zero}
use Rattle.kernel_lines.proofs.Resets.{kernel_is_set_back}

module _ (p : SourceProgram) (k : HasLines p) (c : List ℕ) where
  -- ---- the word read last
  word_printed : (w : World) → IsDataSpace w → Printed (word_read w) w (type_out (data_byte w word_buffer) (suc word_buffer) w)
  word_printed w h = let f = byte_fits w word_buffer h in
      text_printed (data_byte w word_buffer) (suc word_buffer) w h (omega arith) (omega (arith, f))

  say_word_returns : (w : World) (h : IsDataSpace w) → Returns p say_word_body 4 (83 + 80 * data_byte w word_buffer) c w c
      (word_printed w h).after
  unfolding step steps spent
  say_word_returns w h work es callers =
      by_way p 1 3 (81 + 80 * data_byte w word_buffer) refl (omega arith) (omega arith)
      (by_word p Count 2 (41 + 80 * data_byte w word_buffer)
      (ap (λ r. r ▸ λ x. Gives (x ∷ suc word_buffer ∷ c)) (byte_fetched w word_buffer h (omega arith) (omega arith))) refl (omega arith)
      (omega arith)
      (by_word p TypeOut 1 1 (ap (λ r. r ▸ λ _. Gives c) (word_printed w h).prints) refl (omega arith) (omega arith)
      (by_way p 1 0 0 refl (omega arith) (omega arith) (there p))))

  abbrev works : List Work → List Entry → List Frame → List Work → World → State
  works work es callers todo w = record {
    work = todo;
    entries = [];
    callers = record { work = work; entries = es } ∷ callers;
    cells = c;
    world = w;
  }

  -- what is printed on the way from some work to other, whoever called
  record Says (most highest : ℕ) (from : List Work) (w : World) (todo : List Work) (told : List ℕ) : Type 0 where
    after : World
    way : (work : List Work) (es : List Entry) (callers : List Frame) →
        Comes p most highest (works work es callers from w) (works work es callers todo after)
    is : Prints told w after

  abbrev said : ℕ → ℕ → Nodes
  said a n = items (Call say_word_place ∷ Text text.Print a n ∷ Plain Cr ∷ [])

  says : (w : World) (a n : ℕ) (todo : List Work) → IsDataSpace w → 8192 ≤ a → a + n ≤ 16384 → n ≤ 14 →
      Says 7 (1250 + 80 * data_byte w word_buffer) (before (said a n) todo) w todo (word_read w ++ data_bytes w n a ++ 10 ∷ [])
  unfolding step steps spent
  says w a n todo h low high few =
      let one = word_printed w h in
      let h1 = space_kept (word_read w) w one.after one.is h in
      let two = text_printed n a one.after h1 low high in
      let three = line_feed two.after in
      record {
        after = three.after;
        way = λ work es callers. by_call p say_word_place 4 (83 + 80 * data_byte w word_buffer) 2 1166 k.say_word
            (say_word_returns w h) refl (omega arith) (omega arith)
            (by_text p a n 1 4 two.prints refl (omega arith) (omega (arith, few))
            (by_word p Cr 0 0 (ap (λ r. r ▸ λ _. Gives c) three.prints) refl (omega arith) (omega arith) (there p)));
        is = prints_then (word_read w ++ data_bytes w n a) (10 ∷ []) w two.after three.after
            (prints_then (word_read w) (data_bytes w n a) w one.after two.after one.is
            (subst (λ t. Prints t one.after two.after) (bytes_same (word_read w) w one.after one.is n a) two.is)) three.is;
      }

  -- a text alone
  tells : (w : World) (a n : ℕ) (todo : List Work) → IsDataSpace w → 8192 ≤ a → a + n ≤ 16384 → n ≤ 15 →
      Says 2 1250 (before (items (Text text.Print a n ∷ Plain Cr ∷ [])) todo) w todo (data_bytes w n a ++ 10 ∷ [])
  unfolding step steps spent
  tells w a n todo h low high few =
      let two = text_printed n a w h low high in
      let three = line_feed two.after in
      record {
        after = three.after;
        way = λ work es callers. by_text p a n 1 4 two.prints refl (omega arith) (omega (arith, few))
            (by_word p Cr 0 0 (ap (λ r. r ▸ λ _. Gives c) three.prints) refl (omega arith) (omega arith) (there p));
        is = prints_then (data_bytes w n a) (10 ∷ []) w two.after three.after two.is three.is;
      }

  module _ (work : List Work) (es : List Entry) (callers : List Frame) where
    -- ---- one cause after the other
    abbrev asked : ℕ → Nodes → Nodes → Nodes
    asked cause told rest = Then (Literal error_cell) (Then (Plain Fetch)
        (Then (Literal cause) (Then (Plain Equal) (Then (If told Empty) rest))))

    is_not : (w : World) (cause : ℕ) (told rest : Nodes) → IsDataSpace w → (data_cell w error_cell == cause) ≡ false →
        Comes p 5 7 (works work es callers (before (asked cause told rest) []) w) (works work es callers (before rest []) w)
    unfolding step steps spent
    is_not w cause told rest h e =
        by_way p 1 4 5 refl (omega arith) (omega arith)
        (by_word p Fetch 3 4 (reads w error_cell c h (omega arith) (omega arith)) refl (omega arith) (omega arith)
        (by_way p 2 1 1 refl (omega arith) (omega arith) (rw e (by_way p 1 0 0 refl (omega arith) (omega arith) (there p)))))

    is_it : (w : World) (cause : ℕ) (told rest : Nodes) → IsDataSpace w → (data_cell w error_cell == cause) ≡ true →
        Comes p 5 7 (works work es callers (before (asked cause told rest) []) w) (works work es callers (before told (before rest [])) w)
    unfolding step steps spent
    is_it w cause told rest h e =
        by_way p 1 4 5 refl (omega arith) (omega arith)
        (by_word p Fetch 3 4 (reads w error_cell c h (omega arith) (omega arith)) refl (omega arith) (omega arith)
        (by_way p 2 1 1 refl (omega arith) (omega arith) (rw e (by_way p 1 0 0 refl (omega arith) (omega arith) (there p)))))

    -- it was another cause
    other : (v : World) (x cause : ℕ) (told rest : Nodes) → IsDataSpace v → data_cell v error_cell ≡ x → (x == cause) ≡ false →
        Comes p 5 7 (works work es callers (before (asked cause told rest) []) v) (works work es callers (before rest []) v)
    other v x cause told rest h e f = is_not v cause told rest h (ap (λ y. y == cause) e ∙ f)

  -- what COMPLAIN prints
  abbrev complaint : ℕ → List ℕ → List ℕ
  complaint error word =
      if error == 1 then word ++ codes " ?" ++ 10 ∷ []
      else if error == 4 then word ++ codes " stack ?" ++ 10 ∷ []
      else if error == 5 then codes "line too long ?" ++ 10 ∷ []
      else if error == 6 then word ++ codes " full ?" ++ 10 ∷ []
      else []

  abbrev last_told : Nodes
  last_told = items (Text text.Print long_text 15 ∷ Plain Cr ∷ [])

  abbrev rest_of : ℕ → Nodes
  rest_of n = skip n complain_body

  abbrev Complains : World → List ℕ → Type 0
  Complains w told = Says 27 (1278 + 80 * data_byte w word_buffer) (before complain_body []) w (before (rest_of 20) []) told

  complains : (w : World) → IsDataSpace w → HasTexts w → Complains w (complaint (data_cell w error_cell) (word_read w))
  complains w h t = by_cases (data_cell w error_cell == 1)
      (λ f1.
      let e = eqb-true (data_cell w error_cell) 1 f1 in
      let s = says w unknown_text 2 (before (rest_of 5) []) h (omega arith) (omega arith) (omega arith) in
      let h' = space_kept _ w s.after s.is h in
      let e' = cell_same _ w s.after s.is error_cell ∙ e in
      told (word_read w ++ data_bytes w 2 unknown_text ++ 10 ∷ [])
      (ap (λ x. complaint x (word_read w)) e ∙ ap (λ b. word_read w ++ b ++ 10 ∷ []) (sym t.unknown))
      s.after s.is
      (λ work es callers. followed p (is_it work es callers w 1 (said unknown_text 2) (rest_of 5) h f1)
      (followed p (s.way work es callers) (followed p (other work es callers s.after 1 4 (said stack_text 8) (rest_of 10) h' e' refl)
      (followed p (other work es callers s.after 1 5 last_told (rest_of 15) h' e' refl)
      (other work es callers s.after 1 6 (said full_text 7) (rest_of 20) h' e' refl))))) (omega arith) (omega arith))
      (λ f1. by_cases (data_cell w error_cell == 4)
      (λ f4.
      let e = eqb-true (data_cell w error_cell) 4 f4 in
      let s = says w stack_text 8 (before (rest_of 10) []) h (omega arith) (omega arith) (omega arith) in
      let h' = space_kept _ w s.after s.is h in
      let e' = cell_same _ w s.after s.is error_cell ∙ e in
      told (word_read w ++ data_bytes w 8 stack_text ++ 10 ∷ [])
      (ap (λ x. complaint x (word_read w)) e ∙ ap (λ b. word_read w ++ b ++ 10 ∷ []) (sym t.stack))
      s.after s.is
      (λ work es callers. followed p (is_not work es callers w 1 (said unknown_text 2) (rest_of 5) h f1)
      (followed p (is_it work es callers w 4 (said stack_text 8) (rest_of 10) h f4) (followed p (s.way work es callers)
      (followed p (other work es callers s.after 4 5 last_told (rest_of 15) h' e' refl)
      (other work es callers s.after 4 6 (said full_text 7) (rest_of 20) h' e' refl))))) (omega arith) (omega arith))
      (λ f4. by_cases (data_cell w error_cell == 5)
      (λ f5.
      let e = eqb-true (data_cell w error_cell) 5 f5 in
      let s = tells w long_text 15 (before (rest_of 15) []) h (omega arith) (omega arith) (omega arith) in
      let h' = space_kept _ w s.after s.is h in
      let e' = cell_same _ w s.after s.is error_cell ∙ e in
      told (data_bytes w 15 long_text ++ 10 ∷ []) (ap (λ x. complaint x (word_read w)) e ∙ ap (λ b. b ++ 10 ∷ []) (sym t.long))
      s.after s.is
      (λ work es callers. followed p (is_not work es callers w 1 (said unknown_text 2) (rest_of 5) h f1)
      (followed p (is_not work es callers w 4 (said stack_text 8) (rest_of 10) h f4)
      (followed p (is_it work es callers w 5 last_told (rest_of 15) h f5)
      (followed p (s.way work es callers) (other work es callers s.after 5 6 (said full_text 7) (rest_of 20) h' e' refl)))))
      (omega arith) (omega arith))
      (λ f5. by_cases (data_cell w error_cell == 6)
      (λ f6.
      let e = eqb-true (data_cell w error_cell) 6 f6 in
      let s = says w full_text 7 (before (rest_of 20) []) h (omega arith) (omega arith) (omega arith) in
      told (word_read w ++ data_bytes w 7 full_text ++ 10 ∷ [])
      (ap (λ x. complaint x (word_read w)) e ∙ ap (λ b. word_read w ++ b ++ 10 ∷ []) (sym t.full))
      s.after s.is
      (λ work es callers. followed p (is_not work es callers w 1 (said unknown_text 2) (rest_of 5) h f1)
      (followed p (is_not work es callers w 4 (said stack_text 8) (rest_of 10) h f4)
      (followed p (is_not work es callers w 5 last_told (rest_of 15) h f5)
      (followed p (is_it work es callers w 6 (said full_text 7) (rest_of 20) h f6) (s.way work es callers))))) (omega arith)
      (omega arith))
      (λ f6.
      told [] (rw (f1, f4, f5, f6) refl) w (record { start = refl; cells = refl; input = refl; printed = nothing_more w.printed })
      (λ work es callers. followed p (is_not work es callers w 1 (said unknown_text 2) (rest_of 5) h f1)
      (followed p (is_not work es callers w 4 (said stack_text 8) (rest_of 10) h f4)
      (followed p (is_not work es callers w 5 last_told (rest_of 15) h f5)
      (is_not work es callers w 6 (said full_text 7) (rest_of 20) h f6)))) (omega arith) (omega arith)))))
    where
      told : {m d : ℕ} (words : List ℕ) → complaint (data_cell w error_cell) (word_read w) ≡ words → (v : World) → Prints words w v →
          ((work : List Work) (es : List Entry) (callers : List Frame) →
          Comes p m d (works work es callers (before complain_body []) w) (works work es callers (before (rest_of 20) []) v)) → m ≤ 27 →
          d ≤ 1278 + 80 * data_byte w word_buffer → Complains w (complaint (data_cell w error_cell) (word_read w))
      told {m = m} {d = d} words e v q r f g = record {
        after = v;
        way = λ work es callers. within p m d f g (r work es callers);
        is = subst (λ x. Prints x w v) (sym e) q;
      }

  -- ---- and then the user cells are dropped, and the kernel is set back
  abbrev dropped : ℕ → KernelState → KernelState
  dropped error s = if error == 3 then s else record s { users = 0 }

  record Drops (w : World) (s : KernelState) : Type 0 where
    after : World
    way : (work : List Work) (es : List Entry) (callers : List Frame) →
        Comes p 9 15 (works work es callers (before (rest_of 20) []) w) (works work es callers (before (rest_of 26) []) after)
    input : after.input ≡ w.input
    printed : after.printed ≡ w.printed
    state_is : kernel_state after ≡ s
    others : OnlyChanges (cells_at (user_count_cell ∷ [])) w after

  drops : (w : World) → IsDataSpace w → Drops w (dropped (data_cell w error_cell) (kernel_state w))
  unfolding step steps spent
  drops w h = by_cases (data_cell w error_cell == 3)
      (λ e. record {
        after = w;
        way = λ work es callers.
            by_way p 1 8 13 refl (omega arith) (omega arith)
            (by_word p Fetch 7 12 (reads w error_cell c h (omega arith) (omega arith)) refl (omega arith) (omega arith)
            (by_way p 2 5 9 refl (omega arith) (omega arith) (rw e (by_way p 2 0 0 refl (omega arith) (omega arith) (there p)))));
        input = refl;
        printed = refl;
        state_is = rw e refl;
        others = unchanged (cells_at (user_count_cell ∷ [])) w h;
      })
      (λ e.
      let q = after_store w user_count_cell 0 h (omega arith) in
      record {
        after = with_data_cell user_count_cell 0 w;
        way = λ work es callers.
            by_way p 1 8 13 refl (omega arith) (omega arith)
            (by_word p Fetch 7 12 (reads w error_cell c h (omega arith) (omega arith)) refl (omega arith) (omega arith)
            (by_way p 2 5 9 refl (omega arith) (omega arith) (rw e (by_way p 4 1 2 refl (omega arith) (omega arith)
            (by_word p Store 0 0 (writes w user_count_cell 0 c h (omega arith) (omega arith)) refl (omega arith) (omega arith)
            (there p))))));
        input = q.input;
        printed = q.printed;
        state_is = rw e (state_stored w user_count_cell 0 h refl);
        others = cell_changes w user_count_cell 0 h (omega arith) refl;
      })

  complain_does : (w : World) → IsDataSpace w → HasTexts w →
      Does p complain_body 67 (1350 + 80 * data_byte w word_buffer) c w c w.input (complaint (data_cell w error_cell) (word_read w))
      (set_back (dropped (data_cell w error_cell) (kernel_state w))) (cells_at (user_count_cell ∷ set_back_cells))
  unfolding step steps spent
  complain_does w h t =
      let s = complains w h t in
      let h1 = space_kept _ w s.after s.is h in
      let d = drops s.after h1 in
      let r = kernel_is_set_back p c d.after k d.others.space in
      record {
        after = r.after;
        run = λ work es callers. within p (27 + (9 + 31)) (1278 + 80 * data_byte w word_buffer + (15 + 56)) (omega arith) (omega arith)
            (followed p {m = 40} {d = 71} (s.way work es callers) (followed p {m = 31} {d = 56} (d.way work es callers)
            (by_call p reset_place 29 54 1 1 k.reset r.run refl (omega arith) (omega arith)
            (by_way p 1 0 0 refl (omega arith) (omega arith) (there p)))));
        input = r.input ∙ d.input ∙ s.is.input;
        printed = r.printed ∙ sym (nothing_more d.after.printed) ∙ d.printed ∙ s.is.printed;
        state_is = r.state_is ∙ ap set_back (d.state_is ∙ ap₂ dropped (cell_same _ w s.after s.is error_cell)
            (state_same _ w s.after s.is h));
        others = changes_then [] (cells_at (user_count_cell ∷ set_back_cells)) w s.after r.after (nothing_changes _ w s.after s.is h)
            (changes_then (cells_at (user_count_cell ∷ [])) (cells_at set_back_cells) s.after d.after r.after d.others r.others);
      }

  -- ---- REPLY
  well_text_printed : (w : World) → IsDataSpace w → Printed (data_bytes w 3 well_text) w (type_out 3 well_text w)
  well_text_printed w h = text_printed 3 well_text w h (omega arith) (omega arith)

  reply_does : (w : World) (h : IsDataSpace w) → HasTexts w →
      Does p reply_body 80 (1600 + 80 * data_byte w word_buffer) c w c w.input (reply_text (data_cell w error_cell) (word_read w))
      (replied (kernel_state w)) (cells_at (user_count_cell ∷ set_back_cells))
  unfolding step steps spent
  reply_does w h t = by_zero (data_cell w error_cell)
      (λ e.
      let one = well_text_printed w h in
      let two = line_feed one.after in
      let is = prints_then (data_bytes w 3 well_text) (10 ∷ []) w one.after two.after one.is two.is in
      record {
        after = two.after;
        run = λ work es callers.
            by_way p 1 79 1590 refl (omega arith) (omega arith)
            (by_word p Fetch 78 1580 (reads w error_cell c h (omega arith) (omega arith)) refl (omega arith) (omega arith) (rw e
            (by_way p 1 77 1570 refl (omega arith) (omega arith)
            (by_text p well_text 3 76 1000 one.prints refl (omega arith) (omega arith)
            (by_word p Cr 75 900 (ap (λ r. r ▸ λ _. Gives c) two.prints) refl (omega arith) (omega arith)
            (by_way p 1 0 0 refl (omega arith) (omega arith) (there p)))))));
        input = is.input;
        printed = is.printed ∙ ap (λ b. w.printed ++ b) (ap (λ b. b ++ 10 ∷ []) t.well ∙ ap (λ x. reply_text x (word_read w)) (sym e));
        state_is = state_same _ w two.after is h ∙ ap (λ x. if x == 0 then kernel_state w else set_back (dropped x (kernel_state w)))
            (sym e);
        others = changes_before [] (cells_at (user_count_cell ∷ set_back_cells)) w two.after (nothing_changes _ w two.after is h);
      })
      (λ n e no.
      let d = complain_does w h t in
      record {
        after = d.after;
        run = λ work es callers.
            by_way p 1 79 (1590 + 80 * data_byte w word_buffer) refl (omega arith) (omega arith)
            (by_word p Fetch 78 (1580 + 80 * data_byte w word_buffer) (reads w error_cell c h (omega arith) (omega arith)) refl
            (omega arith) (omega arith) (rw e
            (by_way p 1 77 (1570 + 80 * data_byte w word_buffer) refl (omega arith) (omega arith)
            (by_call p complain_place 67 (1350 + 80 * data_byte w word_buffer) 2 2 k.complain d.run refl (omega arith) (omega arith)
            (by_way p 2 0 0 refl (omega arith) (omega arith) (there p))))));
        input = d.input;
        printed = d.printed ∙ ap (λ b. w.printed ++ (if b then codes " ok" ++ 10 ∷ []
            else complaint (data_cell w error_cell) (word_read w))) (sym no);
        state_is = d.state_is ∙ ap (λ b. if b then kernel_state w else set_back (dropped (data_cell w error_cell) (kernel_state w)))
            (sym no);
        others = d.others;
      })

pub replies_are_given : RepliesAreGiven
replies_are_given p c w k h t = reply_does p k c w h t
