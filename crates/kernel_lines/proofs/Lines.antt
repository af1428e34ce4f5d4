-- ONE-LINE and MAIN.
use Rattle.std.proofs.Common.{◌≡◌, inl, ℕ, ◌+◌, ◌-◌, ◌*◌, ◌≤◌, ◌<◌, List, [], ◌∷◌, ◌++◌, length, refl, ap, ap₂, sym, ◌∙◌, arith}
use Rattle.word_table.specs.declared.word.Word.TheVariants.{Store}
use Rattle.forth_program.specs.Tree.{Nodes}
use Rattle.forth_program.specs.State.{World, State, Work, Goes}
use Rattle.forth_program.specs.Program.{SourceProgram, body_of}
use Rattle.forth_program.specs.Step.{before, called, step}
use Rattle.forth_program.specs.Run.{steps, and_then}
use Rattle.forth_program.specs.Price.{spent, step_price}
use Rattle.kernel_words.specs.Places.{length_cell, reached_cell, source_cell, error_cell, line_buffer, word_buffer}
use Rattle.kernel_words.specs.Memory.{data_cell, data_byte, data_bytes}
use Rattle.kernel_words.specs.Running.{Comes}
use Rattle.kernel_words.proofs.Runs.{by_way, by_word, by_call, there, within, followed}
use Rattle.kernel_words.proofs.Memory.{writes, byte_kept}
use Rattle.kernel_lines.specs.Places.{level_cell, read_line_place, interpret_place, reply_place, reset_place, one_line_place}
use Rattle.kernel_lines.specs.Bodies.{HasLines}
use Rattle.kernel_lines.specs.State.{cells_at}
use Rattle.kernel_lines.specs.Words.{kept_line}
use Rattle.kernel_lines.specs.Laws.{LineIsRead}
use Rattle.kernel_lines.specs.Main.{LinesAreDone, Line, LinesFollow, last_world, most_steps, whole_price, main_goes_on}
use Rattle.kernel_lines.specs.Main.{MainRepeatsLines, MainGoesOn, FirstLineBegins, LinesAreReplied, LinesBegin, LinesHaveEnded}
use Rattle.kernel_lines.proofs.States.{bytes_alike, changes_then}
use Rattle.kernel_lines.proofs.Stores.{stored, states, behind, nothing_more}
use Rattle.kernel_lines.proofs.Replies.{replies_are_given}
use Rattle.kernel_lines.proofs.Reading.{lines_are_read, kept_few}

-- a call of a definition begins
begins_call : (p : SourceProgram) {n b : ℕ} {s u : State} {after : List Work} {body : Nodes} (definition m d : ℕ) →
    body_of p definition ≡ body →
    step p s ≡ Goes (called p definition (record s { work = after })) → 1 + m ≤ n → step_price s + d ≤ b →
    Comes p m d (record s { work = before body []; entries = []; callers = record { work = after; entries = s.entries } ∷ s.callers }) u →
    Comes p n b s u
unfolding steps spent
begins_call p {s = s} {after = after} definition m d same e f g r =
    within p (1 + m) (step_price s + d) f g (followed p
    (record {
      count = 1;
      run = ap (λ o. and_then o (steps p 0))
          (e ∙ ap (λ z. Goes (record s {
            work = before z [];
            entries = [];
            callers = record { work = after; entries = s.entries } ∷ s.callers;
          })) same);
      few = omega arith;
      paid = rw e (omega arith);
    })
    r)

abbrev set_up : List (ℕ × ℕ)
set_up = (source_cell, line_buffer) ∷ (reached_cell, 0) ∷ (level_cell, 0) ∷ []

pub lines_are_done : LinesAreDone
unfolding step steps spent
lines_are_done p c w typed left k h t e =
    let r : LineIsRead p c w typed left = lines_are_read p c w typed left k h t e in
    let v = r.does.after in
    let hv = r.does.others.space in
    let zero_fits : 0 < 65536 = omega arith in
    let line_fits : line_buffer < 65536 = omega arith in
    let b1 = behind ((source_cell, line_buffer) ∷ []) v hv (refl, line_fits, tt) in
    let b2 = behind ((source_cell, line_buffer) ∷ (reached_cell, 0) ∷ []) v hv (refl, line_fits, (refl, zero_fits, tt)) in
    let b = behind set_up v hv (refl, line_fits, (refl, zero_fits, (refl, zero_fits, tt))) in
    let u = stored set_up v in
    let few = kept_few 80 typed in
    let su = b.state ∙ ap (states set_up) r.does.state_is in
    let size : data_cell u length_cell ≡ length (kept_line 80 typed) = ap (λ s. s.size) su in
    let reached : data_cell u reached_cell ≡ 0 = ap (λ s. s.reached) su in
    let start : data_cell u source_cell ≡ line_buffer = ap (λ s. s.start) su in
    record {
      ready = u;
      input = b.console.input ∙ r.does.input;
      printed = b.console.printed ∙ no_more w.printed v.printed r.does.printed;
      state_is = su;
      line = ap₂ (λ n a. data_bytes u n a) (less (data_cell u length_cell) (data_cell u reached_cell) reached ∙ size)
          (ap₂ (λ x y. x + y) start reached)
          ∙ bytes_alike v u (length (kept_line 80 typed)) line_buffer
          (λ a low high. byte_kept (stored ((source_cell, line_buffer) ∷ (reached_cell, 0) ∷ []) v) level_cell a 0 (omega arith)
          (omega (arith, low)) (λ f. omega (arith, f, high, few))
          ∙ byte_kept (stored ((source_cell, line_buffer) ∷ []) v) reached_cell a 0 (omega arith) (omega (arith, low))
          (λ f. omega (arith, f, high, few))
          ∙ byte_kept v source_cell a line_buffer (omega arith) (omega (arith, low)) (λ f. omega (arith, f, high, few)))
          ∙ r.line;
      source = record { low = omega (arith, start); high = omega (arith, start, size, few); place = omega (arith, reached) };
      apart = inl (omega (arith, start, size, few));
      others = changes_then ((line_buffer, 80) ∷ cells_at (error_cell ∷ length_cell ∷ []))
          (cells_at (source_cell ∷ reached_cell ∷ level_cell ∷ [])) w v u r.does.others b.others;
      begins = λ work es callers.
          by_call p read_line_place (20 + 24 * length typed) (30 + 120 * length typed) 10 19 k.read_line r.does.run refl (omega arith)
          (omega arith)
          (by_way p 2 8 15 refl (omega arith) (omega arith)
          (by_word p Store 7 13 (writes v source_cell line_buffer c hv (omega arith) (omega arith)) refl (omega arith) (omega arith)
          (by_way p 2 5 9 refl (omega arith) (omega arith)
          (by_word p Store 4 7 (writes (stored ((source_cell, line_buffer) ∷ []) v) reached_cell 0 c b1.console.space (omega arith)
          (omega arith)) refl (omega arith) (omega arith)
          (by_way p 2 2 3 refl (omega arith) (omega arith)
          (by_word p Store 1 1 (writes (stored ((source_cell, line_buffer) ∷ (reached_cell, 0) ∷ []) v) level_cell 0 c b2.console.space
          (omega arith) (omega arith)) refl (omega arith) (omega arith)
          (begins_call p interpret_place 0 0 k.interpreter.interpret refl (omega arith) (omega arith) (there p))))))));
      ends = λ most highest done interprets hd texts.
          let reply = replies_are_given p c done k hd texts in
          record {
            after = reply.after;
            run = λ work es callers.
                by_call p read_line_place (20 + 24 * length typed) (30 + 120 * length typed) (92 + most)
                (1621 + 80 * data_byte done word_buffer + highest) k.read_line r.does.run refl (omega arith) (omega arith)
                (by_way p 2 (90 + most) (1617 + 80 * data_byte done word_buffer + highest) refl (omega arith) (omega arith)
                (by_word p Store (89 + most) (1615 + 80 * data_byte done word_buffer + highest)
                (writes v source_cell line_buffer c hv (omega arith) (omega arith)) refl (omega arith) (omega arith)
                (by_way p 2 (87 + most) (1611 + 80 * data_byte done word_buffer + highest) refl (omega arith) (omega arith)
                (by_word p Store (86 + most) (1609 + 80 * data_byte done word_buffer + highest)
                (writes (stored ((source_cell, line_buffer) ∷ []) v) reached_cell 0 c b1.console.space (omega arith) (omega arith)) refl
                (omega arith) (omega arith)
                (by_way p 2 (84 + most) (1605 + 80 * data_byte done word_buffer + highest) refl (omega arith) (omega arith)
                (by_word p Store (83 + most) (1603 + 80 * data_byte done word_buffer + highest)
                (writes (stored ((source_cell, line_buffer) ∷ (reached_cell, 0) ∷ []) v) level_cell 0 c b2.console.space (omega arith)
                (omega arith)) refl (omega arith) (omega arith)
                (by_call p interpret_place most highest 82 (1602 + 80 * data_byte done word_buffer) k.interpreter.interpret interprets refl
                (omega arith) (omega arith)
                (by_call p reply_place 80 (1600 + 80 * data_byte done word_buffer) 1 1 k.reply reply.run refl (omega arith) (omega arith)
                (by_way p 1 0 0 refl (omega arith) (omega arith) (there p))))))))));
            input = reply.input;
            printed = reply.printed;
            state_is = reply.state_is;
            others = reply.others;
          };
    }
  where
    less : (l n : ℕ) → n ≡ 0 → l - n ≡ l
    less l n e = omega (arith, e)

    no_more : (old new : List ℕ) → new ≡ old ++ [] → new ≡ old
    no_more old new e = e ∙ sym (nothing_more old)

-- ---- MAIN
module _ (p : SourceProgram) (k : HasLines p) where
  pub main_goes_on_so : (w : World) (lines : List Line) → LinesFollow p w lines →
      Comes p (most_steps lines) (whole_price lines) (main_goes_on w) (main_goes_on (last_world w lines))
  unfolding step steps spent
  main_goes_on_so w [] f = there p
  main_goes_on_so w (line ∷ lines) f =
      by_call p one_line_place line.most line.highest (2 + most_steps lines) (3 + whole_price lines) k.one_line f.0 refl (omega arith)
      (omega arith)
      (by_way p 2 (most_steps lines) (whole_price lines) refl (omega arith) (omega arith) (main_goes_on_so line.after lines f.1))

pub main_goes_on_law : MainGoesOn
main_goes_on_law p w lines k f = main_goes_on_so p k w lines f

pub main_repeats_lines : MainRepeatsLines
unfolding step steps spent
main_repeats_lines p w k h back line lines f =
    by_call p reset_place 29 54 (most_steps (line ∷ lines)) (whole_price (line ∷ lines)) k.reset back.run refl (omega arith) (omega arith)
    (by_call p one_line_place line.most line.highest (2 + most_steps lines) (3 + whole_price lines) k.one_line f.0 refl (omega arith)
    (omega arith)
    (by_way p 2 (most_steps lines) (whole_price lines) refl (omega arith) (omega arith) (main_goes_on_so p k line.after lines f.1)))

-- ---- around a line
pub lines_are_replied : LinesAreReplied
unfolding step steps spent
lines_are_replied p c done k reply work es callers =
    by_call p reply_place 80 (1600 + 80 * data_byte done word_buffer) 1 1 k.reply reply.run refl (omega arith) (omega arith)
    (by_way p 1 0 0 refl (omega arith) (omega arith) (there p))

pub first_line_begins : FirstLineBegins
unfolding step steps spent
first_line_begins p w k back =
    by_call p reset_place 29 54 1 1 k.reset back.run refl (omega arith) (omega arith)
    (begins_call p one_line_place 0 0 k.one_line refl (omega arith) (omega arith) (there p))

pub lines_begin : LinesBegin
unfolding step steps spent
lines_begin p w k = begins_call p one_line_place 0 0 k.one_line refl (omega arith) (omega arith) (there p)

pub lines_have_ended : LinesHaveEnded
unfolding step steps spent
lines_have_ended p w = by_way p 2 0 0 refl (omega arith) (omega arith) (there p)
