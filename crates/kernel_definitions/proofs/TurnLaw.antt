-- A turn of INTERPRET's loop with a word of an open definition.
use Rattle.std.proofs.Common.{◌≡◌, ◌⊎◌, inl, inr, ℕ, suc, ◌+◌, ◌-◌, ◌*◌, ◌%◌, ◌≤◌, ◌<◌, List, ◌∷◌, length, refl, ap, sym, ◌∙◌, subst, arith}
use Rattle.std.proofs.Common.{le-ltb, lt-ltb}
use Rattle.cell_math.specs.Cell.{flag}
use Rattle.word_table.specs.declared.word.Word.TheVariants.{CFetch, Fetch, Here, ULess}
use Rattle.forth_program.specs.State.{Entry, World, Frame, Work, Gives}
use Rattle.forth_program.specs.Program.{SourceProgram}
use Rattle.forth_program.specs.Step.{step}
use Rattle.forth_program.specs.Run.{steps}
use Rattle.forth_program.specs.Price.{spent}
use Rattle.kernel_words.specs.Places.{base_cell, here_cell, length_cell, latest_cell, reached_cell, word_buffer, source_cell, error_cell}
use Rattle.kernel_words.specs.Places.{next_word_place}
use Rattle.kernel_words.specs.Bodies.{next_word_body}
use Rattle.kernel_words.specs.Running.{Comes, Returns}
use Rattle.kernel_words.specs.Memory.{IsDataSpace, data_cell, data_byte, data_bytes}
use Rattle.kernel_words.specs.Laws.{kept_size, WordIsKept, NextWordsAreKept}
use Rattle.kernel_words.proofs.Runs.{by_way, by_word, by_call, there, within}
use Rattle.kernel_words.proofs.Memory.{reads, reads_byte, cell_alike, console_then}
use Rattle.kernel_words.proofs.Laying.{reads_here}
use Rattle.kernel_lines.specs.Places.{state_cell, new_cell, first_here_cell, user_count_cell, interpret_word_place, check_place}
use Rattle.kernel_lines.specs.Places.{keep_places_place}
use Rattle.kernel_lines.specs.Bodies.{check_body, keep_places_body}
use Rattle.kernel_definitions.specs.Bodies.{HasDefiningWords, interpret_word_body}
use Rattle.kernel_definitions.specs.OpenDefinition.{end_of, IsOpen, IsOutside}
use Rattle.kernel_definitions.specs.Compiling.{IsRead, KeepsDefinition}
use Rattle.kernel_definitions.specs.Interpreting.{StandsFor, text_at, TextsAreRead}
use Rattle.kernel_definitions.specs.Turns.{before_test, TurnsAreComposed, ChecksPass, PlacesWait, TurnsAreMade}
use Rattle.kernel_definitions.proofs.Standing.{byte_alike, inner_least}
use Rattle.kernel_definitions.proofs.Reading.{ends, less_one}
use Rattle.kernel_definitions.proofs.WordLaw.{open_stays}
use Rattle.kernel_definitions.proofs.ColonLaw.{alike_by_bytes, bytes_alike}

module _ (p : SourceProgram) (d : HasDefiningWords p) where
  pub check_returns : (c : List ℕ) (w : World) → IsDataSpace w → data_cell w user_count_cell ≤ 20 →
      data_cell w first_here_cell ≤ data_cell w here_cell → data_cell w here_cell ≤ 16288 → Returns p check_body 15 21 c w c w
  unfolding step steps spent
  check_returns c w s users first here work es callers =
      by_way p 2 13 17 refl (omega arith) (omega arith)
      (by_word p Fetch 12 16 (reads w user_count_cell (20 ∷ c) s (omega arith) (omega arith)) refl (omega arith) (omega arith)
      (by_word p ULess 11 15 (ap (λ t. Gives (flag t ∷ c) w) (le-ltb 20 (data_cell w user_count_cell) users)) refl (omega arith)
      (omega arith)
      (by_way p 1 10 14 refl (omega arith) (omega arith)
      (by_word p Here 9 12 (reads_here c w s) refl (omega arith) (omega arith)
      (by_way p 1 8 10 refl (omega arith) (omega arith)
      (by_word p Fetch 7 9 (reads w first_here_cell (data_cell w here_cell ∷ c) s (omega arith) (omega arith)) refl (omega arith)
      (omega arith)
      (by_word p ULess 6 8 (ap (λ t. Gives (flag t ∷ c) w) (le-ltb (data_cell w here_cell) (data_cell w first_here_cell) first)) refl
      (omega arith) (omega arith)
      (by_way p 1 5 6 refl (omega arith) (omega arith)
      (by_word p Here 4 4 (reads_here (16288 ∷ 0 ∷ c) w s) refl (omega arith) (omega arith)
      (by_word p ULess 3 3 (ap (λ t. Gives (flag t ∷ 0 ∷ c) w) (le-ltb 16288 (data_cell w here_cell) here)) refl (omega arith) (omega arith)
      (by_way p 3 0 0 refl (omega arith) (omega arith) (there p))))))))))))

  -- while a definition is open, no place is kept
  pub keep_returns : (h : ℕ) (c : List ℕ) (w : World) → IsDataSpace w → data_cell w error_cell ≡ 0 → data_cell w new_cell ≡ suc h →
      Returns p keep_places_body 7 9 c w c w
  unfolding step steps spent
  keep_returns h c w s error new work es callers =
      by_way p 1 6 7 refl (omega arith) (omega arith)
      (by_word p Fetch 5 6 (reads w error_cell c s (omega arith) (omega arith) ∙ ap (λ y. Gives (y ∷ c) w) error) refl (omega arith)
      (omega arith)
      (by_way p 2 3 3 refl (omega arith) (omega arith)
      (by_word p Fetch 2 2 (reads w new_cell c s (omega arith) (omega arith) ∙ ap (λ y. Gives (y ∷ c) w) new) refl (omega arith)
      (omega arith)
      (by_way p 2 0 0 refl (omega arith) (omega arith) (there p)))))

  -- a turn, from what its words do
  pub turn_comes : (i j n b k l m o size : ℕ) (c : List ℕ) (w w1 w2 w3 w4 : World) → IsDataSpace w → IsDataSpace w1 →
      data_cell w error_cell ≡ 0 → Returns p next_word_body i j c w (word_buffer ∷ c) w1 → data_byte w1 word_buffer ≡ suc size →
      Returns p interpret_word_body n b (word_buffer ∷ c) w1 (0 ∷ c) w2 → Returns p check_body k l c w2 c w3 →
      Returns p keep_places_body m o c w3 c w4 →
      (work : List Work) (es : List Entry) (callers : List Frame) →
      Comes p (13 + i + n + k + m) (49 + j + b + l + o) (before_test work es callers c w) (before_test work es callers c w4)
  unfolding step steps spent
  turn_comes i j n b k l m o size c w w1 w2 w3 w4 s s1 error next count text check keep work es callers =
      by_way p 1 (12 + i + n + k + m) (47 + j + b + l + o) refl (omega arith) (omega arith)
      (by_word p Fetch (11 + i + n + k + m) (46 + j + b + l + o)
      (reads w error_cell c s (omega arith) (omega arith) ∙ ap (λ y. Gives (y ∷ c) w) error) refl (omega arith) (omega arith)
      (by_way p 1 (10 + i + n + k + m) (45 + j + b + l + o) refl (omega arith) (omega arith)
      (by_call p next_word_place i j (9 + n + k + m) (44 + b + l + o) d.kernel.next_word next refl (omega arith) (omega arith)
      (by_word p CFetch (8 + n + k + m) (20 + b + l + o)
      (reads_byte w1 word_buffer c s1 (omega arith) (omega arith) ∙ ap (λ y. Gives (y ∷ c) w1) count) refl (omega arith) (omega arith)
      (by_way p 2 (6 + n + k + m) (17 + b + l + o) refl (omega arith) (omega arith)
      (by_call p interpret_word_place n b (5 + k + m) (16 + l + o) d.interpret_word text refl (omega arith) (omega arith)
      (by_way p 2 (3 + k + m) (3 + l + o) refl (omega arith) (omega arith)
      (by_call p check_place k l (2 + m) (2 + o) d.interpreter.check check refl (omega arith) (omega arith)
      (by_call p keep_places_place m o 1 1 d.interpreter.keep_places keep refl (omega arith) (omega arith)
      (by_way p 1 0 0 refl (omega arith) (omega arith) (there p)))))))))))

pub turns_are_composed : TurnsAreComposed
turns_are_composed p i j n b k l m o size c w w1 w2 w3 w4 d = turn_comes p d i j n b k l m o size c w w1 w2 w3 w4

pub checks_pass : ChecksPass
checks_pass p c w d = check_returns p d c w

pub places_wait : PlacesWait
places_wait p h c w d = keep_returns p d h c w

pub whole : (n : ℕ) → n ≤ 80 → kept_size n ≡ n
whole n f = elim (last n f) as (λ _. kept_size n ≡ n) [
  | inl less ↦ rw (lt-ltb n 80 less) refl
  | inr same ↦ rw
      (le-ltb n 80 (omega (arith, same))) (sym same)
]
  where
    last : (n : ℕ) → n ≤ 80 → (n < 80) ⊎ (n ≡ 80)
    last n f = grind arith

module _ (texts : TextsAreRead) (p : SourceProgram) (d : HasDefiningWords p) (c : List ℕ) (w : World) (first size : ℕ) (few : size ≤ 80)
    (most highest start : ℕ)
    (t : WordIsKept p next_word_body most highest c c w start first size size) where
  -- a cell that NEXT-WORD keeps
  pub kept_cell : (b : ℕ) → b % 2 ≡ 0 → 8192 ≤ b → (b < 8402) ⊎ ((8404 ≤ b) × (b < 8406)) ⊎ (8488 ≤ b) → data_cell t.after b ≡ data_cell w b
  kept_cell b e low (inl under) = cell_alike t.after w b e
      (t.rest b low (λ z. omega (arith, z, under, e)) (λ i f z. omega (arith, z, under)))
      (t.rest (suc b) (omega (arith, low)) (λ z. omega (arith, z, under, e)) (λ i f z. omega (arith, z, under)))
  kept_cell b e low (inr (inl both)) =
      let f = both.0 in
      let g = both.1 in
      cell_alike t.after w b e (t.rest b low (λ z. omega (arith, z, f, e)) (λ i k z. omega (arith, z, g)))
      (t.rest (suc b) (omega (arith, low)) (λ z. omega (arith, z, f, e)) (λ i k z. omega (arith, z, g, e)))
  kept_cell b e low (inr (inr over)) = cell_alike t.after w b e
      (t.rest b low (λ z. omega (arith, z, over, e)) (λ i f z. omega (arith, z, over, f, few)))
      (t.rest (suc b) (omega (arith, low)) (λ z. omega (arith, z, over, e)) (λ i f z. omega (arith, z, over, f, few)))

  pub definition_kept : (end : ℕ) → end % 2 ≡ 0 → KeepsDefinition w t.after end
  definition_kept end even = record {
    space = t.console.space;
    here = kept_cell here_cell refl (omega arith) (inl (omega arith));
    latest = kept_cell latest_cell refl (omega arith) (inr (inl (omega arith, omega arith)));
    state = kept_cell state_cell refl (omega arith) (inr (inr (omega arith)));
    header = kept_cell new_cell refl (omega arith) (inr (inr (omega arith)));
    structures = alike_by_bytes t.after w 8568 8634 refl refl
        (λ b f g. t.rest b (omega (arith, f)) (λ z. omega (arith, z, f)) (λ i k z. omega (arith, z, f, k, few)));
    code = alike_by_bytes t.after w 8640 end refl even (λ b f g. t.rest b (omega (arith, f)) (λ z. omega (arith, z, f))
        (λ i k z. omega (arith, z, f, k, few)));
  }

  pub text_is : text_at t.after word_buffer ≡ data_bytes w size first
  text_is = ap (λ n. data_bytes t.after n (word_buffer + 1)) t.count ∙ bytes_alike t.after w size (word_buffer + 1) first t.bytes

-- what lies before the structures is outside
pub before_structures : (a end b : ℕ) → 8640 ≤ a → 8198 ≤ b → b < 8568 → IsOutside a end b
before_structures a end b low f g = record {
  low = omega (arith, f);
  here = λ z. omega (arith, z, f);
  entries = inl g;
  code = inl (omega (arith, low, g));
}

pub turns_are_made : NextWordsAreKept → TextsAreRead → TurnsAreMade
turns_are_made words texts p word c w first size h a name older items next d f o e room entries first_here m s =
    let few = m.few in
    let t : WordIsKept p next_word_body (400 * (data_cell w length_cell + 1)) (300 + 250 * data_cell w length_cell) c c w
    (data_cell w source_cell) first size size =
    subst (λ k. WordIsKept p next_word_body (400 * (data_cell w length_cell + 1)) (300 + 250 * data_cell w length_cell) c c w
    (data_cell w source_cell) first size k) (whole size few)
    (words p c w first size d.kernel o.space m.source m.apart m.word) in
    let kept = kept_cell texts p d c w first size few (400 * (data_cell w length_cell + 1)) (300 + 250 * data_cell w length_cell)
    (data_cell w source_cell) t in
    let at = ends items.around items.done a o.even in
    let o1 : IsOpen t.after h a name older items = open_stays t.after w h a name older items o
    (definition_kept texts p d c w first size few (400 * (data_cell w length_cell + 1)) (300 + 250 * data_cell w length_cell)
    (data_cell w source_cell) t (end_of items a) at.even_end) in
    let base : data_cell t.after base_cell ≡ data_cell w base_cell = kept base_cell refl (omega arith) (inl (omega arith)) in
    let low = o.low in
    let count = t.count in
    let base_low = m.base_low in
    let base_high = m.base_high in
    let r : IsRead p interpret_word_body (4000 * (length older + 1) + 1000 * (data_byte t.after word_buffer + 1) + 200)
    (4000 * (length older + 1) + 1300 * (data_byte t.after word_buffer + 1) + 500) (word_buffer ∷ c) t.after
    (0 ∷ c) h a name older next =
    texts p word word_buffer c t.after h a name older items next d f o1 e (omega (arith, room)) entries (omega (arith, base, base_low))
    (omega (arith, base, base_high)) (omega arith) (omega (arith, count, few))
    (subst (λ radix. StandsFor older radix (text_at t.after word_buffer) word) (sym base)
    (subst (λ text. StandsFor older (data_cell w base_cell) text word)
    (sym (text_is texts p d c w first size few (400 * (data_cell w length_cell + 1)) (300 + 250 * data_cell w length_cell)
    (data_cell w source_cell) t)) s)) in
    let least = inner_least next.around a in
    let users : data_cell r.after user_count_cell ≡ data_cell w user_count_cell =
    r.rest user_count_cell (before_structures a (end_of next a) user_count_cell low (omega arith) (omega arith))
    ∙ kept user_count_cell refl (omega arith) (inr (inr (omega arith))) in
    let first_place : data_cell r.after first_here_cell ≡ data_cell w first_here_cell =
    r.rest first_here_cell (before_structures a (end_of next a) first_here_cell low (omega arith) (omega arith))
    ∙ kept first_here_cell refl (omega arith) (inr (inr (omega arith))) in
    let error : data_cell r.after error_cell ≡ 0 = r.rest error_cell
    (before_structures a (end_of next a) error_cell low (omega arith) (omega arith))
    ∙ kept error_cell refl (omega arith) (inr (inr (omega arith))) ∙ m.no_error in
    let here = r.still_open.here in
    let at_most = m.users in
    record {
      after = r.after;
      run = λ work es callers. within p (13 + 400 * (data_cell w length_cell + 1)
          + (4000 * (length older + 1) + 1000 * (data_byte t.after word_buffer + 1) + 200) + 15 + 7)
          (49 + (300 + 250 * data_cell w length_cell) + (4000 * (length older + 1) + 1300 * (data_byte t.after word_buffer + 1) + 500) + 21
          + 9) (omega (arith, count)) (omega (arith, count))
          (turn_comes p d (400 * (data_cell w length_cell + 1)) (300 + 250 * data_cell w length_cell)
          (4000 * (length older + 1) + 1000 * (data_byte t.after word_buffer + 1) + 200)
          (4000 * (length older + 1) + 1300 * (data_byte t.after word_buffer + 1) + 500) 15 21 7 9
          (size - 1) c w t.after r.after r.after r.after o.space t.console.space m.no_error t.run (t.count ∙ less_one size m.some) r.run
          (check_returns p d c r.after r.console.space (omega (arith, users, at_most)) (omega (arith, first_place, first_here, here, least))
          (omega (arith, here, room)))
          (keep_returns p d (h - 1) c r.after r.console.space error (r.still_open.new ∙ less_one h o.some)) work es callers);
      console = console_then w t.after r.after t.console r.console;
      still_open = r.still_open;
      place = r.rest reached_cell (before_structures a (end_of next a) reached_cell low (omega arith) (omega arith)) ∙ t.place;
      rest = λ b out not_reached not_word. byte_alike r.after t.after b (r.rest b out) ∙ t.rest b out.low not_reached not_word;
    }
