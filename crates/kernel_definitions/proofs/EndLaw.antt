-- A turn of INTERPRET's loop with `;`.
use Rattle.std.proofs.Common.{◌≡◌, ◌≢◌, inr, ℕ, ◌+◌, ◌-◌, ◌*◌, ◌/◌, ◌≤◌, ◌<◌, false, List, [], ◌∷◌, length, refl, ap, sym, ◌∙◌, subst}
use Rattle.std.proofs.Common.{arith}
use Rattle.word_table.specs.declared.word.Word.TheVariants.{Fetch, Here, Store}
use Rattle.forth_program.specs.State.{World, Gives}
use Rattle.forth_program.specs.Program.{SourceProgram}
use Rattle.forth_program.specs.Step.{step}
use Rattle.forth_program.specs.Run.{steps}
use Rattle.forth_program.specs.Price.{spent}
use Rattle.kernel_words.specs.Places.{here_cell, latest_cell, length_cell, reached_cell, word_buffer, source_cell, error_cell}
use Rattle.kernel_words.specs.Bodies.{next_word_body}
use Rattle.kernel_words.specs.Running.{Returns}
use Rattle.kernel_words.specs.Memory.{IsDataSpace, data_cell}
use Rattle.kernel_words.specs.Laws.{WordIsKept, NextWordsAreKept}
use Rattle.kernel_words.proofs.Runs.{by_way, by_word, there, within}
use Rattle.kernel_words.proofs.Memory.{reads, writes, console_then}
use Rattle.kernel_words.proofs.Laying.{reads_here}
use Rattle.kernel_lines.specs.Places.{state_cell, new_cell, kept_here_cell, kept_latest_cell, first_here_cell, user_count_cell}
use Rattle.kernel_definitions.specs.Places.{code_of_token}
use Rattle.kernel_lines.specs.Bodies.{keep_places_body}
use Rattle.kernel_definitions.specs.Bodies.{interpret_word_body}
use Rattle.kernel_definitions.specs.Stores.{stored}
use Rattle.kernel_definitions.specs.TypedItems.{items_size, typed_cells}
use Rattle.kernel_definitions.specs.OpenDefinition.{IsOpen}
use Rattle.kernel_definitions.specs.Compiling.{IsDefined}
use Rattle.kernel_definitions.specs.Interpreting.{IsFound, text_at, TextsAreRead, SemicolonsAreRead}
use Rattle.kernel_definitions.specs.Ending.{DefinitionsAreKept}
use Rattle.kernel_definitions.proofs.Stores.{AreCells, stored_keep, missed, hit}
use Rattle.kernel_definitions.proofs.Standing.{byte_alike, stand_kept, chain_kept}
use Rattle.kernel_definitions.proofs.Reading.{ends, less_one}
use Rattle.kernel_definitions.proofs.WordLaw.{open_stays}
use Rattle.kernel_definitions.proofs.TurnLaw.{check_returns, turn_comes, whole, kept_cell, definition_kept, text_is}

-- KEEP-PLACES where no definition is open
keep_places_returns : (p : SourceProgram) (here h : ℕ) (c : List ℕ) (w : World) → IsDataSpace w → data_cell w error_cell ≡ 0 →
    data_cell w new_cell ≡ 0 → data_cell w here_cell ≡ here → here < 65536 →
    data_cell w latest_cell ≡ h → Returns p keep_places_body 14 22 c w c (stored ((kept_latest_cell, h) ∷ (kept_here_cell, here) ∷ []) w)
unfolding step steps spent
keep_places_returns p here h c w s error new here_is fits latest work es callers =
    let v = stored ((kept_here_cell, here) ∷ []) w in
    let hv = (stored_keep ((kept_here_cell, here) ∷ []) w s (fits, tt)).space in
    let latest1 : data_cell v latest_cell ≡ h = missed ((kept_here_cell, here) ∷ []) w latest_cell (omega arith)
    (omega arith, (λ e. omega (arith, e)), tt) ∙ latest in
    by_way p 1 13 20 refl (omega arith) (omega arith)
    (by_word p Fetch 12 19 (reads w error_cell c s (omega arith) (omega arith) ∙ ap (λ y. Gives (y ∷ c) w) error) refl (omega arith)
    (omega arith)
    (by_way p 2 10 16 refl (omega arith) (omega arith)
    (by_word p Fetch 9 15 (reads w new_cell c s (omega arith) (omega arith) ∙ ap (λ y. Gives (y ∷ c) w) new) refl (omega arith)
    (omega arith)
    (by_way p 1 8 14 refl (omega arith) (omega arith)
    (by_word p Here 7 12 (reads_here c w s ∙ ap (λ y. Gives (y ∷ c) w) here_is) refl (omega arith) (omega arith)
    (by_way p 1 6 10 refl (omega arith) (omega arith)
    (by_word p Store 5 8 (writes w kept_here_cell here c s (omega arith) (omega arith)) refl (omega arith) (omega arith)
    (by_way p 1 4 6 refl (omega arith) (omega arith)
    (by_word p Fetch 3 5 (reads v latest_cell c hv (omega arith) (omega arith) ∙ ap (λ y. Gives (y ∷ c) v) latest1) refl (omega arith)
    (omega arith)
    (by_way p 1 2 3 refl (omega arith) (omega arith)
    (by_word p Store 1 1 (writes v kept_latest_cell h c hv (omega arith) (omega arith)) refl (omega arith) (omega arith)
    (by_way p 1 0 0 refl (omega arith) (omega arith) (there p)))))))))))))

pub definitions_are_kept : NextWordsAreKept → TextsAreRead → SemicolonsAreRead → DefinitionsAreKept
definitions_are_kept words texts ends_are p c w first size h a name older items d o room first_here m s =
    let few = m.few in
    let t : WordIsKept p next_word_body (400 * (data_cell w length_cell + 1)) (300 + 250 * data_cell w length_cell) c c w
    (data_cell w source_cell) first size size =
    subst (λ k. WordIsKept p next_word_body (400 * (data_cell w length_cell + 1)) (300 + 250 * data_cell w length_cell) c c w
    (data_cell w source_cell) first size k) (whole size few)
    (words p c w first size d.kernel o.space m.source m.apart m.word) in
    let kept = kept_cell texts p d c w first size few (400 * (data_cell w length_cell + 1)) (300 + 250 * data_cell w length_cell)
    (data_cell w source_cell) t in
    let at = ends [] items a o.even in
    let o1 : IsOpen t.after h a name older (record { around = []; done = items }) =
    open_stays t.after w h a name older (record { around = []; done = items }) o
    (definition_kept texts p d c w first size few (400 * (data_cell w length_cell + 1)) (300 + 250 * data_cell w length_cell)
    (data_cell w source_cell) t (a + items_size items) at.even_end) in
    let low = o.low in
    let count = t.count in
    let found : IsFound older (text_at t.after word_buffer) 1 (code_of_token 6) =
    subst (λ text. IsFound older text 1 (code_of_token 6))
    (sym (text_is texts p d c w first size few (400 * (data_cell w length_cell + 1)) (300 + 250 * data_cell w length_cell)
    (data_cell w source_cell) t)) s in
    let r : IsDefined p interpret_word_body (4000 * (length older + 1) + 200) (4000 * (length older + 1) + 500) (word_buffer ∷ c) t.after
    (0 ∷ c) h a name older items =
    ends_are p word_buffer c t.after h a name older items d o1 (omega (arith, room)) (omega arith) (omega (arith, count, few)) found in
    let early = λ (b : ℕ) (f : 8488 ≤ b) (g : b < 8568) (k : b / 2 ≢ 4246) (n : b / 2 ≢ 4247). r.rest b (omega (arith, f))
    (λ z. omega (arith, z, f)) (λ z. omega (arith, z, f)) k n (λ z. omega (arith, z, g, low)) in
    let users : data_cell r.after user_count_cell ≡ data_cell w user_count_cell =
    early user_count_cell (omega arith) (omega arith) (λ z. omega (arith, z)) (λ z. omega (arith, z))
    ∙ kept user_count_cell refl (omega arith) (inr (inr (omega arith))) in
    let first_place : data_cell r.after first_here_cell ≡ data_cell w first_here_cell =
    early first_here_cell (omega arith) (omega arith) (λ z. omega (arith, z)) (λ z. omega (arith, z))
    ∙ kept first_here_cell refl (omega arith) (inr (inr (omega arith))) in
    let error : data_cell r.after error_cell ≡ 0 = early error_cell (omega arith) (omega arith) (λ z. omega (arith, z))
    (λ z. omega (arith, z)) ∙ kept error_cell refl (omega arith) (inr (inr (omega arith))) ∙ m.no_error in
    let here = r.here in
    let at_most = m.users in
    let room_for_header = o.lie.1 in
    let fh : h < 65536 = omega (arith, room_for_header, room) in
    let u = stored ((kept_latest_cell, h) ∷ (kept_here_cell, a + items_size items + 2) ∷ []) r.after in
    let cells : AreCells ((kept_latest_cell, h) ∷ (kept_here_cell, a + items_size items + 2) ∷ []) = (fh, (omega (arith, room), tt)) in
    let k = stored_keep ((kept_latest_cell, h) ∷ (kept_here_cell, a + items_size items + 2) ∷ []) r.after r.console.space cells in
    let pass = λ (b : ℕ) (f : 8192 ≤ b) (g : b / 2 ≢ 4249) (n : b / 2 ≢ 4248). missed
    ((kept_latest_cell, h) ∷ (kept_here_cell, a + items_size items + 2) ∷ []) r.after b f (omega arith, g, (omega arith, n, tt)) in
    let above : (b : ℕ) → 8640 ≤ b → data_cell u b ≡ data_cell r.after b =
    λ b f. pass b (omega (arith, f)) (λ z. omega (arith, z, f)) (λ z. omega (arith, z, f)) in
    let chain = chain_kept u r.after a h (record { name = name; code = a; immediate = false } ∷ older) (λ b f g. above b f) r.chain r.lie in
    record {
      after = u;
      run = λ work es callers. within p (13 + 400 * (data_cell w length_cell + 1) + (4000 * (length older + 1) + 200) + 15 + 14)
          (49 + (300 + 250 * data_cell w length_cell) + (4000 * (length older + 1) + 500) + 21 + 22)
          (omega arith) (omega arith)
          (turn_comes p d (400 * (data_cell w length_cell + 1)) (300 + 250 * data_cell w length_cell) (4000 * (length older + 1) + 200)
          (4000 * (length older + 1) + 500) 15 21 14 22 (size - 1) c w t.after r.after r.after u
          o.space t.console.space m.no_error t.run (t.count ∙ less_one size m.some) r.run
          (check_returns p d c r.after r.console.space (omega (arith, users, at_most)) (omega (arith, first_place, first_here, here))
          (omega (arith, here, room)))
          (keep_places_returns p (a + items_size items + 2) h c r.after r.console.space error r.new r.here
          (omega (arith, room)) r.latest) work es callers);
      console = console_then w r.after u (console_then w t.after r.after t.console r.console) k;
      cells = stand_kept u r.after a (typed_cells items a) (λ b f g. above b (omega (arith, f, low))) r.cells;
      here = pass here_cell (omega arith) (λ z. omega (arith, z)) (λ z. omega (arith, z)) ∙ r.here;
      latest = pass latest_cell (omega arith) (λ z. omega (arith, z)) (λ z. omega (arith, z)) ∙ r.latest;
      chain = chain.0;
      lie = chain.1;
      state = pass state_cell (omega arith) (λ z. omega (arith, z)) (λ z. omega (arith, z)) ∙ r.state;
      new = pass new_cell (omega arith) (λ z. omega (arith, z)) (λ z. omega (arith, z)) ∙ r.new;
      kept_here = missed ((kept_latest_cell, h) ∷ []) (stored ((kept_here_cell, a + items_size items + 2) ∷ []) r.after) kept_here_cell
          (omega arith) (omega arith, (λ z. omega (arith, z)), tt)
          ∙ hit [] r.after kept_here_cell (a + items_size items + 2) kept_here_cell r.console.space tt (omega arith) (omega arith) refl;
      kept_latest = hit ((kept_here_cell, a + items_size items + 2) ∷ []) r.after kept_latest_cell h kept_latest_cell r.console.space
          (omega (arith, room), tt) (omega arith) (omega arith) refl;
      place = pass reached_cell (omega arith) (λ z. omega (arith, z)) (λ z. omega (arith, z))
          ∙ r.rest reached_cell (omega arith) (λ z. omega (arith, z)) (λ z. omega (arith, z)) (λ z. omega (arith, z))
          (λ z. omega (arith, z)) (λ z. omega (arith, z, low)) ∙ t.place;
      rest = λ b f not_here not_latest not_state not_new not_kept not_kept_latest not_reached not_word not_code.
          byte_alike u r.after b (pass b f not_kept_latest not_kept)
          ∙ byte_alike r.after t.after b (r.rest b f not_here not_latest not_state not_new not_code) ∙ t.rest b f not_reached not_word;
    }
