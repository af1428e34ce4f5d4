-- STACK-FAIL, CHECK and KEEP-PLACES.
use Rattle.std.proofs.Common.{◌≡◌, ℕ, zero, suc, ◌+◌, Bool, true, false, ◌||◌, ◌&&◌, ◌==◌, List, [], ◌∷◌, refl, ap, ap₂, sym, ◌∙◌, subst}
use Rattle.std.proofs.Common.{arith, lt-ltb, le-ltb}
use Rattle.std.specs.Prelude.{nat_lt, if◌then◌else◌}
use Rattle.word_table.specs.declared.word.Word.TheVariants.{Fetch, Store, Here}
use Rattle.forth_program.specs.State.{World, Work, Entry, Frame, Gives, ◌▸◌}
use Rattle.forth_program.specs.Program.{SourceProgram}
use Rattle.forth_program.specs.Meaning.{meaning}
use Rattle.forth_program.specs.Step.{before, step}
use Rattle.forth_program.specs.Run.{steps}
use Rattle.forth_program.specs.Price.{spent}
use Rattle.kernel_words.specs.Places.{here_cell, latest_cell, error_cell}
use Rattle.kernel_words.specs.Memory.{IsDataSpace, KeepsConsole, data_cell, with_data_cell}
use Rattle.kernel_words.specs.Running.{Comes, Returns}
use Rattle.kernel_words.proofs.Cases.{by_less, unequal}
use Rattle.kernel_words.proofs.Runs.{by_way, by_word, by_call, there, within, followed}
use Rattle.kernel_words.proofs.Memory.{here_is, reads, writes, cell_fits, after_store, same_console, console_then, cell_kept}
use Rattle.kernel_words.proofs.Scanning.{skip}
use Rattle.kernel_lines.specs.Places.{new_cell, kept_here_cell, kept_latest_cell, first_here_cell, user_count_cell, stack_fail_place}
use Rattle.kernel_lines.specs.Bodies.{check_body, keep_places_body, stack_fail_body}
use Rattle.kernel_lines.specs.State.{KernelState, kernel_state, cells_at, OnlyChanges, Does}
use Rattle.kernel_lines.specs.Laws.{WordsAreChecked, PlacesAreKept}
use Rattle.kernel_lines.proofs.States.{state_stored, stored_state, cell_changes, unchanged, changes_more}
use Rattle.kernel_lines.proofs.Stores.{stored, does_by, nothing_more}

pub reads_here : (c : List ℕ) (v : World) → IsDataSpace v → meaning Here c v ≡ Gives (data_cell v here_cell ∷ c) v
reads_here c v h = ap (λ r. r ▸ λ x. Gives (x ∷ c)) (here_is v h)

module _ (p : SourceProgram) (w : World) (h : IsDataSpace w) (c : List ℕ) where
  pub stack_fail_returns : Returns p stack_fail_body 4 7 c w c (with_data_cell error_cell 4 w)
  unfolding step steps spent
  stack_fail_returns work es callers =
      by_way p 2 2 3 refl (omega arith) (omega arith)
      (by_word p Store 1 1 (writes w error_cell 4 c h (omega arith) (omega arith)) refl (omega arith) (omega arith)
      (by_way p 1 0 0 refl (omega arith) (omega arith) (there p)))

  -- behind the test of the user cells
  is_full : (t u : Bool) → nat_lt (data_cell w here_cell) (data_cell w first_here_cell) ≡ t → nat_lt 16288 (data_cell w here_cell) ≡ u →
      (work : List Work) (es : List Entry) (callers : List Frame) →
      Comes p 13 20
      (record {
        work = before (skip 5 check_body) [];
        entries = [];
        callers = record { work = work; entries = es } ∷ callers;
        cells = c;
        world = w;
      })
      (record { work = work; entries = es; callers = callers; cells = c; world = stored (if t || u then (error_cell, 6) ∷ [] else []) w })
  unfolding step steps spent
  is_full t u e f work es callers =
      by_word p Here 12 18 (reads_here c w h) refl (omega arith) (omega arith)
      (by_way p 1 11 16 refl (omega arith) (omega arith)
      (by_word p Fetch 10 15 (reads w first_here_cell (data_cell w here_cell ∷ c) h (omega arith) (omega arith)) refl (omega arith)
      (omega arith)
      (by_way p 2 8 12 refl (omega arith) (omega arith)
      (by_word p Here 7 10 (reads_here _ w h) refl (omega arith) (omega arith)
      (by_way p 1 6 9 refl (omega arith) (omega arith)
      (rw (e, f) (ends t u)))))))
    where
      ends : (t u : Bool) → Comes p 6 9
          (record {
            work = before (skip 12 check_body) [];
            entries = [];
            callers = record { work = work; entries = es } ∷ callers;
            cells = (if u then 65535 else 0) ∷ (if t then 65535 else 0) ∷ c;
            world = w;
          })
          (record {
            work = work;
            entries = es;
            callers = callers;
            cells = c;
            world = stored (if t || u then (error_cell, 6) ∷ [] else []) w;
          })
      ends true true = by_way p 4 2 3 refl (omega arith) (omega arith)
          (by_word p Store 1 1 (writes w error_cell 6 c h (omega arith) (omega arith)) refl (omega arith) (omega arith)
          (by_way p 1 0 0 refl (omega arith) (omega arith) (there p)))
      ends true false = by_way p 4 2 3 refl (omega arith) (omega arith)
          (by_word p Store 1 1 (writes w error_cell 6 c h (omega arith) (omega arith)) refl (omega arith) (omega arith)
          (by_way p 1 0 0 refl (omega arith) (omega arith) (there p)))
      ends false true = by_way p 4 2 3 refl (omega arith) (omega arith)
          (by_word p Store 1 1 (writes w error_cell 6 c h (omega arith) (omega arith)) refl (omega arith) (omega arith)
          (by_way p 1 0 0 refl (omega arith) (omega arith) (there p)))
      ends false false = by_way p 3 0 0 refl (omega arith) (omega arith) (there p)

-- ERROR is set, or not
module _ (p : SourceProgram) (w : World) (h : IsDataSpace w) (c : List ℕ) where
  abbrev s : KernelState
  s = kernel_state w

  abbrev is_space_full : Bool
  is_space_full = nat_lt (data_cell w here_cell) (data_cell w first_here_cell) || nat_lt 16288 (data_cell w here_cell)

  ended : (v : World) (x : ℕ) (b : Bool) → KeepsConsole w v → kernel_state v ≡ record s { error = x } →
      OnlyChanges (cells_at (error_cell ∷ [])) w v →
      Returns p check_body 26 40 c w c (stored (if b then (error_cell, 6) ∷ [] else []) v) →
      Does p check_body 26 40 c w c w.input [] (record s { error = if b then 6 else x }) (cells_at (error_cell ∷ []))
  ended v x true q e f run =
      let u = with_data_cell error_cell 6 v in
      let hu = console_then w v u q (after_store v error_cell 6 q.space (omega arith)) in
      record {
        after = u;
        run = run;
        input = hu.input;
        printed = hu.printed ∙ nothing_more w.printed;
        state_is = state_stored v error_cell 6 q.space refl ∙ ap (stored_state error_cell 6) e;
        others = changes_more (cells_at (error_cell ∷ [])) w v u f (cell_changes v error_cell 6 q.space (omega arith) refl);
      }
  ended v x false q e f run = record {
    after = v;
    run = run;
    input = q.input;
    printed = q.printed ∙ nothing_more w.printed;
    state_is = e;
    others = f;
  }

  goes_on : (v : World) (x : ℕ) → KeepsConsole w v → kernel_state v ≡ record s { error = x } →
      OnlyChanges (cells_at (error_cell ∷ [])) w v →
      ((work : List Work) (es : List Entry) (callers : List Frame) → Comes p 10 15
      (record { work = before check_body []; entries = []; callers = record { work = work; entries = es } ∷ callers; cells = c; world = w })
      (record {
        work = before (skip 5 check_body) [];
        entries = [];
        callers = record { work = work; entries = es } ∷ callers;
        cells = c;
        world = v;
      })) →
      Does p check_body 26 40 c w c w.input [] (record s { error = if is_space_full then 6 else x }) (cells_at (error_cell ∷ []))
  goes_on v x q e f run = ended v x is_space_full q e f (λ work es callers.
      within p (10 + 13) (15 + 20) (omega arith) (omega arith) (followed p (run work es callers)
      (is_full p v q.space c (nat_lt (data_cell w here_cell) (data_cell w first_here_cell)) (nat_lt 16288 (data_cell w here_cell))
      (ap (λ t. nat_lt t.here t.first_here) e) (ap (λ t. nat_lt 16288 t.here) e) work es callers)))

pub words_are_checked : WordsAreChecked
unfolding step steps spent
words_are_checked p c w k h = by_less 20 (data_cell w user_count_cell)
    (λ less. subst (λ t. Does p check_body 26 40 c w c w.input []
    (record (kernel_state w) { error = if is_space_full p w h c then 6 else if t then 4 else data_cell w error_cell })
    (cells_at (error_cell ∷ [])))
    (sym (lt-ltb 20 (data_cell w user_count_cell) less))
    (goes_on p w h c (with_data_cell error_cell 4 w) 4 (after_store w error_cell 4 h (omega arith)) (state_stored w error_cell 4 h refl)
    (cell_changes w error_cell 4 h (omega arith) refl)
    (λ work es callers.
    by_way p 1 9 13 refl (omega arith) (omega arith) (by_way p 1 8 11 refl (omega arith) (omega arith)
    (by_word p Fetch 7 10 (reads w user_count_cell (20 ∷ c) h (omega arith) (omega arith)) refl (omega arith) (omega arith)
    (by_way p 1 6 9 refl (omega arith) (omega arith) (rw (lt-ltb 20 (data_cell w user_count_cell) less)
    (by_way p 1 5 8 refl (omega arith) (omega arith)
    (by_call p stack_fail_place 4 7 0 0 k.interpreter.stack_fail (stack_fail_returns p w h c) refl (omega arith) (omega arith)
    (there p))))))))))
    (λ few. subst (λ t. Does p check_body 26 40 c w c w.input []
    (record (kernel_state w) { error = if is_space_full p w h c then 6 else if t then 4 else data_cell w error_cell })
    (cells_at (error_cell ∷ [])))
    (sym (le-ltb 20 (data_cell w user_count_cell) few))
    (goes_on p w h c w (data_cell w error_cell) (same_console w h) refl (unchanged (cells_at (error_cell ∷ [])) w h)
    (λ work es callers.
    by_way p 2 8 11 refl (omega arith) (omega arith)
    (by_word p Fetch 7 10 (reads w user_count_cell (20 ∷ c) h (omega arith) (omega arith)) refl (omega arith) (omega arith)
    (by_way p 1 6 9 refl (omega arith) (omega arith) (rw (le-ltb 20 (data_cell w user_count_cell) few)
    (by_way p 1 0 0 refl (omega arith) (omega arith) (there p))))))))

-- ---- KEEP-PLACES

pub by_zero : {C : Type 0} (x : ℕ) → (x ≡ 0 → C) → ((n : ℕ) → x ≡ suc n → (x == 0) ≡ false → C) → C
by_zero zero f g = f refl
by_zero (suc n) f g = g n refl (unequal (suc n) 0 (λ e. omega (arith, e)))

pub places_are_kept : PlacesAreKept
unfolding step steps spent
places_are_kept p c w k h = by_zero (data_cell w error_cell)
    (λ e. by_zero (data_cell w new_cell)
    (λ f. subst (λ s'. Does p keep_places_body 14 26 c w c w.input [] s' (cells_at (kept_here_cell ∷ kept_latest_cell ∷ [])))
    (ap₂ (λ x y. if (x == 0) && (y == 0) then record (kernel_state w) {
      kept_here = data_cell w here_cell;
      kept_latest = data_cell w latest_cell;
    } else kernel_state w) (sym e) (sym f))
    (does_by p keep_places_body 14 26 c c ((kept_here_cell, data_cell w here_cell) ∷ (kept_latest_cell, data_cell w latest_cell) ∷ []) w h
    (refl, cell_fits w here_cell h, (refl, cell_fits w latest_cell h, tt))
    (λ work es callers.
    by_way p 1 13 24 refl (omega arith) (omega arith)
    (by_word p Fetch 12 23 (reads w error_cell c h (omega arith) (omega arith)) refl (omega arith) (omega arith) (rw e
    (by_way p 2 10 20 refl (omega arith) (omega arith)
    (by_word p Fetch 9 19 (reads w new_cell c h (omega arith) (omega arith)) refl (omega arith) (omega arith) (rw f
    (by_way p 1 8 18 refl (omega arith) (omega arith)
    (by_word p Here 7 16 (reads_here c w h) refl (omega arith) (omega arith)
    (by_way p 1 6 14 refl (omega arith) (omega arith)
    (by_word p Store 5 12 (writes w kept_here_cell (data_cell w here_cell) c h (omega arith) (omega arith)) refl (omega arith) (omega arith)
    (let hv = after_store w kept_here_cell (data_cell w here_cell) h (cell_fits w here_cell h) in
    by_way p 1 4 8 refl (omega arith) (omega arith)
    (by_word p Fetch 3 6 (reads (with_data_cell kept_here_cell (data_cell w here_cell) w) latest_cell c hv.space (omega arith)
    (omega arith)) refl (omega arith) (omega arith)
    (rw (cell_kept w kept_here_cell latest_cell (data_cell w here_cell) (omega arith) (omega arith) (λ e. omega (arith, e)))
    (by_way p 1 2 3 refl (omega arith) (omega arith)
    (by_word p Store 1 1 (writes (with_data_cell kept_here_cell (data_cell w here_cell) w) kept_latest_cell
    (data_cell w latest_cell) c hv.space (omega arith) (omega arith)) refl (omega arith) (omega arith)
    (by_way p 1 0 0 refl (omega arith) (omega arith) (there p)))))))))))))))))))
    (λ n f no. subst (λ s'. Does p keep_places_body 14 26 c w c w.input [] s' (cells_at (kept_here_cell ∷ kept_latest_cell ∷ [])))
    (ap₂ (λ x y. if (x == 0) && y then record (kernel_state w) { kept_here = data_cell w here_cell; kept_latest = data_cell w latest_cell }
    else kernel_state w) (sym e) (sym no))
    (stays p c w h (λ work es callers.
    by_way p 1 13 24 refl (omega arith) (omega arith)
    (by_word p Fetch 12 23 (reads w error_cell c h (omega arith) (omega arith)) refl (omega arith) (omega arith) (rw e
    (by_way p 2 10 20 refl (omega arith) (omega arith)
    (by_word p Fetch 9 19 (reads w new_cell c h (omega arith) (omega arith)) refl (omega arith) (omega arith) (rw f
    (by_way p 2 0 0 refl (omega arith) (omega arith) (there p)))))))))))
    (λ n e no. subst (λ s'. Does p keep_places_body 14 26 c w c w.input [] s' (cells_at (kept_here_cell ∷ kept_latest_cell ∷ [])))
    (ap (λ x. if x && (data_cell w new_cell == 0) then record
    (kernel_state w) { kept_here = data_cell w here_cell; kept_latest = data_cell w latest_cell } else kernel_state w) (sym no))
    (stays p c w h (λ work es callers.
    by_way p 1 13 24 refl (omega arith) (omega arith)
    (by_word p Fetch 12 23 (reads w error_cell c h (omega arith) (omega arith)) refl (omega arith) (omega arith) (rw e
    (by_way p 2 0 0 refl (omega arith) (omega arith) (there p)))))))
  where
    stays : (p : SourceProgram) (c : List ℕ) (w : World) → IsDataSpace w → Returns p keep_places_body 14 26 c w c w →
        Does p keep_places_body 14 26 c w c w.input [] (kernel_state w) (cells_at (kept_here_cell ∷ kept_latest_cell ∷ []))
    stays p c w h run = record {
      after = w;
      run = run;
      input = refl;
      printed = nothing_more w.printed;
      state_is = refl;
      others = unchanged (cells_at (kept_here_cell ∷ kept_latest_cell ∷ [])) w h;
    }
