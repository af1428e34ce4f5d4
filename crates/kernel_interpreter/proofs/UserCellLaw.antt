-- PUSH-USER and POP-USER.
use Rattle.std.proofs.Common.{◌≡◌, ◌≢◌, ℕ, zero, suc, ◌+◌, ◌*◌, ◌%◌, ◌≤◌, ◌<◌, List, [], ◌∷◌, length, refl, ap, sym, ◌∙◌, subst, arith}
use Rattle.cell_math.specs.Cell.{sum_of, difference_of}
use Rattle.word_table.specs.declared.word.Word.TheVariants.{Fetch, Store}
use Rattle.forth_program.specs.State.{World, Work, Entry, Frame, Gives, ◌▸◌}
use Rattle.forth_program.specs.Program.{SourceProgram}
use Rattle.forth_program.specs.Access.{fetch, store}
use Rattle.forth_program.specs.Step.{before, step}
use Rattle.forth_program.specs.Run.{steps}
use Rattle.forth_program.specs.Price.{spent}
use Rattle.kernel_words.specs.Places.{error_cell}
use Rattle.kernel_words.specs.Running.{Returns}
use Rattle.kernel_words.specs.Memory.{IsDataSpace, data_cell, with_data_cell}
use Rattle.kernel_words.proofs.Runs.{by_way, by_word, by_call, there}
use Rattle.kernel_words.proofs.Memory.{reads, writes, after_store, cell_kept}
use Rattle.kernel_lines.specs.Places.{user_count_cell}
use Rattle.kernel_definitions.specs.Places.{fail_place}
use Rattle.kernel_interpreter.specs.Bodies.{IsInterpreter, push_user_body, pop_user_body}
use Rattle.kernel_interpreter.specs.UserCells.{HasUserCells}
use Rattle.kernel_interpreter.specs.Laws.{UserCellsArePushed, UserCellsArePopped, NoUserCellsFail}
use Rattle.kernel_interpreter.proofs.Changes.{changed, fails, stand_kept, counted, pushed, counted_console, is_pushed, below_kept}

-- reads of the number of cells, and of the newest
reads_count : (w : World) (n : ℕ) (c : List ℕ) → IsDataSpace w → data_cell w user_count_cell ≡ n →
    (fetch user_count_cell w ▸ λ x. Gives (x ∷ c)) ≡ Gives (n ∷ c) w
reads_count w n c h e = reads w user_count_cell c h (omega arith) (omega arith) ∙ ap (λ x. Gives (x ∷ c) w) e

-- where the newest of n cells stands
place_is : (n : ℕ) → n ≤ 31 → sum_of (2 * n % 65536) user_count_cell ≡ user_count_cell + 2 * n
place_is n h = omega (arith, h)

push_returns : (p : SourceProgram) (n x : ℕ) (c : List ℕ) (w : World) (h : IsDataSpace w) (few : n ≤ 30) (f : x < 65536) →
    data_cell w user_count_cell ≡ n →
    Returns p push_user_body 11 18 (x ∷ c) w c (pushed w h n x few f)
unfolding step steps spent
push_returns p n x c w h few f e work es callers =
    by_way p 1 10 16 refl (omega arith) (omega arith)
    (by_word p Fetch 9 15 (reads_count w n (x ∷ c) h e) refl (omega arith) (omega arith)
    (by_way p 3 6 10 refl (omega arith) (omega arith)
    (by_word p Store 5 8 (writes w user_count_cell (sum_of n 1) (sum_of n 1 ∷ x ∷ c) h (omega arith) (omega arith)) refl (omega arith)
    (omega arith)
    (by_way p 3 2 3 refl (omega arith) (omega arith) (rw (next n few, place_is (n + 1) (omega (arith, few)))
    (by_word p Store 1 1 (writes (counted w h n x few f) (user_count_cell + 2 * (n + 1)) x c (counted_console w h n x few f).space
    (omega arith) (omega (arith, few))) refl (omega arith) (omega arith)
    (by_way p 1 0 0 refl (omega arith) (omega arith) (there p))))))))
  where
    next : (n : ℕ) → n ≤ 30 → sum_of n 1 ≡ n + 1
    next n h = omega (arith, h)

pub user_cells_are_pushed : UserCellsArePushed
user_cells_are_pushed p x user c w h f u few =
    let change = is_pushed w h (length user) x few f in
    record {
      after = pushed w h (length user) x few f;
      run = push_returns p (length user) x c w h few f u.count;
      change = change;
      cells = record {
        count = change.count ∙ next (length user);
        stand = (
          ap (λ n. data_cell (pushed w h (length user) x few f) (user_count_cell + 2 * n)) (sym (next (length user))) ∙ change.cell,
          stand_kept (pushed w h (length user) x few f) w user (below_kept w h (length user) x few f) u.stand,
        );
      };
    }
  where
    next : (n : ℕ) → n + 1 ≡ suc n
    next n = omega arith

pop_returns : (p : SourceProgram) (n x : ℕ) (c : List ℕ) (w : World) → IsDataSpace w → n ≤ 30 → data_cell w user_count_cell ≡ suc n →
    data_cell w (user_count_cell + 2 * suc n) ≡ x →
    Returns p pop_user_body 14 19 c w (x ∷ c) (with_data_cell user_count_cell n w)
unfolding step steps spent
pop_returns p n x c w h few e f work es callers =
    by_way p 1 13 17 refl (omega arith) (omega arith)
    (by_word p Fetch 12 16 (reads_count w (suc n) c h e) refl (omega arith) (omega arith)
    (by_way p 5 7 10 refl (omega arith) (omega arith) (rw (before_it n few)
    (by_word p Store 6 8 (writes w user_count_cell n (suc n ∷ c) h (omega arith) (omega arith)) refl (omega arith) (omega arith)
    (by_way p 3 3 3 refl (omega arith) (omega arith) (rw (place_is (suc n) (omega (arith, few)))
    (by_word p Fetch 2 2 (reads (with_data_cell user_count_cell n w) (user_count_cell + 2 * suc n) c
    (after_store w user_count_cell n h (omega (arith, few))).space (omega arith) (omega (arith, few))
    ∙ ap (λ y. Gives (y ∷ c) (with_data_cell user_count_cell n w))
    (cell_kept w user_count_cell (user_count_cell + 2 * suc n) n (omega arith) (omega arith) (λ e. omega (arith, e)) ∙ f)) refl
    (omega arith) (omega arith)
    (by_way p 2 0 0 refl (omega arith) (omega arith) (there p)))))))))
  where
    before_it : (n : ℕ) → n ≤ 30 → difference_of (suc n) 1 ≡ n
    before_it n h = omega (arith, h)

pub user_cells_are_popped : UserCellsArePopped
user_cells_are_popped p x user c w h u few =
    let change = changed w user_count_cell (length user) h (omega (arith, few)) (omega arith) (omega arith) in
    record {
      after = with_data_cell user_count_cell (length user) w;
      run = pop_returns p (length user) x c w h few u.count u.stand.0;
      change = change;
      cells = record {
        count = change.cell;
        stand = stand_kept (with_data_cell user_count_cell (length user) w) w user
            (λ i low high. cell_kept w user_count_cell (user_count_cell + 2 * i) (length user) (omega arith) (omega arith)
            (λ e. omega (arith, e, low))) u.stand.1;
      };
    }

pub no_user_cells_fail : NoUserCellsFail
unfolding step steps spent
no_user_cells_fail p c w k h u = record {
  after = with_data_cell error_cell 1 w;
  run = λ work es callers.
      by_way p 1 9 12 refl (omega arith) (omega arith)
      (by_word p Fetch 8 11 (reads_count w 0 c h u.count) refl (omega arith) (omega arith)
      (by_way p 2 6 9 refl (omega arith) (omega arith)
      (by_call p fail_place 4 7 1 1 k.fail (fails p 1 (0 ∷ c) w h) refl (omega arith) (omega arith)
      (by_way p 1 0 0 refl (omega arith) (omega arith) (there p)))));
  change = changed w error_cell 1 h (omega arith) (omega arith) (omega arith);
}
