-- NEED, RUN and TRY.
use Rattle.std.proofs.Common.{◌≡◌, ◌≢◌, ℕ, zero, suc, ◌+◌, ◌*◌, ◌/◌, ◌%◌, ◌≤◌, ◌<◌, List, [], ◌∷◌, refl, ap, sym, ◌∙◌, subst, arith, le-ltb}
use Rattle.std.proofs.Common.{lt-ltb}
use Rattle.std.specs.Prelude.{nat_lt, if◌then◌else◌}
use Rattle.cell_math.specs.Cell.{sum_of, difference_of, flag}
use Rattle.word_table.specs.declared.word.Word.TheVariants.{Fetch, CFetch, Store, Go}
use Rattle.forth_program.specs.Tree.{Plain, Call}
use Rattle.forth_program.specs.State.{World, State, Work, Todo, Entry, Frame, Goes}
use Rattle.forth_program.specs.Program.{SourceProgram}
use Rattle.forth_program.specs.Step.{before, step}
use Rattle.forth_program.specs.Run.{steps}
use Rattle.forth_program.specs.Price.{spent, step_price}
use Rattle.forth_program.specs.Returns.{Return, world_back}
use Rattle.kernel_words.specs.Places.{error_cell}
use Rattle.kernel_words.specs.Bodies.{items}
use Rattle.kernel_words.specs.Running.{Comes, Returns}
use Rattle.kernel_words.specs.Memory.{IsDataSpace, data_cell, data_byte, with_data_cell}
use Rattle.kernel_words.proofs.Cases.{by_less}
use Rattle.kernel_words.proofs.Runs.{by_way, by_word, by_call, there, renamed}
use Rattle.kernel_words.proofs.Memory.{reads, reads_byte, writes}
use Rattle.kernel_lines.specs.Places.{user_count_cell, stack_fail_place}
use Rattle.kernel_interpreter.specs.Places.{needs, run_code, run_call, return_words, return_words_size, run_place, need_place}
use Rattle.kernel_interpreter.specs.Bodies.{IsInterpreter, need_body, run_body, try_body}
use Rattle.kernel_interpreter.specs.Running.{ComesBack}
use Rattle.kernel_interpreter.specs.Laws.{token_at, cells_needed, NeedsAreKnown, LackingWordsFail, WordsAreRun}
use Rattle.kernel_interpreter.proofs.Returning.{go_back, out, then_goes, then_stays}
use Rattle.kernel_interpreter.proofs.Changes.{changed, fails}

-- ---- NEED
pub needs_are_known : NeedsAreKnown
unfolding step steps spent
needs_are_known p code c w h work es callers =
    by_way p 5 14 44 refl (omega arith) (omega arith) (by_less (difference_of code return_words) return_words_size
    (λ less. rw (lt-ltb (difference_of code return_words) return_words_size less)
    (by_way p 4 0 0 refl (omega arith) (omega arith) (there p)))
    (λ all. rw (le-ltb (difference_of code return_words) return_words_size all)
    (by_way p 8 6 30 refl (omega arith) (omega arith) (by_less (token_at code) 140
    (λ less. rw (lt-ltb (token_at code) 140 less) (by_way p 3 3 26 refl (omega arith) (omega arith) (rw (place_is (token_at code) less)
    (by_word p CFetch 2 2 (reads_byte w (needs + token_at code) c h (omega arith) (omega (arith, less))) refl (omega arith) (omega arith)
    (by_way p 2 0 0 refl (omega arith) (omega arith) (there p))))))
    (λ all. rw (le-ltb (token_at code) 140 all) (by_way p 4 0 0 refl (omega arith) (omega arith) (there p)))))))
  where
    place_is : (t : ℕ) → t < 140 → sum_of t needs ≡ needs + t
    place_is t h = omega (arith, h)

-- ---- TRY up to its decision
module _ (p : SourceProgram) (k : IsInterpreter p) (w : World) (h : IsDataSpace w) (code : ℕ) (c : List ℕ) (work : List Work)
    (es : List Entry) (callers : List Frame) where
  abbrev starts : State
  starts = record {
    work = before try_body [];
    entries = [];
    callers = record { work = work; entries = es } ∷ callers;
    cells = code ∷ c;
    world = w;
  }

  abbrev ends : World → State
  ends after = record { work = work; entries = es; callers = callers; cells = c; world = after }

  -- in the frame of RUN, at its GO
  abbrev leaving : State
  leaving = record {
    work = Todo (Plain Go) ∷ [];
    entries = [];
    callers = record { work = []; entries = [] } ∷ record { work = work; entries = es } ∷ callers;
    cells = run_code ∷ c;
    world = with_data_cell run_call (16384 + code / 2) w;
  }

  lacks : data_cell w user_count_cell < cells_needed w code → Comes p 33 72 starts (ends (with_data_cell error_cell 4 w))
  unfolding step steps spent
  lacks less =
      by_way p 1 32 70 refl (omega arith) (omega arith)
      (by_word p Fetch 31 69 (reads w user_count_cell (code ∷ c) h (omega arith) (omega arith)) refl (omega arith) (omega arith)
      (by_way p 1 30 68 refl (omega arith) (omega arith)
      (by_call p need_place 19 54 10 13 k.need (needs_are_known p code (data_cell w user_count_cell ∷ code ∷ c) w h) refl (omega arith)
      (omega arith)
      (by_way p 1 9 12 refl (omega arith) (omega arith) (rw (lt-ltb (data_cell w user_count_cell) (cells_needed w code) less)
      (by_way p 2 7 10 refl (omega arith) (omega arith)
      (by_call p stack_fail_place 4 7 2 2 k.interpreter.stack_fail (fails p 4 c w h) refl (omega arith) (omega arith)
      (by_way p 2 0 0 refl (omega arith) (omega arith) (there p)))))))))

  leads_out : code < 65536 → cells_needed w code ≤ data_cell w user_count_cell → Comes p 33 74 starts leaving
  unfolding step steps spent
  leads_out f all =
      by_way p 1 32 72 refl (omega arith) (omega arith)
      (by_word p Fetch 31 71 (reads w user_count_cell (code ∷ c) h (omega arith) (omega arith)) refl (omega arith) (omega arith)
      (by_way p 1 30 70 refl (omega arith) (omega arith)
      (by_call p need_place 19 54 10 15 k.need (needs_are_known p code (data_cell w user_count_cell ∷ code ∷ c) w h) refl (omega arith)
      (omega arith)
      (by_way p 1 9 14 refl (omega arith) (omega arith) (rw (le-ltb (data_cell w user_count_cell) (cells_needed w code) all)
      (by_way p 1 8 13 refl (omega arith) (omega arith) calls))))))
    where
      call_is : (x : ℕ) → x < 65536 → sum_of (x / 2) 16384 ≡ 16384 + x / 2
      call_is x h = omega (arith, h)

      calls : Comes p 8 13 (record {
        work = before (items (Call run_place ∷ [])) [];
        entries = [];
        callers = record { work = work; entries = es } ∷ callers;
        cells = code ∷ c;
        world = w;
      }) leaving
      calls = by_way p 1 7 12 (ap (λ body. Goes (record {
        work = before body [];
        entries = [];
        callers = record { work = []; entries = [] } ∷ record { work = work; entries = es } ∷ callers;
        cells = code ∷ c;
        world = w;
      })) k.run) (omega arith) (omega arith)
          (by_way p 5 2 4 refl (omega arith) (omega arith) (rw (call_is code f)
          (by_word p Store 1 2 (writes w run_call (16384 + code / 2) c h (omega arith) (omega arith)) refl (omega arith) (omega arith)
          (by_way p 1 0 0 refl (omega arith) (omega arith) (there p)))))

pub lacking_words_fail : LackingWordsFail
lacking_words_fail p code c w k h less = record {
  after = with_data_cell error_cell 4 w;
  run = λ work es callers. lacks p k w h code c work es callers less;
  change = changed w error_cell 4 h (omega arith) (omega arith) (omega arith);
}

pub words_are_run : WordsAreRun
unfolding step steps spent
words_are_run p code c w k h f all = record {
  at = with_data_cell run_call (16384 + code / 2) w;
  change = changed w run_call (16384 + code / 2) h (omega (arith, f)) (omega arith) (omega arith);
  leaves = λ work es callers. out p (leaving p k w h code c work es callers) run_code
      (with_data_cell run_call (16384 + code / 2) w) refl 33 74 (leads_out p k w h code c work es callers f all) (omega arith)
      (omega arith);
  back = λ back work es callers.
      then_goes p 33 74 3 5 (omega arith) (omega arith) (leads_out p k w h code c work es callers f all)
      (then_stays p 1 3 2 2 (omega arith) (omega arith)
      (go_back p back (leaving p k w h code c work es callers) (behind back work es callers) run_code
      (with_data_cell run_call (16384 + code / 2) w) refl refl)
      (by_way p 2 0 0 refl (omega arith) (omega arith) (there p)));
}
  where
    behind : Return → List Work → List Entry → List Frame → State
    behind back work es callers = record {
      work = [];
      entries = [];
      callers = record { work = []; entries = [] } ∷ record { work = work; entries = es } ∷ callers;
      cells = c;
      world = world_back back (with_data_cell run_call (16384 + code / 2) w);
    }
