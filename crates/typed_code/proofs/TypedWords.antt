-- A typed word as a whole, by what it means.
use Rattle.std.proofs.Common.{◌≡◌, ℕ, zero, suc, ◌+◌, ◌-◌, ◌*◌, ◌/◌, ◌%◌, ◌<◌, ◌≤◌, inr, true, List, [], ◌∷◌, ◌++◌, length, Option, Some}
use Rattle.std.proofs.Common.{refl, sym, ap, ◌∙◌, subst, arith, length-append, length-set}
use Rattle.std.specs.Prelude.{slice_index, slice_index_or, slice_set}
use Rattle.std.specs.List.{All}
use Rattle.std.proofs.lemmas.List.{get_or-append_right, get_or-set_other, set-append_right}
use Rattle.word_table.specs.declared.word.Word.{Word}
use Rattle.forth_program.specs.State.{World, State, Goes}
use Rattle.forth_program.specs.Program.{SourceProgram}
use Rattle.forth_program.specs.Run.{steps, world_of}
use Rattle.forth_program.specs.RunLaws.{WorldsGrow}
use Rattle.forth_program.specs.Cells.{AreCells, IsWorld}
use Rattle.j1_simulator.specs.OpenMachine.{open_storage}
use Rattle.j1_simulator.specs.Run.{run}
use Rattle.word_laws.specs.Rings.{OpenConfiguration, BeforeEach}
use Rattle.word_laws.specs.Bounds.{StaysWithin, RunsJoin, BoundsJoin, BoundsWiden}
use Rattle.typed_items.specs.Items.{TypedItem}
use Rattle.typed_items.specs.Listed.{KeepsSpace, stands}
use Rattle.typed_items.specs.Laws.{Shows, is_done, GoesOn, ItemsFit, Follows, ComesBehind, ItemsDoTheirMeaning, ShowsNoMore, KeepsBehind}
use Rattle.typed_items.specs.Laws.{TypedCodeIsKept}
use Rattle.typed_code.specs.MachineCode.{return_base, drop_return, save, save_cells, load_more, load, run_code, run_call, drop_return_code}
use Rattle.typed_code.specs.MachineCode.{save_code, save_cells_code, load_more_code, load_code, run_code_code, HasCells, HasMachineCode}
use Rattle.typed_code.specs.MachineCode.{HasUserCells, saved, with_return_base}
use Rattle.typed_code.specs.Standing.{Surroundings, stands_at, called_from, place_of, Comes}
use Rattle.typed_code.specs.Laws.{SavePutsBack, SavedIsKept, RunCodeLoads, JumpsLead}
use Rattle.typed_code.specs.WayBack.{Returns, ReturnsGoBack, KeepsCode, SavedKeepsCode}
use Rattle.typed_code.specs.TypedWords.{with_base, one_item, word_begins, at_run_code, below_go, WordStands, ComesBack, WordFollows}
use Rattle.typed_code.specs.TypedWords.{TypedWordsDoTheirMeaning}
use Rattle.typed_code.proofs.Joins.{recount}

pub record WordLaws : Type 0 where
  pub runs : RunsJoin
  pub bounds : BoundsJoin
  pub wider : BoundsWiden
  pub grow : WorldsGrow
  pub loads : RunCodeLoads
  pub saves : SavePutsBack
  pub saved_cells : SavedIsKept
  pub jumps : JumpsLead
  pub goes : ReturnsGoBack
  pub keeps : SavedKeepsCode
  pub items : ItemsDoTheirMeaning
  pub shows_no_more : ShowsNoMore
  pub kept : TypedCodeIsKept

-- ---- cells

set_small : (space : List ℕ) (j v i : ℕ) → v < 0x10000 → ((i : ℕ) → slice_index space i < 0x10000) →
    slice_index (slice_set space j v) i < 0x10000
set_small [] j v i small cells = cells i
set_small (x ∷ space) zero v zero small cells = small
set_small (x ∷ space) zero v (suc i) small cells = cells (suc i)
set_small (x ∷ space) (suc j) v zero small cells = cells 0
set_small (x ∷ space) (suc j) v (suc i) small cells = set_small space j v i small (λ n. cells (suc n))

are_cells : (space : List ℕ) → ((i : ℕ) → slice_index space i < 0x10000) → AreCells space
are_cells [] cells = tt
are_cells (x ∷ space) cells = (cells 0, are_cells space (λ n. cells (suc n)))

in_list : (xs : List ℕ) (k d e : ℕ) → k < length xs → slice_index_or xs k d ≡ slice_index_or xs k e
in_list [] k d e lt = absurd (omega arith)
in_list (x ∷ xs) zero d e lt = refl
in_list (x ∷ xs) (suc k) d e lt = in_list xs k d e (omega arith)

are_bytes : (input : List ℕ) → ((i : ℕ) → slice_index input i < 256) → All (λ byte. byte < 256) input
are_bytes input bytes k d lt = subst (λ x. x < 256) (in_list input k 0 d lt) (bytes k)

base_small : (returns : ℕ) → returns % 32 * 256 < 0x10000
base_small returns = omega arith

base_world : (returns : ℕ) (w : World) → IsWorld w → IsWorld (with_base returns w)
base_world returns w h =
    let room = h.room in
    let same = length-set w.space (return_base - 0x1000) (returns % 32 * 256) in
    record {
      data_start = h.data_start;
      aligned = h.aligned;
      room = omega (arith, room, same);
      space = λ i. set_small w.space (return_base - 0x1000) (returns % 32 * 256) i (base_small returns) h.space;
      input = h.input;
    }

base_behind : (returns : ℕ) (w : World) → KeepsBehind w.space (with_base returns w).space
base_behind returns w = record {
  size = length-set w.space (return_base - 0x1000) (returns % 32 * 256);
  same = λ i low. get_or-set_other w.space (return_base - 0x1000) i (returns % 32 * 256) 0 (λ e. omega (arith, e, low));
}

behind_all : (a b c : List ℕ) → KeepsBehind a b → KeepsSpace b c → KeepsBehind a c
behind_all a b c h k = record { size = k.size ∙ h.size; same = λ i low. k.same i (omega (arith, low)) ∙ h.same i low }

module _ (code : List ℕ) (size : length code ≡ 0x1000) where
  base_space : (returns : ℕ) (w : World) → with_return_base returns (code ++ w.space) ≡ code ++ (with_base returns w).space
  base_space returns w = set-append_right code w.space 0x1000 return_base (returns % 32 * 256) size (omega arith)

  at_place : (space : List ℕ) (i : ℕ) → slice_index (code ++ space) (0x1000 + i) ≡ slice_index space i
  at_place space i = get_or-append_right code space 0x1000 (0x1000 + i) 0 size (omega arith)
      ∙ ap (slice_index space) (let e : (0x1000 + i) - 0x1000 ≡ i = omega arith in e)

  module _ (space after : List ℕ) (kept : KeepsBehind space after) where
    same_cell : (at : ℕ) → 4284 ≤ at → slice_index (code ++ after) at ≡ slice_index (code ++ space) at
    same_cell at low =
        let same : slice_index after (at - 0x1000) ≡ slice_index space (at - 0x1000) = kept.same (at - 0x1000) (omega arith) in
        get_or-append_right code after 0x1000 at 0 size (omega arith) ∙ same
        ∙ sym (get_or-append_right code space 0x1000 at 0 size (omega arith))

    has_kept : (cells : List ℕ) (at : ℕ) → 4284 ≤ at → HasCells (code ++ space) at cells → HasCells (code ++ after) at cells
    has_kept [] at low h = tt
    has_kept (cell ∷ cells) at low h = (same_cell at low ∙ h.0, has_kept cells (at + 1) (omega (arith, low)) h.1)

    -- the machine code stands behind RETURN-BASE
    code_behind : HasMachineCode (code ++ space) → HasMachineCode (code ++ after)
    code_behind h = record {
      size = length-append code after ∙ ap (λ n. length code + n) kept.size ∙ sym (length-append code space) ∙ h.size;
      drop_return_cells = has_kept drop_return_code drop_return (omega arith) h.drop_return_cells;
      save_cells_first = has_kept save_code save (omega arith) h.save_cells_first;
      save_cells_more = has_kept save_cells_code save_cells (omega arith) h.save_cells_more;
      load_more_cells = has_kept load_more_code load_more (omega arith) h.load_more_cells;
      load_cells = has_kept load_code load (omega arith) h.load_cells;
      run_code_cells = has_kept run_code_code run_code (omega arith) h.run_code_cells;
      behind_call = has_kept (save ∷ []) (run_call + 1) (omega arith) h.behind_call;
    }

  -- storing the user's cells keeps what is behind
  saved_behind : (space : List ℕ) (c : List ℕ) → length c ≤ 31 → HasMachineCode (code ++ space) → SavedIsKept →
      (kept : KeepsCode code space c) → KeepsBehind space kept.after
  saved_behind space c few has laws kept =
      let h = laws (code ++ space) c has few in
      record {
        size = kept.size;
        same = λ i low.
            sym (at_place kept.after i) ∙ ap (λ m. slice_index m (0x1000 + i)) (sym kept.memory)
            ∙ h.others (0x1000 + i) (inr (omega (arith, low, few))) ∙ at_place space i;
      }

-- ---- runs

module _ (laws : WordLaws) where
  -- within wider bounds
  widened : (count high return_high high' return_high' : ℕ) (from : OpenConfiguration) (place : ℕ) (c memory : List ℕ) (s : Surroundings)
      (taken : List (Option ℕ)) → high ≤ high' → return_high ≤ return_high' →
      Comes count high return_high from place c memory s taken → Comes count high' return_high' from place c memory s taken
  widened count high return_high high' return_high' from place c memory s taken h r come = record {
    data_above = come.data_above;
    return_above = come.return_above;
    makes = come.makes;
    bounds = laws.wider 0 high 0 return_high 0 high' 0 return_high' count 0x2000 from (omega arith) h (omega arith) r come.bounds;
  }

  -- a part of a run, and what it leads to from just there
  joined_at : (a b high return_high : ℕ) (from : OpenConfiguration) (place place' : ℕ) (c c' memory memory' : List ℕ) (s s' : Surroundings)
      (taken taken' : List (Option ℕ)) →
      (first : Comes a high return_high from place c memory s taken) →
      Comes b high return_high (stands_at place c memory s first.data_above (taken ++ first.return_above)) place' c' memory' s' taken' →
      Comes (a + b) high return_high from place' c' memory' s' taken'
  joined_at a b high return_high from place place' c c' memory memory' s s' taken taken' first second = record {
    data_above = second.data_above;
    return_above = second.return_above;
    makes = laws.runs a b 0x2000 from ∙ ap (run open_storage 0x2000 b) first.makes ∙ second.makes;
    bounds = laws.bounds 0 high 0 return_high a b 0x2000 from first.bounds
        (subst (BeforeEach (StaysWithin 0 high 0 return_high) 0x2000 b) (sym first.makes) second.bounds);
  }

  module _ (code : List ℕ) (token : Word → ℕ) (place : ℕ → ℕ) (p : SourceProgram) (item : TypedItem) (c : List ℕ) (w : World)
      (address high back k : ℕ) (below da ra : List (Option ℕ))
      (h : WordStands code token place p item c w address below) (room : length c + 3 ≤ high) (some : 1 ≤ back)
      (going : GoesOn p k (word_begins item c below w)) (fit : ItemsFit p high back k (word_begins item c below w)) where
    abbrev w1 : World
    w1 = with_base (suc (length below)) w

    abbrev s0 : Surroundings
    s0 = below_go below w

    abbrev deep : ℕ
    deep = length below + 1 + back

    abbrev begun : State
    begun = word_begins item c below w

    abbrev from : OpenConfiguration
    from = at_run_code code w address below da ra

    abbrev n : ℕ
    n = 13 * length c + 15

    loaded : Comes n high deep from run_call c (code ++ w1.space) (called_from address s0) (Some (2 * run_call) ∷ [])
    loaded =
        subst (λ m. Comes n high deep from run_call c m (called_from address s0) (Some (2 * run_call) ∷ []))
        (base_space code h.typed.size (suc (length below)) w)
        (widened n (length c + 3) (length (called_from address s0).returns + 1) high deep from run_call c
        (with_return_base (suc (length below)) (code ++ w.space)) (called_from address s0) (Some (2 * run_call) ∷ []) room
        (omega (arith, some))
        (laws.loads (code ++ w.space) c (called_from address s0) h.machine_code h.user_cells h.few da ra))

    abbrev there : OpenConfiguration
    there = stands code run_call c w1 (Some address ∷ below) loaded.data_above (Some (2 * run_call) ∷ loaded.return_above)

    follows : Follows code (run_call + 1) (Some address ∷ below) p high back k begun there
    follows =
        let kept = laws.kept code w.space w1.space token place p h.typed.size (base_behind (suc (length below)) w) in
        laws.items code token place p (one_item item) c w1 run_call (run_call + 1) high back k (Some address ∷ below) loaded.data_above
        (Some (2 * run_call) ∷ loaded.return_above) (kept.0 h.typed)
        (kept.1 (length p.bodies) run_call (run_call + 1) (one_item item) h.at_run_call) h.known h.cells
        (base_world (suc (length below)) w h.world) h.starts going fit

    joined : run open_storage 0x2000 (n + follows.count) from ≡ run open_storage 0x2000 follows.count there
    joined = laws.runs n follows.count 0x2000 from ∙ ap (run open_storage 0x2000 follows.count) loaded.makes

    shows : Shows code (run open_storage 0x2000 (n + follows.count) from) (steps p k begun)
    shows = subst (λ u. Shows code u (steps p k begun)) (sym joined) follows.shows

    item_bounds : (m : ℕ) (v : OpenConfiguration) → BeforeEach (StaysWithin 0 high 0 (length (Some address ∷ below) + back)) 0x2000 m v →
        BeforeEach (StaysWithin 0 high 0 deep) 0x2000 m v
    item_bounds m v b = laws.wider 0 high 0 (length (Some address ∷ below) + back) 0 high 0 deep m 0x2000 v (omega arith) (omega arith)
        (omega arith) (omega arith) b

    -- behind the items
    module _ (t : State) (e : steps p k begun ≡ Goes t) (done : is_done t ≡ true) (few : length t.cells ≤ 31)
        (fits : length t.cells + 2 ≤ high) where
      b : ComesBehind code (run_call + 1) (Some address ∷ below) high (length (Some address ∷ below) + back)
          (run open_storage 0x2000 follows.count there) w1 t
      b = follows.behind t e done (omega (arith, fits))

      abbrev s2 : Surroundings
      s2 = record s0 { input = t.world.input; printed = t.world.printed }

      done_items : Comes (follows.count + b.more) high deep there (run_call + 1) t.cells (code ++ t.world.space) (called_from address s2) []
      done_items = record {
        data_above = b.data_above;
        return_above = b.return_above;
        makes = laws.runs follows.count b.more 0x2000 there ∙ b.makes;
        bounds = laws.bounds 0 high 0 deep follows.count b.more 0x2000 there (item_bounds follows.count there follows.bounds)
            (item_bounds b.more (run open_storage 0x2000 follows.count there) b.bounds);
      }

      now_behind : KeepsBehind w.space t.world.space
      now_behind = behind_all w.space w1.space t.world.space (base_behind (suc (length below)) w) b.space

      code_there : HasMachineCode (code ++ t.world.space)
      code_there = code_behind code h.typed.size w.space t.world.space now_behind h.machine_code

      saves : Comes (1 + (12 * length t.cells + 13)) high deep
          (stands_at (run_call + 1) t.cells (code ++ t.world.space) (called_from address s2) done_items.data_above done_items.return_above)
          (place_of address) [] (saved t.cells (code ++ t.world.space)) s2 (Some address ∷ [])
      saves =
          let first = laws.jumps (run_call + 1) save high deep (code ++ t.world.space) t.cells
          (called_from address s2) code_there.behind_call.0 (omega arith) (omega (arith, fits))
          (omega arith) done_items.data_above done_items.return_above in
          joined_at 1 (12 * length t.cells + 13) high deep _ save (place_of address) t.cells [] (code ++ t.world.space)
          (saved t.cells (code ++ t.world.space)) (called_from address s2) s2 [] (Some address ∷ []) first
          (widened (12 * length t.cells + 13) (length t.cells + 2) (length s2.returns + 1) high deep _ (place_of address) []
          (saved t.cells (code ++ t.world.space)) s2 (Some address ∷ []) fits (omega arith)
          (laws.saves (code ++ t.world.space) t.cells address s2 code_there few first.data_above first.return_above))

      kept : KeepsCode code t.world.space t.cells
      kept = laws.keeps code t.world.space t.cells h.typed.size few

      abbrev more : ℕ
      more = b.more + (1 + (12 * length t.cells + 13))

      printed : (more : List ℕ) × (t.world.printed ≡ w.printed ++ more)
      printed = subst (λ o. (more : List ℕ) × ((world_of o).printed ≡ w.printed ++ more)) e (laws.grow p k begun).prints

      returns : Returns (n + follows.count + more) high deep run_code address
          (code ++ w.space) code kept.after t.world.input printed.0 s0 da ra
      returns =
          let all = joined_at n (follows.count + b.more + (1 + (12 * length t.cells + 13))) high deep from run_call (place_of address) c []
          (code ++ w1.space) (saved t.cells (code ++ t.world.space)) (called_from address s0) s2 (Some (2 * run_call) ∷ [])
          (Some address ∷ []) loaded
          (joined_at (follows.count + b.more) (1 + (12 * length t.cells + 13)) high deep there (run_call + 1) (place_of address) t.cells []
          (code ++ t.world.space) (saved t.cells (code ++ t.world.space)) (called_from address s2) s2 []
          (Some address ∷ []) done_items saves) in
          let counted = recount (n + (follows.count + b.more + (1 + (12 * length t.cells + 13)))) (n + follows.count + more) high deep from
          (place_of address) [] (saved t.cells (code ++ t.world.space)) s2 (Some address ∷ []) (omega arith) all in
          subst (λ x. Comes (n + follows.count + more) high deep from (place_of address) [] (code ++ kept.after)
          (record s0 { input = t.world.input; printed = x }) (Some address ∷ [])) printed.1
          (subst (λ m. Comes (n + follows.count + more) high deep from (place_of address) [] m s2 (Some address ∷ [])) kept.memory counted)

      comes_back : ComesBack code address below high deep (n + follows.count) w t da ra
      comes_back =
          let few_more = b.few in
          let whole = laws.saved_cells (code ++ t.world.space) t.cells code_there few in
          let sized = code_there.size in
          let after = saved_behind code h.typed.size t.world.space t.cells few code_there laws.saved_cells kept in
          record {
            more = more;
            few = omega (arith, few_more);
            kept = kept;
            printed = printed.0;
            printed_is = printed.1;
            returns = returns;
            goes = laws.goes (n + follows.count + more) high deep run_code address
                (code ++ w.space) code kept.after t.world.input printed.0 s0 da ra returns;
            is_return = λ q starts. record {
              size = kept.size ∙ space_size sized ∙ sym (ap (λ x. (0x4000 - x) / 2) starts);
              cells = kept.cells (are_cells t.world.space b.world.space) b.cells;
              bytes = are_bytes t.world.input b.world.input;
            };
            machine_code = subst HasMachineCode kept.memory whole.code;
            user_cells = subst (λ m. HasUserCells m t.cells) kept.memory whole.cells;
            behind = record { size = after.size ∙ now_behind.size; same = λ i low. after.same i low ∙ now_behind.same i low };
          }
        where
          space_size : length (code ++ t.world.space) ≡ 0x2000 → length t.world.space ≡ 0x1000
          space_size s = omega (arith, s, length-append code t.world.space, h.typed.size)

    pub word_follows : WordFollows code p address below high back k c w begun da ra
    word_follows =
        let paid = follows.within_price in
        record {
          count = n + follows.count;
          within_price = omega (arith, paid);
          far_enough = λ none. let far = follows.far_enough none in omega (arith, far);
          shows = shows;
          can_end = follows.can_end;
          bounds =
              laws.bounds 0 high 0 deep n follows.count 0x2000 from loaded.bounds
              (subst (BeforeEach (StaysWithin 0 high 0 deep) 0x2000 follows.count) (sym loaded.makes)
              (item_bounds follows.count there follows.bounds));
          no_more = laws.shows_no_more code p k (n + follows.count) begun from shows
              (λ none. let far = follows.far_enough none in omega (arith, far)) follows.can_end;
          comes_back = comes_back;
        }

pub typed_words_do_their_meaning : WordLaws → TypedWordsDoTheirMeaning
typed_words_do_their_meaning laws code token place p item c w address high back k below da ra h room some going fit =
    word_follows laws code token place p item c w address high back k below da ra h room some going fit
