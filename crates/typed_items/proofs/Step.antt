-- One word step of typed items, by their code.
use Rattle.std.proofs.Common.{◌≡◌, ℕ, zero, suc, ◌+◌, ◌-◌, ◌*◌, ◌<◌, ◌≤◌, inl, inr, nat_lt, true, false, List, [], ◌∷◌, ◌++◌, length}
use Rattle.std.proofs.Common.{Option, Some, refl, sym, ap, ◌∙◌, subst, arith}
use Rattle.std.proofs.lemmas.List.{get_or-append_right}
use Rattle.std.specs.Prelude.{slice_index, if◌then◌else◌}
use Rattle.word_table.specs.declared.word.Word.{Word}
use Rattle.word_table.specs.Table.{entry_of}
use Rattle.j1_table.specs.declared.instr.Instr.{Instr}
use Rattle.j1_table.specs.declared.instr.Instr.TheVariants.{Jump, Branch, Alu, Call as CallTo}
use Rattle.j1_table.specs.Instruction.{decoded}
use Rattle.j1_simulator.specs.Effect.{following}
use Rattle.j1_simulator.specs.Step.{Stop}
use Rattle.j1_simulator.specs.OpenMachine.{top_cell, rest, open_storage}
use Rattle.j1_simulator.specs.Run.{run}
use Rattle.forth_program.specs.State.{Work, UntilTest, WhileTest, Repeat, Frame, World, State, End, Reply, Gives, Stops, Outcome, Goes}
use Rattle.forth_program.specs.State.{Ends as EndsRun}
use Rattle.forth_program.specs.Program.{SourceProgram, body_of}
use Rattle.forth_program.specs.Meaning.{meaning}
use Rattle.forth_program.specs.Step.{First, IsLiteral, IsWord, IsCall, IsIf, IsTrueEnd, IsUntil, IsWhile, IsRepeat, before, first_work}
use Rattle.forth_program.specs.Step.{closed_by, on_cells, on_flag, act, step}
use Rattle.forth_program.specs.Run.{lacks}
use Rattle.forth_program.specs.Price.{word_price, first_price, step_price}
use Rattle.forth_program.specs.Heights.{peak_of}
use Rattle.forth_program.specs.Cells.{AreCells, IsWorld}
use Rattle.word_laws.specs.Rings.{OpenConfiguration, BeforeEach}
use Rattle.word_laws.specs.Bounds.{StaysWithin}
use Rattle.word_laws.specs.Numbers.{number_cells}
use Rattle.word_laws.specs.Standing.{data_places, machine_end, EndedIn, HasCome}
use Rattle.typed_items.specs.Items.{is_listed}
use Rattle.typed_items.specs.Listed.{place_of, stands, AreReturnPlaces, DoesWord, word_is_done, KeepsSpace, ListedWords}
use Rattle.typed_items.specs.Laws.{is_done, typed_back}
use Rattle.typed_items.proofs.Instructions.{Laws, Runs, no_run, runs_then, widen, literal_is, literal, inverted, jump, branch_taken}
use Rattle.typed_items.proofs.Instructions.{branch_passed, call, returned}
use Rattle.typed_items.proofs.Listed.{word_costs, word_step_is, word_needs}
use Rattle.typed_items.proofs.Placed.{Holds, HaveCells, Led, led_here, led_more, Ahead, Closed, Here, here_before, here_to, Opens, opens}
use Rattle.typed_items.proofs.Placed.{here_closed, Ends, Callers, callers_places}

kept_still : (a b c : List ℕ) → KeepsSpace a b → KeepsSpace b c → KeepsSpace a c
kept_still a b c h k = record { size = k.size ∙ h.size; same = λ i low. k.same i low ∙ h.same i low }

pub same_space : (a : List ℕ) → KeepsSpace a a
same_space a = record { size = refl; same = λ i low. refl }

module _ (laws : Laws) (code : List ℕ) (size : length code ≡ 0x1000) (token : Word → ℕ) (listed : ListedWords code token) (place : ℕ → ℕ)
    (p : SourceProgram) (w0 : World) where
  abbrev pub reference : List ℕ
  reference = code ++ w0.space

  abbrev pub count_of : ℕ
  count_of = length p.bodies

  -- every definition stands at its place, and a return behind it
  abbrev pub BodiesStand : Type 0
  BodiesStand = (d : ℕ) → d < length p.bodies → Led reference 4
      (λ q. Here reference token place (length p.bodies) (λ e. Holds reference e (Alu 0x100C)) q (before (body_of p d) [])) (place d)

  module _ (w : World) (space : KeepsSpace w0.space w.space) where
    kept : (at : ℕ) → 4160 ≤ at → slice_index (code ++ w.space) at ≡ slice_index reference at
    kept at low =
        let same : slice_index w.space (at - 0x1000) ≡ slice_index w0.space (at - 0x1000) = space.same (at - 0x1000) (omega arith) in
        get_or-append_right code w.space 0x1000 at 0 size (omega arith) ∙ same
        ∙ sym (get_or-append_right code w0.space 0x1000 at 0 size (omega arith))

    -- an instruction that stands there still does
    pub now : (at : ℕ) (i : Instr) → Holds reference at i → decoded (slice_index (code ++ w.space) at) ≡ i
    now at i h = ap decoded (kept at h.1) ∙ h.0

    -- jumps, up to where they lead
    pub hops : (n : ℕ) (K : ℕ → Type 0) (at high return_high : ℕ) (c : List ℕ) (r da ra : List (Option ℕ)) → length c ≤ high →
        length r ≤ return_high → Led reference n K at →
        (h : ℕ) × (q : ℕ) × (h ≤ n) × K q × Runs high return_high h (stands code at c w r da ra) (stands code q c w r da ra)
    hops zero K at high return_high c r da ra deep under k = (0, at, omega arith, k, no_run high return_high (stands code at c w r da ra))
    hops (suc n) K at high return_high c r da ra deep under (inl k) =
        (0, at, omega arith, k, no_run high return_high (stands code at c w r da ra))
    hops (suc n) K at high return_high c r da ra deep under (inr l) =
        let more = hops n K l.0 high return_high c r da ra deep under l.2 in
        let le = more.2 in (
          1 + more.0,
          more.1,
          omega (arith, le),
          more.3,
          runs_then laws high return_high 1 more.0 (stands code at c w r da ra) (stands code l.0 c w r da ra)
              (stands code more.1 c w r da ra)
              (jump code w high return_high at l.0 c r da ra (now at (Jump l.0) l.1) deep under) more.4,
        )

    -- a number
    pub number_runs : (value at next high return_high : ℕ) (c : List ℕ) (r da ra : List (Option ℕ)) → value < 0x10000 →
        HaveCells reference at (number_cells value) next → length c + 1 ≤ high → length r ≤ return_high →
        (m : ℕ) × (1 ≤ m) × (m ≤ 2) × (da' : List (Option ℕ)) ×
        Runs high return_high m (stands code at c w r da ra) (stands code next (value ∷ c) w r da' ra)
    number_runs value at next high return_high c r da ra small h room under =
        (elim (nat_lt value 0x8000) as
        (λ b. HaveCells reference at (if b then (0x8000 + value) ∷ [] else (0x8000 + (0xffff - value)) ∷ 0x6600 ∷ []) next →
        (m : ℕ) × (1 ≤ m) × (m ≤ 2) × (da' : List (Option ℕ)) ×
        Runs high return_high m (stands code at c w r da ra) (stands code next (value ∷ c) w r da' ra)) [
          | true ↦ λ k. (
            1,
            omega arith,
            omega arith,
            rest da,
            subst
                (λ q. Runs high return_high 1 (stands code at c w r da ra) (stands code q (value ∷ c) w r (rest da) ra)) k.2
                (one_cell value k.0 k.1),
          )
          | false ↦ λ k. (2, omega arith, omega arith, rest da, two_cells k.0 k.1 k.2.0 k.2.1 k.2.2)
        ]) h
      where
        one_cell : (v : ℕ) → slice_index reference at ≡ 0x8000 + v → 4160 ≤ at →
            Runs high return_high 1 (stands code at c w r da ra) (stands code (following at) (v ∷ c) w r (rest da) ra)
        one_cell v is low = literal code w high return_high at v c r da ra (ap decoded (kept at low ∙ is) ∙ literal_is v)
            (omega (arith, room)) under

        back : 0xffff - (0xffff - value) ≡ value
        back = omega (arith, small)

        two_cells : slice_index reference at ≡ 0x8000 + (0xffff - value) → 4160 ≤ at → slice_index reference (following at) ≡ 0x6600 →
            4160 ≤ following at → following (following at) ≡ next →
            Runs high return_high 2 (stands code at c w r da ra) (stands code next (value ∷ c) w r (rest da) ra)
        two_cells is low is' low' to =
            subst (λ q. Runs high return_high 2 (stands code at c w r da ra) (stands code q (value ∷ c) w r (rest da) ra)) to
            (subst (λ x. Runs high return_high 2 (stands code at c w r da ra)
            (stands code (following (following at)) (x ∷ c) w r (rest da) ra)) back
            (runs_then laws high return_high 1 1 (stands code at c w r da ra)
            (stands code (following at) ((0xffff - value) ∷ c) w r (rest da) ra) _
            (one_cell (0xffff - value) is low)
            (inverted code w high return_high (following at) (0xffff - value) c r (rest da) ra (ap decoded (kept (following at) low' ∙ is'))
            (omega (arith, room)) under)))

  module _ (bodies : BodiesStand) (final : ℕ) (outer : List (Option ℕ)) (known : AreReturnPlaces outer) where
    abbrev pub Work_at : List Frame → ℕ → List Work → Type 0
    Work_at callers at work = Here reference token place count_of (Ends reference token place count_of final callers) at work

    abbrev pub CallersStand : List Frame → List (Option ℕ) → Type 0
    CallersStand callers r = Callers reference token place count_of final outer callers r

    -- a state stands at a place, over these return places
    pub record Meets (at : ℕ) (s : State) (r : List (Option ℕ)) : Type 0 where
      pub here : Led reference 4 (λ q. Work_at s.callers q s.work) at
      pub entries : s.entries ≡ []
      pub callers : CallersStand s.callers r
      pub cells : AreCells s.cells
      pub world : IsWorld s.world
      pub starts : s.world.data_start ≡ 0x2000
      pub space : KeepsSpace w0.space s.world.space

    -- the machine comes to where a state stands
    pub record Comes (v : OpenConfiguration) (most high return_high : ℕ) (after : State) : Type 0 where
      pub count : ℕ
      pub some : 1 ≤ count
      pub cheap : count ≤ most
      pub to : ℕ
      pub r : List (Option ℕ)
      pub data_above : List (Option ℕ)
      pub return_above : List (Option ℕ)
      pub runs : Runs high return_high count v (stands code to after.cells after.world r data_above return_above)
      pub meets : Meets to after r

    -- or ends as the source
    pub record Halts (v : OpenConfiguration) (most high return_high : ℕ) (end : End) (world : World) : Type 0 where
      pub count : ℕ
      pub cheap : count ≤ most
      pub stop : Stop
      pub stop_is : machine_end end ≡ Some stop
      pub ended : EndedIn (run open_storage 0x2000 count v) code stop world
      pub bounds : BeforeEach (StaysWithin 0 high 0 return_high) 0x2000 count v

    abbrev pub Follows : OpenConfiguration → ℕ → ℕ → ℕ → Outcome → Type 0
    Follows v most high return_high (Goes after) = Comes v most high return_high after
    Follows v most high return_high (EndsRun end world) = Halts v most high return_high end world

    -- after instructions
    follows_after : (v v' : OpenConfiguration) (n most all high return_high : ℕ) (o : Outcome) → n + most ≤ all →
        Runs high return_high n v v' → Follows v' most high return_high o → Follows v all high return_high o
    follows_after v v' n most all high return_high (Goes after) le runs f =
        let some = f.some in
        let paid = f.cheap in
        record {
          count = n + f.count;
          some = omega (arith, some);
          cheap = omega (arith, paid);
          to = f.to;
          r = f.r;
          data_above = f.data_above;
          return_above = f.return_above;
          runs = runs_then laws high return_high n f.count v v'
              (stands code f.to after.cells after.world f.r f.data_above f.return_above) runs f.runs;
          meets = f.meets;
        }
    follows_after v v' n most all high return_high (EndsRun end world) le runs f =
        let paid = f.cheap in
        let joined : run open_storage 0x2000 (n + f.count) v ≡ run open_storage 0x2000 f.count v' =
        laws.runs n f.count 0x2000 v ∙ ap (run open_storage 0x2000 f.count) runs.makes in
        record {
          count = n + f.count;
          cheap = omega (arith, paid);
          stop = f.stop;
          stop_is = f.stop_is;
          ended = subst (λ u. EndedIn u code f.stop world) (sym joined) f.ended;
          bounds = laws.bounds 0 high 0 return_high n f.count 0x2000 v runs.bounds
              (subst (BeforeEach (StaysWithin 0 high 0 return_high) 0x2000 f.count) (sym runs.makes) f.bounds);
        }

    module _ (callers : List Frame) (r : List (Option ℕ)) (frames : CallersStand callers r) (w : World) (world : IsWorld w)
        (starts : w.data_start ≡ 0x2000) (space : KeepsSpace w0.space w.space)
        (high return_high at : ℕ) (under : length r ≤ return_high) (da ra : List (Option ℕ)) where
      abbrev state : List Work → List ℕ → State
      state work c = record { work = work; entries = []; callers = callers; cells = c; world = w }

      abbrev v : List ℕ → OpenConfiguration
      v c = stands code at c w r da ra

      abbrev Goes_on : List Work → ℕ → Type 0
      Goes_on work to = Led reference 4 (λ q. Work_at callers q work) to

      met : (to : ℕ) (work : List Work) (c : List ℕ) → AreCells c → Goes_on work to → Meets to (state work c) r
      met to work c cells here = record {
        here = here;
        entries = refl;
        callers = frames;
        cells = cells;
        world = world;
        starts = starts;
        space = space;
      }

      -- by one instruction, in the same frame and world
      comes_by : (m most to : ℕ) (work : List Work) (c c' : List ℕ) (da' ra' : List (Option ℕ)) → 1 ≤ m → m ≤ most →
          Runs high return_high m (v c) (stands code to c' w r da' ra') → AreCells c' → Goes_on work to →
          Comes (v c) most high return_high (state work c')
      comes_by m most to work c c' da' ra' some cheap runs cells here = record {
        count = m;
        some = some;
        cheap = cheap;
        to = to;
        r = r;
        data_above = da';
        return_above = ra';
        runs = runs;
        meets = met to work c' cells here;
      }

      -- a decision
      decides : (c : List ℕ) (target : ℕ) (at_zero other : List Work) (old : List Work) → AreCells c → Holds reference at (Branch target) →
          Goes_on at_zero target → Goes_on other (following at) →
          lacks (on_flag c at_zero other (state old c)) ≡ false → length c ≤ high →
          Follows (v c) 4 high return_high (on_flag c at_zero other (state old c))
      decides [] target at_zero other old cells holds zeros others sound deep = absurd (let f : true ≡ false = sound in cc)
      decides (zero ∷ c) target at_zero other old cells holds zeros others sound deep =
          comes_by 1 4 target at_zero (0 ∷ c) c (top_cell (data_places c) ∷ da) ra (omega arith) (omega arith)
          (branch_taken code w high return_high at target c r da ra (now w space at (Branch target) holds)
          (omega (arith, deep)) under) cells.1 zeros
      decides (suc n ∷ c) target at_zero other old cells holds zeros others sound deep =
          comes_by 1 4 (following at) other (suc n ∷ c) c (top_cell (data_places c) ∷ da) ra (omega arith) (omega arith)
          (branch_passed code w high return_high at target n c r da ra (now w space at (Branch target) holds)
          (omega (arith, deep)) under) cells.1 others

      back_at : place_of (2 * following at) ≡ following at
      back_at = omega arith

      -- a listed word, by what its routine does
      module _ (word : Word) (after old : List Work) (c : List ℕ) (cells : AreCells c) (is : is_listed word ≡ true)
          (deep : length c + (entry_of word).peak ≤ high) (back : length r + (1 + (entry_of word).back) ≤ return_high)
          (holds : Holds reference at (CallTo (token word))) (onward : Goes_on after (following at)) where
        abbrev there : OpenConfiguration
        there = stands code (token word) c w (Some (2 * following at) ∷ r) da (rest ra)

        calls : Runs high return_high 1 (v c) there
        calls = call code w high return_high at (token word) c r da ra (now w space at (CallTo (token word)) holds)
            (omega (arith, deep)) under

        word_follows : (reply : Reply (List ℕ)) → meaning word c w ≡ reply → DoesWord code word (2 * following at) c w r there →
            Follows (v c) (4 * word_price word c w) high return_high (on_cells reply (state after c))
        word_follows (Gives c' w') e d =
            let left = listed.leaves word c c' w w' is cells world starts e in
            let paid = d.cheap in
            let costs = word_costs word c w is in
            let come : HasCome code (place_of (2 * following at)) r (run open_storage 0x2000 d.count there)
            (on_cells (Gives c' w') (word_is_done c w)) =
            subst (λ x. HasCome code (place_of (2 * following at)) r (run open_storage 0x2000 d.count there)
            (on_cells x (word_is_done c w))) e d.comes in
            let within : BeforeEach (StaysWithin 0 high 0 return_high) 0x2000 d.count there =
            widen laws 0 (length c + (entry_of word).peak) 0 (length r + 1 + (entry_of word).back) high return_high d.count there deep
            (omega (arith, back)) d.bounds in
            let to : stands code (place_of (2 * following at)) c' w' r come.0 come.1 ≡ stands code (following at) c' w' r come.0 come.1 =
            ap (λ q. stands code q c' w' r come.0 come.1) back_at in
            record {
              count = 1 + d.count;
              some = omega arith;
              cheap = omega (arith, paid, costs);
              to = following at;
              r = r;
              data_above = come.0;
              return_above = come.1;
              runs = runs_then laws high return_high 1 d.count (v c) there (stands code (following at) c' w' r come.0 come.1) calls
                  (record { makes = come.2 ∙ to; bounds = within });
              meets = record {
                here = onward;
                entries = refl;
                callers = frames;
                cells = left.cells;
                world = left.world;
                starts = left.starts ∙ starts;
                space = kept_still w0.space w.space w'.space space left.space;
              };
            }
        word_follows (Stops end w') e d =
            let paid = d.cheap in
            let costs = word_costs word c w is in
            let come : HasCome code (place_of (2 * following at)) r (run open_storage 0x2000 d.count there)
            (on_cells (Stops end w') (word_is_done c w)) =
            subst (λ x. HasCome code (place_of (2 * following at)) r (run open_storage 0x2000 d.count there)
            (on_cells x (word_is_done c w))) e d.comes in
            let joined : run open_storage 0x2000 (1 + d.count) (v c) ≡ run open_storage 0x2000 d.count there =
            laws.runs 1 d.count 0x2000 (v c) ∙ ap (run open_storage 0x2000 d.count) calls.makes in
            let within : BeforeEach (StaysWithin 0 high 0 return_high) 0x2000 d.count there =
            widen laws 0 (length c + (entry_of word).peak) 0 (length r + 1 + (entry_of word).back) high return_high d.count there deep
            (omega (arith, back)) d.bounds in
            record {
              count = 1 + d.count;
              cheap = omega (arith, paid, costs);
              stop = come.0;
              stop_is = come.1;
              ended = subst (λ u. EndedIn u code come.0 w') (sym joined) come.2;
              bounds = laws.bounds 0 high 0 return_high 1 d.count 0x2000 (v c) calls.bounds
                  (subst (BeforeEach (StaysWithin 0 high 0 return_high) 0x2000 d.count) (sym calls.makes) within);
            }

      -- the first work, where something is left in the frame
      first_follows : (f : First) (old : List Work) (c : List ℕ) → AreCells c →
          Opens reference token place count_of (Ends reference token place count_of final callers) at f →
          lacks (act p f (state old c)) ≡ false →
          length c + peak_of callers f ≤ high → length r + typed_back f ≤ return_high →
          Follows (v c) (4 * first_price f c w) high return_high (act p f (state old c))
      first_follows (IsLiteral value after) old c cells h sound deep back =
          let run = number_runs w space value at h.0 high return_high c r da ra h.1 h.2 deep under in
          let few = run.2 in
          comes_by run.0 8 h.0 after c (value ∷ c) run.3 ra run.1 (omega (arith, few)) run.4 (h.1, cells) h.3
      first_follows (IsWord word after) old c cells h sound deep back =
          let same = word_step_is p word c [] (state after c) h.0 in
          let need = word_needs word c (state after c) h.0 (sym (ap lacks same) ∙ sound) in
          subst (Follows (v c) (4 * word_price word c w) high return_high) (sym same)
          (word_follows word after old c cells h.0 deep back h.1 h.2 (meaning word c w) refl
          (listed.does word (2 * following at) c w r da (rest ra) h.0 (omega arith)
          (callers_places reference token place count_of final outer known callers r frames) need cells world starts))
      first_follows (IsCall d after) old c cells h sound deep back = record {
        count = 1;
        some = omega arith;
        cheap = omega arith;
        to = place d;
        r = Some (2 * following at) ∷ r;
        data_above = da;
        return_above = rest ra;
        runs = call code w high return_high at (place d) c r da ra (now w space at (CallTo (place d)) h.1) (omega (arith, deep)) under;
        meets = record {
          here = bodies d h.0;
          entries = refl;
          callers = (r, at, refl, h.2, refl, frames);
          cells = cells;
          world = world;
          starts = starts;
          space = space;
        };
      }
      first_follows (IsIf first second after) old c cells h sound deep back =
          decides c h.0 (before second after) (before first (closed_by second after)) old cells h.1
          (led_more reference 4 (λ q. Ahead reference token place count_of q second (λ x. Work_at callers x after))
          (λ q. Work_at callers q (before second after))
          (λ q k. here_before reference token place count_of (Ends reference token place count_of final callers) second q after
          (λ x. Work_at callers x after) (λ x y. y) k) h.0 h.3)
          (led_more reference 4 (λ q. Ahead reference token place count_of q first
          (λ x. Closed reference token place count_of second (λ y. Work_at callers y after) x))
          (λ q. Work_at callers q (before first (closed_by second after)))
          (λ q k. here_before reference token place count_of (Ends reference token place count_of final callers) first q
          (closed_by second after) (λ x. Closed reference token place count_of second (λ y. Work_at callers y after) x)
          (λ x y. here_closed reference token place count_of (Ends reference token place count_of final callers) second x after y) k)
          (following at) h.2) sound (omega (arith, deep))
      first_follows (IsTrueEnd after) old c cells h sound deep back =
          comes_by 1 4 h.0 after c c da ra (omega arith) (omega arith)
          (jump code w high return_high at h.0 c r da ra (now w space at (Jump h.0) h.1) (omega (arith, deep)) under) cells h.2
      first_follows (IsUntil body after) old c cells h sound deep back =
          decides c h.0 (before body (UntilTest body ∷ after)) after old cells h.1
          (led_here reference 4 (λ q. Work_at callers q (before body (UntilTest body ∷ after))) h.0
          (here_to reference token place count_of (Ends reference token place count_of final callers) body h.0 at
          (UntilTest body ∷ after) h.2 (h.0, h.1, h.2, h.3))) h.3 sound (omega (arith, deep))
      first_follows (IsWhile test body after) old c cells h sound deep back =
          let parts = h.1 in
          let mark : Work_at callers h.0 (Repeat test body ∷ after) = (at, parts) in
          decides c parts.next after (before body (Repeat test body ∷ after)) old cells parts.branch parts.onward
          (led_here reference 4 (λ q. Work_at callers q (before body (Repeat test body ∷ after))) (following at)
          (here_to reference token place count_of (Ends reference token place count_of final callers) body (following at) h.0
          (Repeat test body ∷ after) parts.body_stands mark)) sound (omega (arith, deep))
      first_follows (IsRepeat test body after) old c cells h sound deep back =
          let parts = h.1 in
          let mark : Work_at callers h.0 (WhileTest test body ∷ after) = (at, parts) in
          comes_by 1 4 parts.begin (before test (WhileTest test body ∷ after)) c c da ra (omega arith) (omega arith)
          (jump code w high return_high at parts.begin c r da ra (now w space at (Jump parts.begin) parts.jump)
          (omega (arith, deep)) under) cells
          (led_here reference 4 (λ q. Work_at callers q (before test (WhileTest test body ∷ after))) parts.begin
          (here_to reference token place count_of (Ends reference token place count_of final callers) test parts.begin h.0
          (WhileTest test body ∷ after) parts.test_stands mark))
      first_follows f old c cells h sound deep back = absurd h

      -- each of them costs something
      first_costs : (f : First) (c : List ℕ) → Opens reference token place count_of
          (Ends reference token place count_of final callers) at f → 1 ≤ first_price f c w
      first_costs (IsLiteral value after) c h = omega arith
      first_costs (IsWord word after) c h = word_costs word c w h.0
      first_costs (IsCall d after) c h = omega arith
      first_costs (IsIf first second after) c h = omega arith
      first_costs (IsTrueEnd after) c h = omega arith
      first_costs (IsUntil body after) c h = omega arith
      first_costs (IsWhile test body after) c h = omega arith
      first_costs (IsRepeat test body after) c h = omega arith
      first_costs f c h = absurd h

    -- the end of a definition
    end_follows : (frame : Frame) (callers : List Frame) (r : List (Option ℕ)) (w : World) (c : List ℕ) (high return_high at : ℕ)
        (da ra : List (Option ℕ)) → CallersStand (frame ∷ callers) r → IsWorld w → w.data_start ≡ 0x2000 →
        KeepsSpace w0.space w.space → AreCells c → Holds reference at (Alu 0x100C) → length c ≤ high → length r ≤ return_high →
        Comes (stands code at c w r da ra) 4 high return_high
        (record { work = frame.work; entries = frame.entries; callers = callers; cells = c; world = w })
    end_follows frame callers r w c high return_high at da ra frames world starts space cells holds deep under =
        let below = frames.0 in
        let behind = frames.1 in
        let tall = ap length frames.2 in
        let back : place_of (2 * following behind) ≡ following behind = omega arith in
        let runs = returned code w high return_high at (2 * following behind) c below da ra (now w space at (Alu 0x100C) holds) deep
        (omega (arith, tall, under)) in
        let runs' = subst (λ q. Runs high return_high 1 (stands code at c w (Some (2 * following behind) ∷ below) da ra)
        (stands code q c w below da (Some (2 * following behind) ∷ ra))) back runs in
        record {
          count = 1;
          some = omega arith;
          cheap = omega arith;
          to = following behind;
          r = below;
          data_above = da;
          return_above = Some (2 * following behind) ∷ ra;
          runs = subst (λ x. Runs high return_high 1 (stands code at c w x da ra)
              (stands code (following behind) c w below da (Some (2 * following behind) ∷ ra))) (sym frames.2) runs';
          meets = record {
            here = frames.3;
            entries = frames.4;
            callers = frames.5;
            cells = cells;
            world = world;
            starts = starts;
            space = space;
          };
        }

    -- one step of what is not done, after the jumps that lead to it
    pub step_follows : (at : ℕ) (s : State) (r da ra : List (Option ℕ)) (high return_high : ℕ) → Meets at s r → is_done s ≡ false →
        lacks (step p s) ≡ false → length s.cells + peak_of s.callers (first_work s.work) ≤ high →
        length r + typed_back (first_work s.work) ≤ return_high →
        Follows (stands code at s.cells s.world r da ra) (8 * step_price s) high return_high (step p s)
    unfolding step
    step_follows at s r da ra high return_high m going sound deep back =
        let h = hops s.world m.space 4 (λ q. Work_at s.callers q s.work) at high return_high s.cells r da ra (omega (arith, deep))
        (omega (arith, back)) m.here in
        let few = h.2 in
        let same : s ≡ record s { entries = [] } = ap (λ es. record s { entries = es }) m.entries in
        subst (λ o. Follows (stands code at s.cells s.world r da ra) (8 * step_price s) high return_high o)
        (sym (ap (λ t. act p (first_work t.work) t) same))
        (from_here s.work s.callers s.cells s.world h.1 h.0 m.callers m.world m.starts m.space m.cells h.3 going few
        (sym (ap (λ t. lacks (act p (first_work t.work) t)) same) ∙ sound) deep back h.4)
      where
        from_here : (work : List Work) (callers : List Frame) (c : List ℕ) (w : World) (q n : ℕ) → CallersStand callers r → IsWorld w →
            w.data_start ≡ 0x2000 → KeepsSpace w0.space w.space → AreCells c →
            Work_at callers q work → is_done (record { work = work; entries = []; callers = callers; cells = c; world = w }) ≡ false →
            n ≤ 4 →
            lacks (act p (first_work work) (record { work = work; entries = []; callers = callers; cells = c; world = w })) ≡ false →
            length c + peak_of callers (first_work work) ≤ high → length r + typed_back (first_work work) ≤ return_high →
            Runs high return_high n (stands code at c w r da ra) (stands code q c w r da ra) →
            Follows (stands code at c w r da ra) (8 * first_price (first_work work) c w) high return_high
            (act p (first_work work) (record { work = work; entries = []; callers = callers; cells = c; world = w }))
        from_here [] [] c w q n frames world starts space cells here going few sound deep back runs =
            absurd (let f : true ≡ false = going in cc)
        from_here [] (frame ∷ callers) c w q n frames world starts space cells here going few sound deep back runs =
            follows_after (stands code at c w r da ra) (stands code q c w r da ra) n 4 8 high return_high
            (Goes (record { work = frame.work; entries = frame.entries; callers = callers; cells = c; world = w }))
            (omega (arith, few)) runs
            (end_follows frame callers r w c high return_high q da ra frames world starts space cells here (omega (arith, deep))
            (omega (arith, back)))
        from_here (first ∷ work) callers c w q n frames world starts space cells here going few sound deep back runs =
            let first_opens = opens reference token place count_of (Ends reference token place count_of final callers) first work q here in
            let f = first_work (first ∷ work) in
            let under : length r ≤ return_high = omega (arith, back) in
            let costs = first_costs callers r frames w world starts space high return_high q under da ra f c first_opens in
            follows_after (stands code at c w r da ra) (stands code q c w r da ra) n (4 * first_price f c w)
            (8 * first_price f c w) high return_high
            (act p f (record { work = first ∷ work; entries = []; callers = callers; cells = c; world = w }))
            (omega (arith, few, costs)) runs
            (first_follows callers r frames w world starts space high return_high q under da ra f
            (first ∷ work) c cells first_opens sound deep back)
