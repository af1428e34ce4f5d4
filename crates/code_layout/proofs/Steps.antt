-- One word step: numbers, words, calls, decisions and ends of bodies.
use Rattle.std.proofs.Common.{◌≡◌, ℕ, zero, suc, ◌+◌, ◌-◌, ◌*◌, ◌/◌, ◌<◌, ◌≤◌, ⊎_elim, nat_le, IsTrue, Bool, true, false, List, [], ◌∷◌, length, Option, Some, None, refl, sym, ap, ◌∙◌, subst, arith, add-mul}
use Rattle.std.specs.Prelude.{nat_lt, if◌then◌else◌}
use Rattle.std.proofs.lemmas.Bool.Decides.{nat_tests}
use Rattle.word_table.specs.declared.word.Word.{Word}
use Rattle.word_table.specs.declared.word.Word.TheVariants.{Dup, Depth}
use Rattle.word_table.specs.Table.{entry_of, cells_of, cells_from}
use Rattle.j1_table.specs.declared.instr.Instr.TheVariants.{Jump, Branch}
use Rattle.j1_simulator.specs.Effect.{following}
use Rattle.j1_simulator.specs.Step.{Stop}
use Rattle.j1_simulator.specs.OpenMachine.{top_cell as top, rest, open_storage}
use Rattle.j1_simulator.specs.Run.{run}
use Rattle.forth_program.specs.Tail.{ends_body}
use Rattle.forth_program.specs.State.{Entry, Work, TrueEnd, Frame, World, State, End, Halted, InputEnded, Outside, Underflow, Unbalanced, Left, Outcome, Goes, Ends}
use Rattle.forth_program.specs.Program.{SourceProgram, body_of}
use Rattle.forth_program.specs.Step.{IsWord, before, word_step, called, on_flag}
use Rattle.forth_program.specs.Price.{word_price}
use Rattle.word_laws.specs.Rings.{OpenConfiguration, BeforeEach}
use Rattle.word_laws.specs.Bounds.{StaysWithin}
use Rattle.forth_program.specs.Cells.{AreCells, AreEntries, IsWorld}
use Rattle.word_laws.specs.Control.{HoldsInstruction, halt_cells}
use Rattle.word_laws.specs.Numbers.{number_cells, NumberStands}
use Rattle.word_laws.specs.Standing.{data_places, return_places, standing_as, machine_end, EndedIn, HasCome, StandIn, machine_at}
use Rattle.word_laws.specs.Words.{stands_plain, return_need, CellsApply}
use Rattle.forth_program.specs.Run.{lacks}
use Rattle.forth_program.specs.Heights.{DepthFits}
use Rattle.code_layout.specs.Layout.{Routine, Definition}
use Rattle.code_layout.proofs.Work.{ahead, steps_left, unfinished, CallStands, Stands, Loops, loops_before, ahead_bound, ends_at_return, Called, Frames, Meets}
use Rattle.code_layout.proofs.Machine.{Laws, Runs, narrower, wider, runs_then, runs_one}
use Rattle.code_layout.proofs.Phrases.{word_ready, word_bounded, word_comes}

step_progress : (c a m n most : ℕ) → 1 ≤ c → a ≤ most → m ≤ n → 1 + a + m ≤ n + c * (most + 1)
step_progress zero a m n most h k l = absurd (omega arith)
step_progress (suc c) a m n most h k l = omega arith

pub number_short : (value : ℕ) → length (number_cells value) ≤ 2
number_short value = elim (nat_lt value 0x8000) as (λ b. length (if b then (0x8000 + value) ∷ [] else (0x8000 + (0xffff - value)) ∷ 0x6600 ∷ []) ≤ 2) [ true ↦ omega arith | false ↦ omega arith ]

pub number_one : (value : ℕ) → value < 32768 → length (number_cells value) ≡ 1
number_one value h =
    let small : nat_lt value 0x8000 ≡ true = grind (arith, nat_tests) in
    ap (λ b. length (if b then (0x8000 + value) ∷ [] else (0x8000 + (0xffff - value)) ∷ 0x6600 ∷ [])) small

pub number_some : (value : ℕ) → 1 ≤ length (number_cells value)
number_some value = elim (nat_lt value 0x8000) as (λ b. 1 ≤ length (if b then (0x8000 + value) ∷ [] else (0x8000 + (0xffff - value)) ∷ 0x6600 ∷ [])) [ true ↦ omega arith | false ↦ omega arith ]

cells_priced : (word : Word) → IsTrue (nat_le (length (cells_of word)) (entry_of word).base)
cells_priced Dup = refl
cells_priced word = refl

pub applies : (word : Word) (after : List Work) (c : List ℕ) → DepthFits (IsWord word after) c → CellsApply word c
applies Depth after c fits = fits
applies word after c fits = tt

module _ (laws : Laws) (p : SourceProgram) (code : List ℕ) (place : Routine → ℕ) (size : length code ≡ p.data_start / 2) where
  -- the machine comes to where a state stands
  pub record Comes (v : OpenConfiguration) (price now high return_high : ℕ) (after : State) : Type 0 where
    pub count : ℕ
    pub out : Option ℕ
    pub to : ℕ
    pub base : List (Option ℕ)
    pub data_above : List (Option ℕ)
    pub return_above : List (Option ℕ)
    pub runs : Runs p.data_start high return_high count v (standing_as after (machine_at code to base data_above return_above))
    pub meets : Meets code place p out to after base
    pub cheap : count ≤ price
    pub progress : 1 + ahead after.work + unfinished after.callers ≤ now + count * (p.source_tokens + 1)

  -- the machine ends as the source
  pub record Halts (v : OpenConfiguration) (price high return_high : ℕ) (end : End) (world : World) : Type 0 where
    pub count : ℕ
    pub stop : Stop
    pub stop_is : machine_end end ≡ Some stop
    pub ended : EndedIn (run open_storage p.data_start count v) code stop world
    pub bounds : BeforeEach (StaysWithin 0 high 0 return_high) p.data_start count v
    pub at_end : StaysWithin 0 high 0 return_high (run open_storage p.data_start count v)
    pub cheap : count ≤ price + 3

  -- unless cells or entries are lacking, or GO leads away
  abbrev pub Follows : OpenConfiguration → ℕ → ℕ → ℕ → ℕ → Outcome → Type 0
  Follows v price now high return_high (Goes after) = Comes v price now high return_high after
  Follows v price now high return_high (Ends Underflow world) = Unit {0}
  Follows v price now high return_high (Ends Unbalanced world) = Unit {0}
  Follows v price now high return_high (Ends (Left address) world) = Unit {0}
  Follows v price now high return_high (Ends end world) = Halts v price high return_high end world

  pub halts_after : (v v' : OpenConfiguration) (n price most high return_high : ℕ) (end : End) (world : World) → n + price ≤ most →
      Runs p.data_start high return_high n v v' → Halts v' price high return_high end world → Halts v most high return_high end world
  halts_after v v' n price most high return_high end world le runs f =
      let paid = f.cheap in
      let joined : run open_storage p.data_start (n + f.count) v ≡ run open_storage p.data_start f.count v' = laws.runs_join n f.count p.data_start v ∙ ap (run open_storage p.data_start f.count) runs.makes in
      record {
        count = n + f.count;
        stop = f.stop;
        stop_is = f.stop_is;
        ended = subst (λ u. EndedIn u code f.stop world) (sym joined) f.ended;
        bounds = laws.bounds_join 0 high 0 return_high n f.count p.data_start v runs.bounds (subst (BeforeEach (StaysWithin 0 high 0 return_high) p.data_start f.count) (sym runs.makes) f.bounds);
        at_end = subst (StaysWithin 0 high 0 return_high) (sym joined) f.at_end;
        cheap = omega (arith, paid);
      }

  -- by at least one instruction
  pub comes : (v : OpenConfiguration) (count to price now high return_high : ℕ) (out : Option ℕ) (after : State) (base data_above return_above : List (Option ℕ)) → 1 ≤ count → count ≤ price → unfinished after.callers ≤ now →
      Runs p.data_start high return_high count v (standing_as after (machine_at code to base data_above return_above)) → Meets code place p out to after base → Comes v price now high return_high after
  comes v count to price now high return_high out after base data_above return_above some cheap due runs meets = record {
    count = count;
    out = out;
    to = to;
    base = base;
    data_above = data_above;
    return_above = return_above;
    runs = runs;
    meets = meets;
    cheap = cheap;
    progress = step_progress count (ahead after.work) (unfinished after.callers) now p.source_tokens some (ahead_bound code place p out to after.work meets.stands) due;
  }

  -- by none
  pub stays : (v : OpenConfiguration) (to price now high return_high : ℕ) (out : Option ℕ) (after : State) (base data_above return_above : List (Option ℕ)) → 1 + ahead after.work + unfinished after.callers ≤ now →
      v ≡ standing_as after (machine_at code to base data_above return_above) → Meets code place p out to after base → Comes v price now high return_high after
  stays v to price now high return_high out after base data_above return_above n same meets = record {
    count = 0;
    out = out;
    to = to;
    base = base;
    data_above = data_above;
    return_above = return_above;
    runs = record { makes = same; bounds = tt };
    meets = meets;
    cheap = omega arith;
    progress = omega (arith, n);
  }

  -- instructions, and then what follows a step
  pub follows_after : (v v' : OpenConfiguration) (n price most now high return_high : ℕ) (o : Outcome) → n + price ≤ most →
      Runs p.data_start high return_high n v v' → Follows v' price now high return_high o → Follows v most now high return_high o
  follows_after v v' n price most now high return_high (Goes after) le runs f =
      let paid = f.cheap in
      let far = f.progress in
      record {
        count = n + f.count;
        out = f.out;
        to = f.to;
        base = f.base;
        data_above = f.data_above;
        return_above = f.return_above;
        runs = runs_then laws p.data_start high return_high n f.count v v' (standing_as after (machine_at code f.to f.base f.data_above f.return_above)) runs f.runs;
        meets = f.meets;
        cheap = omega (arith, paid);
        progress = omega (arith, far, add-mul n f.count (p.source_tokens + 1));
      }
  follows_after v v' n price most now high return_high (Ends Underflow world) le runs f = tt
  follows_after v v' n price most now high return_high (Ends Unbalanced world) le runs f = tt
  follows_after v v' n price most now high return_high (Ends (Left address) world) le runs f = tt
  follows_after v v' n price most now high return_high (Ends (Halted status) world) le runs f = halts_after v v' n price most high return_high (Halted status) world le runs f
  follows_after v v' n price most now high return_high (Ends InputEnded world) le runs f = halts_after v v' n price most high return_high InputEnded world le runs f
  follows_after v v' n price most now high return_high (Ends (Outside address) world) le runs f = halts_after v v' n price most high return_high (Outside address) world le runs f

  -- the header's halt, and every body
  pub record AllStand : Type 0 where
    pub halt : StandIn code 1 halt_cells 4
    pub bodies : (d : ℕ) → d < length p.bodies → Stands code place p None (place (Definition d)) (before (body_of p d) [])

  module _ (high return_high pc now : ℕ) (out : Option ℕ) (fs : List Frame) (world : World) (fits : IsWorld world) (starts : world.data_start ≡ p.data_start)
      (base data_above return_above : List (Option ℕ)) (frames : Frames code place p fs base) (due : unfinished fs ≤ now) where
    -- the state of a frame over these, and the machine there
    abbrev pub here : List Work → List Entry → List ℕ → State
    here w es c = record { work = w; entries = es; callers = fs; cells = c; world = world }

    abbrev pub There : List Entry → List ℕ → OpenConfiguration
    There es c = standing_as (here [] es c) (machine_at code pc base data_above return_above)

    pub number_runs : (value next : ℕ) (es : List Entry) (c : List ℕ) → value < 65536 → StandIn code pc (number_cells value) next → length c + 1 ≤ high → length (return_places es base) ≤ return_high →
        (above : List (Option ℕ)) × (above' : List (Option ℕ)) × Runs p.data_start high return_high (length (number_cells value)) (There es c) (standing_as (here [] es (value ∷ c)) (machine_at code next base above above'))
    number_runs value next es c small stands room back =
        let stands' : NumberStands value code pc next (here [] es c) = record { is_cell = small; code_size = size ∙ ap (λ d. d / 2) (sym starts); in_code = stands } in
        let come : HasCome code next base (run open_storage p.data_start (length (number_cells value)) (There es c)) (Goes (here [] es (value ∷ c))) =
        subst (λ d. HasCome code next base (run open_storage d (length (number_cells value)) (There es c)) (Goes (here [] es (value ∷ c)))) starts
        (laws.numbers p [] value (machine_at code pc base data_above return_above) next (here [] es c) stands') in
        let bounds = wider laws p.data_start (length c) (length c + 1) (length (return_places es base)) (length (return_places es base)) high return_high (length (number_cells value)) (There es c) room back
        (subst (λ d. BeforeEach (StaysWithin (length c) (length c + 1) (length (return_places es base)) (length (return_places es base))) d (length (number_cells value)) (There es c)) starts
        (laws.number_bounds value (machine_at code pc base data_above return_above) next (here [] es c) stands')) in
        (come.0, come.1, record { makes = come.2; bounds = bounds })

    pub number_follows : (value next : ℕ) (w : List Work) (es : List Entry) (c : List ℕ) → value < 65536 → StandIn code pc (number_cells value) next → Stands code place p out next w → Loops code place p out w → AreEntries es → AreCells c →
        length c + 1 ≤ high → length (return_places es base) ≤ return_high → Comes (There es c) 2 now high return_high (here w es (value ∷ c))
    number_follows value next w es c small stands s l fe fc room back =
        let r = number_runs value next es c small stands room back in
        comes (There es c) (length (number_cells value)) next 2 now high return_high out (here w es (value ∷ c)) base r.0 r.1 (number_some value) (number_short value) due r.2
        (record { stands = s; loops = l; frames = frames; cells = (small, fc); entries = fe; world = fits; starts = starts })

    word_halts : (word : Word) (next : ℕ) (w : List Work) (es : List Entry) (c : List ℕ) (end : End) (world' : World) → lacks (Ends end world') ≡ false → word_step p word c es (here w es c) ≡ Ends end world' →
        stands_plain word ≡ true → CellsApply word c → StandIn code pc (cells_from p.data_start word) next → AreEntries es → AreCells c →
        length c + (entry_of word).peak ≤ high → length (return_places es base) + (entry_of word).back ≤ return_high →
        Halts (There es c) (word_price word c world) high return_high end world'
    word_halts word next w es c end world' sound e plain fit stands fe fc room back =
        let ready = word_ready p high return_high base laws code size word (here w es c) pc next plain fit (ap lacks e ∙ sound) stands fc fe starts in
        let come = word_comes p high return_high base laws code size word (here w es c) pc next data_above return_above (Ends end world') ready starts e in
        let priced = cells_priced word in
        let paid : length (cells_of word) ≤ word_price word c world = grind (arith, nat_tests) in
        record {
          count = length (cells_of word);
          stop = come.0;
          stop_is = come.1;
          ended = come.2;
          bounds = word_bounded p high return_high base laws code size word (here w es c) pc next data_above return_above ready starts room back;
          at_end =
              narrower laws p.data_start (length c - (entry_of word).need) (length c + (entry_of word).peak)
              (length (return_places es base) - return_need word) (length (return_places es base) + (entry_of word).back) high return_high
              (run open_storage p.data_start (length (cells_of word)) (There es c)) room back
              (subst
              (λ d.
              StaysWithin (length c - (entry_of word).need) (length c + (entry_of word).peak) (length (return_places es base) - return_need word)
              (length (return_places es base) + (entry_of word).back) (run open_storage d (length (cells_of word)) (There es c))) starts
              (laws.word_ends p word (machine_at code pc base data_above return_above) next (here w es c) end world' ready e));
          cheap = omega (arith, paid);
        }

    pub word_follows : (word : Word) (next : ℕ) (w : List Work) (es : List Entry) (c : List ℕ) (o : Outcome) → word_step p word c es (here w es c) ≡ o →
        stands_plain word ≡ true → CellsApply word c → StandIn code pc (cells_from p.data_start word) next →
        Stands code place p out next w → Loops code place p out w → 1 + ahead w + unfinished fs ≤ now → AreEntries es → AreCells c →
        length c + (entry_of word).peak ≤ high → length (return_places es base) + (entry_of word).back ≤ return_high →
        Follows (There es c) (word_price word c world) now high return_high o
    word_follows word next w es c (Goes after) e plain fit stands s l n fe fc room back =
        let ready = word_ready p high return_high base laws code size word (here w es c) pc next plain fit (ap lacks e) stands fc fe starts in
        let come = word_comes p high return_high base laws code size word (here w es c) pc next data_above return_above (Goes after) ready starts e in
        let kept = laws.word_cells p word (here w es c) after plain fc fe fits e in
        let priced = cells_priced word in
        let paid : length (cells_of word) ≤ word_price word c world = grind (arith, nat_tests) in
        let same : ahead after.work ≡ ahead w = ap ahead kept.work in
        let same' : unfinished after.callers ≡ unfinished fs = ap unfinished kept.callers in
        record {
          count = length (cells_of word);
          out = out;
          to = next;
          base = base;
          data_above = come.0;
          return_above = come.1;
          runs = record { makes = come.2; bounds = word_bounded p high return_high base laws code size word (here w es c) pc next data_above return_above ready starts room back };
          meets = record {
            stands = subst (Stands code place p out next) (sym kept.work) s;
            loops = subst (Loops code place p out) (sym kept.work) l;
            frames = subst (λ f. Frames code place p f base) (sym kept.callers) frames;
            cells = kept.cells;
            entries = kept.entries;
            world = kept.world;
            starts = kept.data_start ∙ starts;
          };
          cheap = paid;
          progress = omega (arith, same, same');
        }
    word_follows word next w es c (Ends Underflow world') e plain fit stands s l n fe fc room back = tt
    word_follows word next w es c (Ends Unbalanced world') e plain fit stands s l n fe fc room back = tt
    word_follows word next w es c (Ends (Left address) world') e plain fit stands s l n fe fc room back = tt
    word_follows word next w es c (Ends (Halted status) world') e plain fit stands s l n fe fc room back = word_halts word next w es c (Halted status) world' refl e plain fit stands fe fc room back
    word_follows word next w es c (Ends InputEnded world') e plain fit stands s l n fe fc room back = word_halts word next w es c InputEnded world' refl e plain fit stands fe fc room back
    word_follows word next w es c (Ends (Outside address) world') e plain fit stands s l n fe fc room back = word_halts word next w es c (Outside address) world' refl e plain fit stands fe fc room back

    pub jump_follows : (target : ℕ) (out' : Option ℕ) (w : List Work) (es : List Entry) (c : List ℕ) → HoldsInstruction code pc (Jump target) → Stands code place p out' target w → Loops code place p out' w → AreEntries es → AreCells c →
        length c ≤ high → length (return_places es base) ≤ return_high → Comes (There es c) 1 now high return_high (here w es c)
    jump_follows target out' w es c holds s l fe fc room back =
        comes (There es c) 1 target 1 now high return_high out' (here w es c) base data_above return_above (omega arith) (omega arith) due
        (runs_one laws p.data_start (length c) (length (return_places es base)) high return_high (There es c) _ room back (laws.jumps p.data_start target (machine_at code pc (return_places es base) data_above return_above) c world holds))
        (record { stands = s; loops = l; frames = frames; cells = fc; entries = fe; world = fits; starts = starts })

    pub call_follows : AllStand → (tail : Bool) (d : ℕ) (w : List Work) (es : List Entry) (c : List ℕ) → ends_body w ≡ tail → d < length p.bodies →
        CallStands code place p tail pc (place (Definition d)) (Stands code place p out (following pc) w) → Loops code place p out w →
        1 + ahead w + unfinished fs ≤ now → ahead w ≤ p.source_tokens → AreEntries es → AreCells c → length c ≤ high → length (return_places es base) ≤ return_high → Comes (There es c) 1 now high return_high (called p d (here w es c))
    -- in tail position the frame keeps no address
    call_follows all true d w es c e lt holds l n few fe fc room back =
        let left : steps_left (ends_body w) w ≡ 1 + ahead w = ap (λ tail. steps_left tail w) e in
        comes (There es c) 1 (place (Definition d)) 1 now high return_high None (called p d (here w es c)) (return_places es base) data_above return_above (omega arith) (omega arith) (omega (arith, left))
        (runs_one laws p.data_start (length c) (length (return_places es base)) high return_high (There es c) _ room back
        (laws.jumps p.data_start (place (Definition d)) (machine_at code pc (return_places es base) data_above return_above) c world holds))
        (record {
          stands = all.bodies d lt;
          loops = loops_before code place p (body_of p d) None [] refl;
          frames = (base, subst (λ tail. Called code place p tail (record { work = w; entries = es }) (return_places es base) base) (sym e) (record { out = out; returns = refl; loops = l; few = few; entries = fe }), frames);
          cells = fc;
          entries = tt;
          world = fits;
          starts = starts;
        })
    call_follows all false d w es c e lt holds l n few fe fc room back =
        let left : steps_left (ends_body w) w ≡ 0 = ap (λ tail. steps_left tail w) e in
        comes (There es c) 1 (place (Definition d)) 1 now high return_high None (called p d (here w es c)) (Some (2 * following pc) ∷ return_places es base) data_above (rest return_above) (omega arith) (omega arith) (omega (arith, left))
        (runs_one laws p.data_start (length c) (length (return_places es base)) high return_high (There es c) _ room back
        (laws.calls p.data_start (place (Definition d)) (machine_at code pc (return_places es base) data_above return_above) c world holds.0))
        (record {
          stands = all.bodies d lt;
          loops = loops_before code place p (body_of p d) None [] refl;
          frames = (
            base,
            subst (λ tail. Called code place p tail (record { work = w; entries = es }) (Some (2 * following pc) ∷ return_places es base) base) (sym e)
                (record { out = out; pc = pc; returns = refl; stands = holds.1; loops = l; entries = fe }),
            frames,
          );
          cells = fc;
          entries = tt;
          world = fits;
          starts = starts;
        })

    -- the end of a true branch: a jump, or nothing where a return stands there
    pub true_end_follows : (w : List Work) (es : List Entry) (c : List ℕ) → Stands code place p out pc (TrueEnd ∷ w) → Loops code place p out w → 1 + ahead w + unfinished fs ≤ now → AreEntries es → AreCells c →
        length c ≤ high → length (return_places es base) ≤ return_high → Comes (There es c) 1 now high return_high (here w es c)
    true_end_follows w es c h l n fe fc room back =
        ⊎_elim
        (λ j. jump_follows j.0 out w es c j.1 j.2 l fe fc room back)
        (λ r. stays (There es c) pc 1 now high return_high out (here w es c) base data_above return_above n refl
        (record { stands = ends_at_return code place p out pc w r.1 (omega (arith, h.1)) r.0; loops = l; frames = frames; cells = fc; entries = fe; world = fits; starts = starts }))
        h.0

    -- a decision by the topmost cell
    pub flag_follows : (target : ℕ) (at_zero other w : List Work) (es : List Entry) (c : List ℕ) → HoldsInstruction code pc (Branch target) →
        Stands code place p out target at_zero → Loops code place p out at_zero → Stands code place p out (following pc) other → Loops code place p out other →
        AreEntries es → AreCells c → length c ≤ high → length (return_places es base) ≤ return_high → Follows (There es c) 1 now high return_high (on_flag c at_zero other (here w es c))
    flag_follows target at_zero other w es [] holds s l s' l' fe fc room back = tt
    flag_follows target at_zero other w es (zero ∷ c) holds s l s' l' fe fc room back =
        comes (There es (0 ∷ c)) 1 target 1 now high return_high out (here at_zero es c) base (top (data_places c) ∷ data_above) return_above (omega arith) (omega arith) due
        (runs_one laws p.data_start (suc (length c)) (length (return_places es base)) high return_high (There es (0 ∷ c)) _ room back
        (laws.branches p.data_start target (machine_at code pc (return_places es base) data_above return_above) c world holds))
        (record { stands = s; loops = l; frames = frames; cells = fc.1; entries = fe; world = fits; starts = starts })
    flag_follows target at_zero other w es (suc n ∷ c) holds s l s' l' fe fc room back =
        comes (There es (suc n ∷ c)) 1 (following pc) 1 now high return_high out (here other es c) base (top (data_places c) ∷ data_above) return_above (omega arith) (omega arith) due
        (runs_one laws p.data_start (suc (length c)) (length (return_places es base)) high return_high (There es (suc n ∷ c)) _ room back
        (laws.passes p.data_start target n (machine_at code pc (return_places es base) data_above return_above) c world holds))
        (record { stands = s'; loops = l'; frames = frames; cells = fc.1; entries = fe; world = fits; starts = starts })
