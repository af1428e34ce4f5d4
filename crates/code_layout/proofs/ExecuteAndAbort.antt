-- The code of ABORT" and of EXECUTE does what they do.
use Rattle.std.proofs.Common.{◌≡◌, ℕ, zero, suc, ◌+◌, ◌-◌, ◌*◌, ◌/◌, ◌%◌, ◌<◌, ◌≤◌, ⊎_elim, nat_lt, true, false, List, [], ◌∷◌, ◌++◌, length, Option, Some, None, refl, sym, ap, ◌∙◌, subst, arith}
use Rattle.std.specs.Prelude.{slice_get, if◌then◌else◌}
use Rattle.std.specs.List.{list_all}
use Rattle.std.proofs.lemmas.Option.{slice_get_within, slice_get_cases}
use Rattle.std.proofs.lemmas.Bool.Decides.{nat_tests}
use Rattle.cell_math.specs.Cell.{sum_of, difference_of, flag}
use Rattle.j1_table.specs.declared.instr.Instr.TheVariants.{Jump, Branch, Call as CallTo}
use Rattle.j1_table.specs.Instruction.{decoded}
use Rattle.j1_simulator.specs.Effect.{following}
use Rattle.j1_simulator.specs.OpenMachine.{top_cell as top, rest, open_storage}
use Rattle.j1_simulator.specs.Run.{run}
use Rattle.word_table.specs.declared.word.Word.{Word}
use Rattle.word_table.specs.declared.word.Word.TheVariants.{TypeOut, Dup, DropTop, OneMinus, ULess, Plus, TwoStar, ToR, RFrom, Store}
use Rattle.word_table.specs.Table.{entry_of, cells_of}
use Rattle.forth_program.specs.Tree.{Node}
use Rattle.forth_program.specs.State.{Entry, Cell, World, State, Reply, Gives, Stops, ◌▸◌, End, Halted, InputEnded, Outside, Underflow, Unbalanced, Left, Goes, Ends}
use Rattle.forth_program.specs.Program.{SourceProgram, token_of}
use Rattle.console_ports.specs.Ports.{access_at}
use Rattle.forth_program.specs.Access.{store_by, store}
use Rattle.forth_program.specs.ByteWords.{type_out}
use Rattle.forth_program.specs.Step.{word_step, on_cells}
use Rattle.word_laws.specs.Rings.{OpenConfiguration, BeforeEach}
use Rattle.word_laws.specs.Bounds.{StaysWithin}
use Rattle.forth_program.specs.Cells.{AreCells, AreEntries, IsWorld}
use Rattle.word_laws.specs.Control.{HoldsInstruction}
use Rattle.word_laws.specs.Numbers.{number_cells}
use Rattle.word_laws.specs.Standing.{data_places, standing_at_depths, standing_as, EndedIn, HasCome, StandIn, machine_at}
use Rattle.word_laws.specs.Words.{return_need}
use Rattle.forth_program.specs.Run.{lacks}
use Rattle.code_layout.specs.Layout.{Routine, branch_to, call_to, return_cell, execute_cells, abort_cells}
use Rattle.code_layout.proofs.Machine.{Laws, Runs, narrower, runs_then, runs_one}
use Rattle.code_layout.proofs.Phrases.{phrase, is_free, outcome, CellsSuffice, word_ready, word_bounded, word_comes, phrase_runs}
use Rattle.code_layout.proofs.Routines.{places_below, Returned, Stopped, Answers, IsRoutine, abort_reply, abort_price, IsAborter}
use Rattle.code_layout.proofs.Work.{TokenStands, Found, IsExecutor}
use Rattle.code_layout.proofs.Steps.{number_one, number_runs}
use Rattle.code_layout.proofs.LibrarySteps.{low_address, entries_join, flattened, back_here, ends_called}
use Rattle.code_layout.proofs.LaidCode.{decode_branch, decode_call, cut, holds, onward}

small_number : (value : ℕ) → value < 32768 → number_cells value ≡ (0x8000 + value) ∷ []
small_number value h =
    let small : nat_lt value 0x8000 ≡ true = grind (arith, nat_tests) in
    ap (λ b. if b then (0x8000 + value) ∷ [] else (0x8000 + (0xffff - value)) ∷ 0x6600 ∷ []) small

get_within : {A : Type 0} (xs : List A) (k : ℕ) (x : A) → slice_get xs k ≡ Some x → k < length xs
get_within xs k x found = slice_get_within xs k x found

get_without : {A : Type 0} (xs : List A) (k : ℕ) → slice_get xs k ≡ None → length xs ≤ k
get_without xs k found = ⊎_elim (λ inside. let f : None ≡ Some inside.0 = sym found ∙ inside.2 in cc) (λ past. past.0) (slice_get_cases xs k).1

module _ (laws : Laws) (p : SourceProgram) (code : List ℕ) (place : Routine → ℕ) (size : length code ≡ p.data_start / 2) where
  module _ (high return_high : ℕ) (world : World) (fits : IsWorld world) (starts : world.data_start ≡ p.data_start) where
    -- the state of a routine, and the machine at a place
    abbrev here : List Entry → List ℕ → State
    here es c = record { work = []; entries = es; callers = []; cells = c; world = world }

    abbrev at_place : ℕ → List Entry → List ℕ → List (Option ℕ) → List (Option ℕ) → OpenConfiguration
    at_place q es c above above' = standing_as (here es c) (machine_at code q (Some 2 ∷ []) above above')

    -- one number
    one_number : (value pc next : ℕ) (es : List Entry) (c : List ℕ) (above above' : List (Option ℕ)) → value < 32768 → StandIn code pc (number_cells value) next → length c + 1 ≤ high → length (places_below es) ≤ return_high →
        (up : List (Option ℕ)) × (up' : List (Option ℕ)) × Runs p.data_start high return_high 1 (at_place pc es c above above') (at_place next es (value ∷ c) up up')
    one_number value pc next es c above above' small stands room back =
        let one = number_one value small in
        let r = number_runs laws p code place size high return_high pc 0 None [] world fits starts (Some 2 ∷ []) above above' refl (omega arith) value next es c (omega arith) stands room back in
        (r.0, r.1, subst (λ n. Runs p.data_start high return_high n (at_place pc es c above above') (at_place next es (value ∷ c) r.0 r.1)) one r.2)

    -- words
    some_words : (words : List Word) (es es' : List Entry) (c c' : List ℕ) (pc next : ℕ) (above above' : List (Option ℕ)) → list_all is_free words ≡ true →
        outcome p high return_high (Some 2 ∷ []) words (here es c) ≡ Goes (here es' c') → CellsSuffice p high return_high (Some 2 ∷ []) words (here es c) →
        StandIn code pc (phrase words) next → AreEntries es → AreCells c →
        (up : List (Option ℕ)) × (up' : List (Option ℕ))
        × Runs p.data_start high return_high (length (phrase words)) (at_place pc es c above above') (at_place next es' c' up up')
    some_words words es es' c c' pc next above above' free leads enough stands fe fc =
        phrase_runs p high return_high (Some 2 ∷ []) laws code size words (here es c) (here es' c') pc next above above' free leads enough stands fc fe fits starts

    branched : (target pc : ℕ) (es : List Entry) (c : List ℕ) (above above' : List (Option ℕ)) → HoldsInstruction code pc (Branch target) → length c + 1 ≤ high → length (places_below es) ≤ return_high →
        Runs p.data_start high return_high 1 (at_place pc es (0 ∷ c) above above') (at_place target es c (top (data_places c) ∷ above) above')
    branched target pc es c above above' holds room back =
        runs_one laws p.data_start (suc (length c)) (length (places_below es)) high return_high (at_place pc es (0 ∷ c) above above') _ (omega arith) back
        (laws.branches p.data_start target (machine_at code pc (places_below es) above above') c world holds)

    passed : (target pc n : ℕ) (es : List Entry) (c : List ℕ) (above above' : List (Option ℕ)) → HoldsInstruction code pc (Branch target) → length c + 1 ≤ high → length (places_below es) ≤ return_high →
        Runs p.data_start high return_high 1 (at_place pc es (suc n ∷ c) above above') (at_place (following pc) es c (top (data_places c) ∷ above) above')
    passed target pc n es c above above' holds room back =
        runs_one laws p.data_start (suc (length c)) (length (places_below es)) high return_high (at_place pc es (suc n ∷ c) above above') _ (omega arith) back
        (laws.passes p.data_start target n (machine_at code pc (places_below es) above above') c world holds)

    halting : (status : ℕ) → status < 256 → store 16388 status world ≡ Stops (Halted status) world
    halting status low = let same : status % 256 ≡ status = omega arith in ap (λ d. store_by world status (access_at d true 16388)) starts ∙ ap (λ n. Stops (Halted n) world) same

    -- a value that is stored at the halt port ends the run
    store_ends : (status pc next : ℕ) (es : List Entry) (c : List ℕ) (above above' : List (Option ℕ)) → status < 256 → StandIn code pc (cells_of Store) next →
        AreEntries es → AreCells c → length c + 2 ≤ high → length (places_below es) ≤ return_high →
        HasCome code next (Some 2 ∷ []) (run open_storage p.data_start 2 (at_place pc es (16388 ∷ status ∷ c) above above')) (Ends (Halted status) world)
        × BeforeEach (StaysWithin 0 high 0 return_high) p.data_start 2 (at_place pc es (16388 ∷ status ∷ c) above above')
        × StaysWithin 0 high 0 return_high (run open_storage p.data_start 2 (at_place pc es (16388 ∷ status ∷ c) above above'))
    store_ends status pc next es c above above' low stands fe fc room back =
        let s = here es (16388 ∷ status ∷ c) in
        let v = at_place pc es (16388 ∷ status ∷ c) above above' in
        let e : word_step p Store (16388 ∷ status ∷ c) es s ≡ Ends (Halted status) world = ap (λ r. on_cells (r ▸ λ _. Gives c) (here es (16388 ∷ status ∷ c))) (halting status low) in
        let ready = word_ready p high return_high (Some 2 ∷ []) laws code size Store s pc next refl tt (ap lacks e) stands (omega arith, (omega arith, fc)) fe starts in (
          word_comes p high return_high (Some 2 ∷ []) laws code size Store s pc next above above' (Ends (Halted status) world) ready starts e,
          word_bounded p high return_high (Some 2 ∷ []) laws code size Store s pc next above above' ready starts (omega arith) (omega arith),
          narrower laws p.data_start (length s.cells - (entry_of Store).need) (length s.cells + (entry_of Store).peak)
              (length (places_below es) - return_need Store) (length (places_below es) + (entry_of Store).back) high return_high
              (run open_storage p.data_start 2 v) (omega arith) (omega arith)
              (subst
              (λ d.
              StaysWithin (length s.cells - (entry_of Store).need) (length s.cells + (entry_of Store).peak)
              (length (places_below es) - return_need Store) (length (places_below es) + (entry_of Store).back)
              (run open_storage d 2 (at_place pc es (16388 ∷ status ∷ c) above above'))) starts
              (laws.word_ends p Store (machine_at code pc (Some 2 ∷ []) above above') next s (Halted status) world ready e)),
        )

    -- a status is put on the cells and stored at the halt port
    halts_with : (status pc middle next last n price : ℕ) (v : OpenConfiguration) (es : List Entry) (c : List ℕ) (above above' : List (Option ℕ)) →
        status < 256 → StandIn code pc (number_cells status) middle → StandIn code middle (number_cells 16388) next → StandIn code next (cells_of Store) last →
        AreEntries es → AreCells c →
        length c + 2 ≤ high → length (places_below es) ≤ return_high → n + 4 + 2 ≤ price + 3 → Runs p.data_start high return_high n v (at_place pc es c above above') → Stopped p.data_start code v price high return_high (Halted status) world
    halts_with status pc middle next last n price v es c above above' low stands stands' stands'' fe fc room back cheap runs =
        let r = one_number status pc middle es c above above' (omega arith) stands (omega arith) back in
        let r' = one_number 16388 middle next es (status ∷ c) r.0 r.1 (omega arith) stands' (omega arith) back in
        let e = store_ends status next last es c r'.0 r'.1 low stands'' fe fc room back in
        let there = at_place next es (16388 ∷ status ∷ c) r'.0 r'.1 in
        let all : Runs p.data_start high return_high (n + 1 + 1) v there =
        runs_then laws p.data_start high return_high (n + 1) 1 v (at_place middle es (status ∷ c) r.0 r.1) there
        (runs_then laws p.data_start high return_high n 1 v (at_place pc es c above above') (at_place middle es (status ∷ c) r.0 r.1) runs r.2) r'.2 in
        let joined : run open_storage p.data_start (n + 1 + 1 + 2) v ≡ run open_storage p.data_start 2 there = laws.runs_join (n + 1 + 1) 2 p.data_start v ∙ ap (run open_storage p.data_start 2) all.makes in
        let come = subst (λ u. HasCome code last (Some 2 ∷ []) u (Ends (Halted status) world)) (sym joined) e.0 in
        record {
          count = n + 1 + 1 + 2;
          stop = come.0;
          stop_is = come.1;
          ended = come.2;
          bounds = laws.bounds_join 0 high 0 return_high (n + 1 + 1) 2 p.data_start v all.bounds (subst (BeforeEach (StaysWithin 0 high 0 return_high) p.data_start 2) (sym all.makes) e.1);
          at_end = subst (StaysWithin 0 high 0 return_high) (sym joined) e.2;
          cheap = omega arith;
        }

  -- ---- ABORT"

  module _ (at type_at last : ℕ) (stands : StandIn code at (abort_cells at type_at) last) (short : at + 15 < 8192) (low : type_at < 8192) (routine : IsRoutine p.data_start code TypeOut type_at) where
    -- its parts
    pub record AbortParts : Type 0 where
      pub pushes : StandIn code at (phrase (ToR ∷ ToR ∷ [])) (at + 2)
      pub branch : HoldsInstruction code (at + 2) (Branch (at + 10))
      pub pulls : StandIn code (at + 3) (phrase (RFrom ∷ RFrom ∷ [])) (at + 5)
      pub call : HoldsInstruction code (at + 5) (CallTo type_at)
      pub status : StandIn code (at + 6) (number_cells 2) (at + 7)
      pub port : StandIn code (at + 7) (number_cells 16388) (at + 8)
      pub store : StandIn code (at + 8) (cells_of Store) (at + 10)
      pub drops : StandIn code (at + 10) (phrase (RFrom ∷ DropTop ∷ RFrom ∷ DropTop ∷ [])) (at + 14)
      pub returns : HoldsInstruction code (at + 14) (decoded 0x700C)

    abort_parts : AbortParts
    abort_parts =
        let drops = 0x6B8D ∷ 0x6103 ∷ 0x6B8D ∷ 0x6103 ∷ return_cell ∷ [] in
        let after_call = 0x8002 ∷ 0xC004 ∷ 0x6023 ∷ 0x6103 ∷ 0x6B8D ∷ 0x6103 ∷ 0x6B8D ∷ 0x6103 ∷ return_cell ∷ [] in
        let after_branch = 0x6B8D ∷ 0x6B8D ∷ call_to type_at ∷ 0x8002 ∷ 0xC004 ∷ 0x6023 ∷ 0x6103 ∷ 0x6B8D ∷ 0x6103 ∷ 0x6B8D ∷ 0x6103 ∷ return_cell ∷ [] in
        let a = cut code at 2 (0x6147 ∷ 0x6147 ∷ []) (branch_to (at + 10) ∷ after_branch) last refl (omega arith) stands in
        let b = onward code (at + 2) (branch_to (at + 10)) after_branch last (omega arith) a.1 in
        let three : at + 2 + 1 ≡ at + 3 = omega arith in
        let b' = subst (λ q. StandIn code q after_branch last) three b in
        let d = cut code (at + 3) 2 (0x6B8D ∷ 0x6B8D ∷ []) (call_to type_at ∷ after_call) last refl (omega arith) b' in
        let five : at + 3 + 2 ≡ at + 5 = omega arith in
        let d' = subst (λ q. StandIn code q (call_to type_at ∷ after_call) last) five d.1 in
        let six : at + 5 + 1 ≡ at + 6 = omega arith in
        let e = subst (λ q. StandIn code q after_call last) six (onward code (at + 5) (call_to type_at) after_call last (omega arith) d') in
        let f = cut code (at + 6) 1 (0x8002 ∷ []) (0xC004 ∷ 0x6023 ∷ 0x6103 ∷ drops) last refl (omega arith) e in
        let seven : at + 6 + 1 ≡ at + 7 = omega arith in
        let f' = subst (λ q. StandIn code q (0xC004 ∷ 0x6023 ∷ 0x6103 ∷ drops) last) seven f.1 in
        let g = cut code (at + 7) 1 (0xC004 ∷ []) (0x6023 ∷ 0x6103 ∷ drops) last refl (omega arith) f' in
        let eight : at + 7 + 1 ≡ at + 8 = omega arith in
        let g' = subst (λ q. StandIn code q (0x6023 ∷ 0x6103 ∷ drops) last) eight g.1 in
        let h = cut code (at + 8) 2 (0x6023 ∷ 0x6103 ∷ []) drops last refl (omega arith) g' in
        let ten : at + 8 + 2 ≡ at + 10 = omega arith in
        let h' = subst (λ q. StandIn code q drops last) ten h.1 in
        let k = cut code (at + 10) 4 (0x6B8D ∷ 0x6103 ∷ 0x6B8D ∷ 0x6103 ∷ []) (return_cell ∷ []) last refl (omega arith) h' in
        let fourteen : at + 10 + 4 ≡ at + 14 = omega arith in
        let k' = subst (λ q. StandIn code q (return_cell ∷ []) last) fourteen k.1 in
        record {
          pushes = a.0;
          branch = holds code (at + 2) (branch_to (at + 10)) (Branch (at + 10)) after_branch last a.1 (decode_branch (at + 10) (omega arith));
          pulls = subst (StandIn code (at + 3) (0x6B8D ∷ 0x6B8D ∷ [])) five d.0;
          call = holds code (at + 5) (call_to type_at) (CallTo type_at) after_call last d' (decode_call type_at low);
          status = subst (StandIn code (at + 6) (0x8002 ∷ [])) seven f.0;
          port = subst (StandIn code (at + 7) (0xC004 ∷ [])) eight g.0;
          store = subst (StandIn code (at + 8) (0x6023 ∷ 0x6103 ∷ [])) ten h.0;
          drops = subst (StandIn code (at + 10) (0x6B8D ∷ 0x6103 ∷ 0x6B8D ∷ 0x6103 ∷ [])) fourteen k.0;
          returns = holds code (at + 14) return_cell (decoded 0x700C) [] last k' refl;
        }

    -- TYPE and what follows it
    module _ (es : List Entry) (u a m : ℕ) (c : List ℕ) (data_above return_above : List (Option ℕ)) (w : World) (fe : AreEntries es) (fc : AreCells (u ∷ a ∷ suc m ∷ c)) (fits : IsWorld w) (starts : w.data_start ≡ p.data_start) where
      abbrev high : ℕ
      high = length (u ∷ a ∷ suc m ∷ c) + 9

      abbrev return_high : ℕ
      return_high = length (places_below es) + 8 - 1

      abbrev v : OpenConfiguration
      v = standing_at_depths (machine_at code at (places_below es) data_above return_above) (u ∷ a ∷ suc m ∷ c) w

      -- before TYPE
      up_to_type : (up : List (Option ℕ)) × (up' : List (Option ℕ)) × Runs p.data_start high return_high 5 v (at_place high return_high w fits starts (at + 5) es (u ∷ a ∷ c) up up')
      up_to_type =
          let parts = abort_parts in
          let r = some_words high return_high w fits starts (ToR ∷ ToR ∷ []) es (Cell a ∷ Cell u ∷ es) (u ∷ a ∷ suc m ∷ c) (suc m ∷ c) at (at + 2) data_above return_above refl refl (grind arith) parts.pushes fe fc in
          let b = passed high return_high w fits starts (at + 10) (at + 2) m (Cell a ∷ Cell u ∷ es) c r.0 r.1 parts.branch (omega arith) (omega arith) in
          let three : following (at + 2) ≡ at + 3 = omega arith in
          let b' =
          subst
          (λ q.
          Runs p.data_start high return_high 1 (at_place high return_high w fits starts (at + 2) (Cell a ∷ Cell u ∷ es) (suc m ∷ c) r.0 r.1)
          (at_place high return_high w fits starts q (Cell a ∷ Cell u ∷ es) c (top (data_places c) ∷ r.0) r.1)) three b in
          let d =
          some_words high return_high w fits starts (RFrom ∷ RFrom ∷ []) (Cell a ∷ Cell u ∷ es) es c (u ∷ a ∷ c) (at + 3) (at + 5)
          (top (data_places c) ∷ r.0) r.1 refl refl (grind arith) parts.pulls (fc.1.0, (fc.0, fe)) fc.1.1.1 in (
            d.0,
            d.1,
            runs_then laws p.data_start high return_high 3 2 v
                (at_place high return_high w fits starts (at + 3) (Cell a ∷ Cell u ∷ es) c (top (data_places c) ∷ r.0) r.1)
                (at_place high return_high w fits starts (at + 5) es (u ∷ a ∷ c) d.0 d.1)
                (runs_then laws p.data_start high return_high 2 1 v
                (at_place high return_high w fits starts (at + 2) (Cell a ∷ Cell u ∷ es) (suc m ∷ c) r.0 r.1)
                (at_place high return_high w fits starts (at + 3) (Cell a ∷ Cell u ∷ es) c (top (data_places c) ∷ r.0) r.1) r.2 b') d.2,
          )

      abbrev up : List (Option ℕ)
      up = up_to_type.0

      abbrev up' : List (Option ℕ)
      up' = up_to_type.1

      abbrev below : List Entry
      below = Cell (2 * following (at + 5)) ∷ (es ++ (flattened laws p code place size [] (Some 2 ∷ []) refl).0)

      abbrev cells : AreCells (u ∷ a ∷ c)
      cells = (fc.0, (fc.1.0, fc.1.1.1))

      abbrev called : OpenConfiguration
      called = standing_at_depths (machine_at code type_at (places_below below) up (rest up')) (u ∷ a ∷ c) w

      typed : (w' : World) → Returned p.data_start code called (29 + 80 * u) (length (u ∷ a ∷ c) + 8) (length (places_below below) + 6 - 1) below c w' → Stopped p.data_start code v (38 + 80 * u) high return_high (Halted 2) w'
      typed w' r =
          let parts = abort_parts in
          let cheap = r.cheap in
          let back =
          back_here laws p code place size high return_high (at + 5) 0 None [] w fits starts (Some 2 ∷ []) up up' refl (omega arith) type_at
          (29 + 80 * u) (29 + 80 * u) 8 6 [] es (u ∷ a ∷ c) parts.call (omega arith) (omega arith) (omega arith) (omega arith) c w' r in
          let six : following (at + 5) ≡ at + 6 = omega arith in
          let above' = Some (2 * following (at + 5)) ∷ r.above' in
          let there = at_place high return_high w' r.world_is r.starts (at + 6) es c r.above (Some (2 * following (at + 5)) ∷ r.above') in
          let back' =
          subst
          (λ q.
          Runs p.data_start high return_high (1 + r.count + 1) (at_place high return_high w fits starts (at + 5) es (u ∷ a ∷ c) up up')
          (standing_at_depths (machine_at code q (places_below es) r.above (Some (2 * following (at + 5)) ∷ r.above')) c w')) six back in
          halts_with high return_high w' r.world_is r.starts 2 (at + 6) (at + 7) (at + 8) (at + 10) (5 + (1 + r.count + 1)) (38 + 80 * u) v es c r.above
          (Some (2 * following (at + 5)) ∷ r.above') (omega arith) parts.status parts.port parts.store fe fc.1.1.1 (omega arith) (omega arith) (omega arith)
          (runs_then laws p.data_start high return_high 5 (1 + r.count + 1) v (at_place high return_high w fits starts (at + 5) es (u ∷ a ∷ c) up up') there up_to_type.2 back')

      stopped : (end : End) (w' : World) → Stopped p.data_start code called (29 + 80 * u) (length (u ∷ a ∷ c) + 8) (length (places_below below) + 6 - 1) end w' → Stopped p.data_start code v (38 + 80 * u) high return_high end w'
      stopped end w' r =
          let parts = abort_parts in
          let h =
          ends_called laws p code place size high return_high (at + 5) 0 None [] w fits starts (Some 2 ∷ []) up up' refl (omega arith) type_at
          (29 + 80 * u) (29 + 80 * u) 8 6 [] es (u ∷ a ∷ c) parts.call (omega arith) (omega arith) (omega arith) (omega arith) end w' r in
          let runs = up_to_type.2 in
          let middle = at_place high return_high w fits starts (at + 5) es (u ∷ a ∷ c) up up' in
          let joined : run open_storage p.data_start (5 + h.count) v ≡ run open_storage p.data_start h.count middle = laws.runs_join 5 h.count p.data_start v ∙ ap (run open_storage p.data_start h.count) runs.makes in
          let cheap = h.cheap in
          record {
            count = 5 + h.count;
            stop = h.stop;
            stop_is = h.stop_is;
            ended = subst (λ x. EndedIn x code h.stop w') (sym joined) h.ended;
            bounds = laws.bounds_join 0 high 0 return_high 5 h.count p.data_start v runs.bounds (subst (BeforeEach (StaysWithin 0 high 0 return_high) p.data_start h.count) (sym runs.makes) h.bounds);
            at_end = subst (StaysWithin 0 high 0 return_high) (sym joined) h.at_end;
            cheap = omega arith;
          }

      aborts : (q : Reply (Unit {0})) →
          Answers p.data_start code called (29 + 80 * u) (length (u ∷ a ∷ c) + 8) (length (places_below below) + 6 - 1) below (q ▸ λ _. Gives c) →
          Answers p.data_start code v (38 + 80 * u) high return_high es (q ▸ λ _. Stops (Halted 2))
      aborts (Gives x w') r = typed w' r
      aborts (Stops Underflow w') r = tt
      aborts (Stops Unbalanced w') r = tt
      aborts (Stops (Left address) w') r = tt
      aborts (Stops (Halted status) w') r = stopped (Halted status) w' r
      aborts (Stops InputEnded w') r = stopped InputEnded w' r
      aborts (Stops (Outside address) w') r = stopped (Outside address) w' r

      true_flag : Answers p.data_start code v (38 + 80 * u) high return_high es (abort_reply u a (suc m) c w)
      true_flag =
          aborts (type_out u a w)
          (routine.does below (u ∷ a ∷ c) up (rest up') w (
            low_address (at + 5),
            entries_join es (flattened laws p code place size [] (Some 2 ∷ []) refl).0 fe (flattened laws p code place size [] (Some 2 ∷ []) refl).2,
          ) cells
          fits starts)

    false_flag : (es : List Entry) (u a : ℕ) (c : List ℕ) (data_above return_above : List (Option ℕ)) (w : World) → AreEntries es → AreCells (u ∷ a ∷ 0 ∷ c) → IsWorld w → w.data_start ≡ p.data_start →
        Returned p.data_start code (standing_at_depths (machine_at code at (places_below es) data_above return_above) (u ∷ a ∷ 0 ∷ c) w) 38 (length (u ∷ a ∷ 0 ∷ c) + 9) (length (places_below es) + 8 - 1) es c w
    false_flag es u a c data_above return_above w fe fc fits starts =
        let parts = abort_parts in
        let high = length (u ∷ a ∷ 0 ∷ c) + 9 in
        let return_high = length (places_below es) + 8 - 1 in
        let v = standing_at_depths (machine_at code at (places_below es) data_above return_above) (u ∷ a ∷ 0 ∷ c) w in
        let r = some_words high return_high w fits starts (ToR ∷ ToR ∷ []) es (Cell a ∷ Cell u ∷ es) (u ∷ a ∷ 0 ∷ c) (0 ∷ c) at (at + 2) data_above return_above refl refl (grind arith) parts.pushes fe fc in
        let b = branched high return_high w fits starts (at + 10) (at + 2) (Cell a ∷ Cell u ∷ es) c r.0 r.1 parts.branch (omega arith) (omega arith) in
        let d =
        some_words high return_high w fits starts (RFrom ∷ DropTop ∷ RFrom ∷ DropTop ∷ []) (Cell a ∷ Cell u ∷ es) es c c (at + 10) (at + 14)
        (top (data_places c) ∷ r.0) r.1 refl refl (grind arith) parts.drops (fc.1.0, (fc.0, fe)) fc.1.1.1 in
        record {
          count = 7;
          to = at + 14;
          above = d.0;
          above' = d.1;
          runs =
              runs_then laws p.data_start high return_high 3 4 v
              (at_place high return_high w fits starts (at + 10) (Cell a ∷ Cell u ∷ es) c (top (data_places c) ∷ r.0) r.1)
              (at_place high return_high w fits starts (at + 14) es c d.0 d.1)
              (runs_then laws p.data_start high return_high 2 1 v (at_place high return_high w fits starts (at + 2) (Cell a ∷ Cell u ∷ es) (0 ∷ c) r.0 r.1)
              (at_place high return_high w fits starts (at + 10) (Cell a ∷ Cell u ∷ es) c (top (data_places c) ∷ r.0) r.1) r.2 b) d.2;
          returns = parts.returns;
          cheap = omega arith;
          few = omega arith;
          cells = fc.1.1.1;
          world_is = fits;
          starts = starts;
        }

    flagged : (es : List Entry) (u a flag : ℕ) (c : List ℕ) (data_above return_above : List (Option ℕ)) (w : World) → AreEntries es → AreCells (u ∷ a ∷ flag ∷ c) → IsWorld w → w.data_start ≡ p.data_start →
        Answers p.data_start code (standing_at_depths (machine_at code at (places_below es) data_above return_above) (u ∷ a ∷ flag ∷ c) w) (abort_price u flag)
        (length (u ∷ a ∷ flag ∷ c) + 9) (length (places_below es) + 8 - 1) es (abort_reply u a flag c w)
    flagged es u a zero c data_above return_above w fe fc fits starts = false_flag es u a c data_above return_above w fe fc fits starts
    flagged es u a (suc m) c data_above return_above w fe fc fits starts = true_flag es u a m c data_above return_above w fe fc fits starts

    pub is_aborter : IsAborter p.data_start code at
    is_aborter = record { does = flagged }

  -- ---- EXECUTE

  module _ (at count last : ℕ) (stands : StandIn code at (execute_cells at count) last) (short : at + 15 < 8192) (few : count < 8000) (counted_tokens : length p.tokens ≡ count)
      (tokens : (k : ℕ) (node : Node) → slice_get p.tokens k ≡ Some node → (target : ℕ) × HoldsInstruction code (8 + k) (Jump target) × TokenStands code place p node target) where
    -- its parts
    pub record ExecuteParts : Type 0 where
      pub doubles : StandIn code at (phrase (Dup ∷ OneMinus ∷ [])) (at + 2)
      pub number : StandIn code (at + 2) (number_cells count) (at + 3)
      pub compares : StandIn code (at + 3) (phrase (ULess ∷ [])) (at + 4)
      pub branch : HoldsInstruction code (at + 4) (Branch (at + 11))
      pub seven : StandIn code (at + 5) (number_cells 7) (at + 6)
      pub addresses : StandIn code (at + 6) (phrase (Plus ∷ TwoStar ∷ ToR ∷ [])) (at + 10)
      pub returns : HoldsInstruction code (at + 10) (decoded 0x700C)
      pub status : StandIn code (at + 11) (number_cells 13) (at + 12)
      pub port : StandIn code (at + 12) (number_cells 16388) (at + 13)
      pub store : StandIn code (at + 13) (cells_of Store) (at + 15)

    execute_parts : ExecuteParts
    execute_parts =
        let bad : List ℕ = 0x800D ∷ 0xC004 ∷ 0x6023 ∷ 0x6103 ∷ [] in
        let sends = 0x6203 ∷ 0x8001 ∷ 0x6D03 ∷ 0x6147 ∷ return_cell ∷ 0x800D ∷ 0xC004 ∷ 0x6023 ∷ 0x6103 ∷ [] in
        let after_branch = 0x8007 ∷ 0x6203 ∷ 0x8001 ∷ 0x6D03 ∷ 0x6147 ∷ return_cell ∷ 0x800D ∷ 0xC004 ∷ 0x6023 ∷ 0x6103 ∷ [] in
        let a = cut code at 2 (0x6081 ∷ 0x6A00 ∷ []) ((0x8000 + count) ∷ 0x6F03 ∷ branch_to (at + 11) ∷ after_branch) last refl (omega arith) stands in
        let b = cut code (at + 2) 1 ((0x8000 + count) ∷ []) (0x6F03 ∷ branch_to (at + 11) ∷ after_branch) last refl (omega arith) a.1 in
        let three : at + 2 + 1 ≡ at + 3 = omega arith in
        let b' = subst (λ q. StandIn code q (0x6F03 ∷ branch_to (at + 11) ∷ after_branch) last) three b.1 in
        let d = cut code (at + 3) 1 (0x6F03 ∷ []) (branch_to (at + 11) ∷ after_branch) last refl (omega arith) b' in
        let four : at + 3 + 1 ≡ at + 4 = omega arith in
        let d' = subst (λ q. StandIn code q (branch_to (at + 11) ∷ after_branch) last) four d.1 in
        let five : at + 4 + 1 ≡ at + 5 = omega arith in
        let e = subst (λ q. StandIn code q after_branch last) five (onward code (at + 4) (branch_to (at + 11)) after_branch last (omega arith) d') in
        let f = cut code (at + 5) 1 (0x8007 ∷ []) sends last refl (omega arith) e in
        let six : at + 5 + 1 ≡ at + 6 = omega arith in
        let f' = subst (λ q. StandIn code q sends last) six f.1 in
        let g = cut code (at + 6) 4 (0x6203 ∷ 0x8001 ∷ 0x6D03 ∷ 0x6147 ∷ []) (return_cell ∷ bad) last refl (omega arith) f' in
        let ten : at + 6 + 4 ≡ at + 10 = omega arith in
        let g' = subst (λ q. StandIn code q (return_cell ∷ bad) last) ten g.1 in
        let eleven : at + 10 + 1 ≡ at + 11 = omega arith in
        let h = subst (λ q. StandIn code q bad last) eleven (onward code (at + 10) return_cell bad last (omega arith) g') in
        let k = cut code (at + 11) 1 (0x800D ∷ []) (0xC004 ∷ 0x6023 ∷ 0x6103 ∷ []) last refl (omega arith) h in
        let twelve : at + 11 + 1 ≡ at + 12 = omega arith in
        let k' = subst (λ q. StandIn code q (0xC004 ∷ 0x6023 ∷ 0x6103 ∷ []) last) twelve k.1 in
        let l = cut code (at + 12) 1 (0xC004 ∷ []) (0x6023 ∷ 0x6103 ∷ []) last refl (omega arith) k' in
        let thirteen : at + 12 + 1 ≡ at + 13 = omega arith in
        let l' = subst (λ q. StandIn code q (0x6023 ∷ 0x6103 ∷ []) last) thirteen l.1 in
        let m = cut code (at + 13) 2 (0x6023 ∷ 0x6103 ∷ []) [] last refl (omega arith) l' in
        let fifteen : at + 13 + 2 ≡ at + 15 = omega arith in
        record {
          doubles = a.0;
          number = subst (λ cells. StandIn code (at + 2) cells (at + 3)) (sym (small_number count (omega arith))) (subst (StandIn code (at + 2) ((0x8000 + count) ∷ [])) three b.0);
          compares = subst (StandIn code (at + 3) (0x6F03 ∷ [])) four d.0;
          branch = holds code (at + 4) (branch_to (at + 11)) (Branch (at + 11)) after_branch last d' (decode_branch (at + 11) (omega arith));
          seven = subst (StandIn code (at + 5) (0x8007 ∷ [])) six f.0;
          addresses = subst (StandIn code (at + 6) (0x6203 ∷ 0x8001 ∷ 0x6D03 ∷ 0x6147 ∷ [])) ten g.0;
          returns = holds code (at + 10) return_cell (decoded 0x700C) bad last g' refl;
          status = subst (StandIn code (at + 11) (0x800D ∷ [])) twelve k.0;
          port = subst (StandIn code (at + 12) (0xC004 ∷ [])) thirteen l.0;
          store = subst (StandIn code (at + 13) (0x6023 ∷ 0x6103 ∷ [])) fifteen m.0;
        }

    module _ (es : List Entry) (t : ℕ) (c : List ℕ) (data_above return_above : List (Option ℕ)) (w : World) (fe : AreEntries es) (fc : AreCells (t ∷ c)) (fits : IsWorld w) (starts : w.data_start ≡ p.data_start) where
      abbrev execute_high : ℕ
      execute_high = length c + 3

      abbrev execute_returns : ℕ
      execute_returns = length (places_below es) + 1

      abbrev begins : OpenConfiguration
      begins = standing_at_depths (machine_at code at (places_below es) data_above return_above) (t ∷ c) w

      abbrev then_at : ℕ → List Entry → List ℕ → List (Option ℕ) → List (Option ℕ) → OpenConfiguration
      then_at q es c above above' = at_place execute_high execute_returns w fits starts q es c above above'

      -- the token is compared with the number of tokens
      compared : (up : List (Option ℕ)) × (up' : List (Option ℕ)) × Runs p.data_start execute_high execute_returns 4 begins (then_at (at + 4) es (flag (nat_lt (difference_of t 1) count) ∷ t ∷ c) up up')
      compared =
          let parts = execute_parts in
          let small : difference_of t 1 < 65536 = omega arith in
          let a = some_words execute_high execute_returns w fits starts (Dup ∷ OneMinus ∷ []) es es (t ∷ c) (difference_of t 1 ∷ t ∷ c) at (at + 2) data_above return_above refl refl (grind arith) parts.doubles fe fc in
          let b = one_number execute_high execute_returns w fits starts count (at + 2) (at + 3) es (difference_of t 1 ∷ t ∷ c) a.0 a.1 (omega arith) parts.number (omega arith) (omega arith) in
          let d =
          some_words execute_high execute_returns w fits starts (ULess ∷ []) es es (count ∷ difference_of t 1 ∷ t ∷ c)
          (flag (nat_lt (difference_of t 1) count) ∷ t ∷ c) (at + 3) (at + 4) b.0 b.1 refl refl (grind arith) parts.compares fe
          (omega arith, (small, fc)) in (
            d.0,
            d.1,
            runs_then laws p.data_start execute_high execute_returns 3 1 begins (then_at (at + 3) es (count ∷ difference_of t 1 ∷ t ∷ c) b.0 b.1) (then_at (at + 4) es (flag (nat_lt (difference_of t 1) count) ∷ t ∷ c) d.0 d.1)
                (runs_then laws p.data_start execute_high execute_returns 2 1 begins (then_at (at + 2) es (difference_of t 1 ∷ t ∷ c) a.0 a.1) (then_at (at + 3) es (count ∷ difference_of t 1 ∷ t ∷ c) b.0 b.1) a.2 b.2) d.2,
          )

      none_found : nat_lt (difference_of t 1) count ≡ false → Stopped p.data_start code begins 20 execute_high execute_returns (Halted 13) w
      none_found e =
          let parts = execute_parts in
          let a = compared in
          let a' = subst (λ b. Runs p.data_start execute_high execute_returns 4 begins (then_at (at + 4) es (flag b ∷ t ∷ c) a.0 a.1)) e a.2 in
          let b = branched execute_high execute_returns w fits starts (at + 11) (at + 4) es (t ∷ c) a.0 a.1 parts.branch (omega arith) (omega arith) in
          halts_with execute_high execute_returns w fits starts 13 (at + 11) (at + 12) (at + 13) (at + 15) 5 20 begins es (t ∷ c)
          (top (data_places (t ∷ c)) ∷ a.0) a.1 (omega arith) parts.status parts.port parts.store fe fc (omega arith) (omega arith) (omega arith)
          (runs_then laws p.data_start execute_high execute_returns 4 1 begins (then_at (at + 4) es (0 ∷ t ∷ c) a.0 a.1) (then_at (at + 11) es (t ∷ c) (top (data_places (t ∷ c)) ∷ a.0) a.1) a' b)

      one_found : (k : ℕ) (node : Node) → t ≡ k + 1 → k < count → slice_get p.tokens k ≡ Some node → Found code place p begins node c es w
      one_found k node is lt found =
          let parts = execute_parts in
          let token = tokens k node found in
          let e : nat_lt (difference_of t 1) count ≡ true = compares_true k is lt in
          let a = compared in
          let a' = subst (λ b. Runs p.data_start execute_high execute_returns 4 begins (then_at (at + 4) es (flag b ∷ t ∷ c) a.0 a.1)) e a.2 in
          let five : following (at + 4) ≡ at + 5 = omega arith in
          let above = top (data_places (t ∷ c)) ∷ a.0 in
          let b = subst (λ q. Runs p.data_start execute_high execute_returns 1 (then_at (at + 4) es (65535 ∷ t ∷ c) a.0 a.1) (then_at q es (t ∷ c) (top (data_places (t ∷ c)) ∷ a.0) a.1)) five
          (passed execute_high execute_returns w fits starts (at + 11) (at + 4) 65534 es (t ∷ c) a.0 a.1 parts.branch (omega arith) (omega arith)) in
          let d = one_number execute_high execute_returns w fits starts 7 (at + 5) (at + 6) es (t ∷ c) (top (data_places (t ∷ c)) ∷ a.0) a.1 (omega arith) parts.seven (omega arith) (omega arith) in
          let address = 2 * sum_of t 7 % 65536 in
          let f =
          some_words execute_high execute_returns w fits starts (Plus ∷ TwoStar ∷ ToR ∷ []) es (Cell (2 * sum_of t 7 % 65536) ∷ es) (7 ∷ t ∷ c) c
          (at + 6) (at + 10) d.0 d.1 refl refl (grind arith) parts.addresses fe (omega arith, fc) in
          let cell : 2 * sum_of t 7 % 65536 / 2 % 0x2000 ≡ 8 + k = omega (arith, is) in
          let g =
          subst
          (λ q.
          Runs p.data_start execute_high execute_returns 1 (then_at (at + 10) (Cell (2 * sum_of t 7 % 65536) ∷ es) c f.0 f.1)
          (standing_at_depths (machine_at code q (places_below es) f.0 (Some (2 * sum_of t 7 % 65536) ∷ f.1)) c w)) cell
          (runs_one laws p.data_start (length c) (suc (length (places_below es))) execute_high execute_returns
          (then_at (at + 10) (Cell (2 * sum_of t 7 % 65536) ∷ es) c f.0 f.1) _ (omega arith) (omega arith)
          (laws.returns p.data_start (2 * sum_of t 7 % 65536) (machine_at code (at + 10) (places_below es) f.0 f.1) c w parts.returns)) in
          let j =
          runs_one laws p.data_start (length c) (length (places_below es)) execute_high execute_returns
          (standing_at_depths (machine_at code (8 + k) (places_below es) f.0 (Some (2 * sum_of t 7 % 65536) ∷ f.1)) c w)
          (standing_at_depths (machine_at code token.0 (places_below es) f.0 (Some (2 * sum_of t 7 % 65536) ∷ f.1)) c w) (omega arith) (omega arith)
          (laws.jumps p.data_start token.0 (machine_at code (8 + k) (places_below es) f.0 (Some (2 * sum_of t 7 % 65536) ∷ f.1)) c w token.1) in
          let at5 = then_at (at + 5) es (t ∷ c) (top (data_places (t ∷ c)) ∷ a.0) a.1 in
          let at6 = then_at (at + 6) es (7 ∷ t ∷ c) d.0 d.1 in
          let at10 = then_at (at + 10) (Cell (2 * sum_of t 7 % 65536) ∷ es) c f.0 f.1 in
          let at_jump = standing_at_depths (machine_at code (8 + k) (places_below es) f.0 (Some (2 * sum_of t 7 % 65536) ∷ f.1)) c w in
          let there = standing_at_depths (machine_at code token.0 (places_below es) f.0 (Some (2 * sum_of t 7 % 65536) ∷ f.1)) c w in
          record {
            count = 12;
            at = token.0;
            above = f.0;
            above' = Some (2 * sum_of t 7 % 65536) ∷ f.1;
            runs =
                runs_then laws p.data_start execute_high execute_returns 11 1 begins at_jump there
                (runs_then laws p.data_start execute_high execute_returns 10 1 begins at10 at_jump
                (runs_then laws p.data_start execute_high execute_returns 6 4 begins at6 at10
                (runs_then laws p.data_start execute_high execute_returns 5 1 begins at5 at6 (runs_then laws p.data_start execute_high execute_returns 4 1 begins (then_at (at + 4) es (65535 ∷ t ∷ c) a.0 a.1) at5 a' b) d.2) f.2) g) j;
            stands = token.2;
            some = omega arith;
            cheap = omega arith;
          }
        where
          compares_true : (k : ℕ) → t ≡ k + 1 → k < count → nat_lt (difference_of t 1) count ≡ true
          compares_true k is lt = let e : difference_of t 1 < count = omega (arith, is) in grind (arith, nat_tests)

    finds_token : (es : List Entry) (t : ℕ) (node : Node) (c : List ℕ) (data_above return_above : List (Option ℕ)) (w : World) → token_of p t ≡ Some node → AreEntries es → AreCells (t ∷ c) → IsWorld w → w.data_start ≡ p.data_start →
        Found code place p (standing_at_depths (machine_at code at (places_below es) data_above return_above) (t ∷ c) w) node c es w
    finds_token es zero node c data_above return_above w found fe fc fits starts = let f : None ≡ Some node = found in cc
    finds_token es (suc k) node c data_above return_above w found fe fc fits starts =
        one_found es (suc k) c data_above return_above w fe fc fits starts k node (omega arith) (omega (arith, get_within p.tokens k node found, counted_tokens)) found

    fails_token : (es : List Entry) (t : ℕ) (c : List ℕ) (data_above return_above : List (Option ℕ)) (w : World) → token_of p t ≡ None → AreEntries es → AreCells (t ∷ c) → IsWorld w → w.data_start ≡ p.data_start →
        Stopped p.data_start code (standing_at_depths (machine_at code at (places_below es) data_above return_above) (t ∷ c) w) 20 (length c + 3) (length (places_below es) + 1) (Halted 13) w
    fails_token es zero c data_above return_above w found fe fc fits starts =
        none_found es 0 c data_above return_above w fe fc fits starts (let e : count ≤ difference_of 0 1 = omega arith in grind (arith, nat_tests))
    fails_token es (suc k) c data_above return_above w found fe fc fits starts =
        none_found es (suc k) c data_above return_above w fe fc fits starts (let e : count ≤ difference_of (suc k) 1 = omega (arith, get_without p.tokens k found, counted_tokens) in grind (arith, nat_tests))

    pub is_executor : IsExecutor code place p at
    is_executor = record {
      finds = λ t node c es data_above return_above w found fe fc fits starts. finds_token es t node c data_above return_above w found fe fc fits starts;
      fails = λ t c es data_above return_above w found fe fc fits starts. fails_token es t c data_above return_above w found fe fc fits starts;
    }
