-- Images whose GO comes back do what their source means, and no more.
use Rattle.std.proofs.Common.{◌≡◌, ℕ, zero, suc, ◌+◌, ◌-◌, ◌/◌, ◌<◌, ◌≤◌, ◌==◌, ◌&&◌, Bool, true, false, List, []}
use Rattle.std.proofs.Common.{◌∷◌, ◌++◌, length, replicate, slice_index, slice_set, Some, None, refl, sym, ap, ◌∙◌, subst, append_assoc, append-nil, length-append, arith}
use Rattle.std.specs.Prelude.{if◌then◌else◌}
use Rattle.std.specs.List.{All}
use Rattle.std.proofs.lemmas.Bool.Decides.{nat_tests}
use Rattle.std.proofs.lemmas.List.{length-replicate}
use Rattle.j1_table.specs.Instruction.{decoded}
use Rattle.j1_simulator.specs.Effect.{following}
use Rattle.j1_simulator.specs.Step.{Stop}
use Rattle.j1_simulator.specs.OpenMachine.{open_storage}
use Rattle.j1_simulator.specs.Run.{advanced, begun, open_start, IsPrefixOf}
use Rattle.j1_simulator.specs.Laws.{OnlyGrows}
use Rattle.forth_program.specs.Tree.{Nodes}
use Rattle.forth_program.specs.State.{End, Outcome, Goes, Ends}
use Rattle.forth_program.specs.Program.{SourceProgram, body_of}
use Rattle.forth_program.specs.Form.{has_no_go}
use Rattle.forth_program.specs.Run.{first_state, world_of, end_of}
use Rattle.forth_program.specs.RunLaws.{OnlyGoLeaves}
use Rattle.forth_program.specs.Returns.{IsReturn, steps_back, run_back, price_back}
use Rattle.word_laws.specs.Rings.{OpenConfiguration}
use Rattle.word_laws.specs.Control.{HoldsInstruction}
use Rattle.word_laws.specs.Standing.{standing_as, StandIn, machine_end, machine_at}
use Rattle.code_layout.specs.Layout.{Definition, branch_to, return_cell, go_cells, leaving_cells, execute_place, abort_place, leaving_place, routine_place, laid_out}
use Rattle.code_layout.specs.Built.{IsBuilt}
use Rattle.code_layout.specs.Library.{IsLibrary, LibraryMeans}
use Rattle.code_layout.specs.Agreement.{AreBytes, code_of, Shows, word_steps}
use Rattle.code_layout.specs.Returning.{MachineReturn, backs_of, machine_back, goes_back, is_running, is_leaving, run_returning}
use Rattle.code_layout.specs.Returning.{returning_run, StaysReturning, IsSafeReturning, StacksFitReturning, ForwardReturning, BackwardReturning, StacksReturning, ImagesReturn}
use Rattle.code_layout.proofs.Machine.{Laws, narrower}
use Rattle.code_layout.proofs.Work.{ahead, ahead_bound, loops_before, Meets}
use Rattle.code_layout.proofs.Steps.{AllStand}
use Rattle.code_layout.proofs.LaidCode.{cut}
use Rattle.code_layout.proofs.Image.{first_world_is, front, front_size, all_parts, begins, main_called, execute_stands, all_stand}
use Rattle.code_layout.proofs.Library.{routines}
use Rattle.code_layout.proofs.Simulation.{enough}
use Rattle.code_layout.proofs.PatchedRun.{mended, run_patched, same_runs, StaysPatched, one_stays, fewer_stay, mended_stays}
use Rattle.code_layout.proofs.ReturningRuns.{Patches, last_inside, Back, StepsFitBack, moves, claims}

-- ---- two cells behind others

module _ (zeros : List ℕ) where
  set_there : (front space : List ℕ) (a b : ℕ) → slice_set ((front ++ (0x6147 ∷ a ∷ zeros)) ++ space) (suc (length front)) b ≡ (front ++ (0x6147 ∷ b ∷ zeros)) ++ space
  set_there [] space a b = refl
  set_there (x ∷ front) space a b = ap (λ l. x ∷ l) (set_there front space a b)

  last_there : (front space : List ℕ) (a : ℕ) → slice_index ((front ++ (0x6147 ∷ a ∷ zeros)) ++ space) (suc (length front)) ≡ a
  last_there [] space a = refl
  last_there (x ∷ front) space a = last_there front space a

  first_there : (front : List ℕ) (a : ℕ) → slice_index (front ++ (0x6147 ∷ a ∷ zeros)) (length front) ≡ 0x6147
  first_there [] a = refl
  first_there (x ∷ front) a = first_there front a

-- ---- runs that come back only grow

prefix_then : (xs ys zs : List ℕ) → IsPrefixOf xs ys → IsPrefixOf ys zs → IsPrefixOf xs zs
prefix_then xs ys zs a b = (a.0 ++ b.0, sym (append_assoc xs a.0 b.0) ∙ ap (λ l. l ++ b.0) a.1 ∙ b.1)

module _ (grows : OnlyGrows open_storage) (code : List ℕ) (last data_start : ℕ) where
  abbrev next : OpenConfiguration → OpenConfiguration
  next w = advanced w.stop open_storage data_start w

  abbrev returning : List MachineReturn → ℕ → OpenConfiguration → OpenConfiguration
  returning returns n w = run_returning open_storage (machine_back code) last data_start returns n w

  one_more : (w : OpenConfiguration) → IsPrefixOf w.printed (next w).printed
  one_more w = grows.prints data_start 0 1 w (omega arith)

  -- one instruction, and what follows it
  step_is : (returns : List MachineReturn) (n : ℕ) (w : OpenConfiguration) → returning returns (suc n) w
      ≡ (if is_leaving last w then goes_back (machine_back code) returns (next w) (λ others v. returning others n v) else returning returns n (next w))
  unfolding run_returning
  step_is returns n w = refl

  none_made : (returns : List MachineReturn) (w : OpenConfiguration) → returning returns 0 w ≡ w
  unfolding run_returning
  none_made returns w = refl

  prints_grow : (returns : List MachineReturn) (n : ℕ) (w : OpenConfiguration) → IsPrefixOf w.printed (returning returns n w).printed
  prints_grow returns zero w = ([], append-nil w.printed ∙ ap (λ u. u.printed) (sym (none_made returns w)))
  prints_grow returns (suc n) w = subst (λ u. IsPrefixOf w.printed u.printed) (sym (step_is returns n w)) (by returns (is_leaving last w) (λ others v. prints_grow others n v))
    where
      by : (returns : List MachineReturn) (b : Bool) → ((others : List MachineReturn) (v : OpenConfiguration) → IsPrefixOf v.printed (returning others n v).printed) →
          IsPrefixOf w.printed (if b then goes_back (machine_back code) returns (next w) (λ others v. returning others n v) else returning returns n (next w)).printed
      by returns false later = prefix_then w.printed (next w).printed (returning returns n (next w)).printed (one_more w) (later returns (next w))
      by [] true later = one_more w
      by (r ∷ returns) true later =
          let v = machine_back code r (next w) in
          prefix_then w.printed (next w).printed (returning returns n (machine_back code r (next w))).printed (one_more w)
          (prefix_then (next w).printed ((next w).printed ++ r.back.printed) (returning returns n (machine_back code r (next w))).printed (r.back.printed, refl) (later returns (machine_back code r (next w))))

  pub prints_between : (returns : List MachineReturn) (m n : ℕ) (w : OpenConfiguration) → m ≤ n → IsPrefixOf (returning returns m w).printed (returning returns n w).printed
  prints_between returns zero n w le = subst (λ u. IsPrefixOf u.printed (returning returns n w).printed) (sym (none_made returns w)) (prints_grow returns n w)
  prints_between returns (suc m) zero w le = absurd (omega arith)
  prints_between returns (suc m) (suc n) w le =
      subst (λ u. IsPrefixOf u.printed (returning returns (suc n) w).printed) (sym (step_is returns m w))
      (subst
      (λ u.
      IsPrefixOf (if is_leaving last w then goes_back (machine_back code) returns (next w) (λ others v. returning others m v) else returning returns m (next w)).printed
      u.printed) (sym (step_is returns n w)) (by returns (is_leaving last w) (λ others v. prints_between others m n v (omega arith))))
    where
      by : (returns : List MachineReturn) (b : Bool) → ((others : List MachineReturn) (v : OpenConfiguration) → IsPrefixOf (returning others m v).printed (returning others n v).printed) →
          IsPrefixOf (if b then goes_back (machine_back code) returns (next w) (λ others v. returning others m v) else returning returns m (next w)).printed
          (if b then goes_back (machine_back code) returns (next w) (λ others v. returning others n v) else returning returns n (next w)).printed
      by returns false later = later returns (next w)
      by [] true later = ([], append-nil (next w).printed)
      by (r ∷ returns) true later = later returns (machine_back code r (next w))

  stopped : (returns : List MachineReturn) (n : ℕ) (w : OpenConfiguration) (stop : Stop) → w.stop ≡ Some stop → returning returns n w ≡ w
  stopped returns zero w stop e = none_made returns w
  stopped returns (suc n) w stop e =
      step_is returns n w
      ∙ ap
      (λ st.
      if is_running st && (w.core.pc == last) then goes_back (machine_back code) returns (next w) (λ others v. returning others n v)
      else returning returns n (advanced st open_storage data_start w)) e
      ∙ stopped returns n w stop e

  pub ends_between : (returns : List MachineReturn) (m n : ℕ) (w : OpenConfiguration) (stop : Stop) → m ≤ n → (returning returns m w).stop ≡ Some stop → returning returns n w ≡ returning returns m w
  ends_between returns zero n w stop le e = stopped returns n w stop (ap (λ u. u.stop) (sym (none_made returns w)) ∙ e) ∙ sym (none_made returns w)
  ends_between returns (suc m) zero w stop le e = absurd (omega arith)
  ends_between returns (suc m) (suc n) w stop le e =
      step_is returns n w ∙ by returns (is_leaving last w) (λ others v q. ends_between others m n v stop (omega arith) q) (ap (λ u. u.stop) (sym (step_is returns m w)) ∙ e) ∙ sym (step_is returns m w)
    where
      by : (returns : List MachineReturn) (b : Bool) → ((others : List MachineReturn) (v : OpenConfiguration) → (returning others m v).stop ≡ Some stop → returning others n v ≡ returning others m v) →
          (if b then goes_back (machine_back code) returns (next w) (λ others v. returning others m v) else returning returns m (next w)).stop ≡ Some stop →
          (if b then goes_back (machine_back code) returns (next w) (λ others v. returning others n v) else returning returns n (next w))
          ≡ (if b then goes_back (machine_back code) returns (next w) (λ others v. returning others m v) else returning returns m (next w))
      by returns false later q = later returns (next w) q
      by [] true later q = refl
      by (r ∷ returns) true later q = later returns (machine_back code r (next w)) q

-- ---- images with GO

module _ (laws : Laws) (only : OnlyGoLeaves) (library : List Nodes) (p : SourceProgram) (returns : List MachineReturn) (input : List ℕ) (form : IsLibrary library) (means : LibraryMeans library) (built : IsBuilt library p)
    (used : has_no_go p ≡ false) (space : AreBytes p.first_space) (bytes : AreBytes input) (come : All (IsReturn p) (backs_of returns)) where
  abbrev zeros : List ℕ
  zeros = replicate (p.data_start / 2 - length (laid_out library p).cells) 0

  -- the code of the image, with another cell in place of the return that ends the code of GO
  abbrev code_with : ℕ → List ℕ
  code_with cell = front laws library p built ++ (0x6147 ∷ cell ∷ zeros)

  abbrev patched_code : List ℕ
  patched_code = front laws library p built ++ (0x6147 ∷ 0x6001 ∷ zeros)

  abbrev last : ℕ
  last = suc (leaving_place library p)

  cells_are : (laid_out library p).cells ≡ front laws library p built ++ go_cells
  cells_are = all_parts laws library p built ∙ ap (λ lacking. front laws library p built ++ leaving_cells lacking) used

  code_is : code_of library p ≡ front laws library p built ++ (0x6147 ∷ 0x700C ∷ zeros)
  code_is = ap (λ cells. cells ++ zeros) cells_are ∙ append_assoc (front laws library p built) go_cells zeros

  room : leaving_place library p + 2 ≤ p.data_start / 2
  room =
      let few = built.code_fits in
      omega (arith, few, ap length cells_are, length-append (front laws library p built) go_cells, front_size laws library p built)

  low : leaving_place library p + 2 ≤ 8000
  low = let h = room in let most = built.data_start.at_most in omega (arith, h, most)

  size : length (front laws library p built ++ (0x6147 ∷ 0x6001 ∷ zeros)) ≡ p.data_start / 2
  size =
      let few = built.code_fits in
      omega (
        arith,
        few,
        ap length cells_are,
        length-append (front laws library p built) go_cells,
        length-append (front laws library p built) (0x6147 ∷ 0x6001 ∷ zeros),
        length-replicate {A = ℕ} (p.data_start / 2 - length (laid_out library p).cells) 0,
      )

  starts_with : StandIn patched_code 0 (front laws library p built) (leaving_place library p)
  starts_with =
      let h = low in
      let e : 0 + length (front laws library p built) ≡ leaving_place library p = omega (arith, front_size laws library p built) in
      subst (StandIn patched_code 0 (front laws library p built)) e (laws.cells_stand [] (front laws library p built) (0x6147 ∷ 0x6001 ∷ zeros) (omega (arith, h, front_size laws library p built)))

  abbrev stand : AllStand laws p patched_code (routine_place library p) size
  stand = all_stand laws library p built patched_code size starts_with (routines laws library p built form means patched_code size starts_with)

  last_front : suc (length (front laws library p built)) ≡ suc (leaving_place library p)
  last_front = ap suc (front_size laws library p built)

  sets : (a b : ℕ) (cells : List ℕ) → slice_set (code_with a ++ cells) last b ≡ code_with b ++ cells
  sets a b cells = subst (λ n. slice_set (code_with a ++ cells) n b ≡ code_with b ++ cells) last_front (set_there zeros (front laws library p built) cells a b)

  has : (a : ℕ) (cells : List ℕ) → slice_index (code_with a ++ cells) last ≡ a
  has a cells = subst (λ n. slice_index (code_with a ++ cells) n ≡ a) last_front (last_there zeros (front laws library p built) cells a)

  below : last < p.data_start / 2
  below = let h = room in omega (arith, h)

  last_is : last ≡ following (leaving_place library p)
  last_is = let h = low in omega (arith, h)

  first_cell : StandIn patched_code (leaving_place library p) (0x6147 ∷ []) (following (leaving_place library p))
  first_cell =
      let h = room in (
        subst (λ n. slice_index patched_code n ≡ 0x6147) (front_size laws library p built) (first_there zeros (front laws library p built) 0x6001),
        omega (arith, h, size),
        refl,
      )

  return_stands : HoldsInstruction (code_with 0x700C) last (decoded 0x700C)
  return_stands =
      let h = room in (
        ap decoded (ap (λ l. slice_index l last) (sym (append-nil (code_with 0x700C))) ∙ has 0x700C []),
        omega (arith, h, size, length-append (front laws library p built) (0x6147 ∷ 0x6001 ∷ zeros), length-append (front laws library p built) (0x6147 ∷ 0x700C ∷ zeros)),
      )

  -- a return that stands elsewhere: that of EXECUTE
  abbrev returns_at : ℕ
  returns_at = execute_place library p + 10

  in_front : execute_place library p + 15 ≤ leaving_place library p
  in_front = omega arith

  returns_there : HoldsInstruction patched_code returns_at (decoded 0x700C)
  returns_there =
      let h = low in
      let f = in_front in
      let c = cut patched_code (execute_place library p) 10
      (0x6081 ∷ 0x6A00 ∷ (0x8000 + length p.tokens) ∷ 0x6F03 ∷ branch_to (execute_place library p + 11) ∷ 0x8007 ∷ 0x6203 ∷ 0x8001 ∷ 0x6D03 ∷ 0x6147 ∷ [])
      (return_cell ∷ 0x800D ∷ 0xC004 ∷ 0x6023 ∷ 0x6103 ∷ []) (abort_place library p) refl (omega (arith, h, f)) (execute_stands laws library p built patched_code size starts_with).0 in
      (ap decoded c.1.0, c.1.1)

  apart : (returns_at == last) ≡ false
  apart = let f = in_front in let lt : execute_place library p + 10 < suc (leaving_place library p) = omega (arith, f) in grind (arith, nat_tests)

  abbrev patches : Patches laws p
  patches = record {
    code = code_with 0x700C;
    code' = patched_code;
    place = routine_place library p;
    size = size;
    all = stand;
    last = last;
    last_is = last_is;
    below = below;
    first_cell = first_cell;
    return_cell = return_stands;
    cell' = has 0x6001;
    cell = has 0x700C;
    codes = sets 0x700C 0x6001;
    mends = sets 0x6001 0x700C;
    returns_at = returns_at;
    returns_there = returns_there;
    apart = apart;
  }

  abbrev start : OpenConfiguration
  start = standing_as (first_state p input) (machine_at patched_code 0 [] [] [])

  abbrev main : OpenConfiguration
  main = standing_as (first_state p input) (machine_at patched_code (routine_place library p (Definition p.main_body)) (Some 2 ∷ []) [] [])

  main_meets : Meets patched_code (routine_place library p) p None (routine_place library p (Definition p.main_body)) (first_state p input) (Some 2 ∷ [])
  main_meets = record {
    stands = stand.bodies p.main_body built.has_main;
    loops = loops_before patched_code (routine_place library p) p (body_of p p.main_body) None [] refl;
    frames = refl;
    cells = tt;
    entries = tt;
    world = first_world_is p input built.data_start space bytes;
    starts = refl;
  }

  abbrev Main : ℕ → Type 0
  Main k =
      Back laws only p patches
      k 8 (ahead (first_state p input).work + 0) returns (first_state p input) main

  main_back : (k : ℕ) → IsSafeReturning p (backs_of returns) input k → Main k
  unfolding run_back
  main_back k well =
      claims laws only p patches
      returns come k 8 (routine_place library p (Definition p.main_body)) None (first_state p input) (Some 2 ∷ []) [] [] main_meets well.lacks_nothing well.depth_fits

  abbrev long : last < length (front laws library p built ++ (0x6147 ∷ 0x6001 ∷ zeros))
  long =
      last_inside laws only p patches

  abbrev mend : OpenConfiguration → OpenConfiguration
  mend w = mended (code_with 0x700C) patched_code last p.data_start below (sets 0x6001 0x700C) long w

  start_not : is_leaving last start ≡ false
  start_not = let lt : 0 < suc (leaving_place library p) = omega arith in grind (arith, nat_tests)

  -- the call of MAIN
  called : advanced None open_storage p.data_start start ≡ main
  called =
      (laws.calls p.data_start (routine_place library p (Definition p.main_body)) (machine_at patched_code 0 [] [] []) [] (first_state p input).world
      (main_called laws library p built patched_code size starts_with)).makes

  -- the run of the image is that of the patched code, mended
  run_is : (n : ℕ) → returning_run library p returns input (suc n) ≡ mend (run_patched patched_code last p.data_start returns n main)
  unfolding returning_run
  run_is n =
      ap (run_returning open_storage (machine_back (code_of library p)) last p.data_start returns (suc n)) (begins laws library p built input ∙ ap (λ code. standing_as (first_state p input) (machine_at code 0 [] [] [])) code_is)
      ∙ ap (λ code. run_returning open_storage (machine_back code) last p.data_start returns (suc n) (standing_as (first_state p input) (machine_at (code_with 0x700C) 0 [] [] []))) code_is
      ∙ ap (λ m. run_returning open_storage (machine_back (code_with 0x700C)) last p.data_start returns (suc n) (record start { core = record start.core { memory = m } })) (sym (sets 0x6001 0x700C (first_state p input).world.space))
      ∙ same_runs (code_with 0x700C) patched_code last p.data_start below (sets 0x6001 0x700C) long returns (suc n) start (omega (arith, long, length-append patched_code (first_state p input).world.space))
      ∙ ap mend
      (moves laws only p patches
      returns n start main start_not called)

  -- what the patched machine shows the mended one shows
  mend_shows : (w : OpenConfiguration) (o : Outcome) → Shows patched_code w o → Shows (code_of library p) (mend w) o
  mend_shows w o s = record {
    stop_is = s.stop_is;
    memory = ap (λ m. slice_set m last 0x700C) s.memory ∙ sets 0x6001 0x700C (world_of o).space ∙ ap (λ code. code ++ (world_of o).space) (sym code_is);
    input = s.input;
    printed = s.printed;
  }

  shows_at : (k : ℕ) (b : Main k) → Shows (code_of library p) (returning_run library p returns input (suc b.count)) (steps_back p (backs_of returns) k (first_state p input))
  shows_at k b =
      subst (λ w. Shows (code_of library p) w (steps_back p (backs_of returns) k (first_state p input))) (sym (run_is b.count))
      (mend_shows (run_patched patched_code last p.data_start returns b.count main) (steps_back p (backs_of returns) k (first_state p input)) b.shows)

  far_from : (k : ℕ) (b : Main k) (n : ℕ) → word_steps p n ≤ k → end_of (steps_back p (backs_of returns) k (first_state p input)) ≡ None → n < suc b.count
  far_from k b n le e =
      let far = b.progress e in
      let ahead_low = ahead_bound patched_code (routine_place library p) p None (routine_place library p (Definition p.main_body)) (first_state p input).work main_meets.stands in
      let many : n ≤ b.count = enough n b.count p.source_tokens k le (omega (arith, far, ahead_low)) in
      omega (arith, many)

  as_much : (k : ℕ) → Main k → ForwardReturning library p returns input k
  unfolding run_back price_back
  as_much k b =
      let cheap = b.cheap in
      record { count = suc b.count; within_price = omega (arith, cheap); shows = shows_at k b; far_enough = λ n le e. far_from k b n le e }

  no_more_by : (n k : ℕ) (b : Main k) (o : Outcome) → steps_back p (backs_of returns) k (first_state p input) ≡ o → (end_of o ≡ None → n < suc b.count) →
      IsPrefixOf (returning_run library p returns input n).printed (world_of o).printed
      × ((stop : Stop) → (returning_run library p returns input n).stop ≡ Some stop → (end : End) × (end_of o ≡ Some end) × (machine_end end ≡ Some stop))
  unfolding returning_run
  no_more_by n k b (Goes s) e far =
      let shows = subst (Shows (code_of library p) (returning_run library p returns input (suc b.count))) e (shows_at k b) in
      let lt = far refl in
      let begins_at = begun (open_start (laid_out library p)) input in
      let front' = prints_between laws.grows (code_of library p) last p.data_start returns n (suc b.count) (begun (open_start (laid_out library p)) input) (omega (arith, lt)) in (
        (front'.0, front'.1 ∙ shows.printed),
        λ stop q.
            let later = ends_between laws.grows (code_of library p) last p.data_start returns n (suc b.count) (begun (open_start (laid_out library p)) input) stop (omega (arith, lt)) q in
            absurd (let f : None ≡ Some stop = sym shows.stop_is ∙ ap (λ w. w.stop) later ∙ q in cc),
      )
  no_more_by n k b (Ends end world) e far =
      let shows = subst (Shows (code_of library p) (returning_run library p returns input (suc b.count))) e (shows_at k b) in
      let same : returning_run library p returns input (suc (b.count + n)) ≡ returning_run library p returns input (suc b.count) =
      run_is (b.count + n) ∙ ap mend (b.stays end n (ap end_of e)) ∙ sym (run_is b.count) in
      let front' = prints_between laws.grows (code_of library p) last p.data_start returns n (suc (b.count + n)) (begun (open_start (laid_out library p)) input) (omega arith) in (
        (front'.0, front'.1 ∙ ap (λ w. w.printed) same ∙ shows.printed),
        λ stop q.
            let later = ends_between laws.grows (code_of library p) last p.data_start returns n (suc (b.count + n)) (begun (open_start (laid_out library p)) input) stop (omega arith) q in
            (end, refl, sym shows.stop_is ∙ ap (λ w. w.stop) (sym same ∙ later) ∙ q),
      )

  pub forward : (k : ℕ) → IsSafeReturning p (backs_of returns) input k → ForwardReturning library p returns input k
  forward k well = as_much k (main_back k well)

  pub backward : (n : ℕ) → IsSafeReturning p (backs_of returns) input (word_steps p n) → BackwardReturning library p returns input n
  unfolding run_back
  backward n well =
      let b = main_back (word_steps p n) well in
      let parts = no_more_by n (word_steps p n) b (steps_back p (backs_of returns) (word_steps p n) (first_state p input)) refl (λ e. far_from (word_steps p n) b n (omega arith) e) in
      record { prints = parts.0; ends = parts.1 }

  -- ---- the stacks

  abbrev Patched : ℕ → ℕ → ℕ → OpenConfiguration → Type 0
  Patched high return_high n w = StaysPatched (code_with 0x700C) patched_code last p.data_start below (sets 0x6001 0x700C) long high return_high returns n w

  fits_back : (k high return_high : ℕ) → StacksFitReturning p (backs_of returns) input high return_high k →
      StepsFitBack laws only p patches
      returns high return_high k (first_state p input)
  unfolding run_back
  fits_back k high return_high fit = fit

  -- from the call of MAIN on
  main_stays : (n k : ℕ) (b : Main k) (o : Outcome) → steps_back p (backs_of returns) k (first_state p input) ≡ o → (end_of o ≡ None → n < suc b.count) → (high return_high : ℕ) →
      StacksFitReturning p (backs_of returns) input high return_high k →
      Patched high return_high n main
  main_stays n k b (Goes s) e far high return_high fit =
      let lt = far refl in
      fewer_stay (code_with 0x700C) patched_code last p.data_start below (sets 0x6001 0x700C) long high return_high returns n b.count main (omega (arith, lt)) (b.stacks high return_high (fits_back k high return_high fit))
  main_stays n k b (Ends end world) e far high return_high fit =
      fewer_stay (code_with 0x700C) patched_code last p.data_start below (sets 0x6001 0x700C) long high return_high returns n (b.count + n) main (omega arith)
      (b.stacks_ended high return_high end n (fits_back k high return_high fit) (ap end_of e))

  all_stay : (n high return_high : ℕ) → Patched high return_high n main → StaysReturning high return_high (code_of library p) last p.data_start returns (suc n) (begun (open_start (laid_out library p)) input)
  all_stay n high return_high stays =
      let calls =
      laws.calls p.data_start (routine_place library p (Definition p.main_body)) (machine_at patched_code 0 [] [] []) [] (first_state p input).world (main_called laws library p built patched_code size starts_with) in
      let within = narrower laws p.data_start 0 0 0 0 high return_high start (omega arith) (omega arith) calls.bounds.0 in
      let mended_stay =
      mended_stays (code_with 0x700C) patched_code last p.data_start below (sets 0x6001 0x700C) long high return_high returns (suc n) start (omega (arith, long, length-append patched_code (first_state p input).world.space))
      (one_stays (code_with 0x700C) patched_code last p.data_start below (sets 0x6001 0x700C) long high return_high returns n start main start_not called within stays) in
      let is : begun (open_start (laid_out library p)) input ≡ mend start =
      begins laws library p built input ∙ ap (λ code. standing_as (first_state p input) (machine_at code 0 [] [] [])) code_is
      ∙ ap (λ m. record start { core = record start.core { memory = m } }) (sym (sets 0x6001 0x700C (first_state p input).world.space)) in
      subst (StaysReturning high return_high (code_of library p) last p.data_start returns (suc n)) (sym is)
      (subst (λ code. StaysReturning high return_high code last p.data_start returns (suc n) (mend start)) (sym code_is) mended_stay)

  pub stacks : (n : ℕ) → IsSafeReturning p (backs_of returns) input (word_steps p n) → StacksReturning library p returns input n
  stacks n well high return_high fit =
      let b = main_back (word_steps p n) well in
      all_stay n high return_high
      (main_stays n (word_steps p n) b (steps_back p (backs_of returns) (word_steps p n) (first_state p input)) refl (λ e. far_from (word_steps p n) b n (omega arith) e) high return_high fit)

pub images_return : Laws → OnlyGoLeaves → ImagesReturn
images_return laws only = record {
  forward = λ library p returns input k form means built used space bytes come well. forward laws only library p returns input form means built used space bytes come k well;
  backward = λ library p returns input n form means built used space bytes come well. backward laws only library p returns input form means built used space bytes come n well;
  stacks = λ library p returns input n form means built used space bytes come well. stacks laws only library p returns input form means built used space bytes come n well;
}
