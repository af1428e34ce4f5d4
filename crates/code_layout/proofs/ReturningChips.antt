-- Images whose GO comes back, on the chip: the rings do what the stacks without end do.
use Rattle.std.proofs.Common.{◌≡◌, ◌≢◌, ℕ, zero, suc, ◌+◌, ◌-◌, ◌/◌, ◌<◌, ◌≤◌, ◌==◌, ◌&&◌, Bool, true, false, List, [], ◌∷◌, ◌++◌, length, map, drop, get_or, slice_index, Option, Some, None, ◌%◌, ◌+ℤ◌, refl, sym, ap, ◌∙◌, subst, arith}
use Rattle.std.specs.Prelude.{if◌then◌else◌, pos, negsuc}
use Rattle.std.specs.List.{All}
use Rattle.std.proofs.lemmas.List.Elements.{All-head, All-tail}
use Rattle.std.proofs.Math.Seq.{drop-append_seam}
use Rattle.j1_simulator.specs.Step.{Stop, Missing}
use Rattle.j1_simulator.specs.OpenMachine.{top_cell, rest, tape_moved, open_storage}
use Rattle.j1_simulator.specs.RoundMachine.{ring_moved, round_storage}
use Rattle.j1_simulator.specs.Run.{begun, open_start, round_start, advanced, IsPrefixOf}
use Rattle.j1_simulator.specs.Laws.{OnlyGrows}
use Rattle.forth_program.specs.Tree.{Nodes}
use Rattle.forth_program.specs.State.{End, Outcome, Goes, Ends}
use Rattle.forth_program.specs.Program.{SourceProgram}
use Rattle.forth_program.specs.Form.{has_no_go}
use Rattle.forth_program.specs.Run.{world_of, end_of}
use Rattle.forth_program.specs.Returns.{Return, IsReturn, run_back, price_back}
use Rattle.word_laws.specs.Rings.{OpenConfiguration, KnownWithin, CellAgrees, place_below, StackAgrees, Agrees, InstructionDoesTheSame, RunsDoTheSame, PointersGoDown, PlacesAreKept}
use Rattle.word_laws.specs.Bounds.{StaysWithin, BoundsFitRings}
use Rattle.word_laws.specs.Standing.{machine_end}
use Rattle.code_layout.specs.Layout.{laid_out}
use Rattle.code_layout.specs.Built.{IsBuilt}
use Rattle.code_layout.specs.Library.{IsLibrary, LibraryMeans}
use Rattle.code_layout.specs.Agreement.{AreBytes, code_of, stop_of_outcome, word_steps}
use Rattle.code_layout.specs.Chip.{DepthStaysWithin}
use Rattle.code_layout.specs.Returning.{MachineReturn, backs_of, place_back, machine_back, goes_back, is_running, is_leaving, run_returning, last_of_go, returning_run, LeftWithin, HoldsBack, WhichHolds, StaysReturning}
use Rattle.code_layout.specs.Returning.{IsSafeReturning, StacksFitReturning, ForwardReturning, BackwardReturning, ImagesReturn}
use Rattle.code_layout.specs.ReturningChip.{RoundConfiguration, RoundReturn, AreRings, round_backs, counted, top_back, ring_back, round_back, round_returning_run, AgreesReturningOnChip, ChipsReturn}
use Rattle.code_layout.proofs.Image.{filled_length}
use Rattle.code_layout.proofs.Simulation.{never_missing}
use Rattle.code_layout.proofs.ReturningImage.{prints_between, ends_between}

-- ---- the laws on rings

record RingLaws : Type 0 where
  instruction : InstructionDoesTheSame
  run : RunsDoTheSame
  down : PointersGoDown
  others : PlacesAreKept
  fit : BoundsFitRings

-- the cell on top
top_of_ring : (below : List (Option ℕ)) (address n : ℕ) → top_cell below ≡ Some address → CellAgrees (get_or below 0 None) n → address ≡ n
top_of_ring [] address n e same = absurd (cc)
top_of_ring (cell ∷ below) address n e same = subst (λ c. CellAgrees c n) e same

-- all that is known is known within more places
known_more : (h k : ℕ) (cells : List (Option ℕ)) → h ≤ k → KnownWithin h cells → KnownWithin k cells
known_more zero zero [] le known = tt
known_more zero (suc k) [] le known = tt
known_more (suc h) zero cells le known = absurd (omega arith)
known_more (suc h) (suc k) [] le known = tt
known_more zero zero (cell ∷ cells) le known = known
known_more zero (suc k) (cell ∷ cells) le known = known_more zero k cells (omega arith) known.1
known_more (suc h) (suc k) (cell ∷ cells) le known = known_more h k cells (omega arith) known

-- all places but the top one
known_below : (depth : ℕ) (cell : Option ℕ) (cells : List (Option ℕ)) → KnownWithin depth (cell ∷ cells) → KnownWithin (depth - 1) cells
known_below zero cell cells known = known.1
known_below (suc depth) cell cells known = subst (λ n. KnownWithin n cells) (one_less depth) known
  where
    one_less : (n : ℕ) → n ≡ suc n - 1
    one_less n = omega arith

top_agrees : (depth other : ℕ) (t : Option ℕ) (x : ℕ) (below : List (Option ℕ)) → KnownWithin depth (t ∷ below) → CellAgrees t x → CellAgrees t (top_back depth other x)
top_agrees zero other t x below known same = subst (λ c. CellAgrees c other) (sym known.0) tt
top_agrees (suc depth) other t x below known same = same

known_rest : (depth : ℕ) (below : List (Option ℕ)) → KnownWithin depth below → KnownWithin (depth - 1) (rest below)
known_rest zero [] known = tt
known_rest (suc depth) [] known = known_more 0 (suc depth - 1) [] (omega arith) tt
known_rest depth (cell ∷ cells) known = known_below depth cell cells known

module _ (rings : RingLaws) (code : List ℕ) (last data_start : ℕ) where
  abbrev opened : List MachineReturn → ℕ → OpenConfiguration → OpenConfiguration
  opened returns n w = run_returning open_storage (machine_back code) last data_start returns n w

  abbrev round : List RoundReturn → ℕ → RoundConfiguration → RoundConfiguration
  round rounds n r = run_returning round_storage (round_back code) last data_start rounds n r

  -- what comes back agrees
  backs_agree : (r : MachineReturn) (x : RoundReturn) (w : OpenConfiguration) (v : RoundConfiguration) → r.back ≡ x.back → AreRings x → LeftWithin 33 32 w → Agrees w v → Agrees (machine_back code r w) (round_back code x v)
  backs_agree r x w v same sized left a =
      let data_counted : counted v.data_depth ≡ left.depth = ap counted (sym a.data_depth ∙ left.depth_is) in
      let return_counted : counted v.return_depth ≡ left.return_depth = ap counted (sym a.return_depth ∙ left.return_depth_is) in
      let s = a.core.return_stack in
      let above_any : StackAgrees (record w.core.return_stack { above = r.return_above }) v.core.return_stack = record { at = s.at; size = s.size; low = s.low; cells = s.cells } in
      let went_down = rings.down (record w.core.return_stack { above = r.return_above }) v.core.return_stack above_any (known_more left.return_depth 32 w.core.return_stack.below left.return_at_most left.return_known) in
      record {
        core = record {
          pc = ap place_back left.address_is
              ∙ ap (λ n. n / 2 % 0x2000) (top_of_ring w.core.return_stack.below left.address (slice_index v.core.return_stack.cells (place_below 0 v.core.return_stack)) left.address_is (s.cells 0 (omega arith)))
              ∙ ap (λ i. slice_index v.core.return_stack.cells i / 2 % 0x2000) (let low = s.low in let e : place_below 0 v.core.return_stack ≡ v.core.return_stack.at = omega (arith, low) in e);
          t = subst (λ n. CellAgrees w.core.t (top_back n x.t v.core.t)) (sym data_counted) (top_agrees left.depth x.t w.core.t v.core.t w.core.data_stack.below left.known a.core.t);
          data_stack = subst (λ n. StackAgrees (record w.core.data_stack { above = r.data_above }) (ring_back (n - 1) x.data_cells v.core.data_stack)) (sym data_counted)
              (rings.others (left.depth - 1) w.core.data_stack v.core.data_stack r.data_above x.data_cells sized.data_size (known_below left.depth w.core.t w.core.data_stack.below left.known) a.core.data_stack);
          return_stack = subst
              (λ n. StackAgrees (tape_moved (negsuc 0) (record w.core.return_stack { above = r.return_above })) (ring_back (n - 1) x.return_cells (ring_moved (negsuc 0) v.core.return_stack))) (sym return_counted)
              (rings.others (left.return_depth - 1) (tape_moved (negsuc 0) (record w.core.return_stack { above = r.return_above })) (ring_moved (negsuc 0) v.core.return_stack)
              (top_cell w.core.return_stack.below ∷ r.return_above) x.return_cells sized.return_size (known_rest left.return_depth w.core.return_stack.below left.return_known) went_down);
          memory = ap (λ b. code ++ b.space) same;
        };
        input = ap (λ b. b.input) same;
        printed = ap (λ printed. printed ++ r.back.printed) a.printed ∙ ap (λ b. v.printed ++ b.printed) same;
        data_depth = a.data_depth;
        return_depth = ap (λ d. d +ℤ negsuc 0) a.return_depth;
        stop = a.stop;
      }

  -- one instruction, and what follows it
  opened_on : (returns : List MachineReturn) (n : ℕ) (w : OpenConfiguration) → opened returns (suc n) w
      ≡ (if is_leaving last w then goes_back (machine_back code) returns (advanced w.stop open_storage data_start w) (λ others v. opened others n v) else opened returns n (advanced w.stop open_storage data_start w))
  unfolding run_returning
  opened_on returns n w = refl

  round_on : (rounds : List RoundReturn) (n : ℕ) (v : RoundConfiguration) → round rounds (suc n) v
      ≡ (if is_leaving last v then goes_back (round_back code) rounds (advanced v.stop round_storage data_start v) (λ others u. round others n u) else round rounds n (advanced v.stop round_storage data_start v))
  unfolding run_returning
  round_on rounds n v = refl

  none_opened : (returns : List MachineReturn) (w : OpenConfiguration) → opened returns 0 w ≡ w
  unfolding run_returning
  none_opened returns w = refl

  none_round : (rounds : List RoundReturn) (v : RoundConfiguration) → round rounds 0 v ≡ v
  unfolding run_returning
  none_round rounds v = refl

  stays_on : (high return_high : ℕ) (returns : List MachineReturn) (n : ℕ) (w : OpenConfiguration) → StaysReturning high return_high code last data_start returns (suc n) w → StaysWithin 0 high 0 return_high w
      × WhichHolds (is_leaving last w)
      (LeftWithin high return_high (advanced w.stop open_storage data_start w)
      × HoldsBack code returns (advanced w.stop open_storage data_start w) (λ others v. StaysReturning high return_high code last data_start others n v))
      (StaysReturning high return_high code last data_start returns n (advanced w.stop open_storage data_start w))
  unfolding StaysReturning
  stays_on high return_high returns n w stays = stays

  -- within n instructions the machine needs no unknown cell
  abbrev Knows : List MachineReturn → ℕ → OpenConfiguration → Type 0
  Knows returns n w = (i : ℕ) → i ≤ n → (opened returns i w).stop ≢ Some Missing

  -- both runs agree
  alike_from : (returns : List MachineReturn) (rounds : List RoundReturn) (n : ℕ) (w : OpenConfiguration) (v : RoundConfiguration) → backs_of returns ≡ round_backs rounds → All AreRings rounds → Agrees w v →
      StaysReturning 33 32 code last data_start returns n w → Knows returns n w → Agrees (opened returns n w) (round rounds n v)
  alike_from returns rounds zero w v same sized a stays knows = subst (λ u. Agrees (opened returns 0 w) u) (sym (none_round rounds v)) (subst (λ u. Agrees u v) (sym (none_opened returns w)) a)
  alike_from returns rounds (suc n) w v same sized a stays knows =
      let s = stays_on 33 32 returns n w stays in
      let fits = rings.fit 0 33 0 32 1 data_start w (omega arith) (omega arith) (s.0, tt) in
      subst (λ u. Agrees u (round rounds (suc n) v)) (sym (opened_on returns n w))
      (subst (λ u. Agrees (if is_leaving last w then goes_back (machine_back code) returns (advanced w.stop open_storage data_start w) (λ others x. opened others n x)
      else opened returns n (advanced w.stop open_storage data_start w)) u) (sym (round_on rounds n v))
      (by returns rounds (is_leaving last w) (is_leaving last v) refl
      (ap (λ st. is_running st && (w.core.pc == last)) a.stop ∙ ap (λ pc. is_running v.stop && (pc == last)) a.core.pc) same sized s.1 knows
      (λ known. rings.instruction data_start w v a fits.0 known)
      (λ others rest_rounds x u same' sized' a' stays' knows'. alike_from others rest_rounds n x u same' sized' a' stays' knows')))
    where
      next : OpenConfiguration
      next = advanced w.stop open_storage data_start w

      by : (returns : List MachineReturn) (rounds : List RoundReturn) (b b' : Bool) → is_leaving last w ≡ b → is_leaving last w ≡ b' → backs_of returns ≡ round_backs rounds → All AreRings rounds →
          WhichHolds b (LeftWithin 33 32 next × HoldsBack code returns next (λ others x. StaysReturning 33 32 code last data_start others n x)) (StaysReturning 33 32 code last data_start returns n next) → Knows returns (suc n) w →
          (next.stop ≢ Some Missing → Agrees next (advanced v.stop round_storage data_start v)) →
          ((others : List MachineReturn) (rest_rounds : List RoundReturn) (x : OpenConfiguration) (u : RoundConfiguration) → backs_of others ≡ round_backs rest_rounds → All AreRings rest_rounds → Agrees x u →
          StaysReturning 33 32 code last data_start others n x → Knows others n x → Agrees (opened others n x) (round rest_rounds n u)) →
          Agrees (if b then goes_back (machine_back code) returns next (λ others x. opened others n x) else opened returns n next)
          (if b' then goes_back (round_back code) rounds (advanced v.stop round_storage data_start v) (λ others u. round others n u) else round rounds n (advanced v.stop round_storage data_start v))
      by returns rounds false false e e' same sized stays knows leads later =
          let on : (i : ℕ) → opened returns (suc i) w ≡ opened returns i next = λ i. opened_on returns i w ∙ ap (λ b. if b then goes_back (machine_back code) returns next (λ others x. opened others i x) else opened returns i next) e in
          let known : next.stop ≢ Some Missing = λ q. knows 1 (omega arith) (ap (λ u. u.stop) (on 0 ∙ none_opened returns next) ∙ q) in
          later returns rounds next (advanced v.stop round_storage data_start v) same sized (leads known) stays (λ i le q. knows (suc i) (omega arith) (ap (λ u. u.stop) (on i) ∙ q))
      by [] [] true true e e' same sized stays knows leads later =
          let on : opened [] 1 w ≡ next = opened_on [] 0 w ∙ ap (λ b. if b then goes_back (machine_back code) [] next (λ others x. opened others 0 x) else opened [] 0 next) e in
          leads (λ q. knows 1 (omega arith) (ap (λ u. u.stop) on ∙ q))
      by (r ∷ returns) (x ∷ rounds) true true e e' same sized stays knows leads later =
          let on : (i : ℕ) → opened (r ∷ returns) (suc i) w ≡ opened returns i (machine_back code r next) = λ i.
          opened_on (r ∷ returns) i w ∙ ap (λ b. if b then goes_back (machine_back code) (r ∷ returns) next (λ others x. opened others i x) else opened (r ∷ returns) i next) e in
          let known : next.stop ≢ Some Missing = λ q. knows 1 (omega arith) (ap (λ u. u.stop) (on 0 ∙ none_opened returns (machine_back code r next)) ∙ q) in
          later returns rounds (machine_back code r next) (round_back code x (advanced v.stop round_storage data_start v)) (let f : backs_of returns ≡ round_backs rounds = cc in f) (All-tail AreRings x rounds sized)
          (backs_agree r x next (advanced v.stop round_storage data_start v) (let f : r.back ≡ x.back = cc in f) (All-head AreRings x rounds sized) stays.0 (leads known)) stays.1
          (λ i le q. knows (suc i) (omega arith) (ap (λ u. u.stop) (on i) ∙ q))
      by [] (x ∷ rounds) true true e e' same sized stays knows leads later = absurd (cc)
      by (r ∷ returns) [] true true e e' same sized stays knows leads later = absurd (cc)
      by returns rounds true false e e' same sized stays knows leads later = absurd (let f : true ≡ false = sym e ∙ e' in cc)
      by returns rounds false true e e' same sized stays knows leads later = absurd (let f : false ≡ true = sym e ∙ e' in cc)

  fewer_return : (high return_high : ℕ) (returns : List MachineReturn) (n : ℕ) (w : OpenConfiguration) → StaysReturning high return_high code last data_start returns (suc n) w →
      StaysReturning high return_high code last data_start returns n w
  unfolding StaysReturning
  fewer_return high return_high returns zero w stays = tt
  fewer_return high return_high returns (suc n) w stays = (stays.0, by returns (is_leaving last w) stays.1 (λ others v h. fewer_return high return_high others n v h))
    where
      next : OpenConfiguration
      next = advanced w.stop open_storage data_start w

      by : (returns : List MachineReturn) (b : Bool) →
          WhichHolds b (LeftWithin high return_high next × HoldsBack code returns next (λ others v. StaysReturning high return_high code last data_start others (suc n) v))
          (StaysReturning high return_high code last data_start returns (suc n) next) →
          ((others : List MachineReturn) (v : OpenConfiguration) → StaysReturning high return_high code last data_start others (suc n) v → StaysReturning high return_high code last data_start others n v) →
          WhichHolds b (LeftWithin high return_high next × HoldsBack code returns next (λ others v. StaysReturning high return_high code last data_start others n v)) (StaysReturning high return_high code last data_start returns n next)
      by returns false h later = later returns next h
      by [] true h later = (h.0, tt)
      by (r ∷ returns) true h later = (h.0, later returns (machine_back code r next) h.1)

  -- the counters after n instructions
  counters_from : (high return_high : ℕ) (returns : List MachineReturn) (n : ℕ) (w : OpenConfiguration) → StaysReturning high return_high code last data_start returns (suc n) w →
      DepthStaysWithin high (opened returns n w).data_depth × DepthStaysWithin return_high (opened returns n w).return_depth
  counters_from high return_high returns zero w stays =
      let s = (stays_on high return_high returns 0 w stays).0 in
      subst (λ u. DepthStaysWithin high u.data_depth × DepthStaysWithin return_high u.return_depth) (sym (none_opened returns w)) ((s.depth, s.depth_is, s.at_most), (s.return_depth, s.return_depth_is, s.return_at_most))
  counters_from high return_high returns (suc n) w stays =
      subst (λ u. DepthStaysWithin high u.data_depth × DepthStaysWithin return_high u.return_depth) (sym (opened_on returns n w))
      (by returns (is_leaving last w) (stays_on high return_high returns (suc n) w stays).1 (λ others v h. counters_from high return_high others n v h))
    where
      next : OpenConfiguration
      next = advanced w.stop open_storage data_start w

      by : (returns : List MachineReturn) (b : Bool) →
          WhichHolds b (LeftWithin high return_high next × HoldsBack code returns next (λ others v. StaysReturning high return_high code last data_start others (suc n) v))
          (StaysReturning high return_high code last data_start returns (suc n) next) →
          ((others : List MachineReturn) (v : OpenConfiguration) → StaysReturning high return_high code last data_start others (suc n) v →
          DepthStaysWithin high (opened others n v).data_depth × DepthStaysWithin return_high (opened others n v).return_depth) →
          DepthStaysWithin high (if b then goes_back (machine_back code) returns next (λ others v. opened others n v) else opened returns n next).data_depth
          × DepthStaysWithin return_high (if b then goes_back (machine_back code) returns next (λ others v. opened others n v) else opened returns n next).return_depth
      by returns false h later = later returns next h
      by [] true h later = let l = h.0 in ((l.depth, l.depth_is, l.at_most), (l.return_depth, l.return_depth_is, l.return_at_most))
      by (r ∷ returns) true h later = later returns (machine_back code r next) h.1

-- ---- images

-- returns to the open machine with nothing known beyond its pointers
abbrev as_opened : List RoundReturn → List MachineReturn
as_opened rounds = map (λ x. record { back = x.back; data_above = []; return_above = [] }) rounds

same_backs : (rounds : List RoundReturn) → backs_of (as_opened rounds) ≡ round_backs rounds
same_backs [] = refl
same_backs (x ∷ rounds) = ap (λ backs. x.back ∷ backs) (same_backs rounds)

stop_of : (o : Outcome) (end : End) → end_of o ≡ Some end → stop_of_outcome o ≡ machine_end end
stop_of (Goes s) end e = absurd (let f : None ≡ Some end = e in cc)
stop_of (Ends end' world) end e = ap machine_end (let f : end' ≡ end = cc in f)

module _ (images : ImagesReturn) (rings : RingLaws) (grows : OnlyGrows open_storage) (library : List Nodes) (p : SourceProgram) (rounds : List RoundReturn) (input : List ℕ) (form : IsLibrary library) (means : LibraryMeans library)
    (built : IsBuilt library p) (used : has_no_go p ≡ false) (space : AreBytes p.first_space) (bytes : AreBytes input) (come : All (IsReturn p) (round_backs rounds)) (sized : All AreRings rounds)
    (safe : (k : ℕ) → IsSafeReturning p (round_backs rounds) input k) (fit : (k : ℕ) → StacksFitReturning p (round_backs rounds) input 33 32 k) where
  abbrev start : OpenConfiguration
  start = begun (open_start (laid_out library p)) input

  -- ---- for all returns to the open machine that the source sees as it sees these

  module _ (returns : List MachineReturn) (same : backs_of returns ≡ round_backs rounds) where
    comes : All (IsReturn p) (backs_of returns)
    comes = subst (All (IsReturn p)) (sym same) come

    well : (k : ℕ) → IsSafeReturning p (backs_of returns) input k
    well k = subst (λ backs. IsSafeReturning p backs input k) (sym same) (safe k)

    more : (n : ℕ) → BackwardReturning library p returns input n
    more n = images.backward library p returns input n form means built used space bytes comes (well (word_steps p n))

    much : (k : ℕ) → ForwardReturning library p returns input k
    much k = images.forward library p returns input k form means built used space bytes comes (well k)

    stay : (n high return_high : ℕ) → StacksFitReturning p (round_backs rounds) input high return_high (word_steps p n) →
        StaysReturning high return_high (code_of library p) (last_of_go library p) p.data_start returns (suc n) (begun (open_start (laid_out library p)) input)
    stay n high return_high fits =
        images.stacks library p returns input n form means built used space bytes comes (well (word_steps p n)) high return_high (subst (λ backs. StacksFitReturning p backs input high return_high (word_steps p n)) (sym same) fits)

    knows : (n : ℕ) → (returning_run library p returns input n).stop ≢ Some Missing
    knows n e = let ends = (more n).ends Missing e in never_missing (Ends ends.0 (world_of (run_back p (backs_of returns) input 0))) ends.2

    alike : (n : ℕ) → Agrees (returning_run library p returns input n) (round_returning_run library p rounds input n)
    unfolding returning_run round_returning_run
    alike n =
        alike_from rings (code_of library p) (last_of_go library p) p.data_start returns rounds n (begun (open_start (laid_out library p)) input) (begun (round_start (laid_out library p)) input) same sized
        (rings.run (laid_out library p) input 0 tt (λ e. let f : None ≡ Some Missing = e in cc))
        (fewer_return rings (code_of library p) (last_of_go library p) p.data_start 33 32 returns n (begun (open_start (laid_out library p)) input) (stay n 33 32 (fit (word_steps p n))))
        (λ i le. knows i)

    counters : (high return_high : ℕ) → ((k : ℕ) → StacksFitReturning p (round_backs rounds) input high return_high k) → (n : ℕ) →
        DepthStaysWithin high (returning_run library p returns input n).data_depth × DepthStaysWithin return_high (returning_run library p returns input n).return_depth
    unfolding returning_run
    counters high return_high fits n =
        counters_from rings (code_of library p) (last_of_go library p) p.data_start high return_high returns n (begun (open_start (laid_out library p)) input) (stay n high return_high (fits (word_steps p n)))

    -- what was printed is not taken back, and an end is an end for good
    prints_on : (m n : ℕ) → m ≤ n → IsPrefixOf (returning_run library p returns input m).printed (returning_run library p returns input n).printed
    unfolding returning_run
    prints_on m n le = prints_between grows (code_of library p) (last_of_go library p) p.data_start returns m n (begun (open_start (laid_out library p)) input) le

    ends_on : (m n : ℕ) (stop : Stop) → m ≤ n → (returning_run library p returns input m).stop ≡ Some stop → returning_run library p returns input n ≡ returning_run library p returns input m
    unfolding returning_run
    ends_on m n stop le e = ends_between grows (code_of library p) (last_of_go library p) p.data_start returns m n (begun (open_start (laid_out library p)) input) stop le e

  -- ---- for those with nothing known

  abbrev returns : List MachineReturn
  returns = as_opened rounds

  abbrev same : backs_of returns ≡ round_backs rounds
  same = same_backs rounds

  backs_are : (k : ℕ) → run_back p (backs_of returns) input k ≡ run_back p (round_backs rounds) input k
  backs_are k = ap (λ backs. run_back p backs input k) same

  prices_are : (k : ℕ) → price_back p (backs_of returns) input k ≡ price_back p (round_backs rounds) input k
  prices_are k = ap (λ backs. price_back p backs input k) same

  -- where the source has ended, the machine has
  stops_at : (k : ℕ) (end : End) (stop : Stop) → end_of (run_back p (round_backs rounds) input k) ≡ Some end → machine_end end ≡ Some stop → (returning_run library p returns input (much returns same k).count).stop ≡ Some stop
  stops_at k end stop e q = (much returns same k).shows.stop_is ∙ stop_of (run_back p (backs_of returns) input k) end (ap end_of (backs_are k) ∙ e) ∙ q

  -- at one place
  same_end : (n k : ℕ) (stop : Stop) (end : End) → (returning_run library p returns input n).stop ≡ Some stop → end_of (run_back p (round_backs rounds) input k) ≡ Some end → machine_end end ≡ Some stop →
      returning_run library p returns input n ≡ returning_run library p returns input (much returns same k).count
  same_end n k stop end e f q =
      let m = much returns same k in
      sym (ends_on returns same n (n + m.count) stop (omega arith) e) ∙ ends_on returns same m.count (n + m.count) stop (omega arith) (stops_at k end stop f q)

  code_is : length (code_of library p) ≡ p.data_start / 2
  code_is = filled_length (p.data_start / 2) (laid_out library p).cells built.code_fits

  holds : (high return_high : ℕ) → ((k : ℕ) → StacksFitReturning p (round_backs rounds) input high return_high k) → (n : ℕ) →
      DepthStaysWithin high (round_returning_run library p rounds input n).data_depth × DepthStaysWithin return_high (round_returning_run library p rounds input n).return_depth
  holds high return_high fits n =
      let c = counters returns same high return_high fits n in
      let a = alike returns same n in
      (subst (DepthStaysWithin high) a.data_depth c.0, subst (DepthStaysWithin return_high) a.return_depth c.1)

  agrees : AgreesReturningOnChip library p rounds input
  agrees = record {
    prints_no_more = λ n.
        let shown : IsPrefixOf (returning_run library p returns input n).printed (world_of (run_back p (round_backs rounds) input (word_steps p n))).printed =
        subst (λ o. IsPrefixOf (returning_run library p returns input n).printed (world_of o).printed) (backs_are (word_steps p n)) (more returns same n).prints in
        subst (λ printed. IsPrefixOf printed (world_of (run_back p (round_backs rounds) input (word_steps p n))).printed) (alike returns same n).printed shown;
    ends_no_sooner = λ n stop e. let ends = (more returns same n).ends stop ((alike returns same n).stop ∙ e) in (ends.0, sym (ap end_of (backs_are (word_steps p n))) ∙ ends.1, ends.2);
    prints_no_less = λ k.
        let m = much returns same k in
        let price = price_back p (round_backs rounds) input k in
        let front = prints_on returns same m.count price (let le = m.within_price in omega (arith, le, prices_are k)) in
        (front.0, ap (λ o. (world_of o).printed ++ front.0) (sym (backs_are k)) ∙ ap (λ xs. xs ++ front.0) (sym m.shows.printed) ∙ front.1 ∙ (alike returns same price).printed);
    ends_no_later = λ k end stop e q.
        let m = much returns same k in
        let price = price_back p (round_backs rounds) input k in
        let later = ends_on returns same m.count price stop (let le = m.within_price in omega (arith, le, prices_are k)) (stops_at k end stop e q) in
        sym (alike returns same price).stop ∙ ap (λ v. v.stop) later ∙ stops_at k end stop e q;
    ends_alike = λ n k stop end e f q.
        let m = much returns same k in
        let a = alike returns same n in
        let at = same_end n k stop end (a.stop ∙ e) f q in (
          sym a.printed ∙ ap (λ v. v.printed) at ∙ m.shows.printed ∙ ap (λ o. (world_of o).printed) (backs_are k),
          sym a.input ∙ ap (λ v. v.input) at ∙ m.shows.input ∙ ap (λ o. (world_of o).input) (backs_are k),
          ap (drop (p.data_start / 2)) (sym a.core.memory ∙ ap (λ v. v.core.memory) at ∙ m.shows.memory)
              ∙ ap (λ i. drop i (code_of library p ++ (world_of (run_back p (backs_of returns) input k)).space)) (sym code_is)
              ∙ drop-append_seam (code_of library p) (world_of (run_back p (backs_of returns) input k)).space
              ∙ ap (λ o. (world_of o).space) (backs_are k),
        );
    rings_agree = λ others is n. alike others is n;
    data_stack_holds = λ n. (holds 33 32 fit n).0;
    return_stack_holds = λ n. (holds 33 32 fit n).1;
    stacks_hold = holds;
  }

pub chips_return : ImagesReturn → InstructionDoesTheSame → RunsDoTheSame → PointersGoDown → PlacesAreKept → BoundsFitRings → OnlyGrows open_storage → ChipsReturn
chips_return images instruction run down others fit grows library p rounds input form means built used space bytes come sized safe fits =
    agrees images (record { instruction = instruction; run = run; down = down; others = others; fit = fit }) grows library p rounds input form means built used space bytes come sized safe fits
