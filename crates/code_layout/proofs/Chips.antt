-- What is proved of the open machine, on the chip.
use Rattle.std.proofs.Common.{◌≡◌, ◌≢◌, ℕ, zero, suc, ◌+◌, ◌/◌, ◌<◌, ◌≤◌, false, List, ◌++◌, length, drop, Some, None, refl, sym, ap, ◌∙◌, subst, arith}
use Rattle.std.proofs.Math.Seq.{drop-append_seam}
use Rattle.j1_simulator.specs.Step.{Stop, Missing}
use Rattle.j1_simulator.specs.OpenMachine.{open_storage}
use Rattle.j1_simulator.specs.Run.{run, begun, open_start, open_run, round_run, advanced, IsPrefixOf}
use Rattle.j1_simulator.specs.Laws.{OnlyGrows}
use Rattle.forth_program.specs.State.{End, Outcome, Goes, Ends}
use Rattle.forth_program.specs.Program.{SourceProgram}
use Rattle.forth_program.specs.Run.{source_run, world_of, end_of, leaves}
use Rattle.forth_program.specs.Price.{price}
use Rattle.word_laws.specs.Rings.{OpenConfiguration, BeforeEach, RunsDoTheSame, Agrees}
use Rattle.word_laws.specs.Bounds.{StaysWithin}
use Rattle.word_laws.specs.Standing.{machine_end}
use Rattle.word_laws.specs.Bounds.{BoundsFitRings, BoundsJoin, EndsStay}
use Rattle.forth_program.specs.Tree.{Nodes}
use Rattle.code_layout.specs.Layout.{laid_out}
use Rattle.code_layout.specs.Library.{IsLibrary, LibraryMeans}
use Rattle.code_layout.specs.Built.{IsBuilt}
use Rattle.forth_program.specs.Heights.{StacksFit, IsSafe}
use Rattle.code_layout.specs.Agreement.{AreBytes, code_of, stop_of_outcome, ForwardSimulation, word_steps, BackwardSimulation, ImagesAgree}
use Rattle.code_layout.specs.Chip.{DepthStaysWithin, AgreesOnChip}
use Rattle.code_layout.proofs.Image.{filled_length}
use Rattle.code_layout.proofs.Runs.{strays, strays_not}
use Rattle.code_layout.proofs.Simulation.{never_missing, stop_at}

fewer : (P : OpenConfiguration → Type 0) (data_start n m : ℕ) (v : OpenConfiguration) → n ≤ m → BeforeEach P data_start m v → BeforeEach P data_start n v
fewer P data_start zero m v h before = tt
fewer P data_start (suc n) zero v h before = absurd (omega arith)
fewer P data_start (suc n) (suc m) v h before = (before.0, fewer P data_start n m (advanced v.stop open_storage data_start v) (omega arith) before.1)

after_each : (P : OpenConfiguration → Type 0) (data_start n : ℕ) (v : OpenConfiguration) → BeforeEach P data_start (suc n) v → P (run open_storage data_start n v)
after_each P data_start zero v before = before.0
after_each P data_start (suc n) v before = after_each P data_start n (advanced v.stop open_storage data_start v) before.1

module _ (agree : ImagesAgree) (rings : RunsDoTheSame) (bounds_fit : BoundsFitRings) (bounds_join : BoundsJoin) (ends_stay : EndsStay) (grows : OnlyGrows open_storage)
    (library : List Nodes) (p : SourceProgram) (input : List ℕ) (form : IsLibrary library) (means : LibraryMeans library) (built : IsBuilt library p)
    (space : AreBytes p.first_space) (bytes : AreBytes input) (well : (k : ℕ) → IsSafe p input k) (stays : (k : ℕ) → leaves (source_run p input k) ≡ false) (fit : (k : ℕ) → StacksFit p input 33 32 k) where
  abbrev start : OpenConfiguration
  start = begun (open_start (laid_out library p)) input

  sound : (k : ℕ) → strays (source_run p input k) ≡ false
  sound k = let w = well k in strays_not (source_run p input k) w.lacks_nothing (stays k)

  much : (k : ℕ) → ForwardSimulation library p input k
  much k = agree.forward library p input k form means built space bytes (well k) (stays k)

  more : (n : ℕ) → BackwardSimulation library p input n
  more n = agree.backward library p input n form means built space bytes (well (word_steps p n)) (stays (word_steps p n))

  module _ (high return_high : ℕ) (fits : (k : ℕ) → StacksFit p input high return_high k) where
    always_by : (n : ℕ) (m : ForwardSimulation library p input (word_steps p n)) (o : Outcome) → source_run p input (word_steps p n) ≡ o → BeforeEach (StaysWithin 0 high 0 return_high) p.data_start (suc n) start
    always_by n m (Goes s) e =
        let lt : n < m.count = m.far_enough n (omega arith) (ap end_of e) in
        fewer (StaysWithin 0 high 0 return_high) p.data_start (suc n) m.count start (omega (arith, lt)) (m.stacks_before high return_high (fits (word_steps p n)))
    always_by n m (Ends end world) e =
        let stop = stop_at end world (sym (ap strays e) ∙ sound (word_steps p n)) in
        let stopped : (open_run (laid_out library p) input m.count).stop ≡ Some stop.0 = m.shows.stop_is ∙ ap stop_of_outcome e ∙ stop.1 in
        let stay = ends_stay 0 high 0 return_high (suc n) p.data_start (open_run (laid_out library p) input m.count) stop.0 stopped in
        fewer (StaysWithin 0 high 0 return_high) p.data_start (suc n) (m.count + suc n) start (omega arith)
        (bounds_join 0 high 0 return_high m.count (suc n) p.data_start start (m.stacks_before high return_high (fits (word_steps p n))) (stay.1 (m.stacks_at_end high return_high end (fits (word_steps p n)) (ap end_of e))))

    always : (n : ℕ) → BeforeEach (StaysWithin 0 high 0 return_high) p.data_start (suc n) start
    always n = always_by n (much (word_steps p n)) (source_run p input (word_steps p n)) refl

  knows : (n : ℕ) → (open_run (laid_out library p) input n).stop ≢ Some Missing
  knows n e = let ends = (more n).ends Missing e in never_missing (Ends ends.0 (world_of (source_run p input 0))) ends.2

  alike : (n : ℕ) → Agrees (open_run (laid_out library p) input n) (round_run (laid_out library p) input n)
  alike n = rings (laid_out library p) input n (bounds_fit 0 33 0 32 n p.data_start start (omega arith) (omega arith) (fewer (StaysWithin 0 33 0 32) p.data_start n (suc n) start (omega arith) (always 33 32 fit n))) (knows n)

  -- a machine that has ended is where the source has ended
  same_end : (n k : ℕ) (stop : Stop) (end : End) → (open_run (laid_out library p) input n).stop ≡ Some stop → end_of (source_run p input k) ≡ Some end →
      open_run (laid_out library p) input n ≡ open_run (laid_out library p) input (much k).count
  same_end n k stop end e f =
      let m = much k in
      let stop' = stop_now k end (source_run p input k) refl f in
      let one = grows.ends p.data_start n (n + m.count) start stop (omega arith) e in
      let two = grows.ends p.data_start m.count (n + m.count) start stop'.0 (omega arith) (m.shows.stop_is ∙ stop'.1) in
      sym one ∙ two
    where
      stop_now : (k : ℕ) (end : End) (o : Outcome) → source_run p input k ≡ o → end_of (source_run p input k) ≡ Some end → (stop : Stop) × (stop_of_outcome (source_run p input k) ≡ Some stop)
      stop_now k end (Goes s) e f = let g : None ≡ Some end = sym (ap end_of e) ∙ f in cc
      stop_now k end (Ends end' world) e f = let s = stop_at end' world (sym (ap strays e) ∙ sound k) in (s.0, ap stop_of_outcome e ∙ s.1)

  stop_of_end : (o : Outcome) (end : End) → strays o ≡ false → end_of o ≡ Some end → (stop : Stop) × (stop_of_outcome o ≡ Some stop) × (machine_end end ≡ Some stop)
  stop_of_end (Goes s) end sound' e = cc
  stop_of_end (Ends end' world) end sound' e = let s = stop_at end' world sound' in let same : end' ≡ end = cc in (s.0, s.1, ap machine_end (sym same) ∙ s.1)

  code_is : length (code_of library p) ≡ p.data_start / 2
  code_is = filled_length (p.data_start / 2) (laid_out library p).cells built.code_fits

  holds : (high return_high : ℕ) → ((k : ℕ) → StacksFit p input high return_high k) → (n : ℕ) →
      DepthStaysWithin high (round_run (laid_out library p) input n).data_depth
      × DepthStaysWithin return_high (round_run (laid_out library p) input n).return_depth
  holds high return_high fits n =
      let w = after_each (StaysWithin 0 high 0 return_high) p.data_start n start (always high return_high fits n) in
      ((w.depth, sym (alike n).data_depth ∙ w.depth_is, w.at_most), (w.return_depth, sym (alike n).return_depth ∙ w.return_depth_is, w.return_at_most))

  pub chip_agrees : AgreesOnChip library p input
  chip_agrees = record {
    prints_no_more = λ n. subst (λ printed. IsPrefixOf printed (world_of (source_run p input (word_steps p n))).printed) (alike n).printed (more n).prints;
    ends_no_sooner = λ n stop e. (more n).ends stop ((alike n).stop ∙ e);
    prints_no_less = λ k.
        let m = much k in
        let front = grows.prints p.data_start m.count (price p input k) start m.within_price in
        (front.0, ap (λ xs. xs ++ front.0) (sym m.shows.printed) ∙ front.1 ∙ (alike (price p input k)).printed);
    ends_no_later = λ k end e.
        let m = much k in
        let s = stop_of_end (source_run p input k) end (sound k) e in
        let later = grows.ends p.data_start m.count (price p input k) start s.0 m.within_price (m.shows.stop_is ∙ s.1) in
        (s.0, sym (alike (price p input k)).stop ∙ ap (λ v. v.stop) later ∙ m.shows.stop_is ∙ s.1, s.2);
    ends_alike = λ n k stop end e f.
        let m = much k in
        let a = alike n in
        let same = same_end n k stop end (a.stop ∙ e) f in (
          sym a.printed ∙ ap (λ v. v.printed) same ∙ m.shows.printed,
          sym a.input ∙ ap (λ v. v.input) same ∙ m.shows.input,
          ap (drop (p.data_start / 2)) (sym a.core.memory ∙ ap (λ v. v.core.memory) same ∙ m.shows.memory)
              ∙ ap (λ i. drop i (code_of library p ++ (world_of (source_run p input k)).space)) (sym code_is)
              ∙ drop-append_seam (code_of library p) (world_of (source_run p input k)).space,
        );
    rings_agree = alike;
    data_stack_holds = λ n. (holds 33 32 fit n).0;
    return_stack_holds = λ n. (holds 33 32 fit n).1;
    stacks_hold = holds;
  }
