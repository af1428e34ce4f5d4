-- The image does what the source means, and no more.
use Rattle.std.proofs.Common.{◌≡◌, ℕ, ◌+◌, ◌*◌, ◌<◌, ◌≤◌, ⊎_elim, false, true, List, [], ◌∷◌, Some, None, refl, sym, ap, ◌∙◌, subst, arith, mul-le-mul_right, add-mul, mul-add}
use Rattle.std.proofs.lemmas.Bool.{cases_lt}
use Rattle.j1_simulator.specs.Step.{Stop, Missing}
use Rattle.j1_simulator.specs.OpenMachine.{open_storage}
use Rattle.j1_simulator.specs.Run.{run, begun, open_start, open_run, IsPrefixOf}
use Rattle.forth_program.specs.State.{World, End, Halted, InputEnded, Outside, Underflow, Unbalanced, Left, Outcome, Goes, Ends}
use Rattle.forth_program.specs.Program.{SourceProgram, body_of}
use Rattle.forth_program.specs.Run.{source_run, steps, first_state, world_of, end_of, leaves}
use Rattle.forth_program.specs.Price.{price}
use Rattle.word_laws.specs.Rings.{OpenConfiguration, BeforeEach}
use Rattle.word_laws.specs.Bounds.{StaysWithin}
use Rattle.word_laws.specs.Standing.{standing_as, machine_end, machine_at}
use Rattle.forth_program.specs.Tree.{Nodes}
use Rattle.code_layout.specs.Layout.{Routine, Definition, routine_place, laid_out}
use Rattle.code_layout.specs.Library.{IsLibrary, LibraryMeans}
use Rattle.code_layout.specs.Built.{IsBuilt}
use Rattle.code_layout.specs.Agreement.{AreBytes, code_of, stop_of_outcome, Shows, ForwardSimulation, word_steps, BackwardSimulation, ImagesAgree}
use Rattle.forth_program.specs.Heights.{IsSafe}
use Rattle.code_layout.proofs.Work.{ahead, ahead_bound, loops_before, Meets}
use Rattle.code_layout.proofs.Machine.{Laws, runs_one}
use Rattle.code_layout.proofs.Runs.{strays, strays_not, Reaches, reaches}
use Rattle.code_layout.proofs.Steps.{AllStand}
use Rattle.code_layout.proofs.Image.{first_world_is, code_size, front_stands, begins, main_called, all_stand}
use Rattle.code_layout.proofs.Library.{routines}

-- no end of a source is a lack of the open machine
pub never_missing : (o : Outcome) → stop_of_outcome o ≡ Some Missing → ⊥
never_missing (Goes s) e = cc
never_missing (Ends (Halted status) world) e = cc
never_missing (Ends InputEnded world) e = cc
never_missing (Ends (Outside address) world) e = cc
never_missing (Ends Underflow world) e = cc
never_missing (Ends Unbalanced world) e = cc
never_missing (Ends (Left address) world) e = cc

-- where nothing is lacking and GO leads nowhere, the machine has an end for the source's
pub stop_at : (end : End) (world : World) → strays (Ends end world) ≡ false → (stop : Stop) × (machine_end end ≡ Some stop)
stop_at (Halted status) world e = (_, refl)
stop_at InputEnded world e = (_, refl)
stop_at (Outside address) world e = (_, refl)
stop_at Underflow world e = absurd (let f : true ≡ false = e in cc)
stop_at Unbalanced world e = absurd (let f : true ≡ false = e in cc)
stop_at (Left address) world e = absurd (let f : true ≡ false = e in cc)

pub enough : (n c most k : ℕ) → (n + 1) * (most + 4) ≤ k → k ≤ most + c * (most + 1) → n ≤ c
enough n c most k h far =
    ⊎_elim (λ lt. absurd (let m : c * (most + 1) ≤ n * (most + 1) = mul-le-mul_right (most + 1) (less c n lt) in omega (arith, spread n most, m))) (λ le. le) (cases_lt c n)
  where
    less : (c n : ℕ) → c < n → c ≤ n
    less c n h = omega arith

    spread : (n most : ℕ) → (n + 1) * (most + 4) ≡ n * (most + 1) + n * 3 + (most + 4)
    spread n most = omega (arith, add-mul n 1 (most + 4), mul-add n most 4, mul-add n most 1)

module _ (laws : Laws) (library : List Nodes) (form : IsLibrary library) (means : LibraryMeans library) (p : SourceProgram) (built : IsBuilt library p) (space : AreBytes p.first_space) (input : List ℕ) (bytes : AreBytes input) where
  abbrev places : Routine → ℕ
  places = routine_place library p

  abbrev pub stand : AllStand laws p (code_of library p) places (code_size laws library p built)
  stand = all_stand laws library p built (code_of library p) (code_size laws library p built) (front_stands laws library p built)
      (routines laws library p built form means (code_of library p) (code_size laws library p built) (front_stands laws library p built))

  abbrev code : List ℕ
  code = code_of library p

  abbrev start : OpenConfiguration
  start = begun (open_start (laid_out library p)) input

  -- the machine at MAIN
  abbrev pub main : OpenConfiguration
  main = standing_as (first_state p input) (machine_at (code_of library p) (places (Definition p.main_body)) (Some 2 ∷ []) [] [])

  main_meets : Meets (code_of library p) places p None (places (Definition p.main_body)) (first_state p input) (Some 2 ∷ [])
  main_meets = record {
    stands = stand.bodies p.main_body built.has_main;
    loops = loops_before (code_of library p) places p (body_of p p.main_body) None [] refl;
    frames = refl;
    cells = tt;
    entries = tt;
    world = first_world_is p input built.data_start space bytes;
    starts = refl;
  }

  pub called : (high return_high : ℕ) → BeforeEach (StaysWithin 0 high 0 return_high) p.data_start 1 start × (run open_storage p.data_start 1 start ≡ main)
  called high return_high =
      let v = standing_as (first_state p input) (machine_at (code_of library p) 0 [] [] []) in
      let leads = laws.calls p.data_start (places (Definition p.main_body)) (machine_at (code_of library p) 0 [] [] []) [] (first_state p input).world
      (main_called laws library p built (code_of library p) (code_size laws library p built) (front_stands laws library p built)) in
      let one = runs_one laws p.data_start 0 0 high return_high v main (omega arith) (omega arith) leads in
      (subst (BeforeEach (StaysWithin 0 high 0 return_high) p.data_start 1) (sym (begins laws library p built input)) one.bounds, ap (run open_storage p.data_start 1) (begins laws library p built input) ∙ one.makes)

  -- the run from the start is that from MAIN, after its call
  pub from_main : (n : ℕ) → open_run (laid_out library p) input (1 + n) ≡ run open_storage p.data_start n main
  from_main n =
      laws.runs_join 1 n p.data_start start ∙ ap (run open_storage p.data_start n) (called 0 0).1

  abbrev pub Main : ℕ → Type 0
  Main k = Reaches laws p (code_of library p) places (code_size laws library p built) stand k 8 (ahead (first_state p input).work + 0) (first_state p input) main

  pub main_reaches : (k : ℕ) → IsSafe p input k → leaves (source_run p input k) ≡ false → Main k
  unfolding source_run
  main_reaches k well stays =
      reaches laws p (code_of library p) places (code_size laws library p built) stand k 8 (places (Definition p.main_body)) None (first_state p input) (Some 2 ∷ []) [] [] main_meets
      (strays_not (steps p k (first_state p input)) well.lacks_nothing stays) well.depth_fits

  as_much_from : (k : ℕ) → Main k → ForwardSimulation library p input k
  unfolding source_run price
  as_much_from k r =
      let paid = r.cheap in
      record {
        count = 1 + r.count;
        within_price = omega (arith, paid);
        shows = subst (λ u. Shows (code_of library p) u (steps p k (first_state p input))) (sym (from_main r.count)) r.shows;
        never_missing = λ n le e.
            let later = laws.grows.ends p.data_start n (1 + r.count) start Missing le e in
            never_missing (steps p k (first_state p input)) (sym r.shows.stop_is ∙ ap (λ v. v.stop) (sym (from_main r.count) ∙ later) ∙ e);
        far_enough = λ n le e.
            let far = r.progress e in
            let low = ahead_bound (code_of library p) places p None (places (Definition p.main_body)) (first_state p input).work main_meets.stands in
            let many : n ≤ r.count = enough n r.count p.source_tokens k le (omega (arith, far, low)) in
            omega (arith, many);
        stacks_before = λ high return_high fit.
            laws.bounds_join 0 high 0 return_high 1 r.count p.data_start start (called high return_high).0
            (subst (BeforeEach (StaysWithin 0 high 0 return_high) p.data_start r.count) (sym (called high return_high).1) (r.before high return_high fit));
        stacks_at_end = λ high return_high end fit e. subst (StaysWithin 0 high 0 return_high) (sym (from_main r.count)) (r.at_end high return_high end fit e);
      }

  pub as_much : (k : ℕ) → IsSafe p input k → leaves (source_run p input k) ≡ false → ForwardSimulation library p input k
  as_much k well stays = as_much_from k (main_reaches k well stays)

  -- ---- the other direction

  same_end : (n c : ℕ) (stop stop' : Stop) → (open_run (laid_out library p) input n).stop ≡ Some stop → (open_run (laid_out library p) input c).stop ≡ Some stop' → Some stop' ≡ Some stop
  same_end n c stop stop' e e' =
      let one = laws.grows.ends p.data_start n (n + c) start stop (omega arith) e in
      let two = laws.grows.ends p.data_start c (n + c) start stop' (omega arith) e' in
      sym e' ∙ ap (λ v. v.stop) (sym two ∙ one) ∙ e

  no_more_by : (n c : ℕ) (o : Outcome) → strays o ≡ false → Shows (code_of library p) (open_run (laid_out library p) input c) o → (end_of o ≡ None → n ≤ c) →
      IsPrefixOf (open_run (laid_out library p) input n).printed (world_of o).printed × ((stop : Stop) → (open_run (laid_out library p) input n).stop ≡ Some stop → (end : End) × (end_of o ≡ Some end) × (machine_end end ≡ Some stop))
  no_more_by n c (Goes s) sound shows far =
      let front = laws.grows.prints p.data_start n c start (far refl) in (
        (front.0, front.1 ∙ shows.printed),
        λ stop e. let later = laws.grows.ends p.data_start n c start stop (far refl) e in absurd (let f : None ≡ Some stop = sym shows.stop_is ∙ ap (λ v. v.stop) later ∙ e in cc),
      )
  no_more_by n c (Ends end world) sound shows far =
      let stop = stop_at end world sound in
      let stopped : (open_run (laid_out library p) input c).stop ≡ Some stop.0 = shows.stop_is ∙ stop.1 in
      let front = laws.grows.prints p.data_start n (n + c) start (omega arith) in
      let later = laws.grows.ends p.data_start c (n + c) start stop.0 (omega arith) stopped in (
        (front.0, front.1 ∙ ap (λ v. v.printed) later ∙ shows.printed),
        λ stop' e. (end, refl, stop.1 ∙ same_end n c stop' stop.0 e stopped),
      )

  pub no_more : (n : ℕ) → IsSafe p input (word_steps p n) → leaves (source_run p input (word_steps p n)) ≡ false → BackwardSimulation library p input n
  no_more n well stays =
      let m = as_much (word_steps p n) well stays in
      let parts = no_more_by n m.count (source_run p input (word_steps p n)) (strays_not (source_run p input (word_steps p n)) well.lacks_nothing stays) m.shows
      (λ e. let lt : n < m.count = m.far_enough n (omega arith) e in omega (arith, lt)) in
      record { prints = parts.0; ends = parts.1 }

pub images_agree : Laws → ImagesAgree
images_agree laws = record {
  forward = λ library p input k form means built space bytes well stays. as_much laws library form means p built space input bytes k well stays;
  backward = λ library p input n form means built space bytes well stays. no_more laws library form means p built space input bytes n well stays;
}
