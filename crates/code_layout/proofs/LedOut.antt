-- Where GO leads the machine, from the start of a run.
use Rattle.std.proofs.Common.{◌≡◌, ℕ, zero, suc, ◌+◌, ◌/◌, ◌%◌, ⊎_elim, false, List, ◌∷◌, length, refl, sym, ap, ◌∙◌, subst, arith}
use Rattle.j1_table.specs.Instruction.{decoded}
use Rattle.j1_simulator.specs.OpenMachine.{open_storage}
use Rattle.j1_simulator.specs.Run.{run, begun, open_start}
use Rattle.word_table.specs.declared.word.Word.TheVariants.{Go}
use Rattle.forth_program.specs.Tree.{Nodes}
use Rattle.forth_program.specs.State.{Work, State, Outcome, Goes, Ends}
use Rattle.forth_program.specs.Tail.{ends_body}
use Rattle.forth_program.specs.Program.{SourceProgram}
use Rattle.forth_program.specs.Form.{has_no_go}
use Rattle.forth_program.specs.Step.{IsWord, first_work, step}
use Rattle.forth_program.specs.Run.{source_run, steps, first_state, end_of, leaves}
use Rattle.forth_program.specs.Price.{step_price, spent_after, spent, price}
use Rattle.forth_program.specs.Heights.{peak_of, back_of, IsSafe}
use Rattle.word_laws.specs.Rings.{OpenConfiguration, BeforeEach}
use Rattle.word_laws.specs.Bounds.{StaysWithin}
use Rattle.word_laws.specs.Standing.{return_places, standing_as, machine_at}
use Rattle.code_layout.specs.Layout.{leaving_place, routine_place, laid_out}
use Rattle.code_layout.specs.Built.{IsBuilt}
use Rattle.code_layout.specs.Library.{IsLibrary, LibraryMeans}
use Rattle.code_layout.specs.Agreement.{AreBytes, code_of}
use Rattle.code_layout.specs.Leaving.{IsLedOut, ImagesAreLedOut}
use Rattle.code_layout.proofs.Machine.{Laws, wider}
use Rattle.code_layout.proofs.Runs.{steps_on, steps_end, spent_on, StandsAs, StandsWhere, height_is}
use Rattle.code_layout.proofs.Image.{code_size, leaves as go_code}
use Rattle.code_layout.proofs.Simulation.{Main, main_reaches, called, from_main, main, stand}
use Rattle.code_layout.proofs.ReturningParts.{token_no_go}
use Rattle.code_layout.proofs.GoStep.{GoCode, Leads, led_places, go_leads}

spent_once : (p : SourceProgram) (total : ℕ) (o : Outcome) → spent_after total o (spent p total 0) ≡ total
unfolding spent
spent_once p total (Goes s) = refl
spent_once p total (Ends end world) = refl

-- the price of one step more
pub spent_more : (p : SourceProgram) (total k : ℕ) (s t : State) → steps p k s ≡ Goes t → spent p total (suc k) s ≡ spent p total k s + step_price t
unfolding spent steps
spent_more p total zero s t e = let same : s ≡ t = cc in spent_once p (total + step_price s) (step p s) ∙ ap (λ x. total + step_price x) same
spent_more p total (suc k) s t e = by (step p s) refl (λ m later. spent_more p (total + step_price s) k m t later)
  where
    by : (o : Outcome) → step p s ≡ o → ((m : State) → steps p k m ≡ Goes t → spent p (total + step_price s) (suc k) m ≡ spent p (total + step_price s) k m + step_price t) →
        spent p total (suc (suc k)) s ≡ spent p total (suc k) s + step_price t
    by (Goes m) q next = spent_on p s (suc k) total m q ∙ next m (sym (steps_on p s k total m q) ∙ e) ∙ ap (λ n. n + step_price t) (sym (spent_on p s k total m q))
    by (Ends end world) q next = absurd (let f : Ends end world ≡ Goes t = sym (steps_end p s k total end world q) ∙ e in cc)

module _ (laws : Laws) (library : List Nodes) (form : IsLibrary library) (means : LibraryMeans library) (p : SourceProgram) (built : IsBuilt library p) (space : AreBytes p.first_space) (input : List ℕ) (bytes : AreBytes input)
    (k address : ℕ) (cells : List ℕ) (s : State) (after : List Work) (well : IsSafe p input k) (comes : source_run p input k ≡ Goes s) (first : first_work s.work ≡ IsWord Go after) (has : s.cells ≡ address ∷ cells) where
  abbrev start : OpenConfiguration
  start = begun (open_start (laid_out library p)) input

  go_stands : has_no_go p ≡ false → GoCode (code_of library p) (leaving_place library p)
  go_stands used =
      let h = go_code laws library p built used in
      ((h.0, h.1, refl), (ap decoded h.2.0, h.2.1))

  module _ (r : Main laws library form means p built space input bytes k) where
    abbrev Stood : Type 0
    Stood = StandsAs laws p (code_of library p) (routine_place library p) (code_size laws library p built) (stand laws library form means p built space input bytes)
        (run open_storage p.data_start r.count (main laws library form means p built space input bytes)) s

    stood : Stood
    unfolding source_run
    stood =
        ⊎_elim (λ stands. stands) (λ hand. absurd (token_no_go hand.0 hand.1 after hand.3 (sym (ap first_work hand.2) ∙ first)))
        (subst
        (StandsWhere laws p (code_of library p) (routine_place library p) (code_size laws library p built) (stand laws library form means p built space input bytes)
        (run open_storage p.data_start r.count (main laws library form means p built space input bytes))) comes r.stands)

    module _ (at : Stood) where
      abbrev high_here : ℕ
      high_here = length s.cells + 24

      abbrev return_here : ℕ
      return_here = length (return_places s.entries at.base) + 18

      abbrev here : OpenConfiguration
      here = standing_as s (machine_at (code_of library p) at.to at.base at.data_above at.return_above)

      abbrev Led : Type 0
      Led = Leads laws p (code_of library p) (routine_place library p) (code_size laws library p built) here high_here return_here 3 address cells (led_places (ends_body after) at.to (return_places s.entries at.base)) s.world

      led : Led
      led = go_leads laws p (code_of library p) (routine_place library p) (code_size laws library p built) high_here return_here at.out at.to
          address s cells at.base at.data_above at.return_above after at.meets first has go_stands (omega arith) (omega arith)

      led_out : Led → IsLedOut library p input k address cells s.world
      unfolding source_run price
      led_out l =
          let returns = led_places (ends_body after) at.to (return_places s.entries at.base) in
          let m = main laws library form means p built space input bytes in
          let paid = r.paid (ap end_of comes) in
          let more = spent_more p 8 k (first_state p input) s comes in
          record {
            count = 1 + (r.count + 3);
            within_price = omega (arith, paid, more);
            place = machine_at (code_of library p) (address / 2 % 0x2000) returns l.above l.above';
            stands =
                from_main laws library form means p built space input bytes (r.count + 3) ∙ laws.runs_join r.count 3 p.data_start m
                ∙ ap (run open_storage p.data_start 3) at.is ∙ l.runs.makes;
            code_is = refl;
            pc_is = refl;
            stacks_before = λ high return_high fit.
                let own = fit k s (omega arith) comes in
                let peak = own.0 in
                let back = own.1 in
                let high_is = ap (peak_of s.callers) first in
                let back_is = ap back_of first in
                let height = height_is laws p (code_of library p) (routine_place library p) (code_size laws library p built) (stand laws library form means p built space input bytes) at.out at.to s at.base at.meets in
                let begins = called laws library form means p built space input bytes high return_high in
                laws.bounds_join 0 high 0 return_high 1 (r.count + 3) p.data_start start begins.0
                (subst (BeforeEach (StaysWithin 0 high 0 return_high) p.data_start (r.count + 3)) (sym begins.1)
                (laws.bounds_join 0 high 0 return_high r.count 3 p.data_start m (r.before high return_high (λ j t lt e. fit j t (omega arith) e))
                (subst (BeforeEach (StaysWithin 0 high 0 return_high) p.data_start 3) (sym at.is)
                (wider laws p.data_start 0 high_here 0 return_here high return_high 3 here (omega (arith, peak, high_is)) (omega (arith, back, back_is, height)) l.runs.bounds))));
          }

  pub is_led_out : IsLedOut library p input k address cells s.world
  is_led_out = let r = main_reaches laws library form means p built space input bytes k well (ap leaves comes) in let at = stood r in led_out r at (led r at)

pub images_are_led_out : Laws → ImagesAreLedOut
images_are_led_out laws library p input k address cells s after form means built space bytes well comes first has = is_led_out laws library form means p built space input bytes k address cells s after well comes first has
