-- The bytes that wait to be written, over a run.
use Rattle.std.proofs.Common.{◌≡◌, ◌⊎◌, ℕ, suc, ◌+◌, ◌<◌, ◌≤◌, List, [], ◌++◌, length, Option, Some, None, refl, sym, ap, ◌∙◌, subst, inl, inr, ⊎_elim, arith, append_assoc}
use Rattle.std.specs.Prelude.{Bool, option_map}
use Rattle.std.proofs.lemmas.List.{append-nil, length-append}
use Rattle.j1_simulator.specs.declared.ends.End.{End}
use Rattle.j1_simulator.specs.declared.ends.End.TheVariants.{InputEnded}
use Rattle.j1_simulator.specs.Step.{Stop, By, step}
use Rattle.j1_simulator.specs.RoundMachine.{RingCells, round_storage}
use Rattle.j1_simulator.specs.MachineState.{MachineState, IsTaking, WantsAByte}
use Rattle.j1_simulator.specs.Run.{Configuration, IsPrefixOf, advance}
use Rattle.j1_simulator.specs.Drive.{HoldsPrints, HoldsAll, StandsAt, TakesNext, driven, going_on, LacksLast}
use Rattle.j1_simulator.specs.Turn.{Adds, Fills}
use Rattle.j1_simulator.proofs.FlushedOutput.{holds_still}
use Rattle.j1_simulator.proofs.Runs.{run_suc}
use Rattle.j1_simulator.proofs.RunGrowth.{longer}

-- what waits after k instructions on this input was printed since a moment since which no byte was taken
pub record Unwritten (first : MachineState) (k : ℕ) (input buffer : List ℕ) : Type 0 where
  pub since : ℕ
  pub earlier : since ≤ k
  pub untaken : (driven first since input).input ≡ (driven first k input).input
  pub more : (driven first since input).printed ++ buffer ≡ (driven first k input).printed

pub unwritten_first : (first : MachineState) (input : List ℕ) → Unwritten first 0 input []
unwritten_first first input = record { since = 0; earlier = omega arith; untaken = refl; more = refl }

pub unwritten_on : (first : MachineState) (k : ℕ) (input buffer waiting : List ℕ) → Unwritten first k input buffer →
    (waiting ≡ []) ⊎ Adds (driven first k input) (advance first.data_start (driven first k input)) buffer waiting → Unwritten first (suc k) input waiting
unwritten_on first k input buffer waiting u h =
    let next : driven first (suc k) input ≡ advance first.data_start (driven first k input) = run_suc k first.data_start (going_on first input) in
    ⊎_elim
    (λ e. record { since = suc k; earlier = omega arith; untaken = refl; more = ap (λ b. (driven first (suc k) input).printed ++ b) e ∙ append-nil (driven first (suc k) input).printed })
    (λ a. record {
      since = u.since;
      earlier = let le = u.earlier in omega (arith, le);
      untaken = u.untaken ∙ sym a.untaken ∙ sym (ap (λ c. c.input) next);
      more = ap (λ w. (driven first u.since input).printed ++ w) a.waits ∙ sym (append_assoc (driven first u.since input).printed buffer a.printed) ∙ ap (λ x. x ++ a.printed) u.more ∙ sym a.prints ∙ sym (ap (λ c. c.printed) next);
    }) h

prefix_length : (xs ys : List ℕ) → IsPrefixOf xs ys → length xs ≤ length ys
prefix_length xs ys p = let e : length ys ≡ length xs + length p.0 = ap length (sym p.1) ∙ length-append xs p.0 in omega (arith, e)

grown : (first : MachineState) (input : List ℕ) (j k : ℕ) → j ≤ k → length (driven first j input).printed ≤ length (driven first k input).printed
grown first input j k le = prefix_length _ _ (longer round_storage first.data_start j k (going_on first input) le)

waiting_length : (first : MachineState) (k : ℕ) (input buffer : List ℕ) (u : Unwritten first k input buffer) → length (driven first k input).printed ≡ length (driven first u.since input).printed + length buffer
waiting_length first k input buffer u = ap length (sym u.more) ∙ length-append (driven first u.since input).printed buffer

-- why bytes were to be written, as the machine and as its run shows it
due_there : (limit k data_start : ℕ) (configuration : Configuration ℕ RingCells) (fits : Bool) (new : MachineState) →
    StandsAt configuration fits new data_start → WantsAByte new ⊎ ((end : End) × (new.ended ≡ Some end)) ⊎ (k ≡ limit) →
    TakesNext data_start configuration ⊎ ((stop : Stop) × (configuration.stop ≡ Some stop)) ⊎ (k ≡ limit)
due_there limit k data_start configuration fits new s h =
    ⊎_elim
    (λ w. inl (
      sym s.ended ∙ ap (option_map By) w.running,
      subst (λ d. IsTaking (step round_storage d configuration.core)) s.start_is (subst (λ c. IsTaking (step round_storage new.data_start c)) s.core w.taking),
    ))
    (⊎_elim (λ e. inr (inl (By e.0, sym s.ended ∙ ap (option_map By) e.1))) (λ e. inr (inr e))) h

input_ended : (end : Option End) → option_map By end ≡ Some (By InputEnded) → end ≡ Some InputEnded
input_ended None e = cc
input_ended (Some end) e = cc

ended_there : (configuration : Configuration ℕ RingCells) (fits : Bool) (new : MachineState) (data_start : ℕ) → StandsAt configuration fits new data_start → configuration.stop ≡ Some (By InputEnded) → new.ended ≡ Some InputEnded
ended_there configuration fits new data_start s e = input_ended new.ended (s.ended ∙ e)

-- a failed write before a question, or at the end
pub lacks_flush : (limit k : ℕ) (fits : Bool) (first new : MachineState) (input : List ℕ) (before now later : Option (List ℕ)) (buffer : List ℕ) →
    length buffer < 512 → 0 < length buffer → StandsAt (driven first k input) fits new first.data_start → WantsAByte new ⊎ ((end : End) × (new.ended ≡ Some end)) ⊎ (k ≡ limit) →
    (new.ended ≡ Some InputEnded → buffer ≡ []) → HoldsPrints before now buffer (driven first k input).printed → Unwritten first k input buffer →
    HoldsAll now later [] → LacksLast limit k (λ k. driven first k input) first.data_start before later
lacks_flush limit k fits first new input before now later buffer room some stands cause none h u grows =
    let size = waiting_length first k input buffer u in
    record {
      since = u.since;
      earlier = u.earlier;
      untaken = u.untaken;
      kept = holds_still before now later (driven first u.since input).printed buffer (driven first k input).printed h u.more grows;
      waited = omega (arith, size);
      short = λ j less. let le = grown first input j k (omega arith) in omega (arith, size, le);
      due = inr (omega (arith, size), due_there limit k first.data_start (driven first k input) fits new stands cause);
      ended = λ e.
          holds_still before now later (driven first k input).printed buffer (driven first k input).printed h
          (ap (λ b. (driven first k input).printed ++ b) (none (ended_there _ fits new first.data_start stands e))
          ∙ append-nil (driven first k input).printed) grows;
    }

-- a failed write of 512 bytes
pub lacks_full : (limit k : ℕ) (fits : Bool) (first new : MachineState) (input : List ℕ) (before now later : Option (List ℕ)) (buffer : List ℕ) →
    length buffer < 512 → StandsAt (driven first (suc k) input) fits new first.data_start →
    Fills new (driven first k input) (advance first.data_start (driven first k input)) buffer → HoldsPrints before now buffer (driven first k input).printed →
    Unwritten first k input buffer → HoldsAll now later [] → LacksLast limit (suc k) (λ k. driven first k input) first.data_start before later
lacks_full limit k fits first new input before now later buffer room stands f h u grows =
    let next : driven first (suc k) input ≡ advance first.data_start (driven first k input) = run_suc k first.data_start (going_on first input) in
    let size = waiting_length first k input buffer u in
    let whole : length (driven first (suc k) input).printed ≡ length (driven first u.since input).printed + 512 =
    ap (λ c. length c.printed) next ∙ ap length f.adds.prints ∙ ap (λ x. length (x ++ f.adds.printed)) (sym u.more)
    ∙ ap length (append_assoc (driven first u.since input).printed buffer f.adds.printed)
    ∙ ap (λ w. length ((driven first u.since input).printed ++ w)) (sym f.adds.waits) ∙ length-append (driven first u.since input).printed f.waiting
    ∙ ap (λ n. length (driven first u.since input).printed + n) f.full in
    record {
      since = u.since;
      earlier = let le = u.earlier in omega (arith, le);
      untaken = u.untaken ∙ sym f.adds.untaken ∙ sym (ap (λ c. c.input) next);
      kept = holds_still before now later (driven first u.since input).printed buffer (driven first k input).printed h u.more grows;
      waited = omega (arith, whole);
      short = λ j less. let le = grown first input j k (omega arith) in omega (arith, size, le);
      due = inl whole;
      ended = λ e. absurd (f.goes_on (ended_there _ fits new first.data_start stands e));
    }
