-- That GO leads the chip out behind calls that have come back.
use Rattle.std.proofs.Common.{◌≡◌, ◌⊎◌, inl, inr, ⊎_elim, ℕ, zero, suc, ◌+◌, Bool, true, false, if◌then◌else◌, List, [], ◌∷◌, ◌++◌, length}
use Rattle.std.proofs.Common.{refl, ap, sym, subst, ◌∙◌, arith}
use Rattle.std.proofs.lemmas.Grind.{common_steps}
use Rattle.j1_simulator.specs.RoundMachine.{round_storage}
use Rattle.j1_simulator.specs.Step.{Storage}
use Rattle.j1_simulator.specs.Run.{Configuration, IsPrefixOf}
use Rattle.forth_program.specs.State.{State, Left, Goes, Ends}
use Rattle.forth_program.specs.Step.{step}
use Rattle.forth_program.specs.Run.{steps, first_state, world_of}
use Rattle.forth_program.specs.RunLaws.{SpentAdds, WorldsGrow}
use Rattle.forth_program.specs.Price.{step_price, spent}
use Rattle.forth_program.specs.Returns.{Return, state_back, steps_back, spent_back, run_back, price_back}
use Rattle.code_layout.specs.Agreement.{code_of, word_steps}
use Rattle.code_layout.specs.Returning.{goes_back, is_leaving, run_returning, last_of_go}
use Rattle.code_layout.specs.ReturningChip.{RoundConfiguration, RoundReturn, round_back, round_backs, round_returning_run}
use Rattle.code_layout.specs.ReturningChip.{AgreesReturningOnChip}
use Rattle.session_runs.specs.Splicing.{instruction, Which, LedOutFirst, IsLedOutTo, returns_of}
use Rattle.session_runs.specs.InWords.{KernelSession, input_of, chip_start}
use Rattle.session_runs.specs.Along.{StandsAlong}
use Rattle.session_runs.specs.WayOut.{IsLedOutSomewhere, TextsAreLedOut}
use Rattle.session_runs.proofs.Parts.{quiet, returns_on}
use Rattle.session_runs.proofs.Along.{none_more, sum_assoc, spent_from}
use Rattle.session_runs.proofs.CallsAlong.{through, last_step, led_behind_all}
use Rattle.session_runs.proofs.InputEndsAlong.{run_prints}

-- either GO has led the run out behind all returns, or further returns make no difference yet
module _ {V S R : Type 0} (storage : Storage V S) (comes_back : R → Configuration V S → Configuration V S) (last data_start : ℕ)
    (more : List R) where
  abbrev Out : List R → ℕ → Configuration V S → Type 0
  Out returns n w = (u : Configuration V S) × IsLedOutTo storage comes_back last data_start returns n w u

  first_or : (returns : List R) (v : Configuration V S) (Led : List R → Configuration V S → Configuration V S → Type 0)
      (rest : List R → Configuration V S → Configuration V S) →
      ((others : List R) (x : Configuration V S) → ((u : Configuration V S) × Led others x u) ⊎ (rest (others ++ more) x ≡ rest others x)) →
      ((u : Configuration V S) × LedOutFirst storage comes_back last data_start returns v u (λ others x. Led others x u)) ⊎
      (goes_back comes_back (returns ++ more) v rest ≡ goes_back comes_back returns v rest)
  first_or [] v Led rest each = inl (v, refl)
  first_or (r ∷ returns) v Led rest each = each returns (comes_back r v)

  which_or : (b : Bool) (returns : List R) (v : Configuration V S) (Led : List R → Configuration V S → Configuration V S → Type 0)
      (rest : List R → Configuration V S → Configuration V S) →
      ((others : List R) (x : Configuration V S) → ((u : Configuration V S) × Led others x u) ⊎ (rest (others ++ more) x ≡ rest others x)) →
      ((u : Configuration V S) × Which storage comes_back last data_start b
      (LedOutFirst storage comes_back last data_start returns v u (λ others x. Led others x u)) (Led returns v u))
      ⊎ ((if b then goes_back comes_back (returns ++ more) v rest else rest (returns ++ more) v)
      ≡ (if b then goes_back comes_back returns v rest else rest returns v))
  which_or true returns v Led rest each = first_or returns v Led rest each
  which_or false returns v Led rest each = each returns v

  pub out_or_same : (n : ℕ) (returns : List R) (w : Configuration V S) →
      Out returns n w ⊎ (run_returning storage comes_back last data_start (returns ++ more) n w
      ≡ run_returning storage comes_back last data_start returns n w)
  unfolding IsLedOutTo run_returning
  out_or_same zero returns w = inr refl
  out_or_same (suc n) returns w =
      which_or (is_leaving last w) returns (instruction storage comes_back last data_start w)
      (λ others x u. IsLedOutTo storage comes_back last data_start others n x u)
      (λ others x. run_returning storage comes_back last data_start others n x) (λ others x. out_or_same n others x)

returns_is : (w : KernelSession) (rounds : List RoundReturn) (n : ℕ) →
    run_returning round_storage (round_back (code_of w.library w.p)) (last_of_go w.library w.p) w.p.data_start rounds n (chip_start w)
    ≡ round_returning_run w.library w.p rounds (input_of w) n
unfolding round_returning_run
returns_is w rounds n = refl

backs_more : (rounds : List RoundReturn) (x : RoundReturn) → round_backs (rounds ++ x ∷ []) ≡ round_backs rounds ++ x.back ∷ []
backs_more [] x = refl
backs_more (y ∷ rounds) x = ap (λ ys. y.back ∷ ys) (backs_more rounds x)

-- what goes beyond all prints is no beginning of them
no_byte_more : (xs ys : List ℕ) (byte : ℕ) → IsPrefixOf (xs ++ byte ∷ []) ys → IsPrefixOf ys xs → ⊥
no_byte_more xs ys byte h k =
    let a : length ((xs ++ byte ∷ []) ++ h.0) ≡ length ys = ap length h.1 in
    let b : length (ys ++ k.0) ≡ length xs = ap length k.1 in
    let c : length ((xs ++ byte ∷ []) ++ h.0) ≡ length xs + 1 + length h.0 = grind (arith, common_steps) in
    let d : length (ys ++ k.0) ≡ length ys + length k.0 = grind (arith, common_steps) in
    omega (arith, a, b, c, d)

module _ (adds : SpentAdds) (grow : WorldsGrow) (w : KernelSession) (k words address byte : ℕ) (t going : State) (extra : RoundReturn)
    (a : StandsAlong w k t) (goes : steps w.p words t ≡ Goes going) (leaves : step w.p going ≡ Ends (Left address) going.world) where
  abbrev backs : List Return
  backs = round_backs (returns_of w.calls)

  abbrev first : State
  first = first_state w.p (input_of w)

  abbrev cost : ℕ
  cost = a.price + (spent w.p 0 words t + step_price going)

  ends_here : steps_back w.p backs (a.words + (words + 1)) first ≡ Ends (Left address) going.world
  ends_here = ap (λ bs. steps_back w.p bs (a.words + (words + 1)) first) (sym (none_more backs)) ∙ a.stands [] (words + 1)
      ∙ (quiet w.p [] 0 words 1 t going goes).0 ∙ last_step w.p going address going.world leaves

  parts : (c : ℕ) → c + 1 ≡ c + suc 0
  parts c = omega arith

  goes_more : run_back w.p (round_backs (returns_of w.calls ++ extra ∷ [])) (input_of w) (a.words + (words + suc 0))
      ≡ Goes (state_back extra.back going)
  unfolding run_back steps_back
  goes_more =
      ap (λ bs. steps_back w.p bs (a.words + (words + suc 0)) first) (backs_more (returns_of w.calls) extra)
      ∙ a.stands (extra.back ∷ []) (words + suc 0) ∙ (quiet w.p (extra.back ∷ []) 0 words (suc 0) t going goes).0
      ∙ (returns_on w.p extra.back [] 0 0 address going going.world leaves).0

  price_more : price_back w.p (round_backs (returns_of w.calls ++ extra ∷ [])) (input_of w) (a.words + (words + suc 0)) ≡ cost
  unfolding price_back spent_back
  price_more =
      ap (λ bs. spent_back w.p bs 8 (a.words + (words + suc 0)) first) (backs_more (returns_of w.calls) extra)
      ∙ a.costs (extra.back ∷ []) (words + suc 0) ∙ (quiet w.p (extra.back ∷ []) a.price words (suc 0) t going goes).1
      ∙ (returns_on w.p extra.back [] (spent w.p a.price words t) 0 address going going.world leaves).1
      ∙ ap (λ n. n + step_price going) (spent_from adds w.p a.price words t) ∙ sum_assoc a.price (spent w.p 0 words t) (step_price going)

  text_bound : (n : ℕ) → IsPrefixOf (world_of (run_back w.p backs (input_of w) n)).printed going.world.printed
  unfolding run_back
  text_bound n = run_prints w.p backs (a.words + (words + 1)) first (Left address) going.world ends_here grow n

  pub led : extra.back.printed ≡ byte ∷ [] → AgreesReturningOnChip w.library w.p (returns_of w.calls) (input_of w) →
      AgreesReturningOnChip w.library w.p (returns_of w.calls ++ extra ∷ []) (input_of w) → IsLedOutSomewhere w cost
  led one agree agree_more =
      ⊎_elim out same (out_or_same round_storage (round_back (code_of w.library w.p)) (last_of_go w.library w.p) w.p.data_start
      (extra ∷ []) cost (returns_of w.calls) (chip_start w))
    where
      out : (u : RoundConfiguration) × IsLedOutTo round_storage (round_back (code_of w.library w.p))
          (last_of_go w.library w.p) w.p.data_start (returns_of w.calls) cost (chip_start w) u → IsLedOutSomewhere w cost
      out o = record { earlier = cost; led_to = o.0; leads = led_behind_all w cost o.0 o.1; within_price = omega arith }

      same : run_returning round_storage (round_back (code_of w.library w.p)) (last_of_go w.library w.p) w.p.data_start
          (returns_of w.calls ++ extra ∷ []) cost (chip_start w)
          ≡ run_returning round_storage (round_back (code_of w.library w.p)) (last_of_go w.library w.p) w.p.data_start
          (returns_of w.calls) cost (chip_start w) → IsLedOutSomewhere w cost
      same e =
          let runs : round_returning_run w.library w.p (returns_of w.calls ++ extra ∷ []) (input_of w) cost
          ≡ round_returning_run w.library w.p (returns_of w.calls) (input_of w) cost
          = sym (returns_is w (returns_of w.calls ++ extra ∷ []) cost) ∙ e ∙ returns_is w (returns_of w.calls) cost in
          let low : IsPrefixOf (going.world.printed ++ byte ∷ [])
          (round_returning_run w.library w.p (returns_of w.calls ++ extra ∷ []) (input_of w) cost).printed
          = subst (λ xs. IsPrefixOf (going.world.printed ++ xs)
          (round_returning_run w.library w.p (returns_of w.calls ++ extra ∷ []) (input_of w) cost).printed) one
          (subst (λ o. IsPrefixOf (world_of o).printed (round_returning_run w.library w.p (returns_of w.calls ++ extra ∷ [])
          (input_of w) cost).printed) goes_more
          (subst (λ n. IsPrefixOf (world_of (run_back w.p (round_backs (returns_of w.calls ++ extra ∷ [])) (input_of w)
          (a.words + (words + suc 0)))).printed (round_returning_run w.library w.p (returns_of w.calls ++ extra ∷ [])
          (input_of w) n).printed) price_more
          (agree_more.prints_no_less (a.words + (words + suc 0))))) in
          let high : IsPrefixOf (round_returning_run w.library w.p (returns_of w.calls) (input_of w) cost).printed going.world.printed
          = through (round_returning_run w.library w.p (returns_of w.calls) (input_of w) cost).printed
          (world_of (run_back w.p backs (input_of w) (word_steps w.p cost))).printed going.world.printed
          (agree.prints_no_more cost) (text_bound (word_steps w.p cost)) in
          absurd (no_byte_more going.world.printed (round_returning_run w.library w.p (returns_of w.calls) (input_of w) cost).printed byte
          (subst (λ v. IsPrefixOf (going.world.printed ++ byte ∷ []) v.printed) runs low) high)

pub texts_are_led_out : SpentAdds → WorldsGrow → TextsAreLedOut
texts_are_led_out adds grow w k words address byte t going extra a goes leaves one agree agree_more =
    led adds grow w k words address byte t going extra a goes leaves one agree agree_more
