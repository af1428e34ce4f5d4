-- The machine whose GO comes back, on code that has another cell in place of the return that ends the code of GO: it does the same.
use Rattle.std.proofs.Common.{◌≡◌, ◌≢◌, ℕ, zero, suc, ◌+◌, ◌/◌, ◌<◌, ◌≤◌, ◌==◌, ◌&&◌, Bool, true, false, if◌then◌else◌, List}
use Rattle.std.proofs.Common.{[], ◌∷◌, ◌++◌, length, slice_index, slice_set, Option, Some, None, refl, sym, ap, ◌∙◌, subst, length-append, arith}
use Rattle.std.proofs.lemmas.Bool.Decides.{nat_tests}
use Rattle.std.proofs.lemmas.List.{get_or-set_same, get_or-set_other}
use Rattle.j1_table.specs.Instruction.{decoded}
use Rattle.j1_simulator.specs.Effect.{effect}
use Rattle.j1_simulator.specs.Step.{Stop, effect_at}
use Rattle.j1_simulator.specs.OpenMachine.{open_storage}
use Rattle.j1_simulator.specs.Run.{after_effect, advanced, run}
use Rattle.word_laws.specs.Rings.{OpenConfiguration, BeforeEach, WritesAbove, writes_return}
use Rattle.word_laws.specs.Bounds.{StaysWithin}
use Rattle.code_layout.specs.Returning.{MachineReturn, machine_back, goes_back, is_running, is_leaving, run_returning, LeftWithin, HoldsBack, WhichHolds, StaysReturning}
use Rattle.code_layout.proofs.PatchedMachine.{set_cell, after_set, after_size, Keeps, kept}

-- the instruction that ends the code of GO, wherever it stands
abbrev pub returned : ℕ → ℕ → OpenConfiguration → OpenConfiguration
returned last data_start w = after_effect w.stop open_storage data_start (effect last (decoded 0x700C)) w

unfoldable pub run_patched : List ℕ → ℕ → ℕ → List MachineReturn → ℕ → OpenConfiguration → OpenConfiguration
run_patched code last data_start returns zero w = w
run_patched code last data_start returns (suc n) w =
    if is_leaving last w then goes_back (machine_back code) returns (returned last data_start w) (λ others v. run_patched code last data_start others n v)
    else run_patched code last data_start returns n (advanced w.stop open_storage data_start w)

is_there : (a b : ℕ) → (a == b) ≡ true → a ≡ b
is_there a b e = grind (arith, nat_tests)

is_elsewhere : (a b : ℕ) → (a == b) ≡ false → a ≢ b
is_elsewhere a b e same = absurd (let f : (a == b) ≡ true = grind (arith, nat_tests) in let g : true ≡ false = sym f ∙ e in cc)

both_hold : (a b : Bool) → (a && b) ≡ true → (a ≡ true) × (b ≡ true)
both_hold true b e = (refl, e)
both_hold false b e = absurd (let f : false ≡ true = e in cc)

runs_on : (stop : Option Stop) → is_running stop ≡ true → stop ≡ None
runs_on None e = refl
runs_on (Some stop) e = absurd (let f : false ≡ true = e in cc)

module _ (code code' : List ℕ) (last data_start : ℕ) (below : last < data_start / 2) (codes : (space : List ℕ) → slice_set (code' ++ space) last 0x700C ≡ code ++ space) (long : last < length code') where
  abbrev pub mended : OpenConfiguration → OpenConfiguration
  mended w = set_cell last 0x700C data_start below w

  -- where another cell is executed
  same_by : (stop : Option Stop) (w : OpenConfiguration) → w.stop ≡ stop → (is_running stop && (w.core.pc == last)) ≡ false →
      after_effect stop open_storage data_start (effect_at (mended w).core) (mended w) ≡ mended (after_effect stop open_storage data_start (effect_at w.core) w)
  same_by (Some stop) w e f = refl
  same_by None w e f =
      ap (λ cell. after_effect None open_storage data_start (effect w.core.pc (decoded cell)) (mended w)) (get_or-set_other w.core.memory last w.core.pc 0x700C 0 (is_elsewhere w.core.pc last f))
      ∙ after_set last 0x700C data_start below None (effect_at w.core) w

  pub same_step : (w : OpenConfiguration) → is_leaving last w ≡ false → advanced (mended w).stop open_storage data_start (mended w) ≡ mended (advanced w.stop open_storage data_start w)
  same_step w f = same_by w.stop w refl f

  same_return : (w : OpenConfiguration) → is_leaving last w ≡ true → last < length w.core.memory → advanced (mended w).stop open_storage data_start (mended w) ≡ mended (returned last data_start w)
  same_return w f inside =
      let at = is_there w.core.pc last (both_hold (is_running w.stop) (w.core.pc == last) f).1 in
      ap (λ pc. after_effect w.stop open_storage data_start (effect pc (decoded (slice_index (slice_set w.core.memory last 0x700C) pc))) (mended w)) at
      ∙ ap (λ cell. after_effect w.stop open_storage data_start (effect last (decoded cell)) (mended w)) (get_or-set_same w.core.memory last 0x700C 0 inside)
      ∙ after_set last 0x700C data_start below w.stop (effect last (decoded 0x700C)) w

  same_back : (r : MachineReturn) (w : OpenConfiguration) → machine_back code r (mended w) ≡ mended (machine_back code' r w)
  same_back r w = ap (λ m. record (machine_back code r w) { core = record (machine_back code r w).core { memory = m } }) (sym (codes r.back.space))

  after_back : (r : MachineReturn) (w : OpenConfiguration) → last < length (machine_back code' r w).core.memory
  after_back r w = omega (arith, long, length-append code' r.back.space)

  pub same_runs : (returns : List MachineReturn) (n : ℕ) (w : OpenConfiguration) → last < length w.core.memory →
      run_returning open_storage (machine_back code) last data_start returns n (mended w) ≡ mended (run_patched code' last data_start returns n w)
  unfolding run_returning run_patched
  same_runs returns zero w inside = refl
  same_runs returns (suc n) w inside =
      by returns (is_leaving last w) refl (λ others v deep. same_runs others n v deep)
    where
      by : (returns : List MachineReturn) (b : Bool) → is_leaving last w ≡ b →
          ((others : List MachineReturn) (v : OpenConfiguration) → last < length v.core.memory → run_returning open_storage (machine_back code) last data_start others n (mended v) ≡ mended (run_patched code' last data_start others n v)) →
          (if b then goes_back (machine_back code) returns (advanced (mended w).stop open_storage data_start (mended w)) (λ others v. run_returning open_storage (machine_back code) last data_start others n v)
          else run_returning open_storage (machine_back code) last data_start returns n (advanced (mended w).stop open_storage data_start (mended w)))
          ≡ mended
          (if b then goes_back (machine_back code') returns (returned last data_start w) (λ others v. run_patched code' last data_start others n v)
          else run_patched code' last data_start returns n (advanced w.stop open_storage data_start w))
      by returns false e later =
          ap (run_returning open_storage (machine_back code) last data_start returns n) (same_step w e)
          ∙ later returns (advanced w.stop open_storage data_start w) (omega (arith, inside, after_size data_start w.stop (effect_at w.core) w))
      by [] true e later = same_return w e inside
      by (r ∷ returns) true e later =
          ap (λ v. run_returning open_storage (machine_back code) last data_start returns n (machine_back code r v)) (same_return w e inside)
          ∙ ap (run_returning open_storage (machine_back code) last data_start returns n) (same_back r (returned last data_start w))
          ∙ later returns (machine_back code' r (returned last data_start w)) (after_back r (returned last data_start w))

  -- ---- instructions that keep to the stacks do not come to a cell that moves the data pointer up and writes nothing

  never_by : (high return_high : ℕ) (w : OpenConfiguration) (b : Bool) → is_leaving last w ≡ b → StaysWithin 0 high 0 return_high w → Keeps last 0x6001 w → is_leaving last w ≡ false
  never_by high return_high w false e within k = e
  never_by high return_high w true e within k =
      let parts = both_hold (is_running w.stop) (w.core.pc == last) e in
      let at = is_there w.core.pc last parts.1 in
      let writes = within.data_writes (runs_on w.stop parts.0) in
      let cell : slice_index w.core.memory w.core.pc ≡ 0x6001 = ap (slice_index w.core.memory) at ∙ k.cell_is in
      absurd (moves w cell writes)
    where
      moves : (w : OpenConfiguration) → slice_index w.core.memory w.core.pc ≡ 0x6001 → WritesAbove (effect_at w.core).data_move (effect_at w.core).t_to_n → ⊥
      moves w cell writes =
          let f : false ≡ true = subst (λ c. WritesAbove (effect w.core.pc (decoded c)).data_move (effect w.core.pc (decoded c)).t_to_n) cell writes in
          cc

  -- so they go on as without returns
  pub pass : (returns : List MachineReturn) (high return_high n j : ℕ) (w : OpenConfiguration) → BeforeEach (StaysWithin 0 high 0 return_high) data_start n w → Keeps last 0x6001 w →
      (run_patched code' last data_start returns (n + j) w ≡ run_patched code' last data_start returns j (run open_storage data_start n w)) × Keeps last 0x6001 (run open_storage data_start n w)
  unfolding run_patched
  pass returns high return_high zero j w within k = (ap (λ i. run_patched code' last data_start returns i w) (nothing j), k)
    where
      nothing : (j : ℕ) → 0 + j ≡ j
      nothing j = omega arith
  pass returns high return_high (suc n) j w within k =
      let not = never_by high return_high w (is_leaving last w) refl within.0 k in
      let next = kept last 0x6001 data_start below w.stop (effect_at w.core) w k in
      let later = pass returns high return_high n j (advanced w.stop open_storage data_start w) within.1 next in (
        ap (λ i. run_patched code' last data_start returns i w) (more n j)
            ∙ ap (λ b. if b then goes_back (machine_back code') returns (returned last data_start w) (λ others v. run_patched code' last data_start others (n + j) v) else run_patched code' last data_start returns (n + j)
            (advanced w.stop open_storage data_start w)) not
            ∙ later.0,
        later.1,
      )
    where
      more : (n j : ℕ) → suc n + j ≡ suc (n + j)
      more n j = omega arith

  -- ---- both stacks within limits, before each instruction of the mended machine

  -- the cell is not executed
  within_mended : (high return_high : ℕ) (w : OpenConfiguration) → is_leaving last w ≡ false → StaysWithin 0 high 0 return_high w → StaysWithin 0 high 0 return_high (mended w)
  within_mended high return_high w elsewhere s = record {
    depth = s.depth;
    return_depth = s.return_depth;
    depth_is = s.depth_is;
    return_depth_is = s.return_depth_is;
    at_least = s.at_least;
    at_most = s.at_most;
    return_at_least = s.return_at_least;
    return_at_most = s.return_at_most;
    known = s.known;
    return_known = s.return_known;
    data_writes = λ runs. subst (λ e. WritesAbove e.data_move e.t_to_n) (sym (same_effect runs)) (s.data_writes runs);
    return_writes = λ runs. subst (λ e. WritesAbove e.return_move (writes_return e.return_write)) (sym (same_effect runs)) (s.return_writes runs);
  }
    where
      is_other : (b : Bool) → (w.core.pc == last) ≡ b → is_running w.stop ≡ true → (is_running w.stop && (w.core.pc == last)) ≡ false → (w.core.pc == last) ≡ false
      is_other false e runs f = e
      is_other true e runs f = absurd (let g : true ≡ false = ap (λ a. a && true) (sym runs) ∙ ap (λ b. is_running w.stop && b) (sym e) ∙ f in cc)

      same_effect : w.stop ≡ None → effect_at (mended w).core ≡ effect_at w.core
      same_effect runs =
          ap (λ cell. effect w.core.pc (decoded cell)) (get_or-set_other w.core.memory last w.core.pc 0x700C 0 (is_elsewhere w.core.pc last (is_other (w.core.pc == last) refl (ap is_running runs) elsewhere)))

  left_mended : (high return_high : ℕ) (w : OpenConfiguration) → LeftWithin high return_high w → LeftWithin high return_high (mended w)
  left_mended high return_high w l = record {
    depth = l.depth;
    return_depth = l.return_depth;
    address = l.address;
    depth_is = l.depth_is;
    return_depth_is = l.return_depth_is;
    at_most = l.at_most;
    return_at_most = l.return_at_most;
    known = l.known;
    return_known = l.return_known;
    address_is = l.address_is;
  }

  -- said of the run on the patched code
  unfoldable pub StaysPatched : ℕ → ℕ → List MachineReturn → ℕ → OpenConfiguration → Type 0
  StaysPatched high return_high returns zero w = Unit {0}
  StaysPatched high return_high returns (suc n) w =
      StaysWithin 0 high 0 return_high (mended w)
      × WhichHolds (is_leaving last w)
      (LeftWithin high return_high (returned last data_start w) × HoldsBack code' returns (returned last data_start w) (λ others v. StaysPatched high return_high others n v))
      (StaysPatched high return_high returns n (advanced w.stop open_storage data_start w))

  -- behind an instruction
  abbrev Onward : ℕ → ℕ → OpenConfiguration → ℕ → List MachineReturn → Bool → Type 0
  Onward high return_high w n returns b =
      WhichHolds b (LeftWithin high return_high (returned last data_start w) × HoldsBack code' returns (returned last data_start w) (λ others v. StaysPatched high return_high others n v))
      (StaysPatched high return_high returns n (advanced w.stop open_storage data_start w))

  abbrev next_mended : OpenConfiguration → OpenConfiguration
  next_mended w = advanced (mended w).stop open_storage data_start (mended w)

  module _ (high return_high : ℕ) where
    pub nothing_stays : (returns : List MachineReturn) (w : OpenConfiguration) → StaysPatched high return_high returns 0 w
    unfolding StaysPatched
    nothing_stays returns w = tt

    -- one more in front
    pub one_stays : (returns : List MachineReturn) (n : ℕ) (w v : OpenConfiguration) → is_leaving last w ≡ false → advanced w.stop open_storage data_start w ≡ v → StaysWithin 0 high 0 return_high w →
        StaysPatched high return_high returns n v → StaysPatched high return_high returns (suc n) w
    unfolding StaysPatched
    one_stays returns n w v elsewhere leads within later = (
      within_mended high return_high w elsewhere within,
      subst (Onward high return_high w n returns) (sym elsewhere) (subst (StaysPatched high return_high returns n) (sym leads) later),
    )

    pub one_less_stays : (returns : List MachineReturn) (n : ℕ) (w v : OpenConfiguration) → is_leaving last w ≡ false → advanced w.stop open_storage data_start w ≡ v →
        StaysPatched high return_high returns (suc n) w → StaysPatched high return_high returns n v
    unfolding StaysPatched
    one_less_stays returns n w v elsewhere leads stays =
        subst (StaysPatched high return_high returns n) leads
        (subst (Onward high return_high w n returns) elsewhere stays.1)

    -- where GO leads out
    pub leaving_stays : (returns : List MachineReturn) (n : ℕ) (w : OpenConfiguration) → is_leaving last w ≡ true → StaysWithin 0 high 0 return_high (mended w) → LeftWithin high return_high (returned last data_start w) →
        HoldsBack code' returns (returned last data_start w) (λ others v. StaysPatched high return_high others n v) → StaysPatched high return_high returns (suc n) w
    unfolding StaysPatched
    leaving_stays returns n w leaves within left later = (
      within,
      subst (Onward high return_high w n returns) (sym leaves) (left, later),
    )

    -- instructions that keep to the stacks in front
    pub stays_then : (returns : List MachineReturn) (n j : ℕ) (w : OpenConfiguration) → BeforeEach (StaysWithin 0 high 0 return_high) data_start n w → Keeps last 0x6001 w →
        StaysPatched high return_high returns j (run open_storage data_start n w) → StaysPatched high return_high returns (n + j) w
    stays_then returns zero j w within k later = subst (λ i. StaysPatched high return_high returns i w) (nothing j) later
      where
        nothing : (j : ℕ) → j ≡ 0 + j
        nothing j = omega arith
    stays_then returns (suc n) j w within k later =
        let not = never_by high return_high w (is_leaving last w) refl within.0 k in
        let next = kept last 0x6001 data_start below w.stop (effect_at w.core) w k in
        subst (λ i. StaysPatched high return_high returns i w) (more n j)
        (one_stays returns (n + j) w (advanced w.stop open_storage data_start w) not refl within.0 (stays_then returns n j (advanced w.stop open_storage data_start w) within.1 next later))
      where
        more : (n j : ℕ) → suc (n + j) ≡ suc n + j
        more n j = omega arith

    -- a machine that has ended stays as it is
    pub stopped_within : (returns : List MachineReturn) (n : ℕ) (w : OpenConfiguration) (stop : Stop) → w.stop ≡ Some stop → StaysWithin 0 high 0 return_high w → StaysPatched high return_high returns n w
    stopped_within returns zero w stop e within = nothing_stays returns w
    stopped_within returns (suc n) w stop e within =
        one_stays returns n w w (ap (λ st. is_running st && (w.core.pc == last)) e) (ap (λ st. advanced st open_storage data_start w) e) within (stopped_within returns n w stop e within)

    pub fewer_stay : (returns : List MachineReturn) (n m : ℕ) (w : OpenConfiguration) → n ≤ m → StaysPatched high return_high returns m w → StaysPatched high return_high returns n w
    unfolding StaysPatched
    fewer_stay returns zero m w le stays = tt
    fewer_stay returns (suc n) zero w le stays = absurd (omega arith)
    fewer_stay returns (suc n) (suc m) w le stays = (stays.0, by returns (is_leaving last w) (λ others v h. fewer_stay others n m v (omega arith) h) stays.1)
      where
        by : (returns : List MachineReturn) (b : Bool) → ((others : List MachineReturn) (v : OpenConfiguration) → StaysPatched high return_high others m v → StaysPatched high return_high others n v) →
            Onward high return_high w m returns b → Onward high return_high w n returns b
        by returns false later h = later returns (advanced w.stop open_storage data_start w) h
        by [] true later h = (h.0, tt)
        by (r ∷ returns) true later h = (h.0, later returns (machine_back code' r (returned last data_start w)) h.1)

    -- and so it is of the mended machine
    pub mended_stays : (returns : List MachineReturn) (n : ℕ) (w : OpenConfiguration) → last < length w.core.memory → StaysPatched high return_high returns n w →
        StaysReturning high return_high code last data_start returns n (mended w)
    unfolding StaysPatched StaysReturning
    mended_stays returns zero w inside stays = tt
    mended_stays returns (suc n) w inside stays = (stays.0, by returns (is_leaving last w) refl (λ others v deep h. mended_stays others n v deep h) stays.1)
      where
        by : (returns : List MachineReturn) (b : Bool) → is_leaving last w ≡ b →
            ((others : List MachineReturn) (v : OpenConfiguration) → last < length v.core.memory → StaysPatched high return_high others n v → StaysReturning high return_high code last data_start others n (mended v)) →
            Onward high return_high w n returns b →
            WhichHolds b (LeftWithin high return_high (next_mended w) × HoldsBack code returns (next_mended w) (λ others v. StaysReturning high return_high code last data_start others n v))
            (StaysReturning high return_high code last data_start returns n (next_mended w))
        by returns false e later h =
            subst (StaysReturning high return_high code last data_start returns n) (sym (same_step w e))
            (later returns (advanced w.stop open_storage data_start w) (omega (arith, inside, after_size data_start w.stop (effect_at w.core) w)) h)
        by [] true e later h = (subst (LeftWithin high return_high) (sym (same_return w e inside)) (left_mended high return_high (returned last data_start w) h.0), tt)
        by (r ∷ returns) true e later h = (
          subst (LeftWithin high return_high) (sym (same_return w e inside)) (left_mended high return_high (returned last data_start w) h.0),
          subst (λ v. StaysReturning high return_high code last data_start returns n (machine_back code r v)) (sym (same_return w e inside))
              (subst (StaysReturning high return_high code last data_start returns n) (sym (same_back r (returned last data_start w)))
              (later returns (machine_back code' r (returned last data_start w)) (after_back r (returned last data_start w)) h.1)),
        )
