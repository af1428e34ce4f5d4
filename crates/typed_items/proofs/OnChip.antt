-- The same on the chip.
use Rattle.std.proofs.Common.{◌≡◌, ◌≢◌, ℕ, zero, suc, ◌+◌, ◌<◌, ◌≤◌, ⊎_elim, List, length, Option, Some, None, refl, sym, ap, ◌∙◌, subst}
use Rattle.std.proofs.Common.{arith}
use Rattle.std.proofs.lemmas.Bool.{cases_lt}
use Rattle.j1_simulator.specs.Step.{Stop, Missing}
use Rattle.j1_simulator.specs.OpenMachine.{open_storage}
use Rattle.j1_simulator.specs.RoundMachine.{round_storage}
use Rattle.j1_simulator.specs.Run.{run, advanced, IsPrefixOf}
use Rattle.j1_simulator.specs.Laws.{OnlyGrows}
use Rattle.forth_program.specs.State.{State, End, Halted, InputEnded, Outside, Underflow, Unbalanced, Left, Outcome, Goes, Ends}
use Rattle.forth_program.specs.Program.{SourceProgram}
use Rattle.forth_program.specs.Run.{steps, world_of, end_of}
use Rattle.word_laws.specs.Rings.{OpenConfiguration, BeforeEach, FitsRings, Agrees, InstructionDoesTheSame}
use Rattle.word_laws.specs.Bounds.{BoundsFitRings}
use Rattle.word_laws.specs.Standing.{machine_end}
use Rattle.typed_items.specs.Listed.{stands}
use Rattle.typed_items.specs.Laws.{stop_of, Shows, items_begin, ItemsDoTheirMeaning, ItemsDoNoMore, Follows}
use Rattle.typed_items.specs.OnChip.{RoundConfiguration, RunsWithinRingsAgree, FollowsOnChip, ItemsDoTheirMeaningOnChip, ShowsNoMoreOnChip}

pub record RingLaws : Type 0 where
  pub instruction : InstructionDoesTheSame
  pub fit : BoundsFitRings
  pub open_grows : OnlyGrows open_storage
  pub round_grows : OnlyGrows round_storage

-- no end of a source is a lack of the open machine
never_missing : (o : Outcome) → stop_of o ≡ Some Missing → ⊥
never_missing (Goes s) e = cc
never_missing (Ends (Halted status) world) e = cc
never_missing (Ends InputEnded world) e = cc
never_missing (Ends (Outside address) world) e = cc
never_missing (Ends Underflow world) e = cc
never_missing (Ends Unbalanced world) e = cc
never_missing (Ends (Left address) world) e = cc

rounds_join : (a b : ℕ) (v : RoundConfiguration) → run round_storage 0x2000 (a + b) v
    ≡ run round_storage 0x2000 b (run round_storage 0x2000 a v)
rounds_join zero b v = ap (λ n. run round_storage 0x2000 n v) (let e : 0 + b ≡ b = omega arith in e)
rounds_join (suc a) b v = ap (λ n. run round_storage 0x2000 n v) (let e : suc a + b ≡ suc (a + b) = omega arith in e)
    ∙ rounds_join a b (advanced v.stop round_storage 0x2000 v)

module _ (laws : RingLaws) where
  agrees_on : (n : ℕ) (w : OpenConfiguration) (v : RoundConfiguration) → Agrees w v → BeforeEach FitsRings 0x2000 n w →
      (run open_storage 0x2000 n w).stop ≢ Some Missing →
      (m : ℕ) → m ≤ n → Agrees (run open_storage 0x2000 m w) (run round_storage 0x2000 m v)
  agrees_on n w v same fits never zero le = same
  agrees_on zero w v same fits never (suc m) le = absurd (omega (arith, le))
  agrees_on (suc n) w v same fits never (suc m) le =
      let next = advanced w.stop open_storage 0x2000 w in
      agrees_on n next (advanced v.stop round_storage 0x2000 v)
      (laws.instruction 0x2000 w v same fits.0 (λ missing. never
      (ap (λ x. x.stop) (laws.open_grows.ends 0x2000 0 n next Missing (omega arith) missing) ∙ missing))) fits.1 never m
      (omega (arith, le))

  pub runs_agree : RunsWithinRingsAgree
  runs_agree n high return_high from chip bounds deep under never same m le =
      agrees_on n from chip same (laws.fit 0 high 0 return_high n 0x2000 from deep under bounds) never m le

  -- both stand alike after k instructions too
  module _ (code : List ℕ) (p : SourceProgram) (k count : ℕ) (s : State) (from : OpenConfiguration) (chip : RoundConfiguration)
      (shows : Shows code (run open_storage 0x2000 count from) (steps p k s))
      (far : end_of (steps p k s) ≡ None → k ≤ count) (can : (end : End) → end_of (steps p k s) ≡ Some end →
      (stop : Stop) × (machine_end end ≡ Some stop))
      (alike : (m : ℕ) → m ≤ count → Agrees (run open_storage 0x2000 m from) (run round_storage 0x2000 m chip)) where
    alike_far : (o : Outcome) → steps p k s ≡ o → Agrees (run open_storage 0x2000 k from) (run round_storage 0x2000 k chip)
    alike_far o e = ⊎_elim (λ lt. past o e lt) (λ le. alike k le) (cases_lt count k)
      where
        past : (o : Outcome) → steps p k s ≡ o → count < k → Agrees (run open_storage 0x2000 k from) (run round_storage 0x2000 k chip)
        past (Goes t) e lt = let le = far (ap end_of e) in absurd (omega (arith, lt, le))
        past (Ends end world) e lt =
            let stop = can end (ap end_of e) in
            let here = alike count (omega arith) in
            let stopped : (run open_storage 0x2000 count from).stop ≡ Some stop.0 = shows.stop_is ∙ ap stop_of e ∙ stop.1 in
            let stays = laws.open_grows.ends 0x2000 count k from stop.0 (omega (arith, lt)) stopped in
            let stays' = laws.round_grows.ends 0x2000 count k chip stop.0 (omega (arith, lt)) (sym here.stop ∙ stopped) in
            subst (λ x. Agrees x (run round_storage 0x2000 k chip)) (sym stays)
            (subst (λ x. Agrees (run open_storage 0x2000 count from) x) (sym stays') here)

  pub shows_no_more_on_chip : ShowsNoMoreOnChip
  shows_no_more_on_chip code p k count s from chip shows far can alike b =
      let there = alike_far code p k count s from chip shows far can alike (steps p k s) refl in
      record {
        prints = subst (λ x. IsPrefixOf x (world_of (steps p k s)).printed) there.printed b.prints;
        ends = λ stop e. b.ends stop (there.stop ∙ e);
      }

  -- what follows on the open machine follows on the chip
  module _ (code : List ℕ) (next : ℕ) (returns : List (Option ℕ)) (p : SourceProgram) (high back k : ℕ) (s : State)
      (from : OpenConfiguration) (chip : RoundConfiguration) (deep : high ≤ 33) (under : length returns + back ≤ 32)
      (same : Agrees from chip) (f : Follows code next returns p high back k s from) where
    alike : (m : ℕ) → m ≤ f.count → Agrees (run open_storage 0x2000 m from) (run round_storage 0x2000 m chip)
    alike = runs_agree f.count high (length returns + back) from chip f.bounds deep under
        (λ missing. never_missing (steps p k s) (sym f.shows.stop_is ∙ missing)) same

    pub follows_on_chip : FollowsOnChip code next returns p high back k s from chip
    follows_on_chip = record {
      follows = f;
      agrees = alike;
      behind = λ t e done fits.
          let b = f.behind t e done fits in
          let there = run open_storage 0x2000 f.count from in
          let agree = runs_agree b.more high (length returns + back) there (run round_storage 0x2000 f.count chip) b.bounds deep under
          (λ missing. let g : None ≡ Some Missing = sym (ap (λ x. x.stop) b.makes) ∙ missing in cc) (alike f.count (omega arith)) b.more
          (omega arith) in
          let now = subst (λ x. Agrees x (run round_storage 0x2000 b.more (run round_storage 0x2000 f.count chip))) b.makes agree in
          subst (λ x. Agrees (stands code next t.cells t.world returns b.data_above b.return_above) x)
          (sym (rounds_join f.count b.more chip)) now;
    }

pub items_on_chip : RingLaws → ItemsDoTheirMeaning → ItemsDoNoMore → ItemsDoTheirMeaningOnChip
items_on_chip laws forward backward code token place p items c w at next high back k returns da ra chip typed stand known cells world starts going fit deep under same =
    let f = forward code token place p items c w at next high back k returns da ra typed stand known cells world starts going fit in
    let b = backward code token place p items c w at next k returns da ra typed stand known cells world starts going in (
      follows_on_chip laws code next returns p high back k (items_begin items c w)
          (stands code at c w returns da ra) chip deep under same f,
      shows_no_more_on_chip laws code p k f.count (items_begin items c w)
          (stands code at c w returns da ra) chip f.shows f.far_enough f.can_end
          (alike laws code next returns p high back k (items_begin items c w) (stands code at c w returns da ra) chip deep under same f) b,
    )
