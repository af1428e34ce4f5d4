-- A typed word as a whole, on the chip.
use Rattle.std.proofs.Common.{◌≡◌, ℕ, ◌+◌, ◌≤◌, ◌++◌, Some, length, sym, ◌∙◌, arith}
use Rattle.j1_simulator.specs.Step.{Missing}
use Rattle.j1_simulator.specs.OpenMachine.{open_storage}
use Rattle.j1_simulator.specs.RoundMachine.{round_storage}
use Rattle.j1_simulator.specs.Run.{run}
use Rattle.forth_program.specs.State.{Halted, InputEnded, Outside, Underflow, Unbalanced, Left, Outcome, Goes, Ends}
use Rattle.forth_program.specs.Run.{steps}
use Rattle.word_laws.specs.Rings.{Agrees}
use Rattle.typed_items.specs.Laws.{stop_of}
use Rattle.typed_items.specs.OnChip.{RunsWithinRingsAgree, ShowsNoMoreOnChip}
use Rattle.typed_code.specs.MachineCode.{run_code}
use Rattle.typed_code.specs.WayBack.{ReturnsGoBackOnChip}
use Rattle.typed_code.specs.TypedWords.{at_run_code, below_go, word_begins, TypedWordsDoTheirMeaning, TypedWordsDoTheirMeaningOnChip}

-- no end of a source is a lack of the open machine
never_missing : (o : Outcome) → stop_of o ≡ Some Missing → ⊥
never_missing (Goes s) e = cc
never_missing (Ends (Halted status) world) e = cc
never_missing (Ends InputEnded world) e = cc
never_missing (Ends (Outside address) world) e = cc
never_missing (Ends Underflow world) e = cc
never_missing (Ends Unbalanced world) e = cc
never_missing (Ends (Left address) world) e = cc

pub typed_words_on_chip : TypedWordsDoTheirMeaning → RunsWithinRingsAgree → ShowsNoMoreOnChip → ReturnsGoBackOnChip →
    TypedWordsDoTheirMeaningOnChip
typed_words_on_chip words rings no_more goes code token place p item c w address high back k below da ra addresses chip h room some going fit deep under known same =
    let begun = word_begins item c below w in
    let from = at_run_code code w address below da ra in
    let f = words code token place p item c w address high back k below da ra h room some going fit in
    let alike : (m : ℕ) → m ≤ f.count → Agrees (run open_storage 0x2000 m from) (run round_storage 0x2000 m chip) =
    rings f.count high (length below + 1 + back) from chip f.bounds deep under
    (λ missing. never_missing (steps p k begun) (sym f.shows.stop_is ∙ missing)) same in
    record {
      follows = f;
      agrees = alike;
      no_more = no_more code p k f.count begun from chip f.shows f.far_enough f.can_end alike f.no_more;
      comes_back = λ t e done few fits.
          let b = f.comes_back t e done few fits in
          goes (f.count + b.more) high (length below + 1 + back) run_code address
          (code ++ w.space) code b.kept.after t.world.input b.printed addresses (below_go below w) da ra chip b.returns deep under
          (omega arith) known same;
    }
