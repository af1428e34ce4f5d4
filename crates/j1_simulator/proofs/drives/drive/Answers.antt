use Rattle.std.proofs.Common.{arith, rules, ◌≡◌, refl, sym, ◌∙◌, subst, inl, inr}
use Rattle.std.specs.Prelude.{Err}
use Rattle.j1_simulator.specs.declared.ends.DriveError.TheVariants.{Read, Write}
use Rattle.j1_simulator.proofs.DriveSteps.{Underway, begins, drives_on, told_when, run_here, ended_here, front_here, made_all, made_front, made_broken, read_here, write_here, no_wish}
use Rattle.j1_simulator.proofs.drives.drive.Goals as goal

pub loop-made-init : goal.loop-made-init
loop-made-init g c =
    let m = c.args.machine.now in
    let left = g.C.Source.left c.args.console.now in
    let before = g.O.Sink.held c.args.out.now in
    let calls = g.C.Source.calls c.args.console.now in
    let writes = g.O.Sink.calls c.args.out.now in
    record {
      room = search rules;
      console_faults = search rules;
      out_faults = search rules;
      calls = omega arith;
      over = λ end e. e;
      within = omega arith;
      quiet = λ h. refl;
      at = subst (λ b. Underway m left 0 m left before before b calls calls writes writes) (sym c.new-buffer.ensures) (begins m left before calls writes);
    }

pub loop-made-preserved : goal.loop-made-preserved
loop-made-preserved g c =
    record {
      room = c.in_ok-end.ensures.room;
      console_faults = omega (arith, c.turn.ensures.console_faults);
      out_faults = omega (arith, c.turn.ensures.out_faults);
      calls = omega (arith, c.turn.ensures.calls);
      over = λ end e. c.in_ok-end.ensures.over end (c.loop-made.invariant.over end e);
      within = omega arith;
      quiet = λ h. c.in_ok-end.ensures.quiet (no_wish c.loop-made.invariant.at h) ∙ c.loop-made.invariant.quiet h;
      at = drives_on c.loop-made.invariant.at c.in_ok-end.ensures.run c.in_ok-end.ensures.over c.in_ok-end.ensures.given;
    }

pub returns-in_err-end-clause-at_most : goal.returns-in_err-end-clause-at_most
returns-in_err-end-clause-at_most g c =
    made_broken c.in_err-end.field-0.0 c.turn.result c.args.n c.from_residual.result (omega arith) c.loop-made.invariant.room c.turn.ensures.grows
    c.in_err-end.was (search rules) c.loop-made.invariant.at c.turn.ensures.run c.turn.ensures.over c.turn.ensures.kept c.turn.ensures.wants

pub returns-in_err-end-clause-read : goal.returns-in_err-end-clause-read
returns-in_err-end-clause-read g c =
    told_when (g.C.Source.left c.args.console.now) (c.from_residual.result ≡ Err Read) _
    (λ e.
    let read : c.turn.result ≡ Err Read = search rules in
    read_here c.turn.result c.args.n (omega arith) read (c.turn.ensures.kept read) (c.turn.ensures.wants read) c.loop-made.invariant.at c.turn.ensures.run)

pub returns-in_err-end-clause-write : goal.returns-in_err-end-clause-write
returns-in_err-end-clause-write g c =
    told_when (g.C.Source.left c.args.console.now) (c.from_residual.result ≡ Err Write) _
    (λ e.
    let wrote : c.turn.result ≡ Err Write = search rules in
    write_here c.turn.result c.args.n (omega arith) c.loop-made.invariant.room c.turn.ensures.grows wrote c.loop-made.invariant.at c.turn.ensures.run)

pub returns-in_err-flush-clause-at_most : goal.returns-in_err-flush-clause-at_most
returns-in_err-flush-clause-at_most g c =
    made_front c.args.n _ (omega arith) c.in_ok-end.ensures.room c.in_err-flush.ensures.waited (inl (c.in-Some.end, sym c.in_ok-end.ensures.ended ∙ c.in-Some.is)) (search rules)
    (drives_on c.loop-made.invariant.at c.in_ok-end.ensures.run c.in_ok-end.ensures.over c.in_ok-end.ensures.given) c.in_err-flush.ensures.bytes c.flush.ensures.writes

pub returns-in_err-flush-clause-write : goal.returns-in_err-flush-clause-write
returns-in_err-flush-clause-write g c =
    told_when (g.C.Source.left c.args.console.now) _ _
    (λ e.
    front_here _ c.args.n (omega arith) c.in_ok-end.ensures.room c.in_err-flush.ensures.waited (inl (c.in-Some.end, sym c.in_ok-end.ensures.ended ∙ c.in-Some.is))
    (drives_on c.loop-made.invariant.at c.in_ok-end.ensures.run c.in_ok-end.ensures.over c.in_ok-end.ensures.given) c.in_err-flush.ensures.bytes)

pub returns-in-Some-clause-run : goal.returns-in-Some-clause-run
returns-in-Some-clause-run g c =
    ended_here _ c.loop-made._made c.args.n c.in-Some.end (omega arith) (sym c.in_ok-end.ensures.ended ∙ c.in-Some.is)
    (drives_on c.loop-made.invariant.at c.in_ok-end.ensures.run c.in_ok-end.ensures.over c.in_ok-end.ensures.given) c.in_ok-flush.ensures.bytes

pub returns-in-Some-clause-at_most : goal.returns-in-Some-clause-at_most
returns-in-Some-clause-at_most g c =
    made_all c.args.n _ (omega arith) (λ e. cc) (λ e. cc) (λ e. cc) (drives_on c.loop-made.invariant.at c.in_ok-end.ensures.run c.in_ok-end.ensures.over c.in_ok-end.ensures.given) c.in_ok-flush.ensures.bytes c.flush.ensures.writes

pub returns-in_err-flush-2-clause-at_most : goal.returns-in_err-flush-2-clause-at_most
returns-in_err-flush-2-clause-at_most g c =
    made_front c.args.n _ c.loop-made.invariant.within c.loop-made.invariant.room c.in_err-flush-2.ensures.waited (inr (omega arith)) (search rules) c.loop-made.invariant.at c.in_err-flush-2.ensures.bytes c.flush-2.ensures.writes

pub returns-in_err-flush-2-clause-write : goal.returns-in_err-flush-2-clause-write
returns-in_err-flush-2-clause-write g c =
    told_when (g.C.Source.left c.args.console.now) _ _ (λ e. front_here _ c.args.n c.loop-made.invariant.within c.loop-made.invariant.room c.in_err-flush-2.ensures.waited (inr (omega arith)) c.loop-made.invariant.at c.in_err-flush-2.ensures.bytes)

pub returns-in-Some-ended-clause-run : goal.returns-in-Some-ended-clause-run
returns-in-Some-ended-clause-run g c = run_here _ c.args.n (omega arith) c.loop-made.invariant.at c.in_ok-flush-2.ensures.bytes

pub returns-in-Some-ended-clause-at_most : goal.returns-in-Some-ended-clause-at_most
returns-in-Some-ended-clause-at_most g c = made_all c.args.n _ c.loop-made.invariant.within (λ e. cc) (λ e. cc) (λ e. cc) c.loop-made.invariant.at c.in_ok-flush-2.ensures.bytes c.flush-2.ensures.writes

pub returns-in-None-clause-run : goal.returns-in-None-clause-run
returns-in-None-clause-run g c = run_here _ c.args.n (omega arith) c.loop-made.invariant.at c.in_ok-flush-2.ensures.bytes

pub returns-in-None-clause-at_most : goal.returns-in-None-clause-at_most
returns-in-None-clause-at_most g c = made_all c.args.n _ c.loop-made.invariant.within (λ e. omega arith) (λ e. cc) (λ e. cc) c.loop-made.invariant.at c.in_ok-flush-2.ensures.bytes c.flush-2.ensures.writes
