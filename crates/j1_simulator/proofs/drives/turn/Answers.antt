use Rattle.std.proofs.Common.{arith, rules, ◌≡◌, ◌++◌, [], Some, None, sym, subst, refl}
use Rattle.std.specs.Prelude.{IfOk, Err}
use Rattle.j1_simulator.specs.declared.ends.DriveError.TheVariants.{Read, Write}
use Rattle.j1_simulator.specs.Run.{advance}
use Rattle.j1_simulator.specs.Drive.{HoldsPrints, told}
use Rattle.j1_simulator.specs.MachineState.{WantsAByte}
use Rattle.j1_simulator.proofs.RunSteps.{key_turned, stepped}
use Rattle.j1_simulator.proofs.Turns.{steps_keep_end, wanting_keeps_end, wants, ended_is, flushed, noted, on_err, not_flushed, not_asked, none_taken, asked_taken, given_taken, stays, used, has_its_byte}
use Rattle.j1_simulator.proofs.FlushedOutput.{grows_flushed, grows_then}
use Rattle.j1_simulator.proofs.Questions.{asked_once, asked_badly}
use Rattle.j1_simulator.proofs.WaitingBytes.{key_silent, stepped_prints}
use Rattle.j1_simulator.proofs.TurnEnd.{key_follows, key_fills, on_ok_follows, on_err_fills, on_ok_few, on_err_few, key_ok_few, key_err_few}
use Rattle.j1_simulator.proofs.drives.turn.Goals as goal

pub returns-in_err-flush-in-WantsByte-clause-run : goal.returns-in_err-flush-in-WantsByte-clause-run
returns-in_err-flush-in-WantsByte-clause-run g c =
    let w = wants _ c.args.machine.now c.step.new.self c.step.ensures.step c.in-WantsByte.is in record {
      taken = None;
      takes = none_taken c.args.machine.now c.step.new.self _ _ w.0.not_given (stays _);
      calls = omega arith;
      ends = λ configuration fits data_start before left after l a.
          let e : c.from_residual.result ≡ Err Write = search rules in
          not_flushed c.from_residual.result configuration fits c.args.machine.now c.step.new.self data_start left after before _ _ _ _ e l a w.1 w.0 c.in_err-flush-in-WantsByte.ensures.bytes
          _ _ c.in_err-flush-in-WantsByte.ensures.waited c.flush.ensures.writes;
    }

pub returns-in_err-byte-in-WantsByte-clause-run : goal.returns-in_err-byte-in-WantsByte-clause-run
returns-in_err-byte-in-WantsByte-clause-run g c =
    let w = wants _ c.args.machine.now c.step.new.self c.step.ensures.step c.in-WantsByte.is in record {
      taken = None;
      takes = none_taken c.args.machine.now c.step.new.self _ _ w.0.not_given c.in_err-byte-in-WantsByte.ensures.byte;
      calls = asked_badly _ _ None _ _ (search rules) c.ask.ensures.calls;
      ends = λ configuration fits data_start before left after l a.
          let e : c.from_residual-in_err-byte-in-WantsByte.result ≡ Err Read = search rules in
          not_asked c.from_residual-in_err-byte-in-WantsByte.result configuration fits c.args.machine.now c.step.new.self data_start left after before _ _ _ _ e l a w.1 c.in_ok-flush-in-WantsByte.ensures.bytes _ _ c.flush.ensures.writes;
    }

pub returns-in_err-byte-in-WantsByte-clause-wants : goal.returns-in_err-byte-in-WantsByte-clause-wants
returns-in_err-byte-in-WantsByte-clause-wants g c = λ e.
    let w = wants _ c.args.machine.now c.step.new.self c.step.ensures.step c.in-WantsByte.is in
    subst WantsAByte (sym w.1) w.0

pub give_byte-requires : goal.give_byte-requires
give_byte-requires g c =
    let w = wants _ c.args.machine.now c.step.new.self c.step.ensures.step c.in-WantsByte.is in
    subst WantsAByte (sym w.1) w.0

pub returns-in_ok-byte-in-WantsByte-clause-run : goal.returns-in_ok-byte-in-WantsByte-clause-run
returns-in_ok-byte-in-WantsByte-clause-run g c =
    let w = wants _ c.args.machine.now c.step.new.self c.step.ensures.step c.in-WantsByte.is in record {
      taken = Some c.in_ok-byte-in-WantsByte.byte;
      takes = asked_taken c.args.machine.now c.step.new.self c.give_byte.new.self c.step_apart.new.self _ _ _ _ w.0 w.1 c.give_byte.ensures c.step_apart.ensures.step c.in_ok-byte-in-WantsByte.ensures.byte;
      calls = asked_once _ c.args.machine.now.given c.in_ok-byte-in-WantsByte.byte _ _ w.0.not_given c.ask.ensures.calls;
      ends = λ configuration fits data_start before left after l a.
          let f = flushed configuration fits c.args.machine.now c.step.new.self data_start left before _ _ _ a w.1 c.in_ok-flush-in-WantsByte.ensures.bytes in
          let t = key_turned configuration fits c.step.new.self c.give_byte.new.self c.step_apart.new.self data_start _ left after before _ _ _ f (subst WantsAByte (sym w.1) w.0) c.give_byte.ensures l c.step_apart.ensures.step in
          let h : HoldsPrints before (g.O.Sink.held c.flush.new.out) (c.flush.new.self ++ told c.step_apart.result) (advance data_start configuration).printed =
          subst (λ b. HoldsPrints before (g.O.Sink.held c.flush.new.out) (b ++ told c.step_apart.result) (advance data_start configuration).printed)
          (sym c.in_ok-flush-in-WantsByte.ensures.empty) t.at.out in
          let silent : told c.step_apart.result ≡ [] =
          key_silent c.step.new.self c.give_byte.new.self c.step_apart.new.self c.step_apart.result c.in_ok-byte-in-WantsByte.byte
          (subst WantsAByte (sym w.1) w.0) c.give_byte.ensures c.step_apart.ensures.step in
          noted c.note.result _ c.args.machine.now c.args.buffer.now configuration fits c.step_apart.new.self data_start after before _ _ _ _ _ t
          c.note.ensures.err (c.note.ensures.ok before (advance data_start configuration).printed h)
          (c.note.ensures.front before (advance data_start configuration).printed h)
          (key_follows c.note.result c.args.machine.now c.step_apart.new.self configuration (advance data_start configuration) _ _ _ c.step_apart.result
          c.in_ok-flush-in-WantsByte.ensures.empty silent t.given c.note.ensures.waits)
          (key_fills c.note.result c.step_apart.new.self configuration (advance data_start configuration) _ _ c.step_apart.result silent
          c.note.ensures.full) _ _
          (key_ok_few c.note.result data_start configuration _ _ _ c.step_apart.result _ _ _ c.in_ok-flush-in-WantsByte.ensures.empty silent c.flush.ensures.writes
          c.note.ensures.fewer)
          (key_err_few c.note.result data_start configuration _ _ c.step_apart.result _ _ _ c.in_ok-flush-in-WantsByte.ensures.empty silent
          c.flush.ensures.writes c.note.ensures.writes);
    }

pub returns-in_ok-byte-in-WantsByte-clause-given : goal.returns-in_ok-byte-in-WantsByte-clause-given
returns-in_ok-byte-in-WantsByte-clause-given g c =
    used _ c.give_byte.new.self c.step_apart.new.self c.step_apart.ensures.due c.step_apart.ensures.step (has_its_byte c.step.new.self c.give_byte.new.self c.step_apart.new.self _ _ c.give_byte.ensures c.step_apart.ensures.step)

pub returns-in_ok-byte-in-WantsByte-clause-quiet : goal.returns-in_ok-byte-in-WantsByte-clause-quiet
returns-in_ok-byte-in-WantsByte-clause-quiet g c = λ apart. absurd (apart (wants _ c.args.machine.now c.step.new.self c.step.ensures.step c.in-WantsByte.is).0)

pub returns-in_ok-byte-in-WantsByte-clause-ended : goal.returns-in_ok-byte-in-WantsByte-clause-ended
returns-in_ok-byte-in-WantsByte-clause-ended g c =
    subst (λ x. IfOk c.note.result (λ end. end ≡ x))
    (sym
    (ended_is _ c.give_byte.new.self c.step_apart.new.self c.step_apart.ensures.step
    (has_its_byte c.step.new.self c.give_byte.new.self c.step_apart.new.self _ _ c.give_byte.ensures c.step_apart.ensures.step))) c.note.ensures.end

pub returns-in_default : goal.returns-in_default
returns-in_default g c =
    let read_clash : c.note-in_default.result ≡ Err Read → ⊥ = λ e. let f = on_err c.note-in_default.result _ _ c.note-in_default.ensures.err e in cc in
    record {
      room = c.note-in_default.ensures.room;
      read_cause = λ e. absurd (read_clash e);
      write_cause = λ e. on_err c.note-in_default.result _ _ c.note-in_default.ensures.cause.failed e;
      console_faults = omega arith;
      out_faults = c.note-in_default.ensures.cause.later;
      ended = subst (λ x. IfOk c.note-in_default.result (λ end. end ≡ x)) (sym (ended_is _ c.args.machine.now c.step.new.self c.step.ensures.step c.in_default.not-WantsByte)) c.note-in_default.ensures.end;
      over = steps_keep_end _ c.args.machine.now c.step.new.self c.step.ensures.step;
      wants = λ e. absurd (read_clash e);
      kept = λ e. absurd (read_clash e);
      given = used _ c.args.machine.now c.step.new.self c.step.ensures.due c.step.ensures.step c.in_default.not-WantsByte;
      quiet = λ apart. refl;
      calls = omega arith;
      grows = c.note-in_default.ensures.grows;
      run = record {
        taken = c.args.machine.now.given;
        calls = omega arith;
        takes = given_taken c.args.machine.now c.step.new.self _ _ c.step.ensures.due c.step.ensures.step;
        ends = λ configuration fits data_start before left after l a.
            let t = stepped configuration fits c.args.machine.now c.step.new.self data_start _ left after before _ _ a c.step.ensures.due c.step.ensures.step c.in_default.not-WantsByte l in
            let printed = stepped_prints configuration fits c.args.machine.now c.step.new.self data_start _ left after before _ _ a c.step.ensures.due c.step.ensures.step c.in_default.not-WantsByte l in
            noted c.note-in_default.result _ c.args.machine.now c.args.buffer.now configuration fits c.step.new.self data_start after before _ _ _ _ _ t
            c.note-in_default.ensures.err (c.note-in_default.ensures.ok before (advance data_start configuration).printed t.at.out)
            (c.note-in_default.ensures.front before (advance data_start configuration).printed t.at.out)
            (on_ok_follows c.note-in_default.result configuration fits c.args.machine.now c.step.new.self data_start _ left after before _ _ _ a
            c.step.ensures.due c.step.ensures.step c.in_default.not-WantsByte l t.at.left_is c.note-in_default.ensures.waits)
            (on_err_fills c.note-in_default.result configuration fits c.args.machine.now c.step.new.self data_start _ left after before _ _ a c.step.ensures.due
            c.step.ensures.step c.in_default.not-WantsByte l t.at.left_is c.note-in_default.ensures.full) _ _
            (on_ok_few c.note-in_default.result configuration (advance data_start configuration) _ _ _ _ _ printed c.note-in_default.ensures.fewer)
            (on_err_few c.note-in_default.result configuration (advance data_start configuration) _ _ _ _ printed c.note-in_default.ensures.writes);
      };
    }

pub note-requires-clause-answered : goal.note-requires-clause-answered
note-requires-clause-answered g c = has_its_byte c.step.new.self c.give_byte.new.self c.step_apart.new.self _ _ c.give_byte.ensures c.step_apart.ensures.step

pub returns-in_err-flush-in-WantsByte-clause-over : goal.returns-in_err-flush-in-WantsByte-clause-over
returns-in_err-flush-in-WantsByte-clause-over g c = wanting_keeps_end c.args.machine.now _ (wants _ c.args.machine.now c.step.new.self c.step.ensures.step c.in-WantsByte.is).0

pub returns-in_err-byte-in-WantsByte-clause-over : goal.returns-in_err-byte-in-WantsByte-clause-over
returns-in_err-byte-in-WantsByte-clause-over g c = wanting_keeps_end c.args.machine.now _ (wants _ c.args.machine.now c.step.new.self c.step.ensures.step c.in-WantsByte.is).0

pub returns-in_ok-byte-in-WantsByte-clause-over : goal.returns-in_ok-byte-in-WantsByte-clause-over
returns-in_ok-byte-in-WantsByte-clause-over g c = wanting_keeps_end c.args.machine.now _ (wants _ c.args.machine.now c.step.new.self c.step.ensures.step c.in-WantsByte.is).0

pub returns-in_ok-byte-in-WantsByte-clause-grows : goal.returns-in_ok-byte-in-WantsByte-clause-grows
returns-in_ok-byte-in-WantsByte-clause-grows g c =
    grows_then _ _ _ (grows_flushed _ _ _ c.in_ok-flush-in-WantsByte.ensures.bytes) c.note.ensures.grows
