use Rattle.std.proofs.Common.{ap, ◌∙◌, Err}
use Rattle.target_forth.proofs.Drives.{moved}
use Rattle.target_forth.proofs.sessions.session.Goals as goal

pub returns-in-Err-Read : goal.returns-in-Err-Read
returns-in-Err-Read g c =
    moved (c.in-Err-Read.is ∙ ap Err c.in-Err-Read.field-0-is) c.in-Ok.ensures (record {
      machine = c.drive.new.machine;
      run = c.drive.ensures.run;
      read = c.drive.ensures.read;
      write = c.drive.ensures.write;
      at_most = c.drive.ensures.at_most;
      finish = c.drive.ensures.finish;
      wants = c.drive.ensures.wants;
      calls = c.drive.ensures.calls;
      read_cause = c.drive.ensures.read_cause;
      write_cause = c.drive.ensures.write_cause;
      console_faults = c.drive.ensures.console_faults;
      out_faults = c.drive.ensures.out_faults;
    })

pub returns : goal.returns
returns g c =
    moved (c.in-Err-Write.is ∙ ap Err c.in-Err-Write.field-0-is) c.in-Ok.ensures (record {
      machine = c.drive.new.machine;
      run = c.drive.ensures.run;
      read = c.drive.ensures.read;
      write = c.drive.ensures.write;
      at_most = c.drive.ensures.at_most;
      finish = c.drive.ensures.finish;
      wants = c.drive.ensures.wants;
      calls = c.drive.ensures.calls;
      read_cause = c.drive.ensures.read_cause;
      write_cause = c.drive.ensures.write_cause;
      console_faults = c.drive.ensures.console_faults;
      out_faults = c.drive.ensures.out_faults;
    })
