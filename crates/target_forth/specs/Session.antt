-- Sessions: drives of the kernel's image from its start.
use Rattle.std.specs.Prelude.{◌≡◌, ℕ, ◌+◌, ◌<◌, ◌≤◌, List, [], Option, Result, Ok, Err, IfSome, IfOk, OnOk}
use Rattle.outside_io.specs.Causes.{Rose}
use Rattle.j1_table.specs.Image.{Content}
use Rattle.j1_simulator.specs.declared.ends.Finish.{Finish}
use Rattle.j1_simulator.specs.declared.ends.DriveError.{DriveError}
use Rattle.j1_simulator.specs.declared.ends.DriveError.TheVariants.{Read, Write}
use Rattle.j1_simulator.specs.MachineState.{MachineState, WantsAByte, machine_start}
use Rattle.j1_simulator.specs.Drive.{IsDriven, IsBrokenOff, MadeAtMost, end_told}
use Rattle.target_forth.specs.declared.sessions.SessionError.{SessionError}
use Rattle.target_forth.specs.declared.sessions.SessionError.TheVariants as session

-- a stream: the bytes that are left to be read, or that were written to it, where it tells them; and its counts of calls and of faults
pub record Stream : Type 0 where
  pub bytes : Option (List ℕ)
  pub calls : ℕ
  pub faults : ℕ

abbrev pub stream : Option (List ℕ) → ℕ → ℕ → Stream
stream bytes calls faults = record { bytes = bytes; calls = calls; faults = faults }

-- a machine was driven for at most n instructions, by all that the simulator says of a drive: it has come to where its run on the console's bytes has
-- come to, out has what that run printed, each fault has its cause, and each question and each write is counted
pub record IsDrive (start : MachineState) (n : ℕ) (console_before console_after out_before out_after : Stream) (result : Result Finish DriveError) : Type 0 where
  pub machine : MachineState
  pub run : IfSome console_before.bytes (λ bytes. OnOk result (IsDriven start n bytes machine console_after.bytes out_before.bytes out_after.bytes []))
  pub read : IfSome console_before.bytes (λ bytes. result ≡ Err Read →
      (k : ℕ) × (k < n) × IsDriven start k bytes machine console_after.bytes out_before.bytes out_after.bytes [])
  pub write : IfSome console_before.bytes (λ bytes. result ≡ Err Write → IsBrokenOff n start bytes machine console_after.bytes out_before.bytes out_after.bytes)
  pub at_most : MadeAtMost n result start machine console_before.bytes console_after.bytes out_before.bytes out_after.bytes console_before.calls console_after.calls out_before.calls out_after.calls
  pub finish : IfOk result (λ finish. end_told finish ≡ machine.ended)
  pub wants : result ≡ Err Read → WantsAByte machine
  pub calls : console_after.calls ≤ console_before.calls + n
  pub read_cause : result ≡ Err Read → Rose console_before.faults console_after.faults
  pub write_cause : result ≡ Err Write → Rose out_before.faults out_after.faults
  pub console_faults : console_before.faults ≤ console_after.faults
  pub out_faults : out_before.faults ≤ out_after.faults

-- what a session leaves: its answer is that of the drive, and where there was no memory nothing was asked for and nothing printed
abbrev pub SessionLeaves : Content → ℕ → Stream → Stream → Stream → Stream → Result Finish SessionError → Type 0
SessionLeaves image n console_before console_after out_before out_after (Ok finish) = IsDrive (machine_start image) n console_before console_after out_before out_after (Ok finish)
SessionLeaves image n console_before console_after out_before out_after (Err session.Read) = IsDrive (machine_start image) n console_before console_after out_before out_after (Err Read)
SessionLeaves image n console_before console_after out_before out_after (Err session.Write) = IsDrive (machine_start image) n console_before console_after out_before out_after (Err Write)
SessionLeaves image n console_before console_after out_before out_after (Err session.OutOfMemory) = (console_after ≡ console_before) × (out_after ≡ out_before)
