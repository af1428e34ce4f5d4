-- What a session leaves outside, and what it answers.
use Rattle.std.proofs.Common.{◌≡◌, inl, inr, ℕ, refl, sym, ap, subst}
use Rattle.std.specs.Prelude.{◌⊎◌, Result, Ok, Err}
use Rattle.j1_simulator.specs.declared.ends.Finish.{Finish}
use Rattle.j1_simulator.specs.declared.ends.Finish.TheVariants.{Ended, StepsUsed as OutOfSteps}
use Rattle.j1_simulator.specs.declared.ends.DriveError.{DriveError}
use Rattle.j1_simulator.specs.declared.ends.DriveError.TheVariants.{Read, Write}
use Rattle.j1_simulator.specs.MachineState.{machine_start}
use Rattle.j1_simulator.specs.RoundMachine.{round_storage}
use Rattle.j1_simulator.specs.Laws.{OnlyGrows}
use Rattle.target_forth.specs.declared.sessions.SessionError.{SessionError}
use Rattle.target_forth.specs.declared.sessions.SessionError.TheVariants as session
use Rattle.target_forth.specs.Kernel.{kernel}
use Rattle.target_forth.specs.Session.{Stream as SessionStream, stream as session_stream, IsDrive, SessionLeaves}
use Rattle.j1_workbench.specs.declared.status.Status.{Status}
use Rattle.j1_workbench.specs.declared.status.Status.TheVariants.{Done, StepsUsed, InputEnded, Outside, Halted, OutOfMemory}
use Rattle.j1_workbench.specs.Surroundings.{FolderState, Stream, stream, Surroundings, surroundings}
use Rattle.j1_workbench.specs.Driving.{IsRunAnswer, Drives, status_after}
use Rattle.j1_workbench.specs.Serving.{ended_status, session_status, IsSessionAnswer, RunsKernel, Serves}
use Rattle.j1_workbench.specs.Completeness.{FailsNowhere}
use Rattle.j1_workbench.proofs.Drives.{drives}

-- the same stream, as a session sees it, and back
abbrev told : Stream → SessionStream
told s = session_stream s.bytes s.calls s.faults

abbrev heard : SessionStream → Stream
heard s = stream s.bytes s.calls s.faults

-- what a session says of its drive is what a drive of an image says
as_driven : OnlyGrows round_storage → (steps : ℕ) (folder : FolderState) (console_before console_after out_before out_after : Stream) (result : Result Finish DriveError) →
    (d : IsDrive (machine_start kernel) steps (told console_before) (told console_after) (told out_before) (told out_after) result) →
    RunsKernel steps (surroundings folder console_before out_before) (surroundings folder console_after out_after) (ended_status (status_after result))
as_driven grows steps folder console_before console_after out_before out_after result d = record {
  driven = status_after result;
  drives = drives grows kernel steps (machine_start kernel) d.machine result (status_after result) console_before console_after out_before out_after refl
      d.run d.read d.write d.at_most d.calls d.finish d.wants refl d.read_cause d.write_cause d.console_faults d.out_faults;
  answer = refl;
}

served_as : OnlyGrows round_storage → (steps : ℕ) (folder : FolderState) (console_before console_after out_before out_after : Stream) (result : Result Finish SessionError) →
    SessionLeaves kernel steps (told console_before) (told console_after) (told out_before) (told out_after) result →
    Serves steps (surroundings folder console_before out_before) (surroundings folder console_after out_after) (session_status result)
unfolding Serves
served_as grows steps folder console_before console_after out_before out_after (Ok (Ended end)) d = (refl, inr (as_driven grows steps folder console_before console_after out_before out_after (Ok (Ended end)) d))
served_as grows steps folder console_before console_after out_before out_after (Ok OutOfSteps) d = (refl, inr (as_driven grows steps folder console_before console_after out_before out_after (Ok OutOfSteps) d))
served_as grows steps folder console_before console_after out_before out_after (Err session.Read) d = (refl, inr (as_driven grows steps folder console_before console_after out_before out_after (Err Read) d))
served_as grows steps folder console_before console_after out_before out_after (Err session.Write) d = (refl, inr (as_driven grows steps folder console_before console_after out_before out_after (Err Write) d))
served_as grows steps folder console_before console_after out_before out_after (Err session.OutOfMemory) d = (refl, inl (refl, (ap heard d.0, ap heard d.1)))

pub served : OnlyGrows round_storage → (steps : ℕ) (folder : FolderState) (console_before console_after out_before out_after : Stream) (result : Result Finish SessionError) (status : Status) →
    SessionLeaves kernel steps (told console_before) (told console_after) (told out_before) (told out_after) result → status ≡ session_status result →
    Serves steps (surroundings folder console_before out_before) (surroundings folder console_after out_after) status
served grows steps folder console_before console_after out_before out_after result status d is =
    subst (Serves steps (surroundings folder console_before out_before) (surroundings folder console_after out_after)) (sym is) (served_as grows steps folder console_before console_after out_before out_after result d)

run_is_session : (status : Status) → IsRunAnswer status → IsSessionAnswer (ended_status status)
run_is_session Done a = tt
run_is_session StepsUsed a = tt
run_is_session InputEnded a = tt
run_is_session (Outside address) a = tt
run_is_session (Halted status) a = tt
run_is_session status a = absurd a

answered : (steps : ℕ) (before after : Surroundings) (status : Status) → RunsKernel steps before after status → FailsNowhere before after → IsSessionAnswer status
answered steps before after status runs calm =
    subst IsSessionAnswer (sym runs.answer)
    (elim runs.drives.answered [
      | inl read ↦ absurd (calm.console (runs.drives.read_fault read))
      | inr (inl write) ↦ absurd (calm.out (runs.drives.write_fault write))
      | inr (inr answer) ↦ run_is_session runs.driven answer
    ])

pub session_complete : (steps : ℕ) (before after : Surroundings) (status : Status) → Serves steps before after status → FailsNowhere before after → (status ≡ OutOfMemory) ⊎ IsSessionAnswer status
unfolding Serves
session_complete steps before after status (folder, inl wanting) calm = inl wanting.0
session_complete steps before after status (folder, inr runs) calm = inr (answered steps before after status runs calm)
