-- What a drive from the start leaves, as the status tells it.
use Rattle.std.proofs.Common.{◌≡◌, ◌⊎◌, inl, inr, ℕ, zero, suc, ◌+◌, ◌<◌, ◌≤◌, List, [], ◌++◌, length, Bool, refl, sym, ap, ◌∙◌, subst, arith}
use Rattle.std.specs.Prelude.{Option, Some, None, option_map, Result, Ok, Err, IfSome, IfOk, OnOk}
use Rattle.std.specs.Io.KnownBytes.{Appends}
use Rattle.std.proofs.lemmas.List.{append-nil}
use Rattle.j1_table.specs.Image.{Content}
use Rattle.j1_simulator.specs.declared.ends.End.{End}
use Rattle.j1_simulator.specs.declared.ends.End.TheVariants as ends
use Rattle.j1_simulator.specs.declared.ends.Finish.{Finish}
use Rattle.j1_simulator.specs.declared.ends.Finish.TheVariants.{Ended, StepsUsed}
use Rattle.j1_simulator.specs.declared.ends.DriveError.{DriveError}
use Rattle.j1_simulator.specs.declared.ends.DriveError.TheVariants.{Read, Write}
use Rattle.j1_simulator.specs.MachineState.{MachineState, WantsAByte, IsTaking, machine_start}
use Rattle.j1_simulator.specs.Step.{By, step}
use Rattle.outside_io.specs.Causes.{Rose}
use Rattle.j1_simulator.specs.Run.{round_run}
use Rattle.j1_simulator.specs.RoundMachine.{round_storage}
use Rattle.j1_simulator.specs.Drive.{HoldsPrints, StandsAt, IsAt, going_on, IsDriven, IsBrokenOff, MadeAtMost, in_vain as asked_in_vain, end_told}
use Rattle.j1_simulator.specs.Laws.{OnlyGrows}
use Rattle.j1_workbench.specs.declared.status.Status.{Status}
use Rattle.j1_workbench.specs.declared.status.Status.TheVariants.{Done, StepsUsed as OutOfSteps, InputEnded}
use Rattle.j1_workbench.specs.declared.status.Status.TheVariants.{Outside, Halted, ReadFault, WriteFault}
use Rattle.j1_workbench.specs.Statuses.{status_of, halted_status}
use Rattle.j1_workbench.specs.Surroundings.{Stream}
use Rattle.j1_workbench.specs.Driving.{IsRunAnswer, RanAs, DriveLeaves, in_vain, Gave, Drives, status_after}

-- where nothing waits in the buffer, all that was printed stands in out
all_written : (before now : Option (List ℕ)) (printed : List ℕ) → HoldsPrints before now [] printed → Appends before now printed
all_written None now printed held = tt
all_written (Some old) None printed held = absurd held
all_written (Some old) (Some new) printed held = held.1 ∙ ap (λ l. old ++ l) (sym (append-nil held.0) ∙ held.2)

ran : (image : Content) (input : List ℕ) (steps : ℕ) (fits : Bool) (after : MachineState) (end : Option End) (status : Status) (left before now : Option (List ℕ)) →
    IsAt (round_run image input steps) fits after image.data_start left before now [] → end ≡ after.ended → status ≡ status_of end → RanAs image input steps status left before now
ran image input steps fits after end status left before now at same is =
    record { end = after.ended; end_is = at.stands.ended; status_is = is ∙ ap status_of same; left_is = at.left_is; printed = all_written before now _ at.out }

-- each end of a run gives the answer of a run
halted_is_answer : (status : ℕ) → IsRunAnswer (halted_status status)
halted_is_answer zero = tt
halted_is_answer (suc n) = tt

end_is_answer : (end : Option End) → IsRunAnswer (status_of end)
end_is_answer None = tt
end_is_answer (Some (ends.Halted status)) = halted_is_answer status
end_is_answer (Some ends.InputEnded) = tt
end_is_answer (Some (ends.Outside address)) = tt

as_run : (image : Content) (input : List ℕ) (steps : ℕ) (status : Status) (left before now : Option (List ℕ)) → IsRunAnswer status → RanAs image input steps status left before now → DriveLeaves image input steps steps status left before now
as_run image input steps Done left before now answer ran = (answer, refl, ran)
as_run image input steps OutOfSteps left before now answer ran = (answer, refl, ran)
as_run image input steps InputEnded left before now answer ran = (answer, refl, ran)
as_run image input steps (Outside address) left before now answer ran = (answer, refl, ran)
as_run image input steps (Halted status) left before now answer ran = (answer, refl, ran)
as_run image input steps ReadFault left before now answer ran = absurd answer
as_run image input steps WriteFault left before now answer ran = absurd answer
as_run image input steps status left before now answer ran = absurd answer

-- what an Ok, a failed read and a failed write say
abbrev pub OkSays : ℕ → MachineState → MachineState → Result Finish DriveError → Option (List ℕ) → Option (List ℕ) → Option (List ℕ) → List ℕ → Type 0
OkSays steps machine after result left_now before now bytes =
    OnOk result (IsDriven machine steps bytes after left_now before now [])

abbrev pub ReadSays : ℕ → MachineState → MachineState → Result Finish DriveError → Option (List ℕ) → Option (List ℕ) → Option (List ℕ) → List ℕ → Type 0
ReadSays steps machine after result left_now before now bytes =
    result ≡ Err Read → (k : ℕ) × (k < steps) × IsDriven machine k bytes after left_now before now []

abbrev pub WriteSays : ℕ → MachineState → MachineState → Result Finish DriveError → Option (List ℕ) → Option (List ℕ) → Option (List ℕ) → List ℕ → Type 0
WriteSays steps machine after result left_now before now bytes =
    result ≡ Err Write → IsBrokenOff steps machine bytes after left_now before now

-- the next instruction takes a byte
due_there : (image : Content) (input : List ℕ) (k : ℕ) (fits : Bool) (after : MachineState) → StandsAt (round_run image input k) fits after image.data_start →
    WantsAByte after → IsTaking (step round_storage image.data_start (round_run image input k).core)
due_there image input k fits after stands wants =
    subst (λ d. IsTaking (step round_storage d (round_run image input k).core)) stands.start_is
    (subst (λ c. IsTaking (step round_storage after.data_start c)) stands.core wants.taking)

leaves : (image : Content) (input : List ℕ) (steps : ℕ) (after : MachineState) (result : Result Finish DriveError) (left before now : Option (List ℕ)) →
    OkSays steps (machine_start image) after result left before now input → ReadSays steps (machine_start image) after result left before now input → WriteSays steps (machine_start image) after result left before now input →
    IfOk result (λ finish. end_told finish ≡ after.ended) → (result ≡ Err Read → WantsAByte after) → (made : ℕ) × DriveLeaves image input steps made (status_after result) left before now
leaves image input steps after (Ok (Ended end)) left before now at read write same wants =
    (steps, as_run image input steps (status_of (Some end)) left before now (end_is_answer (Some end)) (ran image input steps _ after (Some end) (status_of (Some end)) left before now at same refl))
leaves image input steps after (Ok StepsUsed) left before now at read write same wants =
    (steps, (tt, refl, ran image input steps _ after None OutOfSteps left before now at same refl))
leaves image input steps after (Err Read) left before now at read write same wants =
    let told = read refl in
    (told.0, record { within = omega arith; left_is = told.2.left_is; printed = all_written before now _ told.2.out; due = due_there image input told.0 _ after told.2.stands (wants refl) })
leaves image input steps after (Err Write) left before now at read write same wants =
    let told = write refl in
    (told.made, record { within = told.within; left_is = told.stands.left_is; front = told.stands.front; lacks = told.lacks })

answer_of : (result : Result Finish DriveError) → (status_after result ≡ ReadFault) ⊎ ((status_after result ≡ WriteFault) ⊎ IsRunAnswer (status_after result))
answer_of (Ok (Ended end)) = inr (inr (end_is_answer (Some end)))
answer_of (Ok StepsUsed) = inr (inr tt)
answer_of (Err Read) = inl refl
answer_of (Err Write) = inr (inl refl)

no_end_faults : (fault : Status) (end : Option End) → (IsRunAnswer fault → ⊥) → status_of end ≡ fault → ⊥
no_end_faults fault end other same = other (subst IsRunAnswer same (end_is_answer end))

read_failed : (result : Result Finish DriveError) → status_after result ≡ ReadFault → result ≡ Err Read
read_failed (Ok (Ended end)) same = absurd (no_end_faults ReadFault (Some end) (λ answer. answer) same)
read_failed (Ok StepsUsed) same = cc
read_failed (Err Read) same = refl
read_failed (Err Write) same = cc

write_failed : (result : Result Finish DriveError) → status_after result ≡ WriteFault → result ≡ Err Write
write_failed (Ok (Ended end)) same = absurd (no_end_faults WriteFault (Some end) (λ answer. answer) same)
write_failed (Ok StepsUsed) same = cc
write_failed (Err Read) same = cc
write_failed (Err Write) same = refl

-- ---- what the drive leaves on the bytes that the console gave

-- what holds after some instructions of a run that has ended holds after more
ended_later : OnlyGrows round_storage → (image : Content) (bytes : List ℕ) (made steps : ℕ) (fits : Bool) (after : MachineState) (end : End) → made ≤ steps →
    StandsAt (round_run image bytes made) fits after image.data_start → Some end ≡ after.ended → round_run image bytes steps ≡ round_run image bytes made
ended_later grows image bytes made steps fits after end le stands told =
    grows.ends image.data_start made steps (going_on (machine_start image) bytes) (By end) le (sym stands.ended ∙ ap (option_map By) (sym told))

-- after so many instructions the drive leaves this, the run has the end of the machine, and out was called at most once for each byte
pub record LeftAfter (image : Content) (bytes : List ℕ) (steps : ℕ) (status : Status) (end : Option End) (before now : Option (List ℕ)) (writes writes_now : ℕ) : Type 0 where
  pub made : ℕ
  pub leaves : DriveLeaves image bytes steps made status (Some []) before now
  pub stop_is : option_map By end ≡ (round_run image bytes made).stop
  pub few : writes_now ≤ writes + length (round_run image bytes made).printed

left_after : OnlyGrows round_storage →
    (image : Content) (steps : ℕ) (after : MachineState) (result : Result Finish DriveError) (left before_left before now : Option (List ℕ))
    (calls calls_now writes writes_now : ℕ) → (m : MadeAtMost steps result (machine_start image) after before_left left before now calls calls_now writes writes_now) →
    IfOk result (λ finish. end_told finish ≡ after.ended) → (result ≡ Err Read → WantsAByte after) →
    LeftAfter image m.bytes steps (status_after result) after.ended before now writes writes_now
left_after grows image steps after (Ok (Ended end)) left before_left before now calls calls_now writes writes_now m same wants =
    let later : round_run image m.bytes steps ≡ round_run image m.bytes m.made = ended_later grows image m.bytes m.made steps _ after end m.within m.stands same in
    let at : RanAs image m.bytes steps (status_of (Some end)) (Some []) before now = record {
      end = Some end;
      end_is = ap (option_map By) same ∙ m.stands.ended ∙ ap (λ c. c.stop) (sym later);
      status_is = refl;
      left_is = m.used ∙ ap (λ c. Some c.input) (sym later);
      printed = subst (λ c. Appends before now c.printed) (sym later) (all_written before now _ (m.written (λ e. cc)));
    } in record {
      made = steps;
      leaves = as_run image m.bytes steps (status_of (Some end)) (Some []) before now (end_is_answer (Some end)) at;
      stop_is = m.stands.ended ∙ ap (λ c. c.stop) (sym later);
      few = subst (λ c. writes_now ≤ writes + length c.printed) (sym later) m.writes;
    }
left_after grows image steps after (Ok StepsUsed) left before_left before now calls calls_now writes writes_now m same wants =
    let whole : m.made ≡ steps = m.all refl in
    let at : RanAs image m.bytes m.made OutOfSteps (Some []) before now = record {
      end = None;
      end_is = ap (option_map By) same ∙ m.stands.ended;
      status_is = refl;
      left_is = m.used;
      printed = all_written before now _ (m.written (λ e. cc));
    } in record {
      made = steps;
      leaves = (tt, refl, subst (λ n. RanAs image m.bytes n OutOfSteps (Some []) before now) whole at);
      stop_is = m.stands.ended ∙ ap (λ n. (round_run image m.bytes n).stop) whole;
      few = subst (λ n. writes_now ≤ writes + length (round_run image m.bytes n).printed) whole m.writes;
    }
left_after grows image steps after (Err Read) left before_left before now calls calls_now writes writes_now m same wants = record {
  made = m.made;
  leaves = record { within = m.within; left_is = m.used; printed = all_written before now _ (m.written (λ e. cc)); due = due_there image m.bytes m.made _ after m.stands (wants refl) };
  stop_is = m.stands.ended;
  few = m.writes;
}
left_after grows image steps after (Err Write) left before_left before now calls calls_now writes writes_now m same wants = record {
  made = m.made;
  leaves = record { within = m.within; left_is = m.used; front = m.front; lacks = m.lacks refl };
  stop_is = m.stands.ended;
  few = m.writes;
}

-- by the end of the machine, what the answer tells of it
vain_as_told : (result : Result Finish DriveError) (end : Option End) → IfOk result (λ finish. end_told finish ≡ end) →
    asked_in_vain result end ≤ in_vain (status_after result) (option_map By end)
vain_as_told (Ok (Ended ends.InputEnded)) end same = subst (λ e. asked_in_vain (Ok (Ended ends.InputEnded)) e ≤ in_vain InputEnded (option_map By e)) same (omega arith)
vain_as_told (Ok (Ended (ends.Outside address))) end same =
    subst (λ e. asked_in_vain (Ok (Ended (ends.Outside address))) e ≤ in_vain (Outside address) (option_map By e)) same (omega arith)
vain_as_told (Ok (Ended (ends.Halted status))) end same =
    subst (λ e. asked_in_vain (Ok (Ended (ends.Halted status))) e ≤ in_vain (halted_status status) (option_map By e)) same (omega arith)
vain_as_told (Ok StepsUsed) end same = subst (λ e. asked_in_vain (Ok StepsUsed) e ≤ in_vain OutOfSteps (option_map By e)) same (omega arith)
vain_as_told (Err Read) end same = omega arith
vain_as_told (Err Write) None same = omega arith
vain_as_told (Err Write) (Some ends.InputEnded) same = omega arith
vain_as_told (Err Write) (Some (ends.Outside address)) same = omega arith
vain_as_told (Err Write) (Some (ends.Halted status)) same = omega arith

gave : OnlyGrows round_storage →
    (image : Content) (steps : ℕ) (after : MachineState) (result : Result Finish DriveError) (console_before console_after out_before out_after : Stream) →
    MadeAtMost steps result (machine_start image) after console_before.bytes console_after.bytes out_before.bytes out_after.bytes console_before.calls
    console_after.calls out_before.calls out_after.calls →
    IfOk result (λ finish. end_told finish ≡ after.ended) → (result ≡ Err Read → WantsAByte after) → Gave image steps console_before console_after out_before out_after (status_after result)
gave grows image steps after result console_before console_after out_before out_after m same wants =
    let found = left_after grows image steps after result console_after.bytes console_before.bytes out_before.bytes out_after.bytes console_before.calls console_after.calls
    out_before.calls out_after.calls m same wants in
    let most = subst (λ stop. asked_in_vain result after.ended ≤ in_vain (status_after result) stop) found.stop_is (vain_as_told result after.ended same) in
    record {
      bytes = m.bytes;
      took = m.took;
      made = found.made;
      leaves = found.leaves;
      calls = omega (arith, m.calls, most);
      writes = found.few;
    }

-- a drive from the start, over a console that may tell its bytes
pub drives : OnlyGrows round_storage → (image : Content) (steps : ℕ) (machine after : MachineState) (result : Result Finish DriveError) (status : Status) (console_before console_after out_before out_after : Stream) →
    machine ≡ machine_start image →
    IfSome console_before.bytes (OkSays steps machine after result console_after.bytes out_before.bytes out_after.bytes) →
    IfSome console_before.bytes (ReadSays steps machine after result console_after.bytes out_before.bytes out_after.bytes) →
    IfSome console_before.bytes (WriteSays steps machine after result console_after.bytes out_before.bytes out_after.bytes) →
    MadeAtMost steps result machine after console_before.bytes console_after.bytes out_before.bytes out_after.bytes console_before.calls console_after.calls
    out_before.calls out_after.calls → console_after.calls ≤ console_before.calls + steps →
    IfOk result (λ finish. end_told finish ≡ after.ended) → (result ≡ Err Read → WantsAByte after) → status ≡ status_after result →
    (result ≡ Err Read → Rose console_before.faults console_after.faults) → (result ≡ Err Write → Rose out_before.faults out_after.faults) →
    console_before.faults ≤ console_after.faults → out_before.faults ≤ out_after.faults →
    Drives image steps console_before console_after out_before out_after status
drives grows image steps machine after result status console_before console_after out_before out_after begins run read write made calls same wants is read_cause write_cause console_later out_later = record {
  answered = subst (λ s. (s ≡ ReadFault) ⊎ ((s ≡ WriteFault) ⊎ IsRunAnswer s)) (sym is) (answer_of result);
  leaves = λ input told.
      let at = subst (λ b. IfSome b (OkSays steps machine after result console_after.bytes out_before.bytes out_after.bytes)) told run in
      let failed = subst (λ b. IfSome b (ReadSays steps machine after result console_after.bytes out_before.bytes out_after.bytes)) told read in
      let broken = subst (λ b. IfSome b (WriteSays steps machine after result console_after.bytes out_before.bytes out_after.bytes)) told write in
      subst (λ s. (made : ℕ) × DriveLeaves image input steps made s console_after.bytes out_before.bytes out_after.bytes) (sym is)
      (leaves image input steps after result console_after.bytes out_before.bytes out_after.bytes
      (subst (λ m. OkSays steps m after result console_after.bytes out_before.bytes out_after.bytes input) begins at)
      (subst (λ m. ReadSays steps m after result console_after.bytes out_before.bytes out_after.bytes input) begins failed)
      (subst (λ m. WriteSays steps m after result console_after.bytes out_before.bytes out_after.bytes input) begins broken)
      same wants);
  gave = subst (λ s. Gave image steps console_before console_after out_before out_after s) (sym is)
      (gave grows image steps after result console_before console_after out_before out_after
      (subst
      (λ m.
      MadeAtMost steps result m after console_before.bytes console_after.bytes out_before.bytes out_after.bytes console_before.calls
      console_after.calls out_before.calls out_after.calls) begins made) same wants);
  calls = calls;
  read_fault = λ fault. read_cause (read_failed result (sym is ∙ fault));
  write_fault = λ fault. write_cause (write_failed result (sym is ∙ fault));
  console_faults = console_later;
  out_faults = out_later;
}
