-- A drive that begins at a machine and gives an answer, as that of an equal machine with an equal answer.
use Rattle.std.proofs.Common.{◌≡◌, ℕ, subst}
use Rattle.std.specs.Prelude.{Result}
use Rattle.j1_simulator.specs.declared.ends.Finish.{Finish}
use Rattle.j1_simulator.specs.declared.ends.DriveError.{DriveError}
use Rattle.j1_simulator.specs.MachineState.{MachineState}
use Rattle.target_forth.specs.Session.{Stream, IsDrive}

pub moved : {n : ℕ} {begun start : MachineState} {console_before console_after out_before out_after : Stream} {given result : Result Finish DriveError} →
    given ≡ result → begun ≡ start → IsDrive begun n console_before console_after out_before out_after given → IsDrive start n console_before console_after out_before out_after result
moved {n = n} {begun = begun} {console_before = a} {console_after = b} {out_before = c} {out_after = d} {given = given} {result = result} answers begins drive =
    subst (λ m. IsDrive m n a b c d result) begins (subst (λ r. IsDrive begun n a b c d r) answers drive)
