-- The number of each status, and the status of a run's end.
use Rattle.std.specs.Prelude.{ℕ, zero, suc, Option, Some, None}
use Rattle.j1_workbench.specs.declared.status.Status.{Status}
use Rattle.j1_workbench.specs.declared.status.Status.TheVariants.{Done, BadWords, Missing, SourceRefused, NotCertified, StepsUsed, InputEnded, Outside, Halted}
use Rattle.j1_workbench.specs.declared.status.Status.TheVariants.{ReadFault, WriteFault, OutOfMemory, TooLarge, Underflow, Unbalanced, BadImage, BadListing, BoundRefused, BadNet}
use Rattle.j1_simulator.specs.declared.ends.End.{End}
use Rattle.j1_simulator.specs.declared.ends.End.TheVariants as ends

abbrev pub number_of : Status → ℕ
number_of Done = 0
number_of BadWords = 1
number_of Missing = 2
number_of (SourceRefused refusal) = 3
number_of (NotCertified id cause) = 4
number_of (BadImage offset) = 5
number_of (BadListing line) = 5
number_of StepsUsed = 6
number_of InputEnded = 7
number_of (Outside address) = 8
number_of (Halted status) = 9
number_of ReadFault = 10
number_of WriteFault = 11
number_of OutOfMemory = 12
number_of TooLarge = 13
number_of Underflow = 14
number_of Unbalanced = 14
number_of (BoundRefused id cause) = 16
number_of (BadNet line) = 17

-- a halt with 0 is success
abbrev pub halted_status : ℕ → Status
halted_status zero = Done
halted_status (suc n) = Halted (suc n)

-- the status of a run with this end, or with none
abbrev pub status_of : Option End → Status
status_of None = StepsUsed
status_of (Some (ends.Halted status)) = halted_status status
status_of (Some ends.InputEnded) = InputEnded
status_of (Some (ends.Outside address)) = Outside address
