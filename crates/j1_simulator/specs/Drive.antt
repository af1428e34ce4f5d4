-- What a driven machine, its console and its output stand for.
-- `None` in place of bytes means that an object does not tell its bytes.
use Rattle.std.specs.Prelude.{ℕ, zero, suc, ◌≡◌, ◌⊎◌, ◌+◌, ◌<◌, ◌≤◌, ◌^◌, nat_lt, Bool, ◌&&◌, IsTrue, ℤ, pos, negsuc, List, [], ◌∷◌, ◌++◌, length, Option, Some, None, option_map, ⊤, Result, Ok, Err}
use Rattle.std.specs.Io.KnownBytes.{Appends, Consumes}
use Rattle.j1_simulator.specs.declared.ends.Event.{Event}
use Rattle.j1_simulator.specs.declared.ends.End.{End}
use Rattle.j1_simulator.specs.declared.ends.End.TheVariants.{InputEnded}
use Rattle.j1_simulator.specs.declared.ends.Event.TheVariants.{Went, Printed, WantsByte}
use Rattle.j1_simulator.specs.declared.ends.Event.TheVariants as events
use Rattle.j1_simulator.specs.declared.ends.Finish.{Finish}
use Rattle.j1_simulator.specs.declared.ends.Finish.TheVariants.{Ended, StepsUsed}
use Rattle.j1_simulator.specs.declared.ends.DriveError.{DriveError}
use Rattle.j1_simulator.specs.declared.ends.DriveError.TheVariants.{Read, Write}
use Rattle.j1_simulator.specs.Step.{Stop, By, step}
use Rattle.j1_simulator.specs.RoundMachine.{RingCells, round_storage}
use Rattle.j1_simulator.specs.MachineState.{MachineState, Depths, IsTaking}
use Rattle.j1_simulator.specs.Run.{Configuration, IsPrefixOf, run}

-- known bytes that were before are now followed by what was printed, but for what waits in the buffer
abbrev pub HoldsPrints : Option (List ℕ) → Option (List ℕ) → List ℕ → List ℕ → Type 0
HoldsPrints None now buffer printed = ⊤
HoldsPrints (Some old) None buffer printed = ⊥
HoldsPrints (Some old) (Some new) buffer printed = (written : List ℕ) × (new ≡ old ++ written) × (written ++ buffer ≡ printed)

-- known bytes that were before are now followed by a beginning of what was printed
abbrev pub HoldsFront : Option (List ℕ) → Option (List ℕ) → List ℕ → Type 0
HoldsFront None now printed = ⊤
HoldsFront (Some old) None printed = ⊥
HoldsFront (Some old) (Some new) printed = (written : List ℕ) × (new ≡ old ++ written) × IsPrefixOf written printed

-- known bytes that were before are now followed by all of what was printed, and perhaps by more
abbrev pub HoldsAll : Option (List ℕ) → Option (List ℕ) → List ℕ → Type 0
HoldsAll before now printed = (more : List ℕ) × Appends before now (printed ++ more)

-- a whole number is one of a signed 64-bit integer
abbrev pub in_64_bits : ℤ → Bool
in_64_bits (pos n) = nat_lt n (2 ^ 63)
in_64_bits (negsuc n) = nat_lt n (2 ^ 63)

-- both depth counters are 64-bit integers
abbrev pub counters_fit : Configuration ℕ RingCells → Bool
counters_fit configuration = in_64_bits configuration.data_depth && in_64_bits configuration.return_depth

abbrev pub depths_of : Configuration ℕ RingCells → Depths
depths_of configuration = record { data_depth = configuration.data_depth; return_depth = configuration.return_depth }

-- a machine stands at this moment of a run;
-- the held depths are the counters, where `fits` says that these have been 64-bit integers all the time
pub record StandsAt (configuration : Configuration ℕ RingCells) (fits : Bool) (machine : MachineState) (data_start : ℕ) : Type 0 where
  pub core : machine.core ≡ configuration.core
  pub start_is : machine.data_start ≡ data_start
  pub ended : option_map By machine.ended ≡ configuration.stop
  pub depths : IsTrue fits → machine.depths ≡ depths_of configuration

-- with its input and its output
pub record IsAt (configuration : Configuration ℕ RingCells) (fits : Bool) (machine : MachineState) (data_start : ℕ) (left before now : Option (List ℕ)) (buffer : List ℕ) : Type 0 where
  pub stands : StandsAt configuration fits machine data_start
  pub left_is : left ≡ Some configuration.input
  pub out : HoldsPrints before now buffer configuration.printed

-- with its input, and with a beginning of what was printed in out
pub record StandsWritten (configuration : Configuration ℕ RingCells) (fits : Bool) (machine : MachineState) (data_start : ℕ) (left before now : Option (List ℕ)) : Type 0 where
  pub stands : StandsAt configuration fits machine data_start
  pub left_is : left ≡ Some configuration.input
  pub front : HoldsFront before now configuration.printed

-- the moment from which a machine goes on with this input
abbrev pub going_on : MachineState → List ℕ → Configuration ℕ RingCells
going_on machine input =
    record { core = machine.core; input = input; printed = []; data_depth = machine.depths.data_depth; return_depth = machine.depths.return_depth; stop = option_map By machine.ended }

-- n instructions of a machine on this input
abbrev pub driven : MachineState → ℕ → List ℕ → Configuration ℕ RingCells
driven machine n input = run round_storage machine.data_start n (going_on machine input)

-- the counters are 64-bit integers at the start and after each of these instructions
abbrev pub driven_fits : MachineState → ℕ → List ℕ → Bool
driven_fits machine zero input = counters_fit (going_on machine input)
driven_fits machine (suc n) input = driven_fits machine n input && counters_fit (driven machine (suc n) input)

-- what an event prints
abbrev pub told : Event → List ℕ
told (Printed byte) = byte ∷ []
told Went = []
told WantsByte = []
told (events.Ended end) = []

-- the end that an event brings
abbrev pub end_of_event : Event → Option End
end_of_event (events.Ended end) = Some end
end_of_event Went = None
end_of_event WantsByte = None
end_of_event (Printed byte) = None

-- the input of a run: the byte that was given by hand, where there is one, and then the console's bytes;
-- none where it was told by hand that there is none
abbrev pub input_for : Option (Option ℕ) → List ℕ → List ℕ
input_for None bytes = bytes
input_for (Some (Some byte)) bytes = byte ∷ bytes
input_for (Some None) bytes = []

-- what was given by hand, after n instructions: the first one uses it
abbrev pub given_after : ℕ → Option (Option ℕ) → Option (Option ℕ)
given_after zero given = given
given_after (suc n) given = None

-- what is left of the input of a run after n instructions, by what was given by hand at its start and by the console's bytes now
abbrev pub left_of : Option (Option ℕ) → ℕ → Option (List ℕ) → Option (List ℕ)
left_of None n left = left
left_of (Some (Some byte)) zero left = option_map (λ bytes. byte ∷ bytes) left
left_of (Some (Some byte)) (suc n) left = left
left_of (Some None) n left = Some []

-- an old machine, whose console had these bytes, has come to this moment by n instructions of its run
abbrev pub IsDriven : MachineState → ℕ → List ℕ → MachineState → Option (List ℕ) → Option (List ℕ) → Option (List ℕ) → List ℕ → Type 0
IsDriven old n bytes new left before now buffer =
    IsAt (driven old n (input_for old.given bytes)) (driven_fits old n (input_for old.given bytes)) new old.data_start (left_of old.given n left) before now buffer

-- the next instruction takes a byte
abbrev pub TakesNext : ℕ → Configuration ℕ RingCells → Type 0
TakesNext data_start configuration = (configuration.stop ≡ None) × IsTaking (step round_storage data_start configuration.core)

-- after so many instructions of a run, out has all that was printed until a moment since which no byte was taken. From then on
-- bytes waited to be written: at least one, and fewer than 512 until the last instruction. Then they were written, since there were 512, or
-- a byte was due, or the run had ended, or was to break off here. Where it ended for want of input, all had been written before
pub record LacksLast (limit made : ℕ) (at : ℕ → Configuration ℕ RingCells) (data_start : ℕ) (before now : Option (List ℕ)) : Type 0 where
  pub since : ℕ
  pub earlier : since ≤ made
  pub untaken : (at since).input ≡ (at made).input
  pub kept : HoldsAll before now (at since).printed
  pub waited : length (at since).printed < length (at made).printed
  pub short : (j : ℕ) → j < made → length (at j).printed < length (at since).printed + 512
  pub due :
      (length (at made).printed ≡ length (at since).printed + 512)
      ⊎ ((length (at made).printed < length (at since).printed + 512)
      × (TakesNext data_start (at made) ⊎ ((stop : Stop) × ((at made).stop ≡ Some stop)) ⊎ (made ≡ limit)))
  pub ended : (at made).stop ≡ Some (By InputEnded) → HoldsAll before now (at made).printed

-- it has come to a moment of its run at which a write was due, and out has only a beginning of what was printed
pub record IsBrokenOff (limit : ℕ) (old : MachineState) (bytes : List ℕ) (new : MachineState) (left before now : Option (List ℕ)) : Type 0 where
  pub made : ℕ
  pub within : made ≤ limit
  pub stands : StandsWritten (driven old made (input_for old.given bytes)) (driven_fits old made (input_for old.given bytes)) new old.data_start (left_of old.given made left) before now
  pub lacks : LacksLast limit made (λ k. driven old k (input_for old.given bytes)) old.data_start before now

-- a question that no byte answered: it failed, or the input had ended
abbrev pub in_vain : Result Finish DriveError → Option End → ℕ
in_vain (Err Read) end = 1
in_vain result (Some InputEnded) = 1
in_vain result end = 0

-- the machine has made at most n instructions of its run on the bytes that the console gave: all n where the answer is StepsUsed,
-- fewer where a read failed. The console was asked at most once for each of these bytes, and once in vain;
-- what the instructions printed stands in out, where it tells its bytes, or a beginning of it after a failed write.
-- Out was called at most once for each byte that was printed
pub record MadeAtMost (n : ℕ) (result : Result Finish DriveError) (old new : MachineState) (left after before now : Option (List ℕ)) (calls_before calls_after writes_before writes_after : ℕ) : Type 0 where
  pub made : ℕ
  pub within : made ≤ n
  pub all : result ≡ Ok StepsUsed → made ≡ n
  pub fewer : result ≡ Err Read → made < n
  pub bytes : List ℕ
  pub took : Consumes left after bytes
  pub used : left_of old.given made (Some []) ≡ Some (driven old made (input_for old.given bytes)).input
  pub calls : calls_after ≤ calls_before + length bytes + in_vain result new.ended
  pub stands : StandsAt (driven old made (input_for old.given bytes)) (driven_fits old made (input_for old.given bytes)) new old.data_start
  pub written : (result ≡ Err Write → ⊥) → HoldsPrints before now [] (driven old made (input_for old.given bytes)).printed
  pub front : HoldsFront before now (driven old made (input_for old.given bytes)).printed
  pub writes : writes_after ≤ writes_before + length (driven old made (input_for old.given bytes)).printed
  pub lacks : result ≡ Err Write → LacksLast n made (λ k. driven old k (input_for old.given bytes)) old.data_start before now

-- a machine that had ended has that end still
abbrev pub KeepsEnd : MachineState → MachineState → Type 0
KeepsEnd old new = (end : End) → old.ended ≡ Some end → new.ended ≡ Some end

-- the end of a finish
abbrev pub end_told : Finish → Option End
end_told (Ended end) = Some end
end_told StepsUsed = None
