-- Data space, console and output beside the world of a source run.
-- `None` in place of bytes means that an object does not tell its bytes.
use Rattle.std.specs.Prelude.{ℕ, ◌≡◌, ◌+◌, ◌≤◌, Bool, true, false, List, [], ◌++◌, length, Option, Some, None, ⊤}
use Rattle.outside_io.specs.Causes.{Rose}
use Rattle.forth_program.specs.State.{World}

-- what contracts see of a memory: where data space begins, its cells, the bytes that wait to be written, and whether a write
-- has failed
pub record MemoryState : Type 0 where
  pub data_start : ℕ
  pub space : List ℕ
  pub waiting : List ℕ
  pub failed : Bool

-- what contracts see of a console: the bytes left, and how often it was asked
pub record Input : Type 0 where
  pub bytes : Option (List ℕ)
  pub calls : ℕ

abbrev pub input_of : Option (List ℕ) → ℕ → Input
input_of bytes calls = record { bytes = bytes; calls = calls }

-- a memory with a console and an output: the input left, what out holds, and how often a read and a write failed
pub record Scene : Type 0 where
  pub memory : MemoryState
  pub input : Input
  pub read_faults : ℕ
  pub held : Option (List ℕ)
  pub write_faults : ℕ

abbrev pub scene : MemoryState → Input → ℕ → Option (List ℕ) → ℕ → Scene
scene memory input read_faults held write_faults = record { memory = memory; input = input; read_faults = read_faults; held = held; write_faults = write_faults }

-- known bytes that were before are now followed by what was printed, but for what waits
abbrev pub Holds : Option (List ℕ) → Option (List ℕ) → List ℕ → List ℕ → Type 0
Holds None now waiting printed = ⊤
Holds (Some old) None waiting printed = ⊥
Holds (Some old) (Some new) waiting printed = (written : List ℕ) × (new ≡ old ++ written) × (written ++ waiting ≡ printed)

-- known bytes that were before are now followed by a beginning of what was printed
abbrev pub HoldsFront : Option (List ℕ) → Option (List ℕ) → List ℕ → Type 0
HoldsFront None now printed = ⊤
HoldsFront (Some old) None printed = ⊥
HoldsFront (Some old) (Some new) printed = (written : List ℕ) × (new ≡ old ++ written) × (more : List ℕ) × (written ++ more ≡ printed)

-- by whether a write has failed
abbrev pub Written : Bool → Option (List ℕ) → Option (List ℕ) → List ℕ → List ℕ → Type 0
Written false before now waiting printed = Holds before now waiting printed
Written true before now waiting printed = HoldsFront before now printed

-- the scene is that of this world, where out held `before` at the start of the run
pub record Shows (before : Option (List ℕ)) (s : Scene) (w : World) : Type 0 where
  pub start : w.data_start ≡ s.memory.data_start
  pub space : w.space ≡ s.memory.space
  pub written : Written s.memory.failed before s.held s.memory.waiting w.printed

-- how far something came: to its end, or to where the input had ended, could not be read, or could not be asked for since
-- what was printed could not be written
pub data Reach : Type 0 where
  Whole : Reach
  Dry : Reach
  NotRead : Reach
  NotWritten : Reach

-- the input that may be left there: where no byte came, the run is seen on the bytes that it took
abbrev pub MayBeLeft : Reach → List ℕ → Type 0
MayBeLeft Whole rest = ⊤
MayBeLeft Dry rest = rest ≡ []
MayBeLeft NotRead rest = rest ≡ []
MayBeLeft NotWritten rest = rest ≡ []

-- an input that is told has lost these bytes, and has none left where it has ended
abbrev pub LosesBytes : Reach → List ℕ → Option (List ℕ) → Option (List ℕ) → Type 0
LosesBytes reach took None new = ⊤
LosesBytes reach took (Some old) None = ⊥
LosesBytes Dry took (Some old) (Some new) = (old ≡ took ++ new) × (new ≡ [])
LosesBytes reach took (Some old) (Some new) = old ≡ took ++ new

-- a question that no byte answered: the input had ended, or could not be read
abbrev pub asked_in_vain : Reach → ℕ
asked_in_vain Dry = 1
asked_in_vain NotRead = 1
asked_in_vain Whole = 0
asked_in_vain NotWritten = 0

-- an input was asked at most once for each byte that it gave, and once in vain
pub record Loses (reach : Reach) (took : List ℕ) (old new : Input) : Type 0 where
  pub bytes : LosesBytes reach took old.bytes new.bytes
  pub calls : new.calls ≤ old.calls + length took + asked_in_vain reach

-- all that was printed has been written
pub record IsWrittenOut (m : MemoryState) : Type 0 where
  pub waiting : m.waiting ≡ []
  pub well : m.failed ≡ false

-- what failed, by the counts. Before a question to the console all was written
abbrev pub Caused : Reach → Scene → Scene → Type 0
Caused NotRead old new = Rose old.read_faults new.read_faults × IsWrittenOut new.memory
Caused NotWritten old new = new.memory.failed ≡ true
Caused Whole old new = ⊤
Caused Dry old new = IsWrittenOut new.memory

pub record Faults (reach : Reach) (old new : Scene) : Type 0 where
  pub reads : old.read_faults ≤ new.read_faults
  pub writes : old.write_faults ≤ new.write_faults
  pub failed : new.memory.failed ≡ true → old.memory.failed ≡ false → Rose old.write_faults new.write_faults
  pub caused : Caused reach old new

-- a later world that is come to, with this input left
pub record Later (reached : World → Type 0) (before : Option (List ℕ)) (s : Scene) (rest : List ℕ) : Type 0 where
  pub world : World
  pub is_reached : reached world
  pub shows : Shows before s world
  pub left : world.input ≡ rest

-- from an old scene to a new one: it took these bytes, and on every world of the old scene whose input begins with them it
-- leads to a world of the new scene
pub record Leads (reached : World → World → Type 0) (reach : Reach) (old new : Scene) : Type 0 where
  pub took : List ℕ
  pub loses : Loses reach took old.input new.input
  pub faults : Faults reach old new
  pub meant : (before : Option (List ℕ)) (w : World) (rest : List ℕ) → w.input ≡ took ++ rest → MayBeLeft reach rest → Shows before old w → Later (reached w) before new rest
