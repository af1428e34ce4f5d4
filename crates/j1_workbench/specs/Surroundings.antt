-- What a call of the workbench finds and leaves outside: what each object tells of its bytes, and how often it was called and failed.
use Rattle.std.specs.Prelude.{◌≡◌, ◌+◌, ◌≤◌, ℕ, List, Option}
use Rattle.outside_io.specs.Files.{Files, KeepsFiles}

-- a stream: the bytes that are left to be read, or that were written to it, where it tells them; and its counts of calls
-- and of faults
pub record Stream : Type 0 where
  pub bytes : Option (List ℕ)
  pub calls : ℕ
  pub faults : ℕ

-- a folder: its files, where it tells them; and its counts of calls, of failed reads, of failed writes, and of reads that met no file
pub record FolderState : Type 0 where
  pub files : Option Files
  pub calls : ℕ
  pub read_faults : ℕ
  pub write_faults : ℕ
  pub absences : ℕ

-- all of them but the notes
pub record Surroundings : Type 0 where
  pub folder : FolderState
  pub console : Stream
  pub out : Stream

abbrev pub stream : Option (List ℕ) → ℕ → ℕ → Stream
stream bytes calls faults = record { bytes = bytes; calls = calls; faults = faults }

abbrev pub folder : Option Files → ℕ → ℕ → ℕ → ℕ → FolderState
folder files calls read_faults write_faults absences =
    record { files = files; calls = calls; read_faults = read_faults; write_faults = write_faults; absences = absences }

abbrev pub surroundings : FolderState → Stream → Stream → Surroundings
surroundings folder console out = record { folder = folder; console = console; out = out }

-- a folder that was called at most so many times and not written: its files are the same, no write failed, and no count fell
pub record IsOnlyRead (most : ℕ) (before after : FolderState) : Type 0 where
  pub files : KeepsFiles before.files after.files
  pub calls : after.calls ≤ before.calls + most
  pub read_faults : before.read_faults ≤ after.read_faults
  pub write_faults : after.write_faults ≡ before.write_faults
  pub absences : before.absences ≤ after.absences

-- nothing was asked for, and nothing printed
abbrev pub IsQuiet : Surroundings → Surroundings → Type 0
IsQuiet before after = (after.console ≡ before.console) × (after.out ≡ before.out)
