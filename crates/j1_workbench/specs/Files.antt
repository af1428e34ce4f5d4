-- What becomes of a file that a command reads, and of one that it writes.
use Rattle.std.specs.Prelude.{◌≡◌, ◌+◌, ◌<◌, ◌≤◌, ◌⊎◌, ℕ, List, length, Option, None, Some, ⊤}
use Rattle.outside_io.specs.Causes.{Rose}
use Rattle.outside_io.specs.Files.{Files, Lacks, SetsFile, KeepsOthers}
use Rattle.j1_workbench.specs.declared.status.Status.{Status}
use Rattle.j1_workbench.specs.declared.status.Status.TheVariants.{Done, Missing, ReadFault, WriteFault, OutOfMemory, TooLarge}
use Rattle.j1_workbench.specs.Surroundings.{FolderState, IsOnlyRead}

-- the file has this content, where the folder tells its files
abbrev pub HoldsFile : Option Files → List ℕ → List ℕ → Type 0
HoldsFile None name content = ⊤
HoldsFile (Some files) name content = files name ≡ Some content

-- a file of at most so many bytes was read
pub record IsRead (most : ℕ) (name : List ℕ) (before : FolderState) (content : List ℕ) : Type 0 where
  pub holds : HoldsFile before.files name content
  pub short : length content ≤ most

-- why a file of at most so many bytes was not read
abbrev pub IsUnread : ℕ → List ℕ → FolderState → FolderState → Status → Type 0
IsUnread most name before after Missing = Rose before.absences after.absences × Lacks before.files name
IsUnread most name before after ReadFault = Rose before.read_faults after.read_faults
IsUnread most name before after OutOfMemory = ⊤
IsUnread most name before after TooLarge = (content : List ℕ) × HoldsFile before.files name content × (most < length content)
IsUnread most name before after status = ⊥

-- why a command on a file ended before its work: the file was not read, or what is in it is refused with this status
abbrev pub IsRefusedFile : ℕ → (List ℕ → Status → Type 0) → List ℕ → FolderState → FolderState → Status → Type 0
IsRefusedFile most IsRefusal name before after status =
    IsUnread most name before after status ⊎ ((content : List ℕ) × IsRead most name before content × IsRefusal content status)

-- in at most so many calls of the folder, of which the last is a write, a file was written: it has this content, or the write failed.
-- The other files stayed, and no count fell
pub record IsWritten (most : ℕ) (name content : List ℕ) (before after : FolderState) (status : Status) : Type 0 where
  pub written : ((status ≡ Done) × SetsFile before.files after.files name content) ⊎ ((status ≡ WriteFault) × Rose before.write_faults after.write_faults)
  pub others : KeepsOthers before.files after.files name
  pub calls : after.calls ≤ before.calls + most
  pub read_faults : before.read_faults ≤ after.read_faults
  pub write_faults : before.write_faults ≤ after.write_faults
  pub absences : before.absences ≤ after.absences

-- the same; or memory was wanting for the write, and no file has changed
abbrev pub IsPut : ℕ → List ℕ → List ℕ → FolderState → FolderState → Status → Type 0
IsPut most name content before after status = IsWritten most name content before after status ⊎ ((status ≡ OutOfMemory) × IsOnlyRead most before after)
