-- `net FILE`: the sources of a net file are compiled, their images run as an array of cores, and what each core printed is written to out.
use Rattle.std.specs.Prelude.{◌≡◌, ◌⊎◌, ◌+◌, ℕ, suc, Bool, true, false, if◌then◌else◌, List, [], ◌∷◌, length}
use Rattle.std.specs.List.{list_all}
use Rattle.j1_table.specs.Image.{Content}
use Rattle.j1_simulator.specs.MachineState.{MachineState}
use Rattle.core_array.specs.Network.{Network}
use Rattle.core_array.specs.Cores.{cores_after}
use Rattle.net_file.specs.Net.{NetPlan, is_file_name, IsNetText}
use Rattle.net_file.specs.FirstBad.{IsFirstBadLine}
use Rattle.net_file.specs.Schedule.{schedule_of}
use Rattle.net_file.specs.Output.{core_lines}
use Rattle.j1_workbench.specs.declared.status.Status.{Status}
use Rattle.j1_workbench.specs.declared.status.Status.TheVariants.{Done, Missing, WriteFault, OutOfMemory, TooLarge, BadNet}
use Rattle.j1_workbench.specs.Surroundings.{FolderState, Stream, Surroundings, IsOnlyRead}
use Rattle.j1_workbench.specs.Files.{IsRead, IsRefusedFile}
use Rattle.j1_workbench.specs.Sources.{IsRefusedSource}
use Rattle.j1_workbench.specs.Compiling.{CompilesSource}
use Rattle.j1_workbench.specs.Statuses.{status_of}
use Rattle.j1_workbench.specs.Certifying.{Writes}

-- a text that is no net file is refused at its first bad line
abbrev pub IsBadNet : List ℕ → Status → Type 0
IsBadNet text (BadNet line) = IsFirstBadLine text line
IsBadNet text status = ⊥

-- the file of a net, whose cores have files with names
pub record IsNetFile (file : List ℕ) (before : FolderState) (net : NetPlan) : Type 0 where
  pub text : List ℕ
  pub read : IsRead 65536 file before text
  pub is_net : IsNetText text net
  pub names : list_all is_file_name net.cores ≡ true

-- the source files of cores have these images, core by core
abbrev pub CompileEach : List (List ℕ) → FolderState → List Content → Type 0
CompileEach [] before images = images ≡ []
CompileEach (source ∷ sources) before images =
    (image : Content) × (others : List Content) × (images ≡ image ∷ others) × CompilesSource source before image × CompileEach sources before others

-- what the note of a core's source names: its file, where that is missing or too large, and else the definition that is refused
abbrev pub core_named : List ℕ → Status → List ℕ → List ℕ
core_named source Missing name = source
core_named source TooLarge name = source
core_named source status name = name

-- the source file of a core is refused
abbrev pub RefusesCore : List ℕ → FolderState → FolderState → Status → List ℕ → Type 0
RefusesCore source before after status name =
    (called : List ℕ) × IsRefusedSource source before after status called × (name ≡ core_named source status called)

-- the source file of one core is refused, and those of the cores before it have images; or all have, and memory was wanting then. After so
-- many calls of the folder, each source file up to that of the refused core was read at most once, and no other
abbrev pub RefusesCores : ℕ → List (List ℕ) → FolderState → FolderState → Status → List ℕ → Type 0
RefusesCores calls [] before after status name = IsOnlyRead calls before after × (status ≡ OutOfMemory)
RefusesCores calls (source ∷ sources) before after status name =
    (IsOnlyRead (suc calls) before after × RefusesCore source before after status name)
    ⊎ ((image : Content) × CompilesSource source before image × RefusesCores (suc calls) sources before after status name)

-- the array of these images after the schedule of the net
abbrev pub net_run : NetPlan → List Content → Network MachineState
net_run net images = cores_after images net.links (schedule_of net)

abbrev pub is_done : Status → Bool
is_done Done = true
is_done status = false

-- the first of two statuses that is not Done, or Done
abbrev pub or_next : Status → Status → Status
or_next status next = if is_done status then next else status

-- the status of the first core that has not ended as Halted(0)
abbrev pub first_status : List MachineState → Status
first_status [] = Done
first_status (core ∷ cores) = or_next (status_of core.ended) (first_status cores)

abbrev pub net_status : NetPlan → List Content → Status
net_status net images = first_status (net_run net images).cores

-- a line for each core
abbrev pub net_output : NetPlan → List Content → List ℕ
net_output net images = core_lines (length net.cores) 0 (net_run net images).printed

-- a text was written, and the status of the cores is the answer; or the write failed
abbrev pub WritesThen : Stream → Stream → List ℕ → Status → Status → Type 0
WritesThen before after text ran status = (Writes before after text Done × (status ≡ ran)) ⊎ (Writes before after text WriteFault × (status ≡ WriteFault))

-- the net file is refused, or the source of one of its cores
abbrev pub RefusesNet : List ℕ → FolderState → FolderState → Status → List ℕ → Type 0
RefusesNet file before after status name =
    (IsOnlyRead 1 before after × IsRefusedFile 65536 IsBadNet file before after status × (name ≡ []))
    ⊎ ((net : NetPlan) × IsNetFile file before net × RefusesCores 1 net.cores before after status name)

-- the cores were run, and what each printed was written
pub record RunsNet (file : List ℕ) (before after : Surroundings) (status : Status) : Type 0 where
  pub net : NetPlan
  pub is_in : IsNetFile file before.folder net
  -- the net file and the source of each core were read at most once
  pub reads : IsOnlyRead (1 + length net.cores) before.folder after.folder
  pub images : List Content
  pub compiled : CompileEach net.cores before.folder images
  pub writes : WritesThen before.out after.out (net_output net images) (net_status net images) status

-- `net`: a refusal leaves out alone; the console is never asked
unfoldable pub Nets : List ℕ → Surroundings → Surroundings → Status → List ℕ → Type 0
Nets file before after status name =
    (after.console ≡ before.console)
    × ((RefusesNet file before.folder after.folder status name × (after.out ≡ before.out)) ⊎ RunsNet file before after status)
