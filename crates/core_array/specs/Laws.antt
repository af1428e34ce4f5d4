-- What an array of cores keeps under any schedule.
use Rattle.std.specs.Prelude.{ℕ, ◌≡◌, ◌≤◌, ◌⊎◌, List, ◌++◌, length}
use Rattle.j1_simulator.specs.Run.{IsPrefixOf}
use Rattle.j1_table.specs.Image.{Content}
use Rattle.j1_simulator.specs.MachineState.{MachineState}
use Rattle.core_array.specs.declared.links.Link.{Link}
use Rattle.core_array.specs.Network.{Network, list_at}
use Rattle.core_array.specs.Cores.{cores_run, cores_after}

-- one of two lists is the beginning of the other
abbrev pub OneBegins : List ℕ → List ℕ → Type 0
OneBegins xs ys = IsPrefixOf xs ys ⊎ IsPrefixOf ys xs

-- of what was sent by each link, and of what each core printed, one begins the other
pub record SchedulesAgree {S : Type 0} (one other : Network S) : Type 0 where
  pub histories : (i : ℕ) → OneBegins (list_at one.histories i) (list_at other.histories i)
  pub printed : (k : ℕ) → OneBegins (list_at one.printed k) (list_at other.printed k)

-- any two schedules from the same cores
abbrev pub AnySchedules : Type 0
AnySchedules = (links : List Link) (one other : List ℕ) (net : Network MachineState) → SchedulesAgree (cores_run links one net) (cores_run links other net)

-- a mailbox holds at most 64 cells, and what was sent by its link is what was taken and then the mailbox
pub record IsMailbox (history mailbox : List ℕ) : Type 0 where
  pub few : length mailbox ≤ 64
  pub taken : List ℕ
  pub sent : history ≡ taken ++ mailbox

abbrev pub KeepsMailboxes : Type 0
KeepsMailboxes = (images : List Content) (links : List Link) (schedule : List ℕ) (i : ℕ) → IsMailbox (list_at (cores_after images links schedule).histories i) (list_at (cores_after images links schedule).mailboxes i)

-- one schedule after another
abbrev pub RunsCompose : Type 0
RunsCompose = (links : List Link) (one other : List ℕ) (net : Network MachineState) → cores_run links (one ++ other) net ≡ cores_run links other (cores_run links one net)
