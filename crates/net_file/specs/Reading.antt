-- NetReading a net file line by line.
use Rattle.std.specs.Prelude.{ℕ, ◌+◌, ◌*◌, ◌++◌, ◌≡◌, ⊤, Bool, true, false, ◌==◌, ◌&&◌, not, nat_le, nat_lt, List, [], ◌∷◌, length, Option, Some, None, Result, Ok, Err}
use Rattle.std.specs.List.{list_all}
use Rattle.j1_assembler.specs.Numbers.{◌>>=◌}
use Rattle.j1_assembler.specs.Text.{lines_of, fields_of, is_line_byte}
use Rattle.core_array.specs.Cores.{is_bad_link}
use Rattle.net_file.specs.declared.error.NetError.{NetError}
use Rattle.net_file.specs.declared.error.NetError.TheVariants as errors
use Rattle.net_file.specs.declared.rows.Row.{Row}
use Rattle.net_file.specs.declared.rows.Row.TheVariants as rows
use Rattle.net_file.specs.declared.nets.Stage.{Stage}
use Rattle.net_file.specs.declared.nets.Stage.TheVariants.{Opening, Listing, Closed}
use Rattle.net_file.specs.Net.{NetPlan, NetRow, HeaderRow, CoreRow, LinkRow, TurnsRow, row_of}

-- a row as the code has it
abbrev pub net_row : Row → NetRow
net_row rows.Header = HeaderRow
net_row (rows.Core file) = CoreRow file.now
net_row (rows.Link link) = LinkRow link
net_row (rows.Turns rounds entries) = TurnsRow rounds entries

-- what the lines so far have told
pub record NetReading : Type 0 where
  pub stage : Stage
  pub net : NetPlan

abbrev pub reading_start : NetReading
reading_start = record { stage = Opening; net = record { cores = []; links = []; rounds = 0; entries = 0 } }

-- so many entries in all
abbrev pub turns_fit : ℕ → ℕ → ℕ → Bool
turns_fit cores rounds entries = nat_lt 0 rounds && nat_lt 0 entries && nat_le (rounds * entries * cores) 4000000

-- a row may come next
abbrev pub row_fits : Stage → NetPlan → NetRow → Bool
row_fits Opening net HeaderRow = true
row_fits Opening net (CoreRow file) = false
row_fits Opening net (LinkRow link) = false
row_fits Opening net (TurnsRow rounds entries) = false
row_fits Listing net HeaderRow = false
row_fits Listing net (CoreRow file) = length net.links == 0 && nat_lt (length net.cores) 16
row_fits Listing net (LinkRow link) = nat_le 2 (length net.cores) && nat_lt (length net.links) 16 && not (is_bad_link (length net.cores) link)
row_fits Listing net (TurnsRow rounds entries) = nat_le 2 (length net.cores) && turns_fit (length net.cores) rounds entries
row_fits Closed net row = false

abbrev pub stage_after : NetRow → Stage
stage_after HeaderRow = Listing
stage_after (CoreRow file) = Listing
stage_after (LinkRow link) = Listing
stage_after (TurnsRow rounds entries) = Closed

abbrev pub net_with : NetRow → NetPlan → NetPlan
net_with HeaderRow net = net
net_with (CoreRow file) net = record net { cores = net.cores ++ file ∷ [] }
net_with (LinkRow link) net = record net { links = net.links ++ link ∷ [] }
net_with (TurnsRow rounds entries) net = record net { rounds = rounds; entries = entries }

-- the reading after a row, where it may come next
abbrev pub after_row : NetReading → NetRow → Option NetReading
after_row reading row = elim (row_fits reading.stage reading.net row) [
  | true ↦ Some (record { stage = stage_after row; net = net_with row reading.net })
  | false ↦ None
]

-- the reading after a line with these fields
abbrev pub after_fields : NetReading → List (List ℕ) → Option NetReading
after_fields reading [] = Some reading
after_fields reading (field ∷ fields) = row_of (field ∷ fields) >>= after_row reading

abbrev pub after_line : NetReading → List ℕ → Option NetReading
after_line reading line = elim (list_all is_line_byte line) [ true ↦ after_fields reading (fields_of line) | false ↦ None ]

-- what the code gives of a row or of a line
abbrev pub RowGives : Bool → NetReading → Option NetReading → Type 0
RowGives true new outcome = outcome ≡ Some new
RowGives false new outcome = outcome ≡ None

-- the turns were not told yet
abbrev pub IsOpen : Stage → Type 0
IsOpen Opening = ⊤
IsOpen Listing = ⊤
IsOpen Closed = ⊥

-- the net of a text, or its first bad line
pub data NetOutcome : Type 0 where
  ToldNet : (net : NetPlan) → NetOutcome
  BadAt : (line : ℕ) → NetOutcome

-- where the text ends: it has a net where the turns were told
abbrev pub at_end : ℕ → Stage → NetPlan → NetOutcome
at_end number Opening net = BadAt number
at_end number Listing net = BadAt number
at_end number Closed net = ToldNet net

-- the lines from this number on
abbrev pub lines_told : ℕ → NetReading → List (List ℕ) → NetOutcome
lines_told number reading [] = at_end number reading.stage reading.net
lines_told number reading (line ∷ lines) = elim (after_line reading line) [
  | Some next ↦ lines_told (number + 1) next lines
  | None ↦ BadAt number
]

abbrev pub net_told : List ℕ → NetOutcome
net_told text = lines_told 1 reading_start (lines_of text)

-- a refusal of a text, want of memory aside
abbrev pub NetFails : NetError → NetOutcome → Type 0
NetFails (errors.BadLine number) outcome = outcome ≡ BadAt number
NetFails errors.OutOfMemory outcome = ⊤

-- what was read is the net of a text, and a refusal its first bad line
abbrev pub GivesNet : Result NetPlan NetError → NetOutcome → Type 0
GivesNet (Ok net) outcome = outcome ≡ ToldNet net
GivesNet (Err error) outcome = NetFails error outcome
