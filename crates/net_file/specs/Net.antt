-- Net files: the rows that a text has, and the array that they tell.
use Rattle.std.specs.Prelude.{ℕ, ◌≡◌, ◌≤◌, ◌<◌, ◌*◌, Bool, true, false, ◌==◌, ◌&&◌, not, nat_le, nat_lt, if◌then◌else◌, List, [], ◌∷◌, ◌++◌, length, map, Option, Some, None, codes}
use Rattle.std.specs.List.{list_all}
use Rattle.std.specs.Str.{bytes_eq}
use Rattle.j1_assembler.specs.Text.{lines_of, fields_of, is_line_byte}
use Rattle.core_array.specs.declared.links.Link.{Link}
use Rattle.core_array.specs.Cores.{is_bad_link}
use Rattle.net_file.specs.Numbers.{number_in}

-- the files of the cores, the links between cores, how many rounds are made, and how many entries each core has in a round
pub record NetPlan : Type 0 where
  pub cores : List (List ℕ)
  pub links : List Link
  pub rounds : ℕ
  pub entries : ℕ

-- a line with fields
pub data NetRow : Type 0 where
  HeaderRow : NetRow
  CoreRow : (file : List ℕ) → NetRow
  LinkRow : (link : Link) → NetRow
  TurnsRow : (rounds entries : ℕ) → NetRow

-- a file's name has 1 to 255 bytes, of which the first is no `-`
abbrev pub is_file_name : List ℕ → Bool
is_file_name [] = false
is_file_name (first ∷ rest) = not (first == 45) && nat_lt (length rest) 255

-- the same of bytes from 33 to 126, as those of a field are
abbrev pub is_core_file : List ℕ → Bool
is_core_file field = is_file_name field && list_all (λ byte. nat_le 33 byte && nat_le byte 126) field

-- `NET 1`, or `core` and a name
abbrev pub short_row : List ℕ → List ℕ → Option NetRow
short_row head field =
    if bytes_eq head (codes "NET") then (if bytes_eq field (codes "1") then Some HeaderRow else None)
    else if bytes_eq head (codes "core") then (if is_core_file field then Some (CoreRow field) else None)
    else None

abbrev pub link_row : Option ℕ → Option ℕ → Option NetRow
link_row (Some from) (Some to) = Some (LinkRow (record { from = from; to = to }))
link_row (Some from) None = None
link_row None to = None

abbrev pub turns_row : Option ℕ → Option ℕ → Option NetRow
turns_row (Some rounds) (Some entries) = Some (TurnsRow rounds entries)
turns_row (Some rounds) None = None
turns_row None entries = None

-- `link` and the numbers of two cores, or `turns` and two numbers of at most 1,000,000 and 1,000
abbrev pub long_row : List ℕ → List ℕ → List ℕ → Option NetRow
long_row head first second =
    if bytes_eq head (codes "link") then link_row (number_in 10 15 first) (number_in 10 15 second)
    else if bytes_eq head (codes "turns") then turns_row (number_in 10 1000000 first) (number_in 10 1000 second)
    else None

-- the row of a line's fields
abbrev pub row_of : List (List ℕ) → Option NetRow
row_of [] = None
row_of (head ∷ []) = None
row_of (head ∷ first ∷ []) = short_row head first
row_of (head ∷ first ∷ second ∷ []) = long_row head first second
row_of (head ∷ first ∷ second ∷ third ∷ more) = None

-- the fields of the lines that have some
abbrev pub with_fields : List (List ℕ) → List (List (List ℕ)) → List (List (List ℕ))
with_fields [] rows = rows
with_fields (field ∷ fields) rows = (field ∷ fields) ∷ rows

abbrev pub fields_by_line : List (List ℕ) → List (List (List ℕ))
fields_by_line [] = []
fields_by_line (line ∷ lines) = with_fields (fields_of line) (fields_by_line lines)

-- the rows of a net: its header, its cores, its links, and its turns
abbrev pub net_rows : NetPlan → List NetRow
net_rows net = HeaderRow ∷ (map CoreRow net.cores ++ (map LinkRow net.links ++ TurnsRow net.rounds net.entries ∷ []))

-- 2 to 16 cores, at most 16 links, each between two different cores, and at least one and at most 4,000,000 entries in all
pub record IsSound (net : NetPlan) : Type 0 where
  pub several : 2 ≤ length net.cores
  pub few_cores : length net.cores ≤ 16
  pub few_links : length net.links ≤ 16
  pub ends : list_all (λ link. not (is_bad_link (length net.cores) link)) net.links ≡ true
  pub turns : (0 < net.rounds) × (0 < net.entries)
  pub short : net.rounds * net.entries * length net.cores ≤ 4000000

-- these lines are those of a net
pub record AreNetLines (lines : List (List ℕ)) (net : NetPlan) : Type 0 where
  pub bytes : list_all (list_all is_line_byte) lines ≡ true
  pub rows : map row_of (fields_by_line lines) ≡ map Some (net_rows net)
  pub sound : IsSound net

-- a text is the file of this net
abbrev pub IsNetText : List ℕ → NetPlan → Type 0
IsNetText text net = AreNetLines (lines_of text) net
