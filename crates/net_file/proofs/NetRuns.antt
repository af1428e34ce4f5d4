-- The rows of a net are read to its end.
use Rattle.std.proofs.Common.{◌≡◌, ◌⊎◌, inl, inr, ℕ, ◌+◌, ◌≤◌, ◌<◌, ◌*◌, Bool, true, false, List, [], ◌∷◌, ◌++◌, length, map}
use Rattle.std.proofs.Common.{Some, None, refl, sym, ap, ◌∙◌, subst, arith, append_assoc, length-append}
use Rattle.std.specs.Prelude.{◌&&◌, ◌==◌, not, nat_le, nat_lt, codes}
use Rattle.std.specs.List.{list_all}
use Rattle.std.proofs.lemmas.List.{append-nil}
use Rattle.std.proofs.lemmas.Bool.{lt-ltb, le-leb}
use Rattle.std.proofs.lemmas.Bool.Decides.{leb_tells}
use Rattle.j1_assembler.specs.Numbers.{◌>>=◌}
use Rattle.j1_assembler.specs.Text.{fields_of, is_line_byte}
use Rattle.core_array.specs.declared.links.Link.{Link}
use Rattle.core_array.specs.Cores.{is_bad_link}
use Rattle.net_file.specs.declared.nets.Stage.{Stage}
use Rattle.net_file.specs.declared.nets.Stage.TheVariants.{Opening, Listing, Closed}
use Rattle.net_file.specs.Net.{NetPlan, NetRow, CoreRow, LinkRow, TurnsRow, row_of, with_fields, fields_by_line, net_rows, AreNetLines}
use Rattle.net_file.specs.FirstBad.{BeginNet}
use Rattle.net_file.specs.Reading.{NetReading, reading_start, row_fits, after_row, after_fields}
use Rattle.net_file.proofs.Options.{bound, bind_some, bind_same, after_lines, after_rows, lines_append}
use Rattle.net_file.proofs.ToldRows.{MayGoOn, IsGood, lines_read}

-- lines whose rows are these are read as the rows are
by_fields : (fields : List (List ℕ)) (lines : List (List ℕ)) (rows : List NetRow) (reading : NetReading) → map row_of (with_fields fields (fields_by_line lines)) ≡ map Some rows →
    ((rest : List NetRow) (next : NetReading) → map row_of (fields_by_line lines) ≡ map Some rest → after_lines next lines ≡ after_rows next rest) →
    (after_fields reading fields >>= λ next. after_lines next lines) ≡ after_rows reading rows
by_fields [] lines rows reading e h = h rows reading e
by_fields (field ∷ fields) lines [] reading e h = cc
by_fields (field ∷ fields) lines (row ∷ rest) reading e h =
    let head : row_of (field ∷ fields) ≡ Some row = cc in
    let tail : map row_of (fields_by_line lines) ≡ map Some rest = cc in
    ap (λ o. (o >>= after_row reading) >>= λ next. after_lines next lines) head
    ∙ bind_same (after_row reading row) (λ next. after_lines next lines) (λ next. after_rows next rest) (λ next. h rest next tail)

split_true : (a b : Bool) → (a && b) ≡ true → (a ≡ true) × (b ≡ true)
split_true true b e = (refl, e)
split_true false b e = cc

pub lines_by_rows : (lines : List (List ℕ)) (rows : List NetRow) (reading : NetReading) → list_all (list_all is_line_byte) lines ≡ true → map row_of (fields_by_line lines) ≡ map Some rows →
    after_lines reading lines ≡ after_rows reading rows
lines_by_rows [] [] reading bytes e = refl
lines_by_rows [] (row ∷ rows) reading bytes e = cc
lines_by_rows (line ∷ lines) rows reading bytes e =
    let parts = split_true (list_all is_line_byte line) (list_all (list_all is_line_byte) lines) bytes in
    ap (λ g. elim g [ true ↦ after_fields reading (fields_of line) | false ↦ None ] >>= λ next. after_lines next lines) parts.0
    ∙ by_fields (fields_of line) lines rows reading e (λ rest next same. lines_by_rows lines rest next parts.1 same)

-- a reading of rows behind the header
abbrev listing : NetPlan → NetReading
listing net = record { stage = Listing; net = net }

abbrev pub closed : NetPlan → NetReading
closed net = record { stage = Closed; net = net }

abbrev more_cores : NetPlan → List (List ℕ) → NetPlan
more_cores net more = record net { cores = net.cores ++ more }

abbrev more_links : NetPlan → List Link → NetPlan
more_links net more = record net { links = net.links ++ more }

-- a row that fits is read
row_read : (net : NetPlan) (row : NetRow) (next : NetReading) (rest : List NetRow) → row_fits Listing net row ≡ true →
    after_row (listing net) row ≡ elim (row_fits Listing net row) [ true ↦ Some next | false ↦ None ] → after_rows (listing net) (row ∷ rest) ≡ after_rows next rest
row_read net row next rest fits is = bind_some (after_row (listing net) row) next (λ r. after_rows r rest) (is ∙ ap (λ g. elim g [ true ↦ Some next | false ↦ None ]) fits)

cores_read : (more : List (List ℕ)) (net : NetPlan) (rest : List NetRow) → length net.links ≡ 0 → length (net.cores ++ more) ≤ 16 →
    after_rows (listing net) (map CoreRow more ++ rest) ≡ after_rows (listing (more_cores net more)) rest
cores_read [] net rest none few = ap (λ c. after_rows (listing (record net { cores = c })) rest) (sym (append-nil net.cores))
cores_read (file ∷ more) net rest none few =
    let count : length (net.cores ++ file ∷ more) ≡ length net.cores + length (file ∷ more) = length-append net.cores (file ∷ more) in
    let empty : (length net.links == 0) ≡ true = ap (λ n. n == 0) none in
    let room : nat_lt (length net.cores) 16 ≡ true = lt-ltb (length net.cores) 16 (omega arith) in
    let fits : row_fits Listing net (CoreRow file) ≡ true = ap (λ g. g && nat_lt (length net.cores) 16) empty ∙ room in
    let seam : (net.cores ++ file ∷ []) ++ more ≡ net.cores ++ file ∷ more = append_assoc net.cores (file ∷ []) more in
    row_read net (CoreRow file) (listing (more_cores net (file ∷ []))) (map CoreRow more ++ rest) fits refl
    ∙ cores_read more (more_cores net (file ∷ [])) rest none (subst (λ c. length c ≤ 16) (sym seam) few)
    ∙ ap (λ c. after_rows (listing (record net { cores = c })) rest) seam

links_read : (more : List Link) (net : NetPlan) (rest : List NetRow) → 2 ≤ length net.cores → length (net.links ++ more) ≤ 16 →
    list_all (λ link. not (is_bad_link (length net.cores) link)) more ≡ true →
    after_rows (listing net) (map LinkRow more ++ rest) ≡ after_rows (listing (more_links net more)) rest
links_read [] net rest two few good = ap (λ l. after_rows (listing (record net { links = l })) rest) (sym (append-nil net.links))
links_read (link ∷ more) net rest two few good =
    let count : length (net.links ++ link ∷ more) ≡ length net.links + length (link ∷ more) = length-append net.links (link ∷ more) in
    let parts = split_true (not (is_bad_link (length net.cores) link)) _ good in
    let room : nat_lt (length net.links) 16 ≡ true = lt-ltb (length net.links) 16 (omega arith) in
    let several : nat_le 2 (length net.cores) ≡ true = le-leb 2 (length net.cores) two in
    let fits : row_fits Listing net (LinkRow link) ≡ true =
    ap (λ g. g && nat_lt (length net.links) 16 && not (is_bad_link (length net.cores) link)) several ∙ ap (λ g. g && not (is_bad_link (length net.cores) link)) room ∙ parts.0 in
    let seam : (net.links ++ link ∷ []) ++ more ≡ net.links ++ link ∷ more = append_assoc net.links (link ∷ []) more in
    row_read net (LinkRow link) (listing (more_links net (link ∷ []))) (map LinkRow more ++ rest) fits refl
    ∙ links_read more (more_links net (link ∷ [])) rest two (subst (λ l. length l ≤ 16) (sym seam) few) parts.1
    ∙ ap (λ l. after_rows (listing (record net { links = l })) rest) seam

turns_read : (net : NetPlan) (rounds entries : ℕ) → 2 ≤ length net.cores → 0 < rounds → 0 < entries → rounds * entries * length net.cores ≤ 4000000 →
    after_rows (listing net) (TurnsRow rounds entries ∷ []) ≡ Some (closed (record net { rounds = rounds; entries = entries }))
turns_read net rounds entries two r q short =
    let several : nat_le 2 (length net.cores) ≡ true = le-leb 2 (length net.cores) two in
    let first : nat_lt 0 rounds ≡ true = lt-ltb 0 rounds r in
    let second : nat_lt 0 entries ≡ true = lt-ltb 0 entries q in
    let all : nat_le (rounds * entries * length net.cores) 4000000 ≡ true = le-leb (rounds * entries * length net.cores) 4000000 short in
    let fits : row_fits Listing net (TurnsRow rounds entries) ≡ true =
    ap (λ g. g && (nat_lt 0 rounds && nat_lt 0 entries && nat_le (rounds * entries * length net.cores) 4000000)) several
    ∙ ap (λ g. g && nat_lt 0 entries && nat_le (rounds * entries * length net.cores) 4000000) first
    ∙ ap (λ g. g && nat_le (rounds * entries * length net.cores) 4000000) second ∙ all in
    row_read net (TurnsRow rounds entries) (closed (record net { rounds = rounds; entries = entries })) [] fits refl

-- the lines of a net are read to its end
pub net_read : (lines : List (List ℕ)) (net : NetPlan) → AreNetLines lines net → after_lines reading_start lines ≡ Some (closed net)
net_read lines net are =
    let sound = are.sound in
    let none : NetPlan = reading_start.net in
    let cores : NetPlan = more_cores none net.cores in
    let rest : List NetRow = map LinkRow net.links ++ TurnsRow net.rounds net.entries ∷ [] in
    lines_by_rows lines (net_rows net) reading_start are.bytes are.rows
    ∙ cores_read net.cores none rest refl sound.few_cores
    ∙ links_read net.links cores (TurnsRow net.rounds net.entries ∷ []) sound.several sound.few_links sound.ends
    ∙ turns_read (more_links cores net.links) net.rounds net.entries sound.several sound.turns.0 sound.turns.1 sound.short

-- lines that were read to an end are those of a net
pub read_net : (lines : List (List ℕ)) (net : NetPlan) → after_lines reading_start lines ≡ Some (closed net) → AreNetLines lines net
read_net lines net e =
    let were = lines_read lines reading_start (closed net) e refl in
    record { bytes = were.bytes; rows = were.are ∙ ap (map Some) (sym were.told_is); sound = were.good }

-- a reading can be gone on with to the end of a net
record GoesOn (reading : NetReading) : Type 0 where
  more : List (List ℕ)
  net : NetPlan
  ends : after_lines reading more ≡ Some (closed net)

abbrev a_core : List ℕ
a_core = codes "core A"

abbrev one_turn : List ℕ
one_turn = codes "turns 1 1"

abbrev file_a : List ℕ
file_a = codes "A"

with_turn : (net : NetPlan) → 2 ≤ length net.cores → length net.cores ≤ 16 → after_lines (listing net) (one_turn ∷ []) ≡ Some (closed (record net { rounds = 1; entries = 1 }))
with_turn net two few = lines_by_rows (one_turn ∷ []) (TurnsRow 1 1 ∷ []) (listing net) refl refl ∙ turns_read net 1 1 two (omega arith) (omega arith) (omega arith)

with_cores : (net : NetPlan) → length net.links ≡ 0 → length net.cores < 2 →
    after_lines (listing net) (a_core ∷ a_core ∷ one_turn ∷ []) ≡ Some (closed (record (more_cores net (file_a ∷ file_a ∷ [])) { rounds = 1; entries = 1 }))
with_cores net none one =
    let two : List (List ℕ) = file_a ∷ file_a ∷ [] in
    let count : length (net.cores ++ two) ≡ length net.cores + 2 = length-append net.cores two in
    lines_by_rows (a_core ∷ a_core ∷ one_turn ∷ []) (CoreRow file_a ∷ CoreRow file_a ∷ TurnsRow 1 1 ∷ []) (listing net) refl refl
    ∙ cores_read two net (TurnsRow 1 1 ∷ []) none (omega arith)
    ∙ turns_read (more_cores net two) 1 1 (omega arith) (omega arith) (omega arith) (omega arith)

goes_listing : (net : NetPlan) → MayGoOn net → (2 ≤ length net.cores) ⊎ (length net.cores < 2) → (length net.links ≡ 0) ⊎ (2 ≤ length net.cores) → GoesOn (listing net)
goes_listing net good (inl two) b = record { more = one_turn ∷ []; net = record net { rounds = 1; entries = 1 }; ends = with_turn net two good.few_cores }
goes_listing net good (inr one) (inl none) =
    record { more = a_core ∷ a_core ∷ one_turn ∷ []; net = record (more_cores net (file_a ∷ file_a ∷ [])) { rounds = 1; entries = 1 }; ends = with_cores net none one }
goes_listing net good (inr one) (inr two) = record { more = one_turn ∷ []; net = record net { rounds = 1; entries = 1 }; ends = with_turn net two good.few_cores }

two_or_less : (n : ℕ) → (2 ≤ n) ⊎ (n < 2)
two_or_less n = elim (leb_tells 2 n) as (λ _. (2 ≤ n) ⊎ (n < 2)) [ inl p ↦ inl p.1 | inr p ↦ inr p.1 ]

goes_on : (stage : Stage) (net : NetPlan) → IsGood stage net → GoesOn (record { stage = stage; net = net })
goes_on Opening net good =
    let none : NetPlan = reading_start.net in
    let rest = with_cores none refl (omega arith) in
    let whole : after_lines reading_start (codes "NET 1" ∷ a_core ∷ a_core ∷ one_turn ∷ []) ≡ Some (closed (record (more_cores none (file_a ∷ file_a ∷ [])) { rounds = 1; entries = 1 })) = rest in
    record {
      more = codes "NET 1" ∷ a_core ∷ a_core ∷ one_turn ∷ [];
      net = record (more_cores none (file_a ∷ file_a ∷ [])) { rounds = 1; entries = 1 };
      ends = ap (λ n. after_lines (record { stage = Opening; net = n }) (codes "NET 1" ∷ a_core ∷ a_core ∷ one_turn ∷ [])) good ∙ whole;
    }
goes_on Listing net good = goes_listing net good (two_or_less (length net.cores)) good.behind
goes_on Closed net good = record { more = []; net = net; ends = refl }

-- lines that were read begin a net
pub read_begins : (lines : List (List ℕ)) (reading : NetReading) → after_lines reading_start lines ≡ Some reading → BeginNet lines
read_begins lines reading e =
    let on = goes_on reading.stage reading.net (lines_read lines reading_start reading e refl).good in
    record {
      more = on.more;
      net = on.net;
      lines_are = read_net (lines ++ on.more) on.net (lines_append lines on.more reading_start ∙ bind_some (after_lines reading_start lines) reading (λ next. after_lines next on.more) e ∙ on.ends);
    }

-- and lines that begin a net were read
pub begins_read : (lines : List (List ℕ)) → BeginNet lines → (reading : NetReading) × (after_lines reading_start lines ≡ Some reading)
begins_read lines begins =
    let all = net_read (lines ++ begins.more) begins.net begins.lines_are in
    let found = bound (after_lines reading_start lines) (λ next. after_lines next begins.more) (closed begins.net) (sym (lines_append lines begins.more reading_start) ∙ all) in
    (found.0, found.1)
