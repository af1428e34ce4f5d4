-- The rows that a reading was told.
use Rattle.std.proofs.Common.{◌≡◌, ◌⊎◌, inl, inr, ℕ, ◌+◌, ◌≤◌, ◌<◌, ◌*◌, Bool, true, false, List, [], ◌∷◌, ◌++◌, length, map}
use Rattle.std.proofs.Common.{Some, refl, sym, ap, ◌∙◌, subst, arith, append_assoc, length-append}
use Rattle.std.specs.Prelude.{◌&&◌, ◌==◌, not, nat_le, nat_lt}
use Rattle.std.specs.List.{list_all}
use Rattle.std.proofs.lemmas.List.{append-nil, map-append}
use Rattle.std.proofs.lemmas.Bool.{ltb-true, leb-true, eqb-true}
use Rattle.j1_assembler.specs.Text.{fields_of, is_line_byte}
use Rattle.core_array.specs.declared.links.Link.{Link}
use Rattle.core_array.specs.Cores.{is_bad_link}
use Rattle.net_file.specs.declared.nets.Stage.{Stage}
use Rattle.net_file.specs.declared.nets.Stage.TheVariants.{Opening, Listing, Closed}
use Rattle.net_file.specs.Net.{NetPlan, NetRow, HeaderRow, CoreRow, LinkRow, TurnsRow, row_of, with_fields, fields_by_line, net_rows, IsSound}
use Rattle.net_file.specs.Reading.{NetReading, reading_start, turns_fit, row_fits, stage_after, net_with, after_row, after_fields, after_line}
use Rattle.net_file.proofs.Options.{bound, chosen, after_lines}

abbrev pub told_by : Stage → NetPlan → List NetRow
told_by Opening net = []
told_by Listing net = HeaderRow ∷ (map CoreRow net.cores ++ map LinkRow net.links)
told_by Closed net = net_rows net

abbrev pub told : NetReading → List NetRow
told reading = told_by reading.stage reading.net

-- a net that is not told to its end
pub record MayGoOn (net : NetPlan) : Type 0 where
  pub few_cores : length net.cores ≤ 16
  pub few_links : length net.links ≤ 16
  pub ends : list_all (λ link. not (is_bad_link (length net.cores) link)) net.links ≡ true
  pub behind : (length net.links ≡ 0) ⊎ (2 ≤ length net.cores)

abbrev pub IsGood : Stage → NetPlan → Type 0
IsGood Opening net = net ≡ reading_start.net
IsGood Listing net = MayGoOn net
IsGood Closed net = IsSound net

both_true : (a b : Bool) → (a && b) ≡ true → (a ≡ true) × (b ≡ true)
both_true true b e = (refl, e)
both_true false b e = cc

core_told : (cores : List (List ℕ)) (links : List Link) (file : List ℕ) → length links ≡ 0 →
    map CoreRow (cores ++ file ∷ []) ++ map LinkRow links ≡ (map CoreRow cores ++ map LinkRow links) ++ CoreRow file ∷ []
core_told cores [] file e =
    append-nil (map CoreRow (cores ++ file ∷ [])) ∙ map-append CoreRow cores (file ∷ []) ∙ ap (λ l. l ++ CoreRow file ∷ []) (sym (append-nil (map CoreRow cores)))
core_told cores (link ∷ links) file e = absurd (omega arith)

none_bad : (test : Link → Bool) (links : List Link) → length links ≡ 0 → list_all test links ≡ true
none_bad test [] e = refl
none_bad test (link ∷ links) e = absurd (omega arith)

all_more : (test : Link → Bool) (links : List Link) (link : Link) → list_all test links ≡ true → test link ≡ true → list_all test (links ++ link ∷ []) ≡ true
all_more test [] link a b = ap (λ g. g && true) b
all_more test (first ∷ links) link a b =
    let parts = both_true (test first) (list_all test links) a in
    ap (λ g. g && list_all test (links ++ link ∷ [])) parts.0 ∙ all_more test links link parts.1 b

abbrev WithRow : Stage → NetPlan → NetRow → Type 0
WithRow stage net row = (told_by (stage_after row) (net_with row net) ≡ told_by stage net ++ row ∷ []) × IsGood (stage_after row) (net_with row net)

with_header : (net : NetPlan) → net ≡ reading_start.net → WithRow Opening net HeaderRow
with_header net good =
    let start : MayGoOn reading_start.net = record { few_cores = omega arith; few_links = omega arith; ends = refl; behind = inl refl } in
    (ap (told_by Listing) good, subst MayGoOn (sym good) start)

with_core : (net : NetPlan) (file : List ℕ) → row_fits Listing net (CoreRow file) ≡ true → MayGoOn net → WithRow Listing net (CoreRow file)
with_core net file fits good =
    let parts = both_true (length net.links == 0) (nat_lt (length net.cores) 16) fits in
    let empty : length net.links ≡ 0 = eqb-true (length net.links) 0 parts.0 in
    let few : length net.cores < 16 = ltb-true (length net.cores) 16 parts.1 in
    let more : length (net.cores ++ file ∷ []) ≡ length net.cores + 1 = length-append net.cores (file ∷ []) in (
      ap (λ l. HeaderRow ∷ l) (core_told net.cores net.links file empty),
      record { few_cores = omega arith; few_links = good.few_links; ends = none_bad _ net.links empty; behind = inl empty },
    )

with_link : (net : NetPlan) (link : Link) → row_fits Listing net (LinkRow link) ≡ true → MayGoOn net → WithRow Listing net (LinkRow link)
with_link net link fits good =
    let parts = both_true (nat_le 2 (length net.cores) && nat_lt (length net.links) 16) (not (is_bad_link (length net.cores) link)) fits in
    let others = both_true (nat_le 2 (length net.cores)) (nat_lt (length net.links) 16) parts.0 in
    let two : 2 ≤ length net.cores = leb-true 2 (length net.cores) others.0 in
    let few : length net.links < 16 = ltb-true (length net.links) 16 others.1 in
    let more : length (net.links ++ link ∷ []) ≡ length net.links + 1 = length-append net.links (link ∷ []) in (
      ap (λ l. HeaderRow ∷ (map CoreRow net.cores ++ l)) (map-append LinkRow net.links (link ∷ []))
          ∙ ap (λ l. HeaderRow ∷ l) (sym (append_assoc (map CoreRow net.cores) (map LinkRow net.links) (LinkRow link ∷ []))),
      record { few_cores = good.few_cores; few_links = omega arith; ends = all_more _ net.links link good.ends parts.1; behind = inr two },
    )

with_turns : (net : NetPlan) (rounds entries : ℕ) → row_fits Listing net (TurnsRow rounds entries) ≡ true → MayGoOn net → WithRow Listing net (TurnsRow rounds entries)
with_turns net rounds entries fits good =
    let parts = both_true (nat_le 2 (length net.cores)) (turns_fit (length net.cores) rounds entries) fits in
    let all = both_true (nat_lt 0 rounds && nat_lt 0 entries) (nat_le (rounds * entries * length net.cores) 4000000) parts.1 in
    let ones = both_true (nat_lt 0 rounds) (nat_lt 0 entries) all.0 in (
      ap (λ l. HeaderRow ∷ l) (sym (append_assoc (map CoreRow net.cores) (map LinkRow net.links) (TurnsRow rounds entries ∷ []))),
      record {
        several = leb-true 2 (length net.cores) parts.0;
        few_cores = good.few_cores;
        few_links = good.few_links;
        ends = good.ends;
        turns = (ltb-true 0 rounds ones.0, ltb-true 0 entries ones.1);
        short = leb-true (rounds * entries * length net.cores) 4000000 all.1;
      },
    )

fits_told : (stage : Stage) (net : NetPlan) (row : NetRow) → row_fits stage net row ≡ true → IsGood stage net → WithRow stage net row
fits_told Opening net HeaderRow fits good = with_header net good
fits_told Opening net (CoreRow file) fits good = cc
fits_told Opening net (LinkRow link) fits good = cc
fits_told Opening net (TurnsRow rounds entries) fits good = cc
fits_told Listing net HeaderRow fits good = cc
fits_told Listing net (CoreRow file) fits good = with_core net file fits good
fits_told Listing net (LinkRow link) fits good = with_link net link fits good
fits_told Listing net (TurnsRow rounds entries) fits good = with_turns net rounds entries fits good
fits_told Closed net row fits good = cc

row_told : (reading after : NetReading) (row : NetRow) → after_row reading row ≡ Some after → IsGood reading.stage reading.net → (told after ≡ told reading ++ row ∷ []) × IsGood after.stage after.net
row_told reading after row e good =
    let next : NetReading = record { stage = stage_after row; net = net_with row reading.net } in
    let found = chosen (row_fits reading.stage reading.net row) (Some next) after e in
    let same : next ≡ after = cc in
    subst (λ r. (told r ≡ told reading ++ row ∷ []) × IsGood r.stage r.net) same (fits_told reading.stage reading.net row found.0 good)

-- these fields, by line, are rows that lead from one reading to another
record Leads (fields : List (List (List ℕ))) (reading after : NetReading) : Type 0 where
  rows : List NetRow
  are : map row_of fields ≡ map Some rows
  told_is : told after ≡ told reading ++ rows
  good : IsGood after.stage after.net

fields_lead : (fields : List (List ℕ)) (reading after : NetReading) → after_fields reading fields ≡ Some after → IsGood reading.stage reading.net → Leads (with_fields fields []) reading after
fields_lead [] reading after e good =
    let same : reading ≡ after = cc in
    record { rows = []; are = refl; told_is = sym (ap told same) ∙ sym (append-nil (told reading)); good = subst (λ r. IsGood r.stage r.net) same good }
fields_lead (field ∷ fields) reading after e good =
    let found = bound (row_of (field ∷ fields)) (after_row reading) after e in
    let step = row_told reading after found.0 found.2 good in
    record { rows = found.0 ∷ []; are = ap (λ o. o ∷ []) found.1; told_is = step.0; good = step.1 }

with_front : (fields : List (List ℕ)) (rest : List (List (List ℕ))) → with_fields fields rest ≡ with_fields fields [] ++ rest
with_front [] rest = refl
with_front (field ∷ fields) rest = refl

-- lines that were read: their bytes may stand there, and they have the rows that were told
pub record WereRead (lines : List (List ℕ)) (reading after : NetReading) : Type 0 where
  pub bytes : list_all (list_all is_line_byte) lines ≡ true
  pub rows : List NetRow
  pub are : map row_of (fields_by_line lines) ≡ map Some rows
  pub told_is : told after ≡ told reading ++ rows
  pub good : IsGood after.stage after.net

pub lines_read : (lines : List (List ℕ)) (reading after : NetReading) → after_lines reading lines ≡ Some after → IsGood reading.stage reading.net → WereRead lines reading after
lines_read [] reading after e good =
    let same : reading ≡ after = cc in
    record { bytes = refl; rows = []; are = refl; told_is = sym (ap told same) ∙ sym (append-nil (told reading)); good = subst (λ r. IsGood r.stage r.net) same good }
lines_read (line ∷ lines) reading after e good =
    let found = bound (after_line reading line) (λ next. after_lines next lines) after e in
    let here = chosen (list_all is_line_byte line) (after_fields reading (fields_of line)) found.0 found.1 in
    let first = fields_lead (fields_of line) reading found.0 here.1 good in
    let rest = lines_read lines found.0 after found.2 first.good in
    record {
      bytes = ap (λ g. g && list_all (list_all is_line_byte) lines) here.0 ∙ rest.bytes;
      rows = first.rows ++ rest.rows;
      are =
          ap (map row_of) (with_front (fields_of line) (fields_by_line lines)) ∙ map-append row_of (with_fields (fields_of line) []) (fields_by_line lines)
          ∙ ap (λ l. l ++ map row_of (fields_by_line lines)) first.are ∙ ap (λ l. map Some first.rows ++ l) rest.are ∙ sym (map-append Some first.rows rest.rows);
      told_is = rest.told_is ∙ ap (λ l. l ++ rest.rows) first.told_is ∙ append_assoc (told reading) first.rows rest.rows;
      good = rest.good;
    }
