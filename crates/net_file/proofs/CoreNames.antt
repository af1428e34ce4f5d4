-- The files of a net's cores have the form of names.
use Rattle.std.proofs.Common.{◌≡◌, ℕ, Bool, true, false, List, [], ◌∷◌, ◌++◌, map, Option, Some, None, refl, sym, ap, ◌∙◌}
use Rattle.std.specs.Prelude.{◌&&◌, if◌then◌else◌, codes}
use Rattle.std.specs.List.{list_all}
use Rattle.std.specs.Str.{bytes_eq}
use Rattle.j1_assembler.specs.Text.{lines_of}
use Rattle.net_file.specs.Numbers.{number_in}
use Rattle.net_file.specs.Net.{NetPlan, NetRow, HeaderRow, CoreRow, LinkRow, TurnsRow, is_file_name, is_core_file, link_row, turns_row, row_of, fields_by_line, IsNetText}

name_first : (a b : Bool) → (a && b) ≡ true → a ≡ true
name_first true b e = refl
name_first false b e = cc

short_named : (net one core good : Bool) (field file : List ℕ) → good ≡ is_core_file field →
    (if net then (if one then Some HeaderRow else None) else if core then (if good then Some (CoreRow field) else None) else None) ≡ Some (CoreRow file) → is_core_file file ≡ true
short_named true true core good field file is e = cc
short_named true false core good field file is e = cc
short_named false one true true field file is e = let same : field ≡ file = cc in sym (ap is_core_file same) ∙ sym is
short_named false one true false field file is e = cc
short_named false one false good field file is e = cc

link_no_core : (from to : Option ℕ) (file : List ℕ) → link_row from to ≡ Some (CoreRow file) → ⊥
link_no_core (Some from) (Some to) file e = cc
link_no_core (Some from) None file e = cc
link_no_core None to file e = cc

turns_no_core : (rounds entries : Option ℕ) (file : List ℕ) → turns_row rounds entries ≡ Some (CoreRow file) → ⊥
turns_no_core (Some rounds) (Some entries) file e = cc
turns_no_core (Some rounds) None file e = cc
turns_no_core None entries file e = cc

long_no_core : (link turns : Bool) (a b c d : Option ℕ) (file : List ℕ) → (if link then link_row a b else if turns then turns_row c d else None) ≡ Some (CoreRow file) → ⊥
long_no_core true turns a b c d file e = link_no_core a b file e
long_no_core false true a b c d file e = turns_no_core c d file e
long_no_core false false a b c d file e = cc

row_named : (fields : List (List ℕ)) (file : List ℕ) → row_of fields ≡ Some (CoreRow file) → is_core_file file ≡ true
row_named [] file e = cc
row_named (head ∷ []) file e = cc
row_named (head ∷ field ∷ []) file e = short_named (bytes_eq head (codes "NET")) (bytes_eq field (codes "1")) (bytes_eq head (codes "core")) (is_core_file field) field file refl e
row_named (head ∷ first ∷ second ∷ []) file e =
    absurd (long_no_core (bytes_eq head (codes "link")) (bytes_eq head (codes "turns")) (number_in 10 15 first) (number_in 10 15 second) (number_in 10 1000000 first) (number_in 10 1000 second) file e)
row_named (head ∷ first ∷ second ∷ third ∷ more) file e = cc

rows_named : (cores : List (List ℕ)) (fields : List (List (List ℕ))) (rest : List NetRow) → map row_of fields ≡ map Some (map CoreRow cores ++ rest) → list_all is_file_name cores ≡ true
rows_named [] fields rest e = refl
rows_named (file ∷ cores) [] rest e = cc
rows_named (file ∷ cores) (field ∷ fields) rest e =
    let head : row_of field ≡ Some (CoreRow file) = cc in
    let tail : map row_of fields ≡ map Some (map CoreRow cores ++ rest) = cc in
    ap (λ g. g && list_all is_file_name cores) (name_first (is_file_name file) _ (row_named field file head)) ∙ rows_named cores fields rest tail

behind_header : (fields : List (List (List ℕ))) (cores : List (List ℕ)) (rest : List NetRow) → map row_of fields ≡ Some HeaderRow ∷ map Some (map CoreRow cores ++ rest) → list_all is_file_name cores ≡ true
behind_header [] cores rest e = cc
behind_header (field ∷ fields) cores rest e = let tail : map row_of fields ≡ map Some (map CoreRow cores ++ rest) = cc in rows_named cores fields rest tail

pub cores_named : (text : List ℕ) (net : NetPlan) → IsNetText text net → list_all is_file_name net.cores ≡ true
cores_named text net is = behind_header (fields_by_line (lines_of text)) net.cores (map LinkRow net.links ++ TurnsRow net.rounds net.entries ∷ []) is.rows
