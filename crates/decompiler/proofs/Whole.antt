-- The whole listing of an image.
use Rattle.std.proofs.Common.{◌≡◌, ◌≢◌, ℕ, zero, suc, ◌+◌, ◌*◌, ◌/◌, ◌%◌, ◌^◌, ◌<◌, ◌≤◌, nat_eq, ◌&&◌, not, Bool, true, false, List, [], ◌∷◌, ◌++◌, length, map, take, drop, slice_index, Option, Some, None, refl, ap, sym, ◌∙◌, arith, codes}
use Rattle.std.specs.List.{list_all, flat_map}
use Rattle.std.proofs.lemmas.Bool.Decides.{nat_tests}
use Rattle.j1_table.specs.Image.{Content, HasRoom}
use Rattle.j1_table.specs.Instruction.{decoded, EncodesBack, DecodesToInstr}
use Rattle.j1_assembler.specs.declared.labels.Definition.{Definition}
use Rattle.j1_assembler.specs.declared.assembler.Section.TheVariants as sections
use Rattle.j1_assembler.specs.declared.refusal.AsmCause.TheVariants as causes
use Rattle.j1_assembler.specs.Text.{lines_of, fields_of, is_formed}
use Rattle.j1_assembler.specs.Numbers as asm
use Rattle.j1_assembler.specs.Names.{named_cells, name_in}
use Rattle.j1_assembler.specs.Lines.{header_of, stated_start}
use Rattle.j1_assembler.specs.Labels.{defined, labels_from}
use Rattle.j1_assembler.specs.Assembly.{Fine, Faulty, ◌>>=◌, checked, present, formed, part_of, Assembled, Refused, lines_outcome, header_outcome, text_outcome, opened, assembled}
use Rattle.j1_assembler.specs.Grammar.{AssemblesByGrammar}
use Rattle.decompiler.specs.Laws.{AssemblesOnlyTo}
use Rattle.decompiler.specs.Listing.{hex2, hex4, place, instruction_fields, comment_of, code_fields, code_rows, data_rows, header_by, header_fields, rows, line_of, line_text, listing}
use Rattle.std.specs.Str.{bytes_eq}
use Rattle.decompiler.proofs.Back.{hex4_back, both_left, both_right}
use Rattle.decompiler.proofs.Instructions.{is_good, is_operand, cell_read, comment_good, place_operand, hex4_operand}
use Rattle.decompiler.proofs.Split.{all_append, operands_good, fields_back, line_formed, first_row_line}
use Rattle.decompiler.proofs.ListingAssembly.{next_line, code_part, data_part, bytes_operands, taken_small, dropped_small}

-- the cells and bytes have room, and each is in range
pub record IsImage (image : Content) : Type 0 where
  pub room : HasRoom image
  pub cells : (k : ℕ) → slice_index image.cells k < 2 ^ 16
  pub bytes : (k : ℕ) → slice_index image.bytes k < 2 ^ 8

abbrev are_good : List (List (List ℕ)) → Bool
are_good rows = list_all (λ row. list_all is_good row) rows

-- the lines of rows of good fields
lines_back : (rs : List (List (List ℕ))) → are_good rs ≡ true → lines_of (flat_map line_text rs) ≡ map line_of rs
lines_back [] e = refl
lines_back (row ∷ rs) e =
    first_row_line row (flat_map line_text rs) (both_left (list_all is_good row) (are_good rs) e)
    ∙ ap (λ t. line_of row ∷ t) (lines_back rs (both_right (list_all is_good row) (are_good rs) e))

code_fields_good : EncodesBack → DecodesToInstr → (k cell : ℕ) → k < 65536 → cell < 65536 → list_all is_good (code_fields k cell) ≡ true
code_fields_good back fits k cell h g =
    let instr : List (List ℕ) = instruction_fields (decoded cell) in
    let operands : list_all is_operand (place k ∷ instr) ≡ true = ap (λ t. t && list_all is_operand instr) (place_operand k h) ∙ (cell_read back fits cell g).operands in
    all_append is_good (place k ∷ instr) (comment_of (name_in cell named_cells)) (operands_good (place k ∷ instr) operands) (comment_good cell)

code_good : EncodesBack → DecodesToInstr → (k : ℕ) (cells : List ℕ) → k + length cells ≤ 8192 → ((i : ℕ) → slice_index cells i < 65536) → are_good (code_rows k cells) ≡ true
code_good back fits k [] h small = refl
code_good back fits k (cell ∷ cells) h small =
    ap (λ t. t && are_good (code_rows (k + 1) cells)) (code_fields_good back fits k cell (omega arith) (small 0)) ∙ code_good back fits (k + 1) cells (omega arith) (λ i. small (suc i))

data_good : (n address : ℕ) (bytes : List ℕ) → address + 16 * n ≤ 65536 → ((i : ℕ) → slice_index bytes i < 256) → are_good (data_rows n address bytes) ≡ true
data_good zero address bytes h small = refl
data_good (suc n) address bytes h small =
    let row : List ℕ = take 16 bytes in
    let operands : list_all is_operand (place address ∷ map hex2 row) ≡ true = ap (λ t. t && list_all is_operand (map hex2 row)) (place_operand address (omega arith)) ∙ bytes_operands row (taken_small 16 bytes small) in
    ap (λ t. t && are_good (data_rows n (address + 16) (drop 16 bytes))) (operands_good (place address ∷ map hex2 row) operands)
    ∙ data_good n (address + 16) (drop 16 bytes) (omega arith) (dropped_small 16 bytes small)

header_good_by : (g : Bool) (start : ℕ) → start < 65536 → list_all is_good (header_by g start) ≡ true
header_good_by true start h = refl
header_good_by false start h = ap (λ t. t && true) (both_left (is_good (hex4 start)) (not (bytes_eq (hex4 start) (92 ∷ []))) (hex4_operand start h))

two_parts : (a b : List (List (List ℕ))) → are_good a ≡ true → are_good b ≡ true → are_good (a ++ b) ≡ true
two_parts a b e f = all_append (λ row. list_all is_good row) a b e f

rows_good : EncodesBack → DecodesToInstr → (image : Content) → IsImage image → are_good (rows image) ≡ true
rows_good back fits image ok =
    let data_lines : List (List (List ℕ)) = data_rows ((length image.bytes + 15) / 16) image.data_start image.bytes in
    let code : List (List (List ℕ)) = code_rows 0 image.cells in
    let data_part : are_good (data_lines ++ ((codes "END" ∷ []) ∷ [])) ≡ true =
    two_parts data_lines ((codes "END" ∷ []) ∷ [])
    (data_good ((length image.bytes + 15) / 16) image.data_start image.bytes (omega (arith, ok.room.space, ok.room.splits.at_most)) ok.bytes) refl in
    let code_part : are_good (code ++ ((codes "DATA" ∷ []) ∷ (data_lines ++ ((codes "END" ∷ []) ∷ [])))) ≡ true =
    two_parts code ((codes "DATA" ∷ []) ∷ (data_lines ++ ((codes "END" ∷ []) ∷ [])))
    (code_good back fits 0 image.cells (omega (arith, ok.room.code, ok.room.splits.at_most)) ok.cells) data_part in
    ap (λ t. t && are_good ((codes "CODE" ∷ []) ∷ (code ++ ((codes "DATA" ∷ []) ∷ (data_lines ++ ((codes "END" ∷ []) ∷ []))))))
    (header_good_by (nat_eq image.data_start 8192) image.data_start (omega (arith, ok.room.splits.at_most))) ∙ code_part

split_start : (start : ℕ) → start % 2 ≡ 0 → 4096 ≤ start → start ≤ 16000 → start ≢ 8192 → stated_start start ≡ Some start
split_start start even low high other = grind (arith, nat_tests)

header_line_by : (g : Bool) (start : ℕ) → g ≡ nat_eq start 8192 → start % 2 ≡ 0 → 4096 ≤ start → start ≤ 16000 → header_outcome (line_of (header_by g start)) (fields_of (line_of (header_by g start))) ≡ Fine (Some start)
header_line_by true start e even low high = let s : 8192 ≡ start = grind (arith, nat_tests) in ap (λ n. Fine (Some n)) s
header_line_by false start e even low high =
    let other : start ≢ 8192 = grind (arith, nat_tests) in
    let header : List (List ℕ) = codes "J1" ∷ codes "2" ∷ hex4 start ∷ [] in
    let operands : list_all is_operand header ≡ true = ap (λ t. t && true) (hex4_operand start (omega arith)) in
    let fields : fields_of (line_of header) ≡ header = fields_back (codes "J1") (codes "2" ∷ hex4 start ∷ []) [] operands refl refl in
    let is_header : header_of header ≡ Some start = ap (λ o. asm.◌>>=◌ o stated_start) (hex4_back start (omega arith)) ∙ split_start start even low high other in
    let form : is_formed (line_of header) ≡ true = line_formed header (operands_good header operands) (omega arith) in
    ap (λ t. header_outcome (line_of header) t) fields
    ∙ (ap (λ o. present o causes.Header >>= λ start. formed (line_of header) (Some start)) is_header
    ∙ ap (λ g. checked g causes.Form (Some start)) form)

-- behind the header
open_text : (find : List ℕ → Option Definition) (number start : ℕ) (line : List ℕ) (lines : List (List ℕ)) →
    header_outcome line (fields_of line) ≡ Fine (Some start) → text_outcome find number (line ∷ lines) ≡ lines_outcome find (number + 1) (opened start) lines
open_text find number start line lines e =
    ap (λ o. elim o [ Fine start ↦ elim start [ Some start ↦ lines_outcome find (number + 1) (opened start) lines | None ↦ text_outcome find (number + 1) lines ] | Faulty cause ↦ Refused number cause ]) e

text_back : EncodesBack → DecodesToInstr → (find : List ℕ → Option Definition) (image : Content) → IsImage image → text_outcome find 1 (map line_of (rows image)) ≡ Assembled image
text_back back fits find image ok =
    let start : ℕ = image.data_start in
    let ends : List (List (List ℕ)) = (codes "END" ∷ []) ∷ [] in
    let data_lines : List (List (List ℕ)) = data_rows ((length image.bytes + 15) / 16) start image.bytes in
    let behind : List (List (List ℕ)) = (codes "DATA" ∷ []) ∷ (data_lines ++ ends) in
    let finish : (number : ℕ) → lines_outcome find number (part_of sections.Data start image.cells image.bytes) (map line_of ends) ≡ Assembled image = λ number. refl in
    let bytes_part : (number : ℕ) → lines_outcome find number (part_of sections.Data start image.cells []) (map line_of (data_lines ++ ends)) ≡ Assembled image =
    λ number. data_part find number start start ((length image.bytes + 15) / 16) image.cells [] image.bytes ends (Assembled image) refl (λ some. omega arith) ok.bytes (omega (arith, ok.room.space, ok.room.splits.at_most)) finish in
    let code_end : (number : ℕ) → lines_outcome find number (part_of sections.Code start image.cells []) (map line_of behind) ≡ Assembled image =
    λ number.
    next_line find number (part_of sections.Code start image.cells []) (part_of sections.Data start image.cells []) (line_of (codes "DATA" ∷ []))
    (map line_of (data_lines ++ ends)) (Assembled image) refl (bytes_part (number + 1)) in
    let cells_part : (number : ℕ) → lines_outcome find number (part_of sections.Code start [] []) (map line_of (code_rows 0 image.cells ++ behind)) ≡ Assembled image =
    λ number. code_part back fits find number start 0 [] [] image.cells behind (Assembled image) refl ok.cells (omega (arith, ok.room.code)) (omega (arith, ok.room.splits.at_most)) code_end in
    open_text find 1 start (line_of (header_fields start)) (map line_of ((codes "CODE" ∷ []) ∷ (code_rows 0 image.cells ++ behind)))
    (header_line_by (nat_eq start 8192) start refl ok.room.splits.is_even ok.room.splits.at_least ok.room.splits.at_most)
    ∙ next_line find 2 (opened start) (part_of sections.Code start [] []) (line_of (codes "CODE" ∷ [])) (map line_of (code_rows 0 image.cells ++ behind)) (Assembled image) refl (cells_part 3)

-- the listing of an image assembles to the image
pub listing_back : EncodesBack → DecodesToInstr → (image : Content) → IsImage image → assembled (listing image) ≡ Assembled image
listing_back back fits image ok =
    ap (λ lines. text_outcome (defined (labels_from 1 (lines_of (listing image)))) 1 lines) (lines_back (rows image) (rows_good back fits image ok))
    ∙ text_back back fits (defined (labels_from 1 (lines_of (listing image)))) image ok

assembled_one : (a b : Content) → Assembled a ≡ Assembled b → a ≡ b
assembled_one a b e = cc

pub only_to : (image : Content) → AssemblesByGrammar → assembled (listing image) ≡ Assembled image → AssemblesOnlyTo (listing image) image
only_to image grammar e = record {
  assembles = (grammar (listing image) image).0 e;
  alone = λ other o. assembled_one other image (sym ((grammar (listing image) other).1 o) ∙ e);
}
