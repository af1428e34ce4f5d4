-- The listing of an image assembles to the image.
use Rattle.std.proofs.Common.{◌≡◌, ℕ, zero, suc, ◌+◌, ◌-◌, ◌/◌, ◌<◌, ◌≤◌, ◌&&◌, true, List, [], ◌∷◌, ◌++◌, length, map, take, drop, slice_index, Option, Some, None, refl, ap, sym, ◌∙◌, arith, append_assoc, append-nil, length-append, lit<}
use Rattle.std.specs.List.{list_all}
use Rattle.std.proofs.lemmas.List.{length-map, length-take, length-drop, take-append-drop, get_or-drop}
use Rattle.std.proofs.lemmas.Bool.Decides.{nat_tests}
use Rattle.j1_table.specs.Instruction.{decoded, EncodesBack, DecodesToInstr}
use Rattle.j1_assembler.specs.declared.labels.Definition.{Definition}
use Rattle.j1_assembler.specs.declared.assembler.Section.TheVariants as sections
use Rattle.j1_assembler.specs.Text.{fields_of, is_formed, before_comment}
use Rattle.j1_assembler.specs.Names.{label_of, named_cells, name_in}
use Rattle.j1_assembler.specs.Assembly.{Fine, Faulty, Part, part_of, Assembly, Refused, line_outcome, lines_outcome}
use Rattle.decompiler.specs.Listing.{hex2, place, instruction_fields, comment_of, code_fields, code_rows, data_rows, line_of}
use Rattle.decompiler.proofs.Back.{place_back}
use Rattle.decompiler.proofs.Instructions.{is_good, is_operand, is_none, IsRead, cell_read, comment_good, place_operand, hex2_operand}
use Rattle.decompiler.proofs.Split.{all_append, operands_good, fields_back, line_formed}
use Rattle.decompiler.proofs.ListingLines.{code_step, data_step, data_back}

-- a line that is fine, and what follows it
pub next_line : (find : List ℕ → Option Definition) (number : ℕ) (part after : Part) (line : List ℕ) (lines : List (List ℕ)) (assembly : Assembly) →
    line_outcome find number part line ≡ Fine after → lines_outcome find (number + 1) after lines ≡ assembly →
    lines_outcome find number part (line ∷ lines) ≡ assembly
next_line find number part after line lines assembly e h =
    ap (λ o. elim o [ Fine part ↦ lines_outcome find (number + 1) part lines | Faulty cause ↦ Refused number cause ]) e ∙ h

comment_behind : (o : Option (List ℕ)) → before_comment (comment_of o) ≡ []
comment_behind None = refl
comment_behind (Some name) = refl

none_of : (o : Option (List ℕ)) → is_none o ≡ true → o ≡ None
none_of None e = refl
none_of (Some name) e = absurd (cc)

-- the line of a cell, by the fields of its instruction
instr_line : (find : List ℕ → Option Definition) (number start : ℕ) (cells bytes : List ℕ) (cell : ℕ) (instr comment : List (List ℕ)) → IsRead instr cell →
    list_all is_good comment ≡ true → length comment ≤ 2 → before_comment comment ≡ [] → length cells < start / 2 → start / 2 ≤ 8192 →
    line_outcome find number (part_of sections.Code start cells bytes) (line_of (place (length cells) ∷ (instr ++ comment)))
    ≡ Fine (part_of sections.Code start (cells ++ cell ∷ []) bytes)
instr_line find number start cells bytes cell [] comment r g few h room most = absurd (let s = r.shape in cc)
instr_line find number start cells bytes cell (word ∷ []) comment r g few h room most = absurd (let s = r.shape in cc)
instr_line find number start cells bytes cell (word ∷ operand ∷ rest) comment r g few h room most =
    let k : ℕ = length cells in
    let instr : List (List ℕ) = word ∷ operand ∷ rest in
    let operands : list_all is_operand (place k ∷ instr) ≡ true = ap (λ t. t && list_all is_operand instr) (place_operand k (omega arith)) ∙ r.operands in
    let good : list_all is_good (place k ∷ (instr ++ comment)) ≡ true = all_append is_good (place k ∷ instr) comment (operands_good (place k ∷ instr) operands) g in
    let short : length instr ≤ 8 = let t = r.few in grind (arith, nat_tests) in
    let formed : is_formed (line_of (place k ∷ (instr ++ comment))) ≡ true = line_formed (place k ∷ (instr ++ comment)) good (omega (arith, length-append instr comment)) in
    code_step find number start cells bytes (line_of (place k ∷ (instr ++ comment))) k cell word operand rest
    (fields_back (place k) instr comment operands g h) r.read (none_of (label_of word) r.shape) formed (place_back k (omega arith)) refl room

comment_few : (o : Option (List ℕ)) → length (comment_of o) ≤ 2
comment_few None = omega arith
comment_few (Some name) = omega arith

cell_line : EncodesBack → DecodesToInstr → (find : List ℕ → Option Definition) (number start : ℕ) (cells bytes : List ℕ) (cell : ℕ) → cell < 65536 →
    length cells < start / 2 → start / 2 ≤ 8192 →
    line_outcome find number (part_of sections.Code start cells bytes) (line_of (code_fields (length cells) cell))
    ≡ Fine (part_of sections.Code start (cells ++ cell ∷ []) bytes)
cell_line back fits find number start cells bytes cell small room most =
    instr_line find number start cells bytes cell (instruction_fields (decoded cell)) (comment_of (name_in cell named_cells)) (cell_read back fits cell small)
    (comment_good cell) (comment_few (name_in cell named_cells)) (comment_behind (name_in cell named_cells)) room most

-- all code lines
pub code_part : EncodesBack → DecodesToInstr →
    (find : List ℕ → Option Definition) (number start k : ℕ) (cells bytes more : List ℕ) (rest : List (List (List ℕ))) (assembly : Assembly) →
    k ≡ length cells → ((i : ℕ) → slice_index more i < 65536) → length cells + length more ≤ start / 2 → start / 2 ≤ 8192 →
    ((number : ℕ) → lines_outcome find number (part_of sections.Code start (cells ++ more) bytes) (map line_of rest) ≡ assembly) →
    lines_outcome find number (part_of sections.Code start cells bytes) (map line_of (code_rows k more ++ rest)) ≡ assembly
code_part back fits find number start k cells bytes [] rest assembly same small room most h =
    ap (λ c. lines_outcome find number (part_of sections.Code start c bytes) (map line_of rest)) (sym (append-nil cells)) ∙ h number
code_part back fits find number start k cells bytes (cell ∷ more) rest assembly same small room most h =
    let line : line_outcome find number (part_of sections.Code start cells bytes) (line_of (code_fields k cell)) ≡ Fine (part_of sections.Code start (cells ++ cell ∷ []) bytes) =
    ap (λ k. line_outcome find number (part_of sections.Code start cells bytes) (line_of (code_fields k cell))) same ∙ cell_line back fits find number start cells bytes cell (small 0) (omega arith) most in
    next_line find number (part_of sections.Code start cells bytes) (part_of sections.Code start (cells ++ cell ∷ []) bytes) (line_of (code_fields k cell)) (map line_of (code_rows (k + 1) more ++ rest)) assembly line
    (code_part back fits find (number + 1) start (k + 1) (cells ++ cell ∷ []) bytes more rest assembly (omega (arith, length-append cells (cell ∷ []))) (λ i. small (suc i)) (omega (arith, length-append cells (cell ∷ []))) most
    (λ n. ap (λ c. lines_outcome find n (part_of sections.Code start c bytes) (map line_of rest)) (append_assoc cells (cell ∷ []) more) ∙ h n))

pub bytes_operands : (bytes : List ℕ) → ((i : ℕ) → slice_index bytes i < 256) → list_all is_operand (map hex2 bytes) ≡ true
bytes_operands [] small = refl
bytes_operands (b ∷ bs) small = ap (λ t. t && list_all is_operand (map hex2 bs)) (hex2_operand b (small 0)) ∙ bytes_operands bs (λ i. small (suc i))

-- one data line
bytes_line : (find : List ℕ → Option Definition) (number start address : ℕ) (cells bytes row : List ℕ) → ((i : ℕ) → slice_index row i < 256) → 1 ≤ length row →
    length row ≤ 16 → address ≡ start + length bytes → address < 65536 → length bytes + length row ≤ 16384 - start →
    line_outcome find number (part_of sections.Data start cells bytes) (line_of (place address ∷ map hex2 row))
    ≡ Fine (part_of sections.Data start cells (bytes ++ row))
bytes_line find number start address cells bytes [] small some few same low room = absurd (omega arith)
bytes_line find number start address cells bytes (b ∷ bs) small some few same low room =
    let row : List ℕ = b ∷ bs in
    let operands : list_all is_operand (place address ∷ map hex2 row) ≡ true = ap (λ t. t && list_all is_operand (map hex2 row)) (place_operand address low) ∙ bytes_operands row small in
    let formed : is_formed (line_of (place address ∷ map hex2 row)) ≡ true = line_formed (place address ∷ map hex2 row) (operands_good (place address ∷ map hex2 row) operands) (omega (arith, length-map row hex2)) in
    let fields : fields_of (line_of (place address ∷ map hex2 row)) ≡ place address ∷ map hex2 row =
    ap (λ t. fields_of (line_of (place address ∷ t))) (sym (append-nil (map hex2 row))) ∙ fields_back (place address) (map hex2 row) [] operands refl refl in
    data_step find number start cells bytes (line_of (place address ∷ map hex2 row)) address b bs fields formed (place_back address low) same (data_back row small some few) room

pub taken_small : (n : ℕ) (bytes : List ℕ) → ((i : ℕ) → slice_index bytes i < 256) → (i : ℕ) → slice_index (take n bytes) i < 256
taken_small zero bytes b i = lit< tt
taken_small (suc n) [] b i = lit< tt
taken_small (suc n) (x ∷ xs) b zero = b 0
taken_small (suc n) (x ∷ xs) b (suc i) = taken_small n xs (λ i. b (suc i)) i

pub dropped_small : (n : ℕ) (bytes : List ℕ) → ((i : ℕ) → slice_index bytes i < 256) → (i : ℕ) → slice_index (drop n bytes) i < 256
dropped_small n bytes b i = rw (get_or-drop n bytes i 0) (b (n + i))

-- all data lines
pub data_part : (find : List ℕ → Option Definition) (number start address n : ℕ) (cells bytes more : List ℕ) (rest : List (List (List ℕ)))
    (assembly : Assembly) → n ≡ (length more + 15) / 16 → (0 < n → address ≡ start + length bytes) → ((i : ℕ) → slice_index more i < 256) →
    start + length bytes + length more ≤ 16384 →
    ((number : ℕ) → lines_outcome find number (part_of sections.Data start cells (bytes ++ more)) (map line_of rest) ≡ assembly) →
    lines_outcome find number (part_of sections.Data start cells bytes) (map line_of (data_rows n address more ++ rest)) ≡ assembly
data_part find number start address zero cells bytes [] rest assembly count same small room h =
    ap (λ c. lines_outcome find number (part_of sections.Data start cells c) (map line_of rest)) (sym (append-nil bytes)) ∙ h number
data_part find number start address zero cells bytes (b ∷ bs) rest assembly count same small room h = absurd (omega arith)
data_part find number start address (suc n) cells bytes more rest assembly count same small room h =
    let row : List ℕ = take 16 more in
    let behind : List ℕ = drop 16 more in
    let some : 1 ≤ length row = omega (arith, length-take 16 more) in
    let few : length row ≤ 16 = omega (arith, length-take 16 more) in
    let parts : length row + length behind ≡ length more = sym (length-append row behind) ∙ ap length (take-append-drop 16 more) in
    let place_is : address ≡ start + length bytes = same (omega arith) in
    let line = bytes_line find number start address cells bytes row (taken_small 16 more small) some few place_is (omega arith) (omega arith) in
    next_line find number (part_of sections.Data start cells bytes) (part_of sections.Data start cells (bytes ++ row)) (line_of (place address ∷ map hex2 row)) (map line_of (data_rows n (address + 16) behind ++ rest)) assembly line
    (data_part find (number + 1) start (address + 16) n cells (bytes ++ row) behind rest assembly
    (omega (arith, length-drop 16 more)) (λ some. omega (arith, length-append bytes row, length-take 16 more)) (dropped_small 16 more small) (omega (arith, length-append bytes row))
    (λ k. ap (λ c. lines_outcome find k (part_of sections.Data start cells c) (map line_of rest)) (append_assoc bytes row behind ∙ ap (λ t. bytes ++ t) (take-append-drop 16 more)) ∙ h k))
