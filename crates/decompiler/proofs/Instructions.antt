-- The instructions of cells, which are read again.
use Rattle.std.proofs.Common.{◌≡◌, ℕ, ◌+◌, ◌/◌, ◌%◌, ◌<◌, ◌≤◌, nat_le, nat_eq, ◌&&◌, ◌||◌, not, Bool, true, false, List, [], ◌∷◌, length, Option, Some, None, refl, ap, sym, ◌∙◌, arith, subst, codes}
use Rattle.std.proofs.lemmas.Bool.Decides.{nat_tests}
use Rattle.std.proofs.lemmas.Bool.{le-leb}
use Rattle.std.specs.List.{list_all}
use Rattle.std.specs.Str.{bytes_eq}
use Rattle.j1_table.specs.Instruction.{decoded, encoded, IsInstr, EncodesBack, DecodesToInstr}
use Rattle.j1_table.specs.Fields.{has_bit}
use Rattle.j1_table.specs.declared.instr.Instr.{Instr}
use Rattle.j1_table.specs.declared.instr.Instr.TheVariants.{Literal, Jump, Branch, Call, Alu}
use Rattle.j1_assembler.specs.declared.instruction.Way.{Way}
use Rattle.j1_assembler.specs.declared.instruction.Way.TheVariants as ways
use Rattle.j1_assembler.specs.Numbers.{◌>>=◌, hex4 as asm_hex4}
use Rattle.j1_assembler.specs.Instruction.{Operation, Fixed, Refers, instruction_of, at_most, target_of, going}
use Rattle.j1_assembler.specs.Names.{is_name, label_of, named_cells, name_in}
use Rattle.decompiler.specs.Listing.{digit, hex2, hex4, place, alu_by, instruction_fields, comment_of}
use Rattle.decompiler.proofs.Back.{all_below, at_each, both_left, both_right, hex4_back}

-- a field of 1 to 6 bytes from 33 to 126
abbrev pub is_good : List ℕ → Bool
is_good field = nat_le 1 (length field) && (nat_le (length field) 6 && list_all (λ b. nat_le 33 b && nat_le b 126) field)

abbrev pub is_operand : List ℕ → Bool
is_operand field = is_good field && not (bytes_eq field (92 ∷ []))

abbrev pub is_cell : Option Operation → ℕ → Bool
is_cell None cell = false
is_cell (Some (Fixed found)) cell = nat_eq found cell
is_cell (Some (Refers way name)) cell = false

abbrev pub is_none : Option (List ℕ) → Bool
is_none None = true
is_none (Some name) = false

-- a word that is no label, and an operand
abbrev pub is_instruction : List (List ℕ) → Bool
is_instruction [] = false
is_instruction (word ∷ []) = false
is_instruction (word ∷ operand ∷ fields) = is_none (label_of word)

-- the fields of an instruction are read as the cell, are no comment, and are few
pub record IsRead (fields : List (List ℕ)) (cell : ℕ) : Type 0 where
  pub read : instruction_of fields ≡ Some (Fixed cell)
  pub operands : list_all is_operand fields ≡ true
  pub few : nat_le (length fields) 8 ≡ true
  pub shape : is_instruction fields ≡ true

abbrev alu_test : ℕ → Bool
alu_test word =
    has_bit word 4
    || (is_cell (instruction_of (alu_by false word)) (0x6000 + word)
    && (list_all is_operand (alu_by false word)
    && (nat_le (length (alu_by false word)) 8 && is_instruction (alu_by false word))))

alu_tests : all_below 8192 alu_test ≡ true
alu_tests = refl

cell_of_test : (o : Option Operation) (cell : ℕ) → is_cell o cell ≡ true → o ≡ Some (Fixed cell)
cell_of_test None cell e = absurd (cc)
cell_of_test (Some (Fixed found)) cell e = ap (λ n. Some (Fixed n)) (grind (arith, nat_tests))
cell_of_test (Some (Refers way name)) cell e = absurd (cc)

parted : (fields : List (List ℕ)) (cell : ℕ) (g a b c d : Bool) → g ≡ false → (g || (a && (b && (c && d)))) ≡ true → (a ≡ true) × (b ≡ true) × (c ≡ true) × (d ≡ true)
parted fields cell g a b c d e f =
    let h : (a && (b && (c && d))) ≡ true = ap (λ g. g || (a && (b && (c && d)))) (sym e) ∙ f in
    let i = both_right a (b && (c && d)) h in
    let j = both_right b (c && d) i in
    (both_left a (b && (c && d)) h, both_left b (c && d) i, both_left c d j, both_right c d j)

-- an ALU cell without bit 4
pub alu_read : (word : ℕ) → word < 8192 → has_bit word 4 ≡ false → IsRead (alu_by false word) (0x6000 + word)
alu_read word h e =
    let fields : List (List ℕ) = alu_by false word in
    let p = parted fields (0x6000 + word) (has_bit word 4) (is_cell (instruction_of fields) (0x6000 + word)) (list_all is_operand fields) (nat_le (length fields) 8) (is_instruction fields) e (at_each 8192 alu_test alu_tests word h) in
    record { read = cell_of_test (instruction_of fields) (0x6000 + word) p.0; operands = p.1; few = p.2; shape = p.3 }

abbrev pub is_graphic : ℕ → Bool
is_graphic b = nat_le 33 b && nat_le b 126

digit_tests : all_below 16 (λ n. is_graphic (digit n) && not (nat_eq (digit n) 58)) ≡ true
digit_tests = refl

pub digit_graphic : (n : ℕ) → n < 16 → is_graphic (digit n) ≡ true
digit_graphic n h = both_left (is_graphic (digit n)) (not (nat_eq (digit n) 58)) (at_each 16 (λ n. is_graphic (digit n) && not (nat_eq (digit n) 58)) digit_tests n h)

not_yes : (g : Bool) → not g ≡ true → g ≡ false
not_yes true e = absurd (cc)
not_yes false e = refl

digit_no_colon : (n : ℕ) → n < 16 → nat_eq (digit n) 58 ≡ false
digit_no_colon n h = not_yes (nat_eq (digit n) 58) (both_right (is_graphic (digit n)) (not (nat_eq (digit n) 58)) (at_each 16 (λ n. is_graphic (digit n) && not (nat_eq (digit n) 58)) digit_tests n h))

no_and : (g : Bool) → not (g && false) ≡ true
no_and true = refl
no_and false = refl

two_good : (a b : ℕ) → is_graphic a ≡ true → is_graphic b ≡ true → is_operand (a ∷ b ∷ []) ≡ true
two_good a b e f =
    ap (λ t. t && not (nat_eq a 92 && false)) (ap (λ g. g && (is_graphic b && true)) e ∙ ap (λ g. g && true) f) ∙ no_and (nat_eq a 92)

four_graphic : (a b c d : ℕ) → is_graphic a ≡ true → is_graphic b ≡ true → is_graphic c ≡ true → is_graphic d ≡ true → list_all is_graphic (a ∷ b ∷ c ∷ d ∷ []) ≡ true
four_graphic a b c d e f g h =
    ap (λ t. t && (is_graphic b && (is_graphic c && (is_graphic d && true)))) e ∙ (ap (λ t. t && (is_graphic c && (is_graphic d && true))) f ∙ (ap (λ t. t && (is_graphic d && true)) g ∙ ap (λ t. t && true) h))

hex4_graphic : (n : ℕ) → n < 65536 → list_all is_graphic (hex4 n) ≡ true
hex4_graphic n h =
    four_graphic (digit (n / 256 / 16)) (digit (n / 256 % 16)) (digit (n % 256 / 16)) (digit (n % 256 % 16)) (digit_graphic (n / 256 / 16) (omega arith))
    (digit_graphic (n / 256 % 16) (omega arith)) (digit_graphic (n % 256 / 16) (omega arith)) (digit_graphic (n % 256 % 16) (omega arith))

pub hex4_operand : (n : ℕ) → n < 65536 → is_operand (hex4 n) ≡ true
hex4_operand n h = ap (λ t. t && not (nat_eq (digit (n / 256 / 16)) 92 && false)) (hex4_graphic n h) ∙ no_and (nat_eq (digit (n / 256 / 16)) 92)

pub hex2_operand : (n : ℕ) → n < 256 → is_operand (hex2 n) ≡ true
hex2_operand n h = two_good (digit (n / 16)) (digit (n % 16)) (digit_graphic (n / 16) (omega arith)) (digit_graphic (n % 16) (omega arith))

pub place_operand : (n : ℕ) → n < 65536 → is_operand (place n) ≡ true
place_operand n h = ap (λ t. t && true) (hex4_graphic n h)

number_operands : (word : List ℕ) (n : ℕ) → is_operand word ≡ true → n < 65536 → list_all is_operand (word ∷ hex4 n ∷ []) ≡ true
number_operands word n e h = ap (λ t. t && (is_operand (hex4 n) && true)) e ∙ ap (λ t. t && true) (hex4_operand n h)

most : (m n : ℕ) → n ≤ m → at_most m n ≡ Some n
most m n h = ap (λ g. elim g [ true ↦ Some n | false ↦ None ]) (le-leb n m h)

literal_read : (value : ℕ) → value < 0x8000 → IsRead (instruction_fields (Literal value)) (0x8000 + value)
literal_read value h = record {
  read = ap (λ o. o >>= λ n. at_most 0x7FFF n >>= λ v. Some (Fixed (0x8000 + v))) (hex4_back value (omega arith)) ∙ ap (λ o. o >>= λ v. Some (Fixed (0x8000 + v))) (most 0x7FFF value (omega arith));
  operands = number_operands (codes "lit") value refl (omega arith);
  few = refl;
  shape = refl;
}

raw_read : (cell : ℕ) → cell < 65536 → IsRead (codes "raw" ∷ hex4 cell ∷ []) cell
raw_read cell h = record {
  read = ap (λ o. o >>= λ n. Some (Fixed n)) (hex4_back cell h);
  operands = number_operands (codes "raw") cell refl h;
  few = refl;
  shape = refl;
}

target_read : (way : Way) (target : ℕ) → target < 0x2000 → target_of way (hex4 target) ≡ Some (Fixed (encoded (going way target)))
target_read way target h =
    ap
    (λ g.
    elim g [
      | true ↦
          elim (is_name (digit (target / 256 % 16) ∷ digit (target % 256 / 16) ∷ digit (target % 256 % 16) ∷ []))
          [ true ↦ Some (Refers way (digit (target / 256 % 16) ∷ digit (target % 256 / 16) ∷ digit (target % 256 % 16) ∷ [])) | false ↦ None ]
      | false ↦ asm_hex4 (hex4 target) >>= λ n. at_most 0x1FFF n >>= λ target. Some (Fixed (encoded (going way target)))
    ]) (digit_no_colon (target / 256 / 16) (omega arith))
    ∙ (ap (λ o. o >>= λ n. at_most 0x1FFF n >>= λ target. Some (Fixed (encoded (going way target)))) (hex4_back target (omega arith)) ∙ ap (λ o. o >>= λ target. Some (Fixed (encoded (going way target)))) (most 0x1FFF target (omega arith)))

jump_read : (target : ℕ) → target < 0x2000 → IsRead (instruction_fields (Jump target)) target
jump_read target h = record { read = target_read ways.Jump target h; operands = number_operands (codes "jump") target refl (omega arith); few = refl; shape = refl }

branch_read : (target : ℕ) → target < 0x2000 → IsRead (instruction_fields (Branch target)) (0x2000 + target)
branch_read target h = record { read = target_read ways.Branch target h; operands = number_operands (codes "branch") target refl (omega arith); few = refl; shape = refl }

call_read : (target : ℕ) → target < 0x2000 → IsRead (instruction_fields (Call target)) (0x4000 + target)
call_read target h = record { read = target_read ways.Call target h; operands = number_operands (codes "call") target refl (omega arith); few = refl; shape = refl }

alu_by_read : (g : Bool) (word : ℕ) → word < 0x2000 → has_bit word 4 ≡ g → IsRead (alu_by g word) (0x6000 + word)
alu_by_read true word h e = raw_read (0x6000 + word) (omega arith)
alu_by_read false word h e = alu_read word h e

instr_read : (instr : Instr) → IsInstr instr → IsRead (instruction_fields instr) (encoded instr)
instr_read (Literal value) h = literal_read value h
instr_read (Jump target) h = jump_read target h
instr_read (Branch target) h = branch_read target h
instr_read (Call target) h = call_read target h
instr_read (Alu word) h = alu_by_read (has_bit word 4) word h refl

-- the instruction of each cell
pub cell_read : EncodesBack → DecodesToInstr → (cell : ℕ) → cell < 65536 → IsRead (instruction_fields (decoded cell)) cell
cell_read back fits cell h = subst (λ k. IsRead (instruction_fields (decoded cell)) k) (back cell h) (instr_read (decoded cell) (fits cell h))

abbrev entries_good : List (List ℕ × ℕ) → Bool
entries_good entries = list_all (λ entry. is_good entry.0) entries

comment_good_in : (cell : ℕ) (entries : List (List ℕ × ℕ)) → entries_good entries ≡ true → list_all is_good (comment_of (name_in cell entries)) ≡ true
comment_good_in cell [] e = refl
comment_good_in cell (entry ∷ entries) e =
    elim (nat_eq cell entry.1) as (λ g. list_all is_good (comment_of (elim g [ true ↦ Some entry.0 | false ↦ name_in cell entries ])) ≡ true) [
      | true ↦ ap (λ t. t && true) (both_left (is_good entry.0) (entries_good entries) e)
      | false ↦ comment_good_in cell entries (both_right (is_good entry.0) (entries_good entries) e)
    ]

pub comment_good : (cell : ℕ) → list_all is_good (comment_of (name_in cell named_cells)) ≡ true
comment_good cell = comment_good_in cell named_cells refl
