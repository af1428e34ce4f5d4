-- What single lines of a listing give.
use Rattle.std.proofs.Common.{◌≡◌, ℕ, suc, ◌+◌, ◌-◌, ◌/◌, ◌<◌, ◌≤◌, nat_le, nat_lt, nat_eq, ◌&&◌, true, false, List, [], ◌∷◌, ◌++◌, length, map, slice_index, Option, Some, None, refl, ap, ◌∙◌, arith}
use Rattle.std.proofs.lemmas.List.{length-map}
use Rattle.std.proofs.lemmas.Bool.{le-leb, lt-ltb}
use Rattle.std.proofs.lemmas.Bool.Decides.{nat_tests}
use Rattle.j1_assembler.specs.declared.labels.Definition.{Definition}
use Rattle.j1_assembler.specs.declared.refusal.AsmCause.TheVariants as causes
use Rattle.j1_assembler.specs.declared.assembler.Section.TheVariants as sections
use Rattle.j1_assembler.specs.Text.{fields_of, is_formed}
use Rattle.j1_assembler.specs.Numbers as asm
use Rattle.j1_assembler.specs.Numbers.{stated_place}
use Rattle.j1_assembler.specs.Names.{label_of}
use Rattle.j1_assembler.specs.Instruction.{Operation, Fixed, instruction_of}
use Rattle.j1_assembler.specs.Lines.{heading_of, front_place, behind_place, front_label, behind_label, line_label, line_rest, optional_instruction, bytes_of, data_of}
use Rattle.j1_assembler.specs.Assembly.{LineResult, Fine, ◌>>=◌, checked, present, Part, part_of, formed, is_present, is_first, with_operation, with_bytes, code_line, data_line, line_of_code, line_of_data, line_with, line_outcome}
use Rattle.decompiler.specs.Listing.{hex2, place}
use Rattle.decompiler.proofs.Back.{hex2_back}

module _ (find : List ℕ → Option Definition) (number start : ℕ) (cells bytes line : List ℕ) where
  -- a code line from what its fields are
  abbrev code_by : Option (Option Operation) → Option ℕ → Option (List ℕ) → LineResult Part
  code_by operation place label =
      present operation causes.Form >>= λ operation.
      checked (is_present place (length cells)) causes.Address (part_of sections.Code start cells bytes) >>= λ part.
      checked (is_first find label number) causes.Label part >>= λ part.
      with_operation find part operation

  pub code_step : (k cell : ℕ) (word operand : List ℕ) (rest : List (List ℕ)) → fields_of line ≡ place k ∷ word ∷ operand ∷ rest →
      instruction_of (word ∷ operand ∷ rest) ≡ Some (Fixed cell) → label_of word ≡ None → is_formed line ≡ true → stated_place (place k) ≡ Some k →
      k ≡ length cells → length cells < start / 2 →
      line_outcome find number (part_of sections.Code start cells bytes) line ≡ Fine (part_of sections.Code start (cells ++ cell ∷ []) bytes)
  code_step k cell word operand rest e read label form at same room =
      let part : Part = part_of sections.Code start cells bytes in
      let fields : List (List ℕ) = place k ∷ word ∷ operand ∷ rest in
      let behind : behind_place fields ≡ word ∷ operand ∷ rest = ap (λ o. elim o [ Some p ↦ word ∷ operand ∷ rest | None ↦ fields ]) at in
      let unlabelled : behind_label (word ∷ operand ∷ rest) ≡ word ∷ operand ∷ rest = ap (λ o. elim o [ Some p ↦ operand ∷ rest | None ↦ word ∷ operand ∷ rest ]) label in
      let rest_is : line_rest fields ≡ word ∷ operand ∷ rest = ap behind_label behind ∙ unlabelled in
      let operation : optional_instruction (line_rest fields) ≡ Some (Some (Fixed cell)) = ap optional_instruction rest_is ∙ ap (λ o. asm.◌>>=◌ o (λ x. Some (Some x))) read in
      let label_is : line_label fields ≡ None = ap front_label behind ∙ label in
      let present : nat_eq k (length cells) ≡ true = grind (arith, nat_tests) in
      let fits : nat_lt (length cells) (start / 2) ≡ true = lt-ltb (length cells) (start / 2) room in
      ap (λ t. line_with find number part line t) e
      ∙ (ap (λ t. line_of_code find number part line (heading_of t)) e
      ∙ (ap (λ t. formed line part >>= λ p. code_line find number p t) e
      ∙ (ap (λ g. checked g causes.Form part >>= λ p. code_line find number p fields) form
      ∙ (ap (λ o. code_by o (front_place fields) (line_label fields)) operation
      ∙ (ap (λ o. code_by (Some (Some (Fixed cell))) o (line_label fields)) at
      ∙ (ap (λ o. code_by (Some (Some (Fixed cell))) (Some k) o) label_is
      ∙ (ap (λ g. checked g causes.Address part >>= λ p. with_operation find p (Some (Fixed cell))) present
      ∙ ap (λ g. checked g causes.Full (part_of sections.Code start (cells ++ cell ∷ []) bytes)) fits)))))))

bytes_back : (more : List ℕ) → ((k : ℕ) → slice_index more k < 256) → bytes_of (map hex2 more) ≡ Some more
bytes_back [] small = refl
bytes_back (b ∷ bs) small =
    ap (λ o. asm.◌>>=◌ o (λ byte. asm.◌>>=◌ (bytes_of (map hex2 bs)) (λ bytes. Some (byte ∷ bytes)))) (hex2_back b (small 0))
    ∙ ap (λ o. asm.◌>>=◌ o (λ bytes. Some (b ∷ bytes))) (bytes_back bs (λ k. small (suc k)))

within : (n : ℕ) (o : Option (List ℕ)) → 1 ≤ n → n ≤ 16 → ◌≡◌ {A = Option (List ℕ)} (elim (nat_le 1 n && nat_le n 16) [ true ↦ o | false ↦ None ]) o
within n o h g = grind (arith, nat_tests)

-- the data bytes of a line
pub data_back : (more : List ℕ) → ((k : ℕ) → slice_index more k < 256) → 1 ≤ length more → length more ≤ 16 → data_of (map hex2 more) ≡ Some more
data_back more small h g =
    within (length (map hex2 more)) (bytes_of (map hex2 more)) (omega (arith, length-map more hex2)) (omega (arith, length-map more hex2)) ∙ bytes_back more small

module _ (find : List ℕ → Option Definition) (number start : ℕ) (cells bytes line : List ℕ) where
  abbrev data_by : Option (List ℕ) → Option ℕ → LineResult Part
  data_by found place =
      present found causes.Form >>= λ bytes'.
      checked (is_present place (start + length bytes)) causes.Address (part_of sections.Data start cells bytes) >>= λ part.
      with_bytes part bytes'

  pub data_step : (address b : ℕ) (bs : List ℕ) → fields_of line ≡ place address ∷ map hex2 (b ∷ bs) → is_formed line ≡ true →
      stated_place (place address) ≡ Some address → address ≡ start + length bytes → data_of (map hex2 (b ∷ bs)) ≡ Some (b ∷ bs) →
      length bytes + length (b ∷ bs) ≤ 16384 - start →
      line_outcome find number (part_of sections.Data start cells bytes) line ≡ Fine (part_of sections.Data start cells (bytes ++ b ∷ bs))
  data_step address b bs e form at same read room =
      let part : Part = part_of sections.Data start cells bytes in
      let fields : List (List ℕ) = place address ∷ map hex2 (b ∷ bs) in
      let behind : behind_place fields ≡ map hex2 (b ∷ bs) = ap (λ o. elim o [ Some p ↦ map hex2 (b ∷ bs) | None ↦ fields ]) at in
      let data_is : data_of (behind_place fields) ≡ Some (b ∷ bs) = ap data_of behind ∙ read in
      let present : nat_eq address (start + length bytes) ≡ true = grind (arith, nat_tests) in
      let fits : nat_le (length bytes + length (b ∷ bs)) (16384 - start) ≡ true = le-leb (length bytes + length (b ∷ bs)) (16384 - start) room in
      ap (λ t. line_with find number part line t) e
      ∙ (ap (λ t. line_of_data part line (heading_of t)) e
      ∙ (ap (λ t. formed line part >>= λ p. data_line p t) e
      ∙ (ap (λ g. checked g causes.Form part >>= λ p. data_line p fields) form
      ∙ (ap (λ o. data_by o (front_place fields)) data_is
      ∙ (ap (λ o. data_by (Some (b ∷ bs)) o) at
      ∙ (ap (λ g. checked g causes.Address part >>= λ p. with_bytes p (b ∷ bs)) present
      ∙ ap (λ g. checked g causes.Full (part_of sections.Data start cells (bytes ++ b ∷ bs))) fits))))))
