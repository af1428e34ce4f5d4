-- A text of the grammar assembles to its image.
use Rattle.std.proofs.Common.{◌≡◌, ℕ, ◌+◌, ◌-◌, ◌/◌, ◌<◌, ◌≤◌, ◌&&◌, Bool, true, false, List, [], ◌∷◌, ◌++◌, length, Option, Some, None, refl, ap, sym, ◌∙◌, arith, subst, append_assoc, append-nil, length-append}
use Rattle.std.specs.List.{list_all}
use Rattle.std.proofs.lemmas.Bool.{le-leb, lt-ltb}
use Rattle.j1_table.specs.Image.{Content}
use Rattle.j1_assembler.specs.declared.refusal.AsmCause.TheVariants as causes
use Rattle.j1_assembler.specs.declared.assembler.Section.TheVariants as sections
use Rattle.j1_assembler.specs.declared.labels.Definition.{Definition}
use Rattle.j1_assembler.specs.declared.rows.Heading.TheVariants as headings
use Rattle.j1_assembler.specs.Text.{lines_of, fields_of, is_formed}
use Rattle.j1_assembler.specs.Instruction.{Operation}
use Rattle.j1_assembler.specs.Lines.{header_of, heading_of, front_place, behind_place, line_label, line_rest, optional_instruction, data_of}
use Rattle.j1_assembler.specs.Labels.{labels_from, defined}
use Rattle.j1_assembler.specs.Assembly.{LineResult, Fine, Faulty, ◌>>=◌, checked, present, formed, Part, part_of, is_present, is_first, cell_of, with_cell}
use Rattle.j1_assembler.specs.Assembly.{with_operation, code_line, with_bytes, data_line, opening_line, line_of_code, line_of_data, line_with, line_outcome}
use Rattle.j1_assembler.specs.Assembly.{Assembly, Assembled, Refused, lines_outcome, opened, header_outcome, text_outcome, assembled}
use Rattle.j1_assembler.specs.Grammar.{Row, rows_from, FirstCell, CodeRows, DataRows, Assembles}
use Rattle.j1_assembler.proofs.Inversion.{row_skipped, row_first}

both_left : (a b : Bool) → (a && b) ≡ true → a ≡ true
both_left true b e = refl
both_left false b e = e

both_right : (a b : Bool) → (a && b) ≡ true → b ≡ true
both_right true b e = e
both_right false b e = absurd (cc)

abbrev AreFormed : List (List ℕ) → Type 0
AreFormed lines = list_all is_formed lines ≡ true

first_formed : (line : List ℕ) (lines : List (List ℕ)) → AreFormed (line ∷ lines) → is_formed line ≡ true
first_formed line lines e = both_left (is_formed line) (list_all is_formed lines) e

rest_formed : (line : List ℕ) (lines : List (List ℕ)) → AreFormed (line ∷ lines) → AreFormed lines
rest_formed line lines e = both_right (is_formed line) (list_all is_formed lines) e

abbrev row_of : ℕ → List ℕ → List (List ℕ) → Row
row_of number field fields = record { number = number; fields = field ∷ fields }

-- the first row of a line with fields is this one, and these rows follow
first_row : (number : ℕ) (line field : List ℕ) (fields lines : List (List ℕ)) (row : Row) (rows : List Row) → fields_of line ≡ field ∷ fields →
    rows_from number (line ∷ lines) ≡ row ∷ rows → (row_of number field fields ≡ row) × (rows_from (number + 1) lines ≡ rows)
first_row number line field fields lines row rows e r = let f = row_first number line field fields lines e in (cc, cc)

no_row : (number : ℕ) (line field : List ℕ) (fields lines : List (List ℕ)) → fields_of line ≡ field ∷ fields → rows_from number (line ∷ lines) ≡ [] → ⊥
no_row number line field fields lines e r = let f = row_first number line field fields lines e in cc

some_rows : (rows : List Row) (row : Row) → [] ≡ rows ++ row ∷ [] → ⊥
some_rows [] row e = cc
some_rows (r ∷ rows) row e = cc

some_rows_more : (rows more : List Row) (row : Row) → [] ≡ rows ++ row ∷ more → ⊥
some_rows_more [] more row e = cc
some_rows_more (r ∷ rows) more row e = cc

module _ (find : List ℕ → Option Definition) where
  step : (number : ℕ) (part next : Part) (line : List ℕ) (lines : List (List ℕ)) (assembly : Assembly) → line_outcome find number part line ≡ Fine next →
      lines_outcome find (number + 1) next lines ≡ assembly → lines_outcome find number part (line ∷ lines) ≡ assembly
  step number part next line lines assembly e h = ap (λ o. elim o [ Fine part ↦ lines_outcome find (number + 1) part lines | Faulty cause ↦ Refused number cause ]) e ∙ h

  blank : (number : ℕ) (part : Part) (line : List ℕ) → fields_of line ≡ [] → is_formed line ≡ true → line_outcome find number part line ≡ Fine part
  blank number part line e f = ap (λ t. line_with find number part line t) e ∙ ap (λ g. checked g causes.Form part) f

  module _ (start : ℕ) (cells : List ℕ) where
    abbrev image_with : List ℕ → Content
    image_with bytes = record { cells = cells; bytes = bytes; data_start = start }

    end_by : (number : ℕ) (bytes line : List ℕ) (fields lines : List (List ℕ)) → fields_of line ≡ fields → AreFormed (line ∷ lines) →
        rows_from number (line ∷ lines) ≡ [] →
        (AreFormed lines → rows_from (number + 1) lines ≡ [] →
        lines_outcome find (number + 1) (part_of sections.End start cells bytes) lines ≡ Assembled (image_with bytes)) →
        lines_outcome find number (part_of sections.End start cells bytes) (line ∷ lines) ≡ Assembled (image_with bytes)
    end_by number bytes line [] lines e form r ih =
        let part : Part = part_of sections.End start cells bytes in
        step number part part line lines (Assembled (image_with bytes)) (blank number part line e (first_formed line lines form)) (ih (rest_formed line lines form) (sym (row_skipped number line lines e) ∙ r))
    end_by number bytes line (field ∷ fields) lines e form r ih = absurd (no_row number line field fields lines e r)

    -- behind `END`
    at_end : (number : ℕ) (bytes : List ℕ) (lines : List (List ℕ)) → AreFormed lines → rows_from number lines ≡ [] → lines_outcome find number (part_of sections.End start cells bytes) lines ≡ Assembled (image_with bytes)
    at_end number bytes [] form r = refl
    at_end number bytes (line ∷ lines) form r = end_by number bytes line (fields_of line) lines refl form r (λ form r. at_end (number + 1) bytes lines form r)

    data_fine : (number : ℕ) (bytes line field : List ℕ) (fields : List (List ℕ)) (here : List ℕ) → fields_of line ≡ field ∷ fields → is_formed line ≡ true →
        heading_of (field ∷ fields) ≡ None → is_present (front_place (field ∷ fields)) (start + length bytes) ≡ true →
        data_of (behind_place (field ∷ fields)) ≡ Some here → length bytes + length here ≤ 16384 - start →
        line_outcome find number (part_of sections.Data start cells bytes) line ≡ Fine (part_of sections.Data start cells (bytes ++ here))
    data_fine number bytes line field fields here e form h at d room =
        let part : Part = part_of sections.Data start cells bytes in
        let all : List (List ℕ) = field ∷ fields in
        ap (λ t. line_with find number part line t) e
        ∙ (ap (λ t. line_of_data part line (heading_of t)) e
        ∙ (ap (λ o. line_of_data part line o) h
        ∙ (ap (λ t. formed line part >>= λ p. data_line p t) e
        ∙ (ap (λ g. checked g causes.Form part >>= λ p. data_line p all) form
        ∙ (ap (λ o. present o causes.Form >>= λ bs. checked (is_present (front_place all) (start + length bytes)) causes.Address part >>= λ p. with_bytes p bs) d
        ∙ (ap (λ g. checked g causes.Address part >>= λ p. with_bytes p here) at
        ∙ ap (λ g. checked g causes.Full (part_of sections.Data start cells (bytes ++ here))) (le-leb (length bytes + length here) (16384 - start) room)))))))

    end_fine : (number : ℕ) (bytes line field : List ℕ) (fields : List (List ℕ)) → fields_of line ≡ field ∷ fields → is_formed line ≡ true →
        heading_of (field ∷ fields) ≡ Some headings.End →
        line_outcome find number (part_of sections.Data start cells bytes) line ≡ Fine (part_of sections.End start cells bytes)
    end_fine number bytes line field fields e form h =
        let part : Part = part_of sections.Data start cells bytes in
        ap (λ t. line_with find number part line t) e
        ∙ (ap (λ t. line_of_data part line (heading_of t)) e
        ∙ (ap (λ o. line_of_data part line o) h ∙ ap (λ g. checked g causes.Form (part_of sections.End start cells bytes)) form))

    data_by : (number : ℕ) (bytes line : List ℕ) (fields lines : List (List ℕ)) (rows : List Row) (ends : Row) (more : List ℕ) → fields_of line ≡ fields →
        AreFormed (line ∷ lines) → rows_from number (line ∷ lines) ≡ rows ++ ends ∷ [] → heading_of ends.fields ≡ Some headings.End →
        DataRows (start + length bytes) rows more → length bytes + length more ≤ 16384 - start →
        ((bytes : List ℕ) (rows : List Row) (more : List ℕ) → rows_from (number + 1) lines ≡ rows ++ ends ∷ [] → DataRows (start + length bytes) rows more →
        length bytes + length more ≤ 16384 - start →
        lines_outcome find (number + 1) (part_of sections.Data start cells bytes) lines ≡ Assembled (image_with (bytes ++ more))) →
        lines_outcome find number (part_of sections.Data start cells bytes) (line ∷ lines) ≡ Assembled (image_with (bytes ++ more))
    data_by number bytes line [] lines rows ends more e form r h d room ih =
        let part : Part = part_of sections.Data start cells bytes in
        step number part part line lines (Assembled (image_with (bytes ++ more))) (blank number part line e (first_formed line lines form)) (ih bytes rows more (sym (row_skipped number line lines e) ∙ r) d room)
    data_by number bytes line (field ∷ fields) lines [] ends more e form r h d room ih =
        let f = first_row number line field fields lines ends [] e r in
        let heading : heading_of (field ∷ fields) ≡ Some headings.End = ap (λ row. heading_of row.fields) f.0 ∙ h in
        step number (part_of sections.Data start cells bytes) (part_of sections.End start cells bytes) line lines (Assembled (image_with (bytes ++ more))) (end_fine number bytes line field fields e (first_formed line lines form) heading)
        (at_end (number + 1) bytes lines (rest_formed line lines form) f.1 ∙ ap (λ b. Assembled (image_with b)) (sym (append-nil bytes) ∙ ap (λ t. bytes ++ t) (sym d)))
    data_by number bytes line (field ∷ fields) lines (row ∷ rows) ends more e form r h d room ih =
        let f = first_row number line field fields lines row (rows ++ ends ∷ []) e r in
        let same : row.fields ≡ field ∷ fields = sym (ap (λ r. r.fields) f.0) in
        let here : List ℕ = d.2.here in
        let later : List ℕ = d.2.more in
        let whole : length more ≡ length here + length later = ap length d.2.split ∙ length-append here later in
        let address : start + length bytes + length here ≡ start + length (bytes ++ here) = omega (arith, length-append bytes here) in
        let fine = data_fine number bytes line field fields here e (first_formed line lines form)
        (subst (λ t. heading_of t ≡ None) same d.0) (subst (λ t. is_present (front_place t) (start + length bytes) ≡ true) same d.1) (subst (λ t. data_of (behind_place t) ≡ Some here) same d.2.given) (omega arith) in
        step number (part_of sections.Data start cells bytes) (part_of sections.Data start cells (bytes ++ here)) line lines (Assembled (image_with (bytes ++ more))) fine
        (ih (bytes ++ here) rows later f.1 (subst (λ a. DataRows a rows later) address d.2.rest) (omega (arith, length-append bytes here))
        ∙ ap (λ b. Assembled (image_with b)) (append_assoc bytes here later ∙ ap (λ t. bytes ++ t) (sym d.2.split)))

    at_data : (number : ℕ) (bytes : List ℕ) (lines : List (List ℕ)) (rows : List Row) (ends : Row) (more : List ℕ) → AreFormed lines →
        rows_from number lines ≡ rows ++ ends ∷ [] → heading_of ends.fields ≡ Some headings.End → DataRows (start + length bytes) rows more →
        length bytes + length more ≤ 16384 - start →
        lines_outcome find number (part_of sections.Data start cells bytes) lines ≡ Assembled (image_with (bytes ++ more))
    at_data number bytes [] rows ends more form r h d room = absurd (some_rows rows ends r)
    at_data number bytes (line ∷ lines) rows ends more form r h d room =
        data_by number bytes line (fields_of line) lines rows ends more refl form r h d room (λ bytes rows more r d room. at_data (number + 1) bytes lines rows ends more (rest_formed line lines form) r h d room)

  module _ (start : ℕ) where
    code_end_fine : (number : ℕ) (cells line field : List ℕ) (fields : List (List ℕ)) → fields_of line ≡ field ∷ fields → is_formed line ≡ true →
        heading_of (field ∷ fields) ≡ Some headings.Data →
        line_outcome find number (part_of sections.Code start cells []) line ≡ Fine (part_of sections.Data start cells [])
    code_end_fine number cells line field fields e form h =
        let part : Part = part_of sections.Code start cells [] in
        ap (λ t. line_with find number part line t) e
        ∙ (ap (λ t. line_of_code find number part line (heading_of t)) e
        ∙ (ap (λ o. line_of_code find number part line o) h ∙ ap (λ g. checked g causes.Form (part_of sections.Data start cells [])) form))

    code_fine : (number : ℕ) (cells line field : List ℕ) (fields : List (List ℕ)) (operation : Option Operation) (next : Part) →
        fields_of line ≡ field ∷ fields → is_formed line ≡ true → heading_of (field ∷ fields) ≡ None →
        is_present (front_place (field ∷ fields)) (length cells) ≡ true → is_first find (line_label (field ∷ fields)) number ≡ true →
        optional_instruction (line_rest (field ∷ fields)) ≡ Some operation → with_operation find (part_of sections.Code start cells []) operation ≡ Fine next →
        line_outcome find number (part_of sections.Code start cells []) line ≡ Fine next
    code_fine number cells line field fields operation next e form h at first o w =
        let part : Part = part_of sections.Code start cells [] in
        let all : List (List ℕ) = field ∷ fields in
        ap (λ t. line_with find number part line t) e
        ∙ (ap (λ t. line_of_code find number part line (heading_of t)) e
        ∙ (ap (λ o. line_of_code find number part line o) h
        ∙ (ap (λ t. formed line part >>= λ p. code_line find number p t) e
        ∙ (ap (λ g. checked g causes.Form part >>= λ p. code_line find number p all) form
        ∙ (ap
        (λ o.
        present o causes.Form >>= λ operation.
        checked (is_present (front_place all) (length cells)) causes.Address part >>= λ p.
        checked (is_first find (line_label all) number) causes.Label p >>= λ p. with_operation find p operation) o
        ∙ (ap (λ g. checked g causes.Address part >>= λ p. checked (is_first find (line_label all) number) causes.Label p >>= λ p. with_operation find p operation) at
        ∙ (ap (λ g. checked g causes.Label part >>= λ p. with_operation find p operation) first ∙ w)))))))

    cell_fine : (cells : List ℕ) (operation : Operation) (cell : ℕ) → cell_of find operation ≡ Fine cell → length cells < start / 2 →
        with_operation find (part_of sections.Code start cells []) (Some operation) ≡ Fine (part_of sections.Code start (cells ++ cell ∷ []) [])
    cell_fine cells operation cell e room =
        ap (λ o. o >>= with_cell (part_of sections.Code start cells [])) e ∙ ap (λ g. checked g causes.Full (part_of sections.Code start (cells ++ cell ∷ []) [])) (lt-ltb (length cells) (start / 2) room)

    module _ (begins_data : Row) (data_rows : List Row) (ends : Row) (space : List ℕ) (starts_data : heading_of begins_data.fields ≡ Some headings.Data)
        (ends_so : heading_of ends.fields ≡ Some headings.End) (data_are : DataRows start data_rows space) (fits : length space ≤ 16384 - start) where
      abbrev whole_image : List ℕ → Content
      whole_image cells = record { cells = cells; bytes = space; data_start = start }

      -- the rest of the text gives these cells more
      abbrev Gives : ℕ → List ℕ → List (List ℕ) → List ℕ → Type 0
      Gives number cells lines more = lines_outcome find number (part_of sections.Code start cells []) lines ≡ Assembled (whole_image (cells ++ more))

      abbrev Later : ℕ → List (List ℕ) → List Row → Type 0
      Later number lines rows = rows_from number lines ≡ rows ++ begins_data ∷ (data_rows ++ ends ∷ [])

      code_row : (number : ℕ) (cells line field : List ℕ) (fields lines : List (List ℕ)) (rows : List Row) (more : List ℕ) (operation : Option Operation) →
          fields_of line ≡ field ∷ fields → AreFormed (line ∷ lines) → Later (number + 1) lines rows → heading_of (field ∷ fields) ≡ None →
          is_present (front_place (field ∷ fields)) (length cells) ≡ true → is_first find (line_label (field ∷ fields)) number ≡ true →
          optional_instruction (line_rest (field ∷ fields)) ≡ Some operation →
          elim operation as (λ o. Type 0) [
            | None ↦ CodeRows find (length cells) rows more
            | Some operation ↦ FirstCell find operation more (λ later. CodeRows find (length cells + 1) rows later)
          ] → length cells + length more ≤ start / 2 →
          ((cells : List ℕ) (rows : List Row) (more : List ℕ) → Later (number + 1) lines rows → CodeRows find (length cells) rows more →
          length cells + length more ≤ start / 2 → Gives (number + 1) cells lines more) → Gives number cells (line ∷ lines) more
      code_row number cells line field fields lines rows more None e form r h at first o c room ih =
          let part : Part = part_of sections.Code start cells [] in
          step number part part line lines (Assembled (whole_image (cells ++ more))) (code_fine number cells line field fields None part e (first_formed line lines form) h at first o refl) (ih cells rows more r c room)
      code_row number cells line field fields lines rows more (Some operation) e form r h at first o c room ih =
          let cell : ℕ = c.cell in
          let later : List ℕ = c.more in
          let part : Part = part_of sections.Code start cells [] in
          let next : Part = part_of sections.Code start (cells ++ cell ∷ []) [] in
          let count : length cells + 1 ≡ length (cells ++ cell ∷ []) = omega (arith, length-append cells (cell ∷ [])) in
          let size : length more ≡ 1 + length later = ap length c.split ∙ omega arith in
          step number part next line lines (Assembled (whole_image (cells ++ more)))
          (code_fine number cells line field fields (Some operation) next e (first_formed line lines form) h at first o
          (cell_fine cells operation cell c.given (omega arith)))
          (ih (cells ++ cell ∷ []) rows later r (subst (λ n. CodeRows find n rows later) count c.rest) (omega arith) ∙ ap (λ t. Assembled (whole_image t)) (append_assoc cells (cell ∷ []) later ∙ ap (λ t. cells ++ t) (sym c.split)))

      code_by : (number : ℕ) (cells line : List ℕ) (fields lines : List (List ℕ)) (rows : List Row) (more : List ℕ) → fields_of line ≡ fields →
          AreFormed (line ∷ lines) → Later number (line ∷ lines) rows → CodeRows find (length cells) rows more → length cells + length more ≤ start / 2 →
          ((cells : List ℕ) (rows : List Row) (more : List ℕ) → Later (number + 1) lines rows → CodeRows find (length cells) rows more →
          length cells + length more ≤ start / 2 → Gives (number + 1) cells lines more) → Gives number cells (line ∷ lines) more
      code_by number cells line [] lines rows more e form r c room ih =
          let part : Part = part_of sections.Code start cells [] in
          step number part part line lines (Assembled (whole_image (cells ++ more))) (blank number part line e (first_formed line lines form)) (ih cells rows more (sym (row_skipped number line lines e) ∙ r) c room)
      code_by number cells line (field ∷ fields) lines [] more e form r c room ih =
          let f = first_row number line field fields lines begins_data (data_rows ++ ends ∷ []) e r in
          let heading : heading_of (field ∷ fields) ≡ Some headings.Data = ap (λ row. heading_of row.fields) f.0 ∙ starts_data in
          let address : start ≡ start + 0 = omega arith in
          step number (part_of sections.Code start cells []) (part_of sections.Data start cells []) line lines (Assembled (whole_image (cells ++ more))) (code_end_fine number cells line field fields e (first_formed line lines form) heading)
          (at_data start cells (number + 1) [] lines data_rows ends space (rest_formed line lines form) f.1 ends_so
          (subst (λ a. DataRows a data_rows space) address data_are) (omega arith)
          ∙ ap (λ t. Assembled (whole_image t)) (sym (append-nil cells) ∙ ap (λ t. cells ++ t) (sym c)))
      code_by number cells line (field ∷ fields) lines (row ∷ rows) more e form r c room ih =
          let f = first_row number line field fields lines row (rows ++ begins_data ∷ (data_rows ++ ends ∷ [])) e r in
          let same : row.fields ≡ field ∷ fields = sym (ap (λ r. r.fields) f.0) in
          let counted : row.number ≡ number = sym (ap (λ r. r.number) f.0) in
          let first : is_first find (line_label (field ∷ fields)) number ≡ true = subst (λ t. is_first find (line_label t) number ≡ true) same (subst (λ n. is_first find (line_label row.fields) n ≡ true) counted c.1.label) in
          code_row number cells line field fields lines rows more c.0 e form f.1
          (subst (λ t. heading_of t ≡ None) same c.1.heading) (subst (λ t. is_present (front_place t) (length cells) ≡ true) same c.1.place) first (subst (λ t. optional_instruction (line_rest t) ≡ Some c.0) same c.1.instruction) c.2 room ih

      at_code : (number : ℕ) (cells : List ℕ) (lines : List (List ℕ)) (rows : List Row) (more : List ℕ) → AreFormed lines → Later number lines rows →
          CodeRows find (length cells) rows more → length cells + length more ≤ start / 2 → Gives number cells lines more
      at_code number cells [] rows more form r c room = absurd (some_rows_more rows (data_rows ++ ends ∷ []) begins_data r)
      at_code number cells (line ∷ lines) rows more form r c room =
          code_by number cells line (fields_of line) lines rows more refl form r c room (λ cells rows more r c room. at_code (number + 1) cells lines rows more (rest_formed line lines form) r c room)

      code_fine_heading : (number : ℕ) (line field : List ℕ) (fields : List (List ℕ)) → fields_of line ≡ field ∷ fields → is_formed line ≡ true →
          heading_of (field ∷ fields) ≡ Some headings.Code → line_outcome find number (opened start) line ≡ Fine (part_of sections.Code start [] [])
      code_fine_heading number line field fields e form h =
          ap (λ t. line_with find number (opened start) line t) e
          ∙ (ap (λ t. opening_line (opened start) line (heading_of t)) e
          ∙ (ap (λ o. opening_line (opened start) line o) h ∙ ap (λ g. checked g causes.Form (part_of sections.Code start [] [])) form))

      opening_by : (number : ℕ) (line : List ℕ) (fields lines : List (List ℕ)) (begins_code : Row) (rows : List Row) (more : List ℕ) → fields_of line ≡ fields →
          AreFormed (line ∷ lines) → rows_from number (line ∷ lines) ≡ begins_code ∷ (rows ++ begins_data ∷ (data_rows ++ ends ∷ [])) →
          heading_of begins_code.fields ≡ Some headings.Code → CodeRows find 0 rows more → length more ≤ start / 2 →
          (rows_from (number + 1) lines ≡ begins_code ∷ (rows ++ begins_data ∷ (data_rows ++ ends ∷ [])) →
          lines_outcome find (number + 1) (opened start) lines ≡ Assembled (whole_image more)) →
          lines_outcome find number (opened start) (line ∷ lines) ≡ Assembled (whole_image more)
      opening_by number line [] lines begins_code rows more e form r h c room ih =
          step number (opened start) (opened start) line lines (Assembled (whole_image more)) (blank number (opened start) line e (first_formed line lines form)) (ih (sym (row_skipped number line lines e) ∙ r))
      opening_by number line (field ∷ fields) lines begins_code rows more e form r h c room ih =
          let f = first_row number line field fields lines begins_code (rows ++ begins_data ∷ (data_rows ++ ends ∷ [])) e r in
          let heading : heading_of (field ∷ fields) ≡ Some headings.Code = ap (λ row. heading_of row.fields) f.0 ∙ h in
          step number (opened start) (part_of sections.Code start [] []) line lines (Assembled (whole_image more)) (code_fine_heading number line field fields e (first_formed line lines form) heading)
          (at_code (number + 1) [] lines rows more (rest_formed line lines form) f.1 c (omega arith))

      at_opening : (number : ℕ) (lines : List (List ℕ)) (begins_code : Row) (rows : List Row) (more : List ℕ) → AreFormed lines →
          rows_from number lines ≡ begins_code ∷ (rows ++ begins_data ∷ (data_rows ++ ends ∷ [])) → heading_of begins_code.fields ≡ Some headings.Code →
          CodeRows find 0 rows more → length more ≤ start / 2 → lines_outcome find number (opened start) lines ≡ Assembled (whole_image more)
      at_opening number [] begins_code rows more form r h c room = absurd (cc)
      at_opening number (line ∷ lines) begins_code rows more form r h c room =
          opening_by number line (fields_of line) lines begins_code rows more refl form r h c room (λ r. at_opening (number + 1) lines begins_code rows more (rest_formed line lines form) r h c room)

  header_step : (number : ℕ) (line : List ℕ) (lines : List (List ℕ)) (o : LineResult (Option ℕ)) → header_outcome line (fields_of line) ≡ o →
      text_outcome find number (line ∷ lines)
      ≡ elim o [
        | Fine start ↦ elim start [ Some start ↦ lines_outcome find (number + 1) (opened start) lines | None ↦ text_outcome find (number + 1) lines ]
        | Faulty cause ↦ Refused number cause
      ]
  header_step number line lines o e = ap (λ o. elim o [ Fine start ↦ elim start [ Some start ↦ lines_outcome find (number + 1) (opened start) lines | None ↦ text_outcome find (number + 1) lines ] | Faulty cause ↦ Refused number cause ]) e

  blank_header : (line : List ℕ) → fields_of line ≡ [] → is_formed line ≡ true → header_outcome line (fields_of line) ≡ Fine None
  blank_header line e form = ap (λ t. header_outcome line t) e ∙ ap (λ g. checked g causes.Form None) form

  fine_header : (line field : List ℕ) (fields : List (List ℕ)) (start : ℕ) → fields_of line ≡ field ∷ fields → is_formed line ≡ true → header_of (field ∷ fields) ≡ Some start → header_outcome line (fields_of line) ≡ Fine (Some start)
  fine_header line field fields start e form h =
      ap (λ t. header_outcome line t) e ∙ (ap (λ o. present o causes.Header >>= λ start. formed line (Some start)) h ∙ ap (λ g. checked g causes.Form (Some start)) form)

  header_by : (number : ℕ) (line : List ℕ) (fields lines : List (List ℕ)) (header : Row) (rows : List Row) (start : ℕ) (assembly : Assembly) →
      fields_of line ≡ fields → AreFormed (line ∷ lines) → rows_from number (line ∷ lines) ≡ header ∷ rows → header_of header.fields ≡ Some start →
      ((n : ℕ) (lines : List (List ℕ)) → AreFormed lines → rows_from n lines ≡ rows → lines_outcome find n (opened start) lines ≡ assembly) →
      (rows_from (number + 1) lines ≡ header ∷ rows → text_outcome find (number + 1) lines ≡ assembly) → text_outcome find number (line ∷ lines) ≡ assembly
  header_by number line [] lines header rows start assembly e form r h behind ih =
      header_step number line lines (Fine None) (blank_header line e (first_formed line lines form)) ∙ ih (sym (row_skipped number line lines e) ∙ r)
  header_by number line (field ∷ fields) lines header rows start assembly e form r h behind ih =
      let f = first_row number line field fields lines header rows e r in
      let starts : header_of (field ∷ fields) ≡ Some start = ap (λ row. header_of row.fields) f.0 ∙ h in
      header_step number line lines (Fine (Some start)) (fine_header line field fields start e (first_formed line lines form) starts) ∙ behind (number + 1) lines (rest_formed line lines form) f.1

  at_text : (number : ℕ) (lines : List (List ℕ)) (header : Row) (rows : List Row) (start : ℕ) (assembly : Assembly) → AreFormed lines →
      rows_from number lines ≡ header ∷ rows → header_of header.fields ≡ Some start →
      ((n : ℕ) (lines : List (List ℕ)) → AreFormed lines → rows_from n lines ≡ rows → lines_outcome find n (opened start) lines ≡ assembly) →
      text_outcome find number lines ≡ assembly
  at_text number [] header rows start assembly form r h behind = absurd (cc)
  at_text number (line ∷ lines) header rows start assembly form r h behind =
      header_by number line (fields_of line) lines header rows start assembly refl form r h behind (λ r. at_text (number + 1) lines header rows start assembly (rest_formed line lines form) r h behind)

-- a text of the grammar assembles to its image
pub text_of_image : (text : List ℕ) (image : Content) → Assembles text image → assembled text ≡ Assembled image
text_of_image text image a =
    let find : List ℕ → Option Definition = defined (labels_from 1 (lines_of text)) in
    at_text find 1 (lines_of text) a.header (a.begins_code ∷ (a.code ++ a.begins_data ∷ (a.bytes ++ a.ends ∷ []))) image.data_start (Assembled image) a.formed a.rows a.starts
    (λ n lines form r. at_opening find image.data_start a.begins_data a.bytes a.ends image.bytes a.at_data a.at_end a.data_is a.data_fits n lines a.begins_code a.code image.cells form r a.at_code a.code_is a.code_fits)
