-- What a text that assembles looks like.
use Rattle.std.proofs.Common.{◌≡◌, ℕ, ◌+◌, ◌-◌, ◌/◌, ◌<◌, ◌≤◌, nat_le, nat_lt, ◌&&◌, Bool, true, false, List, [], ◌∷◌, ◌++◌, length, Option, Some, None, refl}
use Rattle.std.proofs.Common.{ap, sym, ◌∙◌, arith, subst, append_assoc, append-nil, length-append, add-zero, inl, inr, ◌⊎◌}
use Rattle.std.specs.List.{list_all}
use Rattle.std.proofs.lemmas.Bool.Decides.{nat_tests}
use Rattle.j1_table.specs.Image.{Content}
use Rattle.j1_assembler.specs.declared.refusal.AsmCause.{AsmCause}
use Rattle.j1_assembler.specs.declared.refusal.AsmCause.TheVariants as causes
use Rattle.j1_assembler.specs.declared.assembler.Section.TheVariants as sections
use Rattle.j1_assembler.specs.declared.labels.Definition.{Definition}
use Rattle.j1_assembler.specs.declared.rows.Heading.{Heading}
use Rattle.j1_assembler.specs.declared.rows.Heading.TheVariants as headings
use Rattle.j1_assembler.specs.Text.{lines_of, fields_of, is_formed}
use Rattle.j1_assembler.specs.Instruction.{Operation}
use Rattle.j1_assembler.specs.Lines.{header_of, heading_of, front_place, behind_place, line_label, line_rest, optional_instruction, data_of}
use Rattle.j1_assembler.specs.Labels.{labels_from, defined}
use Rattle.j1_assembler.specs.Assembly.{LineResult, Fine, Faulty, ◌>>=◌, checked, present, formed, Part, part_of, is_present, is_first, cell_of, with_cell}
use Rattle.j1_assembler.specs.Assembly.{with_operation, code_line, with_bytes, data_line, opening_line, line_of_code, line_of_data, line_with, line_outcome}
use Rattle.j1_assembler.specs.Assembly.{Assembled, Refused, lines_outcome, opened, header_outcome, text_outcome, assembled}
use Rattle.j1_assembler.specs.Grammar.{Row, with_row, rows_from, CodeRows, DataRows, Assembles}

module _ {A : Type 0} where
  fine_one : (x y : A) → Fine x ≡ Fine y → x ≡ y
  fine_one x y e = cc

  checked_fine : (b : Bool) (cause : AsmCause) (x y : A) → checked b cause x ≡ Fine y → (b ≡ true) × (x ≡ y)
  checked_fine true cause x y e = (refl, fine_one x y e)
  checked_fine false cause x y e = absurd (cc)

  present_fine : (o : Option A) (cause : AsmCause) (y : A) → present o cause ≡ Fine y → o ≡ Some y
  present_fine (Some x) cause y e = ap Some (fine_one x y e)
  present_fine None cause y e = absurd (cc)

bind_fine : {A B : Type 0} (o : LineResult A) (f : A → LineResult B) (y : B) → (o >>= f) ≡ Fine y → (x : A) × ((o ≡ Fine x) × (f x ≡ Fine y))
bind_fine (Fine x) f y e = (x, (refl, e))
bind_fine (Faulty cause) f y e = absurd (cc)

module _ (find : List ℕ → Option Definition) where
  step_by : (number : ℕ) (o : LineResult Part) (lines : List (List ℕ)) (image : Content) →
      elim o [ Fine part ↦ lines_outcome find (number + 1) part lines | Faulty cause ↦ Refused number cause ] ≡ Assembled image →
      (next : Part) × ((o ≡ Fine next) × (lines_outcome find (number + 1) next lines ≡ Assembled image))
  step_by number (Fine part) lines image e = (part, (refl, e))
  step_by number (Faulty cause) lines image e = absurd (cc)

  step_fine : (number : ℕ) (part : Part) (line : List ℕ) (lines : List (List ℕ)) (image : Content) →
      lines_outcome find number part (line ∷ lines) ≡ Assembled image →
      (next : Part) × ((line_outcome find number part line ≡ Fine next) × (lines_outcome find (number + 1) next lines ≡ Assembled image))
  step_fine number part line lines image e = step_by number (line_outcome find number part line) lines image e

all_formed : (line : List ℕ) (lines : List (List ℕ)) → is_formed line ≡ true → list_all is_formed lines ≡ true → list_all is_formed (line ∷ lines) ≡ true
all_formed line lines e f = ap (λ t. t && list_all is_formed lines) e ∙ f

pub row_skipped : (number : ℕ) (line : List ℕ) (lines : List (List ℕ)) → fields_of line ≡ [] → rows_from number (line ∷ lines) ≡ rows_from (number + 1) lines
row_skipped number line lines e = ap (λ t. with_row number t (rows_from (number + 1) lines)) e

pub row_first : (number : ℕ) (line field : List ℕ) (fields : List (List ℕ)) (lines : List (List ℕ)) → fields_of line ≡ field ∷ fields →
    rows_from number (line ∷ lines) ≡ (record { number = number; fields = field ∷ fields }) ∷ rows_from (number + 1) lines
row_first number line field fields lines e = ap (λ t. with_row number t (rows_from (number + 1) lines)) e

-- behind `END`
pub record AtEnd (number : ℕ) (lines : List (List ℕ)) (part : Part) (image : Content) : Type 0 where
  pub none : rows_from number lines ≡ []
  pub whole : image ≡ record { cells = part.cells; bytes = part.bytes; data_start = part.data_start }
  pub formed : list_all is_formed lines ≡ true

module _ (find : List ℕ → Option Definition) (start : ℕ) (cells : List ℕ) where
  end_line : (number : ℕ) (bytes line : List ℕ) (fields : List (List ℕ)) (next : Part) →
      line_with find number (part_of sections.End start cells bytes) line fields ≡ Fine next →
      (fields ≡ []) × (is_formed line ≡ true) × (part_of sections.End start cells bytes ≡ next)
  end_line number bytes line [] next e = let c = checked_fine (is_formed line) causes.Form (part_of sections.End start cells bytes) next e in (refl, c.0, c.1)
  end_line number bytes line (field ∷ fields) next e = absurd (cc)

  assembled_one : (a b : Content) → Assembled a ≡ Assembled b → a ≡ b
  assembled_one a b e = cc

  pub at_end : (number : ℕ) (bytes : List ℕ) (lines : List (List ℕ)) (image : Content) →
      lines_outcome find number (part_of sections.End start cells bytes) lines ≡ Assembled image →
      AtEnd number lines (part_of sections.End start cells bytes) image
  at_end number bytes [] image e = record { none = refl; whole = sym (assembled_one _ image e); formed = refl }
  at_end number bytes (line ∷ lines) image e =
      let s = step_fine find number (part_of sections.End start cells bytes) line lines image e in
      let l = end_line number bytes line (fields_of line) s.0 s.1.0 in
      let r = at_end (number + 1) bytes lines image (subst (λ p. lines_outcome find (number + 1) p lines ≡ Assembled image) (sym l.2) s.1.1) in
      record { none = row_skipped number line lines l.0 ∙ r.none; whole = r.whole; formed = all_formed line lines l.1 r.formed }

  -- a data line that is fine
  data DataStep (bytes line : List ℕ) (fields : List (List ℕ)) (next : Part) : Type 0 where
    Ends : heading_of fields ≡ Some headings.End → is_formed line ≡ true → part_of sections.End start cells bytes ≡ next → DataStep bytes line fields next
    Gives : (here : List ℕ) → heading_of fields ≡ None → is_formed line ≡ true → data_of (behind_place fields) ≡ Some here →
        is_present (front_place fields) (start + length bytes) ≡ true → length bytes + length here ≤ 16384 - start →
        part_of sections.Data start cells (bytes ++ here) ≡ next → DataStep bytes line fields next

  le_of : (a b : ℕ) → nat_le a b ≡ true → a ≤ b
  le_of a b e = grind (arith, nat_tests)

  given : (bytes line : List ℕ) (fields : List (List ℕ)) (next : Part) → heading_of fields ≡ None → is_formed line ≡ true → data_line (part_of sections.Data start cells bytes) fields ≡ Fine next → DataStep bytes line fields next
  given bytes line fields next h form e =
      let part : Part = part_of sections.Data start cells bytes in
      let b = bind_fine (present (data_of (behind_place fields)) causes.Form) (λ here. checked (is_present (front_place fields) (start + length bytes)) causes.Address part >>= λ part. with_bytes part here) next e in
      let c = bind_fine (checked (is_present (front_place fields) (start + length bytes)) causes.Address part) (λ part. with_bytes part b.0) next b.1.1 in
      let d = checked_fine (is_present (front_place fields) (start + length bytes)) causes.Address part c.0 c.1.0 in
      let w : with_bytes part b.0 ≡ Fine next = subst (λ p. with_bytes p b.0 ≡ Fine next) (sym d.1) c.1.1 in
      let f = checked_fine (nat_le (length bytes + length b.0) (16384 - start)) causes.Full (part_of sections.Data start cells (bytes ++ b.0)) next w in
      Gives b.0 h form (present_fine (data_of (behind_place fields)) causes.Form b.0 b.1.0) d.0 (le_of (length bytes + length b.0) (16384 - start) f.0) f.1

  data_by : (bytes line : List ℕ) (fields : List (List ℕ)) (heading : Option Heading) (next : Part) → fields_of line ≡ fields → heading_of fields ≡ heading →
      line_of_data (part_of sections.Data start cells bytes) line heading ≡ Fine next → DataStep bytes line fields next
  data_by bytes line fields None next f h e =
      let part : Part = part_of sections.Data start cells bytes in
      let b = bind_fine (formed line part) (λ part. data_line part (fields_of line)) next e in
      let c = checked_fine (is_formed line) causes.Form part b.0 b.1.0 in
      given bytes line fields next h c.0 (subst (λ t. data_line part t ≡ Fine next) f (subst (λ p. data_line p (fields_of line) ≡ Fine next) (sym c.1) b.1.1))
  data_by bytes line fields (Some headings.Code) next f h e = absurd (cc)
  data_by bytes line fields (Some headings.Data) next f h e = absurd (cc)
  data_by bytes line fields (Some headings.End) next f h e =
      let c = checked_fine (is_formed line) causes.Form (part_of sections.End start cells bytes) next e in
      Ends h c.0 c.1

  -- what the section `DATA` gives
  pub record DataGives (number : ℕ) (lines : List (List ℕ)) (bytes : List ℕ) (image : Content) : Type 0 where
    pub rows : List Row
    pub ends : Row
    pub more : List ℕ
    pub split : rows_from number lines ≡ rows ++ ends ∷ []
    pub at_end : heading_of ends.fields ≡ Some headings.End
    pub are : DataRows (start + length bytes) rows more
    pub whole : image ≡ record { cells = cells; bytes = bytes ++ more; data_start = start }
    pub fits : length (bytes ++ more) ≤ 16384 - start
    pub formed : list_all is_formed lines ≡ true

  data_more : (number : ℕ) (bytes line : List ℕ) (field : List ℕ) (fields : List (List ℕ)) (lines : List (List ℕ)) (image : Content) (next : Part) →
      fields_of line ≡ field ∷ fields → length bytes ≤ 16384 - start → DataStep bytes line (field ∷ fields) next →
      lines_outcome find (number + 1) next lines ≡ Assembled image →
      ((bytes : List ℕ) → length bytes ≤ 16384 - start → lines_outcome find (number + 1) (part_of sections.Data start cells bytes) lines ≡ Assembled image →
      DataGives (number + 1) lines bytes image) → DataGives number (line ∷ lines) bytes image
  data_more number bytes line field fields lines image next f room (Ends h form e) later ih =
      let a = at_end (number + 1) bytes lines image (subst (λ p. lines_outcome find (number + 1) p lines ≡ Assembled image) (sym e) later) in
      record {
        rows = [];
        ends = record { number = number; fields = field ∷ fields };
        more = [];
        split = row_first number line field fields lines f ∙ ap (λ t. (record { number = number; fields = field ∷ fields }) ∷ t) a.none;
        at_end = h;
        are = refl;
        whole = a.whole ∙ ap (λ b. record { cells = cells; bytes = b; data_start = start }) (sym (append-nil bytes));
        fits = omega (arith, length-append {A = ℕ} bytes []);
        formed = all_formed line lines form a.formed;
      }
  data_more number bytes line field fields lines image next f room (Gives here h form d p fit e) later ih =
      let r = ih (bytes ++ here) (omega (arith, length-append bytes here)) (subst (λ p. lines_outcome find (number + 1) p lines ≡ Assembled image) (sym e) later) in
      let address : start + length (bytes ++ here) ≡ start + length bytes + length here = omega (arith, length-append bytes here) in
      record {
        rows = (record { number = number; fields = field ∷ fields }) ∷ r.rows;
        ends = r.ends;
        more = here ++ r.more;
        split = row_first number line field fields lines f ∙ ap (λ t. (record { number = number; fields = field ∷ fields }) ∷ t) r.split;
        at_end = r.at_end;
        are = (h, p, record { here = here; more = r.more; given = d; split = refl; rest = subst (λ a. DataRows a r.rows r.more) address r.are });
        whole = r.whole ∙ ap (λ b. record { cells = cells; bytes = b; data_start = start }) (append_assoc bytes here r.more);
        fits = omega (arith, r.fits, ap length (append_assoc bytes here r.more));
        formed = all_formed line lines form r.formed;
      }

  data_next : (number : ℕ) (bytes line : List ℕ) (fields lines : List (List ℕ)) (image : Content) (next : Part) → fields_of line ≡ fields →
      length bytes ≤ 16384 - start → line_with find number (part_of sections.Data start cells bytes) line fields ≡ Fine next →
      lines_outcome find (number + 1) next lines ≡ Assembled image →
      ((bytes : List ℕ) → length bytes ≤ 16384 - start → lines_outcome find (number + 1) (part_of sections.Data start cells bytes) lines ≡ Assembled image →
      DataGives (number + 1) lines bytes image) → DataGives number (line ∷ lines) bytes image
  data_next number bytes line [] lines image next f room e later ih =
      let c = checked_fine (is_formed line) causes.Form (part_of sections.Data start cells bytes) next e in
      let r = ih bytes room (subst (λ p. lines_outcome find (number + 1) p lines ≡ Assembled image) (sym c.1) later) in
      record { rows = r.rows; ends = r.ends; more = r.more; split = row_skipped number line lines f ∙ r.split; at_end = r.at_end; are = r.are; whole = r.whole; fits = r.fits; formed = all_formed line lines c.0 r.formed }
  data_next number bytes line (field ∷ fields) lines image next f room e later ih =
      let heading : heading_of (fields_of line) ≡ heading_of (field ∷ fields) = ap heading_of f in
      data_more number bytes line field fields lines image next f room
      (data_by bytes line (field ∷ fields) (heading_of (field ∷ fields)) next f refl
      (subst (λ h. line_of_data (part_of sections.Data start cells bytes) line h ≡ Fine next) heading e)) later ih

  pub at_data : (number : ℕ) (bytes : List ℕ) (lines : List (List ℕ)) (image : Content) → length bytes ≤ 16384 - start →
      lines_outcome find number (part_of sections.Data start cells bytes) lines ≡ Assembled image → DataGives number lines bytes image
  at_data number bytes [] image room e = absurd (cc)
  at_data number bytes (line ∷ lines) image room e =
      let s = step_fine find number (part_of sections.Data start cells bytes) line lines image e in
      data_next number bytes line (fields_of line) lines image s.0 refl room s.1.0 s.1.1 (λ bytes room later. at_data (number + 1) bytes lines image room later)

module _ (find : List ℕ → Option Definition) (start : ℕ) where
  -- a code line that is fine
  data CodeStep (number : ℕ) (cells line : List ℕ) (fields : List (List ℕ)) (next : Part) : Type 0 where
    Ends : heading_of fields ≡ Some headings.Data → is_formed line ≡ true → part_of sections.Data start cells [] ≡ next → CodeStep number cells line fields next
    Labels : heading_of fields ≡ None → is_formed line ≡ true → is_present (front_place fields) (length cells) ≡ true →
        is_first find (line_label fields) number ≡ true → optional_instruction (line_rest fields) ≡ Some None → part_of sections.Code start cells [] ≡ next →
        CodeStep number cells line fields next
    Adds : (operation : Operation) (cell : ℕ) → heading_of fields ≡ None → is_formed line ≡ true → is_present (front_place fields) (length cells) ≡ true →
        is_first find (line_label fields) number ≡ true → optional_instruction (line_rest fields) ≡ Some (Some operation) → cell_of find operation ≡ Fine cell →
        length cells < start / 2 → part_of sections.Code start (cells ++ cell ∷ []) [] ≡ next → CodeStep number cells line fields next

  lt_of : (a b : ℕ) → nat_lt a b ≡ true → a < b
  lt_of a b e = grind (arith, nat_tests)

  operated : (number : ℕ) (cells line : List ℕ) (fields : List (List ℕ)) (operation : Option Operation) (next : Part) → heading_of fields ≡ None →
      is_formed line ≡ true → is_present (front_place fields) (length cells) ≡ true → is_first find (line_label fields) number ≡ true →
      optional_instruction (line_rest fields) ≡ Some operation → with_operation find (part_of sections.Code start cells []) operation ≡ Fine next →
      CodeStep number cells line fields next
  operated number cells line fields None next h form p f o e = Labels h form p f o (fine_one (part_of sections.Code start cells []) next e)
  operated number cells line fields (Some operation) next h form p f o e =
      let part : Part = part_of sections.Code start cells [] in
      let b = bind_fine (cell_of find operation) (with_cell part) next e in
      let c = checked_fine (nat_lt (length cells) (start / 2)) causes.Full (part_of sections.Code start (cells ++ b.0 ∷ []) []) next b.1.1 in
      Adds operation b.0 h form p f o b.1.0 (lt_of (length cells) (start / 2) c.0) c.1

  coded : (number : ℕ) (cells line : List ℕ) (fields : List (List ℕ)) (next : Part) → heading_of fields ≡ None → is_formed line ≡ true →
      code_line find number (part_of sections.Code start cells []) fields ≡ Fine next → CodeStep number cells line fields next
  coded number cells line fields next h form e =
      let part : Part = part_of sections.Code start cells [] in
      let place : Bool = is_present (front_place fields) (length cells) in
      let first : Bool = is_first find (line_label fields) number in
      let b = bind_fine (present (optional_instruction (line_rest fields)) causes.Form) (λ operation. checked place causes.Address part >>= λ part. checked first causes.Label part >>= λ part. with_operation find part operation) next e in
      let c = bind_fine (checked place causes.Address part) (λ part. checked first causes.Label part >>= λ part. with_operation find part b.0) next b.1.1 in
      let d = checked_fine place causes.Address part c.0 c.1.0 in
      let w : (checked first causes.Label part >>= λ part. with_operation find part b.0) ≡ Fine next = subst (λ p. (checked first causes.Label p >>= λ part. with_operation find part b.0) ≡ Fine next) (sym d.1) c.1.1 in
      let g = bind_fine (checked first causes.Label part) (λ part. with_operation find part b.0) next w in
      let k = checked_fine first causes.Label part g.0 g.1.0 in
      let v : with_operation find part b.0 ≡ Fine next = subst (λ p. with_operation find p b.0 ≡ Fine next) (sym k.1) g.1.1 in
      operated number cells line fields b.0 next h form d.0 k.0 (present_fine (optional_instruction (line_rest fields)) causes.Form b.0 b.1.0) v

  code_by : (number : ℕ) (cells line : List ℕ) (fields : List (List ℕ)) (heading : Option Heading) (next : Part) → fields_of line ≡ fields →
      heading_of fields ≡ heading → line_of_code find number (part_of sections.Code start cells []) line heading ≡ Fine next →
      CodeStep number cells line fields next
  code_by number cells line fields None next f h e =
      let part : Part = part_of sections.Code start cells [] in
      let b = bind_fine (formed line part) (λ part. code_line find number part (fields_of line)) next e in
      let c = checked_fine (is_formed line) causes.Form part b.0 b.1.0 in
      coded number cells line fields next h c.0 (subst (λ t. code_line find number part t ≡ Fine next) f (subst (λ p. code_line find number p (fields_of line) ≡ Fine next) (sym c.1) b.1.1))
  code_by number cells line fields (Some headings.Code) next f h e = absurd (cc)
  code_by number cells line fields (Some headings.End) next f h e = absurd (cc)
  code_by number cells line fields (Some headings.Data) next f h e =
      let c = checked_fine (is_formed line) causes.Form (part_of sections.Data start cells []) next e in
      Ends h c.0 c.1

  -- what the sections `CODE` and `DATA` give
  pub record CodeGives (number : ℕ) (lines : List (List ℕ)) (cells : List ℕ) (image : Content) : Type 0 where
    pub code : List Row
    pub begins_data : Row
    pub data_rows : List Row
    pub ends : Row
    pub more : List ℕ
    pub space : List ℕ
    pub split : rows_from number lines ≡ code ++ begins_data ∷ (data_rows ++ ends ∷ [])
    pub at_data : heading_of begins_data.fields ≡ Some headings.Data
    pub at_end : heading_of ends.fields ≡ Some headings.End
    pub code_are : CodeRows find (length cells) code more
    pub data_are : DataRows start data_rows space
    pub whole : image ≡ record { cells = cells ++ more; bytes = space; data_start = start }
    pub code_fits : length (cells ++ more) ≤ start / 2
    pub data_fits : length space ≤ 16384 - start
    pub formed : list_all is_formed lines ≡ true

  code_more : (number : ℕ) (cells line : List ℕ) (field : List ℕ) (fields : List (List ℕ)) (lines : List (List ℕ)) (image : Content) (next : Part) →
      fields_of line ≡ field ∷ fields → length cells ≤ start / 2 → CodeStep number cells line (field ∷ fields) next →
      lines_outcome find (number + 1) next lines ≡ Assembled image →
      ((cells : List ℕ) → length cells ≤ start / 2 → lines_outcome find (number + 1) (part_of sections.Code start cells []) lines ≡ Assembled image →
      CodeGives (number + 1) lines cells image) → CodeGives number (line ∷ lines) cells image
  code_more number cells line field fields lines image next f room (Ends h form e) later ih =
      let row : Row = record { number = number; fields = field ∷ fields } in
      let r = at_data find start cells (number + 1) [] lines image (omega arith) (subst (λ p. lines_outcome find (number + 1) p lines ≡ Assembled image) (sym e) later) in
      record {
        code = [];
        begins_data = row;
        data_rows = r.rows;
        ends = r.ends;
        more = [];
        space = r.more;
        split = row_first number line field fields lines f ∙ ap (λ t. row ∷ t) r.split;
        at_data = h;
        at_end = r.at_end;
        code_are = refl;
        data_are = subst (λ a. DataRows a r.rows r.more) (add-zero start) r.are;
        whole = r.whole ∙ ap (λ c. record { cells = c; bytes = r.more; data_start = start }) (sym (append-nil cells));
        code_fits = omega (arith, length-append {A = ℕ} cells []);
        data_fits = r.fits;
        formed = all_formed line lines form r.formed;
      }
  code_more number cells line field fields lines image next f room (Labels h form p u o e) later ih =
      let row : Row = record { number = number; fields = field ∷ fields } in
      let r = ih cells room (subst (λ p. lines_outcome find (number + 1) p lines ≡ Assembled image) (sym e) later) in
      record {
        begins_data = r.begins_data;
        data_rows = r.data_rows;
        ends = r.ends;
        more = r.more;
        space = r.space;
        at_data = r.at_data;
        at_end = r.at_end;
        data_are = r.data_are;
        whole = r.whole;
        code_fits = r.code_fits;
        data_fits = r.data_fits;
        code = row ∷ r.code;
        split = row_first number line field fields lines f ∙ ap (λ t. row ∷ t) r.split;
        code_are = (None, record { heading = h; place = p; label = u; instruction = o }, r.code_are);
        formed = all_formed line lines form r.formed;
      }
  code_more number cells line field fields lines image next f room (Adds operation cell h form p u o k fit e) later ih =
      let row : Row = record { number = number; fields = field ∷ fields } in
      let r = ih (cells ++ cell ∷ []) (omega (arith, length-append cells (cell ∷ []))) (subst (λ p. lines_outcome find (number + 1) p lines ≡ Assembled image) (sym e) later) in
      let count : length (cells ++ cell ∷ []) ≡ length cells + 1 = omega (arith, length-append cells (cell ∷ [])) in
      record {
        begins_data = r.begins_data;
        data_rows = r.data_rows;
        ends = r.ends;
        space = r.space;
        at_data = r.at_data;
        at_end = r.at_end;
        data_are = r.data_are;
        data_fits = r.data_fits;
        code = row ∷ r.code;
        more = cell ∷ r.more;
        split = row_first number line field fields lines f ∙ ap (λ t. row ∷ t) r.split;
        code_are = (
          Some operation,
          record { heading = h; place = p; label = u; instruction = o },
          record { cell = cell; more = r.more; given = k; split = refl; rest = subst (λ n. CodeRows find n r.code r.more) count r.code_are },
        );
        whole = r.whole ∙ ap (λ c. record { cells = c; bytes = r.space; data_start = start }) (append_assoc cells (cell ∷ []) r.more);
        code_fits = omega (arith, r.code_fits, ap length (append_assoc cells (cell ∷ []) r.more));
        formed = all_formed line lines form r.formed;
      }

  code_next : (number : ℕ) (cells line : List ℕ) (fields lines : List (List ℕ)) (image : Content) (next : Part) → fields_of line ≡ fields →
      length cells ≤ start / 2 → line_with find number (part_of sections.Code start cells []) line fields ≡ Fine next →
      lines_outcome find (number + 1) next lines ≡ Assembled image →
      ((cells : List ℕ) → length cells ≤ start / 2 → lines_outcome find (number + 1) (part_of sections.Code start cells []) lines ≡ Assembled image →
      CodeGives (number + 1) lines cells image) → CodeGives number (line ∷ lines) cells image
  code_next number cells line [] lines image next f room e later ih =
      let c = checked_fine (is_formed line) causes.Form (part_of sections.Code start cells []) next e in
      let r = ih cells room (subst (λ p. lines_outcome find (number + 1) p lines ≡ Assembled image) (sym c.1) later) in
      record {
        code = r.code;
        begins_data = r.begins_data;
        data_rows = r.data_rows;
        ends = r.ends;
        more = r.more;
        space = r.space;
        at_data = r.at_data;
        at_end = r.at_end;
        code_are = r.code_are;
        data_are = r.data_are;
        whole = r.whole;
        code_fits = r.code_fits;
        data_fits = r.data_fits;
        split = row_skipped number line lines f ∙ r.split;
        formed = all_formed line lines c.0 r.formed;
      }
  code_next number cells line (field ∷ fields) lines image next f room e later ih =
      let heading : heading_of (fields_of line) ≡ heading_of (field ∷ fields) = ap heading_of f in
      code_more number cells line field fields lines image next f room
      (code_by number cells line (field ∷ fields) (heading_of (field ∷ fields)) next f refl
      (subst (λ h. line_of_code find number (part_of sections.Code start cells []) line h ≡ Fine next) heading e)) later ih

  pub at_code : (number : ℕ) (cells : List ℕ) (lines : List (List ℕ)) (image : Content) → length cells ≤ start / 2 →
      lines_outcome find number (part_of sections.Code start cells []) lines ≡ Assembled image → CodeGives number lines cells image
  at_code number cells [] image room e = absurd (cc)
  at_code number cells (line ∷ lines) image room e =
      let s = step_fine find number (part_of sections.Code start cells []) line lines image e in
      code_next number cells line (fields_of line) lines image s.0 refl room s.1.0 s.1.1 (λ cells room later. at_code (number + 1) cells lines image room later)

  -- what stands behind the header
  pub record OpeningGives (number : ℕ) (lines : List (List ℕ)) (image : Content) : Type 0 where
    pub begins_code : Row
    pub rest : List (List ℕ)
    pub later : ℕ
    pub code : CodeGives later rest [] image
    pub split : rows_from number lines ≡ begins_code ∷ rows_from later rest
    pub at_code : heading_of begins_code.fields ≡ Some headings.Code
    pub formed : list_all is_formed lines ≡ true

  opening_by : (line : List ℕ) (heading : Option Heading) (next : Part) → opening_line (opened start) line heading ≡ Fine next → (heading ≡ Some headings.Code) × (is_formed line ≡ true) × (part_of sections.Code start [] [] ≡ next)
  opening_by line None next e = absurd (cc)
  opening_by line (Some headings.Data) next e = absurd (cc)
  opening_by line (Some headings.End) next e = absurd (cc)
  opening_by line (Some headings.Code) next e = let c = checked_fine (is_formed line) causes.Form (part_of sections.Code start [] []) next e in (refl, c.0, c.1)

  opening_next : (number : ℕ) (line : List ℕ) (fields lines : List (List ℕ)) (image : Content) (next : Part) → fields_of line ≡ fields →
      line_with find number (opened start) line fields ≡ Fine next → lines_outcome find (number + 1) next lines ≡ Assembled image →
      (lines_outcome find (number + 1) (opened start) lines ≡ Assembled image → OpeningGives (number + 1) lines image) →
      OpeningGives number (line ∷ lines) image
  opening_next number line [] lines image next f e later ih =
      let c = checked_fine (is_formed line) causes.Form (opened start) next e in
      let r = ih (subst (λ p. lines_outcome find (number + 1) p lines ≡ Assembled image) (sym c.1) later) in
      record { begins_code = r.begins_code; rest = r.rest; later = r.later; code = r.code; at_code = r.at_code; split = row_skipped number line lines f ∙ r.split; formed = all_formed line lines c.0 r.formed }
  opening_next number line (field ∷ fields) lines image next f e later ih =
      let o = opening_by line (heading_of (fields_of line)) next e in
      let r = at_code (number + 1) [] lines image (omega arith) (subst (λ p. lines_outcome find (number + 1) p lines ≡ Assembled image) (sym o.2) later) in
      record {
        begins_code = record { number = number; fields = field ∷ fields };
        rest = lines;
        later = number + 1;
        code = r;
        split = row_first number line field fields lines f;
        at_code = sym (ap heading_of f) ∙ o.0;
        formed = all_formed line lines o.1 r.formed;
      }

  pub at_opening : (number : ℕ) (lines : List (List ℕ)) (image : Content) → lines_outcome find number (opened start) lines ≡ Assembled image → OpeningGives number lines image
  at_opening number [] image e = absurd (cc)
  at_opening number (line ∷ lines) image e =
      let s = step_fine find number (opened start) line lines image e in
      opening_next number line (fields_of line) lines image s.0 refl s.1.0 s.1.1 (λ later. at_opening (number + 1) lines image later)

module _ (find : List ℕ → Option Definition) where
  -- what a whole text gives
  pub record TextGives (number : ℕ) (lines : List (List ℕ)) (image : Content) : Type 0 where
    pub header : Row
    pub start : ℕ
    pub later : ℕ
    pub rest : List (List ℕ)
    pub opening : OpeningGives find start later rest image
    pub starts : header_of header.fields ≡ Some start
    pub split : rows_from number lines ≡ header ∷ rows_from later rest
    pub formed : list_all is_formed lines ≡ true

  header_by : (number : ℕ) (o : LineResult (Option ℕ)) (lines : List (List ℕ)) (image : Content) →
      elim o [
        | Fine start ↦ elim start [ Some start ↦ lines_outcome find (number + 1) (opened start) lines | None ↦ text_outcome find (number + 1) lines ]
        | Faulty cause ↦ Refused number cause
      ] ≡ Assembled image →
      ((start : ℕ) × ((o ≡ Fine (Some start)) × (lines_outcome find (number + 1) (opened start) lines ≡ Assembled image)))
      ⊎ ((o ≡ Fine None) × (text_outcome find (number + 1) lines ≡ Assembled image))
  header_by number (Fine (Some start)) lines image e = inl (start, (refl, e))
  header_by number (Fine None) lines image e = inr (refl, e)
  header_by number (Faulty cause) lines image e = absurd (cc)

  some_one : (a b : ℕ) → Some a ≡ Some b → a ≡ b
  some_one a b e = cc

  header_some : (line : List ℕ) (fields : List (List ℕ)) (start : ℕ) → header_outcome line fields ≡ Fine (Some start) →
      (field : List ℕ) × (more : List (List ℕ)) × ((fields ≡ field ∷ more) × (header_of (field ∷ more) ≡ Some start) × (is_formed line ≡ true))
  header_some line [] start e = absurd (let c = checked_fine (is_formed line) causes.Form None (Some start) e in let d = c.1 in cc)
  header_some line (field ∷ fields) start e =
      let b = bind_fine (present (header_of (field ∷ fields)) causes.Header) (λ start. formed line (Some start)) (Some start) e in
      let c = checked_fine (is_formed line) causes.Form (Some b.0) (Some start) b.1.1 in
      (field, fields, (refl, present_fine (header_of (field ∷ fields)) causes.Header b.0 b.1.0 ∙ c.1, c.0))

  header_none : (line : List ℕ) (fields : List (List ℕ)) → header_outcome line fields ≡ Fine None → (fields ≡ []) × (is_formed line ≡ true)
  header_none line [] e = let c = checked_fine (is_formed line) causes.Form None None e in (refl, c.0)
  header_none line (field ∷ fields) e =
      let b = bind_fine (present (header_of (field ∷ fields)) causes.Header) (λ start. formed line (Some start)) None e in
      let c = checked_fine (is_formed line) causes.Form (Some b.0) None b.1.1 in
      absurd (let d = c.1 in cc)

  pub at_text : (number : ℕ) (lines : List (List ℕ)) (image : Content) → text_outcome find number lines ≡ Assembled image → TextGives number lines image
  at_text number [] image e = absurd (cc)
  at_text number (line ∷ lines) image e = elim (header_by number (header_outcome line (fields_of line)) lines image e) [
    | inl s ↦
        let h = header_some line (fields_of line) s.0 s.1.0 in
        let r = at_opening find s.0 (number + 1) lines image s.1.1 in
        record {
          header = record { number = number; fields = h.0 ∷ h.1 };
          start = s.0;
          later = number + 1;
          rest = lines;
          opening = r;
          starts = h.2.1;
          split = row_first number line h.0 h.1 lines h.2.0;
          formed = all_formed line lines h.2.2 r.formed;
        }
    | inr s ↦
        let h = header_none line (fields_of line) s.0 in
        let r = at_text (number + 1) lines image s.1 in
        record { header = r.header; start = r.start; later = r.later; rest = r.rest; opening = r.opening; starts = r.starts; split = row_skipped number line lines h.0 ∙ r.split; formed = all_formed line lines h.1 r.formed }
  ]

-- what a text assembles to is its image, section by section
pub image_of_text : (text : List ℕ) (image : Content) → assembled text ≡ Assembled image → Assembles text image
image_of_text text image e =
    let find : List ℕ → Option Definition = defined (labels_from 1 (lines_of text)) in
    let t = at_text find 1 (lines_of text) image e in
    let o = t.opening in
    let c = o.code in
    let start : t.start ≡ image.data_start = sym (ap (λ i. i.data_start) c.whole) in
    let cells : image.cells ≡ c.more = ap (λ i. i.cells) c.whole in
    let bytes : image.bytes ≡ c.space = ap (λ i. i.bytes) c.whole in
    record {
      header = t.header;
      begins_code = o.begins_code;
      code = c.code;
      begins_data = c.begins_data;
      bytes = c.data_rows;
      ends = c.ends;
      formed = t.formed;
      rows = t.split ∙ (ap (λ r. t.header ∷ r) o.split ∙ ap (λ r. t.header ∷ o.begins_code ∷ r) c.split);
      starts = t.starts ∙ ap Some start;
      at_code = o.at_code;
      at_data = c.at_data;
      at_end = c.at_end;
      code_is = subst (λ cells. CodeRows find 0 c.code cells) (sym cells) c.code_are;
      data_is = subst (λ a. DataRows a c.data_rows image.bytes) start (subst (λ bytes. DataRows t.start c.data_rows bytes) (sym bytes) c.data_are);
      code_fits = omega (arith, c.code_fits, ap length cells, ap (λ n. n / 2) start);
      data_fits = omega (arith, c.data_fits, ap length bytes, start);
    }
