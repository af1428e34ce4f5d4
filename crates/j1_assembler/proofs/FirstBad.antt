-- A text is refused at its first bad line.
use Rattle.std.proofs.Common.{◌≡◌, ℕ, zero, suc, ◌+◌, ◌<◌, false, List, [], ◌∷◌, length, take, Option, Some, None, refl, ap, sym, ◌∙◌, arith, inl, inr, ◌⊎◌}
use Rattle.std.specs.Prelude.{option_map, slice_index_or}
use Rattle.j1_assembler.specs.declared.refusal.AsmCause.{AsmCause}
use Rattle.j1_assembler.specs.declared.refusal.AsmCause.TheVariants as causes
use Rattle.j1_assembler.specs.declared.assembler.Section.{Section}
use Rattle.j1_assembler.specs.declared.assembler.Section.TheVariants as sections
use Rattle.j1_assembler.specs.declared.labels.Definition.{Definition}
use Rattle.j1_assembler.specs.Text.{lines_of, fields_of}
use Rattle.j1_assembler.specs.Labels.{labels_from, defined}
use Rattle.j1_assembler.specs.Assembly.{LineResult, Fine, Faulty, ◌>>=◌, Part, header_outcome, line_outcome, opened, Assembly, Refused, ended, lines_outcome, text_outcome, assembled}
use Rattle.j1_assembler.specs.FirstBad.{step, steps, is_end, is_whole, IsFirstBad}

fine_one : {A : Type 0} (x y : A) → Fine x ≡ Fine y → x ≡ y
fine_one x y e = cc

module _ (find : List ℕ → Option Definition) where
  -- what lines give behind a part
  abbrev outcome : ℕ → Option Part → List (List ℕ) → Assembly
  outcome number None lines = text_outcome find number lines
  outcome number (Some part) lines = lines_outcome find number part lines

  abbrev next : ℕ → List (List ℕ) → LineResult (Option Part) → Assembly
  next number lines o = elim o [ Fine part ↦ outcome (number + 1) part lines | Faulty cause ↦ Refused number cause ]

  header_next : (number : ℕ) (lines : List (List ℕ)) (o : LineResult (Option ℕ)) →
      elim o [
        | Fine start ↦ elim start [ Some start ↦ lines_outcome find (number + 1) (opened start) lines | None ↦ text_outcome find (number + 1) lines ]
        | Faulty cause ↦ Refused number cause
      ] ≡ next number lines (o >>= λ start. Fine (option_map opened start))
  header_next number lines (Fine (Some start)) = refl
  header_next number lines (Fine None) = refl
  header_next number lines (Faulty cause) = refl

  line_next : (number : ℕ) (lines : List (List ℕ)) (o : LineResult Part) → elim o [ Fine part ↦ lines_outcome find (number + 1) part lines | Faulty cause ↦ Refused number cause ] ≡ next number lines (o >>= λ part. Fine (Some part))
  line_next number lines (Fine part) = refl
  line_next number lines (Faulty cause) = refl

  -- a line, and then the others
  by_step : (number : ℕ) (part : Option Part) (line : List ℕ) (lines : List (List ℕ)) → outcome number part (line ∷ lines) ≡ next number lines (step find number part line)
  by_step number None line lines = header_next number lines (header_outcome line (fields_of line))
  by_step number (Some part) line lines = line_next number lines (line_outcome find number part line)

  -- the line at a place is the first bad one, or no line is and the end is missing
  abbrev IsFault : ℕ → Option Part → List (List ℕ) → ℕ → AsmCause → Type 0
  IsFault number part lines before cause =
      ((before < length lines) × (step find number part (slice_index_or lines before []) ≡ Faulty cause))
      ⊎ ((before ≡ length lines) × (is_whole part ≡ false) × (cause ≡ causes.NoEnd))

  record Bad (first : ℕ) (start : Option Part) (lines : List (List ℕ)) (number : ℕ) (cause : AsmCause) : Type 0 where
    pub before : ℕ
    pub part : Option Part
    pub counted : number ≡ first + before
    pub fine : steps find first start (take before lines) ≡ Fine part
    pub fault : IsFault number part lines before cause

  refused_one : (m n : ℕ) (a b : AsmCause) → Refused m a ≡ Refused n b → (m ≡ n) × (a ≡ b)
  refused_one m n a b e = (cc, cc)

  -- without `END`
  no_end : (first : ℕ) (start : Option Part) (number : ℕ) (cause : AsmCause) → is_whole start ≡ false → Refused first causes.NoEnd ≡ Refused number cause → Bad first start [] number cause
  no_end first start number cause whole e =
      let r = refused_one first number causes.NoEnd cause e in
      record { before = 0; part = start; counted = sym r.0 ∙ omega arith; fine = refl; fault = inr (refl, whole, sym r.1) }

  end_bad : (first : ℕ) (part : Part) (section : Section) (number : ℕ) (cause : AsmCause) → part.section ≡ section → ended first part section ≡ Refused number cause → Bad first (Some part) [] number cause
  end_bad first part sections.End number cause s e = absurd (cc)
  end_bad first part sections.Opening number cause s e = no_end first (Some part) number cause (ap is_end s) e
  end_bad first part sections.Code number cause s e = no_end first (Some part) number cause (ap is_end s) e
  end_bad first part sections.Data number cause s e = no_end first (Some part) number cause (ap is_end s) e

  bad_by : (first : ℕ) (start : Option Part) (line : List ℕ) (lines : List (List ℕ)) (o : LineResult (Option Part)) (number : ℕ) (cause : AsmCause) →
      step find first start line ≡ o → next first lines o ≡ Refused number cause →
      ((part : Option Part) → outcome (first + 1) part lines ≡ Refused number cause → Bad (first + 1) part lines number cause) →
      Bad first start (line ∷ lines) number cause
  bad_by first start line lines (Fine part) number cause s e ih =
      let b = ih part e in
      record {
        before = suc b.before;
        part = b.part;
        counted = omega (arith, b.counted);
        fine = ap (λ o. o >>= λ part. steps find (first + 1) part (take b.before lines)) s ∙ b.fine;
        fault = elim b.fault as (λ f. IsFault number b.part (line ∷ lines) (suc b.before) cause) [ inl f ↦ inl (omega (arith, f.0), f.1) | inr f ↦ inr (omega (arith, f.0), f.1, f.2) ];
      }
  bad_by first start line lines (Faulty found) number cause s e ih =
      let r = refused_one first number found cause e in
      record {
        before = 0;
        part = start;
        counted = sym r.0 ∙ omega arith;
        fine = refl;
        fault = inl (omega arith, ap (λ n. step find n start line) (sym r.0) ∙ (s ∙ ap Faulty r.1));
      }

  bad : (first : ℕ) (start : Option Part) (lines : List (List ℕ)) (number : ℕ) (cause : AsmCause) → outcome first start lines ≡ Refused number cause → Bad first start lines number cause
  bad first None [] number cause e = no_end first None number cause refl e
  bad first (Some part) [] number cause e = end_bad first part part.section number cause refl e
  bad first start (line ∷ lines) number cause e =
      bad_by first start line lines (step find first start line) number cause refl (sym (by_step first start line lines) ∙ e) (λ part e. bad (first + 1) part lines number cause e)

  -- and back
  ended_bad : (first : ℕ) (part : Part) (section : Section) → is_end section ≡ false → ended first part section ≡ Refused first causes.NoEnd
  ended_bad first part sections.End e = absurd (cc)
  ended_bad first part sections.Opening e = refl
  ended_bad first part sections.Code e = refl
  ended_bad first part sections.Data e = refl

  unended : (first : ℕ) (start : Option Part) → is_whole start ≡ false → outcome first start [] ≡ Refused first causes.NoEnd
  unended first None e = refl
  unended first (Some part) e = ended_bad first part part.section e

  abbrev Back : ℕ → Option Part → List (List ℕ) → ℕ → AsmCause → Type 0
  Back first start lines number cause =
      (before : ℕ) (part : Option Part) → number ≡ first + before → steps find first start (take before lines) ≡ Fine part →
      IsFault number part lines before cause → outcome first start lines ≡ Refused number cause

  at_end : (first : ℕ) (start : Option Part) (number : ℕ) (cause : AsmCause) → Back first start [] number cause
  at_end first start number cause before part n fine (inl f) = absurd (omega (arith, f.0))
  at_end first start number cause zero part n fine (inr f) =
      let same : first ≡ number = omega arith in
      let whole : is_whole start ≡ false = ap is_whole (fine_one start part fine) ∙ f.1 in
      unended first start whole ∙ (ap (λ k. Refused k causes.NoEnd) same ∙ ap (Refused number) (sym f.2))
  at_end first start number cause (suc before) part n fine (inr f) = absurd (omega (arith, f.0))

  fine_step : (o : LineResult (Option Part)) (first : ℕ) (lines : List (List ℕ)) (part : Option Part) →
      (o >>= λ part. steps find (first + 1) part lines) ≡ Fine part →
      (middle : Option Part) × (o ≡ Fine middle) × (steps find (first + 1) middle lines ≡ Fine part)
  fine_step (Fine middle) first lines part e = (middle, refl, e)
  fine_step (Faulty cause) first lines part e = absurd (cc)

  more : (first : ℕ) (start : Option Part) (line : List ℕ) (lines : List (List ℕ)) (number : ℕ) (cause : AsmCause) → ((part : Option Part) → Back (first + 1) part lines number cause) → Back first start (line ∷ lines) number cause
  more first start line lines number cause ih zero part n fine (inl f) =
      let same : number ≡ first = omega arith in
      let begun : start ≡ part = fine_one start part fine in
      by_step first start line lines
      ∙ (ap (next first lines) (ap (λ p. step find first p line) begun ∙ (ap (λ k. step find k part line) (sym same) ∙ f.1)) ∙ ap (λ k. Refused k cause) (sym same))
  more first start line lines number cause ih zero part n fine (inr f) = absurd (omega (arith, f.0))
  more first start line lines number cause ih (suc before) part n fine fault =
      let m = fine_step (step find first start line) first (take before lines) part fine in
      let later : IsFault number part lines before cause = elim fault as (λ f. IsFault number part lines before cause) [ inl f ↦ inl (omega (arith, f.0), f.1) | inr f ↦ inr (omega (arith, f.0), f.1, f.2) ] in
      by_step first start line lines ∙ (ap (next first lines) m.1 ∙ ih m.0 before part (omega arith) m.2 later)

  back : (first : ℕ) (start : Option Part) (lines : List (List ℕ)) (number : ℕ) (cause : AsmCause) → Back first start lines number cause
  back first start [] number cause = at_end first start number cause
  back first start (line ∷ lines) number cause = more first start line lines number cause (λ part. back (first + 1) part lines number cause)

pub first_bad : (text : List ℕ) (number : ℕ) (cause : AsmCause) → assembled text ≡ Refused number cause → IsFirstBad text number cause
first_bad text number cause e =
    let b = bad (defined (labels_from 1 (lines_of text))) 1 None (lines_of text) number cause e in
    record { before = b.before; part = b.part; counted = omega (arith, b.counted); fine = b.fine; fault = b.fault }

pub bad_refused : (text : List ℕ) (number : ℕ) (cause : AsmCause) → IsFirstBad text number cause → assembled text ≡ Refused number cause
bad_refused text number cause b =
    back (defined (labels_from 1 (lines_of text))) 1 None (lines_of text) number cause b.before b.part (omega (arith, b.counted)) b.fine b.fault
