-- Labels that are defined one after the other.
use Rattle.std.proofs.Common.{◌≡◌, ℕ, ◌+◌, Bool, true, false, cond, List, [], ◌∷◌, Option, Some, None, refl, ap, sym, ◌∙◌}
use Rattle.std.specs.Option.{is_some}
use Rattle.std.specs.Str.{bytes_eq}
use Rattle.std.proofs.lemmas.Bool.Decides.{same_from_decides}
use Rattle.std.proofs.lemmas.Slice.Eq.{bytes_eq-Decides}
use Rattle.j1_assembler.specs.declared.labels.Definition.{Definition}
use Rattle.j1_assembler.specs.Labels.{or_else, defined, with_label, labels_in, next_cell, is_data}
use Rattle.j1_assembler.specs.Text.{fields_of}
use Rattle.j1_assembler.specs.Lines.{heading_of, line_label, line_rest}

pub bytes_eq_sym : (a b : List ℕ) → bytes_eq a b ≡ bytes_eq b a
bytes_eq_sym a b =
    let d = bytes_eq-Decides b a in
    same_from_decides (bytes_eq a b) (bytes_eq b a) (bytes_eq-Decides a b) (λ e. sym (d.0 e), λ e. d.1 (sym e))

none_of : (o : Option Definition) → is_some o ≡ false → o ≡ None
none_of None e = refl
none_of (Some d) e = absurd (cc)

or_none : (o : Option Definition) → o ≡ or_else o None
or_none None = refl
or_none (Some d) = refl

merged_by : (g : Bool) (f : List ℕ → Option Definition) (name query : List ℕ) (d : Definition) → bytes_eq name query ≡ g → is_some (f name) ≡ false → cond g (Some d) (f query) ≡ or_else (f query) (cond g (Some d) None)
merged_by true f name query d e absent =
    let same : name ≡ query = (bytes_eq-Decides name query).0 e in
    let none : f query ≡ None = ap f (sym same) ∙ none_of (f name) absent in
    sym (ap (λ o. or_else o (Some d)) none)
merged_by false f name query d e absent = or_none (f query)

-- a map that lacks the name, and then has it
pub merged : (f : List ℕ → Option Definition) (name query : List ℕ) (d : Definition) (new : Option Definition) → is_some (f name) ≡ false →
    new ≡ cond (bytes_eq name query) (Some d) (f query) → new ≡ or_else (f query) (cond (bytes_eq query name) (Some d) None)
merged f name query d new absent e =
    e ∙ (merged_by (bytes_eq name query) f name query d refl absent ∙ ap (λ g. or_else (f query) (cond g (Some d) None)) (bytes_eq_sym name query))

or_else_assoc : (a b c : Option Definition) → or_else (or_else a b) c ≡ or_else a (or_else b c)
or_else_assoc None b c = refl
or_else_assoc (Some d) b c = refl

cond_or : (g : Bool) (d : Definition) (rest : Option Definition) → cond g (Some d) rest ≡ or_else (cond g (Some d) None) rest
cond_or true d rest = refl
cond_or false d rest = refl

with_label_or : (label : Option (List ℕ)) (d : Definition) (labels : List (List ℕ × Definition)) (name : List ℕ) → defined (with_label label d labels) name ≡ or_else (defined (with_label label d []) name) (defined labels name)
with_label_or None d labels name = refl
with_label_or (Some other) d labels name = cond_or (bytes_eq name other) d (defined labels name)

not_data : (line : List ℕ) (lines : List (List ℕ)) (number cell : ℕ) → is_data (heading_of (fields_of line)) ≡ false →
    labels_in number cell (line ∷ lines)
    ≡ with_label (line_label (fields_of line)) (record { line = number; cell = cell })
    (labels_in (number + 1) (next_cell cell (line_rest (fields_of line))) lines)
not_data line lines number cell e = ap (λ g. elim g [ true ↦ [] | false ↦ with_label (line_label (fields_of line)) (record { line = number; cell = cell }) (labels_in (number + 1) (next_cell cell (line_rest (fields_of line))) lines) ]) e

-- the labels behind a line, after those so far and that of the line
pub next_labels : (line name : List ℕ) (lines rest : List (List ℕ)) (number cell : ℕ) (old new : Option Definition) → rest ≡ line ∷ lines →
    is_data (heading_of (fields_of line)) ≡ false →
    new ≡ or_else old (defined (with_label (line_label (fields_of line)) (record { line = number; cell = cell }) []) name) →
    or_else new (defined (labels_in (number + 1) (next_cell cell (line_rest (fields_of line))) lines) name)
    ≡ or_else old (defined (labels_in number cell rest) name)
next_labels line name lines rest number cell old new r e h =
    let d : Definition = record { line = number; cell = cell } in
    let later : List (List ℕ × Definition) = labels_in (number + 1) (next_cell cell (line_rest (fields_of line))) lines in
    let one : Option Definition = defined (with_label (line_label (fields_of line)) d []) name in
    let whole : defined (labels_in number cell rest) name ≡ or_else one (defined later name) =
    ap (λ t. defined (labels_in number cell t) name) r
    ∙ (ap (λ t. defined t name) (not_data line lines number cell e) ∙ with_label_or (line_label (fields_of line)) d later name) in
    ap (λ o. or_else o (defined later name)) h ∙ (or_else_assoc old one (defined later name) ∙ ap (or_else old) (sym whole))

-- at a line `DATA` and at the end no label is left
pub no_labels : (line name : List ℕ) (lines rest : List (List ℕ)) (number cell : ℕ) (found : Option Definition) → rest ≡ line ∷ lines →
    is_data (heading_of (fields_of line)) ≡ true → found ≡ or_else found (defined (labels_in number cell rest) name)
no_labels line name lines rest number cell found r e =
    or_none found
    ∙ ap (or_else found)
    (sym
    (ap (λ t. defined (labels_in number cell t) name) r
    ∙ ap
    (λ g.
    defined
    (elim g [
      | true ↦ []
      | false ↦
          with_label (line_label (fields_of line)) (record { line = number; cell = cell })
          (labels_in (number + 1) (next_cell cell (line_rest (fields_of line))) lines)
    ]) name) e))

pub end_labels : (name : List ℕ) (rest : List (List ℕ)) (number cell : ℕ) (found : Option Definition) → rest ≡ [] → found ≡ or_else found (defined (labels_in number cell rest) name)
end_labels name rest number cell found r = or_none found ∙ ap (or_else found) (sym (ap (λ t. defined (labels_in number cell t) name) r))
