-- What an output holds after a write.
use Rattle.std.proofs.Common.{ℕ, List, [], ◌++◌, take, drop, Option, Some, None, sym, ap, ◌∙◌, append_assoc}
use Rattle.std.proofs.lemmas.List.{take-append-drop, append-nil}
use Rattle.std.specs.Io.KnownBytes.{Appends}
use Rattle.outside_io.specs.Bytes.{AppendsFront}
use Rattle.reference_eval.specs.Outside.{Holds, HoldsFront}

pub holds_more : (before now : Option (List ℕ)) (waiting printed bs : List ℕ) → Holds before now waiting printed → Holds before now (waiting ++ bs) (printed ++ bs)
holds_more None now waiting printed bs h = h
holds_more (Some old) None waiting printed bs h = h
holds_more (Some old) (Some new) waiting printed bs h = (h.0, h.1, sym (append_assoc h.0 waiting bs) ∙ ap (λ x. x ++ bs) h.2)

pub holds_flushed : (before now after : Option (List ℕ)) (waiting printed : List ℕ) → Holds before now waiting printed → Appends now after waiting → Holds before after [] printed
holds_flushed None now after waiting printed h a = tt
holds_flushed (Some old) None after waiting printed h a = absurd h
holds_flushed (Some old) (Some new) None waiting printed h a = a
holds_flushed (Some old) (Some new) (Some later) waiting printed h a = (h.0 ++ waiting, a ∙ ap (λ x. x ++ waiting) h.1 ∙ append_assoc old h.0 waiting, append-nil (h.0 ++ waiting) ∙ h.2)

pub holds_front : (before now after : Option (List ℕ)) (waiting printed : List ℕ) → Holds before now waiting printed → AppendsFront now after waiting → HoldsFront before after printed
holds_front None now after waiting printed h a = tt
holds_front (Some old) None after waiting printed h a = absurd h
holds_front (Some old) (Some new) None waiting printed h a = a.1
holds_front (Some old) (Some new) (Some later) waiting printed h a =
    let n = a.0 in
    (h.0 ++ take n waiting, a.1 ∙ ap (λ x. x ++ take n waiting) h.1 ∙ append_assoc old h.0 (take n waiting), drop n waiting, append_assoc h.0 (take n waiting) (drop n waiting) ∙ ap (λ x. h.0 ++ x) (take-append-drop n waiting) ∙ h.2)

-- what printed more keeps
pub front_more : (before now : Option (List ℕ)) (printed bs : List ℕ) → HoldsFront before now printed → HoldsFront before now (printed ++ bs)
front_more None now printed bs h = h
front_more (Some old) None printed bs h = h
front_more (Some old) (Some new) printed bs h = (h.0, h.1, h.2 ++ bs, sym (append_assoc h.0 h.2 bs) ∙ ap (λ x. x ++ bs) h.3)
