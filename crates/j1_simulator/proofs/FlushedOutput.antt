-- What an output holds after a flush.
use Rattle.std.proofs.Common.{◌≡◌, ℕ, List, [], ◌++◌, take, drop, Option, Some, None, sym, ap, ◌∙◌, append_assoc}
use Rattle.std.proofs.lemmas.List.{take-append-drop, append-nil, append_cancel_right}
use Rattle.std.specs.Prelude.{Result, Ok, Err, OnErr}
use Rattle.std.specs.Io.KnownBytes.{Appends}
use Rattle.outside_io.specs.Bytes.{AppendsFront}
use Rattle.j1_simulator.specs.Drive.{HoldsPrints, HoldsFront, HoldsAll}

pub holds_more : (before now : Option (List ℕ)) (buffer printed bs : List ℕ) → HoldsPrints before now buffer printed → HoldsPrints before now (buffer ++ bs) (printed ++ bs)
holds_more None now buffer printed bs h = h
holds_more (Some old) None buffer printed bs h = h
holds_more (Some old) (Some new) buffer printed bs h = (h.0, h.1, sym (append_assoc h.0 buffer bs) ∙ ap (λ x. x ++ bs) h.2)

pub holds_flushed : (before now after : Option (List ℕ)) (buffer printed : List ℕ) → HoldsPrints before now buffer printed → Appends now after buffer → HoldsPrints before after [] printed
holds_flushed None now after buffer printed h a = tt
holds_flushed (Some old) None after buffer printed h a = absurd h
holds_flushed (Some old) (Some new) None buffer printed h a = a
holds_flushed (Some old) (Some new) (Some later) buffer printed h a = (h.0 ++ buffer, a ∙ ap (λ x. x ++ buffer) h.1 ∙ append_assoc old h.0 buffer, append-nil (h.0 ++ buffer) ∙ h.2)

pub holds_front : (before now after : Option (List ℕ)) (buffer printed : List ℕ) → HoldsPrints before now buffer printed → AppendsFront now after buffer → HoldsFront before after printed
holds_front None now after buffer printed h a = tt
holds_front (Some old) None after buffer printed h a = absurd h
holds_front (Some old) (Some new) None buffer printed h a = a.1
holds_front (Some old) (Some new) (Some later) buffer printed h a =
    let n = a.0 in
    (h.0 ++ take n buffer, a.1 ∙ ap (λ x. x ++ take n buffer) h.1 ∙ append_assoc old h.0 (take n buffer), (drop n buffer, append_assoc h.0 (take n buffer) (drop n buffer) ∙ ap (λ x. h.0 ++ x) (take-append-drop n buffer) ∙ h.2))

-- what printed more keeps
pub front_more : (before now : Option (List ℕ)) (printed bs : List ℕ) → HoldsFront before now printed → HoldsFront before now (printed ++ bs)
front_more None now printed bs h = h
front_more (Some old) None printed bs h = h
front_more (Some old) (Some new) printed bs h = (h.0, h.1, (h.2.0 ++ bs, sym (append_assoc h.0 h.2.0 bs) ∙ ap (λ x. x ++ bs) h.2.1))

pub into_err : {T E : Type 0} (r : Result T E) (P : Type 0) → P → OnErr r P
into_err (Ok x) P h = tt
into_err (Err e) P h = h

-- ---- known bytes that only grow

pub grows_not : (now : Option (List ℕ)) → HoldsAll now now []
grows_not None = ([], tt)
grows_not (Some bytes) = ([], sym (append-nil bytes))

pub grows_flushed : (now later : Option (List ℕ)) (buffer : List ℕ) → Appends now later buffer → HoldsAll now later []
grows_flushed now later buffer a = (buffer, a)

pub grows_front : (now later : Option (List ℕ)) (buffer : List ℕ) → AppendsFront now later buffer → HoldsAll now later []
grows_front now later buffer a = (take a.0 buffer, a.1)

pub grows_then : (now later last : Option (List ℕ)) → HoldsAll now later [] → HoldsAll later last [] → HoldsAll now last []
grows_then None later last a b = ([], tt)
grows_then (Some xs) None last a b = absurd a.1
grows_then (Some xs) (Some ys) None a b = absurd b.1
grows_then (Some xs) (Some ys) (Some zs) a b = (a.0 ++ b.0, b.1 ∙ ap (λ x. x ++ b.0) a.1 ∙ append_assoc xs a.0 b.0)

-- what no longer waited stands in out still
pub holds_still : (before now later : Option (List ℕ)) (written buffer printed : List ℕ) → HoldsPrints before now buffer printed → written ++ buffer ≡ printed → HoldsAll now later [] → HoldsAll before later written
holds_still None now later written buffer printed h w g = ([], tt)
holds_still (Some old) None later written buffer printed h w g = absurd h
holds_still (Some old) (Some new) None written buffer printed h w g = absurd g.1
holds_still (Some old) (Some new) (Some last) written buffer printed h w g =
    let same : h.0 ≡ written = append_cancel_right h.0 written buffer (h.2 ∙ sym w) in
    let whole : last ≡ old ++ (h.0 ++ g.0) = g.1 ∙ ap (λ x. x ++ g.0) h.1 ∙ append_assoc old h.0 g.0 in
    (g.0, whole ∙ ap (λ x. old ++ (x ++ g.0)) same)

-- known bytes that have all that was printed have it still
pub all_still : (before now later : Option (List ℕ)) (printed : List ℕ) → HoldsAll before now printed → HoldsAll now later [] → HoldsAll before later printed
all_still None now later printed a g = ([], tt)
all_still (Some old) None later printed a g = absurd a.1
all_still (Some old) (Some new) None printed a g = absurd g.1
all_still (Some old) (Some new) (Some last) printed a g =
    (a.0 ++ g.0, g.1 ∙ ap (λ x. x ++ g.0) a.1 ∙ append_assoc old (printed ++ a.0) g.0 ∙ ap (λ x. old ++ x) (append_assoc printed a.0 g.0))
