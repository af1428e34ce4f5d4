-- What a sink holds after several writes.
use Rattle.std.proofs.Common.{◌≡◌, ℕ, zero, suc, List, [], ◌∷◌, ◌++◌, take, drop, get_or, length, map, ◌-◌, ◌≤◌, arith, Option, Some, None, inl, inr, refl, sym, ap, ◌∙◌, subst, append_assoc}
use Rattle.std.specs.Prelude.{Result, Ok, Err, ⊤}
use Rattle.std.specs.Borrow.{Bor}
use Rattle.std.specs.Io.KnownBytes.{Appends}
use Rattle.std.proofs.lemmas.List.{append-nil, take_all}
use Rattle.outside_io.specs.Bytes.{AppendsFront, WritesAll}
use Rattle.j1_workbench.specs.declared.status.Status.{Status}
use Rattle.outside_io.specs.Causes.{Rose}
use Rattle.j1_workbench.specs.declared.status.Status.TheVariants.{Done, WriteFault}
use Rattle.j1_workbench.specs.Words.{request_of}
use Rattle.j1_workbench.specs.Surroundings.{Stream, Surroundings}
use Rattle.j1_workbench.specs.Answers.{Does, Answers}
use Rattle.j1_workbench.specs.Notes.{ended, note_of, line}

-- one write after another
pub appends_then : (before between after : Option (List ℕ)) (xs ys : List ℕ) → Appends before between xs → Appends between after ys → Appends before after (xs ++ ys)
appends_then None between after xs ys first second = tt
appends_then (Some old) None after xs ys first second = absurd first
appends_then (Some old) (Some mid) None xs ys first second = absurd second
appends_then (Some old) (Some mid) (Some new) xs ys first second = second ∙ ap (λ m. m ++ ys) first ∙ append_assoc old xs ys

-- a front of what follows is a front of the whole
front_of_rest : (xs ys zs : List ℕ) (n : ℕ) → (m : ℕ) × (take m (xs ++ (ys ++ zs)) ≡ xs ++ take n ys)
front_of_rest [] [] zs zero = (0, refl)
front_of_rest [] [] zs (suc n) = (0, refl)
front_of_rest [] (y ∷ ys) zs zero = (0, refl)
front_of_rest [] (y ∷ ys) zs (suc n) = let r = front_of_rest [] ys zs n in (suc r.0, ap (λ l. y ∷ l) r.1)
front_of_rest (x ∷ xs) ys zs n = let r = front_of_rest xs ys zs n in (suc r.0, ap (λ l. x ∷ l) r.1)

-- a write that fails after others
pub appends_front_then : (before between after : Option (List ℕ)) (xs ys zs : List ℕ) → Appends before between xs → AppendsFront between after ys → AppendsFront before after (xs ++ (ys ++ zs))
appends_front_then before between after xs ys zs first second =
    let r = front_of_rest xs ys zs second.0 in
    (r.0, subst (Appends before after) (sym r.1) (appends_then before between after xs (take second.0 ys) first second.1))

-- a write after others tells of both
pub writes_then : {T E : Type 0} (before between after : Option (List ℕ)) (result : Result T E) (xs ys : List ℕ) → Appends before between xs → WritesAll between after result ys → WritesAll before after result (xs ++ ys)
writes_then before between after (Ok x) xs ys first second = appends_then before between after xs ys first second
writes_then before between after (Err e) xs ys first second = subst (AppendsFront before after) (ap (λ l. xs ++ l) (append-nil ys)) (appends_front_then before between after xs ys [] first second)

-- a write that fails has begun all that was to follow
pub fails_early : {T E : Type 0} (before after : Option (List ℕ)) (result : Result T E) (e : E) (xs ys : List ℕ) → result ≡ Err e → AppendsFront before after xs → WritesAll before after result (xs ++ ys)
fails_early before after result e xs ys is failed =
    let r = front_of_rest [] xs ys failed.0 in
    let told : AppendsFront before after (xs ++ ys) = (r.0, subst (Appends before after) (sym r.1) failed.1) in
    subst (λ x. WritesAll before after x (xs ++ ys)) (sym is) told

-- the first part, and those after it
pub parts_ended : (parts : List (Bor (List ℕ))) (none : Bor (List ℕ)) → 1 ≤ length parts →
    ended (map (λ part. part.now) parts) ≡ (get_or parts 0 none).now ++ ended (map (λ part. part.now) (take (length parts - 1) (drop 1 parts)))
parts_ended [] none some = absurd (omega arith)
parts_ended (part ∷ parts) none some = ap (λ rest. part.now ++ ended (map (λ part. part.now) rest)) (sym (take_all (suc (length parts) - 1) parts (omega arith)))

-- the note of a status that is known
pub noted : {T E : Type 0} (before after : Option (List ℕ)) (result : Result T E) (words : List (List ℕ)) (name : List ℕ) (status known : Status) (text : List ℕ) →
    status ≡ known → text ≡ note_of words known name → WritesAll before after result text → WritesAll before after result (note_of words status name)
noted before after result words name status known text is same written = subst (WritesAll before after result) (same ∙ sym (ap (λ s. note_of words s name) is)) written

-- the line of a definition, for a text behind it that is known
pub definition_noted : {T E : Type 0} (before after : Option (List ℕ)) (result : Result T E) (name written known wanted text : List ℕ) →
    wanted ≡ known → written ≡ name → text ≡ line (written ∷ known ∷ []) → WritesAll before after result text → WritesAll before after result (line (name ∷ wanted ∷ []))
definition_noted before after result name written known wanted text is same whole done =
    subst (λ w. WritesAll before after result (line (name ∷ w ∷ []))) (sym is) (subst (λ n. WritesAll before after result (line (n ∷ known ∷ []))) same (subst (WritesAll before after result) whole done))

-- whether the note was written decides the answer
pub noted_ok : (words : List (List ℕ)) (before after : Surroundings) (notes_before notes_after : Stream) (status : Status) (name : List ℕ) →
    Does (request_of words) before after status name → (status ≡ Done → ⊤ × (notes_after ≡ notes_before)) → notes_before.faults ≤ notes_after.faults →
    Appends notes_before.bytes notes_after.bytes (note_of words status name) → Answers words before after notes_before notes_after status
noted_ok words before after notes_before notes_after status name does quiet later written = record {
  status = status;
  name = name;
  does = does;
  noted = record { quiet = λ done. ((quiet done).1, done); faults = later; written = inl (refl, written) };
}

pub noted_fault : (words : List (List ℕ)) (before after : Surroundings) (notes_before notes_after : Stream) (status : Status) (name : List ℕ) →
    Does (request_of words) before after status name → (status ≡ Done → ⊥ × (notes_after ≡ notes_before)) → notes_before.faults ≤ notes_after.faults →
    AppendsFront notes_before.bytes notes_after.bytes (note_of words status name) → Rose notes_before.faults notes_after.faults →
    Answers words before after notes_before notes_after WriteFault
noted_fault words before after notes_before notes_after status name does quiet later written rose = record {
  status = status;
  name = name;
  does = does;
  noted = record { quiet = λ done. absurd (quiet done).0; faults = later; written = inr (refl, written, rose) };
}
