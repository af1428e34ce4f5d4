-- Where so many tokens stand before a piece, all its tokens have numbers as much greater.
use Rattle.std.proofs.Common.{◌≡◌, ℕ, ◌+◌, ◌≤◌, nat_le, ◌==◌, ◌&&◌, Bool, true, false, List, [], ◌∷◌, length, Option, Some, None, refl, sym, ap, ◌∙◌, subst, arith}
use Rattle.std.specs.Prelude.{MatchOption}
use Rattle.forth_reader.specs.declared.refusal.ReadCause.{ReadCause}
use Rattle.forth_reader.specs.declared.refusal.ReadCause.TheVariants as read
use Rattle.forth_reader.specs.declared.refusal.ReadRefusal.{ReadRefusal}
use Rattle.forth_reader.specs.Bytes.{is_graphic, is_blank, is_source_byte, graphic_front, behind_graphic}
use Rattle.forth_reader.specs.Reading.{Reading, NoMore, Reads, Refuses, ends_token, may_follow_token, whole_token, name_from, next_from, parenthesis_from, line_from, string_from}
use Rattle.forth_reader.specs.ReaderState.{ReaderState, unless_failed, unless_failed_string, string_number, next_reading, name_reading, string_reading, Ended, TookToken, Failed, TookString, FailedString}
use Rattle.control_flow.specs.Numbering.{numbered_on, with_tokens_before}
use Rattle.control_flow.proofs.ReadingOn.{GoesOn, name_goes, next_goes}

-- what is said of an option
pub where_none : {X : Type 0} (A : Type 0) (B : X → Type 0) (o : Option X) → o ≡ None → MatchOption o A B → A
where_none A B None e h = h
where_none A B (Some x) e h = absurd cc

pub where_some : {X : Type 0} (A : Type 0) (B : X → Type 0) (o : Option X) (x : X) → o ≡ Some x → MatchOption o A B → B x
where_some A B None x e h = absurd cc
where_some A B (Some y) x e h =
    let is : y ≡ x = cc in
    subst B is h

number_of : (state : ReaderState) → state.failed ≡ None → string_number state ≡ state.count
number_of state sound = ap (λ f. elim f [ None ↦ state.count | Some refusal ↦ refusal.token ]) sound

-- a reader of a piece has refused nothing where the piece has no refusal
pub was_sound : (before : ℕ) (failed : Option ReadRefusal) → numbered_on before failed ≡ None → failed ≡ None
was_sound before None e = refl
was_sound before (Some r) e = absurd cc

module _ (before : ℕ) where
  abbrev pub numbered : Reading → Reading
  numbered (NoMore k) = NoMore (before + k)
  numbered (Reads token k rest) = Reads token (before + k) rest
  numbered (Refuses k c) = Refuses (before + k) c

  one_of : (t : Bool) (r s p q : Reading) → p ≡ numbered r → q ≡ numbered s → elim t [ true ↦ p | false ↦ q ] ≡ numbered (elim t [ true ↦ r | false ↦ s ])
  one_of true r s p q h k = h
  one_of false r s p q h k = k

  whole_numbered : (n k : ℕ) (token rest : List ℕ) → n ≡ before + k → whole_token n token rest ≡ numbered (whole_token k token rest)
  whole_numbered n k token rest e =
      one_of (may_follow_token rest) _ _ _ _ (one_of (nat_le (length token) 31) _ _ _ _ (ap (λ n. Reads token n rest) e) (ap (λ n. Refuses n read.NameTooLong) e)) (ap (λ n. Refuses n read.NotText) e)

  name_numbered : (n k : ℕ) (bs : List ℕ) → n ≡ before + k → name_from n bs ≡ numbered (name_from k bs)
  name_numbered n k [] e = ap NoMore e
  name_numbered n k (b ∷ bs) e =
      one_of (is_graphic b) _ _ _ _ (whole_numbered (n + 1) (k + 1) (b ∷ graphic_front bs) (behind_graphic bs) (omega (arith, e)))
      (one_of (is_blank b) _ _ _ _ (name_numbered n k bs e) (ap (λ n. Refuses n read.NotText) (omega (arith, e))))

  mutual
    next_numbered : (n k : ℕ) (bs : List ℕ) → n ≡ before + k → next_from n bs ≡ numbered (next_from k bs)
    next_numbered n k [] e = ap NoMore e
    next_numbered n k (b ∷ bs) e =
        one_of (is_graphic b) _ _ _ _
        (one_of (ends_token bs && b == 40) _ _ _ _ (parenthesis_numbered (n + 1) (k + 1) bs (omega (arith, e)))
        (one_of (ends_token bs && b == 92) _ _ _ _ (line_numbered (n + 1) (k + 1) bs (omega (arith, e)))
        (whole_numbered (n + 1) (k + 1) (b ∷ graphic_front bs) (behind_graphic bs) (omega (arith, e)))))
        (one_of (is_blank b) _ _ _ _ (next_numbered n k bs e) (ap (λ n. Refuses n read.NotText) (omega (arith, e))))

    parenthesis_numbered : (n k : ℕ) (bs : List ℕ) → n ≡ before + k → parenthesis_from n bs ≡ numbered (parenthesis_from k bs)
    parenthesis_numbered n k [] e = ap (λ n. Refuses n read.OpenComment) e
    parenthesis_numbered n k (b ∷ bs) e =
        one_of (b == 41) _ _ _ _ (next_numbered n k bs e) (one_of (is_source_byte b) _ _ _ _ (parenthesis_numbered n k bs e) (ap (λ n. Refuses n read.NotText) e))

    line_numbered : (n k : ℕ) (bs : List ℕ) → n ≡ before + k → line_from n bs ≡ numbered (line_from k bs)
    line_numbered n k [] e = ap NoMore e
    line_numbered n k (b ∷ bs) e =
        one_of (b == 10) _ _ _ _ (next_numbered n k bs e) (one_of (is_source_byte b) _ _ _ _ (line_numbered n k bs e) (ap (λ n. Refuses n read.NotText) e))

-- the calls of a reader of the piece, which has refused nothing
module _ (before : ℕ) (old new : ReaderState) (sound : old.failed ≡ None) where
  abbrev numbered_old : ReaderState
  numbered_old = with_tokens_before before old

  abbrev numbered_new : ReaderState
  numbered_new = with_tokens_before before new

  next_is : next_reading numbered_old ≡ numbered before (next_reading old)
  next_is =
      ap (λ f. unless_failed (numbered_on before f) (next_from (before + old.count) old.rest)) sound ∙ next_numbered before (before + old.count) old.count old.rest refl
      ∙ ap (numbered before) (sym (ap (λ f. unless_failed f (next_from old.count old.rest)) sound))

  name_is : name_reading numbered_old ≡ numbered before (name_reading old)
  name_is =
      ap (λ f. unless_failed (numbered_on before f) (name_from (before + old.count) old.rest)) sound ∙ name_numbered before (before + old.count) old.count old.rest refl
      ∙ ap (numbered before) (sym (ap (λ f. unless_failed f (name_from old.count old.rest)) sound))

  string_is : string_reading numbered_old ≡ string_reading old
  string_is =
      ap (λ f. unless_failed_string (numbered_on before f) (string_from old.rest)) sound ∙ sym (ap (λ f. unless_failed_string f (string_from old.rest)) sound)

  module _ (reading other : Reading) (is : other ≡ numbered before reading) where
    pub ended : Ended old new reading → Ended numbered_old numbered_new other
    ended e = record { reading_is = is ∙ ap (numbered before) e.reading_is; new_is = ap (with_tokens_before before) e.new_is }

    pub took : (token : List ℕ) (start number : ℕ) → TookToken old new reading token start number → TookToken numbered_old numbered_new other token start (before + number)
    took token start number t = record { reading_is = is ∙ ap (numbered before) t.reading_is; new_is = ap (with_tokens_before before) t.new_is; starts = t.starts }

    pub failed : (r : ReadRefusal) → Failed old new reading r → Failed numbered_old numbered_new other (record { token = before + r.token; cause = r.cause })
    failed r f = record { reading_is = is ∙ ap (numbered before) f.reading_is; new_is = ap (with_tokens_before before) f.new_is }

  pub next_ended : Ended old new (next_reading old) → Ended numbered_old numbered_new (next_reading numbered_old)
  next_ended e = ended _ _ next_is e

  pub next_took : (token : List ℕ) (start number : ℕ) → TookToken old new (next_reading old) token start number → TookToken numbered_old numbered_new (next_reading numbered_old) token start (before + number)
  next_took token start number t = took _ _ next_is token start number t

  pub next_failed : (r : ReadRefusal) → Failed old new (next_reading old) r → Failed numbered_old numbered_new (next_reading numbered_old) (record { token = before + r.token; cause = r.cause })
  next_failed r f = failed _ _ next_is r f

  pub name_ended : Ended old new (name_reading old) → Ended numbered_old numbered_new (name_reading numbered_old)
  name_ended e = ended _ _ name_is e

  pub name_took : (token : List ℕ) (start number : ℕ) → TookToken old new (name_reading old) token start number → TookToken numbered_old numbered_new (name_reading numbered_old) token start (before + number)
  name_took token start number t = took _ _ name_is token start number t

  pub name_failed : (r : ReadRefusal) → Failed old new (name_reading old) r → Failed numbered_old numbered_new (name_reading numbered_old) (record { token = before + r.token; cause = r.cause })
  name_failed r f = failed _ _ name_is r f

  pub took_text : (text : List ℕ) → TookString old new (string_reading old) text → TookString numbered_old numbered_new (string_reading numbered_old) text
  took_text text t = record { reading_is = string_is ∙ t.reading_is; new_is = ap (with_tokens_before before) t.new_is }

  pub failed_text : (r : ReadRefusal) → FailedString old new (string_reading old) r → FailedString numbered_old numbered_new (string_reading numbered_old) (record { token = before + r.token; cause = r.cause })
  failed_text r f = record {
    reading_is = string_is ∙ f.reading_is;
    number_is = ap (λ n. before + n) (f.number_is ∙ number_of old sound) ∙ sym (number_of numbered_old (ap (numbered_on before) sound));
    new_is = ap (with_tokens_before before) f.new_is;
  }

-- the numbers of what is read are within a bound
module _ (bound : ℕ) (on : ℕ → Reading) (r s : Reading) (h : GoesOn bound [] on r s) where
  refusal_on : (k : ℕ) (c : ReadCause) → r ≡ Refuses k c → k ≤ bound
  refusal_on k c e = subst (λ r. GoesOn bound [] on r s) e h

  ended_on : (k : ℕ) → r ≡ NoMore k → k ≤ bound
  ended_on k e =
      let both = subst (λ r. GoesOn bound [] on r s) e h in
      both.1

  took_on : (k : ℕ) (token rest : List ℕ) → r ≡ Reads token k rest → k + length rest ≤ bound
  took_on k token rest e =
      let both = subst (λ r. GoesOn bound [] on r s) e h in
      both.1

module _ (old new : ReaderState) (sound : old.failed ≡ None) where
  abbrev bytes_left : ℕ
  bytes_left = old.count + length old.rest

  abbrev next_here : Reading
  next_here = next_from old.count old.rest

  abbrev name_here : Reading
  name_here = name_from old.count old.rest

  next_sound : next_reading old ≡ next_here
  next_sound = ap (λ f. unless_failed f next_here) sound

  name_sound : name_reading old ≡ name_here
  name_sound = ap (λ f. unless_failed f name_here) sound

  pub next_refusal : (r : ReadRefusal) → Failed old new (next_reading old) r → r.token ≤ old.count + length old.rest
  next_refusal r f = refusal_on bytes_left _ next_here _ (next_goes bytes_left [] old.count old.rest (omega arith)) r.token r.cause (sym next_sound ∙ f.reading_is)

  pub name_refusal : (r : ReadRefusal) → Failed old new (name_reading old) r → r.token ≤ old.count + length old.rest
  name_refusal r f = refusal_on bytes_left _ name_here _ (name_goes bytes_left [] old.count old.rest (omega arith)) r.token r.cause (sym name_sound ∙ f.reading_is)

  pub next_end : Ended old new (next_reading old) → new.count ≤ old.count + length old.rest
  next_end e = ended_on bytes_left _ next_here _ (next_goes bytes_left [] old.count old.rest (omega arith)) new.count (sym next_sound ∙ e.reading_is)

  pub name_end : Ended old new (name_reading old) → new.count ≤ old.count + length old.rest
  name_end e = ended_on bytes_left _ name_here _ (name_goes bytes_left [] old.count old.rest (omega arith)) new.count (sym name_sound ∙ e.reading_is)

  pub next_token : (token : List ℕ) (start number : ℕ) → TookToken old new (next_reading old) token start number → number + length new.rest ≤ old.count + length old.rest
  next_token token start number t = took_on bytes_left _ next_here _ (next_goes bytes_left [] old.count old.rest (omega arith)) number token new.rest (sym next_sound ∙ t.reading_is)

  pub name_token : (token : List ℕ) (start number : ℕ) → TookToken old new (name_reading old) token start number → number + length new.rest ≤ old.count + length old.rest
  name_token token start number t = took_on bytes_left _ name_here _ (name_goes bytes_left [] old.count old.rest (omega arith)) number token new.rest (sym name_sound ∙ t.reading_is)

-- the same for a reader of a piece as contracts see it
module _ (before : ℕ) (old new state : ReaderState) (is : with_tokens_before before old ≡ state) (none : state.failed ≡ None) where
  pub sound : old.failed ≡ None
  sound = was_sound before old.failed (subst (λ (s : ReaderState). s.failed ≡ None) (sym is) none)

  pub seen_end : Ended old new (next_reading old) → Ended state (with_tokens_before before new) (next_reading state)
  seen_end e = subst (λ s. Ended s (with_tokens_before before new) (next_reading s)) is (next_ended before old new sound e)

  pub seen_token : (token : List ℕ) (start number : ℕ) → TookToken old new (next_reading old) token start number → TookToken state (with_tokens_before before new) (next_reading state) token start (before + number)
  seen_token token start number t = subst (λ s. TookToken s (with_tokens_before before new) (next_reading s) token start (before + number)) is (next_took before old new sound token start number t)

  pub seen_failed : (r : ReadRefusal) → Failed old new (next_reading old) r → Failed state (with_tokens_before before new) (next_reading state) (record { token = before + r.token; cause = r.cause })
  seen_failed r f = subst (λ s. Failed s (with_tokens_before before new) (next_reading s) (record { token = before + r.token; cause = r.cause })) is (next_failed before old new sound r f)

  pub named_end : Ended old new (name_reading old) → Ended state (with_tokens_before before new) (name_reading state)
  named_end e = subst (λ s. Ended s (with_tokens_before before new) (name_reading s)) is (name_ended before old new sound e)

  pub named_token : (token : List ℕ) (start number : ℕ) → TookToken old new (name_reading old) token start number → TookToken state (with_tokens_before before new) (name_reading state) token start (before + number)
  named_token token start number t = subst (λ s. TookToken s (with_tokens_before before new) (name_reading s) token start (before + number)) is (name_took before old new sound token start number t)

  pub named_failed : (r : ReadRefusal) → Failed old new (name_reading old) r → Failed state (with_tokens_before before new) (name_reading state) (record { token = before + r.token; cause = r.cause })
  named_failed r f = subst (λ s. Failed s (with_tokens_before before new) (name_reading s) (record { token = before + r.token; cause = r.cause })) is (name_failed before old new sound r f)

  pub text_token : (text : List ℕ) → TookString old new (string_reading old) text → TookString state (with_tokens_before before new) (string_reading state) text
  text_token text t = subst (λ s. TookString s (with_tokens_before before new) (string_reading s) text) is (took_text before old new sound text t)

  pub text_failed : (r : ReadRefusal) → FailedString old new (string_reading old) r → FailedString state (with_tokens_before before new) (string_reading state) (record { token = before + r.token; cause = r.cause })
  text_failed r f = subst (λ s. FailedString s (with_tokens_before before new) (string_reading s) (record { token = before + r.token; cause = r.cause })) is (failed_text before old new sound r f)

  pub text_number : (r : ReadRefusal) → FailedString old new (string_reading old) r → r.token ≡ old.count
  text_number r f = f.number_is ∙ number_of old sound
