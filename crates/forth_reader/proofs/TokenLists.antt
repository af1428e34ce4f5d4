-- Each text has one list of tokens, whichever are read as names.
use Rattle.std.proofs.Common.{◌≡◌, ℕ, zero, suc, ◌+◌, ◌-◌, ◌<◌, ◌≤◌, Bool, List, [], ◌∷◌, length, Option, refl, ap, sym, ◌∙◌, arith, subst, length-append}
use Rattle.forth_reader.specs.declared.refusal.ReadCause.{ReadCause}
use Rattle.forth_reader.specs.Reading.{Reading, NoMore, Reads, Refuses, Quoted, name_from}
use Rattle.forth_reader.specs.Splitting.{RunIs, is_read, NameAt, nothing, run, NameIs, StringIs, closed}
use Rattle.forth_reader.specs.TokenList.{PlacedToken, TokensEnd, AllRead, Faulty, Kind, kind_of, After, Passes, Fails, Behind, plain, comment, line}
use Rattle.forth_reader.specs.TokenList.{line_at_end, string, IsTokenAt, EndIs, all_read, refused, fails_behind, AreTokensFrom, HasTokens, HasNoOtherTokens}
use Rattle.forth_reader.proofs.SplittingToReading.{name_computed}
use Rattle.forth_reader.proofs.ReadingToSplitting.{name_exists}
use Rattle.forth_reader.proofs.TokenKinds.{after_of, behind_computed, behind_exists}

-- ---- a token takes bytes

pub record IsPart (text token rest : List ℕ) : Type 0 where
  pub some : 0 < length token
  pub within : length token + length rest ≤ length text

pub run_rest : {number other : ℕ} {token found behind rest : List ℕ} → RunIs number found behind (Reads token other rest) → (found ≡ token) × (behind ≡ rest) × (other ≡ number)
run_rest (is_read rest follows short) = (refl, refl, refl)

name_part : {k number : ℕ} {text token rest : List ℕ} → NameAt k text (Reads token number rest) → IsPart text token rest
name_part (run found behind reading is of_run) =
    let same : (found ≡ _) × (behind ≡ _) × (_ ≡ _) = run_rest of_run in
    record { some = omega (arith, is.some, ap length (same.0)); within = omega (arith, length-append found behind, ap length (same.0), ap length (same.1)) }

pub is_part : {k number : ℕ} {text token rest : List ℕ} → NameIs k text (Reads token number rest) → IsPart text token rest
is_part {token = token} {rest = rest} is =
    let part : IsPart (is.rest) token rest = name_part (is.stands) in
    record { some = part.some; within = omega (arith, part.within, ap length (is.text_is), length-append is.blanks is.rest) }

string_shorter : {behind : List ℕ} {text rest : List ℕ} → StringIs behind (Quoted text rest) → length rest ≤ length behind
string_shorter (closed separator text rest is) = omega (arith, length-append text (34 ∷ rest))

pub behind_shorter : {kind : Kind} {behind skipped rest : List ℕ} {text : Option (List ℕ)} → Behind kind behind (Passes skipped text rest) → length rest ≤ length behind
behind_shorter (plain rest) = omega arith
behind_shorter (comment text rest all) = omega (arith, length-append text (41 ∷ rest))
behind_shorter (line text rest all) = omega (arith, length-append text (10 ∷ rest))
behind_shorter (line_at_end text all) = omega arith
behind_shorter (string behind text rest is) = string_shorter is

no_more_at : {k tokens : ℕ} {rest : List ℕ} → NameAt k rest (NoMore tokens) → tokens ≡ k
no_more_at nothing = refl
no_more_at (run token rest reading is of_run) = elim of_run [ ]

pub no_more_is : {k tokens : ℕ} {text : List ℕ} → NameIs k text (NoMore tokens) → tokens ≡ k
no_more_is is = no_more_at is.stands

module _ (named : ℕ → Bool) where
  -- ---- there is one

  record HasTokensFrom (size k : ℕ) (text : List ℕ) : Type 0 where
    tokens : List PlacedToken
    end : TokensEnd
    are : AreTokensFrom named size k text tokens end

  module _ (size k : ℕ) (text : List ℕ) (small : length text ≤ size) where
    by_after : (token : List ℕ) (number : ℕ) (behind : List ℕ) (after : After) → NameIs k text (Reads token number behind) → Behind (kind_of (named number) token) behind after →
        ((rest : List ℕ) → length rest < length text → HasTokensFrom size number rest) → HasTokensFrom size k text
    by_after token number behind (Passes skipped text' rest) is stands more =
        let part : IsPart text token behind = is_part is in
        let others : HasTokensFrom size number rest = more rest (omega (arith, part.some, part.within, behind_shorter stands)) in
        record {
          tokens = record { token = token; start = size - length token - length behind; number = number; skipped = skipped; string = text' } ∷ others.tokens;
          end = others.end;
          are = (rest, (record { behind = behind; reads = is; starts = omega (arith, part.within, small); stands = stands }, others.are));
        }
    by_after token number behind (Fails c) is stands more = record { tokens = []; end = Faulty number c; are = fails_behind token number behind c is stands }

    by_reading : (reading : Reading) → NameIs k text reading → ((number : ℕ) (rest : List ℕ) → length rest < length text → HasTokensFrom size number rest) → HasTokensFrom size k text
    by_reading (NoMore tokens) is more = record { tokens = []; end = AllRead k; are = all_read (subst (λ n. NameIs k text (NoMore n)) (no_more_is is) is) }
    by_reading (Refuses number c) is more = record { tokens = []; end = Faulty number c; are = refused number c is }
    by_reading (Reads token number behind) is more = by_after token number behind (after_of (kind_of (named number) token) behind) is (behind_exists (kind_of (named number) token) behind) (more number)

  tokens_exist : (fuel size k : ℕ) (text : List ℕ) → length text < fuel → length text ≤ size → HasTokensFrom size k text
  tokens_exist zero size k text short small = absurd (omega arith)
  tokens_exist (suc fuel) size k text short small = by_reading size k text small (name_from k text) (name_exists k text) (λ number rest less. tokens_exist fuel size number rest (omega (arith, less)) (omega (arith, less)))

  -- ---- and no other

  one_reading : {k : ℕ} {text : List ℕ} {a b : Reading} → NameIs k text a → NameIs k text b → a ≡ b
  one_reading {k = k} {text = text} {a = a} {b = b} is other = name_computed k text a is ∙ sym (name_computed k text b other)

  one_after : {kind : Kind} {behind : List ℕ} {a b : After} → Behind kind behind a → Behind kind behind b → a ≡ b
  one_after is other = sym (behind_computed is) ∙ behind_computed other

  same_parts : {s t : List ℕ} {m n : ℕ} {a b : List ℕ} → Reads s m a ≡ Reads t n b → (s ≡ t) × (m ≡ n) × (a ≡ b)
  same_parts e = (cc, cc, cc)

  same_after : {s t a b : List ℕ} {x y : Option (List ℕ)} → Passes s x a ≡ Passes t y b → (s ≡ t) × (x ≡ y) × (a ≡ b)
  same_after e = (cc, cc, cc)

  same_cause : {c d : ReadCause} → Fails c ≡ Fails d → c ≡ d
  same_cause e = cc

  same_refusal : {m n : ℕ} {c d : ReadCause} → Refuses m c ≡ Refuses n d → (m ≡ n) × (c ≡ d)
  same_refusal e = (cc, cc)

  same_token : (t u : PlacedToken) → t.token ≡ u.token → t.start ≡ u.start → t.number ≡ u.number → t.skipped ≡ u.skipped → t.string ≡ u.string → t ≡ u
  same_token t u a b c d e =
      ap (λ x. record t { token = x }) a ∙ ap (λ x. record { token = u.token; start = x; number = t.number; skipped = t.skipped; string = t.string }) b
      ∙ ap (λ x. record { token = u.token; start = u.start; number = x; skipped = t.skipped; string = t.string }) c
      ∙ ap (λ x. record { token = u.token; start = u.start; number = u.number; skipped = x; string = t.string }) d
      ∙ ap (λ x. record { token = u.token; start = u.start; number = u.number; skipped = u.skipped; string = x }) e

  -- what stands behind one token, read twice
  same_behind : {token other behind behind' : List ℕ} {number number' : ℕ} {a b : After} → Reads token number behind ≡ Reads other number' behind' →
      Behind (kind_of (named number) token) behind a → Behind (kind_of (named number') other) behind' b → a ≡ b
  same_behind {token = token} {other = other} {behind = behind} {behind' = behind'} {number = number} {number' = number'} {a = a} e is stands =
      let same : (token ≡ other) × (number ≡ number') × (behind ≡ behind') = same_parts e in
      one_after (subst (λ l. Behind (kind_of (named number') other) l a) (same.2) (subst (λ n. Behind (kind_of (named n) other) behind a) (same.1) (subst (λ s. Behind (kind_of (named number) s) behind a) (same.0) is))) stands

  one_end : {k : ℕ} {text : List ℕ} {e f : TokensEnd} → EndIs named k text e → EndIs named k text f → e ≡ f
  one_end (all_read is) (all_read other) = refl
  one_end (all_read is) (refused n c other) = absurd (let h = one_reading is other in cc)
  one_end (all_read is) (fails_behind t n b c other stands) = absurd (let h = one_reading is other in cc)
  one_end (refused n c is) (all_read other) = absurd (let h = one_reading is other in cc)
  one_end (refused n c is) (refused m d other) = let same = same_refusal (one_reading is other) in ap (λ x. Faulty x c) (same.0) ∙ ap (Faulty m) (same.1)
  one_end (refused n c is) (fails_behind t m b d other stands) = absurd (let h = one_reading is other in cc)
  one_end (fails_behind t n b c is stands) (all_read other) = absurd (let h = one_reading is other in cc)
  one_end (fails_behind t n b c is stands) (refused m d other) = absurd (let h = one_reading is other in cc)
  one_end (fails_behind t n b c is stands) (fails_behind u m b' d other stands') =
      let e = one_reading is other in
      ap (λ x. Faulty x c) ((same_parts e).1) ∙ ap (Faulty m) (same_cause (same_behind e stands stands'))

  no_end : {size k : ℕ} {text : List ℕ} {t : PlacedToken} {rest : List ℕ} {e : TokensEnd} → EndIs named k text e → IsTokenAt named size k text t rest → ⊥
  no_end (all_read is) at = let h = one_reading is at.reads in cc
  no_end (refused n c is) at = let h = one_reading is at.reads in cc
  no_end (fails_behind s n b c is stands) at = let h = same_behind (one_reading is at.reads) stands at.stands in cc

  tokens_same : (size k : ℕ) (text : List ℕ) (tokens others : List PlacedToken) (end other_end : TokensEnd) → AreTokensFrom named size k text tokens end →
      AreTokensFrom named size k text others other_end → (tokens ≡ others) × (end ≡ other_end)
  tokens_same size k text [] [] end other_end is other = (refl, one_end is other)
  tokens_same size k text [] (u ∷ others) end other_end is other = absurd (no_end is (other.1.0))
  tokens_same size k text (t ∷ tokens) [] end other_end is other = absurd (no_end other (is.1.0))
  tokens_same size k text (t ∷ tokens) (u ∷ others) end other_end is other =
      let a : IsTokenAt named size k text t (is.0) = is.1.0 in
      let b : IsTokenAt named size k text u (other.0) = other.1.0 in
      let e : Reads t.token t.number a.behind ≡ Reads u.token u.number b.behind = one_reading a.reads b.reads in
      let same : (t.token ≡ u.token) × (t.number ≡ u.number) × (a.behind ≡ b.behind) = same_parts e in
      let after : (t.skipped ≡ u.skipped) × (t.string ≡ u.string) × (is.0 ≡ other.0) = same_after (same_behind e a.stands b.stands) in
      let starts : t.start ≡ u.start = omega (arith, a.starts, b.starts, ap length (same.0), ap length (same.2)) in
      let others_are : AreTokensFrom named size (t.number) (is.0) others other_end =
      subst (λ n. AreTokensFrom named size n (is.0) others other_end) (sym (same.1))
      (subst (λ l. AreTokensFrom named size (u.number) l others other_end) (sym (after.2)) (other.1.1)) in
      let more : (tokens ≡ others) × (end ≡ other_end) = tokens_same size (t.number) (is.0) tokens others end other_end (is.1.1) others_are in
      (ap (λ x. x ∷ tokens) (same_token t u (same.0) starts (same.1) (after.0) (after.1)) ∙ ap (λ l. u ∷ l) (more.0), more.1)

pub text_has_tokens : HasTokens
text_has_tokens named text =
    let found : HasTokensFrom named (length text) 0 text = tokens_exist named (length text + 1) (length text) 0 text (omega arith) (omega arith) in
    (found.tokens, (found.end, found.are))

pub no_other_tokens : HasNoOtherTokens
no_other_tokens named text tokens others end other_end is other = tokens_same named (length text) 0 text tokens others end other_end is other
