-- Calls of a reader give the tokens of the text.
use Rattle.std.proofs.Common.{◌≡◌, ℕ, ◌+◌, ◌-◌, ◌<◌, ◌≤◌, Bool, true, false, List, [], ◌∷◌, ◌++◌, length, Option, Some, None, refl, ap, sym, ◌∙◌, arith, subst, length-append}
use Rattle.forth_reader.specs.declared.refusal.ReadCause.{ReadCause}
use Rattle.forth_reader.specs.declared.refusal.ReadCause.TheVariants as cause
use Rattle.forth_reader.specs.Bytes.{is_blank}
use Rattle.forth_reader.specs.Reading.{Reading, NoMore, Reads, Refuses, StringReading, Quoted, Unquoted, may_follow_token, next_from, name_from, string_from}
use Rattle.forth_reader.specs.Splitting.{IsBadByte, is_parenthesis_byte, is_line_byte, IsCommentText, Piece, Blank, Parenthesis, Line, ArePieces, pieces_then}
use Rattle.forth_reader.specs.Splitting.{tokens_behind, RunIs, is_read, is_too_long, meets_bad_byte, NameAt, NextAt, nothing, last_line, bad_byte, bad_in_line}
use Rattle.forth_reader.specs.Splitting.{bad_in_parenthesis, open_parenthesis, run, NameIs, NextIs, StringIs}
use Rattle.forth_reader.specs.ReaderState.{ReaderState, unless_failed, unless_failed_string, next_reading, name_reading, string_reading, TookToken, TookString}
use Rattle.forth_reader.specs.TokenList.{PlacedToken, TokensEnd, AllRead, Faulty, Kind, OrdinaryToken, OpensComment, OpensLine, BeforeString, kind_of}
use Rattle.forth_reader.specs.TokenList.{is_string_word, Passes, Fails, Behind, plain, comment, open_comment, bad_in_comment, line, line_at_end, bad_line}
use Rattle.forth_reader.specs.TokenList.{string, bad_string, IsTokenAt, EndIs, all_read, refused, fails_behind, AreTokensFrom, reader_start, NoneNamed}
use Rattle.forth_reader.specs.TokenList.{lone_token, Given, by_name, by_next, by_string, Gave, GaveNoToken, no_next, no_name, next_refused, name_refused}
use Rattle.forth_reader.specs.TokenList.{string_refused, is_comment_kind, without_comments, CallsGiveTokens}
use Rattle.forth_reader.proofs.ReadingToSplitting.{next_exists, name_exists, string_exists, name_alone, name_behind}
use Rattle.forth_reader.proofs.TokenKinds.{kind_is}
use Rattle.forth_reader.proofs.TokenLists.{run_rest, no_more_is, behind_shorter}

-- ---- a `(` or a `\` is a token of one byte

round_read : (k : ℕ) (behind : List ℕ) → may_follow_token behind ≡ true → NameIs k (40 ∷ behind) (Reads (40 ∷ []) (k + 1) behind)
round_read k behind follows = name_alone (run (40 ∷ []) behind (Reads (40 ∷ []) (k + 1) behind) (record { some = omega arith; graphic = refl }) (is_read behind follows (omega arith)))

line_read : (k : ℕ) (behind : List ℕ) → may_follow_token behind ≡ true → NameIs k (92 ∷ behind) (Reads (92 ∷ []) (k + 1) behind)
line_read k behind follows = name_alone (run (92 ∷ []) behind (Reads (92 ∷ []) (k + 1) behind) (record { some = omega arith; graphic = refl }) (is_read behind follows (omega arith)))

-- a bad byte directly behind it
round_bad : (k byte : ℕ) (rest : List ℕ) → IsBadByte byte → NameIs k (40 ∷ byte ∷ rest) (Refuses (k + 1) cause.NotText)
round_bad k byte rest bad = name_alone (run (40 ∷ []) (byte ∷ rest) (Refuses (k + 1) cause.NotText) (record { some = omega arith; graphic = refl }) (meets_bad_byte byte rest bad))

line_bad : (k byte : ℕ) (rest : List ℕ) → IsBadByte byte → NameIs k (92 ∷ byte ∷ rest) (Refuses (k + 1) cause.NotText)
line_bad k byte rest bad = name_alone (run (92 ∷ []) (byte ∷ rest) (Refuses (k + 1) cause.NotText) (record { some = omega arith; graphic = refl }) (meets_bad_byte byte rest bad))

-- a text that begins with a blank may follow a token, whatever stands behind it
follows_more : (text rest : List ℕ) → 0 < length text → may_follow_token text ≡ true → may_follow_token (text ++ rest) ≡ true
follows_more [] rest some e = absurd (omega arith)
follows_more (b ∷ bs) rest some e = e

follows_line : (text rest : List ℕ) → may_follow_token text ≡ true → may_follow_token (text ++ 10 ∷ rest) ≡ true
follows_line [] rest e = refl
follows_line (b ∷ bs) rest e = e

further : (k : ℕ) (pieces : List Piece) → k ≤ tokens_behind k pieces
further k [] = omega arith
further k (Blank b ∷ pieces) = further k pieces
further k (Parenthesis text ∷ pieces) = omega (arith, further (k + 1) pieces)
further k (Line text ∷ pieces) = omega (arith, further (k + 1) pieces)

pieces_shorter : (pieces : List Piece) (rest : List ℕ) → length rest ≤ length (pieces_then pieces rest)
pieces_shorter [] rest = omega arith
pieces_shorter (Blank b ∷ pieces) rest = omega (arith, pieces_shorter pieces rest)
pieces_shorter (Parenthesis text ∷ pieces) rest = omega (arith, pieces_shorter pieces rest, length-append text (41 ∷ pieces_then pieces rest))
pieces_shorter (Line text ∷ pieces) rest = omega (arith, pieces_shorter pieces rest, length-append text (10 ∷ pieces_then pieces rest))

module _ (named : ℕ → Bool) (size : ℕ) where
  -- tokens of a text of which all but comments are these
  record Listed (k : ℕ) (text : List ℕ) (tokens : List PlacedToken) (end : TokensEnd) : Type 0 where
    all : List PlacedToken
    are : AreTokensFrom named size k text all end
    same : without_comments named all ≡ tokens

  -- ---- a blank or a comment comes first

  blank_end : {k : ℕ} {text : List ℕ} {end : TokensEnd} (b : ℕ) → is_blank b ≡ true → EndIs named k text end → EndIs named k (b ∷ text) end
  blank_end b e (all_read is) = all_read (name_behind b e is)
  blank_end b e (refused n c is) = refused n c (name_behind b e is)
  blank_end b e (fails_behind t n behind c is stands) = fails_behind t n behind c (name_behind b e is) stands

  blank_tokens : (k b : ℕ) (text : List ℕ) (tokens : List PlacedToken) (end : TokensEnd) → is_blank b ≡ true → AreTokensFrom named size k text tokens end → AreTokensFrom named size k (b ∷ text) tokens end
  blank_tokens k b text [] end e is = blank_end b e is
  blank_tokens k b text (t ∷ tokens) end e is =
      let at : IsTokenAt named size k text t (is.0) = is.1.0 in
      (is.0, (record { behind = at.behind; reads = name_behind b e at.reads; starts = at.starts; stands = at.stands }, is.1.1))

  blank_first : {k : ℕ} {text : List ℕ} {tokens : List PlacedToken} {end : TokensEnd} (b : ℕ) → is_blank b ≡ true → Listed k text tokens end → Listed k (b ∷ text) tokens end
  blank_first {k = k} {text = text} {end = end} b e is = record { all = is.all; are = blank_tokens k b text is.all end e is.are; same = is.same }

  -- a comment whose token is this one byte
  comment_first : (k byte : ℕ) (kind : Kind) (behind skipped rest : List ℕ) (tokens : List PlacedToken) (end : TokensEnd) → named (k + 1) ≡ false → kind_of false (byte ∷ []) ≡ kind → is_comment_kind kind ≡ true →
      NameIs k (byte ∷ behind) (Reads (byte ∷ []) (k + 1) behind) → Behind kind behind (Passes skipped None rest) → length (byte ∷ behind) ≤ size → Listed (k + 1) rest tokens end → Listed k (byte ∷ behind) tokens end
  comment_first k byte kind behind skipped rest tokens end free is_kind is_comment reads stands small is =
      let kinds : kind_of (named (k + 1)) (byte ∷ []) ≡ kind = ap (λ n. kind_of n (byte ∷ [])) free ∙ is_kind in
      record {
        all = record { token = byte ∷ []; start = size - 1 - length behind; number = k + 1; skipped = skipped; string = None } ∷ is.all;
        are = (rest, (record { behind = behind; reads = reads; starts = omega (arith, small); stands = subst (λ x. Behind x behind (Passes skipped None rest)) (sym kinds) stands }, is.are));
        same =
            ap
            (λ x.
            elim (is_comment_kind x) [
              | true ↦ without_comments named is.all
              | false ↦
                  record { token = byte ∷ []; start = size - 1 - length behind; number = k + 1; skipped = skipped; string = None }
                  ∷ without_comments named is.all
            ]) kinds
            ∙ ap
            (λ t.
            elim t [
              | true ↦ without_comments named is.all
              | false ↦
                  record { token = byte ∷ []; start = size - 1 - length behind; number = k + 1; skipped = skipped; string = None }
                  ∷ without_comments named is.all
            ]) is_comment ∙ is.same;
      }

  pieces_first : (k : ℕ) (pieces : List Piece) (rest : List ℕ) (tokens : List PlacedToken) (end : TokensEnd) → ArePieces pieces → NoneNamed named k (tokens_behind k pieces) → length (pieces_then pieces rest) ≤ size →
      Listed (tokens_behind k pieces) rest tokens end → Listed k (pieces_then pieces rest) tokens end
  pieces_first k [] rest tokens end are free small is = is
  pieces_first k (Blank b ∷ pieces) rest tokens end are free small is = blank_first b (are.0) (pieces_first k pieces rest tokens end (are.1) free (omega (arith, small)) is)
  pieces_first k (Parenthesis text ∷ pieces) rest tokens end are free small is =
      let more : List ℕ = pieces_then pieces rest in
      comment_first k 40 OpensComment (text ++ 41 ∷ more) (text ++ 41 ∷ []) more tokens end (free (k + 1) (omega arith) (further (k + 1) pieces)) refl refl
      (round_read k (text ++ 41 ∷ more) (follows_more text (41 ∷ more) (are.0.0) (are.0.1.begins))) (comment text more (are.0.1.bytes)) small
      (pieces_first (k + 1) pieces rest tokens end (are.1) (λ n above below. free n (omega (arith, above)) below) (omega (arith, small, length-append text (41 ∷ more))) is)
  pieces_first k (Line text ∷ pieces) rest tokens end are free small is =
      let more : List ℕ = pieces_then pieces rest in
      comment_first k 92 OpensLine (text ++ 10 ∷ more) (text ++ 10 ∷ []) more tokens end (free (k + 1) (omega arith) (further (k + 1) pieces)) refl refl
      (line_read k (text ++ 10 ∷ more) (follows_line text more (are.0.begins))) (line text more (are.0.bytes)) small
      (pieces_first (k + 1) pieces rest tokens end (are.1) (λ n above below. free n (omega (arith, above)) below) (omega (arith, small, length-append text (10 ∷ more))) is)

  -- ---- a token that a call gives

  -- the token that `next` finds
  record IsRead (k : ℕ) (text token : List ℕ) (number : ℕ) (rest : List ℕ) : Type 0 where
    reads : NameAt k text (Reads token number rest)
    number_is : number ≡ k + 1
    no_comment : token ≡ 40 ∷ [] → ⊥
    no_line : token ≡ 92 ∷ [] → ⊥

  next_run : {k number : ℕ} {text token rest : List ℕ} → NextAt k text (Reads token number rest) → IsRead k text token number rest
  next_run (run found behind reading is p q of_run) =
      let same : (found ≡ _) × (behind ≡ _) × (_ ≡ _) = run_rest of_run in
      record { reads = run found behind reading is of_run; number_is = same.2; no_comment = λ e. p (same.0 ∙ e); no_line = λ e. q (same.0 ∙ e) }

  -- a token that is no comment
  token_first : (k : ℕ) (text : List ℕ) (t : PlacedToken) (behind rest : List ℕ) (tokens : List PlacedToken) (end : TokensEnd) → NameIs k text (Reads t.token t.number behind) → t.start + length t.token + length behind ≡ size →
      Behind (kind_of (named t.number) t.token) behind (Passes t.skipped t.string rest) → is_comment_kind (kind_of (named t.number) t.token) ≡ false → Listed t.number rest tokens end → Listed k text (t ∷ tokens) end
  token_first k text t behind rest tokens end reads starts stands none is = record {
    all = t ∷ is.all;
    are = (rest, (record { behind = behind; reads = reads; starts = starts; stands = stands }, is.are));
    same = ap (λ x. elim x [ true ↦ without_comments named is.all | false ↦ t ∷ without_comments named is.all ]) none ∙ ap (λ l. t ∷ l) is.same;
  }

  string_kind_plain : (is_string : Bool) → is_comment_kind (elim is_string [ true ↦ BeforeString | false ↦ OrdinaryToken ]) ≡ false
  string_kind_plain true = refl
  string_kind_plain false = refl

  -- `next` gave it, and what belongs to it was read
  next_token : (k : ℕ) (text token : List ℕ) (start number : ℕ) (behind : List ℕ) (is_string : Bool) (quoted : Option (List ℕ)) (rest : List ℕ) (tokens : List PlacedToken) (end : TokensEnd) →
      NextIs k text (Reads token number behind) → NoneNamed named k number → length text ≤ size → start + length token + length behind ≡ size → is_string_word token ≡ is_string →
      Behind (elim is_string [ true ↦ BeforeString | false ↦ OrdinaryToken ]) behind (Passes [] quoted rest) → Listed number rest tokens end → Listed k text (lone_token token start number quoted ∷ tokens) end
  next_token k text token start number behind is_string quoted rest tokens end is free small starts e stands more =
      let at : IsRead (tokens_behind k is.pieces) is.rest token number behind = next_run is.stands in
      let own : named number ≡ false = free number (omega (arith, at.number_is, further k is.pieces)) (omega arith) in
      let kind : kind_of (named number) token ≡ elim is_string [ true ↦ BeforeString | false ↦ OrdinaryToken ] = ap (λ n. kind_of n token) own ∙ kind_is token is_string at.no_comment at.no_line e in
      let here : Listed (tokens_behind k is.pieces) is.rest (lone_token token start number quoted ∷ tokens) end =
      token_first (tokens_behind k is.pieces) is.rest (lone_token token start number quoted) behind rest tokens end (name_alone at.reads) starts
      (subst (λ x. Behind x behind (Passes [] quoted rest)) (sym kind) stands) (ap is_comment_kind kind ∙ string_kind_plain is_string) more in
      subst (λ l. Listed k l (lone_token token start number quoted ∷ tokens) end) (sym is.text_is)
      (pieces_first k is.pieces is.rest (lone_token token start number quoted ∷ tokens) end is.are_pieces (λ n above below. free n above (omega (arith, at.number_is, below))) (omega (arith, small, ap length is.text_is)) here)

  -- ---- the end

  none_listed : {k : ℕ} {text : List ℕ} {end : TokensEnd} → EndIs named k text end → Listed k text [] end
  none_listed is = record { all = []; are = is; same = refl }

  -- a comment that is refused
  comment_fails : (k byte : ℕ) (kind : Kind) (behind : List ℕ) (c : ReadCause) → named (k + 1) ≡ false → kind_of false (byte ∷ []) ≡ kind → NameIs k (byte ∷ behind) (Reads (byte ∷ []) (k + 1) behind) → Behind kind behind (Fails c) →
      Listed k (byte ∷ behind) [] (Faulty (k + 1) c)
  comment_fails k byte kind behind c free is_kind reads stands =
      none_listed (fails_behind (byte ∷ []) (k + 1) behind c reads (subst (λ x. Behind x behind (Fails c)) (sym (ap (λ n. kind_of n (byte ∷ [])) free ∙ is_kind)) stands))

  round_fails : (k : ℕ) (text : List ℕ) (byte : ℕ) (rest : List ℕ) → named (k + 1) ≡ false → IsCommentText is_parenthesis_byte text → IsBadByte byte → Listed k (40 ∷ (text ++ byte ∷ rest)) [] (Faulty (k + 1) cause.NotText)
  round_fails k [] byte rest free is bad = none_listed (refused (k + 1) cause.NotText (round_bad k byte rest bad))
  round_fails k (b ∷ bs) byte rest free is bad = comment_fails k 40 OpensComment (b ∷ (bs ++ byte ∷ rest)) cause.NotText free refl (round_read k (b ∷ (bs ++ byte ∷ rest)) (is.begins)) (bad_in_comment (b ∷ bs) byte rest (is.bytes) bad)

  line_fails : (k : ℕ) (text : List ℕ) (byte : ℕ) (rest : List ℕ) → named (k + 1) ≡ false → IsCommentText is_line_byte text → IsBadByte byte → Listed k (92 ∷ (text ++ byte ∷ rest)) [] (Faulty (k + 1) cause.NotText)
  line_fails k [] byte rest free is bad = none_listed (refused (k + 1) cause.NotText (line_bad k byte rest bad))
  line_fails k (b ∷ bs) byte rest free is bad = comment_fails k 92 OpensLine (b ∷ (bs ++ byte ∷ rest)) cause.NotText free refl (line_read k (b ∷ (bs ++ byte ∷ rest)) (is.begins)) (bad_line (b ∷ bs) byte rest (is.bytes) bad)

  run_refuses : {k number : ℕ} {token rest : List ℕ} {c : ReadCause} → RunIs k token rest (Refuses number c) → number ≡ k
  run_refuses (is_too_long rest follows long) = refl
  run_refuses (meets_bad_byte byte rest bad) = refl

  -- the numbers from k on, up to the last one, are no names
  module _ (k last : ℕ) (free : NoneNamed named k last) where
    at_refusal : {text : List ℕ} {number : ℕ} {c : ReadCause} → number ≤ last → NextAt k text (Refuses number c) → Listed k text [] (Faulty number c)
    at_refusal h (bad_byte byte rest bad) = none_listed (refused (k + 1) cause.NotText (name_alone (bad_byte byte rest bad)))
    at_refusal h (bad_in_line text byte rest is bad) = line_fails k text byte rest (free (k + 1) (omega arith) h) is bad
    at_refusal h (bad_in_parenthesis text byte rest is bad) = round_fails k text byte rest (free (k + 1) (omega arith) h) is bad
    at_refusal h (open_parenthesis text is) = comment_fails k 40 OpensComment text cause.OpenComment (free (k + 1) (omega arith) h) refl (round_read k text (is.begins)) (open_comment text (is.bytes))
    at_refusal {number = number} {c = c} h (run token rest reading is p q of_run) = none_listed (refused number c (name_alone (run token rest reading is of_run)))

    at_end : {text : List ℕ} {tokens : ℕ} → tokens ≤ last → length text ≤ size → NextAt k text (NoMore tokens) → Listed k text [] (AllRead tokens)
    at_end h small nothing = none_listed (all_read (name_alone nothing))
    at_end h small (last_line text is) =
        comment_first k 92 OpensLine text text [] [] (AllRead (k + 1)) (free (k + 1) (omega arith) h) refl refl (line_read k text (is.begins)) (line_at_end text (is.bytes)) small (none_listed (all_read (name_alone nothing)))
    at_end h small (run token rest reading is p q of_run) = elim of_run [ ]

  refusal_after : {k number : ℕ} {text : List ℕ} {c : ReadCause} → NextAt k text (Refuses number c) → k < number
  refusal_after (bad_byte byte rest bad) = omega arith
  refusal_after (bad_in_line text byte rest is bad) = omega arith
  refusal_after (bad_in_parenthesis text byte rest is bad) = omega arith
  refusal_after (open_parenthesis text is) = omega arith
  refusal_after (run token rest reading is p q of_run) = let e = run_refuses of_run in omega (arith, e)

  end_after : {k tokens : ℕ} {text : List ℕ} → NextAt k text (NoMore tokens) → k ≤ tokens
  end_after nothing = omega arith
  end_after (last_line text is) = omega arith
  end_after (run token rest reading is p q of_run) = elim of_run [ ]

  next_refuses : (k : ℕ) (text : List ℕ) (number : ℕ) (c : ReadCause) → NextIs k text (Refuses number c) → NoneNamed named k number → length text ≤ size → Listed k text [] (Faulty number c)
  next_refuses k text number c is free small =
      let after : tokens_behind k is.pieces < number = refusal_after is.stands in
      let here : Listed (tokens_behind k is.pieces) is.rest [] (Faulty number c) =
      at_refusal (tokens_behind k is.pieces) number (λ n above below. free n (omega (arith, above, further k is.pieces)) below) (omega arith) is.stands in
      subst (λ l. Listed k l [] (Faulty number c)) (sym is.text_is)
      (pieces_first k is.pieces is.rest [] (Faulty number c) is.are_pieces (λ n above below. free n above (omega (arith, after, below))) (omega (arith, small, ap length is.text_is)) here)

  next_ends : (k : ℕ) (text : List ℕ) (tokens : ℕ) → NextIs k text (NoMore tokens) → NoneNamed named k tokens → length text ≤ size → Listed k text [] (AllRead tokens)
  next_ends k text tokens is free small =
      let after : tokens_behind k is.pieces ≤ tokens = end_after is.stands in
      let here : Listed (tokens_behind k is.pieces) is.rest [] (AllRead tokens) =
      at_end (tokens_behind k is.pieces) tokens (λ n above below. free n (omega (arith, above, further k is.pieces)) below) (omega arith) (omega (arith, small, ap length is.text_is, pieces_shorter is.pieces is.rest)) is.stands in
      subst (λ l. Listed k l [] (AllRead tokens)) (sym is.text_is)
      (pieces_first k is.pieces is.rest [] (AllRead tokens) is.are_pieces (λ n above below. free n above (omega (arith, after, below))) (omega (arith, small, ap length is.text_is)) here)

  -- ---- a reader that has refused nothing

  record IsSound (state : ReaderState) : Type 0 where
    sound : state.failed ≡ None
    text : length state.text ≡ size
    small : length state.rest ≤ size

  module _ (state : ReaderState) (s : IsSound state) where
    reads_next : (reading : Reading) → next_reading state ≡ reading → NextIs state.count state.rest reading
    reads_next reading e = subst (NextIs state.count state.rest) (sym (ap (λ f. unless_failed f (next_from state.count state.rest)) s.sound) ∙ e) (next_exists state.count state.rest)

    reads_name : (reading : Reading) → name_reading state ≡ reading → NameIs state.count state.rest reading
    reads_name reading e = subst (NameIs state.count state.rest) (sym (ap (λ f. unless_failed f (name_from state.count state.rest)) s.sound) ∙ e) (name_exists state.count state.rest)

    reads_string : (reading : StringReading) → string_reading state ≡ reading → StringIs state.rest reading
    reads_string reading e = subst (StringIs state.rest) (sym (ap (λ f. unless_failed_string f (string_from state.rest)) s.sound) ∙ e) (string_exists state.rest)

    after_token : {new : ReaderState} {reading : Reading} {token : List ℕ} {start number : ℕ} → TookToken state new reading token start number → IsSound new
    after_token took = record {
      sound = ap (λ (x : ReaderState). x.failed) took.new_is ∙ s.sound;
      text = ap (λ (x : ReaderState). length x.text) took.new_is ∙ s.text;
      small = omega (arith, took.starts, s.text);
    }

    after_string : {new : ReaderState} {reading : StringReading} {text : List ℕ} → TookString state new reading text → length new.rest ≤ size → IsSound new
    after_string took short = record {
      sound = ap (λ (x : ReaderState). x.failed) took.new_is ∙ s.sound;
      text = ap (λ (x : ReaderState). length x.text) took.new_is ∙ s.text;
      small = short;
    }

    counted : {new : ReaderState} {reading : Reading} {token : List ℕ} {start number : ℕ} → TookToken state new reading token start number → new.count ≡ number
    counted took = ap (λ (x : ReaderState). x.count) took.new_is

  -- `next` gave a string word, and its string is refused
  string_fails : (k : ℕ) (text token : List ℕ) (number : ℕ) (behind : List ℕ) (c : ReadCause) → NextIs k text (Reads token number behind) → NoneNamed named k number → length text ≤ size → is_string_word token ≡ true →
      StringIs behind (Unquoted c) → Listed k text [] (Faulty number c)
  string_fails k text token number behind c is free small e stands =
      let at : IsRead (tokens_behind k is.pieces) is.rest token number behind = next_run is.stands in
      let own : named number ≡ false = free number (omega (arith, at.number_is, further k is.pieces)) (omega arith) in
      let kind : kind_of (named number) token ≡ BeforeString = ap (λ n. kind_of n token) own ∙ kind_is token true at.no_comment at.no_line e in
      let here : Listed (tokens_behind k is.pieces) is.rest [] (Faulty number c) =
      none_listed (fails_behind token number behind c (name_alone at.reads) (subst (λ x. Behind x behind (Fails c)) (sym kind) (bad_string behind c stands))) in
      subst (λ l. Listed k l [] (Faulty number c)) (sym is.text_is)
      (pieces_first k is.pieces is.rest [] (Faulty number c) is.are_pieces (λ n above below. free n above (omega (arith, at.number_is, below))) (omega (arith, small, ap length is.text_is)) here)

  stopped_listed : (state : ReaderState) (end : TokensEnd) → IsSound state → GaveNoToken named state end → Listed state.count state.rest [] end
  stopped_listed state end s (no_next new free ended) = next_ends state.count state.rest new.count (reads_next state s (NoMore new.count) ended.reading_is) free s.small
  stopped_listed state end s (no_name new ended) =
      let is : NameIs state.count state.rest (NoMore new.count) = reads_name state s (NoMore new.count) ended.reading_is in
      let same : new.count ≡ state.count = no_more_is is in
      none_listed (subst (λ n. EndIs named state.count state.rest (AllRead n)) (sym same) (all_read (subst (λ n. NameIs state.count state.rest (NoMore n)) same is)))
  stopped_listed state end s (next_refused new refusal free failed) =
      next_refuses state.count state.rest refusal.token refusal.cause (reads_next state s (Refuses refusal.token refusal.cause) failed.reading_is) free s.small
  stopped_listed state end s (name_refused new refusal failed) = none_listed (refused refusal.token refusal.cause (reads_name state s (Refuses refusal.token refusal.cause) failed.reading_is))
  stopped_listed state end s (string_refused token start number between new refusal free word took failed) =
      let t : IsSound between = after_token state s took in
      let same : refusal.token ≡ number = failed.number_is ∙ ap (λ f. elim f [ None ↦ between.count | Some r ↦ r.token ]) t.sound ∙ counted state s took in
      subst (λ n. Listed state.count state.rest [] (Faulty n refusal.cause)) (sym same)
      (string_fails state.count state.rest token number between.rest refusal.cause (reads_next state s (Reads token number between.rest) took.reading_is) free s.small word
      (reads_string between t (Unquoted refusal.cause) failed.reading_is))

  -- one token more in front
  given_listed : (before between : ReaderState) (t : PlacedToken) (tokens : List PlacedToken) (end : TokensEnd) → IsSound before → Given named before between t →
      (IsSound between → Listed between.count between.rest tokens end) → Listed before.count before.rest (t ∷ tokens) end
  given_listed before between t tokens end s (by_name token start number own took) more =
      let kind : kind_of (named number) token ≡ OrdinaryToken = ap (λ n. kind_of n token) own in
      token_first before.count before.rest (lone_token token start number None) between.rest between.rest tokens end (reads_name before s (Reads token number between.rest) took.reading_is) (took.starts ∙ s.text)
      (subst (λ x. Behind x between.rest (Passes [] None between.rest)) (sym kind) (plain between.rest)) (ap is_comment_kind kind)
      (subst (λ n. Listed n between.rest tokens end) (counted before s took) (more (after_token before s took)))
  given_listed before between t tokens end s (by_next token start number free word took) more =
      next_token before.count before.rest token start number between.rest false None between.rest tokens end (reads_next before s (Reads token number between.rest) took.reading_is) free s.small (took.starts ∙ s.text) word
      (plain between.rest) (subst (λ n. Listed n between.rest tokens end) (counted before s took) (more (after_token before s took)))
  given_listed before between t tokens end s (by_string token start number mid text free word took quoted) more =
      let m : IsSound mid = after_token before s took in
      let is : StringIs mid.rest (Quoted text between.rest) = reads_string mid m (Quoted text between.rest) quoted.reading_is in
      let stands : Behind BeforeString mid.rest (Passes [] (Some text) between.rest) = string mid.rest text between.rest is in
      let count : between.count ≡ number = ap (λ (x : ReaderState). x.count) quoted.new_is ∙ counted before s took in
      next_token before.count before.rest token start number mid.rest true (Some text) between.rest tokens end (reads_next before s (Reads token number mid.rest) took.reading_is) free s.small (took.starts ∙ s.text) word
      stands (subst (λ n. Listed n between.rest tokens end) count (more (after_string mid m quoted (omega (arith, m.small, behind_shorter stands)))))

  gave_listed : (before after : ReaderState) (tokens : List PlacedToken) (end : TokensEnd) → IsSound before → Gave named before tokens after → GaveNoToken named after end → Listed before.count before.rest tokens end
  gave_listed before after [] end s gave stopped = stopped_listed before end s (subst (λ x. GaveNoToken named x end) (sym gave) stopped)
  gave_listed before after (t ∷ tokens) end s gave stopped = given_listed before (gave.0) t tokens end s (gave.1.0) (λ sound. gave_listed (gave.0) after tokens end sound (gave.1.1) stopped)

pub calls_give_tokens : CallsGiveTokens
calls_give_tokens named text tokens after end gave stopped =
    let is : Listed named (length text) 0 text tokens end = gave_listed named (length text) (reader_start text) after tokens end (record { sound = refl; text = refl; small = omega arith }) gave stopped in
    (is.all, (is.are, is.same))
