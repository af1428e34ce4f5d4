-- A source that is read up to the end of a text is read on in a piece on the next line.
use Rattle.std.proofs.Common.{◌≡◌, ℕ, zero, suc, ◌+◌, ◌-◌, ◌<◌, ◌≤◌, nat_lt, Bool, true, false, List, [], ◌∷◌, ◌++◌, length, Option, Some, None, refl, sym, ap, ◌∙◌, subst, arith, length-append}
use Rattle.std.specs.Prelude.{Result, Ok, Err, slice_get}
use Rattle.word_table.specs.declared.word.Vocabulary.{Vocabulary}
use Rattle.word_table.specs.declared.word.Vocabulary.TheVariants as vocabulary
use Rattle.word_table.specs.Names.{word_named}
use Rattle.forth_program.specs.Tree.{Nodes}
use Rattle.forth_program.specs.Program.{SourceProgram}
use Rattle.forth_reader.specs.Reading.{Reading, NoMore, Reads, Refuses, next_from}
use Rattle.dictionary_core.specs.Pairs.{newest_value}
use Rattle.host_state.specs.declared.word.HostItem.{HostItem}
use Rattle.host_state.specs.declared.entry.Known.{Known}
use Rattle.host_state.specs.declared.entry.Known.TheVariants as known
use Rattle.host_state.specs.declared.entry.Ticked.{Ticked}
use Rattle.host_state.specs.HostCells.{Reply, pop, push}
use Rattle.host_state.specs.HostMemory.{checked}
use Rattle.host_state.specs.Naming.{created, variable, defined_by, code_cells}
use Rattle.control_flow.specs.declared.refusal.SourceCause.{SourceCause}
use Rattle.control_flow.specs.declared.refusal.SourceCause.TheVariants as cause
use Rattle.control_flow.specs.declared.nest.Ending.{Ending}
use Rattle.control_flow.specs.declared.nest.Ending.TheVariants as ending
use Rattle.control_flow.specs.declared.host_sense.HostSense.{HostSense}
use Rattle.control_flow.specs.declared.host_sense.HostSense.TheVariants as host_sense
use Rattle.control_flow.specs.declared.outside_sense.OutsideSense.{OutsideSense}
use Rattle.control_flow.specs.declared.outside_sense.OutsideSense.TheVariants as outside
use Rattle.control_flow.specs.Sense.{is_create}
use Rattle.control_flow.specs.Ticks.{ticked_in, tick_weight}
use Rattle.control_flow.specs.ParseResult.{ParserState, ParseResult, Fine, Refused, Endless, ◌>>=◌, forbidden}
use Rattle.control_flow.specs.ReadTokens.{base_at, ReadToken, token_at, host_token_at, Named, spelled_at, first_byte}
use Rattle.control_flow.specs.Items.{Many, items_by, items_at}
use Rattle.control_flow.specs.HostParts.{DefiningWord, HostPart, may_be_part, with_item, host_part_by, host_part_at}
use Rattle.control_flow.specs.OutsideSense.{outside_sense_in}
use Rattle.control_flow.specs.OutsideWords.{is_reserved_name, name_at, named_as, constant_at, variable_at, create_at, child_of, token_put, outside_ticked_as, outside_tick_at, outside_char_at, code_cells_at}
use Rattle.control_flow.specs.SourceText.{is_due, Source, with_defining, ended_by, part_by, defining_at, definition_at, OutsideToken, outside_of, outside_at, child_by, resumed, outside_by}
use Rattle.control_flow.specs.SourceText.{program_of_source, source_by, source_at, source_start, program_in}
use Rattle.control_flow.specs.Pieces.{read_by, read_at, source_in, source_of_text, is_no_main, with_piece}
use Rattle.control_flow.proofs.ReadingOn.{GoesOn, next_goes}
use Rattle.control_flow.proofs.MoreBehind.{Extends, extends_then, more_at, Within, PlaceMore, token_more, more_host, host_more, NamedMore, spelled_more, weighed_more, hosted_more}
use Rattle.control_flow.proofs.MoreBehind.{acted_more, quoted_more, items_more, items_by_more, read_cause, IsOther, found_other}

-- the program of a text is that of what it has come to at its end
abbrev pub ended : ParseResult Source → ParseResult SourceProgram
ended o = o >>= λ last. program_of_source last last.at

module _ (n : ℕ) (goes : (next : Source) → source_at n next ≡ ended (read_at n next)) (source : Source) where
  next_ends : (o : ParseResult Source) → (o >>= source_at n) ≡ ended (o >>= read_at n)
  next_ends (Fine next) = goes next
  next_ends (Refused k c) = refl
  next_ends Endless = refl

  begins_on : (seen : Option OutsideSense) (at : ParserState) → source_by (source_at n) n source (record { sense = seen; at = at }) ≡ ended (read_by (read_at n) n source (record { sense = seen; at = at }))
  begins_on (Some sense) at = next_ends (outside_by n source at sense)
  begins_on None at = refl

  outside_ends : (o : ParseResult OutsideToken) → (o >>= source_by (source_at n) n source) ≡ ended (o >>= read_by (read_at n) n source)
  outside_ends (Fine outside) = begins_on outside.sense outside.at
  outside_ends (Refused k c) = refl
  outside_ends Endless = refl

pub program_at_end : (n : ℕ) (source : Source) → source_at n source ≡ ended (read_at n source)
unfolding source_at read_at
program_at_end zero source = refl
program_at_end (suc n) source = outside_ends n (λ next. program_at_end n next) source (outside_at source.at)

pub program_of_end : (words : Vocabulary) (text : List ℕ) → program_in words text ≡ ended (source_in words text)
program_of_end words text = program_at_end (suc (length text)) (source_start words text)

module _ (piece : List ℕ) (bound : ℕ) where
  abbrev more : ParserState → ParserState
  more at = more_at piece bound at

  abbrev InText : ParserState → Type 0
  InText at = Within piece bound at

  abbrev more_named : Named → Named
  more_named named = record named { at = more named.at }

  abbrev pub more_source : Source → Source
  more_source source = record source { at = more source.at }

  abbrev SourceMore : ParseResult Source → ParseResult Source → Type 0
  SourceMore o p = Extends more_source (λ source. InText source.at) o p

  abbrev Place : ParseResult ParserState → ParseResult ParserState → Type 0
  Place o p = PlaceMore piece bound o p

  abbrev part_more : HostPart → HostPart
  part_more part = record part { at = more part.at }

  name_on : (reserved fits : Bool) (named : Named) → InText named.at →
      NamedMore piece bound
      (elim reserved [ true ↦ Refused named.at.count cause.NeedsName | false ↦ elim fits [ true ↦ Fine named | false ↦ Refused named.at.count cause.TooManyWords ] ])
      (elim reserved [ true ↦ Refused named.at.count cause.NeedsName | false ↦ elim fits [ true ↦ Fine (more_named named) | false ↦ Refused named.at.count cause.TooManyWords ] ])
  name_on true fits named w = refl
  name_on false true named w = (refl, w)
  name_on false false named w = refl

  name_more : (at : ParserState) → InText at → NamedMore piece bound (name_at at) (name_at (more at))
  name_more at w =
      extends_then more_named (λ named. InText named.at) more_named (λ named. InText named.at) (spelled_at at) (spelled_at (more at)) _ _ (spelled_more piece bound at w)
      (λ named v. name_on (is_reserved_name (word_named named.name)) (nat_lt (length named.at.entries) 512) named v)

  -- ---- definitions

  ended_more : (source : Source) (name : List ℕ) (nodes : Nodes) (at : ParserState) (e : Ending) → InText at → SourceMore (ended_by source name nodes at e) (ended_by (more_source source) name nodes (more at) e)
  ended_more source name nodes at ending.Semicolon w = (refl, w)
  ended_more source name nodes at e w = refl

  part_on : (source : Source) (name : List ℕ) (items : List HostItem) (nodes : Nodes) (at : ParserState) (e : Ending) → InText at →
      SourceMore (part_by source name items nodes at e) (part_by (more_source source) name items nodes (more at) e)
  part_on source name items nodes at ending.Semicolon w = (refl, w)
  part_on source name items nodes at e w = refl

  module _ (go go2 : ParserState → ParseResult HostPart) (goes : (at : ParserState) → InText at → Extends part_more (λ part. InText part.at) (go at) (go2 (more at))) where
    acts_on : (one : HostItem) (may : Bool) (at : ParserState) → InText at →
        Extends part_more (λ part. InText part.at) (elim may [ true ↦ go at >>= λ part. Fine (with_item one part) | false ↦ forbidden at ])
        (elim may [ true ↦ go2 (more at) >>= λ part. Fine (with_item one part) | false ↦ forbidden (more at) ])
    acts_on one true at w = extends_then part_more (λ part. InText part.at) part_more (λ part. InText part.at) (go at) (go2 (more at)) _ _ (goes at w) (λ part v. (refl, v))
    acts_on one false at w = refl

    host_part_on : (at : ParserState) (s : HostSense) → InText at → Extends part_more (λ part. InText part.at) (host_part_by go at s) (host_part_by go2 (more at) s)
    host_part_on at (host_sense.Acts one) w = acts_on one (may_be_part one) at w
    host_part_on at host_sense.Closes w = refl
    host_part_on at host_sense.Ends w = (refl, w)
    host_part_on at host_sense.Does w = (refl, w)
    host_part_on at host_sense.Quoted w = quoted_more piece bound part_more (λ part. InText part.at) cause.NotInDefinition refl at w
    host_part_on at host_sense.OutOfRange w = refl
    host_part_on at host_sense.Unknown w = refl
    host_part_on at host_sense.Forbidden w = refl

  host_part_more : (n m : ℕ) → n ≤ m → (at : ParserState) → InText at → Extends part_more (λ part. InText part.at) (host_part_at n at) (host_part_at m (more at))
  unfolding host_part_at
  host_part_more zero m h at w = tt
  host_part_more (suc n) zero h at w = absurd (omega arith)
  host_part_more (suc n) (suc m) h at w =
      extends_then (more_host piece bound) (λ seen. InText seen.at) part_more (λ part. InText part.at) (host_token_at at) (host_token_at (more at)) _ _ (host_more piece bound at w)
      (λ seen v. host_part_on (host_part_at n) (host_part_at m) (λ at w. host_part_more n m (omega arith) at w) seen.at seen.sense v)

  module _ (n m : ℕ) (h : n ≤ m) where
    defining_on : (source : Source) (name : List ℕ) (part : HostPart) (does : Bool) → InText part.at →
        SourceMore (elim does [
          | true ↦ items_at n (record part.at { does = true }) >>= λ many. part_by source name part.items many.nodes many.at many.ending
          | false ↦ Fine (with_defining (record source { at = part.at }) name part.items None)
        ]) (elim does [
          | true ↦ items_at m (record (more part.at) { does = true }) >>= λ many. part_by (more_source source) name part.items many.nodes many.at many.ending
          | false ↦ Fine (with_defining (record source { at = more part.at }) name part.items None)
        ])
    defining_on source name part true w =
        extends_then (λ (many : Many). record many { at = more many.at }) (λ many. InText many.at) more_source (λ source. InText source.at) (items_at n (record part.at { does = true }))
        (items_at m (record (more part.at) { does = true })) _ _ (items_more piece bound n m h (record part.at { does = true }) w) (λ many v. part_on source name part.items many.nodes many.at many.ending v)
    defining_on source name part false w = (refl, w)

    definition_on : (source : Source) (name : List ℕ) (seen : ReadToken) (create : Bool) → InText seen.at →
        SourceMore (elim create [
          | true ↦ defining_at n source name seen.at
          | false ↦ items_by (items_at n) n seen.at seen.sense >>= λ many. ended_by source name many.nodes many.at many.ending
        ]) (elim create [
          | true ↦ defining_at m (more_source source) name (more seen.at)
          | false ↦ items_by (items_at m) m (more seen.at) seen.sense >>= λ many. ended_by (more_source source) name many.nodes many.at many.ending
        ])
    definition_on source name seen true w =
        extends_then part_more (λ part. InText part.at) more_source (λ source. InText source.at) (host_part_at n seen.at) (host_part_at m (more seen.at)) _ _ (host_part_more n m h seen.at w)
        (λ part v. defining_on source name part part.does v)
    definition_on source name seen false w =
        extends_then (λ (many : Many). record many { at = more many.at }) (λ many. InText many.at) more_source (λ source. InText source.at) (items_by (items_at n) n seen.at seen.sense)
        (items_by (items_at m) m (more seen.at) seen.sense) _ _ (items_by_more piece bound n m h seen.at seen.sense w) (λ many v. ended_more source name many.nodes many.at many.ending v)

    definition_more : (source : Source) (at : ParserState) → InText at → SourceMore (definition_at n source at) (definition_at m (more_source source) (more at))
    definition_more source at w =
        extends_then more_named (λ named. InText named.at) more_source (λ source. InText source.at) (name_at at) (name_at (more at)) _ _ (name_more at w)
        (λ named v. extends_then (λ (seen : ReadToken). record seen { at = more seen.at }) (λ seen. InText seen.at) more_source (λ source. InText source.at) (token_at named.at) (token_at (more named.at)) _ _
        (token_more piece bound named.at v) (λ seen x. definition_on source named.name seen (is_create seen.sense) x))

  -- ---- words outside definitions

  named_more : (number : ℕ) (named : Named) (kind : ℕ → Known) (reply : Reply ℕ) → InText named.at → Place (named_as number named kind reply) (named_as number (more_named named) kind reply)
  named_more number named kind reply w = hosted_more piece bound more InText number named.at reply _ (λ x s. (refl, w))

  constant_more : (at : ParserState) → InText at → Place (constant_at at) (constant_at (more at))
  constant_more at w = hosted_more piece bound more InText at.count at (pop at.host) _
      (λ x s. extends_then more_named (λ named. InText named.at) more InText (name_at (record at { host = s })) (name_at (more (record at { host = s }))) _ _ (name_more (record at { host = s }) w) (λ named v. (refl, v)))

  variable_more : (at : ParserState) → InText at → Place (variable_at at) (variable_at (more at))
  variable_more at w = extends_then more_named (λ named. InText named.at) more InText (name_at at) (name_at (more at)) _ _ (name_more at w)
      (λ named v. named_more at.count named (λ address. known.Address address) (checked (variable named.at.host)) v)

  create_more : (at : ParserState) → InText at → Place (create_at at) (create_at (more at))
  create_more at w = extends_then more_named (λ named. InText named.at) more InText (name_at at) (name_at (more at)) _ _ (name_more at w)
      (λ named v. named_more at.count named (λ address. known.Address address) (checked (created named.at.host)) v)

  child_more : (o : Option DefiningWord) (at : ParserState) → InText at → Place (child_by o at) (child_by o (more at))
  child_more (Some one) at w = extends_then more_named (λ named. InText named.at) more InText (name_at at) (name_at (more at)) _ _ (name_more at w)
      (λ named v. named_more at.count named (child_of one.part) (checked (defined_by one.items named.at.host)) v)
  child_more None at w = refl

  ticked_more : (number : ℕ) (named : Named) (r : Result Ticked SourceCause) → IsOther r → InText named.at → Place (outside_ticked_as number named r) (outside_ticked_as number (more_named named) r)
  ticked_more number named (Err c) h w = h
  ticked_more number named (Ok one) h w = hosted_more piece bound more InText number named.at (token_put one named.at.host) _
      (λ token s. weighed_more piece bound number (tick_weight one token.1 - 2) (record named.at { host = s }) w)

  tick_more : (at : ParserState) → InText at → Place (outside_tick_at at) (outside_tick_at (more at))
  tick_more at w = extends_then more_named (λ named. InText named.at) more InText (spelled_at at) (spelled_at (more at)) _ _ (spelled_more piece bound at w)
      (λ named v. ticked_more at.count named (ticked_in named.at.words named.at.entries named.name) (found_other named.at.words (newest_value named.at.entries named.name) named.name) v)

  char_more : (at : ParserState) → InText at → Place (outside_char_at at) (outside_char_at (more at))
  char_more at w = extends_then more_named (λ named. InText named.at) more InText (spelled_at at) (spelled_at (more at)) _ _ (spelled_more piece bound at w)
      (λ named v. hosted_more piece bound more InText at.count named.at (push (first_byte named.name) named.at.host) _ (λ _ s. (refl, v)))

  split_more : (is_due : Bool) (at : ParserState) → InText at → Place (code_cells_at is_due at) (code_cells_at is_due (more at))
  split_more is_due at w = hosted_more piece bound more InText at.count at (code_cells is_due at.host) _ (λ _ s. (refl, w))

  module _ (n m : ℕ) (h : n ≤ m) (source : Source) where
    resumed_more : (sense : OutsideSense) (o p : ParseResult ParserState) → Place o p → SourceMore (o >>= resumed source sense) (p >>= resumed (more_source source) sense)
    resumed_more sense o p e = extends_then more InText more_source (λ source. InText source.at) o p _ _ e (λ at v. (refl, v))

    outside_more : (at : ParserState) (sense : OutsideSense) → InText at → SourceMore (outside_by n source at sense) (outside_by m (more_source source) (more at) sense)
    outside_more at outside.Begins w = definition_more n m h source at w
    outside_more at (outside.Acts item) w = resumed_more (outside.Acts item) _ _ (acted_more piece bound item at w)
    outside_more at outside.NamesConstant w = resumed_more outside.NamesConstant _ _ (constant_more at w)
    outside_more at outside.NamesVariable w = resumed_more outside.NamesVariable _ _ (variable_more at w)
    outside_more at outside.NamesAddress w = resumed_more outside.NamesAddress _ _ (create_more at w)
    outside_more at (outside.NamesChild number) w = resumed_more (outside.NamesChild number) _ _ (child_more (slice_get source.defining number) at w)
    outside_more at outside.Ticks w = resumed_more outside.Ticks _ _ (tick_more at w)
    outside_more at outside.Spells w = resumed_more outside.Spells _ _ (char_more at w)
    outside_more at outside.Splits w = resumed_more outside.Splits _ _ (split_more (is_due source.before) at w)
    outside_more at outside.Quoted w = quoted_more piece bound more_source (λ source. InText source.at) cause.OnlyInDefinition refl at w
    outside_more at outside.OutOfRange w = refl
    outside_more at outside.Unknown w = refl
    outside_more at outside.Forbidden w = refl

  -- ---- a source

  -- where a source comes to the end of the text, it is read on from there in the piece, with fuel for that
  abbrev pub ReadsOn : ℕ → ParseResult Source → ParseResult Source → Type 0
  ReadsOn left (Fine last) o = (k : ℕ) × ((left < k) × ((o ≡ read_at k (more_source last)) × ((last.at.rest ≡ []) × InText last.at)))
  ReadsOn left (Refused k c) o = is_no_main c ≡ false
  ReadsOn left Endless o = Unit {0}

  next_on : (left : ℕ) (o p : ParseResult Source) (h k : Source → ParseResult Source) → SourceMore o p → ((next : Source) → InText next.at → ReadsOn left (h next) (k (more_source next))) →
      ReadsOn left (o >>= h) (p >>= k)
  next_on left (Fine next) p h k e goes = subst (λ r. ReadsOn left (h next) (r >>= k)) (sym e.0) (goes next e.1)
  next_on left (Refused n c) p h k e goes = e
  next_on left Endless p h k e goes = tt

  module _ (left n m : ℕ) (room : left ≤ m) (source : Source) (h : n ≤ m)
      (goes : (next : Source) → InText next.at → ReadsOn left (read_at n next) (read_at m (more_source next))) where
    outside_on : (r s : Reading) → GoesOn bound piece (λ k. next_from k (10 ∷ piece)) r s →
        ReadsOn left (outside_of source.at r >>= read_by (read_at n) n source) (outside_of (more source.at) s >>= read_by (read_at m) m (more_source source))
    unfolding read_at
    outside_on (NoMore k) s e = (suc m, (omega (arith, room), (ap (λ r. outside_of (more source.at) r >>= read_by (read_at m) m (more_source source)) e.0, (refl, omega (arith, e.1)))))
    outside_on (Refuses k c) s e = read_cause c
    outside_on (Reads token k rest) s e =
        let place : ParserState = record source.at { rest = rest; count = k } in
        let sense : OutsideSense = outside_sense_in source.at.words source.at.entries (base_at source.at) token in
        subst (λ r. ReadsOn left (outside_of source.at (Reads token k rest) >>= read_by (read_at n) n source) (outside_of (more source.at) r >>= read_by (read_at m) m (more_source source))) (sym e.0)
        (next_on left (outside_by n source place sense) (outside_by m (more_source source) (more place) sense) (read_at n) (read_at m) (outside_more n m h source place sense e.1) goes)

  pub reads_on : (left n m : ℕ) → n + left ≤ m → (source : Source) → InText source.at → ReadsOn left (read_at n source) (read_at m (more_source source))
  unfolding read_at
  reads_on left zero m h source w = tt
  reads_on left (suc n) zero h source w = absurd (omega arith)
  reads_on left (suc n) (suc m) h source w =
      outside_on left n m (omega (arith, h)) source (omega (arith, h)) (λ next v. reads_on left n m (omega (arith, h)) next v) (next_from source.at.count source.at.rest)
      (next_from source.at.count (source.at.rest ++ 10 ∷ piece)) (next_goes bound piece source.at.count source.at.rest w)

-- behind a line feed reading goes on
skips_line : (n : ℕ) (source : Source) (piece : List ℕ) → source.at.rest ≡ [] →
    read_at n (record source { at = record source.at { rest = source.at.rest ++ 10 ∷ piece } }) ≡ read_at n (record source { at = record source.at { rest = piece } })
unfolding read_at
skips_line zero source piece e = refl
skips_line (suc n) source piece e = ap (λ rest. outside_of source.at (next_from source.at.count (rest ++ 10 ∷ piece)) >>= read_by (read_at n) n source) e

-- a text that is read to its end is read on in a piece
pub record ReadOn (text piece : List ℕ) (last : Source) : Type 0 where
  pub fuel : ℕ
  pub enough : length piece < fuel
  pub same : source_of_text (with_piece text piece) ≡ read_at fuel (record last { at = record last.at { rest = piece } })
  pub rest : last.at.rest ≡ []
  pub count : last.at.count ≤ length text

pub read_on : (text piece : List ℕ) (last : Source) → source_of_text text ≡ Fine last → ReadOn text piece last
read_on text piece last e =
    let longer : length (text ++ 10 ∷ piece) ≡ length text + suc (length piece) = length-append text (10 ∷ piece) in
    let goes = reads_on piece (length text) (suc (length piece)) (suc (length text)) (suc (length (text ++ 10 ∷ piece))) (omega (arith, longer)) (source_start vocabulary.Source text) (omega arith) in
    let on = subst (λ o. ReadsOn piece (length text) (suc (length piece)) o (source_of_text (with_piece text piece))) e goes in
    record {
      fuel = on.0;
      enough = omega (arith, on.1.0);
      same = on.1.1.0 ∙ skips_line on.0 last piece on.1.1.1.0;
      rest = on.1.1.1.0;
      count = omega (arith, on.1.1.1.1);
    }

-- no text is refused before its end for want of MAIN
pub refused_before : (text : List ℕ) (k : ℕ) (c : _) → source_of_text text ≡ Refused k c → is_no_main c ≡ false
refused_before text k c e =
    subst (λ o. ReadsOn [] (length text) 0 o (read_at (suc (length text)) (more_source [] (length text) (source_start vocabulary.Source text)))) e
    (reads_on [] (length text) 0 (suc (length text)) (suc (length text)) (omega arith) (source_start vocabulary.Source text) (omega arith))

-- nothing is left of a text that is read to its end
pub nothing_left : (n : ℕ) (source last : Source) → read_at n source ≡ Fine last → last.at.rest ≡ []
nothing_left n source last e =
    let bound : ℕ = source.at.count + length source.at.rest in
    let on = subst (λ o. ReadsOn [] bound 0 o (read_at n (more_source [] bound source))) e (reads_on [] bound 0 n n (omega arith) source (omega arith)) in
    on.1.1.1.0
