-- A place of a text behind which more stands on the next line: what is read there is the same, with that behind it.
use Rattle.std.proofs.Common.{◌≡◌, ℕ, zero, suc, ◌+◌, ◌≤◌, nat_le, nat_lt, Bool, true, false, List, [], ◌∷◌, ◌++◌, length, Option, Some, None, refl, sym, ap, subst, arith}
use Rattle.std.specs.Prelude.{Result, Ok, Err}
use Rattle.word_table.specs.declared.word.Vocabulary.{Vocabulary}
use Rattle.word_table.specs.declared.word.Word.{Word}
use Rattle.word_table.specs.declared.word.Word.TheVariants as word
use Rattle.word_table.specs.Table.{entry_of}
use Rattle.word_table.specs.Names.{word_in}
use Rattle.forth_program.specs.declared.item.TextKind.{TextKind}
use Rattle.forth_program.specs.Tree.{Node, Nodes, Literal, Plain, Call, Child, Text, Leave, Exit}
use Rattle.forth_program.specs.Form.{may_be_token}
use Rattle.dictionary_core.specs.Pairs.{newest_value}
use Rattle.forth_reader.specs.declared.refusal.ReadCause.{ReadCause}
use Rattle.forth_reader.specs.declared.refusal.ReadCause.TheVariants as read
use Rattle.forth_reader.specs.Reading.{Reading, NoMore, Reads, Refuses, next_from, name_from, StringReading, Quoted, Unquoted, string_from}
use Rattle.host_state.specs.declared.word.HostItem.{HostItem}
use Rattle.host_state.specs.declared.entry.Entry.{Entry}
use Rattle.host_state.specs.declared.entry.Known.{Known}
use Rattle.host_state.specs.declared.entry.Known.TheVariants as known
use Rattle.host_state.specs.declared.entry.Ticked.{Ticked}
use Rattle.host_state.specs.declared.entry.Ticked.TheVariants as ticked
use Rattle.host_state.specs.declared.refusal.HostRefusal.{HostRefusal}
use Rattle.host_state.specs.declared.refusal.HostRefusal.TheVariants as refusal
use Rattle.host_state.specs.HostCells.{Host, Reply, Gives, Refuses as Refused_by, pop}
use Rattle.host_state.specs.HostMemory.{checked}
use Rattle.host_state.specs.Naming.{item_done, tick, string_laid}
use Rattle.control_flow.specs.declared.refusal.SourceCause.{SourceCause}
use Rattle.control_flow.specs.declared.refusal.SourceCause.TheVariants as cause
use Rattle.control_flow.specs.declared.nest.Open.{Open}
use Rattle.control_flow.specs.declared.nest.Opening.{Opening}
use Rattle.control_flow.specs.declared.nest.Opening.TheVariants as opening
use Rattle.control_flow.specs.declared.nest.Ending.{Ending}
use Rattle.control_flow.specs.declared.nest.Ending.TheVariants as ending
use Rattle.control_flow.specs.declared.nest.Step.{Step}
use Rattle.control_flow.specs.declared.nest.Step.TheVariants.{Gone, Becomes, Holds, Unfit as Unfit_step}
use Rattle.control_flow.specs.declared.host_sense.HostSense.{HostSense}
use Rattle.control_flow.specs.declared.host_sense.HostSense.TheVariants as host_sense
use Rattle.control_flow.specs.declared.sense.Sense.{Sense}
use Rattle.control_flow.specs.declared.sense.Sense.TheVariants as sense
use Rattle.control_flow.specs.Nest.{with_open, open_of, step_of, stepped, ended_outside, nest_ended, is_inside_do}
use Rattle.control_flow.specs.Sense.{opening_word, ending_word}
use Rattle.control_flow.specs.Ticks.{known_ticked, word_ticked, ticked_in, tick_weight}
use Rattle.control_flow.specs.ParseResult.{ParserState, ParseResult, Fine, Refused, Endless, ◌>>=◌, source_cause, host_cause, hosted_as, most_weight, weighed_as, forbidden}
use Rattle.control_flow.specs.ReadTokens.{ReadToken, read_token_of, token_at, HostToken, host_token_of, host_token_at, Named, spelled_of, spelled_at, first_byte, Quotation, quotation_of, quotation_at}
use Rattle.control_flow.specs.Brackets.{acted_at, quoted_at, bracket_by, bracket_at}
use Rattle.control_flow.specs.Items.{One, Many, Body, Cases, nested, opened_at, ended_at, else_by, if_by, if_at, while_by, begin_by, begin_at, do_by, q_do_by, body_by, body_at, arms_by}
use Rattle.control_flow.specs.Items.{arms_at, structure_at, alone_as, alone, char_at, quoting_word, text_at, ticked_as, tick_at, literal_at, item_at, then_items, items_by, items_at}
use Rattle.control_flow.specs.Pieces.{is_no_main}
use Rattle.control_flow.proofs.Readings.{Leaves, string_leaves}
use Rattle.control_flow.proofs.ReadingOn.{GoesOn, name_goes, next_goes, TextGoesOn, string_goes}

-- what is read of a text is read where more stands behind it too; the cause of a refusal is not that MAIN is missing
abbrev pub Extends : {A : Type 0} → (A → A) → (A → Type 0) → ParseResult A → ParseResult A → Type 0
Extends more P (Fine x) o = (o ≡ Fine (more x)) × P x
Extends more P (Refused k c) o = is_no_main c ≡ false
Extends more P Endless o = Unit {0}

pub extends_then : {A B : Type 0} (f : A → A) (P : A → Type 0) (g : B → B) (Q : B → Type 0) (o p : ParseResult A) (h k : A → ParseResult B) →
    Extends f P o p → ((x : A) → P x → Extends g Q (h x) (k (f x))) → Extends g Q (o >>= h) (p >>= k)
extends_then f P g Q (Fine x) p h k e next = subst (λ r. Extends g Q (h x) (r >>= k)) (sym e.0) (next x e.1)
extends_then f P g Q (Refused n c) p h k e next = e
extends_then f P g Q Endless p h k e next = tt

pub read_cause : (c : ReadCause) → is_no_main (source_cause c) ≡ false
read_cause read.NotText = refl
read_cause read.NameTooLong = refl
read_cause read.OpenComment = refl
read_cause read.OpenString = refl

host_refusal : (c : HostRefusal) → is_no_main (host_cause c) ≡ false
host_refusal refusal.NeedsName = refl
host_refusal refusal.HostUnderflow = refl
host_refusal refusal.BadSplit = refl
host_refusal refusal.HostOverflow = refl
host_refusal refusal.DataFull = refl

-- an answer whose refusal is not for want of MAIN
abbrev pub IsOther : {A : Type 0} → Result A SourceCause → Type 0
IsOther (Ok x) = Unit {0}
IsOther (Err c) = is_no_main c ≡ false

open_other : (o : Open) (nest : List Open) (t : Bool) → IsOther (elim t as (λ t. Result (List Open) SourceCause) [ true ↦ Ok (o ∷ nest) | false ↦ Err cause.TooDeep ])
open_other o nest true = tt
open_other o nest false = refl

stepped_other : (s : Step) (o : Open) (nest : List Open) → IsOther (stepped s o nest)
stepped_other Gone o nest = tt
stepped_other (Becomes next) o nest = tt
stepped_other (Holds inner) o nest = open_other inner (o ∷ nest) (nat_lt (length (o ∷ nest)) 16)
stepped_other Unfit_step o nest = refl

outside_other : (e : Ending) → IsOther (ended_outside e)
outside_other ending.Semicolon = tt
outside_other e = refl

ended_other : (nest : List Open) (e : Ending) → IsOther (nest_ended nest e)
ended_other [] e = outside_other e
ended_other (o ∷ nest) e = stepped_other (step_of o e) o nest

known_other : (entry : Entry) (k : Known) → IsOther (known_ticked entry k)
known_other entry (known.Defining number) = refl
known_other entry (known.Definition definition) = tt
known_other entry (known.Constant x) = tt
known_other entry (known.Address address) = tt
known_other entry (known.Child part address) = tt

word_on : (w : Word) (t : Bool) → IsOther (elim t as (λ t. Result Ticked SourceCause) [ true ↦ Ok (ticked.Word w) | false ↦ Err cause.NeedsName ])
word_on w true = tt
word_on w false = refl

word_other : (o : Option Word) → IsOther (word_ticked o)
word_other (Some w) = word_on w (may_be_token (Plain w))
word_other None = refl

pub found_other : (words : Vocabulary) (o : Option Entry) (name : List ℕ) →
    IsOther (elim o as (λ o. Result Ticked SourceCause) [ Some entry ↦ known_ticked entry entry.known | None ↦ word_ticked (word_in words name) ])
found_other words (Some entry) name = known_other entry entry.known
found_other words None name = word_other (word_in words name)

module _ (piece : List ℕ) (bound : ℕ) where
  -- a place with a piece more on the next line
  abbrev pub more_at : ParserState → ParserState
  more_at at = record at { rest = at.rest ++ 10 ∷ piece }

  abbrev pub Within : ParserState → Type 0
  Within at = at.count + length at.rest ≤ bound

  abbrev more_token : ReadToken → ReadToken
  more_token seen = record seen { at = more_at seen.at }

  abbrev pub more_host : HostToken → HostToken
  more_host seen = record seen { at = more_at seen.at }

  abbrev pub more_named : Named → Named
  more_named named = record named { at = more_at named.at }

  abbrev more_quotation : Quotation → Quotation
  more_quotation quotation = record quotation { at = more_at quotation.at }

  abbrev more_one : One → One
  more_one one = record one { at = more_at one.at }

  abbrev pub more_many : Many → Many
  more_many many = record many { at = more_at many.at }

  abbrev more_body : Body → Body
  more_body body = record body { at = more_at body.at }

  abbrev more_cases : Cases → Cases
  more_cases cases = record cases { at = more_at cases.at }

  -- a place, a token, a name, an item, items
  abbrev pub PlaceMore : ParseResult ParserState → ParseResult ParserState → Type 0
  PlaceMore o p = Extends more_at Within o p

  abbrev pub TokenMore : ParseResult ReadToken → ParseResult ReadToken → Type 0
  TokenMore o p = Extends more_token (λ seen. Within seen.at) o p

  abbrev HostMore : ParseResult HostToken → ParseResult HostToken → Type 0
  HostMore o p = Extends more_host (λ seen. Within seen.at) o p

  abbrev pub NamedMore : ParseResult Named → ParseResult Named → Type 0
  NamedMore o p = Extends more_named (λ named. Within named.at) o p

  abbrev QuotationMore : ParseResult Quotation → ParseResult Quotation → Type 0
  QuotationMore o p = Extends more_quotation (λ quotation. Within quotation.at) o p

  abbrev OneMore : ParseResult One → ParseResult One → Type 0
  OneMore o p = Extends more_one (λ one. Within one.at) o p

  abbrev pub ManyMore : ParseResult Many → ParseResult Many → Type 0
  ManyMore o p = Extends more_many (λ many. Within many.at) o p

  abbrev BodyMore : ParseResult Body → ParseResult Body → Type 0
  BodyMore o p = Extends more_body (λ body. Within body.at) o p

  abbrev CasesMore : ParseResult Cases → ParseResult Cases → Type 0
  CasesMore o p = Extends more_cases (λ cases. Within cases.at) o p

  -- ---- tokens

  token_on : (at : ParserState) (on : ℕ → Reading) (r s : Reading) → GoesOn bound piece on r s → TokenMore (read_token_of at r) (read_token_of (more_at at) s)
  token_on at on (NoMore k) s h = refl
  token_on at on (Refuses k c) s h = read_cause c
  token_on at on (Reads token k rest) s h = (ap (read_token_of (more_at at)) h.0, h.1)

  pub token_more : (at : ParserState) → Within at → TokenMore (token_at at) (token_at (more_at at))
  token_more at w = token_on at _ (next_from at.count at.rest) (next_from at.count (at.rest ++ 10 ∷ piece)) (next_goes bound piece at.count at.rest w)

  host_on : (at : ParserState) (on : ℕ → Reading) (r s : Reading) → GoesOn bound piece on r s → HostMore (host_token_of at r) (host_token_of (more_at at) s)
  host_on at on (NoMore k) s h = refl
  host_on at on (Refuses k c) s h = read_cause c
  host_on at on (Reads token k rest) s h = (ap (host_token_of (more_at at)) h.0, h.1)

  pub host_more : (at : ParserState) → Within at → HostMore (host_token_at at) (host_token_at (more_at at))
  host_more at w = host_on at _ (next_from at.count at.rest) (next_from at.count (at.rest ++ 10 ∷ piece)) (next_goes bound piece at.count at.rest w)

  spelled_on : (at : ParserState) (on : ℕ → Reading) (r s : Reading) → GoesOn bound piece on r s → NamedMore (spelled_of at r) (spelled_of (more_at at) s)
  spelled_on at on (NoMore k) s h = refl
  spelled_on at on (Refuses k c) s h = read_cause c
  spelled_on at on (Reads token k rest) s h = (ap (spelled_of (more_at at)) h.0, h.1)

  pub spelled_more : (at : ParserState) → Within at → NamedMore (spelled_at at) (spelled_at (more_at at))
  spelled_more at w = spelled_on at _ (name_from at.count at.rest) (name_from at.count (at.rest ++ 10 ∷ piece)) (name_goes bound piece at.count at.rest w)

  quotation_on : (at : ParserState) (r s : StringReading) → Leaves (length at.rest) r → TextGoesOn bound piece r s → Within at → QuotationMore (quotation_of at r) (quotation_of (more_at at) s)
  quotation_on at (Quoted text rest) s l h w = (ap (quotation_of (more_at at)) h, omega (arith, l, w))
  quotation_on at (Unquoted c) s l h w = read_cause c

  quotation_more : (at : ParserState) → Within at → QuotationMore (quotation_at at) (quotation_at (more_at at))
  quotation_more at w = quotation_on at (string_from at.rest) (string_from (at.rest ++ 10 ∷ piece)) (string_leaves at.rest) (string_goes bound piece at.rest) w

  -- ---- weights, host words, structures

  weighed_on : (number weight : ℕ) (at : ParserState) (t : Bool) → Within at →
      PlaceMore (elim t [ true ↦ Fine (record at { weight = at.weight + weight }) | false ↦ Refused number cause.CodeFull ])
      (elim t [ true ↦ Fine (record (more_at at) { weight = at.weight + weight }) | false ↦ Refused number cause.CodeFull ])
  weighed_on number weight at true w = (refl, w)
  weighed_on number weight at false w = refl

  pub weighed_more : (number weight : ℕ) (at : ParserState) → Within at → PlaceMore (weighed_as number weight at) (weighed_as number weight (more_at at))
  weighed_more number weight at w = weighed_on number weight at (nat_le (at.weight + weight) (most_weight at)) w

  nested_more : (at : ParserState) (r : Result (List Open) SourceCause) → IsOther r → Within at → PlaceMore (nested at r) (nested (more_at at) r)
  nested_more at (Ok nest) h w = (refl, w)
  nested_more at (Err c) h w = h

  opened_more : (o : Opening) (at : ParserState) → Within at → PlaceMore (opened_at o at) (opened_at o (more_at at))
  opened_more o at w =
      extends_then more_at Within more_at Within (nested at (with_open (open_of o) at.nest)) (nested (more_at at) (with_open (open_of o) at.nest)) _ _
      (nested_more at (with_open (open_of o) at.nest) (open_other (open_of o) at.nest (nat_lt (length at.nest) 16)) w)
      (λ next v. weighed_more next.count (entry_of (opening_word o)).weight next v)

  ended_more : (e : Ending) (at : ParserState) → Within at → PlaceMore (ended_at e at) (ended_at e (more_at at))
  ended_more e at w =
      extends_then more_at Within more_at Within (nested at (nest_ended at.nest e)) (nested (more_at at) (nest_ended at.nest e)) _ _
      (nested_more at (nest_ended at.nest e) (ended_other at.nest e) w)
      (λ next v. weighed_more next.count (entry_of (ending_word e)).weight next v)

  pub hosted_more : {A B : Type 0} (g : B → B) (Q : B → Type 0) (number : ℕ) (at : ParserState) (reply : Reply A) (next : A → ParserState → ParseResult B) →
      ((x : A) (s : Host) → Extends g Q (next x (record at { host = s })) (next x (more_at (record at { host = s })))) → Extends g Q (hosted_as number at reply next) (hosted_as number (more_at at) reply next)
  hosted_more g Q number at (Gives x s) next h = h x s
  hosted_more g Q number at (Refused_by c) next h = host_refusal c

  -- ---- brackets

  pub acted_more : (item : HostItem) (at : ParserState) → Within at → PlaceMore (acted_at item at) (acted_at item (more_at at))
  acted_more item at w = hosted_more more_at Within at.count at (checked (item_done item at.host)) (λ _ after. Fine after) (λ _ s. (refl, w))

  pub quoted_more : {A : Type 0} (g : A → A) (Q : A → Type 0) (c : SourceCause) → is_no_main c ≡ false → (at : ParserState) → Within at → Extends g Q (quoted_at {A = A} c at) (quoted_at c (more_at at))
  quoted_more g Q c other at w = extends_then more_quotation (λ quotation. Within quotation.at) g Q (quotation_at at) (quotation_at (more_at at)) _ _ (quotation_more at w) (λ quotation v. other)

  module _ (go go2 : ParserState → ParseResult ParserState) (goes : (at : ParserState) → Within at → PlaceMore (go at) (go2 (more_at at))) where
    bracket_on : (at : ParserState) (s : HostSense) → Within at → PlaceMore (bracket_by go at s) (bracket_by go2 (more_at at) s)
    bracket_on at (host_sense.Acts item) w = extends_then more_at Within more_at Within (acted_at item at) (acted_at item (more_at at)) go go2 (acted_more item at w) goes
    bracket_on at host_sense.Closes w = (refl, w)
    bracket_on at host_sense.Ends w = refl
    bracket_on at host_sense.Does w = refl
    bracket_on at host_sense.Quoted w = quoted_more more_at Within cause.NotInDefinition refl at w
    bracket_on at host_sense.OutOfRange w = refl
    bracket_on at host_sense.Unknown w = refl
    bracket_on at host_sense.Forbidden w = refl

  pub bracket_more : (n m : ℕ) → n ≤ m → (at : ParserState) → Within at → PlaceMore (bracket_at n at) (bracket_at m (more_at at))
  unfolding bracket_at
  bracket_more zero m h at w = tt
  bracket_more (suc n) zero h at w = absurd (omega arith)
  bracket_more (suc n) (suc m) h at w =
      extends_then more_host (λ seen. Within seen.at) more_at Within (host_token_at at) (host_token_at (more_at at)) _ _ (host_more at w)
      (λ seen v. bracket_on (bracket_at n) (bracket_at m) (λ at w. bracket_more n m (omega arith) at w) seen.at seen.sense v)

  -- ---- items that are no structures

  alone_more : (number weight : ℕ) (node : Node) (at : ParserState) → Within at → OneMore (alone_as number weight node at) (alone_as number weight node (more_at at))
  alone_more number weight node at w =
      extends_then more_at Within more_one (λ one. Within one.at) (weighed_as number weight at) (weighed_as number weight (more_at at)) _ _ (weighed_more number weight at w) (λ after v. (refl, v))

  char_more : (at : ParserState) → Within at → OneMore (char_at at) (char_at (more_at at))
  char_more at w =
      extends_then more_named (λ named. Within named.at) more_one (λ one. Within one.at) (spelled_at at) (spelled_at (more_at at)) _ _ (spelled_more at w)
      (λ named v. alone_more at.count (entry_of word.BracketChar).weight (Literal (first_byte named.name)) named.at v)

  text_more : (kind : TextKind) (at : ParserState) → Within at → OneMore (text_at kind at) (text_at kind (more_at at))
  text_more kind at w =
      extends_then more_quotation (λ quotation. Within quotation.at) more_one (λ one. Within one.at) (quotation_at at) (quotation_at (more_at at)) _ _ (quotation_more at w)
      (λ quotation v. hosted_more more_one (λ one. Within one.at) quotation.at.count quotation.at (checked (string_laid quotation.text quotation.at.host)) _
      (λ address s. alone_more quotation.at.count (entry_of (quoting_word kind)).weight (Text kind address (length quotation.text)) (record quotation.at { host = s }) v))

  ticked_more : (number : ℕ) (named : Named) (r : Result Ticked SourceCause) → IsOther r → Within named.at → OneMore (ticked_as number named r) (ticked_as number (more_named named) r)
  ticked_more number named (Err c) h w = h
  ticked_more number named (Ok one) h w =
      hosted_more more_one (λ one. Within one.at) number named.at (tick one named.at.host) _
      (λ token s. alone_more number (tick_weight one token.1) (Literal token.0) (record named.at { host = s }) w)

  literal_more : (at : ParserState) → Within at → OneMore (literal_at at) (literal_at (more_at at))
  literal_more at w =
      hosted_more more_one (λ one. Within one.at) at.count at (pop at.host) _ (λ x s. alone_more at.count (entry_of word.Literal).weight (Literal x) (record at { host = s }) w)

  tick_more : (at : ParserState) → Within at → OneMore (tick_at at) (tick_at (more_at at))
  tick_more at w =
      extends_then more_named (λ named. Within named.at) more_one (λ one. Within one.at) (spelled_at at) (spelled_at (more_at at)) _ _ (spelled_more at w)
      (λ named v. ticked_more at.count named (ticked_in named.at.words named.at.entries named.name) (found_other named.at.words (newest_value named.at.entries named.name) named.name) v)

  -- ---- structures, where items go on

  module _ (go go2 : ParserState → ParseResult Many) (goes : (at : ParserState) → Within at → ManyMore (go at) (go2 (more_at at))) where
    many_then : {B : Type 0} (g : B → B) (Q : B → Type 0) (at : ParserState) (h k : Many → ParseResult B) → Within at → ((many : Many) → Within many.at → Extends g Q (h many) (k (more_many many))) →
        Extends g Q (go at >>= h) (go2 (more_at at) >>= k)
    many_then g Q at h k w next = extends_then more_many (λ many. Within many.at) g Q (go at) (go2 (more_at at)) h k (goes at w) next

    else_more : (first second : Nodes) (at : ParserState) (e : Ending) → Within at → OneMore (else_by first second at e) (else_by first second (more_at at) e)
    else_more first second at ending.Then w = (refl, w)
    else_more first second at e w = refl

    if_on : (first : Nodes) (at : ParserState) (e : Ending) → Within at → OneMore (if_by go first at e) (if_by go2 first (more_at at) e)
    if_on first at ending.Then w = (refl, w)
    if_on first at ending.Else w = many_then more_one (λ one. Within one.at) at _ _ w (λ second v. else_more first second.nodes second.at second.ending v)
    if_on first at e w = refl

    if_more : (at : ParserState) → Within at → OneMore (if_at go at) (if_at go2 (more_at at))
    if_more at w = many_then more_one (λ one. Within one.at) at _ _ w (λ first v. if_on first.nodes first.at first.ending v)

    while_more : (test body : Nodes) (at : ParserState) (e : Ending) → Within at → OneMore (while_by test body at e) (while_by test body (more_at at) e)
    while_more test body at ending.Repeat w = (refl, w)
    while_more test body at e w = refl

    begin_on : (first : Nodes) (at : ParserState) (e : Ending) → Within at → OneMore (begin_by go first at e) (begin_by go2 first (more_at at) e)
    begin_on first at ending.Until w = (refl, w)
    begin_on first at ending.Again w = (refl, w)
    begin_on first at ending.While w = many_then more_one (λ one. Within one.at) at _ _ w (λ body v. while_more first body.nodes body.at body.ending v)
    begin_on first at e w = refl

    begin_more : (at : ParserState) → Within at → OneMore (begin_at go at) (begin_at go2 (more_at at))
    begin_more at w = many_then more_one (λ one. Within one.at) at _ _ w (λ first v. begin_on first.nodes first.at first.ending v)

    do_on : (body : Nodes) (at : ParserState) (e : Ending) → Within at → OneMore (do_by body at e) (do_by body (more_at at) e)
    do_on body at ending.Loop w = (refl, w)
    do_on body at ending.PlusLoop w = (refl, w)
    do_on body at e w = refl

    q_do_on : (body : Nodes) (at : ParserState) (e : Ending) → Within at → OneMore (q_do_by body at e) (q_do_by body (more_at at) e)
    q_do_on body at ending.Loop w = (refl, w)
    q_do_on body at ending.PlusLoop w = (refl, w)
    q_do_on body at e w = refl

    body_on : (nodes : Nodes) (at : ParserState) (e : Ending) → Within at → BodyMore (body_by nodes at e) (body_by nodes (more_at at) e)
    body_on nodes at ending.EndOf w = (refl, w)
    body_on nodes at e w = refl

    body_more : (at : ParserState) → Within at → BodyMore (body_at go at) (body_at go2 (more_at at))
    body_more at w = many_then more_body (λ body. Within body.at) at _ _ w (λ body v. body_on body.nodes body.at body.ending v)

    arms_on : (others others2 : ParserState → ParseResult Cases) → ((at : ParserState) → Within at → CasesMore (others at) (others2 (more_at at))) →
        (tests : Nodes) (at : ParserState) (e : Ending) → Within at → CasesMore (arms_by go others tests at e) (arms_by go2 others2 tests (more_at at) e)
    arms_on others others2 h tests at ending.Of w =
        extends_then more_body (λ body. Within body.at) more_cases (λ cases. Within cases.at) (body_at go at) (body_at go2 (more_at at)) _ _ (body_more at w)
        (λ body v. extends_then more_cases (λ cases. Within cases.at) more_cases (λ cases. Within cases.at) (others body.at) (others2 (more_at body.at)) _ _ (h body.at v) (λ cases x. (refl, x)))
    arms_on others others2 h tests at ending.EndCase w = (refl, w)
    arms_on others others2 h tests at e w = refl

    arms_more : (n m : ℕ) → n ≤ m → (at : ParserState) → Within at → CasesMore (arms_at go n at) (arms_at go2 m (more_at at))
    arms_more zero m h at w = tt
    arms_more (suc n) zero h at w = absurd (omega arith)
    arms_more (suc n) (suc m) h at w =
        many_then more_cases (λ cases. Within cases.at) at _ _ w (λ tests v. arms_on (arms_at go n) (arms_at go2 m) (λ at w. arms_more n m (omega arith) at w) tests.nodes tests.at tests.ending v)

    structure_more : (n m : ℕ) → n ≤ m → (o : Opening) (at : ParserState) → Within at → OneMore (structure_at go n o at) (structure_at go2 m o (more_at at))
    structure_more n m h opening.If at w = if_more at w
    structure_more n m h opening.Begin at w = begin_more at w
    structure_more n m h opening.Do at w = many_then more_one (λ one. Within one.at) at _ _ w (λ body v. do_on body.nodes body.at body.ending v)
    structure_more n m h opening.QDo at w = many_then more_one (λ one. Within one.at) at _ _ w (λ body v. q_do_on body.nodes body.at body.ending v)
    structure_more n m h opening.Case at w =
        extends_then more_cases (λ cases. Within cases.at) more_one (λ one. Within one.at) (arms_at go n at) (arms_at go2 m (more_at at)) _ _ (arms_more n m h at w) (λ cases v. (refl, v))

    -- ---- items

    leave_on : (at : ParserState) (d : Bool) → Within at →
        OneMore (elim d [ true ↦ alone (entry_of word.Leave).weight Leave at | false ↦ Refused at.count cause.BadNest ])
        (elim d [ true ↦ alone (entry_of word.Leave).weight Leave (more_at at) | false ↦ Refused at.count cause.BadNest ])
    leave_on at true w = alone_more at.count (entry_of word.Leave).weight Leave at w
    leave_on at false w = refl

    recurse_on : (at : ParserState) (does : Bool) → Within at →
        OneMore (elim does [ true ↦ forbidden at | false ↦ alone (entry_of word.Recurse).weight (Call at.definitions) at ])
        (elim does [ true ↦ forbidden (more_at at) | false ↦ alone (entry_of word.Recurse).weight (Call at.definitions) (more_at at) ])
    recurse_on at true w = refl
    recurse_on at false w = alone_more at.count (entry_of word.Recurse).weight (Call at.definitions) at w

    item_more : (n m : ℕ) → n ≤ m → (at : ParserState) (s : Sense) → Within at → OneMore (item_at go n at s) (item_at go2 m (more_at at) s)
    item_more n m h at (sense.Number x) w = alone_more at.count 2 (Literal x) at w
    item_more n m h at (sense.Plain p) w = alone_more at.count (entry_of p).weight (Plain p) at w
    item_more n m h at (sense.Calls d) w = alone_more at.count 1 (Call d) at w
    item_more n m h at (sense.Inherits part address) w = alone_more at.count 2 (Child part address) at w
    item_more n m h at sense.Recurses w = recurse_on at at.does w
    item_more n m h at (sense.Opens o) w =
        extends_then more_at Within more_one (λ one. Within one.at) (opened_at o at) (opened_at o (more_at at)) _ _ (opened_more o at w) (λ next v. structure_more n m h o next v)
    item_more n m h at (sense.Ends e) w = refl
    item_more n m h at sense.Leaves w = leave_on at (is_inside_do at.nest) w
    item_more n m h at sense.Exits w = alone_more at.count (entry_of word.Exit).weight Exit at w
    item_more n m h at sense.Spells w = char_more at w
    item_more n m h at (sense.Quotes kind) w = text_more kind at w
    item_more n m h at sense.Ticks w = tick_more at w
    item_more n m h at sense.Takes w = literal_more at w
    item_more n m h at sense.Brackets w = refl
    item_more n m h at sense.Creates w = refl
    item_more n m h at sense.Forbidden w = refl
    item_more n m h at sense.Unfit w = refl
    item_more n m h at sense.OutOfRange w = refl
    item_more n m h at sense.Unknown w = refl

    then_more : (o p : ParseResult One) → OneMore o p → ManyMore (then_items go o) (then_items go2 p)
    then_more o p e =
        extends_then more_one (λ one. Within one.at) more_many (λ many. Within many.at) o p _ _ e (λ one v. many_then more_many (λ many. Within many.at) one.at _ _ v (λ many x. (refl, x)))

    pub by_more : (n m : ℕ) → n ≤ m → (at : ParserState) (s : Sense) → Within at → ManyMore (items_by go n at s) (items_by go2 m (more_at at) s)
    by_more n m h at (sense.Ends e) w =
        extends_then more_at Within more_many (λ many. Within many.at) (ended_at e at) (ended_at e (more_at at)) _ _ (ended_more e at w) (λ after v. (refl, v))
    by_more n m h at sense.Brackets w =
        extends_then more_at Within more_many (λ many. Within many.at) (bracket_at n at) (bracket_at m (more_at at)) go go2 (bracket_more n m h at w) goes
    by_more n m h at (sense.Number x) w = then_more _ _ (item_more n m h at (sense.Number x) w)
    by_more n m h at (sense.Plain p) w = then_more _ _ (item_more n m h at (sense.Plain p) w)
    by_more n m h at (sense.Calls d) w = then_more _ _ (item_more n m h at (sense.Calls d) w)
    by_more n m h at (sense.Inherits part address) w = then_more _ _ (item_more n m h at (sense.Inherits part address) w)
    by_more n m h at sense.Recurses w = then_more _ _ (item_more n m h at sense.Recurses w)
    by_more n m h at (sense.Opens o) w = then_more _ _ (item_more n m h at (sense.Opens o) w)
    by_more n m h at sense.Leaves w = then_more _ _ (item_more n m h at sense.Leaves w)
    by_more n m h at sense.Exits w = then_more _ _ (item_more n m h at sense.Exits w)
    by_more n m h at sense.Spells w = then_more _ _ (item_more n m h at sense.Spells w)
    by_more n m h at (sense.Quotes kind) w = then_more _ _ (item_more n m h at (sense.Quotes kind) w)
    by_more n m h at sense.Ticks w = then_more _ _ (item_more n m h at sense.Ticks w)
    by_more n m h at sense.Takes w = then_more _ _ (item_more n m h at sense.Takes w)
    by_more n m h at sense.Creates w = refl
    by_more n m h at sense.Forbidden w = refl
    by_more n m h at sense.Unfit w = refl
    by_more n m h at sense.OutOfRange w = refl
    by_more n m h at sense.Unknown w = refl

  pub items_more : (n m : ℕ) → n ≤ m → (at : ParserState) → Within at → ManyMore (items_at n at) (items_at m (more_at at))
  unfolding items_at
  items_more zero m h at w = tt
  items_more (suc n) zero h at w = absurd (omega arith)
  items_more (suc n) (suc m) h at w =
      extends_then more_token (λ seen. Within seen.at) more_many (λ many. Within many.at) (token_at at) (token_at (more_at at)) _ _ (token_more at w)
      (λ seen v. by_more (items_at n) (items_at m) (λ at w. items_more n m (omega arith) at w) n m (omega arith) seen.at seen.sense v)

  -- the same behind the first token
  pub items_by_more : (n m : ℕ) → n ≤ m → (at : ParserState) (s : Sense) → Within at → ManyMore (items_by (items_at n) n at s) (items_by (items_at m) m (more_at at) s)
  items_by_more n m h at s w = by_more (items_at n) (items_at m) (λ at w. items_more n m h at w) n m h at s w
