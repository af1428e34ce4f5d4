-- What holds of places at which host words act, texts are laid and names are ticked.
use Rattle.std.proofs.Common.{◌≡◌, ℕ, zero, suc, ◌+◌, ◌-◌, ◌/◌, ◌<◌, ◌≤◌, nat_lt, Bool, true, false, List, [], ◌∷◌, ◌++◌, length, Option, Some, None, refl, sym, ap, ◌∙◌, subst, arith, length-append, ltb-true}
use Rattle.std.specs.List.{list_all}
use Rattle.std.proofs.lemmas.Bool.{and_from, and_parts, lt-ltb}
use Rattle.console_ports.specs.DataSpace.{IsDataStart}
use Rattle.forth_program.specs.Tree.{Node, Literal, Plain, Call, Child}
use Rattle.forth_program.specs.Weight.{token_weight}
use Rattle.forth_reader.specs.Reading.{Reading, NoMore, Reads, Refuses, next_from, StringReading, Quoted, Unquoted, string_from}
use Rattle.host_state.specs.declared.entry.Ticked.{Ticked}
use Rattle.host_state.specs.declared.word.HostItem.{HostItem}
use Rattle.host_state.specs.HostCells.{Host, Reply, Gives, Refuses}
use Rattle.host_state.specs.HostMemory.{checked}
use Rattle.host_state.specs.Naming.{item_done, ticked_by, tick}
use Rattle.host_state.specs.Tokens.{is_same, token_from, token_of}
use Rattle.host_state.specs.Kept.{IsSettled, After, HostKeeps, HostWordsKeep}
use Rattle.control_flow.specs.declared.refusal.SourceCause.{SourceCause}
use Rattle.control_flow.specs.declared.refusal.SourceCause.TheVariants as cause
use Rattle.control_flow.specs.declared.host_sense.HostSense.{HostSense}
use Rattle.control_flow.specs.declared.host_sense.HostSense.TheVariants.{Acts, Closes, Ends, Does, Quoted as QuotedText, OutOfRange, Unknown, Forbidden}
use Rattle.control_flow.specs.ParseResult.{ParserState, ParseResult, Fine, hosted_as, most_weight}
use Rattle.control_flow.specs.Ticks.{ticked_node, token_nodes, tokens_weight, tick_weight}
use Rattle.control_flow.specs.ReadTokens.{HostToken, host_token_of, host_token_at, Quotation, quotation_of, quotation_at}
use Rattle.control_flow.specs.Brackets.{acted_at, quoted_at, bracket_by, bracket_at}
use Rattle.control_flow.specs.SourceLaw.{is_read_token}
use Rattle.control_flow.proofs.Readings.{Passes, next_passes, Leaves, string_leaves}
use Rattle.control_flow.proofs.Senses.{AllBelow, below_wider}
use Rattle.control_flow.proofs.Moves.{Good, good_then, good_weaker, Moves}

-- what the tokens of a place weigh
abbrev pub ticks : ParserState → ℕ
ticks at = tokens_weight (token_nodes at.host.tokens)

-- ---- what host words act on: data space begins where it may, and is settled

pub record IsSound (s : Host) : Type 0 where
  pub start : IsDataStart s.space.data_start
  pub settled : IsSettled s.space.data_start s.tokens s

-- what host words leave: data space where it was, with the same tokens
abbrev pub Leads : Host → Host → Type 0
Leads from s = IsSettled from.space.data_start from.tokens s

pub sound_after : (from s : Host) → IsSound from → Leads from s → IsSound s
sound_after from s sound h = record {
  start = subst IsDataStart (sym h.host.start) sound.start;
  settled = subst (λ tokens. IsSettled s.space.data_start tokens s) (sym h.host.ticked) (subst (λ d. IsSettled d from.tokens s) (sym h.host.start) h);
}

-- the weights are few at every data start
pub most_small : (d : ℕ) → IsDataStart d → d / 2 - 1696 ≤ 6304
most_small d start = omega (arith, start.at_most)

-- ---- what a place knows: names, tokens and data space are such that definitions have numbers below N

pub record Knows (N : ℕ) (at : ParserState) : Type 0 where
  pub others : AllBelow N at.entries
  pub ticked : list_all (is_read_token N) (token_nodes at.host.tokens) ≡ true
  pub sound : IsSound at.host
  pub few : length at.host.tokens ≤ at.weight
  pub light : at.weight ≤ most_weight at

-- and the definition that is read too
pub record Bounded (N : ℕ) (at : ParserState) : Type 0 where
  pub own : at.definitions < N
  pub knows : Knows N at

pub still_bounded : (N : ℕ) (from at : ParserState) → at.definitions ≡ from.definitions → Bounded N from → Knows N at → Bounded N at
still_bounded N from at d b k = record { own = subst (λ n. n < N) (sym d) b.own; knows = k }

token_wider : (N M : ℕ) → N ≤ M → (node : Node) → is_read_token N node ≡ true → is_read_token M node ≡ true
token_wider N M h (Call definition) e = lt-ltb definition M (omega (arith, ltb-true definition N e))
token_wider N M h (Child definition address) e =
    let both = and_parts (nat_lt definition N) (nat_lt address 0x8000) e in
    and_from _ _ (lt-ltb definition M (omega (arith, ltb-true definition N both.0))) both.1
token_wider N M h (Literal value) e = e
token_wider N M h (Plain word) e = e
token_wider N M h node e = absurd cc

tokens_wider : (N M : ℕ) → N ≤ M → (nodes : List Node) → list_all (is_read_token N) nodes ≡ true → list_all (is_read_token M) nodes ≡ true
tokens_wider N M h [] e = refl
tokens_wider N M h (node ∷ nodes) e =
    let both = and_parts (is_read_token N node) (list_all (is_read_token N) nodes) e in
    and_from _ _ (token_wider N M h node both.0) (tokens_wider N M h nodes both.1)

pub knows_wider : (N M : ℕ) (at : ParserState) → N ≤ M → Knows N at → Knows M at
knows_wider N M at h k = record {
  others = below_wider N M at.entries h k.others;
  ticked = tokens_wider N M h (token_nodes at.host.tokens) k.ticked;
  sound = k.sound;
  few = k.few;
  light = k.light;
}

-- a place with the same names and the same for host words, which weighs as much or more
pub still_knows : (N : ℕ) (from at : ParserState) → at.entries ≡ from.entries → at.host ≡ from.host → from.weight ≤ at.weight → at.weight ≤ most_weight at → Knows N from → Knows N at
still_knows N from at e s w l k = record {
  others = subst (AllBelow N) (sym e) k.others;
  ticked = ap (λ (h : Host). list_all (is_read_token N) (token_nodes h.tokens)) s ∙ k.ticked;
  sound = subst IsSound (sym s) k.sound;
  few = omega (arith, ap (λ (h : Host). length h.tokens) s, k.few, w);
  light = l;
}

pub moved_knows : (N w : ℕ) (from at : ParserState) → Moves w from at → Knows N from → Knows N at
moved_knows N w from at m k = still_knows N from at m.entries m.host (omega (arith, m.weight)) m.light k

pub moved_ticks : (w : ℕ) (from at : ParserState) → Moves w from at → ticks at ≡ ticks from
moved_ticks w from at m = ap (λ (h : Host). tokens_weight (token_nodes h.tokens)) m.host

-- ---- a place was passed, and names, definitions, the vocabulary, structures and weights stayed as they were

pub record Goes (from at : ParserState) : Type 0 where
  pub entries : at.entries ≡ from.entries
  pub definitions : at.definitions ≡ from.definitions
  pub words : at.words ≡ from.words
  pub nest : at.nest ≡ from.nest
  pub weight : at.weight ≡ from.weight
  pub count : from.count ≤ at.count
  pub left : length at.rest ≤ length from.rest

pub goes_then : (from mid at : ParserState) → Goes from mid → Goes mid at → Goes from at
goes_then from mid at g h = record {
  entries = h.entries ∙ g.entries;
  definitions = h.definitions ∙ g.definitions;
  words = h.words ∙ g.words;
  nest = h.nest ∙ g.nest;
  weight = h.weight ∙ g.weight;
  count = omega (arith, g.count, h.count);
  left = omega (arith, g.left, h.left);
}

-- and what is known stays known, with the same tokens
pub record Keeps (from at : ParserState) : Type 0 where
  pub knows : (N : ℕ) → Knows N from → Knows N at
  pub ticked : (N : ℕ) → Knows N from → at.host.tokens ≡ from.host.tokens

pub keeps_then : (from mid at : ParserState) → Keeps from mid → Keeps mid at → Keeps from at
keeps_then from mid at g h = record {
  knows = λ N k. h.knows N (g.knows N k);
  ticked = λ N k. h.ticked N (g.knows N k) ∙ g.ticked N k;
}

-- the same at a place that is read on
pub reads_on : (from : ParserState) (rest : List ℕ) (count : ℕ) → Keeps from (record from { rest = rest; count = count })
reads_on from rest count = record {
  knows = λ N k. record { others = k.others; ticked = k.ticked; sound = k.sound; few = k.few; light = k.light };
  ticked = λ N k. refl;
}

-- a token was read, which takes a byte at least
pub record Passed (from at : ParserState) : Type 0 where
  pub goes : Goes from at
  pub keeps : Keeps from at
  pub count : from.count < at.count
  pub left : length at.rest < length from.rest

-- ---- what host words do

pub good_hosted : {A B : Type 0} (P : A → Host → Type 0) (Q : B → Type 0) (number : ℕ) (at : ParserState) (reply : Reply A) (next : A → ParserState → ParseResult B) →
    After P reply → ((x : A) (s : Host) → P x s → Good Q (next x (record at { host = s }))) → Good Q (hosted_as number at reply next)
good_hosted P Q number at (Gives x s) next p h = h x s p
good_hosted P Q number at (Refuses c) next p h = tt

-- what follows behind each word, where a premise holds
pub after_if : {A : Type 0} (C : Type 0) (P : A → Host → Type 0) (reply : Reply A) → (C → After P reply) → After (λ x s. C → P x s) reply
after_if C P (Gives x s) h = h
after_if C P (Refuses c) h = tt

-- the tokens of a place, with other data space that is settled
pub hosted_knows : (N : ℕ) (from : ParserState) (s : Host) → Leads from.host s → Knows N from → Knows N (record from { host = s })
hosted_knows N from s settled k = record {
  others = k.others;
  ticked = ap (λ tokens. list_all (is_read_token N) (token_nodes tokens)) settled.host.ticked ∙ k.ticked;
  sound = sound_after from.host s k.sound settled;
  few = omega (arith, ap (λ (tokens : List Ticked). length tokens) settled.host.ticked, k.few);
  light = subst (λ d. from.weight ≤ d / 2 - 1696) (sym settled.host.start) k.light;
}

-- settled data space stays so
abbrev pub Settles : ParserState → Host → Type 0
Settles from s = IsSound from.host → Leads from.host s

pub settles_keeps : (from : ParserState) (s : Host) → Settles from s → Keeps from (record from { host = s })
settles_keeps from s h = record {
  knows = λ N k. hosted_knows N from s (h k.sound) k;
  ticked = λ N k. (h k.sound).host.ticked;
}

pub same_goes : (from : ParserState) (s : Host) → Goes from (record from { host = s })
same_goes from s = record { entries = refl; definitions = refl; words = refl; nest = refl; weight = refl; count = omega arith; left = omega arith }

module _ (keep : HostWordsKeep) where
  pub keeps_of : (from : Host) → IsSound from → HostKeeps from.space.data_start from.tokens from
  keeps_of from sound = keep from.space.data_start from.tokens from sound.start.is_even sound.start.at_most sound.settled

  -- ---- brackets

  pub record ActedRead (from at : ParserState) : Type 0 where
    pub goes : Goes from at
    pub keeps : Keeps from at

  pub acted_read : (item : HostItem) (from : ParserState) → Good (ActedRead from) (acted_at item from)
  acted_read item from =
      good_hosted (λ _ s. Settles from s) (ActedRead from) from.count from (checked (item_done item from.host)) (λ _ after. Fine after)
      (after_if (IsSound from.host) (λ _ s. Leads from.host s) (checked (item_done item from.host)) (λ sound. (keeps_of from.host sound).items item))
      (λ _ s h. record { goes = same_goes from s; keeps = settles_keeps from s h })

  pub record HostTokenRead (from : ParserState) (seen : HostToken) : Type 0 where
    pub passed : Passed from seen.at

  host_token_on : (from : ParserState) (reading : Reading) → Passes from.count (length from.rest) reading → Good (HostTokenRead from) (host_token_of from reading)
  host_token_on from (NoMore k) h = tt
  host_token_on from (Refuses k c) h = tt
  host_token_on from (Reads token k rest) h = record {
    passed = record {
      goes = record { entries = refl; definitions = refl; words = refl; nest = refl; weight = refl; count = omega (arith, h.0); left = omega (arith, h.1) };
      keeps = reads_on from rest k;
      count = h.0;
      left = h.1;
    };
  }

  pub host_token_read : (from : ParserState) → Good (HostTokenRead from) (host_token_at from)
  host_token_read from = host_token_on from (next_from from.count from.rest) (next_passes from.count (length from.rest) from.count from.rest (omega arith) (omega arith))

  pub quoted_read : {A : Type 0} (P : A → Type 0) (c : SourceCause) (at : ParserState) → Good P (quoted_at c at)
  quoted_read P c at = good_then (λ _. Unit {0}) P (quotation_at at) _ (any_quotation (string_from at.rest)) (λ quotation _. tt)
    where
      any_quotation : (reading : StringReading) → Good (λ _. Unit {0}) (quotation_of at reading)
      any_quotation (Quoted text rest) = tt
      any_quotation (Unquoted c) = tt

  module _ (n : ℕ) (goes : (at : ParserState) → length at.rest < n → Good (Passed at) (bracket_at n at)) (from at : ParserState) (p : Passed from at) (h : length at.rest < n) where
    behind_passed : (mid end : ParserState) → Goes at mid → Keeps at mid → Passed mid end → Passed from end
    behind_passed mid end g k q = record {
      goes = goes_then from mid end (goes_then from at mid p.goes g) q.goes;
      keeps = keeps_then from mid end (keeps_then from at mid p.keeps k) q.keeps;
      count = omega (arith, p.count, g.count, q.count);
      left = omega (arith, p.left, g.left, q.left);
    }

    bracket_on : (s : HostSense) → Good (Passed from) (bracket_by (bracket_at n) at s)
    bracket_on (Acts item) =
        good_then (ActedRead at) (Passed from) (acted_at item at) _ (acted_read item at)
        (λ mid a. good_weaker (Passed mid) (Passed from) (λ end q. behind_passed mid end a.goes a.keeps q) (bracket_at n mid) (goes mid (omega (arith, a.goes.left, h))))
    bracket_on Closes = p
    bracket_on Ends = tt
    bracket_on Does = tt
    bracket_on QuotedText = quoted_read (Passed from) cause.NotInDefinition at
    bracket_on OutOfRange = tt
    bracket_on Unknown = tt
    bracket_on Forbidden = tt

  pub bracket_read : (n : ℕ) (from : ParserState) → length from.rest < n → Good (Passed from) (bracket_at n from)
  unfolding bracket_at
  bracket_read zero from h = absurd (omega arith)
  bracket_read (suc n) from h = good_then (HostTokenRead from) (Passed from) (host_token_at from) _ (host_token_read from)
      (λ seen t. bracket_on n (bracket_read n) from seen.at t.passed (omega (arith, t.passed.left, h)) seen.sense)

-- ---- the text of a string word

pub record QuotationRead (from : ParserState) (quotation : Quotation) : Type 0 where
  pub goes : Goes from quotation.at
  pub keeps : Keeps from quotation.at

quotation_on : (from : ParserState) (reading : StringReading) → Leaves (length from.rest) reading → Good (QuotationRead from) (quotation_of from reading)
quotation_on from (Quoted text rest) h = record {
  goes = record { entries = refl; definitions = refl; words = refl; nest = refl; weight = refl; count = omega arith; left = h };
  keeps = reads_on from rest from.count;
}
quotation_on from (Unquoted c) h = tt

pub quotation_read : (from : ParserState) → Good (QuotationRead from) (quotation_at from)
quotation_read from = quotation_on from (string_from from.rest) (string_leaves from.rest)

-- ---- ticks

found_on : (number k : ℕ) (rest : List Ticked) (t : Bool) (more : Option ℕ) → (more ≡ Some k → k < number + 1 + length rest) → elim t as (λ t. Option ℕ) [ true ↦ Some number | false ↦ more ] ≡ Some k → k < number + suc (length rest)
found_on number k rest true more h e =
    let is : number ≡ k = cc in
    omega (arith, is)
found_on number k rest false more h e = omega (arith, h e)

-- a token that is there has a number up to that of the last
token_below : (number k : ℕ) (one : Ticked) (tokens : List Ticked) → token_from number one tokens ≡ Some k → k < number + length tokens
token_below number k one [] e = absurd cc
token_below number k one (other ∷ tokens) e = found_on number k tokens (is_same one other) (token_from (number + 1) one tokens) (λ f. token_below (number + 1) k one tokens f) e

nodes_more : (tokens : List Ticked) (one : Ticked) (N : ℕ) → list_all (is_read_token N) (token_nodes tokens) ≡ true → is_read_token N (ticked_node one) ≡ true →
    list_all (is_read_token N) (token_nodes (tokens ++ one ∷ [])) ≡ true
nodes_more [] one N h k = and_from _ _ k refl
nodes_more (t ∷ ts) one N h k =
    let both = and_parts (is_read_token N (ticked_node t)) (list_all (is_read_token N) (token_nodes ts)) h in
    and_from _ _ both.0 (nodes_more ts one N both.1 k)

weight_more : (tokens : List Ticked) (one : Ticked) → tokens_weight (token_nodes (tokens ++ one ∷ [])) ≡ tokens_weight (token_nodes tokens) + token_weight (ticked_node one)
weight_more [] one = omega arith
weight_more (t ∷ ts) one = omega (arith, weight_more ts one)

node_weighs : (node : Node) → 0 < token_weight node
node_weighs (Literal value) = omega arith
node_weighs (Plain word) = omega arith
node_weighs (Call definition) = omega arith
node_weighs (Child part address) = omega arith
node_weighs node = omega arith

-- what a tick leaves: the same names, and the token with what it weighs more
pub record TickRead (from : ParserState) (one : Ticked) (token : ℕ × Bool) (s : Host) : Type 0 where
  pub number : token.0 ≤ length from.host.tokens + 1
  pub sound : IsSound from.host → IsSound s
  pub ticked : (N : ℕ) → list_all (is_read_token N) (token_nodes from.host.tokens) ≡ true → is_read_token N (ticked_node one) ≡ true → list_all (is_read_token N) (token_nodes s.tokens) ≡ true
  pub few : length s.tokens + 2 ≤ tick_weight one token.1 + length from.host.tokens
  pub weight : 2 + tokens_weight (token_nodes s.tokens) ≤ tick_weight one token.1 + tokens_weight (token_nodes from.host.tokens)

tick_on : (from : ParserState) (one : Ticked) (o : Option ℕ) → token_of one from.host.tokens ≡ o → After (TickRead from one) (ticked_by one o from.host)
tick_on from one (Some k) e = record {
  number = omega (arith, token_below 1 k one from.host.tokens e);
  sound = λ sound. sound;
  ticked = λ N all own. all;
  few = omega arith;
  weight = omega arith;
}
tick_on from one None e = record {
  number = omega arith;
  sound = λ sound. record {
    start = sound.start;
    settled = record {
      host = record { stack = sound.settled.host.stack; fits = sound.settled.host.fits; start = refl; ticked = refl };
      here = sound.settled.here;
    };
  };
  ticked = λ N all own. nodes_more from.host.tokens one N all own;
  few = omega (arith, length-append from.host.tokens (one ∷ []), node_weighs (ticked_node one));
  weight = omega (arith, weight_more from.host.tokens one);
}

pub tick_read : (from : ParserState) (one : Ticked) → After (TickRead from one) (tick one from.host)
tick_read from one = tick_on from one (token_of one from.host.tokens) refl
