-- What holds of items that are read.
use Rattle.std.proofs.Common.{◌≡◌, ℕ, zero, suc, ◌+◌, ◌<◌, ◌≤◌, Bool, true, false, ◌&&◌, List, ◌∷◌, length, refl, sym, ap, ◌∙◌, subst, arith}
use Rattle.std.specs.Prelude.{Result, Ok, Err}
use Rattle.std.specs.List.{list_all}
use Rattle.std.proofs.lemmas.Bool.{and_from, and_parts, lt-ltb}
use Rattle.word_table.specs.declared.word.Word.TheVariants as word
use Rattle.word_table.specs.Table.{entry_of}
use Rattle.forth_program.specs.declared.item.TextKind.{TextKind}
use Rattle.forth_program.specs.declared.item.TextKind.TheVariants as text
use Rattle.forth_program.specs.Tree.{Node, Nodes, Literal, Plain, Call, Child, Text, Do, QDo, Leave, Exit, Empty, Then}
use Rattle.forth_program.specs.Form.{everywhere, inside, in_arms, leaves_fit, leave_fits, arms_fit, is_not_go}
use Rattle.forth_program.specs.Weight.{text_weight, else_weight, turn_weight, node_weight, weight as weight_of, arms_weight}
use Rattle.forth_program.specs.SourceTokens.{node_tokens, tokens_of, arms_tokens}
use Rattle.forth_reader.specs.Reading.{Reading, NoMore, Reads, Refuses, next_from, name_from}
use Rattle.host_state.specs.declared.entry.Ticked.{Ticked}
use Rattle.host_state.specs.HostCells.{Host, pop}
use Rattle.host_state.specs.HostMemory.{checked}
use Rattle.host_state.specs.Naming.{tick, string_laid}
use Rattle.host_state.specs.Kept.{HostWordsKeep}
use Rattle.control_flow.specs.declared.refusal.SourceCause.{SourceCause}
use Rattle.control_flow.specs.declared.nest.Open.{Open}
use Rattle.control_flow.specs.declared.nest.Open.TheVariants as kind
use Rattle.control_flow.specs.declared.nest.Opening.{Opening}
use Rattle.control_flow.specs.declared.nest.Opening.TheVariants as opening
use Rattle.control_flow.specs.declared.nest.Ending.{Ending}
use Rattle.control_flow.specs.declared.nest.Ending.TheVariants as ending
use Rattle.control_flow.specs.declared.sense.Sense.{Sense}
use Rattle.control_flow.specs.declared.sense.Sense.TheVariants as sense
use Rattle.control_flow.specs.Nest.{nest_ended, is_inside_do, open_of}
use Rattle.control_flow.specs.Sense.{opening_word, ending_word}
use Rattle.control_flow.specs.Ticks.{ticked_in, token_nodes, tokens_weight, tick_weight}
use Rattle.control_flow.specs.ParseResult.{ParserState, ParseResult, ◌>>=◌, weighed_as, forbidden, unfit}
use Rattle.control_flow.specs.ReadTokens.{base_at, ReadToken, read_token_of, token_at, Named, spelled_of, spelled_at, first_byte, quotation_at}
use Rattle.control_flow.specs.Brackets.{bracket_at}
use Rattle.control_flow.specs.Items.{One, Many, Body, Cases, opened_at}
use Rattle.control_flow.specs.Items.{ended_at, else_by, if_by, if_at, while_by, begin_by, begin_at, do_by, do_at, q_do_by, q_do_at, body_by, body_at, arms_by}
use Rattle.control_flow.specs.Items.{arms_at, case_at, structure_at, alone_as, alone, char_at, quoting_word, text_at, ticked_as, tick_at, literal_at, item_at, then_items, items_by, items_at}
use Rattle.control_flow.specs.SourceLaw.{is_read, is_read_token}
use Rattle.control_flow.proofs.Readings.{Passes, name_passes, next_passes}
use Rattle.control_flow.proofs.Senses.{AllBelow, IsSense, sense_is, IsTicked, ticked_is, LacksGo, still_lacks, IsNotGo, plain_not_go, sense_not_go}
use Rattle.control_flow.proofs.Moves.{Good, good_then, good_weaker, Moves, weighs, opens, ends, gone, becomes, holds, same_loop, own_loop}
use Rattle.control_flow.proofs.HostFacts.{IsSound, Leads, most_small, ticks, Knows, Bounded, still_bounded, moved_knows, moved_ticks, Goes, goes_then, Keeps, keeps_then, reads_on, Passed}
use Rattle.control_flow.proofs.HostFacts.{good_hosted, after_if, settles_keeps, same_goes, keeps_of, bracket_read, QuotationRead, quotation_read, TickRead, tick_read}

-- a token was read as a name, which begins with a byte
pub record SpelledRead (from : ParserState) (named : Named) : Type 0 where
  pub passed : Passed from named.at
  pub byte : first_byte named.name < 65536

pub passed_on : (from : ParserState) (k : ℕ) (rest : List ℕ) → from.count < k → length rest < length from.rest → Passed from (record from { rest = rest; count = k })
passed_on from k rest c l = record {
  goes = record { entries = refl; definitions = refl; words = refl; nest = refl; weight = refl; count = omega (arith, c); left = omega (arith, l) };
  keeps = reads_on from rest k;
  count = c;
  left = l;
}

spelled_on : (from : ParserState) (reading : Reading) → Passes from.count (length from.rest) reading → Good (SpelledRead from) (spelled_of from reading)
spelled_on from (NoMore k) h = tt
spelled_on from (Refuses k c) h = tt
spelled_on from (Reads token k rest) h = record { passed = passed_on from k rest h.0 h.1; byte = h.2 }

pub spelled_read : (from : ParserState) → Good (SpelledRead from) (spelled_at from)
spelled_read from = spelled_on from (name_from from.count from.rest) (name_passes from.count (length from.rest) from.count from.rest (omega arith) (omega arith))

-- an item, from a place that knows names and tokens
pub record ItemKept (N : ℕ) (from : ParserState) (one : One) : Type 0 where
  pub read : (is_read N one.node && inside (is_read N) one.node) ≡ true
  pub knows : Knows N one.at
  pub weight : from.weight + node_weight one.node + ticks one.at ≤ one.at.weight + ticks from

-- an item, whose first token ends at a place
pub record ItemRead (from : ParserState) (one : One) : Type 0 where
  pub entries : one.at.entries ≡ from.entries
  pub definitions : one.at.definitions ≡ from.definitions
  pub words : one.at.words ≡ from.words
  pub nest : one.at.nest ≡ from.nest
  pub tokens : from.count + node_tokens one.node ≤ one.at.count + 1
  pub left : length one.at.rest ≤ length from.rest
  pub leaves : leave_fits (is_inside_do from.nest) one.node ≡ true
  pub no_go : LacksGo from.words → (is_not_go one.node && inside is_not_go one.node) ≡ true
  pub items : (N : ℕ) → Bounded N from → ItemKept N from one

-- items, from a place that knows names and tokens
pub record ItemsKept (N : ℕ) (from : ParserState) (many : Many) : Type 0 where
  pub read : everywhere (is_read N) many.nodes ≡ true
  pub knows : Knows N many.at
  pub weight : from.weight + weight_of many.nodes + (entry_of (ending_word many.ending)).weight + ticks many.at ≤ many.at.weight + ticks from

-- items, and the word that ends them
pub record ItemsRead (from : ParserState) (many : Many) : Type 0 where
  pub entries : many.at.entries ≡ from.entries
  pub definitions : many.at.definitions ≡ from.definitions
  pub words : many.at.words ≡ from.words
  pub nest : nest_ended from.nest many.ending ≡ Ok many.at.nest
  pub tokens : from.count + tokens_of many.nodes + 1 ≤ many.at.count
  pub left : length many.at.rest < length from.rest
  pub leaves : leaves_fit (is_inside_do from.nest) many.nodes ≡ true
  pub no_go : LacksGo from.words → everywhere is_not_go many.nodes ≡ true
  pub items : (N : ℕ) → Bounded N from → ItemsKept N from many

-- the same, from behind the token with which they begin
pub record ItemsBehind (from : ParserState) (many : Many) : Type 0 where
  pub entries : many.at.entries ≡ from.entries
  pub definitions : many.at.definitions ≡ from.definitions
  pub words : many.at.words ≡ from.words
  pub nest : nest_ended from.nest many.ending ≡ Ok many.at.nest
  pub tokens : from.count + tokens_of many.nodes ≤ many.at.count
  pub left : length many.at.rest ≤ length from.rest
  pub leaves : leaves_fit (is_inside_do from.nest) many.nodes ≡ true
  pub no_go : LacksGo from.words → everywhere is_not_go many.nodes ≡ true
  pub items : (N : ℕ) → Bounded N from → ItemsKept N from many

-- a token, which takes a byte at least
pub record TokenRead (from : ParserState) (seen : ReadToken) : Type 0 where
  pub passed : Passed from seen.at
  pub sense : (N : ℕ) → Knows N seen.at → IsSense N seen.sense
  pub no_go : LacksGo seen.at.words → IsNotGo seen.sense

seen_read : (from : ParserState) (reading : Reading) → Passes from.count (length from.rest) reading → Good (TokenRead from) (read_token_of from reading)
seen_read from (NoMore k) h = tt
seen_read from (Refuses k c) h = tt
seen_read from (Reads token k rest) h = record { passed = passed_on from k rest h.0 h.1; sense = λ N b. sense_is N from.words from.entries (base_at from) token b.others; no_go = sense_not_go from.words from.entries (base_at from) token }

pub token_read : (from : ParserState) → Good (TokenRead from) (token_at from)
token_read from = seen_read from (next_from from.count from.rest) (next_passes from.count (length from.rest) from.count from.rest (omega arith) (omega arith))

-- ---- an item that is no structure

-- what an item of this weight leaves known, before its weight is added
record IsReadyItem (N w : ℕ) (node : Node) (from mid : ParserState) : Type 0 where
  read : (is_read N node && inside (is_read N) node) ≡ true
  others : AllBelow N mid.entries
  ticked : list_all (is_read_token N) (token_nodes mid.host.tokens) ≡ true
  sound : IsSound mid.host
  few : length mid.host.tokens ≤ mid.weight + w
  cost : node_weight node + ticks mid ≤ w + ticks from

ready_kept : (N w : ℕ) (node : Node) (from mid end : ParserState) → mid.weight ≡ from.weight → Moves w mid end → IsReadyItem N w node from mid → ItemKept N from (record { node = node; at = end })
ready_kept N w node from mid end same m r = record {
  read = r.read;
  knows = record {
    others = subst (AllBelow N) (sym m.entries) r.others;
    ticked = ap (λ (h : Host). list_all (is_read_token N) (token_nodes h.tokens)) m.host ∙ r.ticked;
    sound = subst IsSound (sym m.host) r.sound;
    few = omega (arith, ap (λ (h : Host). length h.tokens) m.host, m.weight, r.few);
    light = m.light;
  };
  weight = omega (arith, moved_ticks w mid end m, m.weight, r.cost, same);
}

-- an item that ends where it is weighed
single_read : (number w : ℕ) (node : Node) (from mid : ParserState) → Goes from mid → node_tokens node ≡ 1 → leave_fits (is_inside_do from.nest) node ≡ true →
    (LacksGo from.words → (is_not_go node && inside is_not_go node) ≡ true) → ((N : ℕ) → Bounded N from → IsReadyItem N w node from mid) → Good (ItemRead from) (alone_as number w node mid)
single_read number w node from mid g t l o i = good_then (λ x. Moves w mid x × (x.nest ≡ mid.nest)) (ItemRead from) (weighed_as number w mid) _ (weighs number w mid)
    (λ x m. record {
      entries = m.0.entries ∙ g.entries;
      definitions = m.0.definitions ∙ g.definitions;
      words = m.0.words ∙ g.words;
      nest = m.1 ∙ g.nest;
      tokens = omega (arith, t, m.0.count, g.count);
      left = omega (arith, ap length m.0.rest, g.left);
      leaves = l;
      no_go = o;
      items = λ N b. ready_kept N w node from mid x g.weight m.0 (i N b);
    })

kept_ready : (N w : ℕ) (node : Node) (from mid : ParserState) → Keeps from mid → node_weight node ≡ w → (is_read N node && inside (is_read N) node) ≡ true → Knows N from → IsReadyItem N w node from mid
kept_ready N w node from mid p e i b =
    let k = p.knows N b in
    record {
      read = i;
      others = k.others;
      ticked = k.ticked;
      sound = k.sound;
      few = omega (arith, k.few);
      cost = omega (arith, e, ap (λ (tokens : List Ticked). tokens_weight (token_nodes tokens)) (p.ticked N b));
    }

-- one token that changes nothing else
alone_read : (w : ℕ) (node : Node) (from : ParserState) → node_weight node ≡ w → node_tokens node ≡ 1 → leave_fits (is_inside_do from.nest) node ≡ true →
    (LacksGo from.words → (is_not_go node && inside is_not_go node) ≡ true) → ((N : ℕ) → Bounded N from → (is_read N node && inside (is_read N) node) ≡ true) → Good (ItemRead from) (alone w node from)
alone_read w node from e t l o i =
    single_read from.count w node from from (record { entries = refl; definitions = refl; words = refl; nest = refl; weight = refl; count = omega arith; left = omega arith }) t l o
    (λ N b. kept_ready N w node from from (record { knows = λ N k. k; ticked = λ N k. refl }) e (i N b) b.knows)

char_read : (from : ParserState) → Good (ItemRead from) (char_at from)
char_read from = good_then (SpelledRead from) (ItemRead from) (spelled_at from) _ (spelled_read from)
    (λ named s. single_read from.count 2 (Literal (first_byte named.name)) from named.at s.passed.goes refl refl (λ g. refl)
    (λ N b. kept_ready N 2 (Literal (first_byte named.name)) from named.at s.passed.keeps refl (and_from _ _ (lt-ltb (first_byte named.name) 65536 s.byte) refl) b.knows))

-- a text is laid in data space
abbrev TextLaid : ParserState → ℕ → ℕ → Host → Type 0
TextLaid from size address s = Leads from.host s × (address + size ≤ 16384)

quoting_weight : (kind : TextKind) → text_weight kind ≡ (entry_of (quoting_word kind)).weight
quoting_weight text.Address = refl
quoting_weight text.Print = refl
quoting_weight text.Abort = refl

text_read : (keep : HostWordsKeep) (kind : TextKind) (from : ParserState) → Good (ItemRead from) (text_at kind from)
text_read keep kind from = good_then (QuotationRead from) (ItemRead from) (quotation_at from) _ (quotation_read from)
    (λ quotation q.
    let mid = quotation.at in
    let size = length quotation.text in
    good_hosted (λ address s. IsSound mid.host → TextLaid mid size address s) (ItemRead from) mid.count mid (checked (string_laid quotation.text mid.host)) _
    (after_if (IsSound mid.host) (TextLaid mid size) (checked (string_laid quotation.text mid.host)) (λ sound. (keeps_of keep mid.host sound).texts quotation.text))
    (λ address s h.
    let laid = record mid { host = s } in
    single_read mid.count (entry_of (quoting_word kind)).weight (Text kind address size) from laid (goes_then from mid laid q.goes (same_goes mid s)) refl refl (λ g. refl)
    (λ N b.
    let inside = (h (q.keeps.knows N b.knows).sound).1 in
    kept_ready N (entry_of (quoting_word kind)).weight (Text kind address size) from laid (keeps_then from mid laid q.keeps (settles_keeps mid s (λ sound. (h sound).0)))
    (quoting_weight kind) (and_from _ _ (and_from _ _ (lt-ltb address 32768 (omega (arith, inside))) (lt-ltb size 32768 (omega (arith, inside)))) refl) b.knows)))

-- LITERAL
literal_read : (keep : HostWordsKeep) (from : ParserState) → Good (ItemRead from) (literal_at from)
literal_read keep from =
    good_hosted (λ x s. IsSound from.host → Leads from.host s × (x < 65536)) (ItemRead from) from.count from (pop from.host) _
    (after_if (IsSound from.host) (λ x s. Leads from.host s × (x < 65536)) (pop from.host) (λ sound. (keeps_of keep from.host sound).taken))
    (λ x s h.
    let taken = record from { host = s } in
    single_read from.count 2 (Literal x) from taken (same_goes from s) refl refl (λ g. refl)
    (λ N b. kept_ready N 2 (Literal x) from taken (settles_keeps from s (λ sound. (h sound).0)) refl (and_from _ _ (lt-ltb x 65536 (h b.knows.sound).1) refl) b.knows))

-- [']
ticked_read : (from : ParserState) (named : Named) (found : Result Ticked SourceCause) → SpelledRead from named → ((N : ℕ) → Knows N from → IsTicked N found) → Good (ItemRead from) (ticked_as from.count named found)
ticked_read from named (Err c) s i = tt
ticked_read from named (Ok one) s i =
    good_hosted (TickRead named.at one) (ItemRead from) from.count named.at (tick one named.at.host) _ (tick_read named.at one)
    (λ token host h.
    let mid = record named.at { host = host } in
    single_read from.count (tick_weight one token.1) (Literal token.0) from mid (goes_then from named.at mid s.passed.goes (same_goes named.at host)) refl refl (λ g. refl)
    (λ N b.
    let k = s.passed.keeps.knows N b.knows in
    let same : ticks named.at ≡ ticks from = ap (λ (tokens : List Ticked). tokens_weight (token_nodes tokens)) (s.passed.keeps.ticked N b.knows) in
    record {
      read = and_from _ _ (lt-ltb token.0 65536 (omega (arith, h.number, k.few, k.light, most_small named.at.host.space.data_start k.sound.start))) refl;
      others = k.others;
      ticked = h.ticked N k.ticked (i N b.knows);
      sound = h.sound k.sound;
      few = omega (arith, h.few, k.few);
      cost = omega (arith, h.weight, same);
    }))

tick_item_read : (from : ParserState) → Good (ItemRead from) (tick_at from)
tick_item_read from = good_then (SpelledRead from) (ItemRead from) (spelled_at from) _ (spelled_read from)
    (λ named s. ticked_read from named (ticked_in named.at.words named.at.entries named.name) s (λ N k. ticked_is N named.at.words named.at.entries named.name (s.passed.keeps.knows N k).others))

else_small : (nodes : Nodes) → else_weight nodes ≤ 1
else_small Empty = omega arith
else_small (Then node rest) = omega arith

bounded_moved : (N w : ℕ) (from at : ParserState) → Moves w from at → Bounded N from → Bounded N at
bounded_moved N w from at m b = still_bounded N from at m.definitions b (moved_knows N w from at m b.knows)

pub bounded_past : (N : ℕ) (from : ParserState) (many : Many) → ItemsRead from many → Bounded N from → Bounded N many.at
bounded_past N from many r b = still_bounded N from many.at r.definitions b (r.items N b).knows

-- ---- structures; `from` is the place behind the word that opens one, and `at` the same with the structure open

module _ (keep : HostWordsKeep) (go : ParserState → ParseResult Many) (n : ℕ) (goes : (at : ParserState) → length at.rest < n → Good (ItemsRead at) (go at)) where
  module _ (from at : ParserState) (outer_is : length from.rest < n) where
    -- IF
    module _ (m : Moves 1 from at) (k : at.nest ≡ kind.If ∷ from.nest) where
      else_read : (first second : Nodes) (e : Ending) (mid end : ParserState) → ItemsRead at (record { nodes = first; ending = ending.Else; at = mid }) →
          ItemsRead mid (record { nodes = second; ending = e; at = end }) → Good (ItemRead from) (else_by first second end e)
      else_read first second ending.Then mid end r s =
          let inner : mid.nest ≡ kind.Else ∷ from.nest = becomes kind.If kind.Else ending.Else from.nest at.nest mid.nest k refl r.nest in
          record {
            entries = s.entries ∙ r.entries ∙ m.entries;
            definitions = s.definitions ∙ r.definitions ∙ m.definitions;
            words = s.words ∙ r.words ∙ m.words;
            nest = gone kind.Else ending.Then from.nest mid.nest end.nest inner refl s.nest;
            tokens = omega (arith, r.tokens, s.tokens, m.count);
            left = omega (arith, r.left, s.left, ap length m.rest);
            leaves = and_from _ _ (same_loop kind.If from.nest at.nest first k refl r.leaves) (same_loop kind.Else from.nest mid.nest second inner refl s.leaves);
            no_go = λ g. and_from _ _ (r.no_go (still_lacks m.words g)) (s.no_go (still_lacks (r.words ∙ m.words) g));
            items = λ N b.
                let c = bounded_moved N 1 from at m b in
                let x = r.items N c in
                let y = s.items N (bounded_past N at _ r c) in
                let w : at.weight + weight_of first + 1 + ticks mid ≤ mid.weight + ticks at = x.weight in
                let v : mid.weight + weight_of second + 0 + ticks end ≤ end.weight + ticks mid = y.weight in
                record { read = and_from _ _ x.read y.read; knows = y.knows; weight = omega (arith, w, v, m.weight, else_small second, moved_ticks 1 from at m) };
          }
      else_read first second e mid end r s = tt

      if_on : (first : Nodes) (e : Ending) (mid : ParserState) → ItemsRead at (record { nodes = first; ending = e; at = mid }) → Good (ItemRead from) (if_by go first mid e)
      if_on first ending.Then mid r =
          record {
            entries = r.entries ∙ m.entries;
            definitions = r.definitions ∙ m.definitions;
            words = r.words ∙ m.words;
            nest = gone kind.If ending.Then from.nest at.nest mid.nest k refl r.nest;
            tokens = omega (arith, r.tokens, m.count);
            left = omega (arith, r.left, ap length m.rest);
            leaves = and_from _ _ (same_loop kind.If from.nest at.nest first k refl r.leaves) refl;
            no_go = λ g. and_from _ _ (r.no_go (still_lacks m.words g)) refl;
            items = λ N b.
                let x = r.items N (bounded_moved N 1 from at m b) in
                let w : at.weight + weight_of first + 0 + ticks mid ≤ mid.weight + ticks at = x.weight in
                record { read = and_from _ _ x.read refl; knows = x.knows; weight = omega (arith, w, m.weight, moved_ticks 1 from at m) };
          }
      if_on first ending.Else mid r =
          good_then (ItemsRead mid) (ItemRead from) (go mid) _ (goes mid (omega (arith, r.left, ap length m.rest))) (λ second s. else_read first second.nodes second.ending mid second.at r s)
      if_on first e mid r = tt

      if_read : Good (ItemRead from) (if_at go at)
      if_read = good_then (ItemsRead at) (ItemRead from) (go at) _ (goes at (omega (arith, ap length m.rest))) (λ first r. if_on first.nodes first.ending first.at r)

    -- BEGIN
    module _ (m : Moves 0 from at) (k : at.nest ≡ kind.Begin ∷ from.nest) where
      while_read : (test body : Nodes) (e : Ending) (mid end : ParserState) → ItemsRead at (record { nodes = test; ending = ending.While; at = mid }) →
          ItemsRead mid (record { nodes = body; ending = e; at = end }) → Good (ItemRead from) (while_by test body end e)
      while_read test body ending.Repeat mid end r s =
          let inner : mid.nest ≡ kind.While ∷ from.nest = becomes kind.Begin kind.While ending.While from.nest at.nest mid.nest k refl r.nest in
          record {
            entries = s.entries ∙ r.entries ∙ m.entries;
            definitions = s.definitions ∙ r.definitions ∙ m.definitions;
            words = s.words ∙ r.words ∙ m.words;
            nest = gone kind.While ending.Repeat from.nest mid.nest end.nest inner refl s.nest;
            tokens = omega (arith, r.tokens, s.tokens, m.count);
            left = omega (arith, r.left, s.left, ap length m.rest);
            leaves = and_from _ _ (same_loop kind.Begin from.nest at.nest test k refl r.leaves) (same_loop kind.While from.nest mid.nest body inner refl s.leaves);
            no_go = λ g. and_from _ _ (r.no_go (still_lacks m.words g)) (s.no_go (still_lacks (r.words ∙ m.words) g));
            items = λ N b.
                let c = bounded_moved N 0 from at m b in
                let x = r.items N c in
                let y = s.items N (bounded_past N at _ r c) in
                let w : at.weight + weight_of test + 1 + ticks mid ≤ mid.weight + ticks at = x.weight in
                let v : mid.weight + weight_of body + 1 + ticks end ≤ end.weight + ticks mid = y.weight in
                record { read = and_from _ _ x.read y.read; knows = y.knows; weight = omega (arith, w, v, m.weight, moved_ticks 0 from at m) };
          }
      while_read test body e mid end r s = tt

      begin_on : (first : Nodes) (e : Ending) (mid : ParserState) → ItemsRead at (record { nodes = first; ending = e; at = mid }) → Good (ItemRead from) (begin_by go first mid e)
      begin_on first ending.Until mid r =
          record {
            entries = r.entries ∙ m.entries;
            definitions = r.definitions ∙ m.definitions;
            words = r.words ∙ m.words;
            nest = gone kind.Begin ending.Until from.nest at.nest mid.nest k refl r.nest;
            tokens = omega (arith, r.tokens, m.count);
            left = omega (arith, r.left, ap length m.rest);
            leaves = same_loop kind.Begin from.nest at.nest first k refl r.leaves;
            no_go = λ g. r.no_go (still_lacks m.words g);
            items = λ N b.
                let x = r.items N (bounded_moved N 0 from at m b) in
                let w : at.weight + weight_of first + 1 + ticks mid ≤ mid.weight + ticks at = x.weight in
                record { read = x.read; knows = x.knows; weight = omega (arith, w, m.weight, moved_ticks 0 from at m) };
          }
      begin_on first ending.Again mid r =
          record {
            entries = r.entries ∙ m.entries;
            definitions = r.definitions ∙ m.definitions;
            words = r.words ∙ m.words;
            nest = gone kind.Begin ending.Again from.nest at.nest mid.nest k refl r.nest;
            tokens = omega (arith, r.tokens, m.count);
            left = omega (arith, r.left, ap length m.rest);
            leaves = same_loop kind.Begin from.nest at.nest first k refl r.leaves;
            no_go = λ g. r.no_go (still_lacks m.words g);
            items = λ N b.
                let x = r.items N (bounded_moved N 0 from at m b) in
                let w : at.weight + weight_of first + 1 + ticks mid ≤ mid.weight + ticks at = x.weight in
                record { read = x.read; knows = x.knows; weight = omega (arith, w, m.weight, moved_ticks 0 from at m) };
          }
      begin_on first ending.While mid r =
          good_then (ItemsRead mid) (ItemRead from) (go mid) _ (goes mid (omega (arith, r.left, ap length m.rest))) (λ body s. while_read first body.nodes body.ending mid body.at r s)
      begin_on first e mid r = tt

      begin_read : Good (ItemRead from) (begin_at go at)
      begin_read = good_then (ItemsRead at) (ItemRead from) (go at) _ (goes at (omega (arith, ap length m.rest))) (λ first r. begin_on first.nodes first.ending first.at r)

    -- DO and ?DO
    module _ (w : ℕ) (m : Moves w from at) (k : at.nest ≡ kind.Do ∷ from.nest) where
      loop_read : (node : Node) (body : Nodes) (plus : Bool) (e : Ending) (end : ParserState) → ItemsRead at (record { nodes = body; ending = e; at = end }) → nest_ended at.nest e ≡ Ok from.nest →
          (entry_of (ending_word e)).weight ≡ turn_weight plus → node_weight node ≡ w + weight_of body + turn_weight plus → node_tokens node ≡ tokens_of body + 2 →
          leave_fits (is_inside_do from.nest) node ≡ leaves_fit true body → ((N : ℕ) → (is_read N node && inside (is_read N) node) ≡ everywhere (is_read N) body) →
          (is_not_go node && inside is_not_go node) ≡ everywhere is_not_go body → ItemRead from (record { node = node; at = end })
      loop_read node body plus e end r c v x t l i o =
          let is : Ok from.nest ≡ Ok end.nest = sym c ∙ r.nest in
          let same : from.nest ≡ end.nest = cc in
          record {
            entries = r.entries ∙ m.entries;
            definitions = r.definitions ∙ m.definitions;
            words = r.words ∙ m.words;
            nest = sym same;
            tokens = omega (arith, r.tokens, m.count, t);
            left = omega (arith, r.left, ap length m.rest);
            leaves = l ∙ own_loop from.nest at.nest body k r.leaves;
            no_go = λ g. o ∙ r.no_go (still_lacks m.words g);
            items = λ N b.
                let y = r.items N (bounded_moved N w from at m b) in
                record { read = i N ∙ y.read; knows = y.knows; weight = omega (arith, y.weight, m.weight, v, x, moved_ticks w from at m) };
          }

    module _ (m : Moves 8 from at) (k : at.nest ≡ kind.Do ∷ from.nest) where
      do_on : (body : Nodes) (e : Ending) (end : ParserState) → ItemsRead at (record { nodes = body; ending = e; at = end }) → Good (ItemRead from) (do_by body end e)
      do_on body ending.Loop end r = loop_read 8 m k (Do body false) body false ending.Loop end r (ap (λ l. nest_ended l ending.Loop) k) refl refl refl refl (λ N. refl) refl
      do_on body ending.PlusLoop end r = loop_read 8 m k (Do body true) body true ending.PlusLoop end r (ap (λ l. nest_ended l ending.PlusLoop) k) refl refl refl refl (λ N. refl) refl
      do_on body e end r = tt

      do_read : Good (ItemRead from) (do_at go at)
      do_read = good_then (ItemsRead at) (ItemRead from) (go at) _ (goes at (omega (arith, ap length m.rest))) (λ body r. do_on body.nodes body.ending body.at r)

    module _ (m : Moves 15 from at) (k : at.nest ≡ kind.Do ∷ from.nest) where
      q_do_on : (body : Nodes) (e : Ending) (end : ParserState) → ItemsRead at (record { nodes = body; ending = e; at = end }) → Good (ItemRead from) (q_do_by body end e)
      q_do_on body ending.Loop end r = loop_read 15 m k (QDo body false) body false ending.Loop end r (ap (λ l. nest_ended l ending.Loop) k) refl refl refl refl (λ N. refl) refl
      q_do_on body ending.PlusLoop end r = loop_read 15 m k (QDo body true) body true ending.PlusLoop end r (ap (λ l. nest_ended l ending.PlusLoop) k) refl refl refl refl (λ N. refl) refl
      q_do_on body e end r = tt

      q_do_read : Good (ItemRead from) (q_do_at go at)
      q_do_read = good_then (ItemsRead at) (ItemRead from) (go at) _ (goes at (omega (arith, ap length m.rest))) (λ body r. q_do_on body.nodes body.ending body.at r)

  -- the body of an arm
  abbrev BodyRead : ParserState → Body → Type 0
  BodyRead from body = ItemsRead from (record { nodes = body.nodes; ending = ending.EndOf; at = body.at })

  body_on : (from : ParserState) (nodes : Nodes) (e : Ending) (end : ParserState) → ItemsRead from (record { nodes = nodes; ending = e; at = end }) → Good (BodyRead from) (body_by nodes end e)
  body_on from nodes ending.EndOf end r = r
  body_on from nodes e end r = tt

  body_read : (from : ParserState) → length from.rest < n → Good (BodyRead from) (body_at go from)
  body_read from h = good_then (ItemsRead from) (BodyRead from) (go from) _ (goes from h) (λ body r. body_on from body.nodes body.ending body.at r)

  -- arms, and the items behind them, inside a CASE, from a place that knows names and tokens
  record CasesKept (N : ℕ) (from : ParserState) (cases : Cases) : Type 0 where
    read : (in_arms (is_read N) cases.arms && everywhere (is_read N) cases.rest) ≡ true
    knows : Knows N cases.at
    weight : from.weight + arms_weight cases.arms + weight_of cases.rest + 1 + ticks cases.at ≤ cases.at.weight + ticks from

  record CasesRead (outer : List Open) (from : ParserState) (cases : Cases) : Type 0 where
    entries : cases.at.entries ≡ from.entries
    definitions : cases.at.definitions ≡ from.definitions
    words : cases.at.words ≡ from.words
    nest : cases.at.nest ≡ outer
    tokens : from.count + arms_tokens cases.arms + tokens_of cases.rest + 1 ≤ cases.at.count
    left : length cases.at.rest < length from.rest
    leaves : (arms_fit (is_inside_do outer) cases.arms && leaves_fit (is_inside_do outer) cases.rest) ≡ true
    no_go : LacksGo from.words → (in_arms is_not_go cases.arms && everywhere is_not_go cases.rest) ≡ true
    items : (N : ℕ) → Bounded N from → CasesKept N from cases

  module _ (outer : List Open) where
    arms_on : (m : ℕ) (others : (at : ParserState) → at.nest ≡ kind.Case ∷ outer → length at.rest < n → length at.rest < m → Good (CasesRead outer at) (arms_at go m at)) →
        (from : ParserState) → from.nest ≡ kind.Case ∷ outer → length from.rest < n → length from.rest < suc m →
        (tests : Nodes) (e : Ending) (mid : ParserState) → ItemsRead from (record { nodes = tests; ending = e; at = mid }) → Good (CasesRead outer from) (arms_by go (arms_at go m) tests mid e)
    arms_on m others from k h i tests ending.EndCase mid r =
        record {
          entries = r.entries;
          definitions = r.definitions;
          words = r.words;
          nest = gone kind.Case ending.EndCase outer from.nest mid.nest k refl r.nest;
          tokens = omega (arith, r.tokens);
          left = r.left;
          leaves = same_loop kind.Case outer from.nest tests k refl r.leaves;
          no_go = r.no_go;
          items = λ N b.
              let x = r.items N b in
              let w : from.weight + weight_of tests + 1 + ticks mid ≤ mid.weight + ticks from = x.weight in
              record { read = x.read; knows = x.knows; weight = omega (arith, w) };
        }
    arms_on m others from k h i tests ending.Of mid r =
        let inner : mid.nest ≡ kind.Of ∷ kind.Case ∷ outer = holds outer from.nest mid.nest k r.nest in
        good_then (BodyRead mid) (CasesRead outer from) (body_at go mid) _ (body_read mid (omega (arith, r.left)))
        (λ body s.
        let closed : body.at.nest ≡ kind.Case ∷ outer = gone kind.Of ending.EndOf (kind.Case ∷ outer) mid.nest body.at.nest inner refl s.nest in
        good_then (CasesRead outer body.at) (CasesRead outer from) (arms_at go m body.at) _ (others body.at closed (omega (arith, r.left, s.left)) (omega (arith, r.left, s.left)))
        (λ cases c. record {
          entries = c.entries ∙ s.entries ∙ r.entries;
          definitions = c.definitions ∙ s.definitions ∙ r.definitions;
          words = c.words ∙ s.words ∙ r.words;
          nest = c.nest;
          tokens = omega (arith, c.tokens, s.tokens, r.tokens);
          left = omega (arith, c.left, s.left, r.left);
          leaves =
              let both = and_parts (arms_fit (is_inside_do outer) cases.arms) (leaves_fit (is_inside_do outer) cases.rest) c.leaves in
              let t : leaves_fit (is_inside_do outer) tests ≡ true = same_loop kind.Case outer from.nest tests k refl r.leaves in
              let u : leaves_fit (is_inside_do outer) body.nodes ≡ true = same_loop kind.Case outer (kind.Case ∷ outer) body.nodes refl refl (same_loop kind.Of (kind.Case ∷ outer) mid.nest body.nodes inner refl s.leaves) in
              and_from _ _ (and_from _ _ (and_from _ _ t u) both.0) both.1;
          no_go = λ g.
              let both = and_parts (in_arms is_not_go cases.arms) (everywhere is_not_go cases.rest) (c.no_go (still_lacks (s.words ∙ r.words) g)) in
              and_from _ _ (and_from _ _ (and_from _ _ (r.no_go g) (s.no_go (still_lacks r.words g))) both.0) both.1;
          items = λ N b.
              let x = r.items N b in
              let b2 = bounded_past N from _ r b in
              let y = s.items N b2 in
              let z = c.items N (bounded_past N mid _ s b2) in
              let both = and_parts (in_arms (is_read N) cases.arms) (everywhere (is_read N) cases.rest) z.read in
              let w : from.weight + weight_of tests + 4 + ticks mid ≤ mid.weight + ticks from = x.weight in
              let v : mid.weight + weight_of body.nodes + 1 + ticks body.at ≤ body.at.weight + ticks mid = y.weight in
              record {
                read = and_from _ _ (and_from _ _ (and_from _ _ x.read y.read) both.0) both.1;
                knows = z.knows;
                weight = omega (arith, z.weight, v, w);
              };
        }))
    arms_on m others from k h i tests e mid r = tt

    arms_read : (m : ℕ) (from : ParserState) → from.nest ≡ kind.Case ∷ outer → length from.rest < n → length from.rest < m → Good (CasesRead outer from) (arms_at go m from)
    arms_read zero from k h i = absurd (omega arith)
    arms_read (suc m) from k h i = good_then (ItemsRead from) (CasesRead outer from) (go from) _ (goes from h) (λ tests r. arms_on m (arms_read m) from k h i tests.nodes tests.ending tests.at r)

  case_read : (m : ℕ) (from at : ParserState) → Moves 0 from at → at.nest ≡ kind.Case ∷ from.nest → length from.rest < n → length from.rest < m → Good (ItemRead from) (case_at go m at)
  case_read m from at v k h i = good_then (CasesRead from.nest at) (ItemRead from) (arms_at go m at) _ (arms_read from.nest m at k (omega (arith, ap length v.rest)) (omega (arith, ap length v.rest)))
      (λ cases c. record {
        entries = c.entries ∙ v.entries;
        definitions = c.definitions ∙ v.definitions;
        words = c.words ∙ v.words;
        nest = c.nest;
        tokens = omega (arith, c.tokens, v.count);
        left = omega (arith, c.left, ap length v.rest);
        leaves = c.leaves;
        no_go = λ g. c.no_go (still_lacks v.words g);
        items = λ N b.
            let x = c.items N (bounded_moved N 0 from at v b) in
            record { read = x.read; knows = x.knows; weight = omega (arith, x.weight, v.weight, moved_ticks 0 from at v) };
      })

  structure_read : (m : ℕ) (o : Opening) (from at : ParserState) → Moves (entry_of (opening_word o)).weight from at → at.nest ≡ open_of o ∷ from.nest →
      length from.rest < n → length from.rest < m → Good (ItemRead from) (structure_at go m o at)
  structure_read m opening.If from at v k h i = if_read from at h v k
  structure_read m opening.Begin from at v k h i = begin_read from at h v k
  structure_read m opening.Do from at v k h i = do_read from at h v k
  structure_read m opening.QDo from at v k h i = q_do_read from at h v k
  structure_read m opening.Case from at v k h i = case_read m from at v k h i

  -- ---- items

  leave_on : (from : ParserState) (d : Bool) → is_inside_do from.nest ≡ d → Good (ItemRead from) (elim d [ true ↦ alone (entry_of word.Leave).weight Leave from | false ↦ unfit from ])
  leave_on from true e = alone_read 5 Leave from refl refl e (λ g. refl) (λ N b. refl)
  leave_on from false e = tt

  recurse_on : (from : ParserState) (does : Bool) → Good (ItemRead from) (elim does [ true ↦ forbidden from | false ↦ alone (entry_of word.Recurse).weight (Call from.definitions) from ])
  recurse_on from true = tt
  recurse_on from false = alone_read 1 (Call from.definitions) from refl refl refl (λ g. refl) (λ N b. and_from _ _ (lt-ltb from.definitions N b.own) refl)

  item_read : (m : ℕ) (from : ParserState) (s : Sense) → (LacksGo from.words → IsNotGo s) → ((N : ℕ) → Bounded N from → IsSense N s) → length from.rest < n → length from.rest < m → Good (ItemRead from) (item_at go m from s)
  item_read m from (sense.Number x) p q h i = alone_read 2 (Literal x) from refl refl refl (λ g. refl) (λ N b. and_from _ _ (lt-ltb x 65536 (q N b)) refl)
  item_read m from (sense.Plain w) p q h i = alone_read (entry_of w).weight (Plain w) from refl refl refl (λ g. and_from _ _ (plain_not_go w (p g)) refl) (λ N b. and_from _ _ (q N b) refl)
  item_read m from (sense.Calls d) p q h i = alone_read 1 (Call d) from refl refl refl (λ g. refl) (λ N b. and_from _ _ (lt-ltb d N (q N b)) refl)
  item_read m from (sense.Inherits d a) p q h i =
      alone_read 2 (Child d a) from refl refl refl (λ g. refl) (λ N b. and_from _ _ (and_from _ _ (lt-ltb d N (q N b).0) (lt-ltb a 32768 (q N b).1)) refl)
  item_read m from sense.Recurses p q h i = recurse_on from from.does
  item_read m from (sense.Opens o) p q h i =
      good_then (λ x. Moves (entry_of (opening_word o)).weight from x × (x.nest ≡ open_of o ∷ from.nest)) (ItemRead from) (opened_at o from) _ (opens o from) (λ at v. structure_read m o from at v.0 v.1 h i)
  item_read m from (sense.Ends e) p q h i = tt
  item_read m from sense.Leaves p q h i = leave_on from (is_inside_do from.nest) refl
  item_read m from sense.Exits p q h i = alone_read 1 Exit from refl refl refl (λ g. refl) (λ N b. refl)
  item_read m from sense.Spells p q h i = char_read from
  item_read m from (sense.Quotes kind) p q h i = text_read keep kind from
  item_read m from sense.Ticks p q h i = tick_item_read from
  item_read m from sense.Takes p q h i = literal_read keep from
  item_read m from sense.Brackets p q h i = tt
  item_read m from sense.Creates p q h i = tt
  item_read m from sense.Forbidden p q h i = tt
  item_read m from sense.Unfit p q h i = tt
  item_read m from sense.OutOfRange p q h i = tt
  item_read m from sense.Unknown p q h i = tt

  -- ---- items that begin with a token of a sense, at a place

  module _ (from : ParserState) (h : length from.rest < n) where
    then_read : (o : ParseResult One) → Good (ItemRead from) o → Good (ItemsBehind from) (then_items go o)
    then_read o p = good_then (ItemRead from) (ItemsBehind from) o _ p (λ one a. good_then (ItemsRead one.at) (ItemsBehind from) (go one.at) _ (goes one.at (omega (arith, a.left, h)))
        (λ many r. record {
          entries = r.entries ∙ a.entries;
          definitions = r.definitions ∙ a.definitions;
          words = r.words ∙ a.words;
          nest = ap (λ l. nest_ended l many.ending) (sym a.nest) ∙ r.nest;
          tokens = omega (arith, r.tokens, a.tokens);
          left = omega (arith, r.left, a.left);
          leaves = and_from _ _ a.leaves (ap (λ l. leaves_fit (is_inside_do l) many.nodes) (sym a.nest) ∙ r.leaves);
          no_go = λ g. and_from _ _ (a.no_go g) (r.no_go (still_lacks a.words g));
          items = λ N b.
              let x = a.items N b in
              let y = r.items N (still_bounded N from one.at a.definitions b x.knows) in
              record { read = and_from _ _ x.read y.read; knows = y.knows; weight = omega (arith, x.weight, y.weight) };
        }))

    bracket_items : Good (ItemsBehind from) (bracket_at n from >>= go)
    bracket_items = good_then (Passed from) (ItemsBehind from) (bracket_at n from) _ (bracket_read keep n from h)
        (λ mid p. good_weaker (ItemsRead mid) (ItemsBehind from) (λ many r. record {
          entries = r.entries ∙ p.goes.entries;
          definitions = r.definitions ∙ p.goes.definitions;
          words = r.words ∙ p.goes.words;
          nest = ap (λ l. nest_ended l many.ending) (sym p.goes.nest) ∙ r.nest;
          tokens = omega (arith, r.tokens, p.count);
          left = omega (arith, r.left, p.left);
          leaves = ap (λ l. leaves_fit (is_inside_do l) many.nodes) (sym p.goes.nest) ∙ r.leaves;
          no_go = λ g. r.no_go (still_lacks p.goes.words g);
          items = λ N b.
              let y = r.items N (still_bounded N from mid p.goes.definitions b (p.keeps.knows N b.knows)) in
              let same : ticks mid ≡ ticks from = ap (λ (tokens : List Ticked). tokens_weight (token_nodes tokens)) (p.keeps.ticked N b.knows) in
              record { read = y.read; knows = y.knows; weight = omega (arith, y.weight, same, p.goes.weight) };
        }) (go mid) (goes mid (omega (arith, p.left, h))))

    pub by_read : (s : Sense) → (LacksGo from.words → IsNotGo s) → ((N : ℕ) → Bounded N from → IsSense N s) → Good (ItemsBehind from) (items_by go n from s)
    by_read (sense.Ends e) p q =
        good_then (λ x. Moves (entry_of (ending_word e)).weight from x × (nest_ended from.nest e ≡ Ok x.nest)) (ItemsBehind from) (ended_at e from) _ (ends e from)
        (λ x v. record {
          entries = v.0.entries;
          definitions = v.0.definitions;
          words = v.0.words;
          nest = v.1;
          tokens = omega (arith, v.0.count);
          left = omega (arith, ap length v.0.rest);
          leaves = refl;
          no_go = λ g. refl;
          items = λ N b. record {
            read = refl;
            knows = moved_knows N (entry_of (ending_word e)).weight from x v.0 b.knows;
            weight = omega (arith, v.0.weight, moved_ticks (entry_of (ending_word e)).weight from x v.0);
          };
        })
    by_read sense.Brackets p q = bracket_items
    by_read (sense.Number x) p q = then_read _ (item_read n from (sense.Number x) p q h h)
    by_read (sense.Plain w) p q = then_read _ (item_read n from (sense.Plain w) p q h h)
    by_read (sense.Calls d) p q = then_read _ (item_read n from (sense.Calls d) p q h h)
    by_read (sense.Inherits d a) p q = then_read _ (item_read n from (sense.Inherits d a) p q h h)
    by_read sense.Recurses p q = then_read _ (item_read n from sense.Recurses p q h h)
    by_read (sense.Opens o) p q = then_read _ (item_read n from (sense.Opens o) p q h h)
    by_read sense.Leaves p q = then_read _ (item_read n from sense.Leaves p q h h)
    by_read sense.Exits p q = then_read _ (item_read n from sense.Exits p q h h)
    by_read sense.Spells p q = then_read _ (item_read n from sense.Spells p q h h)
    by_read (sense.Quotes kind) p q = then_read _ (item_read n from (sense.Quotes kind) p q h h)
    by_read sense.Ticks p q = then_read _ (item_read n from sense.Ticks p q h h)
    by_read sense.Takes p q = then_read _ (item_read n from sense.Takes p q h h)
    by_read sense.Creates p q = tt
    by_read sense.Forbidden p q = tt
    by_read sense.Unfit p q = tt
    by_read sense.OutOfRange p q = tt
    by_read sense.Unknown p q = tt

-- behind the token of which the items are
pub behind_token : (from : ParserState) (seen : ReadToken) (t : TokenRead from seen) (many : Many) → ItemsBehind seen.at many → ItemsRead from many
behind_token from seen t many r = record {
  entries = r.entries ∙ t.passed.goes.entries;
  definitions = r.definitions ∙ t.passed.goes.definitions;
  words = r.words ∙ t.passed.goes.words;
  nest = ap (λ l. nest_ended l many.ending) (sym t.passed.goes.nest) ∙ r.nest;
  tokens = omega (arith, r.tokens, t.passed.count);
  left = omega (arith, r.left, t.passed.left);
  leaves = ap (λ l. leaves_fit (is_inside_do l) many.nodes) (sym t.passed.goes.nest) ∙ r.leaves;
  no_go = λ g. r.no_go (still_lacks t.passed.goes.words g);
  items = λ N b.
      let y = r.items N (still_bounded N from seen.at t.passed.goes.definitions b (t.passed.keeps.knows N b.knows)) in
      let same : ticks seen.at ≡ ticks from = ap (λ (tokens : List Ticked). tokens_weight (token_nodes tokens)) (t.passed.keeps.ticked N b.knows) in
      record { read = y.read; knows = y.knows; weight = omega (arith, y.weight, same, t.passed.goes.weight) };
}

pub items_read : HostWordsKeep → (n : ℕ) (at : ParserState) → length at.rest < n → Good (ItemsRead at) (items_at n at)
unfolding items_at
items_read keep zero at h = absurd (omega arith)
items_read keep (suc n) at h =
    good_then (TokenRead at) (ItemsRead at) (token_at at) _ (token_read at)
    (λ seen t. good_weaker (ItemsBehind seen.at) (ItemsRead at) (behind_token at seen t) (items_by (items_at n) n seen.at seen.sense)
    (by_read keep (items_at n) n (items_read keep n) seen.at (omega (arith, t.passed.left, h)) seen.sense t.no_go (λ N b. t.sense N b.knows)))

-- from a token that was read on
pub items_from_read : HostWordsKeep → (n : ℕ) (from : ParserState) (seen : ReadToken) → TokenRead from seen → length seen.at.rest < n → Good (ItemsRead from) (items_by (items_at n) n seen.at seen.sense)
items_from_read keep n from seen t h =
    good_weaker (ItemsBehind seen.at) (ItemsRead from) (behind_token from seen t) (items_by (items_at n) n seen.at seen.sense)
    (by_read keep (items_at n) n (items_read keep n) seen.at h seen.sense t.no_go (λ N b. t.sense N b.knows))
