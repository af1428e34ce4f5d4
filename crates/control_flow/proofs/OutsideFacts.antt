-- What holds of a source behind a word outside definitions.
use Rattle.std.proofs.Common.{◌≡◌, ℕ, ◌+◌, ◌-◌, ◌<◌, ◌≤◌, nat_lt, Bool, true, false, ◌&&◌, List, [], ◌∷◌, ◌++◌, length, Option, Some, None, refl, sym, ap, ◌∙◌, subst, arith, length-append, leb-true, nat_le, ◌%◌, ◌*◌}
use Rattle.std.specs.Prelude.{slice_get, Result, Ok, Err}
use Rattle.std.specs.List.{list_all}
use Rattle.std.proofs.lemmas.Bool.{and_parts}
use Rattle.forth_program.specs.SourceTokens.{all_tokens}
use Rattle.forth_reader.specs.Reading.{Reading, NoMore, Reads, Refuses}
use Rattle.dictionary_core.specs.Pairs.{pair}
use Rattle.host_state.specs.declared.entry.Known.{Known}
use Rattle.host_state.specs.declared.entry.Known.TheVariants as known
use Rattle.host_state.specs.declared.entry.Ticked.{Ticked}
use Rattle.host_state.specs.declared.word.HostItem.{HostItem}
use Rattle.host_state.specs.declared.refusal.HostRefusal.TheVariants as refusal
use Rattle.host_state.specs.HostCells.{Host, Reply, Gives, Refuses, ◌▸◌, pop, pop_from, push}
use Rattle.host_state.specs.HostMemory.{checked, first_space}
use Rattle.host_state.specs.Naming.{created, variable, defined_by, tick, split_at}
use Rattle.host_state.specs.Kept.{AreCells, After, HostWordsKeep, ImagesFit, SpacesBegin}
use Rattle.control_flow.specs.declared.refusal.SourceCause.{SourceCause}
use Rattle.control_flow.specs.declared.refusal.SourceCause.TheVariants as cause
use Rattle.control_flow.specs.declared.before.Before.{Before}
use Rattle.control_flow.specs.declared.before.Before.TheVariants as before
use Rattle.control_flow.specs.declared.outside_sense.OutsideSense.{OutsideSense}
use Rattle.control_flow.specs.declared.outside_sense.OutsideSense.TheVariants.{Begins, Acts, NamesConstant, NamesVariable, NamesAddress, NamesChild, Ticks, Spells, Splits, Quoted, OutOfRange, Unknown, Forbidden}
use Rattle.control_flow.specs.Ticks.{ticked_in, ticked_node, token_nodes, tokens_weight, tick_weight}
use Rattle.control_flow.specs.ParseResult.{ParserState, ParseResult, Fine, ◌>>=◌, hosted_as, weighed_as}
use Rattle.control_flow.specs.ReadTokens.{Named, spelled_at, first_byte}
use Rattle.control_flow.specs.Brackets.{acted_at}
use Rattle.control_flow.specs.HostParts.{DefiningWord}
use Rattle.control_flow.specs.OutsideSense.{is_number}
use Rattle.control_flow.specs.OutsideWords.{name_at, with_name, named_as, constant_at, variable_at, create_at, child_of, child_at, token_put, outside_ticked_as, outside_tick_at, outside_char_at, code_cells_at}
use Rattle.control_flow.specs.SourceText.{Source, OutsideToken, before_by, before_next, is_due, outside_of}
use Rattle.control_flow.specs.SourceText.{child_by, resumed, outside_by}
use Rattle.control_flow.specs.SourceLaw.{is_read_token}
use Rattle.control_flow.proofs.Readings.{Passes}
use Rattle.control_flow.proofs.Senses.{AllBelow, IsKnown, below_more, IsTicked, ticked_is, still_lacks}
use Rattle.control_flow.proofs.Moves.{Good, good_then, good_weaker, Moves, weighs}
use Rattle.control_flow.proofs.HostFacts.{IsSound, Leads, ticks, Knows, moved_ticks, Goes, goes_then, Keeps, keeps_then, reads_on}
use Rattle.control_flow.proofs.HostFacts.{good_hosted, after_if, settles_keeps, same_goes, keeps_of, ActedRead, acted_read, quoted_read, TickRead, tick_read}
use Rattle.control_flow.proofs.ItemFacts.{passed_on, SpelledRead, spelled_read}
use Rattle.control_flow.proofs.SourceFacts.{PartBelow, PartsBelow, part_found, IsEarly, SourceRead, same_ticks, NamedRead, named_read, definition_read}

-- what holds of host words
pub record HostLaws : Type 0 where
  pub keep : HostWordsKeep
  pub fit : ImagesFit
  pub begin : SpacesBegin

-- ---- words outside definitions

-- what is done from a place on, where definitions have numbers below N
record WordRead (N : ℕ) (from at : ParserState) : Type 0 where
  definitions : at.definitions ≡ from.definitions
  words : at.words ≡ from.words
  nest : at.nest ≡ from.nest
  entries : length from.entries ≤ length at.entries
  few : length from.entries ≤ 512 → length at.entries ≤ 512
  count : from.count ≤ at.count
  left : length at.rest ≤ length from.rest
  knows : Knows N at
  weight : from.weight + ticks at ≤ at.weight + ticks from

word_more : (source : Source) (at : ParserState) (b : Before) → SourceRead 0 source → WordRead (length source.bodies) source.at at → IsEarly b at.weight → SourceRead 0 (record source { at = at; before = b })
word_more source at b s w e = record {
  counted = w.definitions ∙ s.counted;
  names = s.names;
  held = omega (arith, w.entries, s.held);
  few = omega (arith, w.few (omega (arith, s.few)));
  knows = w.knows;
  defining = s.defining;
  nest = w.nest ∙ s.nest;
  items = s.items;
  back = s.back;
  leaves = s.leaves;
  no_go = λ l. s.no_go (still_lacks (sym w.words) l);
  weight = omega (arith, w.weight, s.weight);
  early = e;
  tokens = omega (arith, w.count, s.tokens);
}

module _ (N : ℕ) (from : ParserState) (b : Knows N from) where
  kept_read : (at : ParserState) → Goes from at → Keeps from at → WordRead N from at
  kept_read at g k = record {
    definitions = g.definitions;
    words = g.words;
    nest = g.nest;
    entries = omega (arith, ap length g.entries);
    few = λ h. omega (arith, ap length g.entries, h);
    count = g.count;
    left = g.left;
    knows = k.knows N b;
    weight = omega (arith, g.weight, same_ticks from at (k.ticked N b));
  }

  -- a name more
  with_name_read : (at : ParserState) (name : List ℕ) (k : Known) → Goes from at → Keeps from at → length at.entries < 512 → IsKnown N k → WordRead N from (with_name name k at)
  with_name_read at name k g kept room i =
      let p = pair name (record { number = length at.entries; known = k }) in
      let more : length (at.entries ++ p ∷ []) ≡ length at.entries + 1 = length-append at.entries (p ∷ []) in
      let there = kept.knows N b in
      record {
        definitions = g.definitions;
        words = g.words;
        nest = g.nest;
        entries = omega (arith, more, ap length g.entries);
        few = λ h. omega (arith, more, room);
        count = g.count;
        left = g.left;
        knows = record { others = below_more N at.entries p there.others i; ticked = there.ticked; sound = there.sound; few = there.few; light = there.light };
        weight = omega (arith, g.weight, same_ticks from at (kept.ticked N b));
      }

module _ (laws : HostLaws) (N : ℕ) (from : ParserState) (b : Knows N from) where
  acts_read : (item : HostItem) → Good (λ at. WordRead N from at × (at.weight ≡ from.weight)) (acted_at item from)
  acts_read item = good_weaker (ActedRead laws.keep from) (λ at. WordRead N from at × (at.weight ≡ from.weight)) (λ at a. (kept_read N from b at a.goes a.keeps, a.goes.weight)) (acted_at item from) (acted_read laws.keep item from)

  constant_read : Good (WordRead N from) (constant_at from)
  constant_read =
      good_hosted (λ x s. IsSound from.host → Leads from.host s × (x < 65536)) (WordRead N from) from.count from (pop from.host) _
      (after_if (IsSound from.host) (λ x s. Leads from.host s × (x < 65536)) (pop from.host) (λ sound. (keeps_of laws.keep from.host sound).taken))
      (λ x s h.
      let taken = record from { host = s } in
      good_then (NamedRead taken) (WordRead N from) (name_at taken) _ (named_read taken)
      (λ named q. with_name_read N from b named.at named.name (known.Constant x) (goes_then from taken named.at (same_goes from s) q.passed.goes)
      (keeps_then from taken named.at (settles_keeps from s (λ sound. (h sound).0)) q.passed.keeps) q.room (h b.sound).1))

  -- what names an address
  module _ (named : Named) (q : NamedRead from named) where
    address_read : (kind : ℕ → Known) (reply : Reply ℕ) → ((address : ℕ) → address ≤ 16384 → IsKnown N (kind address)) →
        (IsSound named.at.host → After (λ address s. Leads named.at.host s × (address ≤ 16384)) reply) → Good (WordRead N from) (named_as from.count named kind reply)
    address_read kind reply i h =
        good_hosted (λ address s. IsSound named.at.host → Leads named.at.host s × (address ≤ 16384)) (WordRead N from) from.count named.at reply _
        (after_if (IsSound named.at.host) (λ address s. Leads named.at.host s × (address ≤ 16384)) reply h)
        (λ address s k.
        let at = record named.at { host = s } in
        with_name_read N from b at named.name (kind address) (goes_then from named.at at q.passed.goes (same_goes named.at s))
        (keeps_then from named.at at q.passed.keeps (settles_keeps named.at s (λ sound. (k sound).0))) q.room
        (i address (k (q.passed.keeps.knows N b).sound).1))

  small_address : (address : ℕ) → address ≤ 16384 → IsKnown N (known.Address address)
  small_address address h = omega (arith, h)

  variable_read : Good (WordRead N from) (variable_at from)
  variable_read = good_then (NamedRead from) (WordRead N from) (name_at from) _ (named_read from)
      (λ named q. address_read named q _ (checked (variable named.at.host)) small_address (λ sound. (keeps_of laws.keep named.at.host sound).variables))

  create_read : Good (WordRead N from) (create_at from)
  create_read = good_then (NamedRead from) (WordRead N from) (name_at from) _ (named_read from)
      (λ named q. address_read named q _ (checked (created named.at.host)) small_address (λ sound. (keeps_of laws.keep named.at.host sound).addresses))

  child_is : (part : Option ℕ) → PartBelow N part → (address : ℕ) → address ≤ 16384 → IsKnown N (child_of part address)
  child_is (Some part) k address h = (k, omega (arith, h))
  child_is None k address h = omega (arith, h)

  child_read : (word : DefiningWord) → PartBelow N word.part → Good (WordRead N from) (child_at word from)
  child_read word k = good_then (NamedRead from) (WordRead N from) (name_at from) _ (named_read from)
      (λ named q. address_read named q (child_of word.part) (checked (defined_by word.items named.at.host)) (child_is word.part k) (λ sound. (keeps_of laws.keep named.at.host sound).children word.items))

  child_found : (words : List DefiningWord) (number : ℕ) (o : Option DefiningWord) → PartsBelow N words → slice_get words number ≡ o → Good (WordRead N from) (child_by o from)
  child_found words number (Some word) h e = child_read word (part_found N words number word h e)
  child_found words number None h e = tt

  -- a number is put on the stack
  put_read : (mid : ParserState) (x : ℕ) → Goes from mid → Keeps from mid → Good (WordRead N from) (hosted_as from.count mid (push x mid.host) (λ _ after. Fine after))
  put_read mid x g k =
      good_hosted (λ _ s. IsSound mid.host → Leads mid.host s) (WordRead N from) from.count mid (push x mid.host) _
      (after_if (IsSound mid.host) (λ _ s. Leads mid.host s) (push x mid.host) (λ sound. (keeps_of laws.keep mid.host sound).put x))
      (λ _ s h.
      let at = record mid { host = s } in
      kept_read N from b at (goes_then from mid at g (same_goes mid s)) (keeps_then from mid at k (settles_keeps mid s h)))

  char_read : Good (WordRead N from) (outside_char_at from)
  char_read = good_then (SpelledRead from) (WordRead N from) (spelled_at from) _ (spelled_read from)
      (λ named s. put_read named.at (first_byte named.name) s.passed.goes s.passed.keeps)

  -- a tick
  module _ (named : Named) (s : SpelledRead from named) (one : Ticked) (i : is_read_token N (ticked_node one) ≡ true) where
    token_weighed : (token : ℕ × Bool) (after : Host) → TickRead named.at one token after → Good (WordRead N from) (weighed_as from.count (tick_weight one token.1 - 2) (record named.at { host = after }))
    token_weighed token after t =
        let mid = record named.at { host = after } in
        let w : ℕ = tick_weight one token.1 - 2 in
        let k = s.passed.keeps.knows N b in
        let same : ticks named.at ≡ ticks from = same_ticks from named.at (s.passed.keeps.ticked N b) in
        good_weaker (λ x. Moves w mid x × (x.nest ≡ mid.nest)) (WordRead N from)
        (λ x m. record {
          definitions = m.0.definitions ∙ s.passed.goes.definitions;
          words = m.0.words ∙ s.passed.goes.words;
          nest = m.1 ∙ s.passed.goes.nest;
          entries = omega (arith, ap length (m.0.entries ∙ s.passed.goes.entries));
          few = λ h. omega (arith, ap length (m.0.entries ∙ s.passed.goes.entries), h);
          count = omega (arith, m.0.count, s.passed.goes.count);
          left = omega (arith, ap length m.0.rest, s.passed.goes.left);
          knows = record {
            others = subst (AllBelow N) (sym m.0.entries) k.others;
            ticked = ap (λ (h : Host). list_all (is_read_token N) (token_nodes h.tokens)) m.0.host ∙ t.ticked N k.ticked i;
            sound = subst IsSound (sym m.0.host) (t.sound k.sound);
            few = omega (arith, ap (λ (h : Host). length h.tokens) m.0.host, m.0.weight, t.few, k.few);
            light = m.0.light;
          };
          weight = omega (arith, moved_ticks w mid x m.0, m.0.weight, t.weight, same, s.passed.goes.weight);
        }) (weighed_as from.count w mid) (weighs from.count w mid)

    pushed_token : (token : ℕ × Bool) (after : Host) (room : Bool) → TickRead named.at one token after →
        After (λ token s. TickRead named.at one token s) ((elim room as (λ room. Reply (Unit {0})) [ true ↦ Gives tt (record after { stack = (token.0 % 65536) ∷ after.stack }) | false ↦ Refuses refusal.HostOverflow ]) ▸ λ _. Gives token)
    pushed_token token after false t = tt
    pushed_token token after true t = record {
      number = t.number;
      sound = λ sound.
          let x = t.sound sound in
          record {
            start = x.start;
            settled = record { host = record { stack = (cell_of token.0, x.settled.host.stack); fits = x.settled.host.fits; start = x.settled.host.start; ticked = x.settled.host.ticked }; here = x.settled.here };
          };
      ticked = t.ticked;
      few = t.few;
      weight = t.weight;
    }
      where
        cell_of : (n : ℕ) → n % 65536 < 65536
        cell_of n = omega arith

    put_on : (reply : Reply (ℕ × Bool)) → After (TickRead named.at one) reply → After (λ token s. TickRead named.at one token s) (reply ▸ λ token s. push token.0 s ▸ λ _. Gives token)
    put_on (Gives token after) t = pushed_token token after (nat_lt (length after.stack) 32) t
    put_on (Refuses c) t = tt

    tick_word_read : Good (WordRead N from) (outside_ticked_as from.count named (Ok one))
    tick_word_read = good_hosted (TickRead named.at one) (WordRead N from) from.count named.at (token_put one named.at.host) _ (put_on (tick one named.at.host) (tick_read named.at one)) token_weighed

  ticked_on : (named : Named) → SpelledRead from named → (found : Result Ticked SourceCause) → IsTicked N found → Good (WordRead N from) (outside_ticked_as from.count named found)
  ticked_on named s (Err c) i = tt
  ticked_on named s (Ok one) i = tick_word_read named s one i

  outside_tick_read : Good (WordRead N from) (outside_tick_at from)
  outside_tick_read = good_then (SpelledRead from) (WordRead N from) (spelled_at from) _ (spelled_read from)
      (λ named s. ticked_on named s (ticked_in named.at.words named.at.entries named.name) (ticked_is N named.at.words named.at.entries named.name (s.passed.keeps.knows N b).others))

  -- CODE-CELLS, where nothing weighs yet
  split_on : (due : Bool) (n : ℕ) (s : Host) (fits : Bool) → (is_true : due && nat_le 2048 n && nat_le n 8000 ≡ fits) → AreCells s.stack → s.tokens ≡ from.host.tokens → (due ≡ true → from.weight ≡ 0) →
      Good (WordRead N from) (hosted_as from.count from (elim fits as (λ fits. Reply (Unit {0})) [ true ↦ Gives tt (record s { space = first_space (2 * n) }) | false ↦ Refuses refusal.BadSplit ]) (λ _ after. Fine after))
  split_on due n s false e c t w = tt
  split_on due n s true e c t w =
      let range = and_parts (due && nat_le 2048 n) (nat_le n 8000) e in
      let low = and_parts due (nat_le 2048 n) range.0 in
      let none : from.weight ≡ 0 = w low.0 in
      let least : 2048 ≤ n = leb-true 2048 n low.1 in
      let most : n ≤ 8000 = leb-true n 8000 range.1 in
      let even : 2 * n % 2 ≡ 0 = omega arith in
      record {
        definitions = refl;
        words = refl;
        nest = refl;
        entries = omega arith;
        few = λ h. h;
        count = omega arith;
        left = omega arith;
        knows = record {
          others = b.others;
          ticked = ap (λ tokens. list_all (is_read_token N) (token_nodes tokens)) t ∙ b.ticked;
          sound = record {
            start = record { is_even = even; at_least = omega (arith, least); at_most = omega (arith, most) };
            settled = laws.begin (2 * n) s.tokens s.stack even (omega (arith, most)) c;
          };
          few = omega (arith, ap (λ (tokens : List Ticked). length tokens) t, b.few);
          light = omega (arith, none);
        };
        weight = omega (arith, ap (λ tokens. tokens_weight (token_nodes tokens)) t);
      }

  cells_on : (due : Bool) (stack : List ℕ) → AreCells stack → (due ≡ true → from.weight ≡ 0) → Good (WordRead N from) (hosted_as from.count from (pop_from stack from.host ▸ split_at due) (λ _ after. Fine after))
  cells_on due [] c w = tt
  cells_on due (n ∷ stack) c w = split_on due n (record from.host { stack = stack }) (due && nat_le 2048 n && nat_le n 8000) refl c.1 refl w

  cells_read : (due : Bool) → (due ≡ true → from.weight ≡ 0) → Good (WordRead N from) (code_cells_at due from)
  cells_read due w = cells_on due from.host.stack b.sound.settled.host.stack w

-- ---- what stands outside definitions

module _ (laws : HostLaws) (source : Source) (s : SourceRead 0 source) where
  abbrev pub Resumes : Source → Type 0
  Resumes next = SourceRead 0 next × (length next.at.rest ≤ length source.at.rest) × (next.at.words ≡ source.at.words)

  -- what is no number is followed by more
  not_number : (b : Before) (sense : OutsideSense) (w : ℕ) → is_number sense ≡ false → IsEarly (before_next b sense) w
  not_number before.Nothing sense w e = subst (λ t. IsEarly (before_by before.Nothing t) w) (sym e) tt
  not_number before.Number sense w e = tt
  not_number before.More sense w e = tt

  resumed_read : (sense : OutsideSense) (o : ParseResult ParserState) → is_number sense ≡ false → Good (WordRead (length source.bodies) source.at) o → Good Resumes (o >>= resumed source sense)
  resumed_read sense o e h = good_then (WordRead (length source.bodies) source.at) Resumes o _ h
      (λ at w. (word_more source at (before_next source.before sense) s w (not_number source.before sense at.weight e), w.left, w.words))

  acts_on : (item : HostItem) → Good Resumes (acted_at item source.at >>= resumed source (Acts item))
  acts_on item =
      good_then (λ at. WordRead (length source.bodies) source.at at × (at.weight ≡ source.at.weight)) Resumes (acted_at item source.at) _ (acts_read laws (length source.bodies) source.at s.knows item)
      (λ at w. (word_more source at (before_next source.before (Acts item)) s w.0 (acts_early source.before (is_number (Acts item)) source.at.weight at.weight w.1 s.early), w.0.left, w.0.words))
    where
      acts_early : (b : Before) (t : Bool) (w v : ℕ) → v ≡ w → IsEarly b w → IsEarly (before_by b t) v
      acts_early before.Nothing true w v e h = e ∙ h
      acts_early before.Nothing false w v e h = tt
      acts_early before.Number t w v e h = tt
      acts_early before.More t w v e h = tt

  due_early : (b : Before) (w : ℕ) → IsEarly b w → is_due b ≡ true → w ≡ 0
  due_early before.Nothing w h e = h
  due_early before.Number w h e = h
  due_early before.More w h e = absurd cc

  pub outside_on : (n : ℕ) (sense : OutsideSense) → all_tokens source.bodies + 1 ≤ source.at.count → length source.at.rest < n → Good Resumes (outside_by n source source.at sense)
  outside_on n Begins one h = definition_read laws.keep source s one n h
  outside_on n (Acts item) one h = acts_on item
  outside_on n NamesConstant one h = resumed_read NamesConstant (constant_at source.at) refl (constant_read laws (length source.bodies) source.at s.knows)
  outside_on n NamesVariable one h = resumed_read NamesVariable (variable_at source.at) refl (variable_read laws (length source.bodies) source.at s.knows)
  outside_on n NamesAddress one h = resumed_read NamesAddress (create_at source.at) refl (create_read laws (length source.bodies) source.at s.knows)
  outside_on n (NamesChild number) one h =
      resumed_read (NamesChild number) (child_by (slice_get source.defining number) source.at) refl
      (child_found laws (length source.bodies) source.at s.knows source.defining number (slice_get source.defining number) s.defining refl)
  outside_on n Ticks one h = resumed_read Ticks (outside_tick_at source.at) refl (outside_tick_read laws (length source.bodies) source.at s.knows)
  outside_on n Spells one h = resumed_read Spells (outside_char_at source.at) refl (char_read laws (length source.bodies) source.at s.knows)
  outside_on n Splits one h =
      resumed_read Splits (code_cells_at (is_due source.before) source.at) refl (cells_read laws (length source.bodies) source.at s.knows (is_due source.before) (due_early source.before source.at.weight s.early))
  outside_on n Quoted one h = quoted_read laws.keep Resumes cause.OnlyInDefinition source.at
  outside_on n OutOfRange one h = tt
  outside_on n Unknown one h = tt
  outside_on n Forbidden one h = tt

-- a token, or the end of the text
pub record OutsideRead (from : ParserState) (outside : OutsideToken) : Type 0 where
  pub goes : Goes from outside.at
  pub keeps : Keeps from outside.at
  pub passed : (sense : OutsideSense) → outside.sense ≡ Some sense → (from.count < outside.at.count) × (length outside.at.rest < length from.rest)

pub outside_read : (from : ParserState) (reading : Reading) → Passes from.count (length from.rest) reading → Good (OutsideRead from) (outside_of from reading)
outside_read from (NoMore k) h = record {
  goes = record { entries = refl; definitions = refl; words = refl; nest = refl; weight = refl; count = omega (arith, h); left = omega arith };
  keeps = reads_on from [] k;
  passed = λ sense e. absurd cc;
}
outside_read from (Refuses k c) h = tt
outside_read from (Reads token k rest) h =
    let p = passed_on from k rest h.0 h.1 in
    record { goes = p.goes; keeps = p.keeps; passed = λ sense e. (p.count, p.left) }
