-- What holds of a source so far, and of a definition more.
use Rattle.std.proofs.Common.{◌≡◌, ℕ, zero, suc, ◌+◌, ◌<◌, ◌≤◌, nat_lt, Bool, true, false, List, [], ◌∷◌, ◌++◌, length, Option, Some, None, refl, sym, ap, ◌∙◌, subst, arith, length-append, ltb-true}
use Rattle.std.specs.Prelude.{slice_get}
use Rattle.std.specs.List.{list_all}
use Rattle.word_table.specs.Names.{word_named}
use Rattle.forth_program.specs.Tree.{Nodes}
use Rattle.forth_program.specs.Form.{everywhere, has_id_below, calls_go_back, leaves_fit, is_not_go}
use Rattle.forth_program.specs.Weight.{weight as weight_of, bodies_weight}
use Rattle.forth_program.specs.SourceTokens.{all_tokens}
use Rattle.dictionary_core.specs.Pairs.{pair}
use Rattle.host_state.specs.declared.entry.Known.{Known}
use Rattle.host_state.specs.declared.entry.Known.TheVariants as known
use Rattle.host_state.specs.declared.entry.Ticked.{Ticked}
use Rattle.host_state.specs.declared.word.HostItem.{HostItem}
use Rattle.host_state.specs.Kept.{HostWordsKeep}
use Rattle.control_flow.specs.declared.refusal.SourceCause.TheVariants as cause
use Rattle.control_flow.specs.declared.before.Before.{Before}
use Rattle.control_flow.specs.declared.before.Before.TheVariants as before
use Rattle.control_flow.specs.declared.nest.Ending.{Ending}
use Rattle.control_flow.specs.declared.nest.Ending.TheVariants as ending
use Rattle.control_flow.specs.Nest.{is_inside_do}
use Rattle.control_flow.specs.Sense.{is_create}
use Rattle.control_flow.specs.Ticks.{token_nodes, tokens_weight}
use Rattle.control_flow.specs.ParseResult.{ParserState, Fine, Refused, ◌>>=◌}
use Rattle.control_flow.specs.ReadTokens.{ReadToken, token_at, Named, spelled_at}
use Rattle.control_flow.specs.Items.{Many, items_by, items_at}
use Rattle.control_flow.specs.HostParts.{DefiningWord, HostPart, host_part_at}
use Rattle.control_flow.specs.OutsideWords.{is_reserved_name, name_at, with_name}
use Rattle.control_flow.specs.SourceText.{Source, with_body, ended_by, with_defining, part_by, defining_at, definition_at}
use Rattle.control_flow.specs.SourceLaw.{is_read}
use Rattle.control_flow.proofs.Senses.{IsKnown, below_more, LacksGo, still_lacks}
use Rattle.control_flow.proofs.Moves.{Good, good_then, good_weaker, good_is, outermost}
use Rattle.control_flow.proofs.HostFacts.{ticks, Knows, Bounded, knows_wider, Goes, Keeps, Passed}
use Rattle.control_flow.proofs.HostPartFacts.{passed_then, PartRead, host_part_read, goes_does, keeps_does}
use Rattle.control_flow.proofs.ItemFacts.{SpelledRead, spelled_read, ItemsRead, TokenRead, token_read, items_read, items_from_read}
use Rattle.control_flow.proofs.BodyFacts.{everywhere_wider, all_wider, read_wider, read_id, all_more, back_more, weights_more, tokens_more}

-- ---- a source so far

-- the parts of defining words are definitions
abbrev pub PartBelow : ℕ → Option ℕ → Type 0
PartBelow N (Some part) = part < N
PartBelow N None = Unit {0}

abbrev pub PartsBelow : ℕ → List DefiningWord → Type 0
PartsBelow N [] = Unit {0}
PartsBelow N (word ∷ words) = PartBelow N word.part × PartsBelow N words

part_wider : (N M : ℕ) → N ≤ M → (part : Option ℕ) → PartBelow N part → PartBelow M part
part_wider N M h (Some part) k = omega (arith, h, k)
part_wider N M h None k = tt

parts_wider : (N M : ℕ) → N ≤ M → (words : List DefiningWord) → PartsBelow N words → PartsBelow M words
parts_wider N M h [] k = tt
parts_wider N M h (word ∷ words) k = (part_wider N M h word.part k.0, parts_wider N M h words k.1)

parts_more : (N : ℕ) (words : List DefiningWord) (word : DefiningWord) → PartsBelow N words → PartBelow N word.part → PartsBelow N (words ++ word ∷ [])
parts_more N [] word h k = (k, tt)
parts_more N (w ∷ ws) word h k = (h.0, parts_more N ws word h.1 k)

pub part_found : (N : ℕ) (words : List DefiningWord) (number : ℕ) (word : DefiningWord) → PartsBelow N words → slice_get words number ≡ Some word → PartBelow N word.part
part_found N [] number word h e = absurd cc
part_found N (w ∷ ws) zero word h e =
    let is : w ≡ word = cc in
    subst (λ (w : DefiningWord). PartBelow N w.part) is h.0
part_found N (w ∷ ws) (suc number) word h e = part_found N ws number word h.1 e

-- nothing weighs where CODE-CELLS may still come
abbrev pub IsEarly : Before → ℕ → Type 0
IsEarly before.Nothing weight = weight ≡ 0
IsEarly before.Number weight = weight ≡ 0
IsEarly before.More weight = Unit {0}

early_as : (b : Before) (w v : ℕ) → v ≡ w → IsEarly b w → IsEarly b v
early_as before.Nothing w v e h = e ∙ h
early_as before.Number w v e h = e ∙ h
early_as before.More w v e h = tt

-- what holds of a source, where so many names are still due to be found
pub record SourceRead (due : ℕ) (source : Source) : Type 0 where
  pub counted : source.at.definitions ≡ length source.bodies
  pub names : length source.names ≡ length source.bodies
  pub held : length source.bodies ≤ length source.at.entries + due
  pub few : length source.at.entries + due ≤ 512
  pub knows : Knows (length source.bodies) source.at
  pub defining : PartsBelow (length source.bodies) source.defining
  pub nest : source.at.nest ≡ []
  pub items : list_all (everywhere (is_read (length source.bodies))) source.bodies ≡ true
  pub back : calls_go_back 0 source.bodies ≡ true
  pub leaves : list_all (leaves_fit false) source.bodies ≡ true
  pub no_go : LacksGo source.at.words → list_all (everywhere is_not_go) source.bodies ≡ true
  pub weight : bodies_weight source.bodies + ticks source.at ≤ source.at.weight
  pub early : IsEarly source.before source.at.weight
  pub tokens : all_tokens source.bodies ≤ source.at.count

-- the same source, where it is read on at another place
abbrev pub placed : Source → ParserState → Source
placed source at = record source { at = at }

pub same_ticks : (from at : ParserState) → at.host.tokens ≡ from.host.tokens → ticks at ≡ ticks from
same_ticks from at e = ap (λ (tokens : List Ticked). tokens_weight (token_nodes tokens)) e

pub passes_on : (due : ℕ) (source : Source) (at : ParserState) → SourceRead due source → Goes source.at at → Keeps source.at at → SourceRead due (placed source at)
passes_on due source at so_far g k = record {
  counted = g.definitions ∙ so_far.counted;
  names = so_far.names;
  held = omega (arith, ap length g.entries, so_far.held);
  few = omega (arith, ap length g.entries, so_far.few);
  knows = k.knows (length source.bodies) so_far.knows;
  defining = so_far.defining;
  nest = g.nest ∙ so_far.nest;
  items = so_far.items;
  back = so_far.back;
  leaves = so_far.leaves;
  no_go = λ l. so_far.no_go (still_lacks (sym g.words) l);
  weight = omega (arith, so_far.weight, g.weight, same_ticks source.at at (k.ticked (length source.bodies) so_far.knows));
  early = early_as source.before source.at.weight at.weight g.weight so_far.early;
  tokens = omega (arith, so_far.tokens, g.count);
}

-- the name of the definition that was read is due
one_due : (source : Source) → length source.at.entries < 512 → SourceRead 0 source → SourceRead 1 source
one_due source room s = record {
  counted = s.counted;
  names = s.names;
  held = omega (arith, s.held);
  few = omega (arith, room);
  knows = s.knows;
  defining = s.defining;
  nest = s.nest;
  items = s.items;
  back = s.back;
  leaves = s.leaves;
  no_go = s.no_go;
  weight = s.weight;
  early = s.early;
  tokens = s.tokens;
}

-- a name is found from here on
name_more : (source : Source) (name : List ℕ) (k : Known) → SourceRead 1 source → IsKnown (length source.bodies) k → SourceRead 0 (record source { at = with_name name k source.at; before = before.More })
name_more source name k s i =
    let p = pair name (record { number = length source.at.entries; known = k }) in
    let more : length (source.at.entries ++ p ∷ []) ≡ length source.at.entries + 1 = length-append source.at.entries (p ∷ []) in
    record {
      counted = s.counted;
      names = s.names;
      held = omega (arith, more, s.held);
      few = omega (arith, more, s.few);
      knows = record { others = below_more (length source.bodies) source.at.entries p s.knows.others i; ticked = s.knows.ticked; sound = s.knows.sound; few = s.knows.few; light = s.knows.light };
      defining = s.defining;
      nest = s.nest;
      items = s.items;
      back = s.back;
      leaves = s.leaves;
      no_go = s.no_go;
      weight = s.weight;
      early = tt;
      tokens = s.tokens;
    }

pub record NamedRead (from : ParserState) (named : Named) : Type 0 where
  pub passed : Passed from named.at
  pub room : length named.at.entries < 512

name_on : (reserved fits : Bool) (from : ParserState) (named : Named) → nat_lt (length named.at.entries) 512 ≡ fits → Passed from named.at →
    Good (NamedRead from) (elim reserved [ true ↦ Refused named.at.count cause.NeedsName | false ↦ elim fits [ true ↦ Fine named | false ↦ Refused named.at.count cause.TooManyWords ] ])
name_on true fits from named e p = tt
name_on false true from named e p = record { passed = p; room = ltb-true (length named.at.entries) 512 e }
name_on false false from named e p = tt

pub named_read : (from : ParserState) → Good (NamedRead from) (name_at from)
named_read from =
    good_then (SpelledRead from) (NamedRead from) (spelled_at from) _ (spelled_read from)
    (λ named s. name_on (is_reserved_name (word_named named.name)) (nat_lt (length named.at.entries) 512) from named refl s.passed)

-- host parts and bodies are read where as many definitions and names are known
pub part_keeps : HostWordsKeep → (at : ParserState) (part : HostPart) → ((n : ℕ) → length at.rest < n → host_part_at n at ≡ Fine part) → (part.at.definitions ≡ at.definitions) × (length part.at.entries ≡ length at.entries)
part_keeps keep at part read =
    let n = suc (length at.rest) in
    let p = good_is (PartRead at) (host_part_at n at) part (read n (omega arith)) (host_part_read keep n at (omega arith)) in
    (p.goes.definitions, ap length p.goes.entries)

pub body_keeps : HostWordsKeep → (at : ParserState) (many : Many) → ((n : ℕ) → length at.rest < n → items_at n at ≡ Fine many) → (many.at.definitions ≡ at.definitions) × (length many.at.entries ≡ length at.entries)
body_keeps keep at many read =
    let n = suc (length at.rest) in
    let r = good_is (ItemsRead at) (items_at n at) many (read n (omega arith)) (items_read keep n at (omega arith)) in
    (r.definitions, ap length r.entries)

-- ---- a body more

module _ (source : Source) (so_far : SourceRead 0 source) (room : length source.at.entries < 512) (two : all_tokens source.bodies + 2 ≤ source.at.count) (name : List ℕ) (nodes : Nodes) (end : ParserState)
    (r : ItemsRead source.at (record { nodes = nodes; ending = ending.Semicolon; at = end })) where
  bodies_more : length (source.bodies ++ nodes ∷ []) ≡ length source.bodies + 1
  bodies_more = length-append source.bodies (nodes ∷ [])

  known_there : (N : ℕ) → length source.bodies < N → Bounded N source.at
  known_there N h = record { own = omega (arith, so_far.counted, h); knows = knows_wider (length source.bodies) N source.at (omega (arith, h)) so_far.knows }

  body_more : SourceRead 1 (record (with_body source name nodes end) { before = before.More })
  body_more =
      let N : ℕ = length (source.bodies ++ nodes ∷ []) in
      let more : N ≡ length source.bodies + 1 = bodies_more in
      let x = r.items N (known_there N (omega (arith, more))) in
      let w : source.at.weight + weight_of nodes + 1 + ticks end ≤ end.weight + ticks source.at = x.weight in (
      record {
        counted = omega (arith, more, r.definitions, so_far.counted);
        names = omega (arith, more, length-append source.names (name ∷ []), so_far.names);
        held = omega (arith, more, ap length r.entries, so_far.held);
        few = omega (arith, ap length r.entries, room);
        knows = record { others = x.knows.others; ticked = x.knows.ticked; sound = x.knows.sound; few = x.knows.few; light = x.knows.light };
        defining = parts_wider (length source.bodies) N (omega (arith, more)) source.defining so_far.defining;
        nest = outermost source.at.nest end.nest so_far.nest r.nest;
        items = all_more (everywhere (is_read N)) source.bodies nodes
            (all_wider (is_read (length source.bodies)) (is_read N) (read_wider (length source.bodies) N (omega (arith, more))) source.bodies so_far.items) x.read;
        back = back_more source.bodies nodes 0 so_far.back
            (everywhere_wider (is_read (suc (0 + length source.bodies))) (has_id_below (suc (0 + length source.bodies))) (read_id (suc (0 + length source.bodies))) nodes
            (r.items (suc (0 + length source.bodies)) (known_there (suc (0 + length source.bodies)) (omega arith))).read);
        leaves = all_more (leaves_fit false) source.bodies nodes so_far.leaves (ap (λ l. leaves_fit (is_inside_do l) nodes) (sym so_far.nest) ∙ r.leaves);
        no_go = λ l. all_more (everywhere is_not_go) source.bodies nodes (so_far.no_go (still_lacks (sym r.words) l)) (r.no_go (still_lacks (sym r.words) l));
        weight = omega (arith, weights_more source.bodies nodes, w, so_far.weight);
        early = tt;
        tokens = omega (arith, tokens_more source.bodies nodes, r.tokens, two);
      }
      )

-- ---- definitions

-- what a definition or a word leaves behind a place
abbrev pub Behind : ParserState → Source → Type 0
Behind from next = SourceRead 0 next × (length next.at.rest ≤ length from.rest) × (next.at.words ≡ from.words)

module _ (keep : HostWordsKeep) (source : Source) (so_far : SourceRead 0 source) (named : Named) (q : NamedRead source.at named) (one : all_tokens source.bodies + 1 ≤ source.at.count) where
  abbrev pub there : Source
  there = placed source named.at

  read_there : SourceRead 0 there
  read_there = passes_on 0 source named.at so_far q.passed.goes q.passed.keeps

  ended_on : (nodes : Nodes) (e : Ending) (end : ParserState) → ItemsRead named.at (record { nodes = nodes; ending = e; at = end }) → Good (Behind source.at) (ended_by source named.name nodes end e)
  ended_on nodes ending.Semicolon end r =
      let kept = record (with_body source named.name nodes end) { before = before.More } in
      let more = body_more there read_there q.room (omega (arith, one, q.passed.count)) named.name nodes end r in (
        name_more kept named.name (known.Definition end.definitions) more
            (omega (arith, length-append source.bodies (nodes ∷ []), r.definitions, read_there.counted)),
        omega (arith, r.left, q.passed.left),
        r.words ∙ q.passed.goes.words,
      )
  ended_on nodes e end r = tt

  -- a defining word
  defining_more : (s : Source) (items : List HostItem) (part : Option ℕ) → SourceRead 1 s → PartBelow (length s.bodies) part → SourceRead 0 (with_defining s named.name items part)
  defining_more s items part h k =
      let named_too = name_more s named.name (known.Defining (length s.defining)) h tt in
      record {
        counted = named_too.counted;
        names = named_too.names;
        held = named_too.held;
        few = named_too.few;
        knows = record { others = named_too.knows.others; ticked = named_too.knows.ticked; sound = named_too.knows.sound; few = named_too.knows.few; light = named_too.knows.light };
        defining = parts_more (length s.bodies) s.defining (record { items = items; part = part }) h.defining k;
        nest = named_too.nest;
        items = named_too.items;
        back = named_too.back;
        leaves = named_too.leaves;
        no_go = named_too.no_go;
        weight = named_too.weight;
        early = tt;
        tokens = named_too.tokens;
      }

  module _ (part : HostPart) (p : PartRead named.at part) where
    abbrev behind : Source
    behind = placed source (record part.at { does = true })

    read_behind : SourceRead 0 behind
    read_behind = passes_on 0 there (record part.at { does = true }) read_there (goes_does named.at part.at true p.goes) (keeps_does named.at part.at true p.keeps)

    part_on : (nodes : Nodes) (e : Ending) (end : ParserState) → ItemsRead behind.at (record { nodes = nodes; ending = e; at = end }) → Good (Behind source.at) (part_by source named.name part.items nodes end e)
    part_on nodes ending.Semicolon end r =
        let room : length part.at.entries < 512 = omega (arith, ap length p.goes.entries, q.room) in
        let two : all_tokens source.bodies + 2 ≤ part.at.count = omega (arith, one, q.passed.count, p.goes.count) in (
          defining_more (record (with_body source named.name nodes end) { before = before.More }) part.items (Some end.definitions) (body_more behind read_behind room two named.name nodes end r)
              (omega (arith, length-append source.bodies (nodes ∷ []), r.definitions, read_behind.counted)),
          omega (arith, r.left, p.goes.left, q.passed.left),
          r.words ∙ p.goes.words ∙ q.passed.goes.words,
        )
    part_on nodes e end r = tt

    does_on : (n : ℕ) (does : Bool) → length part.at.rest < n →
        Good (Behind source.at) (elim does [
          | true ↦ items_at n (record part.at { does = true }) >>= λ many. part_by source named.name part.items many.nodes many.at many.ending
          | false ↦ Fine (with_defining (placed source part.at) named.name part.items None)
        ])
    does_on n true h =
        good_then (ItemsRead behind.at) (Behind source.at) (items_at n behind.at) _ (items_read keep n behind.at h)
        (λ many r. part_on many.nodes many.ending many.at r)
    does_on n false h = (
      defining_more (placed source part.at) part.items None
          (one_due (placed source part.at) (omega (arith, ap length p.goes.entries, q.room)) (passes_on 0 there part.at read_there p.goes p.keeps)) tt,
      omega (arith, p.goes.left, q.passed.left),
      p.goes.words ∙ q.passed.goes.words,
    )

  create_on : (n : ℕ) (seen : ReadToken) (create : Bool) → TokenRead named.at seen → length named.at.rest < n →
      Good (Behind source.at) (elim create [
        | true ↦ defining_at n source named.name seen.at
        | false ↦ items_by (items_at n) n seen.at seen.sense >>= λ many. ended_by source named.name many.nodes many.at many.ending
      ])
  create_on n seen true t h =
      good_then (PartRead named.at) (Behind source.at) (host_part_at n seen.at) _
      (good_weaker (PartRead seen.at) (PartRead named.at) (λ part p. passed_then named.at seen.at part.at t.passed p) (host_part_at n seen.at) (host_part_read keep n seen.at (omega (arith, t.passed.left, h))))
      (λ part p. does_on part p n part.does (omega (arith, p.left, h)))
  create_on n seen false t h =
      good_then (ItemsRead named.at) (Behind source.at) (items_by (items_at n) n seen.at seen.sense) _ (items_from_read keep n named.at seen t (omega (arith, t.passed.left, h)))
      (λ many r. ended_on many.nodes many.ending many.at r)

pub definition_read : (keep : HostWordsKeep) (source : Source) → SourceRead 0 source → all_tokens source.bodies + 1 ≤ source.at.count → (n : ℕ) → length source.at.rest < n →
    Good (Behind source.at) (definition_at n source source.at)
definition_read keep source so_far one n h =
    good_then (NamedRead source.at) (Behind source.at) (name_at source.at) _ (named_read source.at)
    (λ named q. good_then (TokenRead named.at) (Behind source.at) (token_at named.at) _ (token_read named.at)
    (λ seen t. create_on keep source so_far named q one n seen (is_create seen.sense) t (omega (arith, q.passed.left, h))))
