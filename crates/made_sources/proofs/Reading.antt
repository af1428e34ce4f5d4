-- Made sources are read, definition by definition.
use Rattle.std.proofs.Common.{◌≡◌, ℕ, zero, suc, ◌+◌, ◌-◌, ◌*◌, ◌%◌, ◌<◌, ◌≤◌, true, false, List, [], ◌∷◌, ◌++◌, length, Some, None, refl, sym, ap, subst, ◌∙◌, arith, lt-ltb, append_assoc, length-append}
use Rattle.std.proofs.Math.Numerals.{add-one}
use Rattle.std.specs.Prelude.{codes, decimal}
use Rattle.std.specs.Str.{str_to_ascii_lowercase}
use Rattle.word_table.specs.declared.word.Word.TheVariants as word
use Rattle.word_table.specs.declared.word.Vocabulary.TheVariants as vocabulary
use Rattle.word_table.specs.Table.{entry_of}
use Rattle.word_table.specs.Names.{word_named}
use Rattle.forth_program.specs.Tree.{Nodes, Literal, Plain, Call, Then}
use Rattle.forth_reader.specs.declared.number.NumberRead.TheVariants.{Value}
use Rattle.forth_reader.specs.Reading.{may_follow_token, next_from}
use Rattle.forth_reader.specs.Splitting.{NextIsComputed, NameIsComputed}
use Rattle.dictionary_core.specs.Pairs.{pair, newest_value}
use Rattle.control_flow.specs.declared.refusal.SourceCause.TheVariants as cause
use Rattle.control_flow.specs.declared.nest.Ending.TheVariants as ending
use Rattle.control_flow.specs.ParseResult.{ParserState, ParseResult, Fine, Refused, ◌>>=◌}
use Rattle.control_flow.specs.Sense.{number_sense, sense_in, is_create}
use Rattle.control_flow.specs.ReadTokens.{base_at, ReadToken, token_at, Named, spelled_at}
use Rattle.control_flow.specs.Items.{Many, alone, then_items, items_by, items_at}
use Rattle.control_flow.specs.SourceText.{Source, before_by, defining_at, definition_by, definition_named, ended_by, with_definition, program_with, main_of, first_host, outside_of, outside_at}
use Rattle.control_flow.specs.OutsideSense.{outside_sense_by, outside_sense_in}
use Rattle.control_flow.specs.OutsideWords.{definable}
use Rattle.control_flow.specs.SourceText.{source_by, source_at, beginning, source_start, program_of_text}
use Rattle.made_sources.specs.MadeSource.{next_number, operation, definition, definitions, calls, made_source}
use Rattle.made_sources.specs.MadeProgram.{number_at, operation_word, number_body, made_name, names_to, bodies_to, calls_and_print, made_program}
use Rattle.made_sources.specs.Laws.{MadeSourcesAreRead}
use Rattle.made_sources.proofs.Figures.{short, number_is}
use Rattle.made_sources.proofs.Names.{entries_to, made_entry, is_numbered, number_is_no_word, name_is_no_word, newest_behind, not_found, number_not_found, found}
use Rattle.made_sources.proofs.Tokens.{IsToken, is_token, name_token, number_token, token_is, name_is, behind, item_then, items_end, call_item, number_is_sense, number_item, word_item}

-- ---- the operations

operation_token : (kind : ℕ) → IsToken (operation kind)
operation_token zero = is_token (operation 0) (omega arith) (omega arith) refl refl refl
operation_token (suc zero) = is_token (operation 1) (omega arith) (omega arith) refl refl refl
operation_token (suc (suc zero)) = is_token (operation 2) (omega arith) (omega arith) refl refl refl
operation_token (suc (suc (suc kind))) = is_token (operation 3) (omega arith) (omega arith) refl refl refl

end_token : IsToken (59 ∷ [])
end_token = is_token (59 ∷ []) (omega arith) (omega arith) refl refl refl

-- a token that no definition has as its name
unknown : (at : ParserState) (token : List ℕ) (place : ℕ) → at.entries ≡ entries_to place → place ≤ 200 → is_numbered (str_to_ascii_lowercase token) ≡ false → newest_value at.entries token ≡ None
unknown at token place entries small differs = ap (λ e. newest_value e token) entries ∙ not_found token place small differs

operation_item : (kind place : ℕ) (at seen : ParserState) (go : ParserState → ParseResult Many) (m : ℕ) → at.entries ≡ entries_to place → place ≤ 200 → at.words ≡ vocabulary.Source →
    items_by go m seen (sense_in at.words at.entries (base_at at) (operation kind)) ≡ then_items go (alone (entry_of (operation_word kind)).weight (Plain (operation_word kind)) seen)
operation_item zero place at seen go m entries small source = word_item at seen (operation 0) go m word.Plus 1 (unknown at (operation 0) place entries small refl) source refl
operation_item (suc zero) place at seen go m entries small source = word_item at seen (operation 1) go m word.Xor 1 (unknown at (operation 1) place entries small refl) source refl
operation_item (suc (suc zero)) place at seen go m entries small source = word_item at seen (operation 2) go m word.Minus 4 (unknown at (operation 2) place entries small refl) source refl
operation_item (suc (suc (suc kind))) place at seen go m entries small source = word_item at seen (operation 3) go m word.Star 1 (unknown at (operation 3) place entries small refl) source refl

light_operation : (kind : ℕ) → (entry_of (operation_word kind)).weight ≤ 4
light_operation zero = omega arith
light_operation (suc zero) = omega arith
light_operation (suc (suc zero)) = omega arith
light_operation (suc (suc (suc kind))) = omega arith

-- ---- a definition

-- ` V OP ;`
abbrev number_text : ℕ → List ℕ → List ℕ
number_text v more = 32 ∷ (decimal v ++ (32 ∷ (operation (v % 4) ++ (32 ∷ 59 ∷ 10 ∷ more))))

line_is : (place v : ℕ) (more : List ℕ) → definition place v ++ more ≡ 58 ∷ 32 ∷ (made_name place ++ number_text v more)
line_is place v more = simp append_assoc

-- behind a `:`
colon_is : (at : ParserState) (more : List ℕ) → next_from at.count at.rest ≡ next_from at.count (58 ∷ 32 ∷ more) → newest_value at.entries (58 ∷ []) ≡ None → at.words ≡ vocabulary.Source →
    outside_at at ≡ Fine (record { sense = Some (outside_sense_by 10 (58 ∷ []) (word_named (58 ∷ []))); at = behind at (32 ∷ more) })
colon_is at more same none source = ap (outside_of at) same ∙ ap (λ sense. Fine (record { sense = Some sense; at = behind at (32 ∷ more) })) begins
  where
    begins : outside_sense_in at.words at.entries (base_at at) (58 ∷ []) ≡ outside_sense_by 10 (58 ∷ []) (word_named (58 ∷ []))
    begins = rw (none, source, outside_sense_in) refl

definable_is : (named : Named) → word_named named.name ≡ None → length named.at.entries < 512 → definable named ≡ Fine named
definable_is named none few = rw (none, lt-ltb (length named.at.entries) 512 few, definable) refl

-- a definition whose items are read, and whose first token is no CREATE
named_definition : (n : ℕ) (source : Source) (named : ParserState) (name : List ℕ) (first : ReadToken) (many : Many) →
    token_at named ≡ Fine first → is_create first.sense ≡ false → items_at (suc n) named ≡ Fine many →
    definition_named n source (record { name = name; at = named }) ≡ ended_by source name many.nodes many.at many.ending
unfolding items_at
named_definition n source named name first many read other items =
    let by_first : (token_at named >>= λ seen. items_by (items_at n) n seen.at seen.sense) ≡ items_by (items_at n) n first.at first.sense = ap (λ r. r >>= λ seen. items_by (items_at n) n seen.at seen.sense) read in
    let same : items_by (items_at n) n first.at first.sense ≡ Fine many = sym by_first ∙ items in
    ap (λ r. r >>= definition_by n source name) read
    ∙ ap (λ t. elim t as (λ t. ParseResult Source) [ true ↦ defining_at n source name first.at | false ↦ items_by (items_at n) n first.at first.sense >>= λ many. ended_by source name many.nodes many.at many.ending ]) other
    ∙ ap (λ r. r >>= λ many. ended_by source name many.nodes many.at many.ending) same

-- the source behind it
defined : (n : ℕ) (source : Source) (at named after : ParserState) (name : List ℕ) (nodes : Nodes) (first : ReadToken) →
    outside_at source.at ≡ Fine (record { sense = Some (outside_sense_by 10 (58 ∷ []) (word_named (58 ∷ []))); at = at }) →
    spelled_at at ≡ Fine (record { name = name; at = named }) →
    definable (record { name = name; at = named }) ≡ Fine (record { name = name; at = named }) →
    token_at named ≡ Fine first →
    is_create first.sense ≡ false →
    items_at (suc n) named ≡ Fine (record { nodes = nodes; ending = ending.Semicolon; at = after }) →
    source_at (suc n) source ≡ source_at n (with_definition source name nodes after)
unfolding source_at
defined n source at named after name nodes first outside spelled free read other items =
    ap (λ r. r >>= source_by (source_at n) n source) outside
    ∙ ap (λ r. r >>= definable >>= definition_named n source >>= source_at n) spelled
    ∙ ap (λ r. r >>= definition_named n source >>= source_at n) free
    ∙ ap (λ r. r >>= source_at n) (named_definition n source named name first _ read other items)

few_entries : (place : ℕ) → length (entries_to place) ≡ place
few_entries zero = refl
few_entries (suc place) = simp length-append (let r = few_entries place in omega arith)

-- ---- the state at a place

abbrev operation_weight : ℕ → ℕ
operation_weight v = (entry_of (operation_word (v % 4))).weight

abbrev weight_to : ℕ → ℕ → ℕ
weight_to seed zero = 0
weight_to seed (suc place) = weight_to seed place + 2 + operation_weight (number_at seed (suc place)) + 1

abbrev count_to : ℕ → ℕ
count_to zero = 0
count_to (suc place) = count_to place + 1 + 1 + 1 + 1 + 1

light_to : (seed place : ℕ) → weight_to seed place ≤ 7 * place
light_to seed zero = omega arith
light_to seed (suc place) = let r = light_to seed place in let o = light_operation (number_at seed (suc place) % 4) in omega (arith, o)

tokens_to : (place : ℕ) → count_to place ≡ 5 * place
tokens_to zero = refl
tokens_to (suc place) = let r = tokens_to place in omega arith

-- behind the definitions up to a place, which are so many
abbrev state_with : ℕ → ℕ → ℕ → List ℕ → ParserState
state_with seed place definitions rest = record (beginning vocabulary.Source rest) { count = count_to place; weight = weight_to seed place; entries = entries_to place; definitions = definitions }

abbrev source_with : ℕ → ℕ → ℕ → List ℕ → Source
source_with seed place definitions rest = record (source_start vocabulary.Source rest) {
  at = state_with seed place definitions rest;
  names = names_to place;
  bodies = bodies_to seed place;
  before = elim place [ zero ↦ (source_start vocabulary.Source []).before | suc earlier ↦ before_by (source_start vocabulary.Source []).before false ];
}

abbrev source_to : ℕ → ℕ → List ℕ → Source
source_to seed place rest = source_with seed place place rest

below_range : (seed place : ℕ) → number_at seed (suc place) < 65536
below_range seed place = omega arith

module _ (next : NextIsComputed) (names : NameIsComputed) where
  number_items : (n v place : ℕ) (at : ParserState) (more : List ℕ) → at.rest ≡ number_text v more → v < 65536 → at.entries ≡ entries_to place → place ≤ 200 → at.words ≡ vocabulary.Source →
      sense_in at.words at.entries (base_at at) (decimal v) ≡ number_sense (Value v) → at.nest ≡ [] → at.host.space.data_start ≡ 8192 → at.weight ≤ 2390 →
      items_at (suc (suc (suc n))) at ≡ Fine
      (record { nodes = number_body v; ending = ending.Semicolon; at = record at { rest = 10 ∷ more; count = at.count + 1 + 1 + 1; nest = []; weight = at.weight + 2 + operation_weight v + 1 } })
  number_items n v place at more text h entries small source is outside start light =
      let a = behind at (32 ∷ (operation (v % 4) ++ (32 ∷ 59 ∷ 10 ∷ more))) in
      let b = behind (record a { weight = a.weight + 2 }) (32 ∷ 59 ∷ 10 ∷ more) in
      let c = behind (record b { weight = b.weight + operation_weight v }) (10 ∷ more) in
      let o = light_operation (v % 4) in
      item_then (suc (suc n)) at a (decimal v) 2 (Literal v) _
      (token_is next names at (decimal v) (32 ∷ (operation (v % 4) ++ (32 ∷ 59 ∷ 10 ∷ more))) text (number_token v h) refl)
      (λ go m. number_item at a (decimal v) go m v is) (omega (arith, start, light))
      (item_then (suc n) (record a { weight = a.weight + 2 }) b (operation (v % 4)) (operation_weight v) (Plain (operation_word (v % 4))) _
      (token_is next names (record a { weight = a.weight + 2 }) (operation (v % 4)) (32 ∷ 59 ∷ 10 ∷ more) refl (operation_token (v % 4)) refl)
      (λ go m. operation_item (v % 4) place (record a { weight = a.weight + 2 }) b go m entries small source) (omega (arith, start, light, o))
      (items_end n (record b { weight = b.weight + operation_weight v }) c
      (token_is next names (record b { weight = b.weight + operation_weight v }) (59 ∷ []) (10 ∷ more) refl end_token refl)
      (unknown (record b { weight = b.weight + operation_weight v }) (59 ∷ []) place entries small refl) source outside (omega (arith, start, light, o))))

  -- one definition more
  definition_read : (n seed place : ℕ) (rest more : List ℕ) → place < 200 →
      next_from (count_to place) rest ≡ next_from (count_to place) (definition (place + 1) (number_at seed (suc place)) ++ more) →
      source_at (suc (suc (suc (suc n)))) (source_to seed place rest) ≡ source_at (suc (suc (suc n))) (source_to seed (suc place) (10 ∷ more))
  definition_read n seed place rest more small same =
      let v = number_at seed (suc place) in
      let at = behind (state_with seed place place rest) (32 ∷ (made_name (place + 1) ++ number_text v more)) in
      let named = behind at (number_text v more) in
      let few = few_entries place in
      let light = light_to seed place in
      let first = behind named (32 ∷ (operation (v % 4) ++ (32 ∷ 59 ∷ 10 ∷ more))) in
      let is : sense_in named.words named.entries (base_at named) (decimal v) ≡ number_sense (Value v) =
      number_is_sense named (decimal v) v (number_not_found v place (below_range seed place) (omega arith)) (number_is_no_word v (below_range seed place)) refl (number_is v (below_range seed place)) in
      defined (suc (suc (suc n))) (source_to seed place rest) at named _ (made_name (place + 1)) (number_body v) (record { sense = sense_in named.words named.entries (base_at named) (decimal v); at = first })
      (colon_is (state_with seed place place rest) (made_name (place + 1) ++ number_text v more) (same ∙ ap (next_from (count_to place)) (line_is (place + 1) v more))
      (unknown (state_with seed place place rest) (58 ∷ []) place refl (omega arith) refl) refl)
      (name_is next names at (made_name (place + 1)) (number_text v more) refl (name_token (place + 1) (omega arith)) refl)
      (definable_is (record { name = made_name (place + 1); at = named }) (name_is_no_word (place + 1) (omega arith)) (omega (arith, few)))
      (token_is next names named (decimal v) (32 ∷ (operation (v % 4) ++ (32 ∷ 59 ∷ 10 ∷ more))) refl (number_token v (below_range seed place)) refl)
      (ap is_create is)
      (number_items (suc n) v place named more refl (below_range seed place) refl (omega arith) refl is refl refl (omega (arith, light)))
      ∙ ap (λ d. source_at (suc (suc (suc n))) (source_with seed (suc place) d (10 ∷ more))) (add-one place)

-- ---- all definitions

-- so much fuel more
abbrev more_fuel : ℕ → ℕ → ℕ
more_fuel zero n = n
more_fuel (suc count) n = suc (more_fuel count n)

more_is : (count n : ℕ) → more_fuel count n ≡ count + n
more_is zero n = omega arith
more_is (suc count) n = let r = more_is count n in omega arith

-- from a place on so many definitions are read, up to a last one. What is left begins where the last line ends
record DefinitionsRead (n seed place count last : ℕ) (rest behind : List ℕ) : Type 0 where
  left : List ℕ
  reads : source_at (suc (suc (suc (suc (more_fuel count n))))) (source_to seed place rest) ≡ source_at (suc (suc (suc (suc n)))) (source_to seed last left)
  same : next_from (count_to last) left ≡ next_from (count_to last) behind

-- the text of the print and the end of MAIN
abbrev print_text : List ℕ
print_text = codes " U. ;\n"

call_text : (count place : ℕ) → calls (suc count) place ++ print_text ≡ 32 ∷ (made_name place ++ (calls count (place + 1) ++ print_text))
call_text count place = simp append_assoc

calls_follow : (count place : ℕ) → may_follow_token (calls count place ++ print_text) ≡ true
calls_follow zero place = refl
calls_follow (suc count) place = refl

module _ (next : NextIsComputed) (names : NameIsComputed) where
  definitions_read : (count n seed place last : ℕ) (rest behind : List ℕ) → place + count ≡ last → last ≤ 200 →
      next_from (count_to place) rest ≡ next_from (count_to place) (definitions count (place + 1) (number_at seed place) ++ behind) → DefinitionsRead n seed place count last rest behind
  definitions_read zero n seed place last rest behind sum small same =
      let e : place ≡ last = omega arith in
      record { left = rest; reads = ap (λ p. source_at (suc (suc (suc (suc n)))) (source_to seed p rest)) e; same = subst (λ p. next_from (count_to p) rest ≡ next_from (count_to p) behind) e same }
  definitions_read (suc count) n seed place last rest behind sum small same =
      let v = number_at seed (suc place) in
      let others = definitions count (place + 1 + 1) v ++ behind in
      let first = definition_read next names (suc (more_fuel count n)) seed place rest others (omega arith)
      (same ∙ ap (next_from (count_to place)) (append_assoc (definition (place + 1) v) (definitions count (place + 1 + 1) v) behind)) in
      let r = definitions_read count n seed (suc place) last (10 ∷ others) behind (omega arith) small (ap (λ p. next_from (count_to (suc place)) (definitions count (p + 1) v ++ behind)) (add-one place)) in
      record { left = r.left; reads = first ∙ r.reads; same = r.same }

  -- the calls of MAIN and its print
  calls_read : (count definition last k : ℕ) (at : ParserState) (tokens weight : ℕ) → at.rest ≡ calls count (definition + 1) ++ print_text → at.entries ≡ entries_to last → definition + count ≡ last → last ≤ 200 →
      at.words ≡ vocabulary.Source → at.nest ≡ [] →
      at.host.space.data_start ≡ 8192 → at.weight + count ≤ 2390 → tokens ≡ at.count + count + 2 → weight ≡ at.weight + count + 2 →
      items_at (suc (suc (more_fuel count k))) at ≡ Fine (record { nodes = calls_and_print count definition; ending = ending.Semicolon; at = record at { rest = 10 ∷ []; count = tokens; nest = []; weight = weight } })
  calls_read zero definition last k at tokens weight text entries sum small source outside start light counted weighed =
      let a = behind at (32 ∷ 59 ∷ 10 ∷ []) in
      let b = record a { weight = a.weight + 1 } in
      let c = behind b (10 ∷ []) in
      let t : at.count + 1 + 1 ≡ tokens = omega arith in
      let w : at.weight + 1 + 1 ≡ weight = omega arith in
      item_then (suc k) at a (codes "U.") 1 (Plain word.UDot) _
      (token_is next names at (codes "U.") (32 ∷ 59 ∷ 10 ∷ []) text (is_token (codes "U.") (omega arith) (omega arith) refl refl refl) refl)
      (λ go m. word_item at a (codes "U.") go m word.UDot 1 (unknown at (codes "U.") last entries small refl) source refl) (omega (arith, start, light))
      (items_end k b c (token_is next names b (59 ∷ []) (10 ∷ []) refl end_token refl) (unknown b (59 ∷ []) last entries small refl) source outside (omega (arith, start, light)))
      ∙ ap (λ t. Fine (record { nodes = calls_and_print zero definition; ending = ending.Semicolon; at = record at { rest = 10 ∷ []; count = t; nest = []; weight = at.weight + 1 + 1 } })) t
      ∙ ap (λ w. Fine (record { nodes = calls_and_print zero definition; ending = ending.Semicolon; at = record at { rest = 10 ∷ []; count = tokens; nest = []; weight = w } })) w
  calls_read (suc count) definition last k at tokens weight text entries sum small source outside start light counted weighed =
      let a = behind at (calls count (definition + 1 + 1) ++ print_text) in
      let b = record a { weight = a.weight + 1 } in
      item_then (suc (suc (more_fuel count k))) at a (made_name (definition + 1)) 1 (Call definition) _
      (token_is next names at (made_name (definition + 1)) (calls count (definition + 1 + 1) ++ print_text) (text ∙ call_text count (definition + 1)) (name_token (definition + 1) (omega arith))
      (calls_follow count (definition + 1 + 1)))
      (λ go m. call_item at a (made_name (definition + 1)) go m definition (ap (λ e. newest_value e (made_name (definition + 1))) entries ∙ found definition last small (omega arith))) (omega (arith, start, light))
      (calls_read count (definition + 1) last k b tokens weight refl entries (omega arith) small source outside start (omega (arith, light)) (omega (arith, counted)) (omega (arith, weighed)))

  -- MAIN, and then the end of the text
  main_read : (seed count k : ℕ) (rest : List ℕ) → count ≤ 200 → next_from (count_to count) rest ≡ next_from (count_to count) (codes ": MAIN 1" ++ (calls count 1 ++ print_text)) →
      source_at (suc (suc (suc (suc (more_fuel count k))))) (source_to seed count rest) ≡ Fine (made_program seed count)
  unfolding source_at
  main_read seed count k rest small same =
      let front = state_with seed count count rest in
      let at = behind front (codes " MAIN 1" ++ (calls count 1 ++ print_text)) in
      let named = behind at (codes " 1" ++ (calls count 1 ++ print_text)) in
      let one = behind named (calls count 1 ++ print_text) in
      let b = record one { weight = one.weight + 2 } in
      let after = record b { rest = 10 ∷ []; count = b.count + count + 2; nest = []; weight = b.weight + count + 2 } in
      let few = few_entries count in
      let light = light_to seed count in
      let counted = tokens_to count in
      let nodes = Then (Literal 1) (calls_and_print count 0) in
      let t : count_to count + 1 + 1 + 1 + count + 2 ≡ 6 * count + 5 = omega arith in
      let is : sense_in named.words named.entries (base_at named) (codes "1") ≡ number_sense (Value 1) = number_is_sense named (codes "1") 1 (unknown named (codes "1") count refl small refl) refl refl refl in
      let read = token_is next names named (codes "1") (calls count 1 ++ print_text) refl (is_token (codes "1") (omega arith) (omega arith) refl refl refl) (calls_follow count 1) in
      defined (suc (suc (suc (more_fuel count k)))) (source_to seed count rest) at named after (codes "MAIN") nodes (record { sense = sense_in named.words named.entries (base_at named) (codes "1"); at = one })
      (colon_is front (codes "MAIN 1" ++ (calls count 1 ++ print_text)) same (unknown front (58 ∷ []) count refl small refl) refl)
      (name_is next names at (codes "MAIN") (codes " 1" ++ (calls count 1 ++ print_text)) refl (is_token (codes "MAIN") (omega arith) (omega arith) refl refl refl) refl)
      (definable_is (record { name = codes "MAIN"; at = named }) refl (omega (arith, few)))
      read
      (ap is_create is)
      (ap (λ f. items_at (suc (suc (suc f))) named) (let a = more_is count k in let b = more_is count (suc k) in omega arith)
      ∙ item_then (suc (suc (more_fuel count (suc k)))) named one (codes "1") 2 (Literal 1) _
      read
      (λ go m. number_item named one (codes "1") go m 1 is) (omega (arith, light))
      (calls_read count 0 count (suc k) b (b.count + count + 2) (b.weight + count + 2) refl refl (omega arith) small refl refl refl (omega (arith, light)) refl refl))
      ∙ ap (λ main. elim (main_of main) [ Some m ↦ Fine (program_with (names_to count ++ codes "MAIN" ∷ []) (bodies_to seed count ++ nodes ∷ []) m after.count first_host) | None ↦ Refused (after.count + 1) cause.NoMain ])
      (newest_behind (entries_to count) (pair (codes "MAIN") (made_entry count)) (codes "MAIN"))
      ∙ ap (λ t. Fine (program_with (names_to count ++ codes "MAIN" ∷ []) (bodies_to seed count ++ nodes ∷ []) count t first_host)) t

-- ---- how long the text is

calls_long : (count place : ℕ) → 2 * count ≤ length (calls count place)
calls_long zero place = omega arith
calls_long (suc count) place = let r = calls_long count (place + 1) in simp length-append (omega arith)

calls_short : (count place : ℕ) → place + count ≤ 1000 → length (calls count place) ≤ 7 * count
calls_short zero place small = omega arith
calls_short (suc count) place small = let r = calls_short count (place + 1) (omega arith) in let s = short place (omega arith) in simp length-append (omega arith)

operation_short : (kind : ℕ) → length (operation kind) ≤ 3
operation_short zero = omega arith
operation_short (suc zero) = omega arith
operation_short (suc (suc zero)) = omega arith
operation_short (suc (suc (suc kind))) = omega arith

definitions_short : (count place number : ℕ) → place + count ≤ 1000 → length (definitions count place number) ≤ 21 * count
definitions_short zero place number small = omega arith
definitions_short (suc count) place number small =
    let r = definitions_short count (place + 1) (next_number number) (omega arith) in
    let s = short place (omega arith) in
    let t = short (next_number number) (omega arith) in
    let o = operation_short (next_number number % 4) in
    simp length-append (omega arith)

source_short : (seed count : ℕ) → count ≤ 200 → length (made_source seed count) ≤ 65536
unfolding made_source
source_short seed count small = let d = definitions_short count 1 seed (omega arith) in let c = calls_short count 1 (omega arith) in simp length-append (omega arith)

source_long : (seed count : ℕ) → 2 * count + 3 ≤ length (made_source seed count)
unfolding made_source
source_long seed count = let c = calls_long count 1 in simp length-append (omega arith)

-- ---- the law

program_is : NextIsComputed → NameIsComputed → (seed count : ℕ) → count ≤ 200 → program_of_text (made_source seed count) ≡ Fine (made_program seed count)
unfolding made_source
program_is next names seed count small =
    let k = length (made_source seed count) - 3 - 2 * count in
    let long = source_long seed count in
    let inner = more_is count k in
    let outer = more_is count (more_fuel count k) in
    let fuel : suc (length (made_source seed count)) ≡ suc (suc (suc (suc (more_fuel count (more_fuel count k))))) = omega arith in
    let all = definitions_read next names count (more_fuel count k) seed 0 count (made_source seed count) (codes ": MAIN 1" ++ (calls count 1 ++ print_text)) (omega arith) small refl in
    ap (λ n. source_at n (source_start vocabulary.Source (made_source seed count))) fuel ∙ all.reads ∙ main_read next names seed count k all.left small all.same

pub sources_read : NextIsComputed → NameIsComputed → MadeSourcesAreRead
sources_read next names seed count small = (source_short seed count small, program_is next names seed count small)
