-- What holds of the program of a text.
use Rattle.std.proofs.Common.{◌≡◌, ℕ, zero, suc, ◌+◌, ◌<◌, List, [], length, true, Option, Some, None, refl, ◌∙◌, subst, arith}
use Rattle.std.specs.Prelude.{codes}
use Rattle.console_ports.specs.DataSpace.{IsDataStart}
use Rattle.word_table.specs.declared.word.Vocabulary.{Vocabulary}
use Rattle.word_table.specs.declared.word.Vocabulary.TheVariants as vocabulary
use Rattle.word_table.specs.Names.{SourcesLackGo}
use Rattle.forth_program.specs.Form.{IsProgram, has_id_below, may_stand, may_be_token, has_no_go}
use Rattle.forth_program.specs.Program.{SourceProgram}
use Rattle.forth_reader.specs.Reading.{next_from}
use Rattle.dictionary_core.specs.Pairs.{newest_value}
use Rattle.host_state.specs.declared.entry.Entry.{Entry}
use Rattle.host_state.specs.declared.entry.Known.{Known}
use Rattle.host_state.specs.declared.entry.Known.TheVariants as known
use Rattle.host_state.specs.Kept.{ImagesFit, SpacesBegin}
use Rattle.control_flow.specs.declared.refusal.SourceCause.TheVariants as cause
use Rattle.control_flow.specs.declared.outside_sense.OutsideSense.{OutsideSense}
use Rattle.control_flow.specs.Ticks.{token_nodes}
use Rattle.control_flow.specs.ParseResult.{ParserState, ParseResult, Fine, Refused, Endless, Each}
use Rattle.control_flow.specs.SourceText.{Source, outside_at}
use Rattle.control_flow.specs.SourceText.{outside_by, program_with, known_definition, main_of, program_of_source, source_by, source_at, source_start, program_in}
use Rattle.control_flow.specs.SourceLaw.{is_read, is_read_token, IsSource, EachIsJudged, EachProgramIsSource, SourcesHaveNoGo}
use Rattle.control_flow.proofs.Readings.{next_passes}
use Rattle.control_flow.proofs.Senses.{IsKnown, newest_below, LacksGo}
use Rattle.control_flow.proofs.Moves.{Good, good_then, good_is}
use Rattle.control_flow.proofs.HostFacts.{most_small}
use Rattle.control_flow.proofs.BodyFacts.{all_wider, read_id, read_stands, token_id, token_stands, each_wider, as_many}
use Rattle.control_flow.proofs.SourceFacts.{SourceRead, placed, passes_on}
use Rattle.control_flow.proofs.OutsideFacts.{HostLaws, Resumes, outside_on, OutsideRead, outside_read}

-- what holds of the program of a text in a vocabulary
abbrev pub IsRead : Vocabulary → SourceProgram → Type 0
IsRead words program = IsSource program × (LacksGo words → has_no_go program ≡ true)

-- ---- the end of the text

module _ (source : Source) (so_far : SourceRead 0 source) (fit : ImagesFit) where
  is_source : (main : ℕ) → main < length source.bodies → IsSource (program_with source.names source.bodies main source.at.count source.at.host)
  is_source main h =
      let N : ℕ = length source.bodies in
      let k = so_far.knows in
      let image = fit source.at.host.space.data_start source.at.host.tokens source.at.host k.sound.start.is_even k.sound.start.at_most k.sound.settled in
      record {
        form = record {
          named = so_far.names;
          few_bodies = omega (arith, so_far.few, so_far.held);
          few_tokens = omega (arith, as_many source.at.host.tokens, k.few, k.light, most_small source.at.host.space.data_start k.sound.start);
          main_in_range = h;
          ids_in_range = all_wider (is_read N) (has_id_below N) (read_id N) source.bodies so_far.items;
          token_ids_in_range = each_wider (is_read_token N) (has_id_below N) (token_id N) (token_nodes source.at.host.tokens) k.ticked;
          leaves_in_loops = so_far.leaves;
          words_allowed = all_wider (is_read N) may_stand (read_stands N) source.bodies so_far.items;
          tokens_allowed = each_wider (is_read_token N) may_be_token (token_stands N) (token_nodes source.at.host.tokens) k.ticked;
          data_start = k.sound.start;
          space_fits = image.1;
        };
        few = omega (arith, so_far.few, so_far.held);
        items = so_far.items;
        token_items = k.ticked;
        light = omega (arith, so_far.weight, k.light);
        counted = so_far.tokens;
        bytes = image.0;
        calls_back = so_far.back;
      }

  known_main : (k : Known) (main : ℕ) → IsKnown (length source.bodies) k → known_definition k ≡ Some main → main < length source.bodies
  known_main (known.Definition definition) main h e =
      let is : definition ≡ main = cc in
      subst (λ n. n < length source.bodies) is h
  known_main k main h e = absurd cc

  found_main : (found : Option Entry) (main : ℕ) → newest_value source.at.entries (codes "MAIN") ≡ found → main_of found ≡ Some main → main < length source.bodies
  found_main (Some entry) main e f = known_main entry.known main (newest_below (length source.bodies) source.at.entries (codes "MAIN") entry so_far.knows.others e) f
  found_main None main e f = absurd cc

  main_on : (o : Option ℕ) → main_of (newest_value source.at.entries (codes "MAIN")) ≡ o →
      Good (IsRead source.at.words) (elim o [ Some main ↦ Fine (program_with source.names source.bodies main source.at.count source.at.host) | None ↦ Refused (source.at.count + 1) cause.NoMain ])
  main_on (Some main) e = (is_source main (found_main (newest_value source.at.entries (codes "MAIN")) main refl e), so_far.no_go)
  main_on None e = tt

  program_read : Good (IsRead source.at.words) (program_of_source source source.at)
  program_read = main_on (main_of (newest_value source.at.entries (codes "MAIN"))) refl

module _ (laws : HostLaws) (words : Vocabulary) (n : ℕ) (source : Source) (so_far : SourceRead 0 source) (same : source.at.words ≡ words) (h : length source.at.rest < suc n)
    (goes : (next : Source) → SourceRead 0 next → next.at.words ≡ words → length next.at.rest < n → Good (IsRead words) (source_at n next)) where
  token_on : (at : ParserState) (found : Option OutsideSense) → OutsideRead source.at (record { sense = found; at = at }) → Good (IsRead words) (source_by (source_at n) n source (record { sense = found; at = at }))
  token_on at None o = subst (λ v. Good (IsRead v) (program_of_source (placed source at) at)) (o.goes.words ∙ same) (program_read (placed source at) (passes_on 0 source at so_far o.goes o.keeps) laws.fit)
  token_on at (Some sense) o =
      let p = o.passed sense refl in
      let there = placed source at in
      good_then (Resumes laws there (passes_on 0 source at so_far o.goes o.keeps)) (IsRead words) (outside_by n there at sense) _
      (outside_on laws there (passes_on 0 source at so_far o.goes o.keeps) n sense (omega (arith, so_far.tokens, p.0)) (omega (arith, p.1, h)))
      (λ next d. goes next d.0 (d.2 ∙ o.goes.words ∙ same) (omega (arith, d.1, p.1, h)))

pub source_read : HostLaws → (words : Vocabulary) (n : ℕ) (source : Source) → SourceRead 0 source → source.at.words ≡ words → length source.at.rest < n → Good (IsRead words) (source_at n source)
unfolding source_at
source_read laws words zero source s e h = absurd (omega arith)
source_read laws words (suc n) source s e h =
    good_then (OutsideRead source.at) (IsRead words) (outside_at source.at) _
    (outside_read source.at (next_from source.at.count source.at.rest) (next_passes source.at.count (length source.at.rest) source.at.count source.at.rest (omega arith) (omega arith)))
    (λ outside o. token_on laws words n source s e h (source_read laws words n) outside.at outside.sense o)

first_start : IsDataStart 8192
first_start = record { is_even = refl; at_least = omega arith; at_most = omega arith }

started_read : SpacesBegin → (words : Vocabulary) (text : List ℕ) → SourceRead 0 (source_start words text)
started_read begin words text = record {
  counted = refl;
  names = refl;
  held = omega arith;
  few = omega arith;
  defining = tt;
  early = refl;
  knows = record { others = tt; ticked = refl; sound = record { start = first_start; settled = begin 8192 [] [] refl (omega arith) tt }; few = omega arith; light = omega arith };
  nest = refl;
  items = refl;
  back = refl;
  leaves = refl;
  no_go = λ l. refl;
  weight = omega arith;
  tokens = omega arith;
}

pub text_read : HostLaws → (words : Vocabulary) (text : List ℕ) → Good (IsRead words) (program_in words text)
text_read laws words text = source_read laws words (suc (length text)) (source_start words text) (started_read laws.begin words text) refl (omega arith)

pub judged : HostLaws → EachIsJudged
judged laws words text e = subst (Good (IsRead words)) e (text_read laws words text)

pub programs_are_sources : HostLaws → EachProgramIsSource
programs_are_sources laws words text program e = (good_is (IsRead words) (program_in words text) program e (text_read laws words text)).0

pub sources_have_no_go : HostLaws → SourcesLackGo → SourcesHaveNoGo
sources_have_no_go laws lacks text program e = (good_is (IsRead vocabulary.Source) (program_in vocabulary.Source text) program e (text_read laws vocabulary.Source text)).1 lacks

pub program_form : (words : Vocabulary) (o : ParseResult SourceProgram) → Good (IsRead words) o → Each IsProgram o
program_form words (Fine program) h = h.0.form
program_form words (Refused k c) h = tt
program_form words Endless h = tt
