-- What is kept of a source while pieces are read.
use Rattle.std.proofs.Common.{◌≡◌, ℕ, suc, ◌+◌, ◌<◌, ◌≤◌, List, [], ◌++◌, length, take, drop, Option, Some, None, refl, sym, ap, ◌∙◌, subst, arith, length-append}
use Rattle.std.specs.Prelude.{codes, Result, Ok, Err}
use Rattle.std.proofs.lemmas.List.{append_assoc, take-append-drop}
use Rattle.std.proofs.Math.Seq.{take-append_seam, take-length}
use Rattle.word_table.specs.declared.word.Vocabulary.{Vocabulary}
use Rattle.word_table.specs.declared.word.Vocabulary.TheVariants as vocabulary
use Rattle.dictionary_core.specs.Pairs.{newest_value}
use Rattle.forth_program.specs.Program.{SourceProgram}
use Rattle.control_flow.specs.declared.refusal.SourceCause.TheVariants as cause
use Rattle.control_flow.specs.declared.refusal.SourceError.{SourceError}
use Rattle.control_flow.specs.declared.refusal.SourceError.TheVariants as error
use Rattle.control_flow.specs.declared.parser.Parser.{Parser}
use Rattle.control_flow.specs.declared.source.ReadSource.{ReadSource}
use Rattle.control_flow.specs.ParseResult.{ParseResult, Fine, Refused}
use Rattle.control_flow.specs.SourceText.{Source, program_with, main_of, source_start, program_of_source, program_in, program_of_text}
use Rattle.control_flow.specs.Answers.{parser_state, source_of, IsReadyParser, IsCounted, FailsAs, AnswersAs}
use Rattle.control_flow.specs.Pieces.{read_at, source_in, source_of_text, LacksOnlyMain, IsReadable, with_piece, CannotBeRead, LacksMain}
use Rattle.control_flow.specs.ReadingState.{BeginsWith, Grows, IsReadTo, KeepsRead}
use Rattle.control_flow.proofs.ItemLists.{fails_then, fails_as}
use Rattle.control_flow.proofs.SourceMore.{ended, program_of_end, ReadOn, read_on, refused_before}

split : {A : Type 0} (front list : List A) → BeginsWith front list → list ≡ front ++ drop (length front) list
split front list b = sym (take-append-drop (length front) list) ∙ ap (λ l. l ++ drop (length front) list) b

pub begins_then : {A : Type 0} (old mid new : List A) → BeginsWith old mid → BeginsWith mid new → BeginsWith old new
begins_then old mid new b c =
    ap (take (length old)) (split mid new c ∙ ap (λ l. l ++ drop (length mid) new) (split old mid b) ∙ append_assoc old (drop (length old) mid) (drop (length mid) new))
    ∙ take-append_seam old (drop (length old) mid ++ drop (length mid) new)

pub begins_same : {A : Type 0} (old new : List A) → new ≡ old → BeginsWith old new
begins_same old new e = ap (take (length old)) e ∙ take-length old

pub begins_length : {A : Type 0} (old new : List A) → BeginsWith old new → length old ≤ length new
begins_length old new b = omega (arith, ap length (split old new b), length-append old (drop (length old) new))

pub grows_then : (old mid new : ReadSource) → Grows old mid → Grows mid new → Grows old new
grows_then old mid new g h = record {
  names = begins_then _ _ _ g.names h.names;
  bodies = begins_then _ _ _ g.bodies h.bodies;
  defining = begins_then _ _ _ g.defining h.defining;
  entries = begins_then _ _ _ g.entries h.entries;
}

-- another place, with the same entries
pub same_entries : (old : ReadSource) (parser : Parser) → parser.dictionary.pairs ≡ old.parser.dictionary.pairs → Grows old (record old { parser = parser })
same_entries old parser e = record { names = begins_same _ _ refl; bodies = begins_same _ _ refl; defining = begins_same _ _ refl; entries = begins_same _ _ e }

-- ---- the program of a text that is read to its end

main_on : (source : Source) (o : Option ℕ) →
    LacksOnlyMain (elim o as (λ o. ParseResult SourceProgram) [
      | Some main ↦ Fine (program_with source.names source.bodies main source.at.count source.at.host)
      | None ↦ Refused (source.at.count + 1) cause.NoMain
    ])
main_on source (Some main) = tt
main_on source None = refl

pub readable : (text : List ℕ) (last : Source) → source_of_text text ≡ Fine last → IsReadable text
readable text last e = subst LacksOnlyMain (sym (program_of_end vocabulary.Source text ∙ ap ended e)) (main_on last (main_of (newest_value last.at.entries (codes "MAIN"))))

pub program_is : (words : Vocabulary) (text : List ℕ) (last : Source) → source_in words text ≡ Fine last → program_in words text ≡ program_of_source last last.at
program_is words text last e = program_of_end words text ∙ ap ended e

pub cannot_be_read : (text : List ℕ) (e : SourceError) → FailsAs e (source_of_text text) → CannotBeRead e (program_of_text text)
cannot_be_read text (error.Refused r) f = (program_of_end vocabulary.Source text ∙ ap ended f, refused_before text r.token r.cause f)
cannot_be_read text error.OutOfMemory f = tt

lacks_on : (e : SourceError) (o : ParseResult SourceProgram) → LacksOnlyMain o → FailsAs e o → LacksMain e
lacks_on (error.Refused r) o h f = subst LacksOnlyMain f h
lacks_on error.OutOfMemory o h f = tt

pub lacks_main : (text : List ℕ) (last : Source) (e : SourceError) → source_of_text text ≡ Fine last → FailsAs e (program_of_text text) → LacksMain e
lacks_main text last e is f = lacks_on e (program_of_text text) (readable text last is) f

-- ---- a text that is read from its start

pub text_ends : (words : Vocabulary) (text : List ℕ) (first last : Source) → first ≡ source_start words text → ((n : ℕ) → length first.at.rest < n → read_at n first ≡ Fine last) → source_in words text ≡ Fine last
text_ends words text first last s f = ap (read_at (suc (length text))) (sym s) ∙ f (suc (length text)) (omega (arith, ap (λ (s : Source). length s.at.rest) s))

pub text_fails : (words : Vocabulary) (text : List ℕ) (first : Source) (e : SourceError) → first ≡ source_start words text → ((n : ℕ) → length first.at.rest < n → FailsAs e (read_at n first)) →
    FailsAs e (program_in words text)
text_fails words text first e s f =
    fails_as e _ _ (program_of_end words text)
    (fails_then e (source_in words text) _ (subst (λ s. FailsAs e (read_at (suc (length text)) s)) s (f (suc (length text)) (omega (arith, ap (λ (s : Source). length s.at.rest) s)))))

-- no text is read to its end at once
pub nothing_read : source_of_text [] ≡ Fine (source_start vocabulary.Source [])
unfolding read_at
nothing_read = refl

-- ---- a piece

pub where_kept : (text : List ℕ) (kept : Option ReadSource) (source : ReadSource) → Some source ≡ kept → KeepsRead text kept → IsReadTo text source
where_kept text kept source e k = subst (KeepsRead text) (sym e) k

module _ (text piece : List ℕ) (old new : ReadSource) (kept : IsReadTo text old) (result : Result (Unit {0}) SourceError)
    (gives : (n : ℕ) → length piece < n → AnswersAs (λ _. source_of new) result (read_at n (record (source_of old) { at = record (parser_state old.parser) { rest = piece } }))) where
  on : ReadOn text piece (source_of old)
  on = read_on text piece (source_of old) kept.read

  pub piece_read : (x : Unit {0}) → result ≡ Ok x → source_of_text (with_piece text piece) ≡ Fine (source_of new)
  piece_read x e =
      on.same ∙ subst (λ r. AnswersAs (λ _. source_of new) r (read_at on.fuel (record (source_of old) { at = record (parser_state old.parser) { rest = piece } }))) e (gives on.fuel on.enough)

  pub piece_fails : (e : SourceError) → result ≡ Err e → FailsAs e (source_of_text (with_piece text piece))
  piece_fails e is =
      fails_as e _ _ on.same
      (subst (λ r. AnswersAs (λ _. source_of new) r (read_at on.fuel (record (source_of old) { at = record (parser_state old.parser) { rest = piece } }))) is (gives on.fuel on.enough))

  pub piece_readable : (x : Unit {0}) → result ≡ Ok x → IsReadable (with_piece text piece)
  piece_readable x e = readable (with_piece text piece) (source_of new) (piece_read x e)

  pub piece_refused : (e : SourceError) → result ≡ Err e → CannotBeRead e (program_of_text (with_piece text piece))
  piece_refused e is = cannot_be_read (with_piece text piece) e (piece_fails e is)

  pub piece_kept : (longer : List ℕ) → longer ≡ with_piece text piece → (x : Unit {0}) → result ≡ Ok x → length longer ≤ 65536 → IsReadyParser new.parser → IsCounted new → IsReadTo longer new
  piece_kept longer is x e short ready counted = record {
    short = short;
    read = subst (λ t. source_of_text t ≡ Fine (source_of new)) (sym is) (piece_read x e);
    ready = ready;
    counted = counted;
  }

-- a source that is read to its end, without the bytes of its piece
pub at_rest : (n : ℕ) (given first last end : Source) → first ≡ given → read_at n first ≡ Fine last → end ≡ record last { at = record last.at { rest = [] } } → last.at.rest ≡ [] → read_at n given ≡ Fine end
at_rest n given first last end same read is none =
    ap (read_at n) (sym same) ∙ read ∙ ap Fine (sym (is ∙ ap (λ rest. record last { at = record last.at { rest = rest } }) (sym none)))
