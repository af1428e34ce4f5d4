-- One definition more, up to the end of a text.
use Rattle.std.proofs.Common.{◌≡◌, ℕ, zero, suc, ◌-◌, ◌<◌, ◌≤◌, length, Option, Some, None, refl, ap, ◌∙◌, arith}
use Rattle.control_flow.specs.declared.refusal.SourceError.{SourceError}
use Rattle.control_flow.specs.declared.refusal.SourceCause.{SourceCause}
use Rattle.control_flow.specs.declared.refusal.SourceCause.TheVariants as cause
use Rattle.control_flow.specs.declared.outside_sense.OutsideSense.{OutsideSense}
use Rattle.control_flow.specs.declared.outside_sense.OutsideSense.TheVariants.{Begins, Quoted}
use Rattle.control_flow.specs.ParseResult.{ParserState, ParseResult, Fine, Refused, Endless, ◌>>=◌}
use Rattle.control_flow.specs.SourceText.{Source, OutsideToken, is_due, before_next, outside_at, at_once_at, resumed, outside_by}
use Rattle.control_flow.specs.ReadTokens.{quotation_at}
use Rattle.control_flow.specs.Answers.{FailsAs}
use Rattle.control_flow.specs.Pieces.{read_by, read_at}
use Rattle.control_flow.proofs.ItemLists.{fails_then, fails_as}

read_step : (n : ℕ) (source : Source) → 0 < n → read_at n source ≡ (outside_at source.at >>= read_by (read_at (n - 1)) (n - 1) source)
unfolding read_at
read_step zero source h = absurd (omega arith)
read_step (suc n) source h = ap (λ m. outside_at source.at >>= read_by (read_at m) m source) (omega arith)

-- a source is read on from a place outside definitions, with fuel for what is left
pub record InSource (whole : ParseResult Source) (source : Source) : Type 0 where
  pub fuel : ℕ
  pub enough : length source.at.rest < fuel
  pub same : whole ≡ read_at fuel source

module _ (whole : ParseResult Source) (source : Source) (here : InSource whole source) where
  abbrev by_outside : OutsideToken → ParseResult Source
  by_outside = read_by (read_at (here.fuel - 1)) (here.fuel - 1) source

  next_outside : whole ≡ (outside_at source.at >>= by_outside)
  next_outside = here.same ∙ read_step here.fuel source (omega (arith, here.enough))

  pub refused_outside : (e : SourceError) → FailsAs e (outside_at source.at) → FailsAs e whole
  refused_outside e f = fails_as e _ whole next_outside (fails_then e (outside_at source.at) _ f)

  module _ (seen : Option OutsideSense) (at : ParserState) (read : outside_at source.at ≡ Fine (record { sense = seen; at = at })) where
    with_outside : (o : Option OutsideSense) → seen ≡ o → whole ≡ by_outside (record { sense = o; at = at })
    with_outside o e = next_outside ∙ ap (λ o. o >>= by_outside) read ∙ ap (λ o. by_outside (record { sense = o; at = at })) e

    -- the text ends
    pub at_end : seen ≡ None → whole ≡ Fine (record source { at = at })
    at_end e = with_outside None e

    module _ (sense : OutsideSense) (e : seen ≡ Some sense) (shorter : length at.rest < length source.at.rest) where
      with_sense : whole ≡ (outside_by (here.fuel - 1) source at sense >>= read_at (here.fuel - 1))
      with_sense = with_outside (Some sense) e

      pub refused_word : (error : SourceError) → ((n : ℕ) → length at.rest < n → FailsAs error (outside_by n source at sense)) → FailsAs error whole
      refused_word error f = fails_as error _ whole with_sense (fails_then error (outside_by (here.fuel - 1) source at sense) _ (f (here.fuel - 1) (omega (arith, here.enough, shorter))))

      pub next_source : (next : Source) → ((n : ℕ) → length at.rest < n → outside_by n source at sense ≡ Fine next) → length next.at.rest ≤ length at.rest → InSource whole next
      next_source next f left = record {
        fuel = here.fuel - 1;
        enough = omega (arith, here.enough, shorter, left);
        same = with_sense ∙ ap (λ o. o >>= read_at (here.fuel - 1)) (f (here.fuel - 1) (omega (arith, here.enough, shorter)));
      }

-- ---- what a token does at once

refused_on : {A B C : Type 0} (o : ParseResult A) (number : A → ℕ) (c : SourceCause) (f : B → ParseResult C) → (o >>= λ x. Refused (number x) c) ≡ ((o >>= λ x. Refused (number x) c) >>= f)
refused_on (Fine x) number c f = refl
refused_on (Refused k d) number c f = refl
refused_on Endless number c f = refl

at_once_is : (n : ℕ) (source : Source) (at : ParserState) (sense : OutsideSense) → (sense ≡ Begins → ⊥) →
    outside_by n source at sense ≡ (at_once_at source.defining (is_due source.before) sense at >>= resumed source sense)
at_once_is n source at Begins other = absurd (other refl)
at_once_is n source at Quoted other = refused_on (quotation_at at) (λ q. q.at.count) cause.OnlyInDefinition (resumed source Quoted)
at_once_is n source at sense other = refl

pub refused_at_once : (n : ℕ) (source : Source) (at : ParserState) (sense : OutsideSense) → (sense ≡ Begins → ⊥) → (e : SourceError) →
    FailsAs e (at_once_at source.defining (is_due source.before) sense at) → FailsAs e (outside_by n source at sense)
refused_at_once n source at sense other e f = fails_as e _ _ (at_once_is n source at sense other) (fails_then e (at_once_at source.defining (is_due source.before) sense at) _ f)

pub done_at_once : (n : ℕ) (source : Source) (at : ParserState) (sense : OutsideSense) → (sense ≡ Begins → ⊥) → (after : ParserState) →
    at_once_at source.defining (is_due source.before) sense at ≡ Fine after → outside_by n source at sense ≡ Fine (record source { at = after; before = before_next source.before sense })
done_at_once n source at sense other after f = at_once_is n source at sense other ∙ ap (λ o. o >>= resumed source sense) f
