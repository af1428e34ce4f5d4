-- One token more in brackets.
use Rattle.std.proofs.Common.{◌≡◌, ℕ, zero, suc, ◌-◌, ◌<◌, length, ap, ◌∙◌, arith}
use Rattle.host_state.specs.declared.word.HostItem.{HostItem}
use Rattle.control_flow.specs.declared.refusal.SourceError.{SourceError}
use Rattle.control_flow.specs.declared.host_sense.HostSense.{HostSense}
use Rattle.control_flow.specs.declared.host_sense.HostSense.TheVariants.{Acts}
use Rattle.control_flow.specs.ParseResult.{ParserState, ParseResult, Fine, Refused, Endless, ◌>>=◌}
use Rattle.control_flow.specs.declared.refusal.SourceError.TheVariants as error
use Rattle.control_flow.specs.declared.refusal.SourceCause.{SourceCause}
use Rattle.control_flow.specs.ReadTokens.{HostToken, host_token_at, Quotation, quotation_at}
use Rattle.control_flow.specs.Brackets.{acted_at, quoted_at, bracket_by, bracket_at}
use Rattle.control_flow.specs.Answers.{FailsAs}
use Rattle.control_flow.proofs.ItemLists.{fails_then, fails_as}

quoted_on : (B : Type 0) (e : SourceError) (c : SourceCause) (o : ParseResult Quotation) → FailsAs {B = Unit {0}} e (o >>= λ q. Refused q.at.count c) → FailsAs {B = B} e (o >>= λ q. Refused q.at.count c)
quoted_on B error.OutOfMemory c o f = tt
quoted_on B (error.Refused r) c (Fine q) f = cc
quoted_on B (error.Refused r) c (Refused k d) f = cc
quoted_on B (error.Refused r) c Endless f = absurd cc

-- a string word is refused alike wherever it stands
pub quoted_fails : (B : Type 0) (e : SourceError) (c : SourceCause) (at : ParserState) → FailsAs {B = Unit {0}} e (quoted_at c at) → FailsAs {B = B} e (quoted_at c at)
quoted_fails B e c at f = quoted_on B e c (quotation_at at) f

abbrev by_host : ℕ → HostToken → ParseResult ParserState
by_host m seen = bracket_by (bracket_at m) seen.at seen.sense

bracket_step : (n : ℕ) (at : ParserState) → 0 < n → bracket_at n at ≡ (host_token_at at >>= by_host (n - 1))
unfolding bracket_at
bracket_step zero at h = absurd (omega arith)
bracket_step (suc n) at h = ap (λ m. host_token_at at >>= by_host m) (omega arith)

-- a bracket is read on from a place, with fuel for what is left
pub record InBracket (whole : ParseResult ParserState) (at : ParserState) : Type 0 where
  pub fuel : ℕ
  pub enough : length at.rest < fuel
  pub same : whole ≡ bracket_at fuel at

module _ (whole : ParseResult ParserState) (at : ParserState) (here : InBracket whole at) where
  next_token : whole ≡ (host_token_at at >>= by_host (here.fuel - 1))
  next_token = here.same ∙ bracket_step here.fuel at (omega (arith, here.enough))

  -- the token is refused
  pub refused_host : (e : SourceError) → FailsAs e (host_token_at at) → FailsAs e whole
  refused_host e f = fails_as e _ whole next_token (fails_then e (host_token_at at) (by_host (here.fuel - 1)) f)

  module _ (s : HostSense) (seen : ParserState) (token : host_token_at at ≡ Fine (record { sense = s; at = seen })) where
    with_host : whole ≡ bracket_by (bracket_at (here.fuel - 1)) seen s
    with_host = next_token ∙ ap (λ t. t >>= by_host (here.fuel - 1)) token

    -- the same, by what the token stands for
    pub with_sense : (t : HostSense) → s ≡ t → whole ≡ bracket_by (bracket_at (here.fuel - 1)) seen t
    with_sense t is = with_host ∙ ap (bracket_by (bracket_at (here.fuel - 1)) seen) is

    -- what the token stands for is refused
    pub refused_by : (t : HostSense) → s ≡ t → (e : SourceError) → FailsAs e (bracket_by (bracket_at (here.fuel - 1)) seen t) → FailsAs e whole
    refused_by t is e f = fails_as e _ whole (with_sense t is) f

    module _ (item : HostItem) (is : s ≡ Acts item) where
      with_act : whole ≡ (acted_at item seen >>= bracket_at (here.fuel - 1))
      with_act = with_sense (Acts item) is

      pub refused_act : (e : SourceError) → FailsAs e (acted_at item seen) → FailsAs e whole
      refused_act e f = fails_as e _ whole with_act (fails_then e (acted_at item seen) (bracket_at (here.fuel - 1)) f)

      pub behind_act : (after : ParserState) → acted_at item seen ≡ Fine after → length after.rest < length at.rest → InBracket whole after
      behind_act after f shorter = record {
        fuel = here.fuel - 1;
        enough = omega (arith, here.enough, shorter);
        same = with_act ∙ ap (λ t. t >>= bracket_at (here.fuel - 1)) f;
      }
