-- One token more of a host part.
use Rattle.std.proofs.Common.{◌≡◌, ℕ, zero, suc, ◌-◌, ◌<◌, true, false, List, [], ◌∷◌, ◌++◌, length, refl, ap, sym, ◌∙◌, arith}
use Rattle.std.proofs.lemmas.List.{append-nil, append_assoc}
use Rattle.host_state.specs.declared.word.HostItem.{HostItem}
use Rattle.control_flow.specs.declared.refusal.SourceError.{SourceError}
use Rattle.control_flow.specs.declared.host_sense.HostSense.{HostSense}
use Rattle.control_flow.specs.declared.host_sense.HostSense.TheVariants.{Acts, Ends, Does}
use Rattle.control_flow.specs.ParseResult.{ParserState, ParseResult, Fine, Refused, Endless, ◌>>=◌, forbidden}
use Rattle.control_flow.specs.ReadTokens.{HostToken, host_token_at}
use Rattle.control_flow.specs.HostParts.{HostPart, may_be_part, with_item, host_part_by, host_part_at}
use Rattle.control_flow.specs.Answers.{FailsAs}
use Rattle.control_flow.proofs.ItemLists.{fails_then, fails_as}

abbrev by_host : ℕ → HostToken → ParseResult HostPart
by_host m seen = host_part_by (host_part_at m) seen.at seen.sense

part_step : (n : ℕ) (at : ParserState) → 0 < n → host_part_at n at ≡ (host_token_at at >>= by_host (n - 1))
unfolding host_part_at
part_step zero at h = absurd (omega arith)
part_step (suc n) at h = ap (λ m. host_token_at at >>= by_host m) (omega arith)

-- with the items that are done in front
abbrev pub behind_part : List HostItem → ParseResult HostPart → ParseResult HostPart
behind_part done outcome = outcome >>= λ part. Fine (record part { items = done ++ part.items })

behind_none : (o : ParseResult HostPart) → behind_part [] o ≡ o
behind_none (Fine part) = refl
behind_none (Refused k c) = refl
behind_none Endless = refl

-- a host part is read on from a place, with fuel for what is left
pub record InHostPart (whole : ParseResult HostPart) (done : List HostItem) (at : ParserState) : Type 0 where
  pub fuel : ℕ
  pub enough : length at.rest < fuel
  pub same : whole ≡ behind_part done (host_part_at fuel at)

pub part_started : (done : List HostItem) → done ≡ [] → (n : ℕ) (at : ParserState) → length at.rest < n → InHostPart (host_part_at n at) done at
part_started done none n at h = record {
  fuel = n;
  enough = h;
  same = sym (ap (λ l. behind_part l (host_part_at n at)) none ∙ behind_none (host_part_at n at));
}

module _ (whole : ParseResult HostPart) (done : List HostItem) (at : ParserState) (here : InHostPart whole done at) where
  next_token : whole ≡ behind_part done (host_token_at at >>= by_host (here.fuel - 1))
  next_token = here.same ∙ ap (behind_part done) (part_step here.fuel at (omega (arith, here.enough)))

  -- the token is refused
  pub refused_host : (e : SourceError) → FailsAs e (host_token_at at) → FailsAs e whole
  refused_host e f = fails_as e _ whole next_token (fails_then e (host_token_at at >>= by_host (here.fuel - 1)) _ (fails_then e (host_token_at at) (by_host (here.fuel - 1)) f))

  module _ (s : HostSense) (seen : ParserState) (token : host_token_at at ≡ Fine (record { sense = s; at = seen })) where
    -- by what the token stands for
    pub with_sense : (t : HostSense) → s ≡ t → whole ≡ behind_part done (host_part_by (host_part_at (here.fuel - 1)) seen t)
    with_sense t is = next_token ∙ ap (λ o. behind_part done (o >>= by_host (here.fuel - 1))) token ∙ ap (λ t. behind_part done (host_part_by (host_part_at (here.fuel - 1)) seen t)) is

    -- what it stands for is refused
    pub refused_by : (t : HostSense) → s ≡ t → (e : SourceError) → FailsAs e (host_part_by (host_part_at (here.fuel - 1)) seen t) → FailsAs e whole
    refused_by t is e f = fails_as e _ whole (with_sense t is) (fails_then e (host_part_by (host_part_at (here.fuel - 1)) seen t) _ f)

    pub ends : s ≡ Ends → whole ≡ Fine (record { items = done; does = false; at = seen })
    ends is = with_sense Ends is ∙ ap (λ items. Fine (record { items = items; does = false; at = seen })) (append-nil done)

    pub ends_with_does : s ≡ Does → whole ≡ Fine (record { items = done; does = true; at = seen })
    ends_with_does is = with_sense Does is ∙ ap (λ items. Fine (record { items = items; does = true; at = seen })) (append-nil done)

    module _ (item : HostItem) (is : s ≡ Acts item) where
      -- an item more
      pub behind_item : (more : List HostItem) → more ≡ done ++ item ∷ [] → may_be_part item ≡ true → length seen.rest < length at.rest → InHostPart whole more seen
      behind_item more m may shorter = record {
        fuel = here.fuel - 1;
        enough = omega (arith, here.enough, shorter);
        same =
            with_sense (Acts item) is
            ∙ ap (λ t. behind_part done (elim t as (λ t. ParseResult HostPart) [ true ↦ host_part_at (here.fuel - 1) seen >>= λ part. Fine (with_item item part) | false ↦ forbidden seen ])) may
            ∙ pushed (host_part_at (here.fuel - 1) seen) ∙ ap (λ l. behind_part l (host_part_at (here.fuel - 1) seen)) (sym m);
      }
        where
          pushed : (o : ParseResult HostPart) → behind_part done (o >>= λ part. Fine (with_item item part)) ≡ behind_part (done ++ item ∷ []) o
          pushed (Fine part) = ap (λ items. Fine (record part { items = items })) (sym (append_assoc done (item ∷ []) part.items))
          pushed (Refused k c) = refl
          pushed Endless = refl

      -- an item that may not stand here
      pub part_forbidden : may_be_part item ≡ false → whole ≡ forbidden seen
      part_forbidden may =
          with_sense (Acts item) is
          ∙ ap (λ t. behind_part done (elim t as (λ t. ParseResult HostPart) [ true ↦ host_part_at (here.fuel - 1) seen >>= λ part. Fine (with_item item part) | false ↦ forbidden seen ])) may
