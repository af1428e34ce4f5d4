-- What holds of a host part that is read.
use Rattle.std.proofs.Common.{ℕ, zero, suc, ◌<◌, Bool, true, false, length, arith}
use Rattle.host_state.specs.declared.word.HostItem.{HostItem}
use Rattle.host_state.specs.Kept.{HostWordsKeep}
use Rattle.control_flow.specs.declared.refusal.SourceCause.TheVariants as cause
use Rattle.control_flow.specs.declared.host_sense.HostSense.{HostSense}
use Rattle.control_flow.specs.declared.host_sense.HostSense.TheVariants.{Acts, Closes, Ends, Does, Quoted, OutOfRange, Unknown, Forbidden}
use Rattle.control_flow.specs.ParseResult.{ParserState, Fine, ◌>>=◌, forbidden}
use Rattle.control_flow.specs.ReadTokens.{host_token_at}
use Rattle.control_flow.specs.HostParts.{HostPart, may_be_part, with_item, host_part_by, host_part_at}
use Rattle.control_flow.proofs.Moves.{Good, good_then}
use Rattle.control_flow.proofs.HostFacts.{Goes, goes_then, Keeps, keeps_then, Passed, HostTokenRead, host_token_read, quoted_read}

pub passed_then : (from mid at : ParserState) → Passed from mid → Passed mid at → Passed from at
passed_then from mid at p q = record {
  goes = goes_then from mid at p.goes q.goes;
  keeps = keeps_then from mid at p.keeps q.keeps;
  count = omega (arith, p.count, q.count);
  left = omega (arith, p.left, q.left);
}

-- a host part is passed like a token
abbrev pub PartRead : ParserState → HostPart → Type 0
PartRead from part = Passed from part.at

module _ (keep : HostWordsKeep) where
  module _ (n : ℕ) (from at : ParserState) (p : Passed from at) (goes : Good (PartRead at) (host_part_at n at)) where
    item_on : (item : HostItem) (may : Bool) → Good (PartRead from) (elim may [ true ↦ host_part_at n at >>= λ part. Fine (with_item item part) | false ↦ forbidden at ])
    item_on item true = good_then (PartRead at) (PartRead from) (host_part_at n at) _ goes (λ part q. passed_then from at part.at p q)
    item_on item false = tt

    part_on : (s : HostSense) → Good (PartRead from) (host_part_by (host_part_at n) at s)
    part_on (Acts item) = item_on item (may_be_part item)
    part_on Closes = tt
    part_on Ends = p
    part_on Does = p
    part_on Quoted = quoted_read keep (PartRead from) cause.NotInDefinition at
    part_on OutOfRange = tt
    part_on Unknown = tt
    part_on Forbidden = tt

  pub host_part_read : (n : ℕ) (from : ParserState) → length from.rest < n → Good (PartRead from) (host_part_at n from)
  unfolding host_part_at
  host_part_read zero from h = absurd (omega arith)
  host_part_read (suc n) from h =
      good_then (HostTokenRead keep from) (PartRead from) (host_token_at from) _ (host_token_read keep from)
      (λ seen t. part_on n from seen.at t.passed (host_part_read n seen.at (omega (arith, t.passed.left, h))) seen.sense)

-- the same place, behind a DOES> or not
pub goes_does : (from at : ParserState) (does : Bool) → Goes from at → Goes from (record at { does = does })
goes_does from at does g = record { entries = g.entries; definitions = g.definitions; words = g.words; nest = g.nest; weight = g.weight; count = g.count; left = g.left }

pub keeps_does : (from at : ParserState) (does : Bool) → Keeps from at → Keeps from (record at { does = does })
keeps_does from at does k = record {
  knows = λ N b.
      let x = k.knows N b in
      record { others = x.others; ticked = x.ticked; sound = x.sound; few = x.few; light = x.light };
  ticked = k.ticked;
}
