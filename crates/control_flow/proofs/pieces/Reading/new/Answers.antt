use Rattle.std.proofs.Common.{◌∙◌, sym, ap, subst, arith}
use Rattle.control_flow.specs.ParseResult.{Fine}
use Rattle.control_flow.specs.ReadingState.{IsReadTo}
use Rattle.control_flow.proofs.KeptSource.{nothing_read}
use Rattle.control_flow.proofs.pieces.Reading.new.Goals as goal

pub invariant_of-result : goal.invariant_of-result
invariant_of-result c = subst (λ text. IsReadTo text c.in_ok-source.source) (sym c.new-2.ensures.items) (record {
  short = omega arith;
  read = nothing_read ∙ ap Fine (sym c.in_ok-source.ensures.start);
  ready = c.in_ok-source.ensures.ready;
  counted = c.in_ok-source.ensures.counted;
})
