use Rattle.typed_items.proofs.Whole.{shows_no_more, items_do_their_meaning, items_do_no_more}
use Rattle.typed_items.proofs.laws.items_do_their_meaning.Goals as goal

pub returns-clause-forward : goal.returns-clause-forward
returns-clause-forward c = items_do_their_meaning (record {
  runs = c.runs_join.ensures.runs;
  bounds = c.runs_join.ensures.bounds;
  wider = c.runs_join.ensures.wider;
})

pub returns-clause-backward : goal.returns-clause-backward
returns-clause-backward c = items_do_no_more (record {
  runs = c.runs_join.ensures.runs;
  bounds = c.runs_join.ensures.bounds;
  wider = c.runs_join.ensures.wider;
}) c.runs_only_grow.ensures.open

pub returns-clause-no_more : goal.returns-clause-no_more
returns-clause-no_more c = shows_no_more c.runs_only_grow.ensures.open
