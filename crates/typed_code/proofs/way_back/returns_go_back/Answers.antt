use Rattle.typed_code.proofs.WayBack.{returns_go_back}
use Rattle.typed_code.proofs.OnChip.{returns_go_back_on_chip}
use Rattle.typed_code.proofs.way_back.returns_go_back.Goals as goal

pub returns-clause-open : goal.returns-clause-open
returns-clause-open c = returns_go_back

pub returns-clause-chip : goal.returns-clause-chip
returns-clause-chip c =
    returns_go_back_on_chip (record {
      instruction = c.rings_do_the_same.ensures.instruction;
      down = c.rings_keep_places.ensures.down;
      fit = c.runs_join.ensures.rings;
      ended = c.runs_join.ensures.ended;
    })
