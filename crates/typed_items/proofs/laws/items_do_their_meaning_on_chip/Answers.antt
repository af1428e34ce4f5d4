use Rattle.typed_items.proofs.OnChip.{runs_agree, items_on_chip, shows_no_more_on_chip}
use Rattle.typed_items.proofs.laws.items_do_their_meaning_on_chip.Goals as goal

pub returns-clause-rings : goal.returns-clause-rings
returns-clause-rings c =
    runs_agree (record {
      instruction = c.rings_do_the_same.ensures.instruction;
      fit = c.runs_join.ensures.rings;
      open_grows = c.runs_only_grow.ensures.open;
      round_grows = c.runs_only_grow.ensures.round;
    })

pub returns-clause-items : goal.returns-clause-items
returns-clause-items c =
    items_on_chip (record {
      instruction = c.rings_do_the_same.ensures.instruction;
      fit = c.runs_join.ensures.rings;
      open_grows = c.runs_only_grow.ensures.open;
      round_grows = c.runs_only_grow.ensures.round;
    }) c.items_do_their_meaning.ensures.forward c.items_do_their_meaning.ensures.backward

pub returns-clause-no_more : goal.returns-clause-no_more
returns-clause-no_more c =
    shows_no_more_on_chip (record {
      instruction = c.rings_do_the_same.ensures.instruction;
      fit = c.runs_join.ensures.rings;
      open_grows = c.runs_only_grow.ensures.open;
      round_grows = c.runs_only_grow.ensures.round;
    })
