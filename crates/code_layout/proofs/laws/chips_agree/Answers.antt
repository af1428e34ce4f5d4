use Rattle.code_layout.proofs.Chips.{chip_agrees}
use Rattle.code_layout.proofs.laws.chips_agree.Goals as goal

pub returns : goal.returns
returns c = chip_agrees c.images_agree.ensures c.rings_do_the_same.ensures.run c.runs_join.ensures.rings c.runs_join.ensures.bounds c.runs_join.ensures.ended c.runs_only_grow.ensures.open
