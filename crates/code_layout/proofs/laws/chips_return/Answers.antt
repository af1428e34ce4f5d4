use Rattle.code_layout.proofs.ReturningChips.{chips_return}
use Rattle.code_layout.proofs.laws.chips_return.Goals as goal

pub returns : goal.returns
returns c =
    chips_return c.images_return.ensures c.rings_do_the_same.ensures.instruction c.rings_do_the_same.ensures.run c.rings_keep_places.ensures.down c.rings_keep_places.ensures.others
    c.runs_join.ensures.rings c.runs_only_grow.ensures.open
