use Rattle.std.proofs.Common.{rules, arith}
use Rattle.host_state.proofs.Cells.{set_longer}
use Rattle.host_state.proofs.space.DataSpace.set_cell.Goals as goal
use Rattle.host_state.proofs.space.DataSpace.set_cell.Goals.{in-Ok, in-Err}

-- src/space.rt:65:5
pub returns : goal.returns
returns c = elim c.match-push.branch [ in-Ok w ↦ grind (arith, set_longer, w.in-Ok.ensures.items, c.in_ok-resize.ensures.items) | in-Err w ↦ search rules ]
