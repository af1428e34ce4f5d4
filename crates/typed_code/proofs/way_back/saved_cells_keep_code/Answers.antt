use Rattle.typed_code.proofs.WayBack.{saved_keeps_code}
use Rattle.typed_code.proofs.way_back.saved_cells_keep_code.Goals as goal

pub returns : goal.returns
returns c = saved_keeps_code
