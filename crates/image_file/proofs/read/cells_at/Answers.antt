use Rattle.std.proofs.Common.{arith}
use Rattle.image_file.proofs.Bad.{bad_cells}
use Rattle.image_file.proofs.read.cells_at.Goals as goal

pub returns-in-Err : goal.returns-in-Err
returns-in-Err c = bad_cells c.args.bytes.now c.args.data_start c.args.at c.in-Err.offset (λ k. omega (arith, c.type_inv.bytes k)) c.requires c.in-Err.ensures
