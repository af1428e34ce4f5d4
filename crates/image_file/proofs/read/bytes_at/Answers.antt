use Rattle.std.proofs.Common.{arith}
use Rattle.image_file.proofs.Bad.{bad_bytes}
use Rattle.image_file.proofs.read.bytes_at.Goals as goal

pub returns-in-Err : goal.returns-in-Err
returns-in-Err c = bad_bytes c.args.bytes.now c.args.data_start c.args.cells c.args.at c.in-Err.offset (λ k. omega (arith, c.type_inv.bytes k)) c.requires.start c.requires.cells c.requires.stands c.requires.within c.in-Err.ensures
