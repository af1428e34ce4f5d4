use Rattle.std.proofs.Common.{arith}
use Rattle.control_flow.proofs.Numbers.{text_number}
use Rattle.control_flow.proofs.piece_reader.PieceReader.string.Goals as goal

pub overflow_add-result : goal.overflow_add-result
overflow_add-result c =
    omega (arith, text_number c.self.inside.before c.self.inside.reader c.string.new.self _ c.self.view_is c.requires c.in-Err.refusal c.in-Err.ensures.cases, c.self.invariant)
