use Rattle.std.proofs.Common.{arith, ap}
use Rattle.std.specs.Prelude.{length}
use Rattle.reference_eval.proofs.memory.Memory.make_room.Goals as goal

pub returns-else-is_full-clause-room : goal.returns-else-is_full-clause-room
returns-else-is_full-clause-room g c = λ e. let v = ap (λ m. length m.waiting) c.self.view_is in let b = c.is_full.ensures.bound in let n = c.is_full.ensures.full.1 in let f = c.if-is_full.false in grind arith
