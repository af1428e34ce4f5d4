use Rattle.std.proofs.Common.{rules}
use Rattle.reference_eval.proofs.AccessSequences as does
use Rattle.reference_eval.proofs.byte_words.move_bytes.Goals as goal
use Rattle.std.proofs.Common.{tests}

pub returns-then-from-to : goal.returns-then-from-to
returns-then-from-to g c = does.does_as _ _ _ _ _ (λ b w h. search (rules, tests)) c.move_down.ensures

pub returns-else-from-to : goal.returns-else-from-to
returns-else-from-to g c = does.does_as _ _ _ _ _ (λ b w h. search (rules, tests)) c.move_up.ensures
