use Rattle.std.proofs.Common.{length}
use Rattle.reference_eval.proofs.shuffles.+put.Given as goal

abbrev pub decreases-put : goal.decreases-put
decreases-put l = length l.new.now
