use Rattle.target_forth.proofs.ReadText as reading
use Rattle.target_forth.proofs.laws.kernel_replies.Goals as goal

pub returns : goal.returns
returns c = reading.kernel_replies
