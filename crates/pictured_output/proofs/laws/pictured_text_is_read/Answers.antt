use Rattle.pictured_output.proofs.ReadText as reading
use Rattle.pictured_output.proofs.laws.pictured_text_is_read.Goals as goal

pub returns : goal.returns
returns c = reading.text_is_read
