use Rattle.arithmetic_words.proofs.ReadText as reading
use Rattle.arithmetic_words.proofs.laws.arithmetic_text_is_read.Goals as goal

pub returns : goal.returns
returns c = reading.text_is_read
