use Rattle.control_flow.proofs.TextFacts.{judged}
use Rattle.control_flow.proofs.laws.texts_are_judged.Goals as goal

pub returns : goal.returns
returns c = judged (record { keep = c.host_words_keep.ensures.words; fit = c.host_words_keep.ensures.images; begin = c.host_words_keep.ensures.first })
