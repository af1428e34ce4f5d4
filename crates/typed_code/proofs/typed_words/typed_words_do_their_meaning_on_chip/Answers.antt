use Rattle.typed_code.proofs.OnChipWords.{typed_words_on_chip}
use Rattle.typed_code.proofs.typed_words.typed_words_do_their_meaning_on_chip.Goals as goal

pub returns : goal.returns
returns c =
    typed_words_on_chip c.typed_words_do_their_meaning.ensures c.items_do_their_meaning_on_chip.ensures.rings c.items_do_their_meaning_on_chip.ensures.no_more c.returns_go_back.ensures.chip
