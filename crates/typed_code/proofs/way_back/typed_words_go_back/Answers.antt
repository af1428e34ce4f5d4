use Rattle.typed_code.proofs.Whole.{typed_words_go_back}
use Rattle.typed_code.proofs.way_back.typed_words_go_back.Goals as goal

pub returns : goal.returns
returns c = typed_words_go_back c.a_typed_word_comes_back.ensures.comes_back c.returns_go_back.ensures.chip c.saved_cells_keep_code.ensures
