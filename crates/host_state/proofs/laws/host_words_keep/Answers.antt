use Rattle.host_state.proofs.Preservation as keeping
use Rattle.host_state.proofs.Images as images
use Rattle.host_state.proofs.laws.host_words_keep.Goals as goal

pub returns-clause-words : goal.returns-clause-words
returns-clause-words c = keeping.words_keep

pub returns-clause-images : goal.returns-clause-images
returns-clause-images c = images.images_fit

pub returns-clause-first : goal.returns-clause-first
returns-clause-first c = images.spaces_begin
