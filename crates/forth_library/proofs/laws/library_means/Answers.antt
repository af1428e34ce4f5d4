use Rattle.forth_library.proofs.LibraryForm as standing
use Rattle.forth_library.proofs.Meaning as law
use Rattle.forth_library.proofs.laws.library_means.Goals as goal

pub returns-clause-form : goal.returns-clause-form
returns-clause-form c = standing.is_library

pub returns-clause-means : goal.returns-clause-means
returns-clause-means c = law.library_means c.definitions_do_their_meaning.ensures.meaning c.definitions_do_their_meaning.ensures.type_is_cheap

pub returns-clause-begins_well : goal.returns-clause-begins_well
returns-clause-begins_well c = standing.all_begin_well

pub returns-clause-size : goal.returns-clause-size
returns-clause-size c = standing.library_size
