use Rattle.target_forth.proofs.Behind.{agrees, on_chip, tight}
use Rattle.target_forth.proofs.laws.kernel_agrees.Goals as goal

pub returns-clause-open : goal.returns-clause-open
returns-clause-open c = agrees c.programs_are_sources.ensures.each c.library_means.ensures.form c.library_means.ensures.means c.kernel_is_certified.ensures c.certified_images_return.ensures

pub returns-clause-chip : goal.returns-clause-chip
returns-clause-chip c = on_chip c.programs_are_sources.ensures.each c.library_means.ensures.form c.library_means.ensures.means c.kernel_is_certified.ensures c.certified_chips_return.ensures.agree

pub returns-clause-tight : goal.returns-clause-tight
returns-clause-tight c = tight c.programs_are_sources.ensures.each c.library_means.ensures.form c.library_means.ensures.means c.kernel_is_certified.ensures c.certified_chips_return.ensures.tight
