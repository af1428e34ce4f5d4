use Rattle.j1_workbench.proofs.Headline.{texts_agree}
use Rattle.j1_workbench.proofs.laws.certified_texts_agree.Goals as goal

pub returns : goal.returns
returns c =
    texts_agree c.texts_are_built.ensures c.programs_are_sources.ensures.each c.programs_are_sources.ensures.no_go c.library_means.ensures.form c.library_means.ensures.means c.library_means.ensures.begins_well
    c.certified_chips_agree.ensures c.certified_chips_keep_tight.ensures c.last_calls_are_jumps.ensures
