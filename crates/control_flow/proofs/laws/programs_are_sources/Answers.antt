use Rattle.control_flow.proofs.TextFacts.{programs_are_sources, sources_have_no_go}
use Rattle.control_flow.proofs.laws.programs_are_sources.Goals as goal

pub returns-clause-each : goal.returns-clause-each
returns-clause-each c = programs_are_sources (record { keep = c.host_words_keep.ensures.words; fit = c.host_words_keep.ensures.images; begin = c.host_words_keep.ensures.first })

pub returns-clause-no_go : goal.returns-clause-no_go
returns-clause-no_go c =
    sources_have_no_go (record { keep = c.host_words_keep.ensures.words; fit = c.host_words_keep.ensures.images; begin = c.host_words_keep.ensures.first }) c.each_is_found.ensures.sources
