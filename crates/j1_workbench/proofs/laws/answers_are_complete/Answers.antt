use Rattle.j1_workbench.proofs.Completeness.{complete}
use Rattle.j1_workbench.proofs.NetCompleteness.{nets_complete}
use Rattle.j1_workbench.proofs.laws.answers_are_complete.Goals as goal

pub returns : goal.returns
returns c =
    complete c.texts_are_judged.ensures c.programs_are_sources.ensures.each c.rounds_judge.ensures.end c.rounds_judge.ensures.least c.rounds_judge.ensures.none c.rounds_judge.ensures.one_refusal
    (record { bad = c.refused_is_no_file.ensures; one = c.bytes_have_one_first_bad.ensures }) (record { grammar = c.assembles_by_grammar.ensures; first = c.refuses_first_bad.ensures }) c.files_are_images.ensures
    (nets_complete c.rounds_judge.ensures.one_refusal (record { tells = c.tells_net.ensures; first = c.refuses_first_bad_line.ensures }))
