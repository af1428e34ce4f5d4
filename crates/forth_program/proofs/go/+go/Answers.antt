use Rattle.std.proofs.Common.{ap, sym, ◌∙◌}
use Rattle.forth_program.specs.ItemTrees.{nodes_of}
use Rattle.forth_program.specs.Form.{everywhere, is_not_go}
use Rattle.forth_program.proofs.GoViews.{go_Do, go_QDo}
use Rattle.forth_program.proofs.go.+go.Goals as goal

pub lacks_go-returns-in-Do : goal.lacks_go-returns-in-Do
lacks_go-returns-in-Do t c =
    c.all_lack_go-in-Do.ensures ∙ ap (λ items. everywhere is_not_go (nodes_of items)) c.list-in-Do.ensures
    ∙ sym (go_Do c.args.item.now c.in-Do.body c.in-Do.field-1 c.in-Do.is)

pub lacks_go-returns-in-QDo : goal.lacks_go-returns-in-QDo
lacks_go-returns-in-QDo t c =
    c.all_lack_go-in-QDo.ensures ∙ ap (λ items. everywhere is_not_go (nodes_of items)) c.list-in-QDo.ensures
    ∙ sym (go_QDo c.args.item.now c.in-QDo.body c.in-QDo.field-1 c.in-QDo.is)
