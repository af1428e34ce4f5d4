use Rattle.std.proofs.Common.{◌==◌, length, ap, ◌∙◌, sym}
use Rattle.forth_program.specs.declared.item.Item.{Item}
use Rattle.forth_program.specs.ItemTrees.{items_of}
use Rattle.std.specs.Prelude.{List}
use Rattle.step_certifier.proofs.CountedCosts.{some_end}
use Rattle.step_certifier.proofs.costs.true_end.Goals as goal

pub returns-else-is_empty : goal.returns-else-is_empty
returns-else-is_empty c =
    some_end (items_of c.args.second.now) (ap (λ (l : List Item). length l == 0) (sym c.list.ensures) ∙ sym c.is_empty.ensures ∙ c.if-is_empty.false)
