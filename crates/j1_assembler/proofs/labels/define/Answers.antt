use Rattle.std.proofs.Common.{sym, ◌∙◌}
use Rattle.std.proofs.lemmas.Map.Text.{btree_map_updates_str}
use Rattle.j1_assembler.specs.Labels.{found_in}
use Rattle.j1_assembler.proofs.DefinedLabels.{merged}
use Rattle.j1_assembler.proofs.labels.define.Goals as goal

pub returns-in-Ok : goal.returns-in-Ok
returns-in-Ok c = λ query.
    merged (found_in c.args.labels.now) c.args.name.now query c.args.definition (found_in c.insert.new.self query)
    (sym c.contains_key.ensures ∙ c.if-contains_key.false)
    (btree_map_updates_str c.args.name.now c.args.labels.now c.insert.new.self _ c.in-Ok.ensures.updates query)
