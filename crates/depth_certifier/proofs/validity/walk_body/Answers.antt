use Rattle.std.proofs.Common.{rules}
use Rattle.forth_program.specs.ItemTrees.{tree_of}
use Rattle.depth_certifier.proofs.Bodies.{walked, refused}
use Rattle.depth_certifier.proofs.validity.walk_body.Goals as goal

pub returns-in_err-walk_items-clause-walk : goal.returns-in_err-walk_items-clause-walk
returns-in_err-walk_items-clause-walk c =
    let no =
    refused c.args.facts c.args.effects.now c.args.heads.now c.args.notes.now (tree_of c.args.body.now) c.args.count c.begin-walker.result _
    c.begin-walker.ensures.walk c.begin-walker.ensures.count c.in_err-walk_items.ensures.step in
    search rules

pub returns-clause-walk : goal.returns-clause-walk
returns-clause-walk c =
    walked c.args.facts c.args.effects.now c.args.heads.now c.args.notes.now (tree_of c.args.body.now) c.args.count c.begin-walker.result _ _
    c.begin-walker.ensures.walk c.begin-walker.ensures.count c.in_ok-walk_items.ensures.step c.in_ok-end.ensures.step
