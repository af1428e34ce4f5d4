use Rattle.std.proofs.Common.{take}
use Rattle.forth_program.specs.ItemTrees.{tree_of}
use Rattle.depth_certifier.proofs.Made.{walked_keeps}
use Rattle.depth_certifier.proofs.rounds.make_definition.Goals as goal

pub made_of-requires : goal.made_of-requires
made_of-requires c =
    walked_keeps c.args.program.now (record { definitions = c.args.effects.now; shared = c.args.shared })
    (record { definitions = c.requires.effects; shared = c.requires.shared }) _ c.args.id.0 (tree_of c.body.result.now) (take c.args.count c.args.notes.now)
    c.walk_body.new.notes c.in_ok-walker.walker
    c.bounds_of.ensures c.requires.heads c.in_ok-walker.ensures.walk
