use Rattle.depth_certifier.proofs.Made.{round_keeps}
use Rattle.depth_certifier.proofs.rounds.round.Goals as goal

pub shared_of-requires : goal.shared_of-requires
shared_of-requires c =
    round_keeps c.args.program.now (record { definitions = c.args.effects.now; shared = c.args.shared })
    (record { definitions = c.requires.effects; shared = c.requires.shared }) c.make_definitions.new.next c.make_definitions.new.notes
    c.in_ok-make_definitions.ensures.bodies
