use Rattle.net_file.proofs.Turns.{next_round}
use Rattle.net_file.proofs.schedules.round.Goals as goal

pub loop-core-preserved : goal.loop-core-preserved
loop-core-preserved c =
    next_round c.loop-core.round.items c.add_entries.new.round.items _ c.args.cores c.loop-core.core c.args.entries c.loop-core-test.true c.in_ok-add_entries.ensures c.loop-core.invariant
