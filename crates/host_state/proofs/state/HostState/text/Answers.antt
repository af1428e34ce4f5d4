use Rattle.host_state.proofs.Preservation.{laid_room}
use Rattle.host_state.proofs.state.HostState.text.Goals as goal

pub returns-clause-room : goal.returns-clause-room
returns-clause-room c k = laid_room c.args.text.now c.args.self.now k _ _ c.in_ok-address.ensures
