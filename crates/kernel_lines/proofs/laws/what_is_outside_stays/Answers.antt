use Rattle.kernel_lines.proofs.States as states
use Rattle.kernel_lines.proofs.laws.what_is_outside_stays.Goals as goal

pub returns-clause-cells : goal.returns-clause-cells
returns-clause-cells c = states.cells_stay

pub returns-clause-bytes : goal.returns-clause-bytes
returns-clause-bytes c = states.bytes_stay

pub returns-clause-state : goal.returns-clause-state
returns-clause-state c = states.states_stay

pub returns-clause-texts : goal.returns-clause-texts
returns-clause-texts c = states.texts_stay

pub returns-clause-follow : goal.returns-clause-follow
returns-clause-follow c = states.changes_follow
