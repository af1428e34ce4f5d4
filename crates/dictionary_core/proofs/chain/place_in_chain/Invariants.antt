use Rattle.dictionary_core.proofs.Walks.{Walk, steps_left}
use Rattle.dictionary_core.proofs.chain.place_in_chain.Given as goal

abbrev pub invariant-loop-at : goal.invariant-loop-at
invariant-loop-at g l = Walk l.fn.name l.fn.names.names l.names.names l.at l.names.looks l.fn.names.looks

abbrev pub decreases-loop-at : goal.decreases-loop-at
decreases-loop-at g l = steps_left l.at
