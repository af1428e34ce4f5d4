use Rattle.core_array.specs.Cores.{no_core, core_action}
use Rattle.core_array.proofs.Confluence.{agree}
use Rattle.core_array.proofs.LinkEnds.{links_owned}
use Rattle.core_array.proofs.laws.schedules_agree.Goals as goal

pub returns : goal.returns
returns c = λ links one other net. agree no_core (core_action links) (links_owned links) one other net
