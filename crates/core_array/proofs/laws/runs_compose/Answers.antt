use Rattle.core_array.specs.Cores.{no_core, core_action}
use Rattle.core_array.proofs.Confluence.{folded_append}
use Rattle.core_array.proofs.laws.runs_compose.Goals as goal

pub returns : goal.returns
returns c = λ links one other net. folded_append no_core (core_action links) one other net
