use Rattle.std.proofs.Common.{◌∙◌, ap}
use Rattle.control_flow.specs.Nest.{any_do}
use Rattle.control_flow.proofs.Nests.{seen_do}
use Rattle.control_flow.proofs.nest.Nest.is_inside_do.Goals as goal

pub returns : goal.returns
returns c = c.any_do.ensures ∙ ap any_do c.as_slice.ensures.value ∙ seen_do c.self.inside.structures.items _ c.self.view_is
