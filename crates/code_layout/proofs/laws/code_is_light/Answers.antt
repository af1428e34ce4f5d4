use Rattle.code_layout.proofs.CodeWeight.{code_is_light}
use Rattle.code_layout.proofs.laws.code_is_light.Goals as goal

pub returns : goal.returns
returns c = code_is_light
