use Rattle.code_layout.proofs.CodeWeight.{items_are_light, tokens_are_light}
use Rattle.code_layout.proofs.laws.items_are_light.Goals as goal

pub returns-clause-items : goal.returns-clause-items
returns-clause-items c = items_are_light

pub returns-clause-tokens : goal.returns-clause-tokens
returns-clause-tokens c = tokens_are_light
