use Rattle.std.proofs.Common.{ap, ◌∙◌, subst}
use Rattle.std.specs.List.{All, list_all}
use Rattle.forth_program.specs.Form.{may_be_token}
use Rattle.depth_certifier.specs.Rounds.{ProperToken}
use Rattle.depth_certifier.proofs.Bodies.{proper_tokens}
use Rattle.depth_certifier.proofs.validity.tokens_are_proper.Goals as goal

pub returns : goal.returns
returns c =
    subst (All ProperToken) c.tokens-tokens.ensures (proper_tokens c.tokens-tokens.result.now (ap (list_all may_be_token) c.tokens-tokens.ensures ∙ c.def_count-count.ensures.form.tokens_allowed))
