use Rattle.std.proofs.Common.{◌≡◌, map, drop}
use Rattle.std.specs.List.{list_all}
use Rattle.forth_program.specs.Parts.{token_node}
use Rattle.depth_certifier.specs.Certificate.{known_of}
use Rattle.depth_certifier.specs.Rounds.{token_effect}
use Rattle.depth_certifier.specs.Checking.{effect_in}
use Rattle.depth_certifier.proofs.validity.tokens_hold.Given as goal

abbrev pub invariant-loop-token : goal.invariant-loop-token
invariant-loop-token l =
    list_all (λ node. effect_in (token_effect (known_of l.certificate) node) l.certificate.shared) (map token_node (drop l.token-index l.tokens))
    ≡ list_all (λ node. effect_in (token_effect (known_of l.certificate) node) l.certificate.shared) l.program.tokens
