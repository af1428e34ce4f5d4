-- The library is certified: computed.
use Rattle.std.proofs.Common.{Result, Ok, Err, [], refl, arith}
use Rattle.depth_certifier.specs.Certificate.{Cert}
use Rattle.depth_certifier.specs.Rounds.{Refusal, RoundsFindTheLeast, Ending, bottom, after_rounds}
use Rattle.forth_library.specs.Certified.{LibraryIsCertified}
use Rattle.forth_library.specs.Definitions.{library_definitions}

-- what a round gives, or nothing
found : Result Cert Refusal → Cert
found (Ok z) = z
found (Err r) = record { effects = []; shared = bottom; heads = [] }

-- no body calls a definition: the second round changes nothing
settled : Ending library_definitions (found (after_rounds library_definitions 2))
unfolding found
settled = record { n = 1; before = found (after_rounds library_definitions 1); reached = refl; again = refl; effects = refl; shared = refl }

pub certified : RoundsFindTheLeast → LibraryIsCertified
unfolding found
certified find = record { certificate = found (after_rounds library_definitions 2); least = find library_definitions _ (λ k token below. absurd (omega (arith, below))) settled; effects = refl }
