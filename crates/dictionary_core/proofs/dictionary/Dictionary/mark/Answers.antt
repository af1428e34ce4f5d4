use Rattle.std.proofs.Common.{arith}
use Rattle.dictionary_core.proofs.PairLists.{seen_length}
use Rattle.dictionary_core.proofs.dictionary.Dictionary.mark.Goals as goal

pub returns-clause-value : goal.returns-clause-value
returns-clause-value g c = omega (arith, c.len.ensures, seen_length _ _ _ _ c.self.view_is c.self.invariant.as_many, c.self.invariant.as_many)

pub returns-clause-few : goal.returns-clause-few
returns-clause-few g c = omega (arith, seen_length _ _ _ _ c.self.view_is c.self.invariant.as_many, c.self.invariant.few)
