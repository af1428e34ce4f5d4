use Rattle.std.proofs.Common.{ap, refl}
use Rattle.forth_reader.specs.NameList.{NameList}
use Rattle.dictionary_core.proofs.Links.{empty_chained}
use Rattle.dictionary_core.proofs.dictionary.Dictionary.new.Goals as goal

pub invariant_of-result : goal.invariant_of-result
invariant_of-result g c = empty_chained _ _ _ (ap (λ (l : NameList). l.names) c.in_ok-names.ensures) c.new-2.ensures.items refl
