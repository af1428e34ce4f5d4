use Rattle.std.proofs.Common.{◌∙◌, ap, sym}
use Rattle.dictionary_core.specs.Buckets.{last_in}
use Rattle.dictionary_core.proofs.PairLists.{seen_names}
use Rattle.dictionary_core.proofs.dictionary.Dictionary.head.Goals as goal

pub returns : goal.returns
returns g c =
    let names = seen_names _ _ _ _ c.self.view_is c.self.invariant.as_many in
    c.self.invariant.heads_are c.args.of c.requires ∙ ap (last_in c.args.of) (sym names)
