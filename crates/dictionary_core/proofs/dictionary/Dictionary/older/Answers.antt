use Rattle.std.proofs.Common.{arith, ◌<◌, refl, length}
use Rattle.std.proofs.lemmas.Option.{slice_get_read}
use Rattle.dictionary_core.proofs.PairLists.{seen_names, seen_length}
use Rattle.dictionary_core.proofs.Links.{older_seen}
use Rattle.dictionary_core.proofs.dictionary.Dictionary.older.Goals as goal

pub index-requires : goal.index-requires
index-requires g c = omega (arith, c.requires, seen_length _ _ _ _ c.self.view_is c.self.invariant.as_many, c.self.invariant.as_many)

pub returns : goal.returns
returns g c =
    let names = seen_names _ _ _ _ c.self.view_is c.self.invariant.as_many in
    let within : c.args.place < length c.self.inside.entries.items = omega (arith, c.requires, seen_length _ _ _ _ c.self.view_is c.self.invariant.as_many, c.self.invariant.as_many) in
    older_seen _ _ _ _ names (c.self.invariant.entries_are c.args.place _ (slice_get_read _ _ _ _ refl within c.index.ensures))
