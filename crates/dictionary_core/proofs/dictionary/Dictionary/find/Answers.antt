use Rattle.std.proofs.Common.{arith, ◌∙◌, ◌<◌, ap, sym, refl, length}
use Rattle.std.specs.Prelude.{slice_get}
use Rattle.std.proofs.lemmas.Option.{slice_get_read}
use Rattle.dictionary_core.specs.Buckets.{bucket, is_same_name}
use Rattle.dictionary_core.proofs.Last.{last_within}
use Rattle.dictionary_core.proofs.PairLists.{seen_some, seen_looks, seen_risen, seen_pairs, seen_place}
use Rattle.dictionary_core.proofs.dictionary.Dictionary.find.Goals as goal

pub place_in_chain-requires-clause-linked : goal.place_in_chain-requires-clause-linked
place_in_chain-requires-clause-linked g c = λ place entry e. c.self.invariant.entries_are place entry (ap (λ l. slice_get l place) (sym c.as_slice.ensures.value) ∙ e)

pub returns-in_err-place : goal.returns-in_err-place
returns-in_err-place g c =
    let names = c.self.inside.names in
    let entries = c.self.inside.entries.items in
    let looks = seen_looks names entries _ (bucket c.args.name.now) _ c.self.view_is c.self.invariant.as_many c.place_in_chain.ensures.looks in
    let risen = seen_risen names entries _ _ c.self.view_is c.place_in_chain.ensures.risen in
    rw c.from_residual.ensures (
      (refl, λ _. tt, (seen_pairs names _ entries _ c.self.view_is c.place_in_chain.ensures.names, risen, looks)),
      seen_place names entries _ c.args.name.now _ c.self.view_is c.self.invariant.as_many c.in_err-place.ensures.place,
    )

pub index-requires : goal.index-requires
index-requires g c = omega (arith, last_within (is_same_name c.args.name.now) c.self.inside.names.names c.in_ok-place.place (sym c.in_ok-place.ensures.place), c.self.invariant.as_many)

pub returns : goal.returns
returns g c =
    let names = c.self.inside.names in
    let entries = c.self.inside.entries.items in
    let looks = seen_looks names entries _ (bucket c.args.name.now) _ c.self.view_is c.self.invariant.as_many c.place_in_chain.ensures.looks in
    let risen = seen_risen names entries _ _ c.self.view_is c.place_in_chain.ensures.risen in
    let within : c.in_ok-place.place < length entries = omega (arith, last_within (is_same_name c.args.name.now) names.names c.in_ok-place.place (sym c.in_ok-place.ensures.place), c.self.invariant.as_many) in (
      (refl, λ _. tt, (seen_pairs names _ entries _ c.self.view_is c.place_in_chain.ensures.names, risen, looks)),
      (
        seen_place names entries _ c.args.name.now _ c.self.view_is c.self.invariant.as_many c.in_ok-place.ensures.place,
        seen_some names entries _ c.args.name.now c.in_ok-place.place _ c.self.view_is c.self.invariant.as_many (sym c.in_ok-place.ensures.place) (slice_get_read _ _ _ _ refl within c.index.ensures),
      ),
    )
