use Rattle.std.proofs.Common.{arith, ◌∙◌, ◌<◌, ap, sym, refl, length}
use Rattle.std.specs.Prelude.{slice_get}
use Rattle.std.proofs.lemmas.Option.{slice_get_read}
use Rattle.dictionary_core.specs.Buckets.{bucket, is_same_name}
use Rattle.dictionary_core.proofs.Last.{last_within}
use Rattle.dictionary_core.proofs.PairLists.{seen_none, seen_some, seen_looks}
use Rattle.dictionary_core.proofs.dictionary.Dictionary.look_up.Goals as goal

pub place_in_chain-requires-clause-linked : goal.place_in_chain-requires-clause-linked
place_in_chain-requires-clause-linked g c = λ place entry e. c.self.invariant.entries_are place entry (ap (λ l. slice_get l place) (sym c.as_slice.ensures.value) ∙ e)

pub returns-in_err-place-clause-value : goal.returns-in_err-place-clause-value
returns-in_err-place-clause-value g c = c.from_residual.ensures ∙ sym (seen_none c.self.inside.names c.self.inside.entries.items _ c.args.name.now c.self.view_is c.self.invariant.as_many (sym c.in_err-place.ensures.place))

pub returns-in_err-place-clause-looks : goal.returns-in_err-place-clause-looks
returns-in_err-place-clause-looks g c = seen_looks c.self.inside.names c.self.inside.entries.items _ (bucket c.args.name.now) _ c.self.view_is c.self.invariant.as_many c.place_in_chain.ensures.looks

pub index-requires : goal.index-requires
index-requires g c = omega (arith, last_within (is_same_name c.args.name.now) c.self.inside.names.names c.in_ok-place.place (sym c.in_ok-place.ensures.place), c.self.invariant.as_many)

pub returns-clause-value : goal.returns-clause-value
returns-clause-value g c =
    let within : c.in_ok-place.place < length c.self.inside.entries.items =
    omega (
      arith,
      last_within (is_same_name c.args.name.now) c.self.inside.names.names c.in_ok-place.place (sym c.in_ok-place.ensures.place),
      c.self.invariant.as_many,
    ) in
    sym (seen_some c.self.inside.names c.self.inside.entries.items _ c.args.name.now c.in_ok-place.place _ c.self.view_is c.self.invariant.as_many (sym c.in_ok-place.ensures.place) (slice_get_read _ _ _ _ refl within c.index.ensures))

pub returns-clause-looks : goal.returns-clause-looks
returns-clause-looks g c = seen_looks c.self.inside.names c.self.inside.entries.items _ (bucket c.args.name.now) _ c.self.view_is c.self.invariant.as_many c.place_in_chain.ensures.looks
