use Rattle.std.proofs.Common.{◌≡◌, arith, ◌∙◌, ap, sym, subst, length, take, ◌∷◌, [], length-append}
use Rattle.std.proofs.lemmas.List.{take_all}
use Rattle.dictionary_core.specs.Pairs.{DictionaryState}
use Rattle.dictionary_core.specs.Chains.{IsChained}
use Rattle.dictionary_core.proofs.PairLists.{seen_length, pairs_less, state_cut}
use Rattle.dictionary_core.proofs.Links.{chain_popped}
use Rattle.dictionary_core.proofs.dictionary.Dictionary.forget_to.Goals as goal

pub loop-self-init : goal.loop-self-init
loop-self-init g c =
    let entries = c.self.inside.entries.items in
    let names = c.self.inside.names.names in
    let as_many = c.self.invariant.as_many in
    let long = seen_length _ _ _ _ c.self.view_is as_many in
    let whole : take (length entries) names ≡ names = take_all (length entries) names (omega (arith, as_many)) in
    record {
      chained = subst (λ ns. IsChained ns entries c.self.inside.heads) (sym whole) c.self.invariant;
      within = omega (arith, as_many);
      above = omega (arith, c.requires, long, as_many);
      pairs = ap (λ (d : DictionaryState g.row.V.Denot). d.pairs) c.self.view_is ∙ sym (take_all (length entries) c.args.self.now.pairs (omega (arith, long, as_many)));
      looks = ap (λ (d : DictionaryState g.row.V.Denot). d.looks) c.self.view_is;
    }

pub bounds-self-inside-entry : goal.bounds-self-inside-entry
bounds-self-inside-entry g c = (chain_popped _ _ _ _ _ c.in-Some.ensures.items c.loop-self.invariant.within c.loop-self.invariant.chained).0

pub loop-self-preserved : goal.loop-self-preserved
loop-self-preserved g c =
    let longer = ap length c.in-Some.ensures.items ∙ length-append c.pop.new.self.items (c.in-Some.entry ∷ []) in
    record {
      chained = (chain_popped _ _ _ _ _ c.in-Some.ensures.items c.loop-self.invariant.within c.loop-self.invariant.chained).1;
      within = omega (arith, longer, c.loop-self.invariant.within);
      above = omega (arith, longer, c.len.ensures, c.loop-self-test.true);
      pairs = pairs_less _ _ _ _ _ c.in-Some.ensures.items c.loop-self.invariant.pairs;
      looks = c.loop-self.invariant.looks;
    }

pub returns : goal.returns
returns g c = state_cut _ _ _ _ c.args.self.now c.cut.ensures (omega (arith, c.len.ensures, c.loop-self-test.false, c.loop-self.invariant.above)) c.loop-self.invariant.pairs c.loop-self.invariant.looks
