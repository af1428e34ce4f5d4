use Rattle.std.proofs.Common.{arith, sym, ap, ◌∙◌, ◌+◌, ◌<◌, length}
use Rattle.std.proofs.Math.Nat.{min-le_left}
use Rattle.std.proofs.lemmas.Option.{slice_get-get_or}
use Rattle.forth_reader.specs.NameList.{NameList}
use Rattle.dictionary_core.proofs.Walks.{walk_starts, walk_ends, walk_hits, walk_within, walk_looked, walk_goes_on, older_before, fewer_steps}
use Rattle.dictionary_core.proofs.chain.place_in_chain.Goals as goal

pub loop-at-init : goal.loop-at-init
loop-at-init g c = walk_starts _ _ _ _ c.requires.head

pub same-requires : goal.same-requires
same-requires g c = omega (arith, walk_within _ _ _ _ _ _ c.loop-at.invariant _ c.in-Some.is, ap length c.loop-at.invariant.names_are)

pub returns-then-same-clause-place : goal.returns-then-same-clause-place
returns-then-same-clause-place g c = sym (walk_hits _ _ _ _ _ _ c.loop-at.invariant _ c.in-Some.is (sym c.same.ensures.value ∙ c.if-same.true))

pub returns-then-same-clause-looks : goal.returns-then-same-clause-looks
returns-then-same-clause-looks g c =
    walk_looked _ _ _ _ _ _ c.loop-at.invariant _ c.in-Some.is _ (omega (arith, ap (λ (l : NameList). l.looks) c.same.ensures.looked, min-le_left (c.loop-at.names.looks + 1) 18446744073709551615))

pub offset_bounds-entries-place : goal.offset_bounds-entries-place
offset_bounds-entries-place g c = omega (arith, walk_within _ _ _ _ _ _ c.loop-at.invariant _ c.in-Some.is, c.requires.as_many)

pub bounds-entries-place : goal.bounds-entries-place
bounds-entries-place g c = omega (arith, walk_within _ _ _ _ _ _ c.loop-at.invariant _ c.in-Some.is, c.requires.as_many)

pub bounds-entries-place-else-same : goal.bounds-entries-place-else-same
bounds-entries-place-else-same g c = omega (arith, walk_within _ _ _ _ _ _ c.loop-at.invariant _ c.in-Some.is, c.requires.as_many)

pub loop-at-smaller : goal.loop-at-smaller
loop-at-smaller g c =
    let within : c.in-Some.place < length c.args.entries.now = omega (arith, walk_within _ _ _ _ _ _ c.loop-at.invariant _ c.in-Some.is, c.requires.as_many) in
    fewer_steps _ _ c.in-Some.place c.in-Some.is (λ k e. older_before _ c.in-Some.place _ k (omega (arith, c.requires.as_many)) (c.requires.linked c.in-Some.place _ (slice_get-get_or _ _ _ within)) e)

pub loop-at-preserved : goal.loop-at-preserved
loop-at-preserved g c =
    let within : c.in-Some.place < length c.args.entries.now = omega (arith, walk_within _ _ _ _ _ _ c.loop-at.invariant _ c.in-Some.is, c.requires.as_many) in
    walk_goes_on _ _ _ _ _ _ c.loop-at.invariant c.in-Some.place c.in-Some.is _ _ _ (c.requires.linked c.in-Some.place _ (slice_get-get_or _ _ _ within)) (sym c.same.ensures.value ∙ c.if-same.false) c.same.ensures.risen
    (omega (arith, ap (λ (l : NameList). l.looks) c.same.ensures.looked, min-le_left (c.loop-at.names.looks + 1) 18446744073709551615)) (ap (λ (l : NameList). l.names) c.same.ensures.looked)

pub returns-clause-place : goal.returns-clause-place
returns-clause-place g c = sym (walk_ends _ _ _ _ _ _ c.loop-at.invariant c.in_default.is)
