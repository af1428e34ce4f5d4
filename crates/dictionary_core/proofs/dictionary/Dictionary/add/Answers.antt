use Rattle.std.proofs.Common.{arith, ap, refl}
use Rattle.forth_reader.specs.NameList.{NameList}
use Rattle.dictionary_core.proofs.PairLists.{seen_length, state_more}
use Rattle.dictionary_core.proofs.Links.{chain_added}
use Rattle.dictionary_core.proofs.dictionary.Dictionary.add.Goals as goal

pub returns-then-place-ge512-clause-full : goal.returns-then-place-ge512-clause-full
returns-then-place-ge512-clause-full g c =
    (λ _. omega (arith, c.len-place.ensures, c.if-place-ge512.true, c.self.invariant.few, c.self.invariant.as_many, seen_length _ _ _ _ c.self.view_is c.self.invariant.as_many), λ _. refl)

pub returns-in-Err-clause-full : goal.returns-in-Err-clause-full
returns-in-Err-clause-full g c =
    (λ h. absurd cc, λ h. absurd (omega (arith, h, c.len-place.ensures, c.if-place-ge512.false, c.self.invariant.as_many, seen_length _ _ _ _ c.self.view_is c.self.invariant.as_many)))

pub returns-in-Err-push-clause-full : goal.returns-in-Err-push-clause-full
returns-in-Err-push-clause-full g c =
    (λ h. absurd cc, λ h. absurd (omega (arith, h, c.len-place.ensures, c.if-place-ge512.false, c.self.invariant.as_many, seen_length _ _ _ _ c.self.view_is c.self.invariant.as_many)))

pub returns-in-Ok-push-clause-room : goal.returns-in-Ok-push-clause-room
returns-in-Ok-push-clause-room g c = omega (arith, c.len-place.ensures, c.if-place-ge512.false, c.self.invariant.as_many, seen_length _ _ _ _ c.self.view_is c.self.invariant.as_many)

pub invariant_of-self-in-Ok-push : goal.invariant_of-self-in-Ok-push
invariant_of-self-in-Ok-push g c =
    chain_added c.self.inside.names.names _ c.self.inside.entries.items _ c.self.inside.heads c.args.name.now
    (record { bucket = c.bucket_of-bucket.result; older = _; value = c.args.value }) c.len-place.result c.bucket_of-bucket.ensures.value
    c.self.invariant (omega (arith, c.len-place.ensures, c.if-place-ge512.false, c.self.invariant.as_many)) refl
    (ap (λ (l : NameList). l.names) c.in-Ok.ensures.ok) c.in-Ok-push.ensures.items (omega (arith, c.len-place.ensures, c.self.invariant.as_many))

pub returns-in-Ok-push-clause-ok : goal.returns-in-Ok-push-clause-ok
returns-in-Ok-push-clause-ok g c = (
  omega (arith, c.len-place.ensures, c.self.invariant.as_many, seen_length _ _ _ _ c.self.view_is c.self.invariant.as_many),
  state_more c.self.inside.names c.push.new.self c.self.inside.entries.items _ _ c.args.name.now _ c.self.view_is c.self.invariant.as_many c.in-Ok.ensures.ok c.in-Ok-push.ensures.items,
)
