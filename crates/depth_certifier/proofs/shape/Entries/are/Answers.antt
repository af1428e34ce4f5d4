use Rattle.std.proofs.Common.{◌≡◌, false, reverse, sym, ◌∙◌, subst, take, arith}
use Rattle.depth_certifier.specs.Walk.{same_shape}
use Rattle.depth_certifier.proofs.Slots.{other_counts, other_slot, same_slots}
use Rattle.depth_certifier.proofs.shape.Entries.are.Goals as goal

pub returns-then-self-others : goal.returns-then-self-others
returns-then-self-others c = other_counts c.args.self.slots c.args.others.slots c.args.self.count c.args.others.count (omega arith) (omega arith) (omega arith)

pub returns-then-not-is_same : goal.returns-then-not-is_same
returns-then-not-is_same c =
    subst (λ m. false ≡ same_shape (reverse (take c.args.self.count c.args.self.slots)) (reverse (take m c.args.others.slots))) c.if-self-others.false
    (other_slot c.args.self.slots c.args.others.slots c.args.self.count c.loop-i.i c.loop-i-test.true (omega arith) (omega arith) (sym c.is_same.ensures ∙ c.if-not-is_same.true))

pub returns : goal.returns
returns c =
    let e : c.loop-i.i ≡ c.args.self.count = omega arith in
    same_slots c.args.self.slots c.args.others.slots c.args.self.count c.args.others.count c.if-self-others.false (subst (λ k. take k c.args.self.slots ≡ take k c.args.others.slots) e c.loop-i.invariant)
