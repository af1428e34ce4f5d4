use Rattle.j1_simulator.specs.contracts.machines.Machine.{the_view}
use Rattle.std.proofs.Common.{◌≡◌, None, rules, refl, sym, subst}
use Rattle.j1_simulator.specs.declared.ends.Event.TheVariants.{Went}
use Rattle.j1_simulator.specs.MachineState.{MachineState, key_of, Steps}
use Rattle.j1_simulator.proofs.MachineSteps.{steps_ok, none_given}
use Rattle.j1_simulator.proofs.machines.Machine.pass.Goals as goal

pub returns : goal.returns
returns c =
    let none : c.self.inside.given ≡ None = none_given (the_view c.self.inside) c.pass.new.self c.self.invariant (c.pass.ensures None c.self.inside.fence.data_start) in
    let stepped =
    steps_ok (the_view c.self.inside) c.args.self.now _ _ _ Went _ c.count.new.self c.self.inside.ended c.self.view_is (search rules) refl
    (c.pass.ensures (key_of c.self.inside.given) c.self.inside.fence.data_start) c.effect_of-effect.ensures.effect c.count.ensures (search rules) refl in
    subst
    (λ given.
    let new : MachineState = record { core = c.pass.new.self; data_start = c.self.inside.fence.data_start; given = given; depths = c.count.new.self; ended = c.self.inside.ended } in
    Steps c.args.self.now.ended Went c.args.self.now new) (sym none) stepped
