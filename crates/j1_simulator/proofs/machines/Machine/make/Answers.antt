use Rattle.j1_simulator.specs.contracts.machines.Machine.{the_view}
use Rattle.std.proofs.Common.{rules, ap, sym, ◌∙◌, ◌≡◌}
use Rattle.std.specs.Prelude.{Err}
use Rattle.j1_simulator.specs.MachineState.{observation_of, Stopped, with_key, EndsBy}
use Rattle.j1_simulator.specs.Step.{By, step}
use Rattle.j1_simulator.specs.RoundMachine.{round_storage}
use Rattle.j1_simulator.proofs.MachineSteps.{steps_ok, steps_wanting, steps_input_ended, steps_stop}
use Rattle.j1_simulator.proofs.machines.Machine.make.Goals as goal

pub returns-in-Ok : goal.returns-in-Ok
returns-in-Ok c =
    steps_ok (the_view c.self.inside) c.args.self.now _ _ _ _ _ _ _ c.self.view_is (search rules) c.key_in.ensures c.in-Ok.ensures.step c.effect_of-effect.ensures.effect c.count.ensures c.end_after-self-inside.ensures c.answer.ensures

pub returns-in-None : goal.returns-in-None
returns-in-None c =
    steps_wanting (the_view c.self.inside) c.args.self.now c.step.new.self _ c.self.view_is (search rules) c.in-None.is c.key_in.ensures
    (ap (λ p. observation_of (Err p) c.step.new.self) (sym c.in-Err-Wants.field-0-is) ∙ c.in-Err-Wants.ensures.step) c.in-Err-Wants.ensures.err

pub returns-in-Some : goal.returns-in-Some
returns-in-Some c =
    steps_input_ended (the_view c.self.inside) c.args.self.now c.end_by.new.self c.step.new.self _ _ _ c.self.view_is (search rules) c.in-Some.is
    c.key_in.ensures (ap (λ p. observation_of (Err p) c.step.new.self) (sym c.in-Err-Wants.field-0-is) ∙ c.in-Err-Wants.ensures.step)
    c.in-Err-Wants.ensures.err c.end_by.ensures

pub returns-in-Err-Stops : goal.returns-in-Err-Stops
returns-in-Err-Stops c =
    let stopped : Stopped (By c.in-Err-Stops.end) ≡ with_key c.key_in.result (step round_storage c.self.inside.fence.data_start c.self.inside.cpu) =
    ap (λ p. observation_of (Err p) c.step.new.self) (sym c.in-Err-Stops.field-0-is) ∙ c.in-Err-Stops.ensures.step in
    let ended : EndsBy c.in-Err-Stops.end c.end_by-in-Err-Stops.result (record (the_view c.self.inside) { core = c.step.new.self }) c.end_by-in-Err-Stops.new.self = search rules in
    steps_stop (the_view c.self.inside) c.args.self.now c.end_by-in-Err-Stops.new.self c.step.new.self _ _ _ c.self.view_is (search rules) c.key_in.ensures stopped c.in-Err-Stops.ensures.err ended
