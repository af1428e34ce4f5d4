use Rattle.std.proofs.Common.{Some, ap, ◌∙◌}
use Rattle.j1_simulator.specs.MachineState.{MachineState}
use Rattle.instruction_trace.proofs.Making.{made_alone, made_asking}
use Rattle.instruction_trace.proofs.traces.make.Goals as goal

pub returns-in_ok-byte-in-WantsByte-clause-makes : goal.returns-in_ok-byte-in-WantsByte-clause-makes
returns-in_ok-byte-in-WantsByte-clause-makes g c =
    let asks = c.steps_are_the_run.ensures.wants c.args.machine.now c.step_apart.new.self c.step_apart.result c.step_apart.ensures.step in
    let byte = c.in_ok-byte-in-WantsByte.byte in
    made_asking c.steps_are_the_run.ensures.given c.args.machine.now c.give_byte.new.self c.step_apart-event.new.self byte c.step_apart-event.result c.requires.running (asks.0.0 c.in-WantsByte.is)
    (c.give_byte.ensures ∙ ap (λ (m : MachineState). record m { given = Some byte }) (asks.1 c.in-WantsByte.is)) c.step_apart-event.ensures.step

pub returns-in_default-clause-makes : goal.returns-in_default-clause-makes
returns-in_default-clause-makes g c =
    made_alone c.steps_are_the_run.ensures.step c.args.machine.now c.step_apart.new.self c.step_apart.result c.requires.running c.requires.given c.step_apart.ensures.step c.in_default.not-WantsByte
