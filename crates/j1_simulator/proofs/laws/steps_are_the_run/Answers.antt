use Rattle.j1_simulator.proofs.Turns.{begins_at_start, wants_exactly, step_is_instruction, given_step_is_instruction}
use Rattle.j1_simulator.proofs.laws.steps_are_the_run.Goals as goal

pub returns-clause-start : goal.returns-clause-start
returns-clause-start c = begins_at_start

pub returns-clause-wants : goal.returns-clause-wants
returns-clause-wants c = wants_exactly

pub returns-clause-step : goal.returns-clause-step
returns-clause-step c = step_is_instruction

pub returns-clause-given : goal.returns-clause-given
returns-clause-given c = given_step_is_instruction
