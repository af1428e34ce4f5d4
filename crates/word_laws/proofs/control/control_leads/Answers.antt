use Rattle.word_laws.proofs.ControlRows.{jump_leads, call_leads, return_leads, branch_leads, branch_passes}
use Rattle.word_laws.proofs.control.control_leads.Goals as goal

pub returns-clause-jump : goal.returns-clause-jump
returns-clause-jump c = jump_leads

pub returns-clause-call : goal.returns-clause-call
returns-clause-call c = call_leads

pub returns-clause-returns : goal.returns-clause-returns
returns-clause-returns c = return_leads

pub returns-clause-branch : goal.returns-clause-branch
returns-clause-branch c = branch_leads

pub returns-clause-passes : goal.returns-clause-passes
returns-clause-passes c = branch_passes
