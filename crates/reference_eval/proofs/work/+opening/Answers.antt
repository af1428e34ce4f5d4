use Rattle.std.proofs.Common.{◌≡◌, sym, subst, IfOk}
use Rattle.forth_program.specs.Step as step
use Rattle.reference_eval.specs.Work.{works, first_of}
use Rattle.reference_eval.proofs.WorkLaws.{case_empty, case_more}
use Rattle.reference_eval.proofs.work.+opening.Goals as goal

pub open-returns-in-None-clause-first : goal.open-returns-in-None-clause-first
open-returns-in-None-clause-first t c =
    subst (λ (t : step.First). IfOk c.open_among-in-None.result (λ found. t ≡ first_of found (works c.open_among-in-None.new.tasks)))
    (sym (case_empty c.args.item.now c.in-Case.arms c.in-Case.rest c.list-in-Case.result.now c.list-in-None.result.now _ c.in-Case.is c.list-in-Case.ensures c.in-None.ensures.cases c.list-in-None.ensures))
    c.open_among-in-None.ensures.first

pub open-returns-in-Some-clause-first : goal.open-returns-in-Some-clause-first
open-returns-in-Some-clause-first t c =
    subst (λ (t : step.First). IfOk c.open_among-in-Some.result (λ found. t ≡ first_of found (works c.open_among-in-Some.new.tasks)))
    (sym (case_more c.args.item.now c.in-Case.arms c.in-Case.rest c.list-in-Case.result.now c.in-Some.arm.now c.in-Some.others.now c.list-in-Some.result.now c.list-body.result.now
    c.list-behind.result.now _ c.in-Case.is c.list-in-Case.ensures c.in-Some.ensures.cases.0 c.list-in-Some.ensures c.list-body.ensures c.list-behind.ensures))
    c.open_among-in-Some.ensures.first
