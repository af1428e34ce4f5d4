use Rattle.std.proofs.Common.{sym, ◌∙◌, Some, []}
use Rattle.reference_eval.specs.Outside.{input_of}
use Rattle.reference_eval.proofs.Evaluated.{Begins, flushes, has_stayed, no_start, not_all_written, all_well_as}
use Rattle.reference_eval.proofs.evaluation.evaluate.Goals as goal

pub returns-in_default : goal.returns-in_default
returns-in_default g c = no_start _ _ _ _ _ _

pub returns-in_default-new : goal.returns-in_default-new
returns-in_default-new g c = no_start _ _ _ _ _ _

pub returns-then-has_failed : goal.returns-then-has_failed
returns-then-has_failed g c =
    let begins : Begins c.args.program.now c.in-Ok.memory c.in-Ok-new.machine = record { memory_is = c.in-Ok.ensures; work = c.in-Ok-new.ensures.work; empty = c.in-Ok-new.ensures.empty } in
    not_all_written _ _ c.run-came.result c.in-Ok-new.machine c.run-came.new.self c.in-Ok.memory c.run-came.new.memory c.flush.new.self _ _ _ _ _ _ _ _ _ _ begins c.run-came.ensures
    (flushes _ _ _ _ _ _ (c.flush.ensures.leads (input_of (Some []) 0) 0) c.flush.ensures.well) (sym c.has_failed.ensures ∙ c.if-has_failed.true)

pub returns : goal.returns
returns g c =
    let begins : Begins c.args.program.now c.in-Ok.memory c.in-Ok-new.machine = record { memory_is = c.in-Ok.ensures; work = c.in-Ok-new.ensures.work; empty = c.in-Ok-new.ensures.empty } in
    all_well_as _ _ _ c.run-came.result c.in-Ok-new.machine c.run-came.new.self c.in-Ok.memory c.run-came.new.memory c.flush.new.self _ _ _ _ _ _ _ _ _ _ c.finish.ensures begins c.run-came.ensures
    (flushes _ _ _ _ _ _ (c.flush.ensures.leads (input_of (Some []) 0) 0) c.flush.ensures.well) (sym c.has_failed.ensures ∙ c.if-has_failed.false) c.flush.ensures.empty

pub finish-requires : goal.finish-requires
finish-requires g c =
    let begins : Begins c.args.program.now c.in-Ok.memory c.in-Ok-new.machine = record { memory_is = c.in-Ok.ensures; work = c.in-Ok-new.ensures.work; empty = c.in-Ok-new.ensures.empty } in
    has_stayed c.sources_stay.ensures _ _ c.run-came.result c.in-Ok-new.machine c.run-came.new.self c.in-Ok.memory c.run-came.new.memory _ _ _ _ _ _ _ _ c.requires
    c.def_count-count.ensures.form.tokens_allowed begins c.run-came.ensures
