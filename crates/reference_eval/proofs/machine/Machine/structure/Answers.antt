use Rattle.std.proofs.Common.{subst}
use Rattle.forth_program.specs.State.{Outcome}
use Rattle.reference_eval.specs.Machine.{Acts, state_of}
use Rattle.reference_eval.proofs.StructureLaws.{chooses, begins_loop, may_begin_loop}
use Rattle.reference_eval.proofs.machine.Machine.structure.Goals as goal

pub returns-in-If : goal.returns-in-If
returns-in-If c = λ w. subst (λ (o : Outcome). Acts c.choose.result o (state_of c.choose.new.self w))
    (chooses c.args.program.now c.args.item.now c.in-If.first c.in-If.second c.list.result.now c.list-in-If.result.now _ (state_of c.args.self.now w) c.in-If.is c.list.ensures c.list-in-If.ensures) (c.choose.ensures w)

pub returns-in-Do : goal.returns-in-Do
returns-in-Do c = λ w. subst (λ (o : Outcome). Acts c.begin_loop.result o (state_of c.begin_loop.new.self w))
    (begins_loop c.args.program.now c.args.item.now c.in-Do.body c.in-Do.plus c.list-in-Do.result.now _ (state_of c.args.self.now w) c.in-Do.is c.list-in-Do.ensures) (c.begin_loop.ensures w)

pub returns-in-QDo : goal.returns-in-QDo
returns-in-QDo c = λ w. subst (λ (o : Outcome). Acts c.may_begin_loop.result o (state_of c.may_begin_loop.new.self w))
    (may_begin_loop c.args.program.now c.args.item.now c.in-QDo.body c.in-QDo.plus c.list-in-QDo.result.now _ (state_of c.args.self.now w) c.in-QDo.is c.list-in-QDo.ensures) (c.may_begin_loop.ensures w)
