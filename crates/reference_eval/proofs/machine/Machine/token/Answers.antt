use Rattle.std.proofs.Common.{rules, sym, ap}
use Rattle.forth_program.specs.Step as step
use Rattle.forth_program.specs.Parts.{token_node}
use Rattle.reference_eval.specs.Machine.{state_of}
use Rattle.reference_eval.proofs.WordSteps.{leaves_acts}
use Rattle.reference_eval.proofs.StepLaws as law
use Rattle.reference_eval.proofs.machine.Machine.token.Goals as goal
use Rattle.forth_program.specs.declared.program.Token.TheVariants as tokens

pub returns-in-Def : goal.returns-in-Def
returns-in-Def g c = law.makes_as (λ s. step.act c.args.program.now (step.first_in (token_node (tokens.Def c.in-Def.id)) s.work) s) _ _ c.args.self.now c.args.self.now _ _ _ (λ w. ap
    (λ t. step.act c.args.program.now (step.first_in (token_node t) (state_of c.args.self.now w).work) (state_of c.args.self.now w)) (sym c.in-Def.is)) (law.acts_make _ _ c.args.self.now _ _ c.call.ensures)

pub returns-in-Table : goal.returns-in-Table
returns-in-Table g c = law.makes_as (λ s. step.act c.args.program.now (step.first_in (token_node (tokens.Table c.in-Table.word)) s.work) s) _ _ c.args.self.now c.args.self.now _ _ _ (λ w. ap
    (λ t. step.act c.args.program.now (step.first_in (token_node t) (state_of c.args.self.now w).work) (state_of c.args.self.now w)) (sym c.in-Table.is)) (c.word.ensures)

pub returns-in-Value : goal.returns-in-Value
returns-in-Value g c = law.makes_as (λ s. step.act c.args.program.now (step.first_in (token_node (tokens.Value c.in-Value.value)) s.work) s) _ _ c.args.self.now c.args.self.now _ _ _ (λ w. ap
    (λ t. step.act c.args.program.now (step.first_in (token_node t) (state_of c.args.self.now w).work) (state_of c.args.self.now w)) (sym c.in-Value.is)) (law.acts_make _ _ c.args.self.now _ _
    (λ w. leaves_acts _ _ _ (state_of c.args.self.now w) (c.put.ensures w)))

pub returns-in_err-push-in-Child : goal.returns-in_err-push-in-Child
returns-in_err-push-in-Child g c = law.nothing_makes _ _ _ _ _ (search rules)

pub returns-in_ok-push-in-Child : goal.returns-in_ok-push-in-Child
returns-in_ok-push-in-Child g c = law.makes_as (λ s. step.act c.args.program.now (step.first_in (token_node
    (tokens.Child c.in-Child.id c.in-Child.address)) s.work) s) _ _ c.args.self.now c.args.self.now _ _ _ (λ w. ap (λ t. step.act c.args.program.now (step.first_in (token_node t)
    (state_of c.args.self.now w).work) (state_of c.args.self.now w)) (sym c.in-Child.is)) (law.makes_called c.args.program.now c.in-Child.id.0 c.in-Child.address _ c.args.self.now _ _ _ c.in_ok-push-in-Child.ensures c.call-in-Child.ensures)
