use Rattle.std.proofs.Common.{rules, ◌≡◌, sym, ap, ◌∙◌, Some, slice_get}
use Rattle.forth_program.specs.State.{Goes}
use Rattle.forth_program.specs.Parts.{token_node}
use Rattle.reference_eval.specs.Machine.{state_of}
use Rattle.reference_eval.specs.Work.{works}
use Rattle.reference_eval.proofs.Tokens.{got_at, token_is, executes}
use Rattle.reference_eval.proofs.machine.Machine.execute.Goals as goal

pub returns-in_ok-push-in-Some-get : goal.returns-in_ok-push-in-Some-get
returns-in_ok-push-in-Some-get c = λ w.
    let found : slice_get c.tokens.result.now c.from.result ≡ Some c.in-Some-get.token.now = got_at c.tokens.result.now c.from.result c.in-Some-get.token.now (search rules) c.in-Some-get.ensures.lookup.1 in
    executes c.args.program.now c.in-Some.token c.args.self.now.cells c.pop.new.self (token_node c.in-Some-get.token.now) (state_of c.args.self.now w) c.in-Some.ensures
    (token_is c.args.program.now c.tokens.result.now c.in-Some.token c.from.result c.in-Some-get.token.now c.tokens.ensures c.if-token-eq0.false c.from.ensures found)
    ∙ ap (λ tasks. Goes (record (state_of c.args.self.now w) { cells = c.pop.new.self; work = works tasks })) (sym c.in_ok-push-in-Some-get.ensures)
