use Rattle.j1_assembler.proofs.Steps.{refers, refers_none}
use Rattle.j1_assembler.specs.Labels.{found_in}
use Rattle.j1_assembler.proofs.assembler.cell_of.Goals as goal

pub returns-in-Some : goal.returns-in-Some
returns-in-Some c =
    let e =
    c.in-Reference.is in
    let f =
    c.in-Some.ensures.value in
    let g =
    c.cell_going.ensures in
    refers (found_in c.args.labels.now) c.args.operation c.in-Reference.way c.in-Reference.name c.in-Some.definition.now c.cell_going.result e f g

pub returns-in-None : goal.returns-in-None
returns-in-None c = let f = c.in-None.ensures.value in refers_none (found_in c.args.labels.now) c.args.operation c.in-Reference.way c.in-Reference.name c.in-Reference.is f
