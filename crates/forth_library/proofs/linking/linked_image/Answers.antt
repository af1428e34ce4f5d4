use Rattle.std.proofs.Common.{◌≡◌, List, IfOk, sym, subst}
use Rattle.forth_program.specs.Tree.{Nodes}
use Rattle.code_layout.specs.Built.{IsBuilt}
use Rattle.code_layout.specs.Layout.{laid_out}
use Rattle.forth_library.proofs.linking.linked_image.Goals as goal

pub lay_out-requires-clause-program : goal.lay_out-requires-clause-program
lay_out-requires-clause-program c =
    let P : List Nodes → Type 0 = λ library. IsBuilt library c.args.program.now in
    subst P (sym c.in_ok-library.ensures.bodies) c.requires

pub returns : goal.returns
returns c =
    let P : List Nodes → Type 0 = λ library. IfOk c.lay_out.result (λ image. image ≡ laid_out library c.args.program.now) in
    subst P c.in_ok-library.ensures.bodies c.lay_out.ensures
