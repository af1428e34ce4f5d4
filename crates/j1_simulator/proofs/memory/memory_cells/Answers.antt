use Rattle.std.proofs.Common.{arith, rules, ◌∙◌, ◌++◌, ap, length, length-append}
use Rattle.cell_math.specs.Bytes.{cells_of_bytes}
use Rattle.j1_simulator.proofs.Bytes.{laid_out, cells_few}
use Rattle.j1_simulator.proofs.memory.memory_cells.Goals as goal

pub returns-clause-cells : goal.returns-clause-cells
returns-clause-cells c =
    laid_out c.args.image.now c.in_ok-memory.memory.items _ _ _ _ (search rules) c.cells.ensures.bound (grind arith) c.in_ok-fill.ensures.items
    (c.in_ok-add_bytes.ensures ∙ ap (λ b. c.fill.new.cells.items ++ cells_of_bytes b) c.bytes.ensures.bytes) c.in_ok-fill-2.ensures.items

pub fill-requires-2 : goal.fill-requires-2
fill-requires-2 c =
    let room = c.cells.ensures.bound in
    let space = room.space in
    let even = room.splits.is_even in
    let most = room.splits.at_most in
    omega (arith, simp length-append at (ap length c.in_ok-add_bytes.ensures), cells_few c.bytes.result.now, ap length c.bytes.ensures.bytes, c.in_ok-fill.ensures.len, c.data_start.ensures.value, space, even, most)
