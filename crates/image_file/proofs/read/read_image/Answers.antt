use Rattle.std.proofs.Common.{◌≡◌, ◌+◌, ◌*◌, arith}
use Rattle.image_file.proofs.Bad.{too_short, too_long}
use Rattle.image_file.proofs.read.read_image.Goals as goal

pub returns-then-bytes-end-clause-refused : goal.returns-then-bytes-end-clause-refused
returns-then-bytes-end-clause-refused c =
    let h = c.in-Ok.head in
    too_short c.args.bytes.now h.data_start h.cells h.bytes h.len c.in-Ok.ensures (λ k. omega (arith, c.type_inv.bytes k)) (omega arith)

pub returns-then-bytes-end-2-clause-refused : goal.returns-then-bytes-end-2-clause-refused
returns-then-bytes-end-2-clause-refused c =
    let h = c.in-Ok.head in
    let e : h.len + 2 * c.from.result + c.from-2.result ≡ h.len + (2 * h.cells + h.bytes) = omega arith in
    rw e (too_long c.args.bytes.now h.data_start h.cells h.bytes h.len c.in-Ok.ensures (λ k. omega (arith, c.type_inv.bytes k)) (omega arith))
