use Rattle.std.proofs.Common.{◌≡◌, ◌*◌, length, take, drop, arith, ◌∙◌, ap}
use Rattle.std.proofs.lemmas.Result.{IfOk-weaker}
use Rattle.image_file.proofs.Whole.{cells_count, space_len, is_file}
use Rattle.image_file.proofs.read.image_of.Goals as goal

pub split-requires : goal.split-requires
split-requires c =
    let h = c.args.head in
    let code : c.split_at-2.result.0.now ≡ take (2 * h.cells) (drop h.len c.args.bytes.now) = cc (c.split_at-2.ensures.front, c.split_at.ensures.back, c.from.ensures) in
    let space : c.split_at-2.result.1.now ≡ drop (2 * h.cells) (drop h.len c.args.bytes.now) = cc (c.split_at-2.ensures.back, c.split_at.ensures.back, c.from.ensures) in
    let count = cells_count c.args.bytes.now h.data_start h.cells h.bytes h.len c.requires.head (λ k. omega (arith, c.type_inv.bytes k)) c.requires.whole _ c.split_at-2.result.1.now _ code space c.in_ok-cells.ensures in
    let bytes = space_len c.args.bytes.now h.data_start h.cells h.bytes h.len c.requires.head (λ k. omega (arith, c.type_inv.bytes k)) c.requires.whole _ c.split_at-2.result.1.now _ code space c.in_ok-cells.ensures in
    record {
      splits = c.requires.head.fits;
      code = omega (arith, ap length c.as_slice.ensures.value, count, c.requires.head.code);
      space = omega (arith, bytes, c.requires.head.space);
    }

pub returns : goal.returns
returns c =
    let h = c.args.head in
    let code : c.split_at-2.result.0.now ≡ take (2 * h.cells) (drop h.len c.args.bytes.now) = cc (c.split_at-2.ensures.front, c.split_at.ensures.back, c.from.ensures) in
    let space : c.split_at-2.result.1.now ≡ drop (2 * h.cells) (drop h.len c.args.bytes.now) = cc (c.split_at-2.ensures.back, c.split_at.ensures.back, c.from.ensures) in
    IfOk-weaker c.split.result _ _
    (λ image e.
    is_file c.args.bytes.now h.data_start h.cells h.bytes h.len c.requires.head (λ k. omega (arith, c.type_inv.bytes k)) c.requires.whole
    c.split_at-2.result.0.now c.split_at-2.result.1.now c.as_slice.result.now code space (c.as_slice.ensures.value ∙ c.in_ok-cells.ensures) image e)
    c.split.ensures
