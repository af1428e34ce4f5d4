use Rattle.std.proofs.Common.{subst, ℕ, List, ◌<◌, slice_index}
use Rattle.decompiler.proofs.Whole.{listing_back, only_to}
use Rattle.decompiler.proofs.laws.listings_assemble.Goals as goal

pub returns : goal.returns
returns c =
    let image = c.args.image.now in
    let room = c.cells.ensures.bound in
    let cells = subst (λ (xs : List ℕ). (k : ℕ) → slice_index xs k < 65536) c.cells.ensures.cells c.are_in_range.ensures.cells in
    let bytes = subst (λ (xs : List ℕ). (k : ℕ) → slice_index xs k < 256) c.bytes.ensures.bytes c.are_in_range.ensures.bytes in
    only_to image c.assembles_by_grammar.ensures (listing_back c.cells_are_instructions.ensures.encodes c.cells_are_instructions.ensures.instructions image (record { room = room; cells = cells; bytes = bytes }))
