use Rattle.std.proofs.Common.{◌∙◌}
use Rattle.std.specs.Prelude.{decimal}
use Rattle.std.proofs.lemmas.Result.{on_ok_weaker}
use Rattle.decompiler.specs.Listing.{hex4, place}
use Rattle.instruction_trace.proofs.Fields.{head_is}
use Rattle.instruction_trace.proofs.lines.add_head.Goals as goal

pub returns : goal.returns
returns c =
    on_ok_weaker c.add_cell.result
    (λ e. head_is c.args.text.now.items c.extend_from_slice.new.self.items c.extend_from_slice-2.new.self.items c.add_place.new.text.items c.add_cell.new.text.items
    c.as_bytes.result.now (decimal c.args.number) (place c.args.at) (hex4 c.args.cell)
    c.in_ok-extend_from_slice.ensures.items (c.as_bytes.ensures.value ∙ c.format.ensures.text) c.in_ok-extend_from_slice-2.ensures.items c.in_ok-add_place.ensures e) c.add_cell.ensures
