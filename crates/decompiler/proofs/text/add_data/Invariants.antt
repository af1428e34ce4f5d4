use Rattle.std.proofs.Common.{◌≡◌, ◌+◌, ◌/◌, ◌<◌, ◌≤◌, ◌++◌, length}
use Rattle.std.specs.List.{flat_map}
use Rattle.decompiler.specs.Listing.{data_rows, line_text}
use Rattle.decompiler.proofs.text.add_data.Given as goal

abbrev pub invariant-loop-rest : goal.invariant-loop-rest
invariant-loop-rest l = record {
  same : l.text.items ++ flat_map line_text (data_rows ((length l.rest + 15) / 16) l.address l.rest) ≡ l.fn.text.items ++ flat_map line_text (data_rows ((length l.bytes + 15) / 16) l.start l.bytes);
  within : 0 < length l.rest → l.address + length l.rest ≤ 16384;
}

abbrev pub decreases-loop-rest : goal.decreases-loop-rest
decreases-loop-rest l = length l.rest
