use Rattle.std.proofs.Common.{◌≡◌, drop}
use Rattle.std.specs.List.{list_all}
use Rattle.j1_assembler.specs.Text.{is_line_byte}
use Rattle.j1_assembler.proofs.lines.are_line_bytes.Given as goal

abbrev pub invariant-loop-byte : goal.invariant-loop-byte
invariant-loop-byte l = list_all is_line_byte (drop l.byte-index l.bytes) ≡ list_all is_line_byte l.bytes
