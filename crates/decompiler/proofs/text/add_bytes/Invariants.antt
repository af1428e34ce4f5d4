use Rattle.std.proofs.Common.{◌≡◌, ◌++◌, drop, map}
use Rattle.std.specs.List.{flat_map}
use Rattle.decompiler.specs.Listing.{hex2, spaced}
use Rattle.decompiler.proofs.text.add_bytes.Given as goal

abbrev pub invariant-loop-byte : goal.invariant-loop-byte
invariant-loop-byte l = l.text.items ++ flat_map spaced (map hex2 (drop l.byte-index l.bytes)) ≡ l.fn.text.items ++ flat_map spaced (map hex2 l.bytes)
