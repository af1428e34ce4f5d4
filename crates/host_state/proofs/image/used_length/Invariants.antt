use Rattle.std.proofs.Common.{◌≡◌, ◌+◌, length}
use Rattle.host_state.specs.FirstImage.{used_from}
use Rattle.host_state.proofs.image.used_length.Given as goal

abbrev pub invariant-loop-byte : goal.invariant-loop-byte
invariant-loop-byte l = record {
  same : used_from l.place l.used l.rest ≡ used_from 0 0 l.fn.bytes;
  count : l.place + length l.rest ≡ length l.fn.bytes;
}

abbrev pub decreases-loop-byte : goal.decreases-loop-byte
decreases-loop-byte l = length l.rest
