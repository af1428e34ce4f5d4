use Rattle.std.proofs.Common.{◌≡◌, ◌+◌, ◌<◌, ◌%◌, length}
use Rattle.dictionary_core.specs.Buckets.{raised_sum}
use Rattle.dictionary_core.proofs.bucket.bucket_of.Given as goal

abbrev pub invariant-loop-byte : goal.invariant-loop-byte
invariant-loop-byte l = record {
  same : (l.sum + raised_sum l.rest) % 64 ≡ raised_sum l.fn.name % 64;
  small : l.sum < 64;
}

abbrev pub decreases-loop-byte : goal.decreases-loop-byte
decreases-loop-byte l = length l.rest
