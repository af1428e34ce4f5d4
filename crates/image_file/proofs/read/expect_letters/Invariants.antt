use Rattle.std.proofs.Common.{◌≡◌, ◌≤◌, take, length}
use Rattle.image_file.specs.File.{letters}
use Rattle.image_file.proofs.read.expect_letters.Given as goal

abbrev pub invariant-loop-offset : goal.invariant-loop-offset
invariant-loop-offset l = record {
  same : take l.offset l.bytes ≡ take l.offset letters;
  within : l.offset ≤ length l.bytes;
}
