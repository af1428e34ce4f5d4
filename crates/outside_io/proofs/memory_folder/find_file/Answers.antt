use Rattle.std.proofs.Common.{arith}
use Rattle.outside_io.proofs.Contents.{get-contents_of}
use Rattle.outside_io.proofs.memory_folder.find_file.Goals as goal

pub returns-in-Some : goal.returns-in-Some
returns-in-Some c = grind (arith, get-contents_of)

pub returns-in-None : goal.returns-in-None
returns-in-None c = grind (arith, get-contents_of)
