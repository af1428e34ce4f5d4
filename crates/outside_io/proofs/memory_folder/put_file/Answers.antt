use Rattle.std.proofs.Common.{arith}
use Rattle.std.proofs.lemmas.Map.Text.{text_keys}
use Rattle.outside_io.proofs.Contents.{contents_of-insert}
use Rattle.outside_io.proofs.memory_folder.put_file.Goals as goal

pub returns-clause-ok : goal.returns-clause-ok
returns-clause-ok c = contents_of-insert c.args.files.now c.insert.new.self c.args.name.now c.args.bytes.now (λ other. grind (arith, text_keys))
