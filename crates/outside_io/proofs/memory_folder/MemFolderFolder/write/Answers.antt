use Rattle.std.proofs.Common.{◌∙◌, ap, rules}
use Rattle.std.specs.FinMap.{insert}
use Rattle.outside_io.proofs.Contents.{sets_file, keeps_others}
use Rattle.outside_io.proofs.memory_folder.MemFolderFolder.write.Goals as goal

pub returns-clause-written : goal.returns-clause-written
returns-clause-written c =
    sets_file c.args.self.now.files _ _ _ (search rules ∙ ap (λ f. insert f.files c.args.name.now c.args.bytes.now) c.self.view_is)

pub returns-clause-others : goal.returns-clause-others
returns-clause-others c =
    keeps_others c.args.self.now.files _ _ _ (search rules ∙ ap (λ f. insert f.files c.args.name.now c.args.bytes.now) c.self.view_is)
