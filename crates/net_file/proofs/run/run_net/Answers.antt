use Rattle.std.proofs.Common.{ap, ◌∙◌}
use Rattle.std.specs.Prelude.{Err}
use Rattle.net_file.proofs.SoundLinks.{links_good}
use Rattle.net_file.proofs.run.run_net.Goals as goal

pub unreachable-requires : goal.unreachable-requires
unreachable-requires c =
    links_good c.args.net.now _ c.in-Err-BadLink.field-0-0 _ c.requires.sound c.requires.images c.links.ensures
    ((c.new.ensures.bad c.in-Err-BadLink.field-0-0).0 (c.in-Err-BadLink.is ∙ ap Err c.in-Err-BadLink.field-0-is))
