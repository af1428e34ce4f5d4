use Rattle.net_file.proofs.Graphic.{graphic_utf8}
use Rattle.net_file.proofs.rows.graphic_text.Goals as goal

pub unreachable-requires : goal.unreachable-requires
unreachable-requires c = c.in-Err.ensures.cases.0 (graphic_utf8 c.args.field.now c.requires)
