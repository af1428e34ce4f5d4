use Rattle.step_certifier.proofs.OnChip.{images_end}
use Rattle.step_certifier.proofs.laws.bounded_images_end.Goals as goal

pub returns : goal.returns
returns c = images_end c.certified_chips_agree.ensures c.runs_only_grow.ensures.round c.bounded_programs_end.ensures
