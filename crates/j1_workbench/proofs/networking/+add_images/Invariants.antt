use Rattle.std.proofs.Common.{length}
use Rattle.j1_workbench.proofs.networking.+add_images.Given as goal

abbrev pub decreases-add_images : goal.decreases-add_images
decreases-add_images g l = length l.sources.now
