use Rattle.std.proofs.Common.{subst}
use Rattle.library_laws.specs.Bodies.{whole_library}
use Rattle.code_layout.specs.Built.{IsBuilt}
use Rattle.target_forth.proofs.Images as images
use Rattle.target_forth.proofs.image.kernel_image.Goals as goal

pub linked_image-requires : goal.linked_image-requires
linked_image-requires c = subst (IsBuilt whole_library) (images.same_program c.kernel_is_read.ensures.read c.as_bytes.ensures.value c.in-Ok.ensures) c.kernel_is_read.ensures.built

pub returns-in-Ok : goal.returns-in-Ok
returns-in-Ok c = images.same_image c.linked_image.result (images.same_program c.kernel_is_read.ensures.read c.as_bytes.ensures.value c.in-Ok.ensures) c.linked_image.ensures
