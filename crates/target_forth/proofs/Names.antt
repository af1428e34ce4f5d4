-- The names of the kernel's words: computed.
use Rattle.std.proofs.Common.{refl}
use Rattle.control_flow.specs.Brackets.{bracket_at}
use Rattle.control_flow.specs.HostParts.{host_part_at}
use Rattle.control_flow.specs.Items.{items_at}
use Rattle.control_flow.specs.SourceText.{source_at}
use Rattle.target_forth.specs.Kernel.{kernel_program}
use Rattle.target_forth.specs.Places.{HasNames}

pub names_are : HasNames kernel_program
unfolding bracket_at host_part_at items_at source_at kernel_program
names_are = refl
