use Rattle.library_laws.specs.Bodies.{whole_library}
use Rattle.forth_library.proofs.laws.linked_images_agree.Goals as goal

pub returns : goal.returns
returns c = record {
  forward = λ p input k built space bytes well. c.images_agree.ensures.forward whole_library p input k c.library_means.ensures.form c.library_means.ensures.means built space bytes well;
  backward = λ p input n built space bytes well. c.images_agree.ensures.backward whole_library p input n c.library_means.ensures.form c.library_means.ensures.means built space bytes well;
  on_chip = λ p input built space bytes well stays fits. c.chips_agree.ensures whole_library p input c.library_means.ensures.form c.library_means.ensures.means built space bytes well stays fits;
  last_calls = λ p built back begin. c.last_calls_are_jumps.ensures whole_library p c.library_means.ensures.form c.library_means.ensures.begins_well built back begin;
}
