-- What the kernel's image does behind each GO that comes back.
use Rattle.std.proofs.Common.{◌≡◌, false, refl, sym, subst}
use Rattle.std.specs.List.{list_all}
use Rattle.word_table.specs.declared.word.Vocabulary.TheVariants.{Kernel}
use Rattle.forth_program.specs.Form.{everywhere, is_not_go, has_no_go}
use Rattle.library_laws.specs.Bodies.{whole_library}
use Rattle.code_layout.specs.Library.{IsLibrary, LibraryMeans}
use Rattle.control_flow.specs.SourceLaw.{EachProgramIsSource}
use Rattle.depth_certifier.specs.Certificate.{IsValid}
use Rattle.code_layout.specs.Chip.{DepthStaysWithin}
use Rattle.code_layout.specs.ReturningChip.{round_returning_run}
use Rattle.chip_laws.specs.Returning.{CertifiedImagesReturn, CertifiedChipsReturn, CertifiedChipsReturnTight}
use Rattle.target_forth.specs.declared.text.TheConstants.{KERNEL_TEXT}
use Rattle.target_forth.specs.Kernel.{kernel_program}
use Rattle.target_forth.specs.Certificate.{kernel_certificate}
use Rattle.target_forth.specs.Behind.{KernelAgrees, KernelAgreesOnChip, KernelKeepsTight}
use Rattle.target_forth.proofs.ReadText.{text_is_read, kernel_is_built, bodies_are, data_cells_are, return_cells_are}

has_go : has_no_go kernel_program ≡ false
has_go = subst (λ bodies. list_all (everywhere is_not_go) bodies ≡ false) (sym bodies_are) refl

pub agrees : EachProgramIsSource → IsLibrary whole_library → LibraryMeans whole_library → IsValid kernel_program kernel_certificate → CertifiedImagesReturn → KernelAgrees
agrees sources form means valid images returns input bytes proper =
    images whole_library kernel_program returns input form means kernel_is_built has_go (sources Kernel KERNEL_TEXT.now kernel_program text_is_read).bytes bytes proper (kernel_certificate, valid)

pub on_chip : EachProgramIsSource → IsLibrary whole_library → LibraryMeans whole_library → IsValid kernel_program kernel_certificate → CertifiedChipsReturn → KernelAgreesOnChip
on_chip sources form means valid chips rounds input bytes proper sized =
    chips whole_library kernel_program rounds input form means kernel_is_built has_go (sources Kernel KERNEL_TEXT.now kernel_program text_is_read).bytes bytes proper sized (kernel_certificate, valid)

pub tight : EachProgramIsSource → IsLibrary whole_library → LibraryMeans whole_library → IsValid kernel_program kernel_certificate → CertifiedChipsReturnTight → KernelKeepsTight
tight sources form means valid chips rounds input n bytes proper sized =
    let keeps =
    chips whole_library kernel_program rounds input kernel_certificate form means kernel_is_built has_go (sources Kernel KERNEL_TEXT.now kernel_program text_is_read).bytes bytes proper sized valid in (
      subst (λ most. DepthStaysWithin most (round_returning_run whole_library kernel_program rounds input n).data_depth) data_cells_are (keeps.data_stack n),
      subst (λ most. DepthStaysWithin most (round_returning_run whole_library kernel_program rounds input n).return_depth) return_cells_are (keeps.return_stack n),
    )
