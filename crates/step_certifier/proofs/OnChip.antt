-- The run of an image ends within the bound of its program, since the source ends within that price.
use Rattle.std.proofs.Common.{ap, ◌∙◌}
use Rattle.forth_program.specs.Run.{end_of}
use Rattle.forth_program.specs.Price.{price}
use Rattle.j1_simulator.specs.Laws.{OnlyGrows}
use Rattle.j1_simulator.specs.RoundMachine.{RingCells, round_storage}
use Rattle.j1_simulator.specs.Run.{Configuration, begun, round_start}
use Rattle.std.specs.Prelude.{ℕ}
use Rattle.chip_laws.specs.Certified.{CertifiedChipsAgree}
use Rattle.code_layout.specs.Layout.{laid_out}
use Rattle.step_certifier.specs.Law.{BoundedProgramsEnd, BoundedImagesEnd}

pub images_end : CertifiedChipsAgree → OnlyGrows round_storage → BoundedProgramsEnd → BoundedImagesEnd
images_end agree grows ends library p z most form means built space without_go valid bounded input bytes =
    let e = ends p z most input built.has_main valid bounded in
    let stop = (agree library p input form means built space bytes without_go (z, valid)).ends_no_later e.count e.end (ap end_of e.ends) in (
      stop.0,
      ap (λ (c : Configuration ℕ RingCells). c.stop) (grows.ends (laid_out library p).data_start (price p input e.count) most (begun (round_start (laid_out library p)) input) stop.0 e.price stop.1) ∙ stop.1,
    )
