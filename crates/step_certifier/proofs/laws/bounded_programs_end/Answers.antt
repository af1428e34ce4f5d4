use Rattle.depth_certifier.specs.Certificate.{known_of}
use Rattle.step_certifier.proofs.Programs.{level_program_ends}
use Rattle.step_certifier.proofs.Certificates.{back, certified_level}
use Rattle.step_certifier.proofs.laws.bounded_programs_end.Goals as goal

pub returns : goal.returns
returns c = λ p z most input main valid bounded. level_program_ends p (back (known_of z) z.heads 0) most input main (certified_level p z valid) bounded
