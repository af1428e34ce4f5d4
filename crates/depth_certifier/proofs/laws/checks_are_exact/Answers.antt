use Rattle.depth_certifier.proofs.CertificateCheck.{checks_are_exact}
use Rattle.depth_certifier.proofs.laws.checks_are_exact.Goals as goal

pub returns : goal.returns
returns c = checks_are_exact
