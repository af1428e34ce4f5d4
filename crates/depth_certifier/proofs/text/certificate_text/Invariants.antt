use Rattle.std.proofs.Common.{◌≡◌, ◌++◌, drop}
use Rattle.std.specs.Prelude.{string_bytes}
use Rattle.depth_certifier.specs.CertificateText.{effect_lines}
use Rattle.depth_certifier.proofs.text.certificate_text.Given as goal

abbrev pub invariant-loop-d : goal.invariant-loop-d
invariant-loop-d l =
    string_bytes l.text ++ effect_lines (drop l.d l.program.names) (drop l.d l.certificate.effects) ≡ effect_lines l.program.names l.certificate.effects
