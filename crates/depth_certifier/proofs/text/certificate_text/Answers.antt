use Rattle.std.proofs.Common.{◌≡◌, ◌++◌, ap, length, min, rules, arith}
use Rattle.std.specs.Prelude.{string_bytes}
use Rattle.depth_certifier.specs.Counting.{uses_execute}
use Rattle.depth_certifier.specs.CertificateText.{shared_line}
use Rattle.depth_certifier.proofs.Texts.{all_lines}
use Rattle.depth_certifier.proofs.text.certificate_text.Goals as goal

pub returns : goal.returns
returns c =
    let effects = ap length c.effects-effects.ensures in
    let all : c.loop-d.d ≡ min (length c.args.certificate.now.effects) (length c.args.program.now.names) =
    omega (arith, c.loop-d-test.false, c.loop-d.auto.d-end, c.min-count.ensures, effects, c.def_count.ensures.value, c.def_count.ensures.form.named) in
    let more : string_bytes c.push_str-2.new.self ≡ string_bytes c.loop-d.text ++ shared_line (uses_execute c.args.program.now) c.args.certificate.now.shared = search rules in
    all_lines (string_bytes c.loop-d.text) (shared_line (uses_execute c.args.program.now) c.args.certificate.now.shared) (string_bytes c.push_str-2.new.self)
    c.args.program.now.names c.args.certificate.now.effects c.loop-d.d all more c.loop-d.invariant
