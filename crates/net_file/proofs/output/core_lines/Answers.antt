use Rattle.std.proofs.Common.{◌++◌, ap, ◌∙◌}
use Rattle.core_array.specs.ArrayState.{network_of}
use Rattle.net_file.specs.Output.{core_line}
use Rattle.net_file.proofs.Turns.{next_line}
use Rattle.net_file.proofs.output.core_lines.Goals as goal

pub loop-core-preserved : goal.loop-core-preserved
loop-core-preserved c =
    next_line c.loop-core.text.items c.add_line.new.text.items _ c.args.cores c.loop-core.core (network_of c.args.array.now).printed c.loop-core-test.true
    (c.in_ok-add_line.ensures ∙ ap (λ p. c.loop-core.text.items ++ core_line c.loop-core.core p) c.printed.ensures) c.loop-core.invariant
