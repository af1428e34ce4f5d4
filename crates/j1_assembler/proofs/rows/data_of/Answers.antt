use Rattle.std.proofs.Common.{arith, sym}
use Rattle.std.proofs.lemmas.Bool.Decides.{nat_tests}
use Rattle.j1_assembler.specs.Text.{fields_of}
use Rattle.j1_assembler.proofs.Data.{all_bytes}
use Rattle.j1_assembler.proofs.rows.data_of.Goals as goal

pub returns-else-is_empty : goal.returns-else-is_empty
returns-else-is_empty c = sym (all_bytes c.loop-field.bytes.items (fields_of c.loop-field.rest.now) (fields_of c.args.line.now) c.in_default.ensures.cases (grind (arith, nat_tests)) c.loop-field.invariant)
