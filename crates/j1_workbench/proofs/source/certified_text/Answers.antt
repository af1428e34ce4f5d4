use Rattle.std.proofs.Common.{arith, inr}
use Rattle.j1_workbench.proofs.FilesRead.{uncertified_text}
use Rattle.j1_workbench.proofs.source.certified_text.Goals as goal

pub returns-in-Err-NotCertified : goal.returns-in-Err-NotCertified
returns-in-Err-NotCertified c =
    inr (uncertified_text c.args.text.now c.in-Ok.program c.in-Err-NotCertified.field-0 c.in-Err-NotCertified.id c.in-Err-NotCertified.cause c.new.result c.name.result.now
    (omega arith) c.in-Ok.ensures c.in-Err-NotCertified.field-0-is c.in-Err-NotCertified.ensures.refused c.in-Err-NotCertified.ensures.none c.name.ensures.value c.new.ensures c.name.ensures.form)
