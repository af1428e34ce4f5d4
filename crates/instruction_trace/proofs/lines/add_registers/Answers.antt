use Rattle.std.proofs.Common.{◌++◌, codes}
use Rattle.std.proofs.lemmas.Result.{on_ok_weaker}
use Rattle.decompiler.specs.Listing.{hex2, hex4}
use Rattle.instruction_trace.proofs.Fields.{five_fields}
use Rattle.instruction_trace.proofs.lines.add_registers.Goals as goal

pub returns : goal.returns
returns c =
    on_ok_weaker c.add_pointer-2.result
    (λ e. five_fields c.args.text.now.items c.add_register.new.text.items c.add_register-2.new.text.items c.add_register-3.new.text.items c.add_pointer.new.text.items c.add_pointer-2.new.text.items
    (codes "T=" ++ hex4 c.args.registers.t) (codes "N=" ++ hex4 c.args.registers.n) (codes "R=" ++ hex4 c.args.registers.r)
    (codes "DSP=" ++ hex2 c.args.registers.data_pointer) (codes "RSP=" ++ hex2 c.args.registers.return_pointer)
    c.in_ok-add_register.ensures c.in_ok-add_register-2.ensures c.in_ok-add_register-3.ensures c.in_ok-add_pointer.ensures e) c.add_pointer-2.ensures
