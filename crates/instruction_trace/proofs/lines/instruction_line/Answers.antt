use Rattle.instruction_trace.proofs.Fields.{line_is}
use Rattle.instruction_trace.proofs.lines.instruction_line.Goals as goal

pub returns : goal.returns
returns c =
    line_is c.args.machine.now c.args.number c.registers-registers.result c.accesses.result c.data_cell.result c.new-text.result.items c.add_head.new.text.items
    c.add_registers.new.text.items c.add_accesses.new.text.items c.add_instruction.new.text.items c.extend_from_slice.new.self.items
    c.requires c.registers-registers.ensures c.accesses.ensures c.data_cell.ensures c.new-text.ensures.items c.in_ok-add_head.ensures c.in_ok-add_registers.ensures
    c.in_ok-add_accesses.ensures c.in_ok-add_instruction.ensures c.in_ok-extend_from_slice.ensures.items
