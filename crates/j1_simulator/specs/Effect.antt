-- What each instruction does to any machine, by its fields (Bowman's J1 paper, "Instruction encoding" and "ALU instructions").
use Rattle.std.specs.Prelude.{ℕ, ◌+◌, ◌*◌, ◌%◌, true, false, if◌then◌else◌, ◌==◌, pos, negsuc}
use Rattle.j1_table.specs.declared.instr.Instr.{Instr}
use Rattle.j1_table.specs.declared.instr.Instr.TheVariants.{Literal, Jump, Branch, Call, Alu}
use Rattle.j1_simulator.specs.declared.effects.NewTop.TheVariants.{Number, Operation}
use Rattle.j1_simulator.specs.declared.effects.ReturnWrite.TheVariants.{Nothing, OldTop, ReturnTo}
use Rattle.j1_simulator.specs.declared.effects.Next.TheVariants.{Following, Target, IfZero, Returning}
use Rattle.j1_simulator.specs.declared.effects.Effect.{Effect}
use Rattle.j1_table.specs.Fields.{has_bit, op_of, data_move_of, return_move_of}

-- the cell of memory after a cell; after the last comes the first
abbrev pub following : ℕ → ℕ
following pc = (pc + 1) % 0x2000

-- the effect of the instruction at pc
abbrev pub effect : ℕ → Instr → Effect
effect pc (Literal value) = record { new_top = Number value; data_move = pos 1; return_move = pos 0; t_to_n = true; return_write = Nothing; next = Following; fetches = false; stores = false }
effect pc (Jump target) = record { new_top = Operation 0; data_move = pos 0; return_move = pos 0; t_to_n = false; return_write = Nothing; next = Target target; fetches = false; stores = false }
effect pc (Branch target) = record { new_top = Operation 1; data_move = negsuc 0; return_move = pos 0; t_to_n = false; return_write = Nothing; next = IfZero target; fetches = false; stores = false }
effect pc (Call target) = record { new_top = Operation 0; data_move = pos 0; return_move = pos 1; t_to_n = false; return_write = ReturnTo (2 * following pc); next = Target target; fetches = false; stores = false }
effect pc (Alu word) =
    record {
      new_top = Operation (op_of word);
      data_move = data_move_of word;
      return_move = return_move_of word;
      t_to_n = has_bit word 7;
      return_write = if has_bit word 6 then OldTop else Nothing;
      next = if has_bit word 12 then Returning else Following;
      fetches = op_of word == 12;
      stores = has_bit word 5;
    }
