-- Two instructions, one after another.
use Rattle.std.proofs.Common.{◌≡◌, ℕ, ◌+◌, ◌*◌, ◌/◌, ◌%◌, ◌<◌, length, None, refl, sym, ap, ◌∙◌, subst, arith, pos, negsuc, ◌+ℤ◌}
use Rattle.std.specs.Prelude.{slice_index, slice_set}
use Rattle.std.proofs.lemmas.Int.{int_rem_euclid_is, ints}
use Rattle.std.proofs.lemmas.List.{get_or-set_same}
use Rattle.j1_table.specs.declared.instr.Instr.{Instr}
use Rattle.j1_table.specs.declared.instr.Instr.TheVariants.{Call, Literal, Alu}
use Rattle.j1_table.specs.Instruction.{decoded}
use Rattle.j1_simulator.specs.Effect.{effect, following}
use Rattle.j1_simulator.specs.Step.{Storage}
use Rattle.j1_simulator.specs.RoundMachine.{RingCells, round_storage, around}
use Rattle.j1_simulator.specs.OpenMachine.{open_storage}
use Rattle.j1_simulator.specs.Run.{Configuration, after_effect, advanced, run}
use Rattle.j1_simulator.specs.Laws.{ComesBack, CallThenReturn, DropsAgain, LiteralThenDrop, DropsToBelow, LiteralThenDropBelow}

around_same : (at : ℕ) → at < 32 → around (pos at +ℤ pos 0) ≡ at
around_same at h = let e = int_rem_euclid_is (pos at +ℤ pos 0) (pos 32) 32 0 at (omega arith) refl (omega (arith, ints)) in grind (arith, e)

around_up : (at : ℕ) → around (pos at +ℤ pos 1) ≡ (at + 1) % 32
around_up at = let e = int_rem_euclid_is (pos at +ℤ pos 1) (pos 32) 32 0 (at + 1) (omega arith) refl (omega (arith, ints)) in grind (arith, e)

around_down : (at : ℕ) → around (pos at +ℤ negsuc 0) ≡ (at + 31) % 32
around_down at = let e = int_rem_euclid_is (pos at +ℤ negsuc 0) (pos 32) 32 1 (at + 31) (omega arith) refl (omega (arith, ints)) in grind (arith, e)

up_and_down : (at : ℕ) → at < 32 → around (pos (around (pos at +ℤ pos 1)) +ℤ negsuc 0) ≡ at
up_and_down at h = let e = around_up at in let d = around_down (around (pos at +ℤ pos 1)) in omega (arith, e, d)

module _ {V S : Type 0} (storage : Storage V S) (data_start : ℕ) where
  -- an instruction, by what its cell decodes to
  first : (instr : Instr) (from : Configuration V S) → from.stop ≡ None → decoded (slice_index from.core.memory from.core.pc) ≡ instr →
      advanced from.stop storage data_start from ≡ after_effect None storage data_start (effect from.core.pc instr) from
  first instr from e d = ap (λ s. advanced s storage data_start from) e ∙ ap (λ i. after_effect None storage data_start (effect from.core.pc i) from) d

pub call_then_return : CallThenReturn
call_then_return data_start target from running stack ring call return =
    let called = after_effect None round_storage data_start (effect from.core.pc (Call target)) from in
    let one : advanced from.stop round_storage data_start from ≡ called = first round_storage data_start (Call target) from running call in
    let two : advanced called.stop round_storage data_start called ≡ after_effect None round_storage data_start (effect target (Alu 0x100C)) called = first round_storage data_start (Alu 0x100C) called refl (ap decoded return) in
    let both : run round_storage data_start 2 from ≡ after_effect None round_storage data_start (effect target (Alu 0x100C)) called = ap (λ x. advanced x.stop round_storage data_start x) one ∙ two in
    let up : around (pos from.core.return_stack.at +ℤ pos 1) < length from.core.return_stack.cells = omega (arith, around_up from.core.return_stack.at, ring.size) in
    let r : slice_index (slice_set from.core.return_stack.cells (around (pos from.core.return_stack.at +ℤ pos 1)) (2 * following from.core.pc))
    (around (pos from.core.return_stack.at +ℤ pos 1)) ≡ 2 * following from.core.pc =
    get_or-set_same from.core.return_stack.cells _ _ _ up in
    let back : 2 * following from.core.pc / 2 % 0x2000 ≡ following from.core.pc = omega arith in
    let at : around (pos (around (pos from.core.data_stack.at +ℤ pos 0)) +ℤ pos 0) ≡ from.core.data_stack.at =
    ap (λ x. around (pos x +ℤ pos 0)) (around_same from.core.data_stack.at stack.within) ∙ around_same from.core.data_stack.at stack.within in
    subst (λ x. ComesBack from x) (sym both)
    (record {
      pc = ap (λ x. x / 2 % 0x2000) r ∙ back;
      t = refl;
      data_stack = ap (λ x. let ring : RingCells = record { cells = from.core.data_stack.cells; at = x } in ring) at;
      return_pointer = up_and_down from.core.return_stack.at ring.within;
      memory = refl;
      printed = refl;
    })

pub literal_then_drop : LiteralThenDrop
literal_then_drop data_start value from running stack ring literal dropped =
    let pushed = after_effect None round_storage data_start (effect from.core.pc (Literal value)) from in
    let one : advanced from.stop round_storage data_start from ≡ pushed = first round_storage data_start (Literal value) from running literal in
    let two : advanced pushed.stop round_storage data_start pushed
    ≡ after_effect None round_storage data_start (effect (following from.core.pc) (Alu 0x103)) pushed =
    first round_storage data_start (Alu 0x103) pushed refl (ap decoded dropped) in
    let both : run round_storage data_start 2 from ≡ after_effect None round_storage data_start (effect (following from.core.pc) (Alu 0x103)) pushed = ap (λ x. advanced x.stop round_storage data_start x) one ∙ two in
    let up : around (pos from.core.data_stack.at +ℤ pos 1) < length from.core.data_stack.cells = omega (arith, around_up from.core.data_stack.at, stack.size) in
    let at : around (pos (around (pos from.core.return_stack.at +ℤ pos 0)) +ℤ pos 0) ≡ from.core.return_stack.at =
    ap (λ x. around (pos x +ℤ pos 0)) (around_same from.core.return_stack.at ring.within) ∙ around_same from.core.return_stack.at ring.within in
    subst (λ x. DropsAgain from x) (sym both)
    (record {
      t = get_or-set_same from.core.data_stack.cells _ _ _ up;
      pointer = up_and_down from.core.data_stack.at stack.within;
      cells = ap (λ i. slice_set from.core.data_stack.cells i from.core.t) (around_up from.core.data_stack.at);
      return_stack = ap (λ x. let ring : RingCells = record { cells = from.core.return_stack.cells; at = x } in ring) at;
      memory = refl;
    })

pub literal_then_drop_below : LiteralThenDropBelow
literal_then_drop_below data_start value from running literal dropped =
    let pushed = after_effect None open_storage data_start (effect from.core.pc (Literal value)) from in
    let one : advanced from.stop open_storage data_start from ≡ pushed = first open_storage data_start (Literal value) from running literal in
    let two : advanced pushed.stop open_storage data_start pushed
    ≡ after_effect None open_storage data_start (effect (following from.core.pc) (Alu 0x103)) pushed =
    first open_storage data_start (Alu 0x103) pushed refl (ap decoded dropped) in
    let both : run open_storage data_start 2 from ≡ after_effect None open_storage data_start (effect (following from.core.pc) (Alu 0x103)) pushed = ap (λ x. advanced x.stop open_storage data_start x) one ∙ two in
    subst (λ x. DropsToBelow from x) (sym both) (record { t = refl; below = refl; return_stack = refl; memory = refl })
