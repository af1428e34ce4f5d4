-- One instruction of control from where the machine stands.
use Rattle.std.proofs.Common.{[], true, ◌≡◌, ℕ, suc, ◌+◌, ◌*◌, ◌/◌, ◌%◌, ⊎_elim, false, ◌==◌, if◌then◌else◌, List, ◌∷◌, length, Option, Some, None, ℤ, pos, negsuc, ◌+ℤ◌, refl, sym, ap, ◌∙◌, subst, arith}
use Rattle.std.proofs.lemmas.Bool.Decides.{eqb_tells}
use Rattle.j1_table.specs.declared.instr.Instr.{Instr}
use Rattle.j1_table.specs.declared.instr.Instr.TheVariants.{Jump, Branch, Call}
use Rattle.j1_table.specs.Instruction.{decoded}
use Rattle.forth_program.specs.State.{World, Halted, Ends}
use Rattle.std.specs.Prelude.{map}
use Rattle.j1_simulator.specs.declared.ends.End.TheVariants as chip
use Rattle.j1_simulator.specs.Run.{run}
use Rattle.j1_simulator.specs.Effect.{effect, following}
use Rattle.j1_simulator.specs.Step.{By, effect_at}
use Rattle.j1_simulator.specs.OpenMachine.{top_cell, rest, open_storage}
use Rattle.j1_simulator.specs.Run.{after_effect}
use Rattle.word_laws.specs.Rings.{OpenConfiguration, WritesAbove, writes_return}
use Rattle.word_laws.specs.Standing.{data_places, return_places, standing, standing_at_depths, standing_as, EndedIn, machine_at}
use Rattle.word_laws.specs.Control.{HoldsInstruction, LeadsTo, JumpLeads, CallLeads, ReturnLeads, BranchLeads, BranchPasses, halt_cells, HaltEnds}
use Rattle.word_laws.proofs.Steps.{effect_here}
use Rattle.word_laws.proofs.Heights.{counter_moves}
use Rattle.word_laws.proofs.Rows.{feed}
use Rattle.word_laws.proofs.CellRows.{height_places, height_length, has_all, row_comes, row_stays, row_ends, within_widens, each_widens}

-- an instruction of a known effect
leads : (data_start : ℕ) (i : Instr) (pc : ℕ) (code c : List ℕ) (r da ra : List (Option ℕ)) (o : World) (to : OpenConfiguration) → HoldsInstruction code pc i →
    after_effect None open_storage data_start (effect pc i) (standing_at_depths (machine_at code pc r da ra) c o) ≡ to →
    WritesAbove (effect pc i).data_move (effect pc i).t_to_n → WritesAbove (effect pc i).return_move (writes_return (effect pc i).return_write) →
    LeadsTo data_start (length c) (length r) (standing_at_depths (machine_at code pc r da ra) c o) to
leads data_start i pc code c r da ra o to has e cd cb =
    let same : effect_at (standing_at_depths (machine_at code pc r da ra) c o).core ≡ effect pc i = effect_here code (standing_at_depths (machine_at code pc r da ra) c o) i (o.space, refl) has.0 has.1 in
    record {
      makes = ap (λ f. after_effect None open_storage data_start f (standing_at_depths (machine_at code pc r da ra) c o)) same ∙ e;
      bounds = (
        record {
          depth = length c;
          return_depth = length r;
          depth_is = refl;
          return_depth_is = refl;
          at_least = omega arith;
          at_most = omega arith;
          return_at_least = omega arith;
          return_at_most = omega arith;
          known = height_places c;
          return_known = height_length r;
          data_writes = λ n. subst (λ f. WritesAbove f.data_move f.t_to_n) (sym same) cd;
          return_writes = λ n. subst (λ f. WritesAbove f.return_move (writes_return f.return_write)) (sym same) cb;
        },
        tt,
      );
    }

-- counters under their names
named : (code : List ℕ) (pc : ℕ) (c : List ℕ) (r da ra : List (Option ℕ)) (d b : ℤ) (o : World) → d ≡ pos (length c) → b ≡ pos (length r) → standing (machine_at code pc r da ra) c d b o ≡ standing_at_depths (machine_at code pc r da ra) c o
named code pc c r da ra d b o e f = ap (λ z. standing (machine_at code pc r da ra) c z b o) e ∙ ap (λ z. standing (machine_at code pc r da ra) c (pos (length c)) z o) f

still : (n : ℕ) → pos n +ℤ pos 0 ≡ pos n
still n = ap pos (omega arith)

up_one : (n : ℕ) → pos n +ℤ pos 1 ≡ pos (suc n)
up_one n = ap pos (omega arith)

down_one : (n : ℕ) → pos (suc n) +ℤ negsuc 0 ≡ pos n
down_one n = let e : suc n ≡ n + 1 = omega arith in let f : n + 0 ≡ n = omega arith in ap (λ z. pos z +ℤ negsuc 0) e ∙ counter_moves (negsuc 0) n 1 0 refl ∙ ap pos f

pub jump_leads : JumpLeads
jump_leads data_start target m c o has =
    leads data_start (Jump target) m.pc m.code c m.returns m.data_above m.return_above o _ has (named m.code target c m.returns m.data_above m.return_above _ _ o (still (length c)) (still (length m.returns))) tt tt

pub call_leads : CallLeads
call_leads data_start target m c o has =
    leads data_start (Call target) m.pc m.code c m.returns m.data_above m.return_above o _ has
    (named m.code target c (Some (2 * following m.pc) ∷ m.returns) m.data_above (rest m.return_above) _ _ o (still (length c)) (up_one (length m.returns)))
    tt refl

pub return_leads : ReturnLeads
return_leads data_start address m c o has =
    leads data_start (decoded 0x700C) m.pc m.code c (Some address ∷ m.returns) m.data_above m.return_above o _ has
    (named m.code (address / 2 % 0x2000) c m.returns m.data_above (Some address ∷ m.return_above) _ _ o (still (length c)) (down_one (length m.returns))) tt
    tt

pub branch_leads : BranchLeads
branch_leads data_start target m c o has =
    leads data_start (Branch target) m.pc m.code (0 ∷ c) m.returns m.data_above m.return_above o _ has
    (named m.code target c m.returns (top_cell (data_places c) ∷ m.data_above) m.return_above _ _ o (down_one (length c)) (still (length m.returns))) tt tt

pub branch_passes : BranchPasses
branch_passes data_start target n m c o has =
    leads data_start (Branch target) m.pc m.code (suc n ∷ c) m.returns m.data_above m.return_above o _ has
    (ap (λ b. standing (machine_at m.code (if b then target else following m.pc) m.returns (top_cell (data_places c) ∷ m.data_above) m.return_above) c (pos (suc (length c)) +ℤ negsuc 0) (pos (length m.returns) +ℤ pos 0) o) (not_zero n)
    ∙ named m.code (following m.pc) c m.returns (top_cell (data_places c) ∷ m.data_above) m.return_above _ _ o (down_one (length c)) (still (length m.returns))) tt tt
  where
    not_zero : (v : ℕ) → (suc v == 0) ≡ false
    not_zero v = ⊎_elim (λ t. absurd (omega (arith, t.1))) (λ t. t.0) (eqb_tells (suc v) 0)

halt_row : (data_start : ℕ) (code : List ℕ) (pc : ℕ) (c : List ℕ) (r da ra : List (Option ℕ)) (d b : ℤ) (o : World) →
    EndedIn (feed data_start (map decoded halt_cells) (standing (machine_at code pc r da ra) c d b o)) code (By (chip.Halted 0)) o
halt_row data_start code pc [] r da ra d b o = record { stop_is = refl; memory = refl; input = refl; printed = refl }
halt_row data_start code pc (x ∷ c) r da ra d b o = record { stop_is = refl; memory = refl; input = refl; printed = refl }

nothing_more : (n : ℕ) → n ≡ n + 0
nothing_more n = omega arith

pub halt_ends : HaltEnds
halt_ends m next s size stand =
    let r = return_places s.entries m.returns in
    let has = has_all m.code halt_cells m.pc next stand in
    let c = nothing_more (length s.cells) in
    let b = nothing_more (length (return_places s.entries m.returns)) in
    let come = row_comes s.world.data_start m.code size true (map decoded halt_cells) m.pc next s.cells r m.returns m.data_above m.return_above s.world (length s.cells) 0 (length r) 0 2 0 (Ends (Halted 0) s.world) c b refl has
    (halt_row s.world.data_start m.code m.pc s.cells r m.data_above m.return_above (pos (length s.cells)) (pos (length r)) s.world) (By (chip.Halted 0), refl) in (
      come,
      each_widens s.world.data_start _ _ _ _ _ _ _ _ 3 (standing_as s m) (omega arith) (omega arith) (omega arith) (omega arith)
          (row_stays s.world.data_start m.code size true (map decoded halt_cells) m.pc next s.cells r m.data_above m.return_above s.world (length s.cells) 0 (length r) 0 2 0 c b refl has),
      within_widens _ _ _ _ _ _ _ _ (omega arith) (omega arith) (omega arith) (omega arith) (run open_storage s.world.data_start 3 (standing_as s m))
          (row_ends s.world.data_start m.code size true refl (map decoded halt_cells) m.pc next s.cells r m.data_above m.return_above s.world (length s.cells) 0 (length r) 0 2 0 come.0 c b refl has come.2.stop_is),
    )
