-- RUN-CODE, and a typed word as a whole.
use Rattle.std.proofs.Common.{◌≡◌, ℕ, ◌+◌, ◌-◌, ◌*◌, ◌%◌, ◌<◌, ◌≤◌, nat_lt, true, false, List, [], ◌∷◌, length, slice_index, Some, pos, refl, ap, ◌∙◌, subst, arith}
use Rattle.std.specs.Prelude.{slice_set}
use Rattle.std.proofs.lemmas.Bool.{lt-ltb, le-ltb}
use Rattle.j1_table.specs.declared.instr.Instr.TheVariants.{Jump, Call}
use Rattle.j1_table.specs.Instruction.{decoded}
use Rattle.j1_simulator.specs.Effect.{following}
use Rattle.j1_simulator.specs.RoundMachine.{around}
use Rattle.typed_code.specs.MachineCode.{return_base, load, save, run_code, run_call, run_code_code, HasMachineCode, HasUserCells, saved, with_return_base}
use Rattle.typed_code.specs.Standing.{Surroundings, stands_at, called_from, place_of, Comes, Leads}
use Rattle.typed_code.specs.Laws.{LoadPutsCells, RunCodeLoads, SavePutsBack, TypedWordsComeBack, JumpsLead, CallsLeadBehind}
use Rattle.typed_code.proofs.Instructions.{literal, depth, drop, store, jump, call}
use Rattle.typed_code.proofs.Memory.{instruction, code_kept, base_kept}
use Rattle.typed_code.proofs.Joins.{Laws, recount, joined}
use Rattle.typed_code.proofs.Loading.{loads}
use Rattle.typed_code.proofs.Saving.{saves}

jump_is : (target : ℕ) → target < 0x2000 → decoded target ≡ Jump target
jump_is target below = rw (lt-ltb target 0x2000 below) refl

-- the instruction of a cell from 0x4000 on
call_is : (target : ℕ) → target < 0x2000 → decoded (0x4000 + target) ≡ Call target
call_is target below =
    let a : nat_lt (0x4000 + target) 0x2000 ≡ false = le-ltb (0x4000 + target) 0x2000 (omega arith) in
    let b : nat_lt (0x4000 + target) 0x4000 ≡ false = le-ltb (0x4000 + target) 0x4000 (omega arith) in
    let c : nat_lt (0x4000 + target) 0x6000 ≡ true = lt-ltb (0x4000 + target) 0x6000 (omega arith) in
    let d : (0x4000 + target) - 0x4000 ≡ target = omega arith in
    rw (a, b, c, d) refl

module _ (laws : Laws) where
  runs_load : (high return_high : ℕ) (memory c : List ℕ) (s : Surroundings) → HasMachineCode memory → HasUserCells memory c → length c ≤ 31 → length c + 3 ≤ high → length s.returns + 1 ≤ return_high →
      Leads (13 * length c + 15) high return_high run_code [] memory s run_call c (with_return_base (length s.returns) memory) s (Some (2 * run_call) ∷ [])
  runs_load high return_high memory c s has cells small within deep da ra =
      let k = length c in
      let pointers = around (pos (length s.returns)) * 256 + around (pos 0) in
      let value : pointers ≡ length s.returns % 32 * 256 = omega arith in
      let after = slice_set memory return_base pointers in
      let same : after ≡ with_return_base (length s.returns) memory = ap (slice_set memory return_base) value in
      let kept : HasMachineCode after = code_kept memory return_base pointers (omega arith) has in
      let held : HasUserCells after c = base_kept memory c pointers small cells in
      let under : length s.returns ≤ return_high = omega arith in
      let at = instruction memory run_code_code run_code has.run_code_cells in
      let then = instruction after run_code_code run_code kept.run_code_cells in
      subst (λ m. Comes (13 * k + 15) high return_high (stands_at run_code [] memory s da ra) run_call c m s (Some (2 * run_call) ∷ [])) same
      (recount (1 + (1 + (1 + (1 + (1 + (13 * k + 10)))))) (13 * k + 15) high return_high _ run_call c after s (Some (2 * run_call) ∷ []) (omega arith)
      (joined laws 1 (1 + (1 + (1 + (1 + (13 * k + 10))))) (depth memory s high return_high under run_code [] da ra (at 0 refl) (omega arith)) (λ da ra.
      joined laws 1 (1 + (1 + (1 + (13 * k + 10)))) (literal memory s high return_high under (run_code + 1) (2 * return_base) (pointers ∷ []) da ra (at 1 refl) (omega arith)) (λ da ra.
      joined laws 1 (1 + (1 + (13 * k + 10))) (store memory s high return_high under (run_code + 2) (2 * return_base) return_base pointers [] da ra (at 2 refl) (omega arith) refl) (λ da ra.
      joined laws 1 (1 + (13 * k + 10)) (drop after s high return_high under (run_code + 3) (2 * return_base) [] da ra (then 3 refl) (omega arith)) (λ da ra.
      joined laws 1 (13 * k + 10) (call after s high return_high under (run_code + 4) load [] da ra (then 4 refl) (omega arith)) (λ da ra.
      loads laws after high return_high k kept held.number small within c (2 * run_call) s deep held.cells refl da ra)))))))

  pub load_puts_cells : LoadPutsCells
  load_puts_cells memory c address s has cells small =
      loads laws memory (length c + 3) (length s.returns + 1) (length c) has cells.number small (omega arith) c address s (omega arith) cells.cells refl

  pub run_code_loads : RunCodeLoads
  run_code_loads memory c s has cells small = runs_load (length c + 3) (length s.returns + 1) memory c s has cells small (omega arith) (omega arith)

  pub save_puts_back : SavePutsBack
  save_puts_back memory c address s has small = saves laws (length c + 2) (length s.returns + 1) memory has c address s (omega arith) small (omega arith)

  pub typed_words_come_back : TypedWordsComeBack
  typed_words_come_back memory c memory' d input printed address k high return_high s has cells small has' small' within within' deep word da ra =
      let n = length c in
      let m = length d in
      let after = record s { input = input; printed = printed } in
      recount ((13 * n + 15) + (k + (1 + (12 * m + 13)))) (29 + 13 * n + 12 * m + k) high return_high _ (place_of address) [] (saved d memory') after (Some address ∷ []) (omega arith)
      (joined laws (13 * n + 15) (k + (1 + (12 * m + 13))) (runs_load high return_high memory c (called_from address s) has cells small within (omega arith) da ra) (λ da ra.
      joined laws k (1 + (12 * m + 13)) (word da ra) (λ da ra.
      joined laws 1 (12 * m + 13) (jump memory' (called_from address after) high return_high (omega arith) (run_call + 1) save d da ra (instruction memory' (save ∷ []) (run_call + 1) has'.behind_call 0 refl) (omega arith)) (λ da ra.
      saves laws high return_high memory' has' d address after (omega arith) small' within' da ra))))

  pub calls_lead_behind : CallsLeadBehind
  calls_lead_behind place target k high return_high memory c memory' d s s' cell below behind deep under routine da ra =
      let next : following place ≡ place + 1 = omega arith in
      let has : decoded (slice_index memory place) ≡ Call target = ap decoded cell ∙ call_is target below in
      let to = call memory s high return_high under place target c da ra has deep in
      let first = subst (λ n. Comes 1 high return_high (stands_at place c memory s da ra) target c memory (called_from (2 * n) s) []) next to in
      let all = joined laws 1 k first routine in
      record { data_above = all.data_above; return_above = Some (2 * (place + 1)) ∷ all.return_above; makes = all.makes; bounds = all.bounds }

pub jumps_lead : JumpsLead
jumps_lead place target high return_high memory c s cell below deep under da ra = jump memory s high return_high under place target c da ra (ap decoded cell ∙ jump_is target below) deep
