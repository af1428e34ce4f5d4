-- Every run of a program with a valid certificate.
use Rattle.std.proofs.Common.{◌≡◌, ℕ, zero, suc, ◌+◌, ◌≤◌, Bool, true, false, if◌then◌else◌, List, [], ◌∷◌, Option, Some, None, refl, ap, subst, arith}
use Rattle.std.specs.Prelude.{pos, negsuc, ℤ, ◌≤ℤ◌, slice_index_or, slice_get, nat_eq}
use Rattle.std.specs.List.{All}
use Rattle.std.proofs.lemmas.Int.{ints}
use Rattle.std.proofs.lemmas.Bool.{eq-eqb}
use Rattle.forth_program.specs.Tree.{Node, Nodes, Empty}
use Rattle.forth_program.specs.State.{State, Outcome, Goes, Ends, Left}
use Rattle.forth_program.specs.Program.{SourceProgram, body_of, token_of, uses_depth}
use Rattle.forth_program.specs.Step.{First, BodyEnd, IsLiteral, IsWord, IsCall, IsChild, IsText, IsIf, IsTrueEnd, IsUntil, IsWhile, IsRepeat, IsAgain, IsDo, IsQDo, IsTurn, IsOf, IsEndOf, IsEndCase, IsLeave, IsExit, first_work, act, step}
use Rattle.forth_program.specs.Run.{and_then, steps, first_state, source_run, lacks}
use Rattle.forth_program.specs.RunLaws.{OnlyGoLeaves}
use Rattle.forth_program.specs.Returns.{Return as GoReturn, state_back, come_back, steps_back, run_back}
use Rattle.depth_certifier.specs.declared.effect.Effect.{Effect}
use Rattle.depth_certifier.specs.Place.{Place, Unreachable, At, entry, from_zero}
use Rattle.depth_certifier.specs.Effects.{Known, idle, effect_of, Return}
use Rattle.depth_certifier.specs.Certificate.{loops, BodyFits, TokenIn, Limits, definition_limits, ExitKeeps, Keeps, Cert, known_of, BodiesFit, IsValid}
use Rattle.depth_certifier.specs.Soundness.{main_effect, end_height, most_cells, most_return_cells, RunsWithin, CertifiedRunsFit, RunsBackWithin, CertifiedRunsFitBehindGo}
use Rattle.depth_certifier.proofs.SourcePlaces.{Stood, stood_more, below_same}
use Rattle.depth_certifier.proofs.Work.{at_once, FirstLeads, opens, enter}
use Rattle.depth_certifier.proofs.Frames.{KeepsFrames, Onward, Moves}
use Rattle.depth_certifier.proofs.BehindGo.{come_behind}
use Rattle.depth_certifier.proofs.Steps.{literal_moves, word_moves}
use Rattle.depth_certifier.proofs.Structures.{if_moves, true_end_moves, until_moves, while_moves, repeat_moves, again_moves, do_moves, query_do_moves}
use Rattle.depth_certifier.proofs.Structures.{turn_moves, of_moves, end_of_moves, end_case_moves, leave_moves, body_end_moves, exit_moves, text_moves}
use Rattle.depth_certifier.proofs.Structures.{call_moves, child_moves}

module _ (p : SourceProgram) (known : Known) (heads : List (ℤ × ℤ)) (main : Effect) (most return_most high : ℕ) (lower : most ≤ high) (limit : high ≤ 33) (ends : end_height main.exit ≤ high)
    (tokens : (token : ℕ) (node : Node) → token_of p token ≡ Some node → TokenIn known node)
    (bodies : (d : ℕ) → (k : ℕ) × BodyFits known heads (effect_of known d) (body_of p d) k) (limits : (d : ℕ) → ((effect_of known d).need ≤ 33) × ((effect_of known d).peak ≤ 33)) where
  abbrev HoldsAt : State → Type 0
  HoldsAt s = KeepsFrames known heads main most return_most s

  first_moves : (s : State) (h : HoldsAt s) (f : First) (place l : Place) → FirstLeads known heads h.effect f place l → Stood h.base place s.cells s.entries → Moves known heads main most return_most p high f s (act p f s)
  first_moves s h BodyEnd place l f st = body_end_moves p known heads main most return_most high lower limit ends h.effect h.base s.callers h.bounds h.callers s.world s.work s.entries s.cells place f st h.few h.room
  first_moves s h IsExit place l f st = exit_moves p known heads main most return_most high lower limit ends h.effect h.base s.callers h.bounds h.callers s.world s.work s.entries s.cells place f st h.few h.room
  first_moves s h (IsLiteral value work) place l f st =
      literal_moves p known heads main most return_most high lower limit ends h.effect h.base s.callers h.bounds h.callers s.world value work s.work
      s.entries s.cells place f.place l f.item st h.few h.room f.rest
  first_moves s h (IsWord word work) place l f st =
      word_moves p known heads main most return_most high lower limit ends h.effect h.base s.callers h.bounds h.callers s.world tokens f.next word work s.work
      s.entries s.cells place f.place l f.item st h.few h.room f.rest
  first_moves s h (IsCall d work) place l f st =
      call_moves p known heads main most return_most high lower limit ends h.effect h.base s.callers h.bounds h.callers s.world bodies limits d f.next work
      s.work s.entries s.cells place f.place l f.matches f.item st h.few h.room f.rest
  first_moves s h (IsChild d a work) place l f st =
      child_moves p known heads main most return_most high lower limit ends h.effect h.base s.callers h.bounds h.callers s.world bodies limits d a f.next work
      s.work s.entries s.cells place f.item.0 f.place l f.matches f.item.1 f.item.2 st h.few h.room f.rest
  first_moves s h (IsText kind a n work) place l f st =
      text_moves p known heads main most return_most high lower limit ends h.effect h.base s.callers h.bounds h.callers s.world kind a n work s.work
      s.entries s.cells place f.place l f.item st h.few h.room f.rest
  first_moves s h (IsIf one other work) place l f st = if_moves p known heads main most return_most high lower limit ends h.effect h.base s.callers h.bounds h.callers s.world one other work s.work s.entries s.cells place l f st h.few h.room
  first_moves s h (IsTrueEnd work) place l f st = true_end_moves p known heads main most return_most high lower limit ends h.effect h.base s.callers h.bounds h.callers s.world work s.work s.entries s.cells place l f st h.few h.room
  first_moves s h (IsUntil body work) place l f st = until_moves p known heads main most return_most high lower limit ends h.effect h.base s.callers h.bounds h.callers s.world body work s.work s.entries s.cells place l f st h.few h.room
  first_moves s h (IsWhile test body work) place l f st =
      while_moves p known heads main most return_most high lower limit ends h.effect h.base s.callers h.bounds h.callers s.world test body work s.work
      s.entries s.cells place l f st h.few h.room
  first_moves s h (IsRepeat test body work) place l f st =
      repeat_moves p known heads main most return_most high lower limit ends h.effect h.base s.callers h.bounds h.callers s.world test body work s.work
      s.entries s.cells place l f st h.few h.room
  first_moves s h (IsAgain body work) place l f st = again_moves p known heads main most return_most high lower limit ends h.effect h.base s.callers h.bounds h.callers s.world body work s.work s.entries s.cells place l f st h.few h.room
  first_moves s h (IsDo body plus work) place l f st = do_moves p known heads main most return_most high lower limit ends h.effect h.base s.callers h.bounds h.callers s.world body plus work s.work s.entries s.cells place l f st h.few h.room
  first_moves s h (IsQDo body plus work) place l f st =
      query_do_moves p known heads main most return_most high lower limit ends h.effect h.base s.callers h.bounds h.callers s.world body plus work s.work
      s.entries s.cells place l f st h.few h.room
  first_moves s h (IsOf body others rest work) place l f st =
      of_moves p known heads main most return_most high lower limit ends h.effect h.base s.callers h.bounds h.callers s.world body others rest work s.work
      s.entries s.cells place l f st h.few h.room
  first_moves s h (IsEndOf work) place l f st = end_of_moves p known heads main most return_most high lower limit ends h.effect h.base s.callers h.bounds h.callers s.world work s.work s.entries s.cells place l f st h.few h.room
  first_moves s h (IsEndCase work) place l f st = end_case_moves p known heads main most return_most high lower limit ends h.effect h.base s.callers h.bounds h.callers s.world work s.work s.entries s.cells place l f st h.few h.room
  first_moves s h (IsTurn body plus work) place l f st =
      turn_moves p known heads main most return_most high lower limit ends h.effect h.base s.callers h.bounds h.callers s.world body plus work s.work
      s.entries s.cells place l f st h.few h.room
  first_moves s h (IsLeave work) place l f st = leave_moves p known heads main most return_most high lower limit ends h.effect h.base s.callers h.bounds h.callers s.world work s.work s.entries s.cells place l f st h.few h.room

  -- a step from where the certificate holds fits the bounds, and leads to where it holds
  pub step_moves : (s : State) → HoldsAt s → Moves known heads main most return_most p high (first_work s.work) s (step p s)
  unfolding step
  step_moves s h =
      let o = opens known heads h.effect s.work h.place h.loop_end h.leads in
      first_moves s h (first_work s.work) o.0 h.loop_end o.2 (stood_more h.base h.place o.0 s.cells s.entries o.1 h.stood)

  abbrev OnwardTo : Outcome → Type 0
  OnwardTo o = Onward known heads main most return_most o

  then_onward : (o : Outcome) (next : State → Outcome) → OnwardTo o → ((s : State) → HoldsAt s → OnwardTo (next s)) → OnwardTo (and_then o next)
  then_onward (Goes s) next h each = each s h
  then_onward (Ends end world) next h each = h

  pub steps_onward : (k : ℕ) (s : State) → HoldsAt s → OnwardTo (steps p k s)
  unfolding steps
  steps_onward zero s h = h
  steps_onward (suc k) s h = then_onward (step p s) (steps p k) (step_moves s h).onward (steps_onward k)

  -- the same where each GO comes back
  comes_onward : (only : OnlyGoLeaves) (backs : List GoReturn) (s : State) (o : Outcome) (next : List GoReturn → State → Outcome) → HoldsAt s → step p s ≡ o → OnwardTo o →
      ((rest : List GoReturn) (t : State) → HoldsAt t → OnwardTo (next rest t)) → OnwardTo (come_back backs s o next)
  comes_onward only backs s (Goes t) next h is on each = each backs t on
  comes_onward only (back ∷ backs) s (Ends (Left address) world) next h is on each =
      each backs (state_back back s) (come_behind known heads main most return_most s address world back h (only p s address world is))
  comes_onward only backs s (Ends end world) next h is on each = on

  pub back_onward : (only : OnlyGoLeaves) (k : ℕ) (backs : List GoReturn) (s : State) → HoldsAt s → OnwardTo (steps_back p backs k s)
  unfolding steps_back
  back_onward only zero backs s h = h
  back_onward only (suc k) backs s h = comes_onward only backs s (step p s) (λ rest t. steps_back p rest k t) h refl (step_moves s h).onward (λ rest t i. back_onward only k rest t i)

  pub onward_lacks : (o : Outcome) → OnwardTo o → lacks o ≡ false
  onward_lacks (Goes s) h = refl
  onward_lacks (Ends end world) h = h

-- ---- a valid certificate

record Fine (p : SourceProgram) (known : Known) (heads : List (ℤ × ℤ)) (limits : Limits) (e : Effect) (body : Nodes) : Type 0 where
  k : ℕ
  fits : BodyFits known heads e body k
  keeps : Keeps limits e

idle_keeps : (limits : Limits) → Keeps limits idle
idle_keeps limits = record { need = omega arith; peak = omega arith; back = omega arith; exit = (omega (arith, ints), omega (arith, ints), omega (arith, ints)) }

idle_fits : (known : Known) (heads : List (ℤ × ℤ)) → BodyFits known heads idle Empty 0
idle_fits known heads = (At entry, below_same (At entry), (refl, (omega (arith, ints), omega (arith, ints))))

all_fine : (p : SourceProgram) (known : Known) (heads : List (ℤ × ℤ)) (bodies : List Nodes) (effects : List Effect) (definition k : ℕ) → BodiesFit p known heads bodies effects definition k → (d : ℕ) →
    Fine p known heads (definition_limits p (definition + d)) (slice_index_or effects d idle) (slice_index_or bodies d Empty)
all_fine p known heads [] [] definition k v d = record { k = 0; fits = idle_fits known heads; keeps = idle_keeps (definition_limits p (definition + d)) }
all_fine p known heads [] (e ∷ effects) definition k v d = absurd v
all_fine p known heads (body ∷ bodies) [] definition k v d = absurd v
all_fine p known heads (body ∷ bodies) (e ∷ effects) definition k v zero =
    let same : definition ≡ definition + 0 = omega arith in
    record { k = k; fits = v.0; keeps = subst (λ n. Keeps (definition_limits p n) e) same v.1 }
all_fine p known heads (body ∷ bodies) (e ∷ effects) definition k v (suc d) =
    let same : suc definition + d ≡ definition + suc d = omega arith in
    subst (λ n. Fine p known heads (definition_limits p n) (slice_index_or effects d idle) (slice_index_or bodies d Empty)) same (all_fine p known heads bodies effects (suc definition) (k + loops body) v.2 d)

-- the limits of MAIN, and of every definition
main_limits : (p : SourceProgram) → definition_limits p p.main_body ≡ record { need = 0; peak = if uses_depth p then 32 else 33; back = 31; top = 31 }
main_limits p =
    let same = eq-eqb p.main_body p.main_body refl in
    ap (λ b. if b then record { need = 0; peak = if uses_depth p then 32 else 33; back = 31; top = 31 } else record { need = 33; peak = 33; back = 31; top = 33 }) same

if_most : (b : Bool) (x y most : ℕ) → x ≤ most → y ≤ most → (if b then x else y) ≤ most
if_most true x y most h i = h
if_most false x y most h i = i

abbrev chosen_limits : SourceProgram → Bool → Limits
chosen_limits p b = if b then record { need = 0; peak = if uses_depth p then 32 else 33; back = 31; top = 31 } else record { need = 33; peak = 33; back = 31; top = 33 }

any_limits : (p : SourceProgram) (d : ℕ) → ((definition_limits p d).need ≤ 33) × ((definition_limits p d).peak ≤ 33)
any_limits p d = of (nat_eq d p.main_body)
  where
    of : (b : Bool) → ((chosen_limits p b).need ≤ 33) × ((chosen_limits p b).peak ≤ 33)
    of true = (omega arith, if_most (uses_depth p) 32 33 33 (omega arith) (omega arith))
    of false = (omega arith, omega arith)

token_in : (p : SourceProgram) (known : Known) (tokens : List Node) → All (TokenIn known) tokens → (t : ℕ) (node : Node) → slice_get tokens t ≡ Some node → TokenIn known node
token_in p known [] h t node is = cc (is)
token_in p known (x ∷ tokens) h zero node is = (let same : x ≡ node = cc (is) in subst (TokenIn known) same (h 0 x (omega arith)))
token_in p known (x ∷ tokens) h (suc t) node is = token_in p known tokens (λ k d i. h (suc k) d (omega (arith, i))) t node is

end_most : (exit : Option (ℤ × ℤ)) → ExitKeeps 31 exit → end_height exit ≤ 33
end_most None h = omega arith
end_most (Some exit) h = up exit.1 h.2
  where
    up : (z : ℤ) → z ≤ℤ pos 31 → from_zero z + 2 ≤ 33
    up (pos n) i = omega (arith, ints, i)
    up (negsuc n) i = omega arith

module _ (p : SourceProgram) (z : Cert) (valid : IsValid p z) where
  abbrev known : Known
  known = known_of z

  abbrev main : Effect
  main = main_effect p z

  abbrev most : ℕ
  most = main.peak

  abbrev return_most : ℕ
  return_most = most_return_cells p z

  fine : (d : ℕ) → Fine p known z.heads (definition_limits p d) (effect_of known d) (body_of p d)
  fine d = let same : 0 + d ≡ d = omega arith in subst (λ n. Fine p known z.heads (definition_limits p n) (effect_of known d) (body_of p d)) same (all_fine p known z.heads p.bodies z.effects 0 0 valid.bodies d)

  bodies : (d : ℕ) → (k : ℕ) × BodyFits known z.heads (effect_of known d) (body_of p d) k
  bodies d = ((fine d).k, (fine d).fits)

  limits : (d : ℕ) → ((effect_of known d).need ≤ 33) × ((effect_of known d).peak ≤ 33)
  limits d = (let k = (fine d).keeps in let a = any_limits p d in (omega (arith, k.need, a.0), omega (arith, k.peak, a.1)))

  tokens : (token : ℕ) (node : Node) → token_of p token ≡ Some node → TokenIn known node
  tokens zero node is = cc (is)
  tokens (suc t) node is = token_in p known p.tokens valid.tokens t node is

  main_keeps : Keeps (record { need = 0; peak = if uses_depth p then 32 else 33; back = 31; top = 31 }) main
  main_keeps = subst (λ l. Keeps l main) (main_limits p) (fine p.main_body).keeps

  lower : most ≤ most_cells p z
  lower = omega arith

  ends : end_height main.exit ≤ most_cells p z
  ends = omega arith

  high : most_cells p z ≤ 33
  high = (let a = end_most main.exit main_keeps.exit in let b = main_keeps.peak in let c = if_most (uses_depth p) 32 33 33 (omega arith) (omega arith) in omega (arith, a, b, c))

  back : return_most ≤ 32
  back = (let b = main_keeps.back in omega (arith, b))

  start : (input : List ℕ) → KeepsFrames known z.heads main most return_most (first_state p input)
  start input =
      let b = bodies p.main_body in
      let lim = limits p.main_body in
      let w = enter known z.heads main Return (body_of p p.main_body) b.0 (At entry) Unreachable b.1.0 [] b.1.1 refl (at_once known z.heads main [] b.1.0 Unreachable (b.1.2, refl)) in
      record {
        effect = main;
        base = 0;
        place = w.place;
        loop_end = Unreachable;
        leads = w.leads;
        stood = stood_more 0 (At entry) w.place [] [] w.below (record { low = omega (arith, ints); high = omega (arith, ints); same = refl });
        bounds = record { need = main_keeps.need; peak = omega arith; back = omega arith; need_limit = lim.0; peak_limit = lim.1 };
        callers = (refl, refl);
        few = omega arith;
        room = omega arith;
      }

  on : (input : List ℕ) (k : ℕ) → Onward known z.heads main most return_most (source_run p input k)
  unfolding source_run
  on input k = steps_onward p known z.heads main most return_most (most_cells p z) lower high ends tokens bodies limits k (first_state p input) (start input)

  moves : (input : List ℕ) (j : ℕ) (s : State) → source_run p input j ≡ Goes s → Moves known z.heads main most return_most p (most_cells p z) (first_work s.work) s (step p s)
  moves input j s is = step_moves p known z.heads main most return_most (most_cells p z) lower high ends tokens bodies limits s (subst (Onward known z.heads main most return_most) is (on input j))

  all_within : (most_cells p z ≤ 33) × (most_return_cells p z ≤ 32) × ((input : List ℕ) → RunsWithin p (most_cells p z) (most_return_cells p z) input)
  all_within = (
    high,
    back,
    λ input. record {
      goes_well = λ k. record {
        lacks_nothing = onward_lacks p known z.heads main most return_most (most_cells p z) lower high ends tokens bodies limits (source_run p input k) (on input k);
        depth_fits = λ j s early is. (moves input j s is).depth;
      };
      stacks_fit = λ k j s early is. let m = moves input j s is in (m.data_cells, m.return_cells, m.executes);
    },
  )

  module _ (only : OnlyGoLeaves) (backs : List GoReturn) (input : List ℕ) where
    on_back : (k : ℕ) → Onward known z.heads main most return_most (run_back p backs input k)
    unfolding run_back
    on_back k = back_onward p known z.heads main most return_most (most_cells p z) lower high ends tokens bodies limits only k backs (first_state p input) (start input)

    moves_back : (k : ℕ) (s : State) → run_back p backs input k ≡ Goes s → Moves known z.heads main most return_most p (most_cells p z) (first_work s.work) s (step p s)
    moves_back k s is = step_moves p known z.heads main most return_most (most_cells p z) lower high ends tokens bodies limits s (subst (Onward known z.heads main most return_most) is (on_back k))

    back_within : RunsBackWithin p (most_cells p z) (most_return_cells p z) backs input
    back_within = record {
      lacks_nothing = λ k. onward_lacks p known z.heads main most return_most (most_cells p z) lower high ends tokens bodies limits (run_back p backs input k) (on_back k);
      depths_fit = λ k s is. (moves_back k s is).depth;
      stacks_fit = λ k s is. let m = moves_back k s is in (m.data_cells, m.return_cells, m.executes);
    }

pub certified_runs_fit_behind_go : OnlyGoLeaves → CertifiedRunsFitBehindGo
certified_runs_fit_behind_go only p z backs input valid = back_within p z valid only backs input

pub certified_runs_fit : CertifiedRunsFit
certified_runs_fit p z valid = all_within p z valid
