use Rattle.std.proofs.Common.{◌≡◌, ℕ, ◌<◌, ◌≤◌, ◌||◌, false, get_or}
use Rattle.forth_program.specs.ItemTrees.{tree_of}
use Rattle.step_certifier.specs.Refusal.{calls}
use Rattle.step_certifier.proofs.reached.mark_calls.Given as goal

abbrev pub invariant-loop-d : goal.invariant-loop-d
invariant-loop-d l = record {
  done : (k : ℕ) → k < l.d → get_or l.marks k false ≡ (get_or l.initial.marks k false || calls k (tree_of l.body));
  rest : (k : ℕ) → l.d ≤ k → get_or l.marks k false ≡ get_or l.initial.marks k false;
}
