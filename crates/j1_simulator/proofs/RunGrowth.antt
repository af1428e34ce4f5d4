-- What a run prints only grows, and its end is for good.
use Rattle.std.proofs.Common.{◌≡◌, ℕ, zero, suc, ◌+◌, ◌-◌, ◌≤◌, List, [], ◌∷◌, ◌++◌, Option, Some, None, refl, sym, ap, ◌∙◌, subst, arith, append_assoc}
use Rattle.std.proofs.lemmas.List.{append-nil}
use Rattle.j1_simulator.specs.declared.effects.Effect.{Effect}
use Rattle.j1_simulator.specs.declared.effects.Output.{Output}
use Rattle.j1_simulator.specs.declared.effects.Output.TheVariants.{Silent, Prints, Halts}
use Rattle.j1_simulator.specs.Step.{Storage, Core, Stop, Transition, Advances, Takes, Terminates, applied, effect_at}
use Rattle.j1_simulator.specs.Run.{Configuration, IsPrefixOf, advanced, run, with_outcome, taken_on, printed_by}
use Rattle.j1_simulator.specs.Laws.{OnlyGrows}

prefix_refl : (xs : List ℕ) → IsPrefixOf xs xs
prefix_refl xs = ([], append-nil xs)

prefix_then : (xs ys zs : List ℕ) → IsPrefixOf xs ys → IsPrefixOf ys zs → IsPrefixOf xs zs
prefix_then xs ys zs a b = (a.0 ++ b.0, sym (append_assoc xs a.0 b.0) ∙ ap (λ l. l ++ b.0) a.1 ∙ b.1)

output_adds : (output : Output) (xs : List ℕ) → IsPrefixOf xs (printed_by output xs)
output_adds Silent xs = prefix_refl xs
output_adds (Prints byte) xs = (byte ∷ [], refl)
output_adds (Halts status) xs = prefix_refl xs

module _ {V S : Type 0} (storage : Storage V S) (data_start : ℕ) where
  taken_adds : (e : Effect) (next : ℕ → Core V S) (input : List ℕ) (from : Configuration V S) → IsPrefixOf from.printed (taken_on e next input from).printed
  taken_adds e next [] from = prefix_refl from.printed
  taken_adds e next (byte ∷ input) from = prefix_refl from.printed

  outcome_adds : (e : Effect) (o : Transition V S) (from : Configuration V S) → IsPrefixOf from.printed (with_outcome e o from).printed
  outcome_adds e (Terminates stop) from = prefix_refl from.printed
  outcome_adds e (Takes next) from = taken_adds e next from.input from
  outcome_adds e (Advances core output) from = output_adds output from.printed

  pub advanced_adds : (stop : Option Stop) (from : Configuration V S) → IsPrefixOf from.printed (advanced stop storage data_start from).printed
  advanced_adds None from = outcome_adds (effect_at from.core) (applied storage data_start (effect_at from.core) from.core) from
  advanced_adds (Some stop) from = prefix_refl from.printed

  run_adds : (n : ℕ) (from : Configuration V S) → IsPrefixOf from.printed (run storage data_start n from).printed
  run_adds zero from = prefix_refl from.printed
  run_adds (suc n) from = prefix_then from.printed (advanced from.stop storage data_start from).printed _ (advanced_adds from.stop from) (run_adds n (advanced from.stop storage data_start from))

  pub run_stopped : (n : ℕ) (stop : Stop) (from : Configuration V S) → from.stop ≡ Some stop → run storage data_start n from ≡ from
  run_stopped zero stop from e = refl
  run_stopped (suc n) stop from e =
      let same : advanced from.stop storage data_start from ≡ from = ap (λ s. advanced s storage data_start from) e in
      ap (run storage data_start n) same ∙ run_stopped n stop from e

  run_sum : (a b : ℕ) (from : Configuration V S) → run storage data_start (a + b) from ≡ run storage data_start b (run storage data_start a from)
  run_sum zero b from = let e : 0 + b ≡ b = omega arith in ap (λ n. run storage data_start n from) e
  run_sum (suc a) b from = let e : suc a + b ≡ suc (a + b) = omega arith in ap (λ n. run storage data_start n from) e ∙ run_sum a b (advanced from.stop storage data_start from)

  pub longer : (k n : ℕ) (from : Configuration V S) → k ≤ n → IsPrefixOf (run storage data_start k from).printed (run storage data_start n from).printed
  longer k n from le =
      let e : k + (n - k) ≡ n = omega arith in
      subst (λ m. IsPrefixOf (run storage data_start k from).printed (run storage data_start m from).printed) e
      (subst (λ x. IsPrefixOf (run storage data_start k from).printed x.printed) (sym (run_sum k (n - k) from)) (run_adds (n - k) (run storage data_start k from)))

  pub run_over : (k n : ℕ) (from : Configuration V S) (stop : Stop) → k ≤ n → (run storage data_start k from).stop ≡ Some stop → run storage data_start n from ≡ run storage data_start k from
  run_over k n from stop le h =
      let e : n ≡ k + (n - k) = omega arith in
      ap (λ m. run storage data_start m from) e ∙ run_sum k (n - k) from ∙ run_stopped (n - k) stop (run storage data_start k from) h

pub only_grows : {V S : Type 0} (storage : Storage V S) → OnlyGrows storage
only_grows storage = record { prints = λ data_start k n from le. longer storage data_start k n from le; ends = λ data_start k n from stop le h. run_over storage data_start k n from stop le h }
