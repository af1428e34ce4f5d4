-- The lines of effects.
use Rattle.std.proofs.Common.{◌≡◌, ℕ, zero, suc, List, [], ◌∷◌, ◌++◌, length, drop, min, refl, sym, ap, ◌∙◌, arith}
use Rattle.depth_certifier.specs.declared.effect.Effect.{Effect}
use Rattle.depth_certifier.specs.CertificateText.{effect_lines}

no_lines : (names : List (List ℕ)) (effects : List Effect) (d : ℕ) → d ≡ min (length effects) (length names) → effect_lines (drop d names) (drop d effects) ≡ []
no_lines [] [] d h = (let z : d ≡ 0 = omega (arith, h) in ap (λ k. effect_lines (drop k []) (drop k [])) z)
no_lines [] (e ∷ es) d h = (let z : d ≡ 0 = omega (arith, h) in ap (λ k. effect_lines (drop k []) (drop k (e ∷ es))) z)
no_lines (n ∷ ns) [] d h = (let z : d ≡ 0 = omega (arith, h) in ap (λ k. effect_lines (drop k (n ∷ ns)) (drop k [])) z)
no_lines (n ∷ ns) (e ∷ es) zero h = absurd (omega (arith, h))
no_lines (n ∷ ns) (e ∷ es) (suc d) h = no_lines ns es d (omega (arith, h))

pub all_lines : (text last after : List ℕ) (names : List (List ℕ)) (effects : List Effect) (d : ℕ) → d ≡ min (length effects) (length names) → after ≡ text ++ last →
    text ++ effect_lines (drop d names) (drop d effects) ≡ effect_lines names effects → after ≡ effect_lines names effects ++ last
all_lines text last after names effects d all more before =
    more ∙ ap (λ t. t ++ last) (sym (append_nil text) ∙ ap (λ xs. text ++ xs) (sym (no_lines names effects d all)) ∙ before)
  where
    append_nil : (xs : List ℕ) → xs ++ [] ≡ xs
    append_nil [] = refl
    append_nil (x ∷ xs) = ap (λ ys. x ∷ ys) (append_nil xs)
