-- The source of `make`, line by line.
use Rattle.std.proofs.Common.{◌≡◌, ℕ, suc, ◌+◌, ◌-◌, ◌<◌, List, [], ◌∷◌, ◌++◌, ap, sym, ◌∙◌, arith, append_assoc}
use Rattle.std.specs.Prelude.{codes, decimal}
use Rattle.made_sources.specs.MadeSource.{joined, next_number, definition, definitions, calls}

one_less : (count done : ℕ) → done < count → count - done ≡ suc (count - (done + 1))
one_less count done h = omega arith

-- one definition more
pub next_definition : (old new whole : List ℕ) (count done number next : ℕ) → done < count → next ≡ next_number number → new ≡ old ++ definition (done + 1) next → old ++ definitions (count - done) (done + 1) number ≡ whole →
    new ++ definitions (count - (done + 1)) (done + 1 + 1) next ≡ whole
next_definition old new whole count done number next h e added same =
    let rest : List ℕ = definitions (count - (done + 1)) (done + 1 + 1) (next_number number) in
    ap (λ t. new ++ definitions (count - (done + 1)) (done + 1 + 1) t) e
    ∙ (ap (λ t. t ++ rest) (added ∙ ap (λ t. old ++ definition (done + 1) t) e)
    ∙ (append_assoc old (definition (done + 1) (next_number number)) rest ∙ (ap (λ n. old ++ definitions n (done + 1) number) (sym (one_less count done h)) ∙ same)))

-- one call more
pub next_call : (old new whole : List ℕ) (count done : ℕ) → done < count → new ≡ old ++ joined (codes " W" ∷ decimal (done + 1) ∷ []) →
    old ++ calls (count - done) (done + 1) ≡ whole → new ++ calls (count - (done + 1)) (done + 1 + 1) ≡ whole
next_call old new whole count done h added same =
    let one : List ℕ = joined (codes " W" ∷ decimal (done + 1) ∷ []) in
    let rest : List ℕ = calls (count - (done + 1)) (done + 1 + 1) in
    ap (λ t. t ++ rest) added ∙ (append_assoc old one rest ∙ (ap (λ n. old ++ calls n (done + 1)) (sym (one_less count done h)) ∙ same))
