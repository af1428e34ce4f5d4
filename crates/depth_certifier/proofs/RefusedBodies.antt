-- The definition that the rounds refuse is one of the program's.
use Rattle.std.proofs.Common.{◌≡◌, ℕ, zero, suc, ◌+◌, ◌<◌, List, [], ◌∷◌, length, None, Result, Ok, Err, ap, arith}
use Rattle.std.specs.Prelude.{ℤ}
use Rattle.forth_program.specs.Tree.{Nodes}
use Rattle.forth_program.specs.Program.{SourceProgram}
use Rattle.depth_certifier.specs.declared.effect.Effect.{Effect}
use Rattle.depth_certifier.specs.Effects.{Known}
use Rattle.depth_certifier.specs.Certificate.{Limits, definition_limits, Cert, known_of}
use Rattle.depth_certifier.specs.Walk.{Walk, Walked, body_walk, made}
use Rattle.depth_certifier.specs.Rounds.{Refusal, Bodies, on_body, with_effect, bodies_round, with_shared, next_round, after_rounds}

module _ (r : Refusal) where
  effect_refused : (e : Effect) (s : Result Bodies Refusal) → with_effect e s ≡ Err r → s ≡ Err r
  effect_refused e (Ok t) h = absurd cc
  effect_refused e (Err s) h = h

  shared_refused : (p : SourceProgram) (shared : Effect) (s : Result Bodies Refusal) → with_shared p shared s ≡ Err r → s ≡ Err r
  shared_refused p shared (Ok t) h = absurd cc
  shared_refused p shared (Err s) h =
      let same : s ≡ r = cc in
      ap Err same

  walk_refused : (definition end : ℕ) (w : Walked) (go : Walk → Result Bodies Refusal) → definition < end → ((x : Walk) → go x ≡ Err r → r.definition < end) → on_body definition w go ≡ Err r → r.definition < end
  walk_refused definition end (Ok w) go less others h = others w h
  walk_refused definition end (Err reason) go less others h =
      let is : record { definition = definition; reason = reason } ≡ r = cc in
      omega (arith, ap (λ (s : Refusal). s.definition) is)

  module _ (limits : ℕ → Limits) (known : Known) where
    body_refused : (bodies : List Nodes) (definition : ℕ) (heads : List (ℤ × ℤ)) → bodies_round limits known bodies definition heads ≡ Err r → r.definition < definition + length bodies
    body_refused [] definition heads h = absurd cc
    body_refused (body ∷ bodies) definition heads h =
        walk_refused definition (definition + length (body ∷ bodies)) (body_walk (limits definition) known None body heads) (λ w. with_effect (made w) (bodies_round limits known bodies (suc definition) w.heads)) (omega arith)
        (λ w i. omega (arith, body_refused bodies (suc definition) w.heads (effect_refused (made w) (bodies_round limits known bodies (suc definition) w.heads) i))) h

  module _ (p : SourceProgram) where
    round_refused : (s : Result Cert Refusal) → (s ≡ Err r → r.definition < length p.bodies) → next_round p s ≡ Err r → r.definition < length p.bodies
    round_refused (Ok z) before h = omega (arith, body_refused (definition_limits p) (known_of z) p.bodies 0 [] (shared_refused p z.shared (bodies_round (definition_limits p) (known_of z) p.bodies 0 []) h))
    round_refused (Err s) before h = before h

    pub refused_body : (n : ℕ) → after_rounds p n ≡ Err r → r.definition < length p.bodies
    refused_body zero h = absurd cc
    refused_body (suc n) h = round_refused (after_rounds p n) (refused_body n) h
