-- Rounds until nothing changes.
use Rattle.std.proofs.Common.{◌≡◌, ℕ, zero, suc, ◌<◌, Bool, true, false, List, [], ◌∷◌, length, map, replicate, Ok, Err, refl, sym, ap, ◌∙◌, arith, inl, inr}
use Rattle.std.specs.Prelude.{ℤ}
use Rattle.forth_program.specs.Tree.{Nodes}
use Rattle.forth_program.specs.Program.{SourceProgram}
use Rattle.depth_certifier.specs.declared.effect.Effect.{Effect}
use Rattle.depth_certifier.specs.Certificate.{Cert}
use Rattle.depth_certifier.specs.Rounds.{bottom, bottoms, Refusal, round, next_round, after_rounds, RoundsRefuse, Ending}
use Rattle.depth_certifier.proofs.WalkLimits.{Intervals}
use Rattle.depth_certifier.proofs.RoundBounds.{rounds_intervals}
use Rattle.depth_certifier.proofs.RoundTermination.{room, rounds_fine, rounds_rise, rounds_fall}

abbrev pub cert : List Effect → Effect → List (ℤ × ℤ) → Cert
cert effects shared heads = record { effects = effects; shared = shared; heads = heads }

pub false_not : (b : Bool) → b ≡ false → b ≡ true → ⊥
false_not b h i = cc (h, i)

-- a list that is made for the bodies
pub made_bottoms : (bodies : List Nodes) (n : ℕ) → n ≡ length bodies → replicate n bottom ≡ map (λ _. bottom) bodies
made_bottoms [] n h = ap (λ k. replicate k bottom) h
made_bottoms (body ∷ bodies) zero h = absurd (omega (arith, h))
made_bottoms (body ∷ bodies) (suc n) h = ap (λ es. bottom ∷ es) (made_bottoms bodies n (omega (arith, h)))

module _ (p : SourceProgram) where
  -- these effects stand after some rounds
  pub record Stands (effects : List Effect) (shared : Effect) : Type 0 where
    pub n : ℕ
    pub heads : List (ℤ × ℤ)
    pub reached : after_rounds p n ≡ Ok (cert effects shared heads)

  abbrev pub left : List Effect → Effect → ℕ
  left effects shared = room (cert effects shared [])

  pub first_stands : (effects : List Effect) → effects ≡ bottoms p → Stands effects bottom
  first_stands effects h = record { n = 0; heads = []; reached = ap (λ es. Ok (cert es bottom [])) (sym h) }

  pub stands_intervals : (effects : List Effect) (shared : Effect) → Stands effects shared → Intervals (record { definitions = effects; shared = shared })
  stands_intervals effects shared s = rounds_intervals p s.n (cert effects shared s.heads) s.reached

  module _ (effects : List Effect) (shared : Effect) (s : Stands effects shared) where
    pub round_refuses : (r : Refusal) → round p (record { definitions = effects; shared = shared }) ≡ Err r → RoundsRefuse p r
    round_refuses r h = (suc s.n, ap (next_round p) s.reached ∙ h)

    pub round_ends : (next : List Effect) (joined : Effect) (heads : List (ℤ × ℤ)) →
        round p (record { definitions = effects; shared = shared }) ≡ Ok (cert next joined heads) → next ≡ effects → joined ≡ shared →
        Ending p (cert effects shared heads)
    round_ends next joined heads h same_effects same_shared = record {
      n = s.n;
      before = cert effects shared s.heads;
      reached = s.reached;
      again = h ∙ ap (λ es. Ok (cert es joined heads)) same_effects ∙ ap (λ e. Ok (cert effects e heads)) same_shared;
      effects = refl;
      shared = refl;
    }

    module _ (next : List Effect) (joined : Effect) (heads : List (ℤ × ℤ)) (h : round p (record { definitions = effects; shared = shared }) ≡ Ok (cert next joined heads)) where
      pub round_stands : Stands next joined
      round_stands = record { n = suc s.n; heads = heads; reached = ap (next_round p) s.reached ∙ h }

      -- what changes leaves less room
      pub round_lessens : ((next ≡ effects) × (joined ≡ shared) → ⊥) → left next joined < left effects shared
      round_lessens changed =
          let z = cert effects shared s.heads in
          let u = cert next joined heads in
          let r = rounds_rise p s.n z u s.reached h in
          elim (rounds_fall z u (rounds_fine p s.n z s.reached) (rounds_fine p (suc s.n) u (ap (next_round p) s.reached ∙ h)) r.effects r.shared) [
            | inl less ↦ less
            | inr same ↦ absurd (changed same)
          ]
