-- Whether a certificate is valid, by one walk over each body with its heads.
use Rattle.std.specs.Prelude.{◌≡◌, ◌↔◌, ℕ, suc, Bool, true, false, ◌&&◌, nat_le, nat_eq, List, [], ◌∷◌, length, Option, Some, None, Ok, Err, ℤ, pos, negsuc, int_le}
use Rattle.std.specs.List.{All, list_all}
use Rattle.forth_program.specs.Tree.{Nodes}
use Rattle.forth_program.specs.Program.{SourceProgram}
use Rattle.depth_certifier.specs.declared.effect.Effect.{Effect}
use Rattle.depth_certifier.specs.Effects.{Known}
use Rattle.depth_certifier.specs.Certificate.{Limits, definition_limits, Cert, known_of, IsValid}
use Rattle.depth_certifier.specs.Walk.{Walk, Walked, body_walk, made}
use Rattle.depth_certifier.specs.Rounds.{token_effect, ProperToken}

abbrev pub exit_in : Option (ℤ × ℤ) → Option (ℤ × ℤ) → Bool
exit_in None y = true
exit_in (Some x) None = false
exit_in (Some x) (Some y) = int_le y.0 x.0 && int_le x.1 y.1

-- one effect is contained in another
abbrev pub effect_in : Effect → Effect → Bool
effect_in x y = nat_le x.need y.need && (nat_le x.peak y.peak && (nat_le x.back y.back && exit_in x.exit y.exit))

-- an interval within -33 and a greatest end
abbrev pub interval_keeps : ℕ → ℤ × ℤ → Bool
interval_keeps top x = int_le (negsuc 32) x.0 && (int_le x.0 x.1 && int_le x.1 (pos top))

abbrev pub exit_keeps : ℕ → Option (ℤ × ℤ) → Bool
exit_keeps top None = true
exit_keeps top (Some x) = interval_keeps top x

abbrev pub effect_keeps : Limits → Effect → Bool
effect_keeps limits e = nat_le e.need limits.need && (nat_le e.peak limits.peak && (nat_le e.back limits.back && exit_keeps limits.top e.exit))

abbrev pub is_ordered : Option (ℤ × ℤ) → Bool
is_ordered None = true
is_ordered (Some x) = int_le x.0 x.1

abbrev pub walked_and : Walked → (Walk → Bool) → Bool
walked_and (Ok w) test = test w
walked_and (Err reason) test = false

module _ (p : SourceProgram) (known : Known) (heads : List (ℤ × ℤ)) where
  -- the bodies from a definition on, after loops with these heads
  abbrev pub bodies_check : List Nodes → List Effect → ℕ → List (ℤ × ℤ) → Bool
  bodies_check [] [] definition noted = nat_eq (length noted) (length heads)
  bodies_check [] (e ∷ effects) definition noted = false
  bodies_check (body ∷ bodies) [] definition noted = false
  bodies_check (body ∷ bodies) (e ∷ effects) definition noted =
      effect_keeps (definition_limits p definition) e
      && walked_and (body_walk (definition_limits p definition) known (Some heads) body noted) (λ w. effect_in (made w) e && bodies_check bodies effects (suc definition) w.heads)

abbrev pub is_valid : SourceProgram → Cert → Bool
is_valid p z =
    bodies_check p (known_of z) z.heads p.bodies z.effects 0 []
    && (list_all (λ node. effect_in (token_effect (known_of z) node) z.shared) p.tokens && (is_ordered z.shared.exit && list_all (interval_keeps 33) z.heads))

-- so it is
abbrev pub ChecksAreExact : Type 0
ChecksAreExact = (p : SourceProgram) (z : Cert) → All ProperToken p.tokens → (is_valid p z ≡ true) ↔ IsValid p z
