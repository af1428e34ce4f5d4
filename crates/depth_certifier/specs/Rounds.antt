-- The rounds in which the least certificate is found, and the first refusal that they meet.
use Rattle.std.specs.Prelude.{◌≡◌, ℕ, zero, suc, max, List, [], ◌∷◌, map, Option, Some, None, Result, Ok, Err, ℤ, slice_index_or, ◌⊎◌, IsTrue}
use Rattle.std.specs.Int.{int_max, int_min}
use Rattle.std.specs.List.{All}
use Rattle.word_table.specs.declared.word.Word.TheVariants as table
use Rattle.forth_program.specs.Tree.{Node, Nodes, Literal, Plain, Call, Child}
use Rattle.forth_program.specs.Program.{SourceProgram}
use Rattle.forth_program.specs.Form.{may_be_token}
use Rattle.depth_certifier.specs.declared.effect.Effect.{Effect}
use Rattle.depth_certifier.specs.declared.effect.CertCause.{CertCause}
use Rattle.depth_certifier.specs.Effects.{table_effect, Known, effect_of, child_effect}
use Rattle.depth_certifier.specs.Certificate.{no_interval, ExitIn, EffectIn, Limits, definition_limits, Cert, known_of, IsValid}
use Rattle.depth_certifier.specs.Walk.{Walk, Walked, body_walk, made}

-- of a definition that is not known to return
abbrev pub bottom : Effect
bottom = record { need = 0; peak = 0; back = 0; exit = None }

-- ---- the shared effect

abbrev pub token_effect : Known → Node → Effect
token_effect known (Plain word) = table_effect word
token_effect known (Call definition) = effect_of known definition
token_effect known (Child definition address) = child_effect (effect_of known definition)
token_effect known node = table_effect table.Literal

abbrev pub joined_exit : Option (ℤ × ℤ) → Option (ℤ × ℤ) → Option (ℤ × ℤ)
joined_exit None y = y
joined_exit (Some x) None = Some x
joined_exit (Some x) (Some y) = Some (int_min x.0 y.0, int_max x.1 y.1)

abbrev pub joined_effect : Effect → Effect → Effect
joined_effect x y = record { need = max x.need y.need; peak = max x.peak y.peak; back = max x.back y.back; exit = joined_exit x.exit y.exit }

-- an execution token stands for a word that may be one, a definition, a number or a child
abbrev pub ProperToken : Node → Type 0
ProperToken (Plain word) = IsTrue (may_be_token (Plain word))
ProperToken (Call definition) = Unit {0}
ProperToken (Child definition address) = Unit {0}
ProperToken (Literal value) = Unit {0}
ProperToken node = ⊥

-- the least effect that contains those of all execution tokens
abbrev pub shared_of : Known → List Node → Effect
shared_of known [] = bottom
shared_of known (node ∷ nodes) = joined_effect (token_effect known node) (shared_of known nodes)

-- ---- rounds

pub record Refusal : Type 0 where
  pub definition : ℕ
  pub reason : CertCause

-- the effects of definitions and the heads of their loops
pub record Bodies : Type 0 where
  pub effects : List Effect
  pub heads : List (ℤ × ℤ)

abbrev pub on_body : ℕ → Walked → (Walk → Result Bodies Refusal) → Result Bodies Refusal
on_body definition (Ok w) go = go w
on_body definition (Err reason) go = Err (record { definition = definition; reason = reason })

abbrev pub with_effect : Effect → Result Bodies Refusal → Result Bodies Refusal
with_effect e (Ok t) = Ok (record { effects = e ∷ t.effects; heads = t.heads })
with_effect e (Err r) = Err r

module _ (limits : ℕ → Limits) (known : Known) where
  -- over the bodies from a definition on
  abbrev pub bodies_round : List Nodes → ℕ → List (ℤ × ℤ) → Result Bodies Refusal
  bodies_round [] definition heads = Ok (record { effects = []; heads = heads })
  bodies_round (body ∷ bodies) definition heads =
      on_body definition (body_walk (limits definition) known None body heads) (λ w. with_effect (made w) (bodies_round bodies (suc definition) w.heads))

abbrev pub with_shared : SourceProgram → Effect → Result Bodies Refusal → Result Cert Refusal
with_shared p shared (Ok t) = Ok (record { effects = t.effects; shared = shared_of (record { definitions = t.effects; shared = shared }) p.tokens; heads = t.heads })
with_shared p shared (Err r) = Err r

-- the new effects take the place of the old ones, and then the shared effect is joined anew
abbrev pub round : SourceProgram → Known → Result Cert Refusal
round p known = with_shared p known.shared (bodies_round (definition_limits p) known p.bodies 0 [])

abbrev pub next_round : SourceProgram → Result Cert Refusal → Result Cert Refusal
next_round p (Ok z) = round p (known_of z)
next_round p (Err r) = Err r

abbrev pub bottoms : SourceProgram → List Effect
bottoms p = map (λ _. bottom) p.bodies

-- what stands after n rounds
abbrev pub after_rounds : SourceProgram → ℕ → Result Cert Refusal
after_rounds p zero = Ok (record { effects = bottoms p; shared = bottom; heads = [] })
after_rounds p (suc n) = next_round p (after_rounds p n)

-- the refusal that the rounds meet first
abbrev pub RoundsRefuse : SourceProgram → Refusal → Type 0
RoundsRefuse p r = (n : ℕ) × (after_rounds p n ≡ Err r)

-- ---- the least certificate

abbrev pub EachIn : List Effect → List Effect → Type 0
EachIn [] ys = ys ≡ []
EachIn (x ∷ xs) [] = ⊥
EachIn (x ∷ xs) (y ∷ ys) = EffectIn x y × EachIn xs ys

-- a head is that of an unreachable loop, or lies inside the other
abbrev pub HeadIn : ℤ × ℤ → ℤ × ℤ → Type 0
HeadIn x y = (x ≡ no_interval) ⊎ ExitIn (Some x) (Some y)

-- valid, and inside each one that is valid
pub record IsLeast (p : SourceProgram) (z : Cert) : Type 0 where
  pub valid : IsValid p z
  pub effects : (y : Cert) → IsValid p y → EachIn z.effects y.effects
  pub shared : (y : Cert) → IsValid p y → EffectIn z.shared y.shared
  pub heads : (y : Cert) → IsValid p y → (k : ℕ) → HeadIn (slice_index_or z.heads k no_interval) (slice_index_or y.heads k no_interval)

-- the rounds have settled at z: a round from what stands after n of them changes no effect
pub record Ending (p : SourceProgram) (z : Cert) : Type 0 where
  pub n : ℕ
  pub before : Cert
  pub reached : after_rounds p n ≡ Ok before
  pub again : round p (known_of before) ≡ Ok z
  pub effects : z.effects ≡ before.effects
  pub shared : z.shared ≡ before.shared

-- the rounds settle or refuse
abbrev pub Judged : SourceProgram → Type 0
Judged p = ((z : Cert) × Ending p z) ⊎ ((r : Refusal) × RoundsRefuse p r)

-- ---- laws

-- the rounds of each program settle or refuse
abbrev pub RoundsEnd : Type 0
RoundsEnd = (p : SourceProgram) → Judged p

-- where they settle is the least certificate
abbrev pub RoundsFindTheLeast : Type 0
RoundsFindTheLeast = (p : SourceProgram) (z : Cert) → All ProperToken p.tokens → Ending p z → IsLeast p z

-- where they refuse there is none
abbrev pub RefusedHaveNone : Type 0
RefusedHaveNone = (p : SourceProgram) (r : Refusal) (z : Cert) → RoundsRefuse p r → IsValid p z → ⊥

-- there is one refusal at most
abbrev pub OneRefusal : Type 0
OneRefusal = (p : SourceProgram) (r s : Refusal) → RoundsRefuse p r → RoundsRefuse p s → r ≡ s

-- and one least certificate
abbrev pub OneLeast : Type 0
OneLeast = (p : SourceProgram) (y z : Cert) → IsLeast p y → IsLeast p z → y ≡ z
