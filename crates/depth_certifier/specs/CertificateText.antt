-- The text of a certificate: a line for each definition, and one of the shared effect where a body has EXECUTE.
use Rattle.std.specs.Prelude.{ℕ, Bool, true, false, List, [], ◌∷◌, ◌++◌, Option, Some, None, ℤ, codes, decimal}
use Rattle.std.specs.Fmt.{signed_decimal}
use Rattle.forth_program.specs.Program.{SourceProgram}
use Rattle.depth_certifier.specs.declared.effect.Effect.{Effect}
use Rattle.depth_certifier.specs.Certificate.{Cert}
use Rattle.depth_certifier.specs.Counting.{uses_execute}

-- the least and the greatest change, or that it never returns
abbrev pub exit_text : Option (ℤ × ℤ) → List ℕ
exit_text None = codes "never"
exit_text (Some (low, high)) = signed_decimal low ++ (codes " " ++ signed_decimal high)

-- parts one behind the other, and a line feed
abbrev pub ended : List (List ℕ) → List ℕ
ended [] = 10 ∷ []
ended (part ∷ parts) = part ++ ended parts

-- NAME need N peak P back B exit L H
abbrev pub effect_line : List ℕ → Effect → List ℕ
effect_line name e = ended (name ∷ codes " need " ∷ decimal e.need ∷ codes " peak " ∷ decimal e.peak ∷ codes " back " ∷ decimal e.back ∷ codes " exit " ∷ exit_text e.exit ∷ [])

-- of names and the effects of their definitions
abbrev pub effect_lines : List (List ℕ) → List Effect → List ℕ
effect_lines (name ∷ names) (e ∷ effects) = effect_line name e ++ effect_lines names effects
effect_lines names effects = []

abbrev pub shared_line : Bool → Effect → List ℕ
shared_line true e = effect_line (codes "*") e
shared_line false e = []

-- the definitions in the order of the source
abbrev pub certificate_text : SourceProgram → Cert → List ℕ
certificate_text p z = effect_lines p.names z.effects ++ shared_line (uses_execute p) z.shared
