-- Bytes from 33 to 126 are text.
use Rattle.std.proofs.Common.{◌≡◌, ℕ, ◌<◌, Bool, true, false, List, [], ◌∷◌, refl, arith}
use Rattle.std.specs.Prelude.{◌&&◌, nat_le}
use Rattle.std.specs.List.{All, list_all}
use Rattle.std.specs.Str.{IsUtf8}
use Rattle.std.proofs.lemmas.Bool.{leb-true}
use Rattle.std.proofs.lemmas.List.Elements.{All-cons}
use Rattle.std.proofs.lemmas.Str.{IsUtf8-from_ascii}
use Rattle.std.proofs.lemmas.Str.Ascii.{IsAscii-from_all}

parts_true : (a b : Bool) → (a && b) ≡ true → (a ≡ true) × (b ≡ true)
parts_true true b e = (refl, e)
parts_true false b e = cc

small : (field : List ℕ) → list_all (λ byte. nat_le 33 byte && nat_le byte 126) field ≡ true → All (λ byte. byte < 128) field
small [] e = λ k d lt. absurd (omega arith)
small (byte ∷ field) e =
    let parts = parts_true (nat_le 33 byte && nat_le byte 126) (list_all (λ byte. nat_le 33 byte && nat_le byte 126) field) e in
    let upper = parts_true (nat_le 33 byte) (nat_le byte 126) parts.0 in
    let few = leb-true byte 126 upper.1 in
    All-cons (λ b. b < 128) byte field (omega arith) (small field parts.1)

pub graphic_utf8 : (field : List ℕ) → list_all (λ byte. nat_le 33 byte && nat_le byte 126) field ≡ true → IsUtf8 field
graphic_utf8 field e = IsUtf8-from_ascii field (IsAscii-from_all field (small field e))
