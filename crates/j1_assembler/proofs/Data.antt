-- Data lines, field by field.
use Rattle.std.proofs.Common.{◌≡◌, ℕ, ◌+◌, ◌<◌, ◌≤◌, nat_le, ◌&&◌, true, false, List, [], ◌++◌, length, Option, Some, None, ap, sym, ◌∙◌, arith, append-nil}
use Rattle.std.proofs.lemmas.Bool.Decides.{nat_tests}
use Rattle.j1_assembler.specs.Lines.{bytes_of, data_of}

-- these bytes, and those that follow
abbrev pub prefixed : List ℕ → Option (List ℕ) → Option (List ℕ)
prefixed front None = None
prefixed front (Some bytes) = Some (front ++ bytes)

-- what stands before the field that a loop has come to
pub record IsBefore (front : List ℕ) (rest all : List (List ℕ)) : Type 0 where
  pub same : prefixed front (bytes_of rest) ≡ bytes_of all
  pub count : length front + length rest ≡ length all
  pub few : length front ≤ 16

within : (n : ℕ) (o : Option (List ℕ)) → 1 ≤ n → n ≤ 16 → ◌≡◌ {A = Option (List ℕ)} (elim (nat_le 1 n && nat_le n 16) [ true ↦ o | false ↦ None ]) o
within n o h g = grind (arith, nat_tests)

-- all fields have been read
pub all_bytes : (front : List ℕ) (rest all : List (List ℕ)) → rest ≡ [] → 0 < length front → IsBefore front rest all → data_of all ≡ Some front
all_bytes front rest all r h b =
    within (length all) (bytes_of all) (omega (arith, b.count, ap length r)) (omega (arith, b.count, b.few, ap length r))
    ∙ (sym b.same ∙ (ap (λ t. prefixed front (bytes_of t)) r ∙ ap Some (append-nil front)))
