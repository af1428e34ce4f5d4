-- Digits that are read again.
use Rattle.std.proofs.Common.{◌≡◌, ℕ, zero, suc, ◌+◌, ◌*◌, ◌/◌, ◌%◌, ◌<◌, ◌&&◌, Bool, true, false, Option, Some, None, refl, ap, ◌∙◌, arith, nat_eq, inl, inr}
use Rattle.std.proofs.lemmas.Bool.{cases_lt}
use Rattle.std.proofs.lemmas.Bool.Decides.{nat_tests}
use Rattle.j1_assembler.specs.Numbers.{◌>>=◌, digit_of, byte_of, stated_place}
use Rattle.j1_assembler.specs.Numbers as asm
use Rattle.decompiler.specs.Listing.{digit, hex2, hex4, place}

-- below n the test holds
abbrev pub all_below : ℕ → (ℕ → Bool) → Bool
all_below zero test = true
all_below (suc n) test = test n && all_below n test

pub both_left : (a b : Bool) → (a && b) ≡ true → a ≡ true
both_left true b e = refl
both_left false b e = e

pub both_right : (a b : Bool) → (a && b) ≡ true → b ≡ true
both_right true b e = e
both_right false b e = absurd (cc)

-- a test that holds below n holds at each number below it
pub at_each : (n : ℕ) (test : ℕ → Bool) → all_below n test ≡ true → (k : ℕ) → k < n → test k ≡ true
at_each zero test e k h = absurd (omega arith)
at_each (suc n) test e k h = elim (cases_lt k n) [
  | inl less ↦ at_each n test (both_right (test n) (all_below n test) e) k less
  | inr more ↦ let same : k ≡ n = omega arith in ap test same ∙ both_left (test n) (all_below n test) e
]

abbrev is_digit_back : Option ℕ → ℕ → Bool
is_digit_back None n = false
is_digit_back (Some m) n = nat_eq m n

digit_test : all_below 16 (λ n. is_digit_back (digit_of (digit n)) n) ≡ true
digit_test = refl

back_of : (o : Option ℕ) (n : ℕ) → is_digit_back o n ≡ true → o ≡ Some n
back_of None n e = absurd (cc)
back_of (Some m) n e = ap Some (grind (arith, nat_tests))

pub digit_back : (n : ℕ) → n < 16 → digit_of (digit n) ≡ Some n
digit_back n h = back_of (digit_of (digit n)) n (at_each 16 (λ n. is_digit_back (digit_of (digit n)) n) digit_test n h)

byte_is : (n : ℕ) → 16 * (n / 16) + n % 16 ≡ n
byte_is n = omega arith

pub byte_back : (n : ℕ) → n < 256 → byte_of (digit (n / 16)) (digit (n % 16)) ≡ Some n
byte_back n h =
    ap (λ o. o >>= λ x. digit_of (digit (n % 16)) >>= λ y. Some (16 * x + y)) (digit_back (n / 16) (omega arith))
    ∙ (ap (λ o. o >>= λ y. Some (16 * (n / 16) + y)) (digit_back (n % 16) (omega arith)) ∙ ap Some (byte_is n))

pub hex2_back : (n : ℕ) → n < 256 → asm.hex2 (hex2 n) ≡ Some n
hex2_back n h = byte_back n h

cell_is : (n : ℕ) → 256 * (n / 256) + n % 256 ≡ n
cell_is n = omega arith

pub hex4_back : (n : ℕ) → n < 65536 → asm.hex4 (hex4 n) ≡ Some n
hex4_back n h =
    ap (λ o. o >>= λ x. byte_of (digit (n % 256 / 16)) (digit (n % 256 % 16)) >>= λ y. Some (256 * x + y)) (byte_back (n / 256) (omega arith))
    ∙ (ap (λ o. o >>= λ y. Some (256 * (n / 256) + y)) (byte_back (n % 256) (omega arith)) ∙ ap Some (cell_is n))

pub place_back : (n : ℕ) → n < 65536 → stated_place (place n) ≡ Some n
place_back n h = hex4_back n h
