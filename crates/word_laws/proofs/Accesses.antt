-- What a fetch and a store reach, on the open machine and in the source's world.
use Rattle.std.proofs.Common.{◌≡◌, ℕ, ◌/◌, ◌≤◌, Bool, true, false, ◌&&◌, nat_lt, nat_le, ◌==◌, if◌then◌else◌, refl, arith, leb-true}
use Rattle.console_ports.specs.Ports.{access_at, even}
use Rattle.console_ports.specs.declared.ports.Access.{Access}
use Rattle.console_ports.specs.declared.ports.Access.TheVariants.{Data, Print, Key, Halt, Outside}

-- data space begins at a place of memory, a fetch meets no port for stores, and a store none for fetches
abbrev pub Fetches : ℕ → Access → Type 0
Fetches data_start (Data i) = data_start / 2 ≤ i
Fetches data_start Key = Unit {0}
Fetches data_start (Outside a) = Unit {0}
Fetches data_start Print = ⊥
Fetches data_start Halt = ⊥

abbrev pub Stores : ℕ → Access → Type 0
Stores data_start (Data i) = data_start / 2 ≤ i
Stores data_start Print = Unit {0}
Stores data_start Halt = Unit {0}
Stores data_start (Outside a) = Unit {0}
Stores data_start Key = ⊥

by_test : (b : Bool) (P : Access → Type 0) (x y : Access) → (b ≡ true → P x) → (b ≡ false → P y) → P (if b then x else y)
by_test true P x y h k = h refl
by_test false P x y h k = k refl

and_right : (a b : Bool) → (a && b) ≡ true → b ≡ true
and_right true b e = e
and_right false b e = cc

no_true : (b : Bool) → (b && false) ≡ true → ⊥
no_true true e = cc
no_true false e = cc

within_data : (data_start a : ℕ) → (nat_lt a 0x4000 && nat_le data_start (even a)) ≡ true → data_start / 2 ≤ a / 2
within_data data_start a e =
    let le : data_start ≤ even a = leb-true data_start (even a) (and_right (nat_lt a 0x4000) (nat_le data_start (even a)) e) in
    omega arith

pub fetches : (data_start a : ℕ) → Fetches data_start (access_at data_start false a)
fetches data_start a =
    by_test (nat_lt a 0x4000 && nat_le data_start (even a)) (Fetches data_start) _ _ (within_data data_start a)
    (λ n. by_test (even a == 0x4000 && false) (Fetches data_start) _ _ (λ e. absurd (no_true (even a == 0x4000) e))
    (λ n. by_test (even a == 0x4002 && true) (Fetches data_start) _ _ (λ e. tt)
    (λ n. by_test (even a == 0x4004 && false) (Fetches data_start) _ _ (λ e. absurd (no_true (even a == 0x4004) e)) (λ n. tt))))

pub stores : (data_start a : ℕ) → Stores data_start (access_at data_start true a)
stores data_start a =
    by_test (nat_lt a 0x4000 && nat_le data_start (even a)) (Stores data_start) _ _ (within_data data_start a)
    (λ n. by_test (even a == 0x4000 && true) (Stores data_start) _ _ (λ e. tt)
    (λ n. by_test (even a == 0x4002 && false) (Stores data_start) _ _ (λ e. absurd (no_true (even a == 0x4002) e))
    (λ n. by_test (even a == 0x4004 && true) (Stores data_start) _ _ (λ e. tt) (λ n. tt))))
