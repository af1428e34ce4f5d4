-- What fetches and stores give: cells, in a world of cells.
use Rattle.std.proofs.Common.{◌≡◌, ℕ, zero, suc, ◌+◌, ◌-◌, ◌/◌, ◌%◌, ◌<◌, ◌≤◌, true, false, ◌==◌, if◌then◌else◌, List, [], ◌∷◌, length, refl, sym, ap, ◌∙◌, subst, arith}
use Rattle.std.specs.Prelude.{slice_index, slice_set}
use Rattle.std.proofs.lemmas.Grind.{common_steps}
use Rattle.console_ports.specs.Ports.{access_at}
use Rattle.console_ports.specs.declared.ports.Access.{Access as Met}
use Rattle.console_ports.specs.declared.ports.Access.TheVariants as met
use Rattle.cell_math.specs.Cell.{sum_of}
use Rattle.forth_program.specs.State.{World, Reply, Gives, Stops, ◌▸◌}
use Rattle.forth_program.specs.Access.{taken, fetch_by, store_by, fetch, store, byte_of, with_byte, fetch_byte, store_byte, grow_here}
use Rattle.forth_program.specs.Cells.{IsWorld}
use Rattle.library_laws.proofs.Cells.{by_cases, with_byte_fits}

-- what a thing gives has a property
abbrev pub Giving : {A : Type 0} → Reply A → (A → World → Type 0) → Type 0
Giving (Gives value world) P = P value world
Giving (Stops end world) P = Unit {0}

pub giving_then : {A B : Type 0} (r : Reply A) (f : A → World → Reply B) (P : A → World → Type 0) (Q : B → World → Type 0) →
    Giving r P → ((x : A) (w : World) → P x w → Giving (f x w) Q) → Giving (r ▸ f) Q
giving_then (Gives x w) f P Q h each = each x w h
giving_then (Stops end w) f P Q h each = tt

-- one thing, then a second and a third
pub regrouped : {A B C : Type 0} (r : Reply A) (f : A → World → Reply B) (g : B → World → Reply C) → ((r ▸ f) ▸ g) ≡ (r ▸ λ x w. (f x w ▸ g))
regrouped (Gives x w) f g = refl
regrouped (Stops end w) f g = refl

-- a world of cells with data space where it was
pub record IsLike (old new : World) : Type 0 where
  pub world : IsWorld new
  pub start : new.data_start ≡ old.data_start

abbrev pub GivesCell : World → ℕ → World → Type 0
GivesCell old x new = (x < 65536) × IsLike old new

abbrev pub GivesNothing : World → Unit {0} → World → Type 0
GivesNothing old x new = IsLike old new

pub set_length : (cells : List ℕ) (i v : ℕ) → length (slice_set cells i v) ≡ length cells
set_length cells i v = grind (arith, common_steps)

pub set_fits : (cells : List ℕ) (i v : ℕ) → v < 65536 → ((k : ℕ) → slice_index cells k < 65536) → (k : ℕ) → slice_index (slice_set cells i v) k < 65536
set_fits [] i v h f zero = omega arith
set_fits [] i v h f (suc k) = omega arith
set_fits (c ∷ cells) zero v h f zero = h
set_fits (c ∷ cells) zero v h f (suc k) = f (suc k)
set_fits (c ∷ cells) (suc i) v h f zero = f 0
set_fits (c ∷ cells) (suc i) v h f (suc k) = set_fits cells i v h (λ k. f (suc k)) k

pub giving_weaker : {A : Type 0} (r : Reply A) (P Q : A → World → Type 0) → Giving r P → ((x : A) (w : World) → P x w → Q x w) → Giving r Q
giving_weaker (Gives x w) P Q h each = each x w h
giving_weaker (Stops end w) P Q h each = tt

-- the same rest
pub same_rest : {A B : Type 0} (r : Reply A) (P : A → World → Type 0) (f g : A → World → Reply B) → Giving r P → ((x : A) (w : World) → P x w → f x w ≡ g x w) → (r ▸ f) ≡ (r ▸ g)
same_rest (Gives x w) P f g h each = each x w h
same_rest (Stops end w) P f g h each = refl

-- two properties
pub giving_both : {A : Type 0} (r : Reply A) (P Q : A → World → Type 0) → Giving r P → Giving r Q → Giving r (λ x w. P x w × Q x w)
giving_both (Gives x w) P Q h k = (h, k)
giving_both (Stops end w) P Q h k = tt

-- a property that all has
pub giving_any : {A : Type 0} (r : Reply A) → Giving r (λ _ _. Unit {0})
giving_any (Gives x w) = tt
giving_any (Stops end w) = tt

module _ (w : World) (h : IsWorld w) where
  taken_gives : (i : List ℕ) → ((k : ℕ) → slice_index i k < 256) → Giving (taken i w) (GivesCell w)
  taken_gives [] k = tt
  taken_gives (byte ∷ i) k = ((let b : byte < 256 = k 0 in omega (arith, b)), record { world = record { data_start = h.data_start; aligned = h.aligned; room = h.room; space = h.space; input = λ j. k (suc j) }; start = refl })

  fetch_by_gives : (m : Met) → Giving (fetch_by w m) (GivesCell w)
  fetch_by_gives (met.Data i) = (h.space (i - w.data_start / 2), record { world = h; start = refl })
  fetch_by_gives met.Key = taken_gives w.input h.input
  fetch_by_gives (met.Outside a) = tt
  fetch_by_gives met.Print = tt
  fetch_by_gives met.Halt = tt

  pub fetch_gives : (a : ℕ) → Giving (fetch a w) (GivesCell w)
  fetch_gives a = fetch_by_gives (access_at w.data_start false a)

  store_by_gives : (m : Met) (v : ℕ) → v < 65536 → Giving (store_by w v m) (GivesNothing w)
  store_by_gives (met.Data i) v n = record {
    world = record {
      data_start = h.data_start;
      aligned = h.aligned;
      room = (let same = set_length w.space (i - w.data_start / 2) v in let room = h.room in omega (arith, same, room));
      space = set_fits w.space (i - w.data_start / 2) v n h.space;
      input = h.input;
    };
    start = refl;
  }
  store_by_gives met.Print v n = record { world = record { data_start = h.data_start; aligned = h.aligned; room = h.room; space = h.space; input = h.input }; start = refl }
  store_by_gives met.Halt v n = tt
  store_by_gives (met.Outside a) v n = tt
  store_by_gives met.Key v n = tt

  pub store_gives : (a v : ℕ) → v < 65536 → Giving (store a v w) (GivesNothing w)
  store_gives a v n = store_by_gives (access_at w.data_start true a) v n

pub byte_of_fits : (a x : ℕ) → x < 65536 → byte_of a x < 65536
byte_of_fits a x h = by_cases (a % 2 == 0)
    (λ e. subst (λ b. (if b then x % 256 else x / 256) < 65536) (sym e) (omega arith))
    (λ e. subst (λ b. (if b then x % 256 else x / 256) < 65536) (sym e) (omega (arith, h)))

still_stores : (w w' : World) (a v : ℕ) → IsLike w w' → v < 65536 → Giving (store a v w') (GivesNothing w)
still_stores w w' a v h n = giving_weaker (store a v w') (GivesNothing w') (GivesNothing w) (store_gives w' h.world a v n) (λ u w'' k. record { world = k.world; start = k.start ∙ h.start })

pub like_like : (a b c : World) → IsLike a b → IsLike b c → IsLike a c
like_like a b c h k = record { world = k.world; start = k.start ∙ h.start }

-- bytes
pub fetch_byte_gives : (w : World) → IsWorld w → (a : ℕ) → Giving (fetch_byte a w) (GivesCell w)
fetch_byte_gives w h a = giving_then (fetch a w) (λ x. Gives (byte_of a x)) (GivesCell w) (GivesCell w) (fetch_gives w h a) (λ x w' k. (byte_of_fits a x k.0, k.1))

pub store_byte_gives : (w : World) → IsWorld w → (a c : ℕ) → Giving (store_byte a c w) (GivesNothing w)
store_byte_gives w h a c = giving_then (fetch a w) (λ x. store a (with_byte a x c)) (GivesCell w) (GivesNothing w) (fetch_gives w h a) (λ x w' k. still_stores w w' a (with_byte a x c) k.1 (with_byte_fits a x c k.0))

-- HERE grows, by +!
pub grows : (n : ℕ) (c : List ℕ) (w : World) → IsWorld w →
    (fetch (sum_of w.data_start 4) w ▸ λ v w'. store (sum_of w.data_start 4) (sum_of v n) w' ▸ λ _. Gives c) ≡ (grow_here n w ▸ λ _. Gives c)
grows n c w h =
    ap (λ a. fetch a w ▸ λ v w'. store a (sum_of v n) w' ▸ λ _. Gives c) (address w.data_start h.data_start) ∙ same (fetch (w.data_start + 4) w) (fetch_gives w h (w.data_start + 4))
  where
    address : (d : ℕ) → d + 128 ≤ 16384 → sum_of d 4 ≡ d + 4
    address d h = omega (arith, h)

    same : (r : Reply ℕ) → Giving r (GivesCell w) → (r ▸ λ v w'. store (w.data_start + 4) (sum_of v n) w' ▸ λ _. Gives c) ≡ ((r ▸ λ h w. store (w.data_start + 4) (sum_of h n) w) ▸ λ _. Gives c)
    same (Gives v w') k = ap (λ d. store (d + 4) (sum_of v n) w' ▸ λ _. Gives c) (sym k.1.start)
    same (Stops end w') k = refl
