-- Heads as the code has them.
use Rattle.std.proofs.Common.{◌≡◌, ℕ, ◌+◌, ◌<◌, List, length, replicate, Bool, true, false, Some, Result, Ok, sym, ap, ◌∙◌, subst, arith}
use Rattle.std.specs.Prelude.{ℤ, nat_lt, slice_index_or, int_le, ◌≤ℤ◌, ◌&&◌, pos, negsuc}
use Rattle.std.proofs.lemmas.Int.{ints}
use mir.Syntax.{w8}
use mir.Val.{SFits}
use Rattle.std.proofs.lemmas.List.{replicate_more, length-replicate}
use Rattle.depth_certifier.specs.declared.effect.CertCause.{CertCause}
use Rattle.depth_certifier.specs.declared.effect.CertCause.TheVariants as cause
use Rattle.depth_certifier.specs.declared.place.Spot.{Spot}
use Rattle.depth_certifier.specs.declared.place.Reach.{Reach}
use Rattle.depth_certifier.specs.declared.place.Reach.TheVariants as reach
use Rattle.depth_certifier.specs.declared.walker.Walker.{Walker}
use Rattle.depth_certifier.specs.Place.{At}
use Rattle.depth_certifier.specs.Entries.{entries_of}
use Rattle.depth_certifier.specs.Certificate.{no_interval}
use Rattle.depth_certifier.specs.Walk.{checked, noting, enter_given, enters}
use Rattle.depth_certifier.specs.Views.{stand_of, place_of_reach, HeadKeeps}
use Rattle.depth_certifier.specs.Walks.{walk_of, StepOf}

pub entered : (w : Walker) (spot head : Spot) (low high : ℤ) (test : Bool) → test ≡ true → head.low ≡ low → head.high ≡ high → head.entries ≡ spot.entries →
    checked test cause.Data (Ok (noting no_interval (At (record { low = low; high = high; shape = entries_of spot.entries })) (walk_of w))) ≡ Ok (walk_of (record w { place = reach.At head; count = w.count + 1 }))
entered w spot head low high false t a b e = cc
entered w spot head low high true t a b e =
    let more = replicate_more w.count no_interval in
    let shape : entries_of head.entries ≡ entries_of spot.entries = ap entries_of e in
    cc (a, b, shape, more)

at_head : (heads : List (ℤ × ℤ)) (n m : ℕ) (spot : Spot) (place : Reach) (w : Walker) → m ≡ n → n < length heads → place ≡ reach.At spot →
    checked (nat_lt m (length heads)) cause.Data (enter_given (slice_index_or heads m no_interval) (place_of_reach place) (walk_of w)) ≡ enter_given (slice_index_or heads n no_interval) (At (stand_of spot)) (walk_of w)
at_head heads n m spot place w same few is =
    let test : nat_lt m (length heads) ≡ true = grind (arith, same, few) in
    ap (λ b. checked b cause.Data (enter_given (slice_index_or heads m no_interval) (place_of_reach place) (walk_of w))) test
    ∙ ap (λ k. enter_given (slice_index_or heads k no_interval) (place_of_reach place) (walk_of w)) same
    ∙ ap (λ r. enter_given (slice_index_or heads n no_interval) (place_of_reach r) (walk_of w)) is

-- the step at a place that is reached
pub enters_at : (result : Result (Unit {0}) CertCause) (heads : List (ℤ × ℤ)) (w new : Walker) (spot : Spot) → w.count < length heads → w.place ≡ reach.At spot →
    StepOf result (enter_given (slice_index_or heads w.count no_interval) (At (stand_of spot)) (walk_of w)) (walk_of new) → StepOf result (enters (Some heads) (walk_of w)) (walk_of new)
enters_at result heads w new spot few is step =
    subst (λ walked. StepOf result walked (walk_of new)) (sym (at_head heads w.count (length (replicate w.count no_interval)) spot w.place w (length-replicate w.count no_interval) few is)) step

pub inside_test : (a b c d x y : ℤ) (r : Bool) → x ≡ a → y ≡ d → r ≡ (int_le x b && int_le c y) → r ≡ true → (int_le a b && int_le c d) ≡ true
inside_test a b c d x y r p q h inside = sym (h ∙ ap (λ z. int_le z b && int_le c y) p ∙ ap (λ z. int_le a b && int_le c z) q) ∙ inside

fits : (z : ℤ) → negsuc 33 ≤ℤ z → z ≤ℤ pos 34 → SFits w8 z
fits (pos n) a b = omega (arith, ints, a, b)
fits (negsuc n) a b = omega (arith, ints, a, b)

pub low_fits : (head : ℤ × ℤ) → HeadKeeps head → SFits w8 head.0
low_fits head k = fits head.0 (omega (arith, ints, k.0, k.1, k.2)) (omega (arith, ints, k.0, k.1, k.2))

pub high_fits : (head : ℤ × ℤ) → HeadKeeps head → SFits w8 head.1
high_fits head k = fits head.1 (omega (arith, ints, k.0, k.1, k.2)) (omega (arith, ints, k.0, k.1, k.2))

-- the step with a head of these ends
pub same_step : (result : Result (Unit {0}) CertCause) (low high : ℤ) (head : ℤ × ℤ) (w new : Walker) (spot : Spot) → low ≡ head.0 → high ≡ head.1 →
    StepOf result (enter_given (low, high) (At (stand_of spot)) (walk_of w)) (walk_of new) → StepOf result (enter_given head (At (stand_of spot)) (walk_of w)) (walk_of new)
same_step result low high head w new spot a b step =
    subst (λ y. StepOf result (enter_given (head.0, y) (At (stand_of spot)) (walk_of w)) (walk_of new)) b
    (subst (λ x. StepOf result (enter_given (x, high) (At (stand_of spot)) (walk_of w)) (walk_of new)) a step)
