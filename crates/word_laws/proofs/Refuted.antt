-- Counters within the places of both stacks and no unknown cell needed are not enough for rings: place 0 is place 32.
use Rattle.std.proofs.Common.{◌≡◌, ℕ, ◌≤◌, List, [], ◌∷◌, ◌++◌, replicate, None, ℤ, pos, negsuc, Bool, true, false, ◌&&◌, zero, suc, nat_le, refl, sym, ◌∙◌, leb-true}
use Rattle.j1_simulator.specs.OpenMachine.{open_storage}
use Rattle.j1_simulator.specs.Run.{advanced, begun, open_start, round_run, open_run}
use Rattle.j1_table.specs.Image.{Content}
use Rattle.word_laws.specs.Rings.{OpenConfiguration, BeforeEach, CountersFit, CountersMislead}

-- 5 at return place 0, then 7 at places 1 to 32, then back to place 0, whose cell is printed
under_the_bottom : Content
under_the_bottom = record { cells = 0x8005 ∷ 0x6040 ∷ 0x8007 ∷ (replicate 32 0x6044 ++ (replicate 32 0x600C ++ (0x6B00 ∷ 0xC000 ∷ 0x6023 ∷ []))); bytes = []; data_start = 8192 }

open_prints_5 : (open_run under_the_bottom [] 70).printed ≡ 5 ∷ []
unfolding under_the_bottom
open_prints_5 = refl

open_goes_on : (open_run under_the_bottom [] 70).stop ≡ None
unfolding under_the_bottom
open_goes_on = refl

round_prints_7 : (round_run under_the_bottom [] 70).printed ≡ 7 ∷ []
unfolding under_the_bottom
round_prints_7 = refl

-- the counters, at each of these moments
is_within : ℤ → ℕ → Bool
is_within (pos n) most = nat_le n most
is_within (negsuc n) most = false

all_within : ℕ → OpenConfiguration → Bool
unfolding is_within
all_within zero w = true
all_within (suc n) w = is_within w.data_depth 33 && (is_within w.return_depth 32 && all_within n (advanced w.stop open_storage 8192 w))

counters_within : all_within 71 (begun (open_start under_the_bottom) []) ≡ true
unfolding under_the_bottom all_within is_within
counters_within = refl

both : (a b : Bool) → (a && b) ≡ true → (a ≡ true) × (b ≡ true)
both true b e = (refl, e)
both false b e = cc

within : (z : ℤ) (most : ℕ) → is_within z most ≡ true → (n : ℕ) × (z ≡ pos n) × (n ≤ most)
unfolding is_within
within (pos n) most e = (n, refl, leb-true n most e)
within (negsuc n) most e = let no : ⊥ = cc in absurd no

each_within : (n : ℕ) (w : OpenConfiguration) → all_within n w ≡ true → BeforeEach CountersFit 8192 n w
unfolding all_within
each_within zero w e = tt
each_within (suc n) w e =
    let d = both (is_within w.data_depth 33) (is_within w.return_depth 32 && all_within n (advanced w.stop open_storage 8192 w)) e in
    let r = both (is_within w.return_depth 32) (all_within n (advanced w.stop open_storage 8192 w)) d.1 in
    (fit w (within w.data_depth 33 d.0) (within w.return_depth 32 r.0), each_within n (advanced w.stop open_storage 8192 w) r.1)
  where
    fit : (w : OpenConfiguration) → ((n : ℕ) × (w.data_depth ≡ pos n) × (n ≤ 33)) → ((n : ℕ) × (w.return_depth ≡ pos n) × (n ≤ 32)) → CountersFit w
    fit w d r = record { depth = d.0; return_depth = r.0; depth_is = d.1; return_depth_is = r.1; at_most = d.2; return_at_most = r.2 }

five_is_not_seven : ◌≡◌ {A = List ℕ} (5 ∷ []) (7 ∷ []) → ⊥
five_is_not_seven e = cc

pub counters_mislead : CountersMislead
unfolding under_the_bottom
counters_mislead =
    record {
      image = under_the_bottom;
      n = 70;
      counters = each_within 71 (begun (open_start under_the_bottom) []) counters_within;
      goes_on = open_goes_on;
      prints = λ e. five_is_not_seven (sym open_prints_5 ∙ e ∙ round_prints_7);
    }
