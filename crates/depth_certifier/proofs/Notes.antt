-- The steps of a walk have nothing to do with the heads noted so far.
use Rattle.std.proofs.Common.{◌≡◌, ◌+◌, ◌<◌, OnOk, set, Bool, true, false, ◌&&◌, List, [], length, Option, Some, None, Result, Ok, Err, refl, sym, ap, ◌∙◌}
use Rattle.std.specs.Prelude.{ℤ, nat_le}
use Rattle.std.proofs.lemmas.List.{length-replicate, take_more_set}
use Rattle.depth_certifier.specs.Views.{place_of_reach}
use Rattle.word_table.specs.declared.word.Word.TheVariants as table
use Rattle.depth_certifier.specs.declared.effect.Effect.{Effect}
use Rattle.depth_certifier.specs.declared.effect.CertCause.{CertCause}
use Rattle.depth_certifier.specs.declared.effect.CertCause.TheVariants as cause
use Rattle.depth_certifier.specs.declared.walker.Walker.{Walker}
use Rattle.depth_certifier.specs.Place.{Shape, Stand, Place, Unreachable, At, Doubled}
use Rattle.depth_certifier.specs.Effects.{table_effect, keep}
use Rattle.depth_certifier.specs.Certificate.{after, no_interval, Limits}
use Rattle.depth_certifier.specs.Walk.{Walk, Walked, checked, in_limits, need_at, peak_at, back_at, take_with, take_at, takes, double_at, decide_at, decides}
use Rattle.depth_certifier.specs.Walk.{end_at, ends, join_at, joins, leave_at, leaving, back_to, returns_to, enters, enter_found, interval_of, noting}
use Rattle.depth_certifier.specs.Walks.{walk_of, StepOf}
use Rattle.depth_certifier.specs.Notes.{heads_of, walk_in}
use Rattle.depth_certifier.proofs.WalkFits.{grows_length, entered}

abbrev pub heads_set : List (ℤ × ℤ) → Walked → Walked
heads_set hs (Ok w) = Ok (record w { heads = hs })
heads_set hs (Err reason) = Err reason

abbrev pub Free : (Walk → Walked) → Type 0
Free step = (w : Walk) (hs : List (ℤ × ℤ)) → step (record w { heads = hs }) ≡ heads_set hs (step w)

checked_free : (b : Bool) (reason : CertCause) (hs : List (ℤ × ℤ)) (r s : Walked) → r ≡ heads_set hs s → checked b reason r ≡ heads_set hs (checked b reason s)
checked_free true reason hs r s h = h
checked_free false reason hs r s h = refl

module _ (limits : Limits) where
  take_with_free : (x : Effect) (p : Stand) (shape : Option Shape) → Free (take_with limits x p shape)
  take_with_free x p None w hs =
      checked_free (nat_le (need_at x p) limits.need && (nat_le (peak_at x p) limits.peak && in_limits (after x.exit p p.shape))) cause.Data hs _ _
      (checked_free (nat_le (back_at x p None) limits.back) cause.Return hs _ _ refl)
  take_with_free x p (Some shape) w hs =
      checked_free (nat_le (need_at x p) limits.need && (nat_le (peak_at x p) limits.peak && in_limits (after x.exit p p.shape))) cause.Data hs _ _
      (checked_free (nat_le (back_at x p (Some shape)) limits.back) cause.Return hs _ _ refl)

  take_at_free : (x : Effect) (change : Shape → Option Shape) (s : Place) → Free (take_at limits x change s)
  take_at_free x change Unreachable w hs = refl
  take_at_free x change (At p) w hs = take_with_free x p (change p.shape) w hs
  take_at_free x change (Doubled p) w hs = refl

  pub takes_free : (x : Effect) (change : Shape → Option Shape) → Free (takes limits x change)
  takes_free x change w hs = take_at_free x change w.place w hs

  double_at_free : (s : Place) → Free (double_at limits s)
  double_at_free Unreachable w hs = refl
  double_at_free (At p) w hs =
      checked_free
      (nat_le (need_at (table_effect table.QDup) p) limits.need && (nat_le (peak_at (table_effect table.QDup) p) limits.peak && in_limits (Doubled p)))
      cause.Data hs _ _ (checked_free (nat_le (back_at (table_effect table.QDup) p (Some p.shape)) limits.back) cause.Return hs _ _ refl)
  double_at_free (Doubled p) w hs = refl

  pub double_free : Free (λ w. double_at limits w.place w)
  double_free w hs = double_at_free w.place w hs

  decide_at_free : (s : Place) → Free (decide_at limits s)
  decide_at_free Unreachable w hs = refl
  decide_at_free (At p) w hs = take_at_free (table_effect table.If) keep (At p) w hs
  decide_at_free (Doubled p) w hs = refl

  pub decides_free : Free (decides limits)
  decides_free w hs = decide_at_free w.place w hs

  end_at_free : (s : Place) → Free (end_at limits s)
  end_at_free Unreachable w hs = refl
  end_at_free (At p) w hs = checked_free _ cause.Data hs _ _ (checked_free _ cause.Shape hs _ _ refl)
  end_at_free (Doubled p) w hs = refl

  pub ends_free : Free (ends limits)
  ends_free w hs = end_at_free w.place w hs

join_at_free : (s t : Place) → Free (join_at s t)
join_at_free Unreachable t w hs = refl
join_at_free (At p) Unreachable w hs = refl
join_at_free (Doubled p) Unreachable w hs = refl
join_at_free (At p) (At q) w hs = checked_free _ cause.Shape hs _ _ refl
join_at_free (Doubled p) (Doubled q) w hs = checked_free _ cause.Shape hs _ _ refl
join_at_free (At p) (Doubled q) w hs = refl
join_at_free (Doubled p) (At q) w hs = refl

pub joins_free : (s : Place) → Free (joins s)
joins_free s w hs = join_at_free s w.place w hs

leave_at_free : (top : Option Shape) (s l : Place) → Free (leave_at top s l)
leave_at_free None Unreachable l w hs = refl
leave_at_free (Some shape) Unreachable l w hs = refl
leave_at_free (Some shape) (At p) Unreachable w hs = checked_free _ cause.Shape hs _ _ refl
leave_at_free (Some shape) (At p) (At q) w hs = checked_free _ cause.Shape hs _ _ refl
leave_at_free (Some shape) (At p) (Doubled q) w hs = refl
leave_at_free (Some shape) (Doubled p) l w hs = refl
leave_at_free None (At p) l w hs = refl
leave_at_free None (Doubled p) l w hs = refl

pub leaving_free : (top : Option Shape) → Free (leaving top)
leaving_free top w hs = leave_at_free top w.place w.leaves w hs

back_to_free : (h s : Place) → Free (back_to h s)
back_to_free Unreachable Unreachable w hs = refl
back_to_free (At q) Unreachable w hs = refl
back_to_free (Doubled q) Unreachable w hs = refl
back_to_free (At q) (At p) w hs = checked_free _ cause.Shape hs _ _ (checked_free _ cause.Data hs _ _ refl)
back_to_free Unreachable (At p) w hs = refl
back_to_free Unreachable (Doubled p) w hs = refl
back_to_free (Doubled q) (At p) w hs = refl
back_to_free (Doubled q) (Doubled p) w hs = refl
back_to_free (At q) (Doubled p) w hs = refl

pub returns_free : (h : Place) → Free (returns_to h)
returns_free h w hs = back_to_free h w.place w hs

abbrev heads_in : Walked → List (ℤ × ℤ)
heads_in (Ok w) = w.heads
heads_in (Err reason) = []

-- a step keeps the heads
kept : (step : Walk → Walked) → Free step → (w u : Walk) → step w ≡ Ok u → u.heads ≡ w.heads
kept step free w u h = sym (ap heads_in h) ∙ ap heads_in (free w w.heads) ∙ ap (λ r. heads_in (heads_set w.heads r)) h

-- so a step of the code is one with heads noted too
pub noted_too : (step : Walk → Walked) → Free step → (finding : Bool) (notes : List (ℤ × ℤ)) (r : Result (Unit {0}) CertCause) (w u : Walker) →
    StepOf r (step (walk_of w)) (walk_of u) → StepOf r (step (walk_in finding notes w)) (walk_in finding notes u)
noted_too step free finding notes (Ok done) w u h =
    let same : u.count ≡ w.count = sym (length-replicate u.count no_interval) ∙ ap length (kept step free (walk_of w) (walk_of u) h) ∙ length-replicate w.count no_interval in
    free (walk_of w) (heads_of finding notes w.count) ∙ ap (heads_set (heads_of finding notes w.count)) h ∙ ap (λ n. Ok (record (walk_of u) { heads = heads_of finding notes n })) (sym same)
noted_too step free finding notes (Err reason) w u h =
    free (walk_of w) (heads_of finding notes w.count) ∙ ap (heads_set (heads_of finding notes w.count)) h

pub count_kept : (step : Walk → Walked) → Free step → (r : Result (Unit {0}) CertCause) (w u : Walker) → StepOf r (step (walk_of w)) (walk_of u) → OnOk r (u.count ≡ w.count)
count_kept step free (Ok done) w u h = sym (length-replicate u.count no_interval) ∙ ap length (kept step free (walk_of w) (walk_of u) h) ∙ length-replicate w.count no_interval
count_kept step free (Err reason) w u h = tt

-- a check counts its loops
pub counted : (heads : List (ℤ × ℤ)) (r : Result (Unit {0}) CertCause) (w u : Walker) → StepOf r (enters (Some heads) (walk_of w)) (walk_of u) → OnOk r (u.count ≡ w.count + 1)
counted heads (Ok done) w u h =
    let grown = grows_length (walk_of w) (walk_of u) 1 (entered (Some heads) (walk_of w) (walk_of u) h).grows in
    sym (length-replicate u.count no_interval) ∙ grown ∙ ap (λ n. n + 1) (length-replicate w.count no_interval)
counted heads (Err reason) w u h = tt

-- one head more is written
pub one_noted : (notes : List (ℤ × ℤ)) (w u : Walker) (head : ℤ × ℤ) → w.count < length notes → u ≡ record w { count = w.count + 1 } → walk_in true (set notes w.count head) u ≡ noting head (place_of_reach w.place) (walk_in true notes w)
one_noted notes w u head less is =
    ap (walk_in true (set notes w.count head)) is ∙ ap (λ hs. record (walk_of w) { heads = hs }) (take_more_set notes w.count head less)

-- a head is found
pub head_found : (p : Place) (w u : Walk) (head : ℤ × ℤ) → w.place ≡ p → head ≡ interval_of p → (enter_found p w ≡ Ok (noting (interval_of p) p w)) → u ≡ noting head p w → enters None w ≡ Ok u
head_found p w u head is found entering noted = ap (λ s. enter_found s w) is ∙ entering ∙ ap (λ x. Ok (noting x p w)) (sym found) ∙ ap Ok (sym noted)
