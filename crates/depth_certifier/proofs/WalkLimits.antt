-- The effect of a walk and its heads keep the limits.
use Rattle.std.proofs.Common.{◌≡◌, ℕ, zero, suc, ◌+◌, ◌<◌, ◌≤◌, max, List, [], ◌∷◌, ◌++◌, length, Option, Some, None, Ok, Err, Bool, true, false, ◌&&◌, refl, sym, subst, arith}
use Rattle.std.specs.Prelude.{nat_le, int_le, pos, negsuc, ℤ, ◌+ℤ◌, ◌≤ℤ◌, slice_index_or}
use Rattle.std.specs.Int.{int_max, int_min}
use Rattle.std.specs.List.{All}
use Rattle.std.proofs.lemmas.Int.{ints, clamps}
use Rattle.std.proofs.lemmas.Bool.{and_parts, leb-true}
use Rattle.word_table.specs.declared.word.Word.{Word}
use Rattle.word_table.specs.declared.word.Word.TheVariants as table
use Rattle.word_table.specs.declared.word.Word.TheVariants.{QDup, Execute}
use Rattle.forth_program.specs.Tree.{Node, Nodes, Arms, Literal, Plain, Call, Child, Text, If, Until, While, Again, Do, QDo, Case, Leave, Exit, Empty, Then, NoArm, Arm}
use Rattle.depth_certifier.specs.declared.effect.Effect.{Effect}
use Rattle.depth_certifier.specs.declared.effect.CertCause.TheVariants as cause
use Rattle.depth_certifier.specs.Place.{Shape, size, Stand, Place, Unreachable, At, Doubled}
use Rattle.depth_certifier.specs.Effects.{table_effect, moved_by, Known, effect_of, Next, Flag, More, next_of, branch_next, called_effect, word_effect, shape_after, keep, push_loop, text_word, turn_word, of_effect}
use Rattle.depth_certifier.specs.Certificate.{after, no_interval, dropped, doubles, Limits, IsInterval, ExitKeeps, Keeps, SharedInterval}
use Rattle.depth_certifier.specs.Walk.{Walk, Walked, then_do, checked, in_limits, same_shape, need_at, peak_at, back_at, demanding, take_with, take_at, takes}
use Rattle.depth_certifier.specs.Walk.{double_at, decide_at, decides, with_exit, end_at, ends, zero_way, hull, join_at, joins, leave_at, leaving, interval_of}
use Rattle.depth_certifier.specs.Walk.{noting, enter_found, enters, returns_to, shape_at, word_walk, item_walk, walk, arms_walk, made}
use Rattle.depth_certifier.proofs.Tests.{int_le_true, checked_ok, then_ok}
use Rattle.depth_certifier.proofs.WalkFits.{returned}

-- an interval of the least end at least `least`
abbrev Fine : ℤ → Stand → Type 0
Fine least p = (least ≤ℤ p.low) × (p.low ≤ℤ p.high) × (p.high ≤ℤ pos 33)

abbrev pub PlaceFine : Place → Type 0
PlaceFine Unreachable = Unit {0}
PlaceFine (At p) = Fine (negsuc 32) p
PlaceFine (Doubled p) = Fine (negsuc 31) p

abbrev pub HeadFine : ℤ × ℤ → Type 0
HeadFine x = (negsuc 32 ≤ℤ x.0) × IsInterval x × (x.1 ≤ℤ pos 33)

abbrev pub HeadsFine : List (ℤ × ℤ) → Type 0
HeadsFine xs = (j : ℕ) → HeadFine (slice_index_or xs j no_interval)

no_interval_fine : HeadFine no_interval
no_interval_fine = (omega (arith, ints), omega (arith, ints), omega (arith, ints))

one_more : (xs : List (ℤ × ℤ)) (x : ℤ × ℤ) → HeadsFine xs → HeadFine x → HeadsFine (xs ++ x ∷ [])
one_more [] x h i zero = i
one_more [] x h i (suc j) = no_interval_fine
one_more (y ∷ xs) x h i zero = h 0
one_more (y ∷ xs) x h i (suc j) = one_more xs x (λ j. h (suc j)) i j

pub all_fine : (xs : List (ℤ × ℤ)) → HeadsFine xs → All HeadFine xs
all_fine xs h k d i = subst HeadFine (sym (of xs k i)) (h k)
  where
    of : (xs : List (ℤ × ℤ)) (k : ℕ) → k < length xs → slice_index_or xs k d ≡ slice_index_or xs k no_interval
    of [] k i = absurd (omega arith)
    of (x ∷ xs) zero i = refl
    of (x ∷ xs) (suc k) i = of xs k (omega arith)

-- the exits of words and of definitions are intervals
pub record Intervals (known : Known) : Type 0 where
  pub definitions : (d : ℕ) → SharedInterval (effect_of known d).exit
  pub shared : SharedInterval known.shared.exit

abbrev is_interval : Option (ℤ × ℤ) → Bool
is_interval None = true
is_interval (Some x) = int_le x.0 x.1

table_intervals : (word : Word) → is_interval (table_effect word).exit ≡ true
table_intervals table.Dup = refl
table_intervals word = refl

interval_true : (x : Option (ℤ × ℤ)) → is_interval x ≡ true → SharedInterval x
interval_true None h = tt
interval_true (Some x) h = int_le_true x.0 x.1 h

pub table_interval : (word : Word) → SharedInterval (table_effect word).exit
table_interval word = interval_true (table_effect word).exit (table_intervals word)

pub moved_interval : (n : ℤ) (x : Option (ℤ × ℤ)) → SharedInterval x → SharedInterval (moved_by n x)
moved_interval n None h = tt
moved_interval n (Some x) h = omega (arith, ints, h)

word_interval : (shared : Effect) (word : Word) → SharedInterval shared.exit → SharedInterval (word_effect shared word).exit
word_interval shared Execute h = moved_interval (negsuc 0) shared.exit h
word_interval shared table.Dup h = table_interval table.Dup
word_interval shared word h = table_interval word

module _ (lim : Limits) where
  pub record Kept (w : Walk) : Type 0 where
    pub keeps : Keeps lim (made w)
    pub place : PlaceFine w.place
    pub leaves : PlaceFine w.leaves
    pub heads : HeadsFine w.heads

  with_place : (w : Walk) (s l : Place) → Kept w → PlaceFine s → PlaceFine l → Kept (record w { place = s; leaves = l })
  with_place w s l k h i = record { keeps = k.keeps; place = h; leaves = i; heads = k.heads }

  after_fine : (x : Option (ℤ × ℤ)) (p : Stand) (shape : Shape) → SharedInterval x → p.low ≤ℤ p.high → in_limits (after x p p.shape) ≡ true → PlaceFine (after x p shape)
  after_fine None p shape h i t = tt
  after_fine (Some x) p shape h i t =
      let u = and_parts (int_le (negsuc 32) (p.low +ℤ x.0)) (int_le (p.high +ℤ x.1) (pos 33)) t in
      (int_le_true (negsuc 32) (p.low +ℤ x.0) u.0, omega (arith, ints, h, i), int_le_true (p.high +ℤ x.1) (pos 33) u.1)

  demanding_keeps : (w : Walk) (need peak back : ℕ) (s : Place) → Kept w → need ≤ lim.need → peak ≤ lim.peak → back ≤ lim.back → PlaceFine s → Kept (demanding need peak back s w)
  demanding_keeps w need peak back s k n p b f = record {
    keeps = record { need = (let i = k.keeps.need in omega (arith, n, i)); peak = (let i = k.keeps.peak in omega (arith, p, i)); back = (let i = k.keeps.back in omega (arith, b, i)); exit = k.keeps.exit };
    place = f;
    leaves = k.leaves;
    heads = k.heads;
  }

  take_with_kept : (x : Effect) (p : Stand) (o : Option Shape) (w m : Walk) → SharedInterval x.exit → Fine (negsuc 32) p → Kept w → take_with lim x p o w ≡ Ok m → Kept m
  take_with_kept x p None w m i f k h =
      let a = checked_ok (nat_le (need_at x p) lim.need && (nat_le (peak_at x p) lim.peak && in_limits (after x.exit p p.shape))) cause.Data (checked (nat_le (back_at x p None) lim.back) cause.Return (Err cause.Shape)) m h in
      let b = checked_ok (nat_le (back_at x p None) lim.back) cause.Return (Err cause.Shape) m a.1 in
      cc (b.1)
  take_with_kept x p (Some s) w m i f k h =
      let r = demanding (need_at x p) (peak_at x p) (max (size p.shape + x.back) (size s)) (after x.exit p s) w in
      let a = checked_ok (nat_le (need_at x p) lim.need && (nat_le (peak_at x p) lim.peak && in_limits (after x.exit p p.shape))) cause.Data (checked (nat_le (back_at x p (Some s)) lim.back) cause.Return (Ok r)) m h in
      let b = checked_ok (nat_le (back_at x p (Some s)) lim.back) cause.Return (Ok r) m a.1 in
      let t = and_parts (nat_le (need_at x p) lim.need) (nat_le (peak_at x p) lim.peak && in_limits (after x.exit p p.shape)) a.0 in
      let t1 = and_parts (nat_le (peak_at x p) lim.peak) (in_limits (after x.exit p p.shape)) t.1 in
      let same : r ≡ m = (let z = b.1 in cc (z)) in
      subst Kept same
      (demanding_keeps w (need_at x p) (peak_at x p) (max (size p.shape + x.back) (size s)) (after x.exit p s) k (leb-true (need_at x p) lim.need t.0)
      (leb-true (peak_at x p) lim.peak t1.0) (leb-true (max (size p.shape + x.back) (size s)) lim.back b.0)
      (after_fine x.exit p s i f.1 t1.1))

  take_at_kept : (x : Effect) (change : Shape → Option Shape) (q : Place) (w m : Walk) → SharedInterval x.exit → PlaceFine q → Kept w → take_at lim x change q w ≡ Ok m → Kept m
  take_at_kept x change Unreachable w m i f k h = subst Kept (let same : w ≡ m = cc (h) in same) k
  take_at_kept x change (At p) w m i f k h = take_with_kept x p (change p.shape) w m i f k h
  take_at_kept x change (Doubled p) w m i f k h = cc (h)

  takes_kept : (x : Effect) (change : Shape → Option Shape) (w m : Walk) → SharedInterval x.exit → Kept w → takes lim x change w ≡ Ok m → Kept m
  takes_kept x change w m i k h = take_at_kept x change w.place w m i k.place k h

  double_kept : (q : Place) (w m : Walk) → PlaceFine q → Kept w → double_at lim q w ≡ Ok m → Kept m
  double_kept Unreachable w m f k h = subst Kept (let same : w ≡ m = cc (h) in same) k
  double_kept (Doubled p) w m f k h = cc (h)
  double_kept (At p) w m f k h =
      let x = table_effect QDup in
      let r = demanding (need_at x p) (peak_at x p) (back_at x p (Some p.shape)) (Doubled p) w in
      let a = checked_ok (nat_le (need_at x p) lim.need && (nat_le (peak_at x p) lim.peak && in_limits (Doubled p))) cause.Data (checked (nat_le (back_at x p (Some p.shape)) lim.back) cause.Return (Ok r)) m h in
      let b = checked_ok (nat_le (back_at x p (Some p.shape)) lim.back) cause.Return (Ok r) m a.1 in
      let t = and_parts (nat_le (need_at x p) lim.need) (nat_le (peak_at x p) lim.peak && in_limits (Doubled p)) a.0 in
      let t1 = and_parts (nat_le (peak_at x p) lim.peak) (in_limits (Doubled p)) t.1 in
      let t2 = and_parts (int_le (negsuc 31) p.low) (int_le p.high (pos 33)) t1.1 in
      let same : r ≡ m = (let z = b.1 in cc (z)) in
      subst Kept same
      (demanding_keeps w (need_at x p) (peak_at x p) (back_at x p (Some p.shape)) (Doubled p) k (leb-true (need_at x p) lim.need t.0)
      (leb-true (peak_at x p) lim.peak t1.0) (leb-true (back_at x p (Some p.shape)) lim.back b.0)
      (int_le_true (negsuc 31) p.low t2.0, f.1, f.2))

  decide_kept : (q : Place) (w m : Walk) → PlaceFine q → Kept w → decide_at lim q w ≡ Ok m → Kept m × PlaceFine (zero_way q m.place)
  decide_kept Unreachable w m f k h = (let r = take_at_kept (table_effect table.If) keep Unreachable w m (table_interval table.If) f k h in (r, r.place))
  decide_kept (At p) w m f k h = (let r = take_at_kept (table_effect table.If) keep (At p) w m (table_interval table.If) f k h in (r, r.place))
  decide_kept (Doubled p) w m f k h =
      (subst Kept (let same : record w { place = At p } ≡ m = cc (h) in same) (with_place w (At p) w.leaves k (omega (arith, ints, f.0), f.1, f.2) k.leaves), (omega (arith, ints, f.0), omega (arith, ints, f.1), omega (arith, ints, f.2)))

  decides_kept : (w m : Walk) → Kept w → decides lim w ≡ Ok m → Kept m × PlaceFine (zero_way w.place m.place)
  decides_kept w m k h = decide_kept w.place w m k.place k h

  low_min : (x y z : ℤ) → z ≤ℤ x → z ≤ℤ y → z ≤ℤ int_min x y
  low_min x y z h i = grind (arith, ints, clamps)

  high_max : (x y z : ℤ) → x ≤ℤ z → y ≤ℤ z → int_max x y ≤ℤ z
  high_max x y z h i = grind (arith, ints, clamps)

  between : (a b c d : ℤ) → a ≤ℤ b → int_min a c ≤ℤ int_max b d
  between a b c d h = grind (arith, ints, clamps)

  hull_fine : (least : ℤ) (p q : Stand) → Fine least p → Fine least q → Fine least (hull p q)
  hull_fine least p q h i = (low_min p.low q.low least h.0 i.0, between p.low p.high q.low q.high h.1, high_max p.high q.high (pos 33) h.2 i.2)

  join_kept : (s q : Place) (w m : Walk) → PlaceFine s → PlaceFine q → Kept w → join_at s q w ≡ Ok m → w.place ≡ q → Kept m
  join_kept Unreachable q w m f g k h e = subst Kept (let same : w ≡ m = cc (h) in same) k
  join_kept (At p) Unreachable w m f g k h e = subst Kept (let same : record w { place = At p } ≡ m = cc (h) in same) (with_place w (At p) w.leaves k f k.leaves)
  join_kept (Doubled p) Unreachable w m f g k h e = subst Kept (let same : record w { place = Doubled p } ≡ m = cc (h) in same) (with_place w (Doubled p) w.leaves k f k.leaves)
  join_kept (At p) (At q) w m f g k h e =
      let a = checked_ok (same_shape p.shape q.shape) cause.Shape (Ok (record w { place = At (hull p q) })) m h in
      subst Kept (let z = a.1 in let same : record w { place = At (hull p q) } ≡ m = cc (z) in same) (with_place w (At (hull p q)) w.leaves k (hull_fine (negsuc 32) p q f g) k.leaves)
  join_kept (Doubled p) (Doubled q) w m f g k h e =
      let a = checked_ok (same_shape p.shape q.shape) cause.Shape (Ok (record w { place = Doubled (hull p q) })) m h in
      subst Kept (let z = a.1 in let same : record w { place = Doubled (hull p q) } ≡ m = cc (z) in same) (with_place w (Doubled (hull p q)) w.leaves k (hull_fine (negsuc 31) p q f g) k.leaves)
  join_kept (At p) (Doubled q) w m f g k h e = cc (h)
  join_kept (Doubled p) (At q) w m f g k h e = cc (h)

  joins_kept : (s : Place) (w m : Walk) → PlaceFine s → Kept w → joins s w ≡ Ok m → Kept m
  joins_kept s w m f k h = join_kept s w.place w m f k.place k h refl

  leave_kept : (top : Option Shape) (p l : Place) (w m : Walk) → PlaceFine p → PlaceFine l → Kept w → leave_at top p l w ≡ Ok m → Kept m
  leave_kept top Unreachable l w m f g k h = subst Kept (let same : w ≡ m = cc (h) in same) k
  leave_kept None (At p) l w m f g k h = cc (h)
  leave_kept (Some t) (At p) Unreachable w m f g k h =
      let a = checked_ok (same_shape p.shape t) cause.Shape (Ok (record w { place = Unreachable; leaves = At p })) m h in
      subst Kept (let z = a.1 in let same : record w { place = Unreachable; leaves = At p } ≡ m = cc (z) in same) (with_place w Unreachable (At p) k tt f)
  leave_kept (Some t) (At p) (At q) w m f g k h =
      let a = checked_ok (same_shape p.shape t) cause.Shape (Ok (record w { place = Unreachable; leaves = At (hull p q) })) m h in
      subst Kept (let z = a.1 in let same : record w { place = Unreachable; leaves = At (hull p q) } ≡ m = cc (z) in same) (with_place w Unreachable (At (hull p q)) k tt (hull_fine (negsuc 32) p q f g))
  leave_kept (Some t) (At p) (Doubled q) w m f g k h = cc (h)
  leave_kept None (Doubled p) l w m f g k h = cc (h)
  leave_kept (Some t) (Doubled p) l w m f g k h = cc (h)

  exit_kept : (x : Option (ℤ × ℤ)) (p : Stand) → ExitKeeps lim.top x → negsuc 32 ≤ℤ p.low → p.low ≤ℤ p.high → p.high ≤ℤ pos lim.top → ExitKeeps lim.top (with_exit x p)
  exit_kept None p h a b c = (a, b, c)
  exit_kept (Some x) p h a b c = (low_min x.0 p.low (negsuc 32) h.0 a, between x.0 x.1 p.low p.high h.1, high_max x.1 p.high (pos lim.top) h.2 c)

  end_kept : (q : Place) (w m : Walk) → PlaceFine q → Kept w → end_at lim q w ≡ Ok m → Kept m
  end_kept Unreachable w m f k h = subst Kept (let same : w ≡ m = cc (h) in same) k
  end_kept (Doubled p) w m f k h = cc (h)
  end_kept (At p) w m f k h =
      let r = record w { place = Unreachable; exit = with_exit w.exit p } in
      let a = checked_ok (int_le (negsuc 32) p.low && int_le p.high (pos lim.top)) cause.Data (checked (same_shape p.shape []) cause.Shape (Ok r)) m h in
      let b = checked_ok (same_shape p.shape []) cause.Shape (Ok r) m a.1 in
      let t = and_parts (int_le (negsuc 32) p.low) (int_le p.high (pos lim.top)) a.0 in
      let same : r ≡ m = (let z = b.1 in cc (z)) in
      subst Kept same
      (record {
        keeps = record {
          need = k.keeps.need;
          peak = k.keeps.peak;
          back = k.keeps.back;
          exit = exit_kept w.exit p k.keeps.exit f.0 f.1 (int_le_true p.high (pos lim.top) t.1);
        };
        place = tt;
        leaves = k.leaves;
        heads = k.heads;
      })

  pub ends_kept : (w m : Walk) → Kept w → ends lim w ≡ Ok m → Kept m
  ends_kept w m k h = end_kept w.place w m k.place k h

  enter_kept : (q : Place) (w m : Walk) → PlaceFine q → Kept w → w.place ≡ q → enter_found q w ≡ Ok m → Kept m
  enter_kept Unreachable w m f k e h = subst Kept (let same : noting no_interval Unreachable w ≡ m = cc (h) in same) (record { keeps = k.keeps; place = tt; leaves = k.leaves; heads = one_more w.heads no_interval k.heads no_interval_fine })
  enter_kept (At p) w m f k e h = subst Kept (let same : noting (interval_of (At p)) (At p) w ≡ m = cc (h) in same) (record { keeps = k.keeps; place = f; leaves = k.leaves; heads = one_more w.heads (p.low, p.high) k.heads f })
  enter_kept (Doubled p) w m f k e h = cc (h)

  back_kept : (h : Place) (w m : Walk) → Kept w → returns_to h w ≡ Ok m → Kept m
  back_kept h w m k e = let r = returned h w m e in subst Kept (sym r.is) k

  dropped_fine : (s : Place) → PlaceFine s → PlaceFine (dropped s)
  dropped_fine Unreachable f = tt
  dropped_fine (At p) f = f
  dropped_fine (Doubled p) f = tt

  ok_kept : (v m : Walk) (r : Walked) → r ≡ Ok v → r ≡ Ok m → Kept v → Kept m
  ok_kept v m r e h k = subst Kept (let same : v ≡ m = cc (e, h) in same) k

  of_interval : (change : ℤ) → SharedInterval (of_effect change).exit
  of_interval change = omega (arith, ints)

  module _ (zs : Known) (fine : Intervals zs) where
    abbrev going : Option Shape → Next → Nodes → Walk → Walked
    going top next nodes w = walk lim zs None top next nodes w

    word_kept : (b : Bool) (word : Word) (w o : Walk) → Kept w → word_walk lim zs None b word w ≡ Ok o → Kept o
    word_kept true word w o k h = double_kept w.place w o k.place k h
    word_kept false word w o k h = takes_kept (word_effect zs.shared word) (shape_after word) w o (word_interval zs.shared word fine.shared) k h

    mutual
      pub item_kept : (node : Node) (top : Option Shape) (next : Next) (w o : Walk) → Kept w → item_walk lim zs None top next node w ≡ Ok o → Kept o
      item_kept (Literal v) top next w o k h = takes_kept (table_effect table.Literal) keep w o (table_interval table.Literal) k h
      item_kept (Plain word) top next w o k h = word_kept (doubles next word) word w o k h
      item_kept (Call d) top next w o k h = takes_kept (called_effect next (effect_of zs d)) keep w o (fine.definitions d) k h
      item_kept (Child d a) top next w o k h =
          let r = then_ok (takes lim (table_effect table.Literal) keep w) (takes lim (called_effect next (effect_of zs d)) keep) o h in
          takes_kept (called_effect next (effect_of zs d)) keep r.0 o (fine.definitions d) (takes_kept (table_effect table.Literal) keep w r.0 (table_interval table.Literal) k r.1) r.2
      item_kept (Text kind a n) top next w o k h = takes_kept (table_effect (text_word kind)) keep w o (table_interval (text_word kind)) k h
      item_kept (If first second) top next w o k h =
          let r1 = then_ok (decides lim w) (λ m. then_do (going top (branch_next next) first m) (λ i. then_do (going top (branch_next next) second (record i { place = zero_way w.place m.place })) (λ j. joins i.place j))) o h in
          let m = r1.0 in
          let d = decides_kept w m k r1.1 in
          let r2 = then_ok (going top (branch_next next) first m) (λ i. then_do (going top (branch_next next) second (record i { place = zero_way w.place m.place })) (λ j. joins i.place j)) o r1.2 in
          let i = r2.0 in
          let k1 = walk_kept first top (branch_next next) m i d.0 r2.1 in
          let i' = record i { place = zero_way w.place m.place } in
          let r3 = then_ok (going top (branch_next next) second i') (λ j. joins i.place j) o r2.2 in
          joins_kept i.place r3.0 o k1.place (walk_kept second top (branch_next next) i' r3.0 (with_place i (zero_way w.place m.place) i.leaves k1 d.1 k1.leaves) r3.1) r3.2
      item_kept (Until body) top next w o k h =
          let r1 = then_ok (enters None w) (λ h. then_do (going top More body h) (λ m. then_do (takes lim (table_effect table.Until) keep m) (λ n. returns_to h.place n))) o h in
          let x = r1.0 in
          let r2 = then_ok (going top More body x) (λ m. then_do (takes lim (table_effect table.Until) keep m) (λ n. returns_to x.place n)) o r1.2 in
          let r3 = then_ok (takes lim (table_effect table.Until) keep r2.0) (λ n. returns_to x.place n) o r2.2 in
          back_kept x.place r3.0 o (takes_kept (table_effect table.Until) keep r2.0 r3.0 (table_interval table.Until) (walk_kept body top More x r2.0 (enter_kept w.place w x k.place k refl r1.1) r2.1) r3.1) r3.2
      item_kept (While test body) top next w o k h =
          let r1 =
          then_ok (enters None w)
          (λ h.
          then_do (going top Flag test h)
          (λ m.
          then_do (decides lim m)
          (λ y.
          then_do (going top More body y) (λ n. then_do (returns_to h.place n) (λ o. Ok (record o { place = zero_way m.place y.place }))))))
          o h in
          let x = r1.0 in
          let r2 = then_ok (going top Flag test x) (λ m. then_do (decides lim m) (λ y. then_do (going top More body y) (λ n. then_do (returns_to x.place n) (λ o. Ok (record o { place = zero_way m.place y.place }))))) o r1.2 in
          let m = r2.0 in
          let r3 = then_ok (decides lim m) (λ y. then_do (going top More body y) (λ n. then_do (returns_to x.place n) (λ o. Ok (record o { place = zero_way m.place y.place })))) o r2.2 in
          let y = r3.0 in
          let d = decides_kept m y (walk_kept test top Flag x m (enter_kept w.place w x k.place k refl r1.1) r2.1) r3.1 in
          let r4 = then_ok (going top More body y) (λ n. then_do (returns_to x.place n) (λ o. Ok (record o { place = zero_way m.place y.place }))) o r3.2 in
          let r5 = then_ok (returns_to x.place r4.0) (λ o. Ok (record o { place = zero_way m.place y.place })) o r4.2 in
          let k5 = back_kept x.place r4.0 r5.0 (walk_kept body top More y r4.0 d.0 r4.1) r5.1 in
          ok_kept (record r5.0 { place = zero_way m.place y.place }) o (Ok (record r5.0 { place = zero_way m.place y.place })) refl r5.2 (with_place r5.0 (zero_way m.place y.place) r5.0.leaves k5 d.1 k5.leaves)
      item_kept (Again body) top next w o k h =
          let r1 = then_ok (enters None w) (λ h. then_do (going top More body h) (λ m. then_do (returns_to h.place m) (λ n. Ok (record n { place = Unreachable })))) o h in
          let x = r1.0 in
          let r2 = then_ok (going top More body x) (λ m. then_do (returns_to x.place m) (λ n. Ok (record n { place = Unreachable }))) o r1.2 in
          let r3 = then_ok (returns_to x.place r2.0) (λ n. Ok (record n { place = Unreachable })) o r2.2 in
          let k3 = back_kept x.place r2.0 r3.0 (walk_kept body top More x r2.0 (enter_kept w.place w x k.place k refl r1.1) r2.1) r3.1 in
          ok_kept (record r3.0 { place = Unreachable }) o (Ok (record r3.0 { place = Unreachable })) refl r3.2 (with_place r3.0 Unreachable r3.0.leaves k3 tt k3.leaves)
      item_kept (QDo body plus) top next w o k h =
          let effect = table_effect (turn_word plus) in
          let last = λ (q : Walk). then_do (joins q.leaves q) (λ j. Ok (record j { place = dropped j.place; leaves = w.leaves })) in
          let r1 =
          then_ok (takes lim (table_effect table.QDo) push_loop w)
          (λ i.
          then_do (enters None (record i { leaves = Unreachable }))
          (λ h.
          then_do (going (shape_at h.place) More body h)
          (λ m. then_do (takes lim effect keep m) (λ n. then_do (returns_to h.place n) (λ v. then_do (joins i.place v) last))))) o h in
          let i = r1.0 in
          let ki = takes_kept (table_effect table.QDo) push_loop w i (table_interval table.QDo) k r1.1 in
          let i' = record i { leaves = Unreachable } in
          let r2 = then_ok (enters None i') (λ h. then_do (going (shape_at h.place) More body h) (λ m. then_do (takes lim effect keep m) (λ n. then_do (returns_to h.place n) (λ v. then_do (joins i.place v) last)))) o r1.2 in
          let x = r2.0 in
          let kx = enter_kept i'.place i' x ki.place (with_place i i.place Unreachable ki ki.place tt) refl r2.1 in
          let r3 = then_ok (going (shape_at x.place) More body x) (λ m. then_do (takes lim effect keep m) (λ n. then_do (returns_to x.place n) (λ v. then_do (joins i.place v) last))) o r2.2 in
          let r4 = then_ok (takes lim effect keep r3.0) (λ n. then_do (returns_to x.place n) (λ v. then_do (joins i.place v) last)) o r3.2 in
          let r5 = then_ok (returns_to x.place r4.0) (λ v. then_do (joins i.place v) last) o r4.2 in
          let r6 = then_ok (joins i.place r5.0) last o r5.2 in
          let r7 = then_ok (joins r6.0.leaves r6.0) (λ j. Ok (record j { place = dropped j.place; leaves = w.leaves })) o r6.2 in
          let k4 = takes_kept effect keep r3.0 r4.0 (table_interval (turn_word plus)) (walk_kept body (shape_at x.place) More x r3.0 kx r3.1) r4.1 in
          let k5 = back_kept x.place r4.0 r5.0 k4 r5.1 in
          let k6 = joins_kept i.place r5.0 r6.0 ki.place k5 r6.1 in
          let k7 = joins_kept r6.0.leaves r6.0 r7.0 k6.leaves k6 r7.1 in
          ok_kept (record r7.0 { place = dropped r7.0.place; leaves = w.leaves }) o (Ok (record r7.0 { place = dropped r7.0.place; leaves = w.leaves })) refl
          r7.2 (with_place r7.0 (dropped r7.0.place) w.leaves k7 (dropped_fine r7.0.place k7.place) k.leaves)
      item_kept (Case arms rest) top next w o k h =
          arms_kept arms (λ m. then_do (going top More rest m) (takes lim (table_effect table.EndCase) keep)) top (branch_next next) w o (λ v u kv is.
          let r = then_ok (going top More rest v) (takes lim (table_effect table.EndCase) keep) u is in
          takes_kept (table_effect table.EndCase) keep r.0 u (table_interval table.EndCase) (walk_kept rest top More v r.0 kv r.1) r.2) k h
      item_kept (Do body plus) top next w o k h =
          let effect = table_effect (turn_word plus) in
          let r1 =
          then_ok (takes lim (table_effect table.Do) push_loop w)
          (λ i.
          then_do (enters None (record i { leaves = Unreachable }))
          (λ h.
          then_do (going (shape_at h.place) More body h)
          (λ m.
          then_do (takes lim effect keep m)
          (λ n.
          then_do (returns_to h.place n)
          (λ v. then_do (joins v.leaves v) (λ j. Ok (record j { place = dropped j.place; leaves = w.leaves }))))))) o h in
          let i = r1.0 in
          let ki = takes_kept (table_effect table.Do) push_loop w i (table_interval table.Do) k r1.1 in
          let i' = record i { leaves = Unreachable } in
          let r2 =
          then_ok (enters None i')
          (λ h.
          then_do (going (shape_at h.place) More body h)
          (λ m.
          then_do (takes lim effect keep m)
          (λ n.
          then_do (returns_to h.place n)
          (λ v. then_do (joins v.leaves v) (λ j. Ok (record j { place = dropped j.place; leaves = w.leaves })))))) o r1.2 in
          let x = r2.0 in
          let kx = enter_kept i'.place i' x ki.place (with_place i i.place Unreachable ki ki.place tt) refl r2.1 in
          let r3 =
          then_ok (going (shape_at x.place) More body x)
          (λ m.
          then_do (takes lim effect keep m)
          (λ n.
          then_do (returns_to x.place n) (λ v. then_do (joins v.leaves v) (λ j. Ok (record j { place = dropped j.place; leaves = w.leaves })))))
          o r2.2 in
          let r4 = then_ok (takes lim effect keep r3.0) (λ n. then_do (returns_to x.place n) (λ v. then_do (joins v.leaves v) (λ j. Ok (record j { place = dropped j.place; leaves = w.leaves })))) o r3.2 in
          let r5 = then_ok (returns_to x.place r4.0) (λ v. then_do (joins v.leaves v) (λ j. Ok (record j { place = dropped j.place; leaves = w.leaves }))) o r4.2 in
          let r6 = then_ok (joins r5.0.leaves r5.0) (λ j. Ok (record j { place = dropped j.place; leaves = w.leaves })) o r5.2 in
          let k4 = takes_kept effect keep r3.0 r4.0 (table_interval (turn_word plus)) (walk_kept body (shape_at x.place) More x r3.0 kx r3.1) r4.1 in
          let k5 = back_kept x.place r4.0 r5.0 k4 r5.1 in
          let k6 = joins_kept r5.0.leaves r5.0 r6.0 k5.leaves k5 r6.1 in
          ok_kept (record r6.0 { place = dropped r6.0.place; leaves = w.leaves }) o (Ok (record r6.0 { place = dropped r6.0.place; leaves = w.leaves })) refl
          r6.2 (with_place r6.0 (dropped r6.0.place) w.leaves k6 (dropped_fine r6.0.place k6.place) k.leaves)
      item_kept Leave top next w o k h =
          let r = then_ok (takes lim (table_effect table.Leave) keep w) (leaving top) o h in
          let m = takes_kept (table_effect table.Leave) keep w r.0 (table_interval table.Leave) k r.1 in
          leave_kept top r.0.place r.0.leaves r.0 o m.place m.leaves m r.2
      item_kept Exit top next w o k h = ends_kept w o k h

      pub walk_kept : (nodes : Nodes) (top : Option Shape) (next : Next) (w o : Walk) → Kept w → going top next nodes w ≡ Ok o → Kept o
      walk_kept Empty top next w o k h = ok_kept w o (Ok w) refl h k
      walk_kept (Then node rest) top next w o k h =
          let r = then_ok (item_walk lim zs None top (next_of next rest) node w) (going top next rest) o h in
          walk_kept rest top next r.0 o (item_kept node top (next_of next rest) w r.0 k r.1) r.2

      arms_kept : (arms : Arms) (last : Walk → Walked) (top : Option Shape) (next : Next) (w o : Walk) → ((v u : Walk) → Kept v → last v ≡ Ok u → Kept u) → Kept w → arms_walk lim zs None top next arms last w ≡ Ok o → Kept o
      arms_kept NoArm last top next w o each k h = each w o k h
      arms_kept (Arm tests body others) last top next w o each k h =
          let r1 =
          then_ok (going top More tests w)
          (λ m.
          then_do (takes lim (of_effect (negsuc 0)) keep m)
          (λ i.
          then_do (takes lim (of_effect (negsuc 1)) keep (record i { place = m.place }))
          (λ j.
          then_do (going top next body j)
          (λ b. then_do (arms_walk lim zs None top next others last (record b { place = i.place })) (λ u. joins b.place u))))) o h in
          let m = r1.0 in
          let km = walk_kept tests top More w m k r1.1 in
          let r2 =
          then_ok (takes lim (of_effect (negsuc 0)) keep m)
          (λ i.
          then_do (takes lim (of_effect (negsuc 1)) keep (record i { place = m.place }))
          (λ j.
          then_do (going top next body j)
          (λ b. then_do (arms_walk lim zs None top next others last (record b { place = i.place })) (λ u. joins b.place u)))) o r1.2 in
          let i = r2.0 in
          let ki = takes_kept (of_effect (negsuc 0)) keep m i (of_interval (negsuc 0)) km r2.1 in
          let i' = record i { place = m.place } in
          let r3 = then_ok (takes lim (of_effect (negsuc 1)) keep i') (λ j. then_do (going top next body j) (λ b. then_do (arms_walk lim zs None top next others last (record b { place = i.place })) (λ u. joins b.place u))) o r2.2 in
          let kj = takes_kept (of_effect (negsuc 1)) keep i' r3.0 (of_interval (negsuc 1)) (with_place i m.place i.leaves ki km.place ki.leaves) r3.1 in
          let r4 = then_ok (going top next body r3.0) (λ b. then_do (arms_walk lim zs None top next others last (record b { place = i.place })) (λ u. joins b.place u)) o r3.2 in
          let b = r4.0 in
          let kb = walk_kept body top next r3.0 b kj r4.1 in
          let b' = record b { place = i.place } in
          let r5 = then_ok (arms_walk lim zs None top next others last b') (λ u. joins b.place u) o r4.2 in
          joins_kept b.place r5.0 o kb.place (arms_kept others last top next b' r5.0 each (with_place b i.place b.leaves kb ki.place kb.leaves) r5.1) r5.2
