-- One walk over a body, in the order of the source: what it demands so far, or the cause of the first item that passes a limit or
-- breaks a shape.
use Rattle.std.specs.Prelude.{ℕ, ◌+◌, max, Bool, true, false, ◌&&◌, nat_le, nat_lt, List, [], ◌∷◌, ◌++◌, length, Option, Some, None, Result, Ok, Err, ℤ, pos, negsuc, ◌+ℤ◌, ◌-ℤ◌, int_le, slice_index_or}
use Rattle.std.specs.Int.{int_max, int_min}
use Rattle.word_table.specs.declared.word.Word.{Word}
use Rattle.word_table.specs.declared.word.Word.TheVariants.{QDup}
use Rattle.word_table.specs.declared.word.Word.TheVariants as table
use Rattle.forth_program.specs.Tree.{Node, Nodes, Arms, Literal, Plain, Call, Child, Text, If, Until, While, Again, Do, QDo, Case, Leave, Exit, Empty, Then, NoArm, Arm}
use Rattle.depth_certifier.specs.declared.effect.Effect.{Effect}
use Rattle.depth_certifier.specs.declared.effect.CertCause.{CertCause}
use Rattle.depth_certifier.specs.declared.effect.CertCause.TheVariants as cause
use Rattle.depth_certifier.specs.Place.{Slot, OfCell, OfLoop, Shape, size, Stand, Place, Unreachable, At, Doubled, moved, entry, from_zero}
use Rattle.depth_certifier.specs.Effects.{table_effect, Known, effect_of, Next, Return, Flag, More, next_of, branch_next, called_effect, word_effect, shape_after, keep, push_loop, text_word, turn_word, of_effect}
use Rattle.depth_certifier.specs.Certificate.{after, no_interval, dropped, doubles, Limits}

-- the place, the join of the LEAVEs of the loop around it, the effect so far, and the heads of the loops so far
pub record Walk : Type 0 where
  pub place : Place
  pub leaves : Place
  pub need : ℕ
  pub peak : ℕ
  pub back : ℕ
  pub exit : Option (ℤ × ℤ)
  pub heads : List (ℤ × ℤ)

abbrev pub Walked : Type 0
Walked = Result Walk CertCause

abbrev pub then_do : Walked → (Walk → Walked) → Walked
then_do (Ok w) go = go w
then_do (Err c) go = Err c

abbrev pub checked : Bool → CertCause → Walked → Walked
checked true c r = r
checked false c r = Err c

-- ---- tests

abbrev pub in_limits : Place → Bool
in_limits Unreachable = true
in_limits (At p) = int_le (negsuc 32) p.low && int_le p.high (pos 33)
in_limits (Doubled p) = int_le (negsuc 31) p.low && int_le p.high (pos 33)

abbrev pub same_slot : Slot → Slot → Bool
same_slot OfCell OfCell = true
same_slot OfLoop OfLoop = true
same_slot x y = false

abbrev pub same_shape : Shape → Shape → Bool
same_shape [] [] = true
same_shape (x ∷ xs) (y ∷ ys) = same_slot x y && same_shape xs ys
same_shape xs ys = false

-- ---- one effect at a stand: Data, then Return, then Shape

abbrev pub need_at : Effect → Stand → ℕ
need_at x p = from_zero (pos x.need -ℤ p.low)

abbrev pub peak_at : Effect → Stand → ℕ
peak_at x p = from_zero (p.high +ℤ pos x.peak)

abbrev pub back_at : Effect → Stand → Option Shape → ℕ
back_at x p None = size p.shape + x.back
back_at x p (Some shape) = max (size p.shape + x.back) (size shape)

-- the walk with these demands, at a place
abbrev pub demanding : ℕ → ℕ → ℕ → Place → Walk → Walk
demanding need peak back t w = record { place = t; leaves = w.leaves; need = max w.need need; peak = max w.peak peak; back = max w.back back; exit = w.exit; heads = w.heads }

abbrev pub shaped : Option Shape → (Shape → Walk) → Walked
shaped None w = Err cause.Shape
shaped (Some shape) w = Ok (w shape)

-- an exit with one more interval
abbrev pub with_exit : Option (ℤ × ℤ) → Stand → Option (ℤ × ℤ)
with_exit None p = Some (p.low, p.high)
with_exit (Some x) p = Some (int_min x.0 p.low, int_max x.1 p.high)

module _ (limits : Limits) where
  abbrev pub take_with : Effect → Stand → Option Shape → Walk → Walked
  take_with x p shape w =
      checked (nat_le (need_at x p) limits.need && (nat_le (peak_at x p) limits.peak && in_limits (after x.exit p p.shape))) cause.Data
      (checked (nat_le (back_at x p shape) limits.back) cause.Return
      (shaped shape (λ s. demanding (need_at x p) (peak_at x p) (back_at x p shape) (after x.exit p s) w)))

  abbrev pub take_at : Effect → (Shape → Option Shape) → Place → Walk → Walked
  take_at x change Unreachable w = Ok w
  take_at x change (At p) w = take_with x p (change p.shape) w
  -- a ?DUP before a flag is followed by the flag
  take_at x change (Doubled p) w = Err cause.Shape

  abbrev pub takes : Effect → (Shape → Option Shape) → Walk → Walked
  takes x change w = take_at x change w.place w

  -- ?DUP before a flag
  abbrev pub double_at : Place → Walk → Walked
  double_at Unreachable w = Ok w
  double_at (At p) w =
      checked (nat_le (need_at (table_effect QDup) p) limits.need && (nat_le (peak_at (table_effect QDup) p) limits.peak && in_limits (Doubled p))) cause.Data
      (checked (nat_le (back_at (table_effect QDup) p (Some p.shape)) limits.back) cause.Return
      (Ok (demanding (need_at (table_effect QDup) p) (peak_at (table_effect QDup) p) (back_at (table_effect QDup) p (Some p.shape)) (Doubled p) w)))
  double_at (Doubled p) w = Err cause.Shape

  -- a flag: the way where it is not zero
  abbrev pub decide_at : Place → Walk → Walked
  decide_at (Doubled p) w = Ok (record w { place = At p })
  decide_at s w = take_at (table_effect table.If) keep s w

  abbrev pub decides : Walk → Walked
  decides w = decide_at w.place w

  -- EXIT, or the end of a body
  abbrev pub end_at : Place → Walk → Walked
  end_at Unreachable w = Ok w
  end_at (At p) w = checked (int_le (negsuc 32) p.low && int_le p.high (pos limits.top)) cause.Data (checked (same_shape p.shape []) cause.Shape (Ok (record w { place = Unreachable; exit = with_exit w.exit p })))
  end_at (Doubled p) w = Err cause.Shape

  abbrev pub ends : Walk → Walked
  ends w = end_at w.place w

-- the way of a flag where it is zero, by the places before it and on the other way
abbrev pub zero_way : Place → Place → Place
zero_way (Doubled p) t = At (moved p (negsuc 0) (negsuc 0))
zero_way s t = t

-- ---- joins

abbrev pub hull : Stand → Stand → Stand
hull p q = record { low = int_min p.low q.low; high = int_max p.high q.high; shape = q.shape }

abbrev pub join_at : Place → Place → Walk → Walked
join_at Unreachable t w = Ok w
join_at s Unreachable w = Ok (record w { place = s })
join_at (At p) (At q) w = checked (same_shape p.shape q.shape) cause.Shape (Ok (record w { place = At (hull p q) }))
join_at (Doubled p) (Doubled q) w = checked (same_shape p.shape q.shape) cause.Shape (Ok (record w { place = Doubled (hull p q) }))
join_at s t w = Err cause.Shape

-- a place joins that of the walk
abbrev pub joins : Place → Walk → Walked
joins s w = join_at s w.place w

-- a LEAVE, of a loop whose head has this shape
abbrev pub leave_at : Option Shape → Place → Place → Walk → Walked
leave_at top Unreachable l w = Ok w
leave_at (Some shape) (At p) Unreachable w = checked (same_shape p.shape shape) cause.Shape (Ok (record w { place = Unreachable; leaves = At p }))
leave_at (Some shape) (At p) (At q) w = checked (same_shape p.shape shape) cause.Shape (Ok (record w { place = Unreachable; leaves = At (hull p q) }))
leave_at top s l w = Err cause.Shape

abbrev pub leaving : Option Shape → Walk → Walked
leaving top w = leave_at top w.place w.leaves w

-- ---- heads

abbrev pub interval_of : Place → ℤ × ℤ
interval_of Unreachable = no_interval
interval_of (At p) = (p.low, p.high)
interval_of (Doubled p) = no_interval

abbrev pub noting : ℤ × ℤ → Place → Walk → Walk
noting head h w = record w { place = h; heads = w.heads ++ head ∷ [] }

-- the head of the next loop: the place before it, which is noted, or where heads are given, the given one, inside which it lies
abbrev pub enter_given : ℤ × ℤ → Place → Walk → Walked
enter_given head Unreachable w = Ok (noting no_interval Unreachable w)
enter_given head (At p) w = checked (int_le head.0 p.low && int_le p.high head.1) cause.Data (Ok (noting no_interval (At (record { low = head.0; high = head.1; shape = p.shape })) w))
enter_given head (Doubled p) w = Err cause.Shape

abbrev pub enter_found : Place → Walk → Walked
enter_found (Doubled p) w = Err cause.Shape
enter_found s w = Ok (noting (interval_of s) s w)

abbrev pub enters : Option (List (ℤ × ℤ)) → Walk → Walked
enters None w = enter_found w.place w
enters (Some heads) w = checked (nat_lt (length w.heads) (length heads)) cause.Data (enter_given (slice_index_or heads (length w.heads) no_interval) w.place w)

-- the back edge of a loop has the shape of its head, and lies inside it
abbrev pub back_to : Place → Place → Walk → Walked
back_to h Unreachable w = Ok w
back_to (At q) (At p) w = checked (same_shape p.shape q.shape) cause.Shape (checked (int_le q.low p.low && int_le p.high q.high) cause.Data (Ok w))
back_to h s w = Err cause.Shape

abbrev pub returns_to : Place → Walk → Walked
returns_to h w = back_to h w.place w

abbrev pub shape_at : Place → Option Shape
shape_at Unreachable = None
shape_at (At p) = Some p.shape
shape_at (Doubled p) = None

-- ---- items

module _ (limits : Limits) (known : Known) (given : Option (List (ℤ × ℤ))) where
  abbrev pub word_walk : Bool → Word → Walk → Walked
  word_walk true word w = double_at limits w.place w
  word_walk false word w = takes limits (word_effect known.shared word) (shape_after word) w

  -- in a loop whose head has the shape `top`
  abbrev mutual
    pub item_walk : Option Shape → Next → Node → Walk → Walked
    item_walk top next (Literal value) w = takes limits (table_effect table.Literal) keep w
    item_walk top next (Plain word) w = word_walk (doubles next word) word w
    item_walk top next (Call definition) w = takes limits (called_effect next (effect_of known definition)) keep w
    item_walk top next (Child definition address) w = then_do (takes limits (table_effect table.Literal) keep w) (takes limits (called_effect next (effect_of known definition)) keep)
    item_walk top next (Text kind address length) w = takes limits (table_effect (text_word kind)) keep w
    item_walk top next (If first second) w =
        then_do (decides limits w) (λ m.
        then_do (walk top (branch_next next) first m) (λ i.
        then_do (walk top (branch_next next) second (record i { place = zero_way w.place m.place })) (λ j.
        joins i.place j)))
    item_walk top next (Until body) w =
        then_do (enters given w) (λ h.
        then_do (walk top More body h) (λ m.
        then_do (takes limits (table_effect table.Until) keep m) (λ n.
        returns_to h.place n)))
    item_walk top next (While test body) w =
        then_do (enters given w) (λ h.
        then_do (walk top Flag test h) (λ m.
        then_do (decides limits m) (λ y.
        then_do (walk top More body y) (λ n.
        then_do (returns_to h.place n) (λ o.
        Ok (record o { place = zero_way m.place y.place }))))))
    item_walk top next (Again body) w =
        then_do (enters given w) (λ h.
        then_do (walk top More body h) (λ m.
        then_do (returns_to h.place m) (λ n.
        Ok (record n { place = Unreachable }))))
    item_walk top next (Do body plus) w =
        then_do (takes limits (table_effect table.Do) push_loop w) (λ i.
        then_do (enters given (record i { leaves = Unreachable })) (λ h.
        then_do (walk (shape_at h.place) More body h) (λ m.
        then_do (takes limits (table_effect (turn_word plus)) keep m) (λ n.
        then_do (returns_to h.place n) (λ o.
        then_do (joins o.leaves o) (λ j.
        Ok (record j { place = dropped j.place; leaves = w.leaves })))))))
    item_walk top next (QDo body plus) w =
        then_do (takes limits (table_effect table.QDo) push_loop w) (λ i.
        then_do (enters given (record i { leaves = Unreachable })) (λ h.
        then_do (walk (shape_at h.place) More body h) (λ m.
        then_do (takes limits (table_effect (turn_word plus)) keep m) (λ n.
        then_do (returns_to h.place n) (λ o.
        then_do (joins i.place o) (λ q.
        then_do (joins q.leaves q) (λ j.
        Ok (record j { place = dropped j.place; leaves = w.leaves }))))))))
    item_walk top next (Case arms rest) w = arms_walk top (branch_next next) arms (λ m. then_do (walk top More rest m) (takes limits (table_effect table.EndCase) keep)) w
    item_walk top next Leave w = then_do (takes limits (table_effect table.Leave) keep w) (leaving top)
    item_walk top next Exit w = ends limits w

    pub walk : Option Shape → Next → Nodes → Walk → Walked
    walk top next Empty w = Ok w
    walk top next (Then node rest) w = then_do (item_walk top (next_of next rest) node w) (walk top next rest)

    -- the arms of a case, and what is last; the ends of the arms join after that
    pub arms_walk : Option Shape → Next → Arms → (Walk → Walked) → Walk → Walked
    arms_walk top next NoArm last w = last w
    arms_walk top next (Arm tests body others) last w =
        then_do (walk top More tests w) (λ m.
        then_do (takes limits (of_effect (negsuc 0)) keep m) (λ i.
        then_do (takes limits (of_effect (negsuc 1)) keep (record i { place = m.place })) (λ j.
        then_do (walk top next body j) (λ e.
        then_do (arms_walk top next others last (record e { place = i.place })) (λ o.
        joins e.place o)))))

  abbrev pub start : List (ℤ × ℤ) → Walk
  start heads = record { place = At entry; leaves = Unreachable; need = 0; peak = 0; back = 0; exit = None; heads = heads }

  -- a whole body
  abbrev pub body_walk : Nodes → List (ℤ × ℤ) → Walked
  body_walk body heads = then_do (walk None Return body (start heads)) (ends limits)

abbrev pub made : Walk → Effect
made w = record { need = w.need; peak = w.peak; back = w.back; exit = w.exit }
