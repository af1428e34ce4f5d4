-- A row of plain cells: its run, and its bounds at each instruction.
use Rattle.std.proofs.Common.{◌≡◌, ℕ, zero, suc, ◌+◌, ◌/◌, ◌≤◌, nat_le, ◌&&◌, ⊎_elim, Bool, true, false, List, [], ◌∷◌, length, Option, Some, None, pos, ◌+ℤ◌, refl, sym, ap, ◌∙◌, subst, arith, leb-true}
use Rattle.j1_table.specs.declared.instr.Instr.{Instr}
use Rattle.j1_table.specs.declared.instr.Instr.TheVariants.{Literal, Jump, Branch, Call, Alu}
use Rattle.j1_simulator.specs.Effect.{effect, following}
use Rattle.j1_simulator.specs.declared.effects.Next.{Next}
use Rattle.j1_simulator.specs.declared.effects.Next.TheVariants.{Following, Target, IfZero, Returning}
use Rattle.j1_simulator.specs.declared.effects.Effect.{Effect}
use Rattle.j1_simulator.specs.Step.{Stop, effect_at, next_pc, depth_of}
use Rattle.j1_simulator.specs.OpenMachine.{top_cell, open_storage}
use Rattle.j1_simulator.specs.Run.{after_effect, advanced, run}
use Rattle.word_laws.specs.Rings.{OpenConfiguration}
use Rattle.word_laws.proofs.Rows.{feed, HasAll}
use Rattle.word_laws.specs.Rings.{BeforeEach, KnownWithin, WritesAbove, writes_return}
use Rattle.word_laws.specs.Bounds.{StaysWithin}
use Rattle.word_laws.proofs.Walk.{counted_to, pops, data_height, return_height, if_some, is_following, has_place, last_to, return_to, height_to, depth_to, checked, allowed, stays}
use Rattle.word_laws.proofs.BothMachines.{run_stays}
use Rattle.word_laws.proofs.Steps.{Moves, EndsOrMoves, made_moves, HasCode, kept_code, effect_here}
use Rattle.word_laws.proofs.Heights.{counter_moves, height_le, data_moves, data_covers, return_moves, return_covers, pop_takes, size_moves, as_return, return_size_moves}

pub feed_stays : (data_start : ℕ) (cells : List Instr) (s : Stop) (w : OpenConfiguration) → w.stop ≡ Some s → feed data_start cells w ≡ w
feed_stays data_start [] s w e = refl
feed_stays data_start (c ∷ cells) s w e = ap (λ x. feed data_start cells (after_effect x open_storage data_start (effect w.core.pc c) w)) e ∙ feed_stays data_start cells s w e

pub each_stays : (P : OpenConfiguration → Type 0) (data_start n : ℕ) (s : Stop) (w : OpenConfiguration) → w.stop ≡ Some s → P w → BeforeEach P data_start n w
each_stays P data_start zero s w e p = tt
each_stays P data_start (suc n) s w e p =
    let same : advanced w.stop open_storage data_start w ≡ w = ap (λ x. advanced x open_storage data_start w) e in
    (p, subst (BeforeEach P data_start n) (sym same) (each_stays P data_start n s w e p))

-- runs in two parts
pub run_more : (a b data_start : ℕ) (w : OpenConfiguration) → run open_storage data_start (a + b) w ≡ run open_storage data_start b (run open_storage data_start a w)
run_more zero b data_start w = let e : 0 + b ≡ b = omega arith in ap (λ n. run open_storage data_start n w) e
run_more (suc a) b data_start w = let e : suc a + b ≡ suc (a + b) = omega arith in ap (λ n. run open_storage data_start n w) e ∙ run_more a b data_start (advanced w.stop open_storage data_start w)

pub each_joins : (P : OpenConfiguration → Type 0) (a b data_start : ℕ) (w : OpenConfiguration) → BeforeEach P data_start a w → BeforeEach P data_start b (run open_storage data_start a w) → BeforeEach P data_start (a + b) w
each_joins P zero b data_start w p q = let e : b ≡ 0 + b = omega arith in subst (λ n. BeforeEach P data_start n w) e q
each_joins P (suc a) b data_start w p q = let e : suc (a + b) ≡ suc a + b = omega arith in subst (λ n. BeforeEach P data_start n w) e (p.0, each_joins P a b data_start (advanced w.stop open_storage data_start w) p.1 q)

pub each_weaker : (P Q : OpenConfiguration → Type 0) → ((w : OpenConfiguration) → P w → Q w) → (n data_start : ℕ) (w : OpenConfiguration) → BeforeEach P data_start n w → BeforeEach Q data_start n w
each_weaker P Q f zero data_start w p = tt
each_weaker P Q f (suc n) data_start w p = (f w p.0, each_weaker P Q f n data_start (advanced w.stop open_storage data_start w) p.1)

-- what of an effect no place changes, by one property of all of it
fields : (P : Effect → Effect → Type 0) (pc : ℕ) (i : Instr) → ((v : ℕ) → P (effect pc (Literal v)) (effect 0 (Literal v))) →
    ((v : ℕ) → P (effect pc (Jump v)) (effect 0 (Jump v))) → ((v : ℕ) → P (effect pc (Branch v)) (effect 0 (Branch v))) →
    ((v : ℕ) → P (effect pc (Call v)) (effect 0 (Call v))) → ((v : ℕ) → P (effect pc (Alu v)) (effect 0 (Alu v))) → P (effect pc i) (effect 0 i)
fields P pc (Literal v) a b c d e = a v
fields P pc (Jump v) a b c d e = b v
fields P pc (Branch v) a b c d e = c v
fields P pc (Call v) a b c d e = d v
fields P pc (Alu v) a b c d e = e v

record SameFields (e f : Effect) : Type 0 where
  next : e.next ≡ f.next
  data_move : e.data_move ≡ f.data_move
  return_move : e.return_move ≡ f.return_move
  t_to_n : e.t_to_n ≡ f.t_to_n
  new_top : e.new_top ≡ f.new_top
  writes : writes_return e.return_write ≡ writes_return f.return_write

same_fields : (pc : ℕ) (i : Instr) → SameFields (effect pc i) (effect 0 i)
same_fields pc i = fields SameFields pc i (λ v. all) (λ v. all) (λ v. all) (λ v. call pc v) (λ v. all)
  where
    all : {e : Effect} → SameFields e e
    all = record { next = refl; data_move = refl; return_move = refl; t_to_n = refl; new_top = refl; writes = refl }

    call : (pc v : ℕ) → SameFields (effect pc (Call v)) (effect 0 (Call v))
    call pc v = record { next = refl; data_move = refl; return_move = refl; t_to_n = refl; new_top = refl; writes = refl }

following_is : (n : Next) → is_following n ≡ true → n ≡ Following
following_is Following e = refl
following_is (Target t) e = cc
following_is (IfZero t) e = cc
following_is Returning e = cc

and_split : (a b : Bool) → (a && b) ≡ true → (a ≡ true) × (b ≡ true)
and_split true b e = (refl, e)
and_split false b e = cc

some_split : (o : Option ℕ) (f : ℕ → Bool) → if_some o f ≡ true → (n : ℕ) × (o ≡ Some n) × (f n ≡ true)
some_split None f e = cc
some_split (Some n) f e = (n, refl, e)

-- the counters and the reach of what is known at a moment, over what is below a row's need
pub record Counts (r b k x j y : ℕ) (w : OpenConfiguration) : Type 0 where
  pub depth : w.data_depth ≡ pos (r + k)
  pub return_depth : w.return_depth ≡ pos (b + j)
  pub known : KnownWithin (r + x) (w.core.t ∷ w.core.data_stack.below)
  pub return_known : KnownWithin (b + y) w.core.return_stack.below
  pub size : length w.core.data_stack.below ≡ r + k
  pub return_size : length w.core.return_stack.below ≡ b + j

pub record Limits (hi return_high k x j y : ℕ) : Type 0 where
  pub deep : k ≤ hi
  pub tall : x ≤ hi
  pub return_deep : j ≤ return_high
  pub return_tall : y ≤ return_high

limits_of : (hi return_high k x j y : ℕ) → allowed hi return_high k x j y ≡ true → Limits hi return_high k x j y
limits_of hi return_high k x j y h =
    let e1 = and_split (nat_le k hi) (nat_le x hi && (nat_le j return_high && nat_le y return_high)) h in
    let e2 = and_split (nat_le x hi) (nat_le j return_high && nat_le y return_high) e1.1 in
    let e3 = and_split (nat_le j return_high) (nat_le y return_high) e2.1 in
    record { deep = leb-true k hi e1.0; tall = leb-true x hi e2.0; return_deep = leb-true j return_high e3.0; return_tall = leb-true y return_high e3.1 }

-- what a check of one cell tells
record WalkStep (hi return_high : ℕ) (e : Effect) (on : ℕ → ℕ → ℕ → ℕ → Bool) (k x j y : ℕ) : Type 0 where
  limits : Limits hi return_high k x j y
  next : e.next ≡ Following
  k' : ℕ
  x' : ℕ
  j' : ℕ
  y' : ℕ
  counts : counted_to e.data_move k ≡ Some k'
  height : data_height (pops e.new_top) e.t_to_n e.data_move x ≡ Some x'
  counts_return : counted_to e.return_move j ≡ Some j'
  height_return : return_height (writes_return e.return_write) e.return_move y ≡ Some y'
  place : has_place e.t_to_n e.data_move k ≡ true
  return_place : has_place (writes_return e.return_write) e.return_move j ≡ true
  on_is : on k' x' j' y' ≡ true

walk_step : (hi return_high : ℕ) (e : Effect) (on : ℕ → ℕ → ℕ → ℕ → Bool) (k x j y : ℕ) → checked hi return_high e on k x j y ≡ true → WalkStep hi return_high e on k x j y
walk_step hi return_high e on k x j y h =
    let e1 =
    and_split (nat_le k hi)
    (nat_le x hi
    && (nat_le j return_high
    && (nat_le y return_high
    && (is_following e.next
    && (has_place e.t_to_n e.data_move k && (has_place (writes_return e.return_write) e.return_move j && depth_to e on k x j y)))))) h in
    let e2 =
    and_split (nat_le x hi)
    (nat_le j return_high
    && (nat_le y return_high
    && (is_following e.next
    && (has_place e.t_to_n e.data_move k && (has_place (writes_return e.return_write) e.return_move j && depth_to e on k x j y))))) e1.1 in
    let e3 = and_split (nat_le j return_high) (nat_le y return_high && (is_following e.next && (has_place e.t_to_n e.data_move k && (has_place (writes_return e.return_write) e.return_move j && depth_to e on k x j y)))) e2.1 in
    let e4 = and_split (nat_le y return_high) (is_following e.next && (has_place e.t_to_n e.data_move k && (has_place (writes_return e.return_write) e.return_move j && depth_to e on k x j y))) e3.1 in
    let e5 = and_split (is_following e.next) (has_place e.t_to_n e.data_move k && (has_place (writes_return e.return_write) e.return_move j && depth_to e on k x j y)) e4.1 in
    let e6 = and_split (has_place e.t_to_n e.data_move k) (has_place (writes_return e.return_write) e.return_move j && depth_to e on k x j y) e5.1 in
    let e7 = and_split (has_place (writes_return e.return_write) e.return_move j) (depth_to e on k x j y) e6.1 in
    let sk = some_split (counted_to e.data_move k) (λ k'. height_to e on k' x j y) e7.1 in
    let sx = some_split (data_height (pops e.new_top) e.t_to_n e.data_move x) (λ x'. return_to e on sk.0 x' j y) sk.2 in
    let sj = some_split (counted_to e.return_move j) (λ j'. last_to e on sk.0 sx.0 j' y) sx.2 in
    let sy = some_split (return_height (writes_return e.return_write) e.return_move y) (λ y'. on sk.0 sx.0 sj.0 y') sj.2 in
    record {
      limits = record { deep = leb-true k hi e1.0; tall = leb-true x hi e2.0; return_deep = leb-true j return_high e3.0; return_tall = leb-true y return_high e4.0 };
      next = following_is e.next e5.0;
      k' = sk.0;
      x' = sx.0;
      j' = sj.0;
      y' = sy.0;
      counts = sk.1;
      height = sx.1;
      counts_return = sj.1;
      height_return = sy.1;
      place = e6.0;
      return_place = e7.0;
      on_is = sy.2;
    }

-- the same of the effect at its place
placed : (hi return_high : ℕ) (e f : Effect) (on : ℕ → ℕ → ℕ → ℕ → Bool) (k x j y : ℕ) → SameFields e f → WalkStep hi return_high f on k x j y → WalkStep hi return_high e on k x j y
placed hi return_high e f on k x j y same o =
    record {
      limits = o.limits;
      next = same.next ∙ o.next;
      k' = o.k';
      x' = o.x';
      j' = o.j';
      y' = o.y';
      counts = ap (λ m. counted_to m k) same.data_move ∙ o.counts;
      height = ap (λ a. data_height (pops a) e.t_to_n e.data_move x) same.new_top ∙ ap (λ a. data_height (pops f.new_top) a e.data_move x) same.t_to_n ∙ ap (λ a. data_height (pops f.new_top) f.t_to_n a x) same.data_move ∙ o.height;
      counts_return = ap (λ m. counted_to m j) same.return_move ∙ o.counts_return;
      height_return = ap (λ a. return_height a e.return_move y) same.writes ∙ ap (λ a. return_height (writes_return f.return_write) a y) same.return_move ∙ o.height_return;
      place = ap (λ a. has_place a e.data_move k) same.t_to_n ∙ ap (λ a. has_place f.t_to_n a k) same.data_move ∙ o.place;
      return_place = ap (λ a. has_place a e.return_move j) same.writes ∙ ap (λ a. has_place (writes_return f.return_write) a j) same.return_move ∙ o.return_place;
      on_is = o.on_is;
    }

moved_counts : (data_start pc r b k x j y k' x' j' y' : ℕ) (f : Effect) (w now : OpenConfiguration) → Moves data_start pc f w now →
    counted_to f.data_move k ≡ Some k' → data_height (pops f.new_top) f.t_to_n f.data_move x ≡ Some x' → counted_to f.return_move j ≡ Some j' →
    return_height (writes_return f.return_write) f.return_move y ≡ Some y' → has_place f.t_to_n f.data_move k ≡ true →
    has_place (writes_return f.return_write) f.return_move j ≡ true → Counts r b k x j y w → Counts r b k' x' j' y' now
moved_counts data_start pc r b k x j y k' x' j' y' f w now m ck hx cj hy pl bpl stand =
    record {
      depth = m.data_depth ∙ ap (λ a. a +ℤ f.data_move) stand.depth ∙ counter_moves f.data_move r k k' ck;
      return_depth = m.return_depth ∙ ap (λ a. a +ℤ f.return_move) stand.return_depth ∙ counter_moves f.return_move b j j' cj;
      known = subst (λ a. KnownWithin (r + x') (a.t ∷ a.data_stack.below)) (sym m.core)
          (data_moves (pops f.new_top) f.t_to_n f.data_move r x x' w.core.t _ w.core.data_stack hx
          (pop_takes f.new_top w.core.t (top_cell w.core.data_stack.below) (top_cell w.core.return_stack.below) m.cell (depth_of open_storage w.core))
          stand.known);
      return_known = subst (λ a. KnownWithin (b + y') a.return_stack.below) (sym m.core) (return_moves f.return_write f.return_move b y y' w.core.t w.core.return_stack hy stand.return_known);
      size = ap (λ a. length a.data_stack.below) m.core ∙ (let z = as_return (pops f.new_top) f.t_to_n f.data_move x x' hx in size_moves f.t_to_n f.data_move r k k' x z.0 w.core.t w.core.data_stack z.1 ck pl stand.size);
      return_size = ap (λ a. length a.return_stack.below) m.core ∙ return_size_moves f.return_write f.return_move b j j' y y' w.core.t w.core.return_stack hy cj bpl stand.return_size;
    }

module _ (data_start : ℕ) (code : List ℕ) (size : length code ≡ data_start / 2) (to_end : Bool) (r b hi return_high : ℕ) where
  within : (k x j y : ℕ) (w : OpenConfiguration) → Limits hi return_high k x j y → Counts r b k x j y w →
      (w.stop ≡ None → WritesAbove (effect_at w.core).data_move (effect_at w.core).t_to_n) →
      (w.stop ≡ None → WritesAbove (effect_at w.core).return_move (writes_return (effect_at w.core).return_write)) →
      StaysWithin r (r + hi) b (b + return_high) w
  within k x j y w l s c d =
      record {
        depth = r + k;
        return_depth = b + j;
        depth_is = s.depth;
        return_depth_is = s.return_depth;
        at_least = omega arith;
        at_most = omega (arith, l.deep);
        return_at_least = omega arith;
        return_at_most = omega (arith, l.return_deep);
        known = height_le (r + x) (r + hi) _ (omega (arith, l.tall)) s.known;
        return_known = height_le (b + y) (b + return_high) _ (omega (arith, l.return_tall)) s.return_known;
        data_writes = c;
        return_writes = d;
      }

  pub within_stopped : (k x j y : ℕ) (w : OpenConfiguration) (s : Stop) → w.stop ≡ Some s → Limits hi return_high k x j y → Counts r b k x j y w → StaysWithin r (r + hi) b (b + return_high) w
  within_stopped k x j y w s e l st = within k x j y w l st (λ n. let f : ⊥ = cc in absurd f) (λ n. let f : ⊥ = cc in absurd f)

  -- a row's run is its feed, and each of its moments is within bounds
  pub record RowHolds (cells : List Instr) (w : OpenConfiguration) : Type 0 where
    pub feeds : run open_storage data_start (length cells) w ≡ feed data_start cells w
    pub moments : BeforeEach (StaysWithin r (r + hi) b (b + return_high)) data_start (length cells) w
    pub height : ℕ
    pub top : ℕ
    pub return_height : ℕ
    pub return_top : ℕ
    pub counts : Counts r b height top return_height return_top (feed data_start cells w)
    pub limits : to_end ≡ true → Limits hi return_high height top return_height return_top

  stopped_row : (cells : List Instr) (k x j y : ℕ) (w : OpenConfiguration) (s : Stop) → w.stop ≡ Some s → Limits hi return_high k x j y → Counts r b k x j y w → RowHolds cells w
  stopped_row cells k x j y w s e l stand = record {
    feeds = run_stays (length cells) data_start s w e ∙ sym (feed_stays data_start cells s w e);
    moments = each_stays (StaysWithin r (r + hi) b (b + return_high)) data_start (length cells) s w e (within_stopped k x j y w s e l stand);
    height = k;
    top = x;
    return_height = j;
    return_top = y;
    counts = subst (Counts r b k x j y) (sym (feed_stays data_start cells s w e)) stand;
    limits = λ t. l;
  }

  covered : (k x j y : ℕ) (e : Effect) (w : OpenConfiguration) (on : ℕ → ℕ → ℕ → ℕ → Bool) → effect_at w.core ≡ e → WalkStep hi return_high e on k x j y → Counts r b k x j y w → StaysWithin r (r + hi) b (b + return_high) w
  covered k x j y e w on same o stand =
      within k x j y w o.limits stand
      (λ n. subst (λ g. WritesAbove g.data_move g.t_to_n) (sym same) (data_covers (pops e.new_top) e.t_to_n e.data_move x o.x' o.height))
      (λ n. subst (λ g. WritesAbove g.return_move (writes_return g.return_write)) (sym same) (return_covers (writes_return e.return_write) e.return_move y o.y' o.height_return))

  -- one cell in front of a row whose rest is known
  cons_row : (c : Instr) (cells : List Instr) (f : Effect) (w now : OpenConfiguration) → advanced w.stop open_storage data_start w ≡ now →
      feed data_start (c ∷ cells) w ≡ feed data_start cells now → StaysWithin r (r + hi) b (b + return_high) w → RowHolds cells now → RowHolds (c ∷ cells) w
  cons_row c cells f w now goes fed here on = record {
    feeds = ap (run open_storage data_start (length cells)) goes ∙ on.feeds ∙ sym fed;
    moments = (here, subst (BeforeEach (StaysWithin r (r + hi) b (b + return_high)) data_start (length cells)) (sym goes) on.moments);
    height = on.height;
    top = on.top;
    return_height = on.return_height;
    return_top = on.return_top;
    counts = subst (Counts r b on.height on.top on.return_height on.return_top) (sym fed) on.counts;
    limits = on.limits;
  }

  pub row : (cells : List Instr) (q k x j y : ℕ) (w : OpenConfiguration) (stop : Option Stop) → w.stop ≡ stop →
      stays to_end hi return_high cells k x j y ≡ true → HasAll code w.core.pc cells q → HasCode code w → Counts r b k x j y w → RowHolds cells w
  row [] q k x j y w stop e st has bk stand = record {
    feeds = refl;
    moments = tt;
    height = k;
    top = x;
    return_height = j;
    return_top = y;
    counts = stand;
    limits = λ t. limits_of hi return_high k x j y (subst (λ a. stays a hi return_high [] k x j y ≡ true) t st);
  }
  row (c ∷ cells) q k x j y w (Some s) e st has bk stand = stopped_row (c ∷ cells) k x j y w s e (walk_step hi return_high (effect 0 c) (stays to_end hi return_high cells) k x j y st).limits stand
  row (c ∷ cells) q k x j y w None e st has bk stand =
      step (effect w.core.pc c) (after_effect None open_storage data_start (effect w.core.pc c) w)
      (effect_here code w c bk has.0.0 has.0.1)
      (ap (λ s. after_effect s open_storage data_start (effect_at w.core) w) e ∙ ap (λ g. after_effect None open_storage data_start g w) (effect_here code w c bk has.0.0 has.0.1))
      (ap (λ s. feed data_start cells (after_effect s open_storage data_start (effect w.core.pc c) w)) e)
      (placed hi return_high (effect w.core.pc c) (effect 0 c) (stays to_end hi return_high cells) k x j y (same_fields w.core.pc c) (walk_step hi return_high (effect 0 c) (stays to_end hi return_high cells) k x j y st))
      (made_moves data_start (effect w.core.pc c) w)
      (λ now k' x' j' y' s' h' b' t'. row cells q k' x' j' y' now now.stop refl s' h' b' t')
    where
      step : (f : Effect) (now : OpenConfiguration) → effect_at w.core ≡ f → advanced w.stop open_storage data_start w ≡ now →
          feed data_start (c ∷ cells) w ≡ feed data_start cells now → WalkStep hi return_high f (stays to_end hi return_high cells) k x j y →
          EndsOrMoves data_start (next_pc open_storage f.next w.core.pc w.core.t (top_cell w.core.return_stack.below)) f w now
          → ((now : OpenConfiguration) (k x j y : ℕ) → stays to_end hi return_high cells k x j y ≡ true → HasAll code now.core.pc cells q → HasCode code now → Counts r b k x j y now → RowHolds cells now) → RowHolds (c ∷ cells) w
      step f now same goes fed o found later =
          cons_row c cells f w now goes fed (covered k x j y f w (stays to_end hi return_high cells) same o stand)
          (⊎_elim
          (λ t.
          subst (RowHolds cells) (sym t.1)
          (stopped_row cells k x j y (record w { stop = Some t.0 }) t.0 refl o.limits
          (record {
            depth = stand.depth;
            return_depth = stand.return_depth;
            known = stand.known;
            return_known = stand.return_known;
            size = stand.size;
            return_size = stand.return_size;
          })))
          (λ m. later now o.k' o.x' o.j' o.y' o.on_is (subst (λ p. HasAll code p cells q) (sym (ap (λ a. a.pc) m.core)) has.1)
          (let bk' = kept_code data_start code w.core.memory m.memory size m.kept bk in (bk'.0, ap (λ a. a.memory) m.core ∙ bk'.1))
          (moved_counts data_start (following w.core.pc) r b k x j y o.k' o.x' o.j' o.y' f w now m o.counts o.height o.counts_return o.height_return o.place o.return_place stand))
          (subst (λ n. EndsOrMoves data_start (next_pc open_storage n w.core.pc w.core.t (top_cell w.core.return_stack.below)) f w now) o.next found))
