-- Rows of cells between standing states.
use Rattle.std.proofs.Common.{◌≡◌, ℕ, suc, ◌+◌, ◌/◌, ◌≤◌, Bool, true, List, [], ◌∷◌, length, Option, Some, None, ℤ, pos, refl, sym, ap, ◌∙◌, subst, arith}
use Rattle.std.specs.Prelude.{map}
use Rattle.j1_table.specs.declared.instr.Instr.{Instr}
use Rattle.j1_table.specs.Instruction.{decoded}
use Rattle.forth_program.specs.State.{World, Outcome, Goes, Ends}
use Rattle.j1_simulator.specs.Effect.{following}
use Rattle.j1_simulator.specs.Step.{Stop}
use Rattle.j1_simulator.specs.OpenMachine.{top_cell, rest, open_storage}
use Rattle.j1_simulator.specs.Run.{run}
use Rattle.word_laws.specs.Rings.{OpenConfiguration, BeforeEach, KnownWithin}
use Rattle.word_laws.specs.Bounds.{StaysWithin}
use Rattle.word_laws.specs.Standing.{data_places, return_places, standing, standing_at_depths, machine_end, EndedIn, HasCome, StandIn, machine_at}
use Rattle.word_laws.proofs.Rows.{feed, past, data_past, return_past, HasAll, RowEnds, RowMeans}
use Rattle.word_laws.proofs.Walk.{stays}
use Rattle.word_laws.proofs.Heights.{height_le}
use Rattle.word_laws.proofs.Straight.{Counts, RowHolds, row, within_stopped, each_weaker}

pub height_places : (c : List ℕ) → KnownWithin (length c) (top_cell (data_places c) ∷ rest (data_places c))
height_places [] = (refl, tt)
height_places (x ∷ []) = (refl, tt)
height_places (x ∷ y ∷ c) = height_places (y ∷ c)

pub height_length : (r : List (Option ℕ)) → KnownWithin (length r) r
height_length [] = tt
height_length (x ∷ r) = height_length r

pub size_places : (c : List ℕ) → length (rest (data_places c)) ≡ length c
size_places [] = refl
size_places (x ∷ []) = refl
size_places (x ∷ y ∷ c) = ap suc (size_places (y ∷ c))

-- bounds under other names
pub within_widens : (lo hi rlo rhi lo' hi' rlo' rhi' : ℕ) → lo' ≤ lo → hi ≤ hi' → rlo' ≤ rlo → rhi ≤ rhi' → (w : OpenConfiguration) → StaysWithin lo hi rlo rhi w → StaysWithin lo' hi' rlo' rhi' w
within_widens lo hi rlo rhi lo' hi' rlo' rhi' a b c d w s =
    record {
      depth = s.depth;
      return_depth = s.return_depth;
      depth_is = s.depth_is;
      return_depth_is = s.return_depth_is;
      at_least = omega (arith, s.at_least);
      at_most = omega (arith, s.at_most);
      return_at_least = omega (arith, s.return_at_least);
      return_at_most = omega (arith, s.return_at_most);
      known = height_le hi hi' _ b s.known;
      return_known = height_le rhi rhi' _ d s.return_known;
      data_writes = s.data_writes;
      return_writes = s.return_writes;
    }

pub each_widens : (data_start lo hi rlo rhi lo' hi' rlo' rhi' n : ℕ) (w : OpenConfiguration) → lo' ≤ lo → hi ≤ hi' → rlo' ≤ rlo → rhi ≤ rhi' →
    BeforeEach (StaysWithin lo hi rlo rhi) data_start n w → BeforeEach (StaysWithin lo' hi' rlo' rhi') data_start n w
each_widens data_start lo hi rlo rhi lo' hi' rlo' rhi' n w a b c d g =
    each_weaker (StaysWithin lo hi rlo rhi) (StaysWithin lo' hi' rlo' rhi') (λ w s. within_widens lo hi rlo rhi lo' hi' rlo' rhi' a b c d w s) n data_start w g

-- cells that stand in code, as instructions
pub has_all : (code cells : List ℕ) (pc q : ℕ) → StandIn code pc cells q → HasAll code pc (map decoded cells) q
has_all code [] pc q h = h
has_all code (cell ∷ cells) pc q h = ((ap decoded h.0, h.1), has_all code cells (following pc) q h.2)

-- an end that the machine has
abbrev pub MayEnd : Outcome → Type 0
MayEnd (Goes s) = Unit {0}
MayEnd (Ends end world) = (stop : Stop) × (machine_end end ≡ Some stop)

pub past_is : (code : List ℕ) (is : List Instr) (pc q : ℕ) → HasAll code pc is q → past pc is ≡ q
past_is code [] pc q h = h
past_is code (i ∷ is) pc q h = past_is code is (following pc) q h.1

-- a row between standing states
module _ (data_start : ℕ) (code : List ℕ) (size : length code ≡ data_start / 2) (to_end : Bool) where
  counts_at : (pc : ℕ) (c : List ℕ) (r da ra : List (Option ℕ)) (o : World) (under k below j : ℕ) → length c ≡ under + k → length r ≡ below + j → Counts under below k k j j (standing_at_depths (machine_at code pc r da ra) c o)
  counts_at pc c r da ra o under k below j e f =
      record {
        depth = ap pos e;
        return_depth = ap pos f;
        known = subst (λ n. KnownWithin n (top_cell (data_places c) ∷ rest (data_places c))) e (height_places c);
        return_known = subst (λ n. KnownWithin n r) f (height_length r);
        size = size_places c ∙ e;
        return_size = f;
      }

  row_holds_at : (is : List Instr) (pc q : ℕ) (c : List ℕ) (r da ra : List (Option ℕ)) (o : World) (under k below j hi return_high : ℕ) → length c ≡ under + k →
      length r ≡ below + j → stays to_end hi return_high is k k j j ≡ true → HasAll code pc is q →
      RowHolds data_start code size to_end under below hi return_high is (standing_at_depths (machine_at code pc r da ra) c o)
  row_holds_at is pc q c r da ra o under k below j hi return_high e f st has =
      row data_start code size to_end under below hi return_high is q k k j j (standing_at_depths (machine_at code pc r da ra) c o) None refl st has (o.space, refl) (counts_at pc c r da ra o under k below j e f)

  -- the counters at the end of a row
  settled : (w : OpenConfiguration) (q : ℕ) (c : List ℕ) (r da ra : List (Option ℕ)) (d b : ℤ) (o : World) (under below k x j y : ℕ) →
      w ≡ standing (machine_at code q r da ra) c d b o → Counts under below k x j y w → w ≡ standing_at_depths (machine_at code q r da ra) c o
  settled w q c r da ra d b o under below k x j y e s =
      let t : Counts under below k x j y (standing (machine_at code q r da ra) c d b o) = subst (Counts under below k x j y) e s in
      let dd : d ≡ pos (length c) = t.depth ∙ ap pos (sym t.size ∙ size_places c) in
      let bb : b ≡ pos (length r) = t.return_depth ∙ ap pos (sym t.return_size) in
      e ∙ ap (λ z. standing (machine_at code q r da ra) c z b o) dd ∙ ap (λ z. standing (machine_at code q r da ra) c (pos (length c)) z o) bb

  pub row_stays : (is : List Instr) (pc q : ℕ) (c : List ℕ) (r da ra : List (Option ℕ)) (o : World) (under k below j hi return_high : ℕ) →
      length c ≡ under + k → length r ≡ below + j → stays to_end hi return_high is k k j j ≡ true → HasAll code pc is q →
      BeforeEach (StaysWithin under (under + hi) below (below + return_high)) data_start (length is) (standing_at_depths (machine_at code pc r da ra) c o)
  row_stays is pc q c r da ra o under k below j hi return_high e f st has = (row_holds_at is pc q c r da ra o under k below j hi return_high e f st has).moments

  -- the end of a run that is ended, where the walk asks so of its end
  pub row_ends : to_end ≡ true →
      (is : List Instr) (pc q : ℕ) (c : List ℕ) (r da ra : List (Option ℕ)) (o : World) (under k below j hi return_high : ℕ) (s : Stop) → length c ≡ under + k →
      length r ≡ below + j → stays to_end hi return_high is k k j j ≡ true → HasAll code pc is q →
      (run open_storage data_start (length is) (standing_at_depths (machine_at code pc r da ra) c o)).stop ≡ Some s →
      StaysWithin under (under + hi) below (below + return_high) (run open_storage data_start (length is) (standing_at_depths (machine_at code pc r da ra) c o))
  row_ends t is pc q c r da ra o under k below j hi return_high s e f st has h =
      let rows = row_holds_at is pc q c r da ra o under k below j hi return_high e f st has in
      subst (StaysWithin under (under + hi) below (below + return_high)) (sym rows.feeds)
      (within_stopped data_start code size to_end under below hi return_high rows.height rows.top rows.return_height rows.return_top (feed data_start is (standing_at_depths (machine_at code pc r da ra) c o)) s
      (ap (λ w. w.stop) (sym rows.feeds) ∙ h) (rows.limits t) rows.counts)

  -- what is meant, at the end of a row
  pub row_comes : (is : List Instr) (pc q : ℕ) (c : List ℕ) (r base da ra : List (Option ℕ)) (o : World) (under k below j hi return_high : ℕ) (x : Outcome) →
      length c ≡ under + k → length r ≡ below + j → stays to_end hi return_high is k k j j ≡ true → HasAll code pc is q →
      RowMeans code (past pc is) base (data_past (pos (length c)) is) (return_past (pos (length r)) is) (feed data_start is (standing_at_depths (machine_at code pc r da ra) c o)) x → MayEnd x →
      HasCome code q base (run open_storage data_start (length is) (standing_at_depths (machine_at code pc r da ra) c o)) x
  row_comes is pc q c r base da ra o under k below j hi return_high (Goes s) e f st has h m =
      let rows = row_holds_at is pc q c r da ra o under k below j hi return_high e f st has in (
        h.0,
        h.1,
        rows.feeds ∙ settled (feed data_start is (standing_at_depths (machine_at code pc r da ra) c o)) q s.cells (return_places s.entries base) h.0 h.1 _ _ s.world under below rows.height rows.top rows.return_height rows.return_top
            (h.2 ∙ ap (λ p. standing (machine_at code p (return_places s.entries base) h.0 h.1) s.cells (data_past (pos (length c)) is) (return_past (pos (length r)) is) s.world) (past_is code is pc q has)) rows.counts,
      )
  row_comes is pc q c r base da ra o under k below j hi return_high (Ends end world) e f st has h m =
      let rows = row_holds_at is pc q c r da ra o under k below j hi return_high e f st has in
      (m.0, m.1, ended (run open_storage data_start (length is) (standing_at_depths (machine_at code pc r da ra) c o)) (feed data_start is (standing_at_depths (machine_at code pc r da ra) c o)) world (machine_end end) m.0 rows.feeds m.1 h)
    where
      ended : (w v : OpenConfiguration) (world : World) (x : Option Stop) (stop : Stop) → w ≡ v → x ≡ Some stop → RowEnds v code x world → EndedIn w code stop world
      ended w v world x stop e f h = subst (λ u. EndedIn u code stop world) (sym e) (subst (λ y. RowEnds v code y world) f h)
