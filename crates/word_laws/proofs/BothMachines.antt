-- One instruction, and a run, of both machines.
use Rattle.std.proofs.Common.{◌≡◌, ◌≢◌, ℕ, zero, suc, ◌+◌, ◌-◌, ◌*◌, ◌/◌, ◌%◌, ◌⊎◌, inl, inr, ⊎_elim, Bool, true, false, List, [], ◌∷◌, get_or, Option, Some, None, ℤ, pos, negsuc, ◌+ℤ◌, refl, sym, ap, ◌∙◌, subst, arith}
use Rattle.std.specs.Prelude.{slice_index, option_map, if◌then◌else◌, ◌==◌}
use Rattle.j1_simulator.specs.Operations.{on_t, on_t_and_n}
use Rattle.j1_table.specs.Instruction.{decoded}
use Rattle.j1_simulator.specs.Effect.{effect, following}
use Rattle.console_ports.specs.Ports.{access_at}
use Rattle.console_ports.specs.declared.ports.Access.{Access}
use Rattle.console_ports.specs.declared.ports.Access.TheVariants.{Data, Print, Key, Halt, Outside}
use Rattle.j1_simulator.specs.declared.effects.NewTop.{NewTop}
use Rattle.j1_simulator.specs.declared.effects.NewTop.TheVariants.{Number, Operation}
use Rattle.j1_simulator.specs.declared.effects.ReturnWrite.{ReturnWrite}
use Rattle.j1_simulator.specs.declared.effects.ReturnWrite.TheVariants.{Nothing, OldTop, ReturnTo}
use Rattle.j1_simulator.specs.declared.effects.Next.{Next}
use Rattle.j1_simulator.specs.declared.effects.Next.TheVariants.{Following, Target, IfZero, Returning}
use Rattle.j1_simulator.specs.declared.effects.Effect.{Effect}
use Rattle.j1_simulator.specs.declared.effects.Output.{Output}
use Rattle.j1_simulator.specs.Step.{Core, Stop, By, Missing, Reach, Reaches, Asks, Faults, Transition, Advances, Takes, Terminates, if_known, effect_at}
use Rattle.j1_simulator.specs.Step.{fetched, stored, exchanged, accesses, operated, new_top_of, next_pc, data_after, return_after, depth_of, moved_on, goes_on}
use Rattle.j1_simulator.specs.Step.{applied}
use Rattle.j1_simulator.specs.OpenMachine.{Tape, top_cell, tape_moved, open_storage, both_known, blank}
use Rattle.j1_simulator.specs.RoundMachine.{RingCells, around, ring_moved, ring_top, round_storage, empty_ring}
use Rattle.j1_simulator.specs.Run.{Configuration, after_effect, advanced, run, begun, open_start, round_start, with_outcome, taken_on, printed_by, stop_of_output}
use Rattle.word_laws.specs.Rings.{OpenConfiguration, InstructionDoesTheSame, BeforeEach, KnownWithin, WritesAbove, writes_return, FitsRings, CellAgrees, StackAgrees, CoreAgrees, Agrees, RunsDoTheSame}
use Rattle.word_laws.proofs.Stacks.{nth_first, is_or_none, down_agrees, put_agrees, up_agrees, still_agrees, down_twice_agrees}

abbrev RoundConfiguration : Type 0
RoundConfiguration = Configuration ℕ RingCells

one_agrees : (f : ℕ → ℕ) (t : Option ℕ) (x : ℕ) → CellAgrees t x → CellAgrees (option_map f t) (f x)
one_agrees f None x h = tt
one_agrees f (Some v) x h = ap f h

two_agrees : (f : ℕ → ℕ → ℕ) (t n : Option ℕ) (x y : ℕ) → CellAgrees t x → CellAgrees n y → CellAgrees (both_known f t n) (f x y)
two_agrees f None n x y h k = tt
two_agrees f (Some t) None x y h k = tt
two_agrees f (Some t) (Some n) x y h k = ap (λ a. f a n) h ∙ ap (f x) k

if_agrees : (b : Bool) (t n : Option ℕ) (x y : ℕ) → CellAgrees t x → CellAgrees n y → CellAgrees (if b then t else n) (if b then x else y)
if_agrees true t n x y h k = h
if_agrees false t n x y h k = k

operated_agrees : (op : ℕ) (t n r c : Option ℕ) (t' n' r' c' depth : ℕ) → CellAgrees t t' → CellAgrees n n' → CellAgrees r r' → CellAgrees c c' →
    CellAgrees (operated open_storage op t n r c depth) (operated round_storage op t' n' r' c' depth)
operated_agrees op t n r c t' n' r' c' depth ht hn hr hc =
    if_agrees (op == 0) _ _ _ _ ht (if_agrees (op == 1) _ _ _ _ hn (if_agrees (op == 6) _ _ _ _ (one_agrees (on_t 6) t t' ht) (if_agrees (op == 10) _ _ _ _ (one_agrees (on_t 10) t t' ht)
    (if_agrees (op == 11) _ _ _ _ hr (if_agrees (op == 12) _ _ _ _ hc (if_agrees (op == 14) _ _ _ _ refl (two_agrees (on_t_and_n op) t n t' n' ht hn)))))))

top_agrees : (a : NewTop) (t n r c : Option ℕ) (t' n' r' c' depth : ℕ) → CellAgrees t t' → CellAgrees n n' → CellAgrees r r' → CellAgrees c c' →
    CellAgrees (new_top_of open_storage a t n r c depth) (new_top_of round_storage a t' n' r' c' depth)
top_agrees (Number v) t n r c t' n' r' c' depth ht hn hr hc = refl
top_agrees (Operation op) t n r c t' n' r' c' depth ht hn hr hc = operated_agrees op t n r c t' n' r' c' depth ht hn hr hc

-- accesses
abbrev SameReach : Reach (Option ℕ) → Reach ℕ → Type 0
SameReach (Faults Missing) y = Unit {0}
SameReach (Faults (By end)) (Faults s) = By end ≡ s
SameReach (Reaches c m d) (Reaches c' m' d') = CellAgrees c c' × (m ≡ m') × (d ≡ d')
SameReach Asks Asks = Unit {0}
SameReach _ _ = ⊥

fetched_agrees : (memory : List ℕ) (x : Access) → SameReach (fetched open_storage memory x) (fetched round_storage memory x)
fetched_agrees memory (Data i) = (refl, refl, refl)
fetched_agrees memory Key = tt
fetched_agrees memory (Outside a) = refl
fetched_agrees memory Print = tt
fetched_agrees memory Halt = tt

stored_agrees : (t : Option ℕ) (t' v : ℕ) (memory : List ℕ) (x : Access) → CellAgrees t t' → SameReach (stored open_storage t v memory x) (stored round_storage t' v memory x)
stored_agrees t t' v memory (Data i) h = (h, refl, refl)
stored_agrees t t' v memory Print h = (h, refl, refl)
stored_agrees t t' v memory Halt h = (h, refl, refl)
stored_agrees t t' v memory (Outside a) h = refl
stored_agrees t t' v memory Key h = tt

exchanged_agrees : (a v : ℕ) (memory : List ℕ) (x : Access) → SameReach (exchanged open_storage a v memory x) (exchanged round_storage a v memory x)
exchanged_agrees a v memory (Data i) = (refl, refl, refl)
exchanged_agrees a v memory Print = refl
exchanged_agrees a v memory Halt = refl
exchanged_agrees a v memory (Outside b) = refl
exchanged_agrees a v memory Key = tt

accesses_agrees : (data_start : ℕ) (f s : Bool) (memory : List ℕ) (t n : Option ℕ) (t' n' : ℕ) → CellAgrees t t' → CellAgrees n n' →
    SameReach (accesses open_storage data_start f s memory t n) (accesses round_storage data_start f s memory t' n')
accesses_agrees data_start false false memory t n t' n' h k = (h, refl, refl)
accesses_agrees data_start true false memory None n t' n' h k = tt
accesses_agrees data_start true false memory (Some a) n t' n' h k =
    subst (λ b. SameReach (fetched open_storage memory (access_at data_start false a)) (fetched round_storage memory (access_at data_start false b))) h (fetched_agrees memory (access_at data_start false a))
accesses_agrees data_start false true memory None n t' n' h k = tt
accesses_agrees data_start false true memory (Some a) None t' n' h k = tt
accesses_agrees data_start false true memory (Some a) (Some v) t' n' h k =
    subst (λ b. SameReach (stored open_storage (Some a) v memory (access_at data_start true a)) (stored round_storage t' n' memory (access_at data_start true b))) h
    (subst (λ w. SameReach (stored open_storage (Some a) v memory (access_at data_start true a)) (stored round_storage t' w memory (access_at data_start true a))) k (stored_agrees (Some a) t' v memory (access_at data_start true a) h))
accesses_agrees data_start true true memory None n t' n' h k = tt
accesses_agrees data_start true true memory (Some a) None t' n' h k = tt
accesses_agrees data_start true true memory (Some a) (Some v) t' n' h k =
    subst (λ b. SameReach (exchanged open_storage a v memory (access_at data_start true a)) (exchanged round_storage b n' memory (access_at data_start true b))) h
    (subst (λ w. SameReach (exchanged open_storage a v memory (access_at data_start true a)) (exchanged round_storage a w memory (access_at data_start true a))) k (exchanged_agrees a v memory (access_at data_start true a)))

-- stacks
data_agrees : (w : Bool) (move : ℤ) (t : Option ℕ) (x : ℕ) (tape : Tape) (ring : RingCells) → WritesAbove move w → CellAgrees t x → StackAgrees tape ring →
    KnownWithin 32 tape.below → StackAgrees (data_after open_storage w move t tape) (data_after round_storage w move x ring)
data_agrees false (pos zero) t x tape ring c k s h = still_agrees tape ring s
data_agrees true (pos zero) t x tape ring c k s h = put_agrees (tape_moved (pos 0) tape) (ring_moved (pos 0) ring) t x k (still_agrees tape ring s)
data_agrees false (pos (suc zero)) t x tape ring c k s h = absurd (false_true c)
  where
    false_true : false ≡ true → ⊥
    false_true e = cc
data_agrees true (pos (suc zero)) t x tape ring c k s h = up_agrees tape ring t x k s
data_agrees w (pos (suc (suc n))) t x tape ring c k s h = absurd c
data_agrees false (negsuc zero) t x tape ring c k s h = down_agrees tape ring s h
data_agrees true (negsuc zero) t x tape ring c k s h = put_agrees (tape_moved (negsuc 0) tape) (ring_moved (negsuc 0) ring) t x k (down_agrees tape ring s h)
data_agrees false (negsuc (suc zero)) t x tape ring c k s h = down_twice_agrees tape ring s h
data_agrees true (negsuc (suc zero)) t x tape ring c k s h = put_agrees (tape_moved (negsuc 1) tape) (ring_moved (negsuc 1) ring) t x k (down_twice_agrees tape ring s h)
data_agrees w (negsuc (suc (suc n))) t x tape ring c k s h = absurd c

return_agrees : (w : ReturnWrite) (move : ℤ) (t : Option ℕ) (x : ℕ) (tape : Tape) (ring : RingCells) → WritesAbove move (writes_return w) → CellAgrees t x →
    StackAgrees tape ring → KnownWithin 32 tape.below → StackAgrees (return_after open_storage w move t tape) (return_after round_storage w move x ring)
return_agrees Nothing move t x tape ring c k s h = data_agrees false move t x tape ring c k s h
return_agrees OldTop move t x tape ring c k s h = data_agrees true move t x tape ring c k s h
return_agrees (ReturnTo a) move t x tape ring c k s h = data_agrees true move (Some a) a tape ring c refl s h

tops_agrees : (tape : Tape) (ring : RingCells) → StackAgrees tape ring → CellAgrees (top_cell tape.below) (ring_top ring)
tops_agrees tape ring s = is_or_none _ _ _ _ (nth_first tape.below) (ap (slice_index ring.cells) (omega (arith, s.low))) (s.cells 0 (omega arith))

-- where both go on
next_agrees : (n : Next) (pc : ℕ) (t r : Option ℕ) (t' r' : ℕ) → CellAgrees t t' → CellAgrees r r' → (next_pc open_storage n pc t r ≡ None) ⊎ (next_pc open_storage n pc t r ≡ next_pc round_storage n pc t' r')
next_agrees Following pc t r t' r' h k = inr refl
next_agrees (Target q) pc t r t' r' h k = inr refl
next_agrees (IfZero q) pc None r t' r' h k = inl refl
next_agrees (IfZero q) pc (Some v) r t' r' h k = inr (ap (λ x. Some (if x == 0 then q else following pc)) h)
next_agrees Returning pc t None t' r' h k = inl refl
next_agrees Returning pc t (Some v) t' r' h k = inr (ap (λ x. Some (x / 2 % 0x2000)) k)

abbrev SameOutcome : Transition (Option ℕ) Tape → Transition ℕ RingCells → Type 0
SameOutcome (Terminates Missing) y = Unit {0}
SameOutcome (Terminates (By end)) (Terminates s) = By end ≡ s
SameOutcome (Advances c d) (Advances c' d') = CoreAgrees c c' × (d ≡ d')
SameOutcome (Takes f) (Takes f') = (byte : ℕ) → CoreAgrees (f byte) (f' byte)
SameOutcome _ _ = ⊥

-- what both instructions change
module _ (e : Effect) (c : Core (Option ℕ) Tape) (r : Core ℕ RingCells) (same : CoreAgrees c r) (low : KnownWithin 32 c.data_stack.below)
    (return_low : KnownWithin 32 c.return_stack.below) (covers : WritesAbove e.data_move e.t_to_n)
    (return_covers : WritesAbove e.return_move (writes_return e.return_write)) where
  depths_same : depth_of open_storage c ≡ depth_of round_storage r
  depths_same = ap (λ b. b * 256 + around c.data_stack.at) (sym same.return_stack.at) ∙ ap (λ d. r.return_stack.at * 256 + d) (sym same.data_stack.at)

  moved_agrees : (pc : ℕ) (cell : Option ℕ) (cell' : ℕ) (memory memory' : List ℕ) → CellAgrees cell cell' → memory ≡ memory' → CoreAgrees (moved_on open_storage e c pc cell memory) (moved_on round_storage e r pc cell' memory')
  moved_agrees pc cell cell' memory memory' k m =
      record {
        pc = refl;
        t =
            subst
            (λ d.
            CellAgrees
            (new_top_of open_storage e.new_top c.t (top_cell c.data_stack.below) (top_cell c.return_stack.below) cell (depth_of open_storage c))
            (new_top_of round_storage e.new_top r.t (ring_top r.data_stack) (ring_top r.return_stack) cell' d)) depths_same
            (top_agrees e.new_top c.t (top_cell c.data_stack.below) (top_cell c.return_stack.below) cell r.t (ring_top r.data_stack) (ring_top r.return_stack)
            cell' (depth_of open_storage c) same.t (tops_agrees _ _ same.data_stack) (tops_agrees _ _ same.return_stack) k);
        data_stack = data_agrees e.t_to_n e.data_move c.t r.t c.data_stack r.data_stack covers same.t same.data_stack low;
        return_stack = return_agrees e.return_write e.return_move c.t r.t c.return_stack r.return_stack return_covers same.t same.return_stack return_low;
        memory = m;
      }

  -- both go on at the same place, or the open machine misses it
  goes_at : (x y : Option ℕ) (cell : Option ℕ) (cell' : ℕ) (memory memory' : List ℕ) (output output' : Output) → (x ≡ None) ⊎ (x ≡ y) → CellAgrees cell cell' →
      memory ≡ memory' → output ≡ output' →
      SameOutcome (if_known x (Terminates Missing) (λ pc. Advances (moved_on open_storage e c pc cell memory) output))
      (if_known y (Terminates Missing) (λ pc. Advances (moved_on round_storage e r pc cell' memory') output'))
  goes_at None y cell cell' memory memory' output output' h k m d = tt
  goes_at (Some p) None cell cell' memory memory' output output' h k m d = absurd (⊎_elim (λ q. some_none p q) (λ q. some_none p q) h)
    where
      some_none : (p : ℕ) → Some p ≡ None → ⊥
      some_none p q = cc
  goes_at (Some p) (Some q) cell cell' memory memory' output output' h k m d =
      ⊎_elim (λ z. let f : ⊥ = cc in absurd f)
      (λ z. let pq : p ≡ q = cc in subst (λ q. SameOutcome (Advances (moved_on open_storage e c p cell memory) output) (Advances (moved_on round_storage e r q cell' memory') output')) pq (moved_agrees p cell cell' memory memory' k m, d)) h

  takes_at : (x y : Option ℕ) → (x ≡ None) ⊎ (x ≡ y) →
      SameOutcome (if_known x (Terminates Missing) (λ pc. Takes (λ byte. moved_on open_storage e c pc (Some byte) c.memory)))
      (if_known y (Terminates Missing) (λ pc. Takes (λ byte. moved_on round_storage e r pc byte r.memory)))
  takes_at None y h = tt
  takes_at (Some p) None h = absurd (⊎_elim (λ q. some_none p q) (λ q. some_none p q) h)
    where
      some_none : (p : ℕ) → Some p ≡ None → ⊥
      some_none p q = cc
  takes_at (Some p) (Some q) h =
      ⊎_elim (λ z. let f : ⊥ = cc in absurd f)
      (λ z.
      let pq : p ≡ q =
      cc in
      subst
      (λ q. SameOutcome (Takes (λ byte. moved_on open_storage e c p (Some byte) c.memory)) (Takes (λ byte. moved_on round_storage e r q byte r.memory)))
      pq (λ byte. moved_agrees p (Some byte) byte c.memory r.memory refl same.memory)) h

  next_same : (next_pc open_storage e.next c.pc c.t (top_cell c.return_stack.below) ≡ None) ⊎ (next_pc open_storage e.next c.pc c.t (top_cell c.return_stack.below) ≡ next_pc round_storage e.next r.pc r.t (ring_top r.return_stack))
  next_same =
      subst
      (λ pc.
      (next_pc open_storage e.next c.pc c.t (top_cell c.return_stack.below) ≡ None)
      ⊎ (next_pc open_storage e.next c.pc c.t (top_cell c.return_stack.below) ≡ next_pc round_storage e.next pc r.t (ring_top r.return_stack))) same.pc
      (next_agrees e.next c.pc c.t (top_cell c.return_stack.below) r.t (ring_top r.return_stack) same.t (tops_agrees _ _ same.return_stack))

  goes_agrees : (x : Reach (Option ℕ)) (y : Reach ℕ) → SameReach x y → SameOutcome (goes_on open_storage e c x) (goes_on round_storage e r y)
  goes_agrees (Faults Missing) y h = tt
  goes_agrees (Faults (By end)) (Faults s) h = h
  goes_agrees (Faults (By end)) (Reaches cell m d) h = absurd h
  goes_agrees (Faults (By end)) Asks h = absurd h
  goes_agrees (Reaches cell m d) (Reaches cell' m' d') h = goes_at _ _ cell cell' m m' d d' next_same h.0 h.1 h.2
  goes_agrees (Reaches cell m d) (Faults s) h = absurd h
  goes_agrees (Reaches cell m d) Asks h = absurd h
  goes_agrees Asks Asks h = takes_at _ _ next_same
  goes_agrees Asks (Reaches cell m d) h = absurd h
  goes_agrees Asks (Faults s) h = absurd h

  applied_agrees : (data_start : ℕ) → SameOutcome (applied open_storage data_start e c) (applied round_storage data_start e r)
  applied_agrees data_start =
      goes_agrees _ _
      (subst (λ m. SameReach (accesses open_storage data_start e.fetches e.stores c.memory c.t (top_cell c.data_stack.below)) (accesses round_storage data_start e.fetches e.stores m r.t (ring_top r.data_stack))) same.memory
      (accesses_agrees data_start e.fetches e.stores c.memory c.t (top_cell c.data_stack.below) r.t (ring_top r.data_stack) same.t (tops_agrees _ _ same.data_stack)))

-- one instruction of a run
outcome_agrees : (e : Effect) (o : Transition (Option ℕ) Tape) (o' : Transition ℕ RingCells) (w : OpenConfiguration) (r : RoundConfiguration) →
    w.stop ≡ r.stop → SameOutcome o o' → Agrees w r → (with_outcome e o w).stop ≢ Some Missing → Agrees (with_outcome e o w) (with_outcome e o' r)
outcome_agrees e (Terminates Missing) o' w r st h a never = absurd (never refl)
outcome_agrees e (Terminates (By end)) (Terminates s) w r st h a never = record { core = a.core; input = a.input; printed = a.printed; data_depth = a.data_depth; return_depth = a.return_depth; stop = ap Some h }
outcome_agrees e (Terminates (By end)) (Advances c d) w r st h a never = absurd h
outcome_agrees e (Terminates (By end)) (Takes f) w r st h a never = absurd h
outcome_agrees e (Advances c d) (Advances c' d') w r st h a never =
    record {
      core = h.0;
      input = a.input;
      printed = ap (λ p. printed_by d p) a.printed ∙ ap (λ x. printed_by x r.printed) h.1;
      data_depth = ap (λ z. z +ℤ e.data_move) a.data_depth;
      return_depth = ap (λ z. z +ℤ e.return_move) a.return_depth;
      stop = ap stop_of_output h.1;
    }
outcome_agrees e (Advances c d) (Terminates s) w r st h a never = absurd h
outcome_agrees e (Advances c d) (Takes f) w r st h a never = absurd h
outcome_agrees e (Takes f) (Takes f') w r st h a never = subst (λ i. Agrees (taken_on e f w.input w) (taken_on e f' i r)) a.input (taken w.input)
  where
    taken : (i : List ℕ) → Agrees (taken_on e f i w) (taken_on e f' i r)
    taken [] = record { core = a.core; input = a.input; printed = a.printed; data_depth = a.data_depth; return_depth = a.return_depth; stop = refl }
    taken (byte ∷ i) = record { core = h byte; input = refl; printed = a.printed; data_depth = ap (λ z. z +ℤ e.data_move) a.data_depth; return_depth = ap (λ z. z +ℤ e.return_move) a.return_depth; stop = refl }
outcome_agrees e (Takes f) (Terminates s) w r st h a never = absurd h
outcome_agrees e (Takes f) (Advances c d) w r st h a never = absurd h

made_agrees : (s : Option Stop) (data_start : ℕ) (w : OpenConfiguration) (r : RoundConfiguration) → w.stop ≡ s → Agrees w r → FitsRings w →
    (after_effect s open_storage data_start (effect_at w.core) w).stop ≢ Some Missing →
    Agrees (after_effect s open_storage data_start (effect_at w.core) w) (after_effect s round_storage data_start (effect_at r.core) r)
made_agrees (Some stop) data_start w r e a p never = a
made_agrees None data_start w r e a p never =
    subst (λ f. Agrees (after_effect None open_storage data_start (effect_at w.core) w) (after_effect None round_storage data_start f r)) same_effect
    (outcome_agrees (effect_at w.core) _ _ w r a.stop (applied_agrees (effect_at w.core) w.core r.core a.core p.data_within p.return_within (p.data_writes e) (p.return_writes e) data_start) a never)
  where
    same_effect : effect_at w.core ≡ effect_at r.core
    same_effect = ap (λ pc. effect pc (decoded (slice_index w.core.memory pc))) a.core.pc ∙ ap (λ m. effect r.core.pc (decoded (slice_index m r.core.pc))) a.core.memory

pub run_stays : (k data_start : ℕ) (stop : Stop) (w : OpenConfiguration) → w.stop ≡ Some stop → run open_storage data_start k w ≡ w
run_stays zero data_start stop w e = refl
run_stays (suc k) data_start stop w e =
    let same : advanced w.stop open_storage data_start w ≡ w = ap (λ s. advanced s open_storage data_start w) e in
    ap (run open_storage data_start k) same ∙ run_stays k data_start stop w e

pub instruction_does_the_same : InstructionDoesTheSame
instruction_does_the_same data_start w r a p never =
    subst (λ s. Agrees (advanced w.stop open_storage data_start w) (advanced s round_storage data_start r)) a.stop (made_agrees w.stop data_start w r refl a p never)

run_agrees : (n data_start : ℕ) (w : OpenConfiguration) (r : RoundConfiguration) → Agrees w r → BeforeEach FitsRings data_start n w →
    (run open_storage data_start n w).stop ≢ Some Missing → Agrees (run open_storage data_start n w) (run round_storage data_start n r)
run_agrees zero data_start w r a p never = a
run_agrees (suc n) data_start w r a p never =
    let next = advanced w.stop open_storage data_start w in
    let never' : next.stop ≢ Some Missing = λ e. never (ap (λ x. x.stop) (run_stays n data_start Missing next e) ∙ e) in
    run_agrees n data_start next (advanced r.stop round_storage data_start r) (instruction_does_the_same data_start w r a p.0 never') p.1 never

start_stack : StackAgrees blank empty_ring
start_stack = record { at = refl; size = refl; low = omega arith; cells = λ j lt. here j }
  where
    here : (j : ℕ) → CellAgrees (get_or [] j None) (slice_index empty_ring.cells ((0 + 32 - j) % 32))
    here zero = tt
    here (suc j) = tt

pub runs_do_the_same : RunsDoTheSame
runs_do_the_same image input n p never =
    run_agrees n image.data_start (begun (open_start image) input) (begun (round_start image) input)
    (record { core = record { pc = refl; t = tt; data_stack = start_stack; return_stack = start_stack; memory = refl }; input = refl; printed = refl; data_depth = refl; return_depth = refl; stop = refl })
    p never
