-- Instructions do not see cells before data space: a cell that is not executed may be any.
use Rattle.std.proofs.Common.{◌≡◌, ◌≢◌, ℕ, zero, suc, ◌/◌, ◌<◌, ◌≤◌, ◌==◌, ◌&&◌, Bool, true, false, if◌then◌else◌, List, [], ◌∷◌, length, slice_index, slice_set, Option, Some, None, refl, sym, ap, ◌∙◌, arith}
use Rattle.std.specs.Prelude.{not, nat_le, nat_lt}
use Rattle.std.proofs.lemmas.Bool.Decides.{nat_tests}
use Rattle.std.proofs.lemmas.List.{length-set, set-get_or, get_or-set_same, get_or-set_other}
use Rattle.console_ports.specs.Ports.{access_at, even}
use Rattle.console_ports.specs.declared.ports.Access.{Access}
use Rattle.console_ports.specs.declared.ports.Access.TheVariants.{Data, Print, Key, Halt, Outside}
use Rattle.j1_simulator.specs.declared.effects.Effect.{Effect}
use Rattle.j1_simulator.specs.declared.effects.Output.TheVariants.{Silent}
use Rattle.j1_simulator.specs.Step.{Core, Stop, Reach, Reaches, Asks, Faults, Transition, Advances, Takes, Terminates, fetched, stored, exchanged, accesses, next_pc, goes_on, applied}
use Rattle.j1_simulator.specs.OpenMachine.{Tape, top_cell, open_storage}
use Rattle.j1_simulator.specs.Run.{taken_on, with_outcome, after_effect}
use Rattle.word_laws.specs.Rings.{OpenConfiguration}

abbrev choice : Bool → Bool → ℕ → Bool → Access
choice low high a stores =
    if low && high then Data (a / 2)
    else if even a == 0x4000 && stores then Print
    else if even a == 0x4002 && not stores then Key
    else if even a == 0x4004 && stores then Halt
    else Outside (even a)

no_port : (x y z : Bool) (a i : ℕ) → (if x then Print else if y then Key else if z then Halt else Outside (even a)) ≡ Data i → ⊥
no_port true y z a i e = cc
no_port false true z a i e = cc
no_port false false true a i e = cc
no_port false false false a i e = cc

-- an access to memory is to data space
data_high : (data_start : ℕ) (stores : Bool) (a i : ℕ) → access_at data_start stores a ≡ Data i → data_start / 2 ≤ i
data_high data_start stores a i e = by (nat_lt a 0x4000) (nat_le data_start (even a)) refl refl e
  where
    by : (low high : Bool) → nat_lt a 0x4000 ≡ low → nat_le data_start (even a) ≡ high → choice low high a stores ≡ Data i → data_start / 2 ≤ i
    by true true l h e = let same : a / 2 ≡ i = cc in let le : data_start ≤ even a = grind (arith, nat_tests) in omega (arith, le, same)
    by true false l h e = absurd (no_port (even a == 0x4000 && stores) (even a == 0x4002 && not stores) (even a == 0x4004 && stores) a i e)
    by false high l h e = absurd (no_port (even a == 0x4000 && stores) (even a == 0x4002 && not stores) (even a == 0x4004 && stores) a i e)

-- two stores at different places
set_turned : (l : List ℕ) (i j a b : ℕ) → i ≢ j → slice_set (slice_set l i a) j b ≡ slice_set (slice_set l j b) i a
set_turned [] zero zero a b n = refl
set_turned [] zero (suc j) a b n = refl
set_turned [] (suc i) zero a b n = refl
set_turned [] (suc i) (suc j) a b n = refl
set_turned (x ∷ l) zero zero a b n = absurd (n refl)
set_turned (x ∷ l) zero (suc j) a b n = refl
set_turned (x ∷ l) (suc i) zero a b n = refl
set_turned (x ∷ l) (suc i) (suc j) a b n = ap (λ l. x ∷ l) (set_turned l i j a b (λ e. n (ap suc e)))

module _ (x v data_start : ℕ) (below : x < data_start / 2) where
  -- the cell at x is v
  abbrev pub set_core : Core (Option ℕ) Tape → Core (Option ℕ) Tape
  set_core core = record core { memory = slice_set core.memory x v }

  abbrev pub set_cell : OpenConfiguration → OpenConfiguration
  set_cell w = record w { core = set_core w.core }

  abbrev set_reach : Reach (Option ℕ) → Reach (Option ℕ)
  set_reach (Reaches cell memory output) = Reaches cell (slice_set memory x v) output
  set_reach Asks = Asks
  set_reach (Faults stop) = Faults stop

  abbrev set_transition : Transition (Option ℕ) Tape → Transition (Option ℕ) Tape
  set_transition (Advances core output) = Advances (set_core core) output
  set_transition (Takes next) = Takes (λ byte. set_core (next byte))
  set_transition (Terminates stop) = Terminates stop

  other : (stores : Bool) (a i : ℕ) → access_at data_start stores a ≡ Data i → i ≢ x
  other stores a i e same = absurd (let high = data_high data_start stores a i e in omega (arith, high, same))

  fetched_set : (memory : List ℕ) (a : ℕ) (m : Access) → access_at data_start false a ≡ m → fetched open_storage (slice_set memory x v) m ≡ set_reach (fetched open_storage memory m)
  fetched_set memory a (Data i) e = ap (λ cell. Reaches (Some cell) (slice_set memory x v) Silent) (get_or-set_other memory x i v 0 (other false a i e))
  fetched_set memory a Key e = refl
  fetched_set memory a (Outside address) e = refl
  fetched_set memory a Print e = refl
  fetched_set memory a Halt e = refl

  stored_set : (cell : Option ℕ) (value : ℕ) (memory : List ℕ) (a : ℕ) (m : Access) → access_at data_start true a ≡ m → stored open_storage cell value (slice_set memory x v) m ≡ set_reach (stored open_storage cell value memory m)
  stored_set cell value memory a (Data i) e = ap (λ l. Reaches cell l Silent) (set_turned memory x i v value (λ same. other true a i e (sym same)))
  stored_set cell value memory a Key e = refl
  stored_set cell value memory a (Outside address) e = refl
  stored_set cell value memory a Print e = refl
  stored_set cell value memory a Halt e = refl

  exchanged_set : (address value : ℕ) (memory : List ℕ) (a : ℕ) (m : Access) → access_at data_start true a ≡ m → exchanged open_storage address value (slice_set memory x v) m ≡ set_reach (exchanged open_storage address value memory m)
  exchanged_set address value memory a (Data i) e =
      ap (λ cell. Reaches (Some cell) (slice_set (slice_set memory x v) i value) Silent) (get_or-set_other memory x i v 0 (other true a i e))
      ∙ ap (λ l. Reaches (Some (slice_index memory i)) l Silent) (set_turned memory x i v value (λ same. other true a i e (sym same)))
  exchanged_set address value memory a Key e = refl
  exchanged_set address value memory a (Outside other) e = refl
  exchanged_set address value memory a Print e = refl
  exchanged_set address value memory a Halt e = refl

  accesses_set : (fetches stores : Bool) (memory : List ℕ) (t n : Option ℕ) → accesses open_storage data_start fetches stores (slice_set memory x v) t n ≡ set_reach (accesses open_storage data_start fetches stores memory t n)
  accesses_set false false memory t n = refl
  accesses_set true false memory None n = refl
  accesses_set true false memory (Some a) n = fetched_set memory a (access_at data_start false a) refl
  accesses_set false true memory None n = refl
  accesses_set false true memory (Some a) None = refl
  accesses_set false true memory (Some a) (Some value) = stored_set (Some a) value memory a (access_at data_start true a) refl
  accesses_set true true memory None n = refl
  accesses_set true true memory (Some a) None = refl
  accesses_set true true memory (Some a) (Some value) = exchanged_set a value memory a (access_at data_start true a) refl

  known_set : (e : Effect) (core : Core (Option ℕ) Tape) (r : Reach (Option ℕ)) (next : Option ℕ) → next_pc open_storage e.next core.pc core.t (top_cell core.return_stack.below) ≡ next →
      goes_on open_storage e (set_core core) (set_reach r) ≡ set_transition (goes_on open_storage e core r)
  known_set e core (Faults stop) next q = refl
  known_set e core (Reaches cell memory output) None q = rw q refl
  known_set e core (Reaches cell memory output) (Some pc) q = rw q refl
  known_set e core Asks None q = rw q refl
  known_set e core Asks (Some pc) q = rw q refl

  applied_set : (e : Effect) (core : Core (Option ℕ) Tape) → applied open_storage data_start e (set_core core) ≡ set_transition (applied open_storage data_start e core)
  applied_set e core =
      ap (goes_on open_storage e (set_core core)) (accesses_set e.fetches e.stores core.memory core.t (top_cell core.data_stack.below))
      ∙ known_set e core (accesses open_storage data_start e.fetches e.stores core.memory core.t (top_cell core.data_stack.below)) _ refl

  taken_set : (e : Effect) (next : ℕ → Core (Option ℕ) Tape) (input : List ℕ) (w : OpenConfiguration) → taken_on e (λ byte. set_core (next byte)) input (set_cell w) ≡ set_cell (taken_on e next input w)
  taken_set e next [] w = refl
  taken_set e next (byte ∷ input) w = refl

  outcome_set : (e : Effect) (o : Transition (Option ℕ) Tape) (w : OpenConfiguration) → with_outcome e (set_transition o) (set_cell w) ≡ set_cell (with_outcome e o w)
  outcome_set e (Terminates stop) w = refl
  outcome_set e (Takes next) w = taken_set e next w.input w
  outcome_set e (Advances core output) w = refl

  -- an instruction does the same, whatever that cell is
  pub after_set : (stop : Option Stop) (e : Effect) (w : OpenConfiguration) → after_effect stop open_storage data_start e (set_cell w) ≡ set_cell (after_effect stop open_storage data_start e w)
  after_set (Some stop) e w = refl
  after_set None e w = ap (λ o. with_outcome e o (set_cell w)) (applied_set e w.core) ∙ outcome_set e (applied open_storage data_start e w.core) w

-- ---- memory keeps its size, and its cells before data space

abbrev ReachOf : ℕ → Reach (Option ℕ) → Type 0
ReachOf n (Reaches cell memory output) = length memory ≡ n
ReachOf n Asks = Unit {0}
ReachOf n (Faults stop) = Unit {0}

abbrev TransitionOf : ℕ → Transition (Option ℕ) Tape → Type 0
TransitionOf n (Advances core output) = length core.memory ≡ n
TransitionOf n (Takes next) = (byte : ℕ) → length (next byte).memory ≡ n
TransitionOf n (Terminates stop) = Unit {0}

module _ (data_start : ℕ) where
  fetched_size : (memory : List ℕ) (m : Access) → ReachOf (length memory) (fetched open_storage memory m)
  fetched_size memory (Data i) = refl
  fetched_size memory Key = tt
  fetched_size memory (Outside address) = tt
  fetched_size memory Print = tt
  fetched_size memory Halt = tt

  stored_size : (cell : Option ℕ) (value : ℕ) (memory : List ℕ) (m : Access) → ReachOf (length memory) (stored open_storage cell value memory m)
  stored_size cell value memory (Data i) = length-set memory i value
  stored_size cell value memory Key = tt
  stored_size cell value memory (Outside address) = tt
  stored_size cell value memory Print = refl
  stored_size cell value memory Halt = refl

  exchanged_size : (address value : ℕ) (memory : List ℕ) (m : Access) → ReachOf (length memory) (exchanged open_storage address value memory m)
  exchanged_size address value memory (Data i) = length-set memory i value
  exchanged_size address value memory Key = tt
  exchanged_size address value memory (Outside other) = tt
  exchanged_size address value memory Print = tt
  exchanged_size address value memory Halt = tt

  accesses_size : (fetches stores : Bool) (memory : List ℕ) (t n : Option ℕ) → ReachOf (length memory) (accesses open_storage data_start fetches stores memory t n)
  accesses_size false false memory t n = refl
  accesses_size true false memory None n = tt
  accesses_size true false memory (Some a) n = fetched_size memory (access_at data_start false a)
  accesses_size false true memory None n = tt
  accesses_size false true memory (Some a) None = tt
  accesses_size false true memory (Some a) (Some value) = stored_size (Some a) value memory (access_at data_start true a)
  accesses_size true true memory None n = tt
  accesses_size true true memory (Some a) None = tt
  accesses_size true true memory (Some a) (Some value) = exchanged_size a value memory (access_at data_start true a)

  goes_size : (e : Effect) (core : Core (Option ℕ) Tape) (r : Reach (Option ℕ)) (next : Option ℕ) → next_pc open_storage e.next core.pc core.t (top_cell core.return_stack.below) ≡ next →
      ReachOf (length core.memory) r → TransitionOf (length core.memory) (goes_on open_storage e core r)
  goes_size e core (Faults stop) next q h = tt
  goes_size e core (Reaches cell memory output) None q h = rw q tt
  goes_size e core (Reaches cell memory output) (Some pc) q h = rw q h
  goes_size e core Asks None q h = rw q tt
  goes_size e core Asks (Some pc) q h = rw q (λ byte. refl)

  taken_size : (e : Effect) (next : ℕ → Core (Option ℕ) Tape) (input : List ℕ) (w : OpenConfiguration) → ((byte : ℕ) → length (next byte).memory ≡ length w.core.memory) → length (taken_on e next input w).core.memory ≡ length w.core.memory
  taken_size e next [] w h = refl
  taken_size e next (byte ∷ input) w h = h byte

  outcome_size : (e : Effect) (o : Transition (Option ℕ) Tape) (w : OpenConfiguration) → TransitionOf (length w.core.memory) o → length (with_outcome e o w).core.memory ≡ length w.core.memory
  outcome_size e (Terminates stop) w h = refl
  outcome_size e (Takes next) w h = taken_size e next w.input w h
  outcome_size e (Advances core output) w h = h

  pub after_size : (stop : Option Stop) (e : Effect) (w : OpenConfiguration) → length (after_effect stop open_storage data_start e w).core.memory ≡ length w.core.memory
  after_size (Some stop) e w = refl
  after_size None e w =
      outcome_size e (applied open_storage data_start e w.core) w
      (goes_size e w.core (accesses open_storage data_start e.fetches e.stores w.core.memory w.core.t (top_cell w.core.data_stack.below)) _ refl
      (accesses_size e.fetches e.stores w.core.memory w.core.t (top_cell w.core.data_stack.below)))

-- a cell that memory has
pub record Keeps (x cell : ℕ) (w : OpenConfiguration) : Type 0 where
  pub cell_is : slice_index w.core.memory x ≡ cell
  pub inside : x < length w.core.memory

pub kept : (x cell data_start : ℕ) → x < data_start / 2 → (stop : Option Stop) (e : Effect) (w : OpenConfiguration) → Keeps x cell w → Keeps x cell (after_effect stop open_storage data_start e w)
kept x cell data_start below stop e w k =
    let same : slice_set w.core.memory x cell ≡ w.core.memory = ap (λ c. slice_set w.core.memory x c) (sym k.cell_is) ∙ set-get_or w.core.memory x 0 in
    let is : set_cell x cell data_start below w ≡ w = ap (λ m. record w { core = record w.core { memory = m } }) same in
    let after = after_effect stop open_storage data_start e w in
    let fixed : after_effect stop open_storage data_start e w ≡ set_cell x cell data_start below (after_effect stop open_storage data_start e w) =
    ap (after_effect stop open_storage data_start e) (sym is) ∙ after_set x cell data_start below stop e w in
    let long : x < length (after_effect stop open_storage data_start e w).core.memory = let i = k.inside in omega (arith, i, after_size data_start stop e w) in
    record {
      cell_is = ap (λ u. slice_index u.core.memory x) fixed ∙ get_or-set_same (after_effect stop open_storage data_start e w).core.memory x cell 0 long;
      inside = long;
    }
