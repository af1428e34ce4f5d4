-- One instruction of the open machine: it ends the run or moves on, and code before data space stays.
use Rattle.std.proofs.Common.{◌≡◌, ℕ, ◌-◌, ◌/◌, ◌<◌, ◌≤◌, ◌⊎◌, inl, inr, ⊎_elim, Bool, true, false, List, [], ◌∷◌, ◌++◌, length, Option, Some, None, ◌+ℤ◌, refl, ap, ◌∙◌}
use Rattle.std.specs.Prelude.{slice_index, slice_set}
use Rattle.std.proofs.lemmas.List.{get_or_append_left, set-append_right}
use Rattle.j1_table.specs.declared.instr.Instr.{Instr}
use Rattle.j1_table.specs.Instruction.{decoded}
use Rattle.j1_simulator.specs.Effect.{effect}
use Rattle.console_ports.specs.Ports.{access_at}
use Rattle.console_ports.specs.declared.ports.Access.{Access}
use Rattle.console_ports.specs.declared.ports.Access.TheVariants.{Data, Print, Key, Halt, Outside}
use Rattle.j1_simulator.specs.declared.effects.Effect.{Effect}
use Rattle.j1_simulator.specs.declared.ends.End.TheVariants as ends
use Rattle.j1_simulator.specs.declared.effects.Output.{Output}
use Rattle.j1_simulator.specs.Step.{Stop, By, Missing, Reach, Reaches, Asks, Faults, Advances, Takes, Terminates, if_known, effect_at, fetched, stored, exchanged, accesses, next_pc, moved_on, goes_on}
use Rattle.j1_simulator.specs.OpenMachine.{top_cell, open_storage}
use Rattle.j1_simulator.specs.Run.{after_effect, with_outcome, taken_on}
use Rattle.word_laws.specs.Rings.{OpenConfiguration}
use Rattle.word_laws.proofs.Accesses.{Stores, stores}

-- a memory changes in data space alone
abbrev pub Kept : ℕ → List ℕ → List ℕ → Type 0
Kept data_start old new = (new ≡ old) ⊎ ((i : ℕ) × (v : ℕ) × (data_start / 2 ≤ i) × (new ≡ slice_set old i v))

abbrev KeptBy : ℕ → List ℕ → Reach (Option ℕ) → Type 0
KeptBy data_start old (Reaches cell new output) = Kept data_start old new
KeptBy data_start old Asks = Unit {0}
KeptBy data_start old (Faults stop) = Unit {0}

fetched_kept : (data_start : ℕ) (m : List ℕ) (x : Access) → KeptBy data_start m (fetched open_storage m x)
fetched_kept data_start m (Data i) = inl refl
fetched_kept data_start m Key = tt
fetched_kept data_start m (Outside a) = tt
fetched_kept data_start m Print = tt
fetched_kept data_start m Halt = tt

stored_kept : (data_start : ℕ) (t : Option ℕ) (v : ℕ) (m : List ℕ) (x : Access) → Stores data_start x → KeptBy data_start m (stored open_storage t v m x)
stored_kept data_start t v m (Data i) h = inr (i, v, h, refl)
stored_kept data_start t v m Key h = tt
stored_kept data_start t v m (Outside a) h = tt
stored_kept data_start t v m Print h = inl refl
stored_kept data_start t v m Halt h = inl refl

exchanged_kept : (data_start a v : ℕ) (m : List ℕ) (x : Access) → Stores data_start x → KeptBy data_start m (exchanged open_storage a v m x)
exchanged_kept data_start a v m (Data i) h = inr (i, v, h, refl)
exchanged_kept data_start a v m Key h = tt
exchanged_kept data_start a v m (Outside b) h = tt
exchanged_kept data_start a v m Print h = tt
exchanged_kept data_start a v m Halt h = tt

accesses_kept : (data_start : ℕ) (f s : Bool) (m : List ℕ) (t n : Option ℕ) → KeptBy data_start m (accesses open_storage data_start f s m t n)
accesses_kept data_start false false m t n = inl refl
accesses_kept data_start true false m None n = tt
accesses_kept data_start true false m (Some a) n = fetched_kept data_start m (access_at data_start false a)
accesses_kept data_start false true m None n = tt
accesses_kept data_start false true m (Some a) None = tt
accesses_kept data_start false true m (Some a) (Some v) = stored_kept data_start (Some a) v m (access_at data_start true a) (stores data_start a)
accesses_kept data_start true true m None n = tt
accesses_kept data_start true true m (Some a) None = tt
accesses_kept data_start true true m (Some a) (Some v) = exchanged_kept data_start a v m (access_at data_start true a) (stores data_start a)

-- an instruction ends the run and changes nothing, or moves on to pc
pub record Moves (data_start pc : ℕ) (e : Effect) (w now : OpenConfiguration) : Type 0 where
  pub cell : Option ℕ
  pub memory : List ℕ
  pub kept : Kept data_start w.core.memory memory
  pub core : now.core ≡ moved_on open_storage e w.core pc cell memory
  pub data_depth : now.data_depth ≡ w.data_depth +ℤ e.data_move
  pub return_depth : now.return_depth ≡ w.return_depth +ℤ e.return_move

abbrev pub EndsOrMoves : ℕ → Option ℕ → Effect → OpenConfiguration → OpenConfiguration → Type 0
EndsOrMoves data_start None e w now = (s : Stop) × (now ≡ record w { stop = Some s })
EndsOrMoves data_start (Some pc) e w now = ((s : Stop) × (now ≡ record w { stop = Some s })) ⊎ Moves data_start pc e w now

taken_moves : (data_start pc : ℕ) (e : Effect) (w : OpenConfiguration) (i : List ℕ) → EndsOrMoves data_start (Some pc) e w (taken_on e (λ byte. moved_on open_storage e w.core pc (Some byte) w.core.memory) i w)
taken_moves data_start pc e w [] = inl (By ends.InputEnded, refl)
taken_moves data_start pc e w (byte ∷ i) = inr (record { cell = Some byte; memory = w.core.memory; kept = inl refl; core = refl; data_depth = refl; return_depth = refl })

goes_moves : (data_start : ℕ) (e : Effect) (w : OpenConfiguration) (p : Option ℕ) (cell : Option ℕ) (memory : List ℕ) (output : Output) →
    Kept data_start w.core.memory memory →
    EndsOrMoves data_start p e w (with_outcome e (if_known p (Terminates Missing) (λ pc. Advances (moved_on open_storage e w.core pc cell memory) output)) w)
goes_moves data_start e w None cell memory output k = (Missing, refl)
goes_moves data_start e w (Some pc) cell memory output k = inr (record { cell = cell; memory = memory; kept = k; core = refl; data_depth = refl; return_depth = refl })

asks_moves : (data_start : ℕ) (e : Effect) (w : OpenConfiguration) (p : Option ℕ) →
    EndsOrMoves data_start p e w
    (with_outcome e (if_known p (Terminates Missing) (λ pc. Takes (λ byte. moved_on open_storage e w.core pc (Some byte) w.core.memory))) w)
asks_moves data_start e w None = (Missing, refl)
asks_moves data_start e w (Some pc) = taken_moves data_start pc e w w.input

stops_moves : (data_start : ℕ) (e : Effect) (w : OpenConfiguration) (p : Option ℕ) (s : Stop) → EndsOrMoves data_start p e w (record w { stop = Some s })
stops_moves data_start e w None s = (s, refl)
stops_moves data_start e w (Some pc) s = inl (s, refl)

reach_moves : (data_start : ℕ) (e : Effect) (w : OpenConfiguration) (x : Reach (Option ℕ)) → KeptBy data_start w.core.memory x →
    EndsOrMoves data_start (next_pc open_storage e.next w.core.pc w.core.t (top_cell w.core.return_stack.below)) e w
    (with_outcome e (goes_on open_storage e w.core x) w)
reach_moves data_start e w (Faults s) k = stops_moves data_start e w _ s
reach_moves data_start e w (Reaches cell memory output) k = goes_moves data_start e w _ cell memory output k
reach_moves data_start e w Asks k = asks_moves data_start e w _

-- each instruction of a machine that goes on
pub made_moves : (data_start : ℕ) (e : Effect) (w : OpenConfiguration) → EndsOrMoves data_start (next_pc open_storage e.next w.core.pc w.core.t (top_cell w.core.return_stack.below)) e w (after_effect None open_storage data_start e w)
made_moves data_start e w = reach_moves data_start e w _ (accesses_kept data_start e.fetches e.stores w.core.memory w.core.t (top_cell w.core.data_stack.below))

-- code before data space is never changed
abbrev pub HasCode : List ℕ → OpenConfiguration → Type 0
HasCode code w = (space : List ℕ) × (w.core.memory ≡ code ++ space)

pub kept_code : (data_start : ℕ) (code old new : List ℕ) → length code ≡ data_start / 2 → Kept data_start old new → (space : List ℕ) × (old ≡ code ++ space) → (space : List ℕ) × (new ≡ code ++ space)
kept_code data_start code old new k h b =
    ⊎_elim
    (λ same. (b.0, same ∙ b.1))
    (λ t. (slice_set b.0 (t.0 - data_start / 2) t.1, t.3 ∙ ap (λ m. slice_set m t.0 t.1) b.1 ∙ set-append_right code b.0 (data_start / 2) t.0 t.1 k t.2))
    h

pub effect_here : (code : List ℕ) (w : OpenConfiguration) (i : Instr) → HasCode code w → decoded (slice_index code w.core.pc) ≡ i → w.core.pc < length code → effect_at w.core ≡ effect w.core.pc i
effect_here code w i b has lt =
    ap (λ x. effect w.core.pc (decoded x)) (ap (λ m. slice_index m w.core.pc) b.1 ∙ get_or_append_left code b.0 0 w.core.pc lt) ∙ ap (effect w.core.pc) has
