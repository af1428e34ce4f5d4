-- A fetch, and a store with its drop, do on the open machine what they do in the source's world.
use Rattle.std.proofs.Common.{◌≡◌, ℕ, ◌/◌, true, false, List, [], ◌∷◌, ◌++◌, length, Option, Some, ℤ, pos, negsuc, ◌+ℤ◌, refl, ap}
use Rattle.std.proofs.lemmas.List.{get_or-append_right, set-append_right}
use Rattle.j1_table.specs.Instruction.{decoded}
use Rattle.console_ports.specs.Ports.{access_at}
use Rattle.console_ports.specs.declared.ports.Access.{Access as Met}
use Rattle.console_ports.specs.declared.ports.Access.TheVariants as met
use Rattle.forth_program.specs.State.{Access, World, State, Gives, ◌▸◌}
use Rattle.forth_program.specs.Access.{taken, fetch_by, store_by, fetch, store}
use Rattle.forth_program.specs.Step.{on_cells}
use Rattle.j1_simulator.specs.Effect.{effect, following}
use Rattle.j1_simulator.specs.Step.{Asks, fetched, stored, goes_on}
use Rattle.j1_simulator.specs.OpenMachine.{open_storage, top_cell}
use Rattle.j1_simulator.specs.Run.{with_outcome}
use Rattle.word_laws.specs.Rings.{OpenConfiguration}
use Rattle.word_laws.specs.Standing.{data_places, return_places, standing, machine_at}
use Rattle.word_laws.proofs.Accesses.{Fetches, Stores, fetches, stores}
use Rattle.word_laws.proofs.Rows.{feed, RowMeans}

-- a machine with another memory
abbrev remembering : List ℕ → OpenConfiguration → OpenConfiguration
remembering memory w = record w { core = record w.core { memory = memory } }

abbrev world_of : ℕ → List ℕ → List ℕ → List ℕ → List Access → World
world_of data_start space input printed made = record { data_start = data_start; space = space; input = input; printed = printed; made = made }

module _ (code : List ℕ) (base : List (Option ℕ)) (s : State) where
  -- an input byte that is taken
  key_row : (pc a : ℕ) (c : List ℕ) (da ra : List (Option ℕ)) (d b : ℤ) (n : ℕ) (space i p : List ℕ) (m : List Access) →
      RowMeans code (following pc) base (d +ℤ pos 0) (b +ℤ pos 0)
      (with_outcome (effect pc (decoded 0x6C00))
      (goes_on open_storage (effect pc (decoded 0x6C00)) (standing (machine_at code pc (return_places s.entries base) da ra) (a ∷ c) d b (world_of n space i p m)).core
      Asks) (standing (machine_at code pc (return_places s.entries base) da ra) (a ∷ c) d b (world_of n space i p m)))
      (on_cells (taken i (world_of n space i p m) ▸ λ x. Gives (x ∷ c)) s)
  key_row pc a c da ra d b n space [] p m = record { stop_is = refl; memory = refl; input = refl; printed = refl }
  key_row pc a c da ra d b n space (byte ∷ i) p m = (_, _, refl)

  module _ (o : World) (size : length code ≡ o.data_start / 2) where
    fetch_by_row : (x : Met) (pc a : ℕ) (c : List ℕ) (da ra : List (Option ℕ)) (d b : ℤ) → Fetches o.data_start x →
        RowMeans code (following pc) base (d +ℤ pos 0) (b +ℤ pos 0)
        (with_outcome (effect pc (decoded 0x6C00))
        (goes_on open_storage (effect pc (decoded 0x6C00)) (standing (machine_at code pc (return_places s.entries base) da ra) (a ∷ c) d b o).core
        (fetched open_storage (code ++ o.space) x)) (standing (machine_at code pc (return_places s.entries base) da ra) (a ∷ c) d b o))
        (on_cells (fetch_by o x ▸ λ v. Gives (v ∷ c)) s)
    fetch_by_row (met.Data i) pc a c da ra d b h =
        (da, ra, ap (λ v. standing (machine_at code (following pc) (return_places s.entries base) da ra) (v ∷ c) (d +ℤ pos 0) (b +ℤ pos 0) o) (get_or-append_right code o.space (o.data_start / 2) i 0 size h))
    fetch_by_row met.Key pc a c da ra d b h = key_row pc a c da ra d b o.data_start o.space o.input o.printed o.made
    fetch_by_row (met.Outside address) pc a c da ra d b h = record { stop_is = refl; memory = refl; input = refl; printed = refl }
    fetch_by_row met.Print pc a c da ra d b h = absurd h
    fetch_by_row met.Halt pc a c da ra d b h = absurd h

    pub fetch_row : (pc a : ℕ) (c : List ℕ) (da ra : List (Option ℕ)) (d b : ℤ) →
        RowMeans code (following pc) base (d +ℤ pos 0) (b +ℤ pos 0) (feed o.data_start (decoded 0x6C00 ∷ []) (standing (machine_at code pc (return_places s.entries base) da ra) (a ∷ c) d b o)) (on_cells (fetch a o ▸ λ v. Gives (v ∷ c)) s)
    fetch_row pc a c da ra d b = fetch_by_row (access_at o.data_start false a) pc a c da ra d b (fetches o.data_start a)

    store_by_row : (x : Met) (pc a v : ℕ) (c : List ℕ) (da ra : List (Option ℕ)) (d b : ℤ) → Stores o.data_start x →
        RowMeans code (following (following pc)) base (d +ℤ negsuc 0 +ℤ negsuc 0) (b +ℤ pos 0 +ℤ pos 0)
        (feed o.data_start (decoded 0x6103 ∷ [])
        (with_outcome (effect pc (decoded 0x6023))
        (goes_on open_storage (effect pc (decoded 0x6023)) (standing (machine_at code pc (return_places s.entries base) da ra) (a ∷ v ∷ c) d b o).core
        (stored open_storage (Some a) v (code ++ o.space) x)) (standing (machine_at code pc (return_places s.entries base) da ra) (a ∷ v ∷ c) d b o)))
        (on_cells (store_by o v x ▸ λ _. Gives c) s)
    store_by_row (met.Data i) pc a v c da ra d b h = (
      _,
      _,
      ap
          (λ m.
          remembering m
          (standing (machine_at code (following (following pc)) (return_places s.entries base) (top_cell (data_places c) ∷ Some v ∷ da) ra) c
          (d +ℤ negsuc 0 +ℤ negsuc 0) (b +ℤ pos 0 +ℤ pos 0) o)) (set-append_right code o.space (o.data_start / 2) i v size h),
    )
    store_by_row met.Print pc a v c da ra d b h = (_, _, refl)
    store_by_row met.Halt pc a v c da ra d b h = record { stop_is = refl; memory = refl; input = refl; printed = refl }
    store_by_row (met.Outside address) pc a v c da ra d b h = record { stop_is = refl; memory = refl; input = refl; printed = refl }
    store_by_row met.Key pc a v c da ra d b h = absurd h

    pub store_row : (pc a v : ℕ) (c : List ℕ) (da ra : List (Option ℕ)) (d b : ℤ) →
        RowMeans code (following (following pc)) base (d +ℤ negsuc 0 +ℤ negsuc 0) (b +ℤ pos 0 +ℤ pos 0)
        (feed o.data_start (decoded 0x6023 ∷ decoded 0x6103 ∷ []) (standing (machine_at code pc (return_places s.entries base) da ra) (a ∷ v ∷ c) d b o))
        (on_cells (store a v o ▸ λ _. Gives c) s)
    store_row pc a v c da ra d b = store_by_row (access_at o.data_start true a) pc a v c da ra d b (stores o.data_start a)
