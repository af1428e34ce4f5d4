-- What the machine code around a typed word does.
use Rattle.std.specs.Prelude.{ℕ, suc, ◌+◌, ◌*◌, ◌<◌, ◌≤◌, ◌≡◌, ◌⊎◌, List, [], ◌∷◌, ◌++◌, length, slice_index, Option, Some}
use Rattle.forth_program.specs.State.{World}
use Rattle.word_laws.specs.Standing.{standing_at_depths, machine_at}
use Rattle.typed_code.specs.MachineCode.{user_cells, save, load, run_code, run_call, HasMachineCode, HasUserCells, saved, with_return_base}
use Rattle.typed_code.specs.Standing.{Surroundings, stands_at, called_from, place_of, Leads}

-- LOAD returns with the user's cells on the data stack, where there were none; all else is as before
abbrev pub LoadPutsCells : Type 0
LoadPutsCells =
    (memory c : List ℕ) (address : ℕ) (s : Surroundings) → HasMachineCode memory → HasUserCells memory c → length c ≤ 31 →
    Leads (13 * length c + 10) (length c + 3) (length s.returns + 1) load [] memory (called_from address s) (place_of address) c memory s (Some address ∷ [])

-- SAVE returns with no data cell, where these were
abbrev pub SavePutsBack : Type 0
SavePutsBack =
    (memory c : List ℕ) (address : ℕ) (s : Surroundings) → HasMachineCode memory → length c ≤ 31 →
    Leads (12 * length c + 13) (length c + 2) (length s.returns + 1) save c memory (called_from address s) (place_of address) [] (saved c memory) s (Some address ∷ [])

-- then they are the user's cells, and no other cell of memory is changed
pub record Keeps (memory c : List ℕ) : Type 0 where
  pub code : HasMachineCode (saved c memory)
  pub cells : HasUserCells (saved c memory) c
  pub others : (place : ℕ) → (place < user_cells) ⊎ (user_cells + length c < place) → slice_index (saved c memory) place ≡ slice_index memory place

abbrev pub SavedIsKept : Type 0
SavedIsKept = (memory c : List ℕ) → HasMachineCode memory → length c ≤ 31 → Keeps memory c

-- RUN-CODE keeps the pointers in RETURN-BASE and comes to RUN-CALL with the user's cells
abbrev pub RunCodeLoads : Type 0
RunCodeLoads =
    (memory c : List ℕ) (s : Surroundings) → HasMachineCode memory → HasUserCells memory c → length c ≤ 31 →
    Leads (13 * length c + 15) (length c + 3) (length s.returns + 1) run_code [] memory s run_call c (with_return_base (length s.returns) memory) s (Some (2 * run_call) ∷ [])

-- a typed word that comes from RUN-CALL to the cell behind it in k instructions, with cells d, any memory that has the machine code, and
-- any input and prints: RUN-CODE returns with no data cell and d as the user's cells, in 29 instructions, 13 for each cell before, 12 for
-- each cell behind, and k
abbrev pub TypedWordsComeBack : Type 0
TypedWordsComeBack =
    (memory c memory' d input printed : List ℕ) (address k high return_high : ℕ) (s : Surroundings) → HasMachineCode memory → HasUserCells memory c →
    length c ≤ 31 → HasMachineCode memory' → length d ≤ 31 → length c + 3 ≤ high → length d + 2 ≤ high → length s.returns + 2 ≤ return_high →
    Leads k high return_high run_call c (with_return_base (suc (length s.returns)) memory) (called_from address s) (run_call + 1) d memory'
    (called_from address (record s { input = input; printed = printed })) [] →
    Leads (29 + 13 * length c + 12 * length d + k) high return_high run_code [] memory (called_from address s) (place_of address) [] (saved d memory')
    (record s { input = input; printed = printed }) (Some address ∷ [])

-- a jump leads to its place, as that of an execution token does
abbrev pub JumpsLead : Type 0
JumpsLead =
    (place target high return_high : ℕ) (memory c : List ℕ) (s : Surroundings) → slice_index memory place ≡ target → target < 0x2000 → length c ≤ high →
    length s.returns ≤ return_high → Leads 1 high return_high place c memory s target c memory s []

-- and a call of a routine that comes back leads to the cell behind it, with what the routine leaves: so the call at RUN-CALL does
abbrev pub CallsLeadBehind : Type 0
CallsLeadBehind =
    (place target k high return_high : ℕ) (memory c memory' d : List ℕ) (s s' : Surroundings) → slice_index memory place ≡ 0x4000 + target → target < 0x2000 →
    place + 1 < 0x2000 → length c ≤ high → length s.returns ≤ return_high →
    Leads k high return_high target c memory (called_from (2 * (place + 1)) s) (place + 1) d memory' s' (Some (2 * (place + 1)) ∷ []) →
    Leads (1 + k) high return_high place c memory s (place + 1) d memory' s' []

-- where memory is code and data space, the machine stands as it does where a source stands
abbrev pub StandsAlike : Type 0
StandsAlike =
    (code c : List ℕ) (place : ℕ) (s : Surroundings) (data_above return_above : List (Option ℕ)) (w : World) → w.input ≡ s.input → w.printed ≡ s.printed →
    standing_at_depths (machine_at code place s.returns data_above return_above) c w ≡ stands_at place c (code ++ w.space) s data_above return_above
