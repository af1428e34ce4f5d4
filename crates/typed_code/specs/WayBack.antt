-- The way back to the code before data space that has called by GO: what comes back there, on the open machine and on the chip.
use Rattle.std.specs.Prelude.{ℕ, suc, ◌+◌, ◌*◌, ◌≤◌, ◌≡◌, List, [], ◌∷◌, ◌++◌, length, map, Option, Some}
use Rattle.j1_simulator.specs.OpenMachine.{open_storage}
use Rattle.j1_simulator.specs.RoundMachine.{round_storage}
use Rattle.j1_simulator.specs.Run.{run}
use Rattle.forth_program.specs.Cells.{AreCells}
use Rattle.forth_program.specs.Returns.{Return}
use Rattle.word_laws.specs.Rings.{OpenConfiguration, BeforeEach, Agrees}
use Rattle.word_laws.specs.Bounds.{StaysWithin}
use Rattle.code_layout.specs.Returning.{machine_back}
use Rattle.code_layout.specs.ReturningChip.{RoundConfiguration, RoundReturn, AreRings, round_back}
use Rattle.typed_code.specs.MachineCode.{run_code, run_call, HasMachineCode, HasUserCells, saved, with_return_base}
use Rattle.typed_code.specs.Standing.{Surroundings, stands_at, called_from, place_of, Comes, Leads}

-- a data space, the input left, and what was printed meanwhile
abbrev pub given_back : List ℕ → List ℕ → List ℕ → Return
given_back space input printed = record { space = space; input = input; printed = printed }

-- so many instructions are a return behind GO
pub record GoesBack (count high return_high : ℕ) (code : List ℕ) (back : Return) (from : OpenConfiguration) : Type 0 where
  pub data_above : List (Option ℕ)
  pub return_above : List (Option ℕ)
  pub makes : run open_storage 0x2000 count from ≡ machine_back code (record { back = back; data_above = data_above; return_above = return_above }) from
  pub bounds : BeforeEach (StaysWithin 0 high 0 return_high) 0x2000 count from

-- on the chip they are one that has kept the places of the live cells
pub record GoesBackOnChip (count : ℕ) (code : List ℕ) (back : Return) (from : RoundConfiguration) : Type 0 where
  pub returned : RoundReturn
  pub back_is : returned.back ≡ back
  pub rings : AreRings returned
  pub makes : run round_storage 0x2000 count from ≡ round_back code returned from

-- what takes no data cells, leaves none, and comes to its return address with the code before data space as it was
abbrev pub Returns : ℕ → ℕ → ℕ → ℕ → ℕ → List ℕ → List ℕ → List ℕ → List ℕ → List ℕ → Surroundings → List (Option ℕ) → List (Option ℕ) → Type 0
Returns count high return_high place address memory code space input printed s data_above return_above =
    Comes count high return_high (stands_at place [] memory (called_from address s) data_above return_above) (place_of address) [] (code ++ space)
    (record s { input = input; printed = s.printed ++ printed }) (Some address ∷ [])

-- is a return behind GO
abbrev pub ReturnsGoBack : Type 0
ReturnsGoBack =
    (count high return_high place address : ℕ) (memory code space input printed : List ℕ) (s : Surroundings) (data_above return_above : List (Option ℕ)) →
    Returns count high return_high place address memory code space input printed s data_above return_above →
    GoesBack count high return_high code (given_back space input printed) (stands_at place [] memory (called_from address s) data_above return_above)

-- and one on the chip, where it stays within the rings, all return cells below are known, and the chip stands alike
abbrev pub ReturnsGoBackOnChip : Type 0
ReturnsGoBackOnChip =
    (count high return_high place address : ℕ) (memory code space input printed addresses : List ℕ) (s : Surroundings) (data_above return_above : List (Option ℕ)) (chip : RoundConfiguration) →
    Returns count high return_high place address memory code space input printed s data_above return_above → high ≤ 33 → return_high ≤ 32 → length s.returns + 1 ≤ return_high →
    s.returns ≡ map Some addresses → Agrees (stands_at place [] memory (called_from address s) data_above return_above) chip →
    GoesBackOnChip count code (given_back space input printed) chip

-- storing the user's cells keeps the code before data space, and data space its size and its cells
pub record KeepsCode (code space c : List ℕ) : Type 0 where
  pub after : List ℕ
  pub memory : saved c (code ++ space) ≡ code ++ after
  pub size : length after ≡ length space
  pub cells : AreCells space → AreCells c → AreCells after

abbrev pub SavedKeepsCode : Type 0
SavedKeepsCode = (code space c : List ℕ) → length code ≡ 0x1000 → length c ≤ 31 → KeepsCode code space c

-- so is a typed word as a whole, on the chip: RUN-CODE, reached by GO with the code before data space and no data cell, puts the user's cells onto
-- the data stack; the word comes from RUN-CALL to the cell behind it in k instructions; and what comes back is the data space that the word has
-- left, with the cells that it has left as the user's, its input, and what it has printed
abbrev pub TypedWordsGoBackOnChip : Type 0
TypedWordsGoBackOnChip =
    (code space c space' d input printed addresses : List ℕ) (address k high return_high : ℕ) (s : Surroundings) (data_above return_above : List (Option ℕ)) (chip : RoundConfiguration) →
    length code ≡ 0x1000 → HasMachineCode (code ++ space) → HasUserCells (code ++ space) c → length c ≤ 31 → HasMachineCode (code ++ space') → length d ≤ 31 →
    length c + 3 ≤ high → length d + 2 ≤ high → high ≤ 33 → length s.returns + 2 ≤ return_high → return_high ≤ 32 → s.returns ≡ map Some addresses →
    Leads k high return_high run_call c (with_return_base (suc (length s.returns)) (code ++ space)) (called_from address s) (run_call + 1) d (code ++ space')
    (called_from address (record s { input = input; printed = s.printed ++ printed })) [] →
    Agrees (stands_at run_code [] (code ++ space) (called_from address s) data_above return_above) chip →
    (kept : KeepsCode code space' d) × GoesBackOnChip (29 + 13 * length c + 12 * length d + k) code (given_back kept.after input printed) chip
