-- Instructions in a row, wherever they stand.
use Rattle.std.proofs.Common.{ℕ, ◌≡◌, ◌+◌, ◌-◌, ◌≤◌, Bool, true, false, nat_lt, List, [], ◌∷◌, ℤ, ◌+ℤ◌, Option, Some, None, refl, ap, arith}
use Rattle.std.specs.Prelude.{map}
use Rattle.std.proofs.lemmas.Bool.{le-ltb}
use Rattle.j1_table.specs.declared.instr.Instr.{Instr}
use Rattle.j1_table.specs.declared.instr.Instr.TheVariants.{Literal}
use Rattle.j1_table.specs.Instruction.{decoded}
use Rattle.word_table.specs.declared.word.Word.{Word}
use Rattle.word_table.specs.declared.word.Word.TheVariants.{Base, Here, Decimal, Hex}
use Rattle.word_table.specs.Table.{cells_of, cells_from}
use Rattle.forth_program.specs.State.{World, Outcome, Goes, Ends}
use Rattle.j1_simulator.specs.Effect.{effect, following}
use Rattle.j1_simulator.specs.Step.{Stop}
use Rattle.j1_simulator.specs.OpenMachine.{open_storage}
use Rattle.j1_simulator.specs.Run.{after_effect}
use Rattle.word_laws.specs.Rings.{OpenConfiguration}
use Rattle.word_laws.specs.Control.{HoldsInstruction}
use Rattle.word_laws.specs.Standing.{return_places, standing, machine_end, EndedIn, machine_at}

-- of a word, where data space begins at an address
abbrev pub instructions_of : ℕ → Word → List Instr
instructions_of data_start Base = Literal data_start ∷ []
instructions_of data_start Here = Literal (data_start + 4) ∷ decoded 0x6C00 ∷ []
instructions_of data_start Decimal = decoded 0x800A ∷ Literal data_start ∷ decoded 0x6023 ∷ decoded 0x6103 ∷ []
instructions_of data_start Hex = decoded 0x8010 ∷ Literal data_start ∷ decoded 0x6023 ∷ decoded 0x6103 ∷ []
instructions_of data_start word = map decoded (cells_of word)

-- a cell from 0x8000 on is a literal
pub literal_of : (value : ℕ) → decoded (0x8000 + value) ≡ Literal value
literal_of value =
    let a : nat_lt (0x8000 + value) 0x2000 ≡ false = not_below value 0x2000 (omega arith) in
    let b : nat_lt (0x8000 + value) 0x4000 ≡ false = not_below value 0x4000 (omega arith) in
    let c : nat_lt (0x8000 + value) 0x6000 ≡ false = not_below value 0x6000 (omega arith) in
    let d : nat_lt (0x8000 + value) 0x8000 ≡ false = not_below value 0x8000 (omega arith) in
    let e : (0x8000 + value) - 0x8000 ≡ value = omega arith in
    rw (a, b, c, d, e) refl
  where
    not_below : (value limit : ℕ) → limit ≤ 0x8000 → nat_lt (0x8000 + value) limit ≡ false
    not_below value limit h = le-ltb (0x8000 + value) limit (omega arith)

-- they are those of its cells
pub instructions_are : (data_start : ℕ) (word : Word) → map decoded (cells_from data_start word) ≡ instructions_of data_start word
instructions_are data_start Base = ap (λ i. i ∷ []) (literal_of data_start)
instructions_are data_start Here = ap (λ i. i ∷ decoded 0x6C00 ∷ []) (literal_of (data_start + 4))
instructions_are data_start Decimal = ap (λ i. decoded 0x800A ∷ i ∷ decoded 0x6023 ∷ decoded 0x6103 ∷ []) (literal_of data_start)
instructions_are data_start Hex = ap (λ i. decoded 0x8010 ∷ i ∷ decoded 0x6023 ∷ decoded 0x6103 ∷ []) (literal_of data_start)
instructions_are data_start word = refl

-- each instruction by its effect, without its fetch
abbrev pub feed : ℕ → List Instr → OpenConfiguration → OpenConfiguration
feed data_start [] w = w
feed data_start (i ∷ is) w = feed data_start is (after_effect w.stop open_storage data_start (effect w.core.pc i) w)

-- the place after a row, and both counters
abbrev pub past : ℕ → List Instr → ℕ
past pc [] = pc
past pc (i ∷ is) = past (following pc) is

abbrev pub data_past : ℤ → List Instr → ℤ
data_past d [] = d
data_past d (i ∷ is) = data_past (d +ℤ (effect 0 i).data_move) is

abbrev pub return_past : ℤ → List Instr → ℤ
return_past b [] = b
return_past b (i ∷ is) = return_past (b +ℤ (effect 0 i).return_move) is

-- these instructions stand in code from one place to another
abbrev pub HasAll : List ℕ → ℕ → List Instr → ℕ → Type 0
HasAll code pc [] q = pc ≡ q
HasAll code pc (i ∷ is) q = HoldsInstruction code pc i × HasAll code (following pc) is q

-- what is owed only where a test holds
abbrev pub When : Bool → Type 0 → Type 0
When true P = P
When false P = Unit {0}

pub when : (b : Bool) (P : Type 0) → b ≡ true → When b P → P
when true P e h = h
when false P e h = absurd (no e)
  where
    no : false ≡ true → ⊥
    no e = cc

abbrev pub RowEnds : OpenConfiguration → List ℕ → Option Stop → World → Type 0
RowEnds w code (Some stop) world = EndedIn w code stop world
RowEnds w code None world = Unit {0}

-- a machine has come to what is meant, at this place and with these counters; of a lack nothing is said
abbrev pub RowMeans : List ℕ → ℕ → List (Option ℕ) → ℤ → ℤ → OpenConfiguration → Outcome → Type 0
RowMeans code q base d b w (Goes s) =
    (da : List (Option ℕ)) × (ra : List (Option ℕ)) × (w ≡ standing (machine_at code q (return_places s.entries base) da ra) s.cells d b s.world)
RowMeans code q base d b w (Ends end world) = RowEnds w code (machine_end end) world
