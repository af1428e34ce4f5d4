-- A walk over instructions in a row, which computes: the counters and the reach of what is known, before and after each.
use Rattle.std.specs.Prelude.{ℕ, zero, suc, pred, ◌+◌, ◌-◌, max, nat_lt, nat_le, ◌==◌, Bool, true, false, ◌&&◌, if◌then◌else◌, List, [], ◌∷◌, ℤ, pos, negsuc, Option, Some, None}
use Rattle.j1_table.specs.declared.instr.Instr.{Instr}
use Rattle.word_table.specs.declared.word.Word.{Word}
use Rattle.word_table.specs.Table.{entry_of}
use Rattle.j1_simulator.specs.Effect.{effect}
use Rattle.j1_simulator.specs.declared.effects.NewTop.{NewTop}
use Rattle.j1_simulator.specs.declared.effects.NewTop.TheVariants.{Number, Operation}
use Rattle.j1_simulator.specs.declared.effects.Effect.{Effect}
use Rattle.j1_simulator.specs.declared.effects.Next.{Next}
use Rattle.j1_simulator.specs.declared.effects.Next.TheVariants.{Following, Target, IfZero, Returning}
use Rattle.word_laws.specs.Rings.{writes_return}
use Rattle.word_laws.specs.Words.{return_need}
use Rattle.word_laws.proofs.Rows.{instructions_of}

-- a counter after a move, where it stays a natural number
abbrev pub counted_to : ℤ → ℕ → Option ℕ
counted_to (pos m) k = Some (k + m)
counted_to (negsuc m) k = if nat_lt m k then Some (k - suc m) else None

abbrev pub pops : NewTop → Bool
pops (Number n) = false
pops (Operation op) = op == 1

-- how far down the known data places then reach, T among them
abbrev pub data_height : Bool → Bool → ℤ → ℕ → Option ℕ
data_height pop true (pos (suc zero)) x = Some (suc x)
data_height pop true (pos zero) x = Some (max 2 x)
data_height pop false (pos zero) x = Some (max 1 x)
data_height true false (negsuc zero) x = Some (pred x)
data_height false false (negsuc zero) x = Some (max 1 (pred x))
data_height pop writes move x = None

abbrev pub return_height : Bool → ℤ → ℕ → Option ℕ
return_height true (pos (suc zero)) y = Some (suc y)
return_height true (pos zero) y = Some (max 1 y)
return_height false (pos zero) y = Some y
return_height false (negsuc zero) y = Some (pred y)
return_height writes move y = None

-- a write without a move has a place that was written before
abbrev pub has_place : Bool → ℤ → ℕ → Bool
has_place true (pos zero) zero = false
has_place true (pos zero) (suc k) = true
has_place true (pos (suc n)) k = true
has_place true (negsuc n) k = true
has_place false move k = true

abbrev pub if_some : Option ℕ → (ℕ → Bool) → Bool
if_some None f = false
if_some (Some n) f = f n

abbrev pub is_following : Next → Bool
is_following Following = true
is_following (Target t) = false
is_following (IfZero t) = false
is_following Returning = false

-- what an effect makes of the counters k and j and of the reaches x and y, handed on: each of the four in its turn
abbrev pub last_to : Effect → (ℕ → ℕ → ℕ → ℕ → Bool) → ℕ → ℕ → ℕ → ℕ → Bool
last_to e on k x j y = if_some (return_height (writes_return e.return_write) e.return_move y) (λ y'. on k x j y')

abbrev pub return_to : Effect → (ℕ → ℕ → ℕ → ℕ → Bool) → ℕ → ℕ → ℕ → ℕ → Bool
return_to e on k x j y = if_some (counted_to e.return_move j) (λ j'. last_to e on k x j' y)

abbrev pub height_to : Effect → (ℕ → ℕ → ℕ → ℕ → Bool) → ℕ → ℕ → ℕ → ℕ → Bool
height_to e on k x j y = if_some (data_height (pops e.new_top) e.t_to_n e.data_move x) (λ x'. return_to e on k x' j y)

abbrev pub depth_to : Effect → (ℕ → ℕ → ℕ → ℕ → Bool) → ℕ → ℕ → ℕ → ℕ → Bool
depth_to e on k x j y = if_some (counted_to e.data_move k) (λ k'. height_to e on k' x j y)

-- the counters and the reaches before a cell are within what is allowed, and so are those after it
abbrev pub checked : ℕ → ℕ → Effect → (ℕ → ℕ → ℕ → ℕ → Bool) → ℕ → ℕ → ℕ → ℕ → Bool
checked hi return_high e on k x j y =
    nat_le k hi
    && (nat_le x hi
    && (nat_le j return_high
    && (nat_le y return_high
    && (is_following e.next && (has_place e.t_to_n e.data_move k && (has_place (writes_return e.return_write) e.return_move j && depth_to e on k x j y))))))

-- the counters and the reaches are within what is allowed
abbrev pub allowed : ℕ → ℕ → ℕ → ℕ → ℕ → ℕ → Bool
allowed hi return_high k x j y = nat_le k hi && (nat_le x hi && (nat_le j return_high && nat_le y return_high))

-- the whole walk, which asks so of the end too or not
abbrev pub stays : Bool → ℕ → ℕ → List Instr → ℕ → ℕ → ℕ → ℕ → Bool
stays true hi return_high [] k x j y = allowed hi return_high k x j y
stays false hi return_high [] k x j y = true
stays to_end hi return_high (c ∷ cs) k x j y = checked hi return_high (effect 0 c) (stays to_end hi return_high cs) k x j y

-- the walk over a word's instructions, where data space begins at an address, from its need and the return places that it works on
abbrev pub word_stays : ℕ → Bool → Word → Bool
word_stays data_start to_end word =
    stays to_end ((entry_of word).need + (entry_of word).peak) (return_need word + (entry_of word).back) (instructions_of data_start word) (entry_of word).need (entry_of word).need (return_need word) (return_need word)
