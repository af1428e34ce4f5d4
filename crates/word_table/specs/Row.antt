-- A row of the table: a word's name, its depth effect, its price, its weight and its plain cells.
use Rattle.std.specs.Prelude.{ℕ, List, [], length, ℤ, pos, ◌-ℤ◌, Option, Some, None, codes}
use Prim.Native.String.{String}
use Rattle.word_table.specs.declared.word.Class.{Class}
use Rattle.word_table.specs.declared.word.Class.TheVariants as class
use Rattle.word_table.specs.declared.word.WordEntry.{WordEntry}

-- one word: its name as bytes, its numbers, and its cells
pub record Row : Type 0 where
  pub name : List ℕ
  pub entry : WordEntry
  pub cells : List ℕ

-- the numbers of a word
abbrev pub entry_with : Class → ℕ → Option (ℤ × ℤ) → ℕ → ℕ → ℕ → ℕ → ℕ → WordEntry
entry_with kind need exit peak back base per weight =
    record { class = kind; need = need; peak = peak; back = back; exit = exit; base = base; per = per; weight = weight }

-- the change of the data cells, at both ends, of a word that takes and leaves so many
abbrev pub change : ℕ → ℕ → Option (ℤ × ℤ)
change takes leaves = Some (pos leaves -ℤ pos takes, pos leaves -ℤ pos takes)

-- cells that stand in an image as they are: each costs one instruction
abbrev pub plain : Class → String → ℕ → Option (ℤ × ℤ) → ℕ → ℕ → List ℕ → Row
plain kind name need exit peak back cells = record {
  name = codes name;
  entry = record { class = kind; need = need; peak = peak; back = back; exit = exit; base = length cells; per = 0; weight = length cells };
  cells = cells;
}

-- an inline word: how many cells it takes and leaves, peak, back, and its cells of code
abbrev pub inline : String → ℕ → ℕ → ℕ → ℕ → List ℕ → Row
inline name takes leaves peak back cells = plain class.Inline name takes (change takes leaves) peak back cells

-- an inline word that never returns
abbrev pub never : String → ℕ → ℕ → ℕ → List ℕ → Row
never name takes peak back cells = plain class.Inline name takes None peak back cells

-- a word on return entries, which stands in an image as an inline word does
abbrev pub on_returns : String → ℕ → ℕ → ℕ → ℕ → List ℕ → Row
on_returns name takes leaves peak back cells = plain class.Structure name takes (change takes leaves) peak back cells

-- a call of the library: its need, its exit, peak, back, base and per
abbrev pub library : String → ℕ → Option (ℤ × ℤ) → ℕ → ℕ → ℕ → ℕ → Row
library name need exit peak back base per = record {
  name = codes name;
  entry = record { class = class.Library; need = need; peak = peak; back = back; exit = exit; base = base; per = per; weight = 1 };
  cells = [];
}

-- taken, left, peak, back, base, per and weight
abbrev pub structure : String → ℕ → ℕ → ℕ → ℕ → ℕ → ℕ → ℕ → Row
structure name takes leaves peak back base per weight = record {
  name = codes name;
  entry = record { class = class.Structure; need = takes; peak = peak; back = back; exit = change takes leaves; base = base; per = per; weight = weight };
  cells = [];
}

-- a word that acts while the source is read
abbrev pub host : String → Row
host name = record {
  name = codes name;
  entry = record { class = class.Host; need = 0; peak = 0; back = 0; exit = change 0 0; base = 0; per = 0; weight = 0 };
  cells = [];
}
