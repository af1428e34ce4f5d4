-- What a line of the table says.
use Rattle.std.specs.Prelude.{◌≡◌, ℕ, ℤ, List, [], length, slice_index_or, Bool, true, nat_le, ◌&&◌, Option, None}
use denote.Enum.Declared.{tag_of}
use Rattle.word_table.specs.contracts.word.Word.{the_type}
use Rattle.word_table.specs.declared.word.Word.{Word}
use Rattle.word_table.specs.declared.word.Class.{Class}
use Rattle.word_table.specs.declared.word.Class.TheVariants as class
use Rattle.word_table.specs.declared.word.WordEntry.{WordEntry}
use Rattle.word_table.specs.declared.table.Line.{Line}
use Rattle.word_table.specs.declared.table.Line.TheVariants as line
use Rattle.word_table.specs.Row.{Row, entry_with, change}

-- the row of a word whose cells stand in an image as they are
abbrev pub plain_row : List ℕ → Class → ℕ → Option (ℤ × ℤ) → ℕ → ℕ → List ℕ → Row
plain_row name kind need exit peak back cells = record {
  name = name;
  entry = entry_with kind need exit peak back (length cells) 0 (length cells);
  cells = cells;
}

-- the row of a word with no such cells
abbrev pub other_row : List ℕ → WordEntry → Row
other_row name entry = record { name = name; entry = entry; cells = [] }

-- the row of a line
abbrev pub row_of_line : Line → Row
row_of_line (line.Inline name takes leaves peak back cells) = plain_row name.now class.Inline takes (change takes leaves) peak back cells.now
row_of_line (line.Never name takes peak back cells) = plain_row name.now class.Inline takes None peak back cells.now
row_of_line (line.OnReturns name takes leaves peak back cells) = plain_row name.now class.Structure takes (change takes leaves) peak back cells.now
row_of_line (line.Library name need exit peak back base per) = other_row name.now (entry_with class.Library need exit peak back base per 1)
row_of_line (line.Structure name takes leaves peak back base per weight) =
    other_row name.now (entry_with class.Structure takes (change takes leaves) peak back base per weight)
row_of_line (line.Host name) = other_row name.now (entry_with class.Host 0 (change 0 0) 0 0 0 0 0)

-- what it takes and leaves is at most 9, and its cells at most 99
abbrev pub is_in_range : Line → Bool
is_in_range (line.Inline name takes leaves peak back cells) = nat_le takes 9 && (nat_le leaves 9 && nat_le (length cells.now) 99)
is_in_range (line.Never name takes peak back cells) = nat_le (length cells.now) 99
is_in_range (line.OnReturns name takes leaves peak back cells) = nat_le takes 9 && (nat_le leaves 9 && nat_le (length cells.now) 99)
is_in_range (line.Structure name takes leaves peak back base per weight) = nat_le takes 9 && nat_le leaves 9
is_in_range l = true

-- the number of a word, from 0 on
abbrev pub number_of : Word → ℕ
number_of word = tag_of the_type word

-- the line with the number of a word
pub record IsLineOf (lines : List Line) (word : Word) (line : Line) : Type 0 where
  pub is : (d : Line) → line ≡ slice_index_or lines (number_of word) d
