-- What a library word leaves.
use Rattle.std.specs.Prelude.{◌≡◌, ℕ, ◌+◌, ◌-◌, suc, ◌≤◌, true, List, length, Option, Some, None, ℤ, pos, negsuc}
use Rattle.word_table.specs.declared.word.Word.{Word}
use Rattle.word_table.specs.Table.{entry_of}
use Rattle.forth_program.specs.State.{World, Reply, Gives, Stops, End, Underflow, Unbalanced}
use Rattle.forth_program.specs.Meaning.{meaning}
use Rattle.library_laws.specs.Bodies.{has_definition}
use Rattle.forth_program.specs.Cells.{AreCells, IsWorld}

-- a number of cells after a change
abbrev pub changed : ℤ → ℕ → ℕ
changed (pos k) n = n + k
changed (negsuc k) n = n - suc k

-- a stack of so many cells has changed by an exit of the table
abbrev pub ChangesWithin : Option (ℤ × ℤ) → ℕ → ℕ → Type 0
ChangesWithin None before after = Unit {0}
ChangesWithin (Some exit) before after = (changed exit.0 before ≤ after) × (after ≤ changed exit.1 before)

-- an end for another cause than a lack of cells or return entries
abbrev pub IsNoLack : End → Type 0
IsNoLack Underflow = ⊥
IsNoLack Unbalanced = ⊥
IsNoLack end = Unit {0}

-- a word leaves cells, as many as its exit says, and a world of cells with data space where it was, or it ends the run
abbrev pub LeavesWell : Word → List ℕ → World → Reply (List ℕ) → Type 0
LeavesWell word c w (Gives c' w') = AreCells c' × IsWorld w' × (w'.data_start ≡ w.data_start) × ChangesWithin (entry_of word).exit (length c) (length c')
LeavesWell word c w (Stops end w') = IsNoLack end

-- so does each library word where there are as many cells as it needs
abbrev pub LibraryWordsLeaveWell : Type 0
LibraryWordsLeaveWell = (word : Word) (c : List ℕ) (w : World) → has_definition word ≡ true → (entry_of word).need ≤ length c → AreCells c → IsWorld w → LeavesWell word c w (meaning word c w)
