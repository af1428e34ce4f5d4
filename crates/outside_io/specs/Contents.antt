-- The files of a folder in memory, as a finite map from the bytes of a name to the bytes of the file.
use Rattle.std.specs.Prelude.{ℕ, List, map, String, Vec, string_bytes}
use Rattle.std.specs.Ordering.{nat_cmp}
use Rattle.std.specs.Cmp.Lexicographic.{slice_cmp}
use Rattle.std.specs.BTreeMap.{BTreeMap}
use Rattle.std.specs.FinMap.{FinMap, from_entries}

-- from names to contents
abbrev pub Contents : Type 0
Contents = FinMap (slice_cmp nat_cmp) (List ℕ)

-- a name and a content as bytes
abbrev pub entry_bytes : {Y Z : Type 0} → String Y × Vec ℕ Z → List ℕ × List ℕ
entry_bytes entry = (string_bytes entry.0, entry.1.items)

-- the contents that a tree of texts and vectors holds
abbrev pub contents_of : {Y Z : Type 0} → BTreeMap (String Y) (Vec ℕ Z) → Contents
contents_of tree = from_entries (map entry_bytes tree.entries)
