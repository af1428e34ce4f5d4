-- What is written of a run: a line for each core.
use Rattle.std.specs.Prelude.{ℕ, zero, suc, ◌+◌, ◌++◌, List, [], codes, decimal}
use Rattle.core_array.specs.Network.{list_at}

-- `core `, the number, `: `, what the core printed and a line feed
abbrev pub core_line : ℕ → List ℕ → List ℕ
core_line k printed = codes "core " ++ (decimal k ++ (codes ": " ++ (printed ++ codes "\n")))

-- the lines of so many cores from core k on
abbrev pub core_lines : ℕ → ℕ → List (List ℕ) → List ℕ
core_lines zero k printed = []
core_lines (suc cores) k printed = core_line k (list_at printed k) ++ core_lines cores (k + 1) printed
