-- Names and tables of names.
use Rattle.std.specs.Prelude.{ℕ, ◌+◌, ◌-◌, nat_le, ◌==◌, ◌&&◌, ◌||◌, Bool, true, false, List, [], ◌∷◌, length, take, slice_index, Option, Some, None, codes}
use Rattle.std.specs.List.{list_all}
use Rattle.std.specs.Str.{bytes_eq}

abbrev pub is_letter : ℕ → Bool
is_letter b = (nat_le 65 b && nat_le b 90) || (nat_le 97 b && nat_le b 122)

abbrev pub is_name_byte : ℕ → Bool
is_name_byte b = is_letter b || ((nat_le 48 b && nat_le b 57) || b == 95)

-- a letter, and up to 30 letters, digits or `_`
abbrev pub is_name : List ℕ → Bool
is_name [] = false
is_name (b ∷ bs) = is_letter b && (nat_le (length bs) 30 && list_all is_name_byte bs)

-- the name of a field that is a name and `:`
abbrev pub label_of : List ℕ → Option (List ℕ)
label_of field = elim (slice_index field (length field - 1) == 58 && is_name (take (length field - 1) field)) [ true ↦ Some (take (length field - 1) field) | false ↦ None ]

-- the ALU operations, from 0 on
abbrev pub operation_names : List (List ℕ)
operation_names =
    codes "T" ∷ codes "N" ∷ codes "T+N" ∷ codes "T&N" ∷ codes "T|N" ∷ codes "T^N" ∷ codes "~T" ∷ codes "N=T" ∷ codes "N<T" ∷
    codes "N>>T" ∷ codes "T-1" ∷ codes "R" ∷ codes "[T]" ∷ codes "N<<T" ∷ codes "depth" ∷ codes "Nu<T" ∷ []

-- the place of a name in a list, counted from k
abbrev pub place_from : ℕ → List ℕ → List (List ℕ) → Option ℕ
place_from k name [] = None
place_from k name (other ∷ names) = elim (bytes_eq name other) [ true ↦ Some k | false ↦ place_from (k + 1) name names ]

-- cells that have a name, by their name
abbrev pub named_cells : List (List ℕ × ℕ)
named_cells =
    (codes "noop", 0x6000) ∷ (codes "dup", 0x6081) ∷ (codes "drop", 0x6103) ∷ (codes "swap", 0x6180) ∷ (codes "over", 0x6181) ∷
    (codes "nip", 0x6003) ∷ (codes "+", 0x6203) ∷ (codes "and", 0x6303) ∷ (codes "or", 0x6403) ∷ (codes "xor", 0x6503) ∷
    (codes "invert", 0x6600) ∷ (codes "=", 0x6703) ∷ (codes "<", 0x6803) ∷ (codes "rshift", 0x6903) ∷ (codes "1-", 0x6A00) ∷
    (codes "@", 0x6C00) ∷ (codes "lshift", 0x6D03) ∷ (codes "u<", 0x6F03) ∷ (codes ">r", 0x6147) ∷ (codes "r>", 0x6B8D) ∷
    (codes "r@", 0x6B81) ∷ (codes "exit", 0x700C) ∷ []

-- the cell of a name in a list
abbrev pub cell_in : List ℕ → List (List ℕ × ℕ) → Option ℕ
cell_in name [] = None
cell_in name (entry ∷ entries) = elim (bytes_eq name entry.0) [ true ↦ Some entry.1 | false ↦ cell_in name entries ]

-- the name of a cell in a list
abbrev pub name_in : ℕ → List (List ℕ × ℕ) → Option (List ℕ)
name_in cell [] = None
name_in cell (entry ∷ entries) = elim (cell == entry.1) [ true ↦ Some entry.0 | false ↦ name_in cell entries ]
