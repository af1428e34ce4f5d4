-- The lines of a trace.
use Rattle.std.specs.Prelude.{ℕ, List, [], ◌∷◌, ◌++◌, Option, Some, None, codes, decimal}
use Rattle.decompiler.specs.Listing.{hex2, hex4, place, line_text, text_fields}
use Rattle.j1_simulator.specs.declared.accesses.Accesses.{Accesses}
use Rattle.j1_simulator.specs.declared.registers.Registers.{Registers}

-- T, N, R and both pointers
abbrev pub register_fields : Registers → List (List ℕ)
register_fields r =
    (codes "T=" ++ hex4 r.t) ∷ (codes "N=" ++ hex4 r.n) ∷ (codes "R=" ++ hex4 r.r)
    ∷ (codes "DSP=" ++ hex2 r.data_pointer) ∷ (codes "RSP=" ++ hex2 r.return_pointer) ∷ []

abbrev pub cell_field : Option ℕ → List (List ℕ)
cell_field None = []
cell_field (Some cell) = hex4 cell ∷ []

-- a fetch: its address, and the cell where that is in data space
abbrev pub fetch_fields : Option ℕ → Option ℕ → List (List ℕ)
fetch_fields None cell = []
fetch_fields (Some address) cell = codes "fetch" ∷ hex4 address ∷ cell_field cell

-- a store: its address and its cell
abbrev pub store_fields : Option (ℕ × ℕ) → List (List ℕ)
store_fields None = []
store_fields (Some stored) = codes "store" ∷ hex4 stored.0 ∷ hex4 stored.1 ∷ []

abbrev pub access_fields : Accesses → Option ℕ → List (List ℕ)
access_fields accesses cell = fetch_fields accesses.fetch cell ++ store_fields accesses.store

-- the line of an instruction with this number: its place and its cell, registers, accesses, and the text that a listing has of the cell
abbrev pub instruction_line : ℕ → Registers → Accesses → Option ℕ → List ℕ
instruction_line number r accesses cell =
    line_text (decimal number ∷ place r.place ∷ hex4 r.cell ∷ (register_fields r ++ (access_fields accesses cell ++ text_fields r.cell)))

abbrev pub print_line : ℕ → List ℕ
print_line byte = line_text (codes "print" ∷ hex2 byte ∷ [])

abbrev pub take_line : ℕ → List ℕ
take_line byte = line_text (codes "take" ∷ hex2 byte ∷ [])
