-- Where the kernel keeps what it works on, and the names of its words.
use Rattle.std.specs.Prelude.{◌≡◌, ℕ, ◌+◌, ◌≤◌, ◌%◌, [], ◌∷◌, map, codes, slice_index, slice_index_or}
use Rattle.forth_program.specs.Program.{SourceProgram}
use Rattle.forth_program.specs.Run.{first_world}
use Rattle.kernel_words.specs.Places.{line_buffer, length_cell, reached_cell, latest_cell, word_buffer}
use Rattle.kernel_words.specs.Places.{kernel_word_place, kernel_number_place, kernel_find_place, kernel_cell_place, kernel_header_place}
use Rattle.target_forth.specs.declared.places.KernelPlaces.{KernelPlaces}
use Rattle.target_forth.specs.Kernel.{kernel_program}

-- the places of which the laws of these words speak
abbrev pub places_of_kernel : KernelPlaces
places_of_kernel = record { line = line_buffer; length = length_cell; to_in = reached_cell; latest = latest_cell; word = word_buffer }

-- the first HERE of the kernel: what its program finds in the cell of HERE, the third of data space, when it starts
abbrev pub first_here : ℕ
first_here = slice_index (first_world kernel_program []).space 2

-- they are even, and lie one behind the other, from behind the fixed cells of data space and the buffer of number output on, whose last byte is
-- 8319, and below the first HERE, from which on typed definitions lie; and behind that HERE there is room for these
pub record StandApart (places : KernelPlaces) : Type 0 where
  pub even : (places.line % 2 ≡ 0) × (places.length % 2 ≡ 0) × (places.to_in % 2 ≡ 0) × (places.latest % 2 ≡ 0) × (places.word % 2 ≡ 0)
  pub start : 8320 ≤ places.line
  pub line : places.line + 80 ≤ places.length
  pub length : places.length + 2 ≤ places.to_in
  pub to_in : places.to_in + 2 ≤ places.latest
  pub latest : places.latest + 2 ≤ places.word
  pub word : places.word + 82 ≤ first_here
  pub room : first_here ≤ 12288

-- the definitions of the laws have these names
abbrev pub HasNames : SourceProgram → Type 0
HasNames p =
    map (λ place. slice_index_or p.names place []) (kernel_word_place ∷ kernel_number_place ∷ kernel_find_place ∷ kernel_cell_place ∷ kernel_header_place ∷ [])
    ≡ codes "K-WORD" ∷ codes "K-NUMBER" ∷ codes "K-FIND" ∷ codes "K-CELL" ∷ codes "K-HEADER" ∷ []
