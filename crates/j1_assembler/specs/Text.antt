-- Lines and their fields.
use Rattle.std.specs.Prelude.{ℕ, nat_le, ◌==◌, ◌&&◌, ◌||◌, not, Bool, true, false, List, [], ◌∷◌, length, drop}
use Rattle.std.specs.List.{list_all, filter, slice_split, onto_first}
use Rattle.std.specs.Str.{bytes_eq}

-- each line feed ends a line; a last line without one counts where it has bytes
abbrev pub lines_of : List ℕ → List (List ℕ)
lines_of [] = []
lines_of (b ∷ bs) = elim (b == 10) [ true ↦ [] ∷ lines_of bs | false ↦ onto_first b (lines_of bs) ]

-- a space, a tab or a carriage return
abbrev pub is_blank : ℕ → Bool
is_blank b = b == 32 || (b == 9 || b == 13)

abbrev pub has_bytes : List ℕ → Bool
has_bytes [] = false
has_bytes (b ∷ bs) = true

-- the parts between blanks that have bytes
abbrev pub words_of : List ℕ → List (List ℕ)
words_of line = filter has_bytes (slice_split is_blank line)

-- a field `\` and all behind it are a comment
abbrev pub before_comment : List (List ℕ) → List (List ℕ)
before_comment [] = []
before_comment (field ∷ fields) = elim (bytes_eq field (92 ∷ [])) [ true ↦ [] | false ↦ field ∷ before_comment fields ]

abbrev pub fields_of : List ℕ → List (List ℕ)
fields_of line = before_comment (words_of line)

-- a blank or a byte from 33 to 126
abbrev pub is_line_byte : ℕ → Bool
is_line_byte b = (nat_le 32 b && nat_le b 126) || (b == 9 || b == 13)

-- a line has at most 256 bytes, and no other bytes than these
abbrev pub is_formed : List ℕ → Bool
is_formed line = nat_le (length line) 256 && list_all is_line_byte line

-- what stands from the first byte on that passes a test
abbrev pub from_first : (ℕ → Bool) → List ℕ → List ℕ
from_first test [] = []
from_first test (b ∷ bs) = elim (test b) [ true ↦ b ∷ bs | false ↦ from_first test bs ]

-- what stands before it
abbrev pub before_first : (ℕ → Bool) → List ℕ → List ℕ
before_first test [] = []
before_first test (b ∷ bs) = elim (test b) [ true ↦ [] | false ↦ b ∷ before_first test bs ]

abbrev pub from_line_feed : List ℕ → List ℕ
from_line_feed text = from_first (λ b. b == 10) text

abbrev pub from_blank : List ℕ → List ℕ
from_blank line = from_first is_blank line

abbrev pub from_word : List ℕ → List ℕ
from_word line = from_first (λ b. not (is_blank b)) line

-- the first word of a line, and what stands behind it
abbrev pub first_word : List ℕ → List ℕ
first_word line = before_first is_blank (from_word line)

abbrev pub behind_word : List ℕ → List ℕ
behind_word line = from_blank (from_word line)

-- the first line of a text
abbrev pub first_line : List ℕ → List ℕ
first_line text = before_first (λ b. b == 10) text

abbrev pub behind_line : List ℕ → List ℕ
behind_line text = drop 1 (from_line_feed text)
