-- A line as bytes: what is kept of the bytes that were typed, and its words.
use Rattle.std.specs.Prelude.{◌≢◌, ℕ, zero, suc, ◌<◌, ◌==◌, nat_lt, if◌then◌else◌, Bool, true, false, List, [], ◌∷◌}
use Rattle.std.specs.List.{filter, slice_split}

-- bytes without a line feed
abbrev pub IsTyped : List ℕ → Type 0
IsTyped [] = Unit {0}
IsTyped (c ∷ typed) = (c < 256) × (c ≢ 10) × IsTyped typed

-- a byte below 32 becomes a blank
abbrev pub blanked : ℕ → ℕ
blanked c = if nat_lt c 32 then 32 else c

-- so many bytes are kept at most
abbrev pub kept_line : ℕ → List ℕ → List ℕ
kept_line zero typed = []
kept_line (suc room) [] = []
kept_line (suc room) (c ∷ typed) = blanked c ∷ kept_line room typed

-- the words of a text: of its parts between blanks those that have a byte
abbrev pub has_byte : List ℕ → Bool
has_byte [] = false
has_byte (c ∷ text) = true

abbrev pub words_of : List ℕ → List (List ℕ)
words_of text = filter has_byte (slice_split (λ c. c == 32) text)

-- the first word, of which a buffer keeps so many bytes at most, or nothing; and the words behind it
abbrev pub front : ℕ → List ℕ → List ℕ
front zero text = []
front (suc room) [] = []
front (suc room) (c ∷ text) = c ∷ front room text

abbrev pub first_kept : List (List ℕ) → List ℕ
first_kept [] = []
first_kept (word ∷ words) = front 80 word

abbrev pub behind_first : List (List ℕ) → List (List ℕ)
behind_first [] = []
behind_first (word ∷ words) = words
