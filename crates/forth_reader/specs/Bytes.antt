-- The kinds of bytes of a source, and the longest front of bytes of one kind. The bytes that have a meaning of their own are
-- 10 (line feed), 34 (`"`), 40 (`(`), 41 (`)`), 45 (`-`) and 92 (`\`).
use Rattle.std.specs.Prelude.{ℕ, nat_le, ◌==◌, ◌&&◌, ◌||◌, not, Bool, true, false, List, [], ◌∷◌}

-- a byte of a token
abbrev pub is_graphic : ℕ → Bool
is_graphic byte = nat_le 33 byte && nat_le byte 126

-- a space, a tab, a line feed or a carriage return
abbrev pub is_blank : ℕ → Bool
is_blank byte = byte == 32 || (byte == 9 || (byte == 10 || byte == 13))

-- a byte that a source may have
abbrev pub is_source_byte : ℕ → Bool
is_source_byte byte = is_graphic byte || is_blank byte

-- a byte that the text of a string may have: no quote, and no line feed
abbrev pub is_string_byte : ℕ → Bool
is_string_byte byte = is_source_byte byte && not (byte == 34 || byte == 10)

-- the longest front of bytes that pass a test
abbrev pub passing_front : (ℕ → Bool) → List ℕ → List ℕ
passing_front test [] = []
passing_front test (b ∷ bs) = elim (test b) [ true ↦ b ∷ passing_front test bs | false ↦ [] ]

-- what stands behind it
abbrev pub behind_front : (ℕ → Bool) → List ℕ → List ℕ
behind_front test [] = []
behind_front test (b ∷ bs) = elim (test b) [ true ↦ behind_front test bs | false ↦ b ∷ bs ]

-- the longest front of graphic bytes
abbrev pub graphic_front : List ℕ → List ℕ
graphic_front bs = passing_front is_graphic bs

abbrev pub behind_graphic : List ℕ → List ℕ
behind_graphic bs = behind_front is_graphic bs
