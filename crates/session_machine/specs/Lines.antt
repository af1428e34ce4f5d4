-- Lines as lists of bytes, and their words.
use Rattle.std.specs.Prelude.{ℕ, ◌==◌, true, false, List, [], ◌∷◌, ◌++◌}

-- a word that has come to its end, before those that follow it
abbrev pub with_word : List ℕ → List (List ℕ) → List (List ℕ)
with_word [] words = words
with_word (byte ∷ bytes) words = (byte ∷ bytes) ∷ words

-- the words of bytes behind the beginning of a word
abbrev pub words_behind : List ℕ → List ℕ → List (List ℕ)
words_behind word [] = with_word word []
words_behind word (byte ∷ bytes) = elim (byte == 32) [
  | true ↦ with_word word (words_behind [] bytes)
  | false ↦ words_behind (word ++ byte ∷ []) bytes
]

-- the words of a line are split by spaces
abbrev pub line_words : List ℕ → List (List ℕ)
line_words line = words_behind [] line

-- the bytes of lines, each with its line feed
abbrev pub bytes_of_lines : List (List ℕ) → List ℕ
bytes_of_lines [] = []
bytes_of_lines (line ∷ lines) = line ++ 10 ∷ bytes_of_lines lines
