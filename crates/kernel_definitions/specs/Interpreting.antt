-- What INTERPRET-WORD does with a word while a definition is open.
use Rattle.std.specs.Prelude.{◌≡◌, ℕ, ◌+◌, ◌*◌, ◌≤◌, Some, List, [], ◌∷◌, length}
use Rattle.forth_reader.specs.declared.number.NumberRead.TheVariants.{Value}
use Rattle.forth_reader.specs.Number.{based_read}
use Rattle.forth_program.specs.State.{World}
use Rattle.forth_program.specs.Program.{SourceProgram}
use Rattle.kernel_words.specs.Places.{base_cell, length_cell}
use Rattle.kernel_words.specs.Memory.{data_cell, data_byte, data_bytes}
use Rattle.kernel_words.specs.Headers.{Header, find_answer}
use Rattle.kernel_lines.specs.Places.{state_cell}
use Rattle.kernel_definitions.specs.Places.{code_of_token}
use Rattle.kernel_definitions.specs.Bodies.{HasDefiningWords, interpret_word_body}
use Rattle.kernel_definitions.specs.TypedItems.{TypedWord, IsNumber, IsCalled, IsIf, IsElse, IsThen, IsBegin, IsUntil, IsWhile, IsRepeat}
use Rattle.kernel_definitions.specs.TypedItems.{TypedItems, items_size}
use Rattle.kernel_definitions.specs.OpenDefinition.{OpenItems, after_word, end_of, entries, IsOpen}
use Rattle.kernel_definitions.specs.Compiling.{IsRead, OperandFits, IsDefined}
use Rattle.kernel_definitions.specs.Beginning.{MayBegin, IsBegun}

-- looking for a text among headers gives this flag and this code, and 0 with the address of the text where it is none of their names
abbrev pub IsFound : List Header → List ℕ → ℕ → ℕ → Type 0
IsFound headers text flag code = (a : ℕ) (c : List ℕ) → find_answer headers text a c ≡ flag ∷ code ∷ c

abbrev pub IsUnknown : List Header → List ℕ → Type 0
IsUnknown headers text = (a : ℕ) (c : List ℕ) → find_answer headers text a c ≡ 0 ∷ a ∷ c

-- the word that a text is in a definition, where these are the headers and this is BASE: a name before a number; the structure words are
-- immediate, and their codes are the jumps of their tokens
abbrev pub StandsFor : List Header → ℕ → List ℕ → TypedWord → Type 0
StandsFor headers radix text (IsNumber value) = IsUnknown headers text × (based_read radix text ≡ Value value)
StandsFor headers radix text (IsCalled address) = IsFound headers text 65535 address
StandsFor headers radix text IsIf = IsFound headers text 1 (code_of_token 7)
StandsFor headers radix text IsElse = IsFound headers text 1 (code_of_token 8)
StandsFor headers radix text IsThen = IsFound headers text 1 (code_of_token 9)
StandsFor headers radix text IsBegin = IsFound headers text 1 (code_of_token 10)
StandsFor headers radix text IsUntil = IsFound headers text 1 (code_of_token 11)
StandsFor headers radix text IsWhile = IsFound headers text 1 (code_of_token 12)
StandsFor headers radix text IsRepeat = IsFound headers text 1 (code_of_token 13)

-- the text of a counted string
abbrev pub text_at : World → ℕ → List ℕ
text_at w b = data_bytes w (data_byte w b) (b + 1)

-- INTERPRET-WORD ( a -- 0 ) reads the word whose text is the counted string at a
abbrev pub TextsAreRead : Type 0
TextsAreRead =
    (p : SourceProgram) (word : TypedWord) (b : ℕ) (c : List ℕ) (w : World) (h a : ℕ) (name : List ℕ) (older : List Header)
    (items next : OpenItems) →
    HasDefiningWords p → OperandFits word → IsOpen w h a name older items → after_word word items.around items.done ≡ Some next →
    end_of next a ≤ 16384 → entries next.around ≤ 16 →
    2 ≤ data_cell w base_cell → data_cell w base_cell ≤ 36 → 8192 ≤ b → b + 1 + data_byte w b ≤ 16384 →
    StandsFor older (data_cell w base_cell) (text_at w b) word →
    IsRead p interpret_word_body (4000 * (length older + 1) + 1000 * (data_byte w b + 1) + 200)
    (4000 * (length older + 1) + 1300 * (data_byte w b + 1) + 500) (b ∷ c) w (0 ∷ c) h a name older next

-- outside definitions it begins one where the text is the name of `:`, which is not immediate, and the name follows in the source
abbrev pub ColonsAreRead : Type 0
ColonsAreRead =
    (p : SourceProgram) (b : ℕ) (c : List ℕ) (w : World) (first size h a : ℕ) (older : List Header) → HasDefiningWords p →
    data_cell w state_cell ≡ 0 → MayBegin w first size h a older →
    8192 ≤ b → b + 1 + data_byte w b ≤ 16384 → IsFound older (text_at w b) 65535 (code_of_token 5) →
    IsBegun p interpret_word_body (4000 * (length older + 1) + 400 * (data_cell w length_cell + 1) + 200)
    (4000 * (length older + 1) + 250 * data_cell w length_cell + 160 * size + 1100) (b ∷ c) w (0 ∷ c)
    first size h a older

-- and in a definition with no open structure it ends it where the text is that of `;`, which is immediate
abbrev pub SemicolonsAreRead : Type 0
SemicolonsAreRead =
    (p : SourceProgram) (b : ℕ) (c : List ℕ) (w : World) (h a : ℕ) (name : List ℕ) (older : List Header) (items : TypedItems) →
    HasDefiningWords p → IsOpen w h a name older (record { around = []; done = items }) → a + items_size items + 2 ≤ 16384 →
    8192 ≤ b → b + 1 + data_byte w b ≤ 16384 → IsFound older (text_at w b) 1 (code_of_token 6) →
    IsDefined p interpret_word_body (4000 * (length older + 1) + 200) (4000 * (length older + 1) + 500) (b ∷ c) w
    (0 ∷ c) h a name older items
