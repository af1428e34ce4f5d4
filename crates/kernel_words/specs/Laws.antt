-- What the kernel's definitions do. Each law speaks of every program that has these definitions, of any cells below, and of any frame that called;
-- it says what is printed and taken (nothing), which bytes change, and within how many word steps and for what price.
use Rattle.std.specs.Prelude.{◌≡◌, ◌≢◌, ◌⊎◌, ℕ, ◌+◌, ◌-◌, ◌*◌, ◌==◌, if◌then◌else◌, ◌%◌, ◌/◌, ◌<◌, ◌≤◌, List, [], ◌∷◌, length, nat_lt, false}
use Rattle.console_ports.specs.Ports.{even}
use Rattle.forth_reader.specs.declared.number.NumberRead.{NumberRead}
use Rattle.forth_reader.specs.declared.number.NumberRead.TheVariants.{Value}
use Rattle.forth_reader.specs.Number.{based_read}
use Rattle.forth_program.specs.Tree.{Nodes}
use Rattle.forth_program.specs.State.{World}
use Rattle.forth_program.specs.Program.{SourceProgram}
use Rattle.kernel_words.specs.Places.{base_cell, here_cell, line_buffer, length_cell, reached_cell, latest_cell, word_buffer, source_cell}
use Rattle.kernel_words.specs.Bodies.{IsKernel, word_from_body, keep_word_body, kernel_word_body, next_word_body, parse_body}
use Rattle.kernel_words.specs.Bodies.{kernel_number_body, kernel_find_body, kernel_cell_body, kernel_header_body}
use Rattle.kernel_words.specs.Running.{Returns}
use Rattle.kernel_words.specs.Memory.{IsDataSpace, KeepsConsole, data_cell, data_byte, data_bytes, leading_bytes, bytes_before}
use Rattle.kernel_words.specs.Headers.{Header, Headers, find_answer}

-- ---- words of the source, a text at any address

-- the source begins at an address, has as many bytes as LENGTH says, all of them in data space, and >IN is a place of it or its end
pub record HasSource (w : World) (start : ℕ) : Type 0 where
  pub low : 8192 ≤ start
  pub high : start + data_cell w length_cell ≤ 16384
  pub place : data_cell w reached_cell ≤ data_cell w length_cell

-- its next word begins at first, behind bytes c from the place reached on, and has size bytes, up to the next c or the end
pub record IsNextWord (w : World) (c start first size : ℕ) : Type 0 where
  pub begins : first ≡ start + data_cell w reached_cell + leading_bytes w c (data_cell w length_cell - data_cell w reached_cell) (start + data_cell w reached_cell)
  pub ends : size ≡ bytes_before w c (start + data_cell w length_cell - first) first

-- the place past size bytes from first on and the byte that ends them, or the end of the source
abbrev pub place_past : World → ℕ → ℕ → ℕ → ℕ
place_past w start first size = if first + size == start + data_cell w length_cell then data_cell w length_cell else first + size + 1 - start

-- a definition takes size bytes from first on off the source: it leaves their address and their number, and >IN stands past them
pub record TextIsTaken (p : SourceProgram) (body : Nodes) (most highest : ℕ) (c below : List ℕ) (w : World) (start first size : ℕ) : Type 0 where
  pub after : World
  pub run : Returns p body most highest c w (size ∷ first ∷ below) after
  pub console : KeepsConsole w after
  pub place : data_cell after reached_cell ≡ place_past w start first size
  pub rest : (a : ℕ) → 8192 ≤ a → a / 2 ≢ reached_cell / 2 → data_byte after a ≡ data_byte w a

-- WORD-FROM ( c base -- a u ) takes the next word of the source that begins at base
abbrev pub WordsAreTaken : Type 0
WordsAreTaken =
    (p : SourceProgram) (c start : ℕ) (below : List ℕ) (w : World) (first size : ℕ) → IsKernel p → IsDataSpace w → HasSource w start → IsNextWord w c start first size →
    TextIsTaken p word_from_body (57 + 31 * data_cell w length_cell) (100 + 82 * data_cell w length_cell) (start ∷ c ∷ below) below w start first size

-- PARSE ( c -- a u ) takes the bytes of the source up to the next c
abbrev pub TextsAreParsed : Type 0
TextsAreParsed =
    (p : SourceProgram) (c : ℕ) (below : List ℕ) (w : World) (first size : ℕ) → IsKernel p → IsDataSpace w → HasSource w (data_cell w source_cell) →
    first ≡ data_cell w source_cell + data_cell w reached_cell → size ≡ bytes_before w c (data_cell w length_cell - data_cell w reached_cell) first →
    TextIsTaken p parse_body (60 + 16 * data_cell w length_cell) (110 + 42 * data_cell w length_cell) (c ∷ below) below w (data_cell w source_cell) first size

-- a word buffer holds at most 80 bytes
abbrev pub kept_size : ℕ → ℕ
kept_size size = if nat_lt size 80 then size else 80

-- KEEP-WORD ( a u buffer -- buffer ) keeps a text in a buffer as a counted string
pub record TextIsKept (p : SourceProgram) (a u buffer : ℕ) (below : List ℕ) (w : World) : Type 0 where
  pub after : World
  pub run : Returns p keep_word_body 18 (150 + 160 * kept_size u) (buffer ∷ u ∷ a ∷ below) w (buffer ∷ below) after
  pub console : KeepsConsole w after
  pub count : data_byte after buffer ≡ kept_size u
  pub bytes : (i : ℕ) → i < kept_size u → data_byte after (buffer + 1 + i) ≡ data_byte w (a + i)
  pub rest : (b : ℕ) → 8192 ≤ b → ((i : ℕ) → i ≤ kept_size u → b ≢ buffer + i) → data_byte after b ≡ data_byte w b

abbrev pub TextsAreKept : Type 0
TextsAreKept =
    (p : SourceProgram) (a u buffer : ℕ) (below : List ℕ) (w : World) → IsDataSpace w → 8192 ≤ a → a + kept_size u ≤ 16384 → 8192 ≤ buffer → buffer + 82 ≤ 16384 →
    (a + kept_size u ≤ buffer) ⊎ (buffer + 82 ≤ a) → TextIsKept p a u buffer below w

-- a definition takes size bytes from first on off the source, and keeps so many of them in WORD-BUFFER as a counted string
pub record WordIsKept (p : SourceProgram) (body : Nodes) (most highest : ℕ) (c below : List ℕ) (w : World) (start first size kept : ℕ) : Type 0 where
  pub after : World
  pub run : Returns p body most highest c w (word_buffer ∷ below) after
  pub console : KeepsConsole w after
  pub count : data_byte after word_buffer ≡ kept
  pub bytes : (i : ℕ) → i < kept → data_byte after (word_buffer + 1 + i) ≡ data_byte w (first + i)
  pub place : data_cell after reached_cell ≡ place_past w start first size
  pub rest : (a : ℕ) → 8192 ≤ a → a / 2 ≢ reached_cell / 2 → ((i : ℕ) → i ≤ kept → a ≢ word_buffer + i) → data_byte after a ≡ data_byte w a

-- K-WORD ( c -- a ) keeps the next word of the line
abbrev pub WordsAreKept : Type 0
WordsAreKept =
    (p : SourceProgram) (c : ℕ) (below : List ℕ) (w : World) (first size : ℕ) → IsKernel p → IsDataSpace w →
    data_cell w length_cell ≤ 80 → data_cell w reached_cell ≤ data_cell w length_cell → IsNextWord w c line_buffer first size →
    WordIsKept p kernel_word_body (400 * (data_cell w length_cell + 1)) (300 + 250 * data_cell w length_cell) (c ∷ below) below w line_buffer first size size

-- NEXT-WORD ( -- a ) keeps the next word, between spaces, of a source that lies apart from >IN and WORD-BUFFER
abbrev pub NextWordsAreKept : Type 0
NextWordsAreKept =
    (p : SourceProgram) (below : List ℕ) (w : World) (first size : ℕ) → IsKernel p → IsDataSpace w → HasSource w (data_cell w source_cell) →
    (data_cell w source_cell + data_cell w length_cell ≤ reached_cell) ⊎ (word_buffer + 82 ≤ data_cell w source_cell) → IsNextWord w 32 (data_cell w source_cell) first size →
    WordIsKept p next_word_body (400 * (data_cell w length_cell + 1)) (300 + 250 * data_cell w length_cell) below below w (data_cell w source_cell) first size (kept_size size)

-- ---- numbers

-- what K-NUMBER leaves above the cells c: the number and -1, or the address of its text and 0
abbrev pub number_answer : NumberRead → ℕ → List ℕ → List ℕ
number_answer (Value n) a c = 65535 ∷ n ∷ c
number_answer other a c = 0 ∷ a ∷ c

-- K-NUMBER ( a -- n -1 / a 0 ) reads the counted string at a as the reader of sources reads a number in BASE: a minus or none, and digits
abbrev pub NumbersAreRead : Type 0
NumbersAreRead =
    (p : SourceProgram) (a : ℕ) (c : List ℕ) (w : World) → IsKernel p → IsDataSpace w → 2 ≤ data_cell w base_cell → data_cell w base_cell ≤ 36 → 8192 ≤ a → a + 1 + data_byte w a ≤ 16384 →
    Returns p kernel_number_body (1000 * (data_byte w a + 1)) (1300 * (data_byte w a + 1)) (a ∷ c) w
    (number_answer (based_read (data_cell w base_cell) (data_bytes w (data_byte w a) (a + 1))) a c) w

-- ---- headers

-- K-FIND ( a -- a 0 / xt 1 / xt -1 ) finds the newest header whose name is the counted string at a
abbrev pub NamesAreFound : Type 0
NamesAreFound =
    (p : SourceProgram) (a : ℕ) (c : List ℕ) (w : World) (headers : List Header) → IsKernel p → IsDataSpace w → Headers w (data_cell w latest_cell) headers → 8192 ≤ a → a + 1 + data_byte w a ≤ 16384 →
    Returns p kernel_find_body (4000 * (length headers + 1)) (4000 * (length headers + 1)) (a ∷ c) w (find_answer headers (data_bytes w (data_byte w a) (a + 1)) a c) w

-- K-CELL ( x -- ) stores x at HERE and adds 2 to HERE
pub record CellIsLaid (p : SourceProgram) (x : ℕ) (c : List ℕ) (w : World) : Type 0 where
  pub after : World
  pub run : Returns p kernel_cell_body 2 49 (x ∷ c) w c after
  pub console : KeepsConsole w after
  pub cell : data_cell after (data_cell w here_cell) ≡ x
  pub here : data_cell after here_cell ≡ data_cell w here_cell + 2
  pub rest : (a : ℕ) → 8192 ≤ a → a < 16384 → a / 2 ≢ here_cell / 2 → a / 2 ≢ data_cell w here_cell / 2 → data_byte after a ≡ data_byte w a

abbrev pub CellsAreLaid : Type 0
CellsAreLaid =
    (p : SourceProgram) (x : ℕ) (c : List ℕ) (w : World) → IsKernel p → IsDataSpace w → x < 65536 →
    data_cell w here_cell % 2 ≡ 0 → line_buffer ≤ data_cell w here_cell → data_cell w here_cell ≤ 16382 → CellIsLaid p x c w

-- an address outside the bytes from first to end
abbrev pub IsApart : ℕ → ℕ → ℕ → Type 0
IsApart b first end = (b < first) ⊎ (end ≤ b)

-- a header with the counted string of n bytes at a has room at h, which is HERE aligned, apart from that string and from LATEST
pub record HeaderFits (w : World) (a n h : ℕ) : Type 0 where
  pub size : data_byte w a ≡ n
  pub few : n ≤ 31
  pub old : line_buffer ≤ data_cell w here_cell
  pub place : h ≡ even (data_cell w here_cell + 1)
  pub room : h + 6 + n ≤ 16384
  pub low : 8192 ≤ a
  pub high : a + 1 + n ≤ 16384
  pub text : (i : ℕ) → i ≤ n → ((a + i) / 2 ≢ here_cell / 2) × IsApart (a + i) h (h + 6 + n)
  pub latest : (j : ℕ) → j < 6 + n → (h + j) / 2 ≢ latest_cell / 2

-- K-HEADER ( a x -- ) makes there a header with that name and code x, and makes it the newest
pub record HeaderIsMade (p : SourceProgram) (x a n h : ℕ) (c : List ℕ) (w : World) : Type 0 where
  pub after : World
  pub run : Returns p kernel_header_body 30 (570 + 160 * n) (x ∷ a ∷ c) w c after
  pub console : KeepsConsole w after
  pub link : data_cell after h ≡ data_cell w latest_cell
  pub code : data_cell after (h + 2) ≡ x
  pub size : data_byte after (h + 4) ≡ n
  pub immediate : data_byte after (h + 5) ≡ 0
  pub name : (i : ℕ) → i < n → data_byte after (h + 6 + i) ≡ data_byte w (a + 1 + i)
  pub latest : data_cell after latest_cell ≡ h
  pub here : data_cell after here_cell ≡ even (h + 6 + n + 1)
  pub rest : (b : ℕ) → 8192 ≤ b → b / 2 ≢ here_cell / 2 → b / 2 ≢ latest_cell / 2 → IsApart b h (h + 6 + n) → data_byte after b ≡ data_byte w b

abbrev pub HeadersAreMade : Type 0
HeadersAreMade =
    (p : SourceProgram) (x a n h : ℕ) (c : List ℕ) (w : World) → IsKernel p → IsDataSpace w → x < 65536 → HeaderFits w a n h → HeaderIsMade p x a n h c w

-- the headers end below an address, and have no byte of the cell LATEST
abbrev pub AreBelow : World → ℕ → ℕ → List Header → Type 0
AreBelow w end h [] = Unit {0}
AreBelow w end h (header ∷ older) =
    (h + 6 + data_byte w (h + 4) ≤ end) × ((j : ℕ) → j < 6 + data_byte w (h + 4) → (h + j) / 2 ≢ latest_cell / 2) × AreBelow w end (data_cell w h) older

-- after K-HEADER the list is the new header and then the old list
abbrev pub ListIsLonger : Type 0
ListIsLonger =
    (p : SourceProgram) (x a n h : ℕ) (c : List ℕ) (w : World) (headers : List Header) → HeaderFits w a n h → 1 ≤ n →
    Headers w (data_cell w latest_cell) headers → AreBelow w (data_cell w here_cell) (data_cell w latest_cell) headers → (made : HeaderIsMade p x a n h c w) →
    Headers made.after h (record { name = data_bytes w n (a + 1); code = x; immediate = false } ∷ headers)
