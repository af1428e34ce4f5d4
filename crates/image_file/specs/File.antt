-- The file of an image, and where bytes first differ from every such file.
use Rattle.std.specs.Prelude.{ℕ, ◌+◌, ◌/◌, ◌%◌, ◌<◌, ◌^◌, ◌==◌, ◌≡◌, ◌⊎◌, Bool, true, false, List, [], ◌∷◌, ◌++◌, length, take, slice_index}
use Rattle.std.specs.List.{flat_map}
use Rattle.j1_table.specs.Image.{Content, HasRoom}

-- a number in two bytes, the low one first
abbrev pub pair : ℕ → List ℕ
pair n = n % 256 ∷ n / 256 ∷ []

-- "J1IM"
abbrev pub letters : List ℕ
letters = 0x4A ∷ 0x31 ∷ 0x49 ∷ 0x4D ∷ []

-- the letters, the version in two bytes, and in version 2 the data start
abbrev pub front_of : Bool → ℕ → List ℕ
front_of true data_start = letters ++ 1 ∷ 0 ∷ []
front_of false data_start = letters ++ 2 ∷ 0 ∷ pair data_start

-- version 1 is for the data start 8192 alone
abbrev pub front : ℕ → List ℕ
front data_start = front_of (data_start == 8192) data_start

-- the front, the numbers of cells and of data bytes, the cells and the data bytes
abbrev pub image_bytes : Content → List ℕ
image_bytes image = front image.data_start ++ (pair (length image.cells) ++ (pair (length image.bytes) ++ (flat_map pair image.cells ++ image.bytes)))

-- the cells and bytes have room, and each is in range
pub record IsImage (image : Content) : Type 0 where
  pub room : HasRoom image
  pub cells : (k : ℕ) → slice_index image.cells k < 2 ^ 16
  pub bytes : (k : ℕ) → slice_index image.bytes k < 2 ^ 8

-- the bytes are the file of an image
abbrev pub IsFile : List ℕ → Type 0
IsFile bytes = (image : Content) × IsImage image × (bytes ≡ image_bytes image)

-- some image file begins so
abbrev pub Begins : List ℕ → Type 0
Begins bytes = (rest : List ℕ) × IsFile (bytes ++ rest)

-- some image file begins with the bytes before this offset, and none with the byte at it too; or there is no byte at it,
-- and the bytes are no whole file
abbrev pub FirstBad : List ℕ → ℕ → Type 0
FirstBad bytes offset =
    Begins (take offset bytes) × (((offset < length bytes) × ¬ Begins (take (offset + 1) bytes)) ⊎ ((offset ≡ length bytes) × ¬ IsFile bytes))
