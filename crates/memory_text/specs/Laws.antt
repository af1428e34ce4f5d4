-- What memory texts are good for.
use Rattle.std.specs.Prelude.{◌≡◌, ℕ, ◌+◌, ◌*◌, ◌/◌, ◌<◌, List, length, take, drop, slice_index}
use Rattle.j1_table.specs.Image.{Content, HasRoom}
use Rattle.j1_simulator.specs.Run.{memory_of}
use Rattle.memory_text.specs.MemoryText.{cell_line, memory_text}

-- a memory has 8192 cells: the code, with zeros up to data space, and the data bytes two by two, the low one first, with zeros behind
-- them. What is taken from behind the end of a list is 0
pub record BeginsWith (image : Content) (memory : List ℕ) : Type 0 where
  pub size : length memory ≡ 8192
  pub code : (i : ℕ) → i < image.data_start / 2 → slice_index memory i ≡ slice_index image.cells i
  pub space : (i : ℕ) → image.data_start / 2 + i < 8192 →
      slice_index memory (image.data_start / 2 + i) ≡ slice_index image.bytes (2 * i) + 256 * slice_index image.bytes (2 * i + 1)

-- the text of an image has 8192 lines of five bytes: line i is that of cell i of the memory that the image begins with, and no other
-- memory has that text
pub record TellsItsMemory (image : Content) : Type 0 where
  pub begins : BeginsWith image (memory_of image)
  pub size : length (memory_text image) ≡ 5 * 8192
  pub lines : (i : ℕ) → i < 8192 → take 5 (drop (5 * i) (memory_text image)) ≡ cell_line (slice_index (memory_of image) i)
  pub alone : (other : Content) → memory_text other ≡ memory_text image → memory_of other ≡ memory_of image

abbrev pub EachTellsItsMemory : Type 0
EachTellsItsMemory = (image : Content) → HasRoom image → TellsItsMemory image
