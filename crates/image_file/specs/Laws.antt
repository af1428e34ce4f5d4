-- What the definitions say together.
use Rattle.std.specs.Prelude.{ℕ, List, ◌≡◌}
use Rattle.j1_table.specs.Image.{Content}
use Rattle.image_file.specs.File.{image_bytes, IsFile, FirstBad}

-- two images with one file are the same image
abbrev pub FilesAreImages : Type 0
FilesAreImages = (one other : Content) → image_bytes one ≡ image_bytes other → one ≡ other

-- what has a first bad offset is no file
abbrev pub BadIsNoFile : Type 0
BadIsNoFile = (bytes : List ℕ) (offset : ℕ) → FirstBad bytes offset → IsFile bytes → ⊥

-- bytes have at most one first bad offset
abbrev pub OneFirstBad : Type 0
OneFirstBad = (bytes : List ℕ) (one other : ℕ) → FirstBad bytes one → FirstBad bytes other → one ≡ other
