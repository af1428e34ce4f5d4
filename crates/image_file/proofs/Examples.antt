-- Files that compute.
use Rattle.std.proofs.Common.{◌≡◌, [], ◌∷◌, refl}
use Rattle.image_file.specs.File.{image_bytes}

hello : image_bytes (record { cells = 0x8048 ∷ 0xC000 ∷ 0x6023 ∷ 0x6103 ∷ []; bytes = 0x0A ∷ []; data_start = 8192 })
    ≡ 0x4A ∷ 0x31 ∷ 0x49 ∷ 0x4D ∷ 1 ∷ 0 ∷ 4 ∷ 0 ∷ 1 ∷ 0 ∷ 0x48 ∷ 0x80 ∷ 0x00 ∷ 0xC0 ∷ 0x23 ∷ 0x60 ∷ 0x03 ∷ 0x61 ∷ 0x0A ∷ []
hello = refl

version_2 : image_bytes (record { cells = 0x6010 ∷ []; bytes = 7 ∷ []; data_start = 6000 })
    ≡ 0x4A ∷ 0x31 ∷ 0x49 ∷ 0x4D ∷ 2 ∷ 0 ∷ 0x70 ∷ 0x17 ∷ 1 ∷ 0 ∷ 1 ∷ 0 ∷ 0x10 ∷ 0x60 ∷ 7 ∷ []
version_2 = refl
