-- Listings that compute.
use Rattle.std.proofs.Common.{◌≡◌, [], ◌∷◌, codes, refl}
use Rattle.decompiler.specs.Listing.{listing}

-- a cell with bit 4
raw_cell : listing (record { cells = 0x6010 ∷ []; bytes = []; data_start = 8192 }) ≡ codes "J1 1\nCODE\n@0000 raw 6010\nDATA\nEND\n"
raw_cell = refl

hello : listing (record { cells = 0x8048 ∷ 0xC000 ∷ 0x6023 ∷ 0x6103 ∷ []; bytes = 0x0A ∷ []; data_start = 8192 })
    ≡ codes "J1 1\nCODE\n@0000 lit 0048\n@0001 lit 4000\n@0002 alu T N->[T] d-1\n@0003 alu N d-1 \\ drop\nDATA\n@2000 0A\nEND\n"
hello = refl

version_2 : listing (record { cells = []; bytes = []; data_start = 6000 }) ≡ codes "J1 2 1770\nCODE\nDATA\nEND\n"
version_2 = refl
