-- Texts that compute: images, and first bad lines.
use Rattle.std.proofs.Common.{◌≡◌, [], ◌∷◌, codes, refl}
use Rattle.j1_assembler.specs.declared.refusal.AsmCause.TheVariants as causes
use Rattle.j1_assembler.specs.Assembly.{Assembled, Refused, assembled}

one_cell : assembled (codes "J1 1\nCODE\n@0000 raw 6010\nDATA\nEND\n") ≡ Assembled (record { cells = 0x6010 ∷ []; bytes = []; data_start = 8192 })
one_cell = refl

hello : assembled (codes "J1 1\nCODE\n@0000 lit 0048\n@0001 lit 4000\n@0002 alu T N->[T] d-1\n@0003 alu N d-1 \\ drop\nDATA\n@2000 0A\nEND\n")
    ≡ Assembled (record { cells = 0x8048 ∷ 0xC000 ∷ 0x6023 ∷ 0x6103 ∷ []; bytes = 0x0A ∷ []; data_start = 8192 })
hello = refl

-- a label that is used before its line
ahead : assembled (codes "J1 2 1770\nCODE\nloop: dup\nbranch :out\njump :loop\nout: exit\nDATA\nEND") ≡ Assembled (record { cells = 0x6081 ∷ 0x2003 ∷ 0 ∷ 0x700C ∷ []; bytes = []; data_start = 6000 })
ahead = refl

large_literal : assembled (codes "J1 1\nCODE\nlit 8000\n") ≡ Refused 3 causes.Form
large_literal = refl

empty : assembled [] ≡ Refused 1 causes.NoEnd
empty = refl

another_cell : assembled (codes "J1 1\nCODE\n@0001 raw 0000\n") ≡ Refused 3 causes.Address
another_cell = refl

no_label : assembled (codes "J1 1\nCODE\njump :X\nDATA\nEND\n") ≡ Refused 3 causes.Label
no_label = refl

defined_twice : assembled (codes "J1 1\nCODE\nX: dup\nX: drop\nDATA\nEND\n") ≡ Refused 4 causes.Label
defined_twice = refl

behind_the_end : assembled (codes "J1 1\nCODE\nDATA\nEND\n\\ over\nEND\n") ≡ Refused 6 causes.AfterEnd
behind_the_end = refl

version_2_at_8192 : assembled (codes "J1 2 2000\n") ≡ Refused 1 causes.Header
version_2_at_8192 = refl
