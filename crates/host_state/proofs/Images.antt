-- The image of a state is bytes, and fits data space.
use Rattle.std.proofs.Common.{◌≡◌, ℕ, ◌+◌, ◌-◌, ◌*◌, ◌/◌, ◌%◌, ◌<◌, ◌≤◌, ◌==◌, nat_le, Bool, true, false, ◌&&◌, List, [], ◌∷◌, ◌++◌, length, take, refl, sym, arith, leb-true, length-append, min}
use Rattle.std.specs.Prelude.{replicate}
use Rattle.std.specs.List.{All}
use Rattle.std.proofs.lemmas.Bool.{and_parts, and_from, le-leb}
use Rattle.std.proofs.lemmas.List.{length-take, length-replicate}
use Rattle.std.proofs.lemmas.List.Elements.{All-nil, All-cons, All-take, All-append, All-replicate}
use Rattle.host_state.specs.declared.entry.Ticked.{Ticked}
use Rattle.host_state.specs.HostCells.{Space, Host}
use Rattle.host_state.specs.HostMemory.{here_of, is_here_within, first_space}
use Rattle.host_state.specs.FirstImage.{bytes_of_cells, used_from, used_length, greater, sized, image_with, image_of}
use Rattle.host_state.specs.Kept.{AreCells, IsHost, IsSettled, ImagesFit, SpacesBegin}

are_bytes : (cells : List ℕ) → All (λ byte. byte < 256) (bytes_of_cells cells)
are_bytes [] = All-nil (λ byte. byte < 256)
are_bytes (cell ∷ cells) =
    All-cons (λ byte. byte < 256) (cell % 256) ((cell / 256 % 256) ∷ bytes_of_cells cells) (omega arith)
    (All-cons (λ byte. byte < 256) (cell / 256 % 256) (bytes_of_cells cells) (omega arith) (are_bytes cells))

two_each : (cells : List ℕ) → length (bytes_of_cells cells) ≡ 2 * length cells
two_each [] = refl
two_each (cell ∷ cells) = omega (arith, two_each cells)

one_of : (t : Bool) (m n bound : ℕ) → m ≤ bound → n ≤ bound → elim t as (λ t. ℕ) [ true ↦ n | false ↦ m ] ≤ bound
one_of true m n bound h k = k
one_of false m n bound h k = h

used_short : (bytes : List ℕ) (place used : ℕ) → used ≤ place → used_from place used bytes ≤ place + length bytes
used_short [] place used h = omega (arith, h)
used_short (byte ∷ bytes) place used h =
    one_of (byte == 0) (used_from (place + 1) (place + 1) bytes) (used_from (place + 1) used bytes) (place + length (byte ∷ bytes))
    (omega (arith, used_short bytes (place + 1) (place + 1) (omega arith))) (omega (arith, used_short bytes (place + 1) used (omega (arith, h))))

sized_short : (n : ℕ) (bytes : List ℕ) → length (sized n bytes) ≤ n
sized_short n bytes = omega (arith, length-append (take n bytes) (replicate (n - length bytes) 0), length-take n bytes, length-replicate {A = ℕ} (n - length bytes) 0)

sized_bytes : (n : ℕ) (bytes : List ℕ) → All (λ byte. byte < 256) bytes → All (λ byte. byte < 256) (sized n bytes)
sized_bytes n bytes h =
    All-append (λ byte. byte < 256) (take n bytes) (replicate (n - length bytes) 0) (All-take (λ byte. byte < 256) n bytes h) (All-replicate (λ byte. byte < 256) (n - length bytes) 0 (omega arith))

here_end : (space : Space) → is_here_within space ≡ true → here_of space ≤ 16384
here_end space t = leb-true (here_of space) 16384 (and_parts (nat_le (space.data_start + 128) (here_of space)) (nat_le (here_of space) 16384) t).1

pub images_fit : ImagesFit
images_fit d tokens s e l k =
    let bytes : List ℕ = bytes_of_cells s.space.cells in
    let reserved : ℕ = here_of s.space - s.space.data_start in
    let fits : reserved ≤ 16384 - d = omega (arith, here_end s.space k.here, k.host.start) in
    let most : used_length bytes ≤ 16384 - d = omega (arith, used_short bytes 0 0 (omega arith), two_each s.space.cells, k.host.fits, e) in
    let n : greater reserved (used_length bytes) ≤ 16384 - d = one_of (nat_le reserved (used_length bytes)) reserved (used_length bytes) (16384 - d) fits most in
    (sized_bytes (greater reserved (used_length bytes)) bytes (are_bytes s.space.cells), omega (arith, sized_short (greater reserved (used_length bytes)) bytes, n))

pub spaces_begin : SpacesBegin
spaces_begin d tokens stack e l cells = record {
  host = record { stack = cells; fits = omega (arith, l); start = refl; ticked = refl };
  here = begins d (omega (arith, e, l));
}
  where
    place : (d : ℕ) → (d + 4 - d) / 2 ≡ 2
    place d = omega arith

    begins : (d : ℕ) → d + 128 ≤ 16384 → is_here_within (first_space d) ≡ true
    begins d h = rw (place d) (and_from _ _ (le-leb (d + 128) (d + 128) (omega arith)) (le-leb (d + 128) 16384 h))
