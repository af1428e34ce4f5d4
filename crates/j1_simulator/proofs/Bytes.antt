-- How many cells the bytes take.
use Rattle.std.proofs.Common.{◌≡◌, ℕ, ◌+◌, ◌*◌, ◌≤◌, List, [], ◌∷◌, ◌++◌, length, replicate, ◌-◌, ◌/◌, append_assoc, length-append, sym, ap, ◌∙◌, arith}
use Rattle.cell_math.specs.Bytes.{cells_of_bytes, filled}
use Rattle.j1_simulator.specs.Run.{memory_of}
use Rattle.std.proofs.lemmas.List.{length-replicate}
use Rattle.j1_table.specs.Image.{Content, HasRoom}

pub cells_few : (bytes : List ℕ) → 2 * length (cells_of_bytes bytes) ≤ length bytes + 1
cells_few [] = omega arith
cells_few (low ∷ []) = omega arith
cells_few (low ∷ high ∷ bytes) = let h = cells_few bytes in omega (arith, h)

pub laid_out : (image : Content) (a b c d : List ℕ) (n : ℕ) → a ≡ image.cells → HasRoom image → n ≡ image.data_start / 2 → b ≡ filled n a → c ≡ b ++ cells_of_bytes image.bytes → d ≡ filled 0x2000 c → d ≡ memory_of image
laid_out image a b c d m ea room em eb ec ed =
    let half = image.data_start / 2 in
    let code = room.code in
    let space = room.space in
    let even = room.splits.is_even in
    let most = room.splits.at_most in
    let b' : b ≡ filled half a = eb ∙ ap (λ k. filled k a) em in
    let na : length a ≤ half = omega (arith, code, ap length ea) in
    let nb : length b ≡ half = ap length b' ∙ simp (length-append, length-replicate) (omega arith) in
    let nc : length c ≡ half + length (cells_of_bytes image.bytes) = ap length ec ∙ simp length-append (omega arith) in
    let n : 0x2000 - length c ≡ 0x2000 - half - length (cells_of_bytes image.bytes) = omega arith in
    let e : d ≡ (b ++ cells_of_bytes image.bytes) ++ replicate (0x2000 - half - length (cells_of_bytes image.bytes)) 0 =
    ed ∙ ap (λ k. c ++ replicate k 0) n ∙ ap (λ x. x ++ replicate (0x2000 - half - length (cells_of_bytes image.bytes)) 0) ec in
    let f : d ≡ b ++ (cells_of_bytes image.bytes ++ replicate (0x2000 - half - length (cells_of_bytes image.bytes)) 0) = e ∙ append_assoc b (cells_of_bytes image.bytes) _ in
    let s : memory_of image ≡ filled half a ++ filled (0x2000 - half) (cells_of_bytes image.bytes) = ap (λ x. filled half x ++ filled (0x2000 - half) (cells_of_bytes image.bytes)) (sym ea) in
    f ∙ ap (λ x. x ++ filled (0x2000 - half) (cells_of_bytes image.bytes)) b' ∙ sym s
