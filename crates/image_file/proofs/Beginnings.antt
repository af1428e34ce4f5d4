-- What some image file begins with.
use Rattle.std.proofs.Common.{◌≡◌, ℕ, zero, suc, ◌+◌, ◌-◌, ◌*◌, ◌/◌, ◌%◌, ◌<◌, ◌≤◌, List, [], ◌∷◌, ◌++◌, length, take, drop, replicate, slice_index, ap, sym, ◌∙◌, arith, append_assoc, length-append, subst, append-nil, lit<}
use Rattle.std.specs.List.{flat_map}
use Rattle.std.proofs.lemmas.List.{take-append-drop, length-take-le, length-drop, length-replicate, get_or-drop}
use Rattle.j1_table.specs.Image.{Content, HasRoom}
use Rattle.console_ports.specs.DataSpace.{IsDataStart}
use Rattle.image_file.specs.File.{pair, front, IsFile, Begins}
use Rattle.image_file.specs.Reading.{cells_of}
use Rattle.image_file.proofs.Pairs.{cells_back, cells_length, cells_small}

-- what begins a beginning begins a file
pub shorter : (a b : List ℕ) → Begins (a ++ b) → Begins a
shorter a b (rest, file) = (b ++ rest, (file.0, file.1, sym (append_assoc a b rest) ∙ file.2))

pub file_begins : (bytes : List ℕ) → IsFile bytes → Begins bytes
file_begins bytes file = ([], (file.0, file.1, append-nil bytes ∙ file.2))

abbrev AreBytes : List ℕ → Type 0
AreBytes bytes = (k : ℕ) → slice_index bytes k < 256

taken_bytes : (n : ℕ) (bytes : List ℕ) → AreBytes bytes → AreBytes (take n bytes)
taken_bytes zero bytes b k = lit< tt
taken_bytes (suc n) [] b k = lit< tt
taken_bytes (suc n) (x ∷ xs) b zero = b 0
taken_bytes (suc n) (x ∷ xs) b (suc k) = taken_bytes n xs (λ k. b (suc k)) k

dropped_bytes : (n : ℕ) (bytes : List ℕ) → AreBytes bytes → AreBytes (drop n bytes)
dropped_bytes n bytes b k = rw (get_or-drop n bytes k 0) (b (n + k))

zeros_bytes : (n : ℕ) → AreBytes (replicate n 0)
zeros_bytes zero k = lit< tt
zeros_bytes (suc n) zero = lit< tt
zeros_bytes (suc n) (suc k) = zeros_bytes n k

filled_bytes : (bytes : List ℕ) (n : ℕ) → AreBytes bytes → AreBytes (bytes ++ replicate n 0)
filled_bytes [] n b k = zeros_bytes n k
filled_bytes (x ∷ xs) n b zero = b 0
filled_bytes (x ∷ xs) n b (suc k) = filled_bytes xs n (λ k. b (suc k)) k

-- there is room for so many cells and bytes
pub record HaveRoom (cells bytes start : ℕ) : Type 0 where
  pub splits : IsDataStart start
  pub code : cells ≤ start / 2
  pub space : bytes ≤ 16384 - start

module _ (s c d : ℕ) (fits : HaveRoom c d s) where
  -- so many cells and bytes make a file
  pub whole_file : (body : List ℕ) → length body ≡ 2 * c + d → AreBytes body → IsFile (front s ++ (pair c ++ (pair d ++ body)))
  whole_file body n b =
      let code : List ℕ = take (2 * c) body in
      let space : List ℕ = drop (2 * c) body in
      let code_length : length code ≡ 2 * c = length-take-le (2 * c) body (omega arith) in
      let space_length : length space ≡ d = omega (arith, length-drop (2 * c) body) in
      let cells_are : length (cells_of code) ≡ c = cells_length c code code_length in
      let image : Content = record { cells = cells_of code; bytes = space; data_start = s } in
      let room : HasRoom image = record { splits = fits.splits; code = omega (arith, fits.code); space = omega (arith, fits.space) } in
      let same : body ≡ flat_map pair (cells_of code) ++ space = sym (take-append-drop (2 * c) body) ∙ ap (λ t. t ++ space) (sym (cells_back c code code_length (taken_bytes (2 * c) body b))) in (
        image,
        record { room = room; cells = cells_small code (taken_bytes (2 * c) body b); bytes = dropped_bytes (2 * c) body b },
        ap (λ t. front s ++ (pair c ++ (pair d ++ t))) same
            ∙ ap (λ k. front s ++ (pair k ++ (pair d ++ (flat_map pair (cells_of code) ++ space)))) (sym cells_are)
            ∙ ap (λ k. front s ++ (pair (length (cells_of code)) ++ (pair k ++ (flat_map pair (cells_of code) ++ space)))) (sym space_length),
      )

  -- a shorter body begins one
  pub body_begins : (body : List ℕ) → length body ≤ 2 * c + d → AreBytes body → Begins (front s ++ (pair c ++ (pair d ++ body)))
  body_begins body n b =
      let rest : List ℕ = replicate (2 * c + d - length body) 0 in
      let whole : length (body ++ rest) ≡ 2 * c + d = omega (arith, length-append body rest, length-replicate {A = ℕ} (2 * c + d - length body) 0) in
      let file = whole_file (body ++ rest) whole (filled_bytes body (2 * c + d - length body) b) in
      (rest, (file.0, file.1, append_assoc (front s) (pair c ++ (pair d ++ body)) rest ∙ file.2))

  pub counts_begin : Begins (front s ++ (pair c ++ pair d))
  counts_begin = body_begins [] (omega arith) (λ k. lit< tt)

blank_room : (s : ℕ) → IsDataStart s → (c d : ℕ) → c ≤ s / 2 → d ≤ 16384 - s → HaveRoom c d s
blank_room s ok c d h g = record { splits = ok; code = h; space = g }

module _ (s : ℕ) (ok : IsDataStart s) where
  pub cells_begin : (c : ℕ) → c ≤ s / 2 → Begins (front s ++ pair c)
  cells_begin c h = shorter (front s ++ pair c) (pair 0) (rw (append_assoc (front s) (pair c) (pair 0)) (counts_begin s c 0 (blank_room s ok c 0 h (omega arith))))

  pub front_begins : Begins (front s)
  front_begins = shorter (front s) (pair 0) (cells_begin 0 (omega arith))

  byte_low : (l : ℕ) → l < 256 → l % 256 ≡ l
  byte_low l h = omega arith

  pub cells_low_begins : (l : ℕ) → l < 256 → Begins (front s ++ l ∷ [])
  cells_low_begins l h =
      let few : l ≤ s / 2 = omega (arith, ok.at_least) in
      shorter (front s ++ l ∷ []) (l / 256 ∷ []) (rw (append_assoc (front s) (l ∷ []) (l / 256 ∷ [])) (subst (λ x. Begins (front s ++ x ∷ l / 256 ∷ [])) (byte_low l h) (cells_begin l few)))

  pub bytes_low_begins : (c l : ℕ) → c ≤ s / 2 → l < 256 → Begins (front s ++ (pair c ++ l ∷ []))
  bytes_low_begins c l h g =
      let few : l ≤ 16384 - s = omega (arith, ok.at_most) in
      shorter (front s ++ (pair c ++ l ∷ [])) (l / 256 ∷ [])
      (rw (append_assoc (front s) (pair c ++ l ∷ []) (l / 256 ∷ []))
      (subst (λ x. Begins (front s ++ (pair c ++ x ∷ l / 256 ∷ []))) (byte_low l g) (counts_begin s c l (blank_room s ok c l h few))))
