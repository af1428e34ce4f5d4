-- The kernel's state and texts in its first data space: computed from what its text has come to at its end.
use Rattle.std.proofs.Common.{◌≡◌, ℕ, zero, suc, ◌+◌, ◌-◌, ◌*◌, ◌/◌, ◌<◌, ◌≤◌, nat_lt, nat_eq, Bool, true, false, ◌&&◌, List, [], ◌∷◌, ◌++◌}
use Rattle.std.proofs.Common.{length, replicate, take, slice_index}
use Rattle.std.proofs.Common.{refl, sym, ap, ◌∙◌, subst, arith, eqb-true, length-append}
use Rattle.std.proofs.lemmas.Bool.{and_parts, ltb-true}
use Rattle.std.proofs.lemmas.List.{length-replicate}
use Rattle.cell_math.specs.Bytes.{cells_of_bytes, filled}
use Rattle.word_table.specs.declared.word.Vocabulary.TheVariants.{Kernel}
use Rattle.forth_program.specs.State.{World}
use Rattle.forth_program.specs.Run.{first_world}
use Rattle.host_state.specs.HostCells.{cell_at, Space}
use Rattle.host_state.specs.HostMemory.{here_of}
use Rattle.host_state.specs.FirstImage.{bytes_of_cells, used_length, greater, image_of}
use Rattle.control_flow.specs.Brackets.{bracket_at}
use Rattle.control_flow.specs.HostParts.{host_part_at}
use Rattle.control_flow.specs.Items.{items_at}
use Rattle.control_flow.specs.ParseResult.{ParseResult, Fine, Refused, Endless, ◌>>=◌}
use Rattle.control_flow.specs.SourceText.{Source, program_of_source}
use Rattle.control_flow.specs.SourceLaw.{EachEndsInItsSource, EachProgramIsSource}
use Rattle.control_flow.specs.Pieces.{read_at, source_in}
use Rattle.kernel_words.specs.Memory.{data_cell, data_byte}
use Rattle.kernel_lines.specs.State.{kernel_state, HasTexts}
use Rattle.target_forth.specs.declared.text.TheConstants.{KERNEL_TEXT}
use Rattle.target_forth.specs.Kernel.{kernel_program}
use Rattle.target_forth.specs.FirstState.{first_kernel_state, KernelBegins}
use Rattle.target_forth.proofs.ReadText.{text_is_read}
use Rattle.target_forth.proofs.CodeCells.{cell_is, at_least, cells_few, program_space}

-- ---- the text has come to a data space with these cells, each with its place in it

abbrev has_cells : Space → List (ℕ × ℕ) → Bool
has_cells space [] = true
has_cells space (cell ∷ cells) =
    nat_eq (cell_at space.cells cell.0) cell.1 && (nat_lt cell.1 0x10000 &&
    (nat_lt cell.0 (length space.cells) && (nat_lt cell.0 1193 && has_cells space cells)))

abbrev state_cells : List (ℕ × ℕ)
state_cells = (0, 10) ∷ (2, 10578) ∷ (104, 0) ∷ (105, 0) ∷ (106, 10570) ∷ (148, 0) ∷ (149, 0) ∷ (150, 0) ∷ (151, 0) ∷ (152, 10578) ∷
    (153, 10570) ∷ (154, 10578) ∷ (155, 0) ∷ (188, 0) ∷
    (222, 0) ∷ (223, 0) ∷ (224, 0) ∷ []

-- the texts, two bytes a cell
abbrev text_cells : List (ℕ × ℕ)
text_cells = (495, 16160) ∷ (496, 29472) ∷ (497, 24948) ∷ (498, 27491) ∷ (499, 16160) ∷ (500, 26988) ∷ (501, 25966) ∷ (502, 29728) ∷
    (503, 28527) ∷ (504, 27680) ∷
    (505, 28271) ∷ (506, 8295) ∷ (507, 8255) ∷ (508, 30054) ∷ (509, 27756) ∷ (510, 16160) ∷ (511, 28448) ∷ (512, 107) ∷ []

abbrev begins_so : Space → Bool
begins_so space = nat_eq space.data_start 8192 && (nat_eq (here_of space) 10578 &&
    (has_cells space state_cells && has_cells space text_cells))

abbrev ends_so : ParseResult Source → Bool
ends_so (Fine last) = begins_so last.at.host.space
ends_so (Refused token cause) = false
ends_so Endless = false

kernel_ends_so : ends_so (source_in Kernel KERNEL_TEXT.now) ≡ true
unfolding bracket_at host_part_at items_at read_at
kernel_ends_so = refl

-- ---- the cells of a list

abbrev Have : List ℕ → List (ℕ × ℕ) → Type 0
Have cells [] = Unit {0}
Have cells (cell ∷ more) = (slice_index cells cell.0 ≡ cell.1) × Have cells more

abbrev space_of : Space → ℕ → List ℕ
space_of space m = filled m (cells_of_bytes (image_of space))

module _ (space : Space) (start : space.data_start ≡ 8192) (here : here_of space ≡ 10578) (m : ℕ) where
  enough : 2386 ≤ greater (here_of space - space.data_start) (used_length (bytes_of_cells space.cells))
  enough = omega (arith, at_least (here_of space - space.data_start) (used_length (bytes_of_cells space.cells)), start, here)

  they_are : (cells : List (ℕ × ℕ)) → has_cells space cells ≡ true → Have (space_of space m) cells
  they_are [] t = tt
  they_are (cell ∷ cells) t =
      let t1 = and_parts (nat_eq (cell_at space.cells cell.0) cell.1)
      (nat_lt cell.1 0x10000 && (nat_lt cell.0 (length space.cells) && (nat_lt cell.0 1193 && has_cells space cells))) t in
      let t2 = and_parts (nat_lt cell.1 0x10000) (nat_lt cell.0 (length space.cells) &&
      (nat_lt cell.0 1193 && has_cells space cells)) t1.1 in
      let t3 = and_parts (nat_lt cell.0 (length space.cells)) (nat_lt cell.0 1193 && has_cells space cells) t2.1 in
      let t4 = and_parts (nat_lt cell.0 1193) (has_cells space cells) t3.1 in
      let below : cell.0 < 1193 = ltb-true cell.0 1193 t4.0 in (
        cell_is space.cells cell.1 _ _ (ltb-true cell.1 0x10000 t2.0) cell.0
            (greater (here_of space - space.data_start) (used_length (bytes_of_cells space.cells)))
            (eqb-true (cell_at space.cells cell.0) cell.1 t1.0) (ltb-true cell.0 (length space.cells) t3.0) (omega (arith, enough, below)),
        they_are cells t4.1,
      )

-- ---- each cell has 16 bits

abbrev AreBytes : List ℕ → Type 0
AreBytes [] = Unit {0}
AreBytes (b ∷ bytes) = (b < 256) × AreBytes bytes

bytes_are : (cells : List ℕ) → AreBytes (bytes_of_cells cells)
bytes_are [] = tt
bytes_are (cell ∷ cells) = (omega arith, (omega arith, bytes_are cells))

taken_are : (n : ℕ) (bytes : List ℕ) → AreBytes bytes → AreBytes (take n bytes)
taken_are zero bytes h = tt
taken_are (suc n) [] h = tt
taken_are (suc n) (b ∷ bytes) h = (h.0, taken_are n bytes h.1)

zeros_are : (n : ℕ) → AreBytes (replicate n 0)
zeros_are zero = tt
zeros_are (suc n) = (omega arith, zeros_are n)

both_are : (xs ys : List ℕ) → AreBytes xs → AreBytes ys → AreBytes (xs ++ ys)
both_are [] ys h k = k
both_are (x ∷ xs) ys h k = (h.0, both_are xs ys h.1 k)

Fit : List ℕ → Type 0
Fit cells = (i : ℕ) → slice_index cells i < 65536

each_fits : (cells : List ℕ) → Fit cells → (i : ℕ) → slice_index cells i < 65536
unfolding Fit
each_fits cells f = f

none_fit : Fit []
unfolding Fit
none_fit zero = omega arith
none_fit (suc i) = omega arith

more_fit : (x : ℕ) (cells : List ℕ) → x < 65536 → Fit cells → Fit (x ∷ cells)
unfolding Fit
more_fit x cells h f zero = h
more_fit x cells h f (suc i) = f i

cells_fit : (bytes zeros : List ℕ) → AreBytes bytes → Fit zeros → Fit (cells_of_bytes bytes ++ zeros)
cells_fit [] zeros h f = f
cells_fit (low ∷ []) zeros h f = let small = h.0 in more_fit low zeros (omega (arith, small)) f
cells_fit (low ∷ high ∷ bytes) zeros h f = let small = h.0 in
    let small' = h.1.0 in more_fit (low + 256 * high) (cells_of_bytes bytes ++ zeros) (omega (arith, small, small'))
    (cells_fit bytes zeros h.1.1 f)

zeros_fit : (n : ℕ) → Fit (replicate n 0)
zeros_fit zero = none_fit
zeros_fit (suc n) = more_fit 0 (replicate n 0) (omega arith) (zeros_fit n)

space_fits : (space : Space) (m : ℕ) → Fit (space_of space m)
space_fits space m =
    let n = greater (here_of space - space.data_start) (used_length (bytes_of_cells space.cells)) in
    cells_fit (image_of space) (replicate (m - length (cells_of_bytes (image_of space))) 0)
    (both_are (take n (bytes_of_cells space.cells)) (replicate (n - length (bytes_of_cells space.cells)) 0)
    (taken_are n (bytes_of_cells space.cells) (bytes_are space.cells)) (zeros_are _))
    (zeros_fit (m - length (cells_of_bytes (image_of space))))

-- ---- what they say of a world

texts_by : (w : World) → slice_index w.space 495 ≡ 16160 → slice_index w.space 496 ≡ 29472 → slice_index w.space 497 ≡ 24948 →
    slice_index w.space 498 ≡ 27491 → slice_index w.space 499 ≡ 16160 → slice_index w.space 500 ≡ 26988 →
    slice_index w.space 501 ≡ 25966 → slice_index w.space 502 ≡ 29728 → slice_index w.space 503 ≡ 28527 → slice_index w.space 504 ≡ 27680 →
    slice_index w.space 505 ≡ 28271 → slice_index w.space 506 ≡ 8295 →
    slice_index w.space 507 ≡ 8255 → slice_index w.space 508 ≡ 30054 → slice_index w.space 509 ≡ 27756 → slice_index w.space 510 ≡ 16160 →
    slice_index w.space 511 ≡ 28448 → slice_index w.space 512 ≡ 107 → HasTexts w
unfolding data_byte data_cell
texts_by w a b c d e f g h i j k l m n o q r s = record {
  unknown = rw a refl;
  stack = rw (b, c, d, e) refl;
  long = rw (f, g, h, i, j, k, l, m) refl;
  full = rw (m, n, o, q) refl;
  well = rw (r, s) refl;
}

texts_are : (w : World) → Have w.space text_cells → HasTexts w
texts_are w f = texts_by w f.0 f.1.0 f.1.1.0 f.1.1.1.0 f.1.1.1.1.0 f.1.1.1.1.1.0 f.1.1.1.1.1.1.0 f.1.1.1.1.1.1.1.0 f.1.1.1.1.1.1.1.1.0 f.1.1.1.1.1.1.1.1.1.0 f.1.1.1.1.1.1.1.1.1.1.0 f.1.1.1.1.1.1.1.1.1.1.1.0 f.1.1.1.1.1.1.1.1.1.1.1.1.0 f.1.1.1.1.1.1.1.1.1.1.1.1.1.0 f.1.1.1.1.1.1.1.1.1.1.1.1.1.1.0 f.1.1.1.1.1.1.1.1.1.1.1.1.1.1.1.0 f.1.1.1.1.1.1.1.1.1.1.1.1.1.1.1.1.0 f.1.1.1.1.1.1.1.1.1.1.1.1.1.1.1.1.1.0

state_is : (w : World) → Have w.space state_cells → kernel_state w ≡ first_kernel_state
unfolding data_cell
state_is w f =
    let b = f.1 in
    let c = b.1 in
    let d = c.1 in
    let e = d.1 in
    let g = e.1 in
    let h = g.1 in
    let i = h.1 in
    let j = i.1 in
    let k = j.1 in
    let l = k.1 in
    let m = l.1 in
    let n = m.1 in
    let o = n.1 in
    let q = o.1 in
    let r = q.1 in
    let s = r.1 in
    rw (f.0, b.0, c.0, d.0, e.0, g.0, h.0, i.0, j.0, k.0, l.0, m.0, n.0, o.0, q.0, r.0, s.0) refl

-- ---- the kernel's program

module _ (ends : EachEndsInItsSource) (sources : EachProgramIsSource) where
  found : (last : Source) → source_in Kernel KERNEL_TEXT.now ≡ Fine last → begins_so last.at.host.space ≡ true → KernelBegins
  found last e t input =
      let is : program_of_source last last.at ≡ Fine kernel_program =
      sym (ends Kernel KERNEL_TEXT.now ∙ ap (λ o. o >>= λ last. program_of_source last last.at) e) ∙ text_is_read in
      let of = program_space last _ kernel_program is in
      let t1 = and_parts _ _ t in
      let t2 = and_parts _ _ t1.1 in
      let t3 = and_parts _ _ t2.1 in
      let start : last.at.host.space.data_start ≡ 8192 = eqb-true _ _ t1.0 in
      let here : here_of last.at.host.space ≡ 10578 = eqb-true _ _ t2.0 in
      let m = (0x4000 - kernel_program.data_start) / 2 in
      let fits = (sources Kernel KERNEL_TEXT.now kernel_program text_is_read).form.space_fits in
      let count : m ≡ 0x1000 = omega (arith, of.1, start) in
      let few : length (cells_of_bytes kernel_program.first_space) ≤ m =
      omega (arith, cells_few kernel_program.first_space, fits, of.1, start) in
      let whole : length (filled m (cells_of_bytes kernel_program.first_space)) ≡ 0x1000 =
      simp (length-append, length-replicate) (omega (arith, few, count)) in
      let first = first_world kernel_program input in
      record {
        space = record {
          start = of.1 ∙ start;
          room = omega (arith, whole);
          cells = each_fits (first_world kernel_program input).space
              (subst (λ bytes. Fit (filled m (cells_of_bytes bytes))) (sym of.0) (space_fits last.at.host.space m));
        };
        texts = texts_are (first_world kernel_program input)
            (subst (λ bytes. Have (filled m (cells_of_bytes bytes)) text_cells) (sym of.0)
            (they_are last.at.host.space start here m text_cells t3.1));
        state = state_is (first_world kernel_program input)
            (subst (λ bytes. Have (filled m (cells_of_bytes bytes)) state_cells) (sym of.0)
            (they_are last.at.host.space start here m state_cells t3.0));
      }

  read_to_end : (o : ParseResult Source) → source_in Kernel KERNEL_TEXT.now ≡ o → ends_so o ≡ true → KernelBegins
  read_to_end (Fine last) e t = found last e t
  read_to_end (Refused token cause) e t = absurd cc
  read_to_end Endless e t = absurd cc

  pub kernel_begins : KernelBegins
  kernel_begins = read_to_end (source_in Kernel KERNEL_TEXT.now) refl kernel_ends_so
