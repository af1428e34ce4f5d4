-- The machine code in the kernel's data space: computed from what its text has come to at its end.
use Rattle.std.proofs.Common.{◌≡◌, ℕ, zero, suc, ◌+◌, ◌-◌, ◌*◌, ◌/◌, ◌<◌, ◌≤◌, nat_le, nat_lt, nat_eq, Bool, true, false, ◌&&◌, List, [], ◌∷◌}
use Rattle.std.proofs.Common.{◌++◌, length, take, slice_index, Option, Some, None}
use Rattle.std.proofs.Common.{refl, sym, ap, ◌∙◌, subst, arith, leb-true, eqb-true, length-append}
use Rattle.std.proofs.lemmas.Bool.{and_parts, ltb-true}
use Rattle.std.proofs.lemmas.List.{get_or-append_right, length-replicate}
use Rattle.cell_math.specs.Bytes.{cells_of_bytes, filled}
use Rattle.word_table.specs.declared.word.Vocabulary.TheVariants.{Kernel}
use Rattle.forth_program.specs.Program.{SourceProgram}
use Rattle.host_state.specs.HostCells.{cell_at, Space}
use Rattle.host_state.specs.HostMemory.{here_of}
use Rattle.host_state.specs.FirstImage.{bytes_of_cells, used_length, greater, image_of}
use Rattle.control_flow.specs.declared.refusal.SourceCause.TheVariants as cause
use Rattle.control_flow.specs.Brackets.{bracket_at}
use Rattle.control_flow.specs.HostParts.{host_part_at}
use Rattle.control_flow.specs.Items.{items_at}
use Rattle.control_flow.specs.ParseResult.{ParseResult, Fine, Refused, Endless, ◌>>=◌}
use Rattle.control_flow.specs.SourceText.{Source, program_with, program_of_source}
use Rattle.control_flow.specs.SourceLaw.{EachEndsInItsSource, EachProgramIsSource}
use Rattle.control_flow.specs.Pieces.{read_at, source_in}
use Rattle.typed_code.specs.MachineCode.{user_cells, drop_return, save, save_cells, load_more, load, run_code, run_call, drop_return_code, save_code, save_cells_code, load_more_code, load_code, run_code_code, HasCells}
use Rattle.typed_code.specs.MachineCode.{HasMachineCode, HasUserCells}
use Rattle.target_forth.specs.declared.text.TheConstants.{KERNEL_TEXT}
use Rattle.target_forth.specs.Kernel.{kernel_program}
use Rattle.target_forth.specs.MachineCode.{KernelHasMachineCode}
use Rattle.target_forth.proofs.ReadText.{text_is_read}

-- ---- the text has come to a data space that has the code

-- below the first HERE a data space has these cells from a place of memory on
abbrev stand_there : Space → ℕ → List ℕ → Bool
stand_there space place [] = true
stand_there space place (cell ∷ cells) =
    nat_eq (cell_at space.cells (place - 0x1000)) cell
    && (nat_lt cell 0x10000 && (nat_lt (place - 0x1000) (length space.cells) && (nat_lt place 5289 && stand_there space (place + 1) cells)))

abbrev has_code : Space → Bool
has_code space =
    nat_eq space.data_start 8192
    && (nat_eq (here_of space) 10578
    && (stand_there space user_cells (0 ∷ [])
    && (stand_there space drop_return drop_return_code
    && (stand_there space save save_code
    && (stand_there space save_cells save_cells_code
    && (stand_there space load_more load_more_code
    && (stand_there space load load_code && (stand_there space run_code run_code_code && stand_there space (run_call + 1) (save ∷ [])))))))))

abbrev ends_with_code : ParseResult Source → Bool
ends_with_code (Fine last) = has_code last.at.host.space
ends_with_code (Refused token cause) = false
ends_with_code Endless = false

kernel_ends_with_code : ends_with_code (source_in Kernel KERNEL_TEXT.now) ≡ true
unfolding bracket_at host_part_at items_at read_at
kernel_ends_with_code = refl

-- ---- the image of a data space has its cells

abbrev pub laid : List ℕ → ℕ → List ℕ → List ℕ → List ℕ
laid cells n more zeros = cells_of_bytes (take n (bytes_of_cells cells) ++ more) ++ zeros

-- behind the first cell it is as before
peeled : (cell : ℕ) (cells : List ℕ) (x : ℕ) (more zeros : List ℕ) → x < 0x10000 → ((i n : ℕ) → cell_at cells i ≡ x → i < length cells → 2 * i + 2 ≤ n → slice_index (laid cells n more zeros) i ≡ x) →
    (i k : ℕ) → cell_at (cell ∷ cells) i ≡ x → i < length (cell ∷ cells) → 2 * i ≤ k → slice_index (laid (cell ∷ cells) (suc (suc k)) more zeros) i ≡ x
peeled cell cells x more zeros small again zero k e within enough = omega (arith, e, small)
peeled cell cells x more zeros small again (suc i) k e within enough = again i k e (omega arith) (omega arith)

pub cell_is : (cells : List ℕ) (x : ℕ) (more zeros : List ℕ) → x < 0x10000 → (i n : ℕ) → cell_at cells i ≡ x → i < length cells → 2 * i + 2 ≤ n → slice_index (laid cells n more zeros) i ≡ x
cell_is [] x more zeros small i n e within enough = absurd (omega arith)
cell_is (cell ∷ cells) x more zeros small i n e within enough =
    let two : suc (suc (n - 2)) ≡ n = omega arith in
    subst (λ n. slice_index (laid (cell ∷ cells) n more zeros) i ≡ x) two
    (peeled cell cells x more zeros small (λ i n e within enough. cell_is cells x more zeros small i n e within enough) i (n - 2) e within (omega arith))

pub at_least : (reserved used : ℕ) → reserved ≤ greater reserved used
at_least reserved used = chosen (nat_le reserved used) refl
  where
    chosen : (b : Bool) → nat_le reserved used ≡ b → reserved ≤ (elim b [ true ↦ used | false ↦ reserved ])
    chosen true e = omega (arith, leb-true reserved used e)
    chosen false e = omega arith

module _ (space : Space) (start : space.data_start ≡ 8192) (here : here_of space ≡ 10578) (code : List ℕ) (size : length code ≡ 0x1000) (m : ℕ) where
  abbrev memory : List ℕ
  memory = code ++ filled m (cells_of_bytes (image_of space))

  enough : 2386 ≤ greater (here_of space - space.data_start) (used_length (bytes_of_cells space.cells))
  enough = omega (arith, at_least (here_of space - space.data_start) (used_length (bytes_of_cells space.cells)), start, here)

  cells_there : (place : ℕ) (cells : List ℕ) → 0x1000 ≤ place → stand_there space place cells ≡ true → HasCells memory place cells
  cells_there place [] low t = tt
  cells_there place (cell ∷ cells) low t =
      let i = place - 0x1000 in
      let t1 = and_parts (nat_eq (cell_at space.cells i) cell) (nat_lt cell 0x10000 && (nat_lt i (length space.cells) && (nat_lt place 5289 && stand_there space (place + 1) cells))) t in
      let t2 = and_parts (nat_lt cell 0x10000) (nat_lt i (length space.cells) && (nat_lt place 5289 && stand_there space (place + 1) cells)) t1.1 in
      let t3 = and_parts (nat_lt i (length space.cells)) (nat_lt place 5289 && stand_there space (place + 1) cells) t2.1 in
      let t4 = and_parts (nat_lt place 5289) (stand_there space (place + 1) cells) t3.1 in
      let below : place < 5289 = ltb-true place 5289 t4.0 in (
        get_or-append_right code (filled m (cells_of_bytes (image_of space))) 0x1000 place 0 size low
            ∙ cell_is space.cells cell _ _ (ltb-true cell 0x10000 t2.0) i (greater (here_of space - space.data_start) (used_length (bytes_of_cells space.cells)))
            (eqb-true (cell_at space.cells i) cell t1.0) (ltb-true i (length space.cells) t3.0) (omega (arith, enough, below)),
        cells_there (place + 1) cells (omega arith) t4.1,
      )

  -- all that is tested holds
  code_there : length memory ≡ 0x2000 → has_code space ≡ true → HasMachineCode memory × HasUserCells memory []
  code_there whole t =
      let t1 = and_parts _ _ t in
      let t2 = and_parts _ _ t1.1 in
      let t3 = and_parts _ _ t2.1 in
      let t4 = and_parts _ _ t3.1 in
      let t5 = and_parts _ _ t4.1 in
      let t6 = and_parts _ _ t5.1 in
      let t7 = and_parts _ _ t6.1 in
      let t8 = and_parts _ _ t7.1 in
      let t9 = and_parts _ _ t8.1 in (
        record {
          size = whole;
          drop_return_cells = cells_there drop_return drop_return_code (leb-true 0x1000 drop_return refl) t4.0;
          save_cells_first = cells_there save save_code (leb-true 0x1000 save refl) t5.0;
          save_cells_more = cells_there save_cells save_cells_code (leb-true 0x1000 save_cells refl) t6.0;
          load_more_cells = cells_there load_more load_more_code (leb-true 0x1000 load_more refl) t7.0;
          load_cells = cells_there load load_code (leb-true 0x1000 load refl) t8.0;
          run_code_cells = cells_there run_code run_code_code (leb-true 0x1000 run_code refl) t9.0;
          behind_call = cells_there (run_call + 1) (save ∷ []) (leb-true 0x1000 (run_call + 1) refl) t9.1;
        },
        record { number = (cells_there user_cells (0 ∷ []) (leb-true 0x1000 user_cells refl) t3.0).0; cells = tt },
      )

pub cells_few : (bytes : List ℕ) → 2 * length (cells_of_bytes bytes) ≤ length bytes + 1
cells_few [] = omega arith
cells_few (low ∷ []) = omega arith
cells_few (low ∷ high ∷ bytes) = omega (arith, cells_few bytes)

-- ---- the kernel's program

pub program_space : (last : Source) (main : Option ℕ) (p : SourceProgram) →
    (elim main as (λ o. ParseResult SourceProgram) [
      | Some main ↦ Fine (program_with last.names last.bodies main last.at.count last.at.host)
      | None ↦ Refused (last.at.count + 1) cause.NoMain
    ]) ≡ Fine p → (p.first_space ≡ image_of last.at.host.space) × (p.data_start ≡ last.at.host.space.data_start)
program_space last (Some main) p e = (cc, cc)
program_space last None p e = absurd cc

module _ (ends : EachEndsInItsSource) (sources : EachProgramIsSource) where
  found : (last : Source) → source_in Kernel KERNEL_TEXT.now ≡ Fine last → has_code last.at.host.space ≡ true → KernelHasMachineCode
  found last e t code input size =
      let is : program_of_source last last.at ≡ Fine kernel_program = sym (ends Kernel KERNEL_TEXT.now ∙ ap (λ o. o >>= λ last. program_of_source last last.at) e) ∙ text_is_read in
      let of = program_space last _ kernel_program is in
      let t1 = and_parts _ _ t in
      let start : last.at.host.space.data_start ≡ 8192 = eqb-true _ _ t1.0 in
      let here : here_of last.at.host.space ≡ 10578 = eqb-true _ _ (and_parts _ _ t1.1).0 in
      let m = (0x4000 - kernel_program.data_start) / 2 in
      let fits = (sources Kernel KERNEL_TEXT.now kernel_program text_is_read).form.space_fits in
      let count : m ≡ 0x1000 = omega (arith, of.1, start) in
      let few : length (cells_of_bytes kernel_program.first_space) ≤ m = omega (arith, cells_few kernel_program.first_space, fits, of.1, start) in
      let whole : length (code ++ filled m (cells_of_bytes kernel_program.first_space)) ≡ 0x2000 = simp (length-append, length-replicate) (omega (arith, few, count, size)) in
      subst (λ bytes. HasMachineCode (code ++ filled m (cells_of_bytes bytes)) × HasUserCells (code ++ filled m (cells_of_bytes bytes)) []) (sym of.0)
      (code_there last.at.host.space start here code size m (subst (λ bytes. length (code ++ filled m (cells_of_bytes bytes)) ≡ 0x2000) of.0 whole) t)

  read_to_code : (o : ParseResult Source) → source_in Kernel KERNEL_TEXT.now ≡ o → ends_with_code o ≡ true → KernelHasMachineCode
  read_to_code (Fine last) e t = found last e t
  read_to_code (Refused token cause) e t = absurd cc
  read_to_code Endless e t = absurd cc

  pub kernel_has_machine_code : KernelHasMachineCode
  kernel_has_machine_code = read_to_code (source_in Kernel KERNEL_TEXT.now) refl kernel_ends_with_code
