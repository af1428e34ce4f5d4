-- The first HERE of the kernel: computed from what its text has come to at its end.
use Rattle.std.proofs.Common.{◌≡◌, ℕ, suc, ◌+◌, ◌-◌, ◌/◌, ◌≤◌, nat_le, nat_eq, Bool, true, false, ◌&&◌, List, [], ◌∷◌, Option, Some, None, slice_index, refl, sym, ap, ◌∙◌, subst, arith, leb-true, eqb-true}
use Rattle.std.proofs.lemmas.Bool.{and_parts}
use Rattle.cell_math.specs.Bytes.{cells_of_bytes, filled}
use Rattle.word_table.specs.declared.word.Vocabulary.TheVariants.{Kernel}
use Rattle.forth_program.specs.Program.{SourceProgram}
use Rattle.host_state.specs.HostCells.{cell_at, Space}
use Rattle.host_state.specs.HostMemory.{here_of}
use Rattle.host_state.specs.FirstImage.{bytes_of_cells, used_length, greater, sized, image_of}
use Rattle.control_flow.specs.declared.refusal.SourceCause.TheVariants as cause
use Rattle.control_flow.specs.Brackets.{bracket_at}
use Rattle.control_flow.specs.HostParts.{host_part_at}
use Rattle.control_flow.specs.Items.{items_at}
use Rattle.control_flow.specs.ParseResult.{ParseResult, Fine, Refused, Endless, ◌>>=◌}
use Rattle.control_flow.specs.SourceText.{Source, program_with, program_of_source}
use Rattle.control_flow.specs.SourceLaw.{EachEndsInItsSource}
use Rattle.control_flow.specs.Pieces.{read_at, source_in}
use Rattle.target_forth.specs.declared.text.TheConstants.{KERNEL_TEXT}
use Rattle.target_forth.specs.Kernel.{kernel_program}
use Rattle.target_forth.specs.Places.{first_here, places_of_kernel, StandApart}
use Rattle.target_forth.proofs.ReadText.{text_is_read}

-- ---- the text has come to a data space from 8192 on, whose HERE is 10578

abbrev has_here : Space → Bool
has_here space = nat_eq space.data_start 8192 && nat_eq (here_of space) 10578

abbrev ends_with_here : ParseResult Source → Bool
ends_with_here (Fine last) = has_here last.at.host.space
ends_with_here (Refused token cause) = false
ends_with_here Endless = false

kernel_ends_with_here : ends_with_here (source_in Kernel KERNEL_TEXT.now) ≡ true
unfolding bracket_at host_part_at items_at read_at
kernel_ends_with_here = refl

-- ---- the program has the image of that data space

program_space : (last : Source) (main : Option ℕ) (p : SourceProgram) →
    (elim main as (λ o. ParseResult SourceProgram) [
      | Some main ↦ Fine (program_with last.names last.bodies main last.at.count last.at.host)
      | None ↦ Refused (last.at.count + 1) cause.NoMain
    ]) ≡ Fine p → p.first_space ≡ image_of last.at.host.space
program_space last (Some main) p e = cc
program_space last None p e = absurd cc

-- ---- the third cell of that image is HERE

at_least : (reserved used : ℕ) (b : Bool) → nat_le reserved used ≡ b → reserved ≤ (elim b [ true ↦ used | false ↦ reserved ])
at_least reserved used true e = omega (arith, leb-true reserved used e)
at_least reserved used false e = omega arith

third_cell : (cells : List ℕ) (n k : ℕ) → cell_at cells 2 ≡ 10578 → n ≡ suc (suc (suc (suc (suc (suc k))))) → (m : ℕ) → slice_index (filled m (cells_of_bytes (sized n (bytes_of_cells cells)))) 2 ≡ 10578
third_cell [] n k e s m = absurd cc
third_cell (base ∷ []) n k e s m = absurd cc
third_cell (base ∷ hold ∷ []) n k e s m = absurd cc
third_cell (base ∷ hold ∷ here ∷ cells) n k e s m =
    subst (λ n. slice_index (filled m (cells_of_bytes (sized n (bytes_of_cells (base ∷ hold ∷ here ∷ cells))))) 2 ≡ 10578) (sym s)
    (subst (λ here. slice_index (filled m (cells_of_bytes (sized (suc (suc (suc (suc (suc (suc k)))))) (bytes_of_cells (base ∷ hold ∷ here ∷ cells))))) 2 ≡ 10578) (sym e) refl)

here_is_third : (space : Space) → space.data_start ≡ 8192 → here_of space ≡ 10578 → cell_at space.cells 2 ≡ 10578
here_is_third space d e = subst (λ d. here_of (record space { data_start = d }) ≡ 10578) d e

image_has_here : (space : Space) → has_here space ≡ true → (m : ℕ) → slice_index (filled m (cells_of_bytes (image_of space))) 2 ≡ 10578
image_has_here space t m =
    let both = and_parts (nat_eq space.data_start 8192) (nat_eq (here_of space) 10578) t in
    let d = eqb-true space.data_start 8192 both.0 in
    let h = eqb-true (here_of space) 10578 both.1 in
    let used : ℕ = used_length (bytes_of_cells space.cells) in
    let size : ℕ = greater (here_of space - space.data_start) used in
    let enough : here_of space - space.data_start ≤ size = at_least (here_of space - space.data_start) used (nat_le (here_of space - space.data_start) used) refl in
    third_cell space.cells size (size - 6) (here_is_third space d h) (omega (arith, enough, d, h)) m

-- ---- the kernel's program

module _ (ends : EachEndsInItsSource) where
  read_to_here : (o : ParseResult Source) → source_in Kernel KERNEL_TEXT.now ≡ o → ends_with_here o ≡ true → first_here ≡ 10578
  read_to_here (Fine last) e t =
      let is : program_of_source last last.at ≡ Fine kernel_program = sym (ends Kernel KERNEL_TEXT.now ∙ ap (λ o. o >>= λ last. program_of_source last last.at) e) ∙ text_is_read in
      let space : kernel_program.first_space ≡ image_of last.at.host.space = program_space last _ kernel_program is in
      ap (λ bytes. slice_index (filled ((0x4000 - kernel_program.data_start) / 2) (cells_of_bytes bytes)) 2) space ∙ image_has_here last.at.host.space t ((0x4000 - kernel_program.data_start) / 2)
  read_to_here (Refused token cause) e t = absurd cc
  read_to_here Endless e t = absurd cc

  pub first_here_is : first_here ≡ 10578
  first_here_is = read_to_here (source_in Kernel KERNEL_TEXT.now) refl kernel_ends_with_here

  pub stand_apart : StandApart places_of_kernel
  stand_apart = record {
    even = (refl, refl, refl, refl, refl);
    start = omega arith;
    line = omega arith;
    length = omega arith;
    to_in = omega arith;
    latest = omega arith;
    word = omega (arith, first_here_is);
    room = omega (arith, first_here_is);
  }
