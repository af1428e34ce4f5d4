-- In an image no call stands before a return, be it directly or with no more than a jump to it between: last calls are jumps.
use Rattle.std.specs.Prelude.{◌≡◌, ℕ, suc, ◌<◌, ◌⊎◌, Bool, true, false, ◌&&◌, List, length, slice_index}
use Rattle.std.specs.List.{list_all}
use Rattle.j1_table.specs.declared.instr.Instr.TheVariants.{Jump, Branch, Call as CallTo}
use Rattle.j1_table.specs.Instruction.{decoded}
use Rattle.word_table.specs.declared.word.Word.TheVariants.{Chars}
use Rattle.forth_program.specs.Tree.{Node, Nodes, Plain, Case, Exit, Then, NoArm, Arm}
use Rattle.forth_program.specs.Program.{SourceProgram}
use Rattle.forth_program.specs.Form.{everywhere, calls_go_back}
use Rattle.code_layout.specs.Layout.{laid_out}
use Rattle.code_layout.specs.Built.{IsBuilt}
use Rattle.code_layout.specs.Library.{IsLibrary}

-- a return that no jump or branch behind it leads back to
pub record IsReturn (cells : List ℕ) (at : ℕ) : Type 0 where
  pub returns : slice_index cells at ≡ 0x700C
  pub is_cell : at < length cells
  pub no_way_back : (from : ℕ) → at < from → from < length cells → (decoded (slice_index cells from) ≡ Jump at) ⊎ (decoded (slice_index cells from) ≡ Branch at) → ⊥

abbrev pub IsCallCell : List ℕ → ℕ → Type 0
IsCallCell cells at = (target : ℕ) × (decoded (slice_index cells at) ≡ CallTo target)

pub record LastCalls (cells : List ℕ) : Type 0 where
  -- no call stands directly before such a return
  pub none_before : (at : ℕ) → IsCallCell cells at → IsReturn cells (suc at) → ⊥
  -- nor directly before a jump that leads on to one
  pub none_before_jump : (at return_at : ℕ) → IsCallCell cells at → decoded (slice_index cells (suc at)) ≡ Jump return_at → suc at < return_at → IsReturn cells return_at → ⊥

-- the code of an item begins with a cell, and not with a return of an EXIT in it to which no way leads back. So it is not for CHARS,
-- which has no cells, and for a CASE whose first item is EXIT
abbrev pub begins_well : Node → Bool
begins_well (Plain Chars) = false
begins_well (Case NoArm (Then Exit rest)) = false
begins_well (Case (Arm (Then Exit tests) body others) rest) = false
begins_well node = true

abbrev pub all_begin_well : SourceProgram → Bool
all_begin_well p = list_all (everywhere begins_well) p.bodies && list_all begins_well p.tokens

abbrev pub LastCallsAreJumps : Type 0
LastCallsAreJumps =
    (library : List Nodes) (p : SourceProgram) → IsLibrary library → list_all (everywhere begins_well) library ≡ true → IsBuilt library p →
    calls_go_back 0 p.bodies ≡ true → all_begin_well p ≡ true → LastCalls (laid_out library p).cells
