-- Word steps, by what the parts of the evaluator answer.
use Rattle.std.proofs.Common.{◌≡◌, ◌≢◌, ℕ, List, refl, sym, ap, subst}
use Rattle.std.specs.Prelude.{Result, Ok, Err}
use Rattle.word_table.specs.declared.word.Word.{Word}
use Rattle.word_table.specs.declared.word.Word.TheVariants.{ToR, RFrom, RFetch, Index, OuterIndex, Unloop, Execute}
use Rattle.forth_program.specs.State.{State, Reply, Entry}
use Rattle.forth_program.specs.Meaning.{meaning}
use Rattle.forth_program.specs.Program.{SourceProgram}
use Rattle.forth_program.specs.Step.{word_step, on_cells}
use Rattle.reference_eval.specs.declared.shapes.Shape.TheVariants as shapes
use Rattle.reference_eval.specs.declared.ends.Stop.{Stop}
use Rattle.reference_eval.specs.declared.ends.Stop.TheVariants as stop
use Rattle.reference_eval.specs.declared.ends.Halt.TheVariants as halt
use Rattle.reference_eval.specs.declared.ends.End.TheVariants as end
use Rattle.reference_eval.specs.Shapes.{shape_of}
use Rattle.reference_eval.specs.Answers.{Leaves}
use Rattle.reference_eval.specs.Machine.{Acts}

-- a word that is not on return entries does what it means
pub plain_word : (p : SourceProgram) (word : Word) (c : List ℕ) (entries : List Entry) (s : State) → shape_of word ≢ shapes.Frame → word_step p word c entries s ≡ on_cells (meaning word c s.world) s
plain_word p ToR c entries s h = absurd (h refl)
plain_word p RFrom c entries s h = absurd (h refl)
plain_word p RFetch c entries s h = absurd (h refl)
plain_word p Index c entries s h = absurd (h refl)
plain_word p OuterIndex c entries s h = absurd (h refl)
plain_word p Unloop c entries s h = absurd (h refl)
plain_word p Execute c entries s h = absurd (h refl)
plain_word p word c entries s h = refl

-- what leaves cells acts so
pub leaves_acts : {U : Type 0} (r : Result U Stop) (cells : List ℕ) (reply : Reply (List ℕ)) (s : State) → Leaves r cells reply s.world → Acts r (on_cells reply s) (record s { cells = cells })
leaves_acts (Ok d) cells reply s h = ap (λ r. on_cells r s) h
leaves_acts (Err (stop.Halt (halt.Ended end.InputEnded))) cells reply s h = absurd h
leaves_acts (Err (stop.Halt (halt.Ended (end.Halted n)))) cells reply s h = ap (λ r. on_cells r s) h
leaves_acts (Err (stop.Halt (halt.Ended (end.Outside n)))) cells reply s h = ap (λ r. on_cells r s) h
leaves_acts (Err (stop.Halt halt.Read)) cells reply s h = absurd h
leaves_acts (Err (stop.Halt halt.Write)) cells reply s h = absurd h
leaves_acts (Err stop.Underflow) cells reply s h = ap (λ r. on_cells r s) h
leaves_acts (Err stop.Unbalanced) cells reply s h = ap (λ r. on_cells r s) h
leaves_acts (Err (stop.Left address)) cells reply s h = ap (λ r. on_cells r s) h
leaves_acts (Err stop.OutOfMemory) cells reply s h = tt

pub word_acts : {U : Type 0} (p : SourceProgram) (word : Word) (r : Result U Stop) (cells : List ℕ) (s : State) → shape_of word ≢ shapes.Frame → Leaves r cells
    (meaning word s.cells s.world) s.world → Acts r (word_step p word s.cells s.entries s) (record s { cells = cells })
word_acts p word r cells s h l = subst (λ o. Acts r o (record s { cells = cells })) (sym (plain_word p word s.cells s.entries s h)) (leaves_acts r cells (meaning word s.cells s.world) s l)
