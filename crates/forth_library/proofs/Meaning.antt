-- The bodies of the library mean their words.
use Rattle.std.proofs.Common.{◌≡◌, ◌≢◌, ℕ, ◌+◌, ◌*◌, ◌≤◌, true, Option, Some, None, List, [], ◌∷◌, length, refl, sym, subst, arith}
use Rattle.std.specs.Prelude.{slice_index_or}
use Rattle.word_table.specs.declared.word.Word.{Word}
use Rattle.word_table.specs.declared.word.Word.TheVariants.{TypeOut}
use Rattle.word_table.specs.Table.{entry_of}
use Rattle.forth_program.specs.Tree.{Nodes, Empty}
use Rattle.forth_program.specs.State.{Work, World, State}
use Rattle.forth_program.specs.Program.{SourceProgram}
use Rattle.forth_program.specs.Step.{First, BodyEnd, first_work}
use Rattle.forth_program.specs.Price.{word_price}
use Rattle.forth_program.specs.Cells.{AreCells, IsWorld}
use Rattle.forth_program.specs.Heights.{step_peak}
use Rattle.library_laws.specs.Bodies.{body_of_word, has_definition, whole_library}
use Rattle.library_laws.specs.Library as laws
use Rattle.library_laws.specs.Library.{DoesItsMeaning, DefinitionsDoTheirMeaning, TypeIsCheap}
use Rattle.code_layout.specs.Numbering.{library_number}
use Rattle.forth_program.specs.Heights.{peak_of}
use Rattle.code_layout.specs.Library.{BodyTakesNoMore, BodyMeans, LibraryMeans, routine_price}
use Rattle.forth_library.proofs.LibraryForm.{body_at, stands, defined_at, is_defined}

same_peak : (f : First) → peak_of [] f ≡ step_peak f
same_peak BodyEnd = refl
same_peak f = refl

busy : (t : State) (work : Work) (after : List Work) → t.work ≡ work ∷ after → t.work ≢ []
busy t work after e none = let no : ⊥ = cc in absurd no

takes : (word : Word) (begins : ℕ) (t : State) → laws.TakesNoMore word begins [] t → BodyTakesNoMore word begins t
takes word begins t h = record {
  busy = busy t h.work h.after h.busy;
  cells = subst (λ n. length t.cells + n ≤ begins + (entry_of word).peak) (sym (same_peak (first_work t.work))) h.cells;
  returns = h.returns;
}

means : (price : ℕ) (body : Nodes) (word : Word) (p : SourceProgram) (c : List ℕ) (w : World) → price ≤ routine_price word c w → DoesItsMeaning price body word p [] c w → BodyMeans word body p c w
means price body word p c w cheap does = record {
  count = does.count;
  does = does.run;
  within_price = (let paid = does.within_price in omega (arith, paid, cheap));
  within_stacks = λ j t h e. takes word (length c) t (does.within_stacks j t h e);
}

-- each definition for the price of its routine
each_means : DefinitionsDoTheirMeaning → TypeIsCheap →
    (word : Word) → has_definition word ≡ true → (p : SourceProgram) (c : List ℕ) (w : World) → (entry_of word).need ≤ length c → AreCells c → IsWorld w → BodyMeans word (body_of_word word) p c w
each_means definitions cheap TypeOut d p [] w need cells world = absurd (omega (arith, need))
each_means definitions cheap TypeOut d p (u ∷ []) w need cells world = absurd (omega (arith, need))
each_means definitions cheap TypeOut d p (u ∷ a ∷ c) w need cells world = means (6 + 49 * u) (body_of_word TypeOut) TypeOut p (u ∷ a ∷ c) w (omega arith) (cheap p [] u a c w cells world)
each_means definitions cheap word d p c w need cells world = means (word_price word c w) (body_of_word word) word p c w (omega arith) (definitions word d p [] c w need cells world)

numbered : (word : Word) (o : Option ℕ) (number : ℕ) → o ≡ Some number → body_at o (body_of_word word) ≡ body_of_word word →
    defined_at o (has_definition word) ≡ true → (slice_index_or whole_library number Empty ≡ body_of_word word) × (has_definition word ≡ true)
numbered word None number e same d = let no : ⊥ = cc in absurd no
numbered word (Some k) number e same d = let here : k ≡ number = cc in (subst (λ n. slice_index_or whole_library n Empty ≡ body_of_word word) here same, d)

pub library_means : DefinitionsDoTheirMeaning → TypeIsCheap → LibraryMeans whole_library
library_means definitions cheap word number e below p c w need cells world =
    let here = numbered word (library_number word) number e (stands word) (is_defined word) in
    subst (λ body. BodyMeans word body p c w) (sym here.0) (each_means definitions cheap word here.1 p c w need cells world)
