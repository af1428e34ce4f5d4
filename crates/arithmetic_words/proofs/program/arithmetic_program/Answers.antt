use Rattle.std.proofs.Common.{◌≡◌, [], ◌∷◌, refl, sym, ◌∙◌, ap, subst}
use Rattle.forth_program.specs.Tree.{Empty}
use Rattle.forth_program.specs.Program.{SourceProgram}
use Rattle.library_laws.specs.Bodies.{arithmetic_words}
use Rattle.library_laws.specs.Library.{MeanWords}
use Rattle.control_flow.specs.ParseResult.{Fine}
use Rattle.control_flow.specs.SourceText.{program_of_text}
use Rattle.arithmetic_words.specs.Program.{arithmetic_library}
use Rattle.arithmetic_words.proofs.program.arithmetic_program.Goals as goal

pub returns-in-Ok-clause-meanings : goal.returns-in-Ok-clause-meanings
returns-in-Ok-clause-meanings c =
    let read : program_of_text c.as_bytes.result.now ≡ Fine c.in-Ok.program = c.in-Ok.ensures in
    let both : Fine arithmetic_library ≡ Fine c.in-Ok.program = sym c.arithmetic_text_is_read.ensures ∙ ap program_of_text (sym c.as_bytes.ensures.value) ∙ read in
    let same : arithmetic_library ≡ c.in-Ok.program = cc in
    let P : SourceProgram → Type 0 = λ program. MeanWords program.bodies arithmetic_words in
    subst P same (c.bodies_mean_words.ensures arithmetic_words (Empty ∷ []) refl)
