use Rattle.std.proofs.Common.{◌≡◌, [], ◌∷◌, refl, sym, ◌∙◌, ap, subst}
use Rattle.forth_program.specs.Tree.{Empty}
use Rattle.forth_program.specs.Program.{SourceProgram}
use Rattle.library_laws.specs.Bodies.{pictured_words}
use Rattle.library_laws.specs.Library.{MeanWords}
use Rattle.control_flow.specs.ParseResult.{Fine}
use Rattle.control_flow.specs.SourceText.{program_of_text}
use Rattle.pictured_output.specs.Program.{pictured_library}
use Rattle.pictured_output.proofs.program.pictured_program.Goals as goal

pub returns-in-Ok-clause-meanings : goal.returns-in-Ok-clause-meanings
returns-in-Ok-clause-meanings c =
    let read : program_of_text c.as_bytes.result.now ≡ Fine c.in-Ok.program = c.in-Ok.ensures in
    let both : Fine pictured_library ≡ Fine c.in-Ok.program = sym c.pictured_text_is_read.ensures ∙ ap program_of_text (sym c.as_bytes.ensures.value) ∙ read in
    let same : pictured_library ≡ c.in-Ok.program = cc in
    let P : SourceProgram → Type 0 = λ program. MeanWords program.bodies pictured_words in
    subst P same (c.bodies_mean_words.ensures pictured_words (Empty ∷ []) refl)
