use Rattle.std.proofs.Common.{ap, ◌∙◌}
use Rattle.control_flow.specs.SourceText.{program_of_text}
use Rattle.forth_library.proofs.ReadDefinitions as reading
use Rattle.forth_library.proofs.linking.library_program.Goals as goal

pub definitions_of-requires-clause-is_library : goal.definitions_of-requires-clause-is_library
definitions_of-requires-clause-is_library c =
    let text = reading.same_text c.arithmetic_text.result.now c.pictured_text.result.now c.as_slice.result.now c.arithmetic_text.ensures c.pictured_text.ensures (c.as_slice.ensures.value ∙ c.in_ok-text.ensures) in
    ap program_of_text text ∙ c.library_text_is_read.ensures
