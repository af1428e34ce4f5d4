-- The text is read: computed.
use Rattle.std.proofs.Common.{◌≡◌, refl}
use Rattle.control_flow.specs.ParseResult.{Fine}
use Rattle.control_flow.specs.Items.{items_at}
use Rattle.control_flow.specs.SourceText.{source_at, program_of_text}
use Rattle.pictured_output.specs.declared.text.TheConstants.{PICTURED_TEXT}
use Rattle.pictured_output.specs.Program.{pictured_library}

pub text_is_read : program_of_text PICTURED_TEXT.now ≡ Fine pictured_library
unfolding items_at source_at
text_is_read = refl
