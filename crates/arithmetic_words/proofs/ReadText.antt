-- The text is read: computed.
use Rattle.std.proofs.Common.{◌≡◌, refl}
use Rattle.control_flow.specs.ParseResult.{Fine}
use Rattle.control_flow.specs.Items.{items_at}
use Rattle.control_flow.specs.SourceText.{source_at, program_of_text}
use Rattle.arithmetic_words.specs.declared.text.TheConstants.{ARITHMETIC_TEXT}
use Rattle.arithmetic_words.specs.Program.{arithmetic_library}

pub text_is_read : program_of_text ARITHMETIC_TEXT.now ≡ Fine arithmetic_library
unfolding items_at source_at
text_is_read = refl
