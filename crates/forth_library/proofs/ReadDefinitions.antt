-- The definitions of both texts are read: computed.
use Rattle.std.proofs.Common.{◌≡◌, ◌-◌, List, ◌++◌, length, refl, ap, ◌∙◌}
use Rattle.std.specs.Prelude.{ℕ, take}
use Rattle.control_flow.specs.ParseResult.{Fine}
use Rattle.control_flow.specs.Items.{items_at}
use Rattle.control_flow.specs.SourceText.{source_at, program_of_text}
use Rattle.arithmetic_words.specs.declared.text.TheConstants.{ARITHMETIC_TEXT}
use Rattle.pictured_output.specs.declared.text.TheConstants.{PICTURED_TEXT}
use Rattle.forth_library.specs.Definitions.{library_definitions, library_text}

pub text_is_read : program_of_text library_text ≡ Fine library_definitions
unfolding items_at source_at
text_is_read = refl

pub same_text : (a b text : List ℕ) → a ≡ ARITHMETIC_TEXT.now → b ≡ PICTURED_TEXT.now → text ≡ take (length a - 9) a ++ b → text ≡ library_text
same_text a b text first second same = same ∙ ap (λ a. take (length a - 9) a ++ b) first ∙ ap (λ b. take (length ARITHMETIC_TEXT.now - 9) ARITHMETIC_TEXT.now ++ b) second
