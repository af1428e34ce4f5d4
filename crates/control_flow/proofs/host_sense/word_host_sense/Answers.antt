use Rattle.std.proofs.Common.{◌≡◌, refl, ap, ◌∙◌}
use Rattle.word_table.specs.declared.word.Word.{Word}
use Rattle.word_table.specs.declared.word.Word.TheVariants as word
use Rattle.control_flow.specs.HostSense.{host_word}
use Rattle.control_flow.specs.HostSense.{plain_host_sense, word_host_sense}
use Rattle.control_flow.proofs.host_sense.word_host_sense.Goals as goal

-- another word acts or cannot stand here
other : (w : Word) → (w ≡ word.RightBracket → ⊥) → (w ≡ word.Semicolon → ⊥) → (w ≡ word.Does → ⊥) → (w ≡ word.SQuote → ⊥) → (w ≡ word.DotQuote → ⊥) → (w ≡ word.AbortQuote → ⊥) → plain_host_sense (host_word w) ≡ word_host_sense w
other word.RightBracket a b c d e f = absurd (a refl)
other word.Semicolon a b c d e f = absurd (b refl)
other word.Does a b c d e f = absurd (c refl)
other word.SQuote a b c d e f = absurd (d refl)
other word.DotQuote a b c d e f = absurd (e refl)
other word.AbortQuote a b c d e f = absurd (f refl)
other w a b c d e f = refl

pub returns-in_default : goal.returns-in_default
returns-in_default c = c.plain_host_sense.ensures ∙ ap plain_host_sense c.host_word.ensures ∙ other c.args.word c.in_default.not-RightBracket c.in_default.not-Semicolon c.in_default.not-Does c.in_default.not-SQuote c.in_default.not-DotQuote c.in_default.not-AbortQuote
