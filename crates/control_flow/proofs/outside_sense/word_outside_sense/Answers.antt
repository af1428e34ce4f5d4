use Rattle.std.proofs.Common.{◌≡◌, refl, ap, ◌∙◌}
use Rattle.word_table.specs.declared.word.Word.{Word}
use Rattle.word_table.specs.declared.word.Word.TheVariants as word
use Rattle.control_flow.specs.HostSense.{host_word}
use Rattle.control_flow.specs.OutsideSense.{plain_outside_sense, word_outside_sense}
use Rattle.control_flow.proofs.outside_sense.word_outside_sense.Goals as goal

-- another word acts or cannot stand here
other : (w : Word) → (w ≡ word.Colon → ⊥) → (w ≡ word.Constant → ⊥) → (w ≡ word.Variable → ⊥) → (w ≡ word.Create → ⊥) → (w ≡ word.Tick → ⊥) → (w ≡ word.Char → ⊥) → (w ≡ word.CodeCells → ⊥) → (w ≡ word.SQuote → ⊥) → (w ≡ word.DotQuote → ⊥) → (w ≡ word.AbortQuote → ⊥) → plain_outside_sense (host_word w) ≡ word_outside_sense w
other word.Colon a b c d e f g h i j = absurd (a refl)
other word.Constant a b c d e f g h i j = absurd (b refl)
other word.Variable a b c d e f g h i j = absurd (c refl)
other word.Create a b c d e f g h i j = absurd (d refl)
other word.Tick a b c d e f g h i j = absurd (e refl)
other word.Char a b c d e f g h i j = absurd (f refl)
other word.CodeCells a b c d e f g h i j = absurd (g refl)
other word.SQuote a b c d e f g h i j = absurd (h refl)
other word.DotQuote a b c d e f g h i j = absurd (i refl)
other word.AbortQuote a b c d e f g h i j = absurd (j refl)
other w a b c d e f g h i j = refl

pub returns-in_default : goal.returns-in_default
returns-in_default c = c.plain_outside_sense.ensures ∙ ap plain_outside_sense c.host_word.ensures ∙ other c.args.word c.in_default.not-Colon c.in_default.not-Constant c.in_default.not-Variable c.in_default.not-Create c.in_default.not-Tick c.in_default.not-Char c.in_default.not-CodeCells c.in_default.not-SQuote c.in_default.not-DotQuote c.in_default.not-AbortQuote
