-- STRUCTURE as a list of choices.
use Rattle.std.proofs.Common.{List, [], ◌∷◌}
use Rattle.word_table.specs.declared.word.Word.TheVariants.{DropTop, Dup, Equal, TwoDrop}
use Rattle.forth_program.specs.Tree.{Node, Literal, Plain, Call, Exit, If, Empty}
use Rattle.kernel_words.specs.Bodies.{items}
use Rattle.kernel_interpreter.specs.Bodies.{Structure}

-- DUP ['] IT = IF 2DROP IT 0 EXIT THEN for each, and then DROP
abbrev pub choices : List Structure → List Node
choices [] = Plain DropTop ∷ []
choices (one ∷ others) =
    Plain Dup ∷ Literal one.token ∷ Plain Equal ∷ If (items (Plain TwoDrop ∷ Call one.definition ∷ Literal 0 ∷ Exit ∷ [])) Empty ∷
    choices others
