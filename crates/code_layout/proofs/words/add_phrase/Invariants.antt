use Rattle.std.proofs.Common.{◌≡◌, ◌++◌, drop}
use Rattle.code_layout.specs.Layout.{phrase}
use Rattle.code_layout.proofs.words.add_phrase.Given as goal

abbrev pub invariant-loop-word : goal.invariant-loop-word
invariant-loop-word l = l.code.items ++ phrase (drop l.word-index l.words) ≡ l.initial.code.items ++ phrase l.words
