use Rattle.std.proofs.Common.{◌≡◌, drop}
use Rattle.std.specs.Str.{str_to_ascii_lowercase}
use Rattle.word_table.specs.Names.{first_named}
use Rattle.word_table.proofs.names.first_of.Given as goal

abbrev pub invariant-loop-word : goal.invariant-loop-word
invariant-loop-word l = first_named (str_to_ascii_lowercase l.name) (drop l.word-index l.words) ≡ first_named (str_to_ascii_lowercase l.name) l.words
