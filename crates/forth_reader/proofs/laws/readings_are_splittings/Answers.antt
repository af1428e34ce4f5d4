use Rattle.std.proofs.Common.{sym, subst}
use Rattle.forth_reader.specs.Splitting.{NextIs, NameIs, StringIs}
use Rattle.forth_reader.proofs.SplittingToReading.{next_computed, name_computed, string_computed}
use Rattle.forth_reader.proofs.ReadingToSplitting.{next_exists, name_exists, string_exists}
use Rattle.forth_reader.proofs.laws.readings_are_splittings.Goals as goal

pub returns : goal.returns
returns c = record {
  next = λ k text reading. (next_computed k text reading, λ e. subst (NextIs k text) (sym e) (next_exists k text));
  name = λ k text reading. (name_computed k text reading, λ e. subst (NameIs k text) (sym e) (name_exists k text));
  string = λ text reading. (string_computed text reading, λ e. subst (StringIs text) (sym e) (string_exists text));
}
