use Rattle.std.proofs.Common.{ℕ, ◌<◌, length}
use Rattle.control_flow.specs.Pieces.{read_at}
use Rattle.control_flow.specs.Answers.{source_of, IsReadyParser, IsCounted}
use Rattle.control_flow.specs.ReadingState.{Grows}
use Rattle.control_flow.proofs.ReadSteps.{InSource}
use Rattle.control_flow.proofs.source.ReadSource.read_on.Given as goal

abbrev pub invariant-tokens : goal.invariant-tokens
invariant-tokens l = record {
  same : (n : ℕ) → length l.fn.self.parser.reader.rest < n → InSource (read_at n (source_of l.fn.self)) (source_of l.self);
  ready : IsReadyParser l.self.parser;
  counted : IsCounted l.self;
  grows : Grows l.fn.self l.self;
}

abbrev pub decreases-tokens : goal.decreases-tokens
decreases-tokens l = length l.self.parser.reader.rest
