use Rattle.std.proofs.Common.{◌≡◌, ℕ, ◌<◌, ◌≤◌, length}
use Rattle.control_flow.specs.Brackets.{bracket_at}
use Rattle.control_flow.specs.Answers.{parser_state, IsReadyParser}
use Rattle.control_flow.proofs.BracketSteps.{InBracket}
use Rattle.control_flow.proofs.parser.Parser.bracket.Given as goal

abbrev pub invariant-tokens : goal.invariant-tokens
invariant-tokens l = record {
  same : (n : ℕ) → length l.fn.self.reader.rest < n → InBracket (bracket_at n (parser_state l.fn.self)) (parser_state l.self);
  room : length l.self.reader.rest ≤ length l.fn.self.reader.rest;
  ready : IsReadyParser l.self;
  entries : l.self.dictionary.pairs ≡ l.fn.self.dictionary.pairs;
}

abbrev pub decreases-tokens : goal.decreases-tokens
decreases-tokens l = length l.self.reader.rest
