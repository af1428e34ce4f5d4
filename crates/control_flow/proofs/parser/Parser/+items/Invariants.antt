use Rattle.std.proofs.Common.{◌≡◌, ℕ, ◌+◌, ◌-◌, ◌*◌, ◌<◌, ◌≤◌, length}
use Rattle.forth_program.specs.ItemTrees.{items_of, arms_of}
use Rattle.control_flow.specs.Items.{arms_at, items_by, items_at}
use Rattle.control_flow.specs.Answers.{parser_state, IsReadyParser}
use Rattle.control_flow.proofs.ItemLists.{Reaches}
use Rattle.control_flow.proofs.ArmLists.{behind_arms}
use Rattle.control_flow.proofs.parser.Parser.+items.Given as goal

abbrev pub decreases-items : goal.decreases-items
decreases-items l = 5 * length l.self.now.reader.rest + 1

abbrev pub decreases-if_item : goal.decreases-if_item
decreases-if_item l = 5 * length l.self.now.reader.rest + 2

abbrev pub decreases-begin_item : goal.decreases-begin_item
decreases-begin_item l = 5 * length l.self.now.reader.rest + 2

abbrev pub decreases-do_item : goal.decreases-do_item
decreases-do_item l = 5 * length l.self.now.reader.rest + 2

abbrev pub decreases-q_do_item : goal.decreases-q_do_item
decreases-q_do_item l = 5 * length l.self.now.reader.rest + 2

abbrev pub decreases-arm_body : goal.decreases-arm_body
decreases-arm_body l = 5 * length l.self.now.reader.rest + 2

abbrev pub decreases-case_item : goal.decreases-case_item
decreases-case_item l = 5 * length l.self.now.reader.rest + 2

abbrev pub decreases-structure : goal.decreases-structure
decreases-structure l = 5 * length l.self.now.reader.rest + 3

abbrev pub decreases-item : goal.decreases-item
decreases-item l = 5 * length l.self.now.reader.rest + 4

abbrev pub decreases-items_from : goal.decreases-items_from
decreases-items_from l = 5 * length l.self.now.reader.rest + 5

abbrev pub invariant-items_from-tokens : goal.invariant-items_from-tokens
invariant-items_from-tokens l = record {
  same : (n : ℕ) → length l.fn.self.reader.rest < n → Reaches (items_by (items_at n) n (parser_state l.fn.self) l.fn.first) (items_of l.done) (parser_state l.self) l.sense;
  room : length l.self.reader.rest ≤ length l.fn.self.reader.rest;
  ready : IsReadyParser l.self;
  entries : l.self.dictionary.pairs ≡ l.fn.self.dictionary.pairs;
}

abbrev pub decreases-items_from-tokens : goal.decreases-items_from-tokens
decreases-items_from-tokens l = length l.self.reader.rest

abbrev pub invariant-case_item-arms : goal.invariant-case_item-arms
invariant-case_item-arms l = record {
  same : (n m : ℕ) → length l.fn.self.reader.rest < n → length l.fn.self.reader.rest < m →
      arms_at (items_at n) m (parser_state l.fn.self) ≡ behind_arms (arms_of l.arms) (arms_at (items_at n) (m - length (arms_of l.arms)) (parser_state l.self));
  room : length (arms_of l.arms) + length l.self.reader.rest ≤ length l.fn.self.reader.rest;
  ready : IsReadyParser l.self;
  entries : l.self.dictionary.pairs ≡ l.fn.self.dictionary.pairs;
}

abbrev pub decreases-case_item-arms : goal.decreases-case_item-arms
decreases-case_item-arms l = length l.self.reader.rest
