use Rattle.std.proofs.Common.{refl, sym, ap, ◌∙◌}
use Rattle.control_flow.specs.ParseResult.{Fine}
use Rattle.control_flow.specs.Answers.{parser_state, source_of}
use Rattle.control_flow.proofs.KeptSource.{begins_same}
use Rattle.control_flow.proofs.ReadSteps.{refused_at_once, done_at_once}
use Rattle.control_flow.proofs.source.ReadSource.outside_word.Goals as goal

pub returns-in-Err-clause-gives : goal.returns-in-Err-clause-gives
returns-in-Err-clause-gives c n h =
    refused_at_once n (source_of c.args.self.now) (parser_state c.args.self.now.parser) c.args.sense c.in_default.not-Begins c.in-Err.error
    (rw (c.as_slice.ensures.value, c.is_due-is_due.ensures) at c.in-Err.ensures.gives)

pub returns-in-Err-clause-grows : goal.returns-in-Err-clause-grows
returns-in-Err-clause-grows c = record { names = begins_same _ _ refl; bodies = begins_same _ _ refl; defining = begins_same _ _ refl; entries = c.at_once.ensures.entries }

pub returns-clause-gives : goal.returns-clause-gives
returns-clause-gives c n h =
    done_at_once n (source_of c.args.self.now) (parser_state c.args.self.now.parser) c.args.sense c.in_default.not-Begins (parser_state c.at_once.new.parser)
    (rw (c.as_slice.ensures.value, c.is_due-is_due.ensures) at c.in-Ok.ensures.gives)
    ∙ ap (λ before. Fine (record (source_of c.args.self.now) { at = parser_state c.at_once.new.parser; before = before })) (sym c.before_next-self.ensures)

pub returns-clause-grows : goal.returns-clause-grows
returns-clause-grows c = record { names = begins_same _ _ refl; bodies = begins_same _ _ refl; defining = begins_same _ _ refl; entries = c.at_once.ensures.entries }
