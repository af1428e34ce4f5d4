use Rattle.std.proofs.Common.{arith, refl, sym, ◌∙◌}
use Rattle.control_flow.specs.declared.refusal.SourceCause.TheVariants as cause
use Rattle.control_flow.specs.HostParts.{HostPart}
use Rattle.control_flow.specs.Answers.{parser_state}
use Rattle.control_flow.proofs.BracketSteps.{quoted_fails}
use Rattle.control_flow.proofs.HostPartSteps.{part_started, refused_host, with_sense, refused_by, ends, ends_with_does, behind_item, part_forbidden}
use Rattle.control_flow.proofs.parser.Parser.host_part.Goals as goal

pub tokens-init : goal.tokens-init
tokens-init c = record { same = λ n h. part_started _ c.new-items.ensures.items n (parser_state c.args.self.now) h; room = omega arith; ready = c.requires; entries = refl }

pub returns-in-Err-clause-gives : goal.returns-in-Err-clause-gives
returns-in-Err-clause-gives c n h = refused_host _ (c.tokens.items.items) (parser_state c.tokens.self) (c.tokens.invariant.same n h) c.in-Err.error c.in-Err.ensures.gives

pub returns-then-not-may_be_part-clause-gives : goal.returns-then-not-may_be_part-clause-gives
returns-then-not-may_be_part-clause-gives c n h =
    rw c.refuse.ensures
    (part_forbidden _ (c.tokens.items.items) (parser_state c.tokens.self) (c.tokens.invariant.same n h) c.in-Ok.sense (parser_state c.host_token.new.self) c.in-Ok.ensures.gives c.in-Acts.item c.in-Acts.is
    (sym c.may_be_part.ensures ∙ c.if-not-may_be_part.true))

pub tokens-preserved : goal.tokens-preserved
tokens-preserved c = record {
  same = λ n h.
      behind_item _ (c.tokens.items.items) (parser_state c.tokens.self) (c.tokens.invariant.same n h) c.in-Ok.sense (parser_state c.host_token.new.self) c.in-Ok.ensures.gives c.in-Acts.item c.in-Acts.is
      c.push.new.self.items c.in-Ok-push.ensures.items (sym c.may_be_part.ensures ∙ c.if-not-may_be_part.false) (omega (arith, c.in-Ok.ensures.shorter));
  room = omega (arith, c.tokens.invariant.room, c.in-Ok.ensures.shorter);
  ready = c.in-Ok.ensures.ready;
  entries = c.host_token.ensures.entries ∙ c.tokens.invariant.entries;
}

pub returns-in-Ends-clause-gives : goal.returns-in-Ends-clause-gives
returns-in-Ends-clause-gives c n h = ends _ (c.tokens.items.items) (parser_state c.tokens.self) (c.tokens.invariant.same n h) c.in-Ok.sense (parser_state c.host_token.new.self) c.in-Ok.ensures.gives c.in-Ends.is

pub returns-in-Does-clause-gives : goal.returns-in-Does-clause-gives
returns-in-Does-clause-gives c n h = ends_with_does _ (c.tokens.items.items) (parser_state c.tokens.self) (c.tokens.invariant.same n h) c.in-Ok.sense (parser_state c.host_token.new.self) c.in-Ok.ensures.gives c.in-Does.is

pub returns-in-Quoted-clause-gives : goal.returns-in-Quoted-clause-gives
returns-in-Quoted-clause-gives c n h =
    refused_by _ (c.tokens.items.items) (parser_state c.tokens.self) (c.tokens.invariant.same n h) c.in-Ok.sense (parser_state c.host_token.new.self) c.in-Ok.ensures.gives _ c.in-Quoted.is
    c.quoted.result (quoted_fails HostPart c.quoted.result cause.NotInDefinition (parser_state c.host_token.new.self) c.quoted.ensures.gives)

pub returns-in-Closes-clause-gives : goal.returns-in-Closes-clause-gives
returns-in-Closes-clause-gives c n h =
    rw c.refuse-in-Closes.ensures
    (with_sense _ (c.tokens.items.items) (parser_state c.tokens.self) (c.tokens.invariant.same n h) c.in-Ok.sense (parser_state c.host_token.new.self) c.in-Ok.ensures.gives _ c.in-Closes.is)

pub returns-in-OutOfRange-clause-gives : goal.returns-in-OutOfRange-clause-gives
returns-in-OutOfRange-clause-gives c n h =
    rw c.refuse-in-OutOfRange.ensures
    (with_sense _ (c.tokens.items.items) (parser_state c.tokens.self) (c.tokens.invariant.same n h) c.in-Ok.sense (parser_state c.host_token.new.self) c.in-Ok.ensures.gives _ c.in-OutOfRange.is)

pub returns-in-Unknown-clause-gives : goal.returns-in-Unknown-clause-gives
returns-in-Unknown-clause-gives c n h =
    rw c.refuse-in-Unknown.ensures
    (with_sense _ (c.tokens.items.items) (parser_state c.tokens.self) (c.tokens.invariant.same n h) c.in-Ok.sense (parser_state c.host_token.new.self) c.in-Ok.ensures.gives _ c.in-Unknown.is)

pub returns-in-Forbidden-clause-gives : goal.returns-in-Forbidden-clause-gives
returns-in-Forbidden-clause-gives c n h =
    rw c.refuse-in-Forbidden.ensures
    (with_sense _ (c.tokens.items.items) (parser_state c.tokens.self) (c.tokens.invariant.same n h) c.in-Ok.sense (parser_state c.host_token.new.self) c.in-Ok.ensures.gives _ c.in-Forbidden.is)
