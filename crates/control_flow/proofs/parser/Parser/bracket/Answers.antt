use Rattle.std.proofs.Common.{arith, ◌∙◌}
use Rattle.control_flow.specs.declared.refusal.SourceCause.TheVariants as cause
use Rattle.control_flow.specs.ParseResult.{ParserState}
use Rattle.control_flow.specs.Answers.{parser_state}
use Rattle.control_flow.proofs.BracketSteps.{quoted_fails, refused_host, with_sense, refused_by, refused_act, behind_act}
use Rattle.control_flow.proofs.parser.Parser.bracket.Goals as goal

pub returns-in-Err-clause-gives : goal.returns-in-Err-clause-gives
returns-in-Err-clause-gives c n h = refused_host _ (parser_state c.tokens.self) (c.tokens.invariant.same n h) c.in-Err.error c.in-Err.ensures.gives

pub tokens-preserved : goal.tokens-preserved
tokens-preserved c = record {
  same = λ n h.
      behind_act _ (parser_state c.tokens.self) (c.tokens.invariant.same n h) c.in-Ok.sense (parser_state c.host_token.new.self) c.in-Ok.ensures.gives c.in-Acts.item c.in-Acts.is
      (parser_state c.act.new.self) c.in-Ok-act.ensures.gives (omega (arith, c.in-Ok.ensures.shorter, c.act.ensures.same));
  room = omega (arith, c.tokens.invariant.room, c.in-Ok.ensures.shorter, c.act.ensures.same);
  ready = c.in-Ok-act.ensures.ready;
  entries = c.act.ensures.entries ∙ c.host_token.ensures.entries ∙ c.tokens.invariant.entries;
}

pub returns-in-Err-act-clause-gives : goal.returns-in-Err-act-clause-gives
returns-in-Err-act-clause-gives c n h =
    refused_act _ (parser_state c.tokens.self) (c.tokens.invariant.same n h) c.in-Ok.sense (parser_state c.host_token.new.self) c.in-Ok.ensures.gives c.in-Acts.item c.in-Acts.is
    c.in-Err-act.error c.in-Err-act.ensures.gives

pub returns-in-Closes-clause-gives : goal.returns-in-Closes-clause-gives
returns-in-Closes-clause-gives c n h = with_sense _ (parser_state c.tokens.self) (c.tokens.invariant.same n h) c.in-Ok.sense (parser_state c.host_token.new.self) c.in-Ok.ensures.gives _ c.in-Closes.is

pub returns-in-Ends-clause-gives : goal.returns-in-Ends-clause-gives
returns-in-Ends-clause-gives c n h =
    rw c.refuse.ensures (with_sense _ (parser_state c.tokens.self) (c.tokens.invariant.same n h) c.in-Ok.sense (parser_state c.host_token.new.self) c.in-Ok.ensures.gives _ c.in-Ends.is)

pub returns-in-Does-clause-gives : goal.returns-in-Does-clause-gives
returns-in-Does-clause-gives c n h =
    rw c.refuse-in-Does.ensures (with_sense _ (parser_state c.tokens.self) (c.tokens.invariant.same n h) c.in-Ok.sense (parser_state c.host_token.new.self) c.in-Ok.ensures.gives _ c.in-Does.is)

pub returns-in-Quoted-clause-gives : goal.returns-in-Quoted-clause-gives
returns-in-Quoted-clause-gives c n h =
    refused_by _ (parser_state c.tokens.self) (c.tokens.invariant.same n h) c.in-Ok.sense (parser_state c.host_token.new.self) c.in-Ok.ensures.gives _ c.in-Quoted.is c.quoted.result
    (quoted_fails ParserState c.quoted.result cause.NotInDefinition (parser_state c.host_token.new.self) c.quoted.ensures.gives)

pub returns-in-OutOfRange-clause-gives : goal.returns-in-OutOfRange-clause-gives
returns-in-OutOfRange-clause-gives c n h =
    rw c.refuse-in-OutOfRange.ensures (with_sense _ (parser_state c.tokens.self) (c.tokens.invariant.same n h) c.in-Ok.sense (parser_state c.host_token.new.self) c.in-Ok.ensures.gives _ c.in-OutOfRange.is)

pub returns-in-Unknown-clause-gives : goal.returns-in-Unknown-clause-gives
returns-in-Unknown-clause-gives c n h =
    rw c.refuse-in-Unknown.ensures (with_sense _ (parser_state c.tokens.self) (c.tokens.invariant.same n h) c.in-Ok.sense (parser_state c.host_token.new.self) c.in-Ok.ensures.gives _ c.in-Unknown.is)

pub returns-in-Forbidden-clause-gives : goal.returns-in-Forbidden-clause-gives
returns-in-Forbidden-clause-gives c n h =
    rw c.refuse-in-Forbidden.ensures (with_sense _ (parser_state c.tokens.self) (c.tokens.invariant.same n h) c.in-Ok.sense (parser_state c.host_token.new.self) c.in-Ok.ensures.gives _ c.in-Forbidden.is)
