use Rattle.std.proofs.Common.{refl}
use Rattle.control_flow.specs.Answers.{parser_state, source_of}
use Rattle.control_flow.proofs.KeptSource.{begins_same, grows_then}
use Rattle.control_flow.proofs.ReadSteps.{refused_outside, at_end, refused_word, next_source}
use Rattle.control_flow.proofs.source.ReadSource.read_on.Goals as goal

pub returns-in-Err-clause-gives : goal.returns-in-Err-clause-gives
returns-in-Err-clause-gives c n h = refused_outside _ (source_of c.tokens.self) (c.tokens.invariant.same n h) c.in-Err.error c.in-Err.ensures.gives

pub returns-in-Ok-None-clause-gives : goal.returns-in-Ok-None-clause-gives
returns-in-Ok-None-clause-gives c n h = at_end _ (source_of c.tokens.self) (c.tokens.invariant.same n h) _ (parser_state c.outside.new.self) c.in-Ok-None.ensures.gives c.in-Ok-None.field-0-is

pub tokens-preserved : goal.tokens-preserved
tokens-preserved c = record {
  same = λ n h.
      next_source _ (source_of c.tokens.self) (c.tokens.invariant.same n h) _ (parser_state c.outside.new.self) c.in-Ok-Some.ensures.gives c.in-Ok-Some.sense c.in-Ok-Some.field-0-is
      (c.in-Ok-Some.ensures.shorter c.in-Ok-Some.sense c.in-Ok-Some.field-0-is) (source_of c.outside_word.new.self) (λ n h. c.in-Ok.ensures.gives n h) c.in-Ok.ensures.shorter;
  ready = c.in-Ok.ensures.ready;
  counted = c.in-Ok.ensures.counted;
  grows =
      grows_then _ c.tokens.self _ c.tokens.invariant.grows
      (grows_then _ (record c.tokens.self { parser = c.outside.new.self }) _
      (record { names = begins_same _ _ refl; bodies = begins_same _ _ refl; defining = begins_same _ _ refl; entries = begins_same _ _ c.outside.ensures.kept.0 }) c.outside_word.ensures.grows);
}

pub returns-in-Err-outside_word-clause-gives : goal.returns-in-Err-outside_word-clause-gives
returns-in-Err-outside_word-clause-gives c n h =
    refused_word _ (source_of c.tokens.self) (c.tokens.invariant.same n h) _ (parser_state c.outside.new.self) c.in-Ok-Some.ensures.gives c.in-Ok-Some.sense c.in-Ok-Some.field-0-is
    (c.in-Ok-Some.ensures.shorter c.in-Ok-Some.sense c.in-Ok-Some.field-0-is) c.in-Err-outside_word.error (λ n h. c.in-Err-outside_word.ensures.gives n h)
