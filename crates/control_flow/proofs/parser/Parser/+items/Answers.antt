use Rattle.std.proofs.Common.{arith, refl, ◌∙◌, ap, sym, ◌-◌, length}
use Rattle.forth_program.specs.ItemTrees.{items_of, arms_of}
use Rattle.control_flow.specs.ParseResult.{Fine}
use Rattle.control_flow.specs.Items.{items_at}
use Rattle.control_flow.specs.Answers.{parser_state}
use Rattle.control_flow.proofs.ItemLists.{started, refused_token, with_token, ends, behind_bracket, refused_item, behind_item, refused_first, items_first, longer}
use Rattle.control_flow.proofs.ArmLists.{refused_tests, ends_case, unfit_case, refused_body, next_arm, one_arm_more}
use Rattle.control_flow.proofs.parser.Parser.+items.Goals as goal

pub items-returns-in-Err-clause-gives : goal.items-returns-in-Err-clause-gives
items-returns-in-Err-clause-gives t c n h = refused_first n (parser_state c.args.self.now) (omega (arith, h)) c.in-Err.error c.in-Err.ensures.gives

pub items-returns-clause-gives : goal.items-returns-clause-gives
items-returns-clause-gives t c n h =
    rw (items_first n (parser_state c.args.self.now) (omega (arith, h)) c.in-Ok.sense (parser_state c.token.new.self) c.in-Ok.ensures.gives)
    (c.items_from.ensures.gives (n - 1) (omega (arith, h, c.in-Ok.ensures.shorter)))

pub items_from-tokens-init : goal.items_from-tokens-init
items_from-tokens-init t c = record {
  same = λ n h. started _ c.new-done.ensures n (parser_state c.args.self.now) c.args.first h;
  room = omega arith;
  ready = c.requires;
  entries = refl;
}

pub items_from-returns-in-Ok-clause-gives : goal.items_from-returns-in-Ok-clause-gives
items_from-returns-in-Ok-clause-gives t c n h =
    ends _ (items_of c.tokens.done) (parser_state c.tokens.self) c.tokens.sense (c.tokens.invariant.same n h) c.in-Ends.ending c.in-Ends.is (parser_state c.end.new.self) c.in-Ok.ensures.gives

pub items_from-tokens-preserved-in-Brackets : goal.items_from-tokens-preserved-in-Brackets
items_from-tokens-preserved-in-Brackets t c = record {
  same = λ n h.
      let here = c.tokens.invariant.same n h in
      with_token _ _ _
      (behind_bracket _ (items_of c.tokens.done) (parser_state c.tokens.self) c.tokens.sense here c.in-Brackets.is (parser_state c.bracket.new.self)
      (c.in-Ok-bracket.ensures.gives here.fuel here.enough) (omega (arith, c.in-Ok-bracket.ensures.shorter)))
      c.in-Ok-token.sense (parser_state c.token.new.self) c.in-Ok-token.ensures.gives (omega (arith, c.in-Ok-token.ensures.shorter));
  room = omega (arith, c.tokens.invariant.room, c.in-Ok-bracket.ensures.shorter, c.in-Ok-token.ensures.shorter);
  ready = c.in-Ok-token.ensures.ready;
  entries = c.token.ensures.entries ∙ c.bracket.ensures.entries ∙ c.tokens.invariant.entries;
}

pub items_from-tokens-preserved : goal.items_from-tokens-preserved
items_from-tokens-preserved t c = record {
  same = λ n h.
      let here = c.tokens.invariant.same n h in
      with_token _ _ _
      (behind_item _ (items_of c.tokens.done) (parser_state c.tokens.self) c.tokens.sense here c.in_default.not-Ends c.in_default-sense.not-Brackets
      (items_of c.push.new.self) c.in-Ok-item.item (parser_state c.item.new.self) c.in-Ok-push.ensures.ok
      (c.in-Ok-item.ensures.gives here.fuel here.fuel here.enough here.enough) (omega (arith, c.in-Ok-item.ensures.shorter)))
      c.in-Ok-token-2.sense (parser_state c.token-in-tokens.new.self) c.in-Ok-token-2.ensures.gives (omega (arith, c.in-Ok-token-2.ensures.shorter));
  room = omega (arith, c.tokens.invariant.room, c.in-Ok-item.ensures.shorter, c.in-Ok-token-2.ensures.shorter);
  ready = c.in-Ok-token-2.ensures.ready;
  entries = c.token-in-tokens.ensures.entries ∙ c.item.ensures.entries ∙ c.tokens.invariant.entries;
}

pub items_from-returns-in-Err-token : goal.items_from-returns-in-Err-token
items_from-returns-in-Err-token t c = record {
  gives = λ n h.
      let here = c.tokens.invariant.same n h in
      refused_token _ _ _
      (behind_bracket _ (items_of c.tokens.done) (parser_state c.tokens.self) c.tokens.sense here c.in-Brackets.is (parser_state c.bracket.new.self)
      (c.in-Ok-bracket.ensures.gives here.fuel here.enough) (omega (arith, c.in-Ok-bracket.ensures.shorter)))
      c.in-Err-token.error c.in-Err-token.ensures.gives;
  shorter = tt;
  ready = tt;
  entries = c.token.ensures.entries ∙ c.bracket.ensures.entries ∙ c.tokens.invariant.entries;
}

pub items_from-returns-in-Err-item : goal.items_from-returns-in-Err-item
items_from-returns-in-Err-item t c = record {
  gives = λ n h.
      let here = c.tokens.invariant.same n h in
      refused_item _ (items_of c.tokens.done) (parser_state c.tokens.self) c.tokens.sense here c.in_default.not-Ends c.in_default-sense.not-Brackets
      c.in-Err-item.error (c.in-Err-item.ensures.gives here.fuel here.fuel here.enough here.enough);
  shorter = tt;
  ready = tt;
  entries = c.item.ensures.entries ∙ c.tokens.invariant.entries;
}

pub items_from-returns-in-Err-token-2 : goal.items_from-returns-in-Err-token-2
items_from-returns-in-Err-token-2 t c = record {
  gives = λ n h.
      let here = c.tokens.invariant.same n h in
      refused_token _ _ _
      (behind_item _ (items_of c.tokens.done) (parser_state c.tokens.self) c.tokens.sense here c.in_default.not-Ends c.in_default-sense.not-Brackets
      (items_of c.push.new.self) c.in-Ok-item.item (parser_state c.item.new.self) c.in-Ok-push.ensures.ok
      (c.in-Ok-item.ensures.gives here.fuel here.fuel here.enough here.enough) (omega (arith, c.in-Ok-item.ensures.shorter)))
      c.in-Err-token-2.error c.in-Err-token-2.ensures.gives;
  shorter = tt;
  ready = tt;
  entries = c.token-in-tokens.ensures.entries ∙ c.item.ensures.entries ∙ c.tokens.invariant.entries;
}

pub case_item-returns-in-Err-clause-gives : goal.case_item-returns-in-Err-clause-gives
case_item-returns-in-Err-clause-gives t c n m h i =
    refused_tests _ (arms_of c.arms.arms) (items_at n) (m - length (arms_of c.arms.arms)) (parser_state c.arms.self) (c.arms.invariant.same n m h i) (omega (arith, c.arms.invariant.room))
    c.in-Err.error (c.in-Err.ensures.gives n (omega (arith, c.arms.invariant.room)))

pub case_item-returns-in-EndCase-clause-gives : goal.case_item-returns-in-EndCase-clause-gives
case_item-returns-in-EndCase-clause-gives t c n m h i =
    ends_case _ (arms_of c.arms.arms) (items_at n) (m - length (arms_of c.arms.arms)) (parser_state c.arms.self) (c.arms.invariant.same n m h i) (omega (arith, c.arms.invariant.room))
    c.in-Ok.tests.items c.in-Ok.tests.ending (parser_state c.items.new.self) (c.in-Ok.ensures.gives n (omega (arith, c.arms.invariant.room))) c.in-EndCase.is
    ∙ ap (λ node. Fine (record { node = node; at = parser_state c.items.new.self })) (sym c.case_of.ensures)

pub case_item-returns-in_default : goal.case_item-returns-in_default
case_item-returns-in_default t c = rw c.refuse.ensures (record {
  gives = λ n m h i.
      unfit_case _ (arms_of c.arms.arms) (items_at n) (m - length (arms_of c.arms.arms)) (parser_state c.arms.self) (c.arms.invariant.same n m h i) (omega (arith, c.arms.invariant.room))
      c.in-Ok.tests.items c.in-Ok.tests.ending (parser_state c.items.new.self) (c.in-Ok.ensures.gives n (omega (arith, c.arms.invariant.room))) c.in_default.not-Of c.in_default.not-EndCase;
  shorter = tt;
  ready = tt;
  entries = c.items.ensures.entries ∙ c.arms.invariant.entries;
})

pub case_item-returns-in-Err-arm_body-clause-gives : goal.case_item-returns-in-Err-arm_body-clause-gives
case_item-returns-in-Err-arm_body-clause-gives t c n m h i =
    refused_body _ (arms_of c.arms.arms) (items_at n) (m - length (arms_of c.arms.arms)) (parser_state c.arms.self) (c.arms.invariant.same n m h i) (omega (arith, c.arms.invariant.room))
    c.in-Ok.tests.items c.in-Ok.tests.ending (parser_state c.items.new.self) (c.in-Ok.ensures.gives n (omega (arith, c.arms.invariant.room))) c.in-Of.is
    c.in-Err-arm_body.error (c.in-Err-arm_body.ensures.gives n (omega (arith, c.arms.invariant.room, c.in-Ok.ensures.shorter)))

pub case_item-arms-preserved : goal.case_item-arms-preserved
case_item-arms-preserved t c = record {
  same = λ n m h i.
      next_arm _ (arms_of c.arms.arms) (items_at n) (m - length (arms_of c.arms.arms)) (parser_state c.arms.self) (c.arms.invariant.same n m h i) (omega (arith, c.arms.invariant.room))
      c.in-Ok.tests.items c.in-Ok.tests.ending (parser_state c.items.new.self) (c.in-Ok.ensures.gives n (omega (arith, c.arms.invariant.room))) c.in-Of.is
      c.in-Ok-arm_body.body (parser_state c.arm_body.new.self) (c.in-Ok-arm_body.ensures.gives n (omega (arith, c.arms.invariant.room, c.in-Ok.ensures.shorter)))
      ∙ one_arm_more (arms_of c.arms.arms) (arms_of c.push.new.self) _ (items_at n) m (parser_state c.arm_body.new.self) c.in-Ok-push.ensures.ok;
  room = omega (arith, c.arms.invariant.room, longer _ _ _ c.in-Ok-push.ensures.ok, c.in-Ok.ensures.shorter, c.in-Ok-arm_body.ensures.shorter);
  ready = c.in-Ok-arm_body.ensures.ready;
  entries = c.arm_body.ensures.entries ∙ c.items.ensures.entries ∙ c.arms.invariant.entries;
}
