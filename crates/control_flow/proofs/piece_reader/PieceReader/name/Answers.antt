use Rattle.std.proofs.Common.{◌+◌, arith, ap, length}
use Rattle.forth_reader.specs.ReaderState.{ReaderState}
use Rattle.control_flow.proofs.Numbers.{where_none, where_some, sound, name_token, name_end, name_refusal, named_end, named_token, named_failed}
use Rattle.control_flow.proofs.piece_reader.PieceReader.name.Goals.{in-Ok-None, in-Ok-Some, in-Err}
use Rattle.control_flow.proofs.piece_reader.PieceReader.name.Goals as goal

pub overflow_add-result : goal.overflow_add-result
overflow_add-result c =
    let whole = sound c.self.inside.before c.self.inside.reader c.name.new.self _ c.self.view_is c.requires in
    omega (arith, name_token c.self.inside.reader c.name.new.self whole _ _ c.in-Ok-Some.token.number (where_some _ _ c.in-Ok-Some.field-0 c.in-Ok-Some.token c.in-Ok-Some.field-0-is c.in-Ok-Some.ensures.cases), c.self.invariant)

pub overflow_add-result-in-Err : goal.overflow_add-result-in-Err
overflow_add-result-in-Err c =
    let whole = sound c.self.inside.before c.self.inside.reader c.name.new.self _ c.self.view_is c.requires in
    omega (arith, name_refusal c.self.inside.reader c.name.new.self whole c.in-Err.refusal c.in-Err.ensures.cases, c.self.invariant)

pub invariant_of-self : goal.invariant_of-self
invariant_of-self c =
    let old = c.self.inside.reader in
    let whole = sound c.self.inside.before old c.name.new.self _ c.self.view_is c.requires in
    elim c.match-name.branch [
      | in-Ok-None w ↦
          let e = where_none _ _ w.in-Ok-None.field-0 w.in-Ok-None.field-0-is w.in-Ok-None.ensures.cases in
          omega (arith, name_end old c.name.new.self whole e, ap (λ (s : ReaderState). length s.rest) e.new_is, c.self.invariant)
      | in-Ok-Some w ↦
          let t = where_some _ _ w.in-Ok-Some.field-0 w.in-Ok-Some.token w.in-Ok-Some.field-0-is w.in-Ok-Some.ensures.cases in
          omega (arith, name_token old c.name.new.self whole _ _ w.in-Ok-Some.token.number t, ap (λ (s : ReaderState). s.count) t.new_is, c.self.invariant)
      | in-Err w ↦ omega (arith, ap (λ (s : ReaderState). s.count + length s.rest) w.in-Err.ensures.cases.new_is, c.self.invariant)
    ]

pub returns-clause-cases : goal.returns-clause-cases
returns-clause-cases c =
    let before = c.self.inside.before in
    let old = c.self.inside.reader in
    elim c.match-name.branch [
      | in-Ok-None w ↦ rw w.result-is (named_end before old c.name.new.self _ c.self.view_is c.requires (where_none _ _ w.in-Ok-None.field-0 w.in-Ok-None.field-0-is w.in-Ok-None.ensures.cases))
      | in-Ok-Some w ↦ rw w.result-is (named_token before old c.name.new.self _ c.self.view_is c.requires _ _ _ (where_some _ _ w.in-Ok-Some.field-0 w.in-Ok-Some.token w.in-Ok-Some.field-0-is w.in-Ok-Some.ensures.cases))
      | in-Err w ↦ rw w.result-is (named_failed before old c.name.new.self _ c.self.view_is c.requires w.in-Err.refusal w.in-Err.ensures.cases)
    ]
