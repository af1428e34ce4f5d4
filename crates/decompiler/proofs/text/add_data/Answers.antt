use Rattle.std.proofs.Common.{◌<◌, length, arith}
use Rattle.std.proofs.lemmas.Bool.Decides.{nat_tests}
use Rattle.decompiler.proofs.Spaced.{next_row}
use Rattle.decompiler.proofs.text.add_data.Goals as goal

pub loop-rest-preserved : goal.loop-rest-preserved
loop-rest-preserved c =
    let some : 0 < length c.loop-rest.rest.now = grind (arith, nat_tests) in
    record {
      same =
          next_row c.loop-rest.text.items c.add_data_line.new.text.items c.loop-rest.rest.now c.split_at.result.0.now c.split_at.result.1.now _
          c.loop-rest.address c.min.result some c.min.ensures c.split_at.ensures.front c.split_at.ensures.back c.in_ok-add_data_line.ensures
          c.loop-rest.invariant.same;
      within = λ more. omega (arith, c.loop-rest.invariant.within some, c.split_at.ensures.back_len, c.min.ensures);
    }
