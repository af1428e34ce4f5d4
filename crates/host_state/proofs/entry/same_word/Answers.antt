use Rattle.host_state.proofs.Entries.{same_names}
use Rattle.host_state.proofs.entry.same_word.Goals as goal

pub returns : goal.returns
returns c = same_names c.args.a c.args.b _ c.each_is_found.ensures.found c.eq.ensures
