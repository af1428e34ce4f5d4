use Rattle.session_runs.proofs.WayOut.{texts_are_led_out}
use Rattle.session_runs.proofs.laws.texts_are_led_out.Goals as goal

pub returns : goal.returns
returns c = texts_are_led_out c.prices_add.ensures c.worlds_grow.ensures
