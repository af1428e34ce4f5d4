use Rattle.session_runs.proofs.Parts.{one_more_comes_back, led_out_to_one_place}
use Rattle.session_runs.proofs.laws.calls_come_back_in_turn.Goals as goal

pub returns : goal.returns
returns c = record { more = one_more_comes_back; place = led_out_to_one_place }
