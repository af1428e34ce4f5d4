-- The schedule of a net.
use Rattle.std.specs.Prelude.{ℕ, zero, suc, ◌+◌, ◌++◌, List, [], length, replicate}
use Rattle.net_file.specs.Net.{NetPlan}

-- so many entries of each of so many cores, from core k on
abbrev pub round_from : ℕ → ℕ → ℕ → List ℕ
round_from zero k entries = []
round_from (suc cores) k entries = replicate entries k ++ round_from cores (k + 1) entries

-- so many rounds
abbrev pub rounds_of : ℕ → List ℕ → List ℕ
rounds_of zero round = []
rounds_of (suc rounds) round = round ++ rounds_of rounds round

-- the rounds of a net: in each the entries of core 0, then those of core 1, and so on
abbrev pub schedule_of : NetPlan → List ℕ
schedule_of net = rounds_of net.rounds (round_from (length net.cores) 0 net.entries)
