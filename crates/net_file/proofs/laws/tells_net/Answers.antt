use Rattle.j1_assembler.specs.Text.{lines_of}
use Rattle.net_file.specs.Reading.{reading_start}
use Rattle.net_file.proofs.FirstBad.{tells_read, read_tells}
use Rattle.net_file.proofs.NetRuns.{net_read, read_net}
use Rattle.net_file.proofs.laws.tells_net.Goals as goal

pub returns : goal.returns
returns c = λ text net. (λ e. read_net (lines_of text) net (tells_read (lines_of text) reading_start net 1 e), λ is. read_tells (lines_of text) reading_start net 1 (net_read (lines_of text) net is))
