use Rattle.word_laws.proofs.BothMachines.{runs_do_the_same, instruction_does_the_same}
use Rattle.word_laws.proofs.rings.rings_do_the_same.Goals as goal

pub returns-clause-instruction : goal.returns-clause-instruction
returns-clause-instruction c = λ data_start w r. instruction_does_the_same data_start w r

pub returns-clause-run : goal.returns-clause-run
returns-clause-run c = λ image input n. runs_do_the_same image input n
