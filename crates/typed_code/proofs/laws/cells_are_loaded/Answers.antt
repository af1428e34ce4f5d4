use Rattle.typed_code.proofs.Running.{load_puts_cells, run_code_loads}
use Rattle.typed_code.proofs.laws.cells_are_loaded.Goals as goal

pub returns-clause-load : goal.returns-clause-load
returns-clause-load c = load_puts_cells (record { runs = c.runs_join.ensures.runs; bounds = c.runs_join.ensures.bounds })

pub returns-clause-run_code : goal.returns-clause-run_code
returns-clause-run_code c = run_code_loads (record { runs = c.runs_join.ensures.runs; bounds = c.runs_join.ensures.bounds })
