use Rattle.j1_workbench.proofs.MadeRuns.{makes_well}
use Rattle.j1_workbench.proofs.making.make.Goals as goal

pub returns : goal.returns
returns g c = λ files console small enough.
    makes_well c.made_sources_are_read.ensures c.made_programs_are_certified.ensures c.made_programs_halt_well.ensures c.runs_only_grow.ensures.round
    c.args.seed c.args.count c.args.steps _ _ _ _ small enough (c.drive_made.ensures files console)
