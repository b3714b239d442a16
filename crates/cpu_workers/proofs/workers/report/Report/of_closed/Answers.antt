use Rattle.cpu_workers.proofs.workers.report.Report.of_closed.Goals as goal

pub close-blocks-requires-clause-covers : goal.close-blocks-requires-clause-covers
close-blocks-requires-clause-covers g c = c.requires.covers

pub close-blocks-requires-clause-keys : goal.close-blocks-requires-clause-keys
close-blocks-requires-clause-keys g c = c.requires.keys

pub returns-clause-closes : goal.returns-clause-closes
returns-clause-closes g c = c.close-blocks.ensures
