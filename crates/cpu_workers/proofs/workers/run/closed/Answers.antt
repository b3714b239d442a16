use Rattle.cpu_workers.proofs.workers.run.closed.Goals as goal

pub of_closed-requires-clause-covers : goal.of_closed-requires-clause-covers
of_closed-requires-clause-covers g c = c.requires.covers

pub of_closed-requires-clause-keys : goal.of_closed-requires-clause-keys
of_closed-requires-clause-keys g c = c.requires.keys

pub returns-clause-closes : goal.returns-clause-closes
returns-clause-closes g c = c.of_closed.ensures.closes
