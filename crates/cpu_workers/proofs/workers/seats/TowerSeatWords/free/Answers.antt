use Rattle.cpu_workers.proofs.workers.seats.TowerSeatWords.free.Goals as goal

pub free-requires-clause-cpu : goal.free-requires-clause-cpu
free-requires-clause-cpu g c = rw (← c.self.view_is) at c.requires.cpu

pub returns-clause-opening : goal.returns-clause-opening
returns-clause-opening g c = rw (← c.self.view_is) c.free.ensures.opening

pub returns-clause-acts : goal.returns-clause-acts
returns-clause-acts g c = rw (← c.self.view_is) c.free.ensures.acts

pub returns-clause-adds : goal.returns-clause-adds
returns-clause-adds g c = rw (← c.self.view_is) c.free.ensures.adds

pub free-requires-clause-allowed : goal.free-requires-clause-allowed
free-requires-clause-allowed g c = rw (← c.self.view_is) at c.requires.allowed
