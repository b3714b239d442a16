use Rattle.cpu_workers.proofs.workers.seats.TowerSeatWords.look.Goals as goal

pub look-requires-clause-cpu : goal.look-requires-clause-cpu
look-requires-clause-cpu g c = rw (← c.self.view_is) at c.requires.cpu

pub returns-clause-opening : goal.returns-clause-opening
returns-clause-opening g c = rw (← c.self.view_is) c.look.ensures.opening

pub returns-clause-acts : goal.returns-clause-acts
returns-clause-acts g c = rw (← c.self.view_is) c.look.ensures.acts

pub returns-clause-adds : goal.returns-clause-adds
returns-clause-adds g c = rw (← c.self.view_is) c.look.ensures.adds
