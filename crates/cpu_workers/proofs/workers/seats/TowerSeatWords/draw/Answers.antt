use Rattle.cpu_workers.proofs.workers.seats.TowerSeatWords.draw.Goals as goal

pub draw-requires-clause-cpu : goal.draw-requires-clause-cpu
draw-requires-clause-cpu g c = rw (← c.self.view_is) at c.requires.cpu

pub returns-clause-opening : goal.returns-clause-opening
returns-clause-opening g c = rw (← c.self.view_is) c.draw.ensures.opening

pub returns-clause-acts : goal.returns-clause-acts
returns-clause-acts g c = rw (← c.self.view_is) c.draw.ensures.acts

pub returns-clause-adds : goal.returns-clause-adds
returns-clause-adds g c = rw (← c.self.view_is) c.draw.ensures.adds
