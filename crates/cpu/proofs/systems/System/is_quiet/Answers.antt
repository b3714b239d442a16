use Rattle.cpu.proofs.StepTable.TableQuiet.{quiet_so, quiet_still, so_quiet}
use Rattle.cpu.proofs.systems.System.is_quiet.Goals as goal

pub returns-clause-table : goal.returns-clause-table
returns-clause-table g c = λ step setup is.
    let s = c.args.self.now in
    let observed = c.holds.ensures.observed step in (
      (λ on. quiet_so s observed setup is (c.rests.ensures.0 on)),
      (λ quiet. c.rests.ensures.1 (so_quiet s observed setup is quiet)),
    )

pub returns-clause-still : goal.returns-clause-still
returns-clause-still g c = λ step on.
    quiet_still c.args.self.now (c.holds.ensures.observed step) c.holds.ensures.agree (c.holds.ensures.sound step).reached (c.rests.ensures.0 on)
