use Rattle.{std.proofs.Common.ap, boot.proofs.PlanLemmas.program_at_index}
use Rattle.boot.proofs.plans.Boot.program.Goals as goal

pub returns-clause-program : goal.returns-clause-program
returns-clause-program c =
    program_at_index c.args.self.now c.self.inside.tasks.items c.args.thread.0 c.index.result.now
    (record { same = ap (λ plan. plan.tasks) c.self.view_is; below = c.requires; here = rw c.from.ensures at c.index.ensures })
