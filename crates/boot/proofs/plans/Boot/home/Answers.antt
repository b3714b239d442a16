use Rattle.{std.proofs.Common.{ap, subst}, boot.{specs.Plan.IsPlan, proofs.PlanLemmas.{home_at, home_exists}}}
use Rattle.boot.proofs.plans.Boot.home.Goals as goal

pub returns-clause-home : goal.returns-clause-home
returns-clause-home c =
    home_at c.args.self.now c.self.inside.tasks.items c.args.thread.0 c.index.result.now
    (record { same = ap (λ plan. plan.tasks) c.self.view_is; below = c.requires; here = rw c.from.ensures at c.index.ensures })

pub returns-clause-exists : goal.returns-clause-exists
returns-clause-exists c =
    home_exists c.args.self.now c.self.inside.tasks.items c.args.thread.0 c.index.result.now
    (record { same = ap (λ plan. plan.tasks) c.self.view_is; below = c.requires; here = rw c.from.ensures at c.index.ensures })
    (subst IsPlan c.self.view_is c.self.invariant)
