use Rattle.std.proofs.Common.{◌≡◌, [], ap, ◌∙◌}
use Rattle.cpu_workers.{specs.Reports.HasRun, proofs.Joining.{both_all, both_then}}
use Rattle.cpu_workers.proofs.workers.starting.work_all.Goals as goal

pub run_all-requires-after_bounds : goal.run_all-requires-after_bounds
run_all-requires-after_bounds g c κs within =
    both_all (λ w t. (t.worker ≡ w) × (t.gate.now ≡ c.args.gate.now) × (t.turns ≡ c.args.turns)) (λ w. w.acts ≡ []) (λ t. t.worker.acts ≡ [])
    (λ w t is fresh. ap (λ v. v.acts) is.0 ∙ fresh) c.args.workers.items c.in_ok-tasks.tasks.items c.in_ok-tasks.ensures c.requires

pub returns-in-Ok : goal.returns-in-Ok
returns-in-Ok g c =
    both_then (λ w t. (t.worker ≡ w) × (t.gate.now ≡ c.args.gate.now) × (t.turns ≡ c.args.turns))
    (λ t r. HasRun (g.G.Gate.MayAnswer t.gate.now) t.turns t.worker r.worker r.did.taken r.did.stop)
    (λ w r. HasRun (g.G.Gate.MayAnswer c.args.gate.now) c.args.turns w r.worker r.did.taken r.did.stop)
    (λ w t r is ran. rw (← is.0, ← is.1, ← is.2) ran)
    c.args.workers.items c.in_ok-tasks.tasks.items c.in-Ok.came.done.items c.in_ok-tasks.ensures c.in-Ok.ensures.ran
