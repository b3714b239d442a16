use Rattle.std.proofs.Common.{◌≡◌, [], ap, ◌∙◌, subst, arith}
use Rattle.{event_log.specs.declared.ids.CpuId.CpuId, cpu_workers.proofs.{Joining.{all_by_number, both_length, both_back, both_kept}, Seated.left_so}}
use Rattle.cpu_workers.proofs.workers.seating.run_each.Goals as goal

pub work_all-requires-after_bounds : goal.work_all-requires-after_bounds
work_all-requires-after_bounds g c κs within =
    all_by_number (λ w. w.acts ≡ []) c.in_ok-workers.workers.items (λ k w at. (c.in_ok-workers.ensures.each k w at).0.fresh)

pub all_apart-requires-clause-room : goal.all_apart-requires-clause-room
all_apart-requires-clause-room g c =
    let same = both_length _ c.in_ok-workers.workers.items c.into_done.result.items
    (both_kept _ c.in_ok-workers.workers.items (ap (λ v. v.items) c.into_done.ensures) c.in_ok-came.ensures) ∙ c.in_ok-workers.ensures.count in
    omega (arith, same, c.in_ok-left.ensures.capacity, c.len.ensures, c.args.machines.ok.0)

pub returns-clause-count : goal.returns-clause-count
returns-clause-count g c =
    both_length _ c.into_done.result.items c.all_apart.result.items c.all_apart.ensures ∙ both_length _ c.in_ok-workers.workers.items c.into_done.result.items
    (both_kept _ c.in_ok-workers.workers.items (ap (λ v. v.items) c.into_done.ensures) c.in_ok-came.ensures) ∙ c.in_ok-workers.ensures.count

pub returns-clause-machine_id : goal.returns-clause-machine_id
returns-clause-machine_id g c = λ k x m at there.
    let d = both_back _ c.into_done.result.items c.all_apart.result.items c.all_apart.ensures k x at in
    let e = both_back _ c.in_ok-workers.workers.items c.into_done.result.items
    (both_kept _ c.in_ok-workers.workers.items (ap (λ v. v.items) c.into_done.ensures) c.in_ok-came.ensures) k d.0 d.1 in
    d.2.0.site_is ∙ e.2.same.machine_id ∙ (c.in_ok-workers.ensures.each k e.0 e.1).1 m there

pub returns-clause-owns : goal.returns-clause-owns
returns-clause-owns g c = λ k x at.
    let d = both_back _ c.into_done.result.items c.all_apart.result.items c.all_apart.ensures k x at in
    let e = both_back _ c.in_ok-workers.workers.items c.into_done.result.items
    (both_kept _ c.in_ok-workers.workers.items (ap (λ v. v.items) c.into_done.ensures) c.in_ok-came.ensures) k d.0 d.1 in
    subst (λ (i : CpuId). g.I.CallLayer.ActsFor x.machine i) (e.2.same.cpu ∙ (c.in_ok-workers.ensures.each k e.0 e.1).0.cpu_is) d.2.1

pub returns-clause-left : goal.returns-clause-left
returns-clause-left g c = λ k x at.
    let d = both_back _ c.into_done.result.items c.all_apart.result.items c.all_apart.ensures k x at in
    let e = both_back _ c.in_ok-workers.workers.items c.into_done.result.items
    (both_kept _ c.in_ok-workers.workers.items (ap (λ v. v.items) c.into_done.ensures) c.in_ok-came.ensures) k d.0 d.1 in
    left_so (c.in_ok-workers.ensures.each k e.0 e.1).0 e.2 d.2.0 d.2.2
