use Rattle.std.proofs.Common.{◌≡◌, ap, ◌∙◌, subst, arith}
use Rattle.{event_log.specs.declared.ids.CpuId.CpuId, layer_traits.specs.Threads.OnePlace.cpu_at, cpu_workers.proofs.Joining.{both_length, both_back}}
use Rattle.cpu_workers.proofs.{Joining.both_kept, NativeLists.{all_ready, calls_so}}
use Rattle.cpu_workers.proofs.natives.seating.call_each.Goals as goal

pub run_all-requires-after_bounds : goal.run_all-requires-after_bounds
run_all-requires-after_bounds g c κs within =
    all_ready g.N.Native.Needs (λ t. t.caller.value) (λ t. t.native) c.args.caps.now c.args.natives.items c.in_ok-tasks.tasks.items c.requires.needs
    (λ k t at. let e = c.in_ok-tasks.ensures.each k t at in (e.0, e.1))

pub all_left-requires-clause-room : goal.all_left-requires-clause-room
all_left-requires-clause-room g c =
    let same = both_length _ c.in_ok-tasks.tasks.items c.into_done.result.items
    (both_kept _ c.in_ok-tasks.tasks.items (ap (λ v. v.items) c.into_done.ensures) c.in_ok-done.ensures.ran) ∙ c.in_ok-tasks.ensures.count in
    let cap = c.in_ok-left.ensures.capacity in
    let len = c.len.ensures in
    let ok = c.args.machines.ok.0 in
    omega (arith, same, cap, len, ok)

pub returns-clause-count : goal.returns-clause-count
returns-clause-count g c =
    both_length _ c.into_done.result.items c.all_left.result.items c.all_left.ensures ∙ both_length _ c.in_ok-tasks.tasks.items c.into_done.result.items
    (both_kept _ c.in_ok-tasks.tasks.items (ap (λ v. v.items) c.into_done.ensures) c.in_ok-done.ensures.ran) ∙ c.in_ok-tasks.ensures.count

pub returns-clause-machine_id : goal.returns-clause-machine_id
returns-clause-machine_id g c = λ k x m at there.
    let d = both_back _ c.into_done.result.items c.all_left.result.items c.all_left.ensures k x at in
    let e = both_back _ c.in_ok-tasks.tasks.items c.into_done.result.items
    (both_kept _ c.in_ok-tasks.tasks.items (ap (λ v. v.items) c.into_done.ensures) c.in_ok-done.ensures.ran) k d.0 d.1 in
    let n = c.in_ok-tasks.ensures.each k e.0 e.1 in
    d.2.0.site_is ∙ e.2.same.machine_id ∙ n.2 m there

pub returns-clause-owns : goal.returns-clause-owns
returns-clause-owns g c = λ k x at.
    let d = both_back _ c.into_done.result.items c.all_left.result.items c.all_left.ensures k x at in
    let e = both_back _ c.in_ok-tasks.tasks.items c.into_done.result.items
    (both_kept _ c.in_ok-tasks.tasks.items (ap (λ v. v.items) c.into_done.ensures) c.in_ok-done.ensures.ran) k d.0 d.1 in
    let n = c.in_ok-tasks.ensures.each k e.0 e.1 in
    subst (λ (i : CpuId). g.I.CallLayer.ActsFor x.machine i) (e.2.same.cpu ∙ n.0.cpu_is) d.2.1

pub returns-clause-left : goal.returns-clause-left
returns-clause-left g c = λ k x n at there.
    let d = both_back _ c.into_done.result.items c.all_left.result.items c.all_left.ensures k x at in
    let e = both_back _ c.in_ok-tasks.tasks.items c.into_done.result.items
    (both_kept _ c.in_ok-tasks.tasks.items (ap (λ v. v.items) c.into_done.ensures) c.in_ok-done.ensures.ran) k d.0 d.1 in
    let new = c.in_ok-tasks.ensures.each k e.0 e.1 in
    calls_so g.N.Native.Kept c.args.caps.now (cpu_at k) n e.0.native d.0.native x.native e.0.caller.value d.0.caller.value _ _
    (let same : e.0.native ≡ n = cc (new.1, there) in same) d.2.2 new.0 e.2 d.2.0
