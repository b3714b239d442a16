use Rattle.std.proofs.Common.{◌≤◌, length, refl, ap, ◌∙◌, arith}
use Rattle.{layer_traits.{specs.Views.Renaming.viewed, proofs.KernelRenaming.{homes_viewed, viewed_there}}, fifo_buffer.specs.MonitorParts.monitor_shown}
use Rattle.{event_log.specs.declared.ids.LockId.TheVariants.Pending, sleep_wakeup.specs.Nested.state_of, ipc_calls.proofs.Towers.{monitor_caps, opens_fresh}}
use Rattle.ipc_calls.proofs.monitor_tower.monitor_part_over.Goals as goal

-- nothing was done in the machine, and its locks are the tower's
pub returns-clause-coupled : goal.returns-clause-coupled
returns-clause-coupled g c =
    let m = c.args.m.now in
    let opening = g.L.Layer.opening m in
    let caps = c.args.caps.now in
    let most = c.requires.buffers in
    let few : length caps ≤ 256 = omega (arith, most) in
    let fresh = opens_fresh (viewed state_of opening) caps c.requires.locks few in
    let homes_are = homes_viewed monitor_shown (viewed state_of opening) ∙ homes_viewed state_of opening ∙ c.requires.homes in
    c.part.ensures.coupled m (
      (
        ((c.requires.acts, c.requires.starts), fresh),
        c.requires.outside,
        rw c.requires.fresh refl,
        rw c.requires.fresh refl,
        homes_are,
        viewed_there state_of opening (Pending c.args.cpu) c.requires.queue,
      ),
      homes_are,
    )
    (ap length (monitor_caps (viewed state_of opening) caps c.requires.locks few))
