use Rattle.std.proofs.Common.{◌≤◌, length, refl, ap, ◌∙◌, arith}
use Rattle.{fifo_buffer.proofs.Opening.{boots_well, caps_are}, layer_traits.{specs.Views.Renaming.viewed, proofs.KernelRenaming.{homes_viewed, viewed_there}}}
use Rattle.{event_log.specs.declared.ids.LockId.TheVariants.Pending, queuing_lock.specs.Nested.nested_lock_of, sleep_wakeup.specs.Nested.state_of}
use Rattle.ipc_calls.proofs.tower.part_over.Goals as goal

-- nothing was done in the machine, and its locks are the tower's
pub returns-clause-coupled : goal.returns-clause-coupled
returns-clause-coupled g c =
    let m = c.args.m.now in
    let opening = g.L.Layer.opening m in
    let most = c.requires.buffers in
    let few : length c.args.caps.now ≤ 256 = omega (arith, most) in
    let boots = boots_well (viewed nested_lock_of (viewed state_of opening)) c.args.caps.now c.requires.locks few in
    let caps = caps_are (viewed nested_lock_of (viewed state_of opening)) c.args.caps.now c.requires.locks few in
    let homes_are = homes_viewed nested_lock_of (viewed state_of opening) ∙ homes_viewed state_of opening ∙ c.requires.homes in
    c.part.ensures.coupled m (
      (
        ((c.requires.acts, c.requires.starts), boots),
        c.requires.outside,
        rw c.requires.fresh refl,
        rw c.requires.fresh refl,
        homes_are,
        viewed_there nested_lock_of (viewed state_of opening) (Pending c.args.cpu) (viewed_there state_of opening (Pending c.args.cpu) c.requires.queue),
        boots,
      ),
      homes_are,
    )
    (ap length caps)
