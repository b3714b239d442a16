use Rattle.std.{proofs.{lemmas.Option.slice_get_within, Crossing.crosses, Common.{◌≡◌, ℕ, Some, refl, ap, arith}}, specs.Prelude.slice_get}
use Rattle.{cpu.specs.Boots.homes_for, layer_traits.specs.{Threads.OnePlace.cpu_at, Blocks.QueueBlocks.StartsWell}, fifo_buffer.specs.FifoFits.BootsSo}
use Rattle.cpu_workers.{specs.Seating.tower_acts, proofs.{Crossing.{fifo_send, tower_sleeper_send}, NativeLists.ok_so, TowerOpening.opens_tower}}
use Rattle.cpu_workers.proofs.TowerOpening.{seen_from_top}
use denote.Param.Send.{sendable}
use Rattle.ipc_calls.proofs.ipc.Ipc.TheSendSync as ipc
use Rattle.condvar.proofs.cond.Cond.TheSendSync as cond
use Rattle.queuing_lock.proofs.qlock.QLock.TheSendSync as qlock
use Rattle.scheduler.proofs.sched.Sched.TheSendSync as sched
use Rattle.shared_queue.proofs.shared.SharedQueues.TheSendSync as shared
use Rattle.cpu_workers.proofs.workers.seating.run_over.Goals as goal

-- nothing was done in the machine, and the tower over it opens as its locks do
pub run_each-requires-clause-unused : goal.run_each-requires-clause-unused
run_each-requires-clause-unused g c = λ κs within k m at.
    let ready = c.requires.ready k m at in
    let opens = ready.opens in
    let caps = c.args.boot.now.caps in
    let short = slice_get_within c.args.machines.items k m at in
    let count = c.requires.count in
    let tower = opens_tower caps (homes_for c.args.boot.now) (cpu_at k) (g.L.Layer.opening m) c.requires.plan.caps.most opens.homes
    (opens.queues (cpu_at k) (omega (arith, short, count))) opens.locks in
    record {
      fresh = (
        (((ready.acts, opens.starts), tower.boots), ready.rests, rw ready.unseen refl, rw ready.unseen refl, tower.homes_are, tower.queue, tower.boots),
        tower.homes_are,
      );
      homes = tower.homes_are;
      caps = tower.caps_are;
      unseen = rw ready.unseen refl;
      idle = ap tower_acts ready.idle;
      opens = tower.boots;
    }

pub returns-clause-owns : goal.returns-clause-owns
returns-clause-owns g c =
    let L = g.L.Layer in
    ok_so (λ left. (k : ℕ) (x : _) → slice_get left.items k ≡ Some x
    → (L.ActsFor x.machine (cpu_at k) × StartsWell (L.opening x.machine)) × BootsSo (seen_from_top (L.opening x.machine)))
    (λ left. (k : ℕ) (x : _) → slice_get left.items k ≡ Some x → L.ActsFor x.machine (cpu_at k))
    c.run_each.result (λ left owns k x at. (owns k x at).0.0) c.run_each.ensures.owns

pub run_each-requires-send-I : goal.run_each-requires-send-I
run_each-requires-send-I g c κs within = search (
  sendable,
  crosses,
  ipc.the_send,
  fifo_send,
  cond.the_send,
  qlock.the_send,
  tower_sleeper_send,
  sched.the_send,
  shared.the_send,
) depth 24
