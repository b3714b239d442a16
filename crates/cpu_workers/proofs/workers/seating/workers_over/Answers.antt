use Rattle.std.proofs.Common.{◌≡◌, length, ap, ◌∙◌, arith}
use Rattle.cpu_workers.proofs.Filling.{numbered_one, numbered_room, some_left, taken_at, taken_one, is_below}
use Rattle.cpu_workers.proofs.workers.seating.workers_over.Goals as goal

pub remove-machine-requires : goal.remove-machine-requires
remove-machine-requires g c =
    some_left _ _ c.loop-number.invariant.machines_left (is_below c.loop-number-test.true c.len-count.ensures c.args.machines.ok.0) c.loop-number.machines.ok.0

pub worker_over-requires-clause-unused : goal.worker_over-requires-clause-unused
worker_over-requires-clause-unused g c =
    let below = is_below c.loop-number-test.true c.len-count.ensures c.args.machines.ok.0 in
    c.requires.unused c.loop-number.number _ (taken_at _ _ c.loop-number.invariant.machines_left below _ c.remove-machine.ensures.value)

pub worker_over-requires-clause-room : goal.worker_over-requires-clause-room
worker_over-requires-clause-room g c = λ m. let room = c.requires.room m in omega (arith, room)

pub push_reserved-requires : goal.push_reserved-requires
push_reserved-requires g c =
    numbered_room c.loop-number.invariant.workers (is_below c.loop-number-test.true c.len-count.ensures c.args.machines.ok.0) c.loop-number.workers.ok.0

pub loop-number-preserved : goal.loop-number-preserved
loop-number-preserved g c =
    let inv = c.loop-number.invariant in
    let machines = c.args.machines.items in
    let n = c.loop-number.number in
    let e = c.in-Ok.ensures in
    let below = is_below c.loop-number-test.true c.len-count.ensures c.args.machines.ok.0 in
    let here = taken_at machines n inv.machines_left below c.remove-machine.result c.remove-machine.ensures.value in
    record {
      machines_left = taken_one machines n inv.machines_left below c.remove-machine.ensures.items;
      workers = numbered_one inv.workers c.push_reserved.ensures.items c.push_reserved.ensures.capacity
          (rw c.stretch_to.ensures (
            e.at_boot,
            λ m there.
                let same : c.remove-machine.result ≡ m = cc (here, there) in e.machine_id ∙ ap (λ x. g.I.CallLayer.machine_id x) same,
          ));
    }

pub returns-clause-count : goal.returns-clause-count
returns-clause-count g c =
    let all : c.loop-number.number ≡ length c.args.machines.items =
    omega (arith, c.loop-number-test.false, c.loop-number.auto.number-end, c.len-count.ensures, c.args.machines.ok.0) in
    c.loop-number.invariant.workers.count ∙ all

pub returns-clause-each : goal.returns-clause-each
returns-clause-each g c = c.loop-number.invariant.workers.each
