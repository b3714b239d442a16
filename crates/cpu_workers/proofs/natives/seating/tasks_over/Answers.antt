use Rattle.std.{proofs.Common.{◌≡◌, Some, length, ap, sym, ◌∙◌, subst, arith}, specs.Prelude.slice_get}
use Rattle.{layer_traits.specs.Threads.OnePlace.cpu_at, cpu_workers.specs.{Callers.CallerView, Natives.IsNewCaller}}
use Rattle.cpu_workers.proofs.Filling.{numbered_one, numbered_room, some_left, taken_at, taken_one, is_below}
use Rattle.cpu_workers.proofs.natives.seating.tasks_over.Goals as goal

pub remove-machine-requires : goal.remove-machine-requires
remove-machine-requires g c =
    some_left _ _ c.loop-number.invariant.machines_left (is_below c.loop-number-test.true c.len-count.ensures c.args.machines.ok.0) c.loop-number.machines.ok.0

pub remove-native-requires : goal.remove-native-requires
remove-native-requires g c =
    some_left _ _ c.loop-number.invariant.natives_left (is_below c.loop-number-test.true c.len-count.ensures (c.args.machines.ok.0 ∙ sym c.requires.count))
    c.loop-number.natives.ok.0

pub new-caller-requires : goal.new-caller-requires
new-caller-requires g c =
    let below = is_below c.loop-number-test.true c.len-count.ensures c.args.machines.ok.0 in
    let unused = c.requires.unused c.loop-number.number _ (taken_at _ _ c.loop-number.invariant.machines_left below _ c.remove-machine.ensures.value) in
    record {
      threads = c.requires.threads;
      fresh = unused.fresh;
      buffers = ap (λ l. length l) unused.caps;
      history = unused.unseen;
      room = c.requires.room;
      opens = unused.opens;
    }

pub push_reserved-requires : goal.push_reserved-requires
push_reserved-requires g c =
    numbered_room c.loop-number.invariant.tasks (is_below c.loop-number-test.true c.len-count.ensures c.args.machines.ok.0) c.loop-number.tasks.ok.0

pub loop-number-preserved : goal.loop-number-preserved
loop-number-preserved g c =
    let inv = c.loop-number.invariant in
    let machines = c.args.machines.items in
    let natives = c.args.natives.items in
    let n = c.loop-number.number in
    let e = c.new-caller.ensures in
    let below = is_below c.loop-number-test.true c.len-count.ensures c.args.machines.ok.0 in
    let below_too = is_below c.loop-number-test.true c.len-count.ensures (c.args.machines.ok.0 ∙ sym c.requires.count) in
    let here = taken_at machines n inv.machines_left below c.remove-machine.result c.remove-machine.ensures.value in
    let there = taken_at natives n inv.natives_left below_too c.remove-native.result c.remove-native.ensures.value in
    let caps = (c.requires.unused n c.remove-machine.result here).caps in
    let fresh : IsNewCaller c.args.caps.now (cpu_at n) c.new-caller.result × ((m : g.row.I-Machine.Denot) → slice_get machines n ≡ Some m
    → c.new-caller.result.machine_id ≡ g.I.CallLayer.machine_id m) = (
      record { cpu_is = e.cpu; thread_is = ap (λ t. t.0) e.thread; caps_are = e.caps ∙ caps; fresh = e.calls },
      λ m at. let same : c.remove-machine.result ≡ m = cc (here, at) in e.machine_id ∙ ap (λ x. g.I.CallLayer.machine_id x) same,
    ) in
    let boxed = subst (λ (v : CallerView). IsNewCaller c.args.caps.now (cpu_at n) v × ((m : g.row.I-Machine.Denot) → slice_get machines n ≡ Some m
    → v.machine_id ≡ g.I.CallLayer.machine_id m)) (sym c.in_ok-caller.ensures.ok) fresh in
    record {
      machines_left = taken_one machines n inv.machines_left below c.remove-machine.ensures.items;
      natives_left = taken_one natives n inv.natives_left below_too c.remove-native.ensures.items;
      tasks = numbered_one inv.tasks c.push_reserved.ensures.items c.push_reserved.ensures.capacity (boxed.0, there, boxed.1);
    }

pub returns-clause-count : goal.returns-clause-count
returns-clause-count g c =
    let all : c.loop-number.number ≡ length c.args.machines.items =
    let test = c.loop-number-test.false in let last = c.loop-number.auto.number-end in let count = c.len-count.ensures in let ok = c.args.machines.ok.0 in
    omega (arith, test, last, count, ok) in
    c.loop-number.invariant.tasks.count ∙ all

pub returns-clause-each : goal.returns-clause-each
returns-clause-each g c = c.loop-number.invariant.tasks.each
