use Rattle.std.proofs.Common.{◌≡◌, ◌+◌, None}
use Rattle.cpu_workers.specs.{declared.counting.TheConstants.NUMBER, Counts.made}
use Rattle.cpu_workers.proofs.counting.sections.work_at.Given as goal

abbrev pub invariant-loop : goal.invariant-loop
invariant-loop g l = record {
  coupled : g.L.Layer.Coupled l.part l.seat;
  cpu : g.L.Layer.cpu_of l.part ≡ l.fn.cpu;
  rests : g.L.Layer.under_way l.part ≡ None;
  acts : g.L.Layer.ActsFor l.seat l.fn.cpu;
  outside : g.L.Layer.IsOutside l.seat l.fn.cpu;
  opening : g.L.Layer.opening l.seat ≡ g.L.Layer.opening l.fn.seat;
  machine_id : g.L.Layer.machine_id l.seat ≡ g.L.Layer.machine_id l.fn.seat;
  made : made l.fn.cpu NUMBER (g.L.Layer.history l.seat) ≡ made l.fn.cpu NUMBER (g.L.Layer.history l.fn.seat) + l.counter;
}
