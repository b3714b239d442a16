use Rattle.std.proofs.Common.{◌≡◌, ◌+◌, ◌*◌, ◌<◌, ◌≤◌, length}
use Rattle.{event_log.specs.{declared.ids.{CpuId.CpuId, TheConstants.CPUS}, Actions.{Rests, phase}}, mctower.specs.Count.{AreReady, after_rounds, sections_at}}
use Rattle.mctower.proofs.locks.rounds.rounds.Given as goal

-- as many rounds are done as turns of the loop, and all parts rest
abbrev pub invariant-loop : goal.invariant-loop
invariant-loop g l = record {
  long : length l.parts ≡ length l.fn.parts;
  ready : AreReady g.L.Layer.cpu_of g.L.Layer.under_way g.L.Layer.Coupled l.parts l.machine;
  opening : g.L.Layer.opening l.machine ≡ g.L.Layer.opening l.fn.machine;
  room : g.L.Layer.room l.fn.machine ≤ g.L.Layer.room l.machine + 3 * (l.counter * length l.fn.parts);
  owned : (c : CpuId) → c.0 < CPUS → g.L.Layer.ActsFor l.machine c;
  rests : (c : CpuId) → phase c (g.L.Layer.acts l.machine) ≡ Rests;
  counted : sections_at l.lock (g.L.Layer.history l.machine) ≡ sections_at l.lock (g.L.Layer.history l.fn.machine) + l.counter * length l.fn.parts;
  order : g.L.Layer.acts l.machine ≡ after_rounds l.lock (length l.fn.parts) l.counter (g.L.Layer.acts l.fn.machine);
}
