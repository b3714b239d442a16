use Rattle.std.proofs.Common.{◌≡◌, ◌+◌, ◌*◌, ◌<◌, ◌≤◌, length}
use Rattle.{event_log.specs.{declared.ids.{CpuId.CpuId, TheConstants.CPUS}, Actions.{Rests, phase}}, mctower.specs.Count.{AreReady, after_round, sections_at}}
use Rattle.mctower.proofs.locks.rounds.round.Given as goal

-- the parts before the index have done their sections, and all rest
abbrev pub invariant-loop-i : goal.invariant-loop-i
invariant-loop-i g l = record {
  long : length l.parts ≡ length l.fn.parts;
  ready : AreReady g.L.Layer.cpu_of g.L.Layer.under_way g.L.Layer.Coupled l.parts l.machine;
  opening : g.L.Layer.opening l.machine ≡ g.L.Layer.opening l.fn.machine;
  room : g.L.Layer.room l.fn.machine ≤ g.L.Layer.room l.machine + 3 * l.i;
  owned : (c : CpuId) → c.0 < CPUS → g.L.Layer.ActsFor l.machine c;
  rests : (c : CpuId) → phase c (g.L.Layer.acts l.machine) ≡ Rests;
  counted : sections_at l.lock (g.L.Layer.history l.machine) ≡ sections_at l.lock (g.L.Layer.history l.fn.machine) + l.i;
  order : g.L.Layer.acts l.machine ≡ after_round l.lock l.i (g.L.Layer.acts l.fn.machine);
}
