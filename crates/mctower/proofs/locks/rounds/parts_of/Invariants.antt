use Rattle.std.proofs.Common.{◌≡◌, ◌<◌, length}
use Rattle.{event_log.specs.declared.ids.CpuId.CpuId, mctower.specs.Count.AreReady}
use Rattle.mctower.proofs.locks.rounds.parts_of.Given as goal

-- there is a part for each CPU before this number
abbrev pub invariant-loop-number : goal.invariant-loop-number
invariant-loop-number g l = record {
  long : length l.parts.items ≡ l.number;
  ready : (m : _) → ((c : CpuId) → c.0 < l.cpus → g.L.Layer.ActsFor m c) → ((c : CpuId) → c.0 < l.cpus → g.L.Layer.IsOutside m c)
      → AreReady g.L.Layer.cpu_of g.L.Layer.under_way g.L.Layer.Coupled l.parts.items m;
}
