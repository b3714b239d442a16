use Rattle.std.proofs.Common.{◌≢◌, ◌<◌, ℕ}
use Rattle.{event_log.specs.declared.ids.CpuId.CpuId, layer_traits.specs.Threads.Places.{IsPending, where_is}}
use Rattle.cpu.proofs.systems.System.nobody_pends.Given as goal

abbrev pub invariant-loop-number : goal.invariant-loop-number
invariant-loop-number g l = (k : ℕ) → k < l.number → (d : CpuId) → where_is l.self.homes l.self.moves (record { 0 = k }) ≢ IsPending d
