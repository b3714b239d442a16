use Rattle.std.proofs.Common.{◌≡◌, ◌⊎◌, ◌-◌, ◌^◌, length, sum_by, take}
use Rattle.tracer.proofs.gathering.room_for.Given as goal

-- the sum so far, or the largest number where the sum is no less
abbrev pub invariant-loop-trace : goal.invariant-loop-trace
invariant-loop-trace l = (l.count ≡ sum_by (λ trace. length trace.now) (take l.trace-index l.traces)) ⊎ (l.count ≡ 2 ^ 64 - 1)
