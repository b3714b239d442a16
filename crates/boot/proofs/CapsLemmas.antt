-- Capacities: what has been read after some integers.
use Rattle.std.proofs.Common.{◌≡◌, ℕ, ℤ, List, length, All}
use Rattle.event_log.specs.{declared.ids.TheConstants.CAPACITY, Buffers.IsCapacity, Reading.all_as}
use Rattle.{event_log.proofs.ReadingLemmas.{with_front, left_as}, boot.specs.Plan.number_within}

-- the first `i` integers are capacities, in front
pub record CapsSoFar (integers : List ℤ) (i : ℕ) (front : List ℕ) : Type 0 where
  pub seen : with_front front (left_as (λ z. z) (number_within 1 CAPACITY) integers i) ≡ all_as (number_within 1 CAPACITY) integers
  pub len : length front ≡ i
  pub each : All IsCapacity front
