-- Message calls are linearizable (Herlihy and Wing 1990), with respect to the steps of a schedule.
-- Each call takes effect in one step (its linearization point), at which it has begun and has not
-- returned, and the one order is that of these steps.
use Rattle.std.specs.Prelude.{◌≡◌, ◌≢◌, ℕ, ◌<◌, ◌≤◌, List, [], ◌∷◌, ◌++◌, Contains, Some, length}
use Rattle.std.specs.{Prelude.slice_get, List.AllByRecursion}
use Rattle.event_log.specs.declared.{entries.Entry.Entry, ids.CpuId.CpuId}
use Rattle.cpu.specs.{Claims.{CpuView, IsRunState, SystemView}, Cpus.GuestsWent}

-- in a step of CPU c the order grows: after all calls that took effect before, at most one is
-- appended, and it is c's
pub record OrderGrows (c : CpuId) (old new : List Entry) : Type 0 where
  pub more : List Entry
  pub is : new ≡ old ++ more
  pub few : length more ≤ 1
  pub local : AllByRecursion (λ e. e.cpu ≡ c) more

-- What a step of CPU c does to a system's calls: the order grows. Only this CPU's guests and trace
-- change, so that only its calls begin, take effect or return.
pub record CallsGoOn (c : CpuId) (old new : SystemView) : Type 0 where
  pub order : OrderGrows c old.order new.order
  pub local : (p q : CpuView) → slice_get old.cpus c.0 ≡ Some p → slice_get new.cpus c.0 ≡ Some q
      → GuestsWent c p.guests p.trace q.guests q.trace
  pub others : (k : ℕ) → k ≢ c.0 → slice_get new.cpus k ≡ slice_get old.cpus k

-- The run of these steps from old to new, moment by moment: a step is not taken, or the order grows
-- by it. At each moment each call that has returned is in the order, and of each thread at most one
-- more, which the thread is inside.
pub data IsLinearizable (old : SystemView) : List CpuId → SystemView → Type 0 where
  begins : IsLinearizable old [] old
  takes_none : {steps : List CpuId} {s : SystemView} (c : CpuId) → IsLinearizable old steps s
      → IsLinearizable old (steps ++ c ∷ []) s
  takes_step : {steps : List CpuId} {s : SystemView} (c : CpuId) (r : SystemView)
      → IsLinearizable old steps s
      → CallsGoOn c s r → IsRunState r
      → IsLinearizable old (steps ++ c ∷ []) r

-- call a precedes call b
abbrev pub ComesBefore : List Entry → Entry → Entry → Type 0
ComesBefore order a b =
    (i : ℕ) × (j : ℕ) × (i < j) × (slice_get order i ≡ Some a) × (slice_get order j ≡ Some b)

-- The order at a later moment extends the order at the first: real-time order is preserved. At the
-- first moment, each call that had returned had taken effect, and none had that had not begun. Each
-- call that had taken effect precedes each that had not.
pub record KeepsRealTime (first later : SystemView) : Type 0 where
  pub at_first : IsRunState first
  pub at_later : IsRunState later
  pub more : List Entry
  pub goes_on : later.order ≡ first.order ++ more
  pub before : (a b : Entry) → Contains first.order a → Contains more b
      → ComesBefore later.order a b

-- this holds of any two moments of a run
abbrev pub LinearRunsKeepRealTime : Type 0
LinearRunsKeepRealTime =
    (first later : SystemView) (steps : List CpuId) → IsRunState first
    → IsLinearizable first steps later
    → KeepsRealTime first later
