-- What one more poll of the lock by a waiting section adds to the actions. It is the same at every
-- height, since it names no edit, no result and no table.
use Rattle.std.specs.Prelude.{◌≡◌, List, ◌∷◌, ◌++◌, ◌==◌}
use Rattle.event_log.specs.{declared.ids.{CpuId.CpuId, LockId.LockId}, History.AreForeign}
use Rattle.event_log.specs.Actions.{Action, Try, Waits, cpu_of_action, gives, phase}
use Rattle.event_log.specs.Actions.{ticket_index_of}

-- environment actions are first, and then this CPU, which waits at a lock, tried to enter it
pub record Tries {N : Type 0} (ActsFor : CpuId → Type 0) (cpu : CpuId)
    (old new : List (Action N)) : Type 0 where
  pub others : List (Action N)
  pub foreign : AreForeign ActsFor cpu_of_action others
  pub past : List (Action N)
  pub joined : past ≡ others ++ old
  pub lock : LockId
  pub waits : phase cpu past ≡ Waits lock
  pub grows : new ≡ Try cpu lock (gives lock past == ticket_index_of cpu past) ∷ past
