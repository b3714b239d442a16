-- Threads are linearizable (Herlihy and Wing 1990) in the order of their atomic steps. Each call
-- takes effect in one of these steps, its linearization point: between its first step and the one
-- in which it returns. The one order of calls is that of these steps.
use Rattle.std.specs.Prelude.{◌≡◌, ◌<◌, List, ◌++◌, Contains, reverse, Option, Some, None}
use Rattle.std.specs.Prelude.{if◌then◌else◌}
use Rattle.event_log.specs.declared.{entries.Entry.Entry, ids.{CpuId.CpuId, Tid.Tid}}
use Rattle.{event_log.specs.Actions.Action, guest.specs.{Calls.IsProgramsCalls, State.State}}
use Rattle.cpu.specs.{Cpus.of_thread, Linear.ComesBefore, Wakeups.Lost.IsWorked}
use Rattle.cpu.specs.{Tower.{Composed.named, Views.TowerName}, Table.Choice.guest_after}
use Rattle.cpu.specs.Table.Setups.{Call, CpuLocal, SystemConfig, has_none, program_of, stands_at}
use Rattle.{cpu.specs.Table.Setups.thread_at, cpu_workers.specs.Laws.OrderGoesOn}
use Rattle.cpu_workers.specs.Orders.{IsTraceOf, effects_of}

-- the state up to which a thread's calls have taken effect: its present state, or that in which its
-- call under way will leave it
abbrev pub come_to : SystemConfig → CpuLocal → Tid → Option Call → State
come_to setup p t None = (thread_at p t).guest
come_to setup p t (Some call) =
    if has_none call.effect then (thread_at p t).guest
    else guest_after call.asks call.closed (stands_at setup p t) call.message (thread_at p t).guest

-- A prefix of a list of atomic steps is a moment of threads. Each CPU has reached it by the step
-- table. Its trace is the CPU's entries in the order of the calls at this prefix. Each thread's
-- entries are its program's calls up to its state. Therefore each call that has returned is in that
-- order, and of each thread at most one more, which the thread is inside. Further actions extend
-- the order, and what is in it at this prefix is before what is not.
pub record IsActionPrefix (setup : SystemConfig) (later earlier : List (Action TowerName)) : Type
    0 where
  pub worked : IsWorked setup (named earlier)
  pub keeps : (c : CpuId) → (below : c.0 < setup.cpus)
      → IsTraceOf c setup.caps earlier (worked.ran c below).last.trace
  pub follow : (c : CpuId) → (below : c.0 < setup.cpus) → (t : Tid)
      → IsProgramsCalls (program_of setup t)
      (reverse (of_thread t.0 (worked.ran c below).last.trace))
      (come_to setup (worked.ran c below).last t (thread_at (worked.ran c below).last t).call)
  pub goes_on : OrderGoesOn setup.caps later earlier
  pub before : (a b : Entry) → Contains (reverse (effects_of setup.caps earlier)) a
      → Contains goes_on.more b
      → ComesBefore (reverse (effects_of setup.caps (later ++ earlier))) a b

-- each prefix of the list is so
abbrev pub AreLinearizable : SystemConfig → List (Action TowerName) → Type 0
AreLinearizable setup acts =
    (later earlier : List (Action TowerName)) → acts ≡ later ++ earlier
    → IsActionPrefix setup later earlier
