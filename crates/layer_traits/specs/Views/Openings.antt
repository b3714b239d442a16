-- What a machine may open with, and what it is then.
use Rattle.std.specs.Prelude.{◌≡◌, ℕ, ◌<◌, ◌≤◌, All, List, [], length}
use Rattle.event_log.specs.declared.{entries.Entry.Entry, ids.{CpuId.CpuId, TheConstants.BUFFERS}}
use Rattle.event_log.specs.{declared.ids.TheConstants.{CPUS, THREADS}, Buffers.IsCapacity}
use Rattle.layer_traits.specs.Threads.Places.{Step}

-- so many CPUs, buffers of these capacities and threads of these homes make a machine. It has a
-- CPU, each home is one of its CPUs, and all are within the limits
pub record AreOpenable (cpus : ℕ) (caps : List ℕ) (homes : List CpuId) : Type 0 where
  pub some_cpus : 1 ≤ cpus
  pub most_cpus : cpus ≤ CPUS
  pub buffers : length caps ≤ BUFFERS
  pub capacities : All IsCapacity caps
  pub threads : length homes ≤ THREADS
  pub homes_exist : All (λ home. home.0 < cpus) homes

-- a machine is as it was opened: it has these buffers and homes, nothing was done in it, and it has
-- room for so many polls
pub record Opened (caps : List ℕ) (homes : List CpuId) (history : List Entry) (moves : List Step)
    (room : ℕ) (capacities : List ℕ)
    (threads_at : List CpuId) (polls : ℕ) : Type 0 where
  pub caps_are : caps ≡ capacities
  pub homes_are : homes ≡ threads_at
  pub none_seen : history ≡ []
  pub none_moved : moves ≡ []
  pub room_is : polls ≤ room
