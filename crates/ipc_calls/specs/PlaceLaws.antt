-- The threads of a machine, as its parts observe them.
use Rattle.std.specs.Prelude.{◌≡◌, ℕ, ◌<◌, List, Option, Some}
use Rattle.event_log.specs.declared.ids.{BufId.BufId, CpuId.CpuId, Tid.Tid}
use Rattle.layer_traits.specs.{declared.moves.WaitList.WaitList, Layers.IpcLaw.WaitListsAgree}
use Rattle.layer_traits.specs.Threads.Places.{AreMoves, Stands, Step, Threads, home_of, pending_by}
use Rattle.layer_traits.specs.Views.Observed.{IsObservedAs}

-- The threads of a machine as its parts observe them: how they moved, in which wait lists they
-- sleep, and the scheduling state of each part's CPU. What the machine and each part report of
-- pending queues and of wait lists is the truth.
pub record Watched (P : Type 0) : Type 1 where
  pub Coupled : P → Type 0
  pub cpu_of : P → CpuId
  pub IsInside : CpuId → Type 0
  pub homes : List CpuId
  pub moves : List Step
  pub n : ℕ
  pub wait_lists : BufId → WaitList → List Tid
  pub local : P → Threads
  pub queue_at : CpuId → Option (List Tid)
  pub queue_with : P → CpuId → Option (List Tid)
  pub wait_lists_at : BufId → Option (WaitList → List Tid)
  pub wait_lists_with : P → BufId → Option (WaitList → List Tid)
  pub lawful : AreMoves homes moves
  pub agree : WaitListsAgree n homes moves wait_lists
  pub stands : (q : P) → Coupled q → Stands homes (cpu_of q) moves (local q)
  pub queues : (t : Tid) (d : CpuId) → home_of homes t ≡ Some d
      → IsObservedAs Coupled cpu_of IsInside (λ q. queue_with q d) (queue_at d) (pending_by moves d)
  pub waiters_law : (b : BufId) → b.0 < n
      → IsObservedAs Coupled cpu_of IsInside (λ q. wait_lists_with q b) (wait_lists_at b)
      (wait_lists b)
