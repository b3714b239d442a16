-- When a CPU of a system is quiescent, when a system is quiet (quiescent), and that no trace is
-- longer than its room.
use Rattle.std.specs.Prelude.{◌≡◌, ℕ, ◌<◌, ◌≤◌, Bool, true, false, not, ◌&&◌, List, [], ◌∷◌, length}
use Rattle.std.specs.Prelude.{Option, Some, None, is_some, slice_get}
use Rattle.event_log.specs.declared.ids.{CpuId.CpuId, Tid.Tid}
use Rattle.layer_traits.specs.declared.steps.Reason.{Reason, TheVariants.{AllEnded, TraceFull}}
use Rattle.layer_traits.specs.{declared.steps.Reason.TheVariants.StepsUsed, Threads.Places.Threads}
use Rattle.{layer_traits.specs.Threads.Places.pending_by, cpu.specs.Claims.{CpuView, SystemView}}
use Rattle.cpu.specs.Systems.{own_reason}

-- whether a list is empty
abbrev pub is_nobody : List Tid → Bool
is_nobody [] = true
is_nobody (t ∷ rest) = false

-- whether a CPU has no section under way, no running or ready thread, and an empty hand
abbrev pub rests : Bool → Threads → Bool
rests busy local =
    not busy && (not (is_some local.current) && (not (is_some local.hand) && is_nobody local.ready))

-- A halted CPU is quiescent if each of its threads has ended; one whose trace is full has a thread
-- that would call. Any other CPU is quiescent if it rests.
abbrev pub quiescent_by : Option Reason → Bool → Threads → Bool
quiescent_by (Some AllEnded) busy local = true
quiescent_by (Some TraceFull) busy local = false
quiescent_by (Some StepsUsed) busy local = false
quiescent_by None busy local = rests busy local

abbrev pub is_quiescent : Option CpuView → Bool
is_quiescent None = false
is_quiescent (Some p) = quiescent_by (own_reason p) p.busy p.local

-- whether CPU c is quiescent
abbrev pub quiescent_in : CpuId → SystemView → Bool
quiescent_in c s = is_quiescent (slice_get s.cpus c.0)

-- all pending queues of the CPUs are empty
abbrev pub AllQueuesEmpty : SystemView → Type 0
AllQueuesEmpty s = (c : CpuId) → c.0 < length s.cpus → pending_by s.moves c ≡ []

-- a system is quiet: each CPU is quiescent, and all pending queues are empty
pub record IsQuiet (s : SystemView) : Type 0 where
  pub quiescent : (c : CpuId) → c.0 < length s.cpus → quiescent_in c s ≡ true
  pub pending : AllQueuesEmpty s

-- no CPU's trace has more entries than its room
abbrev pub TracesFit : SystemView → Type 0
TracesFit s = (c : ℕ) (p : CpuView) → slice_get s.cpus c ≡ Some p → length p.trace ≤ p.limit
