-- A CPU's part of a scheduler: which scheduler's call is pending, in terms of the call at the
-- shared queues, and how the part agrees with the machine.
use Rattle.std.specs.Prelude.{◌≡◌, List, Option, Some, None, IsSome}
use Rattle.event_log.specs.declared.ids.{CpuId.CpuId, LockId.{LockId, TheVariants.Pending}, Tid.Tid}
use Rattle.layer_traits.specs.declared.passes.Pass.TheVariants.{YieldNow, Drain, MakeReady}
use Rattle.layer_traits.specs.declared.queue_edits.QueueBlock.{QueueBlock}
use Rattle.layer_traits.specs.declared.queues.QueueCall.{QueueCall, TheVariants.{Push, TakeAll}}
use Rattle.layer_traits.specs.declared.queues.QueueCall.TheVariants.{OnBuffer}
use Rattle.layer_traits.specs.declared.{queues.QueueEvent.QueueEvent, scheds.SchedCall.SchedCall}
use Rattle.layer_traits.specs.Threads.{MoveRules.MoveRules, Places.{Threads, Stands}}
use Rattle.layer_traits.specs.{Protocols.Protocol.Rules, Blocks.QueueBlocks.homes_in}
use Rattle.layer_traits.specs.Layers.{Queues.{kernel, moves_in}, Scheds.{StateFor, queue_call}}
use Rattle.layer_traits.specs.declared.scheds.SchedCall.TheVariants as call

-- the scheduler's call that is this call at the shared queues: a taking is a yield if a thread
-- runs, otherwise a drain
abbrev pub sched_call : {E : Type 0} → QueueCall E → Option Tid → SchedCall E
sched_call (Push d t) current = call.Pass (MakeReady t)
sched_call (TakeAll d) None = call.Pass Drain
sched_call (TakeAll d) (Some t) = call.Pass YieldNow
sched_call (OnBuffer b e) current = call.OnBuffer b e

-- the scheduler's call that is pending, in terms of the call at the shared queues
abbrev pub sched_under : {E : Type 0} → Option (QueueEvent E) → Option Tid → Option (SchedCall E)
sched_under None current = None
sched_under (Some e) current = Some (sched_call e.call current)

-- the call pending at the shared queues is this CPU's, is the one of its scheduler's call, and the
-- CPU's private state allows it
pub record IsCalling {E O : Type 0} (mv : MoveRules E O) (homes : List CpuId) (c : CpuId)
    (e : QueueEvent E) (local : Threads) : Type 0 where
  pub cpu : e.cpu ≡ c
  pub step : queue_call homes c (sched_call e.call local.current) ≡ Some e.call
  pub state : StateFor mv (sched_call e.call local.current) local

-- the same of a call that may be pending
abbrev pub UnderFits : {E O : Type 0} → MoveRules E O → List CpuId → CpuId → Option (QueueEvent E)
    → Threads → Type 0
UnderFits mv homes c None local = Unit {0}
UnderFits mv homes c (Some e) local = IsCalling mv homes c e local

-- coupling invariant of a part of this CPU and its machine. The lower part is of the same CPU, the
-- homes are the machine's, and the CPU has a pending queue. Its private state agrees with the
-- places, and the lower layer's pending call with that state
pub record SchedPartFits {E B O : Type 0} (protocol : Rules E B O) (mv : MoveRules E O)
    (opening : LockId → Option (QueueBlock B)) (c below : CpuId)
    (table : List CpuId)
    (under : Option (QueueEvent E)) (past : List (QueueEvent E)) (local : Threads) : Type 0 where
  pub cpu : below ≡ c
  pub homes : homes_in opening ≡ table
  pub queue : IsSome (opening (Pending c))
  pub stands : Stands (homes_in opening) c (moves_in (kernel protocol mv opening) past) local
  pub calls : UnderFits mv (homes_in opening) c under local
