-- Calls of a scheduler: a pass from thread to thread, or an edit of a buffer's block by the thread
-- that runs. What each makes of the CPU's own threads, which call it is at the shared queues, where
-- it is allowed, and what one poll of it means.
use Rattle.std.specs.Prelude.{◌≡◌, List, [], ◌∷◌, ◌++◌, Option, Some, None, IsSome, option_map}
use Rattle.std.specs.Prelude.{is_some, MatchOption, if◌then◌else◌}
use Rattle.event_log.specs.declared.ids.{CpuId.CpuId, LockId.{LockId, TheVariants.Buffer}}
use Rattle.event_log.specs.History.{AreForeign, AreOthers, IsLawful}
use Rattle.layer_traits.specs.declared.passes.Pass.{Pass, TheVariants.{Switch, YieldNow, Drain}}
use Rattle.layer_traits.specs.declared.passes.Pass.TheVariants.{MakeReady, End}
use Rattle.layer_traits.specs.declared.queue_edits.{QueueEdit.QueueEdit, QueueAnswer.QueueAnswer}
use Rattle.layer_traits.specs.declared.queues.{QueueCall.QueueCall, QueueEvent.QueueEvent}
use Rattle.layer_traits.specs.declared.scheds.SchedAnswer.{SchedAnswer, TheVariants.{Done, Answer}}
use Rattle.layer_traits.specs.{declared.scheds.SchedCall.SchedCall, Threads.MoveRules.MoveRules}
use Rattle.layer_traits.specs.Threads.Passes.{MayPass, IsLocalPass, own_slept, own_woken}
use Rattle.layer_traits.specs.Threads.Passes.{pass_after, passed_on, queue_for, took_pending}
use Rattle.layer_traits.specs.{Threads.Places.{Threads, pending_by}, Polling.Plans.{Left, Plan}}
use Rattle.layer_traits.specs.{Polling.Plans.{Now, raised}, Protocols.Protocol.section}
use Rattle.layer_traits.specs.Layers.Queues.{Kernel, QueueAllowed, buffer_sections, event}
use Rattle.layer_traits.specs.Layers.Queues.{cpu_of_queue_event, moves_in, out_at, queue_plan}
use Rattle.layer_traits.specs.declared.queue_edits.QueueAnswer.TheVariants as abstract_answer
use Rattle.layer_traits.specs.declared.queues.QueueCall.TheVariants as queue
use Rattle.layer_traits.specs.declared.scheds.SchedCall.TheVariants as call

-- the call of a pass at the shared queues; a pass that touches nothing shared has none
abbrev pub pass_call : {E : Type 0} → List CpuId → CpuId → Pass → Option (QueueCall E)
pass_call homes c Switch = None
pass_call homes c YieldNow = Some (queue.TakeAll c)
pass_call homes c Drain = Some (queue.TakeAll c)
pass_call homes c (MakeReady t) = Some (queue.Push (queue_for homes c t) t)
pass_call homes c End = None

-- the call of a scheduler's call at the shared queues
abbrev pub queue_call : {E : Type 0} → List CpuId → CpuId → SchedCall E → Option (QueueCall E)
queue_call homes c (call.Pass p) = pass_call homes c p
queue_call homes c (call.OnBuffer b e) = Some (queue.OnBuffer b e)

-- the event of a call, if there is one
abbrev pub events_of : {E : Type 0} → CpuId → Option (QueueCall E) → List (QueueEvent E)
events_of c None = []
events_of c (Some q) = event c q ∷ []

-- the CPU's private state after an edit's result: the caller may have gone to sleep, and a sleeper
-- may have been woken
abbrev pub own_answered : {E O : Type 0} → MoveRules E O → List CpuId → CpuId → Option O → Threads
    → Threads
own_answered mv homes c None local = local
own_answered mv homes c (Some out) local =
    own_woken homes c (mv.woke out) (own_slept (mv.slept out) local)

-- the CPU's private state after a call that is done after these events
abbrev pub own_after : {E B O : Type 0} → Kernel E B O → CpuId → List (QueueEvent E) → SchedCall E
    → Threads → Threads
own_after k c past (call.Pass p) local = pass_after p (pending_by (moves_in k past) c) local
own_after k c past (call.OnBuffer b e) local =
    own_answered k.moves k.homes c (out_at k past b e) local

-- a call's result after these events
abbrev pub answer_to : {E B O : Type 0} → Kernel E B O → List (QueueEvent E) → SchedCall E
    → Option (SchedAnswer O)
answer_to k past (call.Pass p) = Some Done
answer_to k past (call.OnBuffer b e) = option_map Answer (out_at k past b e)

-- a call that touches nothing shared
abbrev pub IsLocal : {E : Type 0} → SchedCall E → Type 0
IsLocal (call.Pass p) = IsLocalPass p
IsLocal (call.OnBuffer b e) = ⊥

-- the buffer of a call exists
abbrev pub BufferIsThere : {E B : Type 0} → (LockId → Option B) → SchedCall E → Type 0
BufferIsThere opening (call.Pass p) = Unit {0}
BufferIsThere opening (call.OnBuffer b e) = IsSome (opening (Buffer b))

-- the CPU's private state allows this call: a pass is allowed, or the caller of the edit runs and
-- the hand is empty
abbrev pub StateFor : {E O : Type 0} → MoveRules E O → SchedCall E → Threads → Type 0
StateFor mv (call.Pass p) local = MayPass p local
StateFor mv (call.OnBuffer b e) local = (local.current ≡ Some (mv.caller e)) × (local.hand ≡ None)

-- the layer above allows an edit, and still does after whatever allowed calls of other CPUs precede
-- it
abbrev pub EditStays : {E B O : Type 0} → Kernel E B O → CpuId → List (QueueEvent E) → SchedCall E
    → Type 0
EditStays k c past (call.Pass p) = Unit {0}
EditStays k c past (call.OnBuffer b e) =
    (more : List (QueueEvent _)) → AreOthers cpu_of_queue_event c more
    → IsLawful (QueueAllowed k) (more ++ past)
    → k.protocol.allowed k.opening (buffer_sections (more ++ past)) (section c (Buffer b) e)

-- a call may be polled: at its first poll the CPU's own threads and the layer above allow it; after
-- that it is the pending one
abbrev pub MaySched : {E B O : Type 0} → Kernel E B O → CpuId → List (QueueEvent E) → Threads
    → Option (SchedCall E) → SchedCall E → Type 0
MaySched k c past local None s = StateFor k.moves s local × EditStays k c past s
MaySched k c past local (Some under_way) s = under_way ≡ s

-- a poll of a call: environment events are first, then the call's own exactly if the poll returns a
-- result. The CPU's own threads change with it and only then, the result is that at this point, and
-- a call that touches nothing shared returns at once
pub record SchedPolled {E B O : Type 0} (k : Kernel E B O) (ActsFor : CpuId → Type 0) (c : CpuId)
    (s : SchedCall E) (result : Option (SchedAnswer O))
    (old new : List (QueueEvent E)) (local local' : Threads) : Type 0 where
  pub others : List (QueueEvent E)
  pub foreign : AreForeign ActsFor cpu_of_queue_event others
  pub is : new ≡ (if is_some result then events_of c (queue_call k.homes c s) ++ (others ++ old)
      else others ++ old)
  pub after : local' ≡ (if is_some result then own_after k c (others ++ old) s local else local)
  pub answers : MatchOption result (Unit {0})
      (λ answer. answer_to k (others ++ old) s ≡ Some answer)
  pub at_once : IsLocal s → IsSome result

-- what a poll leaves: the CPU's own threads, and the result if there is one
abbrev pub sched_left : {A : Type 0} → Threads → Option A → Left Threads A
sched_left local answer = record { local = local; answer = answer }

-- what the result of the shared queues makes of a CPU's own threads
abbrev pub own_by : {E O : Type 0} → MoveRules E O → List CpuId → CpuId → QueueAnswer O → Threads
    → Threads
own_by mv homes c abstract_answer.Done local = passed_on local
own_by mv homes c (abstract_answer.Taken queue) local = took_pending queue local
own_by mv homes c (abstract_answer.Answer out) local = own_answered mv homes c (Some out) local

-- the scheduler's result, given that of the shared queues
abbrev pub answer_by : {O : Type 0} → QueueAnswer O → SchedAnswer O
answer_by abstract_answer.Done = Done
answer_by (abstract_answer.Taken queue) = Done
answer_by (abstract_answer.Answer out) = Answer out

-- what a poll leaves, given what it left at the shared queues
abbrev pub sched_left_by : {E O : Type 0} → MoveRules E O → List CpuId → CpuId → Threads
    → Option (QueueAnswer O) → Left Threads (SchedAnswer O)
sched_left_by mv homes c local None = sched_left local None
sched_left_by mv homes c local (Some answer) =
    sched_left (own_by mv homes c answer local) (Some (answer_by answer))

-- what the poll of a call that touches nothing shared leaves
abbrev pub left_local : {E O : Type 0} → SchedCall E → Threads → Left Threads (SchedAnswer O)
left_local (call.Pass p) local = sched_left (pass_after p [] local) (Some Done)
left_local (call.OnBuffer b e) local = sched_left local None

-- the plan of a call, given its call at the shared queues
abbrev pub plan_by : {E O : Type 0} → MoveRules E O → List CpuId → CpuId → SchedCall E → Threads
    → Option (QueueCall E)
    → Plan (QueueEdit E) (QueueAnswer O) Threads (SchedAnswer O)
plan_by mv homes c s local None = Now (left_local s local)
plan_by mv homes c s local (Some q) =
    raised (λ l. sched_left_by mv homes c local l.answer) (queue_plan q)

-- the plan of a scheduler's call
abbrev pub sched_plan : {E O : Type 0} → MoveRules E O → List CpuId → CpuId → SchedCall E → Threads
    → Plan (QueueEdit E) (QueueAnswer O) Threads (SchedAnswer O)
sched_plan mv homes c s local = plan_by mv homes c s local (queue_call homes c s)
