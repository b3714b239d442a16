-- Calls at shared queues as one list of events, newest first: pushes, takings, and edits of the
-- blocks above. Which moves they make, which may follow which, each call's result, and what one
-- poll of a call means.
use Rattle.std.specs.Prelude.{◌≡◌, ◌<◌, List, [], ◌∷◌, ◌++◌, Option, Some, None, option_map}
use Rattle.std.specs.Prelude.{is_some, MatchOption, if◌then◌else◌}
use Rattle.event_log.specs.declared.ids.{BufId.BufId, CpuId.CpuId, LockId.LockId}
use Rattle.event_log.specs.declared.ids.{LockId.TheVariants.{Pending, Buffer}, TheConstants.CPUS}
use Rattle.event_log.specs.{History.{AreForeign, AreOthers, IsLawful}, Sections.Section}
use Rattle.event_log.specs.Sections.{block_after}
use Rattle.layer_traits.specs.declared.queue_edits.{QueueBlock.QueueBlock, QueueEdit.QueueEdit}
use Rattle.layer_traits.specs.declared.queue_edits.QueueAnswer.{QueueAnswer, TheVariants.Done}
use Rattle.layer_traits.specs.declared.queue_edits.QueueAnswer.TheVariants.{Taken, Answer}
use Rattle.layer_traits.specs.declared.queues.QueueCall.{QueueCall, TheVariants.{Push, TakeAll}}
use Rattle.layer_traits.specs.declared.queues.QueueCall.TheVariants.{OnBuffer}
use Rattle.layer_traits.specs.{declared.queues.QueueEvent.QueueEvent, Threads.MoveRules.MoveRules}
use Rattle.layer_traits.specs.Threads.{MoveRules.edit_move, Places.{Move, Pushed, Took, Step}}
use Rattle.layer_traits.specs.Threads.Places.{step_with, MayEditFor, MayPush, pending_by}
use Rattle.layer_traits.specs.{Polling.Plans.{Plan, section_plan}, Protocols.Protocol.Rules}
use Rattle.layer_traits.specs.{Protocols.Protocol.section, Blocks.QueueBlocks.{inner, homes_in}}
use Rattle.layer_traits.specs.declared.queue_edits.QueueEdit.TheVariants as edit

-- the layer above shared queues: what its edits mean and what they do to places, its opening
-- blocks, and the homes of all threads
pub record Kernel (E B O : Type 0) : Type 1 where
  pub protocol : Rules E B O
  pub moves : MoveRules E O
  pub opening : LockId → Option B
  pub homes : List CpuId

-- the layer above with this opening
abbrev pub kernel : {E B O : Type 0} → Rules E B O → MoveRules E O
    → (LockId → Option (QueueBlock B)) → Kernel E B O
kernel protocol moves opening =
    record { protocol = protocol; moves = moves; opening = inner opening; homes = homes_in opening }

-- this call of this CPU
abbrev pub event : {E : Type 0} → CpuId → QueueCall E → QueueEvent E
event cpu call = record { cpu = cpu; call = call }

-- the CPU whose call it is
abbrev pub cpu_of_queue_event : {E : Type 0} → QueueEvent E → CpuId
cpu_of_queue_event e = e.cpu

-- the sections above with that of this call, if it is one
abbrev pub with_section : {E : Type 0} → CpuId → QueueCall E → List (Section E) → List (Section E)
with_section c (Push d t) past = past
with_section c (TakeAll d) past = past
with_section c (OnBuffer b e) past = section c (Buffer b) e ∷ past

-- the sections above among these events
abbrev pub buffer_sections : {E : Type 0} → List (QueueEvent E) → List (Section E)
buffer_sections [] = []
buffer_sections (e ∷ past) = with_section e.cpu e.call (buffer_sections past)

-- the result of this edit of this buffer's block after these events
abbrev pub out_at : {E B O : Type 0} → Kernel E B O → List (QueueEvent E) → BufId → E → Option O
out_at k past b e =
    option_map (k.protocol.answer e)
    (block_after k.protocol.edited k.opening (Buffer b) (buffer_sections past))

-- the move of a call after these events
abbrev pub call_move : {E B O : Type 0} → Kernel E B O → List (QueueEvent E) → QueueCall E → Move
call_move k past (Push d t) = Pushed d t
call_move k past (TakeAll d) = Took d
call_move k past (OnBuffer b e) = edit_move k.moves (Buffer b) e (out_at k past b e)

-- the steps of these events: the places are a function of them
abbrev pub moves_in : {E B O : Type 0} → Kernel E B O → List (QueueEvent E) → List Step
moves_in k [] = []
moves_in k (e ∷ past) = step_with e.cpu (call_move k past e.call) ∷ moves_in k past

-- an edit of a buffer's block is allowed: its caller is on its home CPU, that CPU's hand is empty,
-- and the layer above allows it
pub record BufferAllowed {E B O : Type 0} (k : Kernel E B O) (past : List (QueueEvent E))
    (c : CpuId) (b : BufId) (e : E) : Type 0 where
  pub caller : MayEditFor k.homes (moves_in k past) c (k.moves.caller e)
  pub upper : k.protocol.allowed k.opening (buffer_sections past) (section c (Buffer b) e)

-- a call of a CPU is allowed after these events. It pushes the thread in its hand into the queue of
-- that thread's home, takes only its own queue, and edits as is allowed
abbrev pub CallAllowed : {E B O : Type 0} → Kernel E B O → List (QueueEvent E) → CpuId → QueueCall E
    → Type 0
CallAllowed k past c (Push d t) = MayPush k.homes (moves_in k past) c d t
CallAllowed k past c (TakeAll d) = d ≡ c
CallAllowed k past c (OnBuffer b e) = BufferAllowed k past c b e

-- the same of an event
abbrev pub QueueAllowed : {E B O : Type 0} → Kernel E B O → List (QueueEvent E) → QueueEvent E
    → Type 0
QueueAllowed k past e = CallAllowed k past e.cpu e.call

-- the CPU of an event is one that a machine may have
abbrev pub IsKnownEvent : {E : Type 0} → List (QueueEvent E) → QueueEvent E → Type 0
IsKnownEvent past e = e.cpu.0 < CPUS

-- a call is allowed, and stays so after whatever allowed calls of other CPUs precede it
abbrev pub StaysCallable : {E : Type 0} → (List (QueueEvent E) → QueueEvent E → Type 0)
    → List (QueueEvent E) → QueueEvent E → Type 0
StaysCallable Allowed past e =
    (more : List _) → AreOthers cpu_of_queue_event e.cpu more → IsLawful Allowed (more ++ past)
    → Allowed (more ++ past) e

-- a call may be polled: at its first poll it is allowed and stays so; after that it is the pending
-- one
abbrev pub MayQueue : {E : Type 0} → (List (QueueEvent E) → QueueEvent E → Type 0)
    → List (QueueEvent E) → Option (QueueEvent E) → QueueEvent E → Type 0
MayQueue Allowed past None e = StaysCallable Allowed past e
MayQueue Allowed past (Some under_way) e = under_way ≡ e

-- a call's result after these events: for a taking all threads of the queue, and for an edit its
-- result
abbrev pub answer_of : {E B O : Type 0} → Kernel E B O → List (QueueEvent E) → QueueCall E
    → Option (QueueAnswer O)
answer_of k past (Push d t) = Some Done
answer_of k past (TakeAll d) = Some (Taken (pending_by (moves_in k past) d))
answer_of k past (OnBuffer b e) = option_map Answer (out_at k past b e)

-- a poll of a call: environment events are first, then the call itself exactly if the poll returns
-- a result, with its result at that point
pub record QueuePolled {E B O : Type 0} (k : Kernel E B O) (ActsFor : CpuId → Type 0)
    (e : QueueEvent E) (result : Option (QueueAnswer O))
    (old new : List (QueueEvent E)) : Type 0 where
  pub others : List (QueueEvent E)
  pub foreign : AreForeign ActsFor cpu_of_queue_event others
  pub is : new ≡ (if is_some result then e ∷ (others ++ old) else others ++ old)
  pub answers : MatchOption result (Unit {0})
      (λ answer. answer_of k (others ++ old) e.call ≡ Some answer)

-- the lock of a call
abbrev pub lock_of : {E : Type 0} → QueueCall E → LockId
lock_of (Push d t) = Pending d
lock_of (TakeAll d) = Pending d
lock_of (OnBuffer b e) = Buffer b

-- the edit of a call, of the block that its lock guards
abbrev pub queue_edit_of : {E : Type 0} → QueueCall E → QueueEdit E
queue_edit_of (Push d t) = edit.Push t
queue_edit_of (TakeAll d) = edit.TakeAll
queue_edit_of (OnBuffer b e) = edit.Above e

-- the queue that a lock guards; at a buffer's lock a number that means nothing
abbrev pub queue_at : LockId → CpuId
queue_at (Pending d) = d
queue_at (Buffer b) = record { 0 = b.0 }

-- the buffer that a lock guards; at a queue's lock a number that means nothing
abbrev pub buffer_guarded : LockId → BufId
buffer_guarded (Pending d) = record { 0 = d.0 }
buffer_guarded (Buffer b) = b

-- the call that is this edit at this lock
abbrev pub call_at : {E : Type 0} → LockId → QueueEdit E → QueueCall E
call_at lock (edit.Push t) = Push (queue_at lock) t
call_at lock edit.TakeAll = TakeAll (queue_at lock)
call_at lock (edit.Above e) = OnBuffer (buffer_guarded lock) e

-- the event that a section is
abbrev pub event_of : {E : Type 0} → Section (QueueEdit E) → QueueEvent E
event_of s = event s.cpu (call_at s.lock s.edit)

-- the plan of a call: one action of its section
abbrev pub queue_plan : {E O : Type 0} → QueueCall E
    → Plan (QueueEdit E) (QueueAnswer O) (Unit {0}) (QueueAnswer O)
queue_plan call = section_plan (lock_of call) (queue_edit_of call)
