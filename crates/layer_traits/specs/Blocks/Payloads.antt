-- Abstraction functions: what an edit and a result mean, with the payload beside them: the message
-- slot that is put or brought, and the threads that were taken.
use Rattle.std.specs.Prelude.{Option, option_map}
use Rattle.layer_traits.specs.declared.buffer_edits.BareBufferEdit.{BareBufferEdit}
use Rattle.layer_traits.specs.declared.buffer_edits.BareBufferReply.{BareBufferReply}
use Rattle.layer_traits.specs.declared.buffer_edits.BufferEdit.{BufferEdit, TheVariants.Enter}
use Rattle.layer_traits.specs.declared.buffer_edits.BufferEdit.TheVariants.{TryPut, TryTake, Shut}
use Rattle.layer_traits.specs.declared.buffer_edits.BufferReply.{BufferReply}
use Rattle.layer_traits.specs.declared.conditions.CvEdit.{CvEdit, TheVariants.{Edit, SignalFront}}
use Rattle.layer_traits.specs.declared.{conditions.CvReply.CvReply, locked.QLockCall.QLockCall}
use Rattle.layer_traits.specs.declared.locked.QLockCall.TheVariants.{Acquire, Inside, Release}
use Rattle.layer_traits.specs.declared.locked.QLockReply.{QLockReply}
use Rattle.layer_traits.specs.declared.queue_edits.QueueEdit.{QueueEdit}
use Rattle.layer_traits.specs.declared.queue_edits.BareQueueAnswer.{BareQueueAnswer}
use Rattle.layer_traits.specs.declared.queue_edits.QueueAnswer.{QueueAnswer}
use Rattle.layer_traits.specs.declared.queues.QueueCall.{QueueCall, TheVariants.{Push, TakeAll}}
use Rattle.layer_traits.specs.declared.queues.QueueCall.TheVariants.{OnBuffer}
use Rattle.layer_traits.specs.declared.scheds.{SchedAnswer.SchedAnswer, SchedCall.SchedCall}
use Rattle.layer_traits.specs.declared.{sleeps.Outcome.Outcome, payloads.MessageSlot.MessageSlot}
use Rattle.layer_traits.specs.declared.payloads.Payload.{Payload}
use Rattle.layer_traits.specs.declared.buffer_edits.BareBufferEdit.TheVariants as bare
use Rattle.layer_traits.specs.declared.buffer_edits.BareBufferReply.TheVariants as response
use Rattle.layer_traits.specs.declared.buffer_edits.BufferReply.TheVariants as abstract_answer
use Rattle.layer_traits.specs.declared.conditions.CvReply.TheVariants as cv
use Rattle.layer_traits.specs.declared.locked.QLockReply.TheVariants as lock
use Rattle.layer_traits.specs.declared.queue_edits.QueueEdit.TheVariants as edit
use Rattle.layer_traits.specs.declared.queue_edits.BareQueueAnswer.TheVariants as bare_queue
use Rattle.layer_traits.specs.declared.queue_edits.QueueAnswer.TheVariants as queue
use Rattle.layer_traits.specs.declared.scheds.SchedAnswer.TheVariants as sched
use Rattle.layer_traits.specs.declared.scheds.SchedCall.TheVariants as call

-- what the result of a poll means, if there is one
abbrev pub abstract_result : {B P T : Type 0} → (B → P → T) → Option B → P → Option T
abstract_result abstract_answer response payload =
    option_map (λ b. abstract_answer b payload) response

-- the edit of shared queues that a passed-down form means: the edit of the layer above, with its
-- payload
abbrev pub abstract_queue_edit : {H E : Type 0} → (H → Payload → E) → QueueEdit H → Payload
    → QueueEdit E
abstract_queue_edit abstract_call (edit.Push t) payload = edit.Push t
abstract_queue_edit abstract_call edit.TakeAll payload = edit.TakeAll
abstract_queue_edit abstract_call (edit.Above e) payload = edit.Above (abstract_call e payload)

-- the result of shared queues that a passed-back form means: the threads that were taken are in the
-- payload
abbrev pub abstract_queue_answer : {B O : Type 0} → (B → Payload → O) → BareQueueAnswer B → Payload
    → QueueAnswer O
abstract_queue_answer abstract_answer bare_queue.Done payload = queue.Done
abstract_queue_answer abstract_answer bare_queue.Taken payload = queue.Taken payload.taken
abstract_queue_answer abstract_answer (bare_queue.Answer out) payload =
    queue.Answer (abstract_answer out payload)

-- the same of a call at shared queues
abbrev pub abstract_queue_call : {H E : Type 0} → (H → Payload → E) → QueueCall H → Payload
    → QueueCall E
abstract_queue_call abstract_call (Push d t) payload = Push d t
abstract_queue_call abstract_call (TakeAll d) payload = TakeAll d
abstract_queue_call abstract_call (OnBuffer b e) payload = OnBuffer b (abstract_call e payload)

-- of a call of a scheduler
abbrev pub abstract_sched_call : {H E : Type 0} → (H → Payload → E) → SchedCall H → Payload
    → SchedCall E
abstract_sched_call abstract_call (call.Pass pass) payload = call.Pass pass
abstract_sched_call abstract_call (call.OnBuffer b e) payload =
    call.OnBuffer b (abstract_call e payload)

-- of a scheduler's result
abbrev pub abstract_sched_answer : {B O : Type 0} → (B → Payload → O) → SchedAnswer B → Payload
    → SchedAnswer O
abstract_sched_answer abstract_answer sched.Done payload = sched.Done
abstract_sched_answer abstract_answer (sched.Answer out) payload =
    sched.Answer (abstract_answer out payload)

-- of the result of a section of a sleeping layer
abbrev pub abstract_outcome : {B O P : Type 0} → (B → P → O) → Outcome B → P → Outcome O
abstract_outcome abstract_answer outcome payload =
    record { out = abstract_answer outcome.out payload; slept = outcome.slept; woke = outcome.woke }

-- of a call on a queuing lock: only an edit inside puts a message slot
abbrev pub abstract_lock_call : {H F R : Type 0} → (H → MessageSlot → F) → QLockCall H R
    → MessageSlot → QLockCall F R
abstract_lock_call abstract_call (Acquire t) message_slot = Acquire t
abstract_lock_call abstract_call (Inside edit) message_slot =
    Inside (abstract_call edit message_slot)
abstract_lock_call abstract_call (Release last) message_slot = Release last

-- of the result of such a call
abbrev pub abstract_lock_answer : {B O : Type 0} → (B → MessageSlot → O) → QLockReply B
    → MessageSlot → QLockReply O
abstract_lock_answer abstract_answer lock.Acquired message_slot = lock.Acquired
abstract_lock_answer abstract_answer lock.Queued message_slot = lock.Queued
abstract_lock_answer abstract_answer (lock.Did out) message_slot =
    lock.Did (abstract_answer out message_slot)
abstract_lock_answer abstract_answer (lock.Released out) message_slot =
    lock.Released (abstract_answer out message_slot)

-- of what the owner of a lock with conditions does inside
abbrev pub abstract_cv_edit : {H G : Type 0} → (H → MessageSlot → G) → CvEdit H → MessageSlot
    → CvEdit G
abstract_cv_edit abstract_call (Edit edit) message_slot = Edit (abstract_call edit message_slot)
abstract_cv_edit abstract_call (SignalFront t side) message_slot = SignalFront t side

-- of its result
abbrev pub abstract_cv_answer : {B O : Type 0} → (B → MessageSlot → O) → CvReply B → MessageSlot
    → CvReply O
abstract_cv_answer abstract_answer (cv.Did out) message_slot =
    cv.Did (abstract_answer out message_slot)
abstract_cv_answer abstract_answer (cv.Signalled side front) message_slot = cv.Signalled side front
abstract_cv_answer abstract_answer cv.Left message_slot = cv.Left
abstract_cv_answer abstract_answer (cv.Waited side) message_slot = cv.Waited side

-- the edit of a buffer that is meant: the message is the one that it puts
abbrev pub abstract_buffer_edit : BareBufferEdit → MessageSlot → BufferEdit
abstract_buffer_edit (bare.Enter t side) message_slot = Enter t side
abstract_buffer_edit (bare.TryPut t) message_slot = TryPut t message_slot.message
abstract_buffer_edit (bare.TryTake t) message_slot = TryTake t
abstract_buffer_edit (bare.Shut t) message_slot = Shut t

-- the result of a buffer that is meant: the message is that of the effect, and the numbers are
-- those beside it
abbrev pub abstract_buffer_answer : BareBufferReply → MessageSlot → BufferReply
abstract_buffer_answer response.Entered message_slot = abstract_answer.Entered message_slot.first
abstract_buffer_answer response.NotYet message_slot = abstract_answer.NotYet
abstract_buffer_answer (response.Done kind) message_slot =
    abstract_answer.Done kind message_slot.first message_slot.message
abstract_buffer_answer response.WasShut message_slot =
    abstract_answer.WasShut message_slot.first message_slot.second
