-- Which section of a buffer which CPU may do after which sections. A thread that enters is in no
-- queue of the buffer. A thread that tries is in the queue of its side. A thread that waits failed
-- its try in its section before. The owner of the lock may close.
use Rattle.std.specs.Prelude.{◌≡◌, Bool, true, false, not, ◌&&◌, List, [], ◌∷◌, Option, Some, None}
use Rattle.std.specs.Prelude.{if◌then◌else◌}
use Rattle.event_log.specs.{declared.ids.{LockId.LockId, Tid.Tid}, History.same_lock}
use Rattle.event_log.specs.Sections.{Section}
use Rattle.layer_traits.specs.declared.locked.QLockCall.TheVariants.{Acquire, Inside, Release}
use Rattle.layer_traits.specs.declared.locked.Side.{Side, TheVariants.{Receivers, Senders}}
use Rattle.layer_traits.specs.declared.conditions.CvEdit.{TheVariants.{Edit, SignalFront}, CvEdit}
use Rattle.layer_traits.specs.declared.conditions.CvLeave.{CvLeave, TheVariants.{Leave, Wait}}
use Rattle.layer_traits.specs.declared.conditions.CvReply.{CvReply}
use Rattle.layer_traits.specs.declared.buffer_edits.{BufferReply.BufferReply, BufferEdit.BufferEdit}
use Rattle.layer_traits.specs.declared.buffer_edits.BufferEdit.TheVariants.{Enter, TryPut, TryTake}
use Rattle.layer_traits.specs.declared.buffer_edits.BufferEdit.TheVariants.{Shut}
use Rattle.layer_traits.specs.Layers.Conditions.{CvCall, MonitorRules, cv_rules}
use Rattle.layer_traits.specs.Layers.QLocking.{LockRules, LockState, lock_after, lock_caller}
use Rattle.layer_traits.specs.Blocks.BufferBlocks.{BufferState, buffer_answer, buffer_edited}
use Rattle.layer_traits.specs.Blocks.BufferBlocks.{thread_of_edit, front_ready, is_next, line_of}
use Rattle.thread_blocks.specs.Queues.{same_tid, is_in}

-- a section of a buffer
abbrev pub BufferSection : Type 0
BufferSection = Section (CvCall BufferEdit)

-- a buffer's lock, with its owner and the threads that sleep there, over the block
abbrev pub BufferLock : Type 0
BufferLock = LockState BufferState

-- what the edits mean, without a protocol
abbrev pub plain_rules : MonitorRules BufferEdit BufferState BufferReply
plain_rules = record {
  caller = thread_of_edit;
  edited = buffer_edited;
  answer = buffer_answer;
  ready = front_ready;
  allowed = λ opening past s. Unit {0};
}

-- the sections of buffers, by the same rules with or without a protocol
abbrev pub buffer_rules : LockRules (CvEdit BufferEdit) CvLeave BufferState (CvReply BufferReply)
buffer_rules = cv_rules plain_rules

-- a lock after these sections
abbrev pub buffer_lock_at : (LockId → Option BufferLock) → List BufferSection → LockId
    → Option BufferLock
buffer_lock_at opening past lock = lock_after buffer_rules opening lock past

-- whether a thread is in the queue of this side of a buffer
abbrev pub is_in_line : Side → Tid → Option BufferLock → Bool
is_in_line side t None = false
is_in_line side t (Some lock) = is_in t (line_of side lock.above)

-- whether it is next there
abbrev pub is_next_at : Side → Tid → Option BufferLock → Bool
is_next_at side t None = false
is_next_at side t (Some lock) = is_next side t lock.above

-- whether a call is a try of this side
abbrev pub is_try : Side → CvCall BufferEdit → Bool
is_try side (Acquire t) = false
is_try Receivers (Inside (Edit (Enter t at))) = false
is_try Receivers (Inside (Edit (TryPut t m))) = false
is_try Receivers (Inside (Edit (TryTake t))) = true
is_try Receivers (Inside (Edit (Shut t))) = false
is_try Senders (Inside (Edit (Enter t at))) = false
is_try Senders (Inside (Edit (TryPut t m))) = true
is_try Senders (Inside (Edit (TryTake t))) = false
is_try Senders (Inside (Edit (Shut t))) = false
is_try side (Inside (SignalFront t at)) = false
is_try side (Release leave) = false

-- whether the thread's newest section is a try of this side at this lock that failed
abbrev pub has_tried_in_vain : (LockId → Option BufferLock) → LockId → Side → Tid
    → List BufferSection → Bool
has_tried_in_vain opening lock side t [] = false
has_tried_in_vain opening lock side t (s ∷ past) =
    if same_tid (lock_caller buffer_rules s.edit) t
    then is_try side s.edit && same_lock lock s.lock
    && not (is_next_at side t (buffer_lock_at opening past lock))
    else has_tried_in_vain opening lock side t past

-- a call is due: what its caller must have done before
abbrev pub IsDue : (LockId → Option BufferLock) → List BufferSection → LockId → CvCall BufferEdit
    → Type 0
IsDue opening past lock (Acquire t) = Unit {0}
IsDue opening past lock (Inside (Edit (Enter t side))) =
    (is_in_line Senders t (buffer_lock_at opening past lock) ≡ false)
    × (is_in_line Receivers t (buffer_lock_at opening past lock) ≡ false)
IsDue opening past lock (Inside (Edit (TryPut t m))) =
    is_in_line Senders t (buffer_lock_at opening past lock) ≡ true
IsDue opening past lock (Inside (Edit (TryTake t))) =
    is_in_line Receivers t (buffer_lock_at opening past lock) ≡ true
IsDue opening past lock (Inside (Edit (Shut t))) = Unit {0}
IsDue opening past lock (Inside (SignalFront t side)) = Unit {0}
IsDue opening past lock (Release (Leave t)) = Unit {0}
IsDue opening past lock (Release (Wait t side)) = has_tried_in_vain opening lock side t past ≡ true

-- a section keeps the protocol of buffers
abbrev pub buffer_allowed : (LockId → Option BufferLock) → List BufferSection → BufferSection
    → Type 0
buffer_allowed opening past s = IsDue opening past s.lock s.edit

-- what the edits of buffers mean
abbrev pub buffer_monitor_rules : MonitorRules BufferEdit BufferState BufferReply
buffer_monitor_rules = record {
  caller = thread_of_edit;
  edited = buffer_edited;
  answer = buffer_answer;
  ready = front_ready;
  allowed = buffer_allowed;
}
