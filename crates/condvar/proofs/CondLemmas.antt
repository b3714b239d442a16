-- What a poll of a lock with conditions leaves, and why a thread that was woken from a wait is in
-- no wait list.
use Rattle.std.proofs.Common.{arith, ◌≡◌, ◌<◌, ◌≤◌, Bool, true, false, ◌&&◌, List, length, slice_set, Option, Some, None, is_some, if◌then◌else◌, ap, ◌∙◌}
use Rattle.std.proofs.lemmas.Option.{slice_get_within}
use Rattle.event_log.specs.{declared.ids.{BufId.BufId, CpuId.CpuId, LockId.{LockId, TheVariants.Buffer}, Tid.Tid, TheConstants.THREADS}, Actions.Action}
use Rattle.layer_traits.specs.declared.{conditions.CvReply.CvReply, moves.WaitList.WaitList, payloads.MessageSlot.MessageSlot}
use Rattle.layer_traits.specs.declared.{queue_edits.{QueueBlock.QueueBlock, QueueEdit.QueueEdit, QueueAnswer.QueueAnswer}, queues.QueueEvent.QueueEvent}
use Rattle.layer_traits.specs.declared.{scheds.SchedCall.SchedCall, sleeps.Outcome.Outcome, locked.{QLockReply.QLockReply, Side.Side}}
use Rattle.layer_traits.specs.Layers.{Conditions.{MonitorRules, CvCall, cv_rules}, CvLaw.{CvPolled, MayCallCond, MayWait, Waiting, cv_plan_for, left_waiting}}
use Rattle.layer_traits.specs.Layers.{CvLaw.{waited, waiting_with}, QLocking.{LockState, lock_after, lock_caller, wait_list_in}, QLockLaw.{Locking, LockPolled}}
use Rattle.layer_traits.specs.Layers.{QLockLaw.{LocksAgree, lock_kernel, lock_plan, slept_for}, Queues.{Kernel, buffer_sections, moves_in}}
use Rattle.layer_traits.specs.Threads.{ListsAgree.is_at, MoveRules.MoveRules, Places.{AreMoves, Stands, Threads, one_if, wait_channel_of}}
use Rattle.layer_traits.specs.Blocks.Payloads.{abstract_cv_edit, abstract_cv_answer, abstract_lock_call, abstract_lock_answer, abstract_outcome}
use Rattle.layer_traits.specs.{Blocks.{Payloads.abstract_result, QueueBlocks.{homes_in, inner}}, Polling.Plans.{Follows, Table}}
use Rattle.{layer_traits.proofs.{CallLemmas.follows_raised, CountLemmas.not_counted, PlaceLemmas.current_at}, thread_blocks.specs.Queues.is_in}
use Rattle.condvar.specs.Waiting.{calls_wait, is_wait, side_in}

-- a thread that runs is one that a machine may have
pub current_small : (homes : List CpuId) (c : CpuId) (moves : _) (local : Threads) (t : Tid) → AreMoves homes moves → Stands homes c moves local
    → length homes ≤ THREADS → local.current ≡ Some t → t.0 < THREADS
current_small homes c moves local t legal stands room runs =
    omega (arith, slice_get_within homes t.0 c (current_at homes c moves local legal stands t runs).0, room)

-- a thread that runs is in no wait list of any lock
pub current_awake : {G B O : Type 0} (monitor_rules : MonitorRules G B O) (opening : LockId
    → Option (QueueBlock (LockState B))) (history : List (QueueEvent (CvCall G))) (c : CpuId) (local : Threads) (t : Tid)
    → AreMoves (homes_in opening) (moves_in (lock_kernel (cv_rules monitor_rules) opening) history)
    → Stands (homes_in opening) c (moves_in (lock_kernel (cv_rules monitor_rules) opening) history) local
    → LocksAgree (cv_rules monitor_rules) opening history → local.current ≡ Some t
    → (lock : LockId) (line : WaitList)
    → is_in t (wait_list_in line (lock_after (cv_rules monitor_rules) (inner opening) lock (buffer_sections history))) ≡ false
current_awake monitor_rules opening history c local t legal stands agree runs lock line =
    not_counted t (wait_list_in line (lock_after (cv_rules monitor_rules) (inner opening) lock (buffer_sections history)))
    (agree lock line t ∙ ap (λ w. one_if (is_at lock line (wait_channel_of w))) (current_at _ c _ local legal stands t runs).1)

-- a thread that waits makes no call except its wait
wait_alone : {H G E : Type 0} (abstract_call : H → MessageSlot → G) (message_slot : MessageSlot) (call : CvCall H) (at : Option BufId)
    (under_way : Option (SchedCall E)) (b : BufId)
    (t : Tid) (may : Type 0) → MayWait at under_way b (abstract_lock_call (abstract_cv_edit abstract_call) call message_slot) t may
    → (calls_wait call && is_some at) ≡ is_some at
wait_alone abstract_call message_slot call at under_way b t may duty = grind arith

-- a wake of a thread that waited ends its wait
pub wake_ended : (waits now : List (Option BufId)) (woke : Bool) (t u : Tid) → now ≡ (if woke then slice_set waits u.0 None else waits) → woke ≡ true
    → u ≡ t → now ≡ slice_set waits t.0 None
wake_ended waits now woke t u same abstract_answer caller = rw (← caller) (same ∙ ap (λ b. if b then slice_set waits u.0 None else waits) abstract_answer)

-- a wake of a thread that did not wait leaves all as they are
pub wake_kept : (waits now : List (Option BufId)) (woke : Bool) (u : Tid) → now ≡ (if woke then slice_set waits u.0 None else waits) → woke ≡ false
    → now ≡ waits
wake_kept waits now woke u same abstract_answer = same ∙ ap (λ b. if b then slice_set waits u.0 None else waits) abstract_answer

-- what the lock returned, with the message slot beside its result
abbrev pub lock_tells : {B O : Type 0} → (B → MessageSlot → O) → MessageSlot → Option (Outcome (QLockReply (CvReply B)))
    → Option (Outcome (QLockReply (CvReply O)))
lock_tells abstract_answer message_slot answer =
    abstract_result (abstract_outcome (abstract_lock_answer (abstract_cv_answer abstract_answer))) answer message_slot

is_wait_told : {B O : Type 0} (abstract_answer : B → MessageSlot → O) (message_slot : MessageSlot) (answer : Option (Outcome (QLockReply (CvReply B))))
    → is_wait (lock_tells abstract_answer message_slot answer) ≡ is_wait answer
is_wait_told abstract_answer message_slot answer = grind arith

-- so what the lock returned determines which thread waits
pub waits_told : {B O : Type 0} (abstract_answer : B → MessageSlot → O) (message_slot : MessageSlot) (answer : Option (Outcome (QLockReply (CvReply B))))
    (t : Tid) (b : BufId)
    (waits now : List (Option BufId)) → now ≡ (if is_wait answer then slice_set waits t.0 (Some b) else waits)
    → now ≡ (if is_wait (lock_tells abstract_answer message_slot answer) then slice_set waits t.0 (Some b) else waits)
waits_told abstract_answer message_slot answer t b waits now same = grind (arith, is_wait_told)

-- and so is what is held back
pub complete_told : {B O : Type 0} (abstract_answer : B → MessageSlot → O) (message_slot : MessageSlot)
    (answer result : Option (Outcome (QLockReply (CvReply B))))
    → result ≡ (if is_wait answer then None else answer)
    → lock_tells abstract_answer message_slot result
    ≡ (if is_wait (lock_tells abstract_answer message_slot answer) then None else lock_tells abstract_answer message_slot answer)
complete_told abstract_answer message_slot answer result same = grind (arith, is_wait_told)

-- what the lock's result leaves
pub reported_left : {O : Type 0} (t : Tid) (b : BufId) (waits now : List (Option BufId)) (lock : Locking (CvReply O))
    (answer result : Option (Outcome (QLockReply (CvReply O)))) → now ≡ (if is_wait answer then slice_set waits t.0 (Some b) else waits)
    → result ≡ (if is_wait answer then None else answer) → waiting_with lock now result ≡ left_waiting t b waits lock answer
reported_left t b waits now lock answer result same abstract_answer = grind arith

module _ {G B O : Type 0} (monitor_rules : MonitorRules G B O) (k : Kernel (CvCall G) (LockState B) (Outcome (QLockReply (CvReply O)))) (c : CpuId) (b : BufId)
    (local : Waiting O) (under_way : Option (SchedCall (CvCall G))) where
  abbrev caller : CvCall G → Tid
  caller call = lock_caller (cv_rules monitor_rules) call

  -- whether the caller waited, according to the wake
  pub wake_told : {H : Type 0} (abstract_call : H → MessageSlot → G) (message_slot : MessageSlot) (call : CvCall H) (past : List (QueueEvent (CvCall G)))
      (woke is : Bool) (u : Tid)
      → MayCallCond monitor_rules k c past local under_way b (abstract_lock_call (abstract_cv_edit abstract_call) call message_slot)
      → woke ≡ (calls_wait call && is_some (slept_for local.waits u)) → woke ≡ is
      → u ≡ caller (abstract_lock_call (abstract_cv_edit abstract_call) call message_slot)
      → is_some (slept_for local.waits (caller (abstract_lock_call (abstract_cv_edit abstract_call) call message_slot))) ≡ is
  wake_told abstract_call message_slot call past woke is u duty was abstract_answer calls = grind (arith, wait_alone)

  module _ (ActsFor : CpuId → Type 0) (call : CvCall G) (old : List (QueueEvent (CvCall G))) (waits : List (Option BufId)) where
    -- the poll of a thread that was woken out of its wait, by the buffer at which it waited
    pub over_polled : (may : Type 0) (side : Side) (at : Option BufId) → is_some at ≡ true → MayWait at under_way b call (caller call) may
        → ((line : WaitList) → is_in (caller call) (wait_list_in line (lock_after (cv_rules monitor_rules) k.opening (Buffer b) (buffer_sections old))) ≡ false)
        → side ≡ side_in call → waits ≡ slice_set local.waits (caller call).0 None
        → CvPolled monitor_rules k ActsFor c b call at old old local under_way (waiting_with local.lock waits (Some (waited side)))
    over_polled may side None some duty left same now = absurd cc
    over_polled may side (Some at) some duty left same now = record {
      side = duty.2.0;
      is = duty.2.1;
      left = left;
      ends = duty.0;
      leaves = λ i. waiting_with local.lock (now i) (Some (waited {O = O} ((same ∙ ap side_in duty.2.1) i)));
    }

    -- the poll of a thread that does not wait
    pub waits_polled : (new : List (QueueEvent (CvCall G))) (lock : Locking (CvReply O)) (answer result : Option (Outcome (QLockReply (CvReply O))))
        (at : Option BufId)
        → is_some at ≡ false
        → LockPolled (cv_rules monitor_rules) k ActsFor c b call (slept_for local.lock.slept (caller call)) old new local.lock under_way
        (record { local = lock; answer = answer })
        → waits ≡ (if is_wait answer then slice_set local.waits (caller call).0 (Some b) else local.waits) → result ≡ (if is_wait answer then None else answer)
        → CvPolled monitor_rules k ActsFor c b call at old new local under_way (waiting_with lock waits result)
    waits_polled new lock answer result (Some at) none polled same abstract_answer = absurd cc
    waits_polled new lock answer result None none polled same abstract_answer = record {
      left = record { local = lock; answer = answer };
      polled = polled;
      leaves = reported_left (caller call) b local.waits waits lock answer result same abstract_answer;
    }

-- it follows its plan if the lock's poll follows its own
pub waits_follow : {G B O : Type 0} (ActsFor : CpuId → Type 0) (table : Table (QueueEdit (CvCall G)) B (QueueAnswer (Outcome (QLockReply (CvReply O)))))
    (opening : LockId → Option B) (mv : MoveRules (CvCall G) (Outcome (QLockReply (CvReply O)))) (homes : List CpuId) (c : CpuId) (b : BufId) (call : CvCall G)
    (local : Waiting O) (old new : List (Action (QueueEdit (CvCall G)))) (lock : Locking (CvReply O)) (waits : List (Option BufId))
    (answer result : Option (Outcome (QLockReply (CvReply O)))) (at : Option BufId)
    → is_some at ≡ false → Follows ActsFor table opening c (lock_plan mv homes c b call local.lock) old new (record { local = lock; answer = answer })
    → waits ≡ (if is_wait answer then slice_set local.waits (mv.caller call).0 (Some b) else local.waits) → result ≡ (if is_wait answer then None else answer)
    → Follows ActsFor table opening c (cv_plan_for mv homes c b call local at) old new (waiting_with lock waits result)
waits_follow ActsFor table opening mv homes c b call local old new lock waits answer result (Some at) none follows same abstract_answer = absurd cc
waits_follow ActsFor table opening mv homes c b call local old new lock waits answer result None none follows same abstract_answer =
    rw (reported_left (mv.caller call) b local.waits waits lock answer result same abstract_answer) (follows_raised _ _ _ _
    (λ l. left_waiting (mv.caller call) b local.waits l.local l.answer) (lock_plan mv homes c b call local.lock) _ _ (record { local = lock; answer = answer })
    follows)
