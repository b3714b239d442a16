-- One poll of a part: what it leaves of the threads that slept, and that it is the poll which the
-- law of the layer requires.
use Rattle.std.proofs.Common.{◌≡◌, ◌≢◌, inl, inr, ◌<◌, Bool, true, false, ◌&&◌, ◌||◌, not, nat_lt, if◌then◌else◌, List, [], ◌∷◌, ◌++◌, Option, Some, None}
use Rattle.std.proofs.{Common.{arith, option_map, is_some, refl, ap, sym, ◌∙◌, subst}, lemmas.Bool.{lt-ltb, ne_eqb}, Math.Bool.or-true}
use Rattle.event_log.specs.{declared.ids.{BufId.BufId, CpuId.CpuId, LockId.{LockId, TheVariants.Buffer}, TheConstants.THREADS, Tid.Tid}, History.IsLawful}
use Rattle.event_log.{specs.History.same_cpu, proofs.{Foreign.lawful_before, Same.{cpu_numbered, same_lock_self}}}
use Rattle.layer_traits.specs.declared.locked.{QLockCall.{QLockCall, TheVariants.{Acquire, Inside, Release}}, QLockReply.{QLockReply, TheVariants.Acquired}}
use Rattle.layer_traits.specs.declared.{locked.QLockReply.TheVariants.Queued, moves.WaitList.TheVariants.Sleepers, passes.Pass.Pass as PassCall}
use Rattle.layer_traits.specs.declared.{payloads.MessageSlot.MessageSlot, queue_edits.QueueBlock.QueueBlock, queues.QueueCall.TheVariants.{Push, OnBuffer}}
use Rattle.layer_traits.specs.{declared.{queues.QueueEvent.QueueEvent, scheds.SchedAnswer.SchedAnswer, sleeps.Outcome.Outcome}, Layers.QLocking.LockRules}
use Rattle.layer_traits.specs.Layers.QLocking.{LockState, lock_asked_by, wait_list_in, lock_after, lock_answer, lock_caller, lock_edited, lock_moves, owner_in}
use Rattle.layer_traits.specs.Layers.{QLocking.asker_report, QLockLaw.{HasOrAwaits, left_locked, locking, lock_kernel, slept_for}, Queues.Kernel}
use Rattle.layer_traits.specs.Layers.{Queues.{QueueAllowed, buffer_sections, event}, Scheds.{SchedPolled, events_of, own_answered, queue_call}}
use Rattle.layer_traits.specs.Layers.SleepLaw.{PollResult, MayDo, SleepPolled, Sleeping, WaitsStill, Does, SendsHome, left_done, left_with, must_send}
use Rattle.layer_traits.specs.{Layers.{SleepLaw.seen_with, Sleeping.joined}, Threads.{Passes.queue_for, Places.{Threads, home_of}}}
use Rattle.layer_traits.specs.{Blocks.{Payloads.{abstract_lock_answer, abstract_outcome}, QueueBlocks.{homes_in, inner}}, Polling.Plans.Left}
use Rattle.{thread_blocks.{specs.Queues.is_in, proofs.{Distinct.pushed_in, Members.same_tid_self}}, queuing_lock.specs.Parts.{DeferredFits, SleptFits}}
use Rattle.queuing_lock.{specs.Parts.{is_queued, slept_left_by, slept_left_with, reported_with}, proofs.{DeferredLemmas.deferred_is, SleptLemmas.slept_result}}
use Rattle.queuing_lock.proofs.SleptLemmas.{slept_more, slept_others}
use Rattle.layer_traits.specs.declared.passes.Pass.TheVariants as pass
use Rattle.layer_traits.specs.declared.scheds.SchedCall.TheVariants as call

-- a thread that owns a lock or sleeps for it, and is not asleep, owns it
pub awaits_owner : {B : Type 0} (t : Tid) (o : Option (LockState B)) → HasOrAwaits t o → is_in t (wait_list_in Sleepers o) ≡ false → owner_in o ≡ Some t
awaits_owner t o awaits awake = grind arith

-- a thread of the machine that joined a queue is in it
joined_in : (t : Tid) (queue : List Tid) → t.0 < THREADS → is_in t (joined t queue) ≡ true
joined_in t queue small = grind (arith, pushed_in, same_tid_self)

-- a section that was done and completes returns its outcome
answered_with : {O : Type 0} (done : Outcome O) (threads : Threads) (outcome : Outcome O) → (left_done done threads).answer ≡ Some outcome
    → Some done ≡ Some outcome
answered_with done threads outcome answers = grind arith

-- what the lock's outcome leaves
pub reported_is : {O : Type 0} (t : Tid) (b : BufId) (slept : List (Option BufId)) (sleep : Sleeping (QLockReply O)) (out : QLockReply O)
    (outcome : Outcome (QLockReply O))
    → left_locked t b slept sleep out outcome ≡ locking sleep (slept_left_with t b slept out) (reported_with out outcome)
reported_is t b slept sleep out outcome = grind arith

-- whether a call slept does not depend on what its result reports
pub slept_told : {B O : Type 0} (abstract_answer : B → MessageSlot → O) (message_slot : MessageSlot) (t : Tid) (b : BufId) (slept : List (Option BufId))
    (out : QLockReply B)
    → slept_left_with t b slept out ≡ slept_left_with t b slept (abstract_lock_answer abstract_answer out message_slot)
slept_told abstract_answer message_slot t b slept out = grind arith

-- nor does whether its outcome is passed on
pub reported_told : {B O : Type 0} (abstract_answer : B → MessageSlot → O) (message_slot : MessageSlot) (out : QLockReply B) (outcome : Outcome (QLockReply B))
    → option_map (λ o. abstract_outcome (abstract_lock_answer abstract_answer) o message_slot) (reported_with out outcome)
    ≡ reported_with (abstract_lock_answer abstract_answer out message_slot) (abstract_outcome (abstract_lock_answer abstract_answer) outcome message_slot)
reported_told abstract_answer message_slot out outcome = grind arith

module _ {F R B O : Type 0} (protocol : LockRules F R B O) where
  queued_by : (e : QLockCall F R) (state : LockState B) → (lock_caller protocol e).0 < THREADS → (lock_answer protocol e state).out ≡ Queued
      → HasOrAwaits (lock_caller protocol e) (Some (lock_edited protocol e state))
  queued_by e state small queued = grind (arith, joined_in)

  -- a queued thread sleeps for the lock now
  pub queued_awaits : (e : QLockCall F R) (o : Option (LockState B)) (outcome : Outcome (QLockReply O)) → (lock_caller protocol e).0 < THREADS
      → option_map (lock_answer protocol e) o ≡ Some outcome → outcome.out ≡ Queued
      → HasOrAwaits (lock_caller protocol e) (option_map (lock_edited protocol e) o)
  queued_awaits e o outcome small is queued = grind (arith, queued_by)

module _ {F R B O : Type 0} (protocol : LockRules F R B O) (opening : LockId → Option (QueueBlock (LockState B))) (c : CpuId) where
  abbrev K : Kernel (QLockCall F R) (LockState B) (Outcome (QLockReply O))
  K = lock_kernel protocol opening

  abbrev Lawful : List (QueueEvent (QLockCall F R)) → Type 0
  Lawful log = IsLawful (QueueAllowed K) log

  -- A poll of a section by a part of the CPU c, whose caller does not sleep for a lock, and the
  -- threads that slept before it.

  module _ {ActsFor : CpuId → Type 0} {b : BufId} {e : QLockCall F R} {old new : List (QueueEvent (QLockCall F R))} {local : Sleeping (QLockReply O)}
      {got : Left (Sleeping (QLockReply O)) (Outcome (QLockReply O))} (polled : SleepPolled K ActsFor c b e old new local got) (acts : ActsFor c)
      (lawful : Lawful new)
      (slept : List (Option BufId)) (none : slept_for slept (lock_caller protocol e) ≡ None) (coupled : SleptFits protocol opening c old slept) where
    -- the caller owns the lock or sleeps for it
    abbrev Awaits : List (QueueEvent (QLockCall F R)) → Type 0
    Awaits past = HasOrAwaits (lock_caller protocol e) (lock_after protocol (inner opening) (Buffer b) (buffer_sections past))

    before : (poll_result : PollResult (QLockReply O)) (past : List (QueueEvent (QLockCall F R))) → Lawful (seen_with K c b e poll_result past) → Lawful past
    before poll_result past lawful = grind arith

    -- a thread that slept owns its lock or still sleeps for it
    pub slept_polled : SleptFits protocol opening c new slept
    slept_polled =
        let after = subst Lawful polled.is lawful in
        subst (λ l. SleptFits protocol opening c l slept) (sym polled.is)
        (slept_result protocol opening c b e polled.poll_result (polled.others ++ old) slept after
        none (slept_others protocol opening c polled.others old (polled.foreign c acts) (before polled.poll_result (polled.others ++ old) after) slept coupled))

    queued_result : (poll_result : PollResult (QLockReply O)) (past : List (QueueEvent (QLockCall F R))) (outcome : Outcome (QLockReply O))
        → (lock_caller protocol e).0 < THREADS
        → MayDo K c b e poll_result past local → (left_with K c b e poll_result local).answer ≡ Some outcome → outcome.out ≡ Queued
        → DeferredFits (Some (call.OnBuffer b e)) local.deferred local.threads.hand → Awaits (seen_with K c b e poll_result past)
    queued_result WaitsStill past outcome small may answers queued deferred = absurd cc
    queued_result (Does done) past outcome small may answers queued deferred =
        rw (same_lock_self (Buffer b)) (queued_awaits protocol e (lock_after protocol (inner opening) (Buffer b) (buffer_sections past)) outcome small
        (may.1 ∙ answered_with done (own_answered (lock_moves protocol) K.homes c (Some done) local.threads) outcome answers) queued)
    queued_result (SendsHome t) past outcome small may answers queued deferred =
        let abstract_answer = deferred_is local.deferred local.threads.hand b e outcome deferred answers in
        let is = ap is_queued queued in
        absurd cc

    -- and a queued thread sleeps for the lock
    pub slept_queued : (outcome : Outcome (QLockReply O)) → home_of (homes_in opening) (lock_caller protocol e) ≡ Some c → (lock_caller protocol e).0 < THREADS
        → got.answer ≡ Some outcome → DeferredFits (Some (call.OnBuffer b e)) local.deferred local.threads.hand
        → SleptFits protocol opening c new (slept_left_by (lock_caller protocol e) b slept outcome)
    slept_queued outcome here small answers deferred = go outcome.out refl
      where
        go : (out : QLockReply O) → outcome.out ≡ out → SleptFits protocol opening c new (slept_left_with (lock_caller protocol e) b slept out)
        go Queued is =
            let answered = ap (λ (l : Left (Sleeping (QLockReply O)) (Outcome (QLockReply O))). l.answer) (sym polled.leaves) ∙ answers in
            let awaits = queued_result polled.poll_result (polled.others ++ old) outcome small polled.may answered is deferred in
            slept_more protocol opening c (lock_caller protocol e) b new slept (record { here = here; awaits = subst Awaits (sym polled.is) awaits })
            slept_polled
        go other is = slept_polled

  -- A poll of a section, seen by the part of another CPU.

  module _ {ActsFor : CpuId → Type 0} (by : CpuId) (apart : c ≢ by) (acts : ActsFor c) (slept : List (Option BufId)) where
    pub slept_of_others : {b : BufId} {e : QLockCall F R} {old new : List (QueueEvent (QLockCall F R))} {local : Sleeping (QLockReply O)}
        {got : Left (Sleeping (QLockReply O)) (Outcome (QLockReply O))} → SleepPolled K ActsFor by b e old new local got → Lawful new
        → SleptFits protocol opening c old slept → SleptFits protocol opening c new slept
    slept_of_others {b} {e} {old} polled lawful coupled =
        subst (λ l. SleptFits protocol opening c l slept) (sym polled.is) (go polled.poll_result (subst Lawful polled.is lawful))
      where
        not_by : same_cpu by c ≡ false
        not_by = ne_eqb by.0 c.0 (λ e. apart (sym (ap cpu_numbered e)))

        go : (poll_result : PollResult (QLockReply O)) → Lawful (seen_with K by b e poll_result (polled.others ++ old))
            → SleptFits protocol opening c (seen_with K by b e poll_result (polled.others ++ old)) slept
        go WaitsStill lawful = slept_others protocol opening c polled.others old (polled.foreign c acts) lawful slept coupled
        go (Does outcome) lawful =
            slept_others protocol opening c (event by (OnBuffer b e) ∷ polled.others) old (not_by, polled.foreign c acts) lawful slept coupled
        go (SendsHome t) lawful =
            slept_others protocol opening c (event by (Push (queue_for (homes_in opening) by t) t) ∷ polled.others) old
            (not_by, polled.foreign c acts) lawful slept coupled

-- A pass has no section, so that owners and sleepers are unchanged.

module _ {F R B O : Type 0} (protocol : LockRules F R B O) (opening : LockId → Option (QueueBlock (LockState B))) (by : CpuId)
    (past : List (QueueEvent (QLockCall F R))) where
  -- the history with the pass, if it is done
  abbrev with_pass : Bool → PassCall → List (QueueEvent (QLockCall F R))
  with_pass done p = if done then events_of by (queue_call (homes_in opening) by (call.Pass p)) ++ past else past

  same_sections : (done : Bool) (p : PassCall) → buffer_sections (with_pass done p) ≡ buffer_sections past
  same_sections done p = grind arith

  before_pass : (done : Bool) (p : PassCall) → IsLawful (QueueAllowed (lock_kernel protocol opening)) (with_pass done p)
      → IsLawful (QueueAllowed (lock_kernel protocol opening)) past
  before_pass done p lawful = grind (arith, lawful_before)

-- a thread that slept owns its lock or still sleeps for it after a pass, seen by any part
pub slept_passed : {F R B O : Type 0} (protocol : LockRules F R B O) (opening : LockId → Option (QueueBlock (LockState B))) {ActsFor : CpuId → Type 0}
    {by : CpuId} (p : PassCall) (answer : Option (SchedAnswer (Outcome (QLockReply O)))) {old new : List (QueueEvent (QLockCall F R))} {local local' : Threads}
    → SchedPolled (lock_kernel protocol opening) ActsFor by (call.Pass p) answer old new local local' → (c : CpuId) → ActsFor c
    → IsLawful (QueueAllowed (lock_kernel protocol opening)) new
    → (slept : List (Option BufId)) → SleptFits protocol opening c old slept → SleptFits protocol opening c new slept
slept_passed protocol opening {by} p answer {old} polled c acts lawful slept coupled t b is =
    let one =
    slept_others protocol opening c polled.others old (polled.foreign c acts) (before_pass protocol opening by (polled.others ++ old) (is_some answer) p
    (subst (λ l. IsLawful (QueueAllowed (lock_kernel protocol opening)) l) polled.is lawful)) slept coupled t b is in
    record {
      here = one.here;
      awaits = subst (λ s. HasOrAwaits t (lock_after protocol (inner opening) (Buffer b) s))
          (sym (ap buffer_sections polled.is ∙ same_sections protocol opening by (polled.others ++ old) (is_some answer) p)) one.awaits;
    }
