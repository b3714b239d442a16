-- What is deferred agrees with the pending call and the hand: only the outcome of a call inside or
-- of a release is deferred.
use Rattle.std.proofs.Common.{◌≡◌, Bool, true, false, ◌&&◌, not, if◌then◌else◌, List, [], Option, Some, None, option_map, is_some, IsSome, refl, ap, sym, ◌∙◌}
use Rattle.std.proofs.Common.{arith, subst}
use Rattle.event_log.specs.{declared.ids.{BufId.BufId, CpuId.CpuId, LockId.{LockId, TheVariants.Buffer}, Tid.Tid}, Sections.block_after}
use Rattle.layer_traits.specs.declared.{locked.{QLockCall.{QLockCall, TheVariants.{Acquire, Inside, Release}}, QLockReply.QLockReply}, moves.WaitList.WaitList}
use Rattle.layer_traits.specs.declared.{moves.WaitList.TheVariants.{Sleepers, Receivers, Senders}, queue_edits.QueueBlock.QueueBlock}
use Rattle.layer_traits.specs.declared.{queues.QueueEvent.QueueEvent, scheds.SchedCall.{SchedCall, TheVariants.{Pass, OnBuffer}}, passes.Pass.Pass as PassCall}
use Rattle.layer_traits.specs.{declared.sleeps.Outcome.Outcome, Layers.QLocking.{AreAtRest, IsAtRest, LockRules, LockState, wait_list_asked, wait_list_slept}}
use Rattle.layer_traits.specs.Layers.{QLocking.{lock_answer, lock_edited, lock_moves, lock_out, asker_report}, QLockLaw.{IsAcquire, lock_kernel}}
use Rattle.layer_traits.specs.Layers.{Queues.buffer_sections, Scheds.own_answered, SleepLaw.{PollResult, MayCall, MayDo, Sleeping, WaitsStill, Does, SendsHome}}
use Rattle.layer_traits.specs.{Layers.{SleepLaw.{left_with, must_send}, Sleeping.{NoSleepers, SleepState, wait_list_at}}, Threads.Places.Threads}
use Rattle.layer_traits.specs.{Threads.Passes.{own_slept, passed_on}, Blocks.QueueBlocks.inner, Views.Renaming.{renamed_sched, viewed}, Polling.Plans.Left}
use Rattle.{layer_traits.proofs.KernelRenaming.inner_viewed, queuing_lock.specs.declared.edits.{QLockBlock.QLockBlock, QLockSection.QLockSection}}
use Rattle.queuing_lock.specs.{Nested.{as_section, lock_call, nested_lock_of}, Parts.{DeferredFits, is_queued}}

nobody_in : {B : Type 0} (line : WaitList) (o : Option (SleepState (QLockBlock B))) → IsAtRest (option_map nested_lock_of o) → wait_list_at line o ≡ []
nobody_in line o rest = grind arith

-- where locks are at rest no thread is asleep below
pub nobody_beneath : {B : Type 0} (opening : LockId → Option (QueueBlock (SleepState (QLockBlock B)))) → AreAtRest (inner (viewed nested_lock_of opening))
    → NoSleepers (inner opening)
nobody_beneath opening rest lock line = nobody_in line (inner opening lock) (subst (λ o. IsAtRest o) (inner_viewed nested_lock_of opening lock) (rest lock))

-- a part at boot has no deferred outcome
pub fresh_deferred : {F R O : Type 0} (under : Option (SchedCall (QLockSection F R))) (deferred : Option (Outcome (QLockReply O))) (hand : Option Tid)
    → under ≡ None
    → deferred ≡ None → DeferredFits (option_map (renamed_sched lock_call) under) deferred hand
fresh_deferred under deferred hand none nothing = grind arith

-- Pending calls below and here.

pub may_beneath : {F R : Type 0} (under : Option (SchedCall (QLockSection F R))) (b : BufId) (e : QLockCall F R) (duty owed : Type 0) → (duty → owed)
    → MayCall (option_map (renamed_sched lock_call) under) (OnBuffer b e) duty → MayCall under (OnBuffer b (as_section e)) owed
may_beneath under b e duty owed gives may = grind arith

-- a call continues, and what is deferred agrees with it
pub deferred_goes : {F R O : Type 0} (under : Option (SchedCall (QLockCall F R))) (deferred : Option (Outcome (QLockReply O))) (hand : Option Tid) (b : BufId)
    (e : QLockCall F R) (duty : Type 0)
    → DeferredFits under deferred hand → MayCall under (OnBuffer b e) duty → (duty → hand ≡ None) → DeferredFits (Some (OnBuffer b e)) deferred hand
deferred_goes under deferred hand b e duty coupled may empty = grind arith

-- a thread that asks for a lock finds nothing deferred
pub asks_none : {F R O : Type 0} (deferred : Option (Outcome (QLockReply O))) (hand : Option Tid) (b : BufId) (e : QLockCall F R)
    → DeferredFits (Some (OnBuffer b e)) deferred hand → IsAcquire e → deferred ≡ None
asks_none deferred hand b e coupled given = grind arith

-- and while a call continues with nothing deferred the hand is empty
hand_empty : {F R O : Type 0} (deferred : Option (Outcome (QLockReply O))) (hand : Option Tid) (b : BufId) (e : QLockCall F R)
    → DeferredFits (Some (OnBuffer b e)) deferred hand → deferred ≡ None → hand ≡ None
hand_empty deferred hand b e coupled given = grind arith

-- what is deferred is not reported to a queued thread
pub deferred_is : {F R O : Type 0} (deferred : Option (Outcome (QLockReply O))) (hand : Option Tid) (b : BufId) (e : QLockCall F R)
    (outcome : Outcome (QLockReply O))
    → DeferredFits (Some (OnBuffer b e)) deferred hand → deferred ≡ Some outcome → is_queued outcome.out ≡ false
deferred_is deferred hand b e outcome coupled is = grind arith

module _ {F R B O : Type 0} (protocol : LockRules F R B O) (homes : List CpuId) (c : CpuId) (local : Threads) (empty : local.hand ≡ None) where
  -- if a thread must be forwarded to its home CPU, the caller is not asking for a lock, and is not
  -- queued
  sends_inside : (e : QLockCall F R) (state : LockState B)
      → must_send (lock_answer protocol e state) (own_answered (lock_moves protocol) homes c (Some (lock_answer protocol e state)) local) ≡ true
      → (IsAcquire e → ⊥) × (is_queued (lock_out protocol e state) ≡ false)
  sends_inside e state sends = grind (arith, empty)

  sends_by : (e : QLockCall F R) (o : Option (LockState B)) (outcome : Outcome (QLockReply O)) → option_map (lock_answer protocol e) o ≡ Some outcome
      → must_send outcome (own_answered (lock_moves protocol) homes c (Some outcome) local) ≡ true → (IsAcquire e → ⊥) × (is_queued outcome.out ≡ false)
  sends_by e o outcome is sends = grind (arith, sends_inside)

module _ {F R B O : Type 0} (protocol : LockRules F R B O) (opening : LockId → Option (QueueBlock (LockState B))) (c : CpuId) (b : BufId)
    (e : QLockCall F R) where
  -- what is deferred agrees with the call that continues, where a poll left this
  abbrev pub DeferredIn : Left (Sleeping (QLockReply O)) (Outcome (QLockReply O)) → Type 0
  DeferredIn got = DeferredFits {F = F} {R = R} (if is_some got.answer then None else Some (OnBuffer b e)) got.local.deferred got.local.threads.hand

  left_deferred : (outcome : Outcome (QLockReply O)) (threads : Threads) (send : Bool) → (send ≡ true → (IsAcquire e → ⊥) × (is_queued outcome.out ≡ false))
      → DeferredIn (if send then record { local = record { threads = threads; deferred = Some outcome }; answer = None } else record
      { local = record { threads = threads; deferred = None }; answer = Some outcome })
  left_deferred outcome threads send given = grind arith

  sent : (deferred : Option (Outcome (QLockReply O))) (threads : Threads) → IsSome deferred
      → DeferredIn (record { local = record { threads = threads; deferred = None }; answer = deferred })
  sent deferred threads some = grind arith

  left_fits : (poll_result : PollResult (QLockReply O)) (past : List (QueueEvent (QLockCall F R))) (local : Sleeping (QLockReply O))
      → MayDo (lock_kernel protocol opening) c b e poll_result past local
      → DeferredFits (Some (OnBuffer b e)) local.deferred local.threads.hand → DeferredIn (left_with (lock_kernel protocol opening) c b e poll_result local)
  left_fits WaitsStill past local may coupled = coupled
  left_fits (Does outcome) past local may coupled =
      let threads : Threads = own_answered (lock_moves protocol) (lock_kernel protocol opening).homes c (Some outcome) local.threads in
      left_deferred outcome threads (must_send outcome threads)
      (sends_by protocol (lock_kernel protocol opening).homes c local.threads (hand_empty local.deferred local.threads.hand b e coupled may.0) e
      (block_after (lock_edited protocol) (inner opening) (Buffer b) (buffer_sections past)) outcome may.1)
  left_fits (SendsHome t) past local may coupled = sent local.deferred (passed_on local.threads) may.0

  -- what is deferred after a poll agrees with the call that continues, or with none
  pub deferred_result : (poll_result : PollResult (QLockReply O)) (past : List (QueueEvent (QLockCall F R))) (local : Sleeping (QLockReply O))
      (got : Left (Sleeping (QLockReply O)) (Outcome (QLockReply O))) → MayDo (lock_kernel protocol opening) c b e poll_result past local
      → got ≡ left_with (lock_kernel protocol opening) c b e poll_result local → DeferredFits (Some (OnBuffer b e)) local.deferred local.threads.hand
      → DeferredIn got
  deferred_result poll_result past local got may leaves coupled = subst (λ l. DeferredIn l) (sym leaves) (left_fits poll_result past local may coupled)

-- a pass leaves what is deferred
pub deferred_passed : {F R O : Type 0} (under : Option (SchedCall (QLockCall F R))) (deferred : Option (Outcome (QLockReply O))) (hand hand' : Option Tid)
    (p : PassCall)
    (duty : Type 0) (done : Bool)
    → DeferredFits under deferred hand → MayCall under (Pass p) duty → DeferredFits {F = F} {R = R} (if done then None else Some (Pass p)) deferred hand'
deferred_passed under deferred hand hand' p duty done coupled may = grind arith
