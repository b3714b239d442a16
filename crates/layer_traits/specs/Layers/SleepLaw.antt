-- What one poll of a sleeping layer adds to the history, and what it leaves of the part's private
-- state.
use Rattle.std.specs.Prelude.{◌≡◌, Bool, not, ◌&&◌, List, ◌∷◌, ◌++◌, Option, Some, None, IsSome}
use Rattle.std.specs.Prelude.{option_map, is_some, if◌then◌else◌}
use Rattle.event_log.specs.declared.ids.{BufId.BufId, CpuId.CpuId, LockId.LockId, Tid.Tid}
use Rattle.event_log.specs.History.{AreForeign}
use Rattle.layer_traits.specs.declared.queue_edits.{QueueBlock.QueueBlock, QueueEdit.QueueEdit}
use Rattle.layer_traits.specs.declared.queue_edits.QueueAnswer.{QueueAnswer}
use Rattle.layer_traits.specs.declared.queues.QueueCall.TheVariants.{Push, OnBuffer}
use Rattle.layer_traits.specs.declared.{queues.QueueEvent.QueueEvent, passes.Pass.Pass}
use Rattle.layer_traits.specs.declared.{passes.Pass.TheVariants.MakeReady, sleeps.Outcome.Outcome}
use Rattle.layer_traits.specs.declared.scheds.SchedAnswer.{SchedAnswer, TheVariants.{Done, Answer}}
use Rattle.layer_traits.specs.{declared.scheds.SchedCall.SchedCall, Threads.MoveRules.MoveRules}
use Rattle.layer_traits.specs.Threads.{Passes.{queue_for, passed_on}, Places.Threads}
use Rattle.layer_traits.specs.{Polling.Plans.{Left, Plan, raised}, Layers.Queues.{Kernel, kernel}}
use Rattle.layer_traits.specs.Layers.{Queues.{event, cpu_of_queue_event, out_at}, Scheds.EditStays}
use Rattle.layer_traits.specs.Layers.{Scheds.{own_answered, sched_plan}, Sleeping.SleepRules}
use Rattle.layer_traits.specs.Layers.Sleeping.{SleepState, sleep_rules, sleep_moves}
use Rattle.layer_traits.specs.declared.scheds.SchedCall.TheVariants as call

-- all definitions of what the sections of a sleeping layer mean
abbrev pub sleep_kernel : {E B O : Type 0} → SleepRules E B O
    → (LockId → Option (QueueBlock (SleepState B))) → Kernel E (SleepState B) (Outcome O)
sleep_kernel protocol opening = kernel (sleep_rules protocol) (sleep_moves protocol) opening

-- a part's private state: its threads, and the deferred outcome, that of a section that returns
-- once the thread which it woke has left the hand
pub record Sleeping (O : Type 0) : Type 0 where
  pub threads : Threads
  pub deferred : Option (Outcome O)

-- a section may begin: its caller runs here, the CPU's hand is empty, and it is allowed and stays
-- so
pub record MaySleep {E B O : Type 0} (k : Kernel E B O) (c : CpuId) (past : List (QueueEvent E))
    (local : Threads) (b : BufId) (e : E) : Type 0 where
  pub current : local.current ≡ Some (k.moves.caller e)
  pub hand : local.hand ≡ None
  pub stays : EditStays k c past (call.OnBuffer b e)

-- a call may be polled: the first poll owes this duty, and after that it is the same call
abbrev pub MayCall : {S : Type 0} → Option S → S → Type 0 → Type 0
MayCall None s duty = duty
MayCall (Some under_way) s duty = under_way ≡ s

-- what a poll of a section did: nothing visible to other CPUs, the section itself, or the
-- forwarding of the thread that the section woke to its home CPU
pub data PollResult (O : Type 0) : Type 0 where
  WaitsStill : PollResult O
  Does : (outcome : Outcome O) → PollResult O
  SendsHome : (t : Tid) → PollResult O

-- the caller continues, and a thread in the hand must first be forwarded to its home CPU
abbrev pub must_send : {O : Type 0} → Outcome O → Threads → Bool
must_send outcome local = not outcome.slept && is_some local.hand

-- what a section leaves if it was done with this outcome, and the threads are now these
abbrev pub left_done : {O : Type 0} → Outcome O → Threads → Left (Sleeping O) (Outcome O)
left_done outcome threads =
    if must_send outcome threads
    then record { local = record { threads = threads; deferred = Some outcome }; answer = None }
    else record { local = record { threads = threads; deferred = None }; answer = Some outcome }

module _ {E B O : Type 0} (k : Kernel E B (Outcome O)) (c : CpuId) (b : BufId) (e : E) where
  -- a poll result may follow this past: a section if none has been done yet, with its outcome
  -- there. A thread is forwarded from the hand once its section is done
  abbrev pub MayDo : PollResult O → List (QueueEvent E) → Sleeping O → Type 0
  MayDo WaitsStill past local = Unit {0}
  MayDo (Does outcome) past local = (local.deferred ≡ None) × (out_at k past b e ≡ Some outcome)
  MayDo (SendsHome t) past local = IsSome local.deferred × (local.threads.hand ≡ Some t)

  -- the history with a poll result
  abbrev pub seen_with : PollResult O → List (QueueEvent E) → List (QueueEvent E)
  seen_with WaitsStill past = past
  seen_with (Does outcome) past = event c (OnBuffer b e) ∷ past
  seen_with (SendsHome t) past = event c (Push (queue_for k.homes c t) t) ∷ past

  -- what a poll result leaves
  abbrev pub left_with : PollResult O → Sleeping O → Left (Sleeping O) (Outcome O)
  left_with WaitsStill local = record { local = local; answer = None }
  left_with (Does outcome) local =
      left_done outcome (own_answered k.moves k.homes c (Some outcome) local.threads)
  left_with (SendsHome t) local =
      record {
        local = record { threads = passed_on local.threads; deferred = None };
        answer = local.deferred;
      }

-- a poll of a section: environment events are first, then at most one poll result, which leaves
-- this
pub record SleepPolled {E B O : Type 0} (k : Kernel E B (Outcome O)) (ActsFor : CpuId → Type 0)
    (c : CpuId) (b : BufId) (e : E)
    (old new : List (QueueEvent E)) (local : Sleeping O)
    (got : Left (Sleeping O) (Outcome O)) : Type
    0 where
  pub others : List (QueueEvent E)
  pub foreign : AreForeign ActsFor cpu_of_queue_event others
  pub poll_result : PollResult O
  pub may : MayDo k c b e poll_result (others ++ old) local
  pub is : new ≡ seen_with k c b e poll_result (others ++ old)
  pub leaves : got ≡ left_with k c b e poll_result local

-- the call on the scheduler that is due, according to the hand
abbrev pub due : {E : Type 0} → Option Tid → BufId → E → SchedCall E
due None b e = call.OnBuffer b e
due (Some t) b e = call.Pass (MakeReady t)

-- what the scheduler's result leaves, if this outcome is deferred and the threads are now these
abbrev pub left_reported : {O : Type 0} → Option (Outcome O) → Threads
    → Option (SchedAnswer (Outcome O)) → Left (Sleeping O) (Outcome O)
left_reported deferred threads None =
    record { local = record { threads = threads; deferred = deferred }; answer = None }
left_reported deferred threads (Some Done) =
    record { local = record { threads = threads; deferred = None }; answer = deferred }
left_reported deferred threads (Some (Answer outcome)) = left_done outcome threads

-- the plan of a section's poll: that of the call which is due on the scheduler
abbrev pub sleep_plan : {E O : Type 0} → MoveRules E (Outcome O) → List CpuId → CpuId → BufId → E
    → Sleeping O
    → Plan (QueueEdit E) (QueueAnswer (Outcome O)) (Sleeping O) (Outcome O)
sleep_plan mv homes c b e local =
    raised (λ l. left_reported local.deferred l.local l.answer)
    (sched_plan mv homes c (due local.threads.hand b e) local.threads)

-- the scheduler's result of a call that is passed down
abbrev pub done_if : {O : Type 0} → Option (Unit {0}) → Option (SchedAnswer O)
done_if result = option_map (λ u. Done) result

-- what a call that is passed down leaves
abbrev pub left_passed : {O A : Type 0} → Option (Outcome O) → Left Threads A
    → Left (Sleeping O) (Unit {0})
left_passed deferred l =
    record {
      local = record { threads = l.local; deferred = deferred };
      answer = option_map (λ a. tt) l.answer;
    }

-- the plan of a call that is passed down
abbrev pub pass_plan : {E O : Type 0} → MoveRules E (Outcome O) → List CpuId → CpuId → Pass
    → Sleeping O
    → Plan (QueueEdit E) (QueueAnswer (Outcome O)) (Sleeping O) (Unit {0})
pass_plan mv homes c p local =
    raised (left_passed local.deferred) (sched_plan mv homes c (call.Pass p) local.threads)

-- why the poll of a whole machine returns no result: the section was done in it, and its woken
-- thread must now be forwarded to its home CPU
pub record MustSend {O : Type 0} (old new : Sleeping O) : Type 0 where
  pub before : old.deferred ≡ None
  pub after : IsSome new.deferred
