-- A part and its polls, from the private state of the lower part: what is owed below, and what was
-- done here.
use Rattle.std.proofs.Common.{arith, ◌≡◌, ◌≢◌, true, false, if◌then◌else◌, List, ◌++◌, Option, Some, None, option_map, is_some, map, refl, ap, sym, ◌∙◌, subst}
use Rattle.std.proofs.{Common.{◌<◌}, Math.Path.transport, lemmas.Option.slice_get_within}
use Rattle.event_log.specs.{declared.ids.{BufId.BufId, CpuId.CpuId, LockId.{LockId, TheVariants.Buffer}, TheConstants.THREADS, Tid.Tid}, Actions.Action}
use Rattle.event_log.{specs.{Actions.renamed, History.IsLawful, Sections.renamed_section}, proofs.BoolLemmas.none_of}
use Rattle.layer_traits.specs.declared.{locked.{QLockCall.{QLockCall, TheVariants.{Acquire, Inside, Release}}, QLockReply.QLockReply}, passes.Pass.Pass}
use Rattle.layer_traits.specs.declared.{payloads.MessageSlot.MessageSlot, queue_edits.{QueueBlock.QueueBlock, QueueEdit.QueueEdit, QueueAnswer.QueueAnswer}}
use Rattle.layer_traits.specs.declared.{queues.QueueEvent.QueueEvent, scheds.SchedCall.SchedCall, moves.WaitList.TheVariants.Sleepers, sleeps.Outcome.Outcome}
use Rattle.layer_traits.specs.Threads.{ListsAgree.{ListsAgree, is_at}, Places.{AreMoves, Stands, home_of, one_if, wait_channel_of}}
use Rattle.layer_traits.specs.Layers.QLocking.{LockAllowed, LockRules, LockState, wait_list_in, lock_after, lock_caller, lock_moves, lock_rules}
use Rattle.layer_traits.specs.Layers.QLockLaw.{LockPolled, Locking, MayGo, MayLock, left_after, left_handed, lock_pass_plan, lock_plan, locks_passed}
use Rattle.layer_traits.specs.Layers.{QLockLaw.{HasOrAwaits, plan_for, slept_for}, Queues.{QueueAllowed, buffer_sections, moves_in}, Scheds.EditStays}
use Rattle.layer_traits.specs.Layers.{SleepLaw.{MayCall, MaySleep, SleepPolled, Sleeping, pass_plan, sleep_plan}, Sleeping.{SleepState, sleep_moves}}
use Rattle.layer_traits.specs.{Layers.Sleeping.sleep_rules, Blocks.{Payloads.abstract_lock_call, QueueBlocks.{StartsWell, homes_in, inner}}}
use Rattle.layer_traits.specs.{Blocks.QueueRules.queue_rules, Polling.Plans.{Follows, Left, Plan, raised, table_of}, Views.Renaming.{plan_named, renamed_edit}}
use Rattle.layer_traits.{specs.Views.Renaming.{renamed_events, renamed_sched, viewed}, proofs.{CallLemmas.follows_raised, KernelRenaming.follows_named}}
use Rattle.layer_traits.proofs.{KernelRenaming.{homes_viewed, stays_renamed}, CountLemmas.not_counted, PlaceLemmas.current_at, SleepRenaming.pass_plan_renamed}
use Rattle.{layer_traits.proofs.SleepRenaming.{sleep_plan_renamed, sleeps_renamed}, queuing_lock.specs.declared.edits.QLockBlock.QLockBlock}
use Rattle.queuing_lock.specs.{declared.edits.QLockSection.QLockSection, Nested.{as_section, busy_rules, lock_call, nested_lock_of}, Parts.DeferredFits}
use Rattle.queuing_lock.specs.{Parts.{SleptFits, asks_again, slept_left_by}, Laws.NestedLaws.{beneath_the_lock, at_the_lock, inner_locks, locks_lawful}}
use Rattle.queuing_lock.{specs.Laws.NestedLaws.{locks_lists, locks_moves_legal, locks_stand, locks_wrap}, proofs.DeferredLemmas.{DeferredIn, asks_none}}
use Rattle.queuing_lock.proofs.{DeferredLemmas.{deferred_result, deferred_goes, may_beneath}, OwnerLemmas.owners_stay, PollLemmas.awaits_owner}
use Rattle.{queuing_lock.proofs.PollLemmas.{slept_of_others, slept_polled, slept_queued}, thread_blocks.specs.Queues.is_in}
use Rattle.layer_traits.specs.declared.scheds.SchedCall.TheVariants as call

-- the call pending below is the one pending here, whatever the result reports
pub under_is : {F R A T : Type 0} (abstract_answer : A → T) (under : Option (SchedCall (QLockSection F R))) (answer : Option A)
    (s : SchedCall (QLockSection F R))
    → under ≡ (if is_some answer then None else Some s)
    → option_map (renamed_sched lock_call) under ≡ (if is_some (option_map abstract_answer answer) then None else Some (renamed_sched lock_call s))
under_is abstract_answer under answer s is = grind arith

-- a caller that slept for a lock calls only its Acquire
slept_alone : {H F R B O : Type 0} (protocol : LockRules F R B O) (abstract_call : H → MessageSlot → F) (message_slot : MessageSlot) (call : QLockCall H R)
    (slept : List (Option BufId))
    (under : Option (SchedCall (QLockCall F R))) (b : BufId) (duty : Type 0)
    → MayGo (slept_for slept (lock_caller protocol (abstract_lock_call abstract_call call message_slot))) under b
    (abstract_lock_call abstract_call call message_slot)
    (lock_caller protocol (abstract_lock_call abstract_call call message_slot)) duty
    → is_some (slept_for slept (lock_caller protocol (abstract_lock_call abstract_call call message_slot))) ≡ asks_again slept call
slept_alone protocol abstract_call message_slot call slept under b duty may = grind arith

-- what a part knows before a poll
pub record Before {F R B O : Type 0} (protocol : LockRules F R B O) (opening : LockId → Option (QueueBlock (SleepState (QLockBlock B)))) : Type 0 where
  pub c : CpuId
  pub b : BufId
  pub e : QLockCall F R
  pub past : List (QueueEvent (QLockSection F R))
  pub local : Sleeping (QLockReply O)
  pub under : Option (SchedCall (QLockSection F R))
  pub slept : List (Option BufId)
  pub starts : StartsWell opening
  pub moves_legal : AreMoves (homes_in opening) (moves_in (beneath_the_lock protocol opening) past)
  pub stands : Stands (homes_in opening) c (moves_in (beneath_the_lock protocol opening) past) local.threads
  pub lists : ListsAgree (busy_rules protocol) opening past
  pub coupled : SleptFits protocol (viewed nested_lock_of opening) c (renamed_events lock_call past) slept
  pub deferred : DeferredFits (option_map (renamed_sched lock_call) under) local.deferred local.threads.hand
  pub caller : local.threads.current ≡ Some (lock_caller protocol e)
  pub may : MayGo (slept_for slept (lock_caller protocol e)) (option_map (renamed_sched lock_call) under) b e (lock_caller protocol e)
      (MayLock protocol (at_the_lock protocol opening) c (renamed_events lock_call past) local.threads.hand b e)

module _ {F R B O : Type 0} {protocol : LockRules F R B O} {opening : LockId → Option (QueueBlock (SleepState (QLockBlock B)))}
    (before : Before protocol opening) where
  open before use {c, b, e, past, local, under, slept}

  -- the history and the opening here, the pending call, the calling thread, and what the first poll
  -- of the call owes
  abbrev history : List (QueueEvent (QLockCall F R))
  history = renamed_events lock_call past

  abbrev locks_here : LockId → Option (QueueBlock (LockState B))
  locks_here = viewed nested_lock_of opening

  abbrev under_here : Option (SchedCall (QLockCall F R))
  under_here = option_map (renamed_sched lock_call) under

  abbrev t : Tid
  t = lock_caller protocol e

  abbrev duty : Type 0
  duty = MayLock protocol (at_the_lock protocol opening) c history local.threads.hand b e

  legal_here : AreMoves (homes_in locks_here) (moves_in (at_the_lock protocol opening) history)
  legal_here = locks_moves_legal protocol opening past before.moves_legal

  stands_here : Stands (homes_in locks_here) c (moves_in (at_the_lock protocol opening) history) local.threads
  stands_here = locks_stand protocol opening c past local.threads before.stands

  at_home : home_of (homes_in locks_here) t ≡ Some c
  at_home = (current_at _ c _ local.threads legal_here stands_here t before.caller).0

  -- the caller sleeps for no lock
  awake_here : (lock : LockId) → is_in t (wait_list_in Sleepers (lock_after protocol (inner locks_here) lock (buffer_sections history))) ≡ false
  awake_here lock = not_counted t (wait_list_in Sleepers (lock_after protocol (inner locks_here) lock (buffer_sections history)))
      (locks_lists protocol opening past before.lists lock Sleepers t
      ∙ ap (λ w. one_if (is_at lock Sleepers (wait_channel_of w))) (current_at _ c _ local.threads legal_here stands_here t before.caller).1)

  -- and is a thread of the machine
  pub caller_small : t.0 < THREADS
  caller_small = grind (arith, homes_viewed, at_home, slice_get_within)

  -- therefore its call determines whether it slept
  pub slept_asks : {H : Type 0} (abstract_call : H → MessageSlot → F) (message_slot : MessageSlot) (call : QLockCall H R)
      → abstract_lock_call abstract_call call message_slot ≡ e
      → is_some (slept_for slept t) ≡ asks_again slept call
  slept_asks abstract_call message_slot call is = grind (arith, slept_alone)

  -- a thread that slept for the lock owns it now
  pub sleeper_handed : (ActsFor : CpuId → Type 0) (x : Option BufId) → slept_for slept t ≡ x → is_some x ≡ true → MayGo x under_here b e t duty
      → LockPolled protocol (at_the_lock protocol opening) ActsFor c b e x history history (record { sleep = local; slept = slept }) under_here
      (left_handed t slept local)
  sleeper_handed ActsFor None is some may = absurd cc
  sleeper_handed ActsFor (Some at) is some may = record {
    owns = awaits_owner t (lock_after protocol (inner locks_here) (Buffer b) (buffer_sections history))
        (subst (λ x. HasOrAwaits t (lock_after protocol (inner locks_here) (Buffer x) (buffer_sections history))) may.1 (before.coupled t at is).awaits)
        (awake_here (Buffer b));
    ends = may.0;
    leaves = refl;
  }

  module _ (awake : is_some (slept_for slept t) ≡ false) where
    pub sleeps_for_none : slept_for slept t ≡ None
    sleeps_for_none = none_of (slept_for slept t) awake

    goes : MayCall under_here (call.OnBuffer b e) duty
    goes = subst (λ x. MayGo x under_here b e t duty) sleeps_for_none before.may

    -- the call stays allowed under environment steps
    stays : duty → EditStays (at_the_lock protocol opening) c history (call.OnBuffer b e)
    stays may more others lawful = record {
      owners = owners_stay protocol locks_here c b e history at_home (awake_here (Buffer b)) may.owners more others lawful;
      granted = may.stays more others lawful;
    }

    -- therefore the section may be polled below
    pub beneath_owed : MayCall under (call.OnBuffer b (as_section e)) (MaySleep (beneath_the_lock protocol opening) c past local.threads b (as_section e))
    beneath_owed = may_beneath under b e duty (MaySleep (beneath_the_lock protocol opening) c past local.threads b (as_section e)) (λ may. record {
      current = before.caller;
      hand = may.empty;
      stays = λ more others lawful. rw (← inner_locks protocol opening)
          (stays_renamed _ _ _ _ (locks_wrap protocol opening) c past b (as_section e) (stays may) more others lawful);
    }) goes

    deferred_now : DeferredFits (Some (call.OnBuffer b e)) local.deferred local.threads.hand
    deferred_now = deferred_goes under_here local.deferred local.threads.hand b e duty before.deferred goes (λ may. may.empty)

    module _ {ActsFor : CpuId → Type 0} {new : List (QueueEvent (QLockSection F R))} {got : Left (Sleeping (QLockReply O)) (Outcome (QLockReply O))}
        (polled : SleepPolled (beneath_the_lock protocol opening) ActsFor c b (as_section e) past new local got) where
      -- the lower layer's poll is a poll here
      polled_here : SleepPolled (at_the_lock protocol opening) ActsFor c b e history (renamed_events lock_call new) local got
      polled_here = sleeps_renamed _ _ _ _ (locks_wrap protocol opening) _ _ _ _ _ _ _ _ polled

      pub locks : (under' : Option (SchedCall (QLockCall F R))) (got' : Left (Locking O) (Outcome (QLockReply O)))
          → under' ≡ (if is_some got.answer then None else Some (call.OnBuffer b e)) → got' ≡ left_after t b slept got.local got.answer
          → LockPolled protocol (at_the_lock protocol opening) ActsFor c b e (slept_for slept t) history (renamed_events lock_call new)
          (record { sleep = local; slept = slept }) under' got'
      locks under' got' ends leaves = rw sleeps_for_none
          (record { left = got; polled = polled_here; ends = ends; asks = asks_none local.deferred local.threads.hand b e deferred_now; leaves = leaves })

      -- what is deferred agrees with the call that continues
      pub deferred_after : DeferredIn protocol locks_here c b e got
      deferred_after =
          deferred_result protocol locks_here c b e polled_here.poll_result (polled_here.others ++ history) local got polled_here.may polled_here.leaves
          deferred_now

      module _ (acts : ActsFor c) (lawful : IsLawful (QueueAllowed (beneath_the_lock protocol opening)) new) where
        -- a thread that slept owns its lock or still sleeps for it
        pub slept_after : SleptFits protocol locks_here c (renamed_events lock_call new) slept
        slept_after = slept_polled protocol locks_here c polled_here acts (locks_lawful protocol opening new lawful) slept sleeps_for_none before.coupled

        pub slept_reported : (outcome : Outcome (QLockReply O)) → got.answer ≡ Some outcome
            → SleptFits protocol locks_here c (renamed_events lock_call new) (slept_left_by t b slept outcome)
        slept_reported outcome answer =
            slept_queued protocol locks_here c polled_here acts (locks_lawful protocol opening new lawful) slept sleeps_for_none before.coupled outcome
            at_home caller_small answer deferred_now

-- the part of another CPU still agrees
pub others_after : {F R B O : Type 0} (protocol : LockRules F R B O) (opening : LockId → Option (QueueBlock (SleepState (QLockBlock B)))) (c d : CpuId) → c ≢ d
    → {ActsFor : CpuId → Type 0} {b : BufId} {e : QLockCall F R} {past new : List (QueueEvent (QLockSection F R))} {local : Sleeping (QLockReply O)}
    {got : Left (Sleeping (QLockReply O)) (Outcome (QLockReply O))}
    → SleepPolled (beneath_the_lock protocol opening) ActsFor d b (as_section e) past new local got → ActsFor c
    → IsLawful (QueueAllowed (beneath_the_lock protocol opening)) new → (slept : List (Option BufId))
    → SleptFits protocol (viewed nested_lock_of opening) c (renamed_events lock_call past) slept
    → SleptFits protocol (viewed nested_lock_of opening) c (renamed_events lock_call new) slept
others_after protocol opening c d apart polled acts lawful slept coupled = slept_of_others protocol (viewed nested_lock_of opening) c d apart acts slept
    (sleeps_renamed _ _ _ _ (locks_wrap protocol opening) _ _ _ _ _ _ _ _ polled) (locks_lawful protocol opening _ lawful) coupled

-- A poll that followed its plan below followed it here.

module _ {F R B O : Type 0} (protocol : LockRules F R B O) (opening : LockId → Option (QueueBlock (SleepState (QLockBlock B)))) (ActsFor : CpuId → Type 0)
    (c : CpuId)
    (acts acts' : List (Action (QueueEdit (QLockSection F R)))) where
  -- a poll followed a plan of the lower layer
  abbrev pub FollowsBeneath : {S A : Type 0} → Plan (QueueEdit (QLockSection F R)) (QueueAnswer (Outcome (QLockReply O))) S A → Left S A → Type 0
  FollowsBeneath plan got
      = Follows ActsFor (table_of (queue_rules (sleep_rules (busy_rules protocol)) (sleep_moves (busy_rules protocol)))) opening c plan acts acts' got

  -- a poll followed a plan here
  abbrev pub FollowsHere : {S A : Type 0} → Plan (QueueEdit (QLockCall F R)) (QueueAnswer (Outcome (QLockReply O))) S A → Left S A → Type 0
  FollowsHere plan got = Follows ActsFor (table_of (queue_rules (lock_rules protocol) (lock_moves protocol))) (viewed nested_lock_of opening) c plan
      (map (renamed (renamed_edit lock_call)) acts) (map (renamed (renamed_edit lock_call)) acts') got

  -- therefore a plan of the lower layer that is this one here, raised, was followed here
  raised_here : {S T A C : Type 0} (f : Left S A → Left T C) (plan : Plan (QueueEdit (QLockSection F R)) (QueueAnswer (Outcome (QLockReply O))) S A)
      (plan' : Plan (QueueEdit (QLockCall F R)) (QueueAnswer (Outcome (QLockReply O))) S A) → plan_named (renamed_edit lock_call) plan ≡ plan'
      → (got : Left S A)
      → FollowsBeneath plan got → FollowsHere (raised f plan') (f got)
  raised_here f plan plan' is got follows = follows_raised _ _ _ _ f plan' _ _ got (subst (λ plan. FollowsHere plan got) is
      (follows_named _ _ _ _ (locks_wrap protocol opening) ActsFor opening c plan acts acts' got follows))

  module _ (local : Sleeping (QLockReply O)) (slept : List (Option BufId)) where
    pub locks_follow : (b : BufId) (e : QLockCall F R) (got : Left (Sleeping (QLockReply O)) (Outcome (QLockReply O)))
        → slept_for slept (lock_caller protocol e) ≡ None
        → (got' : Left (Locking O) (Outcome (QLockReply O))) → got' ≡ left_after (lock_caller protocol e) b slept got.local got.answer
        → FollowsBeneath (sleep_plan (sleep_moves (busy_rules protocol)) (homes_in opening) c b (as_section e) local) got
        → FollowsHere (lock_plan (lock_moves protocol) (homes_in (viewed nested_lock_of opening)) c b e (record { sleep = local; slept = slept })) got'
    locks_follow b e got none got' leaves follows =
        transport (λ i. FollowsHere (plan_for (lock_moves protocol) (homes_in (viewed nested_lock_of opening)) c b e (record { sleep = local; slept = slept })
        (sym none i)) (sym leaves i)) (raised_here (λ l. left_after (lock_caller protocol e) b slept l.local l.answer) _ _
        (sleep_plan_renamed _ _ _ _ (locks_wrap protocol opening) (homes_in opening) c b (as_section e) local
        ∙ ap (λ h. sleep_plan (lock_moves protocol) h c b e local) (sym (homes_viewed nested_lock_of opening))) got follows)

    pub locks_pass_follow : (p : Pass) (got : Left (Sleeping (QLockReply O)) (Unit {0}))
        → FollowsBeneath (pass_plan (sleep_moves (busy_rules protocol)) (homes_in opening) c p local) got
        → FollowsHere (lock_pass_plan (lock_moves protocol) (homes_in (viewed nested_lock_of opening)) c p (record { sleep = local; slept = slept }))
        (locks_passed slept got)
    locks_pass_follow p got follows = raised_here (locks_passed slept) _ _
        (pass_plan_renamed _ _ _ _ (locks_wrap protocol opening) (homes_in opening) c p local
        ∙ ap (λ h. pass_plan (lock_moves protocol) h c p local) (sym (homes_viewed nested_lock_of opening))) got follows
