-- What the owner of a lock may do stays permitted under environment steps.
use Rattle.std.proofs.Common.{arith, ◌≡◌, ◌≢◌, false, List, ◌++◌, Option, Some, None}
use Rattle.event_log.specs.{declared.ids.{BufId.BufId, CpuId.CpuId, LockId.{LockId, TheVariants.Buffer}, Tid.Tid}, History.{AreOthers, IsLawful}}
use Rattle.layer_traits.specs.declared.{locked.QLockCall.{QLockCall, TheVariants.{Acquire, Inside, Release}}, moves.WaitList.TheVariants.Sleepers}
use Rattle.layer_traits.specs.{declared.{queue_edits.QueueBlock.QueueBlock, queues.QueueEvent.QueueEvent}, Layers.QLocking.{IsOwners, LockRules, LockState}}
use Rattle.layer_traits.specs.Layers.{QLocking.{wait_list_in, lock_after, lock_caller, owner_in, owner_of}, QLockLaw.lock_kernel, Queues.QueueAllowed}
use Rattle.layer_traits.specs.{Layers.Queues.{buffer_sections, cpu_of_queue_event}, Threads.Places.home_of, Blocks.QueueBlocks.{homes_in, inner}}
use Rattle.{thread_blocks.specs.Queues.is_in, queuing_lock.specs.{Laws.Steady.{keeps_nothing, keeps_owned, preserved_by_others}, Steady.HasNothing}}
use Rattle.queuing_lock.specs.Steady.{IsPreserved, IsOwner}

module _ {F R B O : Type 0} (protocol : LockRules F R B O) (opening : LockId → Option (QueueBlock (LockState B))) where
  nothing_at : (t : Tid) (o : Option (LockState B)) → owner_in o ≢ Some t → is_in t (wait_list_in Sleepers o) ≡ false → HasNothing protocol t o
  nothing_at t o apart missing = grind arith

  not_owner : (t : Tid) (o : Option (LockState B)) → HasNothing protocol t o → owner_in o ≢ Some t
  not_owner t o nothing = grind arith

  abbrev owns : (t : Tid) (c : CpuId) (b : BufId) → home_of (homes_in opening) t ≡ Some c → IsPreserved protocol opening
  owns t c b at = record { t = t; P = IsOwner protocol t; keeps = keeps_owned protocol t; c = c; at_home = at; lock = Buffer b }

  -- the call stays the owner's, and an Acquire stays that of a thread which is not the owner
  pub owners_stay : (c : CpuId) (b : BufId) (e : QLockCall F R) (past : List (QueueEvent (QLockCall F R)))
      → home_of (homes_in opening) (lock_caller protocol e) ≡ Some c
      → is_in (lock_caller protocol e) (wait_list_in Sleepers (lock_after protocol (inner opening) (Buffer b) (buffer_sections past))) ≡ false
      → IsOwners protocol e (owner_of protocol (inner opening) (buffer_sections past) (Buffer b)) → (more : List (QueueEvent (QLockCall F R)))
      → AreOthers cpu_of_queue_event c more → IsLawful (QueueAllowed (lock_kernel protocol opening)) (more ++ past)
      → IsOwners protocol e (owner_of protocol (inner opening) (buffer_sections (more ++ past)) (Buffer b))
  owners_stay c b (Acquire t) past at awake owners more others lawful =
      not_owner t (lock_after protocol (inner opening) (Buffer b) (buffer_sections (more ++ past))) (preserved_by_others protocol opening
      (record { t = t; P = HasNothing protocol t; keeps = keeps_nothing protocol t; c = c; at_home = at; lock = Buffer b }) more past others lawful
      (nothing_at t (lock_after protocol (inner opening) (Buffer b) (buffer_sections past)) owners awake))
  owners_stay c b (Inside f) past at awake owners more others lawful =
      preserved_by_others protocol opening (owns (protocol.caller f) c b at) more past others lawful owners
  owners_stay c b (Release r) past at awake owners more others lawful =
      preserved_by_others protocol opening (owns (protocol.last_caller r) c b at) more past others lawful owners
