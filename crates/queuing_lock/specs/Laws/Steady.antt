-- What calls of other CPUs preserve: whether a thread owns a lock, sleeps for it, or neither.
use Rattle.std.proofs.Common.{◌≡◌, ◌≢◌, ◌⊎◌, inl, inr, Bool, ◌&&◌, ◌||◌, not, nat_lt, true, false}
use Rattle.std.proofs.Common.{List, [], ◌∷◌, ◌++◌, Option, Some, None, option_map, arith}
use Rattle.std.proofs.Common.{if◌then◌else◌, refl, ap, sym, ◌∙◌, subst}
use Rattle.event_log.specs.declared.ids.{BufId.BufId, CpuId.CpuId, LockId.LockId}
use Rattle.event_log.specs.declared.ids.{LockId.TheVariants.Buffer, Tid.Tid, TheConstants.THREADS}
use Rattle.event_log.specs.History.{AreOthers, IsLawful, same_cpu, same_lock}
use Rattle.event_log.proofs.Same.{same_cpu_self, same_lock_true}
use Rattle.layer_traits.specs.declared.locked.QLockCall.{QLockCall, TheVariants.{Acquire, Inside}}
use Rattle.layer_traits.specs.declared.locked.QLockCall.TheVariants.{Release}
use Rattle.layer_traits.specs.declared.queue_edits.QueueBlock.{QueueBlock}
use Rattle.layer_traits.specs.declared.queues.QueueCall.{QueueCall, TheVariants.{Push, TakeAll}}
use Rattle.layer_traits.specs.declared.queues.QueueCall.TheVariants.{OnBuffer}
use Rattle.layer_traits.specs.{declared.queues.QueueEvent.QueueEvent, Layers.QLocking.IsOwners}
use Rattle.layer_traits.specs.Layers.QLocking.{LockRules, LockState, lock_after, lock_asked_by}
use Rattle.layer_traits.specs.Layers.QLocking.{lock_caller, lock_edited, owner_in}
use Rattle.layer_traits.specs.Layers.{QLockLaw.{HasOrAwaits, lock_kernel}, Queues.CallAllowed}
use Rattle.layer_traits.specs.Layers.Queues.{QueueAllowed, buffer_sections, cpu_of_queue_event}
use Rattle.layer_traits.specs.Layers.{Queues.with_section, Sleeping.joined}
use Rattle.layer_traits.specs.{Threads.Places.home_of, Blocks.QueueBlocks.{homes_in, inner}}
use Rattle.thread_blocks.{specs.Queues.{first, is_in, rest, same_tid}, proofs.Distinct.out_of_rest}
use Rattle.thread_blocks.proofs.{Distinct.pushed_in, Members.same_tid_true}
use Rattle.queuing_lock.specs.Steady.{HasNothing, IsOwner, IsPreserved, IsKeptByOwners}

module _ {F R B O : Type 0} (protocol : LockRules F R B O)
    (opening : LockId → Option (QueueBlock (LockState B)))
    (kept : IsPreserved protocol opening) where
  open kept use {t, P, keeps, c, at_home, lock}

  preserved_section : (b : BufId) (e : QLockCall F R) (before at : Option (LockState B))
      → (lock ≡ Buffer b → before ≡ at) → IsOwners protocol e (owner_in at)
      → (lock_caller protocol e ≡ t → ⊥)
      → (same : Bool) → same_lock lock (Buffer b) ≡ same → P before
      → P (if same then option_map (lock_edited protocol e) before else before)
  preserved_section b e before at same_block owners apart false other holds = holds
  preserved_section b e None at same_block owners apart true here holds = holds
  preserved_section b e (Some state) at same_block owners apart true here holds =
      keeps e state (subst (λ o. IsOwners protocol e (owner_in o))
      (sym (same_block (same_lock_true lock (Buffer b) here))) owners) apart holds

  -- by a call of another thread
  pub preserved_by : (past : List (QueueEvent (QLockCall F R))) (d : CpuId) (b : BufId)
      (e : QLockCall F R)
      → IsOwners protocol e (owner_in
      (lock_after protocol (inner opening) (Buffer b) (buffer_sections past)))
      → (lock_caller protocol e ≡ t → ⊥)
      → P (lock_after protocol (inner opening) lock (buffer_sections past))
      → P (lock_after protocol (inner opening) lock
      (with_section d (OnBuffer b e) (buffer_sections past)))
  preserved_by past d b e owners apart holds =
      preserved_section b e (lock_after protocol (inner opening) lock (buffer_sections past))
      (lock_after protocol (inner opening) (Buffer b) (buffer_sections past))
      (λ is. ap (λ l. lock_after protocol (inner opening) l (buffer_sections past)) is) owners apart
      (same_lock lock (Buffer b)) refl holds

  other_caller : (d : CpuId) (u : Tid) → same_cpu d c ≡ false
      → home_of (homes_in opening) u ≡ Some d → u ≡ t → ⊥
  other_caller d u differs home is = grind (arith, at_home, same_cpu_self)

  preserved_call : (past : List (QueueEvent (QLockCall F R))) (d : CpuId)
      (q : QueueCall (QLockCall F R))
      → CallAllowed (lock_kernel protocol opening) past d q
      → same_cpu d c ≡ false
      → P (lock_after protocol (inner opening) lock (buffer_sections past))
      → P (lock_after protocol (inner opening) lock (with_section d q (buffer_sections past)))
  preserved_call past d (Push to u) allowed differs holds = holds
  preserved_call past d (TakeAll from) allowed differs holds = holds
  preserved_call past d (OnBuffer b e) allowed differs holds =
      preserved_by past d b e allowed.upper.owners
      (other_caller d (lock_caller protocol e) differs allowed.caller.home) holds

  -- and by calls of other CPUs than the thread's home
  pub preserved_by_others : (more past : List (QueueEvent (QLockCall F R)))
      → AreOthers cpu_of_queue_event c more
      → IsLawful (QueueAllowed (lock_kernel protocol opening)) (more ++ past)
      → P (lock_after protocol (inner opening) lock (buffer_sections past))
      → P (lock_after protocol (inner opening) lock (buffer_sections (more ++ past)))
  preserved_by_others [] past others lawful holds = holds
  preserved_by_others (e ∷ more) past others lawful holds =
      preserved_call (more ++ past) e.cpu e.call lawful.0 others.0
      (preserved_by_others more past others.1 lawful.1 holds)

-- Lists of sleepers.

joined_keeps : (t u : Tid) (queue : List Tid) → is_in t queue ≡ true
    → is_in t (joined u queue) ≡ true
joined_keeps t u queue stands = grind (arith, pushed_in)

joined_only : (t u : Tid) (queue : List Tid) → (u ≡ t → ⊥) → is_in t queue ≡ false
    → is_in t (joined u queue) ≡ false
joined_only t u queue apart missing = grind (arith, pushed_in, same_tid_true)

-- a thread in a queue is its first or after the first
front_or_behind : (t : Tid) (queue : List Tid) → is_in t queue ≡ true
    → (first queue ≡ Some t) ⊎ (is_in t (rest queue) ≡ true)
front_or_behind t queue stands = grind (arith, same_tid_true)

-- The three preserved properties.

module _ {F R B O : Type 0} (protocol : LockRules F R B O) (t : Tid) where
  -- a thread that owns a lock or sleeps for it continues to do so while others call
  pub keeps_awaits : IsKeptByOwners protocol t (HasOrAwaits t)
  keeps_awaits e state owners apart holds = grind (arith, joined_keeps, front_or_behind)

  -- a thread that neither owns a lock nor sleeps for it continues to do neither
  pub keeps_nothing : IsKeptByOwners protocol t (HasNothing protocol t)
  keeps_nothing (Acquire u) state owners apart holds = grind (arith, joined_only)
  keeps_nothing (Inside f) state owners apart holds = holds
  keeps_nothing (Release r) state owners apart holds = out_of_rest t state.sleepers holds.1

  -- and an owner owns it until it releases it
  pub keeps_owned : IsKeptByOwners protocol t (IsOwner protocol t)
  keeps_owned e state owners apart holds = grind arith
