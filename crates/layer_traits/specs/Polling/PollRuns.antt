-- Consecutive polls: what one poll of a call did, what one poll of its section's lock did, and
-- polls of both kinds one after the other.
use Rattle.std.specs.Prelude.{◌≡◌, ℕ, ◌+◌, ◌<◌, ◌≤◌, Bool, true, false, List, Option, Some, None}
use Rattle.std.specs.Prelude.{length}
use Rattle.event_log.specs.declared.{entries.Entry.Entry, ids.{CpuId.CpuId, LockId.LockId, Tid.Tid}}
use Rattle.{event_log.specs.Actions.Action, layer_traits.specs.declared.calls.Call.Call}
use Rattle.layer_traits.specs.declared.calls.{Reply.Reply, ReplyKind.ReplyKind}
use Rattle.layer_traits.specs.declared.buffer_edits.BufferEdit.{BufferEdit}
use Rattle.layer_traits.specs.declared.queue_edits.{QueueEdit.QueueEdit, QueueBlock.QueueBlock}
use Rattle.layer_traits.specs.Layers.BufferLaw.{BufferPlan, Buffering, Called, IsRefused, MovesGrow}
use Rattle.layer_traits.specs.Layers.BufferLaw.{OthersSeen, RunsOn, UnderWay, answer_in, buffer_of}
use Rattle.layer_traits.specs.Layers.BufferLaw.{call_state_of, going, still_calling}
use Rattle.layer_traits.specs.Layers.{Conditions.CvCall, IpcLaw.NothingDone, QLocking.lock_moves}
use Rattle.layer_traits.specs.{Layers.QLocking.lock_rules, Views.OwnParts.threads_in}
use Rattle.layer_traits.specs.Blocks.BufferProtocol.{BufferLock, buffer_rules}
use Rattle.layer_traits.specs.Blocks.{QueueBlocks.homes_in, Capacities.caps_in}
use Rattle.layer_traits.specs.{Blocks.QueueRules.queue_rules, Polling.{Framed.Framed, Looks.Tries}}
use Rattle.layer_traits.specs.{Polling.Plans.{Follows, table_of}, Threads.Places.Step}

module _ {P M : Type 0} (Coupled : P → M → Type 0) (cpu_of : P → CpuId)
    (opening_of : M → LockId → Option (QueueBlock BufferLock)) (site_of : M → List ℕ)
    (room_of : M → ℕ) (ActsFor MayHold : M → CpuId → Type 0) (own_of : P → Buffering)
    (is_inside : P → Bool) (under_way_of : P → Option UnderWay) (seen_of : M → List Entry)
    (moves_of : M → List Step) (acts_of : M → List (Action (QueueEdit (CvCall BufferEdit))))
    (IsWhole IsStepwise : Type 0)
    (plan : ℕ → List CpuId → CpuId → Tid → Call → Buffering → BufferPlan Reply) where
  -- a poll of the lock took the part p and the machine m to q and n, and returned whether it
  -- polled: all that such a poll guarantees
  pub record Looked (abstract_answer : Bool) (p : P) (m : M) (q : P) (n : M) : Type 0 where
    pub still : abstract_answer ≡ false → (q ≡ p) × (n ≡ m)
    pub waits : abstract_answer ≡ true → is_inside p ≡ true
    pub framed : Framed Coupled cpu_of opening_of site_of room_of ActsFor MayHold p q m n
    pub local : own_of q ≡ own_of p
    pub inside : is_inside q ≡ is_inside p
    pub under_way : under_way_of q ≡ under_way_of p
    pub history : OthersSeen (ActsFor m) (seen_of m) (seen_of n)
    pub moves : MovesGrow (ActsFor m) (cpu_of p) (moves_of m) (moves_of n)
    pub tries : IsStepwise → abstract_answer ≡ true
        → Tries (ActsFor m) (cpu_of p) (acts_of m) (acts_of n)

  -- consecutive polls of the lock took the part p and the machine m to this part and machine, and
  -- the number of actions taken from `before` to this one
  pub data LookedOn (p : P) (m : M) (before : ℕ) : (taken : ℕ) → P → M → Type 0 where
    none : LookedOn p m before before p m
    more : {taken : ℕ} {q r : P} {n o : M} → LookedOn p m before taken q n → Looked true q n r o
        → LookedOn p m before (taken + 1) r o

  module _ (t : Tid) (call : Call) where
    -- a poll of the call took the part p and the machine m to q and n, with this result: all that a
    -- poll guarantees
    pub record Polled (p : P) (m : M) (q : P) (n : M) (answer : Option Reply) : Type 0 where
      pub nothing : length (caps_in (opening_of m)) ≤ (buffer_of call).0
          → NothingDone m n p q answer
      pub called : (buffer_of call).0 < length (caps_in (opening_of m))
          → Called (ActsFor m) (cpu_of p) t call (own_of p).call_states (own_of q).call_states
          (seen_of m) (seen_of n) answer
      pub runs : (buffer_of call).0 < length (caps_in (opening_of m))
          → RunsOn t (threads_in (own_of p)) (threads_in (own_of q)) answer
      pub under_way : (buffer_of call).0 < length (caps_in (opening_of m))
          → under_way_of q ≡ still_calling t (threads_in (own_of q)).current answer
      pub moves : MovesGrow (ActsFor m) (cpu_of p) (moves_of m) (moves_of n)
      pub prompt : IsWhole → answer ≡ None
          → IsRefused call (caps_in (opening_of m)) (seen_of n)
          × ((threads_in (own_of q)).current ≡ None)
      pub framed : Framed Coupled cpu_of opening_of site_of room_of ActsFor MayHold p q m n
      pub follows : IsStepwise
          → Follows (ActsFor m)
          (table_of (queue_rules (lock_rules buffer_rules) (lock_moves buffer_rules)))
          (opening_of m) (cpu_of p)
          (plan (length (caps_in (opening_of m))) (homes_in (opening_of m)) (cpu_of p) t call
          (own_of p)) (acts_of m) (acts_of n)
          (record { local = own_of q; answer = answer })

    -- the call that began in the part p has not ended in q, its thread runs, and it has had no
    -- effect since
    pub record IsBegun (p q : P) : Type 0 where
      pub runs : (threads_in (own_of q)).current ≡ Some t
      pub effect : (call_state_of (own_of q).call_states t).effect
          ≡ (going (call_state_of (own_of p).call_states t) call).effect

    -- so many polls of the call and of its section's lock, of which the first is one of the call.
    -- They took the part p and the machine m to this part and machine, and the last returned this
    -- kind. After each poll except the last, the call had not ended and had had no effect
    pub data PolledOn (p : P) (m : M) : (actions : ℕ) → P → M → (abstract_answer : Option ReplyKind)
        → Type 0 where
      once : {q : P} {n : M} {abstract_answer : Option ReplyKind}
          → Polled p m q n (answer_in (own_of q).call_states t abstract_answer)
          → PolledOn p m 1 q n abstract_answer
      again : {k : ℕ} {q r : P} {n o : M} {abstract_answer : Option ReplyKind}
          → PolledOn p m k q n None
          → IsBegun p q
          → Polled q n r o (answer_in (own_of r).call_states t abstract_answer)
          → PolledOn p m (k + 1) r o abstract_answer
      looks : {k : ℕ} {q r : P} {n o : M} → PolledOn p m k q n None → IsBegun p q
          → Looked true q n r o → PolledOn p m (k + 1) r o None
