-- The section of a call that is passed down means that of the call that is meant.
use Rattle.std.proofs.Common.{arith, ◌≡◌, ◌∙◌}
use Rattle.{event_log.specs.declared.ids.{CpuId.CpuId, LockId.LockId}, layer_traits.specs.declared.{payloads.Payload.Payload, queue_edits.QueueEdit.QueueEdit}}
use Rattle.layer_traits.specs.{declared.queues.QueueCall.QueueCall, Blocks.Payloads.{abstract_queue_call, abstract_queue_edit}, Protocols.Protocol.section}
use Rattle.layer_traits.specs.Layers.Queues.{queue_edit_of, lock_of}

module _ {H E : Type 0} (abstract_call : H → Payload → E) (payload : Payload) where
  -- the lock is the same, and the edit means that of the call
  means : (cpu : CpuId) (call : QueueCall H) → section cpu (lock_of call) (abstract_queue_edit abstract_call (queue_edit_of call) payload)
      ≡ section cpu (lock_of (abstract_queue_call abstract_call call payload)) (queue_edit_of (abstract_queue_call abstract_call call payload))
  means cpu call = grind arith

  pub meant_section : (cpu : CpuId) (call : QueueCall H) (lock : LockId) (edit : QueueEdit H) → lock ≡ lock_of call → edit ≡ queue_edit_of call
      → section cpu lock (abstract_queue_edit abstract_call edit payload)
      ≡ section cpu (lock_of (abstract_queue_call abstract_call call payload)) (queue_edit_of (abstract_queue_call abstract_call call payload))
  meant_section cpu call lock edit at edits = (λ i. section cpu (at i) (abstract_queue_edit abstract_call (edits i) payload)) ∙ means cpu call
