-- The coupling invariant: a part of the buffers and its machine agree.
use Rattle.std.specs.Prelude.{◌≡◌, ℕ, List, Option}
use Rattle.event_log.specs.declared.ids.{CpuId.CpuId, LockId.LockId, Tid.Tid}
use Rattle.layer_traits.specs.declared.buffer_edits.{BufferEdit.BufferEdit, BufferReply.BufferReply}
use Rattle.layer_traits.specs.declared.queue_edits.QueueBlock.{QueueBlock}
use Rattle.layer_traits.specs.declared.{scheds.SchedCall.SchedCall, call_states.CallState.CallState}
use Rattle.layer_traits.specs.Blocks.{BufferEffects.opening_locks, BufferProtocol.BufferLock}
use Rattle.layer_traits.specs.Blocks.{QueueBlocks.{homes_in, inner}, Capacities.caps_in}
use Rattle.layer_traits.specs.Layers.{Conditions.CvCall, CvLaw.Waiting, Queues.buffer_sections}
use Rattle.fifo_buffer.specs.SectionPolls.{BufferEvent, CallsFit, Sizes}

-- the machine opened with a fresh lock around each buffer
abbrev pub BootsSo : (LockId → Option (QueueBlock BufferLock)) → Type 0
BootsSo opening = inner opening ≡ opening_locks (caps_in opening)

-- the lists by thread have their sizes, and each call state agrees with what was done
pub record PartFits (opening : LockId → Option (QueueBlock BufferLock)) (c : CpuId)
    (past : List BufferEvent) (local : Waiting BufferReply)
    (call_states : List CallState) (under_way : Option (SchedCall (CvCall BufferEdit)))
    (calling : Option Tid) : Type 0 where
  pub boots : BootsSo opening
  pub sizes : Sizes local call_states
  pub calls : CallsFit (homes_in opening) c (inner opening) (buffer_sections past) local call_states
      under_way calling
