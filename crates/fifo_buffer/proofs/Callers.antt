-- A thread that runs on a CPU and whose call takes a section poll there: its CPU's part and the log
-- before the section poll.
use Rattle.std.proofs.Common.{◌≡◌, ◌<◌, List, length, Option, Some}
use Rattle.{fifo_buffer.specs.SectionPolls.{BufferOutcome, BufferEvent}, layer_traits.specs.Blocks.BufferBlocks.BufferState}
use Rattle.layer_traits.specs.{Blocks.{BufferProtocol.{buffer_monitor_rules, BufferLock}, QueueBlocks.homes_in}, Layers.QLockLaw.lock_kernel}
use Rattle.layer_traits.specs.Layers.{QLocking.LockRules, Conditions.{CvCall, cv_rules}, Queues.{QueueAllowed, Kernel}, CvLaw.Waiting}
use Rattle.layer_traits.specs.declared.{conditions.{CvReply.CvReply, CvLeave.CvLeave, CvEdit.CvEdit}, buffer_edits.BufferEdit.BufferEdit}
use Rattle.layer_traits.specs.{declared.{buffer_edits.BufferReply.BufferReply, calls.Call.Call, queue_edits.QueueBlock.QueueBlock}, Threads.Places.home_of}
use Rattle.event_log.specs.{History.IsLawful, declared.ids.{CpuId.CpuId, LockId.LockId, Tid.Tid, TheConstants.THREADS}}

-- what the calls of the conditions mean with the protocol of buffers, and which events a machine
-- allows that opened so
abbrev pub monitored : LockRules (CvEdit BufferEdit) CvLeave BufferState (CvReply BufferReply)
monitored = cv_rules buffer_monitor_rules

abbrev pub kernel_of : (LockId → Option (QueueBlock BufferLock)) → Kernel (CvCall BufferEdit) BufferLock BufferOutcome
kernel_of opening = lock_kernel monitored opening

abbrev pub AreLawful : (LockId → Option (QueueBlock BufferLock)) → List BufferEvent → Type 0
AreLawful opening past = IsLawful (QueueAllowed (kernel_of opening)) past

pub record Caller : Type 1 where
  pub opening : LockId → Option (QueueBlock BufferLock)
  pub ActsFor : CpuId → Type 0
  pub c : CpuId
  pub acts : ActsFor c
  pub t : Tid
  pub home : home_of (homes_in opening) t ≡ Some c
  pub small : t.0 < THREADS
  pub call : Call
  pub local : Waiting BufferReply
  pub slept_size : length local.lock.slept ≡ THREADS
  pub waits_size : length local.waits ≡ THREADS
  pub runs : local.lock.sleep.threads.current ≡ Some t
  pub old : List BufferEvent
