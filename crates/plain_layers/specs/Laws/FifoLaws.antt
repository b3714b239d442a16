-- The threads that a machine of attempts reports as waiting: the wait lists agree with the places.
use Rattle.std.{specs.Prelude.{◌≡◌, List, length, Option, refl}, proofs.Common.ap}
use Rattle.layer_traits.specs.Blocks.{Capacities.caps_in, QueueBlocks.{homes_in, inner}}
use Rattle.layer_traits.specs.{Views.Renaming.viewed, declared.queue_edits.QueueBlock.QueueBlock}
use Rattle.layer_traits.specs.{declared.queues.QueueEvent.QueueEvent, Layers.IpcLaw.WaitListsAgree}
use Rattle.layer_traits.specs.Layers.{Queues.{buffer_sections, moves_in}, Sleeping.wait_list_at}
use Rattle.layer_traits.specs.Layers.{Sleeping.sleep_edited, SleepLaw.sleep_kernel}
use Rattle.{layer_traits.specs.Threads.ListsAgree.ListsAgree, plain_layers.specs.Fifos.plain_shown}
use Rattle.plain_layers.specs.Fifos.{PlainLocked, fresh_buffer, fresh_buffers, wait_lists_in}
use Rattle.plain_layers.specs.{declared.attempts.Attempt.Attempt, Attempts.attempts}
use Rattle.event_log.specs.declared.ids.LockId.{LockId, TheVariants.{Pending, Buffer}}
use Rattle.fifo_buffer.specs.Laws.WaitLists.{lists_agree}

-- the wait lists of the buffers agree with the places
pub plain_wait_lists : (opening : LockId → Option (QueueBlock PlainLocked))
    (past : List (QueueEvent Attempt))
    → inner opening ≡ fresh_buffers (caps_in (viewed plain_shown opening))
    → ListsAgree attempts opening past
    → WaitListsAgree (length (caps_in (viewed plain_shown opening))) (homes_in opening)
    (moves_in (sleep_kernel attempts opening) past)
    (wait_lists_in (inner opening) (buffer_sections past))
plain_wait_lists opening past fresh agree =
    lists_agree (sleep_edited attempts) (inner opening) (buffer_sections past) fresh_buffer
    (caps_in (viewed plain_shown opening)) wait_list_at
    (homes_in opening)
    (moves_in (sleep_kernel attempts opening) past) (λ d. ap (λ locks. locks (Pending d)) fresh)
    (λ b. ap (λ locks. locks (Buffer b)) fresh)
    (λ line. refl) agree
