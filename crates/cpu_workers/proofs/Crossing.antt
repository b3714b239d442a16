-- The blocks and edits of the tower may go from thread to thread.
use denote.RattleType.{RattleType}
use denote.Enum.Declared.{shape}
use denote.Ref.{NamedLft}
use denote.Hole.{as_row}
use denote.Param.SendFields.{declared_send}
use denote.Param.Send.{IsSend, IsSync, sendable, array_send, enum_send, enum_sync, recorded_send, recorded_sync, view_send}
use Rattle.{std.{proofs.Crossing.crosses, specs.contracts.option.Option.the_row as option_row}, layer_traits.specs.Blocks.Payloads.abstract_buffer_edit}
use Rattle.layer_traits.specs.Blocks.Payloads.{abstract_buffer_answer, abstract_cv_edit, abstract_cv_answer, abstract_lock_answer, abstract_queue_edit}
use Rattle.layer_traits.specs.{Blocks.Payloads.abstract_queue_answer, contracts.queue_edits.QueueBlock.{the_field as block_field, the_row as block_row}}
use Rattle.layer_traits.specs.contracts.queue_edits.{QueueBlock.the_type as block_type, QueueEdit.the_row as edit_row, QueueAnswer.the_row as queue_answer_row}
use Rattle.layer_traits.specs.contracts.{queue_edits.BareQueueAnswer.the_row as bare_answer_row, calls.Call.the_row as call_row}
use Rattle.layer_traits.specs.contracts.{call_states.CallState.{the_row as call_state_row, the_type as call_state_type}, payloads.Ghost.the_row as ghost_of_row}
use Rattle.layer_traits.specs.contracts.conditions.{CvEdit.the_row as cv_edit_row, CvLeave.the_row as cv_leave_row, CvReply.the_row as cv_out_row}
use Rattle.layer_traits.specs.contracts.buffer_edits.{BufferEdit.the_row as buffer_edit_row, BareBufferEdit.the_row as bare_edit_row}
use Rattle.layer_traits.specs.contracts.buffer_edits.{BufferReply.the_row as buffer_out_row, BareBufferReply.the_row as bare_out_row}
use Rattle.layer_traits.specs.contracts.{edits.Mark.the_row as mark_row, buffer_blocks.BufferBlock.the_row as buffer_block_row}
use Rattle.layer_traits.specs.contracts.{sleeps.Outcome.the_row as outcome_row, locked.QLockReply.the_row as lock_out_row}
use Rattle.layer_traits.proofs.block_box.BlockBox.TheSendSync.{the_send as box_send, the_sync as box_sync}
use Rattle.layer_traits.proofs.{buffer_edits.BareBufferReply.TheSendSync.the_send as bare_out_send, conditions.CvReply.TheSendSync.the_send as cv_out_send}
use Rattle.layer_traits.proofs.{locked.QLockReply.TheSendSync.the_send as lock_out_send, sleeps.Outcome.TheSendSync.the_send as outcome_send}
use Rattle.layer_traits.proofs.payloads.{MessageSlot.TheSendSync.the_send as parcel_send, Payload.TheSendSync.the_send as payload_send}
use Rattle.layer_traits.proofs.{call_states.Stage.TheSendSync.the_send as stage_send, calls.Effect.TheSendSync.the_send as effect_send}
use Rattle.layer_traits.proofs.buffer_blocks.BufferBlock.TheSendSync.{the_send as buffer_block_send, the_sync as buffer_block_sync}
use Rattle.queuing_lock.specs.{Nested.abstract_lock_section, contracts.edits.{QLockSection.the_row as lock_edit_row, QLockBlock.the_row as lock_block_row}}
use Rattle.queuing_lock.proofs.edits.QLockBlock.TheSendSync.{the_send as lock_block_send, the_sync as lock_block_sync}
use Rattle.sleep_wakeup.specs.{Nested.{abstract_nested_edit, abstract_nested_answer}, contracts.edits.SleepEdit.the_row as sleep_edit_row}
use Rattle.sleep_wakeup.specs.contracts.{edits.SleepBlock.the_row as sleep_block_row, deferred.DeferredOutcome.the_row as deferred_row}
use Rattle.sleep_wakeup.specs.contracts.{deferred.DeferredOutcome.the_type as deferred_type, sleeper.Sleeper.{the_row as sleeper_row, the_type as sleeper_type}}
use Rattle.sleep_wakeup.proofs.edits.SleepBlock.TheSendSync.{the_send as sleep_block_send, the_sync as sleep_block_sync}
use Rattle.{event_log.specs.declared.ids.TheConstants.THREADS, table_machine.proofs.Crossing.{ghost_send, seat_send}}
use Rattle.{table_machine.specs.contracts.seats.Seat.the_field as table_seat_field, thread_blocks.specs.contracts.queues.ThreadQueue.the_row as queue_row}
use Rattle.thread_blocks.proofs.queues.ThreadQueue.TheSendSync.{the_send as queue_send, the_sync as queue_sync}
use Rattle.fifo_buffer.specs.contracts.{call_state_table.CallStates.{the_row as call_states_row, the_type as call_states_type}, fifo.Fifo.the_row as fifo_row}
use Rattle.{fifo_buffer.specs.contracts.fifo.Fifo.the_type as fifo_type, spinlock.specs.contracts.spin_lock.SpinLock.the_row as spin_lock_row}
use Rattle.spinlock.{specs.contracts.spin_lock.SpinLock.the_type as spin_lock_type, proofs.stages.TicketPhase.TheSendSync.the_send as ticket_phase_send}
use Rattle.cpu_workers.specs.contracts.workers.seats.TowerSeat.{the_row as seat_row, TheInside.the_type as inside_type}
use Rattle.cpu_workers.proofs.bells.Bells.TheSendSync.{the_sync as bells_sync}

deferred_send : (E A : RattleType) → IsSend A → IsSend (deferred_row E A)
deferred_send E A s = declared_send (deferred_type E A)
    (search (sendable, crosses), (ghost_send E, (outcome_send A s, (parcel_send, tt))))

sleeper_send : (E S B O H A : RattleType) → IsSend S → IsSend A → IsSend (sleeper_row E S B O H A)
sleeper_send E S B O H A s answer = declared_send (sleeper_type E S B O H A)
    (search (sendable, crosses), (search (sendable, crosses, deferred_send) depth 9, tt))

abbrev lock_edit_of : RattleType → RattleType
lock_edit_of edit = lock_edit_row (cv_edit_row edit) cv_leave_row

abbrev lock_out_of : RattleType → RattleType
lock_out_of out = lock_out_row (cv_out_row out)

-- so a sleeper of the tower does, over a scheduler that does
pub tower_sleeper_send : (S : RattleType) → IsSend S
    → IsSend (sleeper_row (lock_edit_of buffer_edit_row) S (lock_block_row buffer_block_row) (lock_out_of buffer_out_row)
    (lock_edit_of bare_edit_row) (lock_out_of bare_out_row))
tower_sleeper_send S s = sleeper_send (lock_edit_of buffer_edit_row) S (lock_block_row buffer_block_row)
    (lock_out_of buffer_out_row) (lock_edit_of bare_edit_row) (lock_out_of bare_out_row) s (lock_out_send _ (cv_out_send _ bare_out_send))

-- a thread's call is meant, and has no bytes: therefore its state may be sent from thread to
-- thread, and so may the table of them
call_state_send : IsSend call_state_row
call_state_send = declared_send call_state_type (
  stage_send,
  (ghost_send (option_row call_row), (search (sendable, crosses), (search (sendable, crosses, effect_send) depth 9, tt))),
)

call_states_send : IsSend call_states_row
call_states_send = declared_send call_states_type (array_send call_state_row THREADS call_state_send, tt)

-- and so may a part of the buffers, over conditions that may: whose call is under way is meant, and
-- has no bytes
pub fifo_send : (C : RattleType) → IsSend C → IsSend (fifo_row C)
fifo_send C s = declared_send (fifo_type C)
    (search (sendable, crosses), (call_states_send, (search (sendable, crosses, ghost_send) depth 9, (payload_send, tt))))

field_send : (B : RattleType) → IsSend B → IsSend (block_field B).row
field_send B s = enum_send (shape (block_type B))
    ((box_send queue_row queue_send, (search (sendable, crosses), tt)), ((box_send B s, tt), tt))

field_sync : (B : RattleType) → IsSync B → IsSync (block_field B).row
field_sync B s = enum_sync (shape (block_type B))
    ((box_sync queue_row queue_sync, (search (sendable, crosses), tt)), ((box_sync B s, tt), tt))

pub block_send : (B : RattleType) → IsSend B → IsSend (block_row B)
block_send B s = recorded_send (block_field B).row _ _ (block_type B).to_one (field_send B s)

pub block_sync : (B : RattleType) → IsSync B → IsSync (block_row B)
block_sync B s = recorded_sync (block_field B).row _ _ (block_type B).to_one (field_sync B s)

seat_part : (a : NamedLft) (E K B O H A : RattleType) (g : _) (k : _) → IsSend B → IsSync B → IsSend (as_row (table_seat_field a E K B O H A g k))
seat_part a E K B O H A g k s y = seat_send a E K B O H A g k s y

abbrev edit_over : RattleType → RattleType
edit_over edit = edit_row (sleep_edit_row (lock_edit_of edit))

abbrev edit : RattleType
edit = edit_over buffer_edit_row

tower_block_send : IsSend (block_row (sleep_block_row (lock_block_row buffer_block_row)))
tower_block_send = block_send _ (sleep_block_send _ (lock_block_send _ buffer_block_send))

tower_block_sync : IsSync (block_row (sleep_block_row (lock_block_row buffer_block_row)))
tower_block_sync = block_sync _ (sleep_block_sync _ (lock_block_sync _ buffer_block_sync))

abbrev answer : RattleType
answer = queue_answer_row (outcome_row (lock_out_of buffer_out_row))

abbrev handed : RattleType
handed = edit_over bare_edit_row

abbrev response : RattleType
response = bare_answer_row (outcome_row (lock_out_of bare_out_row))

abbrev guarded : RattleType
guarded = block_row (sleep_block_row (lock_block_row buffer_block_row))

-- a seat may be sent from thread to thread, whatever its words are
pub tower_seat_send : (a : NamedLft) (K : RattleType) (k : _) → IsSend (seat_row a K k)
tower_seat_send a K k = view_send _ _ _ _ _ (declared_send (inside_type a K k) (
  seat_part a edit K _ answer handed response (record {
    protocol = _;
    abstract_call = abstract_queue_edit (abstract_nested_edit (abstract_lock_section (abstract_cv_edit abstract_buffer_edit)));
    abstract_answer = abstract_queue_answer (abstract_nested_answer (abstract_lock_answer (abstract_cv_answer abstract_buffer_answer)));
  }) _
      tower_block_send tower_block_sync,
  (search (sendable, crosses, bells_sync) depth 9, tt),
))

-- and so does a lock over it
pub turn_send : (a : NamedLft) (K : RattleType) (k : _) (LockProtocol : RattleType)
    → IsSend (spin_lock_row (seat_row a K k) LockProtocol edit (mark_row edit) guarded answer handed response)
turn_send a K k LockProtocol = declared_send (spin_lock_type (seat_row a K k) LockProtocol edit (mark_row edit) guarded answer handed response) (
  search (sendable, crosses),
  (
    ticket_phase_send (ghost_of_row edit) guarded (ghost_send edit) tower_block_send,
    (search (sendable, crosses, tower_seat_send) depth 9, (search (sendable, crosses), tt)),
  ),
)
