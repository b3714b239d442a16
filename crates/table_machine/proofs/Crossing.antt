-- Keys and seats may move between threads, and threads may share a table. The edit in a slot is
-- only for clauses, and the toolchain derives no such lemma for a type that contains such a value;
-- therefore these are the lemmas of the slot, and of all that is made of slots.
use denote.RattleType.{RattleType}
use denote.Ref.{NamedLft}
use denote.Param.SendFields.{declared_send, declared_sync}
use denote.Param.Send.{IsSend, IsSync, sendable, view_send, view_sync}
use Rattle.std.proofs.Crossing.{crosses}
use Rattle.std.specs.contracts.option.Option as option
use Rattle.layer_traits.specs.contracts.payloads.Ghost as ghost_of
use Rattle.layer_traits.specs.contracts.payloads.Ghost.TheInside as ghost_inside
use Rattle.table_machine.specs.contracts.views.Home as home
use Rattle.table_machine.specs.contracts.views.Slot as slot
use Rattle.table_machine.specs.contracts.views.Slot.TheInside as slot_inside
use Rattle.table_machine.specs.contracts.views.View as view
use Rattle.table_machine.specs.contracts.keys.Key as key
use Rattle.table_machine.specs.contracts.keys.Key.TheInside as key_inside
use Rattle.table_machine.specs.contracts.shared.Shared as shared
use Rattle.table_machine.specs.contracts.shared.Shared.TheInside as shared_inside
use Rattle.table_machine.specs.contracts.seats.Seat as seat
use Rattle.table_machine.specs.contracts.seats.Seat.TheInside as seat_inside
use Rattle.atomic_table.proofs.shared.Seat.TheSendSync as token_crosses
use Rattle.atomic_table.proofs.owned.Table.TheSendSync as table_crosses
use Rattle.event_log.proofs.ids.LockId.TheSendSync as lock_crosses
use Rattle.std.proofs.Crossing as heap

-- a value that exists only for clauses and has no bytes may move between threads, whatever it is
pub ghost_send : (T : RattleType) → IsSend (ghost_of.the_row T)
ghost_send T = view_send _ _ _ _ _ (declared_send (ghost_inside.the_type T) (search (sendable, crosses), tt))

home_send : (E B : RattleType) → IsSend B → IsSend (home.the_row E B)
home_send E B s = declared_send (home.the_type E B) (search (sendable, crosses) depth 9, (ghost_send (option.the_row E), tt))

pub slot_send : (E B : RattleType) → IsSend B → IsSend (slot.the_row E B)
slot_send E B s = view_send _ _ _ _ _ (declared_send (slot_inside.the_type E B) (home_send E B s, (search (sendable, crosses), tt)))

pub key_send : (E B O H A : RattleType) (g : _) → IsSend B → IsSend (key.the_row E B O H A g)
key_send E B O H A g s = view_send _ _ _ _ _ (declared_send (key_inside.the_type E B O H A g) (
  token_crosses.the_send (slot.the_row E B) (view.the_row E B) (slot_send E B s),
  (search (sendable, crosses), (search (sendable, crosses), tt)),
))

-- so threads may share a table
pub shared_sync : (E K B O H A : RattleType) (g : _) (k : _) → IsSend B → IsSync B → IsSync (shared.the_row E K B O H A g k)
shared_sync E K B O H A g k s y = view_sync _ _ _ _ _ (declared_sync (shared_inside.the_type E K B O H A g k) (
  search (table_crosses.the_sync, slot_send, heap.send, heap.sync, heap.frees),
  (
    search (sendable, heap.Vec-sync),
    (search (sendable, heap.Vec-sync, lock_crosses.the_sync), (search (sendable, heap.Vec-sync, lock_crosses.the_sync) depth 9, tt)),
  ),
))

-- and a seat at it may move between threads
pub seat_send : (a : NamedLft) (E K B O H A : RattleType) (g : _) (k : _) → IsSend B → IsSync B → IsSend (seat.the_row a E K B O H A g k)
seat_send a E K B O H A g k s y = view_send _ _ _ _ _ (declared_send (seat_inside.the_type a E K B O H A g k) (
  key_send E B O H A g s,
  (search (sendable, shared_sync) depth 9, tt),
))
