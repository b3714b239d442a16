-- The list of the blocks of all locks, and the list of the sections that were done, newest first.
use Rattle.std.specs.Prelude.{◌≡◌, ℕ, zero, suc, ◌-◌, true, false, List, [], ◌∷◌, length, map}
use Rattle.std.specs.Prelude.{reverse, Option}
use Rattle.event_log.specs.{declared.ids.LockId.LockId, History.{IsLawful, same_lock}}
use Rattle.event_log.specs.{Log.{events_in, room_of}, Sections.{Section, block_after}}
use Rattle.layer_traits.specs.Protocols.{OneLock.opened, Protocol.{IsKnown, Rules, section}}
use Rattle.plain_layers.specs.declared.lock_table.{LockTable.LockTable, Noted.Noted}

-- the section that was noted
abbrev pub section_noted : {E : Type 0} → Noted E → Section E
section_noted note = section note.cpu note.lock note.edit

-- the sections that were done, newest first
abbrev pub sections_noted : {E B O H A : Type 0} → LockTable E B O H A → List (Section E)
sections_noted m = map section_noted (reverse (events_in m.log))

-- the opening block of each lock
abbrev pub opening_in : {E B O H A : Type 0} → LockTable E B O H A → LockId → Option B
opening_in m = opened m.opening.value.items

-- how many more sections there is room for
abbrev pub room_in : {E B O H A : Type 0} → LockTable E B O H A → ℕ
room_in m = room_of m.log - length (events_in m.log)

-- the sections kept the protocol, and the list has the block of each lock that they leave
pub record IsTable {E B O : Type 0} (protocol : Rules E B O) (opening : LockId → Option B)
    (past : List (Section E)) (list : List (LockId × B)) : Type 0 where
  pub lawful : IsLawful (protocol.allowed opening) past
  pub known : IsLawful IsKnown past
  pub blocks : (lock : LockId) → opened list lock ≡ block_after protocol.edited opening lock past

-- the first entry of the list that names this lock is the one at this slot
abbrev pub IsSlot : {B : Type 0} → LockId → ℕ → List (LockId × B) → Type 0
IsSlot lock n [] = ⊥
IsSlot lock zero (o ∷ rest) = same_lock o.0 lock ≡ true
IsSlot lock (suc n) (o ∷ rest) = (same_lock o.0 lock ≡ false) × IsSlot lock n rest
