-- The stored block of one lock, in terms of a words log; the opening blocks as a list.
use Rattle.std.specs.Prelude.{◌≡◌, ℕ, false, List, [], ◌∷◌, Option, Some, None, MatchOption}
use Rattle.std.specs.Prelude.{if◌then◌else◌}
use Rattle.event_log.specs.declared.{ids.{CpuId.CpuId, LockId.LockId}, events.Event.Event}
use Rattle.event_log.specs.{History.same_lock, WordsLog.{lock_phase, Holding}, Sections.block_after}
use Rattle.layer_traits.specs.{declared.edits.Mark.Mark, Protocols.WordsProtocol.sections}

-- some CPU is inside this lock
abbrev pub SomeoneInside : {M : Type 0} → LockId → List (Event M) → Type 0
SomeoneInside lock log = (cpu : CpuId) × (ticket : ℕ) × (lock_phase cpu log ≡ Holding lock ticket)

-- no CPU is inside this lock
abbrev pub NoneInside : {M : Type 0} → LockId → List (Event M) → Type 0
NoneInside lock log = (cpu : CpuId) (ticket : ℕ) → lock_phase cpu log ≡ Holding lock ticket → ⊥

-- the machine's store for a lock's block is empty exactly while a CPU is inside; otherwise it has
-- the block that the sections leave
abbrev pub HomeFits : {E B : Type 0} → (E → B → B) → (LockId → Option B) → List (Event (Mark E))
    → LockId → Option B → Type 0
HomeFits edited opening log lock home =
    MatchOption home (SomeoneInside lock log)
    (λ block. NoneInside lock log × (block_after edited opening lock (sections log) ≡ Some block))

-- the opening block of a lock in a list of locks with their blocks; None if the lock is not in the
-- list
abbrev pub opened : {B : Type 0} → List (LockId × B) → LockId → Option B
opened [] lock = None
opened (o ∷ rest) lock = if same_lock o.0 lock then Some o.1 else opened rest lock

-- the lock is not in the list
abbrev pub IsMissing : {B : Type 0} → LockId → List (LockId × B) → Type 0
IsMissing lock [] = Unit {0}
IsMissing lock (o ∷ rest) = (same_lock lock o.0 ≡ false) × IsMissing lock rest

-- no lock occurs twice in the list
abbrev pub AreDistinct : {B : Type 0} → List (LockId × B) → Type 0
AreDistinct [] = Unit {0}
AreDistinct (o ∷ rest) = IsMissing o.0 rest × AreDistinct rest
